-- What a row makes of a world, as far as the laws of progress read it: its words, flags and kicks are those
-- of its store, and its frame goes where it leads, or on to the next operation.
use Rattle.std.proofs.Common.{◌≡◌, ◌≢◌, ◌⊎◌, inl, inr, ℕ, Option, Some, None, Bool, true, false}
use Rattle.std.proofs.Common.{sym, ap, ◌∙◌, subst}
use Rattle.lk_waits.proofs.Names.{Fields, NodeName, same_waiter, LockName, Waiter, Goes, Lead}
use Rattle.lk_waits.proofs.Names.{ChoiceFlag, ChoiceNext, ChoiceWord, FlagOf, Halted, HashEntry}
use Rattle.lk_waits.proofs.Names.{KickOf, NextOf, PvFlag, PvNext, PvWord, QueueWord, Queued, RunsOf}
use Rattle.lk_waits.proofs.Names.{RwWord, SecondTailOf, SpinWord, StateOf, Target, target, Frame}
use Rattle.lk_waits.proofs.Names.{Pc, is_set, if-false, if-true, same_waiter-else, same_waiter-self}
use Rattle.lk_waits.proofs.Names.{row_is_done, course_in, stored_in, led, row_in, World}
use Rattle.lk_rows.specs.{Acts.after_halt, Machine.rest_node}
use Rattle.lk_rows.specs.Row.{Enters, Granted, Freed, Missed, Done, TakesWait, Leaves, Yields}
use Rattle.lk_rows.specs.declared.parts.Node.{Node}
use Rattle.lk_law.proofs.{common.Cases.node_cases, common.Puts.{same_node-self, same_node-else}}
use Rattle.lk_law.proofs.running.Leads.{row_is_led}
use Rattle.lk_law.specs.{Leads.{Course, RowDone, course_on}, Snapshot.same_node}
use Rattle.lk_law.specs.Steps.{Made, lead_on, reset}
use Rattle.lk_waits.proofs.Quiet.{IsQuietFrame, ChangesQuietly, placeless_quiet}

-- the frame of w after its row at c
abbrev pub next_frame : World → Waiter → Frame → Pc → Frame
next_frame m w f c = led f (course_in m w f c (target c f)).leads

-- b is a after the row at c of the frame f of w
pub record Changed (a b : World) (w : Waiter) (f : Frame) (c : Pc) : Type 0 where
  pub words : (l : LockName) → b.word l ≡ (stored_in a w f c (target c f)).word l
  pub kicked : (p : ℕ) → b.kicked p ≡ (stored_in a w f c (target c f)).kicked p
  pub flags : (n : NodeName)
      → is_set (b.node n).flag ≡ true
      → is_set ((stored_in a w f c (target c f)).node n).flag ≡ true
  pub others : (u : Waiter) → u ≢ w → b.frame u ≡ a.frame u
  pub goes : (b.frame w ≡ Some (next_frame a w f c))
      ⊎ (((next_frame a w f c).place ≡ None) × ((g : Frame) → b.frame w ≡ Some g → IsQuietFrame g))

-- b is a after the end of the halt of w, whose frame is f
pub record Roused (a b : World) (w : Waiter) (f : Frame) : Type 0 where
  pub words : (l : LockName) → b.word l ≡ a.word l
  pub kicked : (p : ℕ) → p ≢ w.cpu → b.kicked p ≡ a.kicked p
  pub flags : (n : NodeName) → is_set (b.node n).flag ≡ true → is_set (a.node n).flag ≡ true
  pub others : (u : Waiter) → u ≢ w → b.frame u ≡ a.frame u
  pub here : b.frame w ≡ Some (record f { place = after_halt f.place })

-- the world that a row leaves is changed quietly into such a world
pub quietly_of : (a b : World) (w : Waiter) (f : Frame) (c : Pc) → Changed a b w f c
    → ChangesQuietly (row_in a w f c).0 b w
quietly_of a b w f c ch =
    record {
      words = λ l. ch.words l ∙ ap (λ (v : LockName → Fields). v l) (sym done.word);
      others = λ u ne. ch.others u ne ∙ sym (there u ne);
      either = elim ch.goes [
        | inl e ↦ inl (e ∙ sym here)
        | inr q ↦ inr (
          q.1,
          λ g e. (let z : Some (next_frame a w f c) ≡ Some g = sym here ∙ e in
              let y : next_frame a w f c ≡ g = cc z in
              placeless_quiet g (ap (λ (h : Frame). h.place) (sym y) ∙ q.0)),
        )
      ];
    }
  where
    done : RowDone a (row_in a w f c).0 w f c (target c f) (course_in a w f c (target c f))
    done = row_is_done a w f c (target c f)

    here : (row_in a w f c).0.frame w ≡ Some (next_frame a w f c)
    here = done.frame w ∙ if-true (same_waiter w w) (Some (next_frame a w f c)) (a.frame w) (same_waiter-self w)

    there : (u : Waiter) → u ≢ w → (row_in a w f c).0.frame u ≡ a.frame u
    there u ne = done.frame u ∙ if-false (same_waiter u w) (Some (next_frame a w f c)) (a.frame u) (same_waiter-else u w ne)

-- the world that a row leaves is such a world: a node that it resets has no flag
module _ (m : World) (w : Waiter) (f : Frame) where
  flags_reset : (x : World) (o : Option NodeName) (n : NodeName) → is_set ((reset x o).node n).flag ≡ true → is_set (x.node n).flag ≡ true
  flags_reset x None n h = h
  flags_reset x (Some k) n h = elim (node_cases n k) [
    | inl e ↦ absurd (let z : (reset x (Some k)).node n ≡ rest_node =
        if-true (same_node n k) rest_node (x.node n) (subst (λ (i : NodeName). same_node n i ≡ true) e (same_node-self n)) in
        let y : is_set ((reset x (Some k)).node n).flag ≡ false = ap (λ (q : Node). is_set q.flag) z in cc (y, h))
    | inr ne ↦
        ap (λ (q : Node). is_set q.flag) (sym (if-false (same_node n k) rest_node (x.node n) (same_node-else n k ne))) ∙ h
  ]

  flags_led : (x : World) (lead : Lead) (n : NodeName) → is_set ((lead_on x w f lead).node n).flag ≡ true → is_set (x.node n).flag ≡ true
  flags_led x (Goes c cs) n h = h
  flags_led x (Enters me c) n h = flags_reset x me n h
  flags_led x Granted n h = h
  flags_led x Freed n h = h
  flags_led x Missed n h = h
  flags_led x Done n h = h
  flags_led x (TakesWait c) n h = h
  flags_led x Leaves n h = h
  flags_led x (Yields c cs) n h = h

  flags_course : (x : World) (t : Target) (o : Course) (n : NodeName) → is_set ((course_on x w f t o).node n).flag ≡ true
      → is_set (x.node n).flag ≡ true
  flags_course x RwWord o n h = h
  flags_course x SpinWord o n h = flags_led x o.leads n h
  flags_course x QueueWord o n h = flags_led x o.leads n h
  flags_course x Queued o n h = flags_led x o.leads n h
  flags_course x (FlagOf k) o n h = flags_led x o.leads n h
  flags_course x (NextOf k) o n h = flags_led x o.leads n h
  flags_course x ChoiceWord o n h = flags_led x o.leads n h
  flags_course x (ChoiceFlag k) o n h = flags_led x o.leads n h
  flags_course x (ChoiceNext k) o n h = flags_led x o.leads n h
  flags_course x (SecondTailOf k) o n h = flags_led x o.leads n h
  flags_course x (RunsOf k) o n h = flags_led x o.leads n h
  flags_course x PvWord o n h = flags_led x o.leads n h
  flags_course x (PvFlag k) o n h = flags_led x o.leads n h
  flags_course x (PvNext k) o n h = flags_led x o.leads n h
  flags_course x (StateOf k) o n h = flags_led x o.leads n h
  flags_course x HashEntry o n h = flags_led x o.leads n h
  flags_course x Halted o n h = flags_led x o.leads n h
  flags_course x (KickOf q) o n h = flags_led x o.leads n h

  pub row_changed : (c : Pc) → Changed m (row_in m w f c).0 w f c
  row_changed c =
      record {
        words = λ l. ap (λ (v : LockName → Fields). v l) done.word;
        kicked = λ p. ap (λ (v : ℕ → Bool). v p) done.kicked;
        flags = λ n h. flags_course (stored_in m w f c (target c f)) (target c f) (course_in m w f c (target c f)) n
            (ap (λ (x : Made). is_set (x.0.node n).flag) (sym (row_is_led m w f c (target c f))) ∙ h);
        others = λ u ne. done.frame u ∙ if-false (same_waiter u w) (Some (next_frame m w f c)) (m.frame u) (same_waiter-else u w ne);
        goes = inl (done.frame w ∙ if-true (same_waiter w w) (Some (next_frame m w f c)) (m.frame w) (same_waiter-self w));
      }
    where
      done : RowDone m (row_in m w f c).0 w f c (target c f) (course_in m w f c (target c f))
      done = row_is_done m w f c (target c f)
