-- What the rows of the first step calls come to, by the word that they meet.
use Rattle.std.proofs.Common.{◌≡◌, inl, inr, ℕ, Option, Some, None, Bool, true, false, eqb, refl}
use Rattle.std.proofs.Common.{sym, ap, ◌∙◌, subst, ◌||◌, if◌then◌else◌, ◌&&◌, not, is_some}
use Rattle.lk_domain.proofs.Names.{cases_Bool, Fields, Layout, NodeName, Spins, Mode, Cna, Native}
use Rattle.lk_domain.proofs.Names.{Pv, Virt, is_node, node_of, Effect, Lead, target, Flag, Frame}
use Rattle.lk_domain.proofs.Names.{Pc, C1, C2, C3, C5, C7, C8, C10, F1, G1, G2, G3, G4, G5, G6, G7}
use Rattle.lk_domain.proofs.Names.{G8, G9, G10, G11, N1, N2, P0, P1, P2, P3, P4, R4, T1, T2, U1, V1}
use Rattle.lk_domain.proofs.Names.{V2, W1, Wr2, Verb, Lock, Read, Try, Unlock, Write, Sight}
use Rattle.lk_domain.proofs.Names.{search_on, is_sole, is_free, is_unlocked, is_slow, Flagged}
use Rattle.lk_domain.proofs.Names.{Linked, Met, Named, Number, Word, IsThen, led, Grip, Outlook}
use Rattle.lk_domain.proofs.Names.{Takes, Unchanged, course, grip_led, grip_of, sight_by}
use Rattle.lk_domain.proofs.Names.{looks_behind, arrives_by, claims_by, clears_by, frees_by}
use Rattle.lk_domain.proofs.Names.{is_patient, is_take, is_watch, looks_by, pends_by, promotes_by}
use Rattle.lk_domain.proofs.Names.{queues_up, soles_by, stakes_by, takes_by}
use Rattle.lk_word.specs.SpinWord.{packed}
use Rattle.lk_rows.specs.declared.parts.Pc.TheVariants.{E1}
use Rattle.lk_rows.specs.rows.Cna.{is_last, may_stay, search_first}
use Rattle.lk_rows.specs.rows.Queue.{own_node, after_entry, after_arrival, after_look, after_head}
use Rattle.lk_rows.specs.{rows.Queue.after_link, rows.Spin.{after_fast, after_pending, to_queue}}
use Rattle.lk_domain.proofs.words.Numbers.{free_test}
use Rattle.lk_domain.specs.{Plans.turns_by, Rows.{is_swap, take_holds, is_look, looks_on, takes_on}}
use Rattle.lk_domain.specs.Rows as kind

-- The frame of a call that takes a lock goes on, in the slow path or outside it, or the call is over.
abbrev pub Comes : Bool → Bool → Option Pc → Type 0
Comes true slow q = (c : Pc) × (q ≡ Some c) × (is_slow (Some c) ≡ slow)
Comes false slow q = (q ≡ None) × (slow ≡ false)

-- a call has taken its lock, or not
abbrev pub grip_if : Bool → Grip
grip_if true = Takes Spins
grip_if false = Unchanged

-- The row of a call that met this, by whether it goes on, in the slow path, and whether it takes its
-- lock; with its wait lock it does not have that yet.
pub record Outcome (mode : Mode) (p : ℕ) (z : Outlook) (c : Pc) (f : Frame) (x : Met)
    (waits slow taken : Bool) : Type 0 where
  pub place : Comes waits slow (led f (course mode p z c f x).leads).place
  pub grip : f.lock.wait ≡ false → grip_of (target c f) (course mode p z c f x) ≡ grip_if taken
  pub none : f.lock.wait ≡ true → taken ≡ false

-- one of two rows
pub either : (b : Bool) (c d : Pc) (slow : Bool) → is_slow (Some c) ≡ slow → is_slow (Some d) ≡ slow
    → is_slow (Some (if b then c else d)) ≡ slow
either true c d slow h k = h
either false c d slow h k = k

pub queue_fast : (y : Fields) → is_slow (Some (to_queue y)) ≡ false
queue_fast y = either y.pending _ _ false refl (either (is_some y.tail) _ _ false refl refl)

pub fast_slow : (mode : Mode) (y : Fields) → is_slow (Some (after_fast mode y)) ≡ false
fast_slow mode y = by mode
  where
    by : (mode : Mode) → is_slow (Some (after_fast mode y)) ≡ false
    by Virt = refl
    by Pv = refl
    by Native = either (is_unlocked y.locked && y.pending && not (is_some y.tail)) _ _ false refl (queue_fast y)
    by Cna = either (is_unlocked y.locked && y.pending && not (is_some y.tail)) _ _ false refl (queue_fast y)

pub pending_fast : (y : Fields) → is_slow (Some (after_pending y)) ≡ false
pending_fast y =
    either y.pending _ _ false refl
    (either (is_some y.tail) _ _ false refl (either (is_unlocked y.locked) _ _ false refl refl))

pub look_slow : (f : Frame) (y : Fields) → is_slow (Some (after_look f y)) ≡ true
look_slow f y =
    either (is_unlocked y.locked && not y.pending) _ _ true
    (either (is_node y.tail (node_of f.me) && not (is_some f.second)) _ _ true refl refl) refl

head_slow : (mode : Mode) → is_slow (Some (after_head mode)) ≡ true
head_slow Virt = refl
head_slow Native = refl
head_slow Cna = refl
head_slow Pv = refl

entry_slow : (mode : Mode) (me : Option NodeName) → is_slow (Some (after_entry mode me)) ≡ true
entry_slow Virt None = refl
entry_slow Virt (Some n) = refl
entry_slow Native None = refl
entry_slow Native (Some n) = refl
entry_slow Cna None = refl
entry_slow Cna (Some n) = refl
entry_slow Pv me = refl

-- a look or a store leads on
abbrev Leads : Frame → Bool → Lead → Type 0
Leads f slow lead = Comes true slow (led f lead).place × (grip_led lead ≡ Unchanged)

arrival_slow : (mode : Mode) (f : Frame) (t : Option NodeName) → Leads f true (after_arrival mode t).leads
arrival_slow Virt f None = ((G7, refl, refl), refl)
arrival_slow Native f None = ((G7, refl, refl), refl)
arrival_slow Cna f None = ((G7, refl, refl), refl)
arrival_slow Pv f None = ((E1, refl, refl), refl)
arrival_slow Virt f (Some n) = ((G5, refl, refl), refl)
arrival_slow Native f (Some n) = ((G5, refl, refl), refl)
arrival_slow Cna f (Some n) = ((G5, refl, refl), refl)
arrival_slow Pv f (Some n) = ((G5, refl, refl), refl)

link_slow : (mode : Mode) (turns : ℕ) (f : Frame) → Leads f true (after_link mode turns)
link_slow Virt turns f = ((G6, refl, refl), refl)
link_slow Native turns f = ((G6, refl, refl), refl)
link_slow Cna turns f = ((G6, refl, refl), refl)
link_slow Pv turns f = ((W1, refl, refl), refl)

-- tests

pub or_true : (b : Bool) → (b || true) ≡ true
or_true true = refl
or_true false = refl

pub or_false : (b : Bool) → (b || false) ≡ b
or_false true = refl
or_false false = refl

and_true : (b : Bool) → (b && true) ≡ b
and_true true = refl
and_true false = refl

and_false : (b : Bool) → (b && false) ≡ false
and_false true = refl
and_false false = refl

free_on : (v : Verb) → takes_on v true ≡ queues_up v
free_on Lock = refl
free_on Read = refl
free_on Write = refl
free_on _ = refl

held_on : (v : Verb) → takes_on v false ≡ is_patient v
held_on Lock = refl
held_on Read = refl
held_on Write = refl
held_on _ = refl

module _ (f : Frame) (w : Bool) (wait : f.lock.wait ≡ w) (after : f.lock.wait ≡ true → IsThen f.then) where
  -- where the call goes that has its lock: one that has its wait lock goes on at a row of its own
  onward : Comes w false (if f.lock.wait then f.then else None)
  onward = by w wait
    where
      by : (b : Bool) → f.lock.wait ≡ b → Comes b false (if f.lock.wait then f.then else None)
      by true e = rw e (elim (after e) [ inl h ↦ rw h (R4, refl, refl) | inr h ↦ rw h (Wr2, refl, refl) ])
      by false e = rw e (refl, refl)

-- a look along the links goes on in the queue, and takes nothing
record GoesOn (f : Frame) (o : Effect (Option NodeName)) : Type 0 where
  place : Comes true true (led f o.leads).place
  grip : grip_led o.leads ≡ Unchanged

either_on : (f : Frame) (b : Bool) (x y : Effect (Option NodeName)) → GoesOn f x → GoesOn f y → GoesOn f (if b then x else y)
either_on f true x y h k = h
either_on f false x y h k = k

first_on : (f : Frame) (s : Sight) (second x : Option NodeName) → GoesOn f (search_first s second x)
first_on f s None None = record { place = (C1, refl, refl); grip = refl }
first_on f s (Some m) None = record { place = (C3, refl, refl); grip = refl }
first_on f s None (Some n) =
    either_on f (may_stay s) _ _
    (either_on f (s.local n) _ _ (record { place = (C7, refl, refl); grip = refl }) (record { place = (C2, refl, refl); grip = refl }))
    (record { place = (C7, refl, refl); grip = refl })
first_on f s (Some m) (Some n) =
    either_on f (may_stay s) _ _
    (either_on f (s.local n) _ _ (record { place = (C7, refl, refl); grip = refl }) (record { place = (C2, refl, refl); grip = refl }))
    (record { place = (C3, refl, refl); grip = refl })

more_on : (f : Frame) (s : Sight) (x : Option NodeName) → GoesOn f (search_on s f x)
more_on f s None =
    either_on f (is_some f.second) _ _ (record { place = (C3, refl, refl); grip = refl }) (record { place = (C7, refl, refl); grip = refl })
more_on f s (Some n) =
    either_on f (s.local n) _ _
    (either_on f (is_some f.second) _ _ (record { place = (C3, refl, refl); grip = refl }) (record { place = (C5, refl, refl); grip = refl }))
    (record { place = (C2, refl, refl); grip = refl })

module _ (mode : Mode) (p : ℕ) {z : Outlook} (f : Frame) (w : Bool) (wait : f.lock.wait ≡ w)
    (after : f.lock.wait ≡ true → IsThen f.then) where
  -- a row that takes the lock, and one that does not
  gains : (c : Pc) (x : Met) → Comes w false (led f (course mode p z c f x).leads).place
      → grip_of (target c f) (course mode p z c f x) ≡ Takes Spins → Outcome mode p z c f x w false (not w)
  gains c x place grip =
      record {
        place = place;
        grip = λ e. grip ∙ ap (λ b. grip_if (not b)) (sym e ∙ wait);
        none = λ e. ap not (sym wait ∙ e);
      }

  goes : (c : Pc) (x : Met) (waits slow : Bool) → Comes waits slow (led f (course mode p z c f x).leads).place
      → grip_of (target c f) (course mode p z c f x) ≡ Unchanged → Outcome mode p z c f x waits slow false
  goes c x waits slow place grip = record { place = place; grip = λ _. grip; none = λ _. refl }

  -- on the words of nodes

  pub entered : (i : ℕ) → Outcome mode p z G1 f (Number i) true true false
  entered i = goes G1 (Number i) true true (after_entry mode (own_node p i), refl, entry_slow mode (own_node p i)) refl

  pub linked : (x : Option NodeName) → Outcome mode p z G5 f (Named x) true true false
  linked x = let y' = link_slow mode (turns_by mode z.threshold) f in goes G5 (Named x) true true y'.0 y'.1

  pub behind : (c : Pc) → looks_behind c ≡ true → (x : Option NodeName) (i : Bool) → Outcome mode p z c f (Linked x i) true true false
  behind G10 h None i = goes G10 (Linked None i) true true (G10, refl, refl) refl
  behind G10 h (Some n) i = goes G10 (Linked (Some n) i) true true (G11, refl, refl) refl
  behind C1 h x i = let y' = first_on f (sight_by z (Linked x i)) f.second x in goes C1 (Linked x i) true true y'.place y'.grip
  behind _ h x i = cc h

  pub skipped : (x : Option NodeName) (i : Bool) → Outcome mode p z C2 f (Linked x i) true true false
  skipped x i = let y' = more_on f (sight_by z (Linked x i)) x in goes C2 (Linked x i) true true y'.place y'.grip

  pub handed : (x : Flag) → Outcome mode p z G11 f (Flagged x) w false (not w)
  handed x = gains G11 (Flagged x) (onward f w wait after) refl

  pub chosen : (x : Flag) → Outcome mode p z C8 f (Flagged x) w false (not w)
  chosen x = gains C8 (Flagged x) (onward f w wait after) refl

  module _ (y : Fields) where
    -- a call that goes on until it has the lock does so after a look
    watched : (c : Pc) → is_watch c ≡ true → Outcome mode p z c f (Word y) true (is_slow (Some c)) false
    watched V1 h = goes V1 (Word y) true false ((if is_free y then V2 else V1), refl, either (is_free y) V2 V1 false refl refl) refl
    watched P0 h = goes P0 (Word y) true false (to_queue y, refl, queue_fast y) refl
    watched P3 h = goes P3 (Word y) true false ((if is_unlocked y.locked then P4 else P3), refl, either (is_unlocked y.locked) P4 P3 false refl refl) refl
    watched G2 h = goes G2 (Word y) true true ((if is_free y then G3 else G4), refl, either (is_free y) G3 G4 true refl refl) refl
    watched G7 h = goes G7 (Word y) true true (after_look f y, refl, look_slow f y) refl
    watched N1 h = goes N1 (Word y) true true ((if is_free y then N2 else N1), refl, either (is_free y) N2 N1 true refl refl) refl
    watched _ h = cc h

    -- a free word, and another
    pub looks_free : (v : Verb) (c : Pc) → looks_by v c ≡ true → is_free y ≡ true
        → Outcome mode p z c f (Word y) true (is_slow (Some c)) false
    looks_free Try T1 h e = goes T1 (Word y) true false (rw e (T2, refl, refl)) (rw e refl)
    looks_free Lock c h e = watched c h
    looks_free Read c h e = watched c h
    looks_free Write c h e = watched c h
    looks_free _ _ h e = cc h

    pub looks_held : (v : Verb) (c : Pc) → looks_by v c ≡ true → is_free y ≡ false
        → Outcome mode p z c f (Word y) (is_patient v) (is_slow (Some c)) false
    looks_held Try T1 h e = goes T1 (Word y) false false (rw e (refl, refl)) (rw e refl)
    looks_held Lock c h e = watched c h
    looks_held Read c h e = watched c h
    looks_held Write c h e = watched c h
    looks_held _ _ h e = cc h

    swaps_free : (c : Pc) → is_swap c ≡ true → is_free y ≡ true → Outcome mode p z c f (Word y) w false (not w)
    swaps_free F1 h e = gains F1 (Word y) (rw e (onward f w wait after)) (rw e refl)
    swaps_free V2 h e = gains V2 (Word y) (rw e (onward f w wait after)) (rw e refl)
    swaps_free G3 h e = gains G3 (Word y) (rw e (onward f w wait after)) (rw e refl)
    swaps_free N2 h e = gains N2 (Word y) (rw e (onward f w wait after)) (rw e refl)
    swaps_free _ h e = cc h

    pub takes_free : (v : Verb) (c : Pc) → takes_by v c ≡ true → is_free y ≡ true
        → Outcome mode p z c f (Word y) w false (not w)
    takes_free Try T2 h e = gains T2 (Word y) (rw e (onward f w wait after)) (rw e refl)
    takes_free Lock c h e = swaps_free c h e
    takes_free Read c h e = swaps_free c h e
    takes_free Write c h e = swaps_free c h e
    takes_free _ _ h e = cc h

    swaps_held : (c : Pc) → is_swap c ≡ true → is_free y ≡ false → Outcome mode p z c f (Word y) true (is_slow (Some c)) false
    swaps_held F1 h e = goes F1 (Word y) true false (rw e (after_fast mode y, refl, fast_slow mode y)) (rw e refl)
    swaps_held V2 h e = goes V2 (Word y) true false (rw e (V1, refl, refl)) (rw e refl)
    swaps_held G3 h e = goes G3 (Word y) true true (rw e (G4, refl, refl)) (rw e refl)
    swaps_held N2 h e = goes N2 (Word y) true true (rw e (N1, refl, refl)) (rw e refl)
    swaps_held _ h e = cc h

    pub takes_held : (v : Verb) (c : Pc) → takes_by v c ≡ true → is_free y ≡ false
        → Outcome mode p z c f (Word y) (is_patient v) (is_slow (Some c)) false
    takes_held Try T2 h e = goes T2 (Word y) false false (rw e (refl, refl)) (rw e refl)
    takes_held Lock c h e = swaps_held c h e
    takes_held Read c h e = swaps_held c h e
    takes_held Write c h e = swaps_held c h e
    takes_held _ _ h e = cc h

    -- by the number of the word

    pub looked : (layout : Layout) (v : Verb) (c : Pc) (met : ℕ) → looks_by v c ≡ true → met ≡ packed layout y
        → Outcome mode p z c f (Word y) (looks_on v (eqb met 0)) (is_slow (Some c)) false
    looked layout v c met h is =
        let test : eqb met 0 ≡ is_free y = ap (λ (n : ℕ). eqb n 0) is ∙ free_test layout y in
        elim (cases_Bool (is_free y)) [
          | inl e ↦ subst (λ b. Outcome mode p z c f (Word y) b (is_slow (Some c)) false)
              (sym (ap (looks_on v) (test ∙ e) ∙ or_true (is_patient v))) (looks_free v c h e)
          | inr e ↦ subst (λ b. Outcome mode p z c f (Word y) b (is_slow (Some c)) false)
              (sym (ap (looks_on v) (test ∙ e) ∙ or_false (is_patient v))) (looks_held v c h e)
        ]

    pub took : (layout : Layout) (v : Verb) (c : Pc) (met : ℕ) → w ≡ queues_up v → takes_by v c ≡ true → met ≡ packed layout y
        → Outcome mode p z c f (Word y) (takes_on v (eqb met 0)) (is_slow (Some c) && not (eqb met 0)) (take_holds v (eqb met 0))
    took layout v c met own h is =
        let test : eqb met 0 ≡ is_free y = ap (λ (n : ℕ). eqb n 0) is ∙ free_test layout y in
        elim (cases_Bool (is_free y)) [
          | inl e ↦ subst (λ b. Outcome mode p z c f (Word y) (takes_on v b) (is_slow (Some c) && not b) (take_holds v b)) (sym (test ∙ e))
              (subst (λ b. Outcome mode p z c f (Word y) b (is_slow (Some c) && false) (take_holds v true)) (own ∙ sym (free_on v))
              (subst (λ b. Outcome mode p z c f (Word y) w b (take_holds v true)) (sym (and_false (is_slow (Some c))))
              (subst (λ b. Outcome mode p z c f (Word y) w false b) (ap not own ∙ sym (and_true (not (queues_up v)))) (takes_free v c h e))))
          | inr e ↦ subst (λ b. Outcome mode p z c f (Word y) (takes_on v b) (is_slow (Some c) && not b) (take_holds v b)) (sym (test ∙ e))
              (subst (λ b. Outcome mode p z c f (Word y) b (is_slow (Some c) && true) (take_holds v false)) (sym (held_on v))
              (subst (λ b. Outcome mode p z c f (Word y) (is_patient v) b (take_holds v false)) (sym (and_true (is_slow (Some c))))
              (subst (λ b. Outcome mode p z c f (Word y) (is_patient v) (is_slow (Some c)) b) (sym (and_false (not (queues_up v)))) (takes_held v c h e))))
        ]

    -- the pending path

    pub pended : Outcome mode p z P1 f (Word y) true false false
    pended = goes P1 (Word y) true false (after_pending y, refl, pending_fast y) refl

    pub cleared : Outcome mode p z P2 f (Word y) true false false
    cleared = goes P2 (Word y) true false (G1, refl, refl) refl

    pub claimed : Outcome mode p z P4 f (Word y) w false (not w)
    claimed = gains P4 (Word y) (onward f w wait after) refl

    -- the queue

    pub arrived : Outcome mode p z G4 f (Word y) true true false
    arrived = let y' = arrival_slow mode f y.tail in goes G4 (Word y) true true y'.0 y'.1

    pub staked : Outcome mode p z G9 f (Word y) true true false
    staked = goes G9 (Word y) true true (after_head mode, refl, head_slow mode) refl

    pub promoted : (b : Bool) → is_last f y ≡ b → Outcome mode p z C10 f (Word y) true true false
    promoted true e = goes C10 (Word y) true true (rw e (C7, refl, refl)) (rw e refl)
    promoted false e = goes C10 (Word y) true true (rw e (C1, refl, refl)) (rw e refl)

    pub soled : (b : Bool) → is_sole f y ≡ b → Outcome mode p z G8 f (Word y) (w || not b) (not b) (not w && b)
    soled true e =
        subst (λ a. Outcome mode p z G8 f (Word y) a false (not w && true)) (sym (or_false w))
        (subst (λ a. Outcome mode p z G8 f (Word y) w false a) (sym (and_true (not w))) (gains G8 (Word y) (rw e (onward f w wait after)) (rw e refl)))
    soled false e =
        subst (λ a. Outcome mode p z G8 f (Word y) a true (not w && false)) (sym (or_true w))
        (subst (λ a. Outcome mode p z G8 f (Word y) true true a) (sym (and_false (not w))) (goes G8 (Word y) true true (rw e (G9, refl, refl)) (rw e refl)))

    -- the release of a wait lock ends the call
    pub freed : w ≡ true → Outcome mode p z U1 f (Word y) false false false
    freed e = record {
      place = (refl, refl);
      grip = λ plain. absurd (let z : true ≡ false = sym (wait ∙ e) ∙ plain in cc z);
      none = λ _. refl;
    }

-- a step call's kind is one of the seat's
watch_kind : (c : Pc) → is_watch c ≡ true → is_look c ≡ true
watch_kind V1 h = refl
watch_kind P0 h = refl
watch_kind P3 h = refl
watch_kind G2 h = refl
watch_kind G7 h = refl
watch_kind N1 h = refl
watch_kind _ h = cc h

pub look_kind : (v : Verb) (c : Pc) → looks_by v c ≡ true → is_look c ≡ true
look_kind Lock c h = watch_kind c h
look_kind Read c h = watch_kind c h
look_kind Write c h = watch_kind c h
look_kind Try T1 h = refl
look_kind _ _ h = cc h

swap_kind : (c : Pc) → is_swap c ≡ true → is_take c ≡ true
swap_kind F1 h = refl
swap_kind V2 h = refl
swap_kind G3 h = refl
swap_kind N2 h = refl
swap_kind _ h = cc h

pub take_kind : (v : Verb) (c : Pc) → takes_by v c ≡ true → is_take c ≡ true
take_kind Lock c h = swap_kind c h
take_kind Read c h = swap_kind c h
take_kind Write c h = swap_kind c h
take_kind Try T2 h = refl
take_kind _ _ h = cc h

pub free_kind : (v : Verb) (c : Pc) → frees_by v c ≡ true → (kind.is_free c ≡ true) × (U1 ≡ c)
free_kind Unlock U1 h = (refl, refl)
free_kind Read U1 h = (refl, refl)
free_kind Write U1 h = (refl, refl)
free_kind _ _ h = cc h

-- the one row of such a kind, as one of `lock`, by an operation that goes on until it has the lock

pub pend_kind : (v : Verb) (c : Pc) → pends_by v c ≡ true → (pends_by Lock c ≡ true) × (is_patient v ≡ true) × (P1 ≡ c)
pend_kind v P1 h = (refl, h, refl)
pend_kind v _ h = cc h

pub clear_kind : (v : Verb) (c : Pc) → clears_by v c ≡ true → (clears_by Lock c ≡ true) × (is_patient v ≡ true) × (P2 ≡ c)
clear_kind v P2 h = (refl, h, refl)
clear_kind v _ h = cc h

pub claim_kind : (v : Verb) (c : Pc) → claims_by v c ≡ true → (claims_by Lock c ≡ true) × (is_patient v ≡ true) × (P4 ≡ c)
claim_kind v P4 h = (refl, h, refl)
claim_kind v _ h = cc h

pub arrive_kind : (v : Verb) (c : Pc) → arrives_by v c ≡ true → (arrives_by Lock c ≡ true) × (is_patient v ≡ true) × (G4 ≡ c)
arrive_kind v G4 h = (refl, h, refl)
arrive_kind v _ h = cc h

pub sole_kind : (v : Verb) (c : Pc) → soles_by v c ≡ true → (soles_by Lock c ≡ true) × (is_patient v ≡ true) × (G8 ≡ c)
sole_kind v G8 h = (refl, h, refl)
sole_kind v _ h = cc h

pub promote_kind : (v : Verb) (c : Pc) → promotes_by v c ≡ true → (promotes_by Lock c ≡ true) × (is_patient v ≡ true) × (C10 ≡ c)
promote_kind v C10 h = (refl, h, refl)
promote_kind v _ h = cc h

pub stake_kind : (v : Verb) (c : Pc) → stakes_by v c ≡ true → (stakes_by Lock c ≡ true) × (is_patient v ≡ true) × (G9 ≡ c)
stake_kind v G9 h = (refl, h, refl)
stake_kind v _ h = cc h
