-- The top frame goes where its row leads, or begins its next operation: what the machine shows of
-- halts and kicks is what the world after the row shows.
use Rattle.std.proofs.Common.{◌≡◌, ℕ, Option, Some, None, Bool, true, false, List, inl, inr, ap}
use Rattle.std.proofs.Common.{◌+◌, ◌-◌, refl, sym, ◌∙◌, subst, slice_get, if◌then◌else◌, ◌==◌}
use Rattle.lk_core.proofs.Names.{cases_Bool, none-some, same_Some, same_waiter, Event, Manner}
use Rattle.lk_core.proofs.Names.{LockName, Mode, Cna, Native, Pv, Virt, Waiter, HasTop, Machine}
use Rattle.lk_core.proofs.Names.{rest_node, top_of, first_place, granted, node_of, program_of}
use Rattle.lk_core.proofs.Names.{settled, settled_at, skipped, started, waiting, Done, Enters}
use Rattle.lk_core.proofs.Names.{Freed, Goes, Granted, Lead, Leaves, Missed, TakesWait, Yields}
use Rattle.lk_core.proofs.Names.{entered, gone, moved, Frame, Pc, U5, Op, Verb, Lock, RUnlock, Read}
use Rattle.lk_core.proofs.Names.{Try, TryRead, TryWrite, Unlock, WUnlock, Write, ShowsKicks, world}
use Rattle.lk_core.proofs.Names.{lead_on, led, put_frame, put_held, put_queued, World}
use Rattle.lk_rows.specs.Machine.{frame_at, queued_at, set_top, set_node}
use Rattle.lk_law.specs.{Kicked.{Rests, Owes}, Places.{post_of, post_if}, Pv.at_halt}
use Rattle.lk_core.proofs.Leads.{granted_led}
use Rattle.lk_core.proofs.LeadsOut.{left, left_same, left_world, left_ready, leave_is, rewritten}
use Rattle.lk_core.proofs.{LeadsOut.{done_is, missed_is}, Moved.Ready}
use Rattle.lk_core.proofs.Same.{top_same, has_top_same, same_set_node}
use Rattle.lk_core.proofs.Seated.{seated, world-set_top, world-pop}
use Rattle.lk_core.proofs.Worlds.{frame-set_node, halted-set_node, kicked-set_node}

-- the frame has halted its processor, or is about to
abbrev pub asleep_in : Option Frame → Bool
asleep_in None = false
asleep_in (Some f) = at_halt (post_of f)

-- the processor to which a frame owes a kick
abbrev pub owed_at : Option Pc → Frame → Option ℕ
owed_at (Some U5) f = Some (node_of f.target).cpu
owed_at _ f = None

abbrev pub owed_in : Option Frame → Option ℕ
owed_in None = None
owed_in (Some f) = owed_at f.place f

-- two worlds show the same halts and kicks
pub record SameKicks (a b : World) : Type 0 where
  pub halted : (p : ℕ) → b.halted p ≡ a.halted p
  pub kicked : (p : ℕ) → b.kicked p ≡ a.kicked p
  pub asleep : (u : Waiter) → asleep_in (b.frame u) ≡ asleep_in (a.frame u)
  pub owed : (u : Waiter) → owed_in (b.frame u) ≡ owed_in (a.frame u)

pub kicks_then : (a b c : World) → SameKicks a b → SameKicks b c → SameKicks a c
kicks_then a b c s t =
    record {
      halted = λ p. t.halted p ∙ s.halted p;
      kicked = λ p. t.kicked p ∙ s.kicked p;
      asleep = λ u. t.asleep u ∙ s.asleep u;
      owed = λ u. t.owed u ∙ s.owed u;
    }

sleeper_of : (o : Option Frame) → asleep_in o ≡ true
    → (f : Frame) × (o ≡ Some f) × (at_halt (post_of f) ≡ true)
sleeper_of None e = cc
sleeper_of (Some f) e = (f, refl, e)

ower_of : (o : Option Frame) (p : ℕ) → owed_in o ≡ Some p
    → (f : Frame) × (o ≡ Some f) × (f.place ≡ Some U5) × ((node_of f.target).cpu ≡ p)
ower_of None p e = absurd (none-some p e)
ower_of (Some f) p e = by f.place refl e
  where
    by : (c : Option Pc) → f.place ≡ c → owed_at c f ≡ Some p
        → (g : Frame) × (Some f ≡ Some g) × (g.place ≡ Some U5) × ((node_of g.target).cpu ≡ p)
    by (Some U5) at e = (f, refl, at, same_Some (node_of f.target).cpu p e)
    by None at e = absurd (none-some p e)
    by (Some _) at e = absurd (none-some p e)

owed_of : (o : Option Frame) (f : Frame) (p : ℕ) → o ≡ Some f → f.place ≡ Some U5
    → (node_of f.target).cpu ≡ p → owed_in o ≡ Some p
owed_of o f p live at cpu = ap owed_in live ∙ ap (λ (c : Option Pc). owed_at c f) at ∙ ap Some cpu

rests_same : (a b : World) → SameKicks a b → (u : Waiter) → Rests a u → Rests b u
rests_same a b s u r =
    let x = sleeper_of (b.frame u) (s.asleep u ∙ ap asleep_in r.1 ∙ r.2) in
    (x.0, x.1, x.2, s.halted u.cpu ∙ r.3)

owes_same : (a b : World) → SameKicks a b → (p : ℕ) (u : Waiter) → Owes a p u → Owes b p u
owes_same a b s p u o = ower_of (b.frame u) p (s.owed u ∙ owed_of (a.frame u) o.0 p o.1 o.2 o.3)

kicks_back : (a b : World) → SameKicks a b → SameKicks b a
kicks_back a b s =
    record {
      halted = λ p. sym (s.halted p);
      kicked = λ p. sym (s.kicked p);
      asleep = λ u. sym (s.asleep u);
      owed = λ u. sym (s.owed u);
    }

-- what one shows the other does
pub kicks_same : (a b : World) (es : List Event) → SameKicks a b → ShowsKicks a es → ShowsKicks b es
kicks_same a b es s shows =
    let t = kicks_back a b s in
    record {
      asleep = λ u h. rests_same a b s u (shows.asleep u h);
      rests = λ u r. shows.rests u (rests_same b a t u r);
      kicked = λ p. s.kicked p ∙ shows.kicked p;
      owing = λ p.
          let r = shows.owing p in (
            r.0,
            r.1,
            record {
              once = r.2.once;
              inside = λ i lt. owes_same a b s p (r.1 i) (r.2.inside i lt);
              place = λ u o. r.2.place u (owes_same b a t p u o);
            },
            r.3,
          );
    }

-- how a waiter holds a lock changes nothing of them
pub kicks_put_held : (a : World) (w : Waiter) (l : LockName) (way : Option Manner)
    → SameKicks (put_held a w l way) a
kicks_put_held a w l way =
    record { halted = λ p. refl; kicked = λ p. refl; asleep = λ u. refl; owed = λ u. refl }

-- nor does one frame in the place of another that neither sleeps nor owes a kick as little as it
pub kicks_seated : (n : Machine) (w : Waiter) (g : Frame) (o : Option Frame)
    → asleep_in o ≡ asleep_in (Some g) → owed_in o ≡ owed_in (Some g)
    → SameKicks (put_frame (world n) w (Some g)) (seated n w o)
kicks_seated n w g o asleep owed =
    record {
      halted = λ p. refl;
      kicked = λ p. refl;
      asleep = λ u. by asleep_in asleep (same_waiter u w) (frame_at n u);
      owed = λ u. by owed_in owed (same_waiter u w) (frame_at n u);
    }
  where
    by : {A : Type 0} (F : Option Frame → A) → F o ≡ F (Some g) → (t : Bool) (x : Option Frame)
        → F (if t then o else x) ≡ F (if t then Some g else x)
    by F e true x = e
    by F e false x = refl

-- a frame without a place neither sleeps nor owes a kick
calm_place : (g : Frame) → g.place ≡ None → (asleep_in (Some g) ≡ false) × (owed_in (Some g) ≡ None)
calm_place g at =
    (ap (λ (c : Option Pc). at_halt (post_if c g)) at, ap (λ (c : Option Pc). owed_at c g) at)

-- nor does one that begins an operation
calm_first : (mode : Mode) (v : Verb) (g : Frame)
    → (at_halt (post_if (Some (first_place mode v)) g) ≡ false)
    × (owed_at (Some (first_place mode v)) g ≡ None)
calm_first Virt Unlock g = (refl, refl)
calm_first Native Unlock g = (refl, refl)
calm_first Cna Unlock g = (refl, refl)
calm_first Pv Unlock g = (refl, refl)
calm_first mode Lock g = (refl, refl)
calm_first mode Try g = (refl, refl)
calm_first mode Read g = (refl, refl)
calm_first mode Write g = (refl, refl)
calm_first mode TryRead g = (refl, refl)
calm_first mode TryWrite g = (refl, refl)
calm_first mode RUnlock g = (refl, refl)
calm_first mode WUnlock g = (refl, refl)

module _ (n : Machine) (p : ℕ) (top : HasTop n p) where
  abbrev w : Waiter
  w = top_of n p

  -- the top frame becomes this one
  kicks_top : (g : Frame) → SameKicks (put_frame (world n) w (Some g)) (world (set_top n p g))
  kicks_top g =
      subst (λ (x : World). SameKicks (put_frame (world n) w (Some g)) x)
      (sym (world-set_top n p g top)) (kicks_seated n w g (Some g) refl refl)

  -- it goes on to its next operation
  pub kicks_settled : (g h : Frame) → g.place ≡ None
      → SameKicks (put_frame (world n) w (Some g)) (world (settled n p h))
  kicks_settled g h at = by (slice_get (program_of n p h) h.«at»)
    where
      none : (asleep_in (Some g) ≡ false) × (owed_in (Some g) ≡ None)
      none = calm_place g at

      to : (o : Option Frame) → (asleep_in o ≡ false) × (owed_in o ≡ None)
          → SameKicks (put_frame (world n) w (Some g)) (seated n w o)
      to o calm = kicks_seated n w g o (calm.0 ∙ sym none.0) (calm.1 ∙ sym none.1)

      set : (k : Frame) → (asleep_in (Some k) ≡ false) × (owed_in (Some k) ≡ None)
          → SameKicks (put_frame (world n) w (Some g)) (world (set_top n p k))
      set k calm =
          subst (λ (x : World). SameKicks (put_frame (world n) w (Some g)) x)
          (sym (world-set_top n p k top)) (to (Some k) calm)

      by : (o : Option Op) → SameKicks (put_frame (world n) w (Some g)) (world (settled_at n p h o))
      by None = elim (cases_Bool (h.ctx == 0)) [
        | inl z ↦ rw z (set (record h { place = None }) (refl, refl))
        | inr z ↦ rw z
            (subst (λ (x : World). SameKicks (put_frame (world n) w (Some g)) x)
            (sym (world-pop n p top)) (to None (refl, refl)))
      ]
      by (Some o) =
          set (started n.setup.mode h o) (calm_first n.setup.mode o.verb (started n.setup.mode h o))

-- the lock is granted
kicks_granted : (n : Machine) (p : ℕ) (f : Frame) (c : Pc) → Ready n p f c
    → SameKicks (put_frame (world n) (top_of n p) (Some (led f Granted))) (world (granted n p))
kicks_granted n p f c r =
    subst (λ (x : Machine).
    SameKicks (put_frame (world n) (top_of n p) (Some (led f Granted))) (world x))
    (sym (granted_led n p f r.live)) (by f.lock.wait refl)
  where
    top : HasTop n p
    top = r.whole.tops p r.range

    by : (b : Bool) → f.lock.wait ≡ b
        → SameKicks (put_frame (world n) (top_of n p) (Some (led f Granted)))
        (world (if b then set_top n p (led f Granted) else settled n p
        (record f { «at» = f.«at» + 1 })))
    by true e = kicks_top n p top (led f Granted)
    by false e =
        kicks_settled n p top (led f Granted) (record f { «at» = f.«at» + 1 })
        (ap (λ (b : Bool). if b then f.then else None) e)

-- A frame goes where its row leads.
pub kicks_moved : (n : Machine) (p : ℕ) (f : Frame) (c : Pc) → Ready n p f c → (lead : Lead)
    → SameKicks (put_frame (world n) (top_of n p) (Some (led f lead))) (world (moved n p f lead))
kicks_moved n p f c r (Goes d cs) = kicks_top n p (r.whole.tops p r.range) (gone f d cs)
kicks_moved n p f c r (Enters None d) = kicks_top n p (r.whole.tops p r.range) (entered f None d)
kicks_moved n p f c r (Enters (Some a) d) =
    let k : Machine = set_node n a rest_node in
    let g : Frame = entered f (Some a) d in
    let same = same_set_node n a rest_node in
    let top = r.whole.tops p r.range in
    let after = kicks_top k p (has_top_same n k p same top) g in
    let P : Waiter → Type 0 =
    λ u. SameKicks (put_frame (world k) u (Some g)) (world (set_top k p g)) in
    kicks_then (put_frame (world n) (top_of n p) (Some g))
    (put_frame (world k) (top_of n p) (Some g)) (world (set_top k p g))
    (record {
      halted = λ q. halted-set_node n a rest_node q;
      kicked = λ q. kicked-set_node n a rest_node q;
      asleep = λ u.
          ap (λ (o : Option Frame). asleep_in (if same_waiter u (top_of n p) then Some g else o))
          (frame-set_node n a rest_node u);
      owed = λ u. ap
          (λ (o : Option Frame). owed_in (if same_waiter u (top_of n p) then Some g else o))
          (frame-set_node n a rest_node u);
    })
    (subst P (top_same n k p same) after)
kicks_moved n p f c r Granted = kicks_granted n p f c r
kicks_moved n p f c r Freed =
    subst (λ (x : Machine).
    SameKicks (put_frame (world n) (top_of n p) (Some (led f Freed))) (world x))
    (sym (done_is n p f r.live))
    (kicks_settled n p (r.whole.tops p r.range) (led f Freed) (record f { «at» = f.«at» + 1 })
    refl)
kicks_moved n p f c r Missed =
    subst (λ (x : Machine).
    SameKicks (put_frame (world n) (top_of n p) (Some (led f Missed))) (world x))
    (sym (missed_is n p f r.live))
    (kicks_settled n p (r.whole.tops p r.range) (led f Missed)
    (record f { «at» = f.«at» + skipped n p f }) refl)
kicks_moved n p f c r Done =
    subst (λ (x : Machine).
    SameKicks (put_frame (world n) (top_of n p) (Some (led f Done))) (world x))
    (sym (done_is n p f r.live))
    (kicks_settled n p (r.whole.tops p r.range) (led f Done) (record f { «at» = f.«at» + 1 })
    refl)
kicks_moved n p f c r (TakesWait d) = kicks_top n p (r.whole.tops p r.range) (waiting f d)
kicks_moved n p f c r Leaves =
    let k : Machine = left n p f in
    let e : Frame = record f { me = None } in
    let d : Frame = led f Leaves in
    let same = left_same n p f c r in
    let after = kicks_granted k p e c (left_ready n p f c r) in
    let P : Waiter → Type 0 =
    λ u. SameKicks (put_frame (world k) u (Some d)) (world (granted k p)) in
    let again : put_frame (world k) (top_of n p) (Some d)
    ≡ put_frame (put_queued (world n) p (queued_at n p - 1)) (top_of n p) (Some d) =
    ap (λ (x : World). put_frame x (top_of n p) (Some d)) (left_world n p f c r)
    ∙ rewritten (world n) (top_of n p) (Some e) (Some d) p (queued_at n p - 1) in
    subst (λ (x : Machine).
    SameKicks (put_frame (world n) (top_of n p) (Some d)) (world (granted x p)))
    (sym (leave_is n p f c r))
    (kicks_then (put_frame (world n) (top_of n p) (Some d))
    (put_frame (world k) (top_of n p) (Some d)) (world (granted k p))
    (subst (λ (x : World). SameKicks (put_frame (world n) (top_of n p) (Some d)) x) (sym again)
    (record { halted = λ q. refl; kicked = λ q. refl; asleep = λ u. refl; owed = λ u. refl }))
    (subst P (top_same n k p same) after))
kicks_moved n p f c r (Yields d cs) = kicks_top n p (r.whole.tops p r.range) (gone f d cs)

-- what a lead changes besides the frame and the hold changes nothing of halts and kicks
pub kicks_led : (m : World) (w : Waiter) (f : Frame) (lead : Lead)
    → SameKicks (lead_on m w f lead) (put_frame m w (Some (led f lead)))
kicks_led m w f (Goes c cs) =
    record { halted = λ q. refl; kicked = λ q. refl; asleep = λ u. refl; owed = λ u. refl }
kicks_led m w f (Enters None c) =
    record { halted = λ q. refl; kicked = λ q. refl; asleep = λ u. refl; owed = λ u. refl }
kicks_led m w f (Enters (Some a) c) =
    record { halted = λ q. refl; kicked = λ q. refl; asleep = λ u. refl; owed = λ u. refl }
kicks_led m w f Leaves =
    record { halted = λ q. refl; kicked = λ q. refl; asleep = λ u. refl; owed = λ u. refl }
kicks_led m w f _ =
    record { halted = λ q. refl; kicked = λ q. refl; asleep = λ u. refl; owed = λ u. refl }
