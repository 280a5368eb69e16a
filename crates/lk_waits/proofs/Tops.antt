-- The newest frame of a processor; and which frame is in a phase.
use Rattle.std.proofs.Common.{◌≡◌, ◌≢◌, ◌⊎◌, inl, inr, ℕ, zero, suc, ◌<◌, ◌≤◌, Option, Some, None}
use Rattle.std.proofs.Common.{Bool, true, false, refl, ap, ◌∙◌, subst, arith, if◌then◌else◌}
use Rattle.std.proofs.Common.{is_some, ◌==◌}
use Rattle.std.proofs.lemmas.Bool.{eqb-true}
use Rattle.lk_waits.proofs.Names.{cases_lt, same_lock, LockName, Waiter, node_of, rw_name, Frame}
use Rattle.lk_waits.proofs.Names.{Pc, is_rw_row, Idle, phase_at, phase_if, phase_on, snapshot}
use Rattle.lk_waits.proofs.Names.{biased, HasNoneAbove, World, lock_at}
use Rattle.lk_law.proofs.common.Sames.{same_lock-true}
use Rattle.lk_law.specs.{Places.phase_of, Premises.IsShallow, RwPhase.RwPhase.Away}
use Rattle.lk_law.specs.SoundWorld.{rw_phases, rw_phase_on, rw_phase_if, rw_own_phase}
use Rattle.lk_law.specs.SoundWorld.{rw_wait_phase, Part, part_of}

-- the newest frame of the processor of u
pub record Newest (m : World) (u : Waiter) : Type 0 where
  pub by : Waiter
  pub frame : Frame
  pub cpu : by.cpu ≡ u.cpu
  pub live : m.frame by ≡ Some frame
  pub above : HasNoneAbove m by
  pub is : (by ≡ u) ⊎ (u.ctx < by.ctx)

module _ (m : World) (u : Waiter) (shallow : IsShallow m u.cpu) where
  abbrev at : ℕ → Waiter
  at c = record { cpu = u.cpu; ctx = c }

  -- the contexts from n on have no frame: the highest below it that has one
  search_down : (n : ℕ) → ((c : ℕ) → n ≤ c → m.frame (at c) ≡ None)
      → ((c : ℕ) → m.frame (at c) ≡ None)
      ⊎ ((c : ℕ) × (d : Frame) × (m.frame (at c) ≡ Some d) × ((e : ℕ) → c < e → m.frame (at e) ≡ None))
  search_down zero none = inl (λ c. none c (omega arith))
  search_down (suc n) none = by (m.frame (at n)) refl (λ more. search_down n more)
    where
      split : (c : ℕ) → n ≤ c → (n ≡ c) ⊎ (suc n ≤ c)
      split c le = elim (cases_lt n c) [ inl lt ↦ inr (omega (arith, lt)) | inr ge ↦ inl (omega (arith, le, ge)) ]

      by : (o : Option Frame) → m.frame (at n) ≡ o
          → (((c : ℕ) → n ≤ c → m.frame (at c) ≡ None) → (((c : ℕ) → m.frame (at c) ≡ None)
          ⊎ ((c : ℕ) × (d : Frame) × (m.frame (at c) ≡ Some d) × ((e : ℕ) → c < e → m.frame (at e) ≡ None)))) → (((c : ℕ) → m.frame (at c) ≡ None)
          ⊎ ((c : ℕ) × (d : Frame) × (m.frame (at c) ≡ Some d) × ((e : ℕ) → c < e → m.frame (at e) ≡ None)))
      by (Some d) e lower = inr (n, d, e, λ c lt. none c (omega (arith, lt)))
      by None e lower = lower (λ c le. elim (split c le) [
        | inl same ↦ subst (λ (k : ℕ). m.frame (at k) ≡ None) same e
        | inr lt ↦ none c lt
      ])

  -- a processor has no frame, or a newest one
  pub any_newest : ((c : ℕ) → m.frame (at c) ≡ None)
      ⊎ ((t : Waiter) × (d : Frame) × (t.cpu ≡ u.cpu) × (m.frame t ≡ Some d) × HasNoneAbove m t)
  any_newest = elim (search_down 6 shallow) [
    | inl none ↦ inl none
    | inr t ↦ inr (at t.0, t.1, refl, t.2, t.3)
  ]

  pub newest_of : (g : Frame) → m.frame u ≡ Some g → Newest m u
  newest_of g live =
      elim (search_down 6 shallow) [
        | inl none ↦ absurd (let z = none u.ctx in cc (z, live))
        | inr t ↦ record {
          by = at t.0;
          frame = t.1;
          cpu = refl;
          live = t.2;
          above = t.3;
          is = elim (cases_lt u.ctx t.0) [
            | inl lt ↦ inr lt
            | inr ge ↦ inl (elim (cases_lt t.0 u.ctx) [
              | inl lt ↦ absurd (let z = t.3 u.ctx lt in cc (z, live))
              | inr le ↦ (let same : t.0 ≡ u.ctx = omega (arith, ge, le) in
                  λ i. record { cpu = u.cpu; ctx = same i })
            ])
          ];
        }
      ]

-- The frame of a waiter that does something for a lock.
pub record IsAt (m : World) (l : LockName) (u : Waiter) : Type 0 where
  pub frame : Frame
  pub place : Pc
  pub live : m.frame u ≡ Some frame
  pub lock : frame.lock ≡ l
  pub at : frame.place ≡ Some place
  pub shows : (snapshot m).phase l u
      ≡ phase_at place (is_some frame.me) (node_of frame.prev) (node_of frame.y)

pub busy_at : (m : World) (l : LockName) (u : Waiter) → (snapshot m).phase l u ≢ Idle → IsAt m l u
busy_at m l u busy = by (m.frame u) refl
  where
    by : (o : Option Frame) → m.frame u ≡ o → IsAt m l u
    by None e = absurd (busy (ap (phase_on l) e))
    by (Some g) e = here (same_lock g.lock l) refl g.place refl
      where
        at_frame : (snapshot m).phase l u ≡ (if same_lock g.lock l then phase_of g else Idle)
        at_frame = ap (phase_on l) e

        here : (b : Bool) → same_lock g.lock l ≡ b → (o : Option Pc) → g.place ≡ o → IsAt m l u
        here false s o p = absurd (busy (at_frame ∙ ap (λ (b : Bool). if b then phase_of g else Idle) s))
        here true s None p =
            absurd (busy (at_frame ∙ ap (λ (b : Bool). if b then phase_of g else Idle) s
            ∙ ap (λ (o : Option Pc). phase_if o (is_some g.me) (node_of g.prev) (node_of g.y)) p))
        here true s (Some d) p =
            record {
              frame = g;
              place = d;
              live = e;
              lock = same_lock-true g.lock l s;
              at = p;
              shows = at_frame ∙ ap (λ (b : Bool). if b then phase_of g else Idle) s
                  ∙ ap (λ (o : Option Pc). phase_if o (is_some g.me) (node_of g.prev) (node_of g.y)) p;
            }

-- a row that does something for a spinlock is none of a reader or a writer
spin_if : (d : Pc) → (b : Bool) → is_rw_row d ≡ b → ((me : Bool) (x y : Rattle.lk_word.specs.declared.spin_word.NodeName.NodeName)
    → b ≡ true → phase_at d me x y ≡ Idle)
spin_if d b e me x y h = rw_idle d me x y (e ∙ h)
  where
    rw_idle : (d : Pc) (me : Bool) (x y : Rattle.lk_word.specs.declared.spin_word.NodeName.NodeName) → is_rw_row d ≡ true → phase_at d me x y ≡ Idle
    rw_idle d me x y h = grind (arith, h)

pub busy_lock : (m : World) (l : LockName) (u : Waiter) → (snapshot m).phase l u ≢ Idle → (a : IsAt m l u)
    → lock_at a.place a.frame ≡ l
busy_lock m l u busy a = by (is_rw_row a.place) refl
  where
    by : (b : Bool) → is_rw_row a.place ≡ b → lock_at a.place a.frame ≡ l
    by true e = absurd (busy (a.shows ∙ spin_if a.place true e (is_some a.frame.me) (node_of a.frame.prev) (node_of a.frame.y) refl))
    by false e = lock_plain a.place a.frame e ∙ a.lock
      where
        lock_plain : (d : Pc) (g : Frame) → is_rw_row d ≡ false → lock_at d g ≡ g.lock
        lock_plain d g h = rw h refl

-- The frame of a waiter that is counted among the readers without holding.
pub record IsBiased (m : World) (i : ℕ) (u : Waiter) : Type 0 where
  pub frame : Frame
  pub place : Pc
  pub live : m.frame u ≡ Some frame
  pub lock : lock_at place frame ≡ rw_name i
  pub at : frame.place ≡ Some place
  pub row : biased (rw_own_phase place) ≡ true

pub biased_at : (m : World) (i : ℕ) (u : Waiter) → biased (rw_phases m i u) ≡ true → IsBiased m i u
biased_at m i u h = by (m.frame u) refl h
  where
    unbiased : (wait : Bool) (p : Part) → biased (rw_wait_phase wait p) ≡ true → ⊥
    unbiased true Part.Taking e = cc e
    unbiased true Part.Freeing e = cc e
    unbiased true Part.Owing e = cc e
    unbiased false p e = cc e

    by : (o : Option Frame) → m.frame u ≡ o → biased (rw_phase_on i o) ≡ true → IsBiased m i u
    by None e h = cc h
    by (Some g) e h = here (g.lock.index == i) refl g.place refl h
      where
        here : (b : Bool) → g.lock.index == i ≡ b → (o : Option Pc) → g.place ≡ o
            → biased (if b then rw_phase_if o g.lock.wait else Away) ≡ true → IsBiased m i u
        here false s o p h = cc h
        here true s None p h = cc h
        here true s (Some d) p h = row (is_rw_row d) refl h
          where
            row : (b : Bool) → is_rw_row d ≡ b
                → biased (if b then rw_own_phase d else rw_wait_phase g.lock.wait (part_of d)) ≡ true
                → IsBiased m i u
            row false q h = absurd (unbiased g.lock.wait (part_of d) h)
            row true q h =
                record {
                  frame = g;
                  place = d;
                  live = e;
                  lock = (let same = eqb-true g.lock.index i s in rw q (ap rw_name same));
                  at = p;
                  row = h;
                }
