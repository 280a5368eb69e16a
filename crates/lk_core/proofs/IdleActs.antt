-- An act is idle exactly where it is said to be.
use Rattle.std.proofs.Common.{◌≡◌, ℕ, Option, Some, None, Bool, true, false, inl, inr, arith, ap}
use Rattle.std.proofs.Common.{◌<◌, ◌+◌, refl, ◌∙◌, length, if◌then◌else◌, ◌||◌, ◌&&◌, ◌==◌, not}
use Rattle.std.proofs.Common.{nat_le, slice_get}
use Rattle.std.proofs.lemmas.Bool.{le-leb, leb-true, false_from_ne_true, true_from_ne_false}
use Rattle.std.proofs.lemmas.Bool.{or_left, or_right, or_cases, and_from, and_parts, not-true}
use Rattle.std.proofs.lemmas.Bool.{not_from_false}
use Rattle.lk_core.proofs.Names.{cases_Bool, LockHistory, Act, LockName, after_halt, awake}
use Rattle.lk_core.proofs.Names.{handler_frame, idle, interrupted, is_shut, kicked_awake, next}
use Rattle.lk_core.proofs.Names.{nudged, processor_of, stands_halting, step_halted, woken, CpuState}
use Rattle.lk_core.proofs.Names.{Machine, top_frame, program_of, settled, settled_at, started}
use Rattle.lk_core.proofs.Names.{handlers_of, Answer, row, row_at, Frame, Pc, Op, ShowsAll}
use Rattle.lk_rows.specs.Machine.{cpu_at, depth_at, preempted_at, halted_at, kicked_at, handlers_at}
use Rattle.lk_rows.specs.Machine.{set_preempted, set_top, push, pop}
use Rattle.lk_core.proofs.{Access.cpu_same, ActKept.at_halt}
use Rattle.lk_core.proofs.Same.{KeepsFrames, same_then, same_self, same_set_top, same_set_halted}
use Rattle.lk_core.proofs.Same.{handlers_pop, handlers_push}
use Rattle.lk_core.specs.Idle.{IsIdle, Happens}
use Rattle.lk_names.specs.declared.events.Act.TheVariants as act

handlers_settled_at : (n : Machine) (p : ℕ) (h : Frame) (o : Option Op) (q : ℕ)
    → handlers_at (settled_at n p h o) q ≡ handlers_at n q
handlers_settled_at n p h None q = by (h.ctx == 0)
  where
    by : (b : Bool)
        → handlers_at (if b then set_top n p (record h { place = None }) else pop n p) q
        ≡ handlers_at n q
    by true = (same_set_top n p (record h { place = None })).handlers q
    by false = handlers_pop n p q
handlers_settled_at n p h (Some o) q = (same_set_top n p (started n.setup.mode h o)).handlers q

handlers_settled : (n : Machine) (p : ℕ) (h : Frame) (q : ℕ)
    → handlers_at (settled n p h) q ≡ handlers_at n q
handlers_settled n p h q = handlers_settled_at n p h (slice_get (program_of n p h) h.«at») q

pub preempted_now : (m : Machine) (p : ℕ) (b : Bool) → p < length m.cpus
    → preempted_at (set_preempted m p b) p ≡ b
unfolding preempted_at set_preempted
preempted_now m p b range =
    ap (λ (c : CpuState). c.preempted) (cpu_same m p (record (cpu_at m p) { preempted = b }) range)

-- the end of a halt leaves how much of everything there is
pub woken_same : (m : Machine) (p : ℕ) → KeepsFrames m (woken m p)
woken_same m p =
    let g : Frame = record (top_frame m p) { place = after_halt (top_frame m p).place } in
    same_then m (set_top m p g) (woken m p) (same_set_top m p g)
    (same_set_halted (set_top m p g) p false)

pub awake_same : (m : Machine) (p : ℕ) → KeepsFrames m (awake m p)
awake_same m p = by (halted_at m p)
  where
    by : (b : Bool) → KeepsFrames m (if b then woken m p else m)
    by true = woken_same m p
    by false = same_self m

module _ (m : Machine) (hs : LockName → LockHistory) (shows : ShowsAll m hs) where
  -- a step of a processor that is not preempted
  abbrev stepped : ℕ → Bool → Answer
  stepped p b = if b then step_halted m p else row m p

  halted_idle : (p : ℕ) → kicked_at m p ≡ false → step_halted m p ≡ (m, None)
  halted_idle p e = ap (λ (b : Bool). if b then kicked_awake m p else idle m) e

  halted_wakes : (p : ℕ) → kicked_at m p ≡ true → step_halted m p ≡ kicked_awake m p
  halted_wakes p e = ap (λ (b : Bool). if b then kicked_awake m p else idle m) e

  -- a processor whose top frame is finished has not halted
  finished_awake : (p : ℕ) → p < length m.cpus → (top_frame m p).place ≡ None
      → halted_at m p ≡ false
  finished_awake p range e =
      false_from_ne_true (halted_at m p)
      (λ h. let z = at_halt m p hs shows range h in let y = ap stands_halting e in
      grind (arith, z, y))

  pub step_idle : (p : ℕ) → p < length m.cpus → IsIdle m (act.Step p)
      → next m (act.Step p) ≡ (m, None)
  step_idle p range (inl e) = ap (λ (b : Bool). if b then idle m else stepped p (halted_at m p)) e
  step_idle p range (inr (inl e)) = by (preempted_at m p)
    where
      by : (b : Bool) → (if b then idle m else stepped p (halted_at m p)) ≡ (m, None)
      by true = refl
      by false = ap (stepped p) e.0 ∙ halted_idle p e.1
  step_idle p range (inr (inr e)) = by (preempted_at m p)
    where
      by : (b : Bool) → (if b then idle m else stepped p (halted_at m p)) ≡ (m, None)
      by true = refl
      by false = ap (stepped p) (finished_awake p range e)
          ∙ ap (λ (o : Option Pc). row_at m p (top_frame m p) o) e

  -- the tests that shut an interrupt out
  abbrev no_room : ℕ → Bool
  no_room p = nat_le 6 (depth_at m p)

  abbrev none_left : ℕ → Bool
  none_left p = nat_le (handlers_of m.setup p) (handlers_at m p)

  abbrev halting : ℕ → Bool
  halting p = stands_halting (top_frame m p).place && not (halted_at m p)

  shut : (p : ℕ) → IsIdle m (act.Interrupt p) → is_shut m p ≡ true
  shut p (inl e) =
      or_left ((preempted_at m p || no_room p) || none_left p) (halting p)
      (or_left (preempted_at m p || no_room p) (none_left p)
      (or_left (preempted_at m p) (no_room p) e))
  shut p (inr (inl e)) =
      or_left ((preempted_at m p || no_room p) || none_left p) (halting p)
      (or_left (preempted_at m p || no_room p) (none_left p)
      (or_right (preempted_at m p) (no_room p) (le-leb 6 (depth_at m p) (omega arith))))
  shut p (inr (inr (inl e))) =
      or_left ((preempted_at m p || no_room p) || none_left p) (halting p)
      (or_right (preempted_at m p || no_room p) (none_left p)
      (le-leb (handlers_of m.setup p) (handlers_at m p) (omega arith)))
  shut p (inr (inr (inr e))) =
      or_right ((preempted_at m p || no_room p) || none_left p) (halting p)
      (and_from (stands_halting (top_frame m p).place) (not (halted_at m p)) e.0
      (not_from_false (halted_at m p) e.1))

  shut_idle : (p : ℕ) → p < length m.cpus → is_shut m p ≡ true → IsIdle m (act.Interrupt p)
  shut_idle p range e =
      elim (or_cases ((preempted_at m p || no_room p) || none_left p) (halting p) e) [
        | inl a ↦ elim (or_cases (preempted_at m p || no_room p) (none_left p) a) [
          | inl b ↦ elim (or_cases (preempted_at m p) (no_room p) b) [
            | inl c ↦ inl c
            | inr c ↦ let low = leb-true 6 (depth_at m p) c in let top = shows.whole.tops p range in
                inr (inl (omega (arith, top.few)))
          ]
          | inr b ↦ let low = leb-true (handlers_of m.setup p) (handlers_at m p) b in
              let few = shows.whole.handlers p in inr (inr (inl (omega arith)))
        ]
        | inr a ↦ let d =
            and_parts (stands_halting (top_frame m p).place) (not (halted_at m p)) a in
            inr (inr (inr (d.0, not-true (halted_at m p) d.1)))
      ]

  pub idle_act : (a : Act) → processor_of a < length m.cpus → IsIdle m a → next m a ≡ (m, None)
  idle_act (act.Step p) range e = step_idle p range e
  idle_act (act.Interrupt p) range e =
      ap (λ (b : Bool). if b then idle m else interrupted m p) (shut p e)
  idle_act (act.Preempt p) range e =
      ap (λ (b : Bool). if b then idle m else (set_preempted m p true, None)) e
  idle_act (act.Resume p) range e =
      ap (λ (b : Bool). if b then (set_preempted m p false, None) else idle m) e
  idle_act (act.Nudge p) range (inl e) =
      ap (λ (b : Bool). if b then idle m else nudged m p)
      (or_left (preempted_at m p) (not (halted_at m p)) e)
  idle_act (act.Nudge p) range (inr e) =
      ap (λ (b : Bool). if b then idle m else nudged m p)
      (or_right (preempted_at m p) (not (halted_at m p)) (not_from_false (halted_at m p) e))

  -- an act that is not idle

  busy_step : (p : ℕ) → ¬ IsIdle m (act.Step p)
      → Happens m (act.Step p) (next m (act.Step p)).0 (next m (act.Step p)).1
  busy_step p busy = elim (cases_Bool (halted_at m p)) [
    | inl h ↦
        let kicked : kicked_at m p ≡ true =
        true_from_ne_false (kicked_at m p) (λ e. busy (inr (inl (h, e)))) in
        let e : next m (act.Step p) ≡ kicked_awake m p =
        runs ∙ ap (stepped p) h ∙ halted_wakes p kicked in
        inr (h, ap (λ (x : Answer). x.0) e, ap (λ (x : Answer). x.1) e)
    | inr h ↦
        let e : next m (act.Step p) ≡ row m p = runs ∙ ap (stepped p) h in
        inl (h, ap (λ (x : Answer). x.0) e, ap (λ (x : Answer). x.1) e)
  ]
    where
      runs : next m (act.Step p) ≡ stepped p (halted_at m p)
      runs = ap (λ (b : Bool). if b then idle m else stepped p (halted_at m p))
          (false_from_ne_true (preempted_at m p) (λ e. busy (inl e)))

  busy_interrupt : (p : ℕ) → p < length m.cpus → ¬ IsIdle m (act.Interrupt p)
      → next m (act.Interrupt p) ≡ interrupted m p
  busy_interrupt p range busy =
      ap (λ (b : Bool). if b then idle m else interrupted m p)
      (false_from_ne_true (is_shut m p) (λ e. busy (shut_idle p range e)))

  busy_handlers : (p : ℕ) → p < length m.cpus
      → handlers_at (interrupted m p).0 p ≡ handlers_at m p + 1
  busy_handlers p range =
      let f = handler_frame m p in
      let same = awake_same m p in
      handlers_settled (push (awake m p) p f) p f p
      ∙ handlers_push (awake m p) p f (rw same.keeps.cpus range)
      ∙ ap (λ (n : ℕ). n + 1) (same.handlers p)

  pub busy_act : (a : Act) → processor_of a < length m.cpus → ¬ IsIdle m a
      → Happens m a (next m a).0 (next m a).1
  busy_act (act.Step p) range busy = busy_step p busy
  busy_act (act.Interrupt p) range busy =
      let e = busy_interrupt p range busy in
      (ap (λ (x : Answer). x.1) e, ap (λ (x : Answer). handlers_at x.0 p) e ∙ busy_handlers p range)
  busy_act (act.Preempt p) range busy =
      let e : next m (act.Preempt p) ≡ (set_preempted m p true, None) =
      ap (λ (b : Bool). if b then idle m else (set_preempted m p true, None))
      (false_from_ne_true (preempted_at m p) busy) in (
        ap (λ (x : Answer). x.1) e,
        ap (λ (x : Answer). preempted_at x.0 p) e ∙ preempted_now m p true range,
      )
  busy_act (act.Resume p) range busy =
      let e : next m (act.Resume p) ≡ (set_preempted m p false, None) =
      ap (λ (b : Bool). if b then (set_preempted m p false, None) else idle m)
      (true_from_ne_false (preempted_at m p) busy) in (
        ap (λ (x : Answer). x.1) e,
        ap (λ (x : Answer). preempted_at x.0 p) e ∙ preempted_now m p false range,
      )
  busy_act (act.Nudge p) range busy =
      let calm : preempted_at m p ≡ false =
      false_from_ne_true (preempted_at m p) (λ e. busy (inl e)) in
      let halted : halted_at m p ≡ true = true_from_ne_false (halted_at m p) (λ e. busy (inr e)) in
      ap (λ (x : Answer). x.1)
      (ap (λ (b : Bool). if b || not (halted_at m p) then idle m else nudged m p) calm
      ∙ ap (λ (b : Bool). if not b then idle m else nudged m p) halted)
