-- The renamed act on the renamed machine does what the act does, renamed.
use Rattle.std.proofs.Common.{◌≡◌, ℕ, ◌+◌, Some, None, Bool, true, false, ap, refl, ◌∙◌}
use Rattle.std.proofs.Common.{if◌then◌else◌, ◌||◌, ◌&&◌, not, nat_le}
use Rattle.lk_renaming.proofs.Names.{Machine, rest_frame, top_frame, settled, Answer, Frame}
use Rattle.lk_renaming.proofs.Names.{HasNames, renamed, renamed_answer, IsAmongAlike, Renaming}
use Rattle.lk_rows.specs.Acts.{after_halt, woken, kicked_awake, step, is_shut, stands_halting}
use Rattle.lk_rows.specs.Acts.{handler_frame, awake, interrupted, nudged}
use Rattle.lk_rows.specs.Machine.{preempted_at, halted_at, kicked_at, set_cpu, set_top, set_halted}
use Rattle.lk_rows.specs.Machine.{set_kicked, set_preempted, push}
use Rattle.lk_renaming.proofs.{Effects.choose, Leading.settled-renamed, Rows.row-renamed}
use Rattle.lk_renaming.proofs.Writes.{Renames, top-renamed, depth-renamed, preempted-renamed}
use Rattle.lk_renaming.proofs.Writes.{halted-renamed, kicked-renamed, handlers-renamed}
use Rattle.lk_renaming.proofs.Writes.{set_top-renamed, set_halted-renamed, set_kicked-renamed}
use Rattle.lk_renaming.proofs.Writes.{set_preempted-renamed, push-renamed, top_kept, halted_kept}
use Rattle.lk_renaming.proofs.Writes.{push_kept}
use Rattle.lk_renaming.specs.Law.{RenamedGoesOn, RenamedStands}
use Rattle.lk_names.specs.declared.events.Act.TheVariants as act
use Rattle.lk_names.specs.declared.events.What.TheVariants as what

module _ (r : Renaming) (m : Machine) (is : Renames r m) (alike : IsAmongAlike m.setup r) (p : ℕ) where
  abbrev answer : Answer → Answer
  answer x = renamed_answer r x

  woken-renamed : woken (renamed r m) (r.to p) ≡ renamed r (woken m p)
  woken-renamed =
      let t : Frame = record (top_frame m p) { place = after_halt (top_frame m p).place } in
      ap (λ (f : Frame). set_halted (set_top (renamed r m) (r.to p) (record f { place = after_halt f.place })) (r.to p) false)
      (top-renamed r m is p)
      ∙ ap (λ k. set_halted k (r.to p) false) (set_top-renamed r m is p t)
      ∙ set_halted-renamed r (set_top m p t) (top_kept r m is p t) p false

  woken_kept : Renames r (woken m p)
  woken_kept =
      let t : Frame = record (top_frame m p) { place = after_halt (top_frame m p).place } in
      halted_kept r (set_top m p t) (top_kept r m is p t) p false

  kicked_awake-renamed : kicked_awake (renamed r m) (r.to p) ≡ answer (kicked_awake m p)
  kicked_awake-renamed =
      let state =
      ap (λ k. set_kicked k (r.to p) false) woken-renamed ∙ set_kicked-renamed r (woken m p) woken_kept p false in
      let tells =
      ap (λ (f : Frame). Some (record { by = record { cpu = r.to p; ctx = f.ctx }; what = what.Wake f.lock }))
      (top-renamed r m is p) in
      (λ i. (state i, tells i))

  step-renamed : HasNames m p → step (renamed r m) (r.to p) ≡ answer (step m p)
  step-renamed names =
      choose answer (preempted_at (renamed r m) (r.to p)) (preempted_at m p) _ _ _ _ (preempted-renamed r m is p) refl
      (choose answer (halted_at (renamed r m) (r.to p)) (halted_at m p) _ _ _ _ (halted-renamed r m is p)
      (choose answer (kicked_at (renamed r m) (r.to p)) (kicked_at m p) _ _ _ _ (kicked-renamed r m is p)
      kicked_awake-renamed refl)
      (row-renamed r m is alike p names))

  awake-renamed : awake (renamed r m) (r.to p) ≡ renamed r (awake m p)
  awake-renamed =
      choose (λ k. renamed r k) (halted_at (renamed r m) (r.to p)) (halted_at m p) _ _ _ _ (halted-renamed r m is p)
      woken-renamed refl

  awake_kept : Renames r (awake m p)
  awake_kept = by (halted_at m p)
    where
      by : (b : Bool) → Renames r (if b then woken m p else m)
      by true = woken_kept
      by false = is

  pushed_setup : (f : Frame) → IsAmongAlike (push (awake m p) p f).setup r
  unfolding push set_halted set_top set_cpu
  pushed_setup f = by (halted_at m p)
    where
      by : (b : Bool) → IsAmongAlike (if b then woken m p else m).setup r
      by true = alike
      by false = alike

  handler-renamed : handler_frame (renamed r m) (r.to p) ≡ handler_frame m p
  handler-renamed = (λ i. record rest_frame { ctx = depth-renamed r m is p i; program = handlers-renamed r m is p i + 1 })

  interrupted-renamed : interrupted (renamed r m) (r.to p) ≡ answer (interrupted m p)
  interrupted-renamed =
      let h = handler_frame m p in
      let state =
      ap (λ f. settled (push (awake (renamed r m) (r.to p)) (r.to p) f) (r.to p) f) handler-renamed
      ∙ ap (λ k. settled (push k (r.to p) h) (r.to p) h) awake-renamed
      ∙ ap (λ k. settled k (r.to p) h) (push-renamed r (awake m p) awake_kept p h)
      ∙ settled-renamed r p (push (awake m p) p h) (push_kept r (awake m p) awake_kept p h) (pushed_setup h) h in
      let tells =
      ap (λ n. Some (record { by = record { cpu = r.to p; ctx = n }; what = what.Int })) (depth-renamed r m is p) in
      (λ i. (state i, tells i))

  nudged-renamed : nudged (renamed r m) (r.to p) ≡ answer (nudged m p)
  nudged-renamed =
      let tells =
      ap (λ (f : Frame). Some (record { by = record { cpu = r.to p; ctx = f.ctx }; what = what.Nudge }))
      (top-renamed r m is p) in
      (λ i. (woken-renamed i, tells i))

  shut-renamed : is_shut (renamed r m) (r.to p) ≡ is_shut m p
  shut-renamed = (λ i. preempted-renamed r m is p i || nat_le 6 (depth-renamed r m is p i)
      || nat_le (alike.handlers p i) (handlers-renamed r m is p i)
      || (stands_halting (top-renamed r m is p i).place && not (halted-renamed r m is p i)))

  preempted-by : (b : Bool)
      → ◌≡◌ {A = Answer} (set_preempted (renamed r m) (r.to p) b, None) (answer (set_preempted m p b, None))
  preempted-by b = (λ i. (set_preempted-renamed r m is p b i, None))

pub renamed_goes_on : RenamedGoesOn
renamed_goes_on r m (act.Step p) is alike names = step-renamed r m is alike p names
renamed_goes_on r m (act.Interrupt p) is alike names =
    choose (λ x. renamed_answer r x) (is_shut (renamed r m) (r.to p)) (is_shut m p) _ _ _ _
    (shut-renamed r m is alike p) refl (interrupted-renamed r m is alike p)
renamed_goes_on r m (act.Preempt p) is alike names =
    choose (λ x. renamed_answer r x) (preempted_at (renamed r m) (r.to p)) (preempted_at m p) _ _ _ _
    (preempted-renamed r m is p) refl (preempted-by r m is alike p true)
renamed_goes_on r m (act.Resume p) is alike names =
    choose (λ x. renamed_answer r x) (preempted_at (renamed r m) (r.to p)) (preempted_at m p) _ _ _ _
    (preempted-renamed r m is p) (preempted-by r m is alike p false) refl
renamed_goes_on r m (act.Nudge p) is alike names =
    choose (λ x. renamed_answer r x) (preempted_at (renamed r m) (r.to p) || not (halted_at (renamed r m) (r.to p)))
    (preempted_at m p || not (halted_at m p)) _ _ _ _
    (λ i. preempted-renamed r m is p i || not (halted-renamed r m is p i)) refl (nudged-renamed r m is alike p)

pub renamed_stands : RenamedStands
renamed_stands r m p is = record {
  place = ap (λ (f : Frame). f.place) (top-renamed r m is p);
  depth = depth-renamed r m is p;
  preempted = preempted-renamed r m is p;
  halted = halted-renamed r m is p;
}
