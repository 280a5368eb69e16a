-- Where processors halt: at rest nobody is in a turn, and so every run from rest ends.
use Rattle.std.proofs.Common.{◌≡◌, ℕ, zero, suc, ◌+◌, ◌*◌, ◌≤◌, Option, Some, None, refl, sym, ap}
use Rattle.std.proofs.Common.{◌∙◌, subst, arith, [], length, slice_get}
use Rattle.lk_progress.proofs.Names.{Mode, Cna, Native, Pv, Virt, Waiter, Machine, kicked_at}
use Rattle.lk_progress.proofs.Names.{first_place, IsLawfulSetup, program_at, at_rest, first_frame}
use Rattle.lk_progress.proofs.Names.{Frame, Op, Setup, Verb, Lock, RUnlock, Read, Try, TryRead}
use Rattle.lk_progress.proofs.Names.{TryWrite, Unlock, WUnlock, Write, world, World, frames}
use Rattle.lk_progress.proofs.Names.{rest_shows, halting_turn_at, halting_turn_of, SpinsAreFew}
use Rattle.lk_progress.proofs.Names.{halting_budget, halting_debt, halting_turns, kick_turns}
use Rattle.lk_progress.proofs.Names.{sum_below}
use Rattle.lk_rows.specs.Machine.{frame_at}
use Rattle.lk_progress.proofs.{Sums.sum_same, halting.Budget.halting_runs_are_short}
use Rattle.lk_progress.specs.HaltingPrice.{halting_cost, HaltingRunsEnd}

-- no operation begins in a turn
begins_at : (m : World) (u : Waiter) (f : Frame) (mode : Mode) (v : Verb) → halting_turn_at m u f (first_place mode v) ≡ 0
begins_at m u f mode Lock = refl
begins_at m u f mode Try = refl
begins_at m u f Virt Unlock = refl
begins_at m u f Native Unlock = refl
begins_at m u f Cna Unlock = refl
begins_at m u f Pv Unlock = refl
begins_at m u f mode Read = refl
begins_at m u f mode Write = refl
begins_at m u f mode TryRead = refl
begins_at m u f mode TryWrite = refl
begins_at m u f mode RUnlock = refl
begins_at m u f mode WUnlock = refl

nothing : (n : ℕ) → sum_below n (λ p. 0) ≡ 0
nothing zero = refl
nothing (suc n) = let h = nothing n in omega (arith, h)

module _ (setup : Setup) (ok : IsLawfulSetup setup) where
  abbrev m : Machine
  m = at_rest setup

  first_none : (u : Waiter) (o : Option Op) → halting_turn_of (world m) u (Some (first_frame setup.mode o)) ≡ 0
  first_none u None = refl
  first_none u (Some v) = begins_at (world m) u (first_frame setup.mode (Some v)) setup.mode v.verb

  none_of : (u : Waiter) (o : Option Frame) → frame_at m u ≡ o → halting_turn_of (world m) u o ≡ 0
  none_of u None e = refl
  none_of u (Some f) e =
      ap (λ (g : Frame). halting_turn_of (world m) u (Some g)) (sym (frames setup ok u f e).1)
      ∙ first_none u (slice_get (program_at setup u.cpu 0) 0)

  no_kick : (p : ℕ) → kick_turns setup.spins (kicked_at m p) ≡ 0
  no_kick p = ap (kick_turns setup.spins) ((rest_shows setup ok).kicks.kicked p)

  none_six : (p : ℕ) → halting_debt m p ≡ 0
  none_six p =
      let t = sum_same 6 (λ c. 0) (λ c. halting_turn_of (world m) (record { cpu = p; ctx = c }) (frame_at m (record { cpu = p; ctx = c })))
      (λ c low. none_of (record { cpu = p; ctx = c }) (frame_at m (record { cpu = p; ctx = c })) refl) in
      let k = no_kick p in
      omega (arith, t, k)

  rest_halting_turns : halting_turns m ≡ 0
  rest_halting_turns =
      sum_same (length m.cpus) (λ p. 0) (λ p. halting_debt m p) (λ p lt. none_six p) ∙ nothing (length m.cpus)

  first_left : (o : Option Op) → (first_frame setup.mode o).left ≡ 0
  first_left None = refl
  first_left (Some v) = refl

  pub rest_spins : SpinsAreFew m
  rest_spins u f e =
      let z = ap (λ (g : Frame). g.left) (sym (frames setup ok u f e).1) in
      let y = first_left (slice_get (program_at setup u.cpu 0) 0) in
      omega (arith, z, y)

sum_times : (a b c : ℕ) → a * c + b * c ≡ (a + b) * c
sum_times zero b c = omega arith
sum_times (suc a) b c = let h = sum_times a b c in omega (arith, h)

pub halting_runs_end : HaltingRunsEnd
halting_runs_end setup acts k j ok on z =
    let rest = rest_shows setup ok in
    let le = halting_runs_are_short (at_rest setup) [] acts k j rest on (rest_spins setup ok) z in
    subst (λ (n : ℕ). k ≤ (halting_budget (at_rest setup) + j) * halting_cost setup.spins n) rest.shows.whole.cpus
    (by k (halting_budget (at_rest setup)) j (halting_cost setup.spins (length (at_rest setup).cpus)) (halting_turns (at_rest setup)) le
    (rest_halting_turns setup ok))
  where
    by : (k b j c t : ℕ) → k ≤ b * c + t + j * c → t ≡ 0 → k ≤ (b + j) * c
    by k b j c t le none = let e = sum_times b j c in omega (arith, le, none, e)
