use Rattle.std.proofs.Common.{arith, ◌<◌, ℕ, List, sym, subst, ◌+◌}
use Rattle.lk_reach.proofs.Names.{Act, Among, OnlyMoves, cpus_of, IsFront}
use Rattle.lk_reach.proofs.apart.Moves.{front_push, only_push, all_push}
use Rattle.lk_names.specs.declared.events.Act.TheVariants as act
use Rattle.lk_reach.proofs.plan.add_steps.Goals as goal

pub loop-cpu-preserved : goal.loop-cpu-preserved
loop-cpu-preserved c =
    let inv = c.loop-cpu.invariant in
    let xs = c.loop-cpu.acts.items in
    let n = c.loop-cpu.cpu in
    let low = c.loop-cpu-test.true in
    let end = c.cpus-cpu-end.ensures in
    let cpus = c.requires.cpus in
    let z = c.args.machine.now.setup in
    let within : n < cpus_of z = omega (arith, low, end, cpus) in
    let pushed = c.in_ok-add.ensures in
    record {
      only = subst (OnlyMoves c.args.extras z) (sym pushed)
          (only_push c.args.extras z xs (act.Step n) inv.only within);
      front = subst (IsFront c.args.acts.now.items) (sym pushed)
          (front_push c.args.acts.now.items xs (act.Step n) inv.front);
      all = subst (λ (ys : List Act). (p : ℕ) → p < n + 1 → Among ys (act.Step p)) (sym pushed)
          (λ p lt. all_push (λ _. Unit {0}) (λ k. act.Step k) xs n (λ q l _. inv.all q l) p lt tt);
    }
