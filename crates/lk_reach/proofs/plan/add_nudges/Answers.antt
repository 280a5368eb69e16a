use Rattle.std.proofs.Common.{arith, ◌≡◌, ◌<◌, ℕ, List, sym, subst, ◌+◌, true}
use Rattle.lk_reach.proofs.Names.{Act, Among, OnlyMoves, cpus_of, IsFront}
use Rattle.lk_reach.proofs.apart.Moves.{front_push, is_asked, only_push, all_push}
use Rattle.lk_names.specs.declared.events.Act.TheVariants as act
use Rattle.lk_reach.proofs.plan.add_nudges.Goals as goal

pub loop-cpu-preserved : goal.loop-cpu-preserved
loop-cpu-preserved c =
    let inv = c.loop-cpu.invariant in
    let xs = c.loop-cpu.acts.items in
    let n = c.loop-cpu.cpu in
    let low = c.loop-cpu-test.true in
    let end = c.cpus-cpu-end.ensures in
    let cpus = c.requires.cpus in
    let z = c.args.machine.now.setup in
    let within : n < cpus_of z = omega (arith, low, end, cpus) in
    let pushed = c.in_ok-add.ensures in
    record {
      only = subst (OnlyMoves c.args.extras z) (sym pushed)
          (only_push c.args.extras z xs (act.Nudge n) inv.only (is_asked c.args.extras.nudges c.if-not-extras.false, within));
      front = subst (IsFront c.args.acts.now.items) (sym pushed)
          (front_push c.args.acts.now.items xs (act.Nudge n) inv.front);
      all = subst (λ (ys : List Act). (p : ℕ) → p < n + 1 → c.args.extras.nudges ≡ true → Among ys (act.Nudge p)) (sym pushed)
          (λ p lt yes. all_push (λ _. c.args.extras.nudges ≡ true) (λ k. act.Nudge k) xs n (λ q l y. inv.all q l y) p lt yes);
    }
