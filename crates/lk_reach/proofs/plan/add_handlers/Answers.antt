use Rattle.std.proofs.Common.{arith, ◌<◌, ℕ, List, sym, subst, ◌+◌, inl, inr}
use Rattle.lk_reach.proofs.Names.{cases_lt, Act, Among, OnlyMoves, cpus_of, IsFront}
use Rattle.lk_rows.specs.Programs.{handlers_of}
use Rattle.lk_reach.proofs.apart.Moves.{front_push, only_push, all_push, all_skip}
use Rattle.lk_names.specs.declared.events.Act.TheVariants as act
use Rattle.lk_reach.proofs.plan.add_handlers.Goals as goal

pub loop-cpu-preserved : goal.loop-cpu-preserved
loop-cpu-preserved c =
    let inv = c.loop-cpu.invariant in
    let xs = c.loop-cpu.acts.items in
    let ys = c.add_handler.new.acts.items in
    let n = c.loop-cpu.cpu in
    let low = c.loop-cpu-test.true in
    let end = c.cpus-cpu-end.ensures in
    let cpus = c.requires.cpus in
    let z = c.args.machine.now.setup in
    let within : n < cpus_of z = omega (arith, low, end, cpus) in
    elim (cases_lt 0 (handlers_of z n)) [
      | inl some ↦
          let pushed = c.in_ok-add_handler.ensures.some some in
          record {
            only = subst (OnlyMoves c.args.extras z) (sym pushed)
                (only_push c.args.extras z xs (act.Interrupt n) inv.only (within, some));
            front = subst (IsFront c.args.acts.now.items) (sym pushed)
                (front_push c.args.acts.now.items xs (act.Interrupt n) inv.front);
            all = subst (λ (us : List Act). (p : ℕ) → p < n + 1 → 0 < handlers_of z p → Among us (act.Interrupt p)) (sym pushed)
                (λ p lt q. all_push (λ k. 0 < handlers_of z k) (λ k. act.Interrupt k) xs n inv.all p lt q);
          }
      | inr none ↦
          let same = c.in_ok-add_handler.ensures.none (omega (arith, none)) in
          record {
            only = subst (OnlyMoves c.args.extras z) (sym same) inv.only;
            front = subst (IsFront c.args.acts.now.items) (sym same) inv.front;
            all = subst (λ (us : List Act). (p : ℕ) → p < n + 1 → 0 < handlers_of z p → Among us (act.Interrupt p)) (sym same)
                (λ p lt q. all_skip (λ k. 0 < handlers_of z k) (λ k. act.Interrupt k) xs n (λ high. omega (arith, none, high)) inv.all p lt q);
          }
    ]
