use Rattle.std.proofs.Common.{arith, ◌≡◌, ◌<◌, ℕ, List, ◌∷◌, [], ◌++◌, ◌∙◌, ap, refl, sym, subst}
use Rattle.std.proofs.Common.{◌+◌, true}
use Rattle.lk_reach.proofs.Names.{Act, Among, OnlyMoves, cpus_of, IsFront}
use Rattle.lk_reach.proofs.apart.Moves.{front_push, is_asked, only_push, all_push, among_front}
use Rattle.lk_names.specs.declared.events.Act.TheVariants as act
use Rattle.lk_reach.proofs.plan.add_preempts.Goals as goal

pub loop-cpu-preserved : goal.loop-cpu-preserved
loop-cpu-preserved c =
    let inv = c.loop-cpu.invariant in
    let xs = c.loop-cpu.acts.items in
    let n = c.loop-cpu.cpu in
    let ys = xs ++ act.Preempt n ∷ [] in
    let low = c.loop-cpu-test.true in
    let end = c.cpus-cpu-end.ensures in
    let cpus = c.requires.cpus in
    let z = c.args.machine.now.setup in
    let yes = is_asked c.args.extras.preempts c.if-not-extras.false in
    let within : n < cpus_of z = omega (arith, low, end, cpus) in
    let pushed = c.in_ok-add-2.ensures ∙ ap (λ (us : List Act). us ++ act.Resume n ∷ []) c.in_ok-add.ensures in
    record {
      only = subst (OnlyMoves c.args.extras z) (sym pushed)
          (only_push c.args.extras z ys (act.Resume n) (only_push c.args.extras z xs (act.Preempt n) inv.only (yes, within)) (yes, within));
      front = subst (IsFront c.args.acts.now.items) (sym pushed)
          (front_push c.args.acts.now.items ys (act.Resume n) (front_push c.args.acts.now.items xs (act.Preempt n) inv.front));
      preempts = subst (λ (us : List Act). (p : ℕ) → p < n + 1 → c.args.extras.preempts ≡ true → Among us (act.Preempt p)) (sym pushed)
          (λ p lt q. among_front ys (ys ++ act.Resume n ∷ []) (act.Resume n ∷ [], refl) (act.Preempt p)
          (all_push (λ _. c.args.extras.preempts ≡ true) (λ k. act.Preempt k) xs n (λ r l y. inv.preempts r l y) p lt q));
      resumes = subst (λ (us : List Act). (p : ℕ) → p < n + 1 → c.args.extras.preempts ≡ true → Among us (act.Resume p)) (sym pushed)
          (λ p lt q. all_push (λ _. c.args.extras.preempts ≡ true) (λ k. act.Resume k) ys n
          (λ r l y. among_front xs ys (act.Preempt n ∷ [], refl) (act.Resume r) (inv.resumes r l y)) p lt q);
    }
