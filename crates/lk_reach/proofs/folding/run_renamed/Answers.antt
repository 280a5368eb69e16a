use Rattle.std.proofs.Common.{◌≡◌, ◌<◌, ◌+◌, ◌∙◌, suc, ap, arith, length, subst, sym, take}
use Rattle.lk_reach.proofs.Names.{Act, processor_of, Machine, Setup, IsSound, renamed, renamed_act}
use Rattle.lk_reach.proofs.Names.{IsSuch, renaming_of, after, bare, run, start_of}
use Rattle.lk_reach.proofs.Closed as closed
use Rattle.lk_reach.proofs.Folded as folded
use Rattle.lk_reach.proofs.Left as left
use Rattle.lk_reach.proofs.apart.Noted as noted
use Rattle.lk_reach.proofs.folding.run_renamed.Goals as goal

pub load-requires-clause-there : goal.load-requires-clause-there
load-requires-clause-there c =
    let p = c.args.plan.now in
    let z = c.args.machine.now.setup in
    let begun = c.requires.begun in
    let s = bare (start_of p z) in
    let start = closed.reached_start folded.laws p z begun in
    left.loadable z c.args.space.now 0 c.args.machine.now c.requires.such (record {
      state = s;
      keeps = c.requires.folds.first;
      such = closed.reached_such folded.laws p z begun s start;
      sound = closed.reached_sound folded.laws p z begun s start;
    })

pub loop-at-init : goal.loop-at-init
loop-at-init c =
    let p = c.args.plan.now in
    let z = c.args.machine.now.setup in
    let begun = c.requires.begun in
    let s = bare (start_of p z) in
    let n = c.load.new.machine in
    let ld = c.load.ensures in
    let such : IsSuch z n = left.loaded_such z c.args.machine.now n ld.setup ld.counts ld.cpus ld.locks c.requires.such in
    let same : n ≡ s = left.loaded_is z c.args.space.now 0 n s ld.keeps such c.requires.folds.first
    (closed.reached_such folded.laws p z begun s (closed.reached_start folded.laws p z begun)) in
    same ∙ sym (folded.start_renamed p z begun (renaming_of c.args.order.now) c.requires.order)
    ∙ ap (λ m. renamed (renaming_of c.args.order.now) m) (noted.run_none c.args.way.now.items s)

pub make-requires : goal.make-requires
make-requires c =
    let p = c.args.plan.now in
    let z = c.args.machine.now.setup in
    let begun = c.requires.begun in
    let r = renaming_of c.args.order.now in
    let way = c.args.way.now.items in
    let n = c.loop-at.at in
    let s = run (bare (start_of p z)) (take n way) in
    let moves = c.requires.moves in
    let reached = folded.reached_renamed p z begun r c.requires.order s
    (noted.reached_by p z begun (take n way) (noted.moves_take p.extras z way n moves)) in
    let such = closed.reached_such folded.laws p z begun (renamed r s) reached in
    let a = c.step.result in
    let move = folded.move_renamed p z begun r c.requires.order a (noted.moves_at p.extras z way n a moves c.step.ensures) in
    let low = closed.move_in_range p.extras z (renamed_act r a) move in
    let act = ap (λ (b : Act). processor_of b) c.act.ensures in
    let cpus = such.cpus in
    let inv = sym c.loop-at.invariant in
    record {
      such = subst (λ (m : Machine). IsSuch m.setup m) inv (subst (λ (q : Setup). IsSuch q (renamed r s)) (sym such.setup) such);
      sound = subst (λ (m : Machine). IsSound m) inv (closed.reached_sound folded.laws p z begun (renamed r s) reached);
      range = subst (λ (m : Machine). processor_of c.act.result < length m.cpus) inv (omega (arith, low, cpus, act));
    }

pub loop-at-preserved : goal.loop-at-preserved
loop-at-preserved c =
    let p = c.args.plan.now in
    let z = c.args.machine.now.setup in
    let begun = c.requires.begun in
    let r = renaming_of c.args.order.now in
    let way = c.args.way.now.items in
    let n = c.loop-at.at in
    let u = run (bare (start_of p z)) (take n way) in
    let next : suc n ≡ n + 1 = omega arith in
    c.make.ensures.after ∙ ap (λ m. after m c.act.result) c.loop-at.invariant ∙ ap (λ b. after (renamed r u) b) c.act.ensures
    ∙ noted.renamed_take p z begun r c.requires.order way (c.requires.moves) n c.step.result c.step.ensures
    ∙ ap (λ k. renamed r (run (bare (start_of p z)) (take k way))) next

pub returns : goal.returns
returns c =
    let p = c.args.plan.now in
    let z = c.args.machine.now.setup in
    let r = renaming_of c.args.order.now in
    let way = c.args.way.now.items in
    let end = c.loop-at-test.false in
    let size = c.len-at-end.ensures in
    c.loop-at.invariant
    ∙ ap (λ acts. renamed r (run (bare (start_of p z)) acts)) (noted.take_all way c.loop-at.at (omega (arith, end, size)))
    ∙ ap (λ m. renamed r m) (closed.run_bare way (start_of p z))
