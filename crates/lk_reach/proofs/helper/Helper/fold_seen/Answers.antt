use Rattle.std.proofs.Common.{arith, subst, sym}
use Rattle.lk_reach.proofs.Names.{IsSuch, Machine}
use Rattle.lk_reach.proofs.apart.Helped as helped
use Rattle.lk_reach.proofs.apart.Noted as noted
use Rattle.lk_reach.proofs.helper.Helper.fold_seen.Goals as goal

pub returns-in-Some-clause-leads : goal.returns-in-Some-clause-leads
returns-in-Some-clause-leads c s has reached =
    let p = c.args.plan.now in
    let z = c.args.self.now.machine.setup in
    let v = c.args.space.now in
    let h = c.requires.here in
    let m = c.args.self.now.machine in
    let e = c.in-Some.ensures in
    let has_fold = (h.folds c.requires.folds).each c.in-Some.number e.there in
    helped.is_known p z h.begun v c.args.here.now.spot.state s m has reached c.requires.such c.in-Some.number
    (record { state = has_fold.state; keeps = has_fold.keeps; reached = has_fold.reached })
    (λ t keeps kind. e.alike t m keeps c.in_ok-key.ensures kind)

pub key_seen-requires-2 : goal.key_seen-requires-2
key_seen-requires-2 c =
    let p = c.args.plan.now in
    let z = c.args.self.now.machine.setup in
    let h = c.requires.here in
    let m = c.args.self.now.machine in
    let reached = noted.reached_behind p z h.begun c.args.space.now c.args.here.now c.args.doing m h c.requires.moves c.requires.behind in
    let cpus = (noted.renumbered_such p z h.begun m c.become_fold.new.machine reached c.become_fold.ensures).cpus in
    let before = c.requires.such.cpus in
    let few = c.requires.may.few in
    record { few = omega (arith, cpus, before, few) }

pub returns-in_err-fold-clause-such : goal.returns-in_err-fold-clause-such
returns-in_err-fold-clause-such c =
    let p = c.args.plan.now in
    let z = c.args.self.now.machine.setup in
    let h = c.requires.here in
    let m = c.args.self.now.machine in
    noted.renumbered_such p z h.begun m c.become_fold.new.machine
    (noted.reached_behind p z h.begun c.args.space.now c.args.here.now c.args.doing m h c.requires.moves c.requires.behind)
    c.become_fold.ensures

pub returns-in-Some-known_fold-clause-leads : goal.returns-in-Some-known_fold-clause-leads
returns-in-Some-known_fold-clause-leads c s has reached =
    let p = c.args.plan.now in
    let z = c.args.self.now.machine.setup in
    let v = c.args.space.now in
    let h = c.requires.here in
    let m = c.args.self.now.machine in
    let n = c.become_fold.new.machine in
    let it = c.become_fold.ensures in
    let e = c.in-Some-known_fold.ensures in
    helped.known_by_fold p z v c.args.here.now.spot.state c.in-Some-known_fold.number s m n c.in_ok-key.key it.renaming h.begun
    it.fits it.is (noted.reached_behind p z h.begun v c.args.here.now c.args.doing m h c.requires.moves c.requires.behind)
    c.requires.folds (h.folds c.requires.folds) c.in_ok-key.ensures e.there e.other
    (λ t folds kind. e.alike t n folds c.in_ok-fold.ensures kind)

pub returns-in-Some-known_fold-clause-such : goal.returns-in-Some-known_fold-clause-such
returns-in-Some-known_fold-clause-such c =
    let p = c.args.plan.now in
    let z = c.args.self.now.machine.setup in
    let h = c.requires.here in
    let m = c.args.self.now.machine in
    noted.renumbered_such p z h.begun m c.become_fold.new.machine
    (noted.reached_behind p z h.begun c.args.space.now c.args.here.now c.args.doing m h c.requires.moves c.requires.behind)
    c.become_fold.ensures

pub returns-in-Some-fold_before-clause-leads : goal.returns-in-Some-fold_before-clause-leads
returns-in-Some-fold_before-clause-leads c s has reached =
    helped.keys_found c.args.plan.now c.args.self.now.machine.setup c.requires.here.begun c.args.space.now
    c.args.self.now.findings.items c.in_ok-key.key c.in-Some-fold_before.fold c.args.self.now.machine c.requires.may.moves
    c.requires.found c.in-Some-fold_before.ensures c.requires.such c.in_ok-key.ensures

pub returns-clause-such : goal.returns-clause-such
returns-clause-such c =
    let p = c.args.plan.now in
    let z = c.args.self.now.machine.setup in
    let h = c.requires.here in
    let m = c.args.self.now.machine in
    subst (λ (q : Machine). IsSuch z q) (sym c.note_fold.ensures.machine)
    (noted.renumbered_such p z h.begun m c.become_fold.new.machine
    (noted.reached_behind p z h.begun c.args.space.now c.args.here.now c.args.doing m h c.requires.moves c.requires.behind)
    c.become_fold.ensures)
