use Rattle.std.proofs.Common.{arith}
use Rattle.lk_reach.proofs.Names.{Keeps}
use Rattle.lk_reach.proofs.Kept.{keeps_grown}
use Rattle.lk_reach.proofs.exploring.note_first.Goals as goal

pub returns-clause-keeps : goal.returns-clause-keeps
returns-clause-keeps c =
    let m = c.args.machine.now in
    let w = c.note.new.self in
    let e = c.in_ok-note.ensures in
    let none = c.requires.keys in
    let there = e.there in
    let keeps : Keeps w 0 m = (e.one 0 (omega (arith, none)) (omega (arith, there))).1 in
    keeps_grown w c.fold_first.new.self c.in_ok-fold_first.ensures.grows 0 m keeps
