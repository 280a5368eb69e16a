use Rattle.std.proofs.Common.{false, sym, ◌∙◌, arith}
use Rattle.std.proofs.lemmas.Option.{get_or_from_slice_get}
use Rattle.lk_port.proofs.HaltingPorts as port
use Rattle.lk_port.proofs.port.Port.has.Goals as goal

pub get-requires : goal.get-requires
get-requires c =
    let me = c.args.self.now in
    let low = c.requires in
    let held = port.noted me.share me.notes.items me.pending me.cpu (sym c.halts.ensures ∙ c.if-halts.true) c.stands.ensures in
    omega (arith, low, held.long)

pub returns-then-halts : goal.returns-then-halts
returns-then-halts c =
    let me = c.args.self.now in
    let held = port.noted me.share me.notes.items me.pending me.cpu (sym c.halts.ensures ∙ c.if-halts.true) c.stands.ensures in
    sym (get_or_from_slice_get me.notes.items c.args.lock.index c.get.result.now false c.get.ensures) ∙ held.each c.args.lock.index c.requires
