use Rattle.std.proofs.Common.{true, false, arith, ◌∙◌}
use Rattle.std.proofs.lemmas.Option.{get_or_from_slice_get}
use Rattle.lk_port.proofs.Names.{calls_of, ledger_of, domain_of}
use Rattle.lk_port.proofs.Shares.{runs_rw}
use Rattle.lk_port.proofs.Ports as port
use Rattle.lk_port.proofs.port.Port.is_writing.Goals as goal

pub runs-requires : goal.runs-requires
runs-requires c = runs_rw c.args.self.now.share c.args.lock.index c.requires.may.kind

pub returns-clause-writes : goal.returns-clause-writes
returns-clause-writes c is =
    let me = c.args.self.now in
    let d = domain_of me.share in
    let may = c.requires.may in
    let l = c.args.lock.index in
    let idle = port.rests d me.notes.items me.pending me.cpu may.free c.runs.ensures.stands in
    let noted = get_or_from_slice_get me.notes.items l c.get.result.now false c.get.ensures ∙ is in
    port.way d.plan me.notes.items (calls_of me.cpu) (ledger_of me.cpu) l true idle may.kind may.holds noted

pub returns-clause-reads : goal.returns-clause-reads
returns-clause-reads c is =
    let me = c.args.self.now in
    let d = domain_of me.share in
    let may = c.requires.may in
    let l = c.args.lock.index in
    let idle = port.rests d me.notes.items me.pending me.cpu may.free c.runs.ensures.stands in
    let noted = get_or_from_slice_get me.notes.items l c.get.result.now false c.get.ensures ∙ is in
    port.way d.plan me.notes.items (calls_of me.cpu) (ledger_of me.cpu) l false idle may.kind may.holds noted

pub get-requires : goal.get-requires
get-requires c =
    let me = c.args.self.now in
    let may = c.requires.may in
    let idle = port.rests (domain_of me.share) me.notes.items me.pending me.cpu may.free c.runs.ensures.stands in
    omega (arith, may.lock, idle.noted.long)
