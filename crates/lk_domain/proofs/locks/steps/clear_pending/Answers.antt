use Rattle.std.proofs.Common.{refl}
use Rattle.lk_domain.proofs.Names.{locks_of}
use Rattle.lk_domain.proofs.{Seating.{table_of, apart_of, noted_of}, turns.Noted.stays}
use Rattle.lk_domain.proofs.words.Goings.{at_clear}
use Rattle.lk_domain.proofs.turns.Carried as row
use Rattle.lk_domain.proofs.turns.Stepped as stepped
use Rattle.lk_domain.proofs.locks.steps.clear_pending.Goals as goal

pub invariant_of-cpu : goal.invariant_of-cpu
invariant_of-cpu c =
    let cpu = c.args.cpu.now in
    let noted = noted_of cpu c.args.domain.now c.requires.domain in
    let apart = apart_of cpu c.args.domain.now c.requires.domain in
    let l = c.args.lock in
    let v = c.args.verb in
    let m = cpu.seat.me in
    let n = c.go_on.new.seat.me in
    let met = c.go_on.result in
    let made = c.go_on.ensures.made c.args.verb (at_clear c.args.cpu.now.seat.me.0 c.args.verb c.args.lock c.requires.row) in
    let t = stepped.clears v l met m n made apart noted.few c.requires.row in
    record {
      numbered = row.numbered v l.index met m n made cpu.numbered;
      noted = λ _. row.noted v l.index met m n made
          (stays cpu.notes (locks_of m.0.who.plan) m.0.calls n.0.calls l.index _ noted t.steps (t.on refl) t.was);
      apart = λ _. t.apart;
      carried = row.carried v l.index met m n made cpu.carried;
    }

pub go_on-requires-clause-table : goal.go_on-requires-clause-table
go_on-requires-clause-table c = table_of c.args.domain.now

pub go_on-requires-clause-row : goal.go_on-requires-clause-row
go_on-requires-clause-row c = (c.args.verb, at_clear c.args.cpu.now.seat.me.0 c.args.verb c.args.lock c.requires.row)

pub returns-clause-step : goal.returns-clause-step
returns-clause-step c = record { by = c.go_on.ensures.made c.args.verb (at_clear c.args.cpu.now.seat.me.0 c.args.verb c.args.lock c.requires.row) }
