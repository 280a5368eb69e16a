use Rattle.lk_domain.proofs.turns.Carried as row
use Rattle.lk_domain.proofs.turns.Stepped as stepped
use Rattle.lk_domain.proofs.Names.{locks_of}
use Rattle.lk_domain.proofs.Seating.{table_of, low_of, apart_of, noted_of}
use Rattle.lk_domain.proofs.words.Goings.{at_free, wait_home}
use Rattle.lk_domain.proofs.locks.steps.free_wait.Goals as goal

pub step-requires : goal.step-requires
step-requires c =
    let cpu = c.args.cpu.now in
    let noted = noted_of cpu c.args.domain.now c.requires.domain in
    let apart = apart_of cpu c.args.domain.now c.requires.domain in
    let m = cpu.seat.me in
    let n = c.go_on-met.new.seat.me in
    record {
      steps = (
        locks_of m.0.who.plan,
        m.0.calls,
        n.0.calls,
        noted,
        low_of cpu c.args.domain.now c.args.lock.index c.requires.domain c.requires.lock,
        (stepped.frees c.args.verb c.args.lock c.go_on-met.result m n (c.go_on-met.ensures.made c.args.verb (at_free c.args.cpu.now.seat.me.0 c.args.verb c.args.lock c.requires.verb c.requires.row)) apart noted.few c.requires.verb c.requires.row).steps,
      );
    }

pub invariant_of-cpu : goal.invariant_of-cpu
invariant_of-cpu c =
    let cpu = c.args.cpu.now in
    let noted = noted_of cpu c.args.domain.now c.requires.domain in
    let apart = apart_of cpu c.args.domain.now c.requires.domain in
    let l = c.args.lock in
    let v = c.args.verb in
    let m = cpu.seat.me in
    let n = c.go_on-met.new.seat.me in
    let met = c.go_on-met.result in
    let made = c.go_on-met.ensures.made c.args.verb (at_free c.args.cpu.now.seat.me.0 c.args.verb c.args.lock c.requires.verb c.requires.row) in
    let t = stepped.frees v l met m n made apart noted.few c.requires.verb c.requires.row in
    record {
      numbered = row.numbered v l.index met m n made cpu.numbered;
      noted = λ _. row.noted v l.index met m n made
          (c.step.ensures (locks_of m.0.who.plan) m.0.calls n.0.calls noted (low_of cpu c.args.domain.now c.args.lock.index c.requires.domain c.requires.lock) t.steps);
      apart = λ _. t.apart;
      carried = row.carried v l.index met m n made cpu.carried;
    }

pub go_on-met-requires-clause-table : goal.go_on-met-requires-clause-table
go_on-met-requires-clause-table c = table_of c.args.domain.now

pub go_on-met-requires-clause-row : goal.go_on-met-requires-clause-row
go_on-met-requires-clause-row c = (c.args.verb, at_free c.args.cpu.now.seat.me.0 c.args.verb c.args.lock c.requires.verb c.requires.row)

pub go_on-met-requires-clause-home : goal.go_on-met-requires-clause-home
go_on-met-requires-clause-home c = λ e. wait_home c.args.cpu.now.seat.me.0 c.args.verb c.args.lock c.requires.verb c.requires.row.inside

pub returns-clause-step : goal.returns-clause-step
returns-clause-step c = record { by = c.go_on-met.ensures.made c.args.verb (at_free c.args.cpu.now.seat.me.0 c.args.verb c.args.lock c.requires.verb c.requires.row) }
