use Rattle.lk_domain.proofs.Names.{Number, slows, locks_of}
use Rattle.lk_domain.proofs.Seating.{low_of, apart_of, noted_of}
use Rattle.lk_domain.proofs.turns.Carried as row
use Rattle.lk_domain.proofs.turns.Stepped as stepped
use Rattle.lk_domain.proofs.locks.queue_steps.enter_bare.Goals as goal

pub step-requires : goal.step-requires
step-requires c =
    let cpu = c.args.cpu.now in
    let noted = noted_of cpu c.args.domain.now c.requires.domain in
    let apart = apart_of cpu c.args.domain.now c.requires.domain in
    let m = cpu.seat.me in
    let n = c.enter_bare.new.seat.me in
    record {
      steps = (
        locks_of m.0.who.plan,
        m.0.calls,
        n.0.calls,
        noted,
        low_of cpu c.args.domain.now c.args.lock.index c.requires.domain c.requires.lock,
        (stepped.enters c.args.verb c.args.lock m n apart noted.few 0 c.requires.row.at c.enter_bare.ensures.step).steps,
      );
    }

pub invariant_of-cpu : goal.invariant_of-cpu
invariant_of-cpu c =
    let cpu = c.args.cpu.now in
    let noted = noted_of cpu c.args.domain.now c.requires.domain in
    let apart = apart_of cpu c.args.domain.now c.requires.domain in
    let m = cpu.seat.me in
    let n = c.enter_bare.new.seat.me in
    let told = c.enter_bare.ensures.step in
    let t = stepped.enters c.args.verb c.args.lock m n apart noted.few 0 c.requires.row.at told in
    record {
      numbered = row.node_numbered (Number (slows m.0.calls.frames)) m n told cpu.numbered;
      noted = λ _. row.node_noted (Number (slows m.0.calls.frames)) m n told
          (c.step.ensures (locks_of m.0.who.plan) m.0.calls n.0.calls noted (low_of cpu c.args.domain.now c.args.lock.index c.requires.domain c.requires.lock) t.steps);
      apart = λ _. t.apart;
      carried = row.node_carried (Number (slows m.0.calls.frames)) m n told cpu.carried;
    }

pub enter_bare-requires-clause-row : goal.enter_bare-requires-clause-row
enter_bare-requires-clause-row c = (c.args.verb, c.requires.row)
