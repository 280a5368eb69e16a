use Rattle.std.proofs.Common.{subst, arith, ℕ, ◌<◌, true, false}
use Rattle.lk_domain.proofs.Names.{G1, Number, running, slows, Steps, locks_of}
use Rattle.lk_domain.proofs.{Seating.{apart_of, noted_of}, turns.Noted.newest_low}
use Rattle.lk_domain.proofs.turns.Carried as row
use Rattle.lk_domain.proofs.turns.Stepped as stepped
use Rattle.lk_domain.proofs.locks.queue_steps.enter.Goals as goal

pub step-requires : goal.step-requires
step-requires c =
    let cpu = c.args.cpu.now in
    let noted = noted_of cpu c.args.domain.now c.requires.domain in
    let apart = apart_of cpu c.args.domain.now c.requires.domain in
    let m = cpu.seat.me in
    let n = c.enter.new.seat.me in
    let row = c.requires.row in
    let at_is = row.at.stands in
    let first = running c.args.verb at_is.frame at_is.trail in
    let lt : c.newest-lock.result < locks_of m.0.who.plan =
    (let low = newest_low cpu.notes (locks_of m.0.who.plan) m.0.calls first at_is.rest noted at_is.is in
    let is = c.newest-lock.ensures (locks_of m.0.who.plan) m.0.calls first at_is.rest noted at_is.is in
    omega (arith, low, is)) in
    let same = stepped.newest m.0.calls c.args.verb row.lock c.newest-lock.result G1 row.at.stands (λ r rs e. c.newest-lock.ensures (locks_of m.0.who.plan) m.0.calls r rs noted e) in
    record {
      steps = (
        locks_of m.0.who.plan,
        m.0.calls,
        n.0.calls,
        noted,
        lt,
        subst (λ (l : ℕ). Steps m.0.calls n.0.calls l _ _ _) same
            (stepped.enters c.args.verb row.lock m n apart noted.few 0 row.at c.enter.ensures.step).steps,
      );
    }

pub invariant_of-cpu : goal.invariant_of-cpu
invariant_of-cpu c =
    let cpu = c.args.cpu.now in
    let noted = noted_of cpu c.args.domain.now c.requires.domain in
    let apart = apart_of cpu c.args.domain.now c.requires.domain in
    let m = cpu.seat.me in
    let n = c.enter.new.seat.me in
    let at = c.requires.row in
    let told = c.enter.ensures.step in
    let at_is = at.at.stands in
    let first = running c.args.verb at_is.frame at_is.trail in
    let lt : c.newest-lock.result < locks_of m.0.who.plan =
    (let low = newest_low cpu.notes (locks_of m.0.who.plan) m.0.calls first at_is.rest noted at_is.is in
    let is = c.newest-lock.ensures (locks_of m.0.who.plan) m.0.calls first at_is.rest noted at_is.is in
    omega (arith, low, is)) in
    let same = stepped.newest m.0.calls c.args.verb at.lock c.newest-lock.result G1 at.at.stands (λ r rs e. c.newest-lock.ensures (locks_of m.0.who.plan) m.0.calls r rs noted e) in
    let t = stepped.enters c.args.verb at.lock m n apart noted.few 0 at.at told in
    record {
      numbered = row.node_numbered (Number (slows m.0.calls.frames)) m n told cpu.numbered;
      noted = λ _. row.node_noted (Number (slows m.0.calls.frames)) m n told
          (c.step.ensures (locks_of m.0.who.plan) m.0.calls n.0.calls noted lt (subst (λ (l : ℕ). Steps m.0.calls n.0.calls l true true false) same t.steps));
      apart = λ _. t.apart;
      carried = row.node_carried (Number (slows m.0.calls.frames)) m n told cpu.carried;
    }

pub enter-requires-clause-row : goal.enter-requires-clause-row
enter-requires-clause-row c = (c.args.verb, c.requires.row)
