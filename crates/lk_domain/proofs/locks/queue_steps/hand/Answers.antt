use Rattle.std.proofs.Common.{inl, subst, ℕ, false, arith, ◌<◌, not}
use Rattle.lk_domain.proofs.Names.{Unset, Flagged, running, Steps, locks_of}
use Rattle.lk_domain.proofs.{Seating.{table_of, apart_of, noted_of}, queue.FrontPlays.hand_row}
use Rattle.lk_domain.proofs.turns.Noted.{newest_low}
use Rattle.lk_domain.proofs.turns.Carried as row
use Rattle.lk_domain.proofs.turns.Stepped as stepped
use Rattle.lk_domain.proofs.locks.queue_steps.hand.Goals as goal

pub step-requires : goal.step-requires
step-requires c =
    let cpu = c.args.cpu.now in
    let noted = noted_of cpu c.args.domain.now c.requires.domain in
    let apart = apart_of cpu c.args.domain.now c.requires.domain in
    let m = cpu.seat.me in
    let n = c.hand-met.new.seat.me in
    let v = c.args.verb in
    let at = c.requires.row in
    let at_is = at.at.stands in
    let first = running c.args.verb at_is.frame at_is.trail in
    let lt : c.newest-lock.result < locks_of m.0.who.plan =
    (let low = newest_low cpu.notes (locks_of m.0.who.plan) m.0.calls first at_is.rest noted at_is.is in
    let is = c.newest-lock.ensures (locks_of m.0.who.plan) m.0.calls first at_is.rest noted at_is.is in
    omega (arith, low, is)) in
    let same = stepped.newest m.0.calls v at.lock c.newest-lock.result at.row at.at.stands (λ r rs e. c.newest-lock.ensures (locks_of m.0.who.plan) m.0.calls r rs noted e) in
    record {
      steps = (
        locks_of m.0.who.plan,
        m.0.calls,
        n.0.calls,
        noted,
        lt,
        subst (λ (l : ℕ). Steps m.0.calls n.0.calls l c.queues_up-goes_on.result false (not c.queues_up-goes_on.result)) same
            (stepped.noted_as m.0.calls n.0.calls at.lock.index v _ c.queues_up-goes_on.result c.queues_up-goes_on.ensures
            (stepped.hands v at.lock m n apart noted.few c.hand-met.result at.row (hand_row at.row at.is) at.at c.hand-met.ensures.step).steps),
      );
    }

pub invariant_of-cpu : goal.invariant_of-cpu
invariant_of-cpu c =
    let cpu = c.args.cpu.now in
    let noted = noted_of cpu c.args.domain.now c.requires.domain in
    let apart = apart_of cpu c.args.domain.now c.requires.domain in
    let m = cpu.seat.me in
    let n = c.hand-met.new.seat.me in
    let v = c.args.verb in
    let at = c.requires.row in
    let told = c.hand-met.ensures.step in
    let at_is = at.at.stands in
    let first = running c.args.verb at_is.frame at_is.trail in
    let lt : c.newest-lock.result < locks_of m.0.who.plan =
    (let low = newest_low cpu.notes (locks_of m.0.who.plan) m.0.calls first at_is.rest noted at_is.is in
    let is = c.newest-lock.ensures (locks_of m.0.who.plan) m.0.calls first at_is.rest noted at_is.is in
    omega (arith, low, is)) in
    let same = stepped.newest m.0.calls v at.lock c.newest-lock.result at.row at.at.stands (λ r rs e. c.newest-lock.ensures (locks_of m.0.who.plan) m.0.calls r rs noted e) in
    let t = stepped.hands v at.lock m n apart noted.few c.hand-met.result at.row (hand_row at.row at.is) at.at told in
    record {
      numbered = row.node_numbered (Flagged Unset) m n told.1 cpu.numbered;
      noted = λ _. row.node_noted (Flagged Unset) m n told.1
          (c.step.ensures (locks_of m.0.who.plan) m.0.calls n.0.calls noted lt
          (subst (λ (l : ℕ). Steps m.0.calls n.0.calls l c.queues_up-goes_on.result false (not c.queues_up-goes_on.result)) same
          (stepped.noted_as m.0.calls n.0.calls at.lock.index v _ c.queues_up-goes_on.result c.queues_up-goes_on.ensures t.steps)));
      apart = λ _. t.apart;
      carried = row.node_carried (Flagged Unset) m n told.1 cpu.carried;
    }

pub hand-met-requires-clause-row : goal.hand-met-requires-clause-row
hand-met-requires-clause-row c = (c.args.verb, inl c.requires.row)

pub hand-met-requires-clause-table : goal.hand-met-requires-clause-table
hand-met-requires-clause-table c = table_of c.args.domain.now
