use Rattle.std.proofs.Common.{refl}
use Rattle.lk_domain.proofs.Names.{Linked, locks_of}
use Rattle.lk_domain.proofs.{Seating.{apart_of, noted_of}, turns.Noted.stays}
use Rattle.lk_domain.proofs.turns.Carried as row
use Rattle.lk_domain.proofs.turns.Stepped as stepped
use Rattle.lk_domain.proofs.locks.choice_steps.look_next.Goals as goal

pub invariant_of-cpu : goal.invariant_of-cpu
invariant_of-cpu c =
    let cpu = c.args.cpu.now in
    let noted = noted_of cpu c.args.domain.now c.requires.domain in
    let apart = apart_of cpu c.args.domain.now c.requires.domain in
    let m = cpu.seat.me in
    let n = c.look_on.new.seat.me in
    let seen = c.look_on.ensures.step in
    let at = c.requires.row in
    let t = stepped.skipped c.args.verb at.lock m n apart noted.few seen.found seen.mark at.at seen.seat in
    record {
      numbered = row.node_numbered (Linked seen.found seen.mark) m n seen.seat cpu.numbered;
      noted = λ _. row.node_noted (Linked seen.found seen.mark) m n seen.seat
          (stays cpu.notes (locks_of m.0.who.plan) m.0.calls n.0.calls at.lock.index _ noted t.steps (t.on refl) t.was);
      apart = λ _. t.apart;
      carried = row.node_carried (Linked seen.found seen.mark) m n seen.seat cpu.carried;
    }

pub look_on-requires-clause-row : goal.look_on-requires-clause-row
look_on-requires-clause-row c = (c.args.verb, c.requires.row)
