use Rattle.lk_domain.proofs.Names.{Write, locks_of, awaits_by}
use Rattle.lk_domain.proofs.Seating.{apart_of, noted_of}
use Rattle.lk_domain.proofs.rw.Stepped as stepped
use Rattle.lk_domain.proofs.locks.rw_steps.set_waiting.Goals as goal

pub act_by-requires-clause-row : goal.act_by-requires-clause-row
act_by-requires-clause-row c =
    stepped.as_one awaits_by Write stepped.await_is c.args.cpu.now.seat.me.0 c.args.verb c.args.lock.index c.requires.row

pub invariant_of-cpu : goal.invariant_of-cpu
invariant_of-cpu c =
    let cpu = c.args.cpu.now in
    let noted = noted_of cpu c.args.domain.now c.requires.domain in
    let apart = apart_of cpu c.args.domain.now c.requires.domain in
    let l = c.args.lock.index in
    let m = cpu.seat.me in
    let n = c.act_by.new.seat.me in
    let met = c.act_by.result in
    let made = c.act_by.ensures.step in
    let acts = stepped.as_one awaits_by Write stepped.await_is m.0 c.args.verb l c.requires.row in
    record {
      numbered = stepped.numbered Write l met m n made apart noted.few cpu.numbered;
      noted = λ _. stepped.noted Write l met m n made apart noted.few
          (stepped.await_noted Write l met m n made apart noted.few cpu.notes (locks_of m.0.who.plan) noted acts);
      apart = λ _. (stepped.await Write l met m n made apart noted.few acts).apart;
      carried = stepped.carried Write l met m n made apart noted.few cpu.carried;
    }
