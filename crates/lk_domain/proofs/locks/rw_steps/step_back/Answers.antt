use Rattle.std.proofs.Common.{refl}
use Rattle.lk_domain.proofs.Names.{Read, locks_of}
use Rattle.lk_domain.proofs.Seating.{apart_of, noted_of}
use Rattle.lk_domain.proofs.rw.Stepped as stepped
use Rattle.lk_domain.proofs.locks.rw_steps.step_back.Goals as goal

pub invariant_of-cpu : goal.invariant_of-cpu
invariant_of-cpu c =
    let cpu = c.args.cpu.now in
    let noted = noted_of cpu c.args.domain.now c.requires.domain in
    let apart = apart_of cpu c.args.domain.now c.requires.domain in
    let m = cpu.seat.me in
    let n = c.act_by.new.seat.me in
    let met = c.act_by.result in
    let made = c.act_by.ensures.step in
    record {
      numbered = stepped.numbered Read c.args.lock met m n made apart noted.few cpu.numbered;
      noted = λ _. stepped.noted Read c.args.lock met m n made apart noted.few
          (stepped.quit_noted c.args.lock met m n made apart noted.few cpu.notes (locks_of m.0.who.plan) noted c.requires.row);
      apart = λ _. (stepped.quit Read c.args.lock met m n made apart noted.few c.requires.row refl).apart;
      carried = stepped.carried Read c.args.lock met m n made apart noted.few cpu.carried;
    }
