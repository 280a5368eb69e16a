use Rattle.std.proofs.Common.{refl}
use Rattle.lk_domain.proofs.Names.{TryRead, locks_of}
use Rattle.lk_domain.proofs.Seating.{low_of, apart_of, noted_of}
use Rattle.lk_domain.proofs.rw.Stepped as stepped
use Rattle.lk_domain.proofs.locks.rw_steps.give_up.Goals as goal

pub step-requires : goal.step-requires
step-requires c =
    let cpu = c.args.cpu.now in
    let noted = noted_of cpu c.args.domain.now c.requires.domain in
    let apart = apart_of cpu c.args.domain.now c.requires.domain in
    let m = cpu.seat.me in
    let n = c.act_by-met.new.seat.me in
    record {
      steps = (
        locks_of m.0.who.plan,
        m.0.calls,
        n.0.calls,
        noted,
        low_of cpu c.args.domain.now c.args.lock c.requires.domain c.requires.lock,
        (stepped.quit TryRead c.args.lock c.act_by-met.result m n c.act_by-met.ensures.step apart noted.few c.requires.row refl).steps,
      );
    }

pub invariant_of-cpu : goal.invariant_of-cpu
invariant_of-cpu c =
    let cpu = c.args.cpu.now in
    let noted = noted_of cpu c.args.domain.now c.requires.domain in
    let apart = apart_of cpu c.args.domain.now c.requires.domain in
    let m = cpu.seat.me in
    let n = c.act_by-met.new.seat.me in
    let met = c.act_by-met.result in
    let made = c.act_by-met.ensures.step in
    let t = stepped.quit TryRead c.args.lock met m n made apart noted.few c.requires.row refl in
    record {
      numbered = stepped.numbered TryRead c.args.lock met m n made apart noted.few cpu.numbered;
      noted = λ _. stepped.noted TryRead c.args.lock met m n made apart noted.few
          (c.step.ensures (locks_of m.0.who.plan) m.0.calls n.0.calls noted (low_of cpu c.args.domain.now c.args.lock c.requires.domain c.requires.lock) t.steps);
      apart = λ _. t.apart;
      carried = stepped.carried TryRead c.args.lock met m n made apart noted.few cpu.carried;
    }
