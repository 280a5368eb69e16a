use Rattle.lk_domain.proofs.turns.Carried as row
use Rattle.lk_domain.proofs.turns.Stepped as stepped
use Rattle.lk_domain.proofs.Names.{locks_of}
use Rattle.lk_domain.proofs.Seating.{low_of, apart_of, noted_of}
use Rattle.lk_domain.proofs.locks.steps.look_word.Goals as goal

pub step-requires : goal.step-requires
step-requires c =
    let cpu = c.args.cpu.now in
    let noted = noted_of cpu c.args.domain.now c.requires.domain in
    let apart = apart_of cpu c.args.domain.now c.requires.domain in
    let m = cpu.seat.me in
    let n = c.seat_looks-met.new.seat.me in
    record {
      steps = (
        locks_of m.0.who.plan,
        m.0.calls,
        n.0.calls,
        noted,
        low_of cpu c.args.domain.now c.args.lock.index c.requires.domain c.requires.lock,
        stepped.looks_noted c.args.verb c.args.lock c.seat_looks-met.result m n c.seat_looks-met.ensures.step apart noted.few
            c.requires.row c.waits_after_look-waits.result c.is_slow-slow.result c.waits_after_look-waits.ensures (c.is_slow-slow.ensures (locks_of m.0.who.plan) m.0.calls noted),
      );
    }

pub invariant_of-cpu : goal.invariant_of-cpu
invariant_of-cpu c =
    let cpu = c.args.cpu.now in
    let noted = noted_of cpu c.args.domain.now c.requires.domain in
    let apart = apart_of cpu c.args.domain.now c.requires.domain in
    let l = c.args.lock in
    let m = cpu.seat.me in
    let n = c.seat_looks-met.new.seat.me in
    let met = c.seat_looks-met.result in
    let made = c.seat_looks-met.ensures.step in
    record {
      numbered = row.numbered c.args.verb l.index met m n made cpu.numbered;
      noted = λ _. row.noted c.args.verb l.index met m n made
          (c.step.ensures (locks_of m.0.who.plan) m.0.calls n.0.calls noted (low_of cpu c.args.domain.now c.args.lock.index c.requires.domain c.requires.lock)
          (stepped.looks_noted c.args.verb l met m n made apart noted.few c.requires.row c.waits_after_look-waits.result c.is_slow-slow.result c.waits_after_look-waits.ensures (c.is_slow-slow.ensures (locks_of m.0.who.plan) m.0.calls noted)));
      apart = λ _. (stepped.looks c.args.verb l met m n made apart noted.few c.requires.row).apart;
      carried = row.carried c.args.verb l.index met m n made cpu.carried;
    }

pub is_slow-slow-requires : goal.is_slow-slow-requires
is_slow-slow-requires c =
    let cpu = c.args.cpu.now in
    let noted = noted_of cpu c.args.domain.now c.requires.domain in
    record { some = (locks_of cpu.seat.me.0.who.plan, cpu.seat.me.0.calls, noted) }
