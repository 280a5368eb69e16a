use Rattle.lk_domain.proofs.Names.{waits_in, locks_of, joins_at, joins_by}
use Rattle.lk_domain.proofs.Seating.{low_of, apart_of, noted_of}
use Rattle.lk_domain.proofs.rw.Stepped as stepped
use Rattle.lk_domain.proofs.locks.rw_steps.add_bias.Goals as goal

pub act_by-met-requires-clause-row : goal.act_by-met-requires-clause-row
act_by-met-requires-clause-row c =
    let m = c.args.cpu.now.seat.me in
    let v = c.args.verb in
    let l = c.args.lock.index in
    let b = waits_in m.0.calls.frames l in
    stepped.acts_as (joins_at b v) (joins_by v) (stepped.join_kind b v) m.0 v l c.requires.row

pub step-requires : goal.step-requires
step-requires c =
    let cpu = c.args.cpu.now in
    let noted = noted_of cpu c.args.domain.now c.requires.domain in
    let apart = apart_of cpu c.args.domain.now c.requires.domain in
    let m = cpu.seat.me in
    let n = c.act_by-met.new.seat.me in
    let v = c.args.verb in
    let l = c.args.lock.index in
    let met = c.act_by-met.result in
    let made = c.act_by-met.ensures.step in
    let b = waits_in m.0.calls.frames l in
    record {
      steps = (
        locks_of m.0.who.plan,
        m.0.calls,
        n.0.calls,
        noted,
        low_of cpu c.args.domain.now c.args.lock.index c.requires.domain c.requires.lock,
        stepped.join_noted v l met m n made apart noted.few b _ (c.waits-waited.ensures (locks_of m.0.who.plan) m.0.calls noted) c.requires.row c.waits_after_join-waits.result c.has_after_join-has.result c.waits_after_join-waits.ensures c.has_after_join-has.ensures,
      );
    }

pub invariant_of-cpu : goal.invariant_of-cpu
invariant_of-cpu c =
    let cpu = c.args.cpu.now in
    let noted = noted_of cpu c.args.domain.now c.requires.domain in
    let apart = apart_of cpu c.args.domain.now c.requires.domain in
    let m = cpu.seat.me in
    let n = c.act_by-met.new.seat.me in
    let v = c.args.verb in
    let l = c.args.lock.index in
    let met = c.act_by-met.result in
    let made = c.act_by-met.ensures.step in
    let b = waits_in m.0.calls.frames l in
    record {
      numbered = stepped.numbered v l met m n made apart noted.few cpu.numbered;
      noted = λ _. stepped.noted v l met m n made apart noted.few
          (c.step.ensures (locks_of m.0.who.plan) m.0.calls n.0.calls noted (low_of cpu c.args.domain.now c.args.lock.index c.requires.domain c.requires.lock)
          (stepped.join_noted v l met m n made apart noted.few b _ (c.waits-waited.ensures (locks_of m.0.who.plan) m.0.calls noted) c.requires.row c.waits_after_join-waits.result c.has_after_join-has.result c.waits_after_join-waits.ensures c.has_after_join-has.ensures));
      apart = λ _. (stepped.join v l met m n made apart noted.few b c.requires.row).apart;
      carried = stepped.carried v l met m n made apart noted.few cpu.carried;
    }

pub waits-waited-requires : goal.waits-waited-requires
waits-waited-requires c =
    let cpu = c.args.cpu.now in
    let noted = noted_of cpu c.args.domain.now c.requires.domain in
    record { some = (locks_of cpu.seat.me.0.who.plan, cpu.seat.me.0.calls, noted) }
