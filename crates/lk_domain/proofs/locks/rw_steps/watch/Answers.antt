use Rattle.std.proofs.Common.{ℕ, ap, eqb, length}
use Rattle.lk_domain.proofs.Names.{locks_of, watches_by}
use Rattle.lk_domain.proofs.Seating.{low_of, apart_of, noted_of}
use Rattle.lk_domain.specs.RwRows.{watches_at}
use Rattle.lk_domain.proofs.rw.Stepped as stepped
use Rattle.lk_domain.proofs.locks.rw_steps.watch.Goals as goal

pub act_by-met-requires-clause-row : goal.act_by-met-requires-clause-row
act_by-met-requires-clause-row c =
    let m = c.args.cpu.now.seat.me in
    let v = c.args.verb in
    let l = c.args.lock in
    let b = eqb (length m.0.calls.frames) 1 in
    stepped.acts_as (watches_at b v) (watches_by v) (stepped.watch_kind b v) m.0 v l c.requires.row

pub step-requires : goal.step-requires
step-requires c =
    let cpu = c.args.cpu.now in
    let noted = noted_of cpu c.args.domain.now c.requires.domain in
    let apart = apart_of cpu c.args.domain.now c.requires.domain in
    let m = cpu.seat.me in
    let n = c.act_by-met.new.seat.me in
    let v = c.args.verb in
    let l = c.args.lock in
    let met = c.act_by-met.result in
    let made = c.act_by-met.ensures.step in
    let b = eqb (length m.0.calls.frames) 1 in
    record {
      steps = (
        locks_of m.0.who.plan,
        m.0.calls,
        n.0.calls,
        noted,
        low_of cpu c.args.domain.now c.args.lock c.requires.domain c.requires.lock,
        stepped.watch_noted v l met m n made apart noted.few b _ (ap (λ (d : ℕ). eqb d 1) noted.deep) c.requires.row c.waits_after_watch-waits.result c.has_after_watch-has.result c.waits_after_watch-waits.ensures c.has_after_watch-has.ensures,
      );
    }

pub invariant_of-cpu : goal.invariant_of-cpu
invariant_of-cpu c =
    let cpu = c.args.cpu.now in
    let noted = noted_of cpu c.args.domain.now c.requires.domain in
    let apart = apart_of cpu c.args.domain.now c.requires.domain in
    let m = cpu.seat.me in
    let n = c.act_by-met.new.seat.me in
    let v = c.args.verb in
    let l = c.args.lock in
    let met = c.act_by-met.result in
    let made = c.act_by-met.ensures.step in
    let b = eqb (length m.0.calls.frames) 1 in
    record {
      numbered = stepped.numbered v l met m n made apart noted.few cpu.numbered;
      noted = λ _. stepped.noted v l met m n made apart noted.few
          (c.step.ensures (locks_of m.0.who.plan) m.0.calls n.0.calls noted (low_of cpu c.args.domain.now c.args.lock c.requires.domain c.requires.lock)
          (stepped.watch_noted v l met m n made apart noted.few b _ (ap (λ (d : ℕ). eqb d 1) noted.deep) c.requires.row c.waits_after_watch-waits.result c.has_after_watch-has.result c.waits_after_watch-waits.ensures c.has_after_watch-has.ensures));
      apart = λ _. (stepped.watch v l met m n made apart noted.few b c.requires.row).apart;
      carried = stepped.carried v l met m n made apart noted.few cpu.carried;
    }
