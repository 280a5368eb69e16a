use Rattle.std.proofs.Common.{ap, ◌∙◌}
use Rattle.lk_domain.proofs.Names.{Unlock, are_calls, locks_of}
use Rattle.lk_domain.proofs.Seating.{low_of, awake_of, apart_of, noted_of}
use Rattle.lk_domain.proofs.turns.Carried as row
use Rattle.lk_domain.proofs.Freed as freed
use Rattle.lk_domain.proofs.locks.steps.free_lock.Goals as goal

pub invariant_of-cpu : goal.invariant_of-cpu
invariant_of-cpu c =
    let cpu = c.args.cpu.now in
    let noted = noted_of cpu c.args.domain.now c.requires.domain in
    let apart = apart_of cpu c.args.domain.now c.requires.domain in
    let l = c.args.lock in
    let m = cpu.seat.me in
    let n = c.release-met.new.seat.me in
    let met = c.release-met.result in
    let made = c.release-met.ensures.step in
    let awake = awake_of cpu c.args.domain.now c.requires.domain in
    let frames = freed.frames_are l met m n made apart awake in
    record {
      numbered = row.numbered Unlock l met m n made cpu.numbered;
      noted = λ _. row.noted Unlock l met m n made
          (c.free.ensures (locks_of m.0.who.plan) m.0.calls n.0.calls noted (low_of cpu c.args.domain.now c.args.lock c.requires.domain c.requires.lock) frames
          (freed.none l met m n made apart awake) (freed.other_holds l met m n made apart awake));
      apart = λ _. ap are_calls frames ∙ apart;
      carried = row.carried Unlock l met m n made cpu.carried;
    }

pub free-requires : goal.free-requires
free-requires c =
    let cpu = c.args.cpu.now in
    let noted = noted_of cpu c.args.domain.now c.requires.domain in (
      locks_of cpu.seat.me.0.who.plan,
      cpu.seat.me.0.calls,
      noted,
      low_of cpu c.args.domain.now c.args.lock c.requires.domain c.requires.lock,
    )
