use Rattle.std.proofs.Common.{ap, ◌∙◌}
use Rattle.lk_domain.proofs.Names.{WUnlock, are_calls, locks_of, leaves_by}
use Rattle.lk_domain.proofs.{Seating.{low_of, apart_of, noted_of}, rw.Released.writer}
use Rattle.lk_domain.proofs.rw.Released as released
use Rattle.lk_domain.proofs.rw.Stepped as stepped
use Rattle.lk_domain.proofs.locks.rw_steps.writer_release.Goals as goal

pub act_by-met-requires-clause-row : goal.act_by-met-requires-clause-row
act_by-met-requires-clause-row c =
    stepped.as_one leaves_by WUnlock stepped.leave_is c.args.cpu.now.seat.me.0 c.args.verb c.args.lock.index c.requires.row

pub invariant_of-cpu : goal.invariant_of-cpu
invariant_of-cpu c =
    let cpu = c.args.cpu.now in
    let noted = noted_of cpu c.args.domain.now c.requires.domain in
    let apart = apart_of cpu c.args.domain.now c.requires.domain in
    let l = c.args.lock.index in
    let m = cpu.seat.me in
    let n = c.act_by-met.new.seat.me in
    let met = c.act_by-met.result in
    let made = c.act_by-met.ensures.step in
    let e = released.left writer l met m n made apart in
    record {
      numbered = stepped.numbered WUnlock l met m n made apart noted.few cpu.numbered;
      noted = λ _. stepped.noted WUnlock l met m n made apart noted.few
          (c.free.ensures (locks_of m.0.who.plan) m.0.calls n.0.calls noted (low_of cpu c.args.domain.now c.args.lock.index c.requires.domain c.requires.lock) e.frames
          e.none (released.other_holds writer l met m n made apart));
      apart = λ _. ap are_calls e.frames ∙ apart;
      carried = stepped.carried WUnlock l met m n made apart noted.few cpu.carried;
    }

pub free-requires : goal.free-requires
free-requires c =
    let cpu = c.args.cpu.now in
    let noted = noted_of cpu c.args.domain.now c.requires.domain in (
      locks_of cpu.seat.me.0.who.plan,
      cpu.seat.me.0.calls,
      noted,
      low_of cpu c.args.domain.now c.args.lock.index c.requires.domain c.requires.lock,
    )
