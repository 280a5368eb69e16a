use Rattle.std.proofs.Common.{Bool, true, false, sym, subst}
use Rattle.lk_domain.proofs.Names.{Write, Steps, locks_of, follows_by}
use Rattle.lk_domain.proofs.Seating.{low_of, apart_of, noted_of}
use Rattle.lk_domain.proofs.rw.Stepped as stepped
use Rattle.lk_domain.proofs.locks.rw_steps.waiting_to_writer.Goals as goal

pub act_by-met-requires-clause-row : goal.act_by-met-requires-clause-row
act_by-met-requires-clause-row c =
    stepped.as_one follows_by Write stepped.follow_is c.args.cpu.now.seat.me.0 c.args.verb c.args.lock.index c.requires.row

pub step-requires : goal.step-requires
step-requires c =
    let cpu = c.args.cpu.now in
    let noted = noted_of cpu c.args.domain.now c.requires.domain in
    let apart = apart_of cpu c.args.domain.now c.requires.domain in
    let m = cpu.seat.me in
    let n = c.act_by-met.new.seat.me in
    let acts = stepped.as_one follows_by Write stepped.follow_is m.0 c.args.verb c.args.lock.index c.requires.row in
    record {
      steps = (
        locks_of m.0.who.plan,
        m.0.calls,
        n.0.calls,
        noted,
        low_of cpu c.args.domain.now c.args.lock.index c.requires.domain c.requires.lock,
        subst (λ (b : Bool). Steps m.0.calls n.0.calls c.args.lock.index true false b) (sym c.has_only_waiting.ensures)
            (stepped.follow Write c.args.lock.index c.act_by-met.result m n c.act_by-met.ensures.step apart noted.few acts).steps,
      );
    }

pub invariant_of-cpu : goal.invariant_of-cpu
invariant_of-cpu c =
    let cpu = c.args.cpu.now in
    let noted = noted_of cpu c.args.domain.now c.requires.domain in
    let apart = apart_of cpu c.args.domain.now c.requires.domain in
    let l = c.args.lock.index in
    let m = cpu.seat.me in
    let n = c.act_by-met.new.seat.me in
    let met = c.act_by-met.result in
    let made = c.act_by-met.ensures.step in
    let acts = stepped.as_one follows_by Write stepped.follow_is m.0 c.args.verb l c.requires.row in
    let t = stepped.follow Write l met m n made apart noted.few acts in
    record {
      numbered = stepped.numbered Write l met m n made apart noted.few cpu.numbered;
      noted = λ _. stepped.noted Write l met m n made apart noted.few
          (c.step.ensures (locks_of m.0.who.plan) m.0.calls n.0.calls noted (low_of cpu c.args.domain.now c.args.lock.index c.requires.domain c.requires.lock)
          (subst (λ (b : Bool). Steps m.0.calls n.0.calls l true false b) (sym c.has_only_waiting.ensures) t.steps));
      apart = λ _. t.apart;
      carried = stepped.carried Write l met m n made apart noted.few cpu.carried;
    }
