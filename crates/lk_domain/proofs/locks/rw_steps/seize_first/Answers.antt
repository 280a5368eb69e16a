use Rattle.std.proofs.Common.{◌≡◌, ℕ, Bool, false, refl, sym, subst}
use Rattle.lk_domain.proofs.Names.{Verb, Write, waits_in, locks_of, ActsFor, seizes_at, seizes_by}
use Rattle.lk_domain.proofs.Names.{View}
use Rattle.lk_domain.proofs.Seating.{low_of, apart_of, noted_of}
use Rattle.lk_domain.proofs.rw.Stepped as stepped
use Rattle.lk_domain.proofs.locks.rw_steps.seize_first.Goals as goal

by_verb : (b : Bool) (v : Verb) (w : View) (l : ℕ) → v ≡ Write → ActsFor (seizes_at b v) w v l → ActsFor (seizes_at b Write) w Write l
by_verb b v w l is = subst (λ (z : Verb). ActsFor (seizes_at b z) w z l) is

pub act_by-met-requires-clause-row : goal.act_by-met-requires-clause-row
act_by-met-requires-clause-row c =
    let m = c.args.cpu.now.seat.me in
    let l = c.args.lock.index in
    let b = waits_in m.0.calls.frames l in
    stepped.acts_as (seizes_at b Write) (seizes_by Write) (stepped.seize_kind b Write) m.0 Write l
    (by_verb b c.args.verb m.0 l c.requires.verb c.requires.row)

pub first_step-requires : goal.first_step-requires
first_step-requires c =
    let cpu = c.args.cpu.now in
    let noted = noted_of cpu c.args.domain.now c.requires.domain in
    let apart = apart_of cpu c.args.domain.now c.requires.domain in
    let m = cpu.seat.me in
    let n = c.act_by-met.new.seat.me in
    let l = c.args.lock.index in
    let met = c.act_by-met.result in
    let made = c.act_by-met.ensures.step in
    let b = waits_in m.0.calls.frames l in
    record {
      steps = (
        locks_of m.0.who.plan,
        m.0.calls,
        n.0.calls,
        noted,
        low_of cpu c.args.domain.now c.args.lock.index c.requires.domain c.requires.lock,
        stepped.seize_noted Write l met m n made apart noted.few b false (sym c.requires.fresh)
            (by_verb b c.args.verb m.0 l c.requires.verb c.requires.row) _ refl,
      );
    }

pub invariant_of-cpu : goal.invariant_of-cpu
invariant_of-cpu c =
    let cpu = c.args.cpu.now in
    let noted = noted_of cpu c.args.domain.now c.requires.domain in
    let apart = apart_of cpu c.args.domain.now c.requires.domain in
    let m = cpu.seat.me in
    let n = c.act_by-met.new.seat.me in
    let l = c.args.lock.index in
    let met = c.act_by-met.result in
    let made = c.act_by-met.ensures.step in
    let b = waits_in m.0.calls.frames l in
    let row = by_verb b c.args.verb m.0 l c.requires.verb c.requires.row in
    record {
      numbered = stepped.numbered Write l met m n made apart noted.few cpu.numbered;
      noted = λ _. stepped.noted Write l met m n made apart noted.few
          (c.first_step.ensures (locks_of m.0.who.plan) m.0.calls n.0.calls noted (low_of cpu c.args.domain.now c.args.lock.index c.requires.domain c.requires.lock) c.requires.fresh
          (stepped.seize_noted Write l met m n made apart noted.few b false (sym c.requires.fresh) row _ refl));
      apart = λ _. (stepped.seize Write l met m n made apart noted.few b row).apart;
      carried = stepped.carried Write l met m n made apart noted.few cpu.carried;
    }
