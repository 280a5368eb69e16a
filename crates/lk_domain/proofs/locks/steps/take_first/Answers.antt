use Rattle.std.proofs.Common.{◌≡◌, ℕ, Bool, false, refl, subst, ◌&&◌}
use Rattle.lk_domain.proofs.Names.{LockName, Verb, Lock, Calls, slow_in, Steps, locks_of, ActsIn}
use Rattle.lk_domain.proofs.Names.{takes_by, View}
use Rattle.lk_domain.proofs.{Seating.{table_of, low_of, apart_of, noted_of}, Turned.none_slow}
use Rattle.lk_domain.proofs.turns.Carried as row
use Rattle.lk_domain.proofs.turns.Stepped as stepped
use Rattle.lk_domain.proofs.locks.steps.take_first.Goals as goal

by_lock : (v : Verb) (w : View) (l : LockName) → v ≡ Lock → ActsIn (takes_by v) w v l → ActsIn (takes_by Lock) w Lock l
by_lock v w l is = subst (λ (z : Verb). ActsIn (takes_by z) w z l) is

-- a call that has not waited is in no slow path
unslow : (old new : Calls) (l : ℕ) (slow waits taken : Bool) → slow ≡ false → Steps old new l waits (slow && waits) taken
    → Steps old new l waits false taken
unslow old new l slow waits taken = subst (λ (b : Bool). Steps old new l waits (b && waits) taken)

pub first_step-requires : goal.first_step-requires
first_step-requires c =
    let cpu = c.args.cpu.now in
    let noted = noted_of cpu c.args.domain.now c.requires.domain in
    let apart = apart_of cpu c.args.domain.now c.requires.domain in
    let m = cpu.seat.me in
    let n = c.take_free-met.new.seat.me in
    let l = c.args.lock.index in
    record {
      steps = (
        locks_of m.0.who.plan,
        m.0.calls,
        n.0.calls,
        noted,
        low_of cpu c.args.domain.now c.args.lock.index c.requires.domain c.requires.lock,
        unslow m.0.calls n.0.calls l (slow_in m.0.calls.frames l) _ _ (none_slow m.0.calls.frames l c.requires.fresh)
            (stepped.takes_noted Lock c.args.lock c.take_free-met.result m n c.take_free-met.ensures.step apart noted.few
            (by_lock c.args.verb m.0 c.args.lock c.requires.verb c.requires.row) _ _ _ refl refl refl),
      );
    }

pub invariant_of-cpu : goal.invariant_of-cpu
invariant_of-cpu c =
    let cpu = c.args.cpu.now in
    let noted = noted_of cpu c.args.domain.now c.requires.domain in
    let apart = apart_of cpu c.args.domain.now c.requires.domain in
    let l = c.args.lock in
    let m = cpu.seat.me in
    let n = c.take_free-met.new.seat.me in
    let met = c.take_free-met.result in
    let made = c.take_free-met.ensures.step in
    let row_is = by_lock c.args.verb m.0 l c.requires.verb c.requires.row in
    record {
      numbered = row.numbered Lock l.index met m n made cpu.numbered;
      noted = λ _. row.noted Lock l.index met m n made
          (c.first_step.ensures (locks_of m.0.who.plan) m.0.calls n.0.calls noted (low_of cpu c.args.domain.now c.args.lock.index c.requires.domain c.requires.lock) c.requires.fresh
          (unslow m.0.calls n.0.calls l.index (slow_in m.0.calls.frames l.index) _ _ (none_slow m.0.calls.frames l.index c.requires.fresh)
          (stepped.takes_noted Lock l met m n made apart noted.few row_is _ _ _ refl refl refl)));
      apart = λ _. (stepped.takes Lock l met m n made apart noted.few row_is).apart;
      carried = row.carried Lock l.index met m n made cpu.carried;
    }

pub take_free-met-requires-clause-table : goal.take_free-met-requires-clause-table
take_free-met-requires-clause-table c = table_of c.args.domain.now
