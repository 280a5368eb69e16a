use Rattle.std.proofs.Common.{◌≡◌, ℕ, refl, sym, ap, ◌∙◌, subst, true, false}
use Rattle.lk_domain.proofs.Names.{halts, are_calls, IsNoted, locks_of, IsClear, lock_of, taking}
use Rattle.lk_domain.proofs.Names.{Plan, View}
use Rattle.lk_domain.proofs.{Seating.{table_of, seat_in}, seats.Homes.{alone_at, own_lock}}
use Rattle.lk_domain.proofs.seats.Marks.{mark_noted}
use Rattle.lk_domain.proofs.values.take_out.Goals as goal

pub take-requires : goal.take-requires
take-requires c =
    let d = c.args.domain.now in
    let cpu = c.args.cpu.now in
    record {
      table = table_of d;
      seat = seat_in cpu d c.requires.domain;
      valued = c.requires.valued;
      held = alone_at d.plan c.args.lock.index cpu.seat.me.0 c.requires.lock c.requires.held;
      journal = c.requires.home;
    }

pub invariant_of-cpu : goal.invariant_of-cpu
invariant_of-cpu c =
    let cpu = c.args.cpu.now in
    let view = c.take.ensures.view in
    let l = lock_of c.args.domain.now.plan c.args.lock.index in
    let awake : halts c.take.new.seat.me.0.who.plan.mode ≡ false → halts cpu.seat.me.0.who.plan.mode ≡ false =
    (λ on. sym (ap (λ (v : View). halts v.who.plan.mode) view) ∙ on) in
    record {
      numbered = ap (λ (v : View). v.who.number) view ∙ cpu.numbered;
      noted = λ on. subst (λ (v : View). IsNoted cpu.notes (locks_of v.who.plan) v.calls) (sym view)
          (mark_noted cpu.notes (locks_of cpu.seat.me.0.who.plan) cpu.seat.me.0.calls l true (cpu.noted (awake on)));
      apart = λ on. ap (λ (v : View). are_calls v.calls.frames) view ∙ cpu.apart (awake on);
      carried = c.take.ensures.carried;
    }

pub returns-clause-taken : goal.returns-clause-taken
returns-clause-taken c =
    let d = c.args.domain.now in
    let q = c.args.lock.index in
    let cpu = c.args.cpu.now in
    let l : lock_of d.plan q ≡ q = own_lock d.plan q c.requires.lock in
    record {
      table = c.take.ensures.same.0;
      id = c.take.ensures.same.1;
      number = refl;
      view = c.take.ensures.view ∙ ap (λ (x : ℕ). taking x q cpu.seat.me.0) l;
      apart = subst (λ (k : Plan). IsClear k q cpu.seat.me.0.who.outs) (sym c.requires.domain.plan)
          (subst (λ (x : ℕ). IsClear d.plan x cpu.seat.me.0.who.outs) l c.take.ensures.apart);
    }
