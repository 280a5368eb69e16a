use Rattle.std.proofs.Common.{◌≡◌, ℕ, refl, sym, ap, ◌∙◌, subst, false}
use Rattle.lk_domain.proofs.Names.{halts, are_calls, IsNoted, locks_of, IsNewestAt, bringing}
use Rattle.lk_domain.proofs.Names.{lock_of, View}
use Rattle.lk_domain.proofs.{Seating.{table_of, seat_in}, seats.Homes.own_lock}
use Rattle.lk_domain.proofs.seats.Marks.{mark_noted}
use Rattle.lk_domain.proofs.values.bring_home.Goals as goal

pub bring-requires : goal.bring-requires
bring-requires c =
    let d = c.args.domain.now in
    record {
      table = table_of d;
      seat = seat_in c.args.cpu.now d c.requires.domain;
      valued = c.requires.valued;
      newest = subst (λ (x : ℕ). IsNewestAt d.plan x c.args.lock.index c.args.cpu.now.seat.me.0.who.outs)
          (sym (own_lock d.plan c.args.lock.index c.requires.lock)) c.requires.newest;
      journal = c.requires.home;
      key = c.requires.key;
    }

pub invariant_of-cpu : goal.invariant_of-cpu
invariant_of-cpu c =
    let cpu = c.args.cpu.now in
    let view = c.bring.ensures.view in
    let l = lock_of c.args.domain.now.plan c.args.lock.index in
    let awake : halts c.bring.new.seat.me.0.who.plan.mode ≡ false → halts cpu.seat.me.0.who.plan.mode ≡ false =
    (λ on. sym (ap (λ (v : View). halts v.who.plan.mode) view) ∙ on) in
    record {
      numbered = ap (λ (v : View). v.who.number) view ∙ cpu.numbered;
      noted = λ on. subst (λ (v : View). IsNoted cpu.notes (locks_of v.who.plan) v.calls) (sym view)
          (mark_noted cpu.notes (locks_of cpu.seat.me.0.who.plan) cpu.seat.me.0.calls l false (cpu.noted (awake on)));
      apart = λ on. ap (λ (v : View). are_calls v.calls.frames) view ∙ cpu.apart (awake on);
      carried = c.bring.ensures.carried;
    }

pub returns : goal.returns
returns c =
    let d = c.args.domain.now in
    record {
      brought = record {
        table = c.bring.ensures.same.0;
        id = c.bring.ensures.same.1;
        number = refl;
        view = c.bring.ensures.view ∙ ap (λ (x : ℕ). bringing x c.args.cpu.now.seat.me.0) (own_lock d.plan c.args.lock.index c.requires.lock);
      };
    }
