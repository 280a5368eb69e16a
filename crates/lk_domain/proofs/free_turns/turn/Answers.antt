use Rattle.std.proofs.Common.{ℕ, ap, ◌∙◌, subst, sym}
use Rattle.lk_domain.proofs.Names.{are_calls, locks_of, IsHomeAt}
use Rattle.lk_domain.proofs.Seating.{apart_of, low_of, noted_of}
use Rattle.lk_domain.proofs.FreeTurns as free
use Rattle.lk_domain.proofs.free_turns.turn.Goals as goal

pub take-met-requires-clause-row : goal.take-met-requires-clause-row
take-met-requires-clause-row g c =
    free.may_take c.args.domain.now c.args.cpu.now c.requires.domain c.args.lock.index c.requires.rests c.requires.free c.args.manner
    c.requires.kind

pub first_step-requires : goal.first_step-requires
first_step-requires g c =
    let cpu = c.args.cpu.now in
    let d = c.args.domain.now in
    record {
      steps = (
        locks_of cpu.seat.me.0.who.plan,
        cpu.seat.me.0.calls,
        c.take-met.new.seat.me.0.calls,
        noted_of cpu d c.requires.domain,
        low_of cpu d c.args.lock.index c.requires.domain c.requires.lock,
        free.waits_on d cpu c.requires.domain c.args.lock.index c.requires.rests c.requires.free c.args.manner c.requires.kind
            c.take-met.result c.take-met.new.seat.me c.take-met.ensures.step (sym c.is_let.ensures ∙ c.if-not-is_let.true),
      );
    }

pub invariant_of-cpu : goal.invariant_of-cpu
invariant_of-cpu g c =
    let cpu = c.args.cpu.now in
    let d = c.args.domain.now in
    let l = c.args.lock.index in
    let met = c.take-met.result in
    let n = c.take-met.new.seat.me in
    let made = c.take-met.ensures.step in
    let kept = free.take_keeps c.args.manner l met cpu.seat.me n made in
    let steps = free.waits_on d cpu c.requires.domain l c.requires.rests c.requires.free c.args.manner c.requires.kind met n made
    (sym c.is_let.ensures ∙ c.if-not-is_let.true) in
    record {
      numbered = free.numbered cpu.seat.me n kept cpu.numbered;
      noted = λ _. free.noted cpu.seat.me n kept
          (c.first_step.ensures (locks_of cpu.seat.me.0.who.plan) cpu.seat.me.0.calls n.0.calls (noted_of cpu d c.requires.domain)
          (low_of cpu d l c.requires.domain c.requires.lock)
          (free.fresh d cpu c.requires.domain l c.requires.rests c.requires.free) steps);
      apart = λ _. free.waits_apart d cpu c.requires.domain l c.requires.rests c.requires.free c.args.manner c.requires.kind met n made;
      carried = free.carried cpu.seat.me n kept cpu.carried;
    }

pub work_at-done-requires-clause-held : goal.work_at-done-requires-clause-held
work_at-done-requires-clause-held g c =
    let d = c.args.domain.now in
    let v = c.take-met.new.seat.me.0 in
    subst (λ (q : ℕ). IsHomeAt d.plan q v.who.number v.calls.holds) (sym c.home_of-home.ensures)
    (free.at_home d c.args.cpu.now c.requires.domain c.args.lock.index c.requires.rests c.requires.free c.args.manner
    c.take-met.result c.take-met.new.seat.me c.take-met.ensures.step (sym c.is_let.ensures ∙ c.if-not-is_let.false) c.requires.lock)

pub free-requires-clause-row : goal.free-requires-clause-row
free-requires-clause-row g c =
    free.may_free c.args.domain.now c.args.cpu.now c.requires.domain c.args.lock.index c.requires.rests c.requires.free c.args.manner
    c.take-met.result c.take-met.new.seat.me c.take-met.ensures.step (sym c.is_let.ensures ∙ c.if-not-is_let.false)
    c.work_at-done.new.seat.me c.work_at-done.ensures.view c.requires.kind

pub free-requires-clause-value : goal.free-requires-clause-value
free-requires-clause-value g c =
    free.none_out c.args.domain.now c.args.cpu.now c.requires.domain c.args.lock.index c.requires.rests c.requires.free c.args.manner
    c.take-met.result c.take-met.new.seat.me c.take-met.ensures.step (sym c.is_let.ensures ∙ c.if-not-is_let.false)
    c.work_at-done.new.seat.me c.work_at-done.ensures.view

pub invariant_of-cpu-2 : goal.invariant_of-cpu-2
invariant_of-cpu-2 g c =
    let cpu = c.args.cpu.now in
    let d = c.args.domain.now in
    let l = c.args.lock.index in
    let o = c.work_at-done.new.seat.me in
    let p = c.free.new.seat.me in
    let freed = free.freed d cpu c.requires.domain l c.requires.rests c.requires.free c.args.manner
    c.take-met.result c.take-met.new.seat.me c.take-met.ensures.step (sym c.is_let.ensures ∙ c.if-not-is_let.false)
    o c.work_at-done.ensures.view c.free.result p c.free.ensures.step in
    record {
      numbered = ap (λ w. w.number) freed.who ∙ cpu.numbered;
      noted = λ _. free.noted_again cpu.notes c.args.manner l cpu.seat.me.0 c.take-met.new.seat.me.0 p.0 freed (noted_of cpu d c.requires.domain);
      apart = λ _. ap are_calls freed.frames ∙ apart_of cpu d c.requires.domain;
      carried = free.carried o p (free.free_keeps c.args.manner l c.free.result o p c.free.ensures.step) c.work_at-done.ensures.carried;
    }

pub returns-clause-turned : goal.returns-clause-turned
returns-clause-turned g c =
    let cpu = c.args.cpu.now in
    let d = c.args.domain.now in
    let l = c.args.lock.index in
    let n = c.take-met.new.seat.me in
    let is = sym c.is_let.ensures ∙ c.if-not-is_let.false in
    let took = free.took d cpu c.requires.domain l c.requires.rests c.requires.free c.args.manner c.take-met.result n c.take-met.ensures.step is in
    let freed = free.freed d cpu c.requires.domain l c.requires.rests c.requires.free c.args.manner c.take-met.result n
    c.take-met.ensures.step is c.work_at-done.new.seat.me c.work_at-done.ensures.view c.free.result c.free.new.seat.me c.free.ensures.step in
    record {
      inside = n.0.calls;
      taken = took.taken;
      once = took.once;
      freed = freed.freed;
      holds = freed.holds;
      home = freed.home;
    }
