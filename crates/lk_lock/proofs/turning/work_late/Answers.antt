use Rattle.std.proofs.Common.{ℕ, sym, subst, ◌∙◌}
use Rattle.lk_domain.specs.{Turns.home_in, Values.IsKeyOf}
use Rattle.lk_lock.proofs.{LateSteps.{comes_holding, turned_late}, Steps.still_holding}
use Rattle.lk_lock.proofs.turning.work_late.Goals as goal

pub work_held-done-requires-clause-work : goal.work_held-done-requires-clause-work
work_held-done-requires-clause-work g c =
    let old = c.requires.waits.0 in
    let since = c.requires.waits.1 in
    let d = c.args.domain.now in
    let m = c.args.aim.manner in
    let l = c.args.aim.lock.index in
    let has = comes_holding d m l old c.take_late.new.cpu (c.take_late.ensures old since) in
    let same = has.same.number ∙ sym since.rest.same.number in
    let work = c.requires.work in
    record {
      callable = λ x fit. work.callable x (subst (λ (p : ℕ). IsKeyOf d.plan (home_in m d.plan l p) x) same fit);
      keeps = λ x r y fit gave. subst (λ (p : ℕ). IsKeyOf d.plan (home_in m d.plan l p) y) (sym same)
          (work.keeps x r y (subst (λ (p : ℕ). IsKeyOf d.plan (home_in m d.plan l p) x) same fit) gave);
    }

pub returns-clause-done : goal.returns-clause-done
returns-clause-done g c =
    let old = c.requires.waits.0 in
    let since = c.requires.waits.1 in
    let d = c.args.domain.now in
    let m = c.args.aim.manner in
    let l = c.args.aim.lock.index in
    let has = comes_holding d m l old c.take_late.new.cpu (c.take_late.ensures old since) in
    let done = c.work_held-done.ensures.done in
    record {
      met = done.met;
      left = done.left;
      fit = subst (λ (p : ℕ). IsKeyOf d.plan (home_in m d.plan l p) done.met) (has.same.number ∙ sym since.rest.same.number) done.fit;
      gave = done.gave;
    }

pub free_held-requires-clause-holding : goal.free_held-requires-clause-holding
free_held-requires-clause-holding g c =
    let old = c.requires.waits.0 in
    let d = c.args.domain.now in
    let m = c.args.aim.manner in
    let l = c.args.aim.lock.index in
    let taken = c.take_late.ensures old c.requires.waits.1 in (
      old,
      still_holding l m old c.take_late.new.cpu (comes_holding d m l old c.take_late.new.cpu taken) c.work_held-done.new.cpu c.work_held-done.ensures.still,
    )

pub returns-clause-turned : goal.returns-clause-turned
returns-clause-turned g c old since =
    turned_late c.args.domain.now c.args.aim.lock.index old c.take_late.new.cpu c.work_held-done.new.cpu c.free_held.new.cpu
    c.work_held-done.ensures.still c.args.aim.manner (c.take_late.ensures old since) c.free_held.ensures
