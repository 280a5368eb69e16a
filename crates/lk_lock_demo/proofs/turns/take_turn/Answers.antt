use Rattle.std.proofs.Common.{◌∙◌, subst, rules}
use Rattle.lk_lock.specs.Standing.{IsReady}
use Rattle.lk_domain.specs.declared.domain.Domain.{Domain}
use Rattle.lk_lock.proofs.Resting.{rests_again, still_open}
use Rattle.lk_ranks.proofs.Ranking.{above_rest}
use Rattle.lk_lock_demo.proofs.turns.take_turn.Goals as goal

pub lock-held-requires-clause-above : goal.lock-held-requires-clause-above
lock-held-requires-clause-above g c =
    above_rest c.args.shop.now.domain.now c.args.cpu.now.number c.args.shop.now.queue.now.spin.id.index c.args.cpu.now c.requires.rests

pub with_inside-number-requires-clause-above : goal.with_inside-number-requires-clause-above
with_inside-number-requires-clause-above g c =
    c.lock-held.ensures.order c.args.shop.now.count.now.spin.id.index c.args.shop.now.order

pub unlock-requires-clause-inside : goal.unlock-requires-clause-inside
unlock-requires-clause-inside g c =
    (c.args.cpu.now, c.with_inside-number.ensures.inside c.args.cpu.now c.lock-held.ensures.inside)

pub unlock-requires-clause-open : goal.unlock-requires-clause-open
unlock-requires-clause-open g c =
    still_open _ c.with_inside-number.new.held.place c.push.new.self (c.with_inside-number.ensures.open c.lock-held.ensures.open)

pub returns-clause-number : goal.returns-clause-number
returns-clause-number g c =
    let kept = c.unlock.ensures.before c.args.cpu.now (c.with_inside-number.ensures.inside c.args.cpu.now c.lock-held.ensures.inside) in
    let number = kept.same.number in
    search rules

pub returns-clause-rests : goal.returns-clause-rests
returns-clause-rests g c =
    let kept = c.unlock.ensures.before c.args.cpu.now (c.with_inside-number.ensures.inside c.args.cpu.now c.lock-held.ensures.inside) in
    let ready : IsReady c.args.shop.now.domain.now c.unlock.new.self.0 = subst (λ (d : Domain). IsReady d c.unlock.new.self.0) (c.with_inside-number.ensures.same.0 ∙ c.lock-held.ensures.same.0) c.unlock.ensures.ready in
    let rests = rests_again c.args.shop.now.domain.now c.args.cpu.now.number c.args.cpu.now c.unlock.new.self.0 c.requires.rests ready kept in
    search rules

pub value-requires : goal.value-requires
value-requires g c = record { «open» = c.with_inside-number.ensures.open c.lock-held.ensures.open }
