use Rattle.std.proofs.Common.{◌≡◌, ◌+◌, ◌∙◌, ap, subst, sym, arith, length}
use Rattle.lk_law.specs.Agree.{halts}
use Rattle.lk_domain.specs.Seats.{IsOf}
use Rattle.lk_domain.proofs.Seating.{of_in}
use Rattle.lk_thread_tests.proofs.TakenOff as off
use Rattle.lk_thread_tests.proofs.region_calls.open.Goals as goal

pub returns-clause-first : goal.returns-clause-first
returns-clause-first c =
    let domain = c.in_ok-domain.domain in
    let awake = ap halts (c.in_ok-domain.ensures.plan.mode ∙ c.in_ok-plan.ensures.mode) ∙ c.requires.awake in
    let all = c.in_ok-domain.cpus.items in
    let rest = c.pop-second.new.self.items in
    let some : length all ≡ 2 = c.in_ok-domain.ensures.many ∙ c.in_ok-plan.ensures.cpus in
    let n = off.one_less all rest c.pop-second.result c.pop-second.ensures.items in
    let one : length rest ≡ 0 + 1 = omega (arith, n, some) in
    let dealt = off.dealt_last domain rest c.pop-first.new.self.items c.pop-first.result 0
    (off.dealt_rest domain all rest c.pop-second.result c.in_ok-domain.ensures.cpus c.pop-second.ensures.items)
    c.pop-first.ensures.items one in (
      subst (IsOf c.pop-first.result) (sym c.new-2.ensures) (of_in c.pop-first.result domain dealt.domain_is awake),
      off.idle dealt,
      off.share_dealt c.in_ok-plan.plan c.in_ok-domain.ensures.plan dealt ∙ c.in_ok-plan.ensures.shares.0,
    )

pub returns-clause-second : goal.returns-clause-second
returns-clause-second c =
    let domain = c.in_ok-domain.domain in
    let awake = ap halts (c.in_ok-domain.ensures.plan.mode ∙ c.in_ok-plan.ensures.mode) ∙ c.requires.awake in
    let all = c.in_ok-domain.cpus.items in
    let dealt = off.dealt_last domain all c.pop-second.new.self.items c.pop-second.result 1 c.in_ok-domain.ensures.cpus
    c.pop-second.ensures.items (c.in_ok-domain.ensures.many ∙ c.in_ok-plan.ensures.cpus) in (
      subst (IsOf c.pop-second.result) (sym c.new-2.ensures) (of_in c.pop-second.result domain dealt.domain_is awake),
      off.idle dealt,
      off.share_dealt c.in_ok-plan.plan c.in_ok-domain.ensures.plan dealt ∙ c.in_ok-plan.ensures.shares.1,
    )
