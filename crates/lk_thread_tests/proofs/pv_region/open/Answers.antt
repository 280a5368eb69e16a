use Rattle.std.proofs.Common.{ap, length, sym, subst, ◌∙◌}
use Rattle.lk_pvdomain.specs.declared.domain.PvDomain.{PvDomain}
use Rattle.lk_thread_tests.specs.Halting.{AllMayWrite}
use Rattle.lk_thread_tests.proofs.Written.{all_dealt}
use Rattle.lk_thread_tests.proofs.pv_region.open.Goals as goal

pub returns-clause-ready : goal.returns-clause-ready
returns-clause-ready c =
    let shares = ap (λ l. l.items) c.in_ok-filled-2.ensures in
    subst (λ (d : PvDomain). AllMayWrite d 1000 c.in_ok-domain.cpus.items) (sym c.new-2.ensures)
    (all_dealt c.in_ok-domain.domain c.in_ok-domain.cpus.items 4 1000 (c.in_ok-domain.ensures.many ∙ ap length shares)
    (c.in_ok-domain.ensures.plan.shares ∙ shares) c.in_ok-domain.ensures.cpus)
