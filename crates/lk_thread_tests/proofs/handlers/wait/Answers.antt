use Rattle.std.proofs.Common.{ap, ◌∙◌}
use Rattle.lk_law.specs.Agree.{halts}
use Rattle.lk_domain.specs.Who.{Who}
use Rattle.lk_domain.specs.declared.plan.Plan.{Plan}
use Rattle.lk_thread_tests.proofs.handlers.wait.Goals as goal

pub holds_first_alone-requires : goal.holds_first_alone-requires
holds_first_alone-requires g c =
    ap (λ (w : Who). halts w.plan.mode) c.lock.ensures.rest.same.who
    ∙ (ap (λ (k : Plan). halts k.mode) c.requires.rests.domain_is.plan ∙ c.requires.awake)
