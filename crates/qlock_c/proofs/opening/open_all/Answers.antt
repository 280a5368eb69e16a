use Rattle.std.proofs.Common.{sym, ◌∙◌}
use Rattle.qlock_c.proofs.opening.open_all.Goals as goal

pub returns-clause-opened : goal.returns-clause-opened
returns-clause-opened c e =
    record { family = c.in-Some.family; is = sym c.family_of.ensures ∙ c.in-Some.is; ports = c.open_empty.ensures.opened e }
