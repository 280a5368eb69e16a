use Rattle.std.proofs.Common.{Option, subst}
use Rattle.lk_domain.proofs.Names.{NodeName, view_of}
use Rattle.lk_domain.specs.NodePlays.{AtSecondTail}
use Rattle.lk_domain.proofs.locks.choice_steps.second_tail.Goals as goal

pub look_tail-requires-clause-row : goal.look_tail-requires-clause-row
look_tail-requires-clause-row c =
    (c.args.verb, subst (λ (o : Option NodeName). AtSecondTail c.args.node o c.args.verb (view_of c.args.cpu.now)) c.in-None.is c.requires.row)

pub set_tail-requires-clause-row : goal.set_tail-requires-clause-row
set_tail-requires-clause-row c =
    (c.args.verb, subst (λ (o : Option NodeName). AtSecondTail c.args.node o c.args.verb (view_of c.args.cpu.now)) c.in-Some.is c.requires.row)
