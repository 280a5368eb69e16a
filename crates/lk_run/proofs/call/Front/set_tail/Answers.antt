use Rattle.std.proofs.Common.{Some}
use Rattle.lk_run.proofs.Names.{C7, Named, Precedes}
use Rattle.lk_run.proofs.ChoiceRows as choice
use Rattle.lk_run.proofs.Calling as on
use Rattle.lk_run.proofs.call.Front.set_tail.Goals as goal

pub second_tail-requires-clause-domain : goal.second_tail-requires-clause-domain
second_tail-requires-clause-domain c = c.requires.waits.at.domain

pub second_tail-requires-clause-row : goal.second_tail-requires-clause-row
second_tail-requires-clause-row c =
    let at = c.requires.waits.at.waits.looked.at in
    record { lock = c.args.self.now.call.lock; at = on.at_row c.requires.waits.at; second = at.has.fronts.second; b = at.has.last }

pub second_tail-requires-clause-tail : goal.second_tail-requires-clause-tail
second_tail-requires-clause-tail c = c.requires.b

pub returns : goal.returns
returns c =
    let q = c.args.self.now in
    let met = c.second_tail.ensures.met.by in
    record {
      goes = λ y. on.steps_by c.requires.waits.at.domain c.second_tail.ensures.rest (Named met.found) (λ i. (met.seat i).0) C7 (Precedes q.own (Some c.args.first) y) (λ e. cc e)
          (λ f has. choice.sets_tail _ _ f q.own c.args.first c.args.b y met.found has);
    }
