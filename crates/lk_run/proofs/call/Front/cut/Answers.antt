use Rattle.lk_run.proofs.Names.{Linked, Parts}
use Rattle.lk_rows.specs.declared.parts.Pc.TheVariants.{C6}
use Rattle.lk_run.proofs.ChoiceRows as choice
use Rattle.lk_run.proofs.Calling as on
use Rattle.lk_run.proofs.call.Front.cut.Goals as goal

pub cut-requires-clause-domain : goal.cut-requires-clause-domain
cut-requires-clause-domain c = c.requires.waits.at.domain

pub cut-requires-clause-row : goal.cut-requires-clause-row
cut-requires-clause-row c =
    record { lock = c.args.self.now.call.lock; at = on.at_row c.requires.waits.at; b = c.requires.waits.at.waits.looked.at.has.last }

pub returns : goal.returns
returns c =
    let q = c.args.self.now in
    let met = c.cut.ensures.met.by in
    record {
      goes = λ first y. on.steps_by c.requires.waits.at.domain c.cut.ensures.rest (Linked met.found met.mark) (λ i. (met.seat i).0) C6 (Parts q.own first c.args.b y) (λ e. cc e)
          (λ f has. choice.cuts _ _ f q.own first c.args.b y met.found has);
    }
