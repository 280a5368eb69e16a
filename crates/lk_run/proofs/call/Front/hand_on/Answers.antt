use Rattle.std.proofs.Common.{refl}
use Rattle.lk_run.proofs.Names.{Unset, G11, Flagged}
use Rattle.lk_run.proofs.Rows as row
use Rattle.lk_run.proofs.Calling as on
use Rattle.lk_run.proofs.call.Front.hand_on.Goals as goal

pub hand-requires-clause-row : goal.hand-requires-clause-row
hand-requires-clause-row c =
    record {
      lock = c.args.self.now.call.lock;
      row = G11;
      is = refl;
      at = on.at_row c.requires.waits;
      y = c.requires.waits.waits.looked.at.has.next;
      told = refl;
    }

pub returns : goal.returns
returns c =
    on.takes_by c.requires.waits.domain c.hand.ensures.rest (Flagged Unset) (λ i. (c.hand.ensures.row.by i).0) refl (λ f has. row.hands _ _ f Unset)
