use Rattle.std.proofs.Common.{ap, refl, subst, sym, ◌∙◌}
use Rattle.lk_run.proofs.Names.{Unset, C8, Flagged, IsFlagNode}
use Rattle.lk_rows.specs.rows.Cna.{flag_for}
use Rattle.lk_run.proofs.ChoiceRows as choice
use Rattle.lk_run.proofs.Calling as on
use Rattle.lk_run.proofs.call.Front.hand_chosen.Goals as goal

pub hand-requires-clause-flag : goal.hand-requires-clause-flag
hand-requires-clause-flag c =
    let k = c.args.self.now.call.domain.now.plan in
    subst (IsFlagNode k) (sym c.flag_for.ensures) (choice.flag_node k c.args.second c.requires.second)

pub hand-requires-clause-row : goal.hand-requires-clause-row
hand-requires-clause-row c =
    let at = c.requires.waits.waits.looked.at in
    record {
      lock = c.args.self.now.call.lock;
      row = C8;
      is = refl;
      at = on.at_row c.requires.waits;
      y = at.has.next;
      told = c.flag_for.ensures ∙ ap flag_for (sym at.has.fronts.second);
    }

pub returns : goal.returns
returns c =
    on.takes_by c.requires.waits.domain c.hand.ensures.rest (Flagged Unset) (λ i. (c.hand.ensures.row.by i).0) refl (λ f has. choice.hands_chosen _ _ f Unset)
