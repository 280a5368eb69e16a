use Rattle.std.proofs.Common.{◌∙◌, ap, sym, subst}
use Rattle.lk_reach.proofs.Names.{Machine, at_rest, tight_setup, IsSuch}
use Rattle.lk_reach.proofs.apart.Helped as helped
use Rattle.lk_reach.proofs.helper.Helper.new.Goals as goal

pub returns : goal.returns
returns c =
    let z = tight_setup c.args.setup.now in
    record {
      such = subst (λ (m : Machine). IsSuch z m) (sym (c.in_ok-machine.ensures ∙ ap at_rest c.in_ok-copy.ensures.copy)) (helped.rest_such z);
      none = c.new-2.ensures.items;
      no_steps = c.none.ensures;
    }
