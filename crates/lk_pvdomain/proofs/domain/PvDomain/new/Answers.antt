use Rattle.std.proofs.Common.{ap, sym, subst, Option}
use Rattle.lk_names.specs.ListOf.{ListOf}
use Rattle.lk_domain.specs.Values.{AreLaid, Key, keys_in}
use Rattle.lk_domain.proofs.seats.Dealt.{none_laid}
use Rattle.lk_pvdomain.proofs.PvRunning.{runs_by}
use Rattle.lk_pvdomain.proofs.domain.PvDomain.new.Goals as goal

pub open-requires : goal.open-requires
open-requires c =
    let p = c.args.plan.now in
    let k = c.in_ok-whole.whole in
    record {
      lawful = runs_by p k c.requires c.in_ok-whole.ensures.plan;
      laid =
          subst (λ (l : ListOf (Option Key)). AreLaid k l.items) (sym c.in_ok-keys.ensures)
          (none_laid k (ap keys_in c.in_ok-whole.ensures.none));
    }
