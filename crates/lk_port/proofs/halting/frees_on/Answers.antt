use Rattle.std.proofs.Common.{sym, subst}
use Rattle.lk_rows.specs.declared.setup.Verb.TheVariants.{Unlock}
use Rattle.lk_domain.specs.Calls.{Frees}
use Rattle.lk_pvdomain.specs.PvCalls.{HasTried}
use Rattle.lk_pvdomain.specs.PvPaths.{Ended}
use Rattle.lk_port.proofs.Names.{Domain}
use Rattle.lk_port.proofs.halting.frees_on.Goals as goal

pub returns-then-is_free-clause-freed : goal.returns-then-is_free-clause-freed
returns-then-is_free-clause-freed c is own s h =
    let l = c.args.lock.index in
    let e = c.domain.ensures in
    subst (λ (d : Domain). Ended d Unlock l own s Frees c.try_release-release.new.seat) e
    (c.try_release-release.ensures.freed is own s (subst (λ (d : Domain). HasTried d l own s c.args.met c.args.seat.now) (sym e) h))
