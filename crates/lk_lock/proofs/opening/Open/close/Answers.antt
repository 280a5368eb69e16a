use Rattle.std.proofs.Common.{Option, sym, subst}
use Rattle.lk_lock.proofs.Names.{ListOf, Key}
use Rattle.lk_domain.specs.Values.{AreLaid}
use Rattle.lk_lock.proofs.{Closings.all_keys, Resting.all_end}
use Rattle.lk_lock.proofs.opening.Open.close.Goals as goal

pub close-requires-clause-rest : goal.close-requires-clause-rest
close-requires-clause-rest c = all_end c.args.self.domain c.args.self.cpus.items c.requires.rest

pub returns-in-Ok-clause-keys : goal.returns-in-Ok-clause-keys
returns-in-Ok-clause-keys c =
    all_keys c.args.self.domain.plan (record { by_lock = c.into_keys.result })
    (subst (λ (keys : ListOf (Option Key)). AreLaid c.args.self.domain.plan keys.items) (sym c.into_keys.ensures) c.in-Ok.ensures.keys)
