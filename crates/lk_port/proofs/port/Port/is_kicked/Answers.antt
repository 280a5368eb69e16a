use Rattle.std.proofs.Common.{ℕ, ◌<◌, sym, subst}
use Rattle.lk_domain.specs.Plans.{cpus_of}
use Rattle.lk_port.proofs.Shares.{is_of}
use Rattle.lk_port.proofs.port.Port.is_kicked.Goals as goal

pub is_kicked-requires : goal.is_kicked-requires
is_kicked-requires c =
    let me = c.args.self.now in
    let d = c.halting.result.now in
    subst (λ (n : ℕ). n < cpus_of d.domain.plan) (sym c.number.ensures) (is_of me.share d c.halting.ensures me.of).low
