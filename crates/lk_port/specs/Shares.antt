-- What a share of a domain is of, and what is so of it by its family.
use Rattle.std.specs.Prelude.{◌≡◌, Bool, true, false}
use Rattle.std.specs.Arc.{arc_value}
use Rattle.lk_law.specs.Agree.{halts}
use Rattle.lk_domain.specs.Seats.{IsIn}
use Rattle.lk_domain.specs.declared.cpu.Cpu.{Cpu}
use Rattle.lk_domain.specs.declared.domain.Domain.{Domain}
use Rattle.lk_pvdomain.specs.declared.domain.PvDomain.{PvDomain}
use Rattle.lk_port.specs.declared.share.Share.{Share}
use Rattle.lk_port.specs.declared.share.Share.TheVariants.{Runs, Halts}

-- the domain, and whether its waiters halt

abbrev pub domain_of : Share → Domain
domain_of (Runs a) = arc_value a
domain_of (Halts a) = (arc_value a).domain

abbrev pub may_halt : Share → Bool
may_halt (Runs a) = false
may_halt (Halts a) = true

-- the first is so of a domain whose waiters run, and the second of one whose waiters halt
abbrev pub By : Share → (Domain → Type 0) → (PvDomain → Type 0) → Type 0
By (Runs a) P Q = P (arc_value a)
By (Halts a) P Q = Q (arc_value a)

-- its waiters run, if it does not say that they halt
abbrev pub IsFit : Share → Type 0
IsFit share = may_halt share ≡ false → halts (domain_of share).plan.mode ≡ false

-- the processor is one of the domain
pub record IsOf (cpu : Cpu) (share : Share) : Type 0 where
  pub seat : IsIn cpu (domain_of share)
  pub fit : IsFit share
