-- A processor that does nothing, and what clauses say of the processors of a region, of whichever family.
use Rattle.lk_domain.specs.Seated.{HoldsNothing}
use Rattle.lk_domain.specs.Seats.{IsOf, IsSame, calls_of, view_of}
use Rattle.lk_domain.specs.declared.cpu.Cpu.{Cpu}
use Rattle.lk_domain.specs.declared.domain.Domain.{Domain}
use Rattle.lk_domain.specs.declared.plan.Plan.{Plan}
use Rattle.lk_pvdomain.specs.PvCalls.{IsResting}
use Rattle.lk_pvdomain.specs.PvSeats.{IsOf as IsPvOf}
use Rattle.lk_pvdomain.specs.declared.domain.PvDomain.{PvDomain}

-- it waits for nothing, holds nothing, and does not have the journal out
abbrev pub IsIdle : Cpu → Type 0
IsIdle cpu = HoldsNothing (view_of cpu)

-- the same of one whose family halts, which has not halted
pub record IsFree (cpu : Cpu) : Type 0 where
  pub nothing : HoldsNothing (view_of cpu)
  pub rests : IsResting (calls_of cpu)

-- the processors of a domain with this plan: whether one is of the domain and idle
pub record Crew : Type 1 where
  pub plan : Plan
  pub ready : Cpu → Type 0

abbrev pub crew_of : Domain → Crew
crew_of domain = record { plan = domain.plan; ready = λ cpu. IsOf cpu domain × IsIdle cpu }

abbrev pub pv_crew_of : PvDomain → Crew
pv_crew_of domain = record { plan = domain.domain.plan; ready = λ cpu. IsPvOf cpu domain × IsFree cpu }

-- one of them is the same as before, and ready again
pub record Stays (crew : Crew) (old new : Cpu) : Type 0 where
  pub same : IsSame old new
  pub ready : crew.ready new
