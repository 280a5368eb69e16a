-- What clauses say of a processor whose family halts: lk_domain's words, of the domain inside.
use Rattle.std.specs.Prelude.{ℕ, List}
use Rattle.lk_domain.specs.Ends as ends
use Rattle.lk_domain.specs.Seats as seats
use Rattle.lk_domain.specs.declared.cpu.Cpu.{Cpu}
use Rattle.lk_pvdomain.specs.declared.domain.PvDomain.{PvDomain}

-- the processor is one of the domain
abbrev pub IsOf : Cpu → PvDomain → Type 0
IsOf cpu d = seats.IsIn cpu d.domain

-- a new domain gave it this number
abbrev pub IsDealt : PvDomain → ℕ → Cpu → Type 0
IsDealt d = seats.IsDealt d.domain

-- in order of their numbers
abbrev pub AreDealt : PvDomain → List Cpu → Type 0
AreDealt d = seats.AreDealt d.domain

-- processors that hold nothing and are in no call, in order of their numbers
abbrev pub AllRest : PvDomain → List Cpu → Type 0
AllRest d = ends.AllRest d.domain
