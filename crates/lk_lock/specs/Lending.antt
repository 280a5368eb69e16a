-- What a held lock ends as, where a `&mut` to its value is returned.
use Rattle.std.specs.Prelude.{[], Option, ℕ}
use Rattle.std.specs.Borrow.{Lends, MutBor, Fml, GName, RattleType, RestsIfNone}
use mir.Syntax.{named}
use Rattle.atomic_table.specs.Lent.{seat_with}
use Rattle.lk_domain.specs.Calls.{terms_of}
use Rattle.lk_domain.specs.Seats.{calls_of}
use Rattle.lk_domain.specs.contracts.cpu.Cpu.{the_row as the_cpu}
use Rattle.lk_domain.specs.declared.cpu.Cpu.{Cpu}
use Rattle.lk_domain.specs.declared.domain.Domain.{Domain}
use Rattle.lk_lock.specs.Standing.{IsAsBefore, IsReady}
use Rattle.lk_lock.specs.Turns.{HasPassed}
use Rattle.lk_lock.specs.declared.held.Held.{Held}
use Rattle.lk_lock.specs.contracts.held.Held.{the_row}

-- it, with this value
abbrev pub held_with : {T R : Type 0} → Held T R → T → Held T R
held_with held value = record held { place = seat_with held.place 0 value }

-- once the borrow r ends, the value is the last that was written through it
abbrev pub LendsValue : (T R : RattleType) → MutBor (Held T.Denot R.Denot) → MutBor T.Denot → Fml
LendsValue T R held r =
    Lends (the_row (record { mir = named 1; lft = [] }) T R) T held r (held_with held.now)

-- the processor under a guard
abbrev pub lent_to : {T R : Type 0} → Held T R → GName
lent_to held = held.cpu.ghost_name

-- a try of this lock that did not take it leaves the processor as it was, by a path that ends in a miss
abbrev pub RestsWhenMissed : (T R : RattleType) → MutBor Cpu → Domain → ℕ → Option (Held T.Denot R.Denot) → Fml
RestsWhenMissed T R cpu domain l result =
    RestsIfNone the_cpu cpu lent_to result (λ now. IsReady domain now × IsAsBefore cpu.now now
    × HasPassed (terms_of domain.plan) cpu.now.number l (calls_of cpu.now) (calls_of now))
