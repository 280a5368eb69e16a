-- A processor of a domain: its seat, as the steps at the ledger ask for it, and its notes.
use Rattle.std.proofs.Common.{◌≡◌, ℕ, ◌<◌, true, false, sym, ap, ◌∙◌, subst}
use Rattle.lk_domain.proofs.Names.{halts, are_calls, IsNoted, locks_of, Cpu, Domain, Plan}
use Rattle.lk_domain.specs.{Seated.{IsTableOf, IsSeatOf}, Seats.{IsIn, IsOf}}

abbrev pub table_of : (d : Domain) → IsTableOf d.plan d.table.shared.table_id d.table.shared.key
table_of d = record { lawful = d.lawful; words = d.words; slots = d.slots; key_is = d.key }

-- it is one of the domain, and so one whose family halts none, if the domain's does not

pub in_of : (cpu : Cpu) (d : Domain) → IsOf cpu d → IsIn cpu d
in_of cpu d o = record { table = o.table; plan = o.plan; low = o.low }

pub of_in : (cpu : Cpu) (d : Domain) → IsIn cpu d → halts d.plan.mode ≡ false → IsOf cpu d
of_in cpu d i awake = record { table = i.table; plan = i.plan; low = i.low; awake = awake }

abbrev pub seat_in : (cpu : Cpu) (d : Domain) → IsIn cpu d → IsSeatOf d.plan d.table.shared.table_id cpu.seat
seat_in cpu d i = record { table_is = i.table; plan_is = i.plan; number = (cpu.number, cpu.numbered); carried = cpu.carried }

-- or of one that a type has inside
pub seat_inside : (cpu : Cpu) (d e : Domain) → d ≡ e → IsIn cpu e → IsSeatOf d.plan d.table.shared.table_id cpu.seat
seat_inside cpu d e same i = seat_in cpu d (subst (λ (x : Domain). IsIn cpu x) (sym same) i)

-- what it notes, where its family halts none

pub awake_of : (cpu : Cpu) (d : Domain) → IsOf cpu d → halts cpu.seat.me.0.who.plan.mode ≡ false
awake_of cpu d o = ap (λ (k : Plan). halts k.mode) o.plan ∙ o.awake

pub noted_of : (cpu : Cpu) (d : Domain) → IsOf cpu d
    → IsNoted cpu.notes (locks_of cpu.seat.me.0.who.plan) cpu.seat.me.0.calls
noted_of cpu d o = cpu.noted (awake_of cpu d o)

pub apart_of : (cpu : Cpu) (d : Domain) → IsOf cpu d → are_calls cpu.seat.me.0.calls.frames ≡ true
apart_of cpu d o = cpu.apart (awake_of cpu d o)

-- a lock of the domain is one of those that the processor notes
pub low_of : (cpu : Cpu) (d : Domain) (l : ℕ) → IsOf cpu d → l < locks_of d.plan → l < locks_of cpu.seat.me.0.who.plan
low_of cpu d l o low = subst (λ (k : Plan). l < locks_of k) (sym o.plan) low
