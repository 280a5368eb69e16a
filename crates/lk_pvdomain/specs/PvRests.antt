-- Where a call of `pv_lock` that waits rests between two turns.
use Rattle.std.specs.Prelude.{ℕ, Bool, true, false, Option, Some, None}
use Rattle.atomic_table.specs.declared.shared.Seat.{Seat}
use Rattle.lk_word.specs.declared.spin_word.NodeName.{NodeName}
use Rattle.lk_rows.specs.declared.parts.Pc.TheVariants.{E2, E4, E6, E12, E14, G4, H1, H2, K3, W1, W6, W7}
use Rattle.lk_rows.specs.declared.setup.Verb.TheVariants.{Lock}
use Rattle.lk_domain.specs.Keeps.{Slot}
use Rattle.lk_domain.specs.Words.{IsNode}
use Rattle.lk_domain.specs.declared.domain.Domain.{Domain}
use Rattle.lk_domain.specs.declared.view.View.{View}
use Rattle.lk_pvdomain.specs.PvPaths.{At, Halted, Start, Took, Owns, Steals, Follows, Spares, Leads, Tries, Precedes}
use Rattle.lk_pvdomain.specs.declared.rest.PvRest.{PvRest}
use Rattle.lk_pvdomain.specs.declared.rest.PvRest.TheVariants as rest

-- whether its processor has halted there
abbrev pub is_asleep : PvRest → Bool
is_asleep (rest.Halts prev) = true
is_asleep rest.Naps = true
is_asleep _ = false

-- The call on the lock l, which began so, rests there: the row at which it stands, or has halted, and what
-- its frame has there.
abbrev pub Rests : Domain → ℕ → NodeName → PvRest → Start → Seat Slot View → Type 0
Rests d l own rest.Looks s a = At d Lock l own s H1 (Owns own) a
Rests d l own (rest.Steals x) s a = At d Lock l own s H2 (Steals own x.tailed) a
Rests d l own (rest.Joins met) s a = At d Lock l own s G4 (Owns own) a
Rests d l own (rest.Spins x) s a = IsNode d.plan x.prev × At d Lock l own s W1 (Spares own x.prev x.left) a
Rests d l own (rest.Halts prev) s a = IsNode d.plan prev × Halted d l own s W6 W7 (Follows own prev) a
Rests d l own rest.Runs s a = At d Lock l own s E2 (Leads own true) a
Rests d l own (rest.Leads x) s a = At d Lock l own s E4 (Tries own x.hashed x.left) a
Rests d l own rest.Enlists s a = At d Lock l own s E6 (Owns own) a
Rests d l own rest.Naps s a = Halted d l own s E12 E2 (Leads own true) a
Rests d l own rest.Hands s a = At d Lock l own s E14 (Owns own) a
Rests d l own (rest.EnlistsNext to) s a = IsNode d.plan to × At d Lock l own s K3 (Precedes own to) a

-- what a turn of it came to: the processor has the lock, or the call rests
abbrev pub Comes : Domain → ℕ → NodeName → Option PvRest → Start → Seat Slot View → Type 0
Comes d l own None s a = Took d Lock l own s a
Comes d l own (Some r) s a = Rests d l own r s a

abbrev pub is_asleep_at : Option PvRest → Bool
is_asleep_at None = false
is_asleep_at (Some r) = is_asleep r
