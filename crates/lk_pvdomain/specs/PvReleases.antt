-- What contracts say of a release that may not wait.
use Rattle.std.specs.Prelude.{ℕ, Bool, true, false, List, [], ◌∷◌, Option, Some, None}
use Rattle.lk_rows.specs.declared.parts.Pc.{Pc}
use Rattle.lk_rows.specs.declared.parts.Pc.TheVariants.{U3}
use Rattle.lk_law.specs.Leads.{Met, Named}
use Rattle.lk_domain.specs.Calls.{Mark}
use Rattle.lk_pvdomain.specs.declared.freeing.PvRelease.{PvRelease}
use Rattle.lk_pvdomain.specs.declared.freeing.PvRelease.TheVariants.{Freed, Kicked, Still}

-- whether the lock is free
abbrev pub has_freed : PvRelease → Bool
has_freed Freed = true
has_freed (Kicked n) = true
has_freed Still = false

-- which processor was kicked
abbrev pub whom : PvRelease → Option ℕ
whom Freed = None
whom (Kicked n) = Some n
whom Still = None

-- Which one is kicked at the end of a call whose trail is this: the processor of the node that U3 has taken
-- out of the hash.

abbrev pub found_at : Pc → Met → Option ℕ → Option ℕ
found_at U3 (Named (Some n)) o = Some n.cpu
found_at c x o = o

abbrev pub kicked_from : Option ℕ → List Mark → Option ℕ
kicked_from o [] = o
kicked_from o (k ∷ ks) = kicked_from (found_at k.row k.met o) ks

abbrev pub kicked_in : List Mark → Option ℕ
kicked_in ks = kicked_from None ks
