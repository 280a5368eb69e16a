-- The nodes that a head names that looks for its successor.
use Rattle.lk_rows.specs.declared.search.First.{First}
use Rattle.lk_rows.specs.declared.search.First.TheVariants as first
use Rattle.lk_rows.specs.declared.search.More.{More}
use Rattle.lk_rows.specs.declared.search.More.TheVariants as more
use Rattle.lk_domain.specs.Words.{IsNode}
use Rattle.lk_domain.specs.declared.plan.Plan.{Plan}

abbrev pub IsFirstNode : Plan → First → Type 0
IsFirstNode k first.Waits = Unit {0}
IsFirstNode k (first.Promotes m) = IsNode k m
IsFirstNode k (first.Chooses n) = IsNode k n
IsFirstNode k (first.Skips n) = IsNode k n
IsFirstNode k (first.Flushes m n) = IsNode k m × IsNode k n

abbrev pub IsMoreNode : Plan → More → Type 0
IsMoreNode k (more.Skips n) = IsNode k n
IsMoreNode k (more.Appends m n) = IsNode k m × IsNode k n
IsMoreNode k (more.Begins n) = IsNode k n
IsMoreNode k (more.Flushes m) = IsNode k m
IsMoreNode k more.Chooses = Unit {0}
