-- What a queue head meets that looks for its successor, and the rows C1 and C2 told by that.
use Rattle.std.specs.Prelude.{◌+◌, Option, Some, None, [], ◌∷◌, if◌then◌else◌}
use Rattle.lk_word.specs.declared.spin_word.NodeName.{NodeName}
use Rattle.lk_rows.specs.declared.parts.Frame.{Frame}
use Rattle.lk_rows.specs.declared.parts.Pc.TheVariants.{C1, C2, C3, C5, C7}
use Rattle.lk_rows.specs.declared.parts.Why.TheVariants as why
use Rattle.lk_rows.specs.declared.search.First.{First}
use Rattle.lk_rows.specs.declared.search.First.TheVariants as first
use Rattle.lk_rows.specs.declared.search.More.{More}
use Rattle.lk_rows.specs.declared.search.More.TheVariants as more
use Rattle.lk_rows.specs.Row.{Effect, A, B, K, Reason, Y, Second, learns_all}
use Rattle.lk_rows.specs.rows.Cna.{Sight, may_stay}

-- the run is over: the secondary queue returns before the successor, if there is one
abbrev pub over_by : Option NodeName → NodeName → First
over_by None n = first.Chooses n
over_by (Some m) n = first.Flushes m n

-- by the link of its own node
abbrev pub first_by : Sight → Option NodeName → Option NodeName → First
first_by s None None = first.Waits
first_by s (Some m) None = first.Promotes m
first_by s second (Some n) =
    if may_stay s then (if s.local n then first.Chooses n else first.Skips n) else over_by second n

-- a local waiter is linked behind those that were passed over
abbrev pub met_by : Option NodeName → NodeName → More
met_by None n = more.Begins n
met_by (Some m) n = more.Appends m n

-- by the link of the last that was passed over
abbrev pub more_by : Sight → Option NodeName → Option NodeName → More
more_by s None None = more.Chooses
more_by s (Some m) None = more.Flushes m
more_by s second (Some n) = if s.local n then met_by second n else more.Skips n

-- what C1 does then
abbrev pub first_effect : First → Effect (Option NodeName)
first_effect first.Waits = learns_all C1 (K 0 ∷ [])
first_effect (first.Promotes m) = learns_all C3 (K 0 ∷ Reason why.Promotion ∷ [])
first_effect (first.Chooses n) = learns_all C7 (K 0 ∷ Y (Some n) ∷ [])
first_effect (first.Skips n) = learns_all C2 (K 1 ∷ A (Some n) ∷ B (Some n) ∷ [])
first_effect (first.Flushes m n) = learns_all C3 (K 0 ∷ A (Some n) ∷ Reason why.Flush ∷ [])

-- what C2 does then
abbrev pub more_effect : Frame → More → Effect (Option NodeName)
more_effect f (more.Skips n) = learns_all C2 (B (Some n) ∷ K (f.k + 1) ∷ [])
more_effect f (more.Appends m n) = learns_all C3 (Y (Some n) ∷ Reason why.Append ∷ [])
more_effect f (more.Begins n) = learns_all C5 (Y (Some n) ∷ Second f.a ∷ [])
more_effect f (more.Flushes m) = learns_all C3 (K 0 ∷ Reason why.Flush ∷ [])
more_effect f more.Chooses = learns_all C7 (K 0 ∷ Y f.a ∷ [])
