-- What is proved of acts and of runs.
use Rattle.std.specs.Prelude.{◌≡◌, ◌+◌, ◌<◌, ℕ, Bool, List, [], ◌++◌, length, map}
use Rattle.lk_osq.specs.History.{Told, nothing_told, told_by, IsLawfulAfter}
use Rattle.lk_osq.specs.Handed.{AreHanded}
use Rattle.lk_osq.specs.Machine.{Machine}
use Rattle.lk_osq.specs.Rows.{next}
use Rattle.lk_osq.specs.Shown.{Shows, told_on, IsLawfulIfAny}
use Rattle.lk_osq.specs.Run.{Act, machine_after, history, history_from, at_rest, AreInRange}

-- Every act keeps what the machine shows, and its event is lawful.
abbrev pub ActKeeps : Type 0
ActKeeps = (m : Machine) (t : Told) (give : Bool) (p : ℕ) → p < length m.cpus → Shows m t
    → Shows (next m give p).0 (told_on (next m give p).1 t) × IsLawfulIfAny (next m give p).1 t

-- The history of every list of acts from rest is lawful, each of its handoffs is taken, and the
-- machine afterwards shows what it tells.
abbrev pub RunKeeps : Type 0
RunKeeps = (rounds : List ℕ) (acts : List Act) → AreInRange (length rounds) acts
    → IsLawfulAfter (history (at_rest rounds) acts) nothing_told
    × AreHanded [] (history (at_rest rounds) acts) nothing_told
    × Shows (machine_after (at_rest rounds) acts)
    (told_by (history (at_rest rounds) acts) nothing_told)

-- The machine at rest shows what no event tells.
abbrev pub RestShows : Type 0
RestShows = (rounds : List ℕ) → Shows (at_rest rounds) nothing_told

-- A run can be told in parts: the machine after acts and then more is that after more, begun at the
-- machine after the first; so are the occurrences; and the occurrences without their numbers are
-- the history.
pub record RunsInParts : Type 0 where
  pub machine : (m : Machine) (made more : List Act)
      → machine_after m (made ++ more) ≡ machine_after (machine_after m made) more
  pub occurrences : (n : ℕ) (m : Machine) (made more : List Act)
      → history_from n m (made ++ more)
      ≡ history_from n m made ++ history_from (n + length made) (machine_after m made) more
  pub events : (n : ℕ) (m : Machine) (acts : List Act)
      → map (λ o. o.event) (history_from n m acts) ≡ history m acts
