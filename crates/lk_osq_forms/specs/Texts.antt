-- The lines of a history. Each ends with a line feed.
use Rattle.std.specs.Prelude.{ℕ, List, [], ◌++◌, Option, None, Some, codes, decimal}
use Rattle.std.specs.List.{flat_map}
use Rattle.lk_osq.specs.declared.events.OsqEvent.{OsqEvent}
use Rattle.lk_osq.specs.declared.events.OsqWhat.{OsqWhat}
use Rattle.lk_osq.specs.declared.events.OsqWhat.TheVariants.{TakeFree, Arrive, TakeHanded, Quit, Release}
use Rattle.lk_osq.specs.Run.{Occurrence}

-- the one to which the lock was handed, if it was
abbrev pub to_text : Option ℕ → List ℕ
to_text None = []
to_text (Some y) = codes " to " ++ decimal y

-- what happened
abbrev pub what_text : OsqWhat → List ℕ
what_text TakeFree = codes "take free"
what_text Arrive = codes "arrive"
what_text TakeHanded = codes "take handed"
what_text Quit = codes "quit"
what_text (Release to) = codes "release" ++ to_text to

-- the line of an event: the act's number, the processor, and what happened
abbrev pub event_text : ℕ → OsqEvent → List ℕ
event_text act event =
    decimal act ++
    (codes " " ++ (decimal event.cpu ++ (codes " " ++ (what_text event.what ++ codes "\n"))))

-- the lines of a history
abbrev pub lines : List Occurrence → List ℕ
lines history = flat_map (λ o. event_text o.act o.event) history
