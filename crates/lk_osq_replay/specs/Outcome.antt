-- What each answer of `osq` means, by what is seen of its source and its sink before it and after
-- it.
use Rattle.std.specs.Prelude.{◌≡◌, ℕ, List, [], Result, Ok, Err, length, map, true}
use Rattle.std.specs.Io.KnownBytes.{Appends, IsAtEnd}
use Rattle.lk_stream.specs.Grammar.{Good, Says}
use Rattle.lk_stream.specs.Outside.{Outside}
use Rattle.lk_stream.specs.Outcome.{FaultMeans}
use Rattle.lk_stream.specs.declared.answers.ReplayFault.{ReplayFault}
use Rattle.lk_osq.specs.declared.events.OsqEvent.{OsqEvent}
use Rattle.lk_osq.specs.Run.{Act}
use Rattle.lk_osq.specs.History.{nothing_told, IsLawfulAfter}
use Rattle.lk_osq.specs.Handed.{AreHanded}
use Rattle.lk_osq_forms.specs.Grammar.{Schedule}
use Rattle.lk_osq_forms.specs.Trace.{osq_grammar, history_of_run, transcript}

-- the events of a run
abbrev pub events_of_run : List ℕ → List Act → List OsqEvent
events_of_run rounds acts = map (λ o. o.event) (history_of_run rounds acts)

-- The input is good, with these rounds and these acts; it was read to its end, and its whole
-- transcript was written. The history is lawful: after every prefix there is at most one holder,
-- and each release is by it; the free lock is taken where nobody holds it or was handed it; and
-- each handoff is to a waiter, which takes the lock by its next event, before any other takes.
pub record OsqDone (old new : Outside) (made : ℕ) : Type 0 where
  pub rounds : List ℕ
  pub acts : List Act
  pub good : Says osq_grammar old.left (Good (Schedule rounds acts true))
  pub all_read : IsAtEnd new.left
  pub written : Appends old.held new.held (transcript rounds acts)
  pub acts_made : made ≡ length acts
  pub lawful : IsLawfulAfter (events_of_run rounds acts) nothing_told
  pub handed : AreHanded [] (events_of_run rounds acts) nothing_told

abbrev pub OsqOutcome : Outside → Outside → Result ℕ ReplayFault → Type 0
OsqOutcome old new (Ok made) = OsqDone old new made
OsqOutcome old new (Err fault) = FaultMeans osq_grammar old new fault
