-- When fewer states are enough: one that is kept stands for others, which differ from it only in
-- the numbers of processors that are alike and in what nobody reads.
use Rattle.std.specs.Prelude.{◌≡◌, Bool, true, List, Some}
use Rattle.lk_names.specs.declared.events.Act.{Act}
use Rattle.lk_names.specs.declared.events.Event.{Event}
use Rattle.lk_rows.specs.declared.setup.Setup.{Setup}
use Rattle.lk_rows.specs.declared.parts.Pc.{Pc}
use Rattle.lk_rows.specs.Machine.{Machine}
use Rattle.lk_rows.specs.Acts.{next}
use Rattle.lk_idle.specs.Alike.{AreAlike}
use Rattle.lk_renaming.specs.Renaming.{Renaming}
use Rattle.lk_renaming.specs.Renamed.{renamed}
use Rattle.lk_reach.specs.declared.plan.Plan.{Plan}
use Rattle.lk_reach.specs.Folded.{Fits}
use Rattle.lk_reach.specs.Kinds.{kind_value}
use Rattle.lk_reach.specs.Reach.{IsBegun, IsMove, AreMoves, IsReached, MakesRow, AreOver, after}
use Rattle.lk_reach.specs.Reach.{bare, start_of, state_after}

-- Some state of the set, which a schedule reaches, is this one but for such a renaming and for
-- what nobody reads. The set is told by a test of states.
pub record HasStandIn (plan : Plan) (setup : Setup) (known : Machine → Bool) (s : Machine)
    : Type 0 where
  pub state : Machine
  pub is : known state ≡ true
  pub reached : IsReached plan setup state
  pub renaming : Renaming
  pub fits : Fits plan setup renaming
  pub alike : AreAlike (renamed renaming state) s

-- one stands for the first state, and for each to which an act leads from one of the set
pub record Covers (plan : Plan) (setup : Setup) (known : Machine → Bool) : Type 0 where
  pub start : HasStandIn plan setup known (bare (start_of plan setup))
  pub closed : (t : Machine) (a : Act) → known t ≡ true → IsReached plan setup t
      → IsMove plan.extras setup a → HasStandIn plan setup known (after t a)

-- Then one of the set stands for each state that a schedule reaches.
abbrev pub SmallSpaceIsEnough : Type 0
SmallSpaceIsEnough = (plan : Plan) (setup : Setup) (known : Machine → Bool) (acts : List Act)
    → IsBegun plan setup → Covers plan setup known → AreMoves plan.extras setup acts
    → HasStandIn plan setup known (state_after plan setup acts)

-- an act that is explored tells an event of this kind there
pub record TellsKind (plan : Plan) (setup : Setup) (t : Machine) (e : Event) : Type 0 where
  pub act : Act
  pub move : IsMove plan.extras setup act
  pub event : Event
  pub tells : (next t act).1 ≡ Some event
  pub kind : kind_value event.what ≡ kind_value e.what

-- two states make the same rows, both are over or neither is, and what an act tells at the second,
-- one tells at the first
pub record TellTheSame (plan : Plan) (setup : Setup) (t s : Machine) : Type 0 where
  pub rows : (row : Pc) → MakesRow s row → MakesRow t row
  pub made : (row : Pc) → MakesRow t row → MakesRow s row
  pub over : AreOver s → AreOver t
  pub ends : AreOver t → AreOver s
  pub events : (a : Act) (e : Event) → IsMove plan.extras setup a → (next s a).1 ≡ Some e
      → TellsKind plan setup t e

-- So do a state that is reached and the one that stands for it.
abbrev pub StandInsTell : Type 0
StandInsTell = (plan : Plan) (setup : Setup) (known : Machine → Bool) (s : Machine)
    → IsBegun plan setup → IsReached plan setup s → (it : HasStandIn plan setup known s)
    → TellTheSame plan setup it.state s
