-- When an act leads on from a state: to one that is not the same but for what nobody reads.
use Rattle.std.specs.Prelude.{◌≡◌, ◌<◌, ◌⊎◌, ◌-◌, ℕ, Bool, true, false, List, length, slice_get, Some}
use Rattle.lk_names.specs.declared.events.Act.{Act}
use Rattle.lk_rows.specs.declared.setup.Setup.{Setup}
use Rattle.lk_rows.specs.Machine.{Machine, depth_at, top_frame, preempted_at, halted_at, kicked_at, handlers_at}
use Rattle.lk_rows.specs.Programs.{handlers_of}
use Rattle.lk_idle.specs.Alike.{AreAlike, rested_frame}
use Rattle.lk_reach.specs.declared.plan.Plan.{Plan}
use Rattle.lk_reach.specs.declared.ends.sight.Sight.{Sight}
use Rattle.lk_reach.specs.Explored.{IsGood, OnlyMoves}
use Rattle.lk_reach.specs.Reach.{AreOver, IsBegun, IsMove, IsReached, after}
use Rattle.lk_reach.specs.Space.{Keeps, SpaceValue}

-- what is seen of a processor: how many frames it has, the newest with its dead registers at rest, its marks, and how
-- many handlers are left
abbrev pub sight_of : Machine → ℕ → Sight
sight_of m p = record {
  depth = depth_at m p;
  top = rested_frame (top_frame m p);
  preempted = preempted_at m p;
  halted = halted_at m p;
  kicked = kicked_at m p;
  handlers = handlers_of m.setup p - handlers_at m p;
}

-- acts of the plan may be tried, by a machine of this setup, on all states that were met
pub record MayTry (plan : Plan) (setup : Setup) (v : SpaceValue) : Type 0 where
  pub begun : IsBegun plan setup
  pub moves : OnlyMoves plan.extras setup plan.acts.items
  pub good : (k : ℕ) → k < length v.keys → IsGood plan setup v k

-- the act leads on from the state of this number
abbrev pub LeadsOnBy : Plan → Setup → SpaceValue → ℕ → Act → Type 0
LeadsOnBy plan setup v k a = (s : Machine) → Keeps v k s → IsReached plan setup s → ¬ AreAlike (after s a) s

-- some act does
pub record LeadsOn (plan : Plan) (setup : Setup) (v : SpaceValue) (k : ℕ) : Type 0 where
  pub act : Act
  pub move : IsMove plan.extras setup act
  pub other : LeadsOnBy plan setup v k act

-- everybody is done at the state of this number
abbrev pub IsOverAt : Plan → Setup → SpaceValue → ℕ → Type 0
IsOverAt plan setup v k = (s : Machine) → Keeps v k s → IsReached plan setup s → AreOver s

-- each mark that is set says that everybody is done at the state of its number, or that some act leads on from it, and
-- each other one that not everybody is done
pub record AreGoing (plan : Plan) (setup : Setup) (v : SpaceValue) (marks : List Bool) : Type 0 where
  pub count : length marks ≡ length v.keys
  pub on : (k : ℕ) → slice_get marks k ≡ Some true → IsOverAt plan setup v k ⊎ LeadsOn plan setup v k
  pub off : (k : ℕ) → slice_get marks k ≡ Some false → (s : Machine) → Keeps v k s → IsReached plan setup s → ¬ AreOver s
