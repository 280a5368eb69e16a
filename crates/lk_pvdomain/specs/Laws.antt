-- What the rule says of halts and of the hash.
use Rattle.std.specs.Prelude.{◌≡◌, ◌⊎◌, ℕ, ◌<◌, List, [], ◌∷◌, Some, true, false, slice_get, slice_index}
use mathlib.Core.Option.{some}
use lib.ListN.{get_elem?}
use Rattle.atomic_table.specs.Table.{State}
use Rattle.lk_names.specs.declared.names.Waiter.{Waiter}
use Rattle.lk_names.specs.declared.names.LockName.{LockName}
use Rattle.lk_word.specs.declared.spin_word.Locked.TheVariants.{Free}
use Rattle.lk_rows.specs.declared.parts.Frame.{Frame}
use Rattle.lk_rows.specs.declared.parts.Pc.TheVariants.{U3, U5}
use Rattle.lk_rows.specs.Moves.{node_of}
use Rattle.lk_law.specs.Agree.{halts}
use Rattle.lk_law.specs.Places.{post_of}
use Rattle.lk_law.specs.Pv.{at_halt}
use Rattle.lk_law.specs.SoundWorld.{is_rw_name}
use Rattle.lk_domain.specs.Calls.{Running}
use Rattle.lk_domain.specs.Keeps.{Slot}
use Rattle.lk_domain.specs.Stand.{Stand}
use Rattle.lk_domain.specs.Words.{kick_at, places_of}
use Rattle.lk_domain.specs.declared.plan.Plan.{Plan}
use Rattle.lk_domain.specs.declared.view.View.{View}

-- the seat's call has freed its lock, and is about to kick this processor
pub record WillKick (v : View) (p : ℕ) : Type 0 where
  pub call : Running
  pub only : v.calls.frames ≡ call ∷ []
  pub place : call.frame.place ≡ Some U5
  pub target : (node_of call.frame.target).cpu ≡ p

-- Between any two steps: the first of the queue of a free lock that is about to halt, or has halted, has
-- its kick word set, or a seat is about to kick its processor.
abbrev pub FrontIsKicked : Type 0
FrontIsKicked = (k : Plan) (s : State Slot View) (both : Stand k s) (l : LockName) (w : Waiter) (f : Frame)
    → halts k.mode ≡ true → is_rw_name both.runs.world.kind l ≡ false
    → (both.runs.world.word l).locked ≡ Free → slice_get (both.runs.histories l).main 0 ≡ Some w
    → both.runs.world.frame w ≡ Some f → at_halt (post_of f) ≡ true
    → (slice_index s.words (kick_at k w.cpu) ≡ 1)
    ⊎ ((id : ℕ) × (v : View) × (get_elem? s.views id ≡ some v) × WillKick v w.cpu)

-- Between any two steps: who seeks whom to kick has not looked at every place of the hash.
abbrev pub EntryIsFound : Type 0
EntryIsFound = (k : Plan) (s : State Slot View) (both : Stand k s) (id p : ℕ) (v : View) (x : Running)
    (rs : List Running)
    → halts k.mode ≡ true → get_elem? s.views id ≡ some v → v.who.number ≡ Some p
    → v.calls.frames ≡ x ∷ rs → x.frame.place ≡ Some U3 → v.calls.looked < places_of k
