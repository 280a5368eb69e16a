-- Where a call stands that waits, and what of its lock it has already.
use Rattle.std.specs.Prelude.{◌≡◌, ℕ, ◌+◌, ◌≤◌, true, List, ◌∷◌, length, Some, None}
use Rattle.lk_names.specs.declared.holder.Manner.{Manner}
use Rattle.lk_names.specs.declared.holder.Manner.TheVariants.{Spins}
use Rattle.lk_names.specs.declared.names.LockName.{LockName}
use Rattle.lk_rows.specs.declared.parts.Frame.{Frame}
use Rattle.lk_rows.specs.declared.parts.Pc.{Pc}
use Rattle.lk_rows.specs.declared.setup.Verb.{Verb}
use Rattle.lk_rows.specs.Moves.{wait_name}
use Rattle.lk_law.specs.Sound.{after_wait, takes_wait}
use Rattle.lk_domain.specs.Calls.{Terms, Mark, running, hold, held_in, Hold, Calls, begun, lock_name}
use Rattle.lk_domain.specs.Paths.{Walk}

-- which locks a call has: none, the wait lock of its lock, or its lock in this manner besides
pub data Stage : Type 0 where
  Outside : Stage
  Inside : Stage
  Entered : Manner → Stage

-- how many locks a call has at a stage
abbrev pub locks_at : Stage → ℕ
locks_at Outside = 0
locks_at Inside = 1
locks_at (Entered m) = 2

-- The processor holds what it held when the call began, and what the call has by now. The call is of
-- the context c, and acts on the lock of the name n.
abbrev pub HoldsAt : Stage → ℕ → LockName → List Hold → Calls → Type 0
HoldsAt Outside c n old new = new.holds ≡ old
HoldsAt Inside c n old new = (k : ℕ) × (new.holds ≡ hold c n Spins k ∷ old)
HoldsAt (Entered m) c n old new =
    (k : ℕ) × (new.holds ≡ hold c (lock_name n.index) m new.taken ∷ hold c n Spins k ∷ old)

-- The call v of the processor p, which began where its calls were the old ones, stands at the row c
-- and at this stage. Its frame acts on the lock of the name n, and meets the condition; where that is
-- a wait lock it knows where it goes on when it has that. It has taken the locks of its stage since it
-- began, and a call that may take the wait lock did not hold that then.
pub record IsOn (t : Terms) (p : ℕ) (v : Verb) (n : LockName) (c : Pc)
    (condition : Frame → Type 0) (stage : Stage) (old new : Calls) : Type 0 where
  pub frame : Frame
  pub trail : List Mark
  pub walk : Walk t p (begun t.mode (length old.frames) v n.index) trail frame
  pub frames : new.frames ≡ running v frame trail ∷ old.frames
  pub holds : HoldsAt stage (length old.frames) n old.holds new
  pub taken : old.taken + locks_at stage ≤ new.taken
  pub place : frame.place ≡ Some c
  pub lock : frame.lock ≡ n
  pub ctx : frame.ctx ≡ length old.frames
  pub after : n.wait ≡ true → frame.then ≡ after_wait v
  pub free : takes_wait v ≡ true → held_in old.holds (length old.frames) (wait_name n.index) ≡ None
  pub has : condition frame

-- the call v on l stands so, has no lock yet, and none was taken since it began
pub record IsAt (t : Terms) (p : ℕ) (v : Verb) (l : ℕ) (c : Pc) (condition : Frame → Type 0)
    (old new : Calls) : Type 0 where
  pub on : IsOn t p v (lock_name l) c condition Outside old new
  pub taken : new.taken ≡ old.taken
