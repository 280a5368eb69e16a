-- What a call has done that took a reader-writer lock: where its rows took the lock, and how they
-- went on from there.
use Rattle.std.specs.Prelude.{◌≡◌, ◌⊎◌, ℕ, ◌<◌, List, [], ◌∷◌, ◌++◌, length}
use Rattle.lk_names.specs.declared.holder.Manner.{Manner}
use Rattle.lk_rows.specs.declared.parts.Frame.{Frame}
use Rattle.lk_rows.specs.declared.parts.Pc.{Pc}
use Rattle.lk_rows.specs.declared.parts.Pc.TheVariants.{U1}
use Rattle.lk_rows.specs.declared.setup.Verb.{Verb}
use Rattle.lk_law.specs.Leads.{Met}
use Rattle.lk_domain.specs.Calls.{Terms, Mark, mark, hold, Calls, Grip, Takes, Frees, begun, lock_name}
use Rattle.lk_domain.specs.Ledgers.{turned}
use Rattle.lk_domain.specs.Paths.{PathTo, Path}
use Rattle.lk_domain.specs.Seats.{calls_of, ledger_of}
use Rattle.lk_domain.specs.Turns.{HasLeft}
use Rattle.lk_domain.specs.declared.cpu.Cpu.{Cpu}

-- the rows of the trail lead from the frame a to a row that ends the call
abbrev pub Over : Terms → ℕ → Frame → List Mark → Type 0
Over t p a trail = (grip : Grip) × Path t p a trail grip

-- no row more, or the one by which the wait lock is freed
abbrev pub FreesWait : List Mark → Type 0
FreesWait behind = (behind ≡ []) ⊎ ((x : Met) × (behind ≡ mark U1 x 0 ∷ []))

-- The call v on l has taken the lock in this manner, by the rows of the first trail; where it had the
-- wait lock then, it has freed that, and is over.
pub record HasEntered (t : Terms) (p : ℕ) (v : Verb) (l : ℕ) (manner : Manner)
    (upto : List Mark) (old new : Calls) : Type 0 where
  pub takes : PathTo t p (begun t.mode (length old.frames) v l) upto (Takes manner)
  pub over : Over t p (begun t.mode (length old.frames) v l) new.last
  pub behind : List Mark
  pub last : new.last ≡ upto ++ behind
  pub release : FreesWait behind
  pub frames : new.frames ≡ old.frames
  pub holds : new.holds ≡ hold (length old.frames) (lock_name l) manner new.taken ∷ old.holds
  pub taken : old.taken < new.taken

-- a step by which a reader or the writer frees the lock
pub record Leaves (c : Pc) (l : ℕ) (before after : Cpu) : Type 0 where
  pub left : HasLeft c l (calls_of before) (calls_of after)
  pub ledger : ledger_of after
      ≡ turned (ledger_of before) (lock_name l) Frees (calls_of after).last
