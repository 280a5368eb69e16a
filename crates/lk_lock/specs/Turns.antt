-- What a call on a spinlock has done, in each family.
use Rattle.std.specs.Prelude.{◌≡◌, ℕ, ◌+◌, Bool, true, false, List, [], ◌∷◌}
use Rattle.lk_names.specs.declared.holder.Manner.TheVariants.{Spins}
use Rattle.lk_law.specs.Agree.{halts}
use Rattle.lk_law.specs.Leads.{Word}
use Rattle.lk_word.specs.declared.spin_word.Fields.{Fields}
use Rattle.lk_rows.specs.declared.parts.Pc.TheVariants.{U1}
use Rattle.lk_rows.specs.declared.setup.Verb.{Verb}
use Rattle.lk_rows.specs.declared.setup.Verb.TheVariants.{Try, Unlock}
use Rattle.lk_domain.specs.Calls.{Calls, Frees, Mark, Takes, Terms, Unchanged, begun, hold, holds_in, lock_name, mark}
use Rattle.lk_domain.specs.Paths.{Path}

-- a release: the one row U1, or where processors halt a path
abbrev pub FreesBy : Bool → Terms → ℕ → ℕ → List Mark → Type 0
FreesBy false t p l trail = (word : Fields) × (trail ≡ mark U1 (Word word) 0 ∷ [])
FreesBy true t p l trail = Path t p (begun t.mode 0 Unlock l) trail Frees

-- The call v of a processor that was in none has taken the lock by a path of its rows, and no other lock.
pub record HasLocked (t : Terms) (p : ℕ) (v : Verb) (l : ℕ) (old new : Calls) : Type 0 where
  pub path : Path t p (begun t.mode 0 v l) new.last (Takes Spins)
  pub frames : new.frames ≡ old.frames
  pub holds : new.holds ≡ hold 0 (lock_name l) Spins new.taken ∷ old.holds
  pub once : new.taken ≡ old.taken + 1

-- A try has missed the lock by a path of its rows, and has taken no other.
pub record HasPassed (t : Terms) (p l : ℕ) (old new : Calls) : Type 0 where
  pub path : Path t p (begun t.mode 0 Try l) new.last Unchanged
  pub frames : new.frames ≡ old.frames
  pub holds : new.holds ≡ old.holds
  pub taken : new.taken ≡ old.taken

-- A call has freed the lock, and has taken none.
pub record HasUnlocked (t : Terms) (p l : ℕ) (old new : Calls) : Type 0 where
  pub way : FreesBy (halts t.mode) t p l new.last
  pub frames : new.frames ≡ old.frames
  pub none : holds_in new.holds l ≡ false
  pub taken : new.taken ≡ old.taken

-- The lock was taken by a path of its rows, and freed. That was one acquisition, and there was no other
-- meanwhile.
pub record HasTurned (t : Terms) (p : ℕ) (v : Verb) (l : ℕ) (old new : Calls) : Type 0 where
  pub inside : Calls
  pub taken : HasLocked t p v l old inside
  pub freed : HasUnlocked t p l inside new
