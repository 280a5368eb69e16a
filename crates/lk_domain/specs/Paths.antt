-- Trails that are paths of the rows, and what a call has done.
use Rattle.std.specs.Prelude.{◌≡◌, ℕ, ◌<◌, ◌≤◌, ◌||◌, ◌==◌, Bool, true, false, List, [], ◌∷◌}
use Rattle.std.specs.Prelude.{◌++◌, length, Option, Some, None}
use Rattle.lk_names.specs.declared.holder.Manner.{Manner}
use Rattle.lk_names.specs.declared.names.Mode.{Mode}
use Rattle.lk_word.specs.declared.spin_word.Fields.{Fields}
use Rattle.lk_rows.specs.declared.parts.Frame.{Frame}
use Rattle.lk_rows.specs.declared.parts.Pc.{Pc}
use Rattle.lk_rows.specs.declared.parts.Pc.TheVariants.{U1}
use Rattle.lk_rows.specs.declared.setup.Verb.{Verb}
use Rattle.lk_rows.specs.Acts.{stands_halting, after_halt}
use Rattle.lk_rows.specs.TopRow.{target}
use Rattle.lk_law.specs.Agree.{halts}
use Rattle.lk_law.specs.Leads.{Met, Word}
use Rattle.lk_law.specs.Steps.{led}
use Rattle.lk_domain.specs.Calls.{Outlook, Mark, mark, hold, Calls, Grip, Unchanged, Takes}
use Rattle.lk_domain.specs.Calls.{grip_of, course, read_at, Terms, sight_of}
use Rattle.lk_domain.specs.Calls.{begun, lock_name, free_of, moved_to, holds_in, waits_in}
use Rattle.lk_domain.specs.Ledgers.{Ledger, Look, turned}

-- the frame f after its row at c, which met x
abbrev pub next_frame : Mode → ℕ → Outlook → Pc → Frame → Met → Frame
next_frame mode p z c f x = led f (course mode p z c f x).leads

-- what the row does to the holds
abbrev pub row_grip : Mode → ℕ → Outlook → Pc → Frame → Met → Grip
row_grip mode p z c f x = grip_of (target c f) (course mode p z c f x)

-- The rows of the list lead from the frame a to the frame at the end, a head that chooses the next
-- by the count of handoffs that its mark has. Where processors halt, and this one had halted, the
-- frame has gone on when the halt ended, which is no row.
pub data Walk (t : Terms) (p : ℕ) (a : Frame) : List Mark → Frame → Type 0 where
  still : Walk t p a [] a
  onward : (ks : List Mark) (f : Frame) (c d : Pc) (x : Met) (r : Option ℕ)
      → Walk t p a ks f → f.place ≡ Some c
      → (next_frame t.mode p (sight_of t p r) c f x).place ≡ Some d
      → Walk t p a (ks ++ mark c x (read_at c (sight_of t p r)) ∷ [])
      (next_frame t.mode p (sight_of t p r) c f x)
  awoken : (ks : List Mark) (f : Frame) → halts t.mode ≡ true → Walk t p a ks f
      → stands_halting f.place ≡ true → Walk t p a ks (record f { place = after_halt f.place })

-- the rows of the trail lead from the frame a to one that does this to the holds; the call may go on
-- from there
pub record PathTo (t : Terms) (p : ℕ) (a : Frame) (trail : List Mark) (grip : Grip)
    : Type 0 where
  pub before : List Mark
  pub frame : Frame
  pub row : Pc
  pub met : Met
  pub runs : Option ℕ
  pub walk : Walk t p a before frame
  pub place : frame.place ≡ Some row
  pub is : trail ≡ before ++ mark row met (read_at row (sight_of t p runs)) ∷ []
  pub grips : row_grip t.mode p (sight_of t p runs) row frame met ≡ grip

-- and this row ends the call
pub record Path (t : Terms) (p : ℕ) (a : Frame) (trail : List Mark) (grip : Grip) : Type 0 where
  pub before : List Mark
  pub frame : Frame
  pub row : Pc
  pub met : Met
  pub runs : Option ℕ
  pub walk : Walk t p a before frame
  pub place : frame.place ≡ Some row
  pub is : trail ≡ before ++ mark row met (read_at row (sight_of t p runs)) ∷ []
  pub ends : (next_frame t.mode p (sight_of t p runs) row frame met).place ≡ None
  pub grips : row_grip t.mode p (sight_of t p runs) row frame met ≡ grip

abbrev pub Any : Frame → Type 0
Any f = Unit {0}

-- the call has taken the lock, in this manner
pub record HasTaken (t : Terms) (p : ℕ) (v : Verb) (l : ℕ) (manner : Manner)
    (old new : Calls) : Type 0 where
  pub path : Path t p (begun t.mode (length old.frames) v l) new.last (Takes manner)
  pub frames : new.frames ≡ old.frames
  pub holds : new.holds ≡ hold (length old.frames) (lock_name l) manner new.taken ∷ old.holds
  pub taken : old.taken < new.taken

-- it has missed the lock, and has taken no other
pub record HasMissed (t : Terms) (p : ℕ) (v : Verb) (l : ℕ) (old new : Calls) : Type 0 where
  pub path : Path t p (begun t.mode (length old.frames) v l) new.last Unchanged
  pub frames : new.frames ≡ old.frames
  pub holds : new.holds ≡ old.holds
  pub taken : new.taken ≡ old.taken

-- it has freed the lock, by the one row U1
pub record HasFreed (l : ℕ) (old new : Calls) : Type 0 where
  pub word : Fields
  pub trail : new.last ≡ mark U1 (Word word) 0 ∷ []
  pub frames : new.frames ≡ old.frames
  pub holds : new.holds
      ≡ free_of (length old.frames) (lock_name l)
      (moved_to (length old.frames) (lock_name l) old.holds)
  pub none : holds_in new.holds l ≡ false
  pub taken : new.taken ≡ old.taken

-- what nested calls leave of the calls
pub record AreKept (old new : Calls) : Type 0 where
  pub frames : new.frames ≡ old.frames
  pub holds : new.holds ≡ old.holds
  pub taken : old.taken ≤ new.taken

-- the processor holds lock 0 or waits for it
abbrev pub is_busy : Calls → Bool
is_busy c = holds_in c.holds 0 || waits_in c.frames 0

-- What nested calls leave of the ledger: all but the length seen and the looks that ended, which
-- may grow; and where the processor is at lock 0, these too.
pub record Passes (busy : Bool) (old new : Ledger) : Type 0 where
  pub share : new.share ≡ old.share
  pub own : new.own ≡ old.own
  pub out : new.out ≡ old.out
  pub look : new.look ≡ old.look
  pub seen : old.seen ≤ new.seen
  pub more : List Look
  pub looks : new.looks ≡ old.looks ++ more
  pub still : busy ≡ true → new ≡ old

-- the ledger after a call that took a lock: nested calls passed, and then a look began with lock 0
pub record HasLooked (l : ℕ) (manner : Manner) (c : Calls) (last : List Mark)
    (old new : Ledger) : Type 0 where
  pub between : Ledger
  pub passes : Passes ((l == 0) || is_busy c) old between
  pub now : new ≡ turned between (lock_name l) (Takes manner) last
