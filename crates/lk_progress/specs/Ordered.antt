-- When a setup is ordered, of which the programs alone say so.
use Rattle.std.specs.Prelude.{◌≡◌, ◌≢◌, ◌⊎◌, ◌<◌, ℕ, Some, None, Bool, true, false}
use Rattle.std.specs.Prelude.{slice_get}
use Rattle.lk_names.specs.declared.holder.Manner.{Manner}
use Rattle.lk_names.specs.declared.names.Waiter.{Waiter}
use Rattle.lk_rows.specs.declared.setup.Op.{Op}
use Rattle.lk_rows.specs.declared.setup.Verb.{Verb}
use Rattle.lk_rows.specs.declared.setup.Verb.TheVariants.{Lock, Read, Write, TryRead, RUnlock}
use Rattle.lk_rows.specs.declared.parts.Pc.TheVariants.{R3, R4}
use Rattle.lk_rows.specs.declared.setup.Setup.{Setup}
use Rattle.lk_rows.specs.declared.parts.Frame.{Frame}
use Rattle.lk_rows.specs.Programs.{program_at, way_at}
use Rattle.lk_law.specs.World.{World}

-- the verb waits for its lock
abbrev pub waits_for : Verb → Bool
waits_for Lock = true
waits_for Read = true
waits_for Write = true
waits_for _ = false

-- the verb is a reader's
abbrev pub only_reads : Verb → Bool
only_reads Read = true
only_reads TryRead = true
only_reads RUnlock = true
only_reads _ = false

-- Each lock has a rank below a bound. In each program an operation that waits is for a lock of a
-- higher rank than each that the program holds there. And a handler waits for locks of a higher
-- rank than all that the programs name which it may interrupt: the task's, and the handlers before
-- it. But as a reader it may wait for a lock that such a program names, if that only reads it.
pub record IsOrdered (rank : ℕ → ℕ) (size : ℕ) (setup : Setup) : Type 0 where
  pub below : (i : ℕ) → rank i < size
  pub nested : (p h n i : ℕ) (o : Op) (way : Manner)
      → slice_get (program_at setup p h) n ≡ Some o
      → waits_for o.verb ≡ true
      → way_at (program_at setup p h) n i ≡ Some way
      → rank i < rank o.lock
  pub above : (p g h n k : ℕ) (o q : Op)
      → g < h
      → slice_get (program_at setup p h) n ≡ Some o
      → waits_for o.verb ≡ true
      → slice_get (program_at setup p g) k ≡ Some q
      → (rank q.lock < rank o.lock)
      ⊎ ((o.verb ≡ Read) × (q.lock ≡ o.lock)
      × ((j : ℕ) (r : Op) → slice_get (program_at setup p g) j ≡ Some r → r.lock ≡ o.lock → only_reads r.verb ≡ true))

-- The frame takes no wait lock as a reader.
abbrev pub ReadsAlone : Frame → Type 0
ReadsAlone f = (f.place ≢ Some R3) × (f.lock.wait ≡ true → f.then ≢ Some R4)

-- The frames of each processor run its programs in their order, each above those that it
-- interrupted; the frame of a handler has not ended, since it goes with its program; and it takes no
-- wait lock as a reader.
pub record IsSteady (m : World) : Type 0 where
  pub stacked : (u v : Waiter) (g f : Frame)
      → u.cpu ≡ v.cpu
      → u.ctx < v.ctx
      → m.frame u ≡ Some g
      → m.frame v ≡ Some f
      → g.program < f.program
  pub placed : (u : Waiter) (f : Frame) → 0 < u.ctx → m.frame u ≡ Some f → f.place ≢ None
  pub alone : (u : Waiter) (f : Frame) → 0 < u.ctx → m.frame u ≡ Some f → ReadsAlone f
