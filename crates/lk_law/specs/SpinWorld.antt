-- When a world is sound in its spinlocks and wait locks.
use Rattle.std.specs.Prelude.{◌≡◌, ◌≢◌, ℕ, Some, None, true, false, ◌<◌, ◌≤◌}
use Rattle.lk_names.specs.History.{LockHistory}
use Rattle.lk_names.specs.declared.names.Waiter.{Waiter}
use Rattle.lk_names.specs.declared.names.LockName.{LockName}
use Rattle.lk_word.specs.declared.spin_word.NodeName.{NodeName}
use Rattle.lk_word.specs.declared.spin_word.Locked.TheVariants.{Slow}
use Rattle.lk_rows.specs.declared.parts.Flag.TheVariants.{Second}
use Rattle.lk_rows.specs.declared.parts.Frame.{Frame}
use Rattle.lk_law.specs.Pv.{at_halt}
use Rattle.lk_law.specs.Cna.{moves_aside}
use Rattle.lk_law.specs.Agree.{SnapshotAgrees, halts}
use Rattle.lk_law.specs.World.{World}
use Rattle.lk_law.specs.Places.{post_of, snapshot}
use Rattle.lk_law.specs.Registers.{RegistersFit}

-- What is never stored: where no processor halts, a byte that is slow; where nobody is moved aside,
-- a flag that names a secondary queue; and a count of handoffs above the threshold.
pub record IsPlain (m : World) : Type 0 where
  pub byte : halts m.mode ≡ false → (l : LockName) → (m.word l).locked ≢ Slow
  pub flag : moves_aside m.mode ≡ false → (n k : NodeName) → (m.node n).flag ≢ Second k
  pub runs : (n : NodeName) → (m.node n).runs ≤ m.threshold

-- no frame of the processor has come on top of the waiter's
abbrev pub HasNoneAbove : World → Waiter → Type 0
HasNoneAbove m u = (c : ℕ) → u.ctx < c → m.frame (record { cpu = u.cpu; ctx = c }) ≡ None

-- a frame of the processor is about to halt it, or has halted it
abbrev pub HasSleeper : World → ℕ → Type 0
HasSleeper m p = (u : Waiter) × (f : Frame) × (u.cpu ≡ p) × (m.frame u ≡ Some f)
    × (at_halt (post_of f) ≡ true)

-- the world is sound, and its history is this
pub record IsSoundSpinWorld (m : World) (hs : LockName → LockHistory) : Type 0 where
  pub plain : IsPlain m
  -- a waiter spins for one turn at least before it halts
  pub turning : 0 < m.turns
  pub agrees : SnapshotAgrees (snapshot m) hs
  pub registers : (u : Waiter) (f : Frame) → m.frame u ≡ Some f → RegistersFit m.mode f
  -- who is about to halt its processor, or has halted it, is the newest frame there
  pub asleep : (u : Waiter) (f : Frame)
      → m.frame u ≡ Some f
      → at_halt (post_of f) ≡ true
      → HasNoneAbove m u
  -- and a processor is halted only with such a frame
  pub resting : (p : ℕ) → m.halted p ≡ true → HasSleeper m p
