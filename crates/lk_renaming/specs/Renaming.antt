-- Renamings of processors, and when they let only those change places that are alike.
use Rattle.std.specs.Prelude.{◌≡◌, ◌≤◌, ℕ, slice_index_or}
use Rattle.lk_rows.specs.declared.setup.Setup.{Setup}
use Rattle.lk_rows.specs.Programs.{program_at, handlers_of}

-- a renaming: the new number of each processor, and the old number of each
pub record Renaming : Type 0 where
  pub to : ℕ → ℕ
  pub back : ℕ → ℕ

-- The two undo each other, and none but the first so many processors get a new number.
pub record IsRenaming (count : ℕ) (r : Renaming) : Type 0 where
  pub undone : (p : ℕ) → r.back (r.to p) ≡ p
  pub redone : (p : ℕ) → r.to (r.back p) ≡ p
  pub others : (p : ℕ) → count ≤ p → r.to p ≡ p

-- Each processor is like the one whose number it gets: both have the same programs and handlers,
-- and stand on the same socket.
pub record IsAmongAlike (setup : Setup) (r : Renaming) : Type 0 where
  pub programs : (p h : ℕ) → program_at setup (r.to p) h ≡ program_at setup p h
  pub handlers : (p : ℕ) → handlers_of setup (r.to p) ≡ handlers_of setup p
  pub sockets : (p : ℕ)
      → slice_index_or setup.topology.sockets.items (r.to p) 0
      ≡ slice_index_or setup.topology.sockets.items p 0

-- a renaming of so many processors of a setup, among those that are alike
pub record IsFitting (setup : Setup) (count : ℕ) (r : Renaming) : Type 0 where
  pub is : IsRenaming count r
  pub alike : IsAmongAlike setup r

-- one renaming behind another: q behind r
abbrev pub composed : Renaming → Renaming → Renaming
composed q r = record { to = λ p. q.to (r.to p); back = λ p. r.back (q.back p) }

-- the way back
abbrev pub reversed : Renaming → Renaming
reversed r = record { to = r.back; back = r.to }
