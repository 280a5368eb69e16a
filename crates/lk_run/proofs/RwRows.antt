-- Where the rows of readers and writers lead, by what they meet.
use Rattle.std.proofs.Common.{◌≡◌, ℕ, Option, Some, None, true, false, refl}
use Rattle.lk_run.proofs.Names.{RwFields, Fields, Manner, Reads, Writes, Mode, Cna, Native, Pv}
use Rattle.lk_run.proofs.Names.{Virt, target, Frame, Pc, R1, R2, R4, R5, U1, Wr2, Wr3, Wr4, Wr5, Y2}
use Rattle.lk_run.proofs.Names.{Y3, Y5, Met, Shared, Word, held_lock, Frees, Outlook, Takes}
use Rattle.lk_run.proofs.Names.{Unchanged, lock_name, Any, next_frame, row_grip}
use Rattle.lk_rows.specs.{Moves.waiting, declared.parts.Pc.TheVariants.{R3, Wr1, Wr6, Y1, Y4}}
use Rattle.lk_rows.specs.rows.Rw.{is_empty, is_open, is_cleared, after_bias}
use Rattle.lk_law.specs.Agree.{halts}
use Rattle.lk_run.proofs.Ways.{Leads}

-- a row that takes the lock of a reader or a writer, and where the call goes on, if it does
pub record TakesBy (mode : Mode) (p : ℕ) (z : Outlook) (c : Pc) (f : Frame) (x : Met) (m : Manner) (e : Option Pc) : Type 0 where
  pub place : (next_frame mode p z c f x).place ≡ e
  pub grip : row_grip mode p z c f x ≡ Takes m
  pub own : held_lock (target c f) f ≡ lock_name f.lock.index
  pub lock : (next_frame mode p z c f x).lock ≡ f.lock
  pub after : (next_frame mode p z c f x).then ≡ f.then

-- one by which it goes to take the wait lock
pub record SetsOut (mode : Mode) (p : ℕ) (z : Outlook) (c : Pc) (f : Frame) (x : Met) (e : Pc) : Type 0 where
  pub frame : next_frame mode p z c f x ≡ waiting f e
  pub grip : row_grip mode p z c f x ≡ Unchanged

-- one that ends a try that failed
pub record Fails (mode : Mode) (p : ℕ) (z : Outlook) (c : Pc) (f : Frame) (x : Met) : Type 0 where
  pub place : (next_frame mode p z c f x).place ≡ None
  pub grip : row_grip mode p z c f x ≡ Unchanged

module _ (mode : Mode) (p : ℕ) {z : Outlook} (f : Frame) (y : RwFields) where
  -- R1
  pub reader_enters : is_open y ≡ true → TakesBy mode p z R1 f (Shared y) Reads None
  reader_enters e = record { place = rw e refl; grip = rw e refl; own = refl; lock = rw e refl; after = rw e refl }

  pub reader_biases : is_open y ≡ false → Leads mode p z R1 f (Shared y) (after_bias f) Any
  reader_biases e = record { place = rw e refl; grip = rw e refl; lock = rw e refl; after = rw e refl; has = tt }

  -- R2
  pub spin_enters : y.writer ≡ false → TakesBy mode p z R2 f (Shared y) Reads None
  spin_enters e = record { place = rw e refl; grip = rw e refl; own = refl; lock = rw e refl; after = rw e refl }

  pub spin_stays : y.writer ≡ true → Leads mode p z R2 f (Shared y) R2 Any
  spin_stays e = record { place = rw e refl; grip = rw e refl; lock = rw e refl; after = rw e refl; has = tt }

  -- R3
  pub retreats : SetsOut mode p z R3 f (Shared y) R4
  retreats = record { frame = refl; grip = refl }

  -- R4
  pub joins : Leads mode p z R4 f (Shared y) R5 Any
  joins = record { place = refl; grip = refl; lock = refl; after = refl; has = tt }

  -- R5
  pub wait_enters : halts mode ≡ false → y.writer ≡ false → TakesBy mode p z R5 f (Shared y) Reads (Some U1)
  wait_enters awake e = by mode awake
    where
      by : (m : Mode) → halts m ≡ false → TakesBy m p z R5 f (Shared y) Reads (Some U1)
      by Virt h = record { place = rw e refl; grip = rw e refl; own = refl; lock = rw e refl; after = rw e refl }
      by Native h = record { place = rw e refl; grip = rw e refl; own = refl; lock = rw e refl; after = rw e refl }
      by Cna h = record { place = rw e refl; grip = rw e refl; own = refl; lock = rw e refl; after = rw e refl }
      by Pv h = absurd (cc h)

  pub wait_stays : y.writer ≡ true → Leads mode p z R5 f (Shared y) R5 Any
  wait_stays e = record { place = rw e refl; grip = rw e refl; lock = rw e refl; after = rw e refl; has = tt }

  -- Wr1
  pub writer_enters : is_empty y ≡ true → TakesBy mode p z Wr1 f (Shared y) Writes None
  writer_enters e = record { place = rw e refl; grip = rw e refl; own = refl; lock = rw e refl; after = rw e refl }

  pub writer_queues : is_empty y ≡ false → SetsOut mode p z Wr1 f (Shared y) Wr2
  writer_queues e = record { frame = rw e refl; grip = rw e refl }

  -- Wr2
  pub look_sees : is_empty y ≡ true → Leads mode p z Wr2 f (Shared y) Wr3 Any
  look_sees e = record { place = rw e refl; grip = refl; lock = refl; after = refl; has = tt }

  pub look_misses : is_empty y ≡ false → Leads mode p z Wr2 f (Shared y) Wr4 Any
  look_misses e = record { place = rw e refl; grip = refl; lock = refl; after = refl; has = tt }

  -- Wr3
  pub swap_enters : halts mode ≡ false → is_empty y ≡ true → TakesBy mode p z Wr3 f (Shared y) Writes (Some U1)
  swap_enters awake e = by mode awake
    where
      by : (m : Mode) → halts m ≡ false → TakesBy m p z Wr3 f (Shared y) Writes (Some U1)
      by Virt h = record { place = rw e refl; grip = rw e refl; own = refl; lock = rw e refl; after = rw e refl }
      by Native h = record { place = rw e refl; grip = rw e refl; own = refl; lock = rw e refl; after = rw e refl }
      by Cna h = record { place = rw e refl; grip = rw e refl; own = refl; lock = rw e refl; after = rw e refl }
      by Pv h = absurd (cc h)

  pub swap_misses : is_empty y ≡ false → Leads mode p z Wr3 f (Shared y) Wr4 Any
  swap_misses e = record { place = rw e refl; grip = rw e refl; lock = rw e refl; after = rw e refl; has = tt }

  -- Wr4
  pub announces : Leads mode p z Wr4 f (Shared y) Wr5 Any
  announces = record { place = refl; grip = refl; lock = refl; after = refl; has = tt }

  -- Wr5
  pub writer_sees : is_cleared y ≡ true → Leads mode p z Wr5 f (Shared y) Wr6 Any
  writer_sees e = record { place = rw e refl; grip = refl; lock = refl; after = refl; has = tt }

  pub writer_stays : is_cleared y ≡ false → Leads mode p z Wr5 f (Shared y) Wr5 Any
  writer_stays e = record { place = rw e refl; grip = refl; lock = refl; after = refl; has = tt }

  -- Wr6
  pub claim_enters : halts mode ≡ false → is_cleared y ≡ true → TakesBy mode p z Wr6 f (Shared y) Writes (Some U1)
  claim_enters awake e = by mode awake
    where
      by : (m : Mode) → halts m ≡ false → TakesBy m p z Wr6 f (Shared y) Writes (Some U1)
      by Virt h = record { place = rw e refl; grip = rw e refl; own = refl; lock = rw e refl; after = rw e refl }
      by Native h = record { place = rw e refl; grip = rw e refl; own = refl; lock = rw e refl; after = rw e refl }
      by Cna h = record { place = rw e refl; grip = rw e refl; own = refl; lock = rw e refl; after = rw e refl }
      by Pv h = absurd (cc h)

  pub claim_misses : is_cleared y ≡ false → Leads mode p z Wr6 f (Shared y) Wr5 Any
  claim_misses e = record { place = rw e refl; grip = rw e refl; lock = rw e refl; after = rw e refl; has = tt }

  -- Y1
  pub try_sees : is_open y ≡ true → Leads mode p z Y1 f (Shared y) Y2 Any
  try_sees e = record { place = rw e refl; grip = rw e refl; lock = rw e refl; after = rw e refl; has = tt }

  pub try_fails : is_open y ≡ false → Fails mode p z Y1 f (Shared y)
  try_fails e = record { place = rw e refl; grip = rw e refl }

  -- Y2
  pub add_enters : is_open y ≡ true → TakesBy mode p z Y2 f (Shared y) Reads None
  add_enters e = record { place = rw e refl; grip = rw e refl; own = refl; lock = rw e refl; after = rw e refl }

  pub add_misses : is_open y ≡ false → Leads mode p z Y2 f (Shared y) Y3 Any
  add_misses e = record { place = rw e refl; grip = rw e refl; lock = rw e refl; after = rw e refl; has = tt }

  -- Y3
  pub gives_up : Fails mode p z Y3 f (Shared y)
  gives_up = record { place = refl; grip = refl }

  -- Y4
  pub write_sees : is_empty y ≡ true → Leads mode p z Y4 f (Shared y) Y5 Any
  write_sees e = record { place = rw e refl; grip = rw e refl; lock = rw e refl; after = rw e refl; has = tt }

  pub write_fails : is_empty y ≡ false → Fails mode p z Y4 f (Shared y)
  write_fails e = record { place = rw e refl; grip = rw e refl }

  -- Y5
  pub once_enters : is_empty y ≡ true → TakesBy mode p z Y5 f (Shared y) Writes None
  once_enters e = record { place = rw e refl; grip = rw e refl; own = refl; lock = rw e refl; after = rw e refl }

  pub once_fails : is_empty y ≡ false → Fails mode p z Y5 f (Shared y)
  once_fails e = record { place = rw e refl; grip = rw e refl }

-- U1, by which the wait lock is freed
pub record FreesIt (mode : Mode) (p : ℕ) (z : Outlook) (c : Pc) (f : Frame) (x : Met) : Type 0 where
  pub place : (next_frame mode p z c f x).place ≡ None
  pub grip : row_grip mode p z c f x ≡ Frees
  pub own : held_lock (target c f) f ≡ f.lock

pub frees : (mode : Mode) (p : ℕ) {z : Outlook} (f : Frame) (y : Fields) → FreesIt mode p z U1 f (Word y)
frees mode p f y = record { place = refl; grip = refl; own = refl }
