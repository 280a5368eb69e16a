-- What the code of this crate's rows needs of the machine; all of it holds of a sound one.
use Rattle.std.specs.Prelude.{◌<◌, ◌+◌, ◌^◌, ℕ}
use Rattle.lk_rows.specs.Machine.{Machine, rw_at, top_frame}
use Rattle.lk_machine.specs.Ready.{IsReady}

-- the machine can make the row, and the word has room for one reader more
pub record IsRwReady (m : Machine) (p : ℕ) : Type 0 where
  pub ready : IsReady m p
  pub room : (rw_at m (top_frame m p).lock.index).readers + 1 < 2 ^ 23
