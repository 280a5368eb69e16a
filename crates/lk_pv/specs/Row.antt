-- What the code of this crate's rows needs of the machine; all of it holds of a sound one.
use Rattle.std.specs.Prelude.{◌≡◌, ◌<◌, ◌*◌, ℕ, Option, Some, None, Bool, true, false, is_some, length}
use Rattle.lk_rows.specs.declared.parts.Pc.{Pc}
use Rattle.lk_rows.specs.declared.parts.Pc.TheVariants.{E6, E9, K3, U3, U5}
use Rattle.lk_rows.specs.Machine.{Machine, entry_at, top_frame}
use Rattle.lk_rows.specs.Moves.{node_of}
use Rattle.lk_machine.specs.Ready.{IsReady}

-- whether a place is a row that enters a node into the hash
abbrev pub enters_hash : Option Pc → Bool
enters_hash (Some E6) = true
enters_hash (Some K3) = true
enters_hash _ = false

-- whether a place is a row that removes the lock from the hash
abbrev pub leaves_hash : Option Pc → Bool
leaves_hash (Some E9) = true
leaves_hash (Some U3) = true
leaves_hash _ = false

-- The machine can make the row, and besides:
pub record IsPvReady (m : Machine) (p : ℕ) : Type 0 where
  pub ready : IsReady m p
  -- a head that enters itself has a node
  pub own : (top_frame m p).place ≡ Some E6 → is_some (top_frame m p).me ≡ true
  -- a holder that enters the next knows its node
  pub next : (top_frame m p).place ≡ Some K3 → is_some (top_frame m p).y ≡ true
  -- a lock that is entered was not
  pub absent : enters_hash (top_frame m p).place ≡ true → entry_at m (top_frame m p).lock ≡ None
  -- and the hash has room for it
  pub room : enters_hash (top_frame m p).place ≡ true → length m.hash < 4 * length m.cpus
  -- a lock that is removed was entered
  pub present : leaves_hash (top_frame m p).place ≡ true → is_some (entry_at m (top_frame m p).lock) ≡ true
  -- the processor that is kicked is there
  pub kicked : (top_frame m p).place ≡ Some U5 → (node_of (top_frame m p).target).cpu < length m.cpus
