-- Processors that are alike.
use Rattle.std.specs.Prelude.{◌≡◌, ℕ, List, if◌then◌else◌, length, nat_lt, slice_get, slice_index_or, Some}
use Rattle.lk_names.specs.ListOf.{ListOf}
use Rattle.lk_rows.specs.declared.setup.Op.{Op}
use Rattle.lk_rows.specs.declared.setup.Setup.{Setup}
use Rattle.lk_rows.specs.Programs.{program_at, handlers_of}

-- the number of a processor among these; who is not among them has its own
abbrev pub number_of : List ℕ → ℕ → ℕ
number_of numbers p = if nat_lt p 8 then slice_index_or numbers p p else p

-- both have the same programs and handlers, and stand on the same socket
pub record IsPeer (setup : Setup) (p q : ℕ) : Type 0 where
  pub programs : (h : ℕ) → program_at setup p h ≡ program_at setup q h
  pub handlers : handlers_of setup p ≡ handlers_of setup q
  pub sockets : slice_index_or setup.topology.sockets.items p 0 ≡ slice_index_or setup.topology.sockets.items q 0

-- two lists of handlers are as long, and have the same programs
pub record HasSameHandlers (xs ys : List (ListOf Op)) : Type 0 where
  pub count : length xs ≡ length ys
  pub each : (i : ℕ) (x y : ListOf Op) → slice_get xs i ≡ Some x → slice_get ys i ≡ Some y → x.items ≡ y.items

-- for each processor one that is like it
abbrev pub AreFirsts : Setup → List ℕ → Type 0
AreFirsts setup firsts = (p : ℕ) → IsPeer setup (number_of firsts p) p
