-- What the program's arguments ask.
use Rattle.std.specs.Prelude.{◌≡◌, ℕ, List, Option, Some, drop, map, Result, IsOkAnd, IsErrAnd}
use Rattle.std.specs.Vec.Iter.{into_iter_items}
use Rattle.std.specs.IoError.{error_kind}
use Rattle.std.specs.declared.vec.IntoIter.{IntoIter}
use Rattle.std.specs.declared.io.Error.{Error}
use Rattle.std.specs.declared.io.ErrorKind.TheVariants.{OutOfMemory}
use Rattle.lk_words.specs.Reading.{reading_of}
use Rattle.lk_words.specs.declared.asked.Reading.{Reading}
use Rattle.lk_words.specs.declared.asked.Reading.TheVariants.{Replay, Osq, Audit, Ledger, Gen, Load}

-- the words behind the program's name are read so; `bytes` gives the bytes of a word
abbrev pub AreRead : {X Z : Type 0} → Option Reading → (X → List ℕ) → Result (IntoIter X Z) Error → Type 0
AreRead reading bytes args = IsOkAnd args (λ words. reading_of (map bytes (drop 1 (into_iter_items words))) ≡ reading)

-- they ask for this
abbrev pub Asks : {X Z : Type 0} → Reading → (X → List ℕ) → Result (IntoIter X Z) Error → Type 0
Asks reading bytes args = AreRead (Some reading) bytes args

abbrev pub AsksReplay : {X Z : Type 0} → (X → List ℕ) → Result (IntoIter X Z) Error → Type 0
AsksReplay bytes args = Asks Replay bytes args

-- They ask for nothing that there is: neither for a replay, nor for a run of the optimistic spin
-- queue, nor for an audit, nor for a ledger, nor for the generated trace of a start number, to be
-- written or to be replayed. `asks` says what they ask for.
pub record AsksNothing (asks : Reading → Type 0) : Type 0 where
  pub no_replay : ¬ asks Replay
  pub no_osq : ¬ asks Osq
  pub no_audit : ¬ asks Audit
  pub no_ledger : ¬ asks Ledger
  pub no_gen : (start : ℕ) → ¬ asks (Gen start)
  pub no_load : (start : ℕ) → ¬ asks (Load start)

-- there was no memory in which to read them
abbrev pub FoundNoMemory : {T : Type 0} → Result T Error → Type 0
FoundNoMemory args = IsErrAnd args (λ error. error_kind error ≡ OutOfMemory)
