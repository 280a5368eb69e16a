-- What a check of ranks asks, part by part.
use Rattle.std.specs.Prelude.{◌≡◌, ◌⊎◌, ◌<◌, ℕ, Some, List, true, slice_get, slice_index_or}
use Rattle.lk_names.specs.declared.holder.Manner.{Manner}
use Rattle.lk_rows.specs.declared.setup.Op.{Op}
use Rattle.lk_rows.specs.declared.setup.Verb.TheVariants.{Read}
use Rattle.lk_rows.specs.declared.setup.Setup.{Setup}
use Rattle.lk_rows.specs.Programs.{way_at, program_at}
use Rattle.lk_progress.specs.Ordered.{waits_for, only_reads}

-- the rank of a lock in a list of ranks
abbrev pub rank_in : List ℕ → ℕ → ℕ
rank_in ranks i = slice_index_or ranks i 0

-- each of the first so many operations that waits while the program holds the lock is for one of a higher rank
abbrev pub NestsSoFar : (ℕ → ℕ) → List Op → ℕ → ℕ → Type 0
NestsSoFar rank ops i size = (n : ℕ) → n < size → (o : Op) (way : Manner)
    → slice_get ops n ≡ Some o
    → waits_for o.verb ≡ true
    → way_at ops n i ≡ Some way
    → rank i < rank o.lock

-- all operations do
abbrev pub Nests : (ℕ → ℕ) → List Op → ℕ → Type 0
Nests rank ops i = (n : ℕ) (o : Op) (way : Manner)
    → slice_get ops n ≡ Some o
    → waits_for o.verb ≡ true
    → way_at ops n i ≡ Some way
    → rank i < rank o.lock

-- the first so many operations use the lock only as a reader
abbrev pub ReadsSoFar : List Op → ℕ → ℕ → Type 0
ReadsSoFar ops i size = (j : ℕ) → j < size → (r : Op)
    → slice_get ops j ≡ Some r
    → r.lock ≡ i
    → only_reads r.verb ≡ true

-- the program uses the lock only as a reader
abbrev pub ReadsOnly : List Op → ℕ → Type 0
ReadsOnly ops i = (j : ℕ) (r : Op) → slice_get ops j ≡ Some r → r.lock ≡ i → only_reads r.verb ≡ true

-- what an operation of a handler waits for ranks above the lock of another operation, or both only read it
abbrev pub RanksAbove : (ℕ → ℕ) → Op → List Op → Op → Type 0
RanksAbove rank o ops q =
    (rank q.lock < rank o.lock) ⊎ ((o.verb ≡ Read) × (q.lock ≡ o.lock) × ReadsOnly ops o.lock)

-- what an operation of a handler waits for ranks above all that a program names
abbrev pub IsAbove : (ℕ → ℕ) → Op → List Op → Type 0
IsAbove rank o ops = waits_for o.verb ≡ true → (k : ℕ) (q : Op) → slice_get ops k ≡ Some q → RanksAbove rank o ops q

-- the same of the first so many operations of the program
abbrev pub IsAboveSoFar : (ℕ → ℕ) → Op → List Op → ℕ → Type 0
IsAboveSoFar rank o ops size = (k : ℕ) → k < size → (q : Op) → slice_get ops k ≡ Some q
    → waits_for o.verb ≡ true
    → RanksAbove rank o ops q

-- the same of the first so many operations of a handler
abbrev pub AllAboveSoFar : (ℕ → ℕ) → List Op → List Op → ℕ → Type 0
AllAboveSoFar rank handler ops size = (n : ℕ) → n < size → (o : Op) → slice_get handler n ≡ Some o → IsAbove rank o ops

-- the same of all operations of a handler
abbrev pub AllAbove : (ℕ → ℕ) → List Op → List Op → Type 0
AllAbove rank handler ops = (n : ℕ) (o : Op) → slice_get handler n ≡ Some o → IsAbove rank o ops

-- program h of a processor nests in order
abbrev pub ProgramNests : (ℕ → ℕ) → Setup → ℕ → ℕ → Type 0
ProgramNests rank setup p h = (i : ℕ) → Nests rank (program_at setup p h) i

-- program h of a processor ranks above the programs that it may interrupt
abbrev pub ProgramAbove : (ℕ → ℕ) → Setup → ℕ → ℕ → Type 0
ProgramAbove rank setup p h = (g : ℕ) → g < h → AllAbove rank (program_at setup p h) (program_at setup p g)

-- the programs of a processor are in order
pub record IsInOrder (rank : ℕ → ℕ) (setup : Setup) (p h : ℕ) : Type 0 where
  pub nests : ProgramNests rank setup p h
  pub above : ProgramAbove rank setup p h
