-- Programs: what they hold on the way, and when they are lawful.
use Rattle.std.specs.Prelude.{◌≡◌, ◌<◌, ◌≤◌, ◌+◌, ◌-◌, ◌==◌, ◌&&◌, ℕ, Option, Some, None, Bool}
use Rattle.std.specs.Prelude.{true, false, List, [], ◌∷◌, length, drop, slice_get, slice_index_or}
use Rattle.std.specs.Prelude.{if◌then◌else◌}
use Rattle.std.proofs.Common.{zero, suc}
use Rattle.lk_names.specs.declared.holder.Manner.{Manner}
use Rattle.lk_names.specs.declared.holder.Manner.TheVariants.{Spins, Reads, Writes}
use Rattle.lk_names.specs.declared.names.Kind.{Kind}
use Rattle.lk_names.specs.declared.names.Kind.TheVariants.{Spin, Rw}
use Rattle.lk_rows.specs.declared.setup.Verb.{Verb}
use Rattle.lk_rows.specs.declared.setup.Verb.TheVariants.{Lock, Try, Unlock, Read, TryRead}
use Rattle.lk_rows.specs.declared.setup.Verb.TheVariants.{RUnlock, Write, TryWrite, WUnlock}
use Rattle.lk_rows.specs.declared.setup.Op.{Op}
use Rattle.lk_rows.specs.declared.setup.Setup.{Setup}

-- the kind of lock that a verb is for
abbrev pub kind_of : Verb → Kind
kind_of Lock = Spin
kind_of Try = Spin
kind_of Unlock = Spin
kind_of _ = Rw

-- the verb tries to take
abbrev pub is_try : Verb → Bool
is_try Try = true
is_try TryRead = true
is_try TryWrite = true
is_try _ = false

-- the verb releases
abbrev pub is_release : Verb → Bool
is_release Unlock = true
is_release RUnlock = true
is_release WUnlock = true
is_release _ = false

-- how the lock of a verb is held after it, where it succeeds
abbrev pub way_after : Verb → Option Manner
way_after Lock = Some Spins
way_after Try = Some Spins
way_after Read = Some Reads
way_after TryRead = Some Reads
way_after Write = Some Writes
way_after TryWrite = Some Writes
way_after _ = None

-- how the lock of a verb must be held before it
abbrev pub way_before : Verb → Option Manner
way_before Unlock = Some Spins
way_before RUnlock = Some Reads
way_before WUnlock = Some Writes
way_before _ = None

-- what one operation does to the hold of a lock
abbrev pub op_way : Op → ℕ → Option Manner → Option Manner
op_way o i way = if o.lock == i then way_after o.verb else way

-- how a program holds a lock before the operation at a position, where it held it so at the
-- beginning
abbrev pub way_from : List Op → ℕ → ℕ → Option Manner → Option Manner
way_from ops zero i way = way
way_from [] (suc n) i way = way
way_from (o ∷ ops) (suc n) i way = way_from ops n i (op_way o i way)

-- how a program holds a lock before the operation at a position
abbrev pub way_at : List Op → ℕ → ℕ → Option Manner
way_at ops n i = way_from ops n i None

-- how many operations follow up to the release of the lock, it included
abbrev pub to_release : List Op → ℕ → ℕ
to_release [] i = 0
to_release (o ∷ ops) i = if is_release o.verb && (o.lock == i) then 1 else suc (to_release ops i)

-- The walk over a program is lawful: each operation names a declared lock of its kind, a taking one
-- a lock that is not held, a releasing one a lock that is held in its way; after the release of a
-- tried lock the program holds what it held before the try; and at the end it holds nothing.
pub record IsLawfulProgram (kinds : List Kind) (ops : List Op) : Type 0 where
  pub declared : (n : ℕ) (o : Op)
      → slice_get ops n ≡ Some o
      → slice_get kinds o.lock ≡ Some (kind_of o.verb)
  pub fits : (n : ℕ) (o : Op) → slice_get ops n ≡ Some o → way_at ops n o.lock ≡ way_before o.verb
  pub tried : (n : ℕ) (o : Op)
      → slice_get ops n ≡ Some o
      → is_try o.verb ≡ true
      → (i : ℕ)
      → way_at ops (n + 1 + to_release (drop (n + 1) ops) o.lock) i ≡ way_at ops n i
  pub ends : (i : ℕ) → way_at ops (length ops) i ≡ None

-- the programs of a setup: 0 is the task's, h the h-th handler
unfoldable pub program_at : Setup → ℕ → ℕ → List Op
program_at setup p h =
    if h == 0 then (slice_index_or setup.progs.items p (record { items = []; room = 0 })).items
    else (slice_index_or (slice_index_or setup.irqs.items p (record { items = []; room = 0 })).items
    (h - 1) (record { items = []; room = 0 })).items

-- how many handlers a processor has
unfoldable pub handlers_of : Setup → ℕ → ℕ
handlers_of setup p =
    length (slice_index_or setup.irqs.items p (record { items = []; room = 0 })).items

-- the processor's programs are there, and its handlers are few
pub record HasPrograms (setup : Setup) (p : ℕ) : Type 0 where
  pub task : p < length setup.progs.items
  pub handlers : p < length setup.irqs.items
  pub few : handlers_of setup p ≤ 16

-- A setup within the limits, whose programs are lawful.
pub record IsLawfulSetup (setup : Setup) : Type 0 where
  pub some : 0 < length setup.topology.sockets.items
  pub few : length setup.topology.sockets.items ≤ 1024
  pub locks : length setup.locks.items ≤ 32
  pub threshold : setup.threshold ≤ 65535
  pub spins : (0 < setup.spins) × (setup.spins ≤ 65535)
  pub progs : length setup.progs.items ≡ length setup.topology.sockets.items
  pub irqs : length setup.irqs.items ≡ length setup.topology.sockets.items
  pub handlers : (p : ℕ) → handlers_of setup p ≤ 16
  pub short : (p h : ℕ) → length (program_at setup p h) ≤ 64
  pub lawful : (p h : ℕ) → IsLawfulProgram setup.locks.items (program_at setup p h)
