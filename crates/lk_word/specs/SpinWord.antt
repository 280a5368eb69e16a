-- The word of a queued spinlock by arithmetic, after the two layouts of Linux's qspinlock_types.h:
-- the narrow one for fewer than 16,384 processors, and the wide one. They differ in four numbers.
use Rattle.std.specs.Prelude.{◌≡◌, ◌≢◌, ◌⊎◌, ℕ, ◌+◌, ◌-◌, ◌*◌, ◌/◌, ◌%◌, ◌≤◌, ◌==◌, Bool, Option, Some, None, IfSome, if◌then◌else◌}
use Rattle.lk_word.specs.declared.spin_word.Layout.{Layout}
use Rattle.lk_word.specs.declared.spin_word.Layout.TheVariants.{Narrow, Wide}
use Rattle.lk_word.specs.declared.spin_word.NodeName.{NodeName}
use Rattle.lk_word.specs.declared.spin_word.Locked.{Locked}
use Rattle.lk_word.specs.declared.spin_word.Locked.TheVariants.{Free, Held, Slow}
use Rattle.lk_word.specs.declared.spin_word.Fields.{Fields}

-- the locked byte: 0 for free, 1 for held, 3 for held and slow
abbrev pub locked_number : Locked → ℕ
locked_number Free = 0
locked_number Held = 1
locked_number Slow = 3

-- how many values the unused bits above the pending bit could have: there are seven, or none
abbrev pub unused_values : Layout → ℕ
unused_values Narrow = 128
unused_values Wide = 1

-- what a tail's index counts for in the word
abbrev pub index_unit : Layout → ℕ
index_unit Narrow = 65536
index_unit Wide = 512

-- what the tail's processor plus one counts for
abbrev pub cpu_unit : Layout → ℕ
cpu_unit Narrow = 262144
cpu_unit Wide = 2048

-- the highest processor that a tail can have
abbrev pub last_cpu : Layout → ℕ
last_cpu Narrow = 16382
last_cpu Wide = 2097150

-- what a tail adds to the word, by its index and its processor plus one
abbrev pub tail_number : Layout → Option NodeName → ℕ
tail_number layout None = 0
tail_number layout (Some node) = index_unit layout * node.index + cpu_unit layout * (node.cpu + 1)

-- the word of these fields: the locked byte, plus 256 where pending, plus what the tail adds
unfoldable pub packed : Layout → Fields → ℕ
packed layout f =
    locked_number f.locked + (if f.pending then 256 else 0) + tail_number layout f.tail

-- where there is a tail, its processor is at most the highest, and its index at most 3
abbrev pub IsTailInRange : Layout → Option NodeName → Type 0
IsTailInRange layout tail = IfSome tail (λ node. (node.cpu ≤ last_cpu layout) × (node.index ≤ 3))

-- the fields have a word of 32 bits, since the tail is in range
abbrev pub IsPackable : Layout → Fields → Type 0
IsPackable layout f = IsTailInRange layout f.tail

-- what a locked byte stands for, if it is 0, 1 or 3
abbrev pub locked_of : ℕ → Option Locked
locked_of byte =
    if byte == 0 then Some Free
    else (if byte == 1 then Some Held else (if byte == 3 then Some Slow else None))

-- the tail of this processor plus one and this index, where an index without a processor is refused
abbrev pub tail_of : ℕ → ℕ → Option (Option NodeName)
tail_of cpu_plus_one index =
    if cpu_plus_one == 0 then (if index == 0 then Some None else None)
    else Some (Some (record { cpu = cpu_plus_one - 1; index = index }))

-- the fields of these parts, if no part is refused
abbrev pub fields_of : Option Locked → Bool → Option (Option NodeName) → Option Fields
fields_of (Some locked) pending (Some tail) =
    Some (record { locked = locked; pending = pending; tail = tail })
fields_of _ _ _ = None

-- what stands above the pending bit of a word, if it has no unused bit and no index alone
abbrev pub tail_in : Layout → ℕ → Option (Option NodeName)
tail_in layout word =
    if word / 512 % unused_values layout == 0
    then tail_of (word / cpu_unit layout) (word / index_unit layout % 4)
    else None

-- the fields in this word, if it has no unused bit and none of its parts is refused
unfoldable pub unpacked : Layout → ℕ → Option Fields
unpacked layout word =
    if word / 512 % unused_values layout == 0
    then fields_of (locked_of (word % 256)) (word / 256 % 2 == 1)
    (tail_of (word / cpu_unit layout) (word / index_unit layout % 4))
    else None

-- one of the unused bits is set
abbrev pub HasUnusedBit : Layout → ℕ → Type 0
HasUnusedBit layout word = word / 512 % unused_values layout ≢ 0

-- the locked byte is none of 0, 1 and 3
abbrev pub HasUnknownLockedByte : ℕ → Type 0
HasUnknownLockedByte word = (word % 256 ≢ 0) × (word % 256 ≢ 1) × (word % 256 ≢ 3)

-- the word has a tail index and no tail processor
abbrev pub HasIndexAlone : Layout → ℕ → Type 0
HasIndexAlone layout word = (word / index_unit layout % 4 ≢ 0) × (word / cpu_unit layout ≡ 0)

-- the word has an unused bit, an unknown locked byte, or a tail index alone
abbrev pub IsRefused : Layout → ℕ → Type 0
IsRefused layout word =
    HasUnusedBit layout word ⊎ HasUnknownLockedByte word ⊎ HasIndexAlone layout word
