-- What stands in the packed words of the machine.
use Rattle.std.specs.Prelude.{◌≡◌, ℕ, true, List, is_some, unwrap_or, slice_index_or, slice_set, if◌then◌else◌}
use Rattle.lk_names.specs.declared.names.LockName.{LockName}
use Rattle.lk_word.specs.declared.spin_word.Layout.{Layout}
use Rattle.lk_word.specs.declared.spin_word.Fields.{Fields}
use Rattle.lk_word.specs.declared.rw_word.RwFields.{RwFields}
use Rattle.lk_word.specs.SpinWord.{unpacked}
use Rattle.lk_word.specs.RwWord.{unpacked_rw}
use Rattle.lk_machine.specs.declared.machine.words.LockWords.{LockWords}
use Rattle.lk_rows.specs.Machine.{LockState, rest_word, rest_rw, rest_lock}

-- the word of a spinlock or a wait lock is that of some fields
abbrev pub IsPacked : Layout → ℕ → Type 0
IsPacked layout word = is_some (unpacked layout word) ≡ true

-- these fields
abbrev pub fields_in : Layout → ℕ → Fields
fields_in layout word = unwrap_or (unpacked layout word) rest_word

-- the same of the word of a reader-writer lock

abbrev pub IsPackedRw : ℕ → Type 0
IsPackedRw word = is_some (unpacked_rw word) ≡ true

abbrev pub rw_fields_in : ℕ → RwFields
rw_fields_in word = unwrap_or (unpacked_rw word) rest_rw

-- the three words of a lock are those of some fields
pub record ArePacked (layout : Layout) (words : LockWords) : Type 0 where
  pub spin : IsPacked layout words.spin
  pub rw : IsPackedRw words.rw
  pub wait : IsPacked layout words.wait

-- the lock with these fields
abbrev pub lock_in : Layout → LockWords → LockState
lock_in layout words =
    record {
      spin = fields_in layout words.spin;
      rw = rw_fields_in words.rw;
      wait = fields_in layout words.wait;
    }

-- what stands in the words of all locks, and their layout
pub record Words : Type 0 where
  pub layout : Layout
  pub locks : List LockState

-- the lock of this number
abbrev pub lock_of : Words → ℕ → LockState
lock_of words i = slice_index_or words.locks i rest_lock

-- the word of a spinlock or a wait lock
abbrev pub word_of : Words → LockName → Fields
word_of words l = if l.wait then (lock_of words l.index).wait else (lock_of words l.index).spin

-- all locks, with the one of this number in this state
abbrev pub with_lock : Words → ℕ → LockState → Words
with_lock words i state = record words { locks = slice_set words.locks i state }

-- all locks, with these fields in the word of a spinlock or a wait lock
abbrev pub with_word : Words → LockName → Fields → Words
with_word words l x =
    with_lock words l.index
    (if l.wait then record (lock_of words l.index) { wait = x }
    else record (lock_of words l.index) { spin = x })

-- all locks, with these fields in the word of a reader-writer lock
abbrev pub with_rw : Words → ℕ → RwFields → Words
with_rw words i x = with_lock words i (record (lock_of words i) { rw = x })
