-- The word of a queued reader-writer lock by arithmetic, after the layout of Linux's qrwlock.
use Rattle.std.specs.Prelude.{◌≢◌, ℕ, ◌+◌, ◌*◌, ◌/◌, ◌%◌, ◌^◌, ◌<◌, ◌==◌, Bool, true, false, Option, Some, None, if◌then◌else◌}
use Rattle.lk_word.specs.declared.rw_word.RwFields.{RwFields}

-- the word of these fields: 255 for a writer, plus 256 where waiting, plus 512 times the readers
unfoldable pub packed_rw : RwFields → ℕ
packed_rw f = (if f.writer then 255 else 0) + (if f.waiting then 256 else 0) + 512 * f.readers

-- the fields have a word of 32 bits, since the readers are fewer than 2^23
abbrev pub IsPackableRw : RwFields → Type 0
IsPackableRw f = f.readers < 2 ^ 23

-- what a writer byte stands for, if it is 0 or 255
abbrev pub writer_of : ℕ → Option Bool
writer_of byte = if byte == 0 then Some false else (if byte == 255 then Some true else None)

-- the fields of these parts, if the writer byte is not refused
abbrev pub rw_fields_of : Option Bool → Bool → ℕ → Option RwFields
rw_fields_of (Some writer) waiting readers =
    Some (record { readers = readers; waiting = waiting; writer = writer })
rw_fields_of None _ _ = None

-- the fields in this word, if its writer byte is 0 or 255
unfoldable pub unpacked_rw : ℕ → Option RwFields
unpacked_rw word = rw_fields_of (writer_of (word % 256)) (word / 256 % 2 == 1) (word / 512)

-- the writer byte is neither 0 nor 255
abbrev pub HasUnknownWriterByte : ℕ → Type 0
HasUnknownWriterByte word = (word % 256 ≢ 0) × (word % 256 ≢ 255)
