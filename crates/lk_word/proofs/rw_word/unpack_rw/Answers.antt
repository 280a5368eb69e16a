use Rattle.std.proofs.Common.{rules, ◌≡◌, ℕ, ◌/◌, ◌%◌, Bool, eqb, not, bit_and, Some, None, sym, refl}
use Rattle.lk_word.specs.RwWord.{unpacked_rw, writer_of}
use Rattle.lk_word.proofs.Masks.{and_255, bit_8_test}
use Rattle.lk_word.proofs.RwWordLemmas.{outcome_fields, outcome_unpackable, refused_from, unknown_from_none}
use Rattle.lk_word.proofs.rw_word.unpack_rw.Goals as goal

-- what each return of `unpack_rw` reads
writer_read : (word : ℕ) → None ≡ writer_of (bit_and word 255) → None ≡ unpacked_rw word
writer_read word e =
    let h = rw (and_255 word) at e in sym (refused_from word (unknown_from_none (word % 256) (sym h)))

fields_read : (word : ℕ) (writer : Bool) → Some writer ≡ writer_of (bit_and word 255) →
    Some (record { readers = word / 512; waiting = not (eqb (bit_and word 256) 0); writer = writer })
    ≡ unpacked_rw word
unfolding unpacked_rw
fields_read word writer w =
    let writer_is = rw (and_255 word) at w in
    rw (← writer_is, bit_8_test word) refl

pub returns-in_err-writer-clause-read : goal.returns-in_err-writer-clause-read
returns-in_err-writer-clause-read c =
    rw c.from_residual.ensures (writer_read c.args.word c.in_err-writer.ensures)

pub returns-in_err-writer-clause-unpackable : goal.returns-in_err-writer-clause-unpackable
returns-in_err-writer-clause-unpackable c = outcome_unpackable _ _ (returns-in_err-writer-clause-read c)

pub returns-clause-read : goal.returns-clause-read
returns-clause-read c = fields_read c.args.word c.in_ok-writer.writer c.in_ok-writer.ensures

pub returns-clause-fields : goal.returns-clause-fields
returns-clause-fields c = outcome_fields (Some _) _ (search rules) (returns-clause-read c)
