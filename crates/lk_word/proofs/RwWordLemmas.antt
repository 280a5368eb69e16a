-- Packing a reader-writer lock's word is exact.
use Rattle.std.proofs.Common.{◌≡◌, ◌≢◌, ℕ, ◌+◌, ◌*◌, ◌/◌, ◌%◌, ◌^◌, ◌<◌, Bool, true, false, eqb, Option, Some, None, refl, sym, ap, ◌∙◌, arith, ◌↔◌, cond, IfSome, IfNone, IsNone}
use Rattle.std.proofs.lemmas.Bool.Decides.{nat_tests}
use Rattle.std.proofs.lemmas.Bool.{true≢false}
use Rattle.std.proofs.lemmas.Option.{same_Some, none-some}
use Rattle.lk_word.specs.declared.rw_word.RwFields.{RwFields}
use Rattle.lk_word.specs.RwWord.{packed_rw, IsPackableRw, writer_of, rw_fields_of, unpacked_rw, HasUnknownWriterByte}
use Rattle.lk_word.proofs.SpinWordLemmas.{bit_number}

-- a word with these parts has these fields
unpacked_rw_of_sum : (word byte bit readers : ℕ) → byte < 256 → bit < 2 →
    word ≡ byte + 256 * bit + 512 * readers →
    unpacked_rw word ≡ rw_fields_of (writer_of byte) (eqb bit 1) readers
unfolding unpacked_rw
unpacked_rw_of_sum word byte bit readers p q e =
    let byte_is : word % 256 ≡ byte = omega arith in
    let bit_is : word / 256 % 2 ≡ bit = omega arith in
    let readers_is : word / 512 ≡ readers = omega arith in
    rw (byte_is, bit_is, readers_is)

-- each lot of fields is read back, one equation for each waiting bit and writer byte
turned : (readers : ℕ) (waiting writer : Bool) →
    unpacked_rw (packed_rw (record { readers = readers; waiting = waiting; writer = writer }))
    ≡ Some (record { readers = readers; waiting = waiting; writer = writer })
unfolding packed_rw
turned readers false false = unpacked_rw_of_sum _ 0 0 readers (omega arith) (omega arith) refl
turned readers true false = unpacked_rw_of_sum _ 0 1 readers (omega arith) (omega arith) refl
turned readers false true = unpacked_rw_of_sum _ 255 0 readers (omega arith) (omega arith) refl
turned readers true true = unpacked_rw_of_sum _ 255 1 readers (omega arith) (omega arith) refl

-- the word of some fields has these fields
pub unpacked_rw-packed_rw : (f : RwFields) → unpacked_rw (packed_rw f) ≡ Some f
unpacked_rw-packed_rw f = turned f.readers f.waiting f.writer

-- two lots of fields with one word are one
pub packed_rw_injective : (f g : RwFields) → packed_rw f ≡ packed_rw g → f ≡ g
packed_rw_injective f g e =
    same_Some f g (sym (unpacked_rw-packed_rw f) ∙ ap unpacked_rw e ∙ unpacked_rw-packed_rw g)

-- a writer byte that stands for something has its number
writer_from : (byte : ℕ) (writer : Bool) → writer_of byte ≡ Some writer → cond writer 255 0 ≡ byte
writer_from byte false e = grind (arith, nat_tests)
writer_from byte true e = grind (arith, nat_tests)

-- no part of some fields is refused
fields_from : (writer : Option Bool) (waiting : Bool) (readers : ℕ) (f : RwFields) →
    rw_fields_of writer waiting readers ≡ Some f →
    (writer ≡ Some f.writer) × (waiting ≡ f.waiting) × (readers ≡ f.readers)
fields_from None waiting readers f e = absurd (none-some f e)
fields_from (Some writer) waiting readers f e =
    let same = same_Some _ f e in (
      ap (λ (g : RwFields). Some g.writer) same,
      ap (λ (g : RwFields). g.waiting) same,
      ap (λ (g : RwFields). g.readers) same,
    )

-- the fields in a word of 32 bits have this word
pub packed_rw_of_unpacked : (word : ℕ) (f : RwFields) → word < 2 ^ 32 → unpacked_rw word ≡ Some f →
    IsPackableRw f × (packed_rw f ≡ word)
unfolding packed_rw unpacked_rw
packed_rw_of_unpacked word f fits e =
    let parts = fields_from (writer_of (word % 256)) (eqb (word / 256 % 2) 1) (word / 512) f e in
    let writer = writer_from (word % 256) f.writer parts.0 in
    let bit = bit_number (word / 256 % 2) f.waiting (omega arith) parts.1 in
    let readers = parts.2 in
    (omega arith, omega arith)

-- a word has 32 bits
small_parts : (readers : ℕ) (waiting writer : Bool) → readers < 2 ^ 23 →
    packed_rw (record { readers = readers; waiting = waiting; writer = writer }) < 2 ^ 32
unfolding packed_rw
small_parts readers false false h = omega arith
small_parts readers false true h = omega arith
small_parts readers true false h = omega arith
small_parts readers true true h = omega arith

pub packed_rw_small : (f : RwFields) → IsPackableRw f → packed_rw f < 2 ^ 32
packed_rw_small f h = small_parts f.readers f.waiting f.writer h

-- an unknown writer byte stands for nothing, and no other byte does
pub unknown_from_none : (byte : ℕ) → writer_of byte ≡ None → (byte ≢ 0) × (byte ≢ 255)
unknown_from_none byte e = (grind (arith, nat_tests), grind (arith, nat_tests))

none_from_unknown : (byte : ℕ) → byte ≢ 0 → byte ≢ 255 → writer_of byte ≡ None
none_from_unknown byte a b = grind (arith, nat_tests)

-- a word of no fields has an unknown writer byte
none_from_fields : (writer : Option Bool) (waiting : Bool) (readers : ℕ) →
    rw_fields_of writer waiting readers ≡ None → writer ≡ None
none_from_fields None waiting readers e = refl
none_from_fields (Some writer) waiting readers e = absurd (none-some _ (sym e))

refused_cases : (word : ℕ) → unpacked_rw word ≡ None → HasUnknownWriterByte word
unfolding unpacked_rw
refused_cases word e =
    unknown_from_none (word % 256)
    (none_from_fields (writer_of (word % 256)) (eqb (word / 256 % 2) 1) (word / 512) e)

-- a word with an unknown writer byte has no fields
pub refused_from : (word : ℕ) → HasUnknownWriterByte word → unpacked_rw word ≡ None
unfolding unpacked_rw
refused_from word h = rw (none_from_unknown (word % 256) h.0 h.1) refl

-- what the outcome of `unpacked_rw` says of the word
pub outcome_fields : (o : Option RwFields) (word : ℕ) → word < 2 ^ 32 → o ≡ unpacked_rw word →
    IfSome o (λ f. IsPackableRw f × (packed_rw f ≡ word))
outcome_fields None word fits e = tt
outcome_fields (Some f) word fits e = packed_rw_of_unpacked word f fits (sym e)

pub outcome_unpackable : (o : Option RwFields) (word : ℕ) → o ≡ unpacked_rw word →
    IfNone o ((f : RwFields) → packed_rw f ≢ word)
outcome_unpackable None word e =
    λ f is. none-some f (e ∙ ap unpacked_rw (sym is) ∙ unpacked_rw-packed_rw f)
outcome_unpackable (Some f) word e = tt

pub outcome_refused : (o : Option RwFields) (word : ℕ) → o ≡ unpacked_rw word →
    IsNone o ↔ HasUnknownWriterByte word
outcome_refused None word e = (λ _. refused_cases word (sym e), λ _. refl)
outcome_refused (Some f) word e =
    (λ h. absurd (true≢false h), λ h. absurd (none-some f (sym (refused_from word h) ∙ sym e)))
