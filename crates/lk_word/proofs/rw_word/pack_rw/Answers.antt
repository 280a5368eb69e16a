use Rattle.std.proofs.Common.{◌≡◌, ℕ, ◌+◌, ◌*◌, ◌%◌, ◌<◌, bit_or, cond, Bool, true, false, arith, refl, ◌∙◌, ap, sym}
use Rattle.lk_word.specs.RwWord.{packed_rw}
use Rattle.lk_word.proofs.Masks.{or_part}
use Rattle.lk_word.proofs.rw_word.pack_rw.Goals as goal
use Rattle.lk_word.proofs.rw_word.pack_rw.Goals.{then-fields, else-fields, then-fields-2, else-fields-2}

-- `|` adds the three parts
or_of_numbers : (readers waiting writer : ℕ) → waiting < 2 → writer < 256 →
    bit_or (bit_or (readers * 512) (waiting * 256)) writer ≡ writer + waiting * 256 + 512 * readers
or_of_numbers readers waiting writer p q =
    let low = or_part 9 readers (waiting * 256) (readers * 512) refl (omega arith) in
    let whole = or_part 8 (readers * 2 + waiting) writer (readers * 512 + waiting * 256) (omega arith) q in
    rw low (omega (arith, whole))

or_of_parts : (readers : ℕ) (waiting writer : Bool) →
    bit_or (bit_or (readers * 512) (cond waiting 256 0)) (cond writer 255 0)
    ≡ packed_rw (record { readers = readers; waiting = waiting; writer = writer })
unfolding packed_rw
or_of_parts readers false false = or_of_numbers readers 0 0 (omega arith) (omega arith)
or_of_parts readers false true = or_of_numbers readers 0 255 (omega arith) (omega arith)
or_of_parts readers true false = or_of_numbers readers 1 0 (omega arith) (omega arith)
or_of_parts readers true true = or_of_numbers readers 1 255 (omega arith) (omega arith)

pub returns : goal.returns
returns c =
    let whole = or_of_parts c.args.fields.readers c.args.fields.waiting c.args.fields.writer in
    let writer : cond c.args.fields.writer 255 0 ≡ c.if-fields.writer =
    elim c.if-fields.branch [
      | then-fields w ↦ ap (λ b. cond b 255 0) w.if-fields.true ∙ sym w.writer-is
      | else-fields w ↦ ap (λ b. cond b 255 0) w.if-fields.false ∙ sym w.writer-is
    ] in
    let waiting : cond c.args.fields.waiting 256 0 ≡ c.if-fields-2.waiting =
    elim c.if-fields-2.branch [
      | then-fields-2 w ↦ ap (λ b. cond b 256 0) w.if-fields-2.true ∙ sym w.waiting-is
      | else-fields-2 w ↦ ap (λ b. cond b 256 0) w.if-fields-2.false ∙ sym w.waiting-is
    ] in
    let readers : c.args.fields.readers * 512 % 4294967296 ≡ c.args.fields.readers * 512 = omega arith in
    rw (readers, ← writer, ← waiting) whole
