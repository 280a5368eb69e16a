use Rattle.std.proofs.Common.{◌≡◌, ℕ, ◌+◌, ◌*◌, ◌<◌, bit_or, cond, Bool, true, false, Option, Some, None, arith, ◌∙◌, ap, sym}
use Rattle.lk_word.specs.declared.spin_word.NodeName.{NodeName}
use Rattle.lk_word.specs.declared.spin_word.Layout.{Layout}
use Rattle.lk_word.specs.declared.spin_word.Layout.TheVariants.{Narrow, Wide}
use Rattle.lk_word.specs.declared.spin_word.Locked.{Locked}
use Rattle.lk_word.specs.declared.spin_word.Locked.TheVariants.{Free, Held, Slow}
use Rattle.lk_word.specs.SpinWord.{packed, locked_number, tail_number}
use Rattle.lk_word.proofs.Masks.{or_part}
use Rattle.lk_word.proofs.spin_word.pack.Goals as goal
use Rattle.lk_word.proofs.spin_word.pack.Goals.{then-fields, else-fields}

-- a tail leaves the low 9 bits free
tail_part : (layout : Layout) (tail : Option NodeName) (bit : ℕ) → bit < 512 →
    bit_or (tail_number layout tail) bit ≡ tail_number layout tail + bit
tail_part layout None bit small = or_part 9 0 bit 0 (omega arith) small
tail_part Narrow (Some node) bit small =
    or_part 9 (128 * (node.index + 4 * (node.cpu + 1))) bit _ (omega arith) small
tail_part Wide (Some node) bit small =
    or_part 9 (node.index + 4 * (node.cpu + 1)) bit _ (omega arith) small

-- a tail and the pending bit leave the low 8 bits free
whole_part : (layout : Layout) (tail : Option NodeName) (half byte : ℕ) → byte < 256 →
    bit_or (tail_number layout tail + half * 256) byte ≡ tail_number layout tail + half * 256 + byte
whole_part layout None half byte small = or_part 8 half byte _ (omega arith) small
whole_part Narrow (Some node) half byte small =
    or_part 8 (256 * (node.index + 4 * (node.cpu + 1)) + half) byte _ (omega arith) small
whole_part Wide (Some node) half byte small =
    or_part 8 (2 * (node.index + 4 * (node.cpu + 1)) + half) byte _ (omega arith) small

small_locked : (locked : Locked) → locked_number locked < 256
small_locked Free = omega arith
small_locked Held = omega arith
small_locked Slow = omega arith

-- `|` adds the three parts
or_of_parts : (layout : Layout) (locked : Locked) (pending : Bool) (tail : Option NodeName) →
    bit_or (bit_or (tail_number layout tail) (cond pending 256 0)) (locked_number locked)
    ≡ packed layout (record { locked = locked; pending = pending; tail = tail })
unfolding packed
or_of_parts layout locked true tail =
    let low = tail_part layout tail 256 (omega arith) in
    let whole = whole_part layout tail 1 (locked_number locked) (small_locked locked) in
    rw low (omega (arith, whole))
or_of_parts layout locked false tail =
    let low = tail_part layout tail 0 (omega arith) in
    let whole = whole_part layout tail 0 (locked_number locked) (small_locked locked) in
    rw low (omega (arith, whole))

pub returns : goal.returns
returns c =
    let whole = or_of_parts c.args.layout c.args.fields.locked c.args.fields.pending c.args.fields.tail in
    let bit : cond c.args.fields.pending 256 0 ≡ c.if-fields.pending =
    elim c.if-fields.branch [
      | then-fields w ↦ ap (λ b. cond b 256 0) w.if-fields.true ∙ sym w.pending-is
      | else-fields w ↦ ap (λ b. cond b 256 0) w.if-fields.false ∙ sym w.pending-is
    ] in
    rw (c.pack_tail-tail.ensures, ← bit, c.pack_locked-locked.ensures) whole
