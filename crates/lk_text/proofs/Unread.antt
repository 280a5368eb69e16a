-- What stays unread when a reader takes more bytes.
use Rattle.std.proofs.Common.{◌≡◌, ◌+◌, ◌++◌, ◌-◌, List, ℕ, Option, Some, None, take, drop, slice_range, sym, ap, ◌∙◌, append_assoc, arith}
use Rattle.std.proofs.Math.Seq.{take-add}
use Rattle.std.specs.Io.KnownBytes.{Consumes, Keeps, prepend_known}

-- the bytes that were read stand behind those that were there
pub Keeps-prepend_read : (front more : List ℕ) (left left' : Option (List ℕ)) → Consumes left left' more
    → Keeps (prepend_known front left) (prepend_known (front ++ more) left')
Keeps-prepend_read front more None left' taken = tt
Keeps-prepend_read front more (Some xs) None taken = absurd taken
Keeps-prepend_read front more (Some xs) (Some ys) taken = append_assoc front more ys ∙ ap (λ l. front ++ l) (sym taken)

-- bytes are read behind those that were there, so what is unread stays the same
Keeps-filled : (front block : List ℕ) (left left' : Option (List ℕ)) (d n : ℕ) → take d block ≡ front
    → Consumes left left' (take n (drop d block)) → Keeps (prepend_known front left) (prepend_known (slice_range block 0 (d + n)) left')
Keeps-filled front block left left' d n same taken =
    let m : d + n - 0 ≡ d + n = omega arith in
    rw (m, take-add, same) (Keeps-prepend_read front _ left left' taken)

-- the same, where the bytes that were there stood in a part of a block
pub Keeps-refilled : (held given block : List ℕ) (at end n : ℕ) (left left' : Option (List ℕ)) → given ≡ held → take (end - at) block ≡ slice_range given at end
    → Consumes left left' (take n (drop (end - at) block))
    → Keeps (prepend_known (slice_range held at end) left) (prepend_known (slice_range block 0 (end - at + n)) left')
Keeps-refilled held given block at end n left left' same front taken =
    Keeps-filled (slice_range held at end) block left left' (end - at) n (front ∙ ap (λ l. slice_range l at end) same) taken
