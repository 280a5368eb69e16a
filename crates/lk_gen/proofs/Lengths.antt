-- How long the lines of the generated trace are.
use Rattle.std.proofs.Common.{◌≡◌, ◌<◌, ◌≤◌, ◌+◌, ◌*◌, ◌%◌, ℕ, zero, suc, true, ◌&&◌, List, [], ◌∷◌, ◌++◌, length, refl, ap, ◌∙◌, arith, decimal, nat_le, length-append, codes}
use Rattle.std.specs.List.{list_all}
use Rattle.std.specs.Fmt.{digits}
use Rattle.std.proofs.lemmas.Bool.Decides.{nat_tests}
use Rattle.std.proofs.lemmas.Grind.{flat_map-append}
use Rattle.std.proofs.lemmas.List.Folds.{list_all-append}
use Rattle.lk_gen.specs.Spaced.{spaced, piece_of, text_of}
use Rattle.lk_gen.specs.Generated.{next_draw, draw_after, pair_words, program_line, program_lines, step_words, step_lines, head_lines, schedule_lines, generated_lines, generated}
use Rattle.lk_gen.proofs.Sizes.{one_digit, two_digits}
use Rattle.lk_gen.proofs.Spacing.{are_words, word-decimal}
use Rattle.lk_gen.proofs.Reading.{is_line, are_lines}

-- the bytes of more words
joined : List (List ℕ) → ℕ
joined [] = 0
joined (w ∷ ws) = 1 + (length w + joined ws)

length-spaced : (w : List ℕ) (ws : List (List ℕ)) → length (spaced (w ∷ ws)) ≡ length w + joined ws
unfolding joined
length-spaced w [] = omega arith
length-spaced w (v ∷ ws) = let rest = length-spaced v ws in omega (arith, rest, length-append w (32 ∷ spaced (v ∷ ws)))

joined_pairs : (n x : ℕ) → joined (pair_words n x) ≤ 16 * n
unfolding joined pair_words
joined_pairs zero x = omega arith
joined_pairs (suc n) x = let rest = joined_pairs n (next_draw x) in let one = one_digit (next_draw x % 4) (omega arith) in omega (arith, rest, one)

pair_are_words : (n x : ℕ) → are_words (pair_words n x) ≡ true
unfolding pair_words
pair_are_words zero x = refl
pair_are_words (suc n) x = rw (word-decimal (next_draw x % 4) (omega arith), pair_are_words n (next_draw x)) refl

-- a line of the schedule

step_length : (p : ℕ) → p < 32 → length (spaced (step_words p)) ≤ 9
unfolding joined
step_length p below = let two = two_digits p below in omega (arith, two, length-spaced (codes "step") (decimal p ∷ codes "8" ∷ []))

step_is_line : (p : ℕ) → p < 32 → is_line (step_words p) ≡ true
step_is_line p below =
    let words : are_words (step_words p) ≡ true = rw (word-decimal p (omega arith)) refl in
    let size = step_length p below in
    let short : nat_le (length (spaced (step_words p))) 4096 ≡ true = grind (arith, nat_tests, size) in
    rw (words, short) refl

program_length : (p x : ℕ) → p < 32 → length (spaced (program_line p x)) ≤ 263
unfolding joined
program_length p x below =
    let two = two_digits p below in
    let pairs = joined_pairs 16 x in
    omega (arith, two, pairs, length-spaced (codes "prog") (decimal p ∷ pair_words 16 x))

program_is_line : (p x : ℕ) → p < 32 → is_line (program_line p x) ≡ true
program_is_line p x below =
    let words : are_words (program_line p x) ≡ true = rw (word-decimal p (omega arith), pair_are_words 16 x) refl in
    let size = program_length p x below in
    let short : nat_le (length (spaced (program_line p x))) 4096 ≡ true = grind (arith, nat_tests, size) in
    rw (words, short) refl

text_length : (ws : List (List ℕ)) (lines : List (List (List ℕ))) → length (text_of (ws ∷ lines)) ≡ length (spaced ws) + 1 + length (text_of lines)
text_length ws lines = omega (arith, length-append (piece_of ws) (text_of lines), length-append (spaced ws) (10 ∷ []))

pub lengths-append : (xs ys : List (List (List ℕ))) → length (text_of (xs ++ ys)) ≡ length (text_of xs) + length (text_of ys)
lengths-append xs ys = ap length (flat_map-append piece_of xs ys) ∙ length-append (text_of xs) (text_of ys)

steps_length : (n x : ℕ) → length (text_of (step_lines n x)) ≤ 10 * n
unfolding step_lines
steps_length zero x = omega arith
steps_length (suc n) x =
    let rest = steps_length n (next_draw x) in
    let first = step_length (next_draw x % 32) (omega arith) in
    omega (arith, rest, first, text_length (step_words (next_draw x % 32)) (step_lines n (next_draw x)))

programs_length : (n p x : ℕ) → p + n ≤ 32 → length (text_of (program_lines n p x)) ≤ 264 * n
unfolding program_lines
programs_length zero p x few = omega arith
programs_length (suc n) p x few =
    let rest = programs_length n (p + 1) (draw_after 16 x) (omega arith) in
    let first = program_length p x (omega arith) in
    omega (arith, rest, first, text_length (program_line p x) (program_lines n (p + 1) (draw_after 16 x)))

head_length : length (text_of head_lines) ≡ 159
unfolding digits
head_length = refl

pub short : (start : ℕ) → length (generated start) ≤ 258614
short start =
    let x = draw_after 512 start in
    let a = lengths-append head_lines (program_lines 32 0 start ++ ((codes "go" ∷ []) ∷ schedule_lines (draw_after 512 start))) in
    let b = lengths-append (program_lines 32 0 start) ((codes "go" ∷ []) ∷ schedule_lines (draw_after 512 start)) in
    let c = text_length (codes "go" ∷ []) (schedule_lines (draw_after 512 start)) in
    let d = lengths-append (step_lines 25000 (draw_after 512 start)) ((codes "end" ∷ []) ∷ []) in
    omega (arith, a, b, c, d, head_length, programs_length 32 0 start (omega arith), steps_length 25000 (draw_after 512 start))

-- every line is one

lines-append : (xs ys : List (List (List ℕ))) → are_lines xs ≡ true → are_lines ys ≡ true → are_lines (xs ++ ys) ≡ true
unfolding are_lines
lines-append xs ys first last = list_all-append is_line xs ys ∙ rw (first, last) refl

steps_are_lines : (n x : ℕ) → are_lines (step_lines n x) ≡ true
unfolding are_lines step_lines
steps_are_lines zero x = refl
steps_are_lines (suc n) x = ap (λ t. t && list_all is_line (step_lines n (next_draw x))) (step_is_line (next_draw x % 32) (omega arith)) ∙ steps_are_lines n (next_draw x)

programs_are_lines : (n p x : ℕ) → p + n ≤ 32 → are_lines (program_lines n p x) ≡ true
unfolding are_lines program_lines
programs_are_lines zero p x few = refl
programs_are_lines (suc n) p x few =
    ap (λ t. t && list_all is_line (program_lines n (p + 1) (draw_after 16 x))) (program_is_line p x (omega arith)) ∙ programs_are_lines n (p + 1) (draw_after 16 x) (omega arith)

head_are_lines : are_lines head_lines ≡ true
unfolding are_lines digits
head_are_lines = refl

go_end : (lines : List (List (List ℕ))) → are_lines lines ≡ true → are_lines ((codes "go" ∷ []) ∷ (lines ++ (codes "end" ∷ []) ∷ [])) ≡ true
unfolding are_lines
go_end lines h = list_all-append is_line lines ((codes "end" ∷ []) ∷ []) ∙ rw h refl

pub lines_are_lines : (start : ℕ) → are_lines (generated_lines start) ≡ true
lines_are_lines start =
    lines-append head_lines (program_lines 32 0 start ++ ((codes "go" ∷ []) ∷ schedule_lines (draw_after 512 start))) head_are_lines
    (lines-append (program_lines 32 0 start) ((codes "go" ∷ []) ∷ schedule_lines (draw_after 512 start)) (programs_are_lines 32 0 start (omega arith))
    (go_end (step_lines 25000 (draw_after 512 start)) (steps_are_lines 25000 (draw_after 512 start))))
