-- The schedule of the generated trace is read.
use Rattle.std.proofs.Common.{◌≡◌, ◌<◌, ◌≤◌, ◌+◌, ◌*◌, ◌%◌, ℕ, zero, suc, true, List, [], ◌∷◌, ◌++◌, length, refl, ap, sym, ◌∙◌, arith, Some, Ok, nat_le, nat_lt, append_assoc, length-append, codes}
use Rattle.std.specs.Prelude.{replicate}
use Rattle.std.proofs.lemmas.List.{append-nil}
use Rattle.std.proofs.lemmas.Bool.Decides.{nat_tests}
use Rattle.lk_names.specs.declared.events.Act.{Act}
use Rattle.lk_names.specs.declared.events.Act.TheVariants as act
use Rattle.lk_rows.specs.declared.setup.Setup.{Setup}
use Rattle.lk_forms.specs.Grammar.{Reading, read_words, cpus_of}
use Rattle.lk_gen.specs.Generated.{next_draw, step_words, step_lines, step_acts}
use Rattle.lk_gen.proofs.Spacing.{number-decimal}
use Rattle.lk_gen.proofs.Reading.{reads}

-- what was read up to a line of this rank
abbrev pub so_far : ℕ → Setup → List Act → Reading
so_far rank s acts = record { rank = Some rank; setup = s; acts = acts }

pub step_10 : (s : Setup) (acts : List Act) (p : ℕ) → cpus_of s ≡ 32 → p < 32 → length acts + 8 ≤ 100000000
    → read_words (so_far 10 s acts) (step_words p) ≡ Ok (so_far 10 s (acts ++ replicate 8 (act.Step p)))
step_10 s acts p cpus below few =
    let number = number-decimal p (omega arith) in
    let within : nat_lt p 32 ≡ true = grind (arith, nat_tests, below) in
    let room : nat_le (length acts + 8) 100000000 ≡ true = grind (arith, nat_tests, few) in
    rw (cpus, number, within, room) refl

pub step_9 : (s : Setup) (acts : List Act) (p : ℕ) → cpus_of s ≡ 32 → p < 32 → length acts + 8 ≤ 100000000
    → read_words (so_far 9 s acts) (step_words p) ≡ Ok (so_far 10 s (acts ++ replicate 8 (act.Step p)))
step_9 s acts p cpus below few =
    let number = number-decimal p (omega arith) in
    let within : nat_lt p 32 ≡ true = grind (arith, nat_tests, below) in
    let room : nat_le (length acts + 8) 100000000 ≡ true = grind (arith, nat_tests, few) in
    rw (cpus, number, within, room) refl

below_32 : (x : ℕ) → x % 32 < 32
below_32 x = omega arith

eight : (acts : List Act) (a : Act) → length (acts ++ replicate 8 a) ≡ length acts + 8
eight acts a = length-append acts (replicate 8 a)

pub steps_read : (n x : ℕ) (s : Setup) (acts : List Act) → cpus_of s ≡ 32 → length acts + 8 * n ≤ 100000000 → reads (so_far 10 s acts) (step_lines n x) ≡ Ok (so_far 10 s (acts ++ step_acts n x))
unfolding reads step_lines step_acts
steps_read zero x s acts cpus few = ap (λ more. Ok (so_far 10 s more)) (sym (append-nil acts))
steps_read (suc n) x s acts cpus few =
    let eights = replicate 8 (act.Step (next_draw x % 32)) in
    let first = step_10 s acts (next_draw x % 32) cpus (below_32 (next_draw x)) (omega arith) in
    let rest = steps_read n (next_draw x) s (acts ++ eights) cpus (omega (arith, eight acts (act.Step (next_draw x % 32)))) in
    rw first (rest ∙ ap (λ more. Ok (so_far 10 s more)) (append_assoc acts eights (step_acts n (next_draw x))))

pub schedule_read : (n x : ℕ) (s : Setup) → 0 < n → cpus_of s ≡ 32 → 8 * n ≤ 100000000 → reads (so_far 9 s []) (step_lines n x) ≡ Ok (so_far 10 s (step_acts n x))
unfolding reads step_lines step_acts
schedule_read zero x s some cpus few = absurd (omega arith)
schedule_read (suc n) x s some cpus few =
    let eights = replicate 8 (act.Step (next_draw x % 32)) in
    let first = step_9 s [] (next_draw x % 32) cpus (below_32 (next_draw x)) (omega arith) in
    rw first (steps_read n (next_draw x) s eights cpus (omega arith))

pub length-step_acts : (n x : ℕ) → length (step_acts n x) ≡ 8 * n
unfolding step_acts
length-step_acts zero x = refl
length-step_acts (suc n) x =
    let rest = length-step_acts n (next_draw x) in
    omega (arith, rest, length-append (replicate 8 (act.Step (next_draw x % 32))) (step_acts n (next_draw x)))

pub end_read : (s : Setup) (acts : List Act) → reads (so_far 10 s acts) ((codes "end" ∷ []) ∷ []) ≡ Ok (so_far 11 s acts)
unfolding reads
end_read s acts = refl

pub go_read : (s : Setup) → read_words (so_far 7 s []) (codes "go" ∷ []) ≡ Ok (so_far 9 s [])
go_read s = refl
