-- The programs of the generated trace are read.
use Rattle.std.proofs.Common.{◌≡◌, ◌<◌, ◌≤◌, ◌+◌, ◌*◌, ◌%◌, ◌==◌, ℕ, zero, suc, Bool, true, false, List, [], ◌∷◌, ◌++◌, length, refl, ap, ◌∙◌, arith, decimal, Option, None, Some, Ok, nat_le, nat_lt, append_assoc, length-append, codes, if◌then◌else◌}
use Rattle.std.specs.Prelude.{slice_get, slice_index_or, replicate}
use Rattle.std.proofs.lemmas.List.{append-nil, get_or-set_other}
use Rattle.std.proofs.lemmas.Bool.Decides.{nat_tests}
use Rattle.lk_names.specs.declared.names.Kind.{Kind}
use Rattle.lk_names.specs.declared.names.Kind.TheVariants.{Spin}
use Rattle.lk_rows.specs.Programs.{op_way, way_after}
use Rattle.lk_rows.specs.declared.setup.Verb.{Verb}
use Rattle.lk_rows.specs.declared.setup.Verb.TheVariants.{Lock, Unlock}
use Rattle.lk_rows.specs.declared.setup.Op.{Op}
use Rattle.lk_rows.specs.declared.setup.Setup.{Setup}
use Rattle.lk_forms.specs.Operations.{way_after_all, try_from, op_of, ops_from, ops_of}
use Rattle.lk_forms.specs.Grammar.{read_words, cpus_of, has_program, with_program, list_of}
use Rattle.lk_forms.proofs.WalkLemmas.{way_after_all-push}
use Rattle.lk_gen.specs.Generated.{next_draw, draw_after, pair_words, pair_ops, program_line, program_lines, with_programs, head_setup}
use Rattle.lk_gen.proofs.Spacing.{number-decimal}
use Rattle.lk_gen.proofs.Reading.{reads}
use Rattle.lk_gen.proofs.Steps.{so_far}

abbrev pub four : List Kind
four = Spin ∷ Spin ∷ Spin ∷ Spin ∷ []

abbrev op : Verb → ℕ → Op
op v l = record { verb = v; lock = l }

-- nothing is held behind these operations
abbrev pub AreFree : List Op → Type 0
AreFree ops = (k : ℕ) → way_after_all ops k ≡ None

same_number : (n : ℕ) → (n == n) ≡ true
same_number n = grind (arith, nat_tests)

spin_there : (l : ℕ) → l < 4 → slice_get four l ≡ Some Spin
spin_there zero below = refl
spin_there (suc zero) below = refl
spin_there (suc (suc zero)) below = refl
spin_there (suc (suc (suc zero))) below = refl
spin_there (suc (suc (suc (suc l)))) below = absurd (omega arith)

-- the last operation on the lock is no try
no_try : (ops : List Op) (l n : ℕ) (found : Option ℕ) → try_from (ops ++ op Lock l ∷ []) l n found ≡ None
no_try [] l n found = rw (same_number l) refl
no_try (o ∷ ops) l n found = no_try ops l (suc n) _

lock_ok : (ops : List Op) (l : ℕ) (rest : List (List ℕ)) → l < 4 → AreFree ops → length ops < 64 → op_of four ops (codes "lock") (decimal l ∷ rest) ≡ Ok (op Lock l)
lock_ok ops l rest below free few =
    let number = number-decimal l (omega arith) in
    let room : nat_le 64 (length ops) ≡ false = grind (arith, nat_tests, few) in
    rw (room, number, spin_there l below, free l) refl

unlock_ok : (ops : List Op) (l : ℕ) (rest : List (List ℕ)) → l < 4 → AreFree ops → length ops + 1 < 64
    → op_of four (ops ++ op Lock l ∷ []) (codes "unlock") (decimal l ∷ rest) ≡ Ok (op Unlock l)
unlock_ok ops l rest below free few =
    let number = number-decimal l (omega arith) in
    let size = length-append ops (op Lock l ∷ []) in
    let room : nat_le 64 (length (ops ++ op Lock l ∷ [])) ≡ false = grind (arith, nat_tests, few, size) in
    let held : way_after_all (ops ++ op Lock l ∷ []) l ≡ op_way (op Lock l) l None = way_after_all-push ops (op Lock l) l ∙ ap (λ w. op_way (op Lock l) l w) (free l) in
    rw (room, number, spin_there l below, held, same_number l, no_try ops l 0 None) refl

pair_free : (ops : List Op) (l : ℕ) → AreFree ops → AreFree ((ops ++ op Lock l ∷ []) ++ op Unlock l ∷ [])
pair_free ops l free k =
    way_after_all-push (ops ++ op Lock l ∷ []) (op Unlock l) k ∙ ap (λ w. op_way (op Unlock l) k w) (way_after_all-push ops (op Lock l) k ∙ ap (λ w. op_way (op Lock l) k w) (free k))
    ∙ by_lock (l == k)
  where
    by_lock : (t : Bool) → (if t then None else (if t then way_after Lock else None)) ≡ None
    by_lock true = refl
    by_lock false = refl

pub pairs_read : (n x : ℕ) (ops : List Op) → AreFree ops → length ops + 2 * n ≤ 64 → ops_from four ops (pair_words n x) ≡ Ok (ops ++ pair_ops n x)
unfolding pair_words pair_ops
pairs_read zero x ops free few = rw (free 3, free 2, free 1, free 0, append-nil ops) refl
pairs_read (suc n) x ops free few =
    let l = next_draw x % 4 in
    let below : next_draw x % 4 < 4 = omega arith in
    let locks = lock_ok ops (next_draw x % 4) (codes "unlock" ∷ decimal (next_draw x % 4) ∷ pair_words n (next_draw x)) below free (omega arith) in
    let unlocks = unlock_ok ops (next_draw x % 4) (pair_words n (next_draw x)) below free (omega arith) in
    let size = length-append ops (op Lock (next_draw x % 4) ∷ []) in
    let size' = length-append (ops ++ op Lock (next_draw x % 4) ∷ []) (op Unlock (next_draw x % 4) ∷ []) in
    let rest = pairs_read n (next_draw x) ((ops ++ op Lock (next_draw x % 4) ∷ []) ++ op Unlock (next_draw x % 4) ∷ []) (pair_free ops (next_draw x % 4) free) (omega (arith, size, size')) in
    rw (locks, unlocks) (rest ∙ ap Ok (append_assoc (ops ++ op Lock (next_draw x % 4) ∷ []) (op Unlock (next_draw x % 4) ∷ []) (pair_ops n (next_draw x)) ∙ append_assoc ops (op Lock (next_draw x % 4) ∷ []) _))

pub program_read : (n x : ℕ) → 0 < n → n ≤ 32 → ops_of four (pair_words n x) ≡ Ok (pair_ops n x)
unfolding pair_words
program_read zero x some few = absurd (omega arith)
program_read (suc n) x some few = pairs_read (suc n) x [] (λ k. refl) (omega arith)

-- all of them

-- there are 32 processors and four spinlocks, and no processor from p on has a program
pub record IsOpen (p : ℕ) (s : Setup) : Type 0 where
  pub cpus : cpus_of s ≡ 32
  pub locks : s.locks.items ≡ four
  pub empty : (q : ℕ) → p ≤ q → has_program s q ≡ false

line_6 : (p x : ℕ) (s : Setup) → p < 32 → IsOpen p s → read_words (so_far 6 s []) (program_line p x) ≡ Ok (so_far 7 (with_program s p (pair_ops 16 x)) [])
line_6 p x s below open_from =
    let number = number-decimal p (omega arith) in
    let within : nat_lt p 32 ≡ true = grind (arith, nat_tests, below) in
    rw (open_from.cpus, number, within, open_from.empty p (omega arith), open_from.locks, program_read 16 x (omega arith) (omega arith)) refl

line_7 : (p x : ℕ) (s : Setup) → p < 32 → IsOpen p s → read_words (so_far 7 s []) (program_line p x) ≡ Ok (so_far 7 (with_program s p (pair_ops 16 x)) [])
line_7 p x s below open_from =
    let number = number-decimal p (omega arith) in
    let within : nat_lt p 32 ≡ true = grind (arith, nat_tests, below) in
    rw (open_from.cpus, number, within, open_from.empty p (omega arith), open_from.locks, program_read 16 x (omega arith) (omega arith)) refl

open_next : (p : ℕ) (s : Setup) (ops : List Op) → IsOpen p s → IsOpen (p + 1) (with_program s p ops)
open_next p s ops open_from = record { cpus = open_from.cpus; locks = open_from.locks; empty = empty }
  where
    empty : (q : ℕ) → p + 1 ≤ q → has_program (with_program s p ops) q ≡ false
    empty q past = rw (get_or-set_other s.progs.items p q (list_of 64 ops) (list_of 0 []) (λ is. omega arith)) (open_from.empty q (omega arith))

more_programs : (n p x : ℕ) (s : Setup) → p + n ≤ 32 → IsOpen p s → reads (so_far 7 s []) (program_lines n p x) ≡ Ok (so_far 7 (with_programs n p x s) [])
unfolding reads program_lines with_programs
more_programs zero p x s few open_from = refl
more_programs (suc n) p x s few open_from =
    rw (line_7 p x s (omega arith) open_from) (more_programs n (p + 1) (draw_after 16 x) (with_program s p (pair_ops 16 x)) (omega arith) (open_next p s (pair_ops 16 x) open_from))

pub programs_read : (n p x : ℕ) (s : Setup) → 0 < n → p + n ≤ 32 → IsOpen p s → reads (so_far 6 s []) (program_lines n p x) ≡ Ok (so_far 7 (with_programs n p x s) [])
unfolding reads program_lines with_programs
programs_read zero p x s some few open_from = absurd (omega arith)
programs_read (suc n) p x s some few open_from =
    rw (line_6 p x s (omega arith) open_from) (more_programs n (p + 1) (draw_after 16 x) (with_program s p (pair_ops 16 x)) (omega arith) (open_next p s (pair_ops 16 x) open_from))

-- programs are no processors
pub cpus_kept : (n p x : ℕ) (s : Setup) → cpus_of (with_programs n p x s) ≡ cpus_of s
unfolding with_programs
cpus_kept zero p x s = refl
cpus_kept (suc n) p x s = cpus_kept n (p + 1) (draw_after 16 x) (with_program s p (pair_ops 16 x))

none_there : (n q : ℕ) → slice_index_or (replicate n (list_of 0 [])) q (list_of {T = Op} 0 []) ≡ list_of 0 []
none_there zero q = refl
none_there (suc n) zero = refl
none_there (suc n) (suc q) = none_there n q

pub head_open : IsOpen 0 head_setup
head_open = record { cpus = refl; locks = refl; empty = λ q past. rw (none_there 32 q) refl }
