-- How a program holds a lock, operation by operation.
use Rattle.std.proofs.Common.{◌≡◌, ◌≢◌, ◌≤◌, ◌<◌, ◌+◌, ◌-◌, ℕ, zero, suc, true, false, List, [], ◌∷◌, ◌++◌, Option, None, Some, length, take, get_or, refl, ap, ◌∙◌, ◌==◌, ◌&&◌, ◌⊎◌, inl, inr, if◌then◌else◌, add-one, add-zero, zero-add, arith}
use Rattle.std.proofs.lemmas.Bool.{cases_lt}
use Rattle.std.proofs.lemmas.Bool.Decides.{nat_tests}
use Rattle.lk_text.proofs.NumberLemmas.{and_false}
use Rattle.std.proofs.lemmas.List.{take_more, length-take-le}
use Rattle.lk_names.specs.declared.holder.Manner.{Manner}
use Rattle.lk_rows.specs.Programs.{way_from, way_after, op_way, is_try}
use Rattle.lk_rows.specs.declared.setup.Op.{Op}
use Rattle.lk_forms.specs.Operations.{way_after_all, same_way, same_holds, try_from, try_at}

way_from-push : (ops : List Op) (o : Op) (lock : ℕ) (way : Option Manner) → way_from (ops ++ o ∷ []) (length (ops ++ o ∷ [])) lock way ≡ op_way o lock (way_from ops (length ops) lock way)
way_from-push [] o lock way = refl
way_from-push (p ∷ ops) o lock way = way_from-push ops o lock (op_way p lock way)

-- one operation more
pub way_after_all-push : (ops : List Op) (o : Op) (lock : ℕ) → way_after_all (ops ++ o ∷ []) lock ≡ op_way o lock (way_after_all ops lock)
way_after_all-push ops o lock = way_from-push ops o lock None

same_number : {i j : ℕ} → i ≡ j → (i == j) ≡ true
same_number is = grind (arith, nat_tests, is)

other_number : {i j : ℕ} → i ≢ j → (i == j) ≡ false
other_number not = grind (arith, nat_tests, not)

-- the last operation on a lock, with one operation more
try_from-push : (ops : List Op) (o : Op) (lock n : ℕ) (found : Option ℕ)
    → try_from (ops ++ o ∷ []) lock n found ≡ (if o.lock == lock then (if is_try o.verb then Some (n + length ops) else None) else try_from ops lock n found)
try_from-push [] o lock n found = rw add-zero refl
try_from-push (p ∷ ops) o lock n found =
    let shift : n + suc (length ops) ≡ suc n + length ops = omega arith in
    rw shift (try_from-push ops o lock (suc n) (if p.lock == lock then (if is_try p.verb then Some n else None) else found))

pub try_at-push : (ops : List Op) (o : Op) (lock : ℕ) → try_at (ops ++ o ∷ []) lock ≡ (if o.lock == lock then (if is_try o.verb then Some (length ops) else None) else try_at ops lock)
try_at-push ops o lock = rw (← zero-add (length ops)) (try_from-push ops o lock 0 None)

-- the first n + 1 operations
way_after_all-more : (ops : List Op) (n : ℕ) (d : Op) (lock : ℕ) → n < length ops → way_after_all (take (suc n) ops) lock ≡ op_way (get_or ops n d) lock (way_after_all (take n ops) lock)
way_after_all-more ops n d lock below =
    let more = rw add-one at (take_more ops n d below) in
    ap (λ xs. way_after_all xs lock) more ∙ way_after_all-push (take n ops) (get_or ops n d) lock

try_at-more : (ops : List Op) (n : ℕ) (d : Op) (lock : ℕ) → n < length ops
    → try_at (take (suc n) ops) lock ≡ (if (get_or ops n d).lock == lock then (if is_try (get_or ops n d).verb then Some n else None) else try_at (take n ops) lock)
try_at-more ops n d lock below =
    let more = rw add-one at (take_more ops n d below) in
    let count : length (take n ops) ≡ n = length-take-le n ops (omega arith) in
    rw count at (ap (λ xs. try_at xs lock) more ∙ try_at-push (take n ops) (get_or ops n d) lock)

-- the last of the first n operations decides, where it is on the lock, and counts for nothing where it is on another
pub way_after_all-last : (ops : List Op) (n : ℕ) (d : Op) (lock : ℕ) → 0 < n → n ≤ length ops → (get_or ops (n - 1) d).lock ≡ lock
    → way_after_all (take n ops) lock ≡ way_after (get_or ops (n - 1) d).verb
way_after_all-last ops zero d lock some within on = absurd (omega arith)
way_after_all-last ops (suc n) d lock some within on =
    let last : suc n - 1 ≡ n = omega arith in
    rw (way_after_all-more ops n d lock (omega arith), last, same_number (rw last at on)) refl

pub way_after_all-other : (ops : List Op) (n : ℕ) (d : Op) (lock : ℕ) → 0 < n → n ≤ length ops → (get_or ops (n - 1) d).lock ≢ lock
    → way_after_all (take n ops) lock ≡ way_after_all (take (n - 1) ops) lock
way_after_all-other ops zero d lock some within off = absurd (omega arith)
way_after_all-other ops (suc n) d lock some within off =
    let last : suc n - 1 ≡ n = omega arith in
    rw (way_after_all-more ops n d lock (omega arith), last, other_number (rw last at off)) refl

pub try_at-last : (ops : List Op) (n : ℕ) (d : Op) (lock : ℕ) → 0 < n → n ≤ length ops → (get_or ops (n - 1) d).lock ≡ lock
    → try_at (take n ops) lock ≡ (if is_try (get_or ops (n - 1) d).verb then Some (n - 1) else None)
try_at-last ops zero d lock some within on = absurd (omega arith)
try_at-last ops (suc n) d lock some within on =
    let last : suc n - 1 ≡ n = omega arith in
    rw (try_at-more ops n d lock (omega arith), last, same_number (rw last at on)) refl

pub try_at-other : (ops : List Op) (n : ℕ) (d : Op) (lock : ℕ) → 0 < n → n ≤ length ops → (get_or ops (n - 1) d).lock ≢ lock
    → try_at (take n ops) lock ≡ try_at (take (n - 1) ops) lock
try_at-other ops zero d lock some within off = absurd (omega arith)
try_at-other ops (suc n) d lock some within off =
    let last : suc n - 1 ≡ n = omega arith in
    rw (try_at-more ops n d lock (omega arith), last, other_number (rw last at off)) refl

-- holds, lock by lock
pub same_holds-more : (n : ℕ) (ops others : List Op) → same_way (way_after_all ops n) (way_after_all others n) ≡ true → same_holds n ops others ≡ true → same_holds (n + 1) ops others ≡ true
same_holds-more n ops others here below = rw (add-one, here, below) refl

pub same_holds-apart : (n k : ℕ) (ops others : List Op) → k < n → same_way (way_after_all ops k) (way_after_all others k) ≡ false → same_holds n ops others ≡ false
same_holds-apart zero k ops others below apart = absurd (omega arith)
same_holds-apart (suc n) k ops others below apart = by_place (cases_lt k n) (λ less. same_holds-apart n k ops others less apart)
  where
    by_place : (k < n) ⊎ (n ≤ k) → (k < n → same_holds n ops others ≡ false) → (same_way (way_after_all ops n) (way_after_all others n) && same_holds n ops others) ≡ false
    by_place (inl less) later = rw (later less) (and_false _)
    by_place (inr last) later = let same : k ≡ n = omega arith in rw (← same) (rw apart refl)

pub ruleset push_steps = way_after_all-push

pub ruleset hold_steps = (same_holds-more, same_holds-apart)
