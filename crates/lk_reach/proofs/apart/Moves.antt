-- The acts that are explored, put together one by one.
use Rattle.std.proofs.Common.{◌≡◌, ℕ, zero, suc, ◌<◌, ◌+◌, Bool, true, false, List, [], ◌∷◌, ◌++◌}
use Rattle.std.proofs.Common.{refl, sym, subst, length, Some, arith, inl, inr, ◌⊎◌, not, slice_get}
use Rattle.lk_reach.proofs.Names.{cases_eq, Act, Setup, Among, AreAllMoves, OnlyMoves, IsMove}
use Rattle.lk_reach.proofs.Names.{cpus_of, IsFront, Extras}
use Rattle.lk_rows.specs.Programs.{handlers_of}
use Rattle.lk_reach.proofs.Kept.{front_get, front_at, front_then}
use Rattle.lk_names.specs.declared.events.Act.TheVariants as act

-- what is not left out is asked for
pub is_asked : (b : Bool) → not b ≡ false → b ≡ true
is_asked true e = refl
is_asked false e = cc

pub among_front : (xs ys : List Act) → IsFront xs ys → (a : Act) → Among xs a → Among ys a
among_front xs ys f a at = (at.0, front_at xs ys f at.0 a at.1)

pub front_push : (xs ys : List Act) (a : Act) → IsFront xs ys → IsFront xs (ys ++ a ∷ [])
front_push xs ys a f = front_then xs ys (ys ++ a ∷ []) f (a ∷ [], refl)

among_new : (xs : List Act) (a : Act) → slice_get (xs ++ a ∷ []) (length xs) ≡ Some a
among_new [] a = refl
among_new (x ∷ xs) a = among_new xs a

last_or_before : (xs : List Act) (a : Act) (i : ℕ) (b : Act) → slice_get (xs ++ a ∷ []) i ≡ Some b
    → (slice_get xs i ≡ Some b) ⊎ (a ≡ b)
last_or_before [] a zero b e = inr cc
last_or_before [] a (suc i) b e = cc
last_or_before (x ∷ xs) a zero b e = inl e
last_or_before (x ∷ xs) a (suc i) b e = last_or_before xs a i b e

-- one more
pub only_push : (extras : Extras) (setup : Setup) (xs : List Act) (a : Act) → OnlyMoves extras setup xs
    → IsMove extras setup a → OnlyMoves extras setup (xs ++ a ∷ [])
only_push extras setup xs a only move i b e =
    elim (last_or_before xs a i b e) [
      | inl old ↦ only i b old
      | inr new ↦ subst (IsMove extras setup) new move
    ]

pub all_push : (Q : ℕ → Type 0) (f : ℕ → Act) (xs : List Act) (n : ℕ)
    → ((p : ℕ) → p < n → Q p → Among xs (f p)) → (p : ℕ) → p < n + 1 → Q p
    → Among (xs ++ f n ∷ []) (f p)
all_push Q f xs n before p low q =
    elim (cases_eq p n) [
      | inl e ↦ subst (λ (k : ℕ). Among (xs ++ f n ∷ []) (f k)) (sym e) (length xs, among_new xs (f n))
      | inr ne ↦ let b = before p (omega (arith, low, ne)) q in (b.0, front_get xs (f n ∷ []) b.0 (f p) b.1)
    ]

pub all_skip : (Q : ℕ → Type 0) (f : ℕ → Act) (xs : List Act) (n : ℕ) → (Q n → ⊥)
    → ((p : ℕ) → p < n → Q p → Among xs (f p)) → (p : ℕ) → p < n + 1 → Q p → Among xs (f p)
all_skip Q f xs n not before p low q =
    elim (cases_eq p n) [
      | inl e ↦ absurd (not (subst Q e q))
      | inr ne ↦ before p (omega (arith, low, ne)) q
    ]

pub are_all : (extras : Extras) (setup : Setup) (acts : List Act) → OnlyMoves extras setup acts
    → ((p : ℕ) → p < cpus_of setup → Among acts (act.Step p))
    → ((p : ℕ) → p < cpus_of setup → 0 < handlers_of setup p → Among acts (act.Interrupt p))
    → ((p : ℕ) → extras.nudges ≡ true → p < cpus_of setup → Among acts (act.Nudge p))
    → ((p : ℕ) → extras.preempts ≡ true → p < cpus_of setup → Among acts (act.Preempt p))
    → ((p : ℕ) → extras.preempts ≡ true → p < cpus_of setup → Among acts (act.Resume p))
    → AreAllMoves extras setup acts
are_all extras setup acts only steps ints nudged preempted resumed = record { all = all; only = only }
  where
    all : (a : Act) → IsMove extras setup a → Among acts a
    all (act.Step p) move = steps p move
    all (act.Interrupt p) move = ints p move.0 move.1
    all (act.Nudge p) move = nudged p move.0 move.1
    all (act.Preempt p) move = preempted p move.0 move.1
    all (act.Resume p) move = resumed p move.0 move.1
