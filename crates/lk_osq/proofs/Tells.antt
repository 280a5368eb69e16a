-- Lists without one of their elements.
use Rattle.std.proofs.Common.{◌≡◌, ◌≢◌, ◌<◌, ◌≤◌, ℕ, zero, suc, Some, None, List, [], ◌∷◌, arith}
use Rattle.std.proofs.Common.{slice_get, refl}
use Rattle.lk_osq.specs.History.{without}
use Rattle.lk_osq.proofs.Leave.{Drops}

pub without_first : (w : ℕ) (xs : List ℕ) → without w (w ∷ xs) ≡ xs
without_first w xs = grind arith

pub without_later : (w y : ℕ) (xs : List ℕ) → y ≢ w → without w (y ∷ xs) ≡ y ∷ without w xs
without_later w y xs ne = grind (arith, ne)

-- who stands once at a place is gone from it
pub without_drops : (xs : List ℕ) (k w : ℕ) → slice_get xs k ≡ Some w
    → ((i : ℕ) → slice_get xs i ≡ Some w → i ≡ k) → Drops xs (without w xs) k
without_drops [] k w h once = cc
without_drops (y ∷ ys) zero w h once =
    let e : y ≡ w = grind arith in
    record { low = λ i l. absurd (omega arith); high = λ i l. grind (arith, without_first w ys, e) }
without_drops (y ∷ ys) (suc k) w h once =
    let ne : y ≢ w = (λ e. omega (arith, once 0 (grind (arith, e)))) in
    let r = without_drops ys k w h (λ i p. omega (arith, once (suc i) p)) in
    let e = without_later w y ys ne in
    record { low = λ i l. rw e (low i l r); high = λ i l. rw e (high i l r) }
  where
    low : (i : ℕ) → i < suc k → Drops ys (without w ys) k
        → slice_get (y ∷ without w ys) i ≡ slice_get (y ∷ ys) i
    low zero l r = refl
    low (suc i) l r = r.low i (omega arith)

    high : (i : ℕ) → suc k ≤ i → Drops ys (without w ys) k
        → slice_get (y ∷ without w ys) i ≡ slice_get (y ∷ ys) (suc i)
    high zero l r = absurd (omega arith)
    high (suc i) l r = r.high i (omega arith)

-- the same where one stands before the list
pub behind_drops : {xs ys : List ℕ} {k : ℕ} (h : ℕ) → Drops xs ys k
    → Drops (h ∷ xs) (h ∷ ys) (suc k)
behind_drops {xs = xs} {ys = ys} {k = k} h r = record { low = low; high = high }
  where
    low : (i : ℕ) → i < suc k → slice_get (h ∷ ys) i ≡ slice_get (h ∷ xs) i
    low zero l = refl
    low (suc i) l = r.low i (omega arith)

    high : (i : ℕ) → suc k ≤ i → slice_get (h ∷ ys) i ≡ slice_get (h ∷ xs) (suc i)
    high zero l = absurd (omega arith)
    high (suc i) l = r.high i (omega arith)

-- the first is gone
pub first_drops : (w : ℕ) (xs : List ℕ) → Drops (w ∷ xs) xs 0
first_drops w xs = record { low = λ i l. absurd (omega arith); high = λ i l. refl }

-- the first of a list and the others
pub first_others : (xs : List ℕ) (w : ℕ) → slice_get xs 0 ≡ Some w → xs ≡ w ∷ without w xs
first_others [] w h = cc
first_others (y ∷ ys) w h = let e : y ≡ w = grind arith in rw (e, without_first w ys) refl

pub empty_list : (xs : List ℕ) → slice_get xs 0 ≡ None → xs ≡ []
empty_list [] h = refl
empty_list (y ∷ ys) h = cc
