-- Sums over the frames of all processors, and what they become where one frame changes.
use Rattle.std.proofs.Common.{◌≡◌, ◌≢◌, inl, inr, ℕ, zero, suc, ◌<◌, ◌≤◌, ◌+◌, ◌*◌, refl, sym, ap}
use Rattle.std.proofs.Common.{subst, arith}
use Rattle.lk_progress.proofs.Names.{cases_eq, Waiter, sum_below}

pub sum_same : (n : ℕ) (F G : ℕ → ℕ) → ((i : ℕ) → i < n → G i ≡ F i) → sum_below n G ≡ sum_below n F
sum_same zero F G same = refl
sum_same (suc n) F G same =
    let h = sum_same n F G (λ i lt. same i (omega (arith, lt))) in
    let e = same n (omega arith) in
    omega (arith, h, e)

-- one of them is less, and the others are the same
pub sum_less : (n : ℕ) (F G : ℕ → ℕ) (k : ℕ) → k < n → G k < F k → ((i : ℕ) → i ≢ k → G i ≡ F i)
    → sum_below n G < sum_below n F
sum_less zero F G k lt less same = absurd (omega (arith, lt))
sum_less (suc n) F G k lt less same =
    elim (cases_eq k n) [
      | inl e ↦
          let h = sum_same n F G (λ i low. same i (λ q. (let z = q in omega (arith, z, e, low)))) in
          let d : G n < F n = subst (λ (i : ℕ). G i < F i) e less in
          omega (arith, h, d)
      | inr ne ↦
          let h = sum_less n F G k (let z = ne in grind (arith, z, lt)) less same in
          let e = same n (λ q. ne (sym q)) in
          omega (arith, h, e)
    ]

-- one of them changes
pub sum_more : (n : ℕ) (F G : ℕ → ℕ) (k : ℕ) → k < n → ((i : ℕ) → i ≢ k → G i ≡ F i)
    → sum_below n G + F k ≡ sum_below n F + G k
sum_more zero F G k lt same = absurd (omega (arith, lt))
sum_more (suc n) F G k lt same =
    elim (cases_eq k n) [
      | inl e ↦
          let h = sum_same n F G (λ i low. same i (λ q. (let z = q in omega (arith, z, e, low)))) in
          let a = ap F e in
          let b = ap G e in
          omega (arith, h, a, b)
      | inr ne ↦
          let h = sum_more n F G k (let z = ne in grind (arith, z, lt)) same in
          let e = same n (λ q. ne (sym q)) in
          omega (arith, h, e)
    ]

-- each is at most so many
pub six_most : (k : ℕ) (F : ℕ → ℕ) → ((i : ℕ) → F i ≤ k) → sum_below 6 F ≤ 6 * k
six_most k F most =
    let a = most 0 in
    let b = most 1 in
    let c = most 2 in
    let d = most 3 in
    let e = most 4 in
    let f = most 5 in
    omega (arith, a, b, c, d, e, f)

pub sum_most : (n k : ℕ) (F : ℕ → ℕ) → ((i : ℕ) → F i ≤ k) → sum_below n F ≤ n * k
sum_most zero k F most = omega arith
sum_most (suc n) k F most = let h = sum_most n k F most in let e = most n in omega (arith, h, e)

-- the sum of a number of each of the six frames of so many processors
abbrev pub total : ℕ → (Waiter → ℕ) → ℕ
total n F = sum_below n (λ p. sum_below 6 (λ c. F (record { cpu = p; ctx = c })))

pub total_same : (n : ℕ) (F G : Waiter → ℕ) → ((u : Waiter) → G u ≡ F u) → total n G ≡ total n F
total_same n F G same =
    sum_same n (λ p. sum_below 6 (λ c. F (record { cpu = p; ctx = c }))) (λ p. sum_below 6 (λ c. G (record { cpu = p; ctx = c })))
    (λ p lt. sum_same 6 (λ c. F (record { cpu = p; ctx = c })) (λ c. G (record { cpu = p; ctx = c })) (λ c low. same (record { cpu = p; ctx = c })))

-- that of one frame is less, and those of the others are the same
pub total_less : (n : ℕ) (F G : Waiter → ℕ) (w : Waiter) → w.cpu < n → w.ctx < 6 → G w < F w
    → ((u : Waiter) → u ≢ w → G u ≡ F u) → total n G < total n F
total_less n F G w within low less same =
    sum_less n (λ p. sum_below 6 (λ c. F (record { cpu = p; ctx = c }))) (λ p. sum_below 6 (λ c. G (record { cpu = p; ctx = c })))
    w.cpu within
    (sum_less 6 (λ c. F (record { cpu = w.cpu; ctx = c })) (λ c. G (record { cpu = w.cpu; ctx = c })) w.ctx low less
    (λ c ne. same (record { cpu = w.cpu; ctx = c }) (λ e. ne (ap (λ (v : Waiter). v.ctx) e))))
    (λ p ne. sum_same 6 (λ c. F (record { cpu = p; ctx = c })) (λ c. G (record { cpu = p; ctx = c }))
    (λ c lt. same (record { cpu = p; ctx = c }) (λ e. ne (ap (λ (v : Waiter). v.cpu) e))))

-- a product is less by one factor at least where the other factor is less
pub times_less : (k a b : ℕ) → a < b → a * k + k ≤ b * k
times_less k a zero lt = absurd (omega (arith, lt))
times_less k zero (suc b) lt = omega arith
times_less k (suc a) (suc b) lt = let h = times_less k a b (omega (arith, lt)) in omega (arith, h)

-- none is more
pub sum_most_of : (n : ℕ) (F G : ℕ → ℕ) → ((i : ℕ) → G i ≤ F i) → sum_below n G ≤ sum_below n F
sum_most_of zero F G le = omega arith
sum_most_of (suc n) F G le = let h = sum_most_of n F G le in let e = le n in omega (arith, h, e)

-- one of them is less, and none is more
pub sum_fall : (n : ℕ) (F G : ℕ → ℕ) (k : ℕ) → k < n → G k < F k → ((i : ℕ) → G i ≤ F i) → sum_below n G < sum_below n F
sum_fall zero F G k lt less le = absurd (omega (arith, lt))
sum_fall (suc n) F G k lt less le =
    elim (cases_eq k n) [
      | inl e ↦
          let h = sum_most_of n F G le in
          let d : G n < F n = subst (λ (i : ℕ). G i < F i) e less in
          omega (arith, h, d)
      | inr ne ↦
          let h = sum_fall n F G k (let z = ne in grind (arith, z, lt)) less le in
          let e = le n in
          omega (arith, h, e)
    ]

pub total_fall : (n : ℕ) (F G : Waiter → ℕ) (w : Waiter) → w.cpu < n → w.ctx < 6 → G w < F w → ((u : Waiter) → G u ≤ F u)
    → total n G < total n F
total_fall n F G w within low less le =
    sum_fall n (λ p. sum_below 6 (λ c. F (record { cpu = p; ctx = c }))) (λ p. sum_below 6 (λ c. G (record { cpu = p; ctx = c })))
    w.cpu within
    (sum_fall 6 (λ c. F (record { cpu = w.cpu; ctx = c })) (λ c. G (record { cpu = w.cpu; ctx = c })) w.ctx low less
    (λ c. le (record { cpu = w.cpu; ctx = c })))
    (λ p. sum_most_of 6 (λ c. F (record { cpu = p; ctx = c })) (λ c. G (record { cpu = p; ctx = c })) (λ c. le (record { cpu = p; ctx = c })))
