-- The words of a new table are written; and its processors are dealt, one after another.
use Rattle.std.proofs.Common.{◌≡◌, ◌≢◌, inl, inr, ℕ, zero, suc, ◌+◌, ◌<◌, List, [], ◌∷◌, ◌++◌}
use Rattle.std.proofs.Common.{length, map, take, get_or, slice_get, set, Option, Some, sym, ap, ◌∙◌}
use Rattle.std.proofs.Common.{subst, arith, length-set, get_or-set_other, get_or-set_same}
use Rattle.std.proofs.lemmas.List.Sums.{sum_by-cons}
use Rattle.lk_domain.proofs.Names.{cases_eq, sum, no_calls, Slot, no_ledger, IsRunningPlan}
use Rattle.lk_domain.proofs.Names.{accounts_of, Stand, Key, lodged, dealer, view, balance_at}
use Rattle.lk_domain.proofs.Names.{words_of, Cpu, Domain, Journal, Plan, Entries}
use Rattle.atomic_table.specs.Table.{opening}
use Rattle.lk_domain.proofs.seats.Dealt.{starts}
use Rattle.lk_domain.specs.{Plans.room_of, Seats.{IsDealt, AreDealt}, Values.AreLaid}
use Rattle.lk_domain.specs.Words.{IsOpening}

-- what is read at a place
pub get_is : (xs : List ℕ) (n x : ℕ) → slice_get xs n ≡ Some x → x ≡ get_or xs n 0
get_is [] n x e = cc e
get_is (y ∷ ys) zero x e = let z : y ≡ x = cc e in sym z
get_is (y ∷ ys) (suc n) x e = get_is ys n x e

-- the sum of one element more
pub sum_more : (xs : List ℕ) (n : ℕ) → n < length xs
    → sum (take (n + 1) xs) ≡ sum (take n xs) + get_or xs n 0
sum_more [] n h = absurd (omega arith)
sum_more (x ∷ xs) zero h = sum_by-cons (λ y. y) x [] ∙ (let z : x + sum [] ≡ sum [] + x = omega arith in z)
sum_more (x ∷ xs) (suc n) h =
    omega (arith, sum_by-cons (λ y. y) x (take (n + 1) xs), sum_by-cons (λ y. y) x (take n xs), sum_more xs n (omega arith), taken)
  where
    taken : sum (take (suc n + 1) (x ∷ xs)) ≡ sum (x ∷ take (n + 1) xs)
    taken = let e : suc n + 1 ≡ suc (n + 1) = omega arith in ap (λ i. sum (take i (x ∷ xs))) e

-- so many balances of a new table are written
pub record IsOpened (k : Plan) (n : ℕ) (ws : List ℕ) : Type 0 where
  pub long : length ws ≡ words_of k
  pub balances : (a : ℕ) → a < n → get_or ws (balance_at k a) 0 ≡ get_or k.balances.items a 0
  pub zeros : (i : ℕ) → ((a : ℕ) → a < accounts_of k → i ≢ balance_at k a) → get_or ws i 0 ≡ 0

pub opened_more : (k : Plan) (n at x : ℕ) (ws : List ℕ) → IsRunningPlan k → IsOpened k n ws
    → n < accounts_of k → at ≡ balance_at k n → x ≡ get_or k.balances.items n 0
    → IsOpened k (n + 1) (set ws at x)
opened_more k n at x ws lawful o lt here is =
    let few = lawful.accounts in
    record {
      long = length-set ws at x ∙ o.long;
      balances = λ a h. elim (cases_eq a n) [
        | inl e ↦ ap (λ (i : ℕ). get_or (set ws at x) (balance_at k i) 0) e
            ∙ (ap (λ (i : ℕ). get_or (set ws at x) i 0) (sym here)
            ∙ (get_or-set_same ws at x 0 (omega (arith, o.long)) ∙ (is ∙ ap (λ (i : ℕ). get_or k.balances.items i 0) (sym e))))
        | inr ne ↦ get_or-set_other ws at (balance_at k a) x 0 (λ e. ne (omega arith)) ∙ o.balances a (omega arith)
      ];
      zeros = λ i none. get_or-set_other ws at i x 0 (λ e. none n lt (let z : i ≡ at = omega (arith, e) in z ∙ here)) ∙ o.zeros i none;
    }

-- the rule holds of a new table whose parts are known by equations
pub starts_at : (k : Plan) (ws vs : List ℕ) (xs : List Slot) (j : Journal) → IsRunningPlan k
    → IsOpening k ws → j.entries ≡ record { items = []; room = room_of k } → vs ≡ ws
    → (ks : List (Option Key)) → AreLaid k ks → xs ≡ Some (Entries j) ∷ map lodged ks
    → Stand k (opening vs xs (view (dealer k 0) no_calls no_ledger))
starts_at k ws vs xs j lawful opens empty words ks laid slots =
    subst (λ (z : List ℕ). Stand k (opening z xs (view (dealer k 0) no_calls no_ledger))) (sym words)
    (subst (λ (z : List Slot). Stand k (opening ws z (view (dealer k 0) no_calls no_ledger))) (sym slots)
    (starts k ws j lawful opens (ap (λ z. z.items) empty) (ap (λ z. z.room) empty) ks laid))

pub each_more : {A : Type 0} (P : ℕ → A → Type 0) (xs : List A) (x : A)
    → ((i : ℕ) (d : A) → i < length xs → P i (get_or xs i d)) → P (length xs) x
    → (i : ℕ) (d : A) → i < length (xs ++ x ∷ []) → P i (get_or (xs ++ x ∷ []) i d)
each_more P [] x h here zero d lt = here
each_more P [] x h here (suc i) d lt = absurd (omega arith)
each_more P (y ∷ ys) x h here zero d lt = h zero d (omega arith)
each_more P (y ∷ ys) x h here (suc i) d lt =
    each_more (λ j. P (suc j)) ys x (λ j e l. h (suc j) e (omega arith)) here i d (omega arith)

pub dealt_more : (domain : Domain) (xs ys : List Cpu) (n : ℕ) (x : Cpu) → ys ≡ xs ++ x ∷ []
    → length xs ≡ n → AreDealt domain xs → IsDealt domain n x → AreDealt domain ys
dealt_more domain xs ys n x e many h here =
    subst (AreDealt domain) (sym e)
    (each_more (IsDealt domain) xs x h (subst (λ (i : ℕ). IsDealt domain i x) (sym many) here))
