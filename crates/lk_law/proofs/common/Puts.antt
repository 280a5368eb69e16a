-- What is read of a function that was changed at one name.
use Rattle.std.proofs.Common.{◌≡◌, ◌≢◌, ℕ, Bool, true, false, arith, refl, ◌==◌, if◌then◌else◌}
use Rattle.lk_law.proofs.Names.{eqb-true, NodeName, same_lock, same_waiter, LockName, Waiter, Node}
use Rattle.lk_law.proofs.Names.{Moves, Rewrites, same_node}
use Rattle.lk_law.proofs.common.Sames.{same_lock-self, same_lock-true, same_waiter-self}
use Rattle.lk_law.proofs.common.Sames.{same_waiter-true}

-- a choice has what both of its sides have
pub if_cases : {A : Type 0} (P : A → Type 0) (b : Bool) (x y : A) → (b ≡ true → P x)
    → (b ≡ false → P y) → P (if b then x else y)
if_cases P true x y h k = h refl
if_cases P false x y h k = k refl

pub if-true : {A : Type 0} (b : Bool) (x y : A) → b ≡ true → (if b then x else y) ≡ x
if-true true x y h = refl
if-true false x y h = cc

pub if-false : {A : Type 0} (b : Bool) (x y : A) → b ≡ false → (if b then x else y) ≡ y
if-false true x y h = cc
if-false false x y h = refl

pub not-true : (b : Bool) → (b ≡ true → ⊥) → b ≡ false
not-true true h = absurd (h refl)
not-true false h = refl

pub same_waiter-else : (a b : Waiter) → a ≢ b → same_waiter a b ≡ false
same_waiter-else a b ne = not-true (same_waiter a b) (λ h. ne (same_waiter-true a b h))

pub same_node-self : (n : NodeName) → same_node n n ≡ true
same_node-self n = grind arith

pub same_node-true : (a b : NodeName) → same_node a b ≡ true → a ≡ b
same_node-true a b h =
    let p : (a.cpu ≡ b.cpu) × (a.index ≡ b.index) = grind arith in
    (λ i. record { cpu = p.0 i; index = p.1 i })

pub same_node-else : (a b : NodeName) → a ≢ b → same_node a b ≡ false
same_node-else a b ne = not-true (same_node a b) (λ h. ne (same_node-true a b h))

pub same_lock-else : (a b : LockName) → a ≢ b → same_lock a b ≡ false
same_lock-else a b ne = not-true (same_lock a b) (λ h. ne (same_lock-true a b h))

-- one change of a function of waiters, of nodes, of locks, of numbers

pub put_moves : {A : Type 0} (f : Waiter → A) (w : Waiter) (x y : A) → f w ≡ x
    → Moves f (λ u. if same_waiter u w then y else f u) w x y
put_moves f w x y was =
    record {
      was = was;
      now = if-true (same_waiter w w) y (f w) (same_waiter-self w);
      others = λ u ne. if-false (same_waiter u w) y (f u) (same_waiter-else u w ne);
    }

pub put_rewrites : (f : NodeName → Node) (n : NodeName) (x : Node)
    → Rewrites f (λ k. if same_node k n then x else f k) n x
put_rewrites f n x =
    record {
      now = if-true (same_node n n) x (f n) (same_node-self n);
      others = λ k ne. if-false (same_node k n) x (f k) (same_node-else k n ne);
    }

pub put_word-here : {A : Type 0} (f : LockName → A) (l : LockName) (x : A)
    → (if same_lock l l then x else f l) ≡ x
put_word-here f l x = if-true (same_lock l l) x (f l) (same_lock-self l)

pub put_word-else : {A : Type 0} (f : LockName → A) (l k : LockName) (x : A) → k ≢ l
    → (if same_lock k l then x else f k) ≡ f k
put_word-else f l k x ne = if-false (same_lock k l) x (f k) (same_lock-else k l ne)

pub put_number-here : (f : ℕ → ℕ) (p i : ℕ) → (if p == p then i else f p) ≡ i
put_number-here f p i = grind arith

pub put_number-else : (f : ℕ → ℕ) (p q i : ℕ) → q ≢ p → (if q == p then i else f q) ≡ f q
put_number-else f p q i ne =
    if-false (q == p) i (f q) (not-true (q == p) (λ h. ne (eqb-true q p h)))

pub kept_true : (b c : Bool) → c ≡ true → (if b then true else c) ≡ true
kept_true true c h = refl
kept_true false c h = h
