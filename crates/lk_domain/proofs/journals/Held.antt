-- How often lock 0 is held.
use Rattle.std.proofs.Common.{◌≡◌, inl, inr, ℕ, ◌+◌, ◌≤◌, List, [], ◌∷◌, Option, Some, None, Bool}
use Rattle.std.proofs.Common.{true, false, eqb, eq-eqb, refl, sym, ap, ◌∙◌, subst, arith}
use Rattle.std.proofs.Common.{if◌then◌else◌, ◌&&◌, ◌==◌}
use Rattle.lk_domain.proofs.Names.{cases_Bool, same_lock, Manner, Reads, Kind, LockName, if-false}
use Rattle.lk_domain.proofs.Names.{if-true, same_lock-self, same_lock-true, AreHeld, Hold, free_of}
use Rattle.lk_domain.proofs.Names.{held_in, holds_in, lock_name, moved_to, any_count, sole_count}
use Rattle.lk_domain.proofs.Stacks.{and_true, and_false, same_swap, unheld}
use Rattle.lk_domain.specs.Keeps.{is_sole}

-- a lock that is not held is held no times
pub any_none : (hs : List Hold) → holds_in hs 0 ≡ false → any_count hs ≡ 0
any_none [] h = refl
any_none (x ∷ hs) h = by (same_lock x.lock (lock_name 0)) h (any_none hs)
  where
    by : (b : Bool) → (if b then true else holds_in hs 0) ≡ false
        → (holds_in hs 0 ≡ false → any_count hs ≡ 0) → (if b then 1 else 0) + any_count hs ≡ 0
    by true h r = cc h
    by false h r = let z = r h in omega arith

-- one that is held once is held
pub any_some : (hs : List Hold) → 1 ≤ any_count hs → holds_in hs 0 ≡ true
any_some [] h = absurd (omega arith)
any_some (x ∷ hs) h = by (same_lock x.lock (lock_name 0)) h (any_some hs)
  where
    by : (b : Bool) → 1 ≤ (if b then 1 else 0) + any_count hs
        → (1 ≤ any_count hs → holds_in hs 0 ≡ true) → (if b then true else holds_in hs 0) ≡ true
    by true h r = refl
    by false h r = r (omega arith)

-- who holds it alone holds it
pub sole_le : (hs : List Hold) → sole_count hs ≤ any_count hs
sole_le [] = omega arith
sole_le (x ∷ hs) = by (same_lock x.lock (lock_name 0)) (is_sole x.manner) (sole_le hs)
  where
    by : (a b : Bool) → sole_count hs ≤ any_count hs
        → (if a && b then 1 else 0) + sole_count hs ≤ (if a then 1 else 0) + any_count hs
    by true true r = omega arith
    by true false r = omega arith
    by false b r = omega arith

-- the others do not have a lock that one of them is
none_else : (kind : ℕ → Kind) (x : Hold) (hs : List Hold) → AreHeld kind (x ∷ hs)
    → same_lock x.lock (lock_name 0) ≡ true → holds_in hs 0 ≡ false
none_else kind x hs are e =
    let on = same_lock-true x.lock (lock_name 0) e in
    ap (λ (z : LockName). holds_in hs z.index) (sym on) ∙ are.2 (ap (λ (z : LockName). z.wait) on)

-- it is held once
pub any_once : (kind : ℕ → Kind) (hs : List Hold) → AreHeld kind hs → any_count hs ≤ 1
any_once kind [] are = omega arith
any_once kind (x ∷ hs) are =
    elim (cases_Bool (same_lock x.lock (lock_name 0))) [
      | inl e ↦ let none = any_none hs (none_else kind x hs are e) in
          let bit : ◌≡◌ {A = ℕ} (if same_lock x.lock (lock_name 0) then 1 else 0) 1 = ap (λ b. if b then 1 else 0) e in omega (arith, none, bit)
      | inr e ↦ let rest = any_once kind hs are.3 in
          let bit : ◌≡◌ {A = ℕ} (if same_lock x.lock (lock_name 0) then 1 else 0) 0 = ap (λ b. if b then 1 else 0) e in omega (arith, rest, bit)
    ]

-- the hold of the one that holds it alone
pub sole_some : (kind : ℕ → Kind) (hs : List Hold) → AreHeld kind hs → 1 ≤ sole_count hs
    → (d : ℕ) × (m : Manner) × (held_in hs d (lock_name 0) ≡ Some m) × (is_sole m ≡ true)
sole_some kind [] are h = absurd (omega arith)
sole_some kind (x ∷ hs) are h =
    elim (cases_Bool (same_lock x.lock (lock_name 0))) [
      | inl e ↦
          let on = same_lock-true x.lock (lock_name 0) e in
          let few : sole_count hs ≤ 0 = let z = sole_le hs in let n = any_none hs (none_else kind x hs are e) in omega (arith, z, n) in (
            x.ctx,
            x.manner,
            if-true ((eqb x.ctx x.ctx) && same_lock (lock_name 0) x.lock) (Some x.manner) (held_in hs x.ctx (lock_name 0))
                (and_true (eqb x.ctx x.ctx) (same_lock (lock_name 0) x.lock) (eq-eqb x.ctx x.ctx refl)
                (subst (λ (z : LockName). same_lock (lock_name 0) z ≡ true) (sym on) (same_lock-self (lock_name 0)))),
            mine (same_lock x.lock (lock_name 0)) (is_sole x.manner) h few,
          )
      | inr e ↦
          let bit : ◌≡◌ {A = ℕ} (if same_lock x.lock (lock_name 0) && is_sole x.manner then 1 else 0) 0 = ap (λ b. if b && is_sole x.manner then 1 else 0) e in
          let r = sole_some kind hs are.3 (omega (arith, h, bit)) in (
            r.0,
            r.1,
            if-false ((eqb r.0 x.ctx) && same_lock (lock_name 0) x.lock) (Some x.manner) (held_in hs r.0 (lock_name 0))
                (and_false (eqb r.0 x.ctx) (same_lock (lock_name 0) x.lock) (same_swap x.lock (lock_name 0) e)) ∙ r.2,
            r.3,
          )
    ]
  where
    mine : (a b : Bool) → 1 ≤ (if a && b then 1 else 0) + sole_count hs → sole_count hs ≤ 0 → b ≡ true
    mine a true h few = refl
    mine true false h few = absurd (omega (arith, h, few))
    mine false false h few = absurd (omega (arith, h, few))

-- who holds it as a reader does not hold it alone
pub reads_sole : (kind : ℕ → Kind) (hs : List Hold) (d : ℕ) → AreHeld kind hs
    → held_in hs d (lock_name 0) ≡ Some Reads → sole_count hs ≡ 0
reads_sole kind [] d are h = refl
reads_sole kind (x ∷ hs) d are h =
    elim (cases_Bool (same_lock x.lock (lock_name 0))) [
      | inl e ↦
          let none = none_else kind x hs are e in
          let few = sole_le hs in
          let zero = any_none hs none in
          let way : x.manner ≡ Reads = mine ((eqb d x.ctx) && same_lock (lock_name 0) x.lock) (held_in hs d (lock_name 0)) h (unheld hs d 0 none) in
          let bit : ◌≡◌ {A = ℕ} (if same_lock x.lock (lock_name 0) && is_sole x.manner then 1 else 0) 0 =
          (λ i. if e i && is_sole (way i) then 1 else 0) in
          omega (arith, few, zero, bit)
      | inr e ↦
          let bit : ◌≡◌ {A = ℕ} (if same_lock x.lock (lock_name 0) && is_sole x.manner then 1 else 0) 0 = ap (λ b. if b && is_sole x.manner then 1 else 0) e in
          let rest = reads_sole kind hs d are.3
          (sym (if-false ((eqb d x.ctx) && same_lock (lock_name 0) x.lock) (Some x.manner) (held_in hs d (lock_name 0))
          (and_false (eqb d x.ctx) (same_lock (lock_name 0) x.lock) (same_swap x.lock (lock_name 0) e))) ∙ h) in
          omega (arith, rest, bit)
    ]
  where
    mine : (b : Bool) (o : Option Manner) → (if b then Some x.manner else o) ≡ Some Reads → o ≡ None → x.manner ≡ Reads
    mine true o h e = grind (arith, h)
    mine false o h e = absurd (let z : None ≡ Some Reads = sym e ∙ h in cc z)

-- to move a hold changes no count
pub moved_any : (c : ℕ) (l : LockName) (hs : List Hold) → any_count (moved_to c l hs) ≡ any_count hs
moved_any c l [] = refl
moved_any c l (h ∷ hs) =
    ap (λ (n : ℕ). (if same_lock (if same_lock h.lock l then record h { ctx = c } else h).lock (lock_name 0) then 1 else 0) + n) (moved_any c l hs)
    ∙ by (same_lock h.lock l)
  where
    by : (b : Bool)
        → (if same_lock (if b then record h { ctx = c } else h).lock (lock_name 0) then 1 else 0) + any_count hs
        ≡ (if same_lock h.lock (lock_name 0) then 1 else 0) + any_count hs
    by true = refl
    by false = refl

pub moved_sole : (c : ℕ) (l : LockName) (hs : List Hold) → sole_count (moved_to c l hs) ≡ sole_count hs
moved_sole c l [] = refl
moved_sole c l (h ∷ hs) =
    ap (λ (n : ℕ). (if same_lock (if same_lock h.lock l then record h { ctx = c } else h).lock (lock_name 0) && is_sole (if same_lock h.lock l then record h { ctx = c } else h).manner then 1 else 0) + n) (moved_sole c l hs)
    ∙ by (same_lock h.lock l)
  where
    by : (b : Bool)
        → (if same_lock (if b then record h { ctx = c } else h).lock (lock_name 0) && is_sole (if b then record h { ctx = c } else h).manner then 1 else 0) + sole_count hs
        ≡ (if same_lock h.lock (lock_name 0) && is_sole h.manner then 1 else 0) + sole_count hs
    by true = refl
    by false = refl

-- nor to free another lock
pub free_any : (c : ℕ) (l : LockName) (hs : List Hold) → same_lock l (lock_name 0) ≡ false
    → any_count (free_of c l hs) ≡ any_count hs
free_any c l [] off = refl
free_any c l (h ∷ hs) off =
    elim (cases_Bool ((h.ctx == c) && same_lock h.lock l)) [
      | inl e ↦ ap any_count (if-true ((h.ctx == c) && same_lock h.lock l) (free_of c l hs) (h ∷ free_of c l hs) e)
          ∙ (free_any c l hs off
          ∙ (let z = other h.lock e in let q : ◌≡◌ {A = ℕ} (if same_lock h.lock (lock_name 0) then 1 else 0) 0 = ap (λ b. if b then 1 else 0) z in omega (arith, q)))
      | inr e ↦ ap any_count (if-false ((h.ctx == c) && same_lock h.lock l) (free_of c l hs) (h ∷ free_of c l hs) e)
          ∙ ap (λ (n : ℕ). (if same_lock h.lock (lock_name 0) then 1 else 0) + n) (free_any c l hs off)
    ]
  where
    other : (j : LockName) → ((h.ctx == c) && same_lock j l) ≡ true → same_lock j (lock_name 0) ≡ false
    other j e =
        let is = same_lock-true j l (second (h.ctx == c) (same_lock j l) e) in
        ap (λ (z : LockName). same_lock z (lock_name 0)) is ∙ off
      where
        second : (a b : Bool) → (a && b) ≡ true → b ≡ true
        second true b e = e
        second false b e = cc e

pub free_sole : (c : ℕ) (l : LockName) (hs : List Hold) → same_lock l (lock_name 0) ≡ false
    → sole_count (free_of c l hs) ≡ sole_count hs
free_sole c l [] off = refl
free_sole c l (h ∷ hs) off =
    elim (cases_Bool ((h.ctx == c) && same_lock h.lock l)) [
      | inl e ↦ ap sole_count (if-true ((h.ctx == c) && same_lock h.lock l) (free_of c l hs) (h ∷ free_of c l hs) e)
          ∙ (free_sole c l hs off
          ∙ (let z = other h.lock e in let q : ◌≡◌ {A = ℕ} (if same_lock h.lock (lock_name 0) && is_sole h.manner then 1 else 0) 0 = ap (λ b. if b && is_sole h.manner then 1 else 0) z in omega (arith, q)))
      | inr e ↦ ap sole_count (if-false ((h.ctx == c) && same_lock h.lock l) (free_of c l hs) (h ∷ free_of c l hs) e)
          ∙ ap (λ (n : ℕ). (if same_lock h.lock (lock_name 0) && is_sole h.manner then 1 else 0) + n) (free_sole c l hs off)
    ]
  where
    other : (j : LockName) → ((h.ctx == c) && same_lock j l) ≡ true → same_lock j (lock_name 0) ≡ false
    other j e =
        let is = same_lock-true j l (second (h.ctx == c) (same_lock j l) e) in
        ap (λ (z : LockName). same_lock z (lock_name 0)) is ∙ off
      where
        second : (a b : Bool) → (a && b) ≡ true → b ≡ true
        second true b e = e
        second false b e = cc e
