-- Tests of names.
use Rattle.std.proofs.Common.{◌≡◌, Bool, true, false, arith, refl}
use Rattle.lk_law.proofs.Names.{same_lock, same_waiter, LockName, Waiter}
use Rattle.lk_names.specs.Names.{same_bool}

pub same_lock-self : (l : LockName) → same_lock l l ≡ true
same_lock-self l = grind (arith, bool_self l.wait)
  where
    bool_self : (b : Bool) → same_bool b b ≡ true
    bool_self true = refl
    bool_self false = refl

same_bool-true : (a b : Bool) → same_bool a b ≡ true → a ≡ b
same_bool-true true true h = refl
same_bool-true false false h = refl
same_bool-true true false h = cc
same_bool-true false true h = cc

pub same_lock-true : (a b : LockName) → same_lock a b ≡ true → a ≡ b
same_lock-true a b h =
    let p : (a.index ≡ b.index) × (same_bool a.wait b.wait ≡ true) = grind arith in
    let q = same_bool-true a.wait b.wait p.1 in
    (λ i. record { index = p.0 i; wait = q i })

pub same_waiter-self : (w : Waiter) → same_waiter w w ≡ true
same_waiter-self w = grind arith

pub same_waiter-true : (u w : Waiter) → same_waiter u w ≡ true → u ≡ w
same_waiter-true u w h =
    let p : (u.cpu ≡ w.cpu) × (u.ctx ≡ w.ctx) = grind arith in
    let a = p.0 in let b = p.1 in
    (λ i. record { cpu = a i; ctx = b i })
