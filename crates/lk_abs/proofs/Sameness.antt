-- What the tests of names, holders and queues tell.
use Rattle.std.proofs.Common.{◌≡◌, ◌<◌, ℕ, List, Bool, true, false, Option, Some, None, length, get_or, refl, sym, ap, subst, ◌∙◌, inl, inr}
use Rattle.std.specs.List.{list_any, Contains}
use Rattle.std.proofs.lemmas.Bool.{and_parts, and_from, or_cases, or_parts, eqb-true, eq-eqb, false_from_ne_true, true≢false}
use Rattle.std.proofs.lemmas.List.Folds.{Any-from_list_any, list_any_at}
use Rattle.lk_names.specs.Names.{same_bool, same_lock, same_waiter}
use Rattle.lk_names.specs.History.{LockHistory, same_manner, is_hold, is_on}
use Rattle.lk_names.specs.declared.holder.Manner.{Manner}
use Rattle.lk_names.specs.declared.holder.Manner.TheVariants.{Spins, Reads, Writes}
use Rattle.lk_names.specs.declared.holder.Holder.{Holder}
use Rattle.lk_names.specs.Lawful.{Holds, HoldsSo, IsOutside}
use Rattle.lk_abs.specs.Breaches.{holds, holds_so, is_among, is_queued, is_waiter}
use Rattle.lk_names.specs.declared.names.Waiter.{Waiter}
use Rattle.lk_names.specs.declared.names.LockName.{LockName}

-- two names of one waiter are one name
pub waiter_from_parts : (a b : Waiter) → a.cpu ≡ b.cpu → a.ctx ≡ b.ctx → a ≡ b
waiter_from_parts a b p q = λ i. record { cpu = p i; ctx = q i }

pub same_waiter-true : (a b : Waiter) → same_waiter a b ≡ true → a ≡ b
same_waiter-true a b e = waiter_from_parts a b (eqb-true a.cpu b.cpu (and_parts _ _ e).0) (eqb-true a.ctx b.ctx (and_parts _ _ e).1)

pub same_waiter-refl : (a : Waiter) → same_waiter a a ≡ true
same_waiter-refl a = and_from _ _ (eq-eqb a.cpu a.cpu refl) (eq-eqb a.ctx a.ctx refl)

pub same_waiter-from : (a b : Waiter) → a ≡ b → same_waiter a b ≡ true
same_waiter-from a b e = subst (λ (c : Waiter). same_waiter a c ≡ true) e (same_waiter-refl a)

same_bool-true : (a b : Bool) → same_bool a b ≡ true → a ≡ b
same_bool-true true b e = sym e
same_bool-true false true e = absurd (true≢false (sym e))
same_bool-true false false e = refl

same_bool-refl : (a : Bool) → same_bool a a ≡ true
same_bool-refl true = refl
same_bool-refl false = refl

lock_from_parts : (a b : LockName) → a.index ≡ b.index → a.wait ≡ b.wait → a ≡ b
lock_from_parts a b p q = λ i. record { index = p i; wait = q i }

pub same_lock-true : (a b : LockName) → same_lock a b ≡ true → a ≡ b
same_lock-true a b e = lock_from_parts a b (eqb-true a.index b.index (and_parts _ _ e).0) (same_bool-true a.wait b.wait (and_parts _ _ e).1)

pub same_lock-refl : (a : LockName) → same_lock a a ≡ true
same_lock-refl a = and_from _ _ (eq-eqb a.index a.index refl) (same_bool-refl a.wait)

-- an event is on the lock that it names, and on no other
pub is_on-true : (l : LockName) (o : Option LockName) → is_on l o ≡ true → o ≡ Some l
is_on-true l None e = absurd (true≢false (sym e))
is_on-true l (Some k) e = ap Some (same_lock-true k l e)

pub is_on-from : (l : LockName) (o : Option LockName) → o ≡ Some l → is_on l o ≡ true
is_on-from l o e = subst (λ (p : Option LockName). is_on l p ≡ true) (sym e) (same_lock-refl l)

same_manner-true : (m n : Manner) → same_manner m n ≡ true → m ≡ n
same_manner-true Spins Spins e = refl
same_manner-true Reads Reads e = refl
same_manner-true Writes Writes e = refl
same_manner-true Spins Reads e = absurd (true≢false (sym e))
same_manner-true Spins Writes e = absurd (true≢false (sym e))
same_manner-true Reads Spins e = absurd (true≢false (sym e))
same_manner-true Reads Writes e = absurd (true≢false (sym e))
same_manner-true Writes Spins e = absurd (true≢false (sym e))
same_manner-true Writes Reads e = absurd (true≢false (sym e))

same_manner-refl : (m : Manner) → same_manner m m ≡ true
same_manner-refl Spins = refl
same_manner-refl Reads = refl
same_manner-refl Writes = refl

holder_from_parts : (x : Holder) (w : Waiter) (m : Manner) → x.waiter ≡ w → x.manner ≡ m → x ≡ record { waiter = w; manner = m }
holder_from_parts x w m p q = λ i. record { waiter = p i; manner = q i }

pub is_hold-true : (w : Waiter) (m : Manner) (x : Holder) → is_hold w m x ≡ true → x ≡ record { waiter = w; manner = m }
is_hold-true w m x e = holder_from_parts x w m (same_waiter-true x.waiter w (and_parts _ _ e).0) (same_manner-true x.manner m (and_parts _ _ e).1)

pub is_hold-refl : (w : Waiter) (m : Manner) → is_hold w m (record { waiter = w; manner = m }) ≡ true
is_hold-refl w m = and_from _ _ (same_waiter-refl w) (same_manner-refl m)

-- a test that passes x alone is met in a list exactly where the list has x
module _ {X : Type 0} (p : X → Bool) (x : X) (xs : List X) where
  pub Contains-from_test : ((y : X) → p y ≡ true → y ≡ x) → list_any p xs ≡ true → Contains xs x
  Contains-from_test only e =
      let found : (k : ℕ) × (y : X) × (k < length xs) × (get_or xs k y ≡ y) × (p y ≡ true) = Any-from_list_any p xs e in
      subst (λ (y : X). Contains xs y) (only found.1 found.4) (found.0, found.2, found.3)

  pub test-from_Contains : p x ≡ true → Contains xs x → list_any p xs ≡ true
  test-from_Contains passes has = list_any_at p xs has.0 x has.1 (subst (λ (y : X). p y ≡ true) (sym has.2) passes)

pub is_among-true : (us : List Waiter) (w : Waiter) → is_among us w ≡ true → Contains us w
is_among-true us w e = Contains-from_test (λ u. same_waiter u w) w us (λ u. same_waiter-true u w) e

pub is_among-from : (us : List Waiter) (w : Waiter) → Contains us w → is_among us w ≡ true
is_among-from us w has = test-from_Contains (λ u. same_waiter u w) w us (same_waiter-refl w) has

pub holds_so-true : (h : LockHistory) (w : Waiter) (m : Manner) → holds_so h w m ≡ true → HoldsSo h w m
holds_so-true h w m e = Contains-from_test (is_hold w m) (record { waiter = w; manner = m }) h.holders (is_hold-true w m) e

pub holds_so-from : (h : LockHistory) (w : Waiter) (m : Manner) → HoldsSo h w m → holds_so h w m ≡ true
holds_so-from h w m has = test-from_Contains (is_hold w m) (record { waiter = w; manner = m }) h.holders (is_hold-refl w m) has

pub holds-true : (h : LockHistory) (w : Waiter) → holds h w ≡ true → Holds h w
holds-true h w e =
    let found : (k : ℕ) × (y : Holder) × (k < length h.holders) × (get_or h.holders k y ≡ y) × (same_waiter y.waiter w ≡ true) = Any-from_list_any (λ x. same_waiter x.waiter w) h.holders e in
    (found.1.manner, subst (λ (y : Holder). Contains h.holders y) (holder_from_parts found.1 w found.1.manner (same_waiter-true found.1.waiter w found.4) refl) (found.0, found.2, found.3))

pub holds-from : (h : LockHistory) (w : Waiter) → Holds h w → holds h w ≡ true
holds-from h w has = test-from_Contains (λ x. same_waiter x.waiter w) (record { waiter = w; manner = has.0 }) h.holders (same_waiter-refl w) has.1

-- who stands in no queue
pub is_queued-false : (h : LockHistory) (w : Waiter) → is_queued h w ≡ false → IsOutside h w
is_queued-false h w e = (
  λ has. true≢false (sym (is_among-from h.main w has) ∙ (or_parts _ _ e).0),
  λ has. true≢false (sym (is_among-from h.second w has) ∙ (or_parts _ _ e).1),
)

pub is_queued-from : (h : LockHistory) (w : Waiter) → IsOutside h w → is_queued h w ≡ false
is_queued-from h w out =
    false_from_ne_true _
    (λ e. elim (or_cases _ _ e) [ inl main ↦ out.0 (is_among-true h.main w main) | inr second ↦ out.1 (is_among-true h.second w second) ])

pub is_waiter-true : (o : Option Waiter) (w : Waiter) → is_waiter o w ≡ true → o ≡ Some w
is_waiter-true None w e = absurd (true≢false (sym e))
is_waiter-true (Some u) w e = ap Some (same_waiter-true u w e)

pub is_waiter-from : (o : Option Waiter) (w : Waiter) → o ≡ Some w → is_waiter o w ≡ true
is_waiter-from o w e = subst (λ (p : Option Waiter). is_waiter p w ≡ true) (sym e) (same_waiter-refl w)
