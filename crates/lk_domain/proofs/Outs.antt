-- A row leaves the values out that its processor has out, with holds that are still there.
use Rattle.std.proofs.Common.{◌≡◌, inl, inr, ℕ, List, [], ◌∷◌, Option, Some, None, Bool, true}
use Rattle.std.proofs.Common.{false, refl, sym, ap, ◌∙◌, if◌then◌else◌, ◌&&◌, ◌||◌, ◌==◌}
use Rattle.lk_domain.proofs.Names.{cases_Bool, same_lock, Manner, LockName, Mode, Verb, RUnlock}
use Rattle.lk_domain.proofs.Names.{Unlock, WUnlock, if-false, if-true, if_cases, same_lock-true}
use Rattle.lk_domain.proofs.Names.{Calls, Frees, Grip, Hold, Takes, Unchanged, acting, begin}
use Rattle.lk_domain.proofs.Names.{free_of, hold_in, holds_after, holds_in, is_on, lock_name}
use Rattle.lk_domain.proofs.Names.{moved_to, IsOutAt, IsOutWith, lock_of, out_in, Plan}
use Rattle.lk_domain.specs.Values.{IsReached}

-- a lock that is held in some way is held
pub hold_held : (hs : List Hold) (l : ℕ) (x : Manner × Bool) → hold_in hs l ≡ Some x → holds_in hs l ≡ true
hold_held [] l x e = absurd (let z : ⊥ = cc e in z)
hold_held (h ∷ hs) l x e = by (same_lock h.lock (lock_name l)) e (hold_held hs l x)
  where
    by : (b : Bool) → (if b then Some (h.manner, h.out) else hold_in hs l) ≡ Some x
        → (hold_in hs l ≡ Some x → holds_in hs l ≡ true) → (if b then true else holds_in hs l) ≡ true
    by true e r = refl
    by false e r = r e

-- a hold that moves to another context is the same else
pub moved_hold : (c : ℕ) (x : LockName) (hs : List Hold) (l : ℕ) → hold_in (moved_to c x hs) l ≡ hold_in hs l
moved_hold c x [] l = refl
moved_hold c x (h ∷ hs) l =
    by (same_lock h.lock x)
    ∙ ap (λ (o : Option (Manner × Bool)). if same_lock h.lock (lock_name l) then Some (h.manner, h.out) else o) (moved_hold c x hs l)
  where
    by : (b : Bool)
        → (if same_lock (if b then record h { ctx = c } else h).lock (lock_name l)
        then Some ((if b then record h { ctx = c } else h).manner, (if b then record h { ctx = c } else h).out) else hold_in (moved_to c x hs) l)
        ≡ (if same_lock h.lock (lock_name l) then Some (h.manner, h.out) else hold_in (moved_to c x hs) l)
    by true = refl
    by false = refl

-- and to free another lock leaves it
pub freed_hold : (c : ℕ) (x : LockName) (hs : List Hold) (l : ℕ) → same_lock x (lock_name l) ≡ false
    → hold_in (free_of c x hs) l ≡ hold_in hs l
freed_hold c x [] l off = refl
freed_hold c x (h ∷ hs) l off =
    elim (cases_Bool ((h.ctx == c) && same_lock h.lock x)) [
      | inl e ↦ ap (λ (ys : List Hold). hold_in ys l) (if-true ((h.ctx == c) && same_lock h.lock x) (free_of c x hs) (h ∷ free_of c x hs) e)
          ∙ (freed_hold c x hs l off
          ∙ sym (if-false (same_lock h.lock (lock_name l)) (Some (h.manner, h.out)) (hold_in hs l) (other h.lock e)))
      | inr e ↦ ap (λ (ys : List Hold). hold_in ys l) (if-false ((h.ctx == c) && same_lock h.lock x) (free_of c x hs) (h ∷ free_of c x hs) e)
          ∙ ap (λ (o : Option (Manner × Bool)). if same_lock h.lock (lock_name l) then Some (h.manner, h.out) else o) (freed_hold c x hs l off)
    ]
  where
    second : (a b : Bool) → (a && b) ≡ true → b ≡ true
    second true b e = e
    second false b e = cc e

    other : (j : LockName) → ((h.ctx == c) && same_lock j x) ≡ true → same_lock j (lock_name l) ≡ false
    other j e = ap (λ (z : LockName). same_lock z (lock_name l)) (same_lock-true j x (second (h.ctx == c) (same_lock j x) e)) ∙ off

-- the same of whether a value is out
pub moved_out : (c : ℕ) (x : LockName) (hs : List Hold) (l : ℕ) → out_in (moved_to c x hs) l ≡ out_in hs l
moved_out c x [] l = refl
moved_out c x (h ∷ hs) l =
    by (same_lock h.lock x)
    ∙ ap (λ (b : Bool). (same_lock h.lock (lock_name l) && h.out) || b) (moved_out c x hs l)
  where
    by : (b : Bool)
        → ((same_lock (if b then record h { ctx = c } else h).lock (lock_name l)
        && (if b then record h { ctx = c } else h).out) || out_in (moved_to c x hs) l)
        ≡ ((same_lock h.lock (lock_name l) && h.out) || out_in (moved_to c x hs) l)
    by true = refl
    by false = refl

-- to free a lock brings no value out
pub freed_out : (c : ℕ) (x : LockName) (hs : List Hold) (l : ℕ) → out_in hs l ≡ false → out_in (free_of c x hs) l ≡ false
freed_out c x [] l home = refl
freed_out c x (h ∷ hs) l home =
    let both = by (same_lock h.lock (lock_name l) && h.out) home in
    if_cases (λ (ys : List Hold). out_in ys l ≡ false) ((h.ctx == c) && same_lock h.lock x) (free_of c x hs) (h ∷ free_of c x hs)
    (λ _. freed_out c x hs l both.1)
    (λ _. ap (λ (b : Bool). b || out_in (free_of c x hs) l) both.0 ∙ freed_out c x hs l both.1)
  where
    by : (a : Bool) → (a || out_in hs l) ≡ false → (a ≡ false) × (out_in hs l ≡ false)
    by true e = cc e
    by false e = (refl, e)

-- what is not held has no value out
pub unheld_out : (hs : List Hold) (l : ℕ) → holds_in hs l ≡ false → out_in hs l ≡ false
unheld_out [] l e = refl
unheld_out (h ∷ hs) l e = by (same_lock h.lock (lock_name l)) e (unheld_out hs l)
  where
    by : (b : Bool) → (if b then true else holds_in hs l) ≡ false → (holds_in hs l ≡ false → out_in hs l ≡ false)
        → ((b && h.out) || out_in hs l) ≡ false
    by true e r = cc e
    by false e r = r e

-- the holds of a lock are the same, but for their contexts
pub record SameHolds (hs gs : List Hold) (l : ℕ) : Type 0 where
  pub hold : hold_in gs l ≡ hold_in hs l
  pub out : out_in gs l ≡ out_in hs l

-- a call that begins leaves all of them
pub acting_holds : (mode : Mode) (c : Calls) (v : Verb) (x l : ℕ) → SameHolds c.holds (acting mode c v x).holds l
acting_holds mode c v x l =
    if_cases (λ (y : Calls). SameHolds c.holds y.holds l) (is_on c.frames v x) c (begin mode c v x)
    (λ _. record { hold = refl; out = refl }) (λ _. by v)
  where
    by : (v : Verb) → SameHolds c.holds (begin mode c v x).holds l
    by Unlock = record { hold = moved_hold _ _ c.holds l; out = moved_out _ _ c.holds l }
    by RUnlock = record { hold = moved_hold _ _ c.holds l; out = moved_out _ _ c.holds l }
    by WUnlock = record { hold = moved_hold _ _ c.holds l; out = moved_out _ _ c.holds l }
    by _ = record { hold = refl; out = refl }

-- where the hold of a lock stays, a value that is out with it stays so
pub stays_out : (hs gs : List Hold) (l : ℕ) (m : Manner) → hold_in gs l ≡ hold_in hs l → IsOutWith l m hs → IsOutWith l m gs
stays_out hs gs l m same is = same ∙ is

-- holds with which each value stays out that was
abbrev pub KeepsOuts : List Hold → List Hold → Type 0
KeepsOuts hs gs = (l : ℕ) (m : Manner) → IsOutWith l m hs → IsOutWith l m gs

-- so it stays out with a hold that reaches it
pub outs_kept : (k : Plan) (q : ℕ) (number : Option ℕ) (hs gs : List Hold) → KeepsOuts hs gs
    → IsOutAt k q number hs → IsOutAt k q number gs
outs_kept k q number hs gs kept is =
    record { manner = is.manner; held = kept (lock_of k q) is.manner is.held; may = is.may }

-- who has a value out has the right to it
pub out_reached : (k : Plan) (q : ℕ) (number : Option ℕ) (hs : List Hold) → IsOutAt k q number hs → IsReached k q number hs
out_reached k q number hs is = record { manner = is.manner; out = true; held = is.held; may = is.may }

-- what two pairs that are there have in common
pair_is : (x y : Manner × Bool) → Some x ≡ Some y → x ≡ y
pair_is x y e = ap (λ (o : Option (Manner × Bool)). unwrap o) e
  where
    unwrap : Option (Manner × Bool) → Manner × Bool
    unwrap None = x
    unwrap (Some z) = z

-- and the hold says so
pub out_is : (hs : List Hold) (l : ℕ) (m : Manner) → IsOutWith l m hs → out_in hs l ≡ true
out_is [] l m is = absurd (let no = is in let z : ⊥ = cc no in z)
out_is (h ∷ hs) l m is = by (same_lock h.lock (lock_name l)) is (out_is hs l m)
  where
    by : (b : Bool) → (if b then Some (h.manner, h.out) else hold_in hs l) ≡ Some (m, true)
        → (hold_in hs l ≡ Some (m, true) → out_in hs l ≡ true)
        → ((b && h.out) || out_in hs l) ≡ true
    by true e r = ap (λ (x : Manner × Bool). x.1 || out_in hs l) (pair_is (h.manner, h.out) (m, true) e)
    by false e r = r e

-- A row takes what was not held, and frees a lock whose value is home: so the values that are out stay
-- out.
pub out_after : (g : Grip) (c n : ℕ) (x : LockName) (hs : List Hold) (l : ℕ) (m : Manner)
    → ((y : Manner) → g ≡ Takes y → holds_in hs x.index ≡ false)
    → (g ≡ Frees → x.wait ≡ false → out_in hs x.index ≡ false)
    → IsOutWith l m hs → IsOutWith l m (holds_after g c x n hs)
out_after Unchanged c n x hs l m fresh home is = is
out_after (Takes y) c n x hs l m fresh home is =
    elim (cases_Bool (same_lock x (lock_name l))) [
      | inl e ↦
          let free : holds_in hs l ≡ false = ap (λ (z : LockName). holds_in hs z.index) (sym (same_lock-true x (lock_name l) e)) ∙ fresh y refl in
          absurd (let no : true ≡ false = sym (hold_held hs l (m, true) is) ∙ free in let z : ⊥ = cc no in z)
      | inr off ↦ stays_out hs (holds_after (Takes y) c x n hs) l m
          (if-false (same_lock x (lock_name l)) (Some (y, false)) (hold_in hs l) off) is
    ]
out_after Frees c n x hs l m fresh home is =
    elim (cases_Bool (same_lock x (lock_name l))) [
      | inl e ↦
          let on = same_lock-true x (lock_name l) e in
          let shut : out_in hs l ≡ false =
          ap (λ (z : LockName). out_in hs z.index) (sym on) ∙ home refl (ap (λ (z : LockName). z.wait) on) in
          absurd (let no : true ≡ false = sym (out_is hs l m is) ∙ shut in let z : ⊥ = cc no in z)
      | inr off ↦ stays_out hs (holds_after Frees c x n hs) l m (freed_hold c x hs l off) is
    ]
