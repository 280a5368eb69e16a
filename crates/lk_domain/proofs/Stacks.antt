-- What is read of a processor's calls.
use Rattle.std.proofs.Common.{◌≡◌, ◌≢◌, inl, inr, ℕ, ◌≤◌, List, [], ◌∷◌, length, Option, Some, None}
use Rattle.std.proofs.Common.{Bool, true, false, eqb, eq-eqb, eqb-true, ne_eqb, refl, sym, ap, ◌∙◌}
use Rattle.std.proofs.Common.{subst, arith, if◌then◌else◌, ◌&&◌}
use Rattle.lk_domain.proofs.Names.{cases_Bool, same_lock, Manner, LockName, if-false, if-true}
use Rattle.lk_domain.proofs.Names.{not-true, same_lock-else, same_lock-self, same_lock-true, Hold}
use Rattle.lk_domain.proofs.Names.{Running, Stacked, frame_in, free_of, held_in, holds_in}
use Rattle.lk_domain.proofs.Names.{lock_name, moved_to}

-- frames

pub frame_in-above : (rs : List Running) (c : ℕ) → Stacked rs → length rs ≤ c
    → frame_in rs c ≡ None
frame_in-above [] c s h = refl
frame_in-above (r ∷ rs) c s h =
    if-false (eqb c r.frame.ctx) (Some r.frame) (frame_in rs c)
    (ne_eqb c r.frame.ctx (λ e. omega (arith, s.0)))
    ∙ frame_in-above rs c s.1 (omega arith)

pub frame_in-top : (r : Running) (rs : List Running)
    → frame_in (r ∷ rs) r.frame.ctx ≡ Some r.frame
frame_in-top r rs =
    if-true (eqb r.frame.ctx r.frame.ctx) (Some r.frame) (frame_in rs r.frame.ctx)
    (eq-eqb r.frame.ctx r.frame.ctx refl)

-- Booleans

pub and_parts : (a b : Bool) → (a && b) ≡ true → (a ≡ true) × (b ≡ true)
and_parts true true h = (refl, refl)
and_parts true false h = cc
and_parts false b h = cc

pub and_false : (a b : Bool) → b ≡ false → (a && b) ≡ false
and_false true b e = e
and_false false b e = refl

pub and_true : (a b : Bool) → a ≡ true → b ≡ true → (a && b) ≡ true
and_true true b e f = f
and_true false b e f = cc

pub same_swap : (a b : LockName) → same_lock a b ≡ false → same_lock b a ≡ false
same_swap a b h =
    not-true (same_lock b a)
    (λ e. let s = same_lock-true b a e in
    let t : same_lock a b ≡ true = subst (λ (z : LockName). same_lock a z ≡ true) (sym s) (same_lock-self a) in
    grind (arith, h, t))

-- holds

-- a lock that is not held
pub unheld : (hs : List Hold) (d l : ℕ) → holds_in hs l ≡ false
    → held_in hs d (lock_name l) ≡ None
unheld [] d l h = refl
unheld (x ∷ hs) d l h =
    elim (cases_Bool (same_lock x.lock (lock_name l))) [
      | inl e ↦ let t : true ≡ false = sym (if-true (same_lock x.lock (lock_name l)) true (holds_in hs l) e) ∙ h in cc
      | inr e ↦
          if-false ((eqb d x.ctx) && same_lock (lock_name l) x.lock) (Some x.manner) (held_in hs d (lock_name l))
          (and_false (eqb d x.ctx) (same_lock (lock_name l) x.lock) (same_swap x.lock (lock_name l) e))
          ∙ unheld hs d l (sym (if-false (same_lock x.lock (lock_name l)) true (holds_in hs l) e) ∙ h)
    ]

-- one that is held, is by some context
pub holder_of : (hs : List Hold) (l : ℕ) → holds_in hs l ≡ true
    → (d : ℕ) × (m : Manner) × (held_in hs d (lock_name l) ≡ Some m)
holder_of [] l h = cc h
holder_of (x ∷ hs) l h =
    elim (cases_Bool (same_lock x.lock (lock_name l))) [
      | inl e ↦ let is = same_lock-true x.lock (lock_name l) e in (
        x.ctx,
        x.manner,
        if-true ((eqb x.ctx x.ctx) && same_lock (lock_name l) x.lock) (Some x.manner) (held_in hs x.ctx (lock_name l))
            (and_true (eqb x.ctx x.ctx) (same_lock (lock_name l) x.lock) (eq-eqb x.ctx x.ctx refl)
            (subst (λ (z : LockName). same_lock (lock_name l) z ≡ true) (sym is) (same_lock-self (lock_name l)))),
      )
      | inr e ↦ let r = holder_of hs l (sym (if-false (same_lock x.lock (lock_name l)) true (holds_in hs l) e) ∙ h) in (
        r.0,
        r.1,
        if-false ((eqb r.0 x.ctx) && same_lock (lock_name l) x.lock) (Some x.manner) (held_in hs r.0 (lock_name l))
            (and_false (eqb r.0 x.ctx) (same_lock (lock_name l) x.lock) (same_swap x.lock (lock_name l) e)) ∙ r.2,
      )
    ]

-- holds of other locks stay where those of one go to a context, or are given back

pub moved_lock : (c : ℕ) (l : LockName) (h : Hold)
    → (if same_lock h.lock l then record h { ctx = c } else h).lock ≡ h.lock
moved_lock c l h = by (same_lock h.lock l)
  where
    by : (b : Bool) → (if b then record h { ctx = c } else h).lock ≡ h.lock
    by true = refl
    by false = refl

-- one hold of a list, with a context and a manner
abbrev pub held_by : ℕ → LockName → Hold → Option Manner → Option Manner
held_by d k m y = if (eqb d m.ctx) && same_lock k m.lock then Some m.manner else y

pub moved-else : (c : ℕ) (l k : LockName) (hs : List Hold) (d : ℕ) → k ≢ l
    → held_in (moved_to c l hs) d k ≡ held_in hs d k
moved-else c l k [] d ne = refl
moved-else c l k (h ∷ hs) d ne =
    elim (cases_Bool (same_lock h.lock l)) [
      | inl e ↦
          let is = same_lock-true h.lock l e in
          let off : same_lock k h.lock ≡ false = same_lock-else k h.lock (λ q. ne (q ∙ is)) in
          let m : Hold = if same_lock h.lock l then record h { ctx = c } else h in
          let off' : same_lock k m.lock ≡ false = ap (same_lock k) (moved_lock c l h) ∙ off in
          if-false ((eqb d m.ctx) && same_lock k m.lock) (Some m.manner) (held_in (moved_to c l hs) d k)
          (and_false (eqb d m.ctx) (same_lock k m.lock) off')
          ∙ (moved-else c l k hs d ne
          ∙ sym (if-false ((eqb d h.ctx) && same_lock k h.lock) (Some h.manner) (held_in hs d k)
          (and_false (eqb d h.ctx) (same_lock k h.lock) off)))
      | inr e ↦
          let is : (if same_lock h.lock l then record h { ctx = c } else h) ≡ h =
          if-false (same_lock h.lock l) (record h { ctx = c }) h e in
          ap (λ (m : Hold). held_by d k m (held_in (moved_to c l hs) d k)) is
          ∙ ap (λ (x : Option Manner). held_by d k h x) (moved-else c l k hs d ne)
    ]

pub moved-away : (c : ℕ) (l : LockName) (hs : List Hold) (d : ℕ) → d ≢ c
    → held_in (moved_to c l hs) d l ≡ None
moved-away c l [] d ne = refl
moved-away c l (h ∷ hs) d ne =
    elim (cases_Bool (same_lock h.lock l)) [
      | inl e ↦
          let is : (if same_lock h.lock l then record h { ctx = c } else h) ≡ record h { ctx = c } =
          if-true (same_lock h.lock l) (record h { ctx = c }) h e in
          ap (λ (m : Hold). held_by d l m (held_in (moved_to c l hs) d l)) is
          ∙ (ap (λ b. if b && same_lock l h.lock then Some h.manner else held_in (moved_to c l hs) d l) (ne_eqb d c ne)
          ∙ moved-away c l hs d ne)
      | inr e ↦
          let is : (if same_lock h.lock l then record h { ctx = c } else h) ≡ h =
          if-false (same_lock h.lock l) (record h { ctx = c }) h e in
          ap (λ (m : Hold). held_by d l m (held_in (moved_to c l hs) d l)) is
          ∙ (if-false ((eqb d h.ctx) && same_lock l h.lock) (Some h.manner) (held_in (moved_to c l hs) d l)
          (and_false (eqb d h.ctx) (same_lock l h.lock) (same_swap h.lock l e)) ∙ moved-away c l hs d ne)
    ]

two_ifs : {A : Type 0} (x t : Bool) (a b c : A) → (x ≡ true → t ≡ true → ⊥)
    → (if x then a else (if t then b else c)) ≡ (if t then b else (if x then a else c))
two_ifs true true a b c h = absurd (h refl refl)
two_ifs true false a b c h = refl
two_ifs false true a b c h = refl
two_ifs false false a b c h = refl

if_twice : {A : Type 0} (b : Bool) (x y z : A)
    → (if b then x else z) ≡ (if b then x else (if b then y else z))
if_twice true x y z = refl
if_twice false x y z = refl

-- what is held after a context has given a lock back
pub freed : (c : ℕ) (l : LockName) (hs : List Hold) (d : ℕ) (k : LockName)
    → held_in (free_of c l hs) d k
    ≡ (if (eqb d c) && same_lock k l then None else held_in hs d k)
freed c l [] d k = by ((eqb d c) && same_lock k l)
  where
    by : (b : Bool) → ◌≡◌ {A = Option Manner} None (if b then None else None)
    by true = refl
    by false = refl
freed c l (h ∷ hs) d k =
    elim (cases_Bool ((eqb h.ctx c) && same_lock h.lock l)) [
      | inl e ↦
          let is = and_parts (eqb h.ctx c) (same_lock h.lock l) e in
          let at = eqb-true h.ctx c is.0 in
          let on = same_lock-true h.lock l is.1 in
          ap (λ (x : List Hold). held_in x d k)
          (if-true ((eqb h.ctx c) && same_lock h.lock l) (free_of c l hs) (h ∷ free_of c l hs) e)
          ∙ (freed c l hs d k
          ∙ (if_twice ((eqb d c) && same_lock k l) None (Some h.manner) (held_in hs d k)
          ∙ (λ i. if (eqb d c) && same_lock k l then None
          else (if (eqb d (sym at i)) && same_lock k (sym on i) then Some h.manner else held_in hs d k))))
      | inr e ↦
          let apart : ((eqb d h.ctx) && same_lock k h.lock) ≡ true → ((eqb d c) && same_lock k l) ≡ true → ⊥ =
          λ x t. let a = and_parts (eqb d h.ctx) (same_lock k h.lock) x in
          let b = and_parts (eqb d c) (same_lock k l) t in
          let ctx : h.ctx ≡ c = sym (eqb-true d h.ctx a.0) ∙ eqb-true d c b.0 in
          let lock : h.lock ≡ l = sym (same_lock-true k h.lock a.1) ∙ same_lock-true k l b.1 in
          let both = and_true (eqb h.ctx c) (same_lock h.lock l) (eq-eqb h.ctx c ctx)
          (subst (λ (z : LockName). same_lock h.lock z ≡ true) lock (same_lock-self h.lock)) in
          let no : true ≡ false = sym both ∙ e in cc in
          ap (λ (x : List Hold). held_in x d k)
          (if-false ((eqb h.ctx c) && same_lock h.lock l) (free_of c l hs) (h ∷ free_of c l hs) e)
          ∙ (ap (λ (x : Option Manner). held_by d k h x) (freed c l hs d k)
          ∙ two_ifs ((eqb d h.ctx) && same_lock k h.lock) ((eqb d c) && same_lock k l) (Some h.manner) None
          (held_in hs d k) apart)
    ]
