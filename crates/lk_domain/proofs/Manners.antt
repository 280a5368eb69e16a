-- How a processor holds its locks: each in a manner of its kind, and each but wait locks once.
use Rattle.std.proofs.Common.{◌≡◌, ◌≢◌, ◌⊎◌, inl, inr, ℕ, ◌<◌, ◌≤◌, List, [], ◌∷◌, Option, Some}
use Rattle.std.proofs.Common.{None, Bool, true, false, eqb, eq-eqb, eqb-true, ne_eqb, refl, sym, ap}
use Rattle.std.proofs.Common.{◌∙◌, subst, arith, if◌then◌else◌, ◌&&◌, not}
use Rattle.lk_domain.proofs.Names.{cases_Bool, same_lock, Manner, Reads, Spins, Writes, Kind}
use Rattle.lk_domain.proofs.Names.{LockName, Frame, Pc, Verb, if-false, if-true, not-true}
use Rattle.lk_domain.proofs.Names.{same_lock-self, same_lock-true, is_rw_name, AreFresh, AreHeld}
use Rattle.lk_domain.proofs.Names.{Frees, Grip, Hold, Mark, Running, Suits, Takes, Unchanged}
use Rattle.lk_domain.proofs.Names.{frames_after, free_of, held_in, hold, holds_after, holds_in}
use Rattle.lk_domain.proofs.Names.{is_seeking, lock_name, moved_to, waits_in, way_in}
use Rattle.lk_domain.proofs.Stacks.{and_parts, moved_lock, held_by, unheld}
use Rattle.lk_domain.specs.Calls.{is_spun}

spun_is : (m : Manner) → is_spun m ≡ true → m ≡ Spins
spun_is Spins h = refl
spun_is Reads h = cc h
spun_is Writes h = cc h

-- a lock of this name that is no reader-writer lock is held as a spinlock
pub suits_spun : (kind : ℕ → Kind) (l : LockName) (m : Manner) → is_rw_name kind l ≡ false → Suits kind l m → m ≡ Spins
suits_spun kind l m off h = spun_is m (h ∙ ap not off)

-- one hold of a list, by what is true of all of them
pub held_cases : (kind : ℕ → Kind) (hs : List Hold) (d : ℕ) (k : LockName) → AreHeld kind hs
    → is_rw_name kind k ≡ false → (held_in hs d k ≡ None) ⊎ (held_in hs d k ≡ Some Spins)
held_cases kind [] d k are off = inl refl
held_cases kind (h ∷ hs) d k are off =
    elim (cases_Bool ((eqb d h.ctx) && same_lock k h.lock)) [
      | inl e ↦
          let is = same_lock-true k h.lock (and_parts (eqb d h.ctx) (same_lock k h.lock) e).1 in
          inr (if-true ((eqb d h.ctx) && same_lock k h.lock) (Some h.manner) (held_in hs d k) e
          ∙ ap Some (suits_spun kind h.lock h.manner (ap (is_rw_name kind) (sym is) ∙ off) are.1))
      | inr e ↦
          let skip = if-false ((eqb d h.ctx) && same_lock k h.lock) (Some h.manner) (held_in hs d k) e in
          elim (held_cases kind hs d k are.3 off) [ inl n ↦ inl (skip ∙ n) | inr s ↦ inr (skip ∙ s) ]
    ]

pub held_spun : (kind : ℕ → Kind) (hs : List Hold) (d : ℕ) (k : LockName) (m : Manner) → AreHeld kind hs
    → is_rw_name kind k ≡ false → held_in hs d k ≡ Some m → held_in hs d k ≡ Some Spins
held_spun kind hs d k m are off h =
    elim (held_cases kind hs d k are off) [ inl e ↦ absurd (let z : Some m ≡ None = sym h ∙ e in cc z) | inr e ↦ e ]

self_held : (c : ℕ) (b : Bool) (m : Manner) (y : Option Manner) → b ≡ true → m ≡ Spins
    → (if (eqb c c) && b then Some m else y) ≡ Some Spins
self_held c true m y e spun = ap (λ a. if a && true then Some m else y) (eq-eqb c c refl) ∙ ap Some spun
self_held c false m y e spun = cc e

-- a spinlock that is held, is by a context to which its holds go
pub moved-here : (kind : ℕ → Kind) (c l : ℕ) (hs : List Hold) → AreHeld kind hs
    → is_rw_name kind (lock_name l) ≡ false → holds_in hs l ≡ true
    → held_in (moved_to c (lock_name l) hs) c (lock_name l) ≡ Some Spins
moved-here kind c l [] are off h = cc h
moved-here kind c l (x ∷ hs) are off h =
    let k = lock_name l in
    elim (cases_Bool (same_lock x.lock k)) [
      | inl e ↦
          let on = same_lock-true x.lock k e in
          let is : (if same_lock x.lock k then record x { ctx = c } else x) ≡ record x { ctx = c } =
          if-true (same_lock x.lock k) (record x { ctx = c }) x e in
          ap (λ (m : Hold). held_by c k m (held_in (moved_to c k hs) c k)) is
          ∙ self_held c (same_lock k x.lock) x.manner (held_in (moved_to c k hs) c k)
          (subst (λ (z : LockName). same_lock k z ≡ true) (sym on) (same_lock-self k))
          (suits_spun kind x.lock x.manner (ap (is_rw_name kind) on ∙ off) are.1)
      | inr e ↦
          let is : (if same_lock x.lock k then record x { ctx = c } else x) ≡ x =
          if-false (same_lock x.lock k) (record x { ctx = c }) x e in
          let rest = moved-here kind c l hs are.3 off (sym (if-false (same_lock x.lock k) true (holds_in hs l) e) ∙ h) in
          ap (λ (m : Hold). held_by c k m (held_in (moved_to c k hs) c k)) is
          ∙ (if-false ((eqb c x.ctx) && same_lock k x.lock) (Some x.manner) (held_in (moved_to c k hs) c k)
          (Rattle.lk_domain.proofs.Stacks.and_false (eqb c x.ctx) (same_lock k x.lock)
          (Rattle.lk_domain.proofs.Stacks.same_swap x.lock k e))
          ∙ rest)
    ]

-- the first hold of a list, where it is of the lock, and where it is of another

held_first : (x : Hold) (hs : List Hold) (d l : ℕ) → same_lock x.lock (lock_name l) ≡ true
    → held_in (x ∷ hs) d (lock_name l) ≡ (if eqb d x.ctx then Some x.manner else held_in hs d (lock_name l))
held_first x hs d l e =
    let on : same_lock (lock_name l) x.lock ≡ true =
    subst (λ (z : LockName). same_lock (lock_name l) z ≡ true) (sym (same_lock-true x.lock (lock_name l) e)) (same_lock-self (lock_name l)) in
    by (eqb d x.ctx) (same_lock (lock_name l) x.lock) on
  where
    by : (a b : Bool) → b ≡ true
        → (if a && b then Some x.manner else held_in hs d (lock_name l)) ≡ (if a then Some x.manner else held_in hs d (lock_name l))
    by true true e = refl
    by true false e = cc e
    by false b e = refl

held_skip : (x : Hold) (hs : List Hold) (d l : ℕ) → same_lock x.lock (lock_name l) ≡ false
    → held_in (x ∷ hs) d (lock_name l) ≡ held_in hs d (lock_name l)
held_skip x hs d l e =
    if-false ((eqb d x.ctx) && same_lock (lock_name l) x.lock) (Some x.manner) (held_in hs d (lock_name l))
    (Rattle.lk_domain.proofs.Stacks.and_false (eqb d x.ctx) (same_lock (lock_name l) x.lock)
    (Rattle.lk_domain.proofs.Stacks.same_swap x.lock (lock_name l) e))

-- a lock that is held in this manner, is by some context
pub way_of : (hs : List Hold) (l : ℕ) (m : Manner) → way_in hs l ≡ Some m
    → (d : ℕ) × (held_in hs d (lock_name l) ≡ Some m)
way_of [] l m h = cc h
way_of (x ∷ hs) l m h = elim (cases_Bool (same_lock x.lock (lock_name l))) [
  | inl e ↦ (
    x.ctx,
    held_first x hs x.ctx l e
        ∙ (if-true (eqb x.ctx x.ctx) (Some x.manner) (held_in hs x.ctx (lock_name l)) (eq-eqb x.ctx x.ctx refl)
        ∙ (sym (if-true (same_lock x.lock (lock_name l)) (Some x.manner) (way_in hs l) e) ∙ h)),
  )
  | inr e ↦
      let r = way_of hs l m (sym (if-false (same_lock x.lock (lock_name l)) (Some x.manner) (way_in hs l) e) ∙ h) in
      (r.0, held_skip x hs r.0 l e ∙ r.1)
]

-- and by no other
pub held_once : (kind : ℕ → Kind) (hs : List Hold) (l d e : ℕ) (m : Manner) → AreHeld kind hs
    → held_in hs d (lock_name l) ≡ Some m → e ≢ d → held_in hs e (lock_name l) ≡ None
held_once kind [] l d e m are h ne = refl
held_once kind (x ∷ hs) l d e m are h ne = elim (cases_Bool (same_lock x.lock (lock_name l))) [
  | inl on ↦
      let is = same_lock-true x.lock (lock_name l) on in
      let once : holds_in hs l ≡ false =
      ap (λ (z : LockName). holds_in hs z.index) (sym is) ∙ are.2 (ap (λ (z : LockName). z.wait) is) in
      let at : d ≡ x.ctx = elim (cases_Bool (eqb d x.ctx)) [
        | inl i ↦ eqb-true d x.ctx i
        | inr i ↦
            let z : None ≡ Some m =
            sym (held_first x hs d l on ∙ (if-false (eqb d x.ctx) (Some x.manner) (held_in hs d (lock_name l)) i ∙ unheld hs d l once)) ∙ h in
            absurd (cc z)
      ] in
      held_first x hs e l on
      ∙ (if-false (eqb e x.ctx) (Some x.manner) (held_in hs e (lock_name l)) (ne_eqb e x.ctx (λ q. ne (q ∙ sym at))) ∙ unheld hs e l once)
  | inr off ↦ held_skip x hs e l off ∙ held_once kind hs l d e m are.3 (sym (held_skip x hs d l off) ∙ h) ne
]

-- the context to which holds go holds the lock as it was held
pub moved_way : (c l : ℕ) (hs : List Hold) → held_in (moved_to c (lock_name l) hs) c (lock_name l) ≡ way_in hs l
moved_way c l [] = refl
moved_way c l (x ∷ hs) =
    let k = lock_name l in
    elim (cases_Bool (same_lock x.lock k)) [
      | inl e ↦
          ap (λ (m : Hold). held_in (m ∷ moved_to c k hs) c k) (if-true (same_lock x.lock k) (record x { ctx = c }) x e)
          ∙ (held_first (record x { ctx = c }) (moved_to c k hs) c l e
          ∙ (if-true (eqb c c) (Some x.manner) (held_in (moved_to c k hs) c k) (eq-eqb c c refl)
          ∙ sym (if-true (same_lock x.lock k) (Some x.manner) (way_in hs l) e)))
      | inr e ↦
          ap (λ (m : Hold). held_in (m ∷ moved_to c k hs) c k) (if-false (same_lock x.lock k) (record x { ctx = c }) x e)
          ∙ (held_skip x (moved_to c k hs) c l e
          ∙ (moved_way c l hs ∙ sym (if-false (same_lock x.lock k) (Some x.manner) (way_in hs l) e)))
    ]

-- which locks are held

-- to move holds to a context changes nothing of it
pub moved_names : (c : ℕ) (l : LockName) (hs : List Hold) (x : ℕ) → holds_in (moved_to c l hs) x ≡ holds_in hs x
moved_names c l [] x = refl
moved_names c l (h ∷ hs) x =
    (λ i. if same_lock (moved_lock c l h i) (lock_name x) then true else moved_names c l hs x i)

-- what is not held is not held after a lock was given back
pub free_names : (c : ℕ) (l : LockName) (hs : List Hold) (x : ℕ) → holds_in hs x ≡ false
    → holds_in (free_of c l hs) x ≡ false
free_names c l [] x h = refl
free_names c l (y ∷ hs) x h =
    elim (cases_Bool (same_lock y.lock (lock_name x))) [
      | inl e ↦ absurd (let z : true ≡ false = sym (if-true (same_lock y.lock (lock_name x)) true (holds_in hs x) e) ∙ h in cc z)
      | inr e ↦
          let rest = free_names c l hs x (sym (if-false (same_lock y.lock (lock_name x)) true (holds_in hs x) e) ∙ h) in
          by ((eqb y.ctx c) && same_lock y.lock l) e rest
    ]
  where
    by : (b : Bool) → same_lock y.lock (lock_name x) ≡ false → holds_in (free_of c l hs) x ≡ false
        → holds_in (if b then free_of c l hs else y ∷ free_of c l hs) x ≡ false
    by true e r = r
    by false e r = if-false (same_lock y.lock (lock_name x)) true (holds_in (free_of c l hs) x) e ∙ r

-- where a context holds a lock that is held once, its holds are that context's already
pub moved_same : (kind : ℕ → Kind) (c l : ℕ) (m : Manner) (hs : List Hold) → AreHeld kind hs
    → held_in hs c (lock_name l) ≡ Some m → moved_to c (lock_name l) hs ≡ hs
moved_same kind c l m [] are h = cc h
moved_same kind c l m (x ∷ hs) are h =
    let k = lock_name l in
    elim (cases_Bool (same_lock x.lock k)) [
      | inl e ↦
          let on = same_lock-true x.lock k e in
          let once : holds_in hs l ≡ false =
          ap (λ (z : LockName). holds_in hs z.index) (sym on) ∙ are.2 (ap (λ (z : LockName). z.wait) on) in
          let at : c ≡ x.ctx = elim (cases_Bool (eqb c x.ctx)) [
            | inl i ↦ eqb-true c x.ctx i
            | inr i ↦ absurd (let z : None ≡ Some m = sym (if-false ((eqb c x.ctx) && same_lock k x.lock) (Some x.manner) (held_in hs c k)
                (ap (λ b. b && same_lock k x.lock) i) ∙ unheld hs c l once) ∙ h in cc z)
          ] in
          let here : (if same_lock x.lock k then record x { ctx = c } else x) ≡ x =
          if-true (same_lock x.lock k) (record x { ctx = c }) x e ∙ ap (λ (z : ℕ). record x { ctx = z }) at in
          (λ i. here i ∷ untouched c l hs once i)
      | inr e ↦
          let here : (if same_lock x.lock k then record x { ctx = c } else x) ≡ x =
          if-false (same_lock x.lock k) (record x { ctx = c }) x e in
          let rest = moved_same kind c l m hs are.3
          (sym (if-false ((eqb c x.ctx) && same_lock k x.lock) (Some x.manner) (held_in hs c k)
          (Rattle.lk_domain.proofs.Stacks.and_false (eqb c x.ctx) (same_lock k x.lock)
          (Rattle.lk_domain.proofs.Stacks.same_swap x.lock k e))) ∙ h) in
          (λ i. here i ∷ rest i)
    ]
  where
    untouched : (c l : ℕ) (hs : List Hold) → holds_in hs l ≡ false → moved_to c (lock_name l) hs ≡ hs
    untouched c l [] h = refl
    untouched c l (x ∷ hs) h =
        elim (cases_Bool (same_lock x.lock (lock_name l))) [
          | inl e ↦ absurd (let z : true ≡ false = sym (if-true (same_lock x.lock (lock_name l)) true (holds_in hs l) e) ∙ h in cc z)
          | inr e ↦
              let here : (if same_lock x.lock (lock_name l) then record x { ctx = c } else x) ≡ x =
              if-false (same_lock x.lock (lock_name l)) (record x { ctx = c }) x e in
              let rest = untouched c l hs (sym (if-false (same_lock x.lock (lock_name l)) true (holds_in hs l) e) ∙ h) in
              (λ i. here i ∷ rest i)
        ]

-- and how

pub moved_held : (kind : ℕ → Kind) (c : ℕ) (l : LockName) (hs : List Hold) → c < 6 → AreHeld kind hs
    → AreHeld kind (moved_to c l hs)
moved_held kind c l [] low are = tt
moved_held kind c l (x ∷ hs) low are = by (same_lock x.lock l) (moved_held kind c l hs low are.3)
  where
    once : x.lock.wait ≡ false → holds_in (moved_to c l hs) x.lock.index ≡ false
    once h = moved_names c l hs x.lock.index ∙ are.2 h

    by : (b : Bool) → AreHeld kind (moved_to c l hs)
        → AreHeld kind ((if b then record x { ctx = c } else x) ∷ moved_to c l hs)
    by true rest = (low, are.1, once, rest)
    by false rest = (are.0, are.1, once, rest)

pub free_held : (kind : ℕ → Kind) (c : ℕ) (l : LockName) (hs : List Hold) → AreHeld kind hs
    → AreHeld kind (free_of c l hs)
free_held kind c l [] are = tt
free_held kind c l (x ∷ hs) are = by ((eqb x.ctx c) && same_lock x.lock l) (free_held kind c l hs are.3)
  where
    by : (b : Bool) → AreHeld kind (free_of c l hs)
        → AreHeld kind (if b then free_of c l hs else x ∷ free_of c l hs)
    by true rest = rest
    by false rest = (are.0, are.1, λ h. free_names c l hs x.lock.index (are.2 h), rest)

-- after a row of a context that takes only what suits it
pub after_held : (kind : ℕ → Kind) (y : Grip) (d : ℕ) (l : LockName) (n : ℕ) (hs : List Hold) → d < 6
    → ((m : Manner) → y ≡ Takes m → Suits kind l m × (l.wait ≡ false → holds_in hs l.index ≡ false))
    → AreHeld kind hs → AreHeld kind (holds_after y d l n hs)
after_held kind Unchanged d l n hs low e are = are
after_held kind (Takes m) d l n hs low e are = let x = e m refl in (low, x.0, x.1, are)
after_held kind Frees d l n hs low e are = free_held kind d l hs are

-- what is held by a context, is by one of six
pub held_low : (kind : ℕ → Kind) (hs : List Hold) (d : ℕ) (k : LockName) (m : Manner) → AreHeld kind hs
    → held_in hs d k ≡ Some m → d < 6
held_low kind [] d k m are h = cc h
held_low kind (x ∷ hs) d k m are h =
    elim (cases_Bool ((eqb d x.ctx) && same_lock k x.lock)) [
      | inl e ↦ let at = eqb-true d x.ctx (and_parts (eqb d x.ctx) (same_lock k x.lock) e).0 in
          let low = are.0 in omega (arith, at)
      | inr e ↦ held_low kind hs d k m are.3
          (sym (if-false ((eqb d x.ctx) && same_lock k x.lock) (Some x.manner) (held_in hs d k) e) ∙ h)
    ]

pub held_above : (kind : ℕ → Kind) (hs : List Hold) (d : ℕ) (k : LockName) → AreHeld kind hs → 6 ≤ d
    → held_in hs d k ≡ None
held_above kind hs d k are high = by (held_in hs d k) refl
  where
    by : (o : Option Manner) → held_in hs d k ≡ o → held_in hs d k ≡ None
    by None e = e
    by (Some m) e = let low = held_low kind hs d k m are e in absurd (omega (arith, low, high))

-- who waits for locks does not hold them

-- whether one of the calls waits for a lock
waits_here : (r : Running) (rs : List Running) → waits_in (r ∷ rs) r.frame.lock.index ≡ true
waits_here r rs = if-true (eqb r.frame.lock.index r.frame.lock.index) true (waits_in rs r.frame.lock.index) (eq-eqb r.frame.lock.index r.frame.lock.index refl)

waits_more : (r : Running) (rs : List Running) (x : ℕ) → waits_in rs x ≡ true → waits_in (r ∷ rs) x ≡ true
waits_more r rs x h = by (eqb r.frame.lock.index x)
  where
    by : (b : Bool) → (if b then true else waits_in rs x) ≡ true
    by true = refl
    by false = h

-- they stay so where no lock for which one waits is taken
pub fresh_kept : (rs : List Running) (hs gs : List Hold)
    → ((x : ℕ) → waits_in rs x ≡ true → holds_in hs x ≡ false → holds_in gs x ≡ false)
    → AreFresh rs hs → AreFresh rs gs
fresh_kept [] hs gs e are = tt
fresh_kept (r ∷ rs) hs gs e are = (
  λ h. let a = are.0 h in (e r.frame.lock.index (waits_here r rs) a.0, a.1),
  fresh_kept rs hs gs (λ x w. e x (waits_more r rs x w)) are.1,
)

-- no hold of another lock is one of this
hold_else : (l : LockName) (x : ℕ) → (l.wait ≡ false → l.index ≢ x) → same_lock l (lock_name x) ≡ false
hold_else l x ne =
    not-true (same_lock l (lock_name x))
    (λ h. let e = same_lock-true l (lock_name x) h in
    ne (ap (λ (z : LockName). z.wait) e) (ap (λ (z : LockName). z.index) e))

-- the others stay so after a row on a lock for which they do not wait
after_others : (rs : List Running) (y : Grip) (d : ℕ) (l : LockName) (n : ℕ) (hs : List Hold)
    → ((m : Manner) → y ≡ Takes m → l.wait ≡ false → waits_in rs l.index ≡ false)
    → AreFresh rs hs → AreFresh rs (holds_after y d l n hs)
after_others rs Unchanged d l n hs e are = are
after_others rs (Takes m) d l n hs e are =
    fresh_kept rs hs (hold d l m n ∷ hs)
    (λ x w h. if-false (same_lock l (lock_name x)) true (holds_in hs x)
    (hold_else l x (λ plain q. let z : true ≡ false = sym w ∙ (ap (waits_in rs) (sym q) ∙ e m refl plain) in cc z)) ∙ h)
    are
after_others rs Frees d l n hs e are = fresh_kept rs hs (free_of d l hs) (λ x w h. free_names d l hs x h) are

-- the calls after a row: s says whether its frame waited before, and q is its place after it
pub after_fresh : (verb : Verb) (g : Frame) (t : List Mark) (rs : List Running) (q : Option Pc) (y : Grip) (d : ℕ)
    (l : LockName) (n : ℕ) (hs : List Hold) (s : Bool) → g.place ≡ q → g.lock.index ≡ l.index
    → (s ≡ true → (holds_in hs l.index ≡ false) × (waits_in rs l.index ≡ false))
    → (s ≡ false → is_seeking q ≡ false)
    → ((m : Manner) → y ≡ Takes m → s ≡ true)
    → ((m : Manner) → y ≡ Takes m → l.wait ≡ false → is_seeking q ≡ false)
    → AreFresh rs hs → AreFresh (frames_after verb g t rs q) (holds_after y d l n hs)
after_fresh verb g t rs None y d l n hs s place index was ends seeks over are =
    after_others rs y d l n hs (λ m e plain. (was (seeks m e)).1) are
after_fresh verb g t rs (Some c) y d l n hs s place index was ends seeks over are = (
  λ h. let a = was (still (sym (ap is_seeking place) ∙ h) s refl) in (
    ap (holds_in (holds_after y d l n hs)) index ∙ unheld_yet y refl (sym (ap is_seeking place) ∙ h) a.0,
    ap (waits_in rs) index ∙ a.1,
  ),
  after_others rs y d l n hs (λ m e plain. (was (seeks m e)).1) are,
)
  where
    still : is_seeking (Some c) ≡ true → (b : Bool) → s ≡ b → s ≡ true
    still h true e = e
    still h false e = absurd (let z : true ≡ false = sym h ∙ ends e in cc z)

    unheld_yet : (z : Grip) → y ≡ z → is_seeking (Some c) ≡ true → holds_in hs l.index ≡ false
        → holds_in (holds_after z d l n hs) l.index ≡ false
    unheld_yet Unchanged e h off = off
    unheld_yet (Takes m) e h off =
        if-false (same_lock l (lock_name l.index)) true (holds_in hs l.index)
        (hold_else l l.index (λ plain _. let w : true ≡ false = sym h ∙ over m e plain in cc w)) ∙ off
    unheld_yet Frees e h off = free_names d l hs l.index off
