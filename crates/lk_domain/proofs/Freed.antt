-- What a release does to what its processor keeps.
use Rattle.std.proofs.Common.{◌≡◌, ◌≢◌, inl, inr, ℕ, List, [], ◌∷◌, length, Bool, true, false, eqb}
use Rattle.std.proofs.Common.{None, eq-eqb, refl, sym, ap, ◌∙◌, arith, if◌then◌else◌, ◌&&◌, not}
use Rattle.lk_domain.proofs.Names.{cases_Bool, Me, Fields, same_lock, LockName, Mode, Cna, Native}
use Rattle.lk_domain.proofs.Names.{Pv, Virt, U1, Verb, Unlock, if-false, if-true, if_cases}
use Rattle.lk_domain.proofs.Names.{not-true, same_lock-true, halts, Word, Calls, Hold, Outlook}
use Rattle.lk_domain.proofs.Names.{Running, are_calls, begin, free_of, holds_in, is_on, is_verb}
use Rattle.lk_domain.proofs.Names.{lock_name, mark, moved_to, row_of, row_on, sight_of, terms_of}
use Rattle.lk_domain.proofs.Names.{Slot, MadeBy, own_number, Plan, View}
use Rattle.lk_rows.specs.Programs.{is_release as is_unlocking}
use Rattle.lk_domain.proofs.Stacks.{and_parts}

-- who gives a lock back that was taken by whichever context holds nothing of it

pub released : (c l : ℕ) (hs : List Hold)
    → holds_in (free_of c (lock_name l) (moved_to c (lock_name l) hs)) l ≡ false
released c l [] = refl
released c l (h ∷ hs) = elim (cases_Bool (same_lock h.lock (lock_name l))) [
  | inl e ↦
      ap (λ (m : Hold). holds_in (free_of c (lock_name l) (m ∷ moved_to c (lock_name l) hs)) l)
      (if-true (same_lock h.lock (lock_name l)) (record h { ctx = c }) h e)
      ∙ (ap (λ (xs : List Hold). holds_in xs l)
      (if-true ((eqb c c) && same_lock h.lock (lock_name l)) (free_of c (lock_name l) (moved_to c (lock_name l) hs))
      (record h { ctx = c } ∷ free_of c (lock_name l) (moved_to c (lock_name l) hs)) (λ i. eq-eqb c c refl i && e i))
      ∙ released c l hs)
  | inr e ↦
      ap (λ (m : Hold). holds_in (free_of c (lock_name l) (m ∷ moved_to c (lock_name l) hs)) l)
      (if-false (same_lock h.lock (lock_name l)) (record h { ctx = c }) h e)
      ∙ (ap (λ (xs : List Hold). holds_in xs l)
      (if-false ((eqb h.ctx c) && same_lock h.lock (lock_name l)) (free_of c (lock_name l) (moved_to c (lock_name l) hs))
      (h ∷ free_of c (lock_name l) (moved_to c (lock_name l) hs)) (ap (λ b. (eqb h.ctx c) && b) e ∙ no (eqb h.ctx c)))
      ∙ (if-false (same_lock h.lock (lock_name l)) true (holds_in (free_of c (lock_name l) (moved_to c (lock_name l) hs)) l) e
      ∙ released c l hs))
]
  where
    no : (b : Bool) → (b && false) ≡ false
    no true = refl
    no false = refl

-- and leaves the other locks

pub moved_else : (k l x : ℕ) (hs : List Hold) → holds_in (moved_to k (lock_name l) hs) x ≡ holds_in hs x
moved_else k l x [] = refl
moved_else k l x (h ∷ hs) =
    if_cases (λ (g : Hold). (if same_lock g.lock (lock_name x) then true else holds_in (moved_to k (lock_name l) hs) x)
    ≡ (if same_lock h.lock (lock_name x) then true else holds_in hs x))
    (same_lock h.lock (lock_name l)) (record h { ctx = k }) h
    (λ _. ap (λ b. if same_lock h.lock (lock_name x) then true else b) (moved_else k l x hs))
    (λ _. ap (λ b. if same_lock h.lock (lock_name x) then true else b) (moved_else k l x hs))

names_differ : (l x : ℕ) → x ≢ l → same_lock (lock_name l) (lock_name x) ≡ false
names_differ l x ne =
    not-true (same_lock (lock_name l) (lock_name x))
    (λ q. ne (ap (λ (z : LockName). z.index) (sym (same_lock-true (lock_name l) (lock_name x) q))))

pub freed_else : (k l x : ℕ) (hs : List Hold) → x ≢ l
    → holds_in (free_of k (lock_name l) hs) x ≡ holds_in hs x
freed_else k l x [] ne = refl
freed_else k l x (h ∷ hs) ne =
    if_cases (λ (gs : List Hold). holds_in gs x ≡ holds_in (h ∷ hs) x) ((eqb h.ctx k) && same_lock h.lock (lock_name l))
    (free_of k (lock_name l) hs) (h ∷ free_of k (lock_name l) hs)
    (λ e. freed_else k l x hs ne ∙ sym (if-false (same_lock h.lock (lock_name x)) true (holds_in hs x)
    (ap (λ (n : LockName). same_lock n (lock_name x))
    (same_lock-true h.lock (lock_name l) (and_parts (eqb h.ctx k) (same_lock h.lock (lock_name l)) e).1)
    ∙ names_differ l x ne)))
    (λ _. ap (λ b. if same_lock h.lock (lock_name x) then true else b) (freed_else k l x hs ne))

-- no call that waits is a release
pub not_unlocking : (v : Verb) → is_unlocking v ≡ true → (rs : List Running) (l : ℕ) → are_calls rs ≡ true
    → is_on rs v l ≡ false
not_unlocking v u [] l h = refl
not_unlocking v u (r ∷ rs) l h = off (is_verb r.verb v) (is_unlocking r.verb) _ _ _ (same r.verb v u) h
  where
    off : (a e b c d : Bool) → (a ≡ true → e ≡ true) → (not e && b && c) ≡ true → (a && d) ≡ false
    off false e b c d s h = refl
    off true true b c d s h = absurd (cc h)
    off true false b c d s h = absurd (let z : false ≡ true = s refl in cc z)

    same : (w v : Verb) → is_unlocking v ≡ true → is_verb w v ≡ true → is_unlocking w ≡ true
    same w v u e = grind (arith, u, e)

pub not_on : (rs : List Running) (l : ℕ) → are_calls rs ≡ true → is_on rs Unlock l ≡ false
not_on = not_unlocking Unlock refl

-- a release is one step, where no processor halts
pub record Ends (old new : Calls) (l : ℕ) (x : Fields) : Type 0 where
  pub frames : new.frames ≡ old.frames
  pub holds : new.holds ≡ free_of (length old.frames) (lock_name l) (moved_to (length old.frames) (lock_name l) old.holds)
  pub taken : new.taken ≡ old.taken
  pub last : new.last ≡ mark U1 (Word x) 0 ∷ []

ends_by : (mode : Mode) → halts mode ≡ false → (p : ℕ) (z : Outlook) (old : Calls) (l : ℕ) (x : Fields)
    → Ends old (row_on mode p z (begin mode old Unlock l).frames (begin mode old Unlock l) (Word x)) l x
ends_by Virt h p z old l x = record { frames = refl; holds = refl; taken = refl; last = refl }
ends_by Native h p z old l x = record { frames = refl; holds = refl; taken = refl; last = refl }
ends_by Cna h p z old l x = record { frames = refl; holds = refl; taken = refl; last = refl }
ends_by Pv h p z old l x = absurd (cc h)

pub ends : (k : Plan) → halts k.mode ≡ false → (p : ℕ) (old : Calls) (l : ℕ) (x : Fields)
    → Ends old (row_of (terms_of k) p (begin k.mode old Unlock l) (Word x)) l x
ends k h p old l x = ends_by k.mode h p (sight_of (terms_of k) p None) old l x

module _ (l met : ℕ) (m n : Me Slot View) (made : MadeBy Unlock l m met n)
    (calm : are_calls m.0.calls.frames ≡ true) (awake : halts m.0.who.plan.mode ≡ false) where
  abbrev old : Calls
  old = m.0.calls

  abbrev c : ℕ
  c = length old.frames

  abbrev last : Calls
  last = row_of (terms_of m.0.who.plan) (own_number m.0.who.number) (begin m.0.who.plan.mode old Unlock l) (Word made.found)

  is : n.0.calls ≡ last
  is = ap (λ (x : Me Slot View). x.0.calls) made.seat
      ∙ ap (λ b. row_of (terms_of m.0.who.plan) (own_number m.0.who.number) (if b then old else begin m.0.who.plan.mode old Unlock l) (Word made.found))
      (not_on old.frames l calm)

  pub frames_are : n.0.calls.frames ≡ old.frames
  frames_are =
      ap (λ (x : Calls). x.frames) is
      ∙ (ends m.0.who.plan awake (own_number m.0.who.number) old l made.found).frames

  pub holds_are : n.0.calls.holds ≡ free_of c (lock_name l) (moved_to c (lock_name l) old.holds)
  holds_are =
      ap (λ (x : Calls). x.holds) is
      ∙ (ends m.0.who.plan awake (own_number m.0.who.number) old l made.found).holds

  pub none : holds_in n.0.calls.holds l ≡ false
  none = ap (λ (hs : List Hold). holds_in hs l) holds_are ∙ released c l old.holds

  pub other_holds : (x : ℕ) → x ≢ l → holds_in n.0.calls.holds x ≡ holds_in old.holds x
  other_holds x ne =
      ap (λ (hs : List Hold). holds_in hs x) holds_are
      ∙ (freed_else c l x (moved_to c (lock_name l) old.holds) ne ∙ moved_else c l x old.holds)
