-- The holds of a processor, where the value of a lock goes out with a hold, or comes home: the same but
-- for that.
use Rattle.std.proofs.Common.{◌≡◌, ◌≢◌, ◌⊎◌, inl, inr, ℕ, ◌+◌, List, [], ◌∷◌, Option, Some, None}
use Rattle.std.proofs.Common.{Bool, true, false, refl, sym, ap, ◌∙◌, if◌then◌else◌, ◌&&◌, ◌==◌}
use Rattle.lk_domain.proofs.Names.{cases_Bool, same_lock, Manner, Kind, LockName, if-false, if-true}
use Rattle.lk_domain.proofs.Names.{not-true, same_lock-true, AreFresh, AreHeld, Calls, Hold}
use Rattle.lk_domain.proofs.Names.{Running, held_in, hold_in, holds_in, lock_name, way_in}
use Rattle.lk_domain.proofs.Names.{any_count, sole_count, IsNoted, IsOutWith, lock_of, marked_out}
use Rattle.lk_domain.proofs.Names.{Notes, Plan}
use Rattle.lk_domain.proofs.turns.Marks.{mark_same}
use Rattle.lk_domain.specs.Values.{IsReached, is_sole}

-- a hold with the mark, at the head or further on
marked_by : Bool → Bool → Hold → List Hold → List Hold → List Hold
marked_by true b h hs ms = record h { out = b } ∷ hs
marked_by false b h hs ms = h ∷ ms

-- what does not look at the mark is the same

pub mark_held : (l : ℕ) (b : Bool) (hs : List Hold) (c : ℕ) (n : LockName) → held_in (marked_out l b hs) c n ≡ held_in hs c n
mark_held l b [] c n = refl
mark_held l b (h ∷ hs) c n = by (same_lock h.lock (lock_name l)) (mark_held l b hs c n)
  where
    by : (x : Bool) → held_in (marked_out l b hs) c n ≡ held_in hs c n
        → held_in (if x then record h { out = b } ∷ hs else h ∷ marked_out l b hs) c n
        ≡ (if (c == h.ctx) && same_lock n h.lock then Some h.manner else held_in hs c n)
    by true e = refl
    by false e = ap (λ (o : Option Manner). if (c == h.ctx) && same_lock n h.lock then Some h.manner else o) e

pub mark_holds : (l : ℕ) (b : Bool) (hs : List Hold) (x : ℕ) → holds_in (marked_out l b hs) x ≡ holds_in hs x
mark_holds l b [] x = refl
mark_holds l b (h ∷ hs) x = by (same_lock h.lock (lock_name l)) (mark_holds l b hs x)
  where
    by : (y : Bool) → holds_in (marked_out l b hs) x ≡ holds_in hs x
        → holds_in (if y then record h { out = b } ∷ hs else h ∷ marked_out l b hs) x
        ≡ (if same_lock h.lock (lock_name x) then true else holds_in hs x)
    by true e = refl
    by false e = ap (λ (o : Bool). if same_lock h.lock (lock_name x) then true else o) e

pub mark_way : (l : ℕ) (b : Bool) (hs : List Hold) (x : ℕ) → way_in (marked_out l b hs) x ≡ way_in hs x
mark_way l b [] x = refl
mark_way l b (h ∷ hs) x = by (same_lock h.lock (lock_name l)) (mark_way l b hs x)
  where
    by : (y : Bool) → way_in (marked_out l b hs) x ≡ way_in hs x
        → way_in (if y then record h { out = b } ∷ hs else h ∷ marked_out l b hs) x
        ≡ (if same_lock h.lock (lock_name x) then Some h.manner else way_in hs x)
    by true e = refl
    by false e = ap (λ (o : Option Manner). if same_lock h.lock (lock_name x) then Some h.manner else o) e

pub mark_any : (l : ℕ) (b : Bool) (hs : List Hold) → any_count (marked_out l b hs) ≡ any_count hs
mark_any l b [] = refl
mark_any l b (h ∷ hs) = by (same_lock h.lock (lock_name l)) (mark_any l b hs)
  where
    by : (y : Bool) → any_count (marked_out l b hs) ≡ any_count hs
        → any_count (if y then record h { out = b } ∷ hs else h ∷ marked_out l b hs)
        ≡ (if same_lock h.lock (lock_name 0) then 1 else 0) + any_count hs
    by true e = refl
    by false e = ap (λ (n : ℕ). (if same_lock h.lock (lock_name 0) then 1 else 0) + n) e

pub mark_sole : (l : ℕ) (b : Bool) (hs : List Hold) → sole_count (marked_out l b hs) ≡ sole_count hs
mark_sole l b [] = refl
mark_sole l b (h ∷ hs) = by (same_lock h.lock (lock_name l)) (mark_sole l b hs)
  where
    by : (y : Bool) → sole_count (marked_out l b hs) ≡ sole_count hs
        → sole_count (if y then record h { out = b } ∷ hs else h ∷ marked_out l b hs)
        ≡ (if same_lock h.lock (lock_name 0) && is_sole h.manner then 1 else 0) + sole_count hs
    by true e = refl
    by false e = ap (λ (n : ℕ). (if same_lock h.lock (lock_name 0) && is_sole h.manner then 1 else 0) + n) e

-- so they are held as they were, and nobody who waits for a lock has it
pub mark_are : (kind : ℕ → Kind) (l : ℕ) (b : Bool) (hs : List Hold) → AreHeld kind hs → AreHeld kind (marked_out l b hs)
mark_are kind l b [] are = are
mark_are kind l b (h ∷ hs) are = by (same_lock h.lock (lock_name l)) (mark_are kind l b hs are.3)
  where
    by : (y : Bool) → AreHeld kind (marked_out l b hs)
        → AreHeld kind (if y then record h { out = b } ∷ hs else h ∷ marked_out l b hs)
    by true e = are
    by false e = (are.0, are.1, (λ plain. mark_holds l b hs h.lock.index ∙ are.2 plain), e)

pub mark_fresh : (l : ℕ) (b : Bool) (rs : List Running) (hs : List Hold) → AreFresh rs hs → AreFresh rs (marked_out l b hs)
mark_fresh l b [] hs fresh = fresh
mark_fresh l b (r ∷ rs) hs fresh = (
  λ seeks. let f = fresh.0 seeks in (mark_holds l b hs r.frame.lock.index ∙ f.0, f.1),
  mark_fresh l b rs hs fresh.1,
)

-- two locks
apart_name : (x l : ℕ) → x ≢ l → same_lock (lock_name l) (lock_name x) ≡ false
apart_name x l ne =
    not-true (same_lock (lock_name l) (lock_name x))
    (λ e. ne (sym (ap (λ (n : LockName). n.index) (same_lock-true (lock_name l) (lock_name x) e))))

-- the hold of another lock is the same
pub mark_else : (l : ℕ) (b : Bool) (hs : List Hold) (x : ℕ) → x ≢ l → hold_in (marked_out l b hs) x ≡ hold_in hs x
mark_else l b [] x ne = refl
mark_else l b (h ∷ hs) x ne =
    elim (cases_Bool (same_lock h.lock (lock_name l))) [
      | inl e ↦
          let off : same_lock h.lock (lock_name x) ≡ false =
          ap (λ (n : LockName). same_lock n (lock_name x)) (same_lock-true h.lock (lock_name l) e) ∙ apart_name x l ne in
          ap (λ (ys : List Hold). hold_in ys x) (if-true (same_lock h.lock (lock_name l)) (record h { out = b } ∷ hs) (h ∷ marked_out l b hs) e)
          ∙ (if-false (same_lock h.lock (lock_name x)) (Some (h.manner, b)) (hold_in hs x) off
          ∙ sym (if-false (same_lock h.lock (lock_name x)) (Some (h.manner, h.out)) (hold_in hs x) off))
      | inr e ↦
          ap (λ (ys : List Hold). hold_in ys x) (if-false (same_lock h.lock (lock_name l)) (record h { out = b } ∷ hs) (h ∷ marked_out l b hs) e)
          ∙ ap (λ (o : Option (Manner × Bool)). if same_lock h.lock (lock_name x) then Some (h.manner, h.out) else o) (mark_else l b hs x ne)
    ]

-- and that of the lock has the mark
pub mark_here : (l : ℕ) (b o : Bool) (m : Manner) (hs : List Hold) → hold_in hs l ≡ Some (m, o)
    → hold_in (marked_out l b hs) l ≡ Some (m, b)
mark_here l b o m [] e = absurd (let z : ⊥ = cc e in z)
mark_here l b o m (h ∷ hs) e = by (same_lock h.lock (lock_name l)) refl e (mark_here l b o m hs)
  where
    manner_is : ◌≡◌ {A = Option (Manner × Bool)} (Some (h.manner, h.out)) (Some (m, o)) → h.manner ≡ m
    manner_is e = ap (λ (x : Option (Manner × Bool)). manner_in x) e
      where
        manner_in : Option (Manner × Bool) → Manner
        manner_in None = m
        manner_in (Some x) = x.0

    by : (y : Bool) → same_lock h.lock (lock_name l) ≡ y → (if y then Some (h.manner, h.out) else hold_in hs l) ≡ Some (m, o)
        → (hold_in hs l ≡ Some (m, o) → hold_in (marked_out l b hs) l ≡ Some (m, b))
        → hold_in (if y then record h { out = b } ∷ hs else h ∷ marked_out l b hs) l ≡ Some (m, b)
    by true is e r =
        if-true (same_lock h.lock (lock_name l)) (let y : Manner × Bool = (h.manner, b) in Some y) (hold_in hs l) is
        ∙ ap (λ (x : Manner). let y : Manner × Bool = (x, b) in Some y) (manner_is e)
    by false is e r =
        if-false (same_lock h.lock (lock_name l)) (Some (h.manner, h.out)) (hold_in (marked_out l b hs) l) is ∙ r e

-- where a value was home, and went out and came home, all is as it was
pub mark_back : (l : ℕ) (m : Manner) (hs : List Hold) → hold_in hs l ≡ Some (m, false)
    → marked_out l false (marked_out l true hs) ≡ hs
mark_back l m [] e = refl
mark_back l m (h ∷ hs) e = by (same_lock h.lock (lock_name l)) refl e (mark_back l m hs)
  where
    out_is : ◌≡◌ {A = Option (Manner × Bool)} (Some (h.manner, h.out)) (Some (m, false)) → h.out ≡ false
    out_is e = ap (λ (x : Option (Manner × Bool)). out_of x) e
      where
        out_of : Option (Manner × Bool) → Bool
        out_of None = false
        out_of (Some x) = x.1

    by : (y : Bool) → same_lock h.lock (lock_name l) ≡ y → (if y then Some (h.manner, h.out) else hold_in hs l) ≡ Some (m, false)
        → (hold_in hs l ≡ Some (m, false) → marked_out l false (marked_out l true hs) ≡ hs)
        → marked_out l false (if y then record h { out = true } ∷ hs else h ∷ marked_out l true hs) ≡ h ∷ hs
    by true is e r =
        if-true (same_lock h.lock (lock_name l)) (record h { out = false } ∷ hs) (record h { out = true } ∷ marked_out l false hs) is
        ∙ ap (λ (o : Bool). record h { out = o } ∷ hs) (sym (out_is e))
    by false is e r =
        if-false (same_lock h.lock (lock_name l)) (record h { out = false } ∷ marked_out l true hs) (h ∷ marked_out l false (marked_out l true hs)) is
        ∙ ap (λ (ys : List Hold). h ∷ ys) (r e)

-- who has the right to a value still has it
pub mark_reached : (k : Plan) (l : ℕ) (b : Bool) (number : Option ℕ) (hs : List Hold) (q : ℕ)
    → (lock_of k q ≡ l) ⊎ (lock_of k q ≢ l) → IsReached k q number hs → IsReached k q number (marked_out l b hs)
mark_reached k l b number hs q which is =
    elim which [
      | inl e ↦ record {
        manner = is.manner;
        out = b;
        held = ap (hold_in (marked_out l b hs)) e
            ∙ mark_here l b is.out is.manner hs (ap (hold_in hs) (sym e) ∙ is.held);
        may = is.may;
      }
      | inr ne ↦ record { manner = is.manner; out = is.out; held = mark_else l b hs (lock_of k q) ne ∙ is.held; may = is.may }
    ]

-- a lock with a value out is no lock whose values are home
pub out_apart : (hs : List Hold) (l x : ℕ) (a b : Manner) → IsOutWith x a hs → hold_in hs l ≡ Some (b, false) → x ≢ l
out_apart hs l x a b out home e =
    let no : Some (let y : Manner × Bool = (a, true) in y) ≡ Some (b, false) = sym out ∙ (ap (hold_in hs) e ∙ home) in
    let z : true ≡ false = ap mark_in no in
    absurd (let y : ⊥ = cc z in y)
  where
    mark_in : Option (Manner × Bool) → Bool
    mark_in None = false
    mark_in (Some y) = y.1

-- and the notes of a processor are still of its calls
pub mark_noted : (n : Notes) (many : ℕ) (c : Calls) (l : ℕ) (b : Bool) → IsNoted n many c
    → IsNoted n many (record c { holds = marked_out l b c.holds })
mark_noted n many c l b h =
    record {
      deep = h.deep;
      few = h.few;
      counted = h.counted;
      orders = h.orders;
      paths = h.paths;
      ordered = h.ordered;
      all = h.all;
      marked = mark_same n.near n.far.items many (holds_in c.holds) (holds_in (marked_out l b c.holds)) h.marked (mark_holds l b c.holds);
    }
