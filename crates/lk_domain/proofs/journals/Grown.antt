-- What the seats know stays true as the journal grows.
use Rattle.std.proofs.Common.{◌≡◌, ◌≢◌, ℕ, ◌+◌, List, [], ◌∷◌, ◌++◌, map, length, take, drop}
use Rattle.std.proofs.Common.{get_or, Option, Some, None, Bool, true, false, eqb, ne_eqb, refl, sym}
use Rattle.std.proofs.Common.{ap, ◌∙◌, subst, arith, length-append, if◌then◌else◌}
use Rattle.std.proofs.lemmas.List.{take-append-le}
use Rattle.lk_domain.proofs.Names.{State, get_elem?, dite, some, ℕ_discrete, Entry, if-false}
use Rattle.lk_domain.proofs.Names.{AreEnded, ArePast, IsOpen, Knows, Slot, holds_first, Look, Past}
use Rattle.lk_domain.proofs.Names.{Runs, listed, numbers, times, Plan, View}
use Rattle.lk_domain.proofs.seats.Totals.{times-append, times-here, times-else, term_le, terms_le}
use Rattle.lk_domain.proofs.seats.Totals.{counted, once_le}
use Rattle.lk_domain.specs.{Keeps.{IsEnded, IsSight}, Places.{places, places_from, AllOf}}
use Rattle.lk_domain.specs.Views.{number_of}

-- what holds of a beginning of the journal holds as it grows
ended_grows : (k : Plan) (js es : List Entry) (x : Look) → IsEnded k js x → IsEnded k (js ++ es) x
ended_grows k js es x h =
    let e : take h.0 js ≡ take h.0 (js ++ es) = sym (take-append-le h.0 js es h.1) in
    (h.0, omega (arith, length-append js es, h.1), subst (λ (xs : List Entry). IsSight k xs x) e h.2)

pub all_grow : (k : Plan) (js es : List Entry) (xs : List Look) → AreEnded k js xs
    → AreEnded k (js ++ es) xs
all_grow k js es [] h = tt
all_grow k js es (x ∷ xs) h = (ended_grows k js es x h.0, all_grow k js es xs h.1)

places_from-append : (n p : ℕ) (xs ys : List Entry)
    → places_from n p (xs ++ ys) ≡ places_from n p xs ++ places_from (n + length xs) p ys
places_from-append n p [] ys = ap (λ (i : ℕ). places_from i p ys) (let e : n ≡ n + 0 = omega arith in e)
places_from-append n p (x ∷ xs) ys =
    let e : (n + 1) + length xs ≡ n + length (x ∷ xs) = omega arith in
    let more = places_from-append (n + 1) p xs ys ∙ ap (λ (i : ℕ). places_from (n + 1) p xs ++ places_from i p ys) e in
    by (eqb x.worker p) more
  where
    by : (b : Bool)
        → places_from (n + 1) p (xs ++ ys) ≡ places_from (n + 1) p xs ++ places_from (n + length (x ∷ xs)) p ys
        → (if b then (n, x) ∷ places_from (n + 1) p (xs ++ ys) else places_from (n + 1) p (xs ++ ys))
        ≡ (if b then (n, x) ∷ places_from (n + 1) p xs else places_from (n + 1) p xs)
        ++ places_from (n + length (x ∷ xs)) p ys
    by true more = ap (λ l. (n, x) ∷ l) more
    by false more = more

pub places-append : (p : ℕ) (xs ys : List Entry)
    → places p (xs ++ ys) ≡ places p xs ++ places_from (length xs) p ys
places-append p xs ys =
    places_from-append 0 p xs ys
    ∙ ap (λ (i : ℕ). places p xs ++ places_from i p ys) (let z : 0 + length xs ≡ length xs = omega arith in z)

places_none : (n p q : ℕ) (es : List Entry) → AllOf p es → q ≢ p → places_from n q es ≡ []
places_none n p q [] all ne = refl
places_none n p q (x ∷ xs) all ne =
    if-false (eqb x.worker q) ((n, x) ∷ places_from (n + 1) q xs) (places_from (n + 1) q xs)
    (ne_eqb x.worker q (λ e. ne (sym e ∙ all.0)))
    ∙ places_none (n + 1) p q xs all.1 ne

append_nil : {A : Type 0} (xs : List A) → xs ++ [] ≡ xs
append_nil [] = refl
append_nil (x ∷ xs) = ap (λ l. x ∷ l) (append_nil xs)

pub places_kept : (p q : ℕ) (js es : List Entry) → AllOf p es → q ≢ p
    → places q js ≡ places q (js ++ es)
places_kept p q js es all ne =
    sym (places-append q js es
    ∙ (ap (λ l. places q js ++ l) (places_none (length js) p q es all ne)
    ∙ append_nil (places q js)))

-- and what is kept of numbers that ended, where the entries are not of them
pub past_grows : (k : Plan) (js es : List Entry) (p : ℕ) (xs : List Past) → AllOf p es
    → times p (map number_of xs) ≡ 0 → ArePast k js xs → ArePast k (js ++ es) xs
past_grows k js es p [] all free h = tt
past_grows k js es p (x ∷ xs) all free h =
    dite (ℕ_discrete x.number p)
    (λ e. absurd (omega (arith, free, ap (λ (i : ℕ). times p (i ∷ map number_of xs)) e, times-here p (map number_of xs))))
    (λ ne. (
      record {
        own = h.0.own ∙ places_kept p x.number js es all ne;
        looked = all_grow k js es x.looks h.0.looked;
        seen = omega (arith, length-append js es, h.0.seen);
      },
      past_grows k js es p xs all (omega (arith, free, times-else p x.number (map number_of xs) ne)) h.1,
    ))

-- a seat with a number has not ended it, and no other seat has
pub own_once : (k : Plan) (s : State Slot View) (ok : Runs k s) (i : ℕ) (v : View) (p : ℕ)
    → get_elem? s.views i ≡ some v → v.who.number ≡ Some p → times p (map number_of v.who.ended) ≡ 0
own_once k s ok i v p at is =
    let a = term_le (λ (y : View). times p (numbers y)) s.views i v at in
    let b = ok.once p in
    let c = once_le p (get_or s.words 0 0) in
    let d = ap (λ (o : Option ℕ). times p (listed o ++ map number_of v.who.ended)) is in
    let e = times-here p (map number_of v.who.ended) in
    omega (arith, a, b, c, d, e)

pub other_once : (k : Plan) (s : State Slot View) (ok : Runs k s) (i j : ℕ) (v y : View) (p : ℕ)
    → j ≢ i → get_elem? s.views i ≡ some v → get_elem? s.views j ≡ some y → v.who.number ≡ Some p
    → times p (map number_of y.who.ended) ≡ 0
other_once k s ok i j v y p ne at at' is =
    let a = terms_le (λ (x : View). times p (numbers x)) s.views i j v y ne at at' in
    let b = ok.once p in
    let c = once_le p (get_or s.words 0 0) in
    let d = counted p v is in
    let e = times-append p (listed y.who.number) (map number_of y.who.ended) in
    omega (arith, a, b, c, d, e)

-- another seat
pub knows_grows : (k : Plan) (js es : List Entry) (y : View) (p : ℕ) → Knows k js y → AllOf p es
    → y.who.number ≢ Some p → times p (map number_of y.who.ended) ≡ 0 → (holds_first y.calls → ⊥)
    → Knows k (js ++ es) y
knows_grows k js es y p h all other free holds =
    record {
      past = past_grows k js es p y.who.ended all free h.past;
      holder = h.holder;
      shut = h.shut;
      looking = look_none y.ledger.look h.looking;
      looked = all_grow k js es y.ledger.looks h.looked;
      seen = omega (arith, length-append js es, h.seen);
      own = λ q e. h.own q e ∙ places_kept p q js es all (λ z. other (e ∙ ap Some z));
      quiet = h.quiet;
      values = h.values;
    }
  where
    look_none : (o : Option Look) → IsOpen k js y.calls o → IsOpen k (js ++ es) y.calls o
    look_none None h = tt
    look_none (Some x) h = absurd (holds h.0)

pub drop_front : {A : Type 0} (xs ys : List A) → drop (length xs) (xs ++ ys) ≡ ys
drop_front [] ys = refl
drop_front (x ∷ xs) ys = drop_front xs ys
