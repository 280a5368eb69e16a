-- Each value under a lock is one seat's to take.
use Rattle.std.proofs.Common.{◌≡◌, inl, inr, arith, ℕ, List, [], ◌∷◌, Option, Some, None, Bool}
use Rattle.std.proofs.Common.{true, false, refl, sym, ap, ◌∙◌, get_or, if◌then◌else◌}
use Rattle.lk_domain.proofs.Names.{State, get_elem?, some, same_lock, Manner, Waiter, Calls, Hold}
use Rattle.lk_domain.proofs.Names.{hold_in, lock_name, way_in, Slot, Runs, SeatFits, waiter}
use Rattle.lk_domain.proofs.Names.{Reaches, lock_of, IsNumbered, Plan, View}
use Rattle.lk_values.specs.Guarded.{IsExclusive}
use Rattle.lk_domain.proofs.{Manners.{held_spun, way_of}, journals.Alone.one_holder}
use Rattle.lk_domain.proofs.seats.Totals.{apart}
use Rattle.lk_domain.specs.Values.{is_sole}

-- the manner of a hold
pub hold_way : (hs : List Hold) (l : ℕ) (m : Manner) (o : Bool) → hold_in hs l ≡ Some (m, o) → way_in hs l ≡ Some m
hold_way [] l m o e = absurd (let z : ⊥ = cc e in z)
hold_way (h ∷ hs) l m o e = by (same_lock h.lock (lock_name l)) e (hold_way hs l m o)
  where
    by : (y : Bool) → (if y then Some (h.manner, h.out) else hold_in hs l) ≡ Some (m, o)
        → (hold_in hs l ≡ Some (m, o) → way_in hs l ≡ Some m)
        → (if y then Some h.manner else way_in hs l) ≡ Some m
    by true e r = ap manner_in e
      where
        manner_in : Option (Manner × Bool) → Option Manner
        manner_in None = None
        manner_in (Some x) = Some x.0
    by false e r = r e

-- a seat with a lock has a number
pub has_way : (k : Plan) (s : State Slot View) (ok : Runs k s) (i l : ℕ) (v : View) (m : Manner)
    → get_elem? s.views i ≡ some v → way_in v.calls.holds l ≡ Some m → IsNumbered v
has_way k s ok i l v m at way = at_number v.who.number refl
  where
    at_number : (o : Option ℕ) → v.who.number ≡ o → IsNumbered v
    at_number None e =
        let no : None ≡ Some m = sym (ap (λ (c : Calls). way_in c.holds l) (ok.silent i v at e)) ∙ way in
        absurd (let z : ⊥ = cc no in z)
    at_number (Some q) e = (q, e)

-- who holds it alone, and another that holds it, are one
pub alone_other : (k : Plan) (s : State Slot View) → Runs k s → (l i j : ℕ) (v u : View) (m n : Manner)
    → get_elem? s.views i ≡ some v → get_elem? s.views j ≡ some u → is_sole m ≡ true
    → way_in v.calls.holds l ≡ Some m → way_in u.calls.holds l ≡ Some n → i ≡ j
alone_other k s ok l i j v u m o a b sole way_v way_u =
    let n = has_way k s ok i l v m a way_v in
    let q = has_way k s ok j l u o b way_u in
    let x : SeatFits ok.world n.0 v.calls = ok.seats i v n.0 a n.1 in
    let y : SeatFits ok.world q.0 u.calls = ok.seats j u q.0 b q.1 in
    let d = way_of v.calls.holds l m way_v in
    let e = way_of u.calls.holds l o way_u in
    let same = one_holder ok.world ok.histories ok.sound l (waiter n.0 d.0) (waiter q.0 e.0) m o sole
    (x.mirrors.holds d.0 (lock_name l) ∙ d.1) (y.mirrors.holds e.0 (lock_name l) ∙ e.1)
    (λ off. (
      x.mirrors.holds d.0 (lock_name l) ∙ held_spun ok.world.kind v.calls.holds d.0 (lock_name l) m x.held off d.1,
      y.mirrors.holds e.0 (lock_name l) ∙ held_spun ok.world.kind u.calls.holds e.0 (lock_name l) o y.held off e.1,
    )) in
    sym (apart s.views (get_or s.words 0 0) ok.once i j v u n.0 a b n.1 (q.1 ∙ ap (λ (z : Waiter). Some z.cpu) (sym same)))

-- Each value is one seat's to take: who holds a lock alone reaches all its values and nobody else any,
-- and each reader the copy for its own processor.
pub one_reaches : (k : Plan) (s : State Slot View) → Runs k s → IsExclusive (Reaches k) s.views
one_reaches k s ok q i j v u a b hv hu =
    let l = lock_of k q in
    let way_v = hold_way v.calls.holds l hv.manner hv.out hv.held in
    let way_u = hold_way u.calls.holds l hu.manner hu.out hu.held in
    elim hv.may [
      | inl sole ↦ alone_other k s ok l i j v u hv.manner hu.manner a b sole way_v way_u
      | inr own ↦ elim hu.may [
        | inl sole ↦ sym (alone_other k s ok l j i u v hu.manner hv.manner b a sole way_u way_v)
        | inr other ↦
            let same : other.0 ≡ own.0 = (let x = own.2 in let y = other.2 in omega (arith, x, y)) in
            sym (apart s.views (get_or s.words 0 0) ok.once i j v u own.0 a b own.1 (other.1 ∙ ap Some same))
      ]
    ]
