-- Who holds lock 0 alone is one seat; and a step on a word of the ledger leaves the machine part.
use Rattle.std.proofs.Common.{◌≡◌, ◌≢◌, ◌⊎◌, inl, inr, ⊎_elim, ℕ, ◌<◌, ◌≤◌, List, set, get_or}
use Rattle.std.proofs.Common.{Option, Some, None, true, false, refl, sym, ap, ◌∙◌, subst, arith}
use Rattle.std.proofs.Common.{get_or-set_other}
use Rattle.lk_domain.proofs.Names.{State, get_elem?, some, some-injective, LockHistory, Manner}
use Rattle.lk_domain.proofs.Names.{Reads, Spins, Writes, Kind, Rw, Spin, LockName, Waiter}
use Rattle.lk_domain.proofs.Names.{IsSoundWorld, is_rw, is_rw_name, World, Calls, lock_name}
use Rattle.lk_domain.proofs.Names.{no_calls, AtHome, Away, Keeps, Slot, any_count, holds_first}
use Rattle.lk_domain.proofs.Names.{sole_count, Out, Runs, SeatFits, Seeks, waiter, Stand}
use Rattle.lk_domain.proofs.Names.{IsNumbered, Who, IsPlace, Place, place_at, Plan, View}
use mathlib.Core.Option.{Option as Maybe}
use Rattle.lk_law.proofs.running.Holds.{holder_is_one}
use Rattle.lk_domain.proofs.{Manners.held_spun, Stacks.holder_of}
use Rattle.lk_domain.proofs.journals.Held.{any_some, sole_le, sole_some}
use Rattle.lk_domain.proofs.{rows.Kept.{SameWho, halting_same}, seats.Totals.apart}
use Rattle.lk_domain.proofs.words.Written.{unwritten}
use Rattle.lk_domain.specs.Keeps.{is_sole}
use Rattle.lk_domain.proofs.rows.Kept as rule

-- a seat with a lock has a number
pub has_lock : (k : Plan) (s : State Slot View) (ok : Runs k s) (i : ℕ) (v : View)
    → get_elem? s.views i ≡ some v → 1 ≤ any_count v.calls.holds → IsNumbered v
has_lock k s ok i v at has = at_number v.who.number refl
  where
    at_number : (o : Option ℕ) → v.who.number ≡ o → IsNumbered v
    at_number None e =
        let q : v.calls ≡ no_calls = ok.silent i v at e in
        absurd (omega (arith, has, ap (λ (c : Calls). any_count c.holds) q))
    at_number (Some q) e = (q, e)

only_writes : (m : Manner) → is_sole m ≡ true → m ≢ Spins → m ≡ Writes
only_writes Spins h ne = absurd (ne refl)
only_writes Reads h ne = cc h
only_writes Writes h ne = refl

by_kind : (m : World) (l : ℕ) (o : Kind) → m.kind l ≡ o → (is_rw_name m.kind (lock_name l) ≡ false) ⊎ (m.kind l ≡ Rw)
by_kind m l Spin e = inl (ap is_rw e)
by_kind m l Rw e = inr e

-- of a sound world: who holds a lock alone, and another that holds it, are one
pub one_holder : (m : World) (hs : LockName → LockHistory) → IsSoundWorld m hs → (l : ℕ) (w o : Waiter) (a b : Manner)
    → is_sole a ≡ true → m.held w (lock_name l) ≡ Some a → m.held o (lock_name l) ≡ Some b
    → (is_rw_name m.kind (lock_name l) ≡ false
    → (m.held w (lock_name l) ≡ Some Spins) × (m.held o (lock_name l) ≡ Some Spins))
    → w ≡ o
one_holder m hs ok l w o a b sole has other spun =
    elim (by_kind m l (m.kind l) refl) [
      | inl off ↦ let z = spun off in holder_is_one m _ (lock_name l) w o ok.spins z.0 z.1
      | inr rw ↦
          let holds = (ok.rws l rw).holds in
          let writes : a ≡ Writes = only_writes a sole (λ e. holds.unspun w (has ∙ ap Some e)) in
          sym (holds.alone w o b (has ∙ ap Some writes) other)
    ]

-- the same of seats, and of lock 0
pub alone_seat : (k : Plan) (s : State Slot View) (ok : Runs k s) (i j : ℕ) (v u : View)
    → get_elem? s.views i ≡ some v → get_elem? s.views j ≡ some u → 1 ≤ sole_count v.calls.holds
    → 1 ≤ any_count u.calls.holds → j ≡ i
alone_seat k s ok i j v u a b hv hu =
    let n = has_lock k s ok i v a (let z = sole_le v.calls.holds in omega (arith, hv, z)) in
    let q = has_lock k s ok j u b hu in
    let x : SeatFits ok.world n.0 v.calls = ok.seats i v n.0 a n.1 in
    let y : SeatFits ok.world q.0 u.calls = ok.seats j u q.0 b q.1 in
    let d = sole_some ok.world.kind v.calls.holds x.held hv in
    let e = holder_of u.calls.holds 0 (any_some u.calls.holds hu) in
    let same = one_holder ok.world ok.histories ok.sound 0 (waiter n.0 d.0) (waiter q.0 e.0) d.1 e.1 d.3
    (x.mirrors.holds d.0 (lock_name 0) ∙ d.2) (y.mirrors.holds e.0 (lock_name 0) ∙ e.2)
    (λ off. (
      x.mirrors.holds d.0 (lock_name 0) ∙ held_spun ok.world.kind v.calls.holds d.0 (lock_name 0) d.1 x.held off d.2,
      y.mirrors.holds e.0 (lock_name 0) ∙ held_spun ok.world.kind u.calls.holds e.0 (lock_name 0) e.1 y.held off e.2,
    )) in
    apart s.views (get_or s.words 0 0) ok.once i j v u n.0 a b n.1 (q.1 ∙ ap (λ (z : Waiter). Some z.cpu) (sym same))

pub some_out : (o : Option Out) → (o ≡ None) ⊎ ((x : Out) × (o ≡ Some x))
some_out None = inl refl
some_out (Some x) = inr (x, refl)

pub out_is : (x : Out) (o : Option Out) → o ≡ Some x → o ≢ None
out_is x o e z = let no : Some x ≡ None = sym e ∙ z in cc

-- for a seat that holds lock 0
module _ (k : Plan) (s : State Slot View) (both : Stand k s) (id : ℕ) (v : View)
    (me : get_elem? s.views id ≡ some v) (holds : holds_first v.calls) where
  abbrev kp : Keeps k s
  kp = both.keeps

  -- where another seat had the journal out, there would be two holders
  pub away_is_me : (h : Away k kp.journal s) → h.seat ≡ id
  away_is_me h =
      let sole = (kp.knows h.seat h.view_is h.here).holder (out_is h.out h.view_is.ledger.out h.has) in
      sym (alone_seat k s both.runs h.seat id h.view_is v h.here me (omega arith) (omega arith))

  pub away_out : (h : Away k kp.journal s) → v.ledger.out ≡ Some h.out
  away_out h =
      ap (λ (y : View). y.ledger.out) (some-injective v h.view_is (sym me ∙ subst (λ (i : ℕ). get_elem? s.views i ≡ some h.view_is) (away_is_me h) h.here))
      ∙ h.has

  -- the journal is at home, where the holder of lock 0 does not have it
  pub at_home : v.ledger.out ≡ None → AtHome k kp.journal s
  at_home e = ⊎_elim (λ h. h) (λ h. let no : None ≡ Some h.out = sym e ∙ away_out h in absurd (let z : ⊥ = cc in z)) kp.place

  -- and the holder has it where its view says so
  pub away : (o : Out) → v.ledger.out ≡ Some o → Away k kp.journal s
  away o e = ⊎_elim (λ h. let no : Some o ≡ None = sym e ∙ h.none_out id v me in absurd (let z : ⊥ = cc in z)) (λ h. h) kp.place

-- a word of the ledger
pub record IsPage (k : Plan) (i : ℕ) : Type 0 where
  pub low : 0 < i
  pub apart : (x : Place) → IsPlace k x → place_at k x ≢ i

module _ (k : Plan) {S : Type 0} (s : State S View) (st : Runs k s) (id : ℕ) (v : View)
    (me : get_elem? s.views id ≡ some v) (n : IsNumbered v) where
  -- the machine part, where a word of the ledger is written, and the calls of a seat are in its place
  pub paged_as : (w : View) → SameWho v.who w.who → SeatFits st.world n.0 w.calls → (i x : ℕ) → IsPage k i
      → Seeks k st.pairs w.calls → (homes : List (Maybe S))
      → Runs k {S = S} (record { words = set s.words i x; homes = homes; views = set s.views id w })
  paged_as w who fit i x page seeks homes =
      rule.keeps_as k s st id v me n.0 n.1 st.world st.histories st.marks st.pairs w (set s.words i x) st.sound st.attended st.of_plan
      (unwritten k st.stored i x page.apart)
      (rule.right k s st id v me n.0 n.1)
      (get_or-set_other s.words i 0 x 0 (let b = page.low in λ e. omega arith))
      (λ u ne. (refl, λ l. refl)) (λ q ne. refl) (λ q d ne f r. refl) (λ q d ne f. f.counted) (λ q d ne f. f.told) who fit
      (halting_same k s st st.world id n.0 refl (λ q ne. refl))
      seeks homes

  -- and where it keeps its calls
  pub paged : (w : View) → w.who ≡ v.who → w.calls ≡ v.calls → (i x : ℕ) → IsPage k i
      → (homes : List (Maybe S))
      → Runs k {S = S} (record { words = set s.words i x; homes = homes; views = set s.views id w })
  paged w who calls i x page homes =
      paged_as w
      (record {
        plan = ap (λ (x : Who). x.plan) who;
        number = ap (λ (x : Who). x.number) who;
        ended = ap (λ (x : Who). x.ended) who;
        dealt = ap (λ (x : Who). x.dealt) who;
      })
      (subst (SeatFits st.world n.0) (sym calls) (st.seats id v n.0 me n.1)) i x page
      (subst (Seeks k st.pairs) (sym calls) (st.seeks id v me)) homes
