-- What the seats know of the journal stays true, where it stays where it is.
use Rattle.std.proofs.Common.{◌≡◌, ◌≢◌, ◌⊎◌, ⊎_elim, inl, inr, ℕ, ◌+◌, ◌<◌, ◌≤◌, List, [], ◌∷◌}
use Rattle.std.proofs.Common.{◌++◌, length, eqb, get_or, take, set, Option, Some, None, Bool, true}
use Rattle.std.proofs.Common.{false, refl, sym, ap, ◌∙◌, subst, arith, length-set, get_or-set_other}
use Rattle.std.proofs.Common.{if◌then◌else◌, ◌&&◌, not}
use Rattle.lk_domain.proofs.Names.{cases_Bool, at_set, set_else, State, get_elem?, dite, some}
use Rattle.lk_domain.proofs.Names.{some-injective, ℕ_discrete, same_lock, Manner, Entry, LockName}
use Rattle.lk_domain.proofs.Names.{if-false, if-true, step_keeps, Among, Calls, Frees, Grip, Mark}
use Rattle.lk_domain.proofs.Names.{Takes, Unchanged, holds_after, holds_in, lock_name, AllHome}
use Rattle.lk_domain.proofs.Names.{AreEnded, ArePast, AtHome, Away, IsOpen, Keeps, Knows, Slot}
use Rattle.lk_domain.proofs.Names.{any_count, sole_count, undrawn, Ledger, Look, Past, is_first}
use Rattle.lk_domain.proofs.Names.{turned, accounts_of, FitsUnder, IsOutAt, IsOutWith, Reaches}
use Rattle.lk_domain.proofs.Names.{homes_of, outs_of, all_past, past_of, Who, balance_at}
use Rattle.lk_domain.proofs.Names.{version_at, Plan, View}
use mathlib.Core.Option.{Option as Maybe}
use Rattle.lk_names.specs.Names.{same_bool}
use Rattle.lk_values.proofs.Guards.{step_leaves}
use Rattle.lk_values.specs.Guarded.{Guarded, KeepsRights}
use Rattle.lk_domain.proofs.Outs.{SameHolds, KeepsOuts, out_after, stays_out, outs_kept}
use Rattle.lk_domain.proofs.Outs.{out_reached}
use Rattle.lk_domain.proofs.journals.Held.{any_none, free_any, free_sole, sole_le}
use Rattle.lk_domain.proofs.{rows.Kept.set_at, seats.Totals.total-same, words.Written.IsBare}
use Rattle.lk_domain.specs.{Keeps.IsSight, Ledgers.{opened, closed, listed_look}}

take_all : {A : Type 0} (xs : List A) → take (length xs) xs ≡ xs
take_all [] = refl
take_all (x ∷ xs) = ap (λ ys. x ∷ ys) (take_all xs)

pub ended_more : (k : Plan) (js : List Entry) (xs ys : List Look) → AreEnded k js xs
    → AreEnded k js ys → AreEnded k js (xs ++ ys)
ended_more k js [] ys a c = c
ended_more k js (x ∷ xs) ys a c = (a.0, ended_more k js xs ys a.1 c)

-- a look that ends was of the journal as it is
pub look_ends : (k : Plan) (js : List Entry) (c : Calls) (o : Option Look) → IsOpen k js c o
    → AreEnded k js (listed_look o)
look_ends k js c None is = tt
look_ends k js c (Some x) is = (
  (length js, omega arith, subst (λ (xs : List Entry). IsSight k xs x) (sym (take_all js)) is.1),
  tt,
)

pub past_more : (k : Plan) (js : List Entry) (xs ys : List Past) → ArePast k js xs → ArePast k js ys
    → ArePast k js (xs ++ ys)
past_more k js [] ys a c = c
past_more k js (x ∷ xs) ys a c = (a.0, past_more k js xs ys a.1 c)

-- what a seat knows of all its numbers
pub past_known : (k : Plan) (js : List Entry) (v : View) → Knows k js v → ArePast k js (all_past v)
past_known k js v h = at_number v.who.number refl
  where
    at_number : (o : Option ℕ) → v.who.number ≡ o → ArePast k js (past_of o v.ledger ++ v.who.ended)
    at_number None e = h.past
    at_number (Some p) e = (record { own = h.own p e; looked = h.looked; seen = h.seen }, h.past)

pub open_same : (k : Plan) (js : List Entry) (c d : Calls) (o : Option Look)
    → any_count d.holds ≡ any_count c.holds → IsOpen k js c o → IsOpen k js d o
open_same k js c d None e h = tt
open_same k js c d (Some x) e h = (e ∙ h.0, h.1)

-- where the ledger's part of a view stays
pub knows_same : (k : Plan) (js : List Entry) (v w : View) → Knows k js v → w.who ≡ v.who
    → w.ledger ≡ v.ledger → any_count w.calls.holds ≡ any_count v.calls.holds
    → sole_count w.calls.holds ≡ sole_count v.calls.holds
    → KeepsOuts v.calls.holds w.calls.holds → Knows k js w
knows_same k js v w h who same any sole outs =
    record {
      holder = λ ne. sole ∙ h.holder (λ e. ne (ap (λ (g : Ledger). g.out) same ∙ e));
      shut = λ ne. ap (λ (g : Ledger). g.look) same ∙ h.shut (λ e. ne (ap (λ (g : Ledger). g.out) same ∙ e));
      looking = subst (λ (g : Ledger). IsOpen k js w.calls g.look) (sym same) (open_same k js v.calls w.calls v.ledger.look any h.looking);
      looked = subst (λ (g : Ledger). AreEnded k js g.looks) (sym same) h.looked;
      seen = subst (λ (g : Ledger). g.seen ≤ length js) (sym same) h.seen;
      own = λ p e. ap (λ (g : Ledger). g.own) same ∙ h.own p (sym (ap (λ (x : Who). x.number) who) ∙ e);
      quiet = λ e. same ∙ h.quiet (sym (ap (λ (x : Who). x.number) who) ∙ e);
      past = subst (λ (x : Who). ArePast k js x.ended) (sym who) h.past;
      values = λ q among. subst (λ (x : Who). IsOutAt k q x.number w.calls.holds) (sym who)
          (outs_kept k q v.who.number v.calls.holds w.calls.holds outs (h.values q (subst (λ (x : Who). Among q x.outs) who among)));
    }

-- the name of lock 0
pub first_is : (j : LockName) → is_first j ≡ same_lock j (lock_name 0)
first_is j = by j.wait
  where
    by : (b : Bool) → ((eqb j.index 0) && not b) ≡ ((eqb j.index 0) && same_bool b false)
    by true = refl
    by false = refl

-- the row of a call on the lock l, whose holds before it are those of c
module _ (k : Plan) (js : List Entry) (v w : View) (p : ℕ) (is : v.who.number ≡ Some p)
    (knows : Knows k js v) (c : Calls) (d : ℕ) (j : LockName) (t : List Mark)
    (any : any_count c.holds ≡ any_count v.calls.holds)
    (sole : sole_count c.holds ≡ sole_count v.calls.holds)
    (same : (l : ℕ) → SameHolds v.calls.holds c.holds l) (who : w.who ≡ v.who) where
  -- a value that is out is out with a hold that the row leaves
  left_out : (y : Grip) → w.calls.holds ≡ holds_after y d j (c.taken + 1) c.holds
      → ((m : Manner) → y ≡ Takes m → holds_in c.holds j.index ≡ false)
      → (y ≡ Frees → AllHome j v) → KeepsOuts v.calls.holds w.calls.holds
  left_out y h fresh home l m is =
      subst (IsOutWith l m) (sym h)
      (out_after y d (c.taken + 1) j c.holds l m fresh
      (λ e plain. (same j.index).out ∙ (home e).value plain)
      (stays_out v.calls.holds c.holds l m (same l).hold is))

  values_left : KeepsOuts v.calls.holds w.calls.holds → (q : ℕ)
      → Among q (outs_of w) → IsOutAt k q w.who.number w.calls.holds
  values_left outs q among =
      subst (λ (x : Who). IsOutAt k q x.number w.calls.holds) (sym who)
      (outs_kept k q v.who.number v.calls.holds w.calls.holds outs
      (knows.values q (subst (λ (x : Who). Among q x.outs) who among)))

  no_number : w.who.number ≡ None → ⊥
  no_number e = let n : Some p ≡ None = sym is ∙ (sym (ap (λ (x : Who). x.number) who) ∙ e) in cc n

  -- the same of another lock
  other : (y : Grip) → is_first j ≡ false → w.ledger ≡ turned v.ledger j y t
      → w.calls.holds ≡ holds_after y d j (c.taken + 1) c.holds
      → KeepsOuts v.calls.holds w.calls.holds → Knows k js w
  other Unchanged off g h outs = knows_same k js v w knows who g (ap any_count h ∙ any) (ap sole_count h ∙ sole) outs
  other (Takes m) off g h outs =
      knows_same k js v w knows who (g ∙ if-false (is_first j) (opened v.ledger m t) v.ledger off)
      (ap any_count h ∙ (ap (λ b. (if b then 1 else 0) + any_count c.holds) (sym (first_is j) ∙ off) ∙ (let z : 0 + any_count c.holds ≡ any_count c.holds = omega arith in z ∙ any)))
      (ap sole_count h ∙ (ap (λ b. (if b && Rattle.lk_domain.specs.Keeps.is_sole m then 1 else 0) + sole_count c.holds) (sym (first_is j) ∙ off) ∙ (let z : 0 + sole_count c.holds ≡ sole_count c.holds = omega arith in z ∙ sole))) outs
  other Frees off g h outs =
      knows_same k js v w knows who (g ∙ if-false (is_first j) (closed v.ledger) v.ledger off)
      (ap any_count h ∙ (free_any d j c.holds (sym (first_is j) ∙ off) ∙ any)) (ap sole_count h ∙ (free_sole d j c.holds (sym (first_is j) ∙ off) ∙ sole)) outs

  -- of lock 0: a look begins where it is taken, and ends where it is freed
  first : (y : Grip) → is_first j ≡ true → w.ledger ≡ turned v.ledger j y t
      → w.calls.holds ≡ holds_after y d j (c.taken + 1) c.holds
      → ((m : Manner) → y ≡ Takes m → holds_in c.holds j.index ≡ false)
      → (y ≡ Frees → v.ledger.out ≡ None)
      → KeepsOuts v.calls.holds w.calls.holds → Knows k js w
  first Unchanged on g h fresh home outs = knows_same k js v w knows who g (ap any_count h ∙ any) (ap sole_count h ∙ sole) outs
  first (Takes m) on g h fresh home outs =
      let g' : w.ledger ≡ opened v.ledger m t = g ∙ if-true (is_first j) (opened v.ledger m t) v.ledger on in
      let zero : j.index ≡ 0 = index_zero j on in
      let none : any_count c.holds ≡ 0 = any_none c.holds (ap (holds_in c.holds) (sym zero) ∙ fresh m refl) in
      let one : any_count w.calls.holds ≡ 1 =
      ap any_count h ∙ (ap (λ b. (if b then 1 else 0) + any_count c.holds) (sym (first_is j) ∙ on) ∙ omega (arith, none)) in
      let was_none : v.ledger.out ≢ None → ⊥ = λ ne. let s = knows.holder ne in
      let z : sole_count c.holds ≤ any_count c.holds = sole_le c.holds in omega (arith, sole, s, none, z) in
      record {
        holder = λ ne. absurd (was_none (λ e. ne (ap (λ (x : Ledger). x.out) g' ∙ e)));
        shut = λ ne. absurd (was_none (λ e. ne (ap (λ (x : Ledger). x.out) g' ∙ e)));
        looking = subst (λ (x : Ledger). IsOpen k js w.calls x.look) (sym g') (one, record { version = tt; loads = tt });
        looked = subst (λ (x : Ledger). AreEnded k js x.looks) (sym g') knows.looked;
        seen = subst (λ (x : Ledger). x.seen ≤ length js) (sym g') knows.seen;
        own = λ q e. ap (λ (x : Ledger). x.own) g' ∙ knows.own q (sym (ap (λ (x : Who). x.number) who) ∙ e);
        quiet = λ e. absurd (no_number e);
        past = subst (λ (x : Who). ArePast k js x.ended) (sym who) knows.past;
        values = values_left outs;
      }
    where
      index_zero : (n : LockName) → is_first n ≡ true → n.index ≡ 0
      index_zero n e = grind (arith, e)
  first Frees on g h fresh home outs =
      let g' : w.ledger ≡ closed v.ledger = g ∙ if-true (is_first j) (closed v.ledger) v.ledger on in
      let out : w.ledger.out ≡ None = ap (λ (x : Ledger). x.out) g' ∙ home refl in
      record {
        holder = λ ne. absurd (ne out);
        shut = λ ne. absurd (ne out);
        looking = subst (λ (x : Ledger). IsOpen k js w.calls x.look) (sym g') tt;
        looked = subst (λ (x : Ledger). AreEnded k js x.looks) (sym g')
            (ended_more k js v.ledger.looks (listed_look v.ledger.look) knows.looked (look_ends k js v.calls v.ledger.look knows.looking));
        seen = subst (λ (x : Ledger). x.seen ≤ length js) (sym g') knows.seen;
        own = λ q e. ap (λ (x : Ledger). x.own) g' ∙ knows.own q (sym (ap (λ (x : Who). x.number) who) ∙ e);
        quiet = λ e. absurd (no_number e);
        past = subst (λ (x : Who). ArePast k js x.ended) (sym who) knows.past;
        values = values_left outs;
      }

  pub knows_after : (y : Grip) → w.ledger ≡ turned v.ledger j y t
      → w.calls.holds ≡ holds_after y d j (c.taken + 1) c.holds
      → ((m : Manner) → y ≡ Takes m → holds_in c.holds j.index ≡ false)
      → (y ≡ Frees → AllHome j v) → Knows k js w
  knows_after y g h fresh home =
      elim (cases_Bool (is_first j)) [
        | inl on ↦ first y on g h fresh (λ e. (home e).journal on) (left_out y h fresh home)
        | inr off ↦ other y off g h (left_out y h fresh home)
      ]

-- who knows so has the right to the values that it has out
pub rights_of : (k : Plan) (js : List Entry) (v w : View) → Knows k js w → w.who.outs ≡ v.who.outs
    → KeepsRights (Reaches k) outs_of v w
rights_of k js v w knows outs =
    record {
      same = outs;
      rights = λ q among _. out_reached k q w.who.number w.calls.holds (knows.values q (subst (Among q) (sym outs) among));
    }

-- The values after a step that leaves their slots: all slots, or all but the journal's.
pub same_slots : (k : Plan) (s : State Slot View) (kp : Keeps k s) (id : ℕ) (v w : View) {js : List Entry}
    → get_elem? s.views id ≡ some v → Knows k js w → w.who.outs ≡ v.who.outs
    → Guarded 1 (homes_of k) (Reaches k) outs_of (FitsUnder k) s.homes (set s.views id w)
same_slots k s kp id v w {js} me knows outs =
    step_keeps 1 (homes_of k) (Reaches k) outs_of (FitsUnder k) s.homes s.views id v w kp.values me (rights_of k js v w knows outs)

pub first_slot : (k : Plan) (s : State Slot View) (kp : Keeps k s) (id : ℕ) (v w : View) (x : Maybe Slot) {js : List Entry}
    → get_elem? s.views id ≡ some v → Knows k js w → w.who.outs ≡ v.who.outs
    → Guarded 1 (homes_of k) (Reaches k) outs_of (FitsUnder k) (set s.homes 0 x) (set s.views id w)
first_slot k s kp id v w x {js} me knows outs =
    step_leaves 1 (homes_of k) (Reaches k) outs_of (FitsUnder k) s.homes (set s.homes 0 x) s.views id v w kp.values
    (length-set s.homes 0 x) (λ l low. set_else s.homes 0 (1 + l) x (λ e. omega arith)) me (rights_of k js v w knows outs)

-- the journal stays where it is, where its slot is left
pub place_kept : (k : Plan) (js : List Entry) (s : State Slot View) (id : ℕ) (v w : View) (ws : List ℕ)
    (hs : List (Maybe Slot)) → get_elem? hs 0 ≡ get_elem? s.homes 0
    → get_elem? s.views id ≡ some v → w.ledger.out ≡ v.ledger.out
    → get_or ws version_at 0 ≡ get_or s.words version_at 0
    → ((a : ℕ) → a < accounts_of k → get_or ws (balance_at k a) 0 ≡ get_or s.words (balance_at k a) 0)
    → AtHome k js s ⊎ Away k js s
    → let after : State Slot View = record { words = ws; homes = hs; views = set s.views id w } in
    AtHome k js after ⊎ Away k js after
place_kept k js s id v w ws hs slot me same first balances =
    ⊎_elim
    (λ h. inl (record {
      journal = h.journal;
      home = slot ∙ h.home;
      items = h.items;
      room = h.room;
      words = record { version = first ∙ h.words.version; balances = λ a lt. balances a lt ∙ h.words.balances a lt };
      none_out = λ j x at. ⊎_elim (λ t. ap (λ (y : View). y.ledger.out) (sym t.1) ∙ (same ∙ h.none_out id v me))
          (λ t. h.none_out j x t.1) (at_set s.views id j w x at);
    }))
    (λ h. inr (dite (ℕ_discrete h.seat id)
    (λ e. record {
      seat = id;
      view_is = w;
      out = h.out;
      here = set_at s.views id v w me;
      has = same ∙ (ap (λ (y : View). y.ledger.out)
          (some-injective v h.view_is (sym me ∙ subst (λ (i : ℕ). get_elem? s.views i ≡ some h.view_is) e h.here)) ∙ h.has);
      list = h.list;
      room = h.room;
      long = h.long;
      home = slot ∙ h.home;
      version = first ∙ h.version;
      words = λ a lt. balances a lt ∙ h.words a lt;
      sole = λ j x at ne. ⊎_elim (λ t. t.0) (λ t. h.sole j x t.1 ne ∙ e) (at_set s.views id j w x at);
    })
    (λ n. record {
      seat = h.seat;
      view_is = h.view_is;
      out = h.out;
      here = set_else s.views id h.seat w n ∙ h.here;
      has = h.has;
      list = h.list;
      room = h.room;
      long = h.long;
      home = slot ∙ h.home;
      version = first ∙ h.version;
      words = λ a lt. balances a lt ∙ h.words a lt;
      sole = λ j x at ne. ⊎_elim
          (λ t. h.sole j v (ap (get_elem? s.views) t.0 ∙ me) (λ z. ne (ap (λ (y : View). y.ledger.out) (sym t.1) ∙ (same ∙ z))))
          (λ t. h.sole j x t.1 ne) (at_set s.views id j w x at);
    })))

-- a step that leaves the journal, and changes one view
pub alters : (k : Plan) (s : State Slot View) (kp : Keeps k s) (id : ℕ) (v w : View) (ws : List ℕ)
    → get_elem? s.views id ≡ some v → w.ledger.share ≡ v.ledger.share → Knows k kp.journal w
    → get_or ws 0 0 ≡ get_or s.words 0 0 → get_or ws version_at 0 ≡ get_or s.words version_at 0
    → ((a : ℕ) → a < accounts_of k → get_or ws (balance_at k a) 0 ≡ get_or s.words (balance_at k a) 0)
    → w.ledger.out ≡ v.ledger.out → w.who.outs ≡ v.who.outs
    → Keeps k (record { words = ws; homes = s.homes; views = set s.views id w })
alters k s kp id v w ws me share knows roll first balances same outs =
    record {
      journal = kp.journal;
      replays = kp.replays;
      slots = kp.slots;
      shares = omega (arith, kp.shares, total-same (λ (x : View). x.ledger.share) s.views id v w me (sym share), ap (undrawn k) roll);
      place = place_kept k kp.journal s id v w ws s.homes refl me same first balances kp.place;
      knows = λ j x at. ⊎_elim (λ t. subst (Knows k kp.journal) t.1 knows) (λ t. kp.knows j x t.1) (at_set s.views id j w x at);
      fresh = λ q h. kp.fresh q (subst (λ (r : ℕ). r ≤ q) roll h);
      values = same_slots k s kp id v w me knows outs;
    }

-- so where one word is written that is none of the ledger's
pub alters_at : (k : Plan) (s : State Slot View) (kp : Keeps k s) (id : ℕ) (v w : View) (j i : ℕ) → IsBare k j
    → get_elem? s.views id ≡ some v → w.ledger.share ≡ v.ledger.share → Knows k kp.journal w
    → w.ledger.out ≡ v.ledger.out → w.who.outs ≡ v.who.outs
    → Keeps k (record { words = set s.words j i; homes = s.homes; views = set s.views id w })
alters_at k s kp id v w j i bare me share knows =
    alters k s kp id v w (set s.words j i) me share knows
    (get_or-set_other s.words j 0 i 0 (λ e. bare.roll (sym e)))
    (get_or-set_other s.words j version_at i 0 (λ e. bare.version (sym e)))
    (λ a lt. get_or-set_other s.words j (balance_at k a) i 0 (λ e. bare.balances a lt (sym e)))
