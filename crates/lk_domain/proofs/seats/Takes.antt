-- What the steps ask by which a value under a lock goes out and comes home.
use Rattle.std.proofs.Common.{◌≡◌, ◌≢◌, inl, inr, ⊎_elim, ℕ, zero, suc, ◌+◌, ◌<◌, ◌≤◌, List, []}
use Rattle.std.proofs.Common.{◌∷◌, length, set, get_or, Option, Some, None, slice_get, Bool, true}
use Rattle.std.proofs.Common.{false, refl, sym, ap, ◌∙◌, subst, arith, length-set}
use Rattle.lk_domain.proofs.Names.{cases_eq, at_set, set_else, TableId, Allows, Me, State, Step}
use Rattle.lk_domain.proofs.Names.{get_elem?, set-get_or, none, some, Among, Hold, Keeps, Knows}
use Rattle.lk_domain.proofs.Names.{Slot, undrawn, Runs, SeatFits, Stand, Fits, FitsUnder, IsClear}
use Rattle.lk_domain.proofs.Names.{IsHomeAt, IsKeyOf, IsNewestAt, IsOutAt, Key, Reaches, bringing}
use Rattle.lk_domain.proofs.Names.{homes_of, lock_of, marked_out, outs_of, taking, IsNumbered}
use Rattle.lk_domain.proofs.Names.{balance_at, quiet_at, version_at, words_of, Plan, CellKey, View}
use Rattle.atomic_table.specs.Table.{takes, gives}
use mathlib.Core.Option.{Option as Maybe}
use Rattle.lk_values.proofs.Guards.{holder_finds, taking_keeps, bringing_keeps}
use Rattle.lk_values.specs.Guarded.{IsHome}
use Rattle.lk_cell.specs.Latched.{IsKey}
use Rattle.lk_domain.proofs.{Outs.stays_out, journals.Purses.{open_same, place_kept}}
use Rattle.lk_domain.proofs.{rows.Kept.halting_same, seats.Exclusive.one_reaches}
use Rattle.lk_domain.proofs.seats.Totals.{total-same}
use Rattle.lk_domain.specs.Plays.{ValueTakenBy, TakesValue, BringsValue}
use Rattle.lk_domain.specs.Values.{HasCell, id_of, keys_of, older}
use Rattle.lk_domain.proofs.rows.Kept as rule
use Rattle.lk_domain.proofs.seats.Marks as marks

-- the view of a seat with other values out
abbrev with_outs : View → List ℕ → List Hold → View
with_outs v ls hs = record v { who = record v.who { outs = ls }; calls = record v.calls { holds = hs } }

module _ (k : Plan) (s : State Slot View) (both : Stand k s) (id : ℕ) (v : View)
    (me : get_elem? s.views id ≡ some v) (n : IsNumbered v) (q : ℕ) (low : q < homes_of k) where
  abbrev l : ℕ
  l = lock_of k q

  abbrev kp : Keeps k s
  kp = both.keeps

  abbrev kv : Knows k kp.journal v
  kv = kp.knows id v me

  abbrev i : ℕ
  i = quiet_at k q

  abbrev ws : List ℕ
  ws = set s.words i (get_or s.words i 0)

  same_word : (j : ℕ) → get_or ws j 0 ≡ get_or s.words j 0
  same_word j = ap (λ (xs : List ℕ). get_or xs j 0) (set-get_or s.words i 0)

  none_here : v.who.number ≡ None → ⊥
  none_here e = let no : None ≡ Some n.0 = sym e ∙ n.1 in let z : ⊥ = cc in z

  -- a step that marks the hold of the lock
  module _ (b : Bool) (ls : List ℕ) (homes : List (Maybe Slot)) (x : Maybe Slot)
      (is : homes ≡ set s.homes (1 + q) x) where
    abbrev hs : List Hold
    hs = marked_out l b v.calls.holds

    abbrev w : View
    w = with_outs v ls hs

    fits : SeatFits both.runs.world n.0 w.calls
    fits =
        let old = both.runs.seats id v n.0 me n.1 in
        record {
          mirrors = record { frames = old.mirrors.frames; holds = λ d m. old.mirrors.holds d m ∙ sym (marks.mark_held l b v.calls.holds d m) };
          stacked = old.stacked;
          few = old.few;
          placed = old.placed;
          rests = old.rests;
          held = marks.mark_are both.runs.world.kind l b v.calls.holds old.held;
          fresh = marks.mark_fresh l b v.calls.frames v.calls.holds old.fresh;
          reset = old.reset;
          counted = old.counted;
          told = old.told;
          single = old.single;
          halted = old.halted;
        }

    runs : Runs k {S = Slot} (record { words = ws; homes = homes; views = set s.views id w })
    runs =
        let st = both.runs in
        subst (λ (xs : List ℕ). Runs k {S = Slot} (record { words = xs; homes = homes; views = set s.views id w })) (sym (set-get_or s.words i 0))
        (rule.keeps_as k s st id v me n.0 n.1 st.world st.histories st.marks st.pairs w s.words st.sound st.attended st.of_plan st.stored
        (rule.right k s st id v me n.0 n.1) refl
        (λ u ne. (refl, λ m. refl)) (λ p ne. refl) (λ p d ne f r. refl) (λ p d ne f. f.counted) (λ p d ne f. f.told)
        (record { plan = refl; number = refl; ended = refl; dealt = refl }) fits
        (halting_same k s st st.world id n.0 refl (λ q ne. refl))
        (st.seeks id v me) homes)

    knows : ((m : ℕ) → Among m ls → IsOutAt k m v.who.number hs) → Knows k kp.journal w
    knows values =
        record {
          holder = λ ne. marks.mark_sole l b v.calls.holds ∙ kv.holder ne;
          shut = kv.shut;
          looking = open_same k kp.journal v.calls w.calls v.ledger.look (marks.mark_any l b v.calls.holds) kv.looking;
          looked = kv.looked;
          seen = kv.seen;
          own = kv.own;
          quiet = kv.quiet;
          past = kv.past;
          values = values;
        }

    pub stands : ((m : ℕ) → Among m ls → IsOutAt k m v.who.number hs)
        → Rattle.lk_values.specs.Guarded.Guarded 1 (homes_of k) (Reaches k) outs_of (FitsUnder k) homes (set s.views id w)
        → Stand k (record { words = ws; homes = homes; views = set s.views id w })
    stands values guarded =
        record {
          runs = runs;
          keeps = record {
            journal = kp.journal;
            replays = kp.replays;
            slots = ap Rattle.std.proofs.Common.length is ∙ (length-set s.homes (1 + q) x ∙ kp.slots);
            shares = omega (arith, kp.shares, total-same (λ (y : View). y.ledger.share) s.views id v w me refl, ap (undrawn k) (same_word 0));
            place = place_kept k kp.journal s id v w ws homes
                (ap (λ (xs : List (Maybe Slot)). get_elem? xs 0) is ∙ set_else s.homes (1 + q) 0 x (λ e. omega arith))
                me refl (same_word version_at) (λ a lt. same_word (balance_at k a)) kp.place;
            knows = λ j y at. ⊎_elim (λ t. subst (Knows k kp.journal) t.1 (knows values)) (λ t. kp.knows j y t.1) (at_set s.views id j w y at);
            fresh = λ p le. kp.fresh p (subst (λ (r : ℕ). r ≤ p) (same_word 0) le);
            values = guarded;
          };
        }

    -- the right to each value stays
    reaches : (m : ℕ) → Reaches k m v → Reaches k m w
    reaches m has = marks.mark_reached k l b v.who.number v.calls.holds m (cases_eq (lock_of k m) l) has

    -- and a value of another lock that is out stays out
    out_else : (m : ℕ) → lock_of k m ≢ l → IsOutAt k m v.who.number v.calls.holds → IsOutAt k m v.who.number hs
    out_else m ne out =
        let at = lock_of k m in
        record {
          manner = out.manner;
          held = stays_out v.calls.holds hs at out.manner (marks.mark_else l b v.calls.holds at ne) out.held;
          may = out.may;
        }

  -- the value is taken out
  module _ (home : IsHomeAt k q v.who.number v.calls.holds) where
    pub clear : IsClear k l v.who.outs
    clear m among =
        let out = kv.values m among in
        marks.out_apart v.calls.holds l (lock_of k m) out.manner home.manner out.held home.held

    has_right : Reaches k q v
    has_right = record { manner = home.manner; out = false; held = home.held; may = home.may }

    pub there : IsHome 1 (FitsUnder k) s.homes q
    there =
        holder_finds 1 (homes_of k) (Reaches k) outs_of (FitsUnder k) s.homes s.views q id v kp.values
        (one_reaches k s both.runs) me low has_right (λ among. clear q among refl)

    taken_outs : (m : ℕ) → Among m (q ∷ v.who.outs) → IsOutAt k m v.who.number (marked_out l true v.calls.holds)
    taken_outs m among =
        elim among [
          | inl e ↦ subst (λ (y : ℕ). IsOutAt k y v.who.number (marked_out l true v.calls.holds)) (sym e) (record {
            manner = home.manner;
            held = marks.mark_here l true false home.manner v.calls.holds home.held;
            may = home.may;
          })
          | inr old ↦ out_else true (q ∷ v.who.outs) (set s.homes (1 + q) none) none refl m (clear m old) (kv.values m old)
        ]

    pub takes_stand : Stand k (record { words = ws; homes = set s.homes (1 + q) none; views = set s.views id (taking l q v) })
    takes_stand =
        stands true (q ∷ v.who.outs) (set s.homes (1 + q) none) none refl taken_outs
        (taking_keeps 1 (homes_of k) (Reaches k) outs_of (FitsUnder k) s.homes s.views q id v (taking l q v) kp.values me low has_right refl
        (reaches true (q ∷ v.who.outs) (set s.homes (1 + q) none) none refl))

  -- it is brought home
  module _ (new : IsNewestAt k l q v.who.outs) (x : Slot) (meets : FitsUnder k q x) where
    older_is : older v.who.outs ≡ new.others
    older_is = ap older new.is

    outs_are : v.who.outs ≡ q ∷ older v.who.outs
    outs_are = new.is ∙ ap (λ (ls : List ℕ). q ∷ ls) (sym older_is)

    brought_outs : (m : ℕ) → Among m (older v.who.outs) → IsOutAt k m v.who.number (marked_out l false v.calls.holds)
    brought_outs m among =
        out_else false (older v.who.outs) (set s.homes (1 + q) (some x)) (some x) refl m
        (new.apart m (subst (Among m) older_is among)) (kv.values m (subst (Among m) (sym outs_are) (inr among)))

    pub brings_stand : Stand k (record { words = ws; homes = set s.homes (1 + q) (some x); views = set s.views id (bringing l v) })
    brings_stand =
        stands false (older v.who.outs) (set s.homes (1 + q) (some x)) (some x) refl brought_outs
        (bringing_keeps 1 (homes_of k) (Reaches k) outs_of (FitsUnder k) s.homes s.views q id v (bringing l v) x kp.values me low meets outs_are
        (reaches false (older v.who.outs) (set s.homes (1 + q) (some x)) (some x) refl))

-- the key that lies in the slot of a home with a cell
abbrev KeyAt : Plan → ℕ → Slot → Type 0
KeyAt k q x = (key : Key) × (x ≡ Some (CellKey key)) × IsKeyOf k q key

abbrev IsNamed : Option TableId → Key → Type 0
IsNamed None key = Unit {0}
IsNamed (Some id) key = IsKey id key

key_at : (k : Plan) (q : ℕ) (x : Slot) → HasCell k q → FitsUnder k q x → KeyAt k q x
key_at k q x has fits =
    let t : Fits (Some has.0) x = subst (λ (o : Option TableId). Fits o x) has.1 fits in (
      t.0,
      t.1,
      λ id e. let same : Some has.0 ≡ Some id = sym has.1 ∙ e in
          subst (λ (o : Option TableId). IsNamed o t.0) same t.2,
    )

key_fits : (k : Plan) (q : ℕ) (key : Key) → HasCell k q → IsKeyOf k q key → FitsUnder k q (Some (CellKey key))
key_fits k q key has is =
    subst (λ (o : Option TableId). Fits o (Some (CellKey key))) (sym has.1) (key, refl, is has.0 has.1)

-- a home with a cell is one of the plan's
pub cell_below : (k : Plan) (q : ℕ) → HasCell k q → q < homes_of k
cell_below k q has = by (keys_of k) q has.1
  where
    by : (ks : List (Option Key)) (i : ℕ) → id_of (slice_get ks i) ≡ Some has.0 → i < length ks
    by [] i e = absurd (let z : ⊥ = cc e in z)
    by (x ∷ ks) zero e = omega arith
    by (x ∷ ks) (suc i) e = let z = by ks i e in omega (arith, z)

-- what the step calls ask

pub takes_value : (k plan : Plan) (slots id : ℕ) (m : Me Slot View) (q i : ℕ) (st : Step Slot) → k ≡ plan
    → m.0.who.plan ≡ plan → i ≡ quiet_at plan q → st.word ≡ i → IsNumbered m.0
    → HasCell plan q → IsHomeAt plan q m.0.who.number m.0.calls.holds → Allows (Stand k) slots id m i (λ y. y) (TakesValue st m)
takes_value k plan slots id m q i st same mine at word n has home =
    subst (λ (j : ℕ). Allows (Stand k) slots id m j (λ y. y) (TakesValue st m)) (sym at')
    (λ s both wide me _.
    let low = cell_below k q has' in
    let found = there k s both id m.0 me n q low home' in
    let key = key_at k q found.value has' found.meets in (
      taking (lock_of k q) q m.0,
      takes (1 + q) found.value,
      found.home,
      takes_stand k s both id m.0 me n q low home',
      λ a e. let same_q : q ≡ a = (let z = ap words_of (mine ∙ sym same) in let low = cell_below k q has' in omega (arith, e, z, word, at', low)) in
          subst (λ (c : ℕ). ValueTakenBy (lock_of m.0.who.plan c) c m (taking (lock_of k q) q m.0, (1 + q, found.value) ∷ m.1)) same_q
          (subst (λ (j : Plan). ValueTakenBy (lock_of j q) q m (taking (lock_of k q) q m.0, (1 + q, found.value) ∷ m.1)) (same ∙ sym mine)
          (record {
            key = key.0;
            seat = ap (λ (y : Slot). let z : Me Slot View = (taking (lock_of k q) q m.0, (1 + q, y) ∷ m.1) in z) key.1;
            is = subst (λ (j : Plan). IsKeyOf j q key.0) (same ∙ sym mine) key.2;
            apart = subst (λ (j : Plan). IsClear j (lock_of k q) m.0.who.outs) (same ∙ sym mine) (clear k s both id m.0 me n q low home');
          })),
    ))
  where
    at' : i ≡ quiet_at k q
    at' = at ∙ ap (λ (j : Plan). quiet_at j q) (sym same)

    has' : HasCell k q
    has' = subst (λ (j : Plan). HasCell j q) (sym same) has

    home' : IsHomeAt k q m.0.who.number m.0.calls.holds
    home' = subst (λ (j : Plan). IsHomeAt j q m.0.who.number m.0.calls.holds) (sym same) home

pub brings_value : (k plan : Plan) (slots id : ℕ) (m : Me Slot View) (v : View) (xs : List (ℕ × Slot)) (q i : ℕ) (key : Key)
    (st : Step Slot) → k ≡ plan → m ≡ (v, (1 + q, Some (CellKey key)) ∷ xs) → v.who.plan ≡ plan → i ≡ quiet_at plan q
    → st.word ≡ i → IsNumbered v → HasCell plan q → IsKeyOf plan q key → IsNewestAt plan (lock_of plan q) q v.who.outs
    → Allows (Stand k) slots id m i (λ y. y) (BringsValue st m)
brings_value k plan slots id m v xs q i key st same is mine at word n has fits new =
    subst (λ (z : Me Slot View). Allows (Stand k) slots id z i (λ y. y) (BringsValue st z)) (sym is)
    (subst (λ (j : ℕ). Allows (Stand k) slots id (v, (1 + q, Some (CellKey key)) ∷ xs) j (λ y. y) (BringsValue st (v, (1 + q, Some (CellKey key)) ∷ xs))) (sym at')
    (λ s both wide me _. (
      bringing (lock_of k q) v,
      gives,
      tt,
      brings_stand k s both id v me n q (cell_below k q has') new' (Some (CellKey key)) (key_fits k q key has' fits'),
      λ a y ys e top.
          let same_q : q ≡ a = (let z = ap words_of (mine ∙ sym same) in let low = cell_below k q has' in omega (arith, e, z, word, at', low)) in
          let rest_is : xs ≡ ys = ap Rattle.atomic_table.specs.Table.rest top in
          λ j. (bringing (lock_of ((same ∙ sym mine) j) (same_q j)) v, rest_is j),
    )))
  where
    at' : i ≡ quiet_at k q
    at' = at ∙ ap (λ (j : Plan). quiet_at j q) (sym same)

    has' : HasCell k q
    has' = subst (λ (j : Plan). HasCell j q) (sym same) has

    fits' : IsKeyOf k q key
    fits' = subst (λ (j : Plan). IsKeyOf j q key) (sym same) fits

    new' : IsNewestAt k (lock_of k q) q v.who.outs
    new' = subst (λ (j : Plan). IsNewestAt j (lock_of j q) q v.who.outs) (sym same) new
