-- A new table; numbers are drawn, and seats are cut and joined.
use Rattle.std.proofs.Common.{◌≡◌, ◌≢◌, ⊎_elim, inl, ℕ, zero, suc, ◌+◌, ◌%◌, ◌^◌, ◌<◌, false, ◌≤◌}
use Rattle.std.proofs.Common.{List, [], ◌∷◌, drop, length, map, set, get_or, slice_get, Option}
use Rattle.std.proofs.Common.{Some, None, refl, sym, ap, ◌∙◌, subst, arith, get_or-set_other}
use Rattle.std.proofs.Common.{get_or-set_same, Bool, true, if◌then◌else◌}
use Rattle.std.proofs.{lemmas.List.Sums.sum_by-cons, lemmas.Option.slice_get-get_or}
use Rattle.lk_domain.proofs.Names.{sum, at_set, set_else, Allows, Me, State, Step, keeps, get_elem?}
use Rattle.lk_domain.proofs.Names.{dite, some, some-injective, some-ne-none, ℕ_discrete, Layout}
use Rattle.lk_domain.proofs.Names.{NodeName, LockHistory, LockName, Frame, not-true, IsSoundWorld}
use Rattle.lk_domain.proofs.Names.{is_rw_name, World, step_keeps, Among, Running, no_calls, Keeps}
use Rattle.lk_domain.proofs.Names.{Knows, Slot, undrawn, no_ledger, IsRunningPlan, cpus_of, kind_at}
use Rattle.lk_domain.proofs.Names.{layout_in, Mirrors, Runs, SeatFits, Seeks, waiter, Stand, Fits}
use Rattle.lk_domain.proofs.Names.{FitsUnder, Key, Reaches, homes_of, lodged, outs_of, dealer}
use Rattle.lk_domain.proofs.Names.{numbers, times, view, OfLock, OfNode, Place, balance_at}
use Rattle.lk_domain.proofs.Names.{number_of, place_at, stored_number, version_at, with_mark}
use Rattle.lk_domain.proofs.Names.{Journal, Plan, Entries, View}
use Rattle.atomic_table.proofs.Lists.{at_index, at_map}
use Rattle.atomic_table.specs.Table.{opening}
use Rattle.lk_word.specs.{RwWord.packed_rw, SpinWord.packed}
use Rattle.lk_names.specs.History.{no_history}
use Rattle.lk_rows.specs.Machine.{rest_word, rest_rw}
use Rattle.lk_law.proofs.common.RestWorld.{rest_is_sound}
use Rattle.lk_law.specs.Resting.{world_at_rest}
use Rattle.lk_waits.proofs.Attended.{attended_at_rest}
use Rattle.lk_domain.proofs.journals.Purses.{place_kept}
use Rattle.lk_domain.proofs.seats.Totals.{total-set, once_no, once_more, drawn}
use Rattle.lk_domain.proofs.words.NodeWords.{none_reset, rest_number, stored_zero}
use Rattle.lk_domain.proofs.words.Written.{bare, behind, unwritten}
use Rattle.lk_domain.specs.{Ledgers.with_share, Plans.{share_of, room_of, turns_of}, Plays.Draws}
use Rattle.lk_domain.specs.{Runs.Deals, Values.{keys_of, id_of, AreLaid, AreShut}}
use Rattle.lk_domain.specs.{Views.{drawer, total, once_below}, Words.IsOpening}
use Rattle.lk_values.proofs.Guards as guards

number_is : {a b : ℕ} → Some a ≡ Some b → a ≡ b
number_is e = grind (arith, e)

none_some : {A : Type 0} {a : A} → None ≡ Some a → ⊥
none_some e = cc

none_node : {a : NodeName} → None ≡ Some a → ⊥
none_node e = cc e

no_frame : {x : Running} {rs : List Running} → [] ≡ x ∷ rs → ⊥
no_frame e = cc e

-- the slots of the locks in a new table

long_map : {A B : Type 0} (f : A → B) (xs : List A) → length (map f xs) ≡ length xs
long_map f [] = refl
long_map f (x ∷ xs) = ap (λ (i : ℕ). suc i) (long_map f xs)

laid_at : (j : Journal) (ks : List (Option Key)) (l : ℕ) → l < length ks
    → get_elem? (Some (Entries j) ∷ map lodged ks) (1 + l) ≡ some (lodged (get_or ks l None))
laid_at j ks l low =
    ap (λ (i : ℕ). get_elem? (Some (Entries j) ∷ map lodged ks) i) (let z : 1 + l ≡ suc l = omega arith in z)
    ∙ at_map lodged ks l (get_or ks l None) (at_index ks l (get_or ks l None) low (read ks l low))
  where
    read : (ys : List (Option Key)) (i : ℕ) → i < length ys → get_or ys i None ≡ get_or ys i (get_or ys i None)
    read [] i h = absurd (omega (arith, h))
    read (y ∷ ys) zero h = refl
    read (y ∷ ys) (suc i) h = read ys i (omega (arith, h))

-- the keys of the plan are laid, of cells that are shut
pub keys_laid : (k : Plan) (ks : List (Option Key)) → keys_of k ≡ ks → AreShut ks → AreLaid k ks
keys_laid k ks same shut = (
  ap length (sym same),
  λ l d low.
      let long : homes_of k ≡ length ks = ap length same in
      let at : slice_get ks l ≡ Some (get_or ks l d) = slice_get-get_or ks l d (omega (arith, low, long)) in
      subst (λ (ys : List (Option Key)). Fits (id_of (slice_get ys l)) (lodged (get_or ks l d))) (sym same)
      (subst (λ (x : Option (Option Key)). Fits (id_of x) (lodged (get_or ks l d))) (sym at)
      (each (get_or ks l d) (λ key e. shut l key (at ∙ ap Some e)))),
)
  where
    each : (x : Option Key) → ((key : Key) → x ≡ Some key → key.views ≡ false ∷ []) → Fits (id_of (Some x)) (lodged x)
    each None shut = refl
    each (Some key) shut = (key, refl, (refl, shut key refl))

-- where the plan has no keys there are none
pub none_laid : (k : Plan) → keys_of k ≡ [] → AreLaid k []
none_laid k none = keys_laid k [] none (λ l key e. absurd (let z : ⊥ = cc e in z))

-- a new table

only_one : {A : Type 0} (a b : A) (i : ℕ) → get_elem? (a ∷ []) i ≡ some b → (i ≡ 0) × (a ≡ b)
only_one a b zero e = (refl, some-injective a b e)
only_one a b (suc i) e = absurd (some-ne-none b (sym e))

rest_packed : (layout : Layout) → 0 ≡ packed layout rest_word
unfolding packed
rest_packed layout = refl

rest_shared : 0 ≡ packed_rw rest_rw
unfolding packed_rw
rest_shared = refl

module _ (k : Plan) (ws : List ℕ) (j : Journal) (lawful : IsRunningPlan k) (opens : IsOpening k ws)
    (empty : j.entries.items ≡ []) (room : j.entries.room ≡ room_of k)
    (ks : List (Option Key)) (laid : AreLaid k ks) where
  abbrev s : State Slot View
  s = opening ws (Some (Entries j) ∷ map lodged ks) (view (dealer k 0) no_calls no_ledger)

  abbrev w : World
  w = world_at_rest k.format k.mode (turns_of k) k.threshold k.topology.sockets.items (kind_at k)

  rest_numbers : (x : Place) → 0 ≡ with_mark (λ n. false) x (number_of k w (λ i. 0) x)
  rest_numbers (OfLock l) = by (is_rw_name (kind_at k) l)
    where
      by : (b : Bool) → 0 ≡ (if b then packed_rw rest_rw else packed (layout_in k) rest_word)
      by true = rest_shared
      by false = rest_packed (layout_in k)
  rest_numbers (OfNode n q) = sym (ap (stored_number false q) (rest_number q) ∙ stored_zero false q)
  rest_numbers _ = refl

  roll : get_or ws 0 0 ≡ 0
  roll = opens.zeros 0 (λ a lt e. omega arith)

  first : (id : ℕ) (v : View) → get_elem? s.views id ≡ some v
      → (id ≡ 0) × (view (dealer k 0) no_calls no_ledger ≡ v)
  first id v at = only_one (view (dealer k 0) no_calls no_ledger) v id at

  none_numbered : (id p : ℕ) (v : View) → get_elem? s.views id ≡ some v → v.who.number ≡ Some p → ⊥
  none_numbered id p v at is = none_some (ap (λ (x : View). x.who.number) (first id v at).1 ∙ is)

  starts_runs : Runs k s
  starts_runs =
      let few = lawful.accounts in
      record {
        lawful = lawful;
        world = w;
        histories = λ l. no_history;
        sound = rest_is_sound k.format k.mode (turns_of k) k.threshold k.topology.sockets.items (kind_at k) lawful.turns;
        attended = attended_at_rest w (λ u f live. absurd (none_some live));
        of_plan = record { mode = refl; turns = refl; threshold = refl; format = refl; sockets = refl; kind = refl };
        marks = λ n. false;
        pairs = λ i. 0;
        marked = record { says = λ awake a b u uses next. absurd (none_some uses.1); bare = λ on a. refl };
        stored = record {
          long = opens.long;
          words = λ x at read. opens.zeros (place_at k x) (λ a lt e. (bare k few x at).balances a lt e) ∙ rest_numbers x;
        };
        hashed = λ on. record {
          entered = λ l n e. absurd (none_node e);
          placed = λ i lt. inl refl;
          once = λ i j l a b lt kt na nb low x y. absurd (omega (arith, x));
        };
        seeks = λ id v at x rs e h. absurd (no_frame (ap (λ (y : View). y.calls.frames) (first id v at).1 ∙ e));
        seats = λ id v p at is. absurd (none_numbered id p v at is);
        once = λ p. sym (ap (once_below p) roll ∙ once_no p 0 (omega arith));
        blank = λ p h. record { frames = λ d. refl; holds = λ d l. refl };
        roll = let z = roll in omega arith;
        six = λ u h. (refl, λ l. refl);
        planned = λ id v p at is. absurd (none_numbered id p v at is);
        silent = λ id v at is. ap (λ (x : View). x.calls) (sym (first id v at).1);
        deals = λ id v n at is. let e = first id v at in
            record {
              first = e.0;
              next = roll ∙ number_is (ap (λ (x : View). x.who.dealt) e.1 ∙ is);
              of_plan = ap (λ (x : View). x.who.plan) (sym e.1);
            };
      }

  starts_keeps : Keeps k s
  starts_keeps =
      record {
        journal = [];
        replays = tt;
        slots = (let z = laid.0 in let y = long_map some (Some (Entries j) ∷ map lodged ks) in let x = long_map lodged ks in
            omega (arith, z, y, x));
        shares = let e : undrawn k (get_or ws 0 0) ≡ room_of k = ap (undrawn k) roll in omega (arith, e);
        place = inl (record {
          journal = j;
          home = refl;
          items = empty;
          room = room;
          words = record { version = opens.zeros version_at (λ a lt e. omega arith); balances = opens.balances };
          none_out = λ id v at. ap (λ (x : View). x.ledger.out) (sym (first id v at).1);
        });
        knows = λ id v at. subst (Knows k []) (first id v at).1 (record {
          holder = λ ne. absurd (ne refl);
          shut = λ ne. refl;
          looking = tt;
          looked = tt;
          seen = omega arith;
          own = λ p e. refl;
          quiet = λ e. refl;
          past = tt;
          values = λ l none. absurd none;
        });
        fresh = λ p h. refl;
        values = guards.starts 1 (homes_of k) (Reaches k) outs_of (FitsUnder k) (Some (Entries j) ∷ map lodged ks)
            (view (dealer k 0) no_calls no_ledger) (let z = laid.0 in let x = long_map lodged ks in omega (arith, z, x))
            (λ l low. (lodged (get_or ks l None), laid_at j ks l (let z = laid.0 in omega (arith, low, z)), laid.1 l None low)) refl;
      }

  -- the rule holds of a new table
  pub starts : Stand k s
  starts = record { runs = starts_runs; keeps = starts_keeps }

-- a number is drawn

-- who has no frame has not halted
unhalted : (m : World) {hs : LockName → LockHistory} → IsSoundWorld m hs → (q : ℕ) → Mirrors m q no_calls → m.halted q ≡ false
unhalted m ok q none = not-true (m.halted q) (λ h. let r = ok.spins.resting q h in
    let is : m.frame r.0 ≡ None = subst (λ (z : ℕ). m.frame (waiter z r.0.ctx) ≡ None) (sym r.2) (none.frames r.0.ctx) in
    no_one (sym is ∙ r.3))
  where
    no_one : {f : Frame} → None ≡ Some f → ⊥
    no_one e = cc e

unseated : (vs : List View) (roll : ℕ)
    → ((p : ℕ) → total (λ v. times p (numbers v)) vs ≡ once_below p roll) → (p : ℕ) → roll ≤ p
    → (j : ℕ) (u : View) → get_elem? vs j ≡ some u → u.who.number ≡ Some p → ⊥
unseated vs roll once p h j u at e = let z = drawn vs roll once j u p at e in omega arith

-- the shares that are left, and the next one
sum_drop : (xs : List ℕ) (n : ℕ) → n < length xs → sum (drop n xs) ≡ get_or xs n 0 + sum (drop (n + 1) xs)
sum_drop [] n h = absurd (omega arith)
sum_drop (x ∷ xs) zero h = sum_by-cons (λ y. y) x xs
sum_drop (x ∷ xs) (suc n) h =
    let e : suc (n + 1) ≡ suc n + 1 = omega arith in
    sum_drop xs n (omega arith) ∙ ap (λ i. get_or xs n 0 + sum (drop i (x ∷ xs))) e

module _ (k plan : Plan) (slots id : ℕ) (m : Me Slot View) (n : ℕ) (t : Step Slot) (same : k ≡ plan)
    (is : m.0 ≡ view (dealer plan n) no_calls no_ledger) (low : n < cpus_of plan) where
  module _ (s : State Slot View) (both : Stand k s) (me : get_elem? s.views id ≡ some m.0) where
    abbrev ok : Runs k s
    ok = both.runs

    abbrev kp : Keeps k s
    kp = both.keeps

    abbrev r : ℕ
    r = get_or s.words 0 0

    dealt : m.0.who.dealt ≡ Some n
    dealt = ap (λ (v : View). v.who.dealt) is

    d : Deals k r id n m.0.who.plan
    d = ok.deals id m.0 n me dealt

    abbrev u : View
    u = view (drawer m.0.who.plan n) no_calls (with_share (share_of m.0.who.plan n))

    abbrev ws : List ℕ
    ws = set s.words 0 (n + 1)

    near : n < cpus_of k
    near = subst (λ (x : Plan). n < cpus_of x) (sym same) low

    rolled : get_or ws 0 0 ≡ n + 1
    rolled = get_or-set_same s.words 0 (n + 1) 0 (let l = ok.stored.long in omega arith)

    other : (i : ℕ) → i ≢ 0 → get_or ws i 0 ≡ get_or s.words i 0
    other i ne = get_or-set_other s.words 0 i (n + 1) 0 ne

    fresh : (j : ℕ) (x : View) (p : ℕ) → r ≤ p → get_elem? s.views j ≡ some x → x.who.number ≡ Some p → ⊥
    fresh j x p h at e = unseated s.views r ok.once p h j x at e

    draws_runs : Runs k (record { words = ws; homes = s.homes; views = set s.views id u })
    draws_runs =
        let next = d.next in
        record {
          lawful = ok.lawful;
          world = ok.world;
          histories = ok.histories;
          sound = ok.sound;
          attended = ok.attended;
          of_plan = ok.of_plan;
          marks = ok.marks;
          pairs = ok.pairs;
          marked = ok.marked;
          stored = unwritten k ok.stored 0 (n + 1) (λ x h e. let a = behind k x h in omega (arith, e, a));
          hashed = ok.hashed;
          seeks = λ j x at. ⊎_elim
              (λ a. subst (λ (y : View). Seeks k ok.pairs y.calls) a.1 (λ y rs e h. absurd (no_frame e)))
              (λ a. ok.seeks j x a.1) (at_set s.views id j u x at);
          seats = λ j x q at e. ⊎_elim
              (λ a. let z : n ≡ q = number_is (ap (λ (y : View). y.who.number) a.1 ∙ e) in
              subst (λ (y : View). SeatFits ok.world q y.calls) a.1
              (record {
                mirrors = ok.blank q (λ h y at is. fresh h y q (omega arith) at is);
                stacked = tt;
                few = omega arith;
                placed = tt;
                rests = tt;
                held = tt;
                fresh = tt;
                reset = none_reset _;
                counted = λ j y rs e. absurd (none_some e);
                told = λ d f c a b w at'. absurd (none_some at');
                single = λ on. omega arith;
                halted = unhalted ok.world ok.sound q (ok.blank q (λ h y at is. fresh h y q (omega arith) at is));
              }))
              (λ a. ok.seats j x q a.1 e) (at_set s.views id j u x at);
          once = λ p. omega (arith, total-set (λ y. times p (numbers y)) s.views id m.0 u me, ok.once p, once_more p n, ap (once_below p) rolled, ap (once_below p) next, ap (λ (x : View). times p (numbers x)) is);
          blank = λ q none. ok.blank q (λ j x at e. dite (ℕ_discrete j id)
              (λ same. none_some (sym (ap (λ (y : View). y.who.number) is) ∙ (ap (λ (y : View). y.who.number)
              (some-injective m.0 x (sym me ∙ subst (λ (i : ℕ). get_elem? s.views i ≡ some x) same at)) ∙ e)))
              (λ ne. none j x (set_else s.views id j u ne ∙ at) e));
          roll = let z = rolled in let y = near in omega arith;
          six = ok.six;
          planned = λ j x q at e. ⊎_elim (λ a. ap (λ (y : View). y.who.plan) (sym a.1) ∙ d.of_plan) (λ a. ok.planned j x q a.1 e) (at_set s.views id j u x at);
          silent = λ j x at e. ⊎_elim (λ a. ap (λ (y : View). y.calls) (sym a.1)) (λ a. ok.silent j x a.1 e) (at_set s.views id j u x at);
          deals = λ j x q at e. ⊎_elim
              (λ a. let z : n + 1 ≡ q = number_is (ap (λ (y : View). y.who.dealt) a.1 ∙ e) in
              record { first = a.0 ∙ d.first; next = rolled ∙ z; of_plan = ap (λ (y : View). y.who.plan) (sym a.1) ∙ d.of_plan })
              (λ a. absurd (a.0 ((ok.deals j x q a.1 e).first ∙ sym d.first))) (at_set s.views id j u x at);
        }

    draws_keeps : Keeps k (record { words = ws; homes = s.homes; views = set s.views id u })
    draws_keeps =
        let next = d.next in
        let shares = ok.lawful.shares in
        let in_plan = near in
        let few = ok.lawful.accounts in
        record {
          journal = kp.journal;
          replays = kp.replays;
          slots = kp.slots;
          shares = omega (
            arith,
            total-set (λ (x : View). x.ledger.share) s.views id m.0 u me,
            kp.shares,
            ap (λ (x : View). x.ledger.share) is,
            sum_drop k.shares.items n (omega arith),
            ap (undrawn k) rolled,
            ap (undrawn k) next,
            ap (λ (x : Plan). share_of x n) d.of_plan,
          );
          place = place_kept k kp.journal s id m.0 u ws s.homes refl me (ap (λ (x : View). x.ledger.out) (sym is)) (other version_at (λ e. omega arith))
              (λ a lt. other (balance_at k a) (λ e. omega arith)) kp.place;
          knows = λ j x at. ⊎_elim
              (λ a. subst (Knows k kp.journal) a.1 (record {
                holder = λ ne. absurd (ne refl);
                shut = λ ne. refl;
                looking = tt;
                looked = tt;
                seen = omega arith;
                own = λ p e. sym (kp.fresh p (let z : n ≡ p = number_is e in omega arith));
                quiet = λ e. absurd (none_some (sym e));
                past = tt;
                values = λ l none. absurd none;
              }))
              (λ a. kp.knows j x a.1) (at_set s.views id j u x at);
          fresh = λ q h. kp.fresh q (let z = rolled in omega arith);
          values = step_keeps 1 (homes_of k) (Reaches k) outs_of (FitsUnder k) s.homes s.views id m.0 u kp.values me
              (record { same = ap outs_of (sym is); rights = λ l among _. absurd (subst (λ (y : View). Among l (outs_of y)) is among) });
        }

  -- the first seat may draw the number that it deals next
  pub draws : Allows (Stand k) slots id m 0 (λ x. (x + 1) % 2 ^ 64) (Draws t m)
  draws s both long me small =
      let dl = d s both me in
      let next = dl.next in
      let few = both.runs.lawful.cpus in
      let up : (get_or s.words 0 0 + 1) % 2 ^ 64 ≡ n + 1 = let z = near s both me in omega arith in (
        u s both me,
        keeps,
        tt,
        subst (λ (i : ℕ). Stand k (record { words = set s.words 0 i; homes = s.homes; views = set s.views id (u s both me) })) (sym up)
            (record { runs = draws_runs s both me; keeps = draws_keeps s both me }),
        (
          dealt s both me ∙ ap Some (sym next),
          (λ i. (view (drawer m.0.who.plan (sym next i)) no_calls (with_share (share_of m.0.who.plan (sym next i))), m.1)),
        ),
      )

-- what the draw tells
pub drawn_by : (plan : Plan) (m m' : Me Slot View) (n x : ℕ) (t : Step Slot)
    → m.0 ≡ view (dealer plan n) no_calls no_ledger → Draws t m x m'
    → (x ≡ n) × (m'.0 ≡ view (drawer plan n) no_calls (with_share (share_of plan n)))
drawn_by plan m m' n x t is told =
    let at : x ≡ n = number_is (sym told.0 ∙ ap (λ (v : View). v.who.dealt) is) in
    let same : m.0.who.plan ≡ plan = ap (λ (v : View). v.who.plan) is in (
      at,
      ap (λ (y : Me Slot View). y.0) told.1
          ∙ (λ i. view (drawer (same i) (at i)) no_calls (with_share (share_of (same i) (at i)))),
    )
