-- What the steps ask that write a word of the ledger.
use Rattle.std.proofs.Common.{◌≡◌, ◌≢◌, inl, inr, ⊎_elim, ℕ, ◌<◌, ◌≤◌, List, ◌∷◌, ◌++◌, length, set}
use Rattle.std.proofs.Common.{drop, get_or, Some, None, refl, sym, ap, ◌∙◌, subst, arith}
use Rattle.std.proofs.Common.{length-set, length-append, get_or-set_other, get_or-set_same}
use Rattle.lk_domain.proofs.Names.{at_set, Allows, Me, State, Step, keeps, rest, get_elem?, dite}
use Rattle.lk_domain.proofs.Names.{some, ℕ_discrete, Entry, AreEnded, ArePast, Away, Keeps, Knows}
use Rattle.lk_domain.proofs.Names.{Slot, balance, holds_first, undrawn, Ledger, Out, no_ledger}
use Rattle.lk_domain.proofs.Names.{IsRunningPlan, accounts_of, locks_of, Stand, IsNumbered, view}
use Rattle.lk_domain.proofs.Names.{balance_at, version_at, Journal, Plan, Entries, View}
use Rattle.atomic_table.proofs.Lists.{set_here}
use Rattle.atomic_table.specs.Table.{gives}
use Rattle.lk_names.specs.Journal.{Replays}
use Rattle.lk_domain.proofs.journals.Alone.{paged, some_out, out_is}
use Rattle.lk_domain.proofs.journals.Grown.{all_grow, places-append, places_kept, past_grows}
use Rattle.lk_domain.proofs.journals.Grown.{own_once, other_once, knows_grows, drop_front}
use Rattle.lk_domain.proofs.journals.Loads.{version_page, balance_page}
use Rattle.lk_domain.proofs.{journals.Purses.{same_slots, first_slot}, rows.Kept.set_at}
use Rattle.lk_domain.proofs.seats.Totals.{total-same, total-set, apart, drawn}
use Rattle.lk_domain.specs.{Ledgers.{stored, brought}, Places.{AllOf, places, places_from}}
use Rattle.lk_domain.specs.{Plays.{Stores, Brings}, Seats.MayCome}
use Rattle.lk_domain.proofs.journals.Alone as alone

-- for a seat that holds lock 0, and has the journal out
module _ (k : Plan) (s : State Slot View) (both : Stand k s) (id : ℕ) (v : View)
    (me : get_elem? s.views id ≡ some v) (n : IsNumbered v) (holds : holds_first v.calls) (o : Out)
    (has : v.ledger.out ≡ Some o) where
  abbrev kp : Keeps k s
  kp = both.keeps

  abbrev law : IsRunningPlan k
  law = both.runs.lawful

  kv : Knows k kp.journal v
  kv = kp.knows id v me

  h : Away k kp.journal s
  h = alone.away k s both id v me holds o has

  same_out : h.out ≡ o
  same_out = let is : Some h.out ≡ Some o = sym (alone.away_out k s both id v me holds h) ∙ has in cc

  is_me : h.seat ≡ id
  is_me = alone.away_is_me k s both id v me holds h

  quiet_here : (g : Ledger) → v.who.number ≡ None → g ≡ no_ledger
  quiet_here g e = let no : None ≡ Some n.0 = sym e ∙ n.1 in absurd (let z : ⊥ = cc in z)

  -- a balance is stored
  module _ (a x : ℕ) (lt : a < accounts_of k) where
    abbrev storer : View
    storer = view v.who v.calls (stored v.ledger o a x)

    abbrev ws : List ℕ
    ws = set s.words (balance_at k a) x

    other : (j : ℕ) → j ≢ balance_at k a → get_or ws j 0 ≡ get_or s.words j 0
    other j ne = get_or-set_other s.words (balance_at k a) j x 0 ne

    store_knows : Knows k kp.journal storer
    store_knows =
        record {
          holder = λ _. kv.holder (out_is o v.ledger.out has);
          shut = λ _. kv.shut (out_is o v.ledger.out has);
          looking = kv.looking;
          looked = kv.looked;
          seen = kv.seen;
          own = kv.own;
          quiet = λ e. quiet_here storer.ledger e;
          past = kv.past;
          values = kv.values;
        }

    store_word : (b : ℕ) → b < accounts_of k → get_or ws (balance_at k b) 0 ≡ get_or (set o.words a x) b 0
    store_word b less =
        dite (ℕ_discrete b a)
        (λ e.
        let in_words : balance_at k a < length s.words = (let z = both.runs.stored.long in let y = law.accounts in omega arith) in
        let in_out : a < length o.words = (let z = h.long in let y = ap (λ (y : Out). length y.words) same_out in omega (arith, z, y, lt)) in
        ap (λ (c : ℕ). get_or ws (balance_at k c) 0) e
        ∙ (get_or-set_same s.words (balance_at k a) x 0 in_words
        ∙ (sym (get_or-set_same o.words a x 0 in_out) ∙ ap (λ (c : ℕ). get_or (set o.words a x) c 0) (sym e))))
        (λ ne. other (balance_at k b) (λ e. ne (omega arith))
        ∙ (h.words b less ∙ (ap (λ (y : Out). get_or y.words b 0) same_out ∙ sym (get_or-set_other o.words a b x 0 ne))))

    pub store_stands : Stand k (record { words = ws; homes = s.homes; views = set s.views id storer })
    store_stands =
        record {
          runs = paged k s both.runs id v me n storer refl refl (balance_at k a) x (balance_page k law a lt) s.homes;
          keeps = record {
            journal = kp.journal;
            replays = kp.replays;
            slots = kp.slots;
            shares = omega (arith, kp.shares, total-same (λ (y : View). y.ledger.share) s.views id v storer me refl, ap (undrawn k) (other 0 (λ e. omega arith)));
            place = inr (record {
              seat = id;
              view_is = storer;
              out = record { list = o.list; room = o.room; words = set o.words a x; manner = o.manner; trail = o.trail };
              here = set_at s.views id v storer me;
              has = refl;
              list = ap (λ (y : Out). y.list) (sym same_out) ∙ h.list;
              room = ap (λ (y : Out). y.room) (sym same_out) ∙ h.room;
              long = length-set o.words a x ∙ (ap (λ (y : Out). length y.words) (sym same_out) ∙ h.long);
              home = h.home;
              version = other version_at (λ e. omega arith) ∙ h.version;
              words = store_word;
              sole = λ j y at ne. ⊎_elim (λ t. t.0) (λ t. h.sole j y t.1 ne ∙ is_me) (at_set s.views id j storer y at);
            });
            knows = λ j y at. ⊎_elim (λ t. subst (Knows k kp.journal) t.1 store_knows) (λ t. kp.knows j y t.1) (at_set s.views id j storer y at);
            fresh = λ q le. kp.fresh q (subst (λ (r : ℕ). r ≤ q) (other 0 (λ e. omega arith)) le);
            values = same_slots k s kp id v storer me store_knows refl;
          };
        }

  -- the journal is brought home
  module _ (j : Journal) (es : List Entry) (x : ℕ) (items : j.entries.items ≡ o.list ++ es)
      (all : AllOf n.0 es) (few : length es ≤ v.ledger.share)
      (replays : Replays k.balances.items (o.list ++ es))
      (words : (a : ℕ) → a < accounts_of k → get_or o.words a 0 ≡ balance k (o.list ++ es) a)
      (room : j.entries.room ≡ o.room) (size : x ≡ length j.entries.items) where
    abbrev bringer : View
    bringer = view v.who v.calls (brought v.ledger n.0 o es)

    abbrev ws' : List ℕ
    ws' = set s.words version_at x

    abbrev js : List Entry
    js = o.list ++ es

    list : o.list ≡ kp.journal
    list = ap (λ (y : Out). y.list) (sym same_out) ∙ h.list

    grown : kp.journal ++ es ≡ js
    grown = ap (λ (l : List Entry). l ++ es) (sym list)

    other' : (i : ℕ) → i ≢ version_at → get_or ws' i 0 ≡ get_or s.words i 0
    other' i ne = get_or-set_other s.words version_at i x 0 ne

    own_places : (q : ℕ) → v.who.number ≡ Some q → bringer.ledger.own ≡ places q js
    own_places q e =
        let e' : Some n.0 ≡ Some q = sym n.1 ∙ e in
        let pq : n.0 ≡ q = cc in
        ap (λ l. l ++ places_from (length o.list) n.0 es) (kv.own n.0 n.1 ∙ ap (places n.0) (sym list))
        ∙ (sym (places-append n.0 o.list es) ∙ ap (λ (i : ℕ). places i js) pq)

    bring_knows : Knows k js bringer
    bring_knows =
        record {
          holder = λ ne. absurd (ne refl);
          shut = λ ne. absurd (ne refl);
          looking = (holds, record { version = tt; loads = tt });
          looked = subst (λ (l : List Entry). AreEnded k l v.ledger.looks) grown (all_grow k kp.journal es v.ledger.looks kv.looked);
          seen = omega (arith, length-append o.list es);
          own = own_places;
          quiet = λ e. quiet_here bringer.ledger e;
          past = subst (λ (l : List Entry). ArePast k l v.who.ended) grown
              (past_grows k kp.journal es n.0 v.who.ended all (own_once k s both.runs id v n.0 me n.1) kv.past);
          values = kv.values;
        }

    others_know : (i : ℕ) (y : View) → i ≢ id → get_elem? s.views i ≡ some y → Knows k js y
    others_know i y ne at =
        subst (λ (l : List Entry). Knows k l y) grown
        (knows_grows k kp.journal es y n.0 (kp.knows i y at) all
        (λ e. ne (apart s.views (get_or s.words 0 0) both.runs.once id i v y n.0 me at n.1 e))
        (other_once k s both.runs id i v y n.0 ne me at n.1)
        (λ e. ne (alone.alone_seat k s both.runs id i v y me at (let sole = kv.holder (out_is o v.ledger.out has) in omega arith) (omega arith))))

    pub bring_stands : Stand k (record { words = ws'; homes = set s.homes 0 (some (Some (Entries j))); views = set s.views id bringer })
    bring_stands =
        let inside : 0 < length s.homes = (let z = kp.slots in omega arith) in
        let inside_words : 1 < length s.words = (let z = both.runs.stored.long in omega arith) in
        let below : n.0 < get_or s.words 0 0 = drawn s.views (get_or s.words 0 0) both.runs.once id v n.0 me n.1 in
        record {
          runs = paged k s both.runs id v me n bringer refl refl version_at x (version_page k) (set s.homes 0 (some (Some (Entries j))));
          keeps = record {
            journal = js;
            replays = replays;
            slots = length-set s.homes 0 (some (Some (Entries j))) ∙ kp.slots;
            shares = omega (arith, kp.shares, total-set (λ (y : View). y.ledger.share) s.views id v bringer me, ap (undrawn k) (other' 0 (λ e. omega arith)), length-append o.list es, ap (λ (l : List Entry). length l) list);
            place = inl (record {
              journal = j;
              home = set_here s.homes 0 (some (Some (Entries j))) inside;
              items = items;
              room = room ∙ (ap (λ (y : Out). y.room) (sym same_out) ∙ h.room);
              words = record {
                version = get_or-set_same s.words version_at x 0 inside_words ∙ (size ∙ ap (λ (l : List Entry). length l) items);
                balances = λ a lt. other' (balance_at k a) (λ e. omega arith) ∙ (h.words a lt ∙ (ap (λ (y : Out). get_or y.words a 0) same_out ∙ words a lt));
              };
              none_out = λ i y at. ⊎_elim (λ t. ap (λ (z : View). z.ledger.out) (sym t.1))
                  (λ t. ⊎_elim (λ e. e) (λ (q : (u : Out) × (y.ledger.out ≡ Some u)). absurd (t.0 (h.sole i y t.1 (out_is q.0 y.ledger.out q.1) ∙ is_me))) (some_out y.ledger.out))
                  (at_set s.views id i bringer y at);
            });
            knows = λ i y at. ⊎_elim (λ t. subst (Knows k js) t.1 bring_knows) (λ t. others_know i y t.0 t.1) (at_set s.views id i bringer y at);
            fresh = λ q le. let le' : get_or s.words 0 0 ≤ q = subst (λ (r : ℕ). r ≤ q) (other' 0 (λ e. omega arith)) le in
                ap (places q) (sym grown) ∙ (sym (places_kept n.0 q kp.journal es all (λ e. omega arith)) ∙ kp.fresh q le');
            values = first_slot k s kp id v bringer (some (Some (Entries j))) me bring_knows refl;
          };
        }

-- what the step calls ask

-- a balance is stored
pub stores : (k plan : Plan) (slots id : ℕ) (m : Me Slot View) (o : Out) (a i x : ℕ) (st : Step Slot)
    → k ≡ plan → m.0.who.plan ≡ plan → i ≡ balance_at plan a → st.word ≡ i → a < accounts_of plan
    → IsNumbered m.0 → holds_first m.0.calls → m.0.ledger.out ≡ Some o
    → Allows (Stand k) slots id m i (λ _. x) (λ _. Stores st m x)
stores k plan slots id m o a i x st same mine at word lt n holds has =
    subst (λ (j : ℕ). Allows (Stand k) slots id m j (λ _. x) (λ _. Stores st m x)) (sym at')
    (λ s both wide me _. (
      storer k s both id m.0 me n holds o has a x lt',
      keeps,
      tt,
      store_stands k s both id m.0 me n holds o has a x lt',
      λ b p e z.
          let same_a : a ≡ b = (let y = ap locks_of (mine ∙ sym same) in omega (arith, e, y, word, at')) in
          let p_is : Some o ≡ Some p = sym has ∙ z in
          let same_p : o ≡ p = cc in
          λ j. (view m.0.who m.0.calls (stored m.0.ledger (same_p j) (same_a j) x), m.1),
    ))
  where
    at' : i ≡ balance_at k a
    at' = at ∙ ap (λ (j : Plan). balance_at j a) (sym same)

    lt' : a < accounts_of k
    lt' = subst (λ (j : Plan). a < accounts_of j) (sym same) lt

-- the journal is brought home
pub brings : (k : Plan) (slots id : ℕ) (v : View) (j : Journal) (o : Out) (n : IsNumbered v)
    (es : List Entry) (xs : List (ℕ × Slot)) (x : ℕ) (st : Step Slot) → holds_first v.calls → v.ledger.out ≡ Some o
    → j.entries.items ≡ o.list ++ es → AllOf n.0 es → length es ≤ v.ledger.share
    → Replays k.balances.items (o.list ++ es)
    → ((a : ℕ) → a < accounts_of k → get_or o.words a 0 ≡ balance k (o.list ++ es) a)
    → j.entries.room ≡ o.room → x ≡ length j.entries.items
    → (let m : Me Slot View = (v, (0, Some (Entries j)) ∷ xs) in Allows (Stand k) slots id m version_at (λ _. x) (λ _. Brings st m x))
brings k slots id v j o n es xs x st holds has items all few replays words room size s both wide me _ = (
  bringer k s both id v me n holds o has j es x items all few replays words room size,
  gives,
  tt,
  bring_stands k s both id v me n holds o has j es x items all few replays words room size,
  λ o' j' p' xs' z z₁ z₂.
      let a : Some o ≡ Some o' = sym has ∙ z in
      let b : o ≡ o' = cc in
      let c : Some n.0 ≡ Some p' = sym n.1 ∙ z₂ in
      let d : n.0 ≡ p' = cc in
      let q : Some (Entries j) ≡ Some (Entries j') = ap (λ (l : List (ℕ × Slot)). (get_or l 0 (0, Some (Entries j))).1) z₁ in
      let e : j ≡ j' = cc in
      let f : es ≡ drop (length o'.list) j'.entries.items =
      sym (ap (λ (l : List Entry). drop (length o.list) l) items ∙ drop_front o.list es) ∙ (λ i. drop (length (b i).list) (e i).entries.items) in
      let g : xs ≡ xs' = ap rest z₁ in
      λ i. (view v.who v.calls (brought v.ledger (d i) (b i) (f i)), g i),
)

-- the same of a seat that is known by an equation
pub brings_at : (k plan : Plan) (slots id : ℕ) (m : Me Slot View) (v : View) (j : Journal) (xs : List (ℕ × Slot))
    (x : ℕ) (st : Step Slot) → k ≡ plan → m ≡ (v, (0, Some (Entries j)) ∷ xs) → (n : IsNumbered v) → holds_first v.calls
    → MayCome plan n.0 v.ledger j → x ≡ length j.entries.items
    → Allows (Stand k) slots id m version_at (λ _. x) (λ _. Brings st m x)
brings_at k plan slots id m v j xs x st same e n holds may size =
    let may' : MayCome k n.0 v.ledger j = subst (λ (q : Plan). MayCome q n.0 v.ledger j) (sym same) may in
    subst (λ (y : Me Slot View). Allows (Stand k) slots id y version_at (λ _. x) (λ _. Brings st y x)) (sym e)
    (brings k slots id v j may'.out n may'.more xs x st holds may'.has may'.items may'.worker may'.few may'.replays may'.words may'.room size)
