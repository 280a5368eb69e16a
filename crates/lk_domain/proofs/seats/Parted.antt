-- Seats are cut in two, and joined.
use Rattle.std.proofs.Common.{◌≡◌, ◌≢◌, ◌⊎◌, ⊎_elim, inl, inr, ℕ, zero, suc, ◌+◌, List, [], ◌∷◌}
use Rattle.std.proofs.Common.{◌++◌, length, map, set, get_or, Option, Some, None, refl, sym, ap}
use Rattle.std.proofs.Common.{◌∙◌, subst, arith}
use Rattle.std.proofs.lemmas.List.{map-append}
use Rattle.lk_domain.proofs.Names.{at_set, set_else, get_elem?, dite, some, some-injective}
use Rattle.lk_domain.proofs.Names.{some-ne-none, ℕ_discrete, step_keeps, Among, Calls, Hold}
use Rattle.lk_domain.proofs.Names.{Running, frame_in, held_in, no_calls, Keeps, Knows, Slot, Ledger}
use Rattle.lk_domain.proofs.Names.{Out, Past, no_ledger, Runs, SeatFits, Seeks, Stand, FitsUnder}
use Rattle.lk_domain.proofs.Names.{IsOutAt, Reaches, homes_of, outs_of, IsNumbered, all_past}
use Rattle.lk_domain.proofs.Names.{dealer, listed, numbers, own_number, past_of, times, view, Plan}
use Rattle.lk_domain.proofs.Names.{View}
use Rattle.atomic_table.proofs.Lists.{at_longer, at_last}
use Rattle.atomic_table.specs.Table.{Splits, Joins}
use Rattle.lk_values.proofs.Guards.{new_seat_keeps}
use Rattle.lk_domain.proofs.{journals.Purses.{past_more, past_known}, rows.Kept.set_at}
use Rattle.lk_domain.proofs.seats.Owners.{number_cases}
use Rattle.lk_domain.proofs.seats.Totals.{total-set, total-append, times-append}
use Rattle.lk_domain.specs.{Ledgers.with_share, Plans.share_of, Runs.Deals, Seated.HoldsNothing}
use Rattle.lk_domain.specs.Views.{drawer, newcomer, nobody, number_of, joined, with_more}

none_some : {a : ℕ} → None ≡ Some a → ⊥
none_some e = cc

no_frame : {x : Running} {rs : List Running} → [] ≡ x ∷ rs → ⊥
no_frame e = cc e

at_more : {A : Type 0} (l : List A) (x : A) (j : ℕ) (u : A) → get_elem? (l ++ x ∷ []) j ≡ some u
    → (get_elem? l j ≡ some u) ⊎ (x ≡ u)
at_more [] x zero u e = inr (some-injective x u e)
at_more [] x (suc j) u e = absurd (some-ne-none u (sym e))
at_more (y ∷ ys) x zero u e = inl e
at_more (y ∷ ys) x (suc j) u e = at_more ys x j u e

-- the first seat gives the number that it drew to a new one
pub splits : (k plan : Plan) (id n : ℕ) → Splits {S = Slot} (Stand k) id
    (view (drawer plan n) no_calls (with_share (share_of plan n)))
    (view (dealer plan (n + 1)) no_calls no_ledger)
    (view (newcomer plan n) no_calls (with_share (share_of plan n)))
splits k plan id n s both me =
    let ok : Runs k s = both.runs in
    let kp : Keeps k s = both.keeps in
    let g : Ledger = with_share (share_of plan n) in
    let v : View = view (drawer plan n) no_calls g in
    let w : View = view (dealer plan (n + 1)) no_calls no_ledger in
    let u : View = view (newcomer plan n) no_calls g in
    let vs : List View = set s.views id w in
    let d = ok.deals id v (n + 1) me refl in
    let each : (P : ℕ → View → Type 0) → P id w → ((y : View) → u ≡ y → (j : ℕ) → P j y)
    → ((j : ℕ) (y : View) → get_elem? s.views j ≡ some y → P j y) → (j : ℕ) (y : View)
    → get_elem? (vs ++ u ∷ []) j ≡ some y → P j y = λ P a b c j y at. ⊎_elim
    (λ inside. ⊎_elim (λ t. subst (λ (z : View). P j z) t.1 (subst (λ (i : ℕ). P i w) (sym t.0) a)) (λ t. c j y t.1)
    (at_set s.views id j w y inside))
    (λ t. b y t j) (at_more vs u j y at) in
    record {
      runs = record {
        lawful = ok.lawful;
        world = ok.world;
        histories = ok.histories;
        sound = ok.sound;
        attended = ok.attended;
        of_plan = ok.of_plan;
        marks = ok.marks;
        pairs = ok.pairs;
        stored = ok.stored;
        marked = ok.marked;
        hashed = ok.hashed;
        seeks = each (λ j y. Seeks k ok.pairs y.calls) (λ x rs e h. absurd (no_frame e))
            (λ y e j. subst (Seeks k ok.pairs) (ap (λ (z : View). z.calls) e) (λ x rs e h. absurd (no_frame e)))
            ok.seeks;
        seats = λ j y q. each (λ j y. y.who.number ≡ Some q → SeatFits ok.world q y.calls) (λ e. absurd (none_some e))
            (λ y e j is. subst (λ (c : Calls). SeatFits ok.world q c) (ap (λ (z : View). z.calls) e)
            (ok.seats id v q me (ap (λ (z : View). z.who.number) e ∙ is)))
            (λ j y at is. ok.seats j y q at is) j y;
        once = λ p. omega (arith, total-append (λ y. times p (numbers y)) vs (u ∷ []), total-set (λ y. times p (numbers y)) s.views id v w me, ok.once p);
        blank = λ q none. ok.blank q (λ j y at is. dite (ℕ_discrete j id)
            (λ e. none (length vs) u (at_last vs u (length vs) refl) (ap (λ (z : View). z.who.number)
            (some-injective v y (sym me ∙ subst (λ (i : ℕ). get_elem? s.views i ≡ some y) e at)) ∙ is))
            (λ away. none j y (at_longer vs (u ∷ []) j y (set_else s.views id j w away ∙ at)) is));
        roll = ok.roll;
        six = ok.six;
        planned = λ j y q. each (λ j y. y.who.number ≡ Some q → y.who.plan ≡ k) (λ e. absurd (none_some e))
            (λ y e j is. ap (λ (z : View). z.who.plan) (sym e) ∙ d.of_plan) (λ j y at is. ok.planned j y q at is) j y;
        silent = each (λ j y. y.who.number ≡ None → y.calls ≡ no_calls) (λ e. refl)
            (λ y e j is. ap (λ (z : View). z.calls) (sym e)) ok.silent;
        deals = λ j y q. each (λ j y. y.who.dealt ≡ Some q → Deals k (get_or s.words 0 0) j q y.who.plan)
            (λ e. record { first = d.first; next = d.next ∙ number_is e; of_plan = d.of_plan })
            (λ y e j is. absurd (none_some (ap (λ (z : View). z.who.dealt) e ∙ is))) (λ j y at is. ok.deals j y q at is) j y;
      };
      keeps = record {
        journal = kp.journal;
        replays = kp.replays;
        slots = kp.slots;
        shares = omega (arith, total-append (λ (y : View). y.ledger.share) vs (u ∷ []), total-set (λ (y : View). y.ledger.share) s.views id v w me, kp.shares);
        place = ⊎_elim
            (λ h. inl (record {
              journal = h.journal;
              home = h.home;
              items = h.items;
              room = h.room;
              words = h.words;
              none_out = each (λ j y. y.ledger.out ≡ None) refl (λ y e j. ap (λ (z : View). z.ledger.out) (sym e)) h.none_out;
            }))
            (λ h. inr (
            let ne : h.seat ≢ id = λ e. out_none h.out
            (ap (λ (y : View). y.ledger.out) (some-injective v h.view_is (sym me ∙ subst (λ (i : ℕ). get_elem? s.views i ≡ some h.view_is) e h.here)) ∙ h.has) in
            record {
              seat = h.seat;
              view_is = h.view_is;
              out = h.out;
              here = at_longer vs (u ∷ []) h.seat h.view_is (set_else s.views id h.seat w ne ∙ h.here);
              has = h.has;
              list = h.list;
              room = h.room;
              long = h.long;
              home = h.home;
              version = h.version;
              words = h.words;
              sole = each (λ j y. y.ledger.out ≢ None → j ≡ h.seat) (λ q. absurd (q refl))
                  (λ y e j q. absurd (q (ap (λ (z : View). z.ledger.out) (sym e)))) h.sole;
            }))
            kp.place;
        knows = each (λ j y. Knows k kp.journal y)
            (record { holder = λ q. absurd (q refl); shut = λ _. refl; looking = tt; looked = tt; seen = omega arith; own = λ p e. absurd (none_some e); quiet = λ e. refl; past = tt; values = λ l out. absurd out })
            (λ y e j. subst (Knows k kp.journal) e (record {
              holder = λ q. absurd (q refl);
              shut = λ _. refl;
              looking = tt;
              looked = tt;
              seen = omega arith;
              own = (kp.knows id v me).own;
              quiet = λ e. absurd (none_some (sym e));
              past = tt;
              values = λ l out. absurd out;
            }))
            kp.knows;
        fresh = kp.fresh;
        values = new_seat_keeps 1 (homes_of k) (Reaches k) outs_of (FitsUnder k) s.homes vs u
            (step_keeps 1 (homes_of k) (Reaches k) outs_of (FitsUnder k) s.homes s.views id v w kp.values me
            (record { same = refl; rights = λ l out _. absurd out })) refl;
      };
    }
  where
    number_is : {a b : ℕ} → Some a ≡ Some b → a ≡ b
    number_is e = grind (arith, e)

    out_none : (o : Out) → None ≡ Some o → ⊥
    out_none o e = cc

-- the numbers of what is kept
pub numbers_past : (o : Option ℕ) (g : Ledger) (xs : List Past)
    → listed o ++ map number_of xs ≡ map number_of (past_of o g ++ xs)
numbers_past None g xs = refl
numbers_past (Some p) g xs = refl

-- A seat takes over the numbers of another, which is in no call, holds nothing and has not the journal.
pub joins : (k : Plan) (id other : ℕ) (v u : View) → IsNumbered v → HoldsNothing u
    → Joins {S = Slot} (Stand k) id v other u (view (joined v.who u) v.calls (with_more v.ledger u.ledger.share))
    (view nobody no_calls no_ledger)
joins k id other v u number rests s both me ne at_other =
    let home : u.ledger.out ≡ None = rests.home in
    let ok : Runs k s = both.runs in
    let kp : Keeps k s = both.keeps in
    let w : View = view (joined v.who u) v.calls (with_more v.ledger u.ledger.share) in
    let z : View = view nobody no_calls no_ledger in
    let vs : List View = set s.views id w in
    let there : get_elem? s.views other ≡ some u = sym (set_else s.views id other w ne) ∙ at_other in
    let quiet : u.who.outs ≡ [] = none_with u.calls.holds rests.holds u.who.outs (kp.knows other u there).values in
    let each : (P : ℕ → View → Type 0) → P id w → ((j : ℕ) → P j z)
    → ((j : ℕ) (y : View) → get_elem? s.views j ≡ some y → P j y) → (j : ℕ) (y : View)
    → get_elem? (set vs other z) j ≡ some y → P j y = λ P a b c j y at. ⊎_elim
    (λ t. subst (λ (x : View). P j x) t.1 (b j))
    (λ t. ⊎_elim (λ q. subst (λ (x : View). P j x) q.1 (subst (λ (i : ℕ). P i w) (sym q.0) a)) (λ q. c j y q.1)
    (at_set s.views id j w y t.1))
    (at_set vs other j z y at) in
    record {
      runs = record {
        lawful = ok.lawful;
        world = ok.world;
        histories = ok.histories;
        sound = ok.sound;
        attended = ok.attended;
        of_plan = ok.of_plan;
        marks = ok.marks;
        pairs = ok.pairs;
        stored = ok.stored;
        marked = ok.marked;
        hashed = ok.hashed;
        seeks = each (λ j y. Seeks k ok.pairs y.calls) (ok.seeks id v me) (λ j x rs e h. absurd (no_frame e)) ok.seeks;
        seats = λ j y q. each (λ j y. y.who.number ≡ Some q → SeatFits ok.world q y.calls)
            (λ e. ok.seats id v q me e) (λ j e. absurd (none_some e)) (λ j y at is. ok.seats j y q at is) j y;
        once = λ p.
            let f : View → ℕ = λ y. times p (numbers y) in
            omega (arith, total-set f vs other u z at_other, total-set f s.views id v w me, ok.once p, more p);
        blank = λ q none. ⊎_elim
            (λ e. let m = (ok.seats other u q there e).mirrors in record {
              frames = λ d. m.frames d ∙ ap (λ (xs : List Running). frame_in xs d) rests.frames;
              holds = λ d l. m.holds d l ∙ ap (λ (hs : List Hold). held_in hs d l) rests.holds;
            })
            (λ not. ok.blank q (λ j y at is. dite (ℕ_discrete j other)
            (λ e. not (ap (λ (x : View). x.who.number)
            (some-injective u y (sym there ∙ subst (λ (i : ℕ). get_elem? s.views i ≡ some y) e at)) ∙ is))
            (λ far. dite (ℕ_discrete j id)
            (λ e. none id w (set_else vs other id z (λ x. ne (sym x)) ∙ set_at s.views id v w me) (ap (λ (x : View). x.who.number)
            (some-injective v y (sym me ∙ subst (λ (i : ℕ). get_elem? s.views i ≡ some y) e at)) ∙ is))
            (λ away. none j y (set_else vs other j z far ∙ (set_else s.views id j w away ∙ at)) is))))
            (number_cases u.who.number q);
        roll = ok.roll;
        six = ok.six;
        planned = λ j y q. each (λ j y. y.who.number ≡ Some q → y.who.plan ≡ k)
            (λ e. ok.planned id v q me e) (λ j e. absurd (none_some e)) (λ j y at is. ok.planned j y q at is) j y;
        silent = each (λ j y. y.who.number ≡ None → y.calls ≡ no_calls) (ok.silent id v me) (λ j e. refl) ok.silent;
        deals = λ j y q. each (λ j y. y.who.dealt ≡ Some q → Deals k (get_or s.words 0 0) j q y.who.plan)
            (ok.deals id v q me) (λ j e. absurd (none_some e)) (λ j y at is. ok.deals j y q at is) j y;
      };
      keeps = record {
        journal = kp.journal;
        replays = kp.replays;
        slots = kp.slots;
        shares = let f : View → ℕ = λ y. y.ledger.share in
            omega (arith, total-set f vs other u z at_other, total-set f s.views id v w me, kp.shares);
        place = ⊎_elim
            (λ h. inl (record {
              journal = h.journal;
              home = h.home;
              items = h.items;
              room = h.room;
              words = h.words;
              none_out = each (λ j y. y.ledger.out ≡ None) (h.none_out id v me) (λ j. refl) h.none_out;
            }))
            (λ h. inr (dite (ℕ_discrete h.seat id)
            (λ e. record {
              seat = id;
              view_is = w;
              out = h.out;
              here = set_else vs other id z (λ q. ne (sym q)) ∙ set_at s.views id v w me;
              has = ap (λ (y : View). y.ledger.out) (some-injective v h.view_is (sym me ∙ subst (λ (i : ℕ). get_elem? s.views i ≡ some h.view_is) e h.here)) ∙ h.has;
              list = h.list;
              room = h.room;
              long = h.long;
              home = h.home;
              version = h.version;
              words = h.words;
              sole = each (λ j y. y.ledger.out ≢ None → j ≡ id) (λ _. refl) (λ j q. absurd (q refl)) (λ j y at q. h.sole j y at q ∙ e);
            })
            (λ away.
            let apart : h.seat ≢ other = λ e. out_none h.out
            (sym home ∙ (ap (λ (y : View). y.ledger.out) (some-injective u h.view_is (sym there ∙ subst (λ (i : ℕ). get_elem? s.views i ≡ some h.view_is) e h.here)) ∙ h.has)) in
            record {
              seat = h.seat;
              view_is = h.view_is;
              out = h.out;
              here = set_else vs other h.seat z apart ∙ (set_else s.views id h.seat w away ∙ h.here);
              has = h.has;
              list = h.list;
              room = h.room;
              long = h.long;
              home = h.home;
              version = h.version;
              words = h.words;
              sole = each (λ j y. y.ledger.out ≢ None → j ≡ h.seat) (λ q. h.sole id v me q) (λ j q. absurd (q refl)) h.sole;
            })))
            kp.place;
        knows = each (λ j y. Knows k kp.journal y)
            (let q = kp.knows id v me in record {
              holder = q.holder;
              shut = q.shut;
              looking = q.looking;
              looked = q.looked;
              seen = q.seen;
              own = q.own;
              quiet = λ e. absurd (none_some (sym e ∙ number.1));
              past = past_more k kp.journal v.who.ended (all_past u) q.past (past_known k kp.journal u (kp.knows other u there));
              values = q.values;
            })
            (λ j. record { holder = λ q. absurd (q refl); shut = λ _. refl; looking = tt; looked = tt; seen = omega arith; own = λ p e. absurd (none_some e); quiet = λ e. refl; past = tt; values = λ l out. absurd out })
            kp.knows;
        fresh = kp.fresh;
        values = step_keeps 1 (homes_of k) (Reaches k) outs_of (FitsUnder k) s.homes vs other u z
            (step_keeps 1 (homes_of k) (Reaches k) outs_of (FitsUnder k) s.homes s.views id v w kp.values me
            (record { same = refl; rights = λ l out has. has })) at_other
            (record { same = sym quiet; rights = λ l out _. absurd (subst (Among l) quiet out) });
      };
    }
  where
    out_none : (o : Out) → None ≡ Some o → ⊥
    out_none o e = cc

    -- who holds nothing has no value out
    none_with : (hs : List Hold) → hs ≡ [] → (xs : List ℕ) → ((q : ℕ) → Among q xs → IsOutAt k q u.who.number hs) → xs ≡ []
    none_with hs none [] out = refl
    none_with hs none (x ∷ xs) out =
        let is = subst (IsOutAt k x u.who.number) none (out x (inl refl)) in
        absurd (let no = is.held in let z : ⊥ = cc no in z)

    more : (p : ℕ) → times p (numbers (view (joined v.who u) v.calls (with_more v.ledger u.ledger.share)))
        ≡ times p (numbers v) + times p (numbers u)
    more p =
        let a = listed v.who.number in
        let b = map number_of v.who.ended in
        let c = map number_of (all_past u) in
        let e : map number_of (v.who.ended ++ all_past u) ≡ b ++ c = map-append number_of v.who.ended (all_past u) in
        let d : numbers u ≡ c = numbers_past u.who.number u.ledger u.who.ended in
        omega (arith, ap (λ (xs : List ℕ). times p (a ++ xs)) e, times-append p a (b ++ c), times-append p b c, times-append p a b, ap (times p) d)

-- the same of a seat that is known by an equation
pub splits_at : (k plan : Plan) (id n : ℕ) (v : View)
    → v ≡ view (drawer plan n) no_calls (with_share (share_of plan n))
    → Splits {S = Slot} (Stand k) id v (view (dealer v.who.plan (own_number v.who.dealt)) no_calls no_ledger)
    (view (newcomer v.who.plan (own_number v.who.number)) no_calls v.ledger)
splits_at k plan id n v is =
    subst (λ (x : View). Splits {S = Slot} (Stand k) id x (view (dealer x.who.plan (own_number x.who.dealt)) no_calls no_ledger)
    (view (newcomer x.who.plan (own_number x.who.number)) no_calls x.ledger)) (sym is) (splits k plan id n)
