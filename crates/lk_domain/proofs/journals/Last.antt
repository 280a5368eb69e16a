-- Where one seat has all numbers, and not the journal, the journal is at home.
use Rattle.std.proofs.Common.{◌≡◌, ⊎_elim, ℕ, ◌+◌, ◌<◌, ◌≤◌, List, [], ◌∷◌, ◌++◌, length, get_or}
use Rattle.std.proofs.Common.{take, drop, Option, Some, None, refl, sym, ap, ◌∙◌, subst, arith}
use Rattle.std.proofs.Common.{zero, suc}
use Rattle.lk_domain.proofs.Names.{TableId, State, get_elem?, dite, some, some-injective}
use Rattle.lk_domain.proofs.Names.{some-ne-none, ℕ_discrete, Entry, Calls, Hold, no_calls, way_in}
use Rattle.lk_domain.proofs.Names.{IsEnd, AtHome, Away, Keeps, Slot, balance, sole_count}
use Rattle.lk_domain.proofs.Names.{accounts_of, cpus_of, Stand, Fits, FitsUnder, Key, Reaches}
use Rattle.lk_domain.proofs.Names.{homes_of, lock_of, lodged, outs_of, numbers, times, balance_at}
use Rattle.lk_domain.proofs.Names.{Journal, Plan, Entries, View}
use Rattle.atomic_table.specs.Table.{Final, Seen}
use Rattle.lk_values.proofs.Guards.{idle_is_home}
use Rattle.lk_values.specs.Guarded.{AreFit, AreIdle}
use Rattle.lk_domain.proofs.{journals.Alone.out_is, journals.Purses.past_known}
use Rattle.lk_domain.proofs.seats.Exclusive.{hold_way, has_way}
use Rattle.lk_domain.proofs.seats.Totals.{terms_le, counted, once_le, drawn}
use Rattle.lk_domain.specs.Values.{cell_of}

-- the journal of a table at its end, and its words
pub record Ends (k : Plan) (v : View) (ws : List ℕ) (slot : Slot) : Type 0 where
  pub journal : Journal
  pub is : slot ≡ Some (Entries journal)
  pub end : IsEnd k v journal.entries.items
  pub words : (a : ℕ)
      → a < accounts_of k
      → get_or ws (balance_at k a) 0 ≡ balance k journal.entries.items a

module _ (k : Plan) (s : State Slot View) (both : Stand k s) (id : ℕ) (v : View)
    (me : get_elem? s.views id ≡ some v) (all : (q : ℕ) → q < cpus_of k → 1 ≤ times q (numbers v))
    (home : v.ledger.out ≡ None) where
  abbrev kp : Keeps k s
  kp = both.keeps

  has_number : (h : Away k kp.journal s) → sole_count h.view_is.calls.holds ≡ 1 → (o : Option ℕ)
      → h.view_is.who.number ≡ o → ⊥
  has_number h held None e =
      let c : h.view_is.calls ≡ no_calls = both.runs.silent h.seat h.view_is h.here e in
      omega (arith, held, ap (λ (x : Calls). sole_count x.holds) c)
  has_number h held (Some q) e =
      dite (ℕ_discrete h.seat id)
      (λ same. let no : None ≡ Some h.out =
      sym home ∙ (ap (λ (y : View). y.ledger.out)
      (some-injective v h.view_is (sym me ∙ subst (λ (i : ℕ). get_elem? s.views i ≡ some h.view_is) same h.here)) ∙ h.has) in cc)
      (λ ne. let below = drawn s.views (get_or s.words 0 0) both.runs.once h.seat h.view_is q h.here e in
      let a = terms_le (λ (y : View). times q (numbers y)) s.views id h.seat v h.view_is ne me h.here in
      let b = counted q h.view_is e in
      let c = both.runs.roll in
      let d = all q (omega arith) in
      let f = both.runs.once q in
      let g = once_le q (get_or s.words 0 0) in
      omega (arith, a, b, d, f, g))

  at_home : AtHome k kp.journal s
  at_home =
      ⊎_elim (λ h. h)
      (λ h. absurd (has_number h ((kp.knows h.seat h.view_is h.here).holder (out_is h.out h.view_is.ledger.out h.has)) h.view_is.who.number refl))
      kp.place

  pub ends : (slot : Slot) → get_elem? s.homes 0 ≡ some (some slot) → Ends k v s.words slot
  ends slot at =
      let h = at_home in
      record {
        journal = h.journal;
        is = let z : some slot ≡ some (Some (Entries h.journal)) = some-injective (some slot) (some (Some (Entries h.journal))) (sym at ∙ h.home) in some-injective slot (Some (Entries h.journal)) z;
        end = subst (IsEnd k v) (sym h.items)
            (record { replays = kp.replays; past = past_known k kp.journal v (kp.knows id v me); none = λ q le. kp.fresh q (let r = both.runs.roll in omega arith) });
        words = λ a lt. h.words.balances a lt ∙ ap (λ (js : List Entry). balance k js a) (sym h.items);
      }

  pub home_slot : (j : Journal) × (get_elem? s.homes 0 ≡ some (some (Some (Entries j))))
  home_slot = (at_home.journal, at_home.home)

pub ended_with : (k : Plan) (id : ℕ) (v : View) (ws : List ℕ) (xs : List Slot) (slot : Slot)
    → Final (Seen (Stand k) id v) ws xs → ((q : ℕ) → q < cpus_of k → 1 ≤ times q (numbers v))
    → v.ledger.out ≡ None → get_elem? xs 0 ≡ some slot → Ends k v ws slot
ended_with k id v ws xs slot fin all home at =
    let s = fin.0 in
    let j = home_slot k s fin.1.0 id v fin.1.1 all home in
    let is : slot ≡ Some (Entries j.0) = some-injective slot (Some (Entries j.0)) (sym at ∙ fin.4 0 (Some (Entries j.0)) j.1) in
    let e : Ends k v s.words slot =
    ends k s fin.1.0 id v fin.1.1 all home slot (subst (λ (z : Slot). get_elem? s.homes 0 ≡ some (some z)) (sym is) j.1) in
    subst (λ (l : List ℕ). Ends k v l slot) fin.2 e

-- Where one seat has all numbers and holds nothing, nobody holds a lock: each value is at home.

idle_end : (k : Plan) (s : State Slot View) (both : Stand k s) (id : ℕ) (v : View) → get_elem? s.views id ≡ some v
    → ((q : ℕ) → q < cpus_of k → 1 ≤ times q (numbers v)) → v.calls.holds ≡ [] → AreIdle (Reaches k) s.views
idle_end k s both id v me all none q i u here has =
    let l = lock_of k q in
    let way = hold_way u.calls.holds l has.manner has.out has.held in
    dite (ℕ_discrete i id)
    (λ is.
    let same : u ≡ v = some-injective u v (sym here ∙ (ap (λ (j : ℕ). get_elem? s.views j) is ∙ me)) in
    let no : None ≡ Some has.manner =
    ap (λ (hs : List Hold). way_in hs l) (sym none) ∙ (ap (λ (w : View). way_in w.calls.holds l) (sym same) ∙ way) in
    absurd (let z : ⊥ = cc no in z))
    (λ ne.
    let roll = get_or s.words 0 0 in
    let n = has_way k s both.runs i l u has.manner here way in
    let below = drawn s.views roll both.runs.once i u n.0 here n.1 in
    let a = terms_le (λ (y : View). times n.0 (numbers y)) s.views id i v u ne me here in
    let b = counted n.0 u n.1 in
    let c = both.runs.roll in
    let d = all n.0 (omega arith) in
    let f = both.runs.once n.0 in
    let g = once_le n.0 roll in
    absurd (omega (arith, a, b, d, f, g)))

pub values_end : (k : Plan) (id : ℕ) (v : View) (ws : List ℕ) (xs : List Slot) → Final (Seen (Stand k) id v) ws xs
    → ((q : ℕ) → q < cpus_of k → 1 ≤ times q (numbers v)) → v.calls.holds ≡ [] → AreFit 1 (homes_of k) (FitsUnder k) xs
values_end k id v ws xs fin all none l low =
    let s = fin.0 in
    let both = fin.1.0 in
    let h = idle_is_home 1 (homes_of k) (Reaches k) outs_of (FitsUnder k) s.homes s.views l both.keeps.values
    (idle_end k s both id v fin.1.1 all none) low in
    (h.value, fin.4 (1 + l) h.value h.home, h.meets)

-- what lies in the slot of a lock is a key, or nothing
pub is_lodged : (k : Plan) (l : ℕ) (x : Slot) → FitsUnder k l x → (key : Option Key) × (x ≡ lodged key)
is_lodged k l x fits = by (cell_of k l) fits
  where
    by : (o : Option TableId) → Fits o x → (key : Option Key) × (x ≡ lodged key)
    by None e = (None, e)
    by (Some id) e = (Some e.0, e.1)

word_at : (xs : List ℕ) (i x : ℕ) → get_elem? xs i ≡ some x → x ≡ get_or xs i 0
word_at [] i x e = absurd (some-ne-none x (sym e))
word_at (y ∷ ys) zero x e = sym (some-injective y x e)
word_at (y ∷ ys) (suc i) x e = word_at ys i x e

-- words of a table, from one on

get_drop : (xs : List ℕ) (i n : ℕ) → get_or (drop i xs) n 0 ≡ get_or xs (i + n) 0
get_drop xs zero n = ap (λ (j : ℕ). get_or xs j 0) (let z : n ≡ 0 + n = omega arith in z)
get_drop [] (suc i) n = refl
get_drop (x ∷ xs) (suc i) n = get_drop xs i n ∙ ap (λ (j : ℕ). get_or (x ∷ xs) j 0) (let z : suc (i + n) ≡ suc i + n = omega arith in z)

long_drop : (xs : List ℕ) (i n : ℕ) → i + n < length xs → n < length (drop i xs)
long_drop xs zero n h = omega arith
long_drop [] (suc i) n h = absurd (omega arith)
long_drop (x ∷ xs) (suc i) n h = long_drop xs i n (omega arith)

pub some_inside : (xs : List ℕ) (i x : ℕ) → get_elem? xs i ≡ some x → i < length xs
some_inside [] i x e = absurd (some-ne-none x (sym e))
some_inside (y ∷ ys) zero x e = omega arith
some_inside (y ∷ ys) (suc i) x e = let z = some_inside ys i x e in omega arith

take_more : (xs : List ℕ) (n : ℕ) → n < length xs → take (suc n) xs ≡ take n xs ++ get_or xs n 0 ∷ []
take_more [] n lt = absurd (omega arith)
take_more (x ∷ xs) zero lt = refl
take_more (x ∷ xs) (suc n) lt = ap (λ l. x ∷ l) (take_more xs n (omega arith))

-- one more is read
pub read_more : (ws : List ℕ) (i n x : ℕ) (bs : List ℕ) → i + n < length ws
    → get_elem? ws (i + n) ≡ some x → bs ≡ take n (drop i ws)
    → bs ++ x ∷ [] ≡ take (n + 1) (drop i ws)
read_more ws i n x bs lt got is =
    let val : x ≡ get_or (drop i ws) n 0 = word_at ws (i + n) x got ∙ sym (get_drop ws i n) in
    (λ j. is j ++ val j ∷ [])
    ∙ (sym (take_more (drop i ws) n (long_drop ws i n lt))
    ∙ ap (λ (j : ℕ). take j (drop i ws)) (let z : suc n ≡ n + 1 = omega arith in z))

-- they are those of another list
take_is : (xs bs : List ℕ) (n : ℕ) → n ≡ length bs → n ≤ length xs
    → ((a : ℕ) → a < n → get_or xs a 0 ≡ get_or bs a 0) → take n xs ≡ bs
take_is xs [] n e le same = ap (λ (j : ℕ). take j xs) e
take_is [] (b ∷ bs) n e le same = absurd (omega arith)
take_is (x ∷ xs) (b ∷ bs) n e le same =
    ap (λ (j : ℕ). take j (x ∷ xs)) e
    ∙ (λ j. same 0 (omega arith) j ∷ take_is xs bs (length bs) refl (omega arith) (λ a lt. same (suc a) (omega arith)) j)

pub are_read : (ws bs : List ℕ) (i n : ℕ) → n ≡ length bs → i + n ≤ length ws
    → ((a : ℕ) → a < n → get_or ws (i + a) 0 ≡ get_or bs a 0) → take n (drop i ws) ≡ bs
are_read ws bs i n e le same =
    take_is (drop i ws) bs n e (long ws i le) (λ a lt. get_drop ws i a ∙ same a lt)
  where
    long : (xs : List ℕ) (i : ℕ) → i + n ≤ length xs → n ≤ length (drop i xs)
    long xs zero h = omega arith
    long [] (suc i) h = omega arith
    long (x ∷ xs) (suc i) h = long xs i (omega arith)
