-- The columns of acts grow.
use Rattle.std.proofs.Common.{◌≡◌, ℕ, zero, suc, ◌<◌, ◌≤◌, ◌+◌, List, [], ◌∷◌, ◌++◌, refl, sym, ◌∙◌}
use Rattle.std.proofs.Common.{ap, subst, length, Some, arith, inl, inr, length-append, get_or, set}
use Rattle.std.proofs.Common.{length-set, slice_get}
use Rattle.lk_reach.proofs.Names.{cases_eq, slice_get-get_or, slice_get_within, get-append}
use Rattle.lk_reach.proofs.Names.{get-append_new, AreColumns, LeadsTo, Book}
use Rattle.lk_reach.proofs.Kept.{front_get, one_value, set_other, set_same}
use Rattle.lk_reach.specs.{Edges.{away_in, edges_in, one_away}, Explored.{AddsThen, AreEmpty}}

-- an act led to one number
pub leads_one : (b : Book) (k i j h : ℕ) → LeadsTo b k i j → LeadsTo b k i h → h ≡ j
leads_one b k i j h x y =
    let same : y.column ≡ x.column = one_value (slice_get b.thens.items i) y.column x.column y.is x.is in
    one_value (slice_get x.column k) h j (subst (λ (c : List ℕ). slice_get c k ≡ Some h) same y.then) x.then

-- one number more at the end of a column
sum_last : (a b : ℕ) → a ≡ b → a + 0 ≡ 0 + b
sum_last a b e = omega (arith, e)

sum_then : (a b c d : ℕ) → b ≡ c + d → a + b ≡ (a + c) + d
sum_then a b c d e = omega (arith, e)

sum_first : (a b c d : ℕ) → a ≡ b + d → a + c ≡ (b + c) + d
sum_first a b c d e = omega (arith, e)

away_push : (from n : ℕ) (xs : List ℕ) (j : ℕ) → n ≡ from + length xs
    → away_in from (xs ++ j ∷ []) ≡ away_in from xs + one_away j n
away_push from n [] j e =
    let same : from ≡ n = omega (arith, e) in
    sum_last (one_away j from) (one_away j n) (ap (λ (k : ℕ). one_away j k) same)
away_push from n (x ∷ xs) j e =
    sum_then (one_away x from) (away_in (from + 1) (xs ++ j ∷ [])) (away_in (from + 1) xs) (one_away j n)
    (away_push (from + 1) n xs j (omega (arith, e)))

-- one column has so many edges more
edges_set : (cs : List (List ℕ)) (i more : ℕ) (old new : List ℕ) → slice_get cs i ≡ Some old
    → away_in 0 new ≡ away_in 0 old + more → edges_in (set cs i new) ≡ edges_in cs + more
edges_set [] i more old new here e = cc
edges_set (c ∷ cs) zero more old new here e =
    let same : c ≡ old = one_value (Some c) c old refl here in
    sum_first (away_in 0 new) (away_in 0 c) (edges_in cs) more
    (e ∙ ap (λ (z : List ℕ). away_in 0 z + more) (sym same))
edges_set (c ∷ cs) (suc i) more old new here e =
    sum_then (away_in 0 c) (edges_in (set cs i new)) (edges_in cs) more (edges_set cs i more old new here e)

module _ (b c : Book) (number then : ℕ) (low : number < length b.thens.items)
    (adds : AddsThen b.thens.items c.thens.items number then) where
  abbrev column : List ℕ
  column = get_or b.thens.items number []

  was : slice_get b.thens.items number ≡ Some column
  was = slice_get-get_or b.thens.items number [] low

  is_now : slice_get c.thens.items number ≡ Some (column ++ then ∷ [])
  is_now = subst (λ (cs : List (List ℕ)). slice_get cs number ≡ Some (column ++ then ∷ [])) (sym adds)
      (set_same b.thens.items number (column ++ then ∷ []) low)

  other : (i : ℕ) → (i ≡ number → ⊥) → slice_get c.thens.items i ≡ slice_get b.thens.items i
  other i ne = ap (λ (cs : List (List ℕ)). slice_get cs i) adds
      ∙ set_other b.thens.items number i (column ++ then ∷ []) ne

  -- what was written down stays so
  pub leads_grown : (k i j : ℕ) → LeadsTo b k i j → LeadsTo c k i j
  leads_grown k i j x =
      elim (cases_eq i number) [
        | inl e ↦
            let same : x.column ≡ column = one_value (slice_get b.thens.items number) x.column column
            (subst (λ (h : ℕ). slice_get b.thens.items h ≡ Some x.column) e x.is) was in
            record {
              column = column ++ then ∷ [];
              is = subst (λ (h : ℕ). slice_get c.thens.items h ≡ Some (column ++ then ∷ [])) (sym e) is_now;
              then = front_get column (then ∷ []) k j (subst (λ (z : List ℕ). slice_get z k ≡ Some j) same x.then);
            }
        | inr ne ↦ record { column = x.column; is = other i ne ∙ x.is; then = x.then }
      ]

  module _ (acts k : ℕ) (x : AreColumns b acts k number) where
    -- the column of an act that is made next has a number for each state before
    as_long : length column ≡ k
    as_long = x.others number column was (omega arith)

    -- and then for the state itself
    pub leads_now : LeadsTo c k number then
    leads_now = record {
      column = column ++ then ∷ [];
      is = is_now;
      then = subst (λ (h : ℕ). slice_get (column ++ then ∷ []) h ≡ Some then) as_long (get-append_new column then);
    }

    pub columns_push : c.edges ≡ b.edges + one_away then k → AreColumns c acts k (number + 1)
    columns_push more = record {
      width = ap (λ (cs : List (List ℕ)). length cs) adds ∙ length-set b.thens.items number (column ++ then ∷ []) ∙ x.width;
      first = λ i col here before.
          elim (cases_eq i number) [
            | inl e ↦
                let same : col ≡ column ++ then ∷ [] = one_value (slice_get c.thens.items number) col (column ++ then ∷ [])
                (subst (λ (h : ℕ). slice_get c.thens.items h ≡ Some col) e here) is_now in
                let size = length-append column (then ∷ []) in
                let long = as_long in
                ap (λ (z : List ℕ). length z) same ∙ omega (arith, size, long)
            | inr ne ↦ x.first i col (sym (other i ne) ∙ here) (omega (arith, before, ne))
          ];
      others = λ i col here high.
          x.others i col (sym (other i (λ e. omega (arith, e, high))) ∙ here) (omega (arith, high));
      edges =
          let one = away_push 0 k column then (let long = as_long in omega (arith, long)) in
          let all = edges_set b.thens.items number (one_away then k) column (column ++ then ∷ []) was one in
          more ∙ ap (λ (n : ℕ). n + one_away then k) x.edges ∙ sym all
          ∙ ap edges_in (sym adds);
    }

-- after all acts on a state
pub columns_next : (b : Book) (acts k n : ℕ) → acts ≤ n → AreColumns b acts k n → AreColumns b acts (k + 1) 0
columns_next b acts k n most x = record {
  width = x.width;
  first = λ i col here none. absurd (omega (arith, none));
  others = λ i col here high.
      let low = slice_get_within b.thens.items i col here in
      let width = x.width in
      x.first i col here (omega (arith, low, width, most));
  edges = x.edges;
}

-- one more column without a number
pub empty_more : (old new : List (List ℕ)) (column : List ℕ) (n : ℕ) → column ≡ [] → new ≡ old ++ column ∷ []
    → AreEmpty old n → AreEmpty new (n + 1)
empty_more old new column n none pushed x = record {
  width = ap (λ (cs : List (List ℕ)). length cs) pushed ∙ length-append old (column ∷ []) ∙ ap (λ (k : ℕ). k + 1) x.width;
  each = λ i c here.
      elim (get-append old column i c (subst (λ (cs : List (List ℕ)). slice_get cs i ≡ Some c) pushed here)) [
        | inl before ↦ x.each i c before
        | inr last ↦ last.1 ∙ none
      ];
}

-- before the first act
edges_none : (cs : List (List ℕ)) → ((i : ℕ) (c : List ℕ) → slice_get cs i ≡ Some c → c ≡ []) → edges_in cs ≡ 0
edges_none [] each = refl
edges_none (c ∷ cs) each =
    let first = ap (λ (z : List ℕ). away_in 0 z) (each zero c refl) in
    let rest = edges_none cs (λ i d here. each (suc i) d here) in
    both (away_in 0 c) (edges_in cs) first rest
  where
    both : (a b : ℕ) → a ≡ 0 → b ≡ 0 → a + b ≡ 0
    both a b e f = omega (arith, e, f)

pub columns_none : (b : Book) (acts : ℕ) → AreEmpty b.thens.items acts → b.edges ≡ 0 → AreColumns b acts 0 0
columns_none b acts x zero_is = record {
  width = x.width;
  first = λ i col here none. absurd (omega (arith, none));
  others = λ i col here high. ap (λ (z : List ℕ). length z) (x.each i col here);
  edges = zero_is ∙ sym (edges_none b.thens.items x.each);
}

-- where an act of a number led on a state that was left
pub leads_there : (b : Book) (acts left k i : ℕ) → AreColumns b acts left 0 → k < left → i < acts
    → (j : ℕ) × LeadsTo b k i j
leads_there b acts left k i x low within =
    let width = x.width in
    let column = get_or b.thens.items i [] in
    let is : slice_get b.thens.items i ≡ Some column = slice_get-get_or b.thens.items i [] (omega (arith, within, width)) in
    let size = x.others i column is (omega arith) in (
      get_or column k 0,
      record {
        column = column;
        is = is;
        then = slice_get-get_or column k 0 (omega (arith, low, size));
      },
    )

-- a number stands below the states that were left
pub leads_low : (b : Book) (acts left k i j : ℕ) → AreColumns b acts left 0 → LeadsTo b k i j → k < left
leads_low b acts left k i j x l =
    let low = slice_get_within l.column k j l.then in
    let size = x.others i l.column l.is (omega arith) in
    omega (arith, low, size)

-- and its column is that of an act
pub leads_act : (b : Book) (acts left k i j : ℕ) → AreColumns b acts left 0 → LeadsTo b k i j → i < acts
leads_act b acts left k i j x l =
    let low = slice_get_within b.thens.items i l.column l.is in
    let width = x.width in
    omega (arith, low, width)
