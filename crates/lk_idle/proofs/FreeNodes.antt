-- Nodes that no frame has.
use Rattle.std.proofs.Common.{◌≡◌, ◌≢◌, ℕ, ◌+◌, Bool, true, false, List, [], ◌∷◌, ◌++◌, Option}
use Rattle.std.proofs.Common.{Some, None, ◌||◌, ◌⊎◌, length, take, get_or, set, slice_get, ap, refl}
use Rattle.std.proofs.Common.{sym, ◌∙◌, subst, zero, suc, arith, inl, inr, length-set, ◌==◌}
use Rattle.std.proofs.lemmas.Bool.{cases_eq}
use Rattle.std.proofs.lemmas.List.{ext_get_or, get_or-set_same, get_or-set_other, get_or_past}
use Rattle.std.specs.Prelude.{unwrap_or}
use Rattle.lk_idle.proofs.Names.{cases_lt, set_past, NodeName, rest_frame, rest_node, Frame, Node}
use Rattle.lk_idle.proofs.Names.{freed_node, is_owned, owns}
use Rattle.lk_idle.specs.Free.{freed_nodes}

-- lists of nodes

pub rest_freed : (b : Bool) → freed_node b rest_node ≡ rest_node
rest_freed true = refl
rest_freed false = refl

pub length_freed : (fs : List Frame) (i : ℕ) (xs : List Node) → length (freed_nodes fs i xs) ≡ length xs
length_freed fs i [] = refl
length_freed fs i (x ∷ xs) = ap suc (length_freed fs (suc i) xs)

get_from : (fs : List Frame) (i : ℕ) (xs : List Node) (j : ℕ)
    → get_or (freed_nodes fs i xs) j rest_node ≡ freed_node (is_owned fs (i + j)) (get_or xs j rest_node)
get_from fs i [] j = sym (rest_freed (is_owned fs (i + j)))
get_from fs i (x ∷ xs) zero =
    let same : i ≡ i + 0 = omega arith in
    ap (λ k. freed_node (is_owned fs k) x) same
get_from fs i (x ∷ xs) (suc j) =
    let same : suc i + j ≡ i + suc j = omega arith in
    get_from fs (suc i) xs j ∙ ap (λ k. freed_node (is_owned fs k) (get_or xs j rest_node)) same

pub get_freed : (fs : List Frame) (xs : List Node) (j : ℕ)
    → get_or (freed_nodes fs 0 xs) j rest_node ≡ freed_node (is_owned fs j) (get_or xs j rest_node)
get_freed fs xs j =
    let same : 0 + j ≡ j = omega arith in
    get_from fs 0 xs j ∙ ap (λ k. freed_node (is_owned fs k) (get_or xs j rest_node)) same

-- what is so of each node
pub same_freed : (fs gs : List Frame) (xs ys : List Node) → length xs ≡ length ys
    → ((j : ℕ) → freed_node (is_owned fs j) (get_or xs j rest_node) ≡ freed_node (is_owned gs j) (get_or ys j rest_node))
    → freed_nodes fs 0 xs ≡ freed_nodes gs 0 ys
same_freed fs gs xs ys size each =
    ext_get_or rest_node (freed_nodes fs 0 xs) (freed_nodes gs 0 ys)
    (length_freed fs 0 xs ∙ size ∙ sym (length_freed gs 0 ys))
    (λ j low. get_freed fs xs j ∙ each j ∙ sym (get_freed gs ys j))

-- freed twice, the second time by fewer owners
twice : (b c : Bool) (x : Node) → (b ≡ true → c ≡ true) → freed_node b (freed_node c x) ≡ freed_node b x
twice false c x fewer = refl
twice true true x fewer = refl
twice true false x fewer = absurd (apart (fewer refl))
  where
    apart : false ≡ true → ⊥
    apart e = cc

pub fewer_freed : (fs gs : List Frame) (xs : List Node)
    → ((j : ℕ) → is_owned gs j ≡ true → is_owned fs j ≡ true)
    → freed_nodes gs 0 (freed_nodes fs 0 xs) ≡ freed_nodes gs 0 xs
fewer_freed fs gs xs fewer =
    same_freed gs gs (freed_nodes fs 0 xs) xs (length_freed fs 0 xs)
    (λ j. ap (λ x. freed_node (is_owned gs j) x) (get_freed fs xs j)
    ∙ twice (is_owned gs j) (is_owned fs j) (get_or xs j rest_node) (fewer j))

-- a field of one node is stored
module _ (fs : List Frame) (xs : List Node) (i : ℕ) where
  abbrev ys : List Node
  ys = freed_nodes fs 0 xs

  other : (j : ℕ) → freed_node (is_owned fs j) (get_or ys j rest_node)
      ≡ freed_node (is_owned fs j) (get_or xs j rest_node)
  other j =
      ap (λ x. freed_node (is_owned fs j) x) (get_freed fs xs j)
      ∙ twice (is_owned fs j) (is_owned fs j) (get_or xs j rest_node) (λ e. e)

  pub stored_freed : (k : Node → Node)
      → ((b : Bool) (x : Node) → freed_node b (k (freed_node b x)) ≡ freed_node b (k x))
      → freed_nodes fs 0 (set ys i (k (get_or ys i rest_node))) ≡ freed_nodes fs 0 (set xs i (k (get_or xs i rest_node)))
  stored_freed k same =
      same_freed fs fs (set ys i (k (get_or ys i rest_node))) (set xs i (k (get_or xs i rest_node)))
      (length-set ys i (k (get_or ys i rest_node)) ∙ length_freed fs 0 xs
      ∙ sym (length-set xs i (k (get_or xs i rest_node)))) each
    where
      here : k (get_or ys i rest_node) ≡ k (freed_node (is_owned fs i) (get_or xs i rest_node))
      here = ap (λ x. k x) (get_freed fs xs i)

      each : (j : ℕ) → freed_node (is_owned fs j) (get_or (set ys i (k (get_or ys i rest_node))) j rest_node)
          ≡ freed_node (is_owned fs j) (get_or (set xs i (k (get_or xs i rest_node))) j rest_node)
      each j = elim (cases_eq j i) [
        | inl e ↦ elim (cases_lt i (length xs)) [
          | inl low ↦
              let size = length_freed fs 0 xs in
              subst (λ (n : ℕ). freed_node (is_owned fs n) (get_or (set ys i (k (get_or ys i rest_node))) n rest_node)
              ≡ freed_node (is_owned fs n) (get_or (set xs i (k (get_or xs i rest_node))) n rest_node)) (sym e)
              (ap (λ x. freed_node (is_owned fs i) x)
              (get_or-set_same ys i (k (get_or ys i rest_node)) rest_node (omega (arith, low, size)) ∙ here)
              ∙ same (is_owned fs i) (get_or xs i rest_node)
              ∙ sym (ap (λ x. freed_node (is_owned fs i) x)
              (get_or-set_same xs i (k (get_or xs i rest_node)) rest_node low)))
          | inr high ↦
              let size = length_freed fs 0 xs in
              ap (λ zs. freed_node (is_owned fs j) (get_or zs j rest_node))
              (set_past ys i (k (get_or ys i rest_node)) (omega (arith, high, size)))
              ∙ other j
              ∙ sym (ap (λ zs. freed_node (is_owned fs j) (get_or zs j rest_node))
              (set_past xs i (k (get_or xs i rest_node)) high))
        ]
        | inr ne ↦
            ap (λ x. freed_node (is_owned fs j) x)
            (get_or-set_other ys i j (k (get_or ys i rest_node)) rest_node ne)
            ∙ other j
            ∙ sym (ap (λ x. freed_node (is_owned fs j) x)
            (get_or-set_other xs i j (k (get_or xs i rest_node)) rest_node ne))
      ]

-- one node is reset, and may have an owner then
pub reset_freed : (fs gs : List Frame) (xs : List Node) (i : ℕ)
    → ((j : ℕ) → j ≢ i → is_owned gs j ≡ true → is_owned fs j ≡ true)
    → freed_nodes gs 0 (set (freed_nodes fs 0 xs) i rest_node) ≡ freed_nodes gs 0 (set xs i rest_node)
reset_freed fs gs xs i fewer =
    same_freed gs gs (set (freed_nodes fs 0 xs) i rest_node) (set xs i rest_node)
    (length-set (freed_nodes fs 0 xs) i rest_node ∙ length_freed fs 0 xs ∙ sym (length-set xs i rest_node)) each
  where
    there : (zs : List Node) → get_or (set zs i rest_node) i rest_node ≡ rest_node
    there zs = elim (cases_lt i (length zs)) [
      | inl low ↦ get_or-set_same zs i rest_node rest_node low
      | inr high ↦ ap (λ us. get_or us i rest_node) (set_past zs i rest_node high) ∙ get_or_past zs i rest_node high
    ]

    each : (j : ℕ) → freed_node (is_owned gs j) (get_or (set (freed_nodes fs 0 xs) i rest_node) j rest_node)
        ≡ freed_node (is_owned gs j) (get_or (set xs i rest_node) j rest_node)
    each j = elim (cases_eq j i) [
      | inl e ↦
          subst (λ (n : ℕ). freed_node (is_owned gs n) (get_or (set (freed_nodes fs 0 xs) i rest_node) n rest_node)
          ≡ freed_node (is_owned gs n) (get_or (set xs i rest_node) n rest_node)) (sym e)
          (ap (λ x. freed_node (is_owned gs i) x) (there (freed_nodes fs 0 xs) ∙ sym (there xs)))
      | inr ne ↦
          ap (λ x. freed_node (is_owned gs j) x) (get_or-set_other (freed_nodes fs 0 xs) i j rest_node rest_node ne)
          ∙ ap (λ x. freed_node (is_owned gs j) x) (get_freed fs xs j)
          ∙ twice (is_owned gs j) (is_owned fs j) (get_or xs j rest_node) (fewer j ne)
          ∙ sym (ap (λ x. freed_node (is_owned gs j) x) (get_or-set_other xs i j rest_node rest_node ne))
    ]

-- owners

or_left : (a b : Bool) → a ≡ true → (a || b) ≡ true
or_left true b e = refl
or_left false b e = cc

or_right : (a b : Bool) → b ≡ true → (a || b) ≡ true
or_right true b e = refl
or_right false b e = e

or_cases : (a b : Bool) → (a || b) ≡ true → (a ≡ true) ⊎ (b ≡ true)
or_cases true b e = inl refl
or_cases false b e = inr e

-- an own node of one of the frames
pub owned_by : (fs : List Frame) (i : ℕ) (f : Frame) (j : ℕ) → slice_get fs i ≡ Some f → owns f.me j ≡ true
    → is_owned fs j ≡ true
owned_by [] i f j at own = cc
owned_by (g ∷ fs) zero f j at own =
    or_left (owns g.me j) (is_owned fs j) (subst (λ (h : Frame). owns h.me j ≡ true) (sym (same g f at)) own)
  where
    same : (g f : Frame) → Some g ≡ Some f → g ≡ f
    same g f e = cc
owned_by (g ∷ fs) (suc i) f j at own = or_right (owns g.me j) (is_owned fs j) (owned_by fs i f j at own)

-- a frame was set
pub owned_set : (fs : List Frame) (i : ℕ) (g : Frame) (j : ℕ)
    → (owns g.me j ≡ true → owns (unwrap_or (slice_get fs i) rest_frame).me j ≡ true)
    → is_owned (set fs i g) j ≡ true → is_owned fs j ≡ true
owned_set [] i g j keeps own = own
owned_set (f ∷ fs) zero g j keeps own = elim (or_cases (owns g.me j) (is_owned fs j) own) [
  | inl here ↦ or_left (owns f.me j) (is_owned fs j) (keeps here)
  | inr there ↦ or_right (owns f.me j) (is_owned fs j) there
]
owned_set (f ∷ fs) (suc i) g j keeps own = elim (or_cases (owns f.me j) (is_owned (set fs i g) j) own) [
  | inl here ↦ or_left (owns f.me j) (is_owned fs j) here
  | inr there ↦ or_right (owns f.me j) (is_owned fs j) (owned_set fs i g j keeps there)
]

-- frames went
pub owned_take : (fs : List Frame) (n j : ℕ) → is_owned (take n fs) j ≡ true → is_owned fs j ≡ true
owned_take fs zero j own = absurd (no_owner own)
  where
    no_owner : false ≡ true → ⊥
    no_owner e = cc
owned_take [] (suc n) j own = own
owned_take (f ∷ fs) (suc n) j own = elim (or_cases (owns f.me j) (is_owned (take n fs) j) own) [
  | inl here ↦ or_left (owns f.me j) (is_owned fs j) here
  | inr there ↦ or_right (owns f.me j) (is_owned fs j) (owned_take fs n j there)
]

-- a frame without a node came
pub owned_push : (fs : List Frame) (f : Frame) (j : ℕ) → f.me ≡ None → is_owned (fs ++ f ∷ []) j ≡ true
    → is_owned fs j ≡ true
owned_push [] f j none own = elim (or_cases (owns f.me j) false own) [
  | inl here ↦ absurd (no_own (subst (λ (o : Option NodeName). owns o j ≡ true) none here))
  | inr there ↦ there
]
  where
    no_own : false ≡ true → ⊥
    no_own e = cc
owned_push (g ∷ fs) f j none own = elim (or_cases (owns g.me j) (is_owned (fs ++ f ∷ []) j) own) [
  | inl here ↦ or_left (owns g.me j) (is_owned fs j) here
  | inr there ↦ or_right (owns g.me j) (is_owned fs j) (owned_push fs f j none there)
]

-- equal numbers are one
pub same_number : (a b : ℕ) → (a == b) ≡ true → a ≡ b
same_number a b e = grind arith

-- what is set again
pub set_again : {A : Type 0} (xs : List A) (i : ℕ) (x y : A) → set (set xs i y) i x ≡ set xs i x
set_again [] i x y = refl
set_again (z ∷ xs) zero x y = refl
set_again (z ∷ xs) (suc i) x y = ap (λ ys. z ∷ ys) (set_again xs i x y)

-- a node without an owner is set at rest
pub unowned_freed : (fs : List Frame) (xs : List Node) (i : ℕ) → is_owned fs i ≡ false
    → freed_nodes fs 0 (set xs i (freed_node false (get_or xs i rest_node))) ≡ freed_nodes fs 0 xs
unowned_freed fs xs i none =
    same_freed fs fs (set xs i (freed_node false (get_or xs i rest_node))) xs (length-set xs i (freed_node false (get_or xs i rest_node))) each
  where
    here : freed_node (is_owned fs i) (freed_node false (get_or xs i rest_node)) ≡ freed_node (is_owned fs i) (get_or xs i rest_node)
    here = ap (λ b. freed_node b (freed_node false (get_or xs i rest_node))) none ∙ sym (ap (λ b. freed_node b (get_or xs i rest_node)) none)

    each : (j : ℕ) → freed_node (is_owned fs j) (get_or (set xs i (freed_node false (get_or xs i rest_node))) j rest_node)
        ≡ freed_node (is_owned fs j) (get_or xs j rest_node)
    each j = elim (cases_eq j i) [
      | inl e ↦ elim (cases_lt i (length xs)) [
        | inl low ↦
            subst (λ (n : ℕ). freed_node (is_owned fs n) (get_or (set xs i (freed_node false (get_or xs i rest_node))) n rest_node)
            ≡ freed_node (is_owned fs n) (get_or xs n rest_node)) (sym e)
            (ap (λ x. freed_node (is_owned fs i) x) (get_or-set_same xs i (freed_node false (get_or xs i rest_node)) rest_node low) ∙ here)
        | inr high ↦ ap (λ zs. freed_node (is_owned fs j) (get_or zs j rest_node)) (set_past xs i (freed_node false (get_or xs i rest_node)) high)
      ]
      | inr ne ↦ ap (λ x. freed_node (is_owned fs j) x) (get_or-set_other xs i j (freed_node false (get_or xs i rest_node)) rest_node ne)
    ]
