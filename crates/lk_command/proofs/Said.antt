-- What a write that may fail leaves, and the words behind the program's name.
use Rattle.std.proofs.Common.{◌≡◌, ◌⊎◌, List, [], ◌∷◌, Option, Some, None, Result, Ok, Err, OnOk, OnErr, length, drop, inl, inr, ap, arith, refl, sym, ◌∙◌}
use Rattle.std.specs.Vec.Iter.{into_iter_items, into_iter_steps}
use Rattle.std.specs.declared.vec.IntoIter.{IntoIter}

pub said_or_cut : {T E A B C : Type 0} (r : Result T E) → OnOk r A → OnErr r B → OnErr r C → A ⊎ (B × C)
said_or_cut (Ok x) a b c = inl a
said_or_cut (Err e) a b c = inr (b, c)

-- a list with no element
empty : {X : Type 0} (xs : List X) → length xs ≡ 0 → xs ≡ []
empty [] none = refl
empty (x ∷ xs) none = absurd (omega (arith, none))

-- the words behind the first
pub behind_first : {X Z : Type 0} (all behind : IntoIter X Z) (first : Option X) → into_iter_steps all first behind
    → drop 1 (into_iter_items all) ≡ into_iter_items behind
behind_first all behind None steps =
    ap (drop 1) (empty (into_iter_items all) (sym all.rest.ok.0 ∙ steps.0)) ∙ sym (empty (into_iter_items behind) (sym behind.rest.ok.0 ∙ steps.1))
behind_first all behind (Some first) steps = ap (drop 1) steps.0
