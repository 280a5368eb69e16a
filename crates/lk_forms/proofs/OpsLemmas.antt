-- The operations of a program, read one by one.
use Rattle.std.proofs.Common.{◌≡◌, ℕ, List, [], ◌∷◌, ◌++◌, Ok, refl}
use Rattle.lk_names.specs.declared.names.Kind.{Kind}
use Rattle.lk_rows.specs.declared.setup.Op.{Op}
use Rattle.lk_forms.specs.Words.{HasFirst}
use Rattle.lk_forms.specs.Operations.{op_of, ops_from}

pub ops_from-more : (kinds : List Kind) (ops : List Op) (all : List (List ℕ)) (verb : List ℕ) (args rest : List (List ℕ)) (o : Op)
    → all ≡ verb ∷ args → HasFirst args rest → op_of kinds ops verb args ≡ Ok o → ops_from kinds ops all ≡ ops_from kinds (ops ++ o ∷ []) rest
ops_from-more kinds ops all verb args rest o begins first is = rw (begins, first.1) (rw (rw first.1 at is) refl)
