-- What changes of a draft's jobs come to.
use Rattle.std.proofs.Common.{◌≡◌, ◌<◌, ◌+◌, ℕ, Some, List, [], ◌∷◌, ◌++◌, length, map, replicate, sym, ap, ◌∙◌, arith, length-append}
use Rattle.std.specs.Prelude.{slice_get, slice_index_or, slice_set}
use Rattle.std.proofs.lemmas.List.{map-set, get_or-map, length-map}
use Rattle.std.proofs.Math.Seq.{map-set_same}
use Rattle.std.proofs.lemmas.Option.{slice_get_within, get_or_from_slice_get}
use Rattle.std.proofs.lemmas.List.Sums.{sum_by-set}
use Rattle.std.proofs.lemmas.List.Folds.{sum_by-replicate}
use Rattle.lk_names.specs.declared.ledger.Job.{Job}
use Rattle.lk_names.specs.Workload.{job_count}

-- workers without a job have none
pub job_count-none : (n : ℕ) → job_count (replicate n []) ≡ 0
job_count-none n = sum_by-replicate (λ (js : List Job). length js) n [] ∙ omega arith

-- the jobs of one worker are changed, where f shows them
module _ {A : Type 0} (f : A → List Job) (xs : List A) (i : ℕ) (x y : A) (here : slice_get xs i ≡ Some x) where
  -- they stay
  pub none_added : f y ≡ f x → map f (slice_set xs i y) ≡ map f xs
  none_added same = map-set_same f xs i y x (same ∙ ap f (sym (get_or_from_slice_get xs i x x here)))

  -- there is one more
  module _ (job : Job) (more : f y ≡ f x ++ job ∷ []) where
    pub one_added : map f (slice_set xs i y) ≡ slice_set (map f xs) i (slice_index_or (map f xs) i [] ++ job ∷ [])
    one_added =
        let below = slice_get_within xs i x here in
        let shown = get_or-map f xs i x [] below ∙ ap f (get_or_from_slice_get xs i x x here) in
        map-set f xs i y ∙ ap (λ js. slice_set (map f xs) i js) (more ∙ ap (λ js. js ++ job ∷ []) (sym shown))

    pub one_counted : job_count (map f (slice_set xs i y)) ≡ job_count (map f xs) + 1
    one_counted =
        let inside : i < length (map f xs) = omega (arith, slice_get_within xs i x here, length-map xs f) in
        let before = slice_index_or (map f xs) i [] in
        let counts = sum_by-set (λ (js : List Job). length js) (map f xs) i (before ++ job ∷ []) [] inside in
        ap job_count one_added ∙ omega (arith, counts, length-append before (job ∷ []))
