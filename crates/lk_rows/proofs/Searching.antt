-- C1 and C2 are told by what the head meets that looks for its successor.
use Rattle.std.proofs.Common.{◌≡◌, Option, Some, None, inl, inr, refl}
use Rattle.std.proofs.lemmas.Bool.{cases_Bool}
use Rattle.lk_word.specs.declared.spin_word.NodeName.{NodeName}
use Rattle.lk_rows.specs.declared.parts.Frame.{Frame}
use Rattle.lk_rows.specs.rows.Cna.{Sight, may_stay, search_first, search_on}
use Rattle.lk_rows.specs.Searching.{first_by, first_effect, more_by, more_effect}

pub search_first-by : (s : Sight) (second x : Option NodeName)
    → search_first s second x ≡ first_effect (first_by s second x)
search_first-by s None None = refl
search_first-by s (Some m) None = refl
search_first-by s None (Some n) =
    elim (cases_Bool (may_stay s)) [
      | inl a ↦ elim (cases_Bool (s.local n)) [ inl b ↦ rw (a, b) refl | inr b ↦ rw (a, b) refl ]
      | inr a ↦ rw a refl
    ]
search_first-by s (Some m) (Some n) =
    elim (cases_Bool (may_stay s)) [
      | inl a ↦ elim (cases_Bool (s.local n)) [ inl b ↦ rw (a, b) refl | inr b ↦ rw (a, b) refl ]
      | inr a ↦ rw a refl
    ]

pub search_on-by : (s : Sight) (f : Frame) (second x : Option NodeName) → f.second ≡ second
    → search_on s f x ≡ more_effect f (more_by s second x)
search_on-by s f None None e = rw e refl
search_on-by s f (Some m) None e = rw e refl
search_on-by s f None (Some n) e =
    elim (cases_Bool (s.local n)) [ inl b ↦ rw (b, e) refl | inr b ↦ rw b refl ]
search_on-by s f (Some m) (Some n) e =
    elim (cases_Bool (s.local n)) [ inl b ↦ rw (b, e) refl | inr b ↦ rw b refl ]
