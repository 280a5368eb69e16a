-- Where the header of a trace ends: at the line `go`.
use Rattle.std.specs.Prelude.{◌≡◌, ℕ, false, List, [], ◌∷◌, ◌++◌}
use Rattle.lk_forms.specs.Grammar.{has_go}
use Rattle.lk_forms.specs.Trace.{reading_after}

-- these lines are of a header that goes on: none of those that are accepted is `go`
abbrev pub IsHeader : List (List ℕ) → Type 0
IsHeader before = has_go (reading_after before) ≡ false

-- the last of these lines is `go`
pub record EndsAtGo (before : List (List ℕ)) : Type 0 where
  pub front : List (List ℕ)
  pub go : List ℕ
  pub whole : before ≡ front ++ go ∷ []
  pub header : IsHeader front
