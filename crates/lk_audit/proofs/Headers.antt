-- A header that lines say is lawful.
use Rattle.std.proofs.Common.{◌≡◌, ◌++◌, List, ℕ, [], ◌∷◌, Ok, fold, sym, ap, subst, ◌∙◌}
use Rattle.std.proofs.lemmas.List.Sums.{fold-append}
use Rattle.std.specs.Result.{result_unwrap_or}
use Rattle.lk_rows.specs.Programs.{IsLawfulSetup}
use Rattle.lk_forms.specs.Grammar.{Reading, nothing_read, read, next_reading}
use Rattle.lk_forms.proofs.Lawful.{lawful_setup}
use Rattle.lk_audit.specs.Stands.{IsSaid}

pub said_nothing : (header : Reading) → header ≡ nothing_read → IsSaid header
said_nothing header none = ([], sym none)

pub said_more : (old new : Reading) (line : List ℕ) → read old line ≡ Ok new → IsSaid old → IsSaid new
said_more old new line is (lines, said) = (
  lines ++ line ∷ [],
  fold-append next_reading nothing_read lines (line ∷ []) ∙ ap (λ r. next_reading r line) said
      ∙ ap (λ x. result_unwrap_or x old) is,
)

pub said_lawful : (header : Reading) → IsSaid header → IsLawfulSetup header.setup
said_lawful header (lines, said) = subst (λ (r : Reading). IsLawfulSetup r.setup) said (lawful_setup lines)
