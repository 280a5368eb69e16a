-- What lines of a header say, one after the other.
use Rattle.std.proofs.Common.{if◌then◌else◌, ◌≡◌, ℕ, List, [], ◌∷◌, ◌++◌, Bool, true, false, Ok}
use Rattle.std.proofs.Common.{refl, ap, ◌∙◌, sym, subst}
use Rattle.std.proofs.lemmas.List.Sums.{fold-append}
use Rattle.std.specs.Result.{result_unwrap_or}
use Rattle.lk_rows.specs.Programs.{IsLawfulSetup}
use Rattle.lk_forms.specs.Grammar.{Reading, nothing_read, read, next_reading, reading_of, has_go}
use Rattle.lk_forms.specs.Reader.{step_of}
use Rattle.lk_forms.specs.declared.answers.HeaderStep.TheVariants.{More, Go}
use Rattle.lk_forms.specs.SetupLaws.{SetupsAreLawful}

-- these are what some lines say
abbrev pub AreSaid : Reading → Type 0
AreSaid r = (lines : List (List ℕ)) × (reading_of lines ≡ r)

pub none_said : (r : Reading) → r ≡ nothing_read → AreSaid r
none_said r e = ([], sym e)

-- one line more, which is accepted
pub more_said : (r r' : Reading) (line : List ℕ) → AreSaid r → read r line ≡ Ok r' → AreSaid r'
more_said r r' line s is = (
  s.0 ++ line ∷ [],
  fold-append next_reading nothing_read s.0 (line ∷ []) ∙ ap (λ q. next_reading q line) s.1
      ∙ ap (λ answer. result_unwrap_or answer r) is,
)

-- what is said is a lawful setup
pub said_lawful : SetupsAreLawful → (r : Reading) → AreSaid r → IsLawfulSetup r.setup
said_lawful lawful r s = subst (λ (q : Reading). IsLawfulSetup q.setup) s.1 (lawful s.0)

-- a line after which there are more is not `go`
pub goes_on : (r : Reading) → More ≡ step_of r → has_go r ≡ false
goes_on r = by (has_go r)
  where
    by : (b : Bool) → More ≡ (if b then Go else More) → b ≡ false
    by true e = cc
    by false e = refl
