-- What holds of everything that lines say, whatever lines they are.
use Rattle.std.specs.Prelude.{◌≡◌, ◌≤◌, ℕ, false, List, []}
use Rattle.lk_rows.specs.Programs.{IsLawfulSetup}
use Rattle.lk_forms.specs.Grammar.{reading_of, has_go, cpus_of, most_cpus}

-- the setup is lawful
abbrev pub SetupsAreLawful : Type 0
SetupsAreLawful = (lines : List (List ℕ)) → IsLawfulSetup (reading_of lines).setup

-- the setup has at most as many processors as its format allows
abbrev pub FormatsLimitCpus : Type 0
FormatsLimitCpus = (lines : List (List ℕ))
    → cpus_of (reading_of lines).setup ≤ most_cpus (reading_of lines).setup.format

-- there are no acts before `go`
abbrev pub ActsComeLast : Type 0
ActsComeLast = (lines : List (List ℕ)) → has_go (reading_of lines) ≡ false → (reading_of lines).acts ≡ []
