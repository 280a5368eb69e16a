-- The rounds of the processors, as a table.
use Rattle.std.specs.Prelude.{◌≡◌, ◌≤◌, ℕ, List, Result, Ok, Err, length}
use Rattle.lk_names.specs.ListOf.{ListOf}
use Rattle.lk_forms.specs.declared.answers.LineRefusal.{LineRefusal}

-- one to 64 processors, and room for so many
pub record IsTable (rounds : ListOf ℕ) : Type 0 where
  pub some : 1 ≤ length rounds.items
  pub few : length rounds.items ≤ 64
  pub room : rounds.room ≡ 64

-- where this is what has to come of a line: the table has become it, or stayed, and the refusal was
-- answered
abbrev pub Makes : {T : Type 0} → Result (List ℕ) LineRefusal → ListOf ℕ → ListOf ℕ
    → Result T LineRefusal → Type 0
Makes said old new (Ok t) = said ≡ Ok new.items
Makes said old new (Err why) = (new ≡ old) × (said ≡ Err why)
