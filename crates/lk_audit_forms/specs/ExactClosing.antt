-- The closing lines are read exactly as they are printed.
use Rattle.std.specs.Prelude.{◌≡◌, ◌≤◌, ◌<◌, ◌^◌, ℕ, suc, List, ◌++◌, Ok, codes, decimal}
use Rattle.lk_rows.specs.declared.setup.Setup.{Setup}
use Rattle.lk_forms.specs.declared.limits.TheConstants.{MAX_ACTS}
use Rattle.lk_forms.specs.Texts.{end_text, count_name}
use Rattle.lk_audit_forms.specs.Closing.{line_told}
use Rattle.lk_audit_forms.specs.declared.answers.Told.TheVariants as told

-- the line that is printed for so many acts, no fewer than the number of the last one and not too
-- many, ends the history
abbrev pub EndIsRead : Type 0
EndIsRead = (s : Setup) (last acts : ℕ) (line : List ℕ) → last ≤ acts → acts ≤ MAX_ACTS
    → line ++ codes "\n" ≡ end_text acts → line_told s last 0 line ≡ Ok told.End

-- so many acts, of which this line is what is printed
pub record EndsAt (last : ℕ) (line : List ℕ) : Type 0 where
  pub acts : ℕ
  pub low : last ≤ acts
  pub high : acts ≤ MAX_ACTS
  pub text : line ++ codes "\n" ≡ end_text acts

-- a line that ends the history is what is printed for so many acts
abbrev pub EndIsPrinted : Type 0
EndIsPrinted = (s : Setup) (last : ℕ) (line : List ℕ) → line_told s last 0 line ≡ Ok told.End
    → EndsAt last line

-- the line that is printed where the count of this place is n
abbrev pub count_of_place : ℕ → ℕ → List ℕ
count_of_place which n = count_name which ++ (codes " " ++ (decimal n ++ codes "\n"))

-- the line that is printed for a count is read in its place: it is the first behind `end`, the second,
-- and so on
abbrev pub CountIsRead : Type 0
CountIsRead = (s : Setup) (last which n : ℕ) (line : List ℕ) → which < 10 → n < 2 ^ 64
    → line ++ codes "\n" ≡ count_of_place which n → line_told s last (suc which) line ≡ Ok told.Count

-- a number of 64 bits, of which this line is what is printed for the count of this place
pub record Counts (which : ℕ) (line : List ℕ) : Type 0 where
  pub number : ℕ
  pub short : number < 2 ^ 64
  pub text : line ++ codes "\n" ≡ count_of_place which number

-- a line that is read as a count is what is printed for the count of its place
abbrev pub CountIsPrinted : Type 0
CountIsPrinted = (s : Setup) (last which : ℕ) (line : List ℕ) → which < 10
    → line_told s last (suc which) line ≡ Ok told.Count → Counts which line
