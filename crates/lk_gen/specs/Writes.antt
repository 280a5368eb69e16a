-- The bytes of the generated lines, as they are written one after another.
use Rattle.std.specs.Prelude.{◌≡◌, ◌≤◌, ℕ, List, [], ◌∷◌, ◌++◌, Option, length, ◌+◌, ◌-◌, ◌*◌, codes, decimal}
use Rattle.std.specs.Io.KnownBytes.{Appends}
use Rattle.lk_gen.specs.Spaced.{text_of}
use Rattle.lk_gen.specs.Generated.{draw_after, pair_words, program_lines, step_lines, generated}
use Rattle.lk_gen.specs.declared.generator.Left.{Left}
use Rattle.lk_gen.specs.declared.generator.Left.TheVariants.{Whole, Programs, Steps, Nothing}

-- words behind others in a line
abbrev pub behind : List (List ℕ) → List ℕ
behind [] = []
behind (w ∷ ws) = 32 ∷ (w ++ behind ws)

abbrev pub pair_text : ℕ → List ℕ
pair_text l = codes " lock " ++ (decimal l ++ (codes " unlock " ++ decimal l))

abbrev pub pairs_text : ℕ → ℕ → List ℕ
pairs_text n x = behind (pair_words n x)

abbrev pub program_text : ℕ → ℕ → List ℕ
program_text p x = codes "prog " ++ (decimal p ++ (pairs_text 16 x ++ codes "\n"))

abbrev pub programs_text : ℕ → ℕ → ℕ → List ℕ
programs_text n p x = text_of (program_lines n p x)

abbrev pub step_text : ℕ → List ℕ
step_text p = codes "step " ++ (decimal p ++ codes " 8\n")

abbrev pub steps_text : ℕ → ℕ → List ℕ
steps_text n x = text_of (step_lines n x)

-- so many pages of a hundred lines of the schedule, and its end
abbrev pub schedule_text : ℕ → ℕ → List ℕ
schedule_text pages x = steps_text (100 * pages) x ++ codes "end\n"

-- the text that is left
abbrev pub text_left : Left → List ℕ
text_left (Whole start) = generated start
text_left (Programs p x) = programs_text (32 - p) p x ++ (codes "go\n" ++ schedule_text 250 (draw_after (16 * (32 - p)) x))
text_left (Steps pages x) = schedule_text pages x
text_left Nothing = []

-- no more pages are left than this
abbrev pub pages_left : Left → ℕ
pages_left (Whole start) = 285
pages_left (Programs p x) = (32 - p) + 252
pages_left (Steps pages x) = pages + 1
pages_left Nothing = 0

-- All of the text but this rest was put, and where the sink takes the text for certain, it takes the rest for certain. `sure` and
-- `sure_after` are how many bytes more it takes so, before and after.
pub record Puts (old new : Option (List ℕ)) (faults faults_after sure sure_after : ℕ) (text rest : List ℕ) : Type 0 where
  pub front : List ℕ
  pub whole : text ≡ front ++ rest
  pub grown : Appends old new front
  pub later : faults ≤ faults_after
  pub left : length text ≤ sure → sure + length rest ≤ sure_after + length text
