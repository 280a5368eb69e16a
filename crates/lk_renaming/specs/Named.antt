-- Which registers each row takes as the name of a node. Where such a register is empty, the rows
-- fall back on the first node of processor 0, which a renaming may move.
use Rattle.std.specs.Prelude.{◌≡◌, ℕ, Option, Some, true, List, [], ◌∷◌, is_some}
use Rattle.lk_word.specs.declared.spin_word.NodeName.{NodeName}
use Rattle.lk_rows.specs.declared.parts.Frame.{Frame}
use Rattle.lk_rows.specs.declared.parts.Pc.{Pc}
use Rattle.lk_rows.specs.declared.parts.Pc.TheVariants.{G5, G6, G7, G8, G10, G11, C1, C2, C3, C4}
use Rattle.lk_rows.specs.declared.parts.Pc.TheVariants.{C5, C6, C7, C8, C9, C10, W1, W2, W3, W4}
use Rattle.lk_rows.specs.declared.parts.Pc.TheVariants.{W5, W7, E1, E2, E10, E13, E14, E15, K1}
use Rattle.lk_rows.specs.declared.parts.Pc.TheVariants.{U4, U5}
use Rattle.lk_rows.specs.Machine.{Machine, top_frame}

-- the registers that each row takes so
abbrev pub names_at : Pc → Frame → List (Option NodeName)
names_at G5 f = f.prev ∷ []
names_at G6 f = f.me ∷ []
names_at G7 f = f.me ∷ []
names_at G8 f = f.me ∷ []
names_at G10 f = f.me ∷ []
names_at G11 f = f.y ∷ []
names_at C1 f = f.me ∷ []
names_at C2 f = f.me ∷ f.b ∷ []
names_at C3 f = f.second ∷ []
names_at C4 f = f.me ∷ f.t ∷ []
names_at C5 f = f.me ∷ f.b ∷ []
names_at C6 f = f.second ∷ []
names_at C7 f = f.me ∷ f.y ∷ []
names_at C8 f = f.y ∷ []
names_at C9 f = f.me ∷ f.t ∷ []
names_at C10 f = f.me ∷ []
names_at W1 f = f.me ∷ []
names_at W2 f = f.prev ∷ []
names_at W3 f = f.me ∷ []
names_at W4 f = f.me ∷ []
names_at W5 f = f.me ∷ []
names_at W7 f = f.me ∷ []
names_at E1 f = f.me ∷ []
names_at E2 f = f.me ∷ []
names_at E10 f = f.me ∷ []
names_at E13 f = f.me ∷ []
names_at E14 f = f.me ∷ []
names_at E15 f = f.y ∷ []
names_at K1 f = f.y ∷ []
names_at U4 f = f.target ∷ []
names_at U5 f = f.target ∷ []
names_at c f = []

-- each of these names a node
abbrev pub AreNames : List (Option NodeName) → Type 0
AreNames [] = Unit {0}
AreNames (o ∷ os) = (is_some o ≡ true) × AreNames os

-- the newest frame of a processor has the names that its row takes
abbrev pub HasNames : Machine → ℕ → Type 0
HasNames m p = (c : Pc) → (top_frame m p).place ≡ Some c → AreNames (names_at c (top_frame m p))
