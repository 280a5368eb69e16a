-- Where the rows of a head lead that chooses its successor.
use Rattle.std.proofs.Common.{ℕ, true, Option, Some, None, refl, is_some}
use Rattle.lk_idle.proofs.Names.{Fields, NodeName, Frame, C1, C2, C3, C10, Why, promotion_row}
use Rattle.lk_idle.proofs.Names.{search_row, second_row, second_lives, Lives}
use Rattle.lk_rows.specs.rows.Cna.{Sight, may_stay, after_none, is_last}
use Rattle.lk_idle.proofs.Branches.{Fine, pick}
use Rattle.lk_idle.specs.Lives.{tail_lives}
use Rattle.lk_rows.specs.declared.parts.Why.TheVariants as why

-- those that live while it passes over waiters, and at the end
abbrev pub passing_lives : Lives
passing_lives = record second_lives { a = true; b = true; k = true }

abbrev pub promoting_lives : Lives
promoting_lives = record second_lives { k = true; t = true }

module _ (p : ℕ) (f : Frame) where
  nobody : (o : Option NodeName) → Fine p second_lives f (after_none o)
  nobody None = record { leads = refl }
  nobody (Some m) = record { leads = refl }

  pub C1-fine : (s : Sight) (x : Option NodeName) → Fine p second_lives f (search_row s C1 f x)
  C1-fine s None = nobody f.second
  C1-fine s (Some n) =
      pick (may_stay s) _ _ (pick (s.local n) _ _ (record { leads = refl }) (record { leads = refl }))
      (pick (is_some f.second) _ _ (record { leads = refl }) (record { leads = refl }))

  pub C2-fine : (s : Sight) (x : Option NodeName) → Fine p passing_lives f (search_row s C2 f x)
  C2-fine s None = pick (is_some f.second) _ _ (record { leads = refl }) (record { leads = refl })
  C2-fine s (Some n) =
      pick (s.local n) _ _ (pick (is_some f.second) _ _ (record { leads = refl }) (record { leads = refl }))
      (record { leads = refl })

  pub C10-fine : (x : Fields) → Fine p promoting_lives f (promotion_row C10 f x)
  C10-fine x = pick (is_last f x) _ _ (record { leads = refl }) (record { leads = refl })

-- by why it reads the last of the secondary queue
tail-fine : (p : ℕ) (w : Why) (g : Frame) (x : Option NodeName)
    → Fine p (tail_lives w) (record g { why = w }) (second_row C3 (record g { why = w }) x)
tail-fine p why.Append g x = record { leads = refl }
tail-fine p why.Flush g x = record { leads = refl }
tail-fine p why.Promotion g x = record { leads = refl }

pub C3-fine : (p : ℕ) (f : Frame) (x : Option NodeName) → Fine p (tail_lives f.why) f (second_row C3 f x)
C3-fine p f x = tail-fine p f.why f x
