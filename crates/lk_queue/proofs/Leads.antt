-- Where the data of a row leads, by cases of the mode and of what was met.
use Rattle.std.proofs.Common.{◌≡◌, ℕ, Option, Some, None, refl}
use Rattle.lk_names.specs.declared.names.Mode.{Mode}
use Rattle.lk_names.specs.declared.names.Mode.TheVariants.{Pv}
use Rattle.lk_word.specs.declared.spin_word.NodeName.{NodeName}
use Rattle.lk_rows.specs.declared.parts.Frame.{Frame}
use Rattle.lk_rows.specs.Machine.{Machine, set_top}
use Rattle.lk_rows.specs.Row.{moved, counted}
use Rattle.lk_rows.specs.rows.Queue.{after_arrival, after_link}
use Rattle.lk_queue.specs.Row.{frame_after}

pub moved-after_link : (m : Machine) (p : ℕ) (f : Frame) (mode : Mode) (spins : ℕ) → moved m p f (after_link mode spins) ≡ set_top m p (frame_after f (after_link mode spins))
moved-after_link m p f Pv spins = refl
moved-after_link m p f _ spins = refl

pub ruleset link_leads = (moved-after_link)

-- the row that exchanges the tail counts nothing, and goes on as the front or behind the old tail
pub arrived-is : (m : Machine) (p : ℕ) (f : Frame) (mode : Mode) (met : Option NodeName)
    → moved (counted m (after_arrival mode met).counts) p f (after_arrival mode met).leads ≡ set_top m p (frame_after f (after_arrival mode met).leads)
arrived-is m p f Pv None = refl
arrived-is m p f _ None = refl
arrived-is m p f Pv (Some n) = refl
arrived-is m p f _ (Some n) = refl
