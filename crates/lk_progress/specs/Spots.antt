-- Which steps of `cna` lead nowhere though they change the machine.
use Rattle.std.specs.Prelude.{◌≡◌, ℕ, Some}
use Rattle.lk_rows.specs.declared.parts.Pc.{Pc}
use Rattle.lk_rows.specs.Machine.{Machine, top_frame}
use Rattle.lk_law.specs.Sound.{world}
use Rattle.lk_waits.specs.Waits.{IsBarred}

-- The newest frame of the processor is that of a head of `cna` which turns on the spot: nobody is linked
-- behind it, and its secondary queue, if there is one, cannot return.
pub record TurnsOnTheSpot (m : Machine) (p : ℕ) : Type 0 where
  pub place : Pc
  pub here : (top_frame m p).place ≡ Some place
  pub barred : IsBarred (world m) (top_frame m p) place
