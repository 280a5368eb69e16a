-- A machine whose acts are told.
use Rattle.std.specs.Prelude.{◌≡◌, ◌≤◌, length}
use Rattle.lk_law.specs.Sound.{IsSound}
use Rattle.lk_machine.specs.Ready.{CountsWithin}
use Rattle.lk_steps.specs.declared.told.Told.{Told}

-- It is sound, no more acts were made on it than a trace may have, none of them raised a count by more than one, and it has so
-- many locks.
pub record CanGoOn (t : Told) : Type 0 where
  pub sound : IsSound t.machine
  pub few : t.acts ≤ 100000000
  pub counts : CountsWithin t.acts t.machine.counts
  pub locks : t.locks ≡ length t.machine.setup.locks.items
