-- What can be shown of a machine.
use Rattle.std.specs.Prelude.{◌≤◌, ℕ, length}
use Rattle.lk_rows.specs.Machine.{Machine, HasTop}
use Rattle.lk_rows.specs.Programs.{HasPrograms}

-- the processor has a frame, its programs are there, and so many locks are
pub record CanShow (m : Machine) (count p : ℕ) : Type 0 where
  pub top : HasTop m p
  pub programs : HasPrograms m.setup p
  pub locks : count ≤ length m.locks
