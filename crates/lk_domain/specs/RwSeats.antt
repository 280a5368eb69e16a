-- What the step calls on the words of reader-writer locks say of their processor.
use Rattle.std.specs.Prelude.{ℕ}
use Rattle.lk_rows.specs.declared.setup.Verb.{Verb}
use Rattle.lk_domain.specs.RwPlays.{SharedBy}
use Rattle.lk_domain.specs.declared.cpu.Cpu.{Cpu}

-- the processor has made the row of its call on a reader-writer lock
pub record MadeShared (verb : Verb) (l : ℕ) (old : Cpu) (met : ℕ) (new : Cpu) : Type 0 where
  pub by : SharedBy verb l old.seat.me met new.seat.me
