-- What the step calls on the words of nodes say of their processor.
use Rattle.std.specs.Prelude.{ℕ}
use Rattle.lk_law.specs.Leads.{Met}
use Rattle.lk_domain.specs.NodePlays.{SeesFlag, SeesLink, SeesTail, Relinks, Names, Counted}
use Rattle.lk_domain.specs.Plays.{Goes}
use Rattle.lk_domain.specs.declared.cpu.Cpu.{Cpu}

-- the processor has made the row of its newest call, which met this
pub record Went (x : Met) (old new : Cpu) : Type 0 where
  pub by : Goes x old.seat.me new.seat.me

-- the newest call has looked at the flag of its node
pub record FlagSeen (old : Cpu) (met : ℕ) (new : Cpu) : Type 0 where
  pub by : SeesFlag old.seat.me met new.seat.me

-- at its link
pub record LinkSeen (old : Cpu) (met : ℕ) (new : Cpu) : Type 0 where
  pub by : SeesLink old.seat.me met new.seat.me

-- the newest call has stored a link
pub record LinkMet (old : Cpu) (met : ℕ) (new : Cpu) : Type 0 where
  pub by : Relinks old.seat.me met new.seat.me

-- the newest call has stored the last of the secondary queue
pub record NameMet (old : Cpu) (met : ℕ) (new : Cpu) : Type 0 where
  pub by : Names old.seat.me met new.seat.me

-- the newest call has read the count of handoffs in its node
pub record RunsSeen (old : Cpu) (met : ℕ) (new : Cpu) : Type 0 where
  pub by : Counted old.seat.me met new.seat.me

-- it has looked at the last of the secondary queue
pub record TailSeen (old : Cpu) (met : ℕ) (new : Cpu) : Type 0 where
  pub by : SeesTail old.seat.me met new.seat.me
