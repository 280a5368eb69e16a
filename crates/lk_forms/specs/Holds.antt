-- How the code names the ways in which a lock is held.
use Rattle.lk_names.specs.declared.holder.Manner.{Manner}
use Rattle.lk_names.specs.declared.holder.Manner.TheVariants.{Spins, Reads, Writes}
use Rattle.lk_forms.specs.declared.operations.Hold.{Hold}
use Rattle.lk_forms.specs.declared.operations.Hold.TheVariants.{Spin, Reader, Writer}

-- the manner that a hold is
abbrev pub manner_of : Hold → Manner
manner_of Spin = Spins
manner_of Reader = Reads
manner_of Writer = Writes
