-- What is said of jobs is a proposition, as the fields of a reader ask.
use Rattle.std.specs.Prelude.{ℕ}
use Rattle.std.proofs.Props.{props}
use Rattle.lk_names.specs.declared.ledger.Job.{Job}
use Rattle.lk_names.specs.declared.ledger.Job.TheVariants.{Move, Add, Sum, Get}
use Rattle.lk_names.specs.Workload.{IsFair}

pub IsFair-prop : (accounts : ℕ) (job : Job) → IsProp (IsFair accounts job)
IsFair-prop accounts (Move from to amount) = hlevel props
IsFair-prop accounts (Add account amount) = hlevel props
IsFair-prop accounts Sum = hlevel props
IsFair-prop accounts (Get account) = hlevel props
