-- What most proofs of this crate name, passed on from one place: words of std, of the crates below,
-- and of this crate's own specs. It declares nothing. A name that three files or more use stands here;
-- a rarer one, or one of two that are spelled alike, each file takes from its own module.
pub use Rattle.atomic_table.specs.Seated.{TableId}
pub use Rattle.lk_names.specs.ListOf.{ListOf}
pub use Rattle.lk_names.specs.declared.holder.Manner.{Manner}
pub use Rattle.lk_names.specs.declared.holder.Manner.TheVariants.{Reads, Spins, Writes}
pub use Rattle.lk_names.specs.declared.names.Kind.TheVariants.{Rw}
pub use Rattle.lk_rows.specs.declared.parts.Pc.TheVariants.{Z1, Z2}
pub use Rattle.lk_rows.specs.declared.setup.Verb.{Verb}
pub use Rattle.lk_rows.specs.declared.setup.Verb.TheVariants.{Lock, Read, Write}
pub use Rattle.lk_law.specs.Agree.{halts}
pub use Rattle.lk_cell.specs.Latched.{IsKey}
pub use Rattle.lk_domain.specs.Calls.{Hold, Mark, holds_in, lock_name, terms_of}
pub use Rattle.lk_domain.specs.Plans.{locks_of}
pub use Rattle.lk_domain.specs.Seats.{IsSame, IsStill, calls_of}
pub use Rattle.lk_domain.specs.Values.{Key, keys_of}
pub use Rattle.lk_domain.specs.declared.cpu.Cpu.{Cpu}
pub use Rattle.lk_domain.specs.declared.domain.Domain.{Domain}
pub use Rattle.lk_domain.specs.declared.plan.Plan.{Plan}
pub use Rattle.lk_domain.specs.declared.view.View.{View}
pub use Rattle.lk_pvdomain.proofs.ways.Frees.{is_let}
pub use Rattle.lk_pvdomain.specs.PvPaths.{first_node, first_of}
pub use Rattle.lk_run.specs.Phases.{starting}
pub use Rattle.lk_lock.specs.Cells.{AreKeysOf, all_behind, firsts, laid, names_of}
pub use Rattle.lk_lock.specs.Standing.{IsAsBefore, IsHolding, IsReady, holds_of}
pub use Rattle.lk_lock.specs.Turns.{HasLocked}
