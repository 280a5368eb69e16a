-- What most proofs of this crate name, passed on from one place: words of std, of the crates below,
-- and of this crate's own specs. It declares nothing. A name that three files or more use stands here;
-- a rarer one, or one of two that are spelled alike, each file takes from its own module.
pub use Rattle.std.proofs.lemmas.Bool.{true≢false}
pub use Rattle.lk_names.specs.declared.holder.Manner.TheVariants.{Spins}
pub use Rattle.lk_names.specs.declared.names.Kind.{Kind}
pub use Rattle.lk_names.specs.declared.names.Kind.TheVariants.{Rw, Spin}
pub use Rattle.lk_rows.specs.declared.setup.Verb.TheVariants.{Lock}
pub use Rattle.lk_domain.specs.Plans.{kind_at, locks_of}
pub use Rattle.lk_domain.specs.Seats.{calls_of, ledger_of}
pub use Rattle.lk_domain.specs.Waits.{Gains}
pub use Rattle.lk_domain.specs.declared.cpu.Cpu.{Cpu}
pub use Rattle.lk_domain.specs.declared.domain.Domain.{Domain}
pub use Rattle.lk_pvdomain.specs.PvCalls.{own_node}
pub use Rattle.lk_pvdomain.specs.PvPaths.{first_of}
pub use Rattle.lk_run.specs.Phases.{CameIn, Holds, starting}
pub use Rattle.lk_port.specs.Shares.{domain_of, may_halt}
pub use Rattle.lk_port.specs.Standing.{Stands, StandsRunning}
pub use Rattle.lk_port.specs.declared.answer.Answer.TheVariants.{Busy, Done}
pub use Rattle.lk_port.specs.declared.pending.Pending.{Pending}
pub use Rattle.lk_port.specs.declared.port.Port.{Port}
pub use Rattle.lk_port.specs.declared.share.Share.{Share}
