-- What most proofs of this crate name, passed on from one place: words of std, of the crates below,
-- and of this crate's own specs. It declares nothing. A name that three files or more use stands here;
-- a rarer one, or one of two that are spelled alike, each file takes from its own module.
pub use Rattle.lk_word.specs.declared.rw_word.RwFields.{RwFields}
pub use Rattle.lk_word.specs.declared.spin_word.Fields.{Fields}
pub use Rattle.lk_word.specs.declared.spin_word.NodeName.{NodeName}
pub use Rattle.lk_names.specs.Names.{same_lock}
pub use Rattle.lk_names.specs.declared.holder.Manner.{Manner}
pub use Rattle.lk_names.specs.declared.holder.Manner.TheVariants.{Reads, Spins, Writes}
pub use Rattle.lk_names.specs.declared.names.LockName.{LockName}
pub use Rattle.lk_names.specs.declared.names.Mode.{Mode}
pub use Rattle.lk_names.specs.declared.names.Mode.TheVariants.{Cna, Native, Pv, Virt}
pub use Rattle.lk_rows.specs.Moves.{first_place, is_node, wait_name}
pub use Rattle.lk_rows.specs.Searching.{first_by, more_by}
pub use Rattle.lk_rows.specs.TopRow.{target}
pub use Rattle.lk_rows.specs.declared.parts.Flag.{Flag}
pub use Rattle.lk_rows.specs.declared.parts.Flag.TheVariants.{Go, Second, Unset}
pub use Rattle.lk_rows.specs.declared.parts.Frame.{Frame}
pub use Rattle.lk_rows.specs.declared.parts.Pc.{Pc}
pub use Rattle.lk_rows.specs.declared.parts.Pc.TheVariants.{C1, C2, C3, C4, C5, C7, C8, C9, F1, G1}
pub use Rattle.lk_rows.specs.declared.parts.Pc.TheVariants.{G4, G6, G7, G8, G9, G10, G11, N1, P0}
pub use Rattle.lk_rows.specs.declared.parts.Pc.TheVariants.{P1, P2, P3, P4, R1, R2, R4, R5, U1, V1}
pub use Rattle.lk_rows.specs.declared.parts.Pc.TheVariants.{Wr2, Wr3, Wr4, Wr5, Y2, Y3, Y5}
pub use Rattle.lk_rows.specs.declared.setup.Verb.{Verb}
pub use Rattle.lk_rows.specs.declared.setup.Verb.TheVariants.{Lock, Read, Try, TryRead, TryWrite}
pub use Rattle.lk_rows.specs.declared.setup.Verb.TheVariants.{Write}
pub use Rattle.lk_rows.specs.rows.Spin.{after_fast, after_pending, is_unlocked, to_queue}
pub use Rattle.lk_law.proofs.common.Puts.{if-false, if-true}
pub use Rattle.lk_law.specs.Cna.{moves_aside, node_in}
pub use Rattle.lk_law.specs.Families.{is_rw_row}
pub use Rattle.lk_law.specs.Leads.{Flagged, Linked, Met, Named, Number, Shared, Word, held_lock}
pub use Rattle.lk_law.specs.Sound.{after_wait, takes_wait}
pub use Rattle.lk_domain.proofs.Seating.{apart_of}
pub use Rattle.lk_domain.proofs.Turned.{is_taking}
pub use Rattle.lk_domain.specs.Calls.{Calls, Frees, Mark, Outlook, Running, Takes, Terms, Unchanged}
pub use Rattle.lk_domain.specs.Calls.{begin, held_in, holds_in, lock_name, mark, row_of, sight_by}
pub use Rattle.lk_domain.specs.Calls.{sight_of, terms_of, told, waits_in}
pub use Rattle.lk_domain.specs.Ledgers.{Ledger, turned}
pub use Rattle.lk_domain.specs.NodePlays.{IsFlagNode, counting, readies}
pub use Rattle.lk_domain.specs.Paths.{Any, AreKept, HasLooked, HasTaken, Passes, is_busy}
pub use Rattle.lk_domain.specs.Paths.{next_frame, row_grip}
pub use Rattle.lk_domain.specs.Plays.{ActsIn, MadeBy, rowed}
pub use Rattle.lk_domain.specs.Rows.{frees_by, is_swap, is_watch, looks_by, queues_up, takes_by}
pub use Rattle.lk_domain.specs.RwPlays.{ActsFor, SharedBy}
pub use Rattle.lk_domain.specs.RwRows.{joins_at, quits_by, seizes_at, watches_at}
pub use Rattle.lk_domain.specs.Seats.{IsOf, KeepsRest, calls_of, ledger_of, view_of}
pub use Rattle.lk_domain.specs.Standing.{Inside, IsOn, Outside, Stage}
pub use Rattle.lk_domain.specs.Words.{IsNode}
pub use Rattle.lk_domain.specs.declared.cpu.Cpu.{Cpu}
pub use Rattle.lk_domain.specs.declared.domain.Domain.{Domain}
pub use Rattle.lk_domain.specs.declared.plan.Plan.{Plan}
pub use Rattle.lk_domain.specs.declared.view.View.{View}
pub use Rattle.lk_run.specs.Choices.{IsFirstNode, IsMoreNode}
pub use Rattle.lk_run.specs.Frames.{Flushes, Fronts, Owns, Parts, Precedes, Promotes, Skips}
pub use Rattle.lk_run.specs.Phases.{CameIn, HasPolled, Holds, OwesPoll, Passed, StandsAs, Start}
pub use Rattle.lk_run.specs.Phases.{Waiter, Waits, biased, newest, starting, waiter}
pub use Rattle.lk_run.specs.Polls.{Acquires, GivesWay, HasStayed, NeverFalls, RisesBy}
pub use Rattle.lk_run.specs.Turns.{Path}
pub use Rattle.lk_run.specs.Words.{At, Steps}
pub use Rattle.lk_run.specs.declared.read_waiter.ReadPlace.{ReadPlace}
pub use Rattle.lk_run.specs.declared.rest.Rest.{Rest}
pub use Rattle.lk_run.specs.declared.write_waiter.WritePlace.{WritePlace}
