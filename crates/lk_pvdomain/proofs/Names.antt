-- What most proofs of this crate name, passed on from one place: words of std, of the crates below,
-- and of this crate's own specs. It declares nothing. A name that three files or more use stands here;
-- a rarer one, or one of two that are spelled alike, each file takes from its own module.
pub use Rattle.std.proofs.lemmas.Bool.{cases_Bool, cases_eq, eqb-false, eqb-true}
pub use Rattle.atomic_table.specs.Seated.{TableId}
pub use Rattle.atomic_table.specs.Table.{Allows, Me, keeps, step}
pub use Rattle.atomic_table.specs.declared.shared.Seat.{Seat}
pub use lib.ListN.{get_elem?}
pub use mathlib.Core.Logic.{dite}
pub use mathlib.Core.Option.{none, some}
pub use native.Mathlib.Decide.{ℕ_discrete}
pub use prog.Atomic.{either}
pub use Rattle.lk_word.specs.SpinWord.{IsPackable}
pub use Rattle.lk_word.specs.declared.spin_word.Fields.{Fields}
pub use Rattle.lk_word.specs.declared.spin_word.Layout.{Layout}
pub use Rattle.lk_word.specs.declared.spin_word.Locked.{Locked}
pub use Rattle.lk_word.specs.declared.spin_word.Locked.TheVariants.{Free, Held, Slow}
pub use Rattle.lk_word.specs.declared.spin_word.NodeName.{NodeName}
pub use Rattle.lk_names.specs.History.{LockHistory}
pub use Rattle.lk_names.specs.Names.{same_lock}
pub use Rattle.lk_names.specs.declared.holder.Manner.TheVariants.{Spins}
pub use Rattle.lk_names.specs.declared.names.LockName.{LockName}
pub use Rattle.lk_names.specs.declared.names.Mode.{Mode}
pub use Rattle.lk_names.specs.declared.names.Mode.TheVariants.{Cna, Native, Pv, Virt}
pub use Rattle.lk_names.specs.declared.names.Waiter.{Waiter}
pub use Rattle.lk_rows.specs.Moves.{is_node, node_of}
pub use Rattle.lk_rows.specs.TopRow.{target}
pub use Rattle.lk_rows.specs.declared.parts.Frame.{Frame}
pub use Rattle.lk_rows.specs.declared.parts.Node.{Node}
pub use Rattle.lk_rows.specs.declared.parts.Pc.{Pc}
pub use Rattle.lk_rows.specs.declared.parts.Pc.TheVariants.{E1, E9, E12, E13, G1, H2, U3, U5, W1}
pub use Rattle.lk_rows.specs.declared.parts.Pc.TheVariants.{W6, W7}
pub use Rattle.lk_rows.specs.declared.parts.State.{State}
pub use Rattle.lk_rows.specs.declared.parts.State.TheVariants.{Halted, Hashed}
pub use Rattle.lk_rows.specs.declared.setup.Verb.{Verb}
pub use Rattle.lk_rows.specs.declared.setup.Verb.TheVariants.{Lock, Try, Unlock}
pub use Rattle.lk_rows.specs.rows.Cna.{is_held}
pub use Rattle.lk_law.proofs.common.Puts.{if-false}
pub use Rattle.lk_law.proofs.running.Calm.{node_comes_at_entry}
pub use Rattle.lk_law.specs.Agree.{halts}
pub use Rattle.lk_law.specs.Leads.{Marked, Met, Named, Stated, Word, enters, met_in, stored_in}
pub use Rattle.lk_law.specs.SpinWorld.{IsSoundSpinWorld}
pub use Rattle.lk_law.specs.World.{World}
pub use Rattle.lk_domain.proofs.Acting.{acting_is}
pub use Rattle.lk_domain.proofs.Seating.{table_of}
pub use Rattle.lk_domain.proofs.queue.LockSwaps.{stands}
pub use Rattle.lk_domain.proofs.queue.NodePlays.{acts', asks, calls_are, kept}
pub use Rattle.lk_domain.proofs.queue.OnNodes.{in_plan, top_live}
pub use Rattle.lk_domain.proofs.rows.Grips.{IsOwn, own_row}
pub use Rattle.lk_domain.proofs.rows.Kept.{counted_after}
pub use Rattle.lk_domain.proofs.rows.Poised.{Poised}
pub use Rattle.lk_domain.proofs.rows.Sights.{IsSeen}
pub use Rattle.lk_domain.proofs.rows.Users.{bare_me}
pub use Rattle.lk_domain.proofs.words.LockPlays.{MayFree}
pub use Rattle.lk_domain.proofs.words.Written.{bare, far_words, roll_stays}
pub use Rattle.lk_domain.specs.Calls.{Begins, Calls, Frees, Hold, Mark, Outlook, Running, StandsOn}
pub use Rattle.lk_domain.specs.Calls.{Takes, Terms, Unchanged, acting, frame_in, lock_name, row_of}
pub use Rattle.lk_domain.specs.Calls.{running, terms_of}
pub use Rattle.lk_domain.specs.Keeps.{AllHome, Slot}
pub use Rattle.lk_domain.specs.Ledgers.{Ledger, is_first, turned}
pub use Rattle.lk_domain.specs.NodePlays.{AtEntry, Enters, InCall}
pub use Rattle.lk_domain.specs.Paths.{Any}
pub use Rattle.lk_domain.specs.Plans.{cpus_of, layout_in, locks_of, turns_by, turns_of}
pub use Rattle.lk_domain.specs.Plays.{Acts, MadeBy, WentBy, made, went}
pub use Rattle.lk_domain.specs.Runs.{Runs, Seeks, node_name, seeks_entry, waiter}
pub use Rattle.lk_domain.specs.Seats.{IsSame}
pub use Rattle.lk_domain.specs.Stand.{Stand}
pub use Rattle.lk_domain.specs.Values.{out_in}
pub use Rattle.lk_domain.specs.Views.{IsNumbered}
pub use Rattle.lk_domain.specs.Who.{Who}
pub use Rattle.lk_domain.specs.Words.{IsNode, OfHash, OfKick, OfState, hash_at, node_number}
pub use Rattle.lk_domain.specs.Words.{pair_number, places_of, state_at, state_number}
pub use Rattle.lk_domain.specs.declared.cpu.Cpu.{Cpu}
pub use Rattle.lk_domain.specs.declared.domain.Domain.{Domain}
pub use Rattle.lk_domain.specs.declared.plan.Plan.{Plan}
pub use Rattle.lk_domain.specs.declared.plan.TheConstants.{MOST_LOCKS}
pub use Rattle.lk_domain.specs.declared.view.View.{View}
pub use Rattle.lk_pvdomain.specs.PvCalls.{own_node}
pub use Rattle.lk_pvdomain.specs.PvPaths.{AtOn, Ended, EndedOn, HaltedOn, Owns, Start, Took}
pub use Rattle.lk_pvdomain.specs.PvPaths.{first_node, first_of}
pub use Rattle.lk_pvdomain.specs.PvPlays.{EmptiesAt, SeesState, TriedBy, head_fails, release_fails}
pub use Rattle.lk_pvdomain.specs.PvPlays.{steal_fails, woken}
pub use Rattle.lk_pvdomain.specs.PvRests.{Comes}
pub use Rattle.lk_pvdomain.specs.PvRows.{erases, fills, halts_at, tries_release}
pub use Rattle.lk_pvdomain.specs.PvWords.{At, Steals}
pub use Rattle.lk_pvdomain.specs.declared.domain.PvDomain.{PvDomain}
