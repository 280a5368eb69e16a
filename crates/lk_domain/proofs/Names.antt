-- What most proofs of this crate name, passed on from one place: words of std, of the crates below,
-- and of this crate's own specs. It declares nothing. A name that three files or more use stands here;
-- a rarer one, or one of two that are spelled alike, each file takes from its own module.
pub use Rattle.std.proofs.lemmas.Bool.{cases_Bool, cases_eq}
pub use Rattle.std.proofs.lemmas.Nat.{or_block}
pub use Rattle.std.specs.Int.Bits.{bit_or, or_zero_r}
pub use Rattle.std.specs.List.{sum}
pub use Rattle.std.specs.Slots.{slots_items}
pub use Rattle.atomic_table.proofs.Lists.{at_set, set_else}
pub use Rattle.atomic_table.specs.Seated.{TableId}
pub use Rattle.atomic_table.specs.Table.{Allows, Me, State, Step, keeps, rest, step}
pub use lib.ListN.{get_elem?}
pub use lib.Seq.{set-get_or}
pub use mathlib.Core.Logic.{dite}
pub use mathlib.Core.Option.{none, some, some-injective, some-ne-none}
pub use native.Mathlib.Decide.{ℕ_discrete}
pub use prog.Atomic.{either}
pub use Rattle.lk_word.proofs.SpinWordLemmas.{packed_small}
pub use Rattle.lk_word.specs.RwWord.{IsPackableRw}
pub use Rattle.lk_word.specs.SpinWord.{IsPackable, locked_number, tail_number}
pub use Rattle.lk_word.specs.declared.rw_word.RwFields.{RwFields}
pub use Rattle.lk_word.specs.declared.spin_word.Fields.{Fields}
pub use Rattle.lk_word.specs.declared.spin_word.Layout.{Layout}
pub use Rattle.lk_word.specs.declared.spin_word.Layout.TheVariants.{Narrow, Wide}
pub use Rattle.lk_word.specs.declared.spin_word.Locked.{Locked}
pub use Rattle.lk_word.specs.declared.spin_word.Locked.TheVariants.{Free, Held, Slow}
pub use Rattle.lk_word.specs.declared.spin_word.NodeName.{NodeName}
pub use Rattle.lk_names.specs.History.{LockHistory}
pub use Rattle.lk_names.specs.Names.{same_lock}
pub use Rattle.lk_names.specs.declared.holder.Manner.{Manner}
pub use Rattle.lk_names.specs.declared.holder.Manner.TheVariants.{Reads, Spins, Writes}
pub use Rattle.lk_names.specs.declared.ledger.Entry.{Entry}
pub use Rattle.lk_names.specs.declared.names.Kind.{Kind}
pub use Rattle.lk_names.specs.declared.names.Kind.TheVariants.{Rw, Spin}
pub use Rattle.lk_names.specs.declared.names.LockName.{LockName}
pub use Rattle.lk_names.specs.declared.names.Mode.{Mode}
pub use Rattle.lk_names.specs.declared.names.Mode.TheVariants.{Cna, Native, Pv, Virt}
pub use Rattle.lk_names.specs.declared.names.Waiter.{Waiter}
pub use Rattle.lk_rows.specs.Moves.{first_place, is_node, node_of, rw_name, wait_name}
pub use Rattle.lk_rows.specs.Programs.{kind_of}
pub use Rattle.lk_rows.specs.Row.{Effect, Lead, Leaves, Yields}
pub use Rattle.lk_rows.specs.TopRow.{ChoiceFlag, ChoiceNext, ChoiceWord, FlagOf, NextOf, PvFlag}
pub use Rattle.lk_rows.specs.TopRow.{PvNext, PvWord, QueueWord, RunsOf, RwWord, SecondTailOf}
pub use Rattle.lk_rows.specs.TopRow.{SpinWord, Target, target}
pub use Rattle.lk_rows.specs.declared.parts.Flag.{Flag}
pub use Rattle.lk_rows.specs.declared.parts.Flag.TheVariants.{Go, Second, Unset}
pub use Rattle.lk_rows.specs.declared.parts.Frame.{Frame}
pub use Rattle.lk_rows.specs.declared.parts.Node.{Node}
pub use Rattle.lk_rows.specs.declared.parts.Pc.{Pc}
pub use Rattle.lk_rows.specs.declared.parts.Pc.TheVariants.{C1, C2, C3, C5, C7, C8, C10, F1, G1, G2}
pub use Rattle.lk_rows.specs.declared.parts.Pc.TheVariants.{G3, G4, G5, G6, G7, G8, G9, G10, G11}
pub use Rattle.lk_rows.specs.declared.parts.Pc.TheVariants.{H1, N1, N2, P0, P1, P2, P3, P4, R1, R2}
pub use Rattle.lk_rows.specs.declared.parts.Pc.TheVariants.{R3, R4, R5, T1, T2, U1, U2, U3, U4, V1}
pub use Rattle.lk_rows.specs.declared.parts.Pc.TheVariants.{V2, W1, Wr1, Wr2, Wr3, Wr4, Wr5, Wr6}
pub use Rattle.lk_rows.specs.declared.parts.Pc.TheVariants.{Y1, Y2, Y3, Y4, Y5, Z1, Z2}
pub use Rattle.lk_rows.specs.declared.setup.Verb.{Verb}
pub use Rattle.lk_rows.specs.declared.setup.Verb.TheVariants.{Lock, RUnlock, Read, Try, TryRead}
pub use Rattle.lk_rows.specs.declared.setup.Verb.TheVariants.{TryWrite, Unlock, WUnlock, Write}
pub use Rattle.lk_rows.specs.rows.Cna.{Sight, is_held, search_on}
pub use Rattle.lk_rows.specs.rows.Pv.{is_set, pv_row}
pub use Rattle.lk_rows.specs.rows.Queue.{is_sole}
pub use Rattle.lk_rows.specs.rows.Rw.{is_cleared, is_empty, is_open, rw_row}
pub use Rattle.lk_rows.specs.rows.Spin.{is_free, is_unlocked}
pub use Rattle.lk_law.proofs.common.Cases.{node_cases}
pub use Rattle.lk_law.proofs.common.Puts.{if-false, if-true, if_cases, not-true, same_lock-else}
pub use Rattle.lk_law.proofs.common.Puts.{same_node-else, same_node-self}
pub use Rattle.lk_law.proofs.common.Sames.{same_lock-self, same_lock-true}
pub use Rattle.lk_law.specs.Agree.{halts}
pub use Rattle.lk_law.specs.Cna.{moves_aside}
pub use Rattle.lk_law.specs.Families.{chooses, is_rw_row, is_slow, may_halt}
pub use Rattle.lk_law.specs.Known.{choice_node}
pub use Rattle.lk_law.specs.Leads.{Course, Flagged, Linked, Met, Named, Number, RowDone, Shared}
pub use Rattle.lk_law.specs.Leads.{Word, course_at, course_in, enters, held_lock, met_in, stored_in}
pub use Rattle.lk_law.specs.Nodes.{IsFree, looks_along}
pub use Rattle.lk_law.specs.Places.{phase_at, phase_if, phase_of}
pub use Rattle.lk_law.specs.Premises.{IsThen, Uses}
pub use Rattle.lk_law.specs.RwKnown.{RwKnown}
pub use Rattle.lk_law.specs.Snapshot.{same_node}
pub use Rattle.lk_law.specs.SoundWorld.{IsSoundWorld, RwFits, is_rw, is_rw_name}
pub use Rattle.lk_law.specs.SpinWorld.{IsSoundSpinWorld}
pub use Rattle.lk_law.specs.Steps.{led, sight_in, stores_flag, stores_next, stores_runs}
pub use Rattle.lk_law.specs.Steps.{stores_second}
pub use Rattle.lk_law.specs.World.{World}
pub use Rattle.lk_waits.proofs.Attended.{attended_stays}
pub use Rattle.lk_waits.specs.Attended.{IsAttended}
pub use Rattle.lk_values.proofs.Guards.{step_keeps}
pub use Rattle.lk_values.specs.Guarded.{Among}
pub use Rattle.lk_domain.specs.Calls.{AreFresh, AreHeld, ArePlaced, Begins, Calls, Frees, Grip}
pub use Rattle.lk_domain.specs.Calls.{Hold, Mark, MayBegin, Outlook, Rests, Running, Stacked}
pub use Rattle.lk_domain.specs.Calls.{StandsOn, Suits, Takes, Unchanged, acting, after, are_calls}
pub use Rattle.lk_domain.specs.Calls.{begin, begins_release, begun, course, frame_in, frames_after}
pub use Rattle.lk_domain.specs.Calls.{free_of, grip_led, grip_of, grip_told, held_in, hold, hold_in}
pub use Rattle.lk_domain.specs.Calls.{holds_after, holds_in, is_inner, is_leaving, is_on}
pub use Rattle.lk_domain.specs.Calls.{is_seeking, is_verb, lock_name, mark, moved_to, no_calls}
pub use Rattle.lk_domain.specs.Calls.{plain, read_at, releases, row_at, row_of, row_on, running}
pub use Rattle.lk_domain.specs.Calls.{sight_by, sight_of, slow_in, slows, terms_of, told, told_in}
pub use Rattle.lk_domain.specs.Calls.{waits_in, way_in}
pub use Rattle.lk_domain.specs.Ends.{IsEnd}
pub use Rattle.lk_domain.specs.Keeps.{AllHome, AreEnded, ArePast, AtHome, Away, IsOpen, Keeps}
pub use Rattle.lk_domain.specs.Keeps.{Knows, Slot, any_count, balance, holds_first, sole_count}
pub use Rattle.lk_domain.specs.Keeps.{undrawn}
pub use Rattle.lk_domain.specs.Ledgers.{Ledger, Look, Out, Past, is_first, no_ledger, turned}
pub use Rattle.lk_domain.specs.Marked.{IsNoted, Marks, Steps, far_with, near_with}
pub use Rattle.lk_domain.specs.NodePlays.{Enters, Hands, SeesFlag, SeesLink, looks_behind}
pub use Rattle.lk_domain.specs.Plans.{IsRunningPlan, accounts_of, cpus_of, kind_at, layout_in}
pub use Rattle.lk_domain.specs.Plans.{locks_of}
pub use Rattle.lk_domain.specs.Plays.{Acts, ActsIn, ActsOn, MadeBy, carried_of, carried_with, made}
pub use Rattle.lk_domain.specs.Plays.{turned_of, went}
pub use Rattle.lk_domain.specs.Rows.{arrives_by, claims_by, clears_by, frees_by, is_patient}
pub use Rattle.lk_domain.specs.Rows.{is_take, is_watch, looks_by, pends_by, promotes_by, queues_up}
pub use Rattle.lk_domain.specs.Rows.{soles_by, stakes_by, takes_by}
pub use Rattle.lk_domain.specs.Runs.{AreTold, IsStored, Mirrors, Runs, SeatFits, Seeks, node_name}
pub use Rattle.lk_domain.specs.Runs.{waiter}
pub use Rattle.lk_domain.specs.RwPlays.{ActsFor, SharedBy}
pub use Rattle.lk_domain.specs.RwRows.{awaits_by, follows_by, joins_at, joins_by, leaves_by}
pub use Rattle.lk_domain.specs.RwRows.{quits_by, seizes_at, seizes_by, watches_by}
pub use Rattle.lk_domain.specs.Seats.{view_of}
pub use Rattle.lk_domain.specs.Stand.{Stand}
pub use Rattle.lk_domain.specs.Values.{Fits, FitsUnder, IsClear, IsHomeAt, IsKeyOf, IsNewestAt}
pub use Rattle.lk_domain.specs.Values.{IsOutAt, IsOutWith, Key, Reaches, bringing, empty_places}
pub use Rattle.lk_domain.specs.Values.{homes_of, lock_of, lodged, marked_out, out_in, outs_of}
pub use Rattle.lk_domain.specs.Values.{taking}
pub use Rattle.lk_domain.specs.Views.{IsNumbered, all_past, dealer, listed, numbers, own_number}
pub use Rattle.lk_domain.specs.Views.{past_of, times, view}
pub use Rattle.lk_domain.specs.Who.{Who}
pub use Rattle.lk_domain.specs.Words.{IsNode, IsPlace, OfLock, OfNode, OfState, Place, balance_at}
pub use Rattle.lk_domain.specs.Words.{flag_number, has_part, is_last, link_number, lock_at, marked}
pub use Rattle.lk_domain.specs.Words.{name_number, node_at, node_number, number_of, part_index}
pub use Rattle.lk_domain.specs.Words.{place_at, quiet_at, state_number, stored_number, version_at}
pub use Rattle.lk_domain.specs.Words.{with_mark, word_at, words_of}
pub use Rattle.lk_domain.specs.declared.cpu.Cpu.{Cpu}
pub use Rattle.lk_domain.specs.declared.domain.Domain.{Domain}
pub use Rattle.lk_domain.specs.declared.ledger.journal.Journal.{Journal}
pub use Rattle.lk_domain.specs.declared.locks.moves.WordUse.TheVariants.{Claims, Clears, Looks}
pub use Rattle.lk_domain.specs.declared.locks.moves.WordUse.TheVariants.{Pends, Stakes}
pub use Rattle.lk_domain.specs.declared.notes.Notes.{Notes}
pub use Rattle.lk_domain.specs.declared.part.Part.{Part}
pub use Rattle.lk_domain.specs.declared.plan.Plan.{Plan}
pub use Rattle.lk_domain.specs.declared.slot.Stowed.TheVariants.{CellKey, Entries}
pub use Rattle.lk_domain.specs.declared.view.View.{View}
