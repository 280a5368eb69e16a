-- What most proofs of this crate name, passed on from one place: words of std, of the crates below,
-- and of this crate's own specs. It declares nothing. A name that three files or more use stands here;
-- a rarer one, or one of two that are spelled alike, each file takes from its own module.
pub use Rattle.std.proofs.lemmas.Bool.{cases_Bool, cases_lt}
pub use Rattle.lk_word.specs.declared.rw_word.RwFields.{RwFields}
pub use Rattle.lk_word.specs.declared.spin_word.Fields.{Fields}
pub use Rattle.lk_word.specs.declared.spin_word.Locked.{Locked}
pub use Rattle.lk_word.specs.declared.spin_word.Locked.TheVariants.{Free, Held, Slow}
pub use Rattle.lk_word.specs.declared.spin_word.NodeName.{NodeName}
pub use Rattle.lk_names.proofs.ByIndex.{get_cases}
pub use Rattle.lk_names.specs.History.{LockHistory}
pub use Rattle.lk_names.specs.Names.{same_lock, same_waiter}
pub use Rattle.lk_names.specs.declared.holder.Manner.TheVariants.{Spins}
pub use Rattle.lk_names.specs.declared.names.Kind.TheVariants.{Rw}
pub use Rattle.lk_names.specs.declared.names.LockName.{LockName}
pub use Rattle.lk_names.specs.declared.names.Mode.{Mode}
pub use Rattle.lk_names.specs.declared.names.Mode.TheVariants.{Cna, Native, Pv, Virt}
pub use Rattle.lk_names.specs.declared.names.Waiter.{Waiter}
pub use Rattle.lk_rows.specs.Moves.{first_place, is_node, node_of, rw_name}
pub use Rattle.lk_rows.specs.Row.{Effect, Goes, Lead}
pub use Rattle.lk_rows.specs.TopRow.{ChoiceFlag, ChoiceNext, ChoiceWord, FlagOf, Halted, HashEntry}
pub use Rattle.lk_rows.specs.TopRow.{KickOf, NextOf, PvFlag, PvNext, PvWord, QueueWord, Queued}
pub use Rattle.lk_rows.specs.TopRow.{RunsOf, RwWord, SecondTailOf, SpinWord, StateOf, Target}
pub use Rattle.lk_rows.specs.TopRow.{target}
pub use Rattle.lk_rows.specs.declared.parts.Flag.{Flag}
pub use Rattle.lk_rows.specs.declared.parts.Frame.{Frame}
pub use Rattle.lk_rows.specs.declared.parts.Pc.{Pc}
pub use Rattle.lk_rows.specs.declared.parts.Pc.TheVariants.{C1, C2, C3, C4, C5, C6, C7, C8, C9, C10}
pub use Rattle.lk_rows.specs.declared.parts.Pc.TheVariants.{E1, E2, E3, E4, E5, E7, E8, E10, E11}
pub use Rattle.lk_rows.specs.declared.parts.Pc.TheVariants.{E12, E13, E14, E15, F1, G1, G2, G3, G4}
pub use Rattle.lk_rows.specs.declared.parts.Pc.TheVariants.{G5, G6, G7, G8, G9, G10, G11, H1, H2}
pub use Rattle.lk_rows.specs.declared.parts.Pc.TheVariants.{K1, K2, N1, N2, P0, P1, P2, P3, P4, R1}
pub use Rattle.lk_rows.specs.declared.parts.Pc.TheVariants.{R2, R3, R4, R5, T1, T2, U1, U2, U4, U5}
pub use Rattle.lk_rows.specs.declared.parts.Pc.TheVariants.{V1, V2, W5, W6, W7, Wr1, Wr2, Wr3, Wr4}
pub use Rattle.lk_rows.specs.declared.parts.Pc.TheVariants.{Wr5, Wr6, Y1, Y2, Y3, Y4, Y5, Z1, Z2}
pub use Rattle.lk_rows.specs.declared.parts.State.{State}
pub use Rattle.lk_rows.specs.declared.parts.Why.{Why}
pub use Rattle.lk_rows.specs.declared.setup.Verb.TheVariants.{Unlock}
pub use Rattle.lk_rows.specs.rows.Cna.{after_tail, is_held, is_last, may_stay, promotion_row}
pub use Rattle.lk_rows.specs.rows.Cna.{runs_row, search_first, search_on, search_row, second_row}
pub use Rattle.lk_rows.specs.rows.Pv.{is_halted, is_set, is_slow_byte, pv_after_next}
pub use Rattle.lk_rows.specs.rows.Queue.{after_arrival, after_entry, after_flag, after_head}
pub use Rattle.lk_rows.specs.rows.Queue.{after_link, after_next, entry_row, flag_row, is_sole}
pub use Rattle.lk_rows.specs.rows.Queue.{next_row, own_node, queue_row}
pub use Rattle.lk_rows.specs.rows.Rw.{is_cleared, is_empty, is_open, rw_row}
pub use Rattle.lk_rows.specs.rows.Spin.{after_fast, is_free, is_unlocked, to_queue}
pub use Rattle.lk_law.proofs.common.Cases.{lock_cases, waiter_cases}
pub use Rattle.lk_law.proofs.common.Families.{lists_front}
pub use Rattle.lk_law.proofs.common.Knows.{row_knows}
pub use Rattle.lk_law.proofs.common.Puts.{if-false, if-true, not-true, same_lock-else}
pub use Rattle.lk_law.proofs.common.Puts.{same_waiter-else}
pub use Rattle.lk_law.proofs.common.Sames.{same_lock-self, same_waiter-self}
pub use Rattle.lk_law.proofs.common.Users.{is_node-own, node_is_ones}
pub use Rattle.lk_law.proofs.common.Worlds.{phase_on-here}
pub use Rattle.lk_law.proofs.queue.Lead.{follows_cases}
pub use Rattle.lk_law.proofs.running.Leads.{row_is_done}
pub use Rattle.lk_law.proofs.rw.Knows.{rw_row_knows}
pub use Rattle.lk_law.specs.Agree.{LockAgrees, halts}
pub use Rattle.lk_law.specs.Cna.{moves_aside}
pub use Rattle.lk_law.specs.Families.{chooses, is_rw_row, may_halt, stays_awake}
pub use Rattle.lk_law.specs.Leads.{course_in, stored_in}
pub use Rattle.lk_law.specs.Phase.{Phase, leads, pends, queues}
pub use Rattle.lk_law.specs.Phase.Phase.{Holds, Idle, Links}
pub use Rattle.lk_law.specs.Places.{own_in, phase_at, phase_if, phase_on, post_at, snapshot}
pub use Rattle.lk_law.specs.Premises.{IsNewest, IsThen, Uses}
pub use Rattle.lk_law.specs.RwPhase.{biased}
pub use Rattle.lk_law.specs.Snapshot.{Snapshot, spins}
pub use Rattle.lk_law.specs.SoundWorld.{IsSoundWorld, spin_part}
pub use Rattle.lk_law.specs.SpinWorld.{HasNoneAbove, IsSoundSpinWorld}
pub use Rattle.lk_law.specs.Steps.{led, row_in, sight_in, stores_next, stores_word}
pub use Rattle.lk_law.specs.World.{World}
pub use Rattle.lk_waits.specs.Aside.{is_alone_row}
pub use Rattle.lk_waits.specs.Halting.{IsAwaited, IsHeadServed, halts_as_head, looks_after}
pub use Rattle.lk_waits.specs.Order.{HoldsOutside, IsFollowedBy, IsRanked, IsTidy, SomebodyComesBy}
pub use Rattle.lk_waits.specs.Order.{comes_by, is_led_on}
pub use Rattle.lk_waits.specs.Waits.{IsTop, StandsStill, lock_at, polls}
