-- What most proofs of this crate name, passed on from one place: words of std, of the crates below,
-- and of this crate's own specs. It declares nothing. A name that three files or more use stands here;
-- a rarer one, or one of two that are spelled alike, each file takes from its own module.
pub use Rattle.std.proofs.lemmas.Bool.{cases_Bool, cases_eq, cases_lt, eqb-true, leb-false}
pub use Rattle.std.proofs.lemmas.Bool.{or_parts}
pub use Rattle.std.proofs.lemmas.Option.{slice_get_within}
pub use Rattle.lk_word.specs.declared.rw_word.RwFields.{RwFields}
pub use Rattle.lk_word.specs.declared.spin_word.Fields.{Fields}
pub use Rattle.lk_word.specs.declared.spin_word.Locked.{Locked}
pub use Rattle.lk_word.specs.declared.spin_word.Locked.TheVariants.{Free, Held, Slow}
pub use Rattle.lk_word.specs.declared.spin_word.NodeName.{NodeName}
pub use Rattle.lk_names.proofs.ByIndex.{get-append_old, get-drop_one}
pub use Rattle.lk_names.specs.History.{LockHistory, changed, history_of}
pub use Rattle.lk_names.specs.Lawful.{Holds, InOrder, Rules}
pub use Rattle.lk_names.specs.Names.{same_lock, same_waiter}
pub use Rattle.lk_names.specs.declared.events.Act.{Act}
pub use Rattle.lk_names.specs.declared.events.Event.{Event}
pub use Rattle.lk_names.specs.declared.events.How.{How}
pub use Rattle.lk_names.specs.declared.events.What.{What}
pub use Rattle.lk_names.specs.declared.events.What.TheVariants.{Arrive, Flush, Halt, Int, Kick}
pub use Rattle.lk_names.specs.declared.events.What.TheVariants.{Leave, Miss, Nudge, Pass, Promote}
pub use Rattle.lk_names.specs.declared.events.What.TheVariants.{RRelease, RTake, Release, Take}
pub use Rattle.lk_names.specs.declared.events.What.TheVariants.{WRelease, WTake, Wake}
pub use Rattle.lk_names.specs.declared.holder.Holder.{Holder}
pub use Rattle.lk_names.specs.declared.holder.Manner.TheVariants.{Reads, Spins}
pub use Rattle.lk_names.specs.declared.names.Kind.TheVariants.{Spin}
pub use Rattle.lk_names.specs.declared.names.LockName.{LockName}
pub use Rattle.lk_names.specs.declared.names.Mode.{Mode}
pub use Rattle.lk_names.specs.declared.names.Mode.TheVariants.{Cna, Native, Pv, Virt}
pub use Rattle.lk_names.specs.declared.names.Waiter.{Waiter}
pub use Rattle.lk_rows.specs.Acts.{after_halt, handler_frame, idle, is_shut, kicked_awake, next}
pub use Rattle.lk_rows.specs.Acts.{nudged, processor_of, stands_halting, step_halted, woken}
pub use Rattle.lk_rows.specs.Machine.{CpuState, HasTop, Machine, halted_at, handlers_at, kicked_at}
pub use Rattle.lk_rows.specs.Machine.{no_cpu, push, queued_at, rw_at, set_kicked, set_preempted}
pub use Rattle.lk_rows.specs.Machine.{top_frame, top_of, word_at}
pub use Rattle.lk_rows.specs.Moves.{first_place, is_node, node_of, program_of, settled, started}
pub use Rattle.lk_rows.specs.Programs.{IsLawfulSetup, handlers_of, program_at}
pub use Rattle.lk_rows.specs.Row.{Answer, Done, Effect, Enters, Freed, Goes, Granted, Lead, Leaves}
pub use Rattle.lk_rows.specs.Row.{Missed, Says, TakesWait, Yields, gone, looks, moved}
pub use Rattle.lk_rows.specs.Run.{at_rest, first_frame, machine_after}
pub use Rattle.lk_rows.specs.TopRow.{row, row_at, row_on, target}
pub use Rattle.lk_rows.specs.declared.parts.Flag.{Flag}
pub use Rattle.lk_rows.specs.declared.parts.Frame.{Frame}
pub use Rattle.lk_rows.specs.declared.parts.Node.{Node}
pub use Rattle.lk_rows.specs.declared.parts.Pc.{Pc}
pub use Rattle.lk_rows.specs.declared.parts.Pc.TheVariants.{C1, C2, C3, C4, C5, C6, C7, C8, C9, C10}
pub use Rattle.lk_rows.specs.declared.parts.Pc.TheVariants.{E1, E2, E3, E4, E5, E6, E7, E8, E9, E10}
pub use Rattle.lk_rows.specs.declared.parts.Pc.TheVariants.{E11, E12, E13, E14, E15, F1, G1, G2, G3}
pub use Rattle.lk_rows.specs.declared.parts.Pc.TheVariants.{G4, G5, G6, G7, G8, G9, G10, G11, H1}
pub use Rattle.lk_rows.specs.declared.parts.Pc.TheVariants.{H2, K1, K2, K3, N1, N2, P0, P1, P2, P3}
pub use Rattle.lk_rows.specs.declared.parts.Pc.TheVariants.{P4, R1, R2, R3, R4, R5, T1, T2, U1, U2}
pub use Rattle.lk_rows.specs.declared.parts.Pc.TheVariants.{U3, U4, U5, V1, V2, W1, W2, W3, W4, W5}
pub use Rattle.lk_rows.specs.declared.parts.Pc.TheVariants.{W6, W7, Wr1, Wr2, Wr3, Wr4, Wr5, Wr6}
pub use Rattle.lk_rows.specs.declared.parts.Pc.TheVariants.{Y1, Y2, Y3, Y4, Y5, Z1, Z2}
pub use Rattle.lk_rows.specs.declared.parts.State.{State}
pub use Rattle.lk_rows.specs.declared.parts.Why.{Why}
pub use Rattle.lk_rows.specs.declared.setup.Op.{Op}
pub use Rattle.lk_rows.specs.declared.setup.Setup.{Setup}
pub use Rattle.lk_rows.specs.declared.setup.Verb.{Verb}
pub use Rattle.lk_rows.specs.declared.setup.Verb.TheVariants.{Lock, RUnlock, Read, Try, TryRead}
pub use Rattle.lk_rows.specs.declared.setup.Verb.TheVariants.{TryWrite, Unlock, WUnlock, Write}
pub use Rattle.lk_rows.specs.rows.Cna.{Sight, after_tail, is_held, is_last, may_stay, search_first}
pub use Rattle.lk_rows.specs.rows.Cna.{search_on}
pub use Rattle.lk_rows.specs.rows.Pv.{after_given_up, after_glance, is_halted, is_running, is_set}
pub use Rattle.lk_rows.specs.rows.Pv.{is_slow_byte, pv_after_next}
pub use Rattle.lk_rows.specs.rows.Queue.{after_arrival, after_entry, after_flag, after_head}
pub use Rattle.lk_rows.specs.rows.Queue.{after_link, after_next, is_sole, own_node, takes_out}
pub use Rattle.lk_rows.specs.rows.Rw.{admits, frees_wait, is_cleared, is_empty, is_open, rw_row}
pub use Rattle.lk_rows.specs.rows.Spin.{after_fast, is_free, is_unlocked, to_queue}
pub use Rattle.lk_law.proofs.common.Cases.{waiter_cases}
pub use Rattle.lk_law.proofs.common.Families.{lists_main, lists_none}
pub use Rattle.lk_law.proofs.common.Knows.{nobody_halts}
pub use Rattle.lk_law.proofs.common.Puts.{if-false, if-true, not-true, same_waiter-else}
pub use Rattle.lk_law.proofs.common.Sames.{same_waiter-self}
pub use Rattle.lk_law.proofs.common.Worlds.{phase_on-here}
pub use Rattle.lk_law.proofs.running.Leads.{row_is_done}
pub use Rattle.lk_law.specs.Agree.{LockAgrees, halts, sole}
pub use Rattle.lk_law.specs.Cna.{moves_aside}
pub use Rattle.lk_law.specs.Families.{chooses, may_halt, stays_awake}
pub use Rattle.lk_law.specs.Kicked.{with_event}
pub use Rattle.lk_law.specs.Leads.{course_in, stored_in}
pub use Rattle.lk_law.specs.MachineLaws.{ShowsLawful}
pub use Rattle.lk_law.specs.Phase.{queues}
pub use Rattle.lk_law.specs.Places.{phase_at, phase_if, phase_on, snapshot}
pub use Rattle.lk_law.specs.Premises.{IsThen}
pub use Rattle.lk_law.specs.Sound.{BelongsTo, Footing, ShowsAll, Works, world}
pub use Rattle.lk_law.specs.Sound.Footing.{Freeing, Owing, Sharing, Spinning, Waiting}
pub use Rattle.lk_law.specs.SoundWorld.{is_rw_name, spin_part}
pub use Rattle.lk_law.specs.SpinWorld.{IsSoundSpinWorld}
pub use Rattle.lk_law.specs.Steps.{led, put_halted, row_in, sight_in, stores_next, stores_state}
pub use Rattle.lk_law.specs.Steps.{stores_word}
pub use Rattle.lk_law.specs.World.{World}
pub use Rattle.lk_waits.proofs.HaltingStands.{still_looks_at}
pub use Rattle.lk_waits.proofs.Quiet.{IsQuietFrame}
pub use Rattle.lk_waits.specs.Halting.{IsHeadServed, IsRobbed, goes_around}
pub use Rattle.lk_waits.specs.Order.{level_of}
pub use Rattle.lk_waits.specs.Waits.{IsBarred, polls}
pub use Rattle.lk_core.proofs.Access.{above_top, frame_within}
pub use Rattle.lk_core.proofs.ActKept.{act_kept}
pub use Rattle.lk_core.proofs.Moved.{same_changed_all}
pub use Rattle.lk_core.proofs.Rest.{frames}
pub use Rattle.lk_core.proofs.RowKept.{top_live}
pub use Rattle.lk_core.proofs.Runs.{acts_keep, rest_shows}
pub use Rattle.lk_core.proofs.Same.{KeepsFrames, depth_push, has_top_same, same_set_top, same_then}
pub use Rattle.lk_core.proofs.Same.{tops_push}
pub use Rattle.lk_core.proofs.Seated.{next_of, seated, world-push, world-set_preempted}
pub use Rattle.lk_core.proofs.Seated.{world-set_top}
pub use Rattle.lk_core.proofs.Setups.{setup_kept}
pub use Rattle.lk_progress.specs.HaltingMeasure.{HaltingTurnStays, KeepsTurns, halting_left}
pub use Rattle.lk_progress.specs.HaltingMeasure.{halting_left_at, halting_turn_at, halting_turn_if}
pub use Rattle.lk_progress.specs.HaltingMeasure.{halting_turn_of, head_turn}
pub use Rattle.lk_progress.specs.HaltingPrice.{SpinsAreFew, halting_budget, halting_cpu_weight}
pub use Rattle.lk_progress.specs.HaltingPrice.{halting_debt, halting_turns, halting_weight}
pub use Rattle.lk_progress.specs.HaltingPrice.{kick_turns}
pub use Rattle.lk_progress.specs.Measure.{choice_at, choice_if, goes, is_turn, left_at, left_in}
pub use Rattle.lk_progress.specs.Measure.{left_of, turn_at, turn_of}
pub use Rattle.lk_progress.specs.Ordered.{IsOrdered, IsSteady, ReadsAlone}
pub use Rattle.lk_progress.specs.Potential.{cpu_turns, is_pause, price, sum_below, turns}
pub use Rattle.lk_progress.specs.Runs.{GoesAround, IsFinished, StepsNowhere}
pub use Rattle.lk_progress.specs.Spots.{TurnsOnTheSpot}
