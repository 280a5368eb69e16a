-- What most proofs of this crate name, passed on from one place: words of std, of the crates below,
-- and of this crate's own specs. It declares nothing. A name that three files or more use stands here;
-- a rarer one, or one of two that are spelled alike, each file takes from its own module.
pub use Rattle.std.proofs.lemmas.Bool.{cases_Bool, cases_eq, cases_lt, eq-eqb, ne_eqb}
pub use Rattle.std.proofs.lemmas.List.{get_or_past}
pub use Rattle.std.proofs.lemmas.Option.{none-some, same_Some, slice_get-get_or, slice_get_past}
pub use Rattle.std.proofs.lemmas.Option.{slice_get_within}
pub use Rattle.lk_word.specs.declared.rw_word.RwFields.{RwFields}
pub use Rattle.lk_word.specs.declared.spin_word.Fields.{Fields}
pub use Rattle.lk_word.specs.declared.spin_word.NodeName.{NodeName}
pub use Rattle.lk_names.specs.History.{LockHistory}
pub use Rattle.lk_names.specs.Names.{same_lock, same_waiter}
pub use Rattle.lk_names.specs.declared.events.Act.{Act}
pub use Rattle.lk_names.specs.declared.events.Event.{Event}
pub use Rattle.lk_names.specs.declared.holder.Manner.{Manner}
pub use Rattle.lk_names.specs.declared.holder.Manner.TheVariants.{Spins}
pub use Rattle.lk_names.specs.declared.names.Kind.{Kind}
pub use Rattle.lk_names.specs.declared.names.Kind.TheVariants.{Spin}
pub use Rattle.lk_names.specs.declared.names.LockName.{LockName}
pub use Rattle.lk_names.specs.declared.names.Mode.{Mode}
pub use Rattle.lk_names.specs.declared.names.Mode.TheVariants.{Cna, Native, Pv, Virt}
pub use Rattle.lk_names.specs.declared.names.Waiter.{Waiter}
pub use Rattle.lk_rows.specs.Acts.{after_halt, awake, handler_frame, idle, interrupted, is_shut}
pub use Rattle.lk_rows.specs.Acts.{kicked_awake, next, nudged, processor_of, stands_halting, step}
pub use Rattle.lk_rows.specs.Acts.{step_halted, woken}
pub use Rattle.lk_rows.specs.Machine.{CpuState, HasNode, HasTop, LockState, Machine, no_cpu}
pub use Rattle.lk_rows.specs.Machine.{rest_frame, rest_lock, rest_node, top_frame, top_of}
pub use Rattle.lk_rows.specs.Machine.{with_entry, without_entry}
pub use Rattle.lk_rows.specs.Moves.{first_place, granted, is_node, leave, node_of, program_of}
pub use Rattle.lk_rows.specs.Moves.{rw_name, settled, settled_at, skipped, started, wait_name}
pub use Rattle.lk_rows.specs.Moves.{waiting}
pub use Rattle.lk_rows.specs.Programs.{HasPrograms, handlers_of, is_try, kind_of, program_at}
pub use Rattle.lk_rows.specs.Programs.{way_after, way_at, way_before}
pub use Rattle.lk_rows.specs.Row.{Answer, Change, Counter, Done, Effect, Enters, Freed, Goes}
pub use Rattle.lk_rows.specs.Row.{Granted, Lead, Leaves, Missed, Prev, TakesWait, TargetIs, Yields}
pub use Rattle.lk_rows.specs.Row.{changed_all, counted, entered, gone, moved}
pub use Rattle.lk_rows.specs.Rules.{rules_of}
pub use Rattle.lk_rows.specs.TopRow.{ChoiceFlag, ChoiceNext, ChoiceWord, FlagOf, Halted, HashEntry}
pub use Rattle.lk_rows.specs.TopRow.{KickOf, NextOf, PvFlag, PvNext, PvWord, QueueWord, Queued}
pub use Rattle.lk_rows.specs.TopRow.{RunsOf, RwWord, SecondTailOf, SpinWord, StateOf, Target, row}
pub use Rattle.lk_rows.specs.TopRow.{row_at, row_on, sight_at, stored_entry, stored_flag}
pub use Rattle.lk_rows.specs.TopRow.{stored_halted, stored_kicked, stored_next, stored_queued}
pub use Rattle.lk_rows.specs.TopRow.{stored_runs, stored_rw, stored_second, stored_state}
pub use Rattle.lk_rows.specs.TopRow.{stored_word, target}
pub use Rattle.lk_rows.specs.declared.parts.Counts.{Counts}
pub use Rattle.lk_rows.specs.declared.parts.Flag.{Flag}
pub use Rattle.lk_rows.specs.declared.parts.Frame.{Frame}
pub use Rattle.lk_rows.specs.declared.parts.Node.{Node}
pub use Rattle.lk_rows.specs.declared.parts.Pc.{Pc}
pub use Rattle.lk_rows.specs.declared.parts.Pc.TheVariants.{C1, C2, C3, C6, C7, C8, C10, E1, E2, E4}
pub use Rattle.lk_rows.specs.declared.parts.Pc.TheVariants.{E6, E7, E10, E13, E14, F1, G3, G4, G5}
pub use Rattle.lk_rows.specs.declared.parts.Pc.TheVariants.{G6, G8, G10, G11, H2, K1, K3, N2, P4}
pub use Rattle.lk_rows.specs.declared.parts.Pc.TheVariants.{R1, R2, R4, R5, T1, T2, U2, U3, U4, U5}
pub use Rattle.lk_rows.specs.declared.parts.Pc.TheVariants.{V2, W2, W4, W6, W7, Wr1, Wr2, Wr3, Wr6}
pub use Rattle.lk_rows.specs.declared.parts.Pc.TheVariants.{Y1, Y2, Y4, Y5}
pub use Rattle.lk_rows.specs.declared.parts.State.{State}
pub use Rattle.lk_rows.specs.declared.setup.Op.{Op}
pub use Rattle.lk_rows.specs.declared.setup.Setup.{Setup}
pub use Rattle.lk_rows.specs.declared.setup.Verb.{Verb}
pub use Rattle.lk_rows.specs.declared.setup.Verb.TheVariants.{Lock, RUnlock, Read, Try, TryRead}
pub use Rattle.lk_rows.specs.declared.setup.Verb.TheVariants.{TryWrite, Unlock, WUnlock, Write}
pub use Rattle.lk_rows.specs.rows.Cna.{Sight, after_none, handover_row, is_held, is_last, may_stay}
pub use Rattle.lk_rows.specs.rows.Cna.{promotion_row, runs_row, search_row, second_row}
pub use Rattle.lk_rows.specs.rows.Pv.{halt_row, hash_row, is_halted, is_running, is_set, kick_row}
pub use Rattle.lk_rows.specs.rows.Pv.{pv_flag_row, pv_next_row, pv_row, state_row}
pub use Rattle.lk_rows.specs.rows.Queue.{entry_row, flag_row, is_sole, next_row, queue_row}
pub use Rattle.lk_rows.specs.rows.Rw.{is_cleared, is_empty, is_open, rw_row}
pub use Rattle.lk_rows.specs.rows.Spin.{is_free, is_unlocked, spin_row}
pub use Rattle.lk_machine.specs.Ready.{CountsWithin}
pub use Rattle.lk_law.proofs.common.Cases.{lock_cases, waiter_cases}
pub use Rattle.lk_law.proofs.common.HeldAfter.{held_goes}
pub use Rattle.lk_law.proofs.common.Knows.{named_front_is_used}
pub use Rattle.lk_law.proofs.common.Puts.{if-false, if-true, same_lock-else, same_waiter-else}
pub use Rattle.lk_law.proofs.common.Sames.{same_lock-self, same_waiter-self}
pub use Rattle.lk_law.specs.Agree.{halts}
pub use Rattle.lk_law.specs.Allowed.{MayFollowIfAny}
pub use Rattle.lk_law.specs.Families.{chooses, is_halting_row, is_queued_row, is_rw_row, may_halt}
pub use Rattle.lk_law.specs.Kicked.{ShowsKicks, with_event}
pub use Rattle.lk_law.specs.Known.{IsOwnNode}
pub use Rattle.lk_law.specs.Phase.{Phase, has_node, queues}
pub use Rattle.lk_law.specs.Phase.Phase.{Idle}
pub use Rattle.lk_law.specs.Places.{own_in, phase_of, phase_on}
pub use Rattle.lk_law.specs.Premises.{IsNewest, Uses}
pub use Rattle.lk_law.specs.RwPhase.{RwPhase, is_inner}
pub use Rattle.lk_law.specs.RwPhase.RwPhase.{Asks, Away}
pub use Rattle.lk_law.specs.Sound.{BelongsTo, Fits, Footing, Freeing, IsEnteredOnce, IsWhole, Owing}
pub use Rattle.lk_law.specs.Sound.{RwBelongs, Sharing, ShowsAll, Spinning, Waiting, Works}
pub use Rattle.lk_law.specs.Sound.{after_wait, frees, held_at, held_idle, held_in, held_of}
pub use Rattle.lk_law.specs.Sound.{is_choosing_row, is_lock_row, is_over, is_virt_row, owes_kick}
pub use Rattle.lk_law.specs.Sound.{world}
pub use Rattle.lk_law.specs.SoundWorld.{IsSoundWorld, RwFits, rw_own_phase, rw_phase_if}
pub use Rattle.lk_law.specs.SoundWorld.{rw_phase_of, spin_part}
pub use Rattle.lk_law.specs.Steps.{lead_on, led, put_frame, put_held, put_queued, stores_rw}
pub use Rattle.lk_law.specs.Steps.{told_on}
pub use Rattle.lk_law.specs.World.{World}
