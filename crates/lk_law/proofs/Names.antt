-- What most proofs of this crate name, passed on from one place: words of std, of the crates below,
-- and of this crate's own specs. It declares nothing. A name that three files or more use stands here;
-- a rarer one, or one of two that are spelled alike, each file takes from its own module.
pub use Rattle.std.proofs.lemmas.Bool.{cases_Bool, cases_eq, cases_lt, eqb-true, ltb-true}
pub use Rattle.lk_word.specs.declared.rw_word.RwFields.{RwFields}
pub use Rattle.lk_word.specs.declared.spin_word.Fields.{Fields}
pub use Rattle.lk_word.specs.declared.spin_word.Locked.{Locked}
pub use Rattle.lk_word.specs.declared.spin_word.Locked.TheVariants.{Free, Held, Slow}
pub use Rattle.lk_word.specs.declared.spin_word.NodeName.{NodeName}
pub use Rattle.lk_names.proofs.ByIndex.{get-append_old, get-drop_one, get-none_up, get_cases}
pub use Rattle.lk_names.proofs.ByIndex.{last_cases}
pub use Rattle.lk_names.specs.History.{LockHistory, changed, lock_of, no_history, taken, told}
pub use Rattle.lk_names.specs.History.{with_holder, without, without_holder}
pub use Rattle.lk_names.specs.Kicks.{sleeps}
pub use Rattle.lk_names.specs.Lawful.{IsFront, IsOutside, IsShared, Rules, TakesInOrder, is_local}
pub use Rattle.lk_names.specs.Names.{same_lock, same_waiter}
pub use Rattle.lk_names.specs.declared.events.Event.{Event}
pub use Rattle.lk_names.specs.declared.events.How.{How}
pub use Rattle.lk_names.specs.declared.events.How.TheVariants.{Head}
pub use Rattle.lk_names.specs.declared.events.What.{What}
pub use Rattle.lk_names.specs.declared.events.What.TheVariants.{Arrive, Flush, Halt, Int, Leave}
pub use Rattle.lk_names.specs.declared.events.What.TheVariants.{Miss, Pass, Promote, Release, Take}
pub use Rattle.lk_names.specs.declared.events.What.TheVariants.{Wake}
pub use Rattle.lk_names.specs.declared.holder.Holder.{Holder}
pub use Rattle.lk_names.specs.declared.holder.Manner.{Manner}
pub use Rattle.lk_names.specs.declared.holder.Manner.TheVariants.{Reads, Spins, Writes}
pub use Rattle.lk_names.specs.declared.names.Format.{Format}
pub use Rattle.lk_names.specs.declared.names.Kind.{Kind}
pub use Rattle.lk_names.specs.declared.names.Kind.TheVariants.{Rw}
pub use Rattle.lk_names.specs.declared.names.LockName.{LockName}
pub use Rattle.lk_names.specs.declared.names.Mode.{Mode}
pub use Rattle.lk_names.specs.declared.names.Mode.TheVariants.{Cna, Native, Pv, Virt}
pub use Rattle.lk_names.specs.declared.names.Waiter.{Waiter}
pub use Rattle.lk_rows.specs.Acts.{after_halt, stands_halting}
pub use Rattle.lk_rows.specs.Machine.{rest_node}
pub use Rattle.lk_rows.specs.Moves.{first_place, is_node, node_of, rw_name, started, wait_name}
pub use Rattle.lk_rows.specs.Row.{A, B, Done, Effect, Enters, Freed, Goes, Granted, HashedIs, K}
pub use Rattle.lk_rows.specs.Row.{Lead, Leaves, Left, Missed, Nothing, Passes, Prev, Reason, Says}
pub use Rattle.lk_rows.specs.Row.{TakesWait, Tell, Y, Yields, looks, misses, writes}
pub use Rattle.lk_rows.specs.TopRow.{target}
pub use Rattle.lk_rows.specs.declared.parts.Flag.{Flag}
pub use Rattle.lk_rows.specs.declared.parts.Flag.TheVariants.{Go, Second, Unset}
pub use Rattle.lk_rows.specs.declared.parts.Frame.{Frame}
pub use Rattle.lk_rows.specs.declared.parts.Node.{Node}
pub use Rattle.lk_rows.specs.declared.parts.Pc.{Pc}
pub use Rattle.lk_rows.specs.declared.parts.Pc.TheVariants.{C1, C2, C3, C4, C5, C6, C7, C8, C9, C10}
pub use Rattle.lk_rows.specs.declared.parts.Pc.TheVariants.{E1, E2, E3, E4, E5, E6, E7, E8, E9, E10}
pub use Rattle.lk_rows.specs.declared.parts.Pc.TheVariants.{E11, E12, E13, E14, E15, F1, G1, G2, G3}
pub use Rattle.lk_rows.specs.declared.parts.Pc.TheVariants.{G4, G5, G6, G7, G8, G9, G10, G11, H1}
pub use Rattle.lk_rows.specs.declared.parts.Pc.TheVariants.{H2, K1, K2, K3, N1, N2, P0, P1, P2, P3}
pub use Rattle.lk_rows.specs.declared.parts.Pc.TheVariants.{P4, R1, R2, R3, R4, R5, T1, T2, U1, U2}
pub use Rattle.lk_rows.specs.declared.parts.Pc.TheVariants.{U3, U4, U5, V1, V2, W1, W2, W3, W4, W5}
pub use Rattle.lk_rows.specs.declared.parts.Pc.TheVariants.{W6, W7, Wr1, Wr2, Wr3, Wr4, Wr5, Wr6}
pub use Rattle.lk_rows.specs.declared.parts.Pc.TheVariants.{Y1, Y2, Y3, Y4, Y5, Z1, Z2}
pub use Rattle.lk_rows.specs.declared.parts.State.{State}
pub use Rattle.lk_rows.specs.declared.parts.State.TheVariants.{Halted, Hashed, Running}
pub use Rattle.lk_rows.specs.declared.parts.Why.{Why}
pub use Rattle.lk_rows.specs.declared.setup.Op.{Op}
pub use Rattle.lk_rows.specs.declared.setup.Verb.{Verb}
pub use Rattle.lk_rows.specs.declared.setup.Verb.TheVariants.{Unlock}
pub use Rattle.lk_rows.specs.rows.Cna.{Sight, after_none, after_tail, flag_for, is_held, is_last}
pub use Rattle.lk_rows.specs.rows.Cna.{may_stay, search_first, search_on}
pub use Rattle.lk_rows.specs.rows.Pv.{is_halted, is_running, is_set, is_slow_byte, pv_after_next}
pub use Rattle.lk_rows.specs.rows.Pv.{with_byte}
pub use Rattle.lk_rows.specs.rows.Queue.{after_arrival, after_entry, after_flag, after_head}
pub use Rattle.lk_rows.specs.rows.Queue.{after_link, after_look, after_next, entry_row, is_sole}
pub use Rattle.lk_rows.specs.rows.Queue.{takes_out}
pub use Rattle.lk_rows.specs.rows.Spin.{after_fast, held_word, is_free, is_unlocked, takes}
pub use Rattle.lk_rows.specs.rows.Spin.{to_queue}
pub use Rattle.lk_law.specs.Agree.{EntersSlowPath, Knows, LeavesSlowPath, LockAgrees, Owed}
pub use Rattle.lk_law.specs.Agree.{ParaAgrees, SnapshotAgrees, Stays, Step, halts, node_state, sole}
pub use Rattle.lk_law.specs.Allowed.{MayFollow, MayFollowIfAny}
pub use Rattle.lk_law.specs.Cna.{CnaAgrees, FlatAgrees, FrontAgrees, ListsAgree, SecondAgrees}
pub use Rattle.lk_law.specs.Cna.{first_node, front_cut, front_tip, is_in, moves_aside, named_by}
pub use Rattle.lk_law.specs.Cna.{part, same_none, shown}
pub use Rattle.lk_law.specs.Families.{chooses, is_rw_row, is_slow, may_halt, stays_awake}
pub use Rattle.lk_law.specs.Kicked.{ShowsKicks}
pub use Rattle.lk_law.specs.Known.{IsOwnNode}
pub use Rattle.lk_law.specs.Leads.{course_in}
pub use Rattle.lk_law.specs.Phase.{Phase, claims, follows, has_lock, has_node, leads, pends, queues}
pub use Rattle.lk_law.specs.Phase.{seeks, stakes, watches}
pub use Rattle.lk_law.specs.Phase.Phase.{Claims, Hands, Holds, Idle, Leads, Links, Prepared}
pub use Rattle.lk_law.specs.Phase.Phase.{Presses, Releases, Seeks, Stakes, Waits}
pub use Rattle.lk_law.specs.Places.{kept_in, own_in, phase_at, phase_if, phase_of, phase_on}
pub use Rattle.lk_law.specs.Places.{post_at, post_if, post_of, post_on, slow_in, snapshot, stage_at}
pub use Rattle.lk_law.specs.Places.{stage_if, stage_of, stage_on, stage_why}
pub use Rattle.lk_law.specs.Premises.{HasNoPlace, IsNewest, IsThen, Uses, roused}
pub use Rattle.lk_law.specs.Pv.{Post, PostsAgree, agrees, at_halt, bare, calls, dozes, fits, fronts}
pub use Rattle.lk_law.specs.Pv.{names, not_hashed, one_at, post_full, post_holds, raw, slow_at}
pub use Rattle.lk_law.specs.Pv.{slowing, touches}
pub use Rattle.lk_law.specs.Pv.Post.{Calls, Checks, Clears, Dozes, Drops, Erases, Finds, Has, Joins}
pub use Rattle.lk_law.specs.Pv.Post.{Kicks, Marks, Naps, Off, Peers, Rises, Signing, Signs, Sleeps}
pub use Rattle.lk_law.specs.Pv.Post.{Slowing, Slows, Stirs, Stopped, Stops, Tries, Wins}
pub use Rattle.lk_law.specs.Registers.{ChoiceFits, IsQuiet, RegistersFit, counts_turns}
pub use Rattle.lk_law.specs.Registers.{hands_plainly, is_unaware, names_next, needs_hash, sees_peer}
pub use Rattle.lk_law.specs.RwAgree.{HoldsAgree, IsEach, RwAgrees, RwStep}
pub use Rattle.lk_law.specs.RwPhase.{RwPhase, announces, asks, is_counted, is_inner, rests}
pub use Rattle.lk_law.specs.RwPhase.RwPhase.{Announces, Asks, Away, Frees, Inside, Unreads}
pub use Rattle.lk_law.specs.RwPhase.RwPhase.{Unwrites}
pub use Rattle.lk_law.specs.Snapshot.{HolderAgrees, Moves, NodesAgree, PendingAgrees, QueueAgrees}
pub use Rattle.lk_law.specs.Snapshot.{Rewrites, Snapshot, before, same_node, spins}
pub use Rattle.lk_law.specs.SoundWorld.{IsSoundWorld, Part, RwFits, is_rw_name, part_of, rw_helds}
pub use Rattle.lk_law.specs.SoundWorld.{rw_own_phase, rw_phase_if, rw_phase_of, rw_phase_on}
pub use Rattle.lk_law.specs.SoundWorld.{rw_phases, rw_waits, spin_part}
pub use Rattle.lk_law.specs.SoundWorld.Part.{Freeing, Taking}
pub use Rattle.lk_law.specs.SpinLaws.{SpinRowKeeps}
pub use Rattle.lk_law.specs.SpinWorld.{IsPlain, IsSoundSpinWorld}
pub use Rattle.lk_law.specs.Stage.{Stage, chosen, cut_of, hangs, parted, passed_over, picks}
pub use Rattle.lk_law.specs.Stage.{tail_seen, tied, tip_of}
pub use Rattle.lk_law.specs.Stage.Stage.{Counts, Cuts, Flushes, Flushing, Hangs, Meets, Picked}
pub use Rattle.lk_law.specs.Stage.Stage.{Picks, Promotes, Promoting, Rests, Skips, Ties, Tips}
pub use Rattle.lk_law.specs.Steps.{Made, lead_on, led, put_entry, put_frame, put_held, put_node}
pub use Rattle.lk_law.specs.Steps.{put_queued, put_word, row_in, sight_in, stores_entry}
pub use Rattle.lk_law.specs.Steps.{stores_flag, stores_halted, stores_kicked, stores_next}
pub use Rattle.lk_law.specs.Steps.{stores_queued, stores_runs, stores_second, stores_state}
pub use Rattle.lk_law.specs.Steps.{stores_word, told_event, told_on, way_led}
pub use Rattle.lk_law.specs.World.{World}
pub use Rattle.lk_law.specs.WorldLaws.{RowKeeps}
