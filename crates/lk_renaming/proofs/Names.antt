-- What most proofs of this crate name, passed on from one place: words of std, of the crates below,
-- and of this crate's own specs. It declares nothing. A name that three files or more use stands here;
-- a rarer one, or one of two that are spelled alike, each file takes from its own module.
pub use Rattle.std.proofs.lemmas.List.{length-map}
pub use Rattle.lk_word.specs.declared.rw_word.RwFields.{RwFields}
pub use Rattle.lk_word.specs.declared.spin_word.Fields.{Fields}
pub use Rattle.lk_word.specs.declared.spin_word.NodeName.{NodeName}
pub use Rattle.lk_names.specs.declared.names.LockName.{LockName}
pub use Rattle.lk_names.specs.declared.names.Mode.{Mode}
pub use Rattle.lk_names.specs.declared.names.Mode.TheVariants.{Pv, Virt}
pub use Rattle.lk_rows.specs.Machine.{CpuState, Machine, no_cpu, rest_frame, rest_node, top_frame}
pub use Rattle.lk_rows.specs.Moves.{is_node, node_of, settled}
pub use Rattle.lk_rows.specs.Row.{A, Answer, B, Change, Done, Effect, Enters, Freed, Goes, Granted}
pub use Rattle.lk_rows.specs.Row.{Lead, Leaves, Missed, Nothing, Passes, Prev, Says, Second, T}
pub use Rattle.lk_rows.specs.Row.{Tailed, TakesWait, TargetIs, Y, Yields, applied, counted, entered}
pub use Rattle.lk_rows.specs.Row.{gone, looks}
pub use Rattle.lk_rows.specs.declared.parts.Flag.{Flag}
pub use Rattle.lk_rows.specs.declared.parts.Frame.{Frame}
pub use Rattle.lk_rows.specs.declared.parts.Node.{Node}
pub use Rattle.lk_rows.specs.declared.parts.Pc.{Pc}
pub use Rattle.lk_rows.specs.declared.parts.Pc.TheVariants.{C1, C2, C3, C4, C5, C6, C7, C8, C9, C10}
pub use Rattle.lk_rows.specs.declared.parts.Pc.TheVariants.{E1, E2, E6, E10, E13, E14, E15, G5, G6}
pub use Rattle.lk_rows.specs.declared.parts.Pc.TheVariants.{G7, G8, G10, G11, K1, U4, U5, W1, W2}
pub use Rattle.lk_rows.specs.declared.parts.Pc.TheVariants.{W4, W5, W6, W7}
pub use Rattle.lk_rows.specs.declared.parts.State.{State}
pub use Rattle.lk_rows.specs.declared.setup.Op.{Op}
pub use Rattle.lk_rows.specs.declared.setup.Setup.{Setup}
pub use Rattle.lk_rows.specs.rows.Cna.{handover_row, is_held, is_last, promotion_row, runs_row}
pub use Rattle.lk_rows.specs.rows.Cna.{search_row, second_row}
pub use Rattle.lk_rows.specs.rows.Pv.{halt_row, hash_row, kick_row, pv_flag_row, pv_next_row}
pub use Rattle.lk_rows.specs.rows.Pv.{pv_row, state_row}
pub use Rattle.lk_rows.specs.rows.Queue.{entry_row, flag_row, next_row, queue_row}
pub use Rattle.lk_rows.specs.rows.Rw.{rw_row}
pub use Rattle.lk_rows.specs.rows.Spin.{is_free, is_unlocked, spin_row}
pub use Rattle.lk_renaming.specs.Named.{AreNames, HasNames, names_at}
pub use Rattle.lk_renaming.specs.Renamed.{renamed, renamed_answer, renamed_cpu, renamed_cpus}
pub use Rattle.lk_renaming.specs.Renamed.{renamed_flag, renamed_frame, renamed_link, renamed_lock}
pub use Rattle.lk_renaming.specs.Renamed.{renamed_name, renamed_node, renamed_word}
pub use Rattle.lk_renaming.specs.Renaming.{IsAmongAlike, IsRenaming, Renaming}
