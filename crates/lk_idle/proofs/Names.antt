-- What most proofs of this crate name, passed on from one place: words of std, of the crates below,
-- and of this crate's own specs. It declares nothing. A name that three files or more use stands here;
-- a rarer one, or one of two that are spelled alike, each file takes from its own module.
pub use Rattle.std.proofs.lemmas.Bool.{cases_lt}
pub use Rattle.std.proofs.lemmas.List.{set_past}
pub use Rattle.lk_word.specs.declared.rw_word.RwFields.{RwFields}
pub use Rattle.lk_word.specs.declared.spin_word.Fields.{Fields}
pub use Rattle.lk_word.specs.declared.spin_word.NodeName.{NodeName}
pub use Rattle.lk_names.specs.declared.names.Mode.{Mode}
pub use Rattle.lk_names.specs.declared.names.Mode.TheVariants.{Pv}
pub use Rattle.lk_rows.specs.Acts.{after_halt}
pub use Rattle.lk_rows.specs.Machine.{CpuState, Machine, rest_frame, rest_node, top_frame}
pub use Rattle.lk_rows.specs.Moves.{is_node, node_of, settled}
pub use Rattle.lk_rows.specs.Row.{Answer, Change, Done, Effect, Enters, Freed, Goes, Granted, Lead}
pub use Rattle.lk_rows.specs.Row.{Leaves, Missed, TakesWait, Yields, applied}
pub use Rattle.lk_rows.specs.TopRow.{sight_at, target}
pub use Rattle.lk_rows.specs.declared.parts.Flag.{Flag}
pub use Rattle.lk_rows.specs.declared.parts.Frame.{Frame}
pub use Rattle.lk_rows.specs.declared.parts.Node.{Node}
pub use Rattle.lk_rows.specs.declared.parts.Pc.{Pc}
pub use Rattle.lk_rows.specs.declared.parts.Pc.TheVariants.{C1, C2, C3, C4, C5, C6, C7, C8, C9, C10}
pub use Rattle.lk_rows.specs.declared.parts.Pc.TheVariants.{E4, E5, E7, E11, E12, E13, E14, E15, F1}
pub use Rattle.lk_rows.specs.declared.parts.Pc.TheVariants.{G2, G3, G4, G5, G6, G7, G8, G9, G10}
pub use Rattle.lk_rows.specs.declared.parts.Pc.TheVariants.{G11, H1, H2, K1, N1, N2, P0, P1, P3, R1}
pub use Rattle.lk_rows.specs.declared.parts.Pc.TheVariants.{R2, R5, T1, T2, U2, V1, V2, W1, W2, W4}
pub use Rattle.lk_rows.specs.declared.parts.Pc.TheVariants.{W5, W6, W7, Wr1, Wr2, Wr3, Wr5, Wr6, Y1}
pub use Rattle.lk_rows.specs.declared.parts.Pc.TheVariants.{Y2, Y4, Y5}
pub use Rattle.lk_rows.specs.declared.parts.State.{State}
pub use Rattle.lk_rows.specs.declared.parts.Why.{Why}
pub use Rattle.lk_rows.specs.rows.Cna.{handover_row, promotion_row, runs_row, search_row}
pub use Rattle.lk_rows.specs.rows.Cna.{second_row}
pub use Rattle.lk_rows.specs.rows.Pv.{halt_row, hash_row, kick_row, pv_flag_row, pv_next_row}
pub use Rattle.lk_rows.specs.rows.Pv.{pv_row, state_row}
pub use Rattle.lk_rows.specs.rows.Queue.{entry_row, flag_row, next_row, queue_row}
pub use Rattle.lk_rows.specs.rows.Rw.{rw_row}
pub use Rattle.lk_rows.specs.rows.Spin.{is_unlocked, spin_row}
pub use Rattle.lk_idle.specs.Alike.{cut, rested, rested_cpu, rested_frame}
pub use Rattle.lk_idle.specs.Free.{freed, freed_node, is_owned, owns}
pub use Rattle.lk_idle.specs.Lives.{lives_at, none_lives, second_lives}
pub use Rattle.lk_idle.specs.declared.lives.Lives.{Lives}
