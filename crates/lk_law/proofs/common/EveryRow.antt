-- Every row keeps every sound world.
use Rattle.std.proofs.Common.{true, refl, Bool, false}
use Rattle.lk_law.proofs.Names.{Pc, C1, C2, C3, C4, C5, C6, C7, C8, C9, C10, E1, E2, E3, E4, E5, E6}
use Rattle.lk_law.proofs.Names.{E7, E8, E9, E10, E11, E12, E13, E14, E15, F1, G1, G2, G3, G4, G5}
use Rattle.lk_law.proofs.Names.{G6, G7, G8, G9, G10, G11, H1, H2, K1, K2, K3, N1, N2, P0, P1, P2}
use Rattle.lk_law.proofs.Names.{P3, P4, R1, R2, R3, R4, R5, T1, T2, U1, U2, U3, U4, U5, V1, V2, W1}
use Rattle.lk_law.proofs.Names.{W2, W3, W4, W5, W6, W7, Wr1, Wr2, Wr3, Wr4, Wr5, Wr6, Y1, Y2, Y3}
use Rattle.lk_law.proofs.Names.{Y4, Y5, Z1, Z2, is_rw_row, SpinRowKeeps, RowKeeps}
use Rattle.lk_law.proofs.cna.EndRowsKeep.{choice_hand_on_keeps, choice_flush_keeps}
use Rattle.lk_law.proofs.cna.EndRowsKeep.{choice_promote_keeps}
use Rattle.lk_law.proofs.cna.RowsKeep.{choice_look_keeps, choice_pass_over_keeps}
use Rattle.lk_law.proofs.cna.RowsKeep.{choice_find_tail_keeps}
use Rattle.lk_law.proofs.cna.RowsMade.{makes_C1, makes_C2, makes_C3, makes_C4, makes_C5, makes_C6}
use Rattle.lk_law.proofs.cna.RowsMade.{makes_C7, makes_C8, makes_C9, makes_C10}
use Rattle.lk_law.proofs.cna.StoreRowsKeep.{choice_append_keeps, choice_cut_keeps}
use Rattle.lk_law.proofs.cna.StoreRowsKeep.{choice_set_tail_keeps, choice_count_keeps}
use Rattle.lk_law.proofs.common.BothLayers.{keeps_both_layers}
use Rattle.lk_law.proofs.common.RowsMade.{makes_F1, makes_T1, makes_T2, makes_U1, makes_V1}
use Rattle.lk_law.proofs.common.RowsMade.{makes_V2, makes_P0, makes_P1, makes_P2, makes_P3}
use Rattle.lk_law.proofs.common.RowsMade.{makes_P4, makes_G1, makes_G2, makes_G3, makes_G4}
use Rattle.lk_law.proofs.common.RowsMade.{makes_G5, makes_G6, makes_G7, makes_G8, makes_G9}
use Rattle.lk_law.proofs.common.RowsMade.{makes_G10, makes_G11, makes_N1, makes_N2}
use Rattle.lk_law.proofs.pv.FrontHaltRowsKeep.{front_enter_hash_keeps, front_exchange_slow_keeps}
use Rattle.lk_law.proofs.pv.FrontHaltRowsKeep.{front_store_held_keeps, front_leave_hash_keeps}
use Rattle.lk_law.proofs.pv.FrontHaltRowsKeep.{front_say_hashed_keeps, front_test_slow_keeps}
use Rattle.lk_law.proofs.pv.FrontHaltRowsKeep.{front_halt_keeps}
use Rattle.lk_law.proofs.pv.FrontHandRowsKeep.{front_leave_queue_keeps, front_wait_for_next_keeps}
use Rattle.lk_law.proofs.pv.FrontHandRowsKeep.{front_hand_on_keeps}
use Rattle.lk_law.proofs.pv.FrontTryRowsKeep.{front_look_at_state_keeps, front_say_running_keeps}
use Rattle.lk_law.proofs.pv.FrontTryRowsKeep.{front_set_pending_keeps, front_take_pending_keeps}
use Rattle.lk_law.proofs.pv.FrontTryRowsKeep.{front_clear_pending_keeps}
use Rattle.lk_law.proofs.pv.HolderRowsKeep.{holder_mark_hashed_keeps, holder_store_slow_keeps}
use Rattle.lk_law.proofs.pv.HolderRowsKeep.{holder_enter_next_keeps}
use Rattle.lk_law.proofs.pv.ReleaseRowsKeep.{release_swap_free_keeps, release_find_target_keeps}
use Rattle.lk_law.proofs.pv.ReleaseRowsKeep.{release_store_free_keeps, release_kick_keeps}
use Rattle.lk_law.proofs.pv.RowsMade.{makes_H1, makes_H2, makes_W1, makes_W2, makes_W3, makes_W4}
use Rattle.lk_law.proofs.pv.RowsMade.{makes_W5, makes_W6, makes_W7, makes_E1, makes_E2, makes_E3}
use Rattle.lk_law.proofs.pv.RowsMade.{makes_E4, makes_E5, makes_E6, makes_E7, makes_E8, makes_E9}
use Rattle.lk_law.proofs.pv.RowsMade.{makes_E10, makes_E11, makes_E12, makes_E13, makes_E14}
use Rattle.lk_law.proofs.pv.RowsMade.{makes_E15, makes_K1, makes_K2, makes_K3, makes_U2, makes_U3}
use Rattle.lk_law.proofs.pv.RowsMade.{makes_U4, makes_U5}
use Rattle.lk_law.proofs.pv.SharedRowsKeep.{fast_keeps, try_look_keeps, try_swap_keeps, enter_keeps}
use Rattle.lk_law.proofs.pv.SharedRowsKeep.{exchange_tail_keeps, link_keeps}
use Rattle.lk_law.proofs.pv.StealRowsKeep.{steal_glance_keeps, steal_keeps}
use Rattle.lk_law.proofs.pv.WaitRowsKeep.{waiter_spin_keeps, waiter_watch_keeps}
use Rattle.lk_law.proofs.pv.WaitRowsKeep.{waiter_say_halted_keeps, waiter_look_once_more_keeps}
use Rattle.lk_law.proofs.pv.WaitRowsKeep.{waiter_test_state_keeps, waiter_halt_keeps}
use Rattle.lk_law.proofs.{pv.WaitRowsKeep.waiter_say_running_keeps, queue.ArriveRowsKeep.wait_keeps}
use Rattle.lk_law.proofs.queue.EntryRowsKeep.{look_again_keeps, swap_again_keeps, look_bare_keeps}
use Rattle.lk_law.proofs.queue.EntryRowsKeep.{swap_bare_keeps}
use Rattle.lk_law.proofs.queue.FrontRowsKeep.{wait_as_front_keeps, take_sole_keeps, take_head_keeps}
use Rattle.lk_law.proofs.queue.FrontRowsKeep.{wait_for_next_keeps, hand_on_keeps}
use Rattle.lk_law.proofs.rw.RowsKeep.{reader_first_keeps, reader_spin_keeps, reader_retreat_keeps}
use Rattle.lk_law.proofs.rw.RowsKeep.{reader_join_keeps, reader_wait_keeps, writer_first_keeps}
use Rattle.lk_law.proofs.rw.RowsKeep.{writer_look_keeps, writer_swap_keeps, writer_announce_keeps}
use Rattle.lk_law.proofs.rw.RowsKeep.{writer_wait_keeps, writer_claim_keeps, reader_try_look_keeps}
use Rattle.lk_law.proofs.rw.RowsKeep.{reader_try_add_keeps, reader_try_fail_keeps}
use Rattle.lk_law.proofs.rw.RowsKeep.{writer_try_look_keeps, writer_try_swap_keeps}
use Rattle.lk_law.proofs.rw.RowsKeep.{reader_release_keeps, writer_release_keeps}
use Rattle.lk_law.proofs.spin.PendingRowsKeep.{set_pending_keeps, clear_pending_keeps, watch_keeps}
use Rattle.lk_law.proofs.spin.PendingRowsKeep.{take_pending_keeps}
use Rattle.lk_law.proofs.spin.RowsKeep.{release_keeps, loop_look_keeps, loop_swap_keeps}
use Rattle.lk_law.proofs.spin.RowsKeep.{pending_look_again_keeps}

pub every_row_keeps : (c : Pc) → RowKeeps c
every_row_keeps F1 = keeps_both_layers F1 refl makes_F1 fast_keeps
every_row_keeps T1 = keeps_both_layers T1 refl makes_T1 try_look_keeps
every_row_keeps T2 = keeps_both_layers T2 refl makes_T2 try_swap_keeps
every_row_keeps U1 = keeps_both_layers U1 refl makes_U1 release_keeps
every_row_keeps V1 = keeps_both_layers V1 refl makes_V1 loop_look_keeps
every_row_keeps V2 = keeps_both_layers V2 refl makes_V2 loop_swap_keeps
every_row_keeps P0 = keeps_both_layers P0 refl makes_P0 pending_look_again_keeps
every_row_keeps P1 = keeps_both_layers P1 refl makes_P1 set_pending_keeps
every_row_keeps P2 = keeps_both_layers P2 refl makes_P2 clear_pending_keeps
every_row_keeps P3 = keeps_both_layers P3 refl makes_P3 watch_keeps
every_row_keeps P4 = keeps_both_layers P4 refl makes_P4 take_pending_keeps
every_row_keeps G1 = keeps_both_layers G1 refl makes_G1 enter_keeps
every_row_keeps G2 = keeps_both_layers G2 refl makes_G2 look_again_keeps
every_row_keeps G3 = keeps_both_layers G3 refl makes_G3 swap_again_keeps
every_row_keeps G4 = keeps_both_layers G4 refl makes_G4 exchange_tail_keeps
every_row_keeps G5 = keeps_both_layers G5 refl makes_G5 link_keeps
every_row_keeps G6 = keeps_both_layers G6 refl makes_G6 wait_keeps
every_row_keeps G7 = keeps_both_layers G7 refl makes_G7 wait_as_front_keeps
every_row_keeps G8 = keeps_both_layers G8 refl makes_G8 take_sole_keeps
every_row_keeps G9 = keeps_both_layers G9 refl makes_G9 take_head_keeps
every_row_keeps G10 = keeps_both_layers G10 refl makes_G10 wait_for_next_keeps
every_row_keeps G11 = keeps_both_layers G11 refl makes_G11 hand_on_keeps
every_row_keeps N1 = keeps_both_layers N1 refl makes_N1 look_bare_keeps
every_row_keeps N2 = keeps_both_layers N2 refl makes_N2 swap_bare_keeps
every_row_keeps C1 = keeps_both_layers C1 refl makes_C1 choice_look_keeps
every_row_keeps C2 = keeps_both_layers C2 refl makes_C2 choice_pass_over_keeps
every_row_keeps C3 = keeps_both_layers C3 refl makes_C3 choice_find_tail_keeps
every_row_keeps C4 = keeps_both_layers C4 refl makes_C4 choice_append_keeps
every_row_keeps C5 = keeps_both_layers C5 refl makes_C5 choice_cut_keeps
every_row_keeps C6 = keeps_both_layers C6 refl makes_C6 choice_set_tail_keeps
every_row_keeps C7 = keeps_both_layers C7 refl makes_C7 choice_count_keeps
every_row_keeps C8 = keeps_both_layers C8 refl makes_C8 choice_hand_on_keeps
every_row_keeps C9 = keeps_both_layers C9 refl makes_C9 choice_flush_keeps
every_row_keeps C10 = keeps_both_layers C10 refl makes_C10 choice_promote_keeps
every_row_keeps H1 = keeps_both_layers H1 refl makes_H1 steal_glance_keeps
every_row_keeps H2 = keeps_both_layers H2 refl makes_H2 steal_keeps
every_row_keeps W1 = keeps_both_layers W1 refl makes_W1 waiter_spin_keeps
every_row_keeps W2 = keeps_both_layers W2 refl makes_W2 waiter_watch_keeps
every_row_keeps W3 = keeps_both_layers W3 refl makes_W3 waiter_say_halted_keeps
every_row_keeps W4 = keeps_both_layers W4 refl makes_W4 waiter_look_once_more_keeps
every_row_keeps W5 = keeps_both_layers W5 refl makes_W5 waiter_test_state_keeps
every_row_keeps W6 = keeps_both_layers W6 refl makes_W6 waiter_halt_keeps
every_row_keeps W7 = keeps_both_layers W7 refl makes_W7 waiter_say_running_keeps
every_row_keeps E1 = keeps_both_layers E1 refl makes_E1 front_look_at_state_keeps
every_row_keeps E2 = keeps_both_layers E2 refl makes_E2 front_say_running_keeps
every_row_keeps E3 = keeps_both_layers E3 refl makes_E3 front_set_pending_keeps
every_row_keeps E4 = keeps_both_layers E4 refl makes_E4 front_take_pending_keeps
every_row_keeps E5 = keeps_both_layers E5 refl makes_E5 front_clear_pending_keeps
every_row_keeps E6 = keeps_both_layers E6 refl makes_E6 front_enter_hash_keeps
every_row_keeps E7 = keeps_both_layers E7 refl makes_E7 front_exchange_slow_keeps
every_row_keeps E8 = keeps_both_layers E8 refl makes_E8 front_store_held_keeps
every_row_keeps E9 = keeps_both_layers E9 refl makes_E9 front_leave_hash_keeps
every_row_keeps E10 = keeps_both_layers E10 refl makes_E10 front_say_hashed_keeps
every_row_keeps E11 = keeps_both_layers E11 refl makes_E11 front_test_slow_keeps
every_row_keeps E12 = keeps_both_layers E12 refl makes_E12 front_halt_keeps
every_row_keeps E13 = keeps_both_layers E13 refl makes_E13 front_leave_queue_keeps
every_row_keeps E14 = keeps_both_layers E14 refl makes_E14 front_wait_for_next_keeps
every_row_keeps E15 = keeps_both_layers E15 refl makes_E15 front_hand_on_keeps
every_row_keeps K1 = keeps_both_layers K1 refl makes_K1 holder_mark_hashed_keeps
every_row_keeps K2 = keeps_both_layers K2 refl makes_K2 holder_store_slow_keeps
every_row_keeps K3 = keeps_both_layers K3 refl makes_K3 holder_enter_next_keeps
every_row_keeps U2 = keeps_both_layers U2 refl makes_U2 release_swap_free_keeps
every_row_keeps U3 = keeps_both_layers U3 refl makes_U3 release_find_target_keeps
every_row_keeps U4 = keeps_both_layers U4 refl makes_U4 release_store_free_keeps
every_row_keeps U5 = keeps_both_layers U5 refl makes_U5 release_kick_keeps
every_row_keeps R1 = reader_first_keeps
every_row_keeps R2 = reader_spin_keeps
every_row_keeps R3 = reader_retreat_keeps
every_row_keeps R4 = reader_join_keeps
every_row_keeps R5 = reader_wait_keeps
every_row_keeps Wr1 = writer_first_keeps
every_row_keeps Wr2 = writer_look_keeps
every_row_keeps Wr3 = writer_swap_keeps
every_row_keeps Wr4 = writer_announce_keeps
every_row_keeps Wr5 = writer_wait_keeps
every_row_keeps Wr6 = writer_claim_keeps
every_row_keeps Y1 = reader_try_look_keeps
every_row_keeps Y2 = reader_try_add_keeps
every_row_keeps Y3 = reader_try_fail_keeps
every_row_keeps Y4 = writer_try_look_keeps
every_row_keeps Y5 = writer_try_swap_keeps
every_row_keeps Z1 = reader_release_keeps
every_row_keeps Z2 = writer_release_keeps

-- the law of a row in the part of spinlocks alone, where it is none of readers and writers
abbrev pub SpinRowKeepsIf : Bool → Pc → Type 0
SpinRowKeepsIf true c = Unit {0}
SpinRowKeepsIf false c = SpinRowKeeps c

pub every_spin_row_keeps : (c : Pc) → SpinRowKeepsIf (is_rw_row c) c
every_spin_row_keeps F1 = fast_keeps
every_spin_row_keeps T1 = try_look_keeps
every_spin_row_keeps T2 = try_swap_keeps
every_spin_row_keeps U1 = release_keeps
every_spin_row_keeps V1 = loop_look_keeps
every_spin_row_keeps V2 = loop_swap_keeps
every_spin_row_keeps P0 = pending_look_again_keeps
every_spin_row_keeps P1 = set_pending_keeps
every_spin_row_keeps P2 = clear_pending_keeps
every_spin_row_keeps P3 = watch_keeps
every_spin_row_keeps P4 = take_pending_keeps
every_spin_row_keeps G1 = enter_keeps
every_spin_row_keeps G2 = look_again_keeps
every_spin_row_keeps G3 = swap_again_keeps
every_spin_row_keeps G4 = exchange_tail_keeps
every_spin_row_keeps G5 = link_keeps
every_spin_row_keeps G6 = wait_keeps
every_spin_row_keeps G7 = wait_as_front_keeps
every_spin_row_keeps G8 = take_sole_keeps
every_spin_row_keeps G9 = take_head_keeps
every_spin_row_keeps G10 = wait_for_next_keeps
every_spin_row_keeps G11 = hand_on_keeps
every_spin_row_keeps N1 = look_bare_keeps
every_spin_row_keeps N2 = swap_bare_keeps
every_spin_row_keeps C1 = choice_look_keeps
every_spin_row_keeps C2 = choice_pass_over_keeps
every_spin_row_keeps C3 = choice_find_tail_keeps
every_spin_row_keeps C4 = choice_append_keeps
every_spin_row_keeps C5 = choice_cut_keeps
every_spin_row_keeps C6 = choice_set_tail_keeps
every_spin_row_keeps C7 = choice_count_keeps
every_spin_row_keeps C8 = choice_hand_on_keeps
every_spin_row_keeps C9 = choice_flush_keeps
every_spin_row_keeps C10 = choice_promote_keeps
every_spin_row_keeps H1 = steal_glance_keeps
every_spin_row_keeps H2 = steal_keeps
every_spin_row_keeps W1 = waiter_spin_keeps
every_spin_row_keeps W2 = waiter_watch_keeps
every_spin_row_keeps W3 = waiter_say_halted_keeps
every_spin_row_keeps W4 = waiter_look_once_more_keeps
every_spin_row_keeps W5 = waiter_test_state_keeps
every_spin_row_keeps W6 = waiter_halt_keeps
every_spin_row_keeps W7 = waiter_say_running_keeps
every_spin_row_keeps E1 = front_look_at_state_keeps
every_spin_row_keeps E2 = front_say_running_keeps
every_spin_row_keeps E3 = front_set_pending_keeps
every_spin_row_keeps E4 = front_take_pending_keeps
every_spin_row_keeps E5 = front_clear_pending_keeps
every_spin_row_keeps E6 = front_enter_hash_keeps
every_spin_row_keeps E7 = front_exchange_slow_keeps
every_spin_row_keeps E8 = front_store_held_keeps
every_spin_row_keeps E9 = front_leave_hash_keeps
every_spin_row_keeps E10 = front_say_hashed_keeps
every_spin_row_keeps E11 = front_test_slow_keeps
every_spin_row_keeps E12 = front_halt_keeps
every_spin_row_keeps E13 = front_leave_queue_keeps
every_spin_row_keeps E14 = front_wait_for_next_keeps
every_spin_row_keeps E15 = front_hand_on_keeps
every_spin_row_keeps K1 = holder_mark_hashed_keeps
every_spin_row_keeps K2 = holder_store_slow_keeps
every_spin_row_keeps K3 = holder_enter_next_keeps
every_spin_row_keeps U2 = release_swap_free_keeps
every_spin_row_keeps U3 = release_find_target_keeps
every_spin_row_keeps U4 = release_store_free_keeps
every_spin_row_keeps U5 = release_kick_keeps
every_spin_row_keeps R1 = tt
every_spin_row_keeps R2 = tt
every_spin_row_keeps R3 = tt
every_spin_row_keeps R4 = tt
every_spin_row_keeps R5 = tt
every_spin_row_keeps Wr1 = tt
every_spin_row_keeps Wr2 = tt
every_spin_row_keeps Wr3 = tt
every_spin_row_keeps Wr4 = tt
every_spin_row_keeps Wr5 = tt
every_spin_row_keeps Wr6 = tt
every_spin_row_keeps Y1 = tt
every_spin_row_keeps Y2 = tt
every_spin_row_keeps Y3 = tt
every_spin_row_keeps Y4 = tt
every_spin_row_keeps Y5 = tt
every_spin_row_keeps Z1 = tt
every_spin_row_keeps Z2 = tt
