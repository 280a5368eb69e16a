-- Where each row leads, what does not live is not read.
use Rattle.std.proofs.Common.{ℕ, Some, refl}
use Rattle.lk_idle.proofs.Names.{Machine, node_of, sight_at, target, Frame, Pc, C1, C2, C3, C4, C5}
use Rattle.lk_idle.proofs.Names.{C6, C7, C8, C9, C10, E4, E5, E7, E11, E12, E13, E14, E15, F1, G2}
use Rattle.lk_idle.proofs.Names.{G3, G4, G5, G6, G7, G8, G9, G10, G11, H1, H2, K1, N1, N2, P0, P1}
use Rattle.lk_idle.proofs.Names.{P3, R1, R2, R5, T1, T2, U2, V1, V2, W1, W2, W4, W5, W6, W7, Wr1}
use Rattle.lk_idle.proofs.Names.{Wr2, Wr3, Wr5, Wr6, Y1, Y2, Y4, Y5, handover_row, promotion_row}
use Rattle.lk_idle.proofs.Names.{runs_row, search_row, second_row, halt_row, hash_row, kick_row}
use Rattle.lk_idle.proofs.Names.{pv_flag_row, pv_next_row, pv_row, state_row, entry_row, flag_row}
use Rattle.lk_idle.proofs.Names.{next_row, queue_row, rw_row, spin_row, lives_at, Lives}
use Rattle.lk_rows.specs.Machine.{word_at, rw_at, node_at, queued_at, entry_at, halted_at}
use Rattle.lk_rows.specs.Machine.{kicked_at}
use Rattle.lk_rows.specs.TopRow.{Target, SpinWord, QueueWord, Queued, FlagOf, NextOf, ChoiceWord}
use Rattle.lk_rows.specs.TopRow.{ChoiceFlag, ChoiceNext, SecondTailOf, RunsOf, PvWord, PvFlag}
use Rattle.lk_rows.specs.TopRow.{PvNext, StateOf, HashEntry, Halted, KickOf, RwWord}
use Rattle.lk_rows.specs.declared.parts.Pc.TheVariants.{U1, P2, P4, G1, W3, E1, E2, E3, E6, E8, E9}
use Rattle.lk_rows.specs.declared.parts.Pc.TheVariants.{E10, K2, K3, U3, U4, U5, R3, R4, Wr4, Y3}
use Rattle.lk_rows.specs.declared.parts.Pc.TheVariants.{Z1, Z2}
use Rattle.lk_idle.proofs.{Branches.Fine, ChoiceRows.{C1-fine, C2-fine, C3-fine, C10-fine}}
use Rattle.lk_idle.proofs.PvRows.{H1-fine, H2-fine, W1-fine, W2-fine, W4-fine, W5-fine, W7-fine}
use Rattle.lk_idle.proofs.PvRows.{E4-fine, E5-fine, E7-fine, E11-fine, E13-fine, E14-fine, K1-fine}
use Rattle.lk_idle.proofs.PvRows.{U2-fine}
use Rattle.lk_idle.proofs.QueueRows.{G1-fine, G2-fine, G3-fine, G4-fine, G5-fine, G6-fine, G7-fine}
use Rattle.lk_idle.proofs.QueueRows.{G8-fine, G9-fine, G10-fine, N1-fine, N2-fine}
use Rattle.lk_idle.proofs.RwRows.{R1-fine, R2-fine, R5-fine, Wr1-fine, Wr2-fine, Wr3-fine, Wr5-fine}
use Rattle.lk_idle.proofs.RwRows.{Wr6-fine, Y1-fine, Y2-fine, Y4-fine, Y5-fine}
use Rattle.lk_idle.proofs.SpinRows.{F1-fine, T1-fine, T2-fine, V1-fine, V2-fine, P0-fine, P1-fine}
use Rattle.lk_idle.proofs.SpinRows.{P3-fine}

module _ (m : Machine) (p : ℕ) (f : Frame) where
  abbrev pub FineAt : Lives → Pc → Target → Type 0
  FineAt l c SpinWord = Fine p l f (spin_row m.setup.mode c f (word_at m f.lock))
  FineAt l c QueueWord = Fine p l f (queue_row m.setup.mode c f (word_at m f.lock))
  FineAt l c Queued = Fine p l f (entry_row m.setup.mode p (queued_at m p))
  FineAt l c (FlagOf n) = Fine p l f (flag_row c f (node_at m n).flag)
  FineAt l c (NextOf n) = Fine p l f (next_row m.setup.mode m.setup.spins c f (node_at m n).next)
  FineAt l c ChoiceWord = Fine p l f (promotion_row c f (word_at m f.lock))
  FineAt l c (ChoiceFlag n) = Fine p l f (handover_row c f (node_at m n).flag)
  FineAt l c (ChoiceNext n) = Fine p l f (search_row (sight_at m p f) c f (node_at m n).next)
  FineAt l c (SecondTailOf n) = Fine p l f (second_row c f (node_at m n).second_tail)
  FineAt l c (RunsOf n) = Fine p l f (runs_row (sight_at m p f) c f (node_at m n).runs)
  FineAt l c PvWord = Fine p l f (pv_row m.setup.spins c f (word_at m f.lock))
  FineAt l c (PvFlag n) = Fine p l f (pv_flag_row c f (node_at m n).flag)
  FineAt l c (PvNext n) = Fine p l f (pv_next_row c f (node_at m n).next)
  FineAt l c (StateOf n) = Fine p l f (state_row m.setup.spins c f (node_at m n).state)
  FineAt l c HashEntry = Fine p l f (hash_row c f (entry_at m f.lock))
  FineAt l c Halted = Fine p l f (halt_row c f (halted_at m p))
  FineAt l c (KickOf q) = Fine p l f (kick_row c f (kicked_at m q))
  FineAt l c RwWord = Fine p l f (rw_row m.setup.mode c f (rw_at m f.lock.index))

  pub fine_at : (c : Pc) → FineAt (lives_at (Some c) f.why) c (target c f)
  fine_at F1 = F1-fine p f m.setup.mode (word_at m f.lock)
  fine_at T1 = T1-fine p f m.setup.mode (word_at m f.lock)
  fine_at T2 = T2-fine p f m.setup.mode (word_at m f.lock)
  fine_at U1 = record { leads = tt }
  fine_at V1 = V1-fine p f m.setup.mode (word_at m f.lock)
  fine_at V2 = V2-fine p f m.setup.mode (word_at m f.lock)
  fine_at P0 = P0-fine p f m.setup.mode (word_at m f.lock)
  fine_at P1 = P1-fine p f m.setup.mode (word_at m f.lock)
  fine_at P2 = record { leads = refl }
  fine_at P3 = P3-fine p f m.setup.mode (word_at m f.lock)
  fine_at P4 = record { leads = tt }
  fine_at G1 = G1-fine p f m.setup.mode (queued_at m p)
  fine_at G2 = G2-fine p f m.setup.mode (word_at m f.lock)
  fine_at G3 = G3-fine p f m.setup.mode (word_at m f.lock)
  fine_at G4 = G4-fine p f m.setup.mode (word_at m f.lock)
  fine_at G5 = G5-fine p f m.setup.mode m.setup.spins (node_at m (node_of f.prev)).next
  fine_at G6 = G6-fine p f (node_at m (node_of f.me)).flag
  fine_at G7 = G7-fine p f m.setup.mode (word_at m f.lock)
  fine_at G8 = G8-fine p f m.setup.mode (word_at m f.lock)
  fine_at G9 = G9-fine p f m.setup.mode (word_at m f.lock)
  fine_at G10 = G10-fine p f m.setup.mode m.setup.spins (node_at m (node_of f.me)).next
  fine_at G11 = record { leads = tt }
  fine_at N1 = N1-fine p f m.setup.mode (word_at m f.lock)
  fine_at N2 = N2-fine p f m.setup.mode (word_at m f.lock)
  fine_at C1 = C1-fine p f (sight_at m p f) (node_at m (node_of f.me)).next
  fine_at C2 = C2-fine p f (sight_at m p f) (node_at m (node_of f.b)).next
  fine_at C3 = C3-fine p f (node_at m (node_of f.second)).second_tail
  fine_at C4 = record { leads = refl }
  fine_at C5 = record { leads = refl }
  fine_at C6 = record { leads = refl }
  fine_at C7 = record { leads = refl }
  fine_at C8 = record { leads = tt }
  fine_at C9 = record { leads = refl }
  fine_at C10 = C10-fine p f (word_at m f.lock)
  fine_at H1 = H1-fine p f m.setup.spins (word_at m f.lock)
  fine_at H2 = H2-fine p f m.setup.spins (word_at m f.lock)
  fine_at W1 = W1-fine p f (node_at m (node_of f.me)).flag
  fine_at W2 = W2-fine p f m.setup.spins (node_at m (node_of f.prev)).state
  fine_at W3 = record { leads = refl }
  fine_at W4 = W4-fine p f (node_at m (node_of f.me)).flag
  fine_at W5 = W5-fine p f m.setup.spins (node_at m (node_of f.me)).state
  fine_at W6 = record { leads = refl }
  fine_at W7 = W7-fine p f m.setup.spins (node_at m (node_of f.me)).state
  fine_at E1 = record { leads = refl }
  fine_at E2 = record { leads = refl }
  fine_at E3 = record { leads = refl }
  fine_at E4 = E4-fine p f m.setup.spins (word_at m f.lock)
  fine_at E5 = E5-fine p f m.setup.spins (word_at m f.lock)
  fine_at E6 = record { leads = refl }
  fine_at E7 = E7-fine p f m.setup.spins (word_at m f.lock)
  fine_at E8 = record { leads = refl }
  fine_at E9 = record { leads = refl }
  fine_at E10 = record { leads = refl }
  fine_at E11 = E11-fine p f m.setup.spins (word_at m f.lock)
  fine_at E12 = record { leads = refl }
  fine_at E13 = E13-fine p f m.setup.spins (word_at m f.lock)
  fine_at E14 = E14-fine p f (node_at m (node_of f.me)).next
  fine_at E15 = record { leads = refl }
  fine_at K1 = K1-fine p f m.setup.spins (node_at m (node_of f.y)).state
  fine_at K2 = record { leads = refl }
  fine_at K3 = record { leads = tt }
  fine_at U2 = U2-fine p f m.setup.spins (word_at m f.lock)
  fine_at U3 = record { leads = refl }
  fine_at U4 = record { leads = refl }
  fine_at U5 = record { leads = tt }
  fine_at R1 = R1-fine p f m.setup.mode (rw_at m f.lock.index)
  fine_at R2 = R2-fine p f m.setup.mode (rw_at m f.lock.index)
  fine_at R3 = record { leads = refl }
  fine_at R4 = record { leads = refl }
  fine_at R5 = R5-fine p f m.setup.mode (rw_at m f.lock.index)
  fine_at Wr1 = Wr1-fine p f m.setup.mode (rw_at m f.lock.index)
  fine_at Wr2 = Wr2-fine p f m.setup.mode (rw_at m f.lock.index)
  fine_at Wr3 = Wr3-fine p f m.setup.mode (rw_at m f.lock.index)
  fine_at Wr4 = record { leads = refl }
  fine_at Wr5 = Wr5-fine p f m.setup.mode (rw_at m f.lock.index)
  fine_at Wr6 = Wr6-fine p f m.setup.mode (rw_at m f.lock.index)
  fine_at Y1 = Y1-fine p f m.setup.mode (rw_at m f.lock.index)
  fine_at Y2 = Y2-fine p f m.setup.mode (rw_at m f.lock.index)
  fine_at Y3 = record { leads = tt }
  fine_at Y4 = Y4-fine p f m.setup.mode (rw_at m f.lock.index)
  fine_at Y5 = Y5-fine p f m.setup.mode (rw_at m f.lock.index)
  fine_at Z1 = record { leads = tt }
  fine_at Z2 = record { leads = tt }
