-- Each row does alike on a machine whose dead registers are at rest.
use Rattle.std.proofs.Common.{◌≡◌, ℕ, Option, Some, None, true, refl, sym, subst}
use Rattle.lk_idle.proofs.Names.{Machine, top_frame, node_of, target, Frame, Pc, C1, C2, C3, C4, C5}
use Rattle.lk_idle.proofs.Names.{C6, C7, C8, C9, C10, E4, E5, E7, E11, E12, E13, E14, E15, F1, G2}
use Rattle.lk_idle.proofs.Names.{G3, G4, G5, G6, G7, G8, G9, G10, G11, H1, H2, K1, N1, N2, P0, P1}
use Rattle.lk_idle.proofs.Names.{P3, R1, R2, R5, T1, T2, U2, V1, V2, W1, W2, W4, W5, W6, W7, Wr1}
use Rattle.lk_idle.proofs.Names.{Wr2, Wr3, Wr5, Wr6, Y1, Y2, Y4, Y5, handover_row, promotion_row}
use Rattle.lk_idle.proofs.Names.{runs_row, search_row, second_row, halt_row, hash_row, kick_row}
use Rattle.lk_idle.proofs.Names.{pv_flag_row, pv_next_row, pv_row, state_row, entry_row, flag_row}
use Rattle.lk_idle.proofs.Names.{next_row, queue_row, rw_row, spin_row, cut, rested, lives_at}
use Rattle.lk_idle.proofs.Names.{none_lives, second_lives, Lives}
use Rattle.lk_rows.specs.{Machine.{word_at, lock_at, rw_at, entry_at}, TopRow.{row_on, row_at, row}}
use Rattle.lk_rows.specs.declared.parts.Pc.TheVariants.{U1, P2, P4, G1, W3, E1, E2, E3, E6, E8, E9}
use Rattle.lk_rows.specs.declared.parts.Pc.TheVariants.{E10, K2, K3, U3, U4, U5, R3, R4, Wr4, Y3}
use Rattle.lk_rows.specs.declared.parts.Pc.TheVariants.{Z1, Z2}
use Rattle.lk_idle.proofs.ChoiceRows.{C1-fine, C2-fine, C3-fine, C10-fine, passing_lives}
use Rattle.lk_idle.proofs.{ChoiceRows.promoting_lives, Leading.{Alike, KnowsWay}}
use Rattle.lk_idle.proofs.PvRows.{H1-fine, H2-fine, W1-fine, W2-fine, W4-fine, W5-fine, W7-fine}
use Rattle.lk_idle.proofs.PvRows.{E4-fine, E5-fine, E7-fine, E11-fine, E13-fine, E14-fine, K1-fine}
use Rattle.lk_idle.proofs.PvRows.{U2-fine, stealing_lives, spinning_lives, trying_lives}
use Rattle.lk_idle.proofs.QueueRows.{G1-fine, G2-fine, G3-fine, G4-fine, G5-fine, G6-fine, G7-fine}
use Rattle.lk_idle.proofs.QueueRows.{G8-fine, G9-fine, G10-fine, N1-fine, N2-fine, link_lives}
use Rattle.lk_idle.proofs.RwRows.{R1-fine, R2-fine, R5-fine, Wr1-fine, Wr2-fine, Wr3-fine, Wr5-fine}
use Rattle.lk_idle.proofs.RwRows.{Wr6-fine, Y1-fine, Y2-fine, Y4-fine, Y5-fine}
use Rattle.lk_idle.proofs.SpinRows.{F1-fine, T1-fine, T2-fine, V1-fine, V2-fine, P0-fine, P1-fine}
use Rattle.lk_idle.proofs.SpinRows.{P3-fine}
use Rattle.lk_idle.proofs.Stores.{word-row, rw-row, entry-row, flag-row, next-row, second-row}
use Rattle.lk_idle.proofs.Stores.{state-row, halted-row, kicked-row, queued-row, seen-row, runs-row}
use Rattle.lk_idle.proofs.Writes.{top-rested, machine_twice}
use Rattle.lk_idle.specs.Lives.{tail_lives, prev_lives, y_lives, hashed_lives, target_lives}

-- those that live while a head appends those it passed over, cuts them off, hands off, and flushes
abbrev appending_lives : Lives
appending_lives = record second_lives { a = true; b = true; k = true; y = true; t = true }

abbrev cutting_lives : Lives
cutting_lives = record second_lives { b = true; k = true; y = true }

abbrev handing_lives : Lives
handing_lives = record second_lives { k = true; y = true }

abbrev flushing_lives : Lives
flushing_lives = record second_lives { a = true; k = true; t = true }

module _ (m : Machine) (p : ℕ) (f : Frame) (top : top_frame m p ≡ f) (knows : KnowsWay f) where
  row_on-alike : (c : Pc) → Alike
      (row_on (rested m) p (cut (lives_at (Some c) f.why) f) c (target c (cut (lives_at (Some c) f.why) f)))
      (row_on m p f c (target c f))
  unfolding word_at lock_at rw_at entry_at
  row_on-alike F1 =
      word-row m p f top knows none_lives (spin_row m.setup.mode F1 f (word_at m f.lock)) (F1-fine p f m.setup.mode (word_at m f.lock))
  row_on-alike T1 =
      word-row m p f top knows none_lives (spin_row m.setup.mode T1 f (word_at m f.lock)) (T1-fine p f m.setup.mode (word_at m f.lock))
  row_on-alike T2 =
      word-row m p f top knows none_lives (spin_row m.setup.mode T2 f (word_at m f.lock)) (T2-fine p f m.setup.mode (word_at m f.lock))
  row_on-alike U1 =
      word-row m p f top knows none_lives (spin_row m.setup.mode U1 f (word_at m f.lock)) (record { leads = tt })
  row_on-alike V1 =
      word-row m p f top knows none_lives (spin_row m.setup.mode V1 f (word_at m f.lock)) (V1-fine p f m.setup.mode (word_at m f.lock))
  row_on-alike V2 =
      word-row m p f top knows none_lives (spin_row m.setup.mode V2 f (word_at m f.lock)) (V2-fine p f m.setup.mode (word_at m f.lock))
  row_on-alike P0 =
      word-row m p f top knows none_lives (spin_row m.setup.mode P0 f (word_at m f.lock)) (P0-fine p f m.setup.mode (word_at m f.lock))
  row_on-alike P1 =
      word-row m p f top knows none_lives (spin_row m.setup.mode P1 f (word_at m f.lock)) (P1-fine p f m.setup.mode (word_at m f.lock))
  row_on-alike P2 =
      word-row m p f top knows none_lives (spin_row m.setup.mode P2 f (word_at m f.lock)) (record { leads = refl })
  row_on-alike P3 =
      word-row m p f top knows none_lives (spin_row m.setup.mode P3 f (word_at m f.lock)) (P3-fine p f m.setup.mode (word_at m f.lock))
  row_on-alike P4 =
      word-row m p f top knows none_lives (spin_row m.setup.mode P4 f (word_at m f.lock)) (record { leads = tt })
  row_on-alike G1 =
      queued-row m p f top knows none_lives (λ i. entry_row m.setup.mode p i) (λ i. G1-fine p f m.setup.mode i)
  row_on-alike G2 =
      word-row m p f top knows second_lives (queue_row m.setup.mode G2 f (word_at m f.lock)) (G2-fine p f m.setup.mode (word_at m f.lock))
  row_on-alike G3 =
      word-row m p f top knows second_lives (queue_row m.setup.mode G3 f (word_at m f.lock)) (G3-fine p f m.setup.mode (word_at m f.lock))
  row_on-alike G4 =
      word-row m p f top knows second_lives (queue_row m.setup.mode G4 f (word_at m f.lock)) (G4-fine p f m.setup.mode (word_at m f.lock))
  row_on-alike G5 =
      next-row m p f top knows link_lives (node_of f.prev) (λ x. next_row m.setup.mode m.setup.spins G5 f x) (λ x. G5-fine p f m.setup.mode m.setup.spins x)
  row_on-alike G6 =
      flag-row m p f top knows second_lives (node_of f.me) (λ x. flag_row G6 f x) (λ x. G6-fine p f x)
  row_on-alike G7 =
      word-row m p f top knows second_lives (queue_row m.setup.mode G7 f (word_at m f.lock)) (G7-fine p f m.setup.mode (word_at m f.lock))
  row_on-alike G8 =
      word-row m p f top knows second_lives (queue_row m.setup.mode G8 f (word_at m f.lock)) (G8-fine p f m.setup.mode (word_at m f.lock))
  row_on-alike G9 =
      word-row m p f top knows second_lives (queue_row m.setup.mode G9 f (word_at m f.lock)) (G9-fine p f m.setup.mode (word_at m f.lock))
  row_on-alike G10 =
      next-row m p f top knows none_lives (node_of f.me) (λ x. next_row m.setup.mode m.setup.spins G10 f x) (λ x. G10-fine p f m.setup.mode m.setup.spins x)
  row_on-alike G11 =
      flag-row m p f top knows y_lives (node_of f.y) (λ x. flag_row G11 f x) (λ x. record { leads = tt })
  row_on-alike N1 =
      word-row m p f top knows none_lives (queue_row m.setup.mode N1 f (word_at m f.lock)) (N1-fine p f m.setup.mode (word_at m f.lock))
  row_on-alike N2 =
      word-row m p f top knows none_lives (queue_row m.setup.mode N2 f (word_at m f.lock)) (N2-fine p f m.setup.mode (word_at m f.lock))
  row_on-alike C1 =
      seen-row m p f top knows second_lives (node_of f.me) (λ s x. search_row s C1 f x) (λ s x. C1-fine p f s x)
  row_on-alike C2 =
      seen-row m p f top knows passing_lives (node_of f.b) (λ s x. search_row s C2 f x) (λ s x. C2-fine p f s x)
  row_on-alike C3 =
      second-row m p f top knows (tail_lives f.why) (node_of f.second) (λ x. second_row C3 f x) (λ x. C3-fine p f x)
  row_on-alike C4 =
      seen-row m p f top knows appending_lives (node_of f.t) (λ s x. search_row s C4 f x) (λ s x. record { leads = refl })
  row_on-alike C5 =
      seen-row m p f top knows cutting_lives (node_of f.b) (λ s x. search_row s C5 f x) (λ s x. record { leads = refl })
  row_on-alike C6 =
      second-row m p f top knows cutting_lives (node_of f.second) (λ x. second_row C6 f x) (λ x. record { leads = refl })
  row_on-alike C7 =
      runs-row m p f top knows handing_lives (node_of f.y) (λ s x. runs_row s C7 f x) (λ s x. record { leads = refl })
  row_on-alike C8 =
      flag-row m p f top knows handing_lives (node_of f.y) (λ x. handover_row C8 f x) (λ x. record { leads = tt })
  row_on-alike C9 =
      seen-row m p f top knows flushing_lives (node_of f.t) (λ s x. search_row s C9 f x) (λ s x. record { leads = refl })
  row_on-alike C10 =
      word-row m p f top knows promoting_lives (promotion_row C10 f (word_at m f.lock)) (C10-fine p f (word_at m f.lock))
  row_on-alike H1 =
      word-row m p f top knows second_lives (pv_row m.setup.spins H1 f (word_at m f.lock)) (H1-fine p f m.setup.spins (word_at m f.lock))
  row_on-alike H2 =
      word-row m p f top knows stealing_lives (pv_row m.setup.spins H2 f (word_at m f.lock)) (H2-fine p f m.setup.spins (word_at m f.lock))
  row_on-alike W1 =
      flag-row m p f top knows spinning_lives (node_of f.me) (λ x. pv_flag_row W1 f x) (λ x. W1-fine p f x)
  row_on-alike W2 =
      state-row m p f top knows spinning_lives (node_of f.prev) (λ x. state_row m.setup.spins W2 f x) (λ x. W2-fine p f m.setup.spins x)
  row_on-alike W3 =
      state-row m p f top knows prev_lives (node_of f.me) (λ x. state_row m.setup.spins W3 f x) (λ x. record { leads = refl })
  row_on-alike W4 =
      flag-row m p f top knows prev_lives (node_of f.me) (λ x. pv_flag_row W4 f x) (λ x. W4-fine p f x)
  row_on-alike W5 =
      state-row m p f top knows prev_lives (node_of f.me) (λ x. state_row m.setup.spins W5 f x) (λ x. W5-fine p f m.setup.spins x)
  row_on-alike W6 =
      halted-row m p f top knows prev_lives (λ x. halt_row W6 f x) (λ x. record { leads = refl })
  row_on-alike W7 =
      state-row m p f top knows prev_lives (node_of f.me) (λ x. state_row m.setup.spins W7 f x) (λ x. W7-fine p f m.setup.spins x)
  row_on-alike E1 =
      state-row m p f top knows none_lives (node_of f.me) (λ x. state_row m.setup.spins E1 f x) (λ x. record { leads = refl })
  row_on-alike E2 =
      state-row m p f top knows hashed_lives (node_of f.me) (λ x. state_row m.setup.spins E2 f x) (λ x. record { leads = refl })
  row_on-alike E3 =
      word-row m p f top knows hashed_lives (pv_row m.setup.spins E3 f (word_at m f.lock)) (record { leads = refl })
  row_on-alike E4 =
      word-row m p f top knows trying_lives (pv_row m.setup.spins E4 f (word_at m f.lock)) (E4-fine p f m.setup.spins (word_at m f.lock))
  row_on-alike E5 =
      word-row m p f top knows hashed_lives (pv_row m.setup.spins E5 f (word_at m f.lock)) (E5-fine p f m.setup.spins (word_at m f.lock))
  row_on-alike E6 =
      entry-row m p f top knows none_lives (hash_row E6 f (entry_at m f.lock)) (record { leads = refl })
  row_on-alike E7 =
      word-row m p f top knows none_lives (pv_row m.setup.spins E7 f (word_at m f.lock)) (E7-fine p f m.setup.spins (word_at m f.lock))
  row_on-alike E8 =
      word-row m p f top knows none_lives (pv_row m.setup.spins E8 f (word_at m f.lock)) (record { leads = refl })
  row_on-alike E9 =
      entry-row m p f top knows none_lives (hash_row E9 f (entry_at m f.lock)) (record { leads = refl })
  row_on-alike E10 =
      state-row m p f top knows hashed_lives (node_of f.me) (λ x. state_row m.setup.spins E10 f x) (λ x. record { leads = refl })
  row_on-alike E11 =
      word-row m p f top knows hashed_lives (pv_row m.setup.spins E11 f (word_at m f.lock)) (E11-fine p f m.setup.spins (word_at m f.lock))
  row_on-alike E12 =
      halted-row m p f top knows hashed_lives (λ x. halt_row E12 f x) (λ x. record { leads = refl })
  row_on-alike E13 =
      word-row m p f top knows none_lives (pv_row m.setup.spins E13 f (word_at m f.lock)) (E13-fine p f m.setup.spins (word_at m f.lock))
  row_on-alike E14 =
      next-row m p f top knows none_lives (node_of f.me) (λ x. pv_next_row E14 f x) (λ x. E14-fine p f x)
  row_on-alike E15 =
      flag-row m p f top knows y_lives (node_of f.y) (λ x. pv_flag_row E15 f x) (λ x. record { leads = refl })
  row_on-alike K1 =
      state-row m p f top knows y_lives (node_of f.y) (λ x. state_row m.setup.spins K1 f x) (λ x. K1-fine p f m.setup.spins x)
  row_on-alike K2 =
      word-row m p f top knows y_lives (pv_row m.setup.spins K2 f (word_at m f.lock)) (record { leads = refl })
  row_on-alike K3 =
      entry-row m p f top knows y_lives (hash_row K3 f (entry_at m f.lock)) (record { leads = tt })
  row_on-alike U2 =
      word-row m p f top knows none_lives (pv_row m.setup.spins U2 f (word_at m f.lock)) (U2-fine p f m.setup.spins (word_at m f.lock))
  row_on-alike U3 =
      entry-row m p f top knows none_lives (hash_row U3 f (entry_at m f.lock)) (record { leads = refl })
  row_on-alike U4 =
      word-row m p f top knows target_lives (pv_row m.setup.spins U4 f (word_at m f.lock)) (record { leads = refl })
  row_on-alike U5 =
      kicked-row m p f top knows target_lives (node_of f.target).cpu (λ x. kick_row U5 f x) (λ x. record { leads = tt })
  row_on-alike R1 =
      rw-row m p f top knows none_lives (rw_row m.setup.mode R1 f (rw_at m f.lock.index)) (R1-fine p f m.setup.mode (rw_at m f.lock.index))
  row_on-alike R2 =
      rw-row m p f top knows none_lives (rw_row m.setup.mode R2 f (rw_at m f.lock.index)) (R2-fine p f m.setup.mode (rw_at m f.lock.index))
  row_on-alike R3 =
      rw-row m p f top knows none_lives (rw_row m.setup.mode R3 f (rw_at m f.lock.index)) (record { leads = refl })
  row_on-alike R4 =
      rw-row m p f top knows none_lives (rw_row m.setup.mode R4 f (rw_at m f.lock.index)) (record { leads = refl })
  row_on-alike R5 =
      rw-row m p f top knows none_lives (rw_row m.setup.mode R5 f (rw_at m f.lock.index)) (R5-fine p f m.setup.mode (rw_at m f.lock.index))
  row_on-alike Wr1 =
      rw-row m p f top knows none_lives (rw_row m.setup.mode Wr1 f (rw_at m f.lock.index)) (Wr1-fine p f m.setup.mode (rw_at m f.lock.index))
  row_on-alike Wr2 =
      rw-row m p f top knows none_lives (rw_row m.setup.mode Wr2 f (rw_at m f.lock.index)) (Wr2-fine p f m.setup.mode (rw_at m f.lock.index))
  row_on-alike Wr3 =
      rw-row m p f top knows none_lives (rw_row m.setup.mode Wr3 f (rw_at m f.lock.index)) (Wr3-fine p f m.setup.mode (rw_at m f.lock.index))
  row_on-alike Wr4 =
      rw-row m p f top knows none_lives (rw_row m.setup.mode Wr4 f (rw_at m f.lock.index)) (record { leads = refl })
  row_on-alike Wr5 =
      rw-row m p f top knows none_lives (rw_row m.setup.mode Wr5 f (rw_at m f.lock.index)) (Wr5-fine p f m.setup.mode (rw_at m f.lock.index))
  row_on-alike Wr6 =
      rw-row m p f top knows none_lives (rw_row m.setup.mode Wr6 f (rw_at m f.lock.index)) (Wr6-fine p f m.setup.mode (rw_at m f.lock.index))
  row_on-alike Y1 =
      rw-row m p f top knows none_lives (rw_row m.setup.mode Y1 f (rw_at m f.lock.index)) (Y1-fine p f m.setup.mode (rw_at m f.lock.index))
  row_on-alike Y2 =
      rw-row m p f top knows none_lives (rw_row m.setup.mode Y2 f (rw_at m f.lock.index)) (Y2-fine p f m.setup.mode (rw_at m f.lock.index))
  row_on-alike Y3 =
      rw-row m p f top knows none_lives (rw_row m.setup.mode Y3 f (rw_at m f.lock.index)) (record { leads = tt })
  row_on-alike Y4 =
      rw-row m p f top knows none_lives (rw_row m.setup.mode Y4 f (rw_at m f.lock.index)) (Y4-fine p f m.setup.mode (rw_at m f.lock.index))
  row_on-alike Y5 =
      rw-row m p f top knows none_lives (rw_row m.setup.mode Y5 f (rw_at m f.lock.index)) (Y5-fine p f m.setup.mode (rw_at m f.lock.index))
  row_on-alike Z1 =
      rw-row m p f top knows none_lives (rw_row m.setup.mode Z1 f (rw_at m f.lock.index)) (record { leads = tt })
  row_on-alike Z2 =
      rw-row m p f top knows none_lives (rw_row m.setup.mode Z2 f (rw_at m f.lock.index)) (record { leads = tt })

row_at-alike : (m : Machine) (p : ℕ) (f : Frame) → top_frame m p ≡ f → (c : Option Pc)
    → ((d : Pc) → c ≡ Some d → KnowsWay f)
    → Alike (row_at (rested m) p (cut (lives_at c f.why) f) c) (row_at m p f c)
row_at-alike m p f top None knows = record { state = machine_twice m; event = refl }
row_at-alike m p f top (Some c) knows = row_on-alike m p f top (knows c refl) c

-- the row of the newest frame of a processor
pub row-alike : (m : Machine) (p : ℕ)
    → ((c : Pc) → (top_frame m p).place ≡ Some c → KnowsWay (top_frame m p))
    → Alike (row (rested m) p) (row m p)
row-alike m p knows =
    subst (λ (f : Frame). Alike (row_at (rested m) p f f.place) (row m p)) (sym (top-rested m p))
    (row_at-alike m p (top_frame m p) refl (top_frame m p).place knows)
