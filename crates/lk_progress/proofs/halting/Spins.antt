-- No row leaves more turns of a spin than the spin bound says, and operations begin with few rows.
use Rattle.std.proofs.Common.{◌≡◌, ◌<◌, ◌≤◌, ◌-◌, arith, Option, Some, None, Bool, true, false}
use Rattle.std.proofs.Common.{if◌then◌else◌, ◌&&◌, ◌==◌}
use Rattle.lk_progress.proofs.Names.{RwFields, Fields, NodeName, Mode, Cna, Native, Pv, Virt}
use Rattle.lk_progress.proofs.Names.{Waiter, node_of, Effect, Lead, target, Frame, Pc, E1}
use Rattle.lk_progress.proofs.Names.{E2, E3, E4, E5, E6, E7, E8, E9, E10, E11, E12, E13, E14, E15}
use Rattle.lk_progress.proofs.Names.{F1, G1, G4, G5, H1, H2, K1, K2, K3, R1, R2, R3, R4, R5, T1, T2}
use Rattle.lk_progress.proofs.Names.{U2, U3, U4, U5, W1, W2, W3, W4, W5, W6, W7, Wr1, Wr2, Wr3, Wr4}
use Rattle.lk_progress.proofs.Names.{Wr5, Wr6, Y1, Y2, Y3, Y4, Y5, Z1, Z2, Verb, Lock, RUnlock}
use Rattle.lk_progress.proofs.Names.{Read, Try, TryRead, TryWrite, Unlock, WUnlock, Write, is_held}
use Rattle.lk_progress.proofs.Names.{is_last, is_halted, is_running, is_set, pv_after_next}
use Rattle.lk_progress.proofs.Names.{after_arrival, after_link, frees_wait, is_cleared, is_empty}
use Rattle.lk_progress.proofs.Names.{is_open, is_free, is_unlocked, not-true, chooses, stays_awake}
use Rattle.lk_progress.proofs.Names.{course_in, led, World, halting_left}
use Rattle.lk_law.proofs.pv.Laws.{halts_flat}
use Rattle.lk_progress.specs.HaltingMeasure.{RowKeepsSpins, HaltingBeginIsShort}

module _ (m : World) (w : Waiter) (f : Frame) (few : f.left ≤ m.turns) where
  abbrev x : Fields
  x = m.word f.lock

  abbrev y : RwFields
  y = m.rw f.lock.index

  abbrev Few : Lead → Type 0
  Few lead = (led f lead).left ≤ m.turns

  either : {A : Type 0} (b : Bool) (X Y : Effect A) → Few X.leads → Few Y.leads → Few (if b then X else Y).leads
  either true X Y h k = h
  either false X Y h k = k

  frees : (mode : Mode) → Few (frees_wait mode)
  frees Pv = few
  frees Virt = few
  frees Native = few
  frees Cna = few

  arrives : (mode : Mode) (t : Option NodeName) → Few (after_arrival mode t).leads
  arrives Pv None = few
  arrives Virt None = few
  arrives Native None = few
  arrives Cna None = few
  arrives Pv (Some n) = few
  arrives Virt (Some n) = few
  arrives Native (Some n) = few
  arrives Cna (Some n) = few

  links : (mode : Mode) → Few (after_link mode m.turns)
  links Pv = omega arith
  links Virt = few
  links Native = few
  links Cna = few

  seeks : (o : Option NodeName) → Few (pv_after_next o).leads
  seeks None = few
  seeks (Some n) = few

  keeps : (c : Pc) → stays_awake c ≡ false → chooses c ≡ false → Few (course_in m w f c (target c f)).leads
  keeps F1 a b = either (is_free x) _ _ few few
  keeps T1 a b = either (is_free x) _ _ few few
  keeps T2 a b = either (is_free x) _ _ few few
  keeps G1 a b = few
  keeps G4 a b = arrives m.mode x.tail
  keeps G5 a b = links m.mode
  keeps H1 a b = few
  keeps H2 a b = either (is_unlocked x.locked) _ _ few few
  keeps W1 a b = few
  keeps W2 a b =
      either (is_running (m.node (node_of f.prev)).state) _ _ (either (f.left - 1 == 0) _ _ (omega arith) (omega (arith, few))) few
  keeps W3 a b = few
  keeps W4 a b = either (is_set (m.node (node_of f.me)).flag) _ _ few few
  keeps W5 a b = few
  keeps W6 a b = few
  keeps W7 a b = either (is_halted (m.node (node_of f.me)).state) _ _ (omega arith) (omega arith)
  keeps E1 a b = few
  keeps E2 a b = few
  keeps E3 a b = omega arith
  keeps E4 a b = either (is_unlocked x.locked && x.pending) _ _ few (either (f.left - 1 == 0) _ _ (omega arith) (omega (arith, few)))
  keeps E5 a b = few
  keeps E6 a b = few
  keeps E7 a b = either (is_unlocked x.locked) _ _ few few
  keeps E8 a b = few
  keeps E9 a b = few
  keeps E10 a b = few
  keeps E11 a b = few
  keeps E12 a b = few
  keeps E13 a b = either (is_last f x) _ _ few few
  keeps E14 a b = seeks (m.node (node_of f.me)).next
  keeps E15 a b = few
  keeps K1 a b = either (is_halted (m.node (node_of f.y)).state) _ _ few few
  keeps K2 a b = few
  keeps K3 a b = few
  keeps U2 a b = either (is_held x.locked) _ _ few few
  keeps U3 a b = few
  keeps U4 a b = few
  keeps U5 a b = few
  keeps R1 a b = either (is_open y) _ _ few few
  keeps R2 a b = either y.writer _ _ few few
  keeps R3 a b = few
  keeps R4 a b = few
  keeps R5 a b = either y.writer _ _ few (frees m.mode)
  keeps Wr1 a b = either (is_empty y) _ _ few few
  keeps Wr2 a b = few
  keeps Wr3 a b = either (is_empty y) _ _ (frees m.mode) few
  keeps Wr4 a b = few
  keeps Wr5 a b = few
  keeps Wr6 a b = either (is_cleared y) _ _ (frees m.mode) few
  keeps Y1 a b = either (is_open y) _ _ few few
  keeps Y2 a b = either (is_open y) _ _ few few
  keeps Y3 a b = few
  keeps Y4 a b = either (is_empty y) _ _ few few
  keeps Y5 a b = either (is_empty y) _ _ few few
  keeps Z1 a b = few
  keeps Z2 a b = few
  keeps _ a b = cc (a, b)

pub row_keeps_spins : (c : Pc) → RowKeepsSpins c
row_keeps_spins c m hs w f ok on live at few =
    keeps m w f few c
    (not-true (stays_awake c) (λ e. let z = (ok.registers w f live).choice.waking c at e in cc (z, on)))
    (not-true (chooses c) (λ e. let z = (ok.registers w f live).choice.choice c at e in let q = halts_flat m.mode on in cc (z, q)))

pub halting_begin_is_short : HaltingBeginIsShort
halting_begin_is_short Pv f o a = by o.verb
  where
    by : (v : Verb) → halting_left (record f { place = Some (Rattle.lk_rows.specs.Moves.first_place Pv v); lock = record { index = o.lock; wait = false } }) < 28
    by Lock = omega arith
    by Try = omega arith
    by Unlock = omega arith
    by Read = omega arith
    by TryRead = omega arith
    by RUnlock = omega arith
    by Write = omega arith
    by TryWrite = omega arith
    by WUnlock = omega arith
halting_begin_is_short Virt f o a = cc a
halting_begin_is_short Native f o a = cc a
halting_begin_is_short Cna f o a = cc a
