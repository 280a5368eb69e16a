-- What each row of the paravirtual lock makes of a world.
use Rattle.std.proofs.Common.{ℕ, Option, Some, None, refl, ◌&&◌, not, is_some, if◌then◌else◌, ◌-◌}
use Rattle.std.proofs.Common.{◌==◌}
use Rattle.lk_law.proofs.Names.{Fields, NodeName, LockName, node_of, Flag, Frame, E1, E2, E3, E4}
use Rattle.lk_law.proofs.Names.{E5, E6, E7, E8, E9, E10, E11, E12, E13, E14, E15, G4, H1, H2, K1}
use Rattle.lk_law.proofs.Names.{K2, K3, U2, U3, U4, U5, W1, W2, W3, W4, W5, W6, W7, State, is_held}
use Rattle.lk_law.proofs.Names.{is_last, is_halted, is_running, is_set, is_slow_byte, pv_after_next}
use Rattle.lk_law.proofs.Names.{is_unlocked, Freeing, Taking}
use Rattle.lk_rows.specs.rows.Pv.{pv_row, pv_flag_row, pv_next_row, state_row, hash_row, halt_row}
use Rattle.lk_rows.specs.rows.Pv.{kick_row, after_given_up}
use Rattle.lk_law.proofs.common.Puts.{if_cases}
use Rattle.lk_law.proofs.common.RowsMade.{Good, RowMakes, onward, onward_if, word_made, flag_made}
use Rattle.lk_law.proofs.common.RowsMade.{next_made, state_made, hash_made, halted_made, kick_made}
use Rattle.lk_law.proofs.rw.Else.{IsIn}

-- the rows where processors halt

on_given_up : (me : Option NodeName) → IsIn Taking (after_given_up me)
on_given_up None = onward H1 refl refl
on_given_up (Some n) = onward G4 refl refl

on_steal : (turns : ℕ) (f : Frame) (x : Fields) → Good Taking f.lock (pv_row turns H2 f x)
on_steal turns f x =
    if_cases (Good Taking f.lock) (is_unlocked x.locked) _ _ (λ e. (tt, refl))
    (λ e. (
      onward_if f.tailed H1 (after_given_up f.me) (onward H1 refl refl) (on_given_up f.me),
      tt,
    ))

on_try : (turns : ℕ) (f : Frame) (x : Fields) → Good Taking f.lock (pv_row turns E4 f x)
on_try turns f x =
    if_cases (Good Taking f.lock) (is_unlocked x.locked && x.pending) _ _
    (λ e. (onward E13 refl refl, refl))
    (λ e.
    if_cases (Good Taking f.lock) (f.left - 1 == 0) _ _ (λ z. (onward E5 refl refl, tt))
    (λ z. (onward E4 refl refl, tt)))

on_slow : (turns : ℕ) (f : Frame) (x : Fields) → Good Taking f.lock (pv_row turns E7 f x)
on_slow turns f x =
    if_cases (Good Taking f.lock) (is_unlocked x.locked) _ _ (λ e. (onward E8 refl refl, refl))
    (λ e. (onward E10 refl refl, tt))

on_leave : (turns : ℕ) (f : Frame) (x : Fields) → Good Taking f.lock (pv_row turns E13 f x)
on_leave turns f x =
    if_cases (Good Taking f.lock) (is_last f x) _ _ (λ e. (tt, refl))
    (λ e. (onward E14 refl refl, tt))

on_swap : (turns : ℕ) (f : Frame) (x : Fields) → Good Freeing f.lock (pv_row turns U2 f x)
on_swap turns f x =
    if_cases (Good Freeing f.lock) (is_held x.locked) _ _ (λ e. (tt, refl))
    (λ e. (record { spin = refl; part = refl }, tt))

on_doze : (f : Frame) (x : Flag) → Good Taking f.lock (pv_flag_row W4 f x)
on_doze f x =
    if_cases (Good Taking f.lock) (is_set x) _ _ (λ e. (onward W7 refl refl, tt))
    (λ e. (onward W5 refl refl, tt))

on_front_next : (l : LockName) (x : Option NodeName) → Good Taking l (pv_after_next x)
on_front_next l None = (onward E14 refl refl, tt)
on_front_next l (Some n) = (onward E15 refl refl, tt)

on_peer : (turns : ℕ) (f : Frame) (x : State) → Good Taking f.lock (state_row turns W2 f x)
on_peer turns f x =
    if_cases (Good Taking f.lock) (is_running x) _ _
    (λ e. if_cases (Good Taking f.lock) (f.left - 1 == 0) _ _ (λ z. (onward W3 refl refl, tt))
    (λ z. (onward W1 refl refl, tt)))
    (λ e. (onward W3 refl refl, tt))

on_wake : (turns : ℕ) (f : Frame) (x : State) → Good Taking f.lock (state_row turns W7 f x)
on_wake turns f x =
    if_cases (Good Taking f.lock) (is_halted x) _ _ (λ e. (onward W1 refl refl, tt))
    (λ e. (onward W1 refl refl, tt))

on_call : (turns : ℕ) (f : Frame) (x : State) → Good Taking f.lock (state_row turns K1 f x)
on_call turns f x =
    if_cases (Good Taking f.lock) (is_halted x) _ _ (λ e. (onward K2 refl refl, tt)) (λ e. (tt, tt))

pub makes_H1 : RowMakes H1
makes_H1 m w f =
    word_made (pv_row m.turns H1 f (m.word f.lock)) (
      onward_if (is_unlocked (m.word f.lock).locked && not (m.word f.lock).pending) H2
          (if is_some (m.word f.lock).tail
          && not (m.word f.lock).pending then H1 else after_given_up f.me) (onward H2 refl refl)
          (onward_if (is_some (m.word f.lock).tail && not (m.word f.lock).pending) H1
          (after_given_up f.me) (onward H1 refl refl) (on_given_up f.me)),
      tt,
    )

pub makes_H2 : RowMakes H2
makes_H2 m w f =
    word_made (pv_row m.turns H2 f (m.word f.lock)) (on_steal m.turns f (m.word f.lock))

pub makes_W1 : RowMakes W1
makes_W1 m w f =
    flag_made (node_of f.me) (pv_flag_row W1 f (m.node (node_of f.me)).flag) (
      onward_if (is_set (m.node (node_of f.me)).flag) E1 W2 (onward E1 refl refl)
          (onward W2 refl refl),
      tt,
    )

pub makes_W2 : RowMakes W2
makes_W2 m w f =
    state_made (node_of f.prev) (state_row m.turns W2 f (m.node (node_of f.prev)).state)
    (on_peer m.turns f (m.node (node_of f.prev)).state)

pub makes_W3 : RowMakes W3
makes_W3 m w f =
    state_made (node_of f.me) (state_row m.turns W3 f (m.node (node_of f.me)).state)
    (onward W4 refl refl, tt)

pub makes_W4 : RowMakes W4
makes_W4 m w f =
    flag_made (node_of f.me) (pv_flag_row W4 f (m.node (node_of f.me)).flag)
    (on_doze f (m.node (node_of f.me)).flag)

pub makes_W5 : RowMakes W5
makes_W5 m w f =
    state_made (node_of f.me) (state_row m.turns W5 f (m.node (node_of f.me)).state) (
      onward_if (is_halted (m.node (node_of f.me)).state) W6 W7 (onward W6 refl refl)
          (onward W7 refl refl),
      tt,
    )

pub makes_W6 : RowMakes W6
makes_W6 m w f = halted_made (halt_row W6 f (m.halted w.cpu)) (onward W6 refl refl, refl)

pub makes_W7 : RowMakes W7
makes_W7 m w f =
    state_made (node_of f.me) (state_row m.turns W7 f (m.node (node_of f.me)).state)
    (on_wake m.turns f (m.node (node_of f.me)).state)

pub makes_E1 : RowMakes E1
makes_E1 m w f =
    state_made (node_of f.me) (state_row m.turns E1 f (m.node (node_of f.me)).state)
    (onward E2 refl refl, tt)

pub makes_E2 : RowMakes E2
makes_E2 m w f =
    state_made (node_of f.me) (state_row m.turns E2 f (m.node (node_of f.me)).state)
    (onward E3 refl refl, tt)

pub makes_E3 : RowMakes E3
makes_E3 m w f = word_made (pv_row m.turns E3 f (m.word f.lock)) (onward E4 refl refl, tt)

pub makes_E4 : RowMakes E4
makes_E4 m w f = word_made (pv_row m.turns E4 f (m.word f.lock)) (on_try m.turns f (m.word f.lock))

pub makes_E5 : RowMakes E5
makes_E5 m w f =
    word_made (pv_row m.turns E5 f (m.word f.lock))
    (onward_if f.hashed E10 E6 (onward E10 refl refl) (onward E6 refl refl), tt)

pub makes_E6 : RowMakes E6
makes_E6 m w f = hash_made (hash_row E6 f (m.entry f.lock)) (onward E7 refl refl, tt)

pub makes_E7 : RowMakes E7
makes_E7 m w f = word_made (pv_row m.turns E7 f (m.word f.lock)) (on_slow m.turns f (m.word f.lock))

pub makes_E8 : RowMakes E8
makes_E8 m w f = word_made (pv_row m.turns E8 f (m.word f.lock)) (onward E9 refl refl, tt)

pub makes_E9 : RowMakes E9
makes_E9 m w f = hash_made (hash_row E9 f (m.entry f.lock)) (onward E13 refl refl, tt)

pub makes_E10 : RowMakes E10
makes_E10 m w f =
    state_made (node_of f.me) (state_row m.turns E10 f (m.node (node_of f.me)).state)
    (onward E11 refl refl, tt)

pub makes_E11 : RowMakes E11
makes_E11 m w f =
    word_made (pv_row m.turns E11 f (m.word f.lock)) (
      onward_if (is_slow_byte (m.word f.lock).locked) E12 E2 (onward E12 refl refl)
          (onward E2 refl refl),
      tt,
    )

pub makes_E12 : RowMakes E12
makes_E12 m w f = halted_made (halt_row E12 f (m.halted w.cpu)) (onward E12 refl refl, refl)

pub makes_E13 : RowMakes E13
makes_E13 m w f =
    word_made (pv_row m.turns E13 f (m.word f.lock)) (on_leave m.turns f (m.word f.lock))

pub makes_E14 : RowMakes E14
makes_E14 m w f =
    next_made (node_of f.me) (pv_next_row E14 f (m.node (node_of f.me)).next)
    (on_front_next f.lock (m.node (node_of f.me)).next)

pub makes_E15 : RowMakes E15
makes_E15 m w f =
    flag_made (node_of f.y) (pv_flag_row E15 f (m.node (node_of f.y)).flag)
    (onward K1 refl refl, tt)

pub makes_K1 : RowMakes K1
makes_K1 m w f =
    state_made (node_of f.y) (state_row m.turns K1 f (m.node (node_of f.y)).state)
    (on_call m.turns f (m.node (node_of f.y)).state)

pub makes_K2 : RowMakes K2
makes_K2 m w f = word_made (pv_row m.turns K2 f (m.word f.lock)) (onward K3 refl refl, tt)

pub makes_K3 : RowMakes K3
makes_K3 m w f = hash_made (hash_row K3 f (m.entry f.lock)) (tt, tt)

pub makes_U2 : RowMakes U2
makes_U2 m w f = word_made (pv_row m.turns U2 f (m.word f.lock)) (on_swap m.turns f (m.word f.lock))

pub makes_U3 : RowMakes U3
makes_U3 m w f =
    hash_made (hash_row U3 f (m.entry f.lock)) (record { spin = refl; part = refl }, tt)

pub makes_U4 : RowMakes U4
makes_U4 m w f =
    word_made (pv_row m.turns U4 f (m.word f.lock)) (record { spin = refl; part = refl }, refl)

pub makes_U5 : RowMakes U5
makes_U5 m w f =
    kick_made (node_of f.target).cpu (kick_row U5 f (m.kicked (node_of f.target).cpu)) (tt, tt)
