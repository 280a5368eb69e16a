-- What rows do that touch two processors at most: none takes a node of another one.
use Rattle.std.proofs.Common.{◌≡◌, ℕ, Option, Some, None, Bool, true, false, refl}
use Rattle.std.specs.Prelude.{if◌then◌else◌, ◌&&◌, ◌==◌, nat_lt, ◌-◌}
use Rattle.lk_names.specs.declared.names.Mode.{Mode}
use Rattle.lk_names.specs.declared.names.Mode.TheVariants.{Pv}
use Rattle.lk_word.specs.declared.spin_word.NodeName.{NodeName}
use Rattle.lk_word.specs.declared.spin_word.Fields.{Fields}
use Rattle.lk_word.specs.declared.rw_word.RwFields.{RwFields}
use Rattle.lk_rows.specs.declared.parts.Flag.{Flag}
use Rattle.lk_rows.specs.declared.parts.Flag.TheVariants as flag
use Rattle.lk_rows.specs.declared.parts.State.{State}
use Rattle.lk_rows.specs.declared.parts.Frame.{Frame}
use Rattle.lk_rows.specs.declared.parts.Pc.{Pc}
use Rattle.lk_rows.specs.declared.parts.Pc.TheVariants.{F1, T1, T2, V2, G3, G4, G5, G6, G8, G10, G11, N2, W1, W4}
use Rattle.lk_rows.specs.declared.parts.Pc.TheVariants.{C3, C4, C5, C8, C9, C10, E15, U5}
use Rattle.lk_rows.specs.declared.parts.Pc.TheVariants.{H2, W6, E4, E6, E7, E13, E14, U2, W7, K1, W2}
use Rattle.lk_rows.specs.declared.parts.Pc.TheVariants.{R1, R2, R5, Wr1, Wr3, Wr6, Y1, Y2, Y4, Y5}
use Rattle.lk_rows.specs.Moves.{node_of}
use Rattle.lk_rows.specs.Row.{Effect, Lead, Enters, Tell, Passes}
use Rattle.lk_rows.specs.rows.Spin.{spin_row, is_free, is_unlocked}
use Rattle.lk_rows.specs.rows.Queue.{queue_row, entry_row, flag_row, next_row, own_node, after_arrival, is_sole}
use Rattle.lk_rows.specs.rows.Cna.{Sight, search_row, second_row, handover_row, promotion_row, is_last, is_held}
use Rattle.lk_rows.specs.rows.Pv.{pv_row, pv_flag_row, pv_next_row, state_row, hash_row, halt_row, kick_row, is_set}
use Rattle.lk_rows.specs.rows.Pv.{is_running, is_halted}
use Rattle.lk_rows.specs.rows.Rw.{rw_row, is_open, is_empty, is_cleared}

-- the frame takes no node but one of the processor
abbrev pub IsNearLead : ℕ → Lead → Type 0
IsNearLead p (Enters (Some n) c) = n.cpu ≡ p
IsNearLead p lead = Unit {0}

-- it hands off to nobody but a waiter of a processor of which this is so
abbrev pub IsNearTell : (ℕ → Type 0) → Tell → Type 0
IsNearTell P (Passes n k) = P n.cpu
IsNearTell P t = Unit {0}

abbrev pub IsNear : {A : Type 0} → (ℕ → Type 0) → ℕ → Effect A → Type 0
IsNear P p o = IsNearLead p o.leads × IsNearTell P o.tells

module _ (P : ℕ → Type 0) (p : ℕ) (f : Frame) where
  either : {A : Type 0} (b : Bool) (x y : Effect A) → IsNear P p x → IsNear P p y
      → IsNear P p (if b then x else y)
  either true x y one other = one
  either false x y one other = other

  pub spin-near : (mode : Mode) (c : Pc) (x : Fields) → IsNear P p (spin_row mode c f x)
  spin-near mode F1 x = either (is_free x) _ _ (tt, tt) (tt, tt)
  spin-near mode T1 x = either (is_free x) _ _ (tt, tt) (tt, tt)
  spin-near mode T2 x = either (is_free x) _ _ (tt, tt) (tt, tt)
  spin-near mode V2 x = either (is_free x) _ _ (tt, tt) (tt, tt)
  spin-near mode c x = (tt, tt)

  arrival-near : (mode : Mode) (o : Option NodeName) → IsNearLead p (after_arrival mode o).leads
  arrival-near Pv None = tt
  arrival-near mode None = tt
  arrival-near mode (Some k) = tt

  pub queue-near : (mode : Mode) (c : Pc) (x : Fields) → IsNear P p (queue_row mode c f x)
  queue-near mode G3 x = either (is_free x) _ _ (tt, tt) (tt, tt)
  queue-near mode G4 x = (arrival-near mode x.tail, tt)
  queue-near mode G8 x = either (is_sole f x) _ _ (tt, tt) (tt, tt)
  queue-near mode N2 x = either (is_free x) _ _ (tt, tt) (tt, tt)
  queue-near mode c x = (tt, tt)

  own-near : (i : ℕ) (c : Pc) → IsNearLead p (Enters (own_node p i) c)
  own-near i c = by (nat_lt i 4)
    where
      by : (b : Bool) → IsNearLead p (Enters (if b then Some (record { cpu = p; index = i }) else None) c)
      by true = refl
      by false = tt

  pub entry-near : (mode : Mode) (i : ℕ) → IsNear P p (entry_row mode p i)
  entry-near mode i = (own-near i _, tt)

  pub pass-near : (x : Flag) → P (node_of f.y).cpu → IsNear P p (flag_row G11 f x)
  pass-near x is = (tt, is)

  pub handover-near : (x : Flag) → P (node_of f.y).cpu → IsNear P p (handover_row C8 f x)
  handover-near x is = (tt, is)

  pub head-near : (x : Flag) → P (node_of f.y).cpu → IsNear P p (pv_flag_row E15 f x)
  head-near x is = (tt, is)

  pub second-near : (c : Pc) (x : Option NodeName) → IsNear P p (second_row c f x)
  second-near C3 x = (tt, tt)
  second-near c x = (tt, tt)

  pub kick-near : (c : Pc) (x : Bool) → IsNear P p (kick_row c f x)
  kick-near U5 x = (tt, tt)
  kick-near c x = (tt, tt)

  pub append-near : (s : Sight) (x : Option NodeName) → IsNear P p (search_row s C4 f x)
  append-near s x = (tt, tt)

  pub cut-near : (s : Sight) (x : Option NodeName) → IsNear P p (search_row s C5 f x)
  cut-near s x = (tt, tt)

  pub flush-near : (s : Sight) (x : Option NodeName) → IsNear P p (search_row s C9 f x)
  flush-near s x = (tt, tt)

  pub flag-near : (x : Flag) → IsNear P p (flag_row G6 f x)
  flag-near flag.Unset = (tt, tt)
  flag-near flag.Go = (tt, tt)
  flag-near (flag.Second n) = (tt, tt)

  pub joined-near : (mode : Mode) (spins : ℕ) (x : Option NodeName) → IsNear P p (next_row mode spins G5 f x)
  joined-near Pv spins x = (tt, tt)
  joined-near mode spins x = (tt, tt)

  pub next-near : (mode : Mode) (spins : ℕ) (x : Option NodeName) → IsNear P p (next_row mode spins G10 f x)
  next-near mode spins None = (tt, tt)
  next-near mode spins (Some n) = (tt, tt)

  pub promotion-near : (c : Pc) (x : Fields) → IsNear P p (promotion_row c f x)
  promotion-near C10 x = either (is_last f x) _ _ (tt, tt) (tt, tt)
  promotion-near c x = (tt, tt)

  pub pv-near : (spins : ℕ) (c : Pc) (x : Fields) → IsNear P p (pv_row spins c f x)
  pv-near spins H2 x = either (is_unlocked x.locked) _ _ (tt, tt) (tt, tt)
  pv-near spins E4 x =
      either (is_unlocked x.locked && x.pending) _ _ (tt, tt)
      (either (f.left - 1 == 0) _ _ (tt, tt) (tt, tt))
  pv-near spins E7 x = either (is_unlocked x.locked) _ _ (tt, tt) (tt, tt)
  pv-near spins E13 x = either (is_last f x) _ _ (tt, tt) (tt, tt)
  pv-near spins U2 x = either (is_held x.locked) _ _ (tt, tt) (tt, tt)
  pv-near spins c x = (tt, tt)

  pub seen-near : (x : Flag) → IsNear P p (pv_flag_row W1 f x)
  seen-near x = (tt, tt)

  pub seen_again-near : (x : Flag) → IsNear P p (pv_flag_row W4 f x)
  seen_again-near x = either (is_set x) _ _ (tt, tt) (tt, tt)

  pub link-near : (c : Pc) (x : Option NodeName) → IsNear P p (pv_next_row c f x)
  link-near E14 None = (tt, tt)
  link-near E14 (Some n) = (tt, tt)
  link-near c x = (tt, tt)

  pub state-near : (spins : ℕ) (c : Pc) (x : State) → IsNear P p (state_row spins c f x)
  state-near spins W2 x =
      either (is_running x) _ _ (either (f.left - 1 == 0) _ _ (tt, tt) (tt, tt)) (tt, tt)
  state-near spins W7 x = either (is_halted x) _ _ (tt, tt) (tt, tt)
  state-near spins K1 x = either (is_halted x) _ _ (tt, tt) (tt, tt)
  state-near spins c x = (tt, tt)

  pub hash-near : (c : Pc) (x : Option NodeName) → IsNear P p (hash_row c f x)
  hash-near E6 x = (tt, tt)
  hash-near c x = (tt, tt)

  pub halt-near : (c : Pc) (x : Bool) → IsNear P p (halt_row c f x)
  halt-near W6 x = (tt, tt)
  halt-near c x = (tt, tt)

  pub rw-near : (mode : Mode) (c : Pc) (x : RwFields) → IsNear P p (rw_row mode c f x)
  rw-near mode R1 x = either (is_open x) _ _ (tt, tt) (tt, tt)
  rw-near mode R2 x = either x.writer _ _ (tt, tt) (tt, tt)
  rw-near mode R5 x = either x.writer _ _ (tt, tt) (tt, tt)
  rw-near mode Wr1 x = either (is_empty x) _ _ (tt, tt) (tt, tt)
  rw-near mode Wr3 x = either (is_empty x) _ _ (tt, tt) (tt, tt)
  rw-near mode Wr6 x = either (is_cleared x) _ _ (tt, tt) (tt, tt)
  rw-near mode Y1 x = either (is_open x) _ _ (tt, tt) (tt, tt)
  rw-near mode Y2 x = either (is_open x) _ _ (tt, tt) (tt, tt)
  rw-near mode Y4 x = either (is_empty x) _ _ (tt, tt) (tt, tt)
  rw-near mode Y5 x = either (is_empty x) _ _ (tt, tt) (tt, tt)
  rw-near mode c x = (tt, tt)
