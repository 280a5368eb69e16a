-- The nodes that a row gives to registers of its frame: the one that G4 meets as the tail, and the
-- one that U3 meets in the hash. All other rows give none.
use Rattle.std.proofs.Common.{◌≡◌, ℕ, Option, Some, None, Bool, true, false, [], ◌∷◌, inl, inr, ◌-◌}
use Rattle.std.proofs.Common.{refl, if◌then◌else◌, ◌==◌, ◌&&◌, is_some}
use Rattle.lk_core.proofs.Names.{cases_Bool, Fields, NodeName, Mode, Pv, Effect, TargetIs, Flag}
use Rattle.lk_core.proofs.Names.{Frame, Pc, C1, C2, C3, C6, C7, C8, C10, E1, E4, E7, E10, E13, E14}
use Rattle.lk_core.proofs.Names.{F1, G3, G4, G5, G6, G8, G10, H2, K1, N2, P4, T1, T2, U2, U3, U5}
use Rattle.lk_core.proofs.Names.{V2, W2, W4, W6, W7, State, Sight, after_none, handover_row}
use Rattle.lk_core.proofs.Names.{is_held, is_last, may_stay, promotion_row, runs_row, search_row}
use Rattle.lk_core.proofs.Names.{second_row, halt_row, hash_row, is_halted, is_running, is_set}
use Rattle.lk_core.proofs.Names.{kick_row, pv_flag_row, pv_next_row, pv_row, state_row, flag_row}
use Rattle.lk_core.proofs.Names.{is_sole, next_row, queue_row, is_free, is_unlocked, spin_row}
use Rattle.lk_rows.specs.rows.Queue.{after_arrival}
use Rattle.lk_core.proofs.Walks.{LeadIn, ChangesIn}
use Rattle.lk_rows.specs.declared.parts.Flag.TheVariants as flag

module _ (R : NodeName → Type 0) where
  pub spin_in : (mode : Mode) (c : Pc) (f : Frame) (x : Fields)
      → LeadIn R (spin_row mode c f x).leads
  spin_in mode F1 f x = elim (cases_Bool (is_free x)) [ inl e ↦ rw e tt | inr e ↦ rw e tt ]
  spin_in mode T1 f x = elim (cases_Bool (is_free x)) [ inl e ↦ rw e tt | inr e ↦ rw e tt ]
  spin_in mode T2 f x = elim (cases_Bool (is_free x)) [ inl e ↦ rw e tt | inr e ↦ rw e tt ]
  spin_in mode V2 f x = elim (cases_Bool (is_free x)) [ inl e ↦ rw e tt | inr e ↦ rw e tt ]
  spin_in mode P4 f x = tt
  spin_in mode _ f x = tt

  arrival_in : (mode : Mode) (o : Option NodeName) → ((n : NodeName) → o ≡ Some n → R n)
      → LeadIn R (after_arrival mode o).leads
  arrival_in Pv None met = tt
  arrival_in _ None met = tt
  arrival_in mode (Some n) met = (met n refl, tt)

  pub queue_in : (mode : Mode) (c : Pc) (f : Frame) (x : Fields)
      → (c ≡ G4 → (n : NodeName) → x.tail ≡ Some n → R n) → LeadIn R (queue_row mode c f x).leads
  queue_in mode G3 f x met = elim (cases_Bool (is_free x)) [ inl e ↦ rw e tt | inr e ↦ rw e tt ]
  queue_in mode G4 f x met = arrival_in mode x.tail (met refl)
  queue_in mode G8 f x met = elim (cases_Bool (is_sole f x)) [ inl e ↦ rw e tt | inr e ↦ rw e tt ]
  queue_in mode N2 f x met = elim (cases_Bool (is_free x)) [ inl e ↦ rw e tt | inr e ↦ rw e tt ]
  queue_in mode _ f x met = tt

  pub flag_in : (c : Pc) (f : Frame) (x : Flag) → LeadIn R (flag_row c f x).leads
  flag_in G6 f flag.Unset = tt
  flag_in G6 f flag.Go = tt
  flag_in G6 f (flag.Second n) = tt
  flag_in _ f x = tt

  pub next_in : (mode : Mode) (turns : ℕ) (c : Pc) (f : Frame) (x : Option NodeName)
      → LeadIn R (next_row mode turns c f x).leads
  next_in mode turns G10 f None = tt
  next_in mode turns G10 f (Some n) = tt
  next_in Pv turns G5 f x = tt
  next_in _ turns G5 f x = tt
  next_in mode turns _ f x = tt

  -- one of two outcomes
  in_if : {A : Type 0} (t : Bool) (a b : Effect A) → LeadIn R a.leads → LeadIn R b.leads
      → LeadIn R (if t then a else b).leads
  in_if true a b x y = x
  in_if false a b x y = y

  after_none_in : (o : Option NodeName) → LeadIn R (after_none o).leads
  after_none_in None = tt
  after_none_in (Some n) = tt

  pub search_in : (s : Sight) (c : Pc) (f : Frame) (x : Option NodeName)
      → LeadIn R (search_row s c f x).leads
  search_in s C1 f None = after_none_in f.second
  search_in s C1 f (Some n) =
      in_if (may_stay s) _ _ (in_if (s.local n) _ _ tt tt) (in_if (is_some f.second) _ _ tt tt)
  search_in s C2 f None = in_if (is_some f.second) _ _ tt tt
  search_in s C2 f (Some n) = in_if (s.local n) _ _ (in_if (is_some f.second) _ _ tt tt) tt
  search_in s _ f x = tt

  pub second_in : (c : Pc) (f : Frame) (x : Option NodeName) → LeadIn R (second_row c f x).leads
  second_in C3 f x = tt
  second_in C6 f x = tt
  second_in _ f x = tt

  pub runs_in : (s : Sight) (c : Pc) (f : Frame) (x : ℕ) → LeadIn R (runs_row s c f x).leads
  runs_in s C7 f x = tt
  runs_in s _ f x = tt

  pub handover_in : (c : Pc) (f : Frame) (x : Flag) → LeadIn R (handover_row c f x).leads
  handover_in C8 f x = tt
  handover_in _ f x = tt

  pub promotion_in : (c : Pc) (f : Frame) (x : Fields) → LeadIn R (promotion_row c f x).leads
  promotion_in C10 f x = in_if (is_last f x) _ _ tt tt
  promotion_in _ f x = tt

  pub pv_in : (spins : ℕ) (c : Pc) (f : Frame) (x : Fields) → LeadIn R (pv_row spins c f x).leads
  pv_in spins H2 f x = in_if (is_unlocked x.locked) _ _ tt tt
  pv_in spins E4 f x =
      in_if (is_unlocked x.locked && x.pending) _ _ tt (in_if (f.left - 1 == 0) _ _ tt tt)
  pv_in spins E7 f x = in_if (is_unlocked x.locked) _ _ tt tt
  pv_in spins E13 f x = in_if (is_last f x) _ _ tt tt
  pv_in spins U2 f x = in_if (is_held x.locked) _ _ tt tt
  pv_in spins _ f x = tt

  pub pv_flag_in : (c : Pc) (f : Frame) (x : Flag) → LeadIn R (pv_flag_row c f x).leads
  pv_flag_in W4 f x = in_if (is_set x) _ _ tt tt
  pv_flag_in _ f x = tt

  pub pv_next_in : (c : Pc) (f : Frame) (x : Option NodeName) → LeadIn R (pv_next_row c f x).leads
  pv_next_in E14 f None = tt
  pv_next_in E14 f (Some n) = tt
  pv_next_in _ f x = tt

  pub state_in : (spins : ℕ) (c : Pc) (f : Frame) (x : State)
      → LeadIn R (state_row spins c f x).leads
  state_in spins W2 f x = in_if (is_running x) _ _ (in_if (f.left - 1 == 0) _ _ tt tt) tt
  state_in spins W7 f x = in_if (is_halted x) _ _ tt tt
  state_in spins E1 f x = tt
  state_in spins E10 f x = tt
  state_in spins K1 f x = in_if (is_halted x) _ _ tt tt
  state_in spins _ f x = tt

  found_in : (o : Option NodeName) → ((n : NodeName) → o ≡ Some n → R n)
      → ChangesIn R (TargetIs o ∷ [])
  found_in None met = tt
  found_in (Some n) met = (met n refl, tt)

  pub hash_in : (c : Pc) (f : Frame) (x : Option NodeName)
      → (c ≡ U3 → (n : NodeName) → x ≡ Some n → R n) → LeadIn R (hash_row c f x).leads
  hash_in U3 f x met = found_in x (met refl)
  hash_in _ f x met = tt

  pub halt_in : (c : Pc) (f : Frame) (x : Bool) → LeadIn R (halt_row c f x).leads
  halt_in W6 f x = tt
  halt_in _ f x = tt

  pub kick_in : (c : Pc) (f : Frame) (x : Bool) → LeadIn R (kick_row c f x).leads
  kick_in U5 f x = tt
  kick_in _ f x = tt
