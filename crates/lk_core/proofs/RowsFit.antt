-- Each row of an operation leads to a row of the same operation, or ends it as its verb does.
use Rattle.std.proofs.Common.{◌≡◌, ◌⊎◌, ℕ, ◌<◌, arith, Option, Some, None, Bool, true, false, inl}
use Rattle.std.proofs.Common.{inr, refl, sym, subst, if◌then◌else◌, ◌&&◌, not, is_some, nat_lt}
use Rattle.std.proofs.lemmas.Bool.{ltb-true}
use Rattle.lk_core.proofs.Names.{cases_Bool, Fields, NodeName, Mode, Cna, Native, Pv, Virt, is_node}
use Rattle.lk_core.proofs.Names.{node_of, Enters, Flag, Frame, Pc, F1, G3, G4, G5, G6, G8, G10, G11}
use Rattle.lk_core.proofs.Names.{N2, P4, T1, T2, U2, U3, U4, V2, Verb, Lock, Try, Unlock, entry_row}
use Rattle.lk_core.proofs.Names.{flag_row, is_sole, next_row, queue_row, is_free, is_unlocked}
use Rattle.lk_core.proofs.Names.{spin_row, is_queued_row, BelongsTo, is_choosing_row, is_lock_row}
use Rattle.lk_rows.specs.declared.parts.Pc.TheVariants.{V1, P0, P1, P2, P3, G1, G2, G7, G9, N1, U1}
use Rattle.lk_rows.specs.rows.Queue.{after_entry, after_look}
use Rattle.lk_rows.specs.rows.Spin.{to_queue, after_fast, after_pending}
use Rattle.lk_core.proofs.Walks.{LeadFits}
use Rattle.lk_rows.specs.declared.parts.Flag.TheVariants as flag

-- one of two places, both of which are rows of the operation
pub either : (P : Pc → Type 0) (t : Bool) (a b : Pc) → P a → P b → P (if t then a else b)
either P true a b x y = x
either P false a b x y = y

-- the place is a row of `lock` in modes `native` and `cna`
abbrev Queued : Pc → Type 0
Queued c = (is_queued_row c ≡ true) × (is_choosing_row c ≡ true)

to_queue_row : (x : Fields) → Queued (to_queue x)
to_queue_row x =
    either Queued x.pending G1 (if is_some x.tail then G1 else P1) (refl, refl)
    (either Queued (is_some x.tail) G1 P1 (refl, refl) (refl, refl))

after_fast_row : (x : Fields) → Queued (after_fast Native x)
after_fast_row x =
    either Queued (is_unlocked x.locked && x.pending && not (is_some x.tail)) P0 (to_queue x)
    (refl, refl) (to_queue_row x)

after_pending_row : (x : Fields) → Queued (after_pending x)
after_pending_row x =
    either Queued x.pending G1 (if is_some x.tail then P2
    else (if is_unlocked x.locked then P4 else P3)) (refl, refl)
    (either Queued (is_some x.tail) P2 (if is_unlocked x.locked then P4 else P3) (refl, refl)
    (either Queued (is_unlocked x.locked) P4 P3 (refl, refl) (refl, refl)))

after_look_row : (f : Frame) (x : Fields) → Queued (after_look f x)
after_look_row f x =
    either Queued (is_unlocked x.locked && not x.pending)
    (if is_node x.tail (node_of f.me) && not (is_some f.second) then G8 else G9) G7
    (either Queued (is_node x.tail (node_of f.me) && not (is_some f.second)) G8 G9 (refl, refl)
    (refl, refl)) (refl, refl)

-- the rows of `unlock` in mode `pv`
pub releasing : (P : Pc → Type 0) → P U2 → P U3 → P U4 → (c : Pc) → (c ≡ U2) ⊎ (c ≡ U3) ⊎ (c ≡ U4)
    → P c
releasing P a b d c (inl e) = subst P (sym e) a
releasing P a b d c (inr (inl e)) = subst P (sym e) b
releasing P a b d c (inr (inr e)) = subst P (sym e) d

module _ (R : NodeName → Type 0) (f : Frame) (x : Fields) where
  lock_spin : (mode : Mode) (c : Pc) → is_lock_row mode c ≡ true
      → LeadFits R mode Lock (spin_row mode c f x).leads
  lock_spin Virt F1 at = elim (cases_Bool (is_free x)) [ inl e ↦ rw e refl | inr e ↦ rw e refl ]
  lock_spin Virt V1 at = elim (cases_Bool (is_free x)) [ inl e ↦ rw e refl | inr e ↦ rw e refl ]
  lock_spin Virt V2 at = elim (cases_Bool (is_free x)) [ inl e ↦ rw e refl | inr e ↦ rw e refl ]
  lock_spin Virt _ at = cc
  lock_spin Native F1 at =
      elim (cases_Bool (is_free x)) [ inl e ↦ rw e refl | inr e ↦ rw e (after_fast_row x).0 ]
  lock_spin Native P0 at = (to_queue_row x).0
  lock_spin Native P1 at = (after_pending_row x).0
  lock_spin Native P3 at = (either Queued (is_unlocked x.locked) P4 P3 (refl, refl) (refl, refl)).0
  lock_spin Native _ at = cc
  lock_spin Cna F1 at =
      elim (cases_Bool (is_free x)) [ inl e ↦ rw e refl | inr e ↦ rw e (after_fast_row x).1 ]
  lock_spin Cna P0 at = (to_queue_row x).1
  lock_spin Cna P1 at = (after_pending_row x).1
  lock_spin Cna P3 at = (either Queued (is_unlocked x.locked) P4 P3 (refl, refl) (refl, refl)).1
  lock_spin Cna _ at = cc
  lock_spin Pv F1 at = elim (cases_Bool (is_free x)) [ inl e ↦ rw e refl | inr e ↦ rw e refl ]
  lock_spin Pv T1 at = cc
  lock_spin Pv T2 at = cc
  lock_spin Pv U1 at = cc
  lock_spin Pv V1 at = cc
  lock_spin Pv V2 at = cc
  lock_spin Pv P0 at = cc
  lock_spin Pv P1 at = cc
  lock_spin Pv P2 at = cc
  lock_spin Pv P3 at = cc
  lock_spin Pv P4 at = cc
  lock_spin Pv _ at = at

  try_spin : (mode : Mode) (c : Pc) → (c ≡ T1) ⊎ (c ≡ T2)
      → LeadFits R mode Try (spin_row mode c f x).leads
  try_spin mode c (inl e) =
      subst (λ (d : Pc). LeadFits R mode Try (spin_row mode d f x).leads) (sym e)
      (elim (cases_Bool (is_free x)) [ inl t ↦ rw t (inr refl) | inr t ↦ rw t refl ])
  try_spin mode c (inr e) =
      subst (λ (d : Pc). LeadFits R mode Try (spin_row mode d f x).leads) (sym e)
      (elim (cases_Bool (is_free x)) [ inl t ↦ rw t refl | inr t ↦ rw t refl ])

  pub spin_fits : (mode : Mode) (v : Verb) (c : Pc) → BelongsTo mode v c
      → LeadFits R mode v (spin_row mode c f x).leads
  spin_fits mode Lock c at = lock_spin mode c at
  spin_fits mode Try c at = try_spin mode c at
  spin_fits Pv Unlock c at =
      releasing (λ (d : Pc). LeadFits R Pv Unlock (spin_row Pv d f x).leads) (inl refl)
      (inr (inl refl)) (inr (inr refl)) c at
  spin_fits mode Unlock c at =
      subst (λ (d : Pc). LeadFits R mode Unlock (spin_row mode d f x).leads) (sym at) refl
  spin_fits mode _ c at = absurd at

  arrives : (o : Option NodeName)
      → LeadFits R Native Lock (queue_row Native G4 f (record x { tail = o })).leads
      × LeadFits R Cna Lock (queue_row Cna G4 f (record x { tail = o })).leads
      × LeadFits R Pv Lock (queue_row Pv G4 f (record x { tail = o })).leads
  arrives None = (refl, refl, refl)
  arrives (Some n) = (refl, refl, refl)

  lock_queue : (mode : Mode) (c : Pc) → is_lock_row mode c ≡ true
      → LeadFits R mode Lock (queue_row mode c f x).leads
  lock_queue Virt F1 at = refl
  lock_queue Virt V1 at = refl
  lock_queue Virt V2 at = refl
  lock_queue Virt _ at = cc
  lock_queue Native G2 at = elim (cases_Bool (is_free x)) [ inl e ↦ rw e refl | inr e ↦ rw e refl ]
  lock_queue Native G3 at = elim (cases_Bool (is_free x)) [ inl e ↦ rw e refl | inr e ↦ rw e refl ]
  lock_queue Native G4 at = (arrives x.tail).0
  lock_queue Native G7 at = (after_look_row f x).0
  lock_queue Native G8 at =
      elim (cases_Bool (is_sole f x)) [ inl e ↦ rw e refl | inr e ↦ rw e refl ]
  lock_queue Native N1 at = elim (cases_Bool (is_free x)) [ inl e ↦ rw e refl | inr e ↦ rw e refl ]
  lock_queue Native N2 at = elim (cases_Bool (is_free x)) [ inl e ↦ rw e refl | inr e ↦ rw e refl ]
  lock_queue Native _ at = cc
  lock_queue Cna G2 at = elim (cases_Bool (is_free x)) [ inl e ↦ rw e refl | inr e ↦ rw e refl ]
  lock_queue Cna G3 at = elim (cases_Bool (is_free x)) [ inl e ↦ rw e refl | inr e ↦ rw e refl ]
  lock_queue Cna G4 at = (arrives x.tail).1
  lock_queue Cna G7 at = (after_look_row f x).1
  lock_queue Cna G8 at = elim (cases_Bool (is_sole f x)) [ inl e ↦ rw e refl | inr e ↦ rw e refl ]
  lock_queue Cna N1 at = elim (cases_Bool (is_free x)) [ inl e ↦ rw e refl | inr e ↦ rw e refl ]
  lock_queue Cna N2 at = elim (cases_Bool (is_free x)) [ inl e ↦ rw e refl | inr e ↦ rw e refl ]
  lock_queue Cna _ at = cc
  lock_queue Pv G2 at = cc
  lock_queue Pv G3 at = cc
  lock_queue Pv G4 at = (arrives x.tail).2
  lock_queue Pv G7 at = cc
  lock_queue Pv G8 at = cc
  lock_queue Pv G9 at = cc
  lock_queue Pv N1 at = cc
  lock_queue Pv N2 at = cc
  lock_queue Pv _ at = at

  pub queue_fits : (mode : Mode) (v : Verb) (c : Pc) → BelongsTo mode v c
      → LeadFits R mode v (queue_row mode c f x).leads
  queue_fits mode Lock c at = lock_queue mode c at
  queue_fits mode Try c (inl e) =
      subst (λ (d : Pc). LeadFits R mode Try (queue_row mode d f x).leads) (sym e) (inl refl)
  queue_fits mode Try c (inr e) =
      subst (λ (d : Pc). LeadFits R mode Try (queue_row mode d f x).leads) (sym e) (inr refl)
  queue_fits Pv Unlock c at =
      releasing (λ (d : Pc). LeadFits R Pv Unlock (queue_row Pv d f x).leads) (inl refl)
      (inr (inl refl)) (inr (inr refl)) c at
  queue_fits mode Unlock c at =
      subst (λ (d : Pc). LeadFits R mode Unlock (queue_row mode d f x).leads) (sym at) refl
  queue_fits mode _ c at = absurd at

-- only a `lock` takes a node
module _ (R : NodeName → Type 0) (p i : ℕ) (has : i < 4 → R (record { cpu = p; index = i })) where
  taken : (t : Bool) → nat_lt i 4 ≡ t
      → LeadFits R Native Lock
      (Enters (if t then Some (record { cpu = p; index = i }) else None)
      (after_entry Native (if t then Some (record { cpu = p; index = i }) else None)))
  taken true e = (refl, has (ltb-true i 4 e))
  taken false e = refl

  taken_cna : (t : Bool) → nat_lt i 4 ≡ t
      → LeadFits R Cna Lock
      (Enters (if t then Some (record { cpu = p; index = i }) else None)
      (after_entry Cna (if t then Some (record { cpu = p; index = i }) else None)))
  taken_cna true e = (refl, has (ltb-true i 4 e))
  taken_cna false e = refl

  taken_pv : (t : Bool) → nat_lt i 4 ≡ t
      → LeadFits R Pv Lock
      (Enters (if t then Some (record { cpu = p; index = i }) else None)
      (after_entry Pv (if t then Some (record { cpu = p; index = i }) else None)))
  taken_pv true e = (refl, has (ltb-true i 4 e))
  taken_pv false e = refl

  pub entry_fits : (mode : Mode) (v : Verb) → BelongsTo mode v G1
      → LeadFits R mode v (entry_row mode p i).leads
  entry_fits Native Lock at = taken (nat_lt i 4) refl
  entry_fits Cna Lock at = taken_cna (nat_lt i 4) refl
  entry_fits mode Try (inl e) = cc
  entry_fits mode Try (inr e) = cc
  entry_fits Pv Unlock at = elim at [ inl e ↦ cc | inr z ↦ elim z [ inl e ↦ cc | inr e ↦ cc ] ]
  entry_fits mode Unlock at = cc
  entry_fits Virt Lock at = cc
  entry_fits Pv Lock at = taken_pv (nat_lt i 4) refl
  entry_fits mode _ at = absurd at

module _ (R : NodeName → Type 0) (f : Frame) (x : Flag) where
  seen : (o : Flag) → LeadFits R Native Lock (flag_row G6 f o).leads
  seen flag.Unset = refl
  seen flag.Go = refl
  seen (flag.Second n) = refl

  seen_cna : (o : Flag) → LeadFits R Cna Lock (flag_row G6 f o).leads
  seen_cna flag.Unset = refl
  seen_cna flag.Go = refl
  seen_cna (flag.Second n) = refl

  lock_flag : (mode : Mode) (c : Pc) → is_lock_row mode c ≡ true
      → LeadFits R mode Lock (flag_row c f x).leads
  lock_flag Virt F1 at = refl
  lock_flag Virt V1 at = refl
  lock_flag Virt V2 at = refl
  lock_flag Virt _ at = cc
  lock_flag Native G6 at = seen x
  lock_flag Native _ at = cc
  lock_flag Cna G6 at = seen_cna x
  lock_flag Cna _ at = cc
  lock_flag Pv G6 at = cc
  lock_flag Pv G11 at = cc
  lock_flag Pv _ at = at

  pub flag_fits : (mode : Mode) (v : Verb) (c : Pc) → BelongsTo mode v c
      → LeadFits R mode v (flag_row c f x).leads
  flag_fits mode Lock c at = lock_flag mode c at
  flag_fits mode Try c (inl e) =
      subst (λ (d : Pc). LeadFits R mode Try (flag_row d f x).leads) (sym e) (inl refl)
  flag_fits mode Try c (inr e) =
      subst (λ (d : Pc). LeadFits R mode Try (flag_row d f x).leads) (sym e) (inr refl)
  flag_fits Pv Unlock c at =
      releasing (λ (d : Pc). LeadFits R Pv Unlock (flag_row d f x).leads) (inl refl)
      (inr (inl refl)) (inr (inr refl)) c at
  flag_fits mode Unlock c at =
      subst (λ (d : Pc). LeadFits R mode Unlock (flag_row d f x).leads) (sym at) refl
  flag_fits mode _ c at = absurd at

module _ (R : NodeName → Type 0) (turns : ℕ) (f : Frame) (x : Option NodeName) where
  looked : (o : Option NodeName) → LeadFits R Native Lock (next_row Native turns G10 f o).leads
  looked None = refl
  looked (Some n) = refl

  lock_next : (mode : Mode) (c : Pc) → is_lock_row mode c ≡ true
      → LeadFits R mode Lock (next_row mode turns c f x).leads
  lock_next Virt F1 at = refl
  lock_next Virt V1 at = refl
  lock_next Virt V2 at = refl
  lock_next Virt _ at = cc
  lock_next Native G10 at = looked x
  lock_next Native _ at = cc
  lock_next Cna G10 at = absurd (grind (arith, at))
  lock_next Cna _ at = cc
  lock_next Pv G5 at = refl
  lock_next Pv G10 at = cc
  lock_next Pv _ at = at

  pub next_fits : (mode : Mode) (v : Verb) (c : Pc) → BelongsTo mode v c
      → LeadFits R mode v (next_row mode turns c f x).leads
  next_fits mode Lock c at = lock_next mode c at
  next_fits mode Try c (inl e) =
      subst (λ (d : Pc). LeadFits R mode Try (next_row mode turns d f x).leads) (sym e) (inl refl)
  next_fits mode Try c (inr e) =
      subst (λ (d : Pc). LeadFits R mode Try (next_row mode turns d f x).leads) (sym e) (inr refl)
  next_fits Pv Unlock c at =
      releasing (λ (d : Pc). LeadFits R Pv Unlock (next_row Pv turns d f x).leads) (inl refl)
      (inr (inl refl)) (inr (inr refl)) c at
  next_fits mode Unlock c at =
      subst (λ (d : Pc). LeadFits R mode Unlock (next_row mode turns d f x).leads) (sym at) refl
  next_fits mode _ c at = absurd at
