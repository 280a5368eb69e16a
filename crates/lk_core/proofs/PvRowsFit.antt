-- Where a row of the paravirtual lock leads, its frame fits its program still.
use Rattle.std.proofs.Common.{◌≡◌, ◌⊎◌, ℕ, ap, arith, [], ◌-◌, Option, Some, None, Bool, true}
use Rattle.std.proofs.Common.{false, inl, inr, refl, sym, subst, if◌then◌else◌, ◌&&◌, ◌==◌, not}
use Rattle.std.proofs.Common.{is_some}
use Rattle.lk_core.proofs.Names.{cases_Bool, Fields, NodeName, Mode, Cna, Native, Pv, Virt, Goes}
use Rattle.lk_core.proofs.Names.{Lead, Flag, Frame, Pc, E1, E2, E4, E6, E7, E10, E13, E14, H2, K1}
use Rattle.lk_core.proofs.Names.{K3, U2, U3, U4, W2, W4, W6, W7, State, Verb, Lock, Try, Unlock}
use Rattle.lk_core.proofs.Names.{is_held, is_last, halt_row, hash_row, is_halted, is_running}
use Rattle.lk_core.proofs.Names.{is_set, pv_flag_row, pv_next_row, pv_row, state_row, is_unlocked}
use Rattle.lk_core.proofs.Names.{is_halting_row, is_queued_row, may_halt, BelongsTo}
use Rattle.lk_core.proofs.Names.{is_choosing_row, is_virt_row}
use Rattle.lk_rows.specs.declared.parts.Pc.TheVariants.{H1, W1, W3, W5, E3, E5, E8, E9, E11, E12}
use Rattle.lk_rows.specs.declared.parts.Pc.TheVariants.{E15, K2}
use Rattle.lk_rows.specs.rows.Pv.{after_given_up, is_slow_byte, pv_after_next}
use Rattle.lk_core.proofs.{ChoiceRowsFit.lead_if, RowsFit.{either, releasing}, Walks.LeadFits}

-- the rows of the paravirtual lock are rows of `lock` and of `unlock` in mode `pv`

virt_halts : (c : Pc) → may_halt c ≡ true → is_virt_row c ≡ false
virt_halts c h = grind arith

queued_halts : (c : Pc) → may_halt c ≡ true → is_queued_row c ≡ false
queued_halts c h = grind arith

choosing_halts : (c : Pc) → may_halt c ≡ true → is_choosing_row c ≡ false
choosing_halts c h = grind arith

of_pv : (mode : Mode) (v : Verb) (c : Pc) → BelongsTo mode v c → may_halt c ≡ true
    → (mode ≡ Pv) × ((v ≡ Lock) ⊎ (v ≡ Unlock))
of_pv Pv Lock c at on = (refl, inl refl)
of_pv Pv Unlock c at on = (refl, inr refl)
of_pv Virt Lock c at on = absurd (let z = virt_halts c on in grind (arith, at, z))
of_pv Native Lock c at on = absurd (let z = queued_halts c on in grind (arith, at, z))
of_pv Cna Lock c at on = absurd (let z = choosing_halts c on in grind (arith, at, z))
of_pv mode Try c (inl e) on = absurd (let z = ap may_halt e in grind (arith, z, on))
of_pv mode Try c (inr e) on = absurd (let z = ap may_halt e in grind (arith, z, on))
of_pv mode Unlock c at on = absurd (let z = ap may_halt at in grind (arith, z, on))
of_pv mode _ c at on = absurd at

module _ (R : NodeName → Type 0) where
  -- where the row is one of the paravirtual lock, it leads on in `lock` or in `unlock`; and else
  -- nowhere
  halting_fits : (mode : Mode) (v : Verb) (c : Pc) (lead : Lead) → BelongsTo mode v c
      → (may_halt c ≡ false → lead ≡ Goes c [])
      → (is_halting_row c ≡ true → LeadFits R Pv Lock lead)
      → ((c ≡ U2) ⊎ (c ≡ U3) ⊎ (c ≡ U4) → LeadFits R Pv Unlock lead) → LeadFits R mode v lead
  halting_fits mode v c lead at off locks unlocks =
      elim (cases_Bool (may_halt c)) [
        | inl e ↦
            let is = of_pv mode v c at e in
            subst (λ (x : Mode). LeadFits R x v lead) (sym is.0) (elim is.1 [
              | inl q ↦ subst (λ (x : Verb). LeadFits R Pv x lead) (sym q)
                  (locks (subst (λ (x : Verb). BelongsTo Pv x c) q
                  (subst (λ (x : Mode). BelongsTo x v c) is.0 at)))
              | inr q ↦ subst (λ (x : Verb). LeadFits R Pv x lead) (sym q)
                  (unlocks (subst (λ (x : Verb). BelongsTo Pv x c) q
                  (subst (λ (x : Mode). BelongsTo x v c) is.0 at)))
            ])
        | inr e ↦ subst (λ (l : Lead). LeadFits R mode v l) (sym (off e)) at
      ]

  abbrev Locks : Lead → Type 0
  Locks lead = LeadFits R Pv Lock lead

  abbrev Unlocks : Lead → Type 0
  Unlocks lead = LeadFits R Pv Unlock lead

  abbrev Halting : Pc → Type 0
  Halting c = is_halting_row c ≡ true

  given_up : (o : Option NodeName) → Halting (after_given_up o)
  given_up None = refl
  given_up (Some n) = refl

  module _ (f : Frame) where
    word_locks : (spins : ℕ) (c : Pc) (x : Fields) → Halting c → Locks (pv_row spins c f x).leads
    word_locks spins H1 x at =
        either Halting (is_unlocked x.locked && not x.pending) H2
        (if is_some x.tail && not x.pending then H1 else after_given_up f.me) refl
        (either Halting (is_some x.tail && not x.pending) H1 (after_given_up f.me) refl
        (given_up f.me))
    word_locks spins H2 x at =
        lead_if Locks (is_unlocked x.locked) _ _ refl
        (either Halting f.tailed H1 (after_given_up f.me) refl (given_up f.me))
    word_locks spins E3 x at = refl
    word_locks spins E4 x at =
        lead_if Locks (is_unlocked x.locked && x.pending) _ _ refl
        (lead_if Locks (f.left - 1 == 0) _ _ refl refl)
    word_locks spins E5 x at = either Halting f.hashed E10 E6 refl refl
    word_locks spins E7 x at = lead_if Locks (is_unlocked x.locked) _ _ refl refl
    word_locks spins E8 x at = refl
    word_locks spins E11 x at = either Halting (is_slow_byte x.locked) E12 E2 refl refl
    word_locks spins E13 x at = lead_if Locks (is_last f x) _ _ refl refl
    word_locks spins K2 x at = refl
    word_locks spins U2 x at = cc
    word_locks spins U4 x at = cc
    word_locks spins _ x at = at

    word_unlocks : (spins : ℕ) (c : Pc) (x : Fields) → (c ≡ U2) ⊎ (c ≡ U3) ⊎ (c ≡ U4)
        → Unlocks (pv_row spins c f x).leads
    word_unlocks spins c x at =
        releasing (λ (d : Pc). Unlocks (pv_row spins d f x).leads)
        (lead_if Unlocks (is_held x.locked) _ _ refl (inr (inl refl))) (inr (inl refl))
        (refl, refl, refl) c at

    word_off : (spins : ℕ) (c : Pc) (x : Fields) → may_halt c ≡ false
        → (pv_row spins c f x).leads ≡ Goes c []
    word_off spins H1 x h = cc
    word_off spins H2 x h = cc
    word_off spins E3 x h = cc
    word_off spins E4 x h = cc
    word_off spins E5 x h = cc
    word_off spins E7 x h = cc
    word_off spins E8 x h = cc
    word_off spins E11 x h = cc
    word_off spins E13 x h = cc
    word_off spins K2 x h = cc
    word_off spins U2 x h = cc
    word_off spins U4 x h = cc
    word_off spins _ x h = refl

    pub pv_fits : (spins : ℕ) (x : Fields) (mode : Mode) (v : Verb) (c : Pc) → BelongsTo mode v c
        → LeadFits R mode v (pv_row spins c f x).leads
    pv_fits spins x mode v c at =
        halting_fits mode v c (pv_row spins c f x).leads at (word_off spins c x)
        (word_locks spins c x) (word_unlocks spins c x)

    flag_locks : (c : Pc) (x : Flag) → Halting c → Locks (pv_flag_row c f x).leads
    flag_locks W1 x at = either Halting (is_set x) E1 W2 refl refl
    flag_locks W4 x at = lead_if Locks (is_set x) _ _ refl refl
    flag_locks E15 x at = refl
    flag_locks _ x at = at

    flag_unlocks : (c : Pc) (x : Flag) → (c ≡ U2) ⊎ (c ≡ U3) ⊎ (c ≡ U4)
        → Unlocks (pv_flag_row c f x).leads
    flag_unlocks c x at =
        releasing (λ (d : Pc). Unlocks (pv_flag_row d f x).leads) (inl refl) (inr (inl refl))
        (inr (inr refl)) c at

    flag_off : (c : Pc) (x : Flag) → may_halt c ≡ false → (pv_flag_row c f x).leads ≡ Goes c []
    flag_off W1 x h = cc
    flag_off W4 x h = cc
    flag_off E15 x h = cc
    flag_off _ x h = refl

    pub pv_flag_fits : (x : Flag) (mode : Mode) (v : Verb) (c : Pc) → BelongsTo mode v c
        → LeadFits R mode v (pv_flag_row c f x).leads
    pv_flag_fits x mode v c at =
        halting_fits mode v c (pv_flag_row c f x).leads at (flag_off c x) (flag_locks c x)
        (flag_unlocks c x)

    found_locks : (o : Option NodeName) → Locks (pv_after_next o).leads
    found_locks None = refl
    found_locks (Some n) = refl

    link_locks : (c : Pc) (x : Option NodeName) → Halting c → Locks (pv_next_row c f x).leads
    link_locks E14 x at = found_locks x
    link_locks _ x at = at

    link_unlocks : (c : Pc) (x : Option NodeName) → (c ≡ U2) ⊎ (c ≡ U3) ⊎ (c ≡ U4)
        → Unlocks (pv_next_row c f x).leads
    link_unlocks c x at =
        releasing (λ (d : Pc). Unlocks (pv_next_row d f x).leads) (inl refl) (inr (inl refl))
        (inr (inr refl)) c at

    link_off : (c : Pc) (x : Option NodeName) → may_halt c ≡ false
        → (pv_next_row c f x).leads ≡ Goes c []
    link_off E14 x h = cc
    link_off _ x h = refl

    pub pv_next_fits : (x : Option NodeName) (mode : Mode) (v : Verb) (c : Pc) → BelongsTo mode v c
        → LeadFits R mode v (pv_next_row c f x).leads
    pv_next_fits x mode v c at =
        halting_fits mode v c (pv_next_row c f x).leads at (link_off c x) (link_locks c x)
        (link_unlocks c x)

    state_locks : (spins : ℕ) (c : Pc) (x : State) → Halting c → Locks (state_row spins c f x).leads
    state_locks spins W2 x at =
        lead_if Locks (is_running x) _ _ (lead_if Locks (f.left - 1 == 0) _ _ refl refl) refl
    state_locks spins W3 x at = refl
    state_locks spins W5 x at = either Halting (is_halted x) W6 W7 refl refl
    state_locks spins W7 x at = lead_if Locks (is_halted x) _ _ refl refl
    state_locks spins E1 x at = refl
    state_locks spins E2 x at = refl
    state_locks spins E10 x at = refl
    state_locks spins K1 x at = lead_if Locks (is_halted x) _ _ refl refl
    state_locks spins _ x at = at

    state_unlocks : (spins : ℕ) (c : Pc) (x : State) → (c ≡ U2) ⊎ (c ≡ U3) ⊎ (c ≡ U4)
        → Unlocks (state_row spins c f x).leads
    state_unlocks spins c x at =
        releasing (λ (d : Pc). Unlocks (state_row spins d f x).leads) (inl refl) (inr (inl refl))
        (inr (inr refl)) c at

    state_off : (spins : ℕ) (c : Pc) (x : State) → may_halt c ≡ false
        → (state_row spins c f x).leads ≡ Goes c []
    state_off spins W2 x h = cc
    state_off spins W3 x h = cc
    state_off spins W5 x h = cc
    state_off spins W7 x h = cc
    state_off spins E1 x h = cc
    state_off spins E2 x h = cc
    state_off spins E10 x h = cc
    state_off spins K1 x h = cc
    state_off spins _ x h = refl

    pub state_fits : (spins : ℕ) (x : State) (mode : Mode) (v : Verb) (c : Pc) → BelongsTo mode v c
        → LeadFits R mode v (state_row spins c f x).leads
    state_fits spins x mode v c at =
        halting_fits mode v c (state_row spins c f x).leads at (state_off spins c x)
        (state_locks spins c x) (state_unlocks spins c x)

    hash_locks : (c : Pc) (x : Option NodeName) → Halting c → Locks (hash_row c f x).leads
    hash_locks E6 x at = refl
    hash_locks E9 x at = refl
    hash_locks K3 x at = refl
    hash_locks U3 x at = cc
    hash_locks _ x at = at

    hash_unlocks : (c : Pc) (x : Option NodeName) → (c ≡ U2) ⊎ (c ≡ U3) ⊎ (c ≡ U4)
        → Unlocks (hash_row c f x).leads
    hash_unlocks c x at =
        releasing (λ (d : Pc). Unlocks (hash_row d f x).leads) (inl refl) (inr (inr refl))
        (inr (inr refl)) c at

    hash_off : (c : Pc) (x : Option NodeName) → may_halt c ≡ false
        → (hash_row c f x).leads ≡ Goes c []
    hash_off E6 x h = cc
    hash_off E9 x h = cc
    hash_off K3 x h = cc
    hash_off U3 x h = cc
    hash_off _ x h = refl

    pub hash_fits : (x : Option NodeName) (mode : Mode) (v : Verb) (c : Pc) → BelongsTo mode v c
        → LeadFits R mode v (hash_row c f x).leads
    hash_fits x mode v c at =
        halting_fits mode v c (hash_row c f x).leads at (hash_off c x) (hash_locks c x)
        (hash_unlocks c x)

    halt_stays : (c : Pc) (x : Bool) → (halt_row c f x).leads ≡ Goes c []
    halt_stays W6 x = refl
    halt_stays E12 x = refl
    halt_stays _ x = refl

    pub halt_fits : (x : Bool) (mode : Mode) (v : Verb) (c : Pc) → BelongsTo mode v c
        → LeadFits R mode v (halt_row c f x).leads
    halt_fits x mode v c at = subst (λ (l : Lead). LeadFits R mode v l) (sym (halt_stays c x)) at
