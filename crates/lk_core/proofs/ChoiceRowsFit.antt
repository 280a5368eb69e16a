-- Where a row of the choice leads, its frame fits its program still.
use Rattle.std.proofs.Common.{◌≡◌, ℕ, ap, arith, [], ◌∷◌, ◌+◌, Option, Some, None, Bool, true}
use Rattle.std.proofs.Common.{false, inl, inr, refl, sym, subst, if◌then◌else◌, is_some}
use Rattle.lk_core.proofs.Names.{cases_Bool, Fields, NodeName, Mode, Cna, Native, Pv, Virt, Effect}
use Rattle.lk_core.proofs.Names.{Goes, Lead, Flag, Frame, Pc, C1, C2, C3, C7, C8, C10, Verb, Lock}
use Rattle.lk_core.proofs.Names.{Try, Unlock, Sight, after_none, handover_row, is_last, may_stay}
use Rattle.lk_core.proofs.Names.{promotion_row, runs_row, search_row, second_row, chooses}
use Rattle.lk_core.proofs.Names.{is_halting_row, is_queued_row, BelongsTo, is_choosing_row}
use Rattle.lk_core.proofs.Names.{is_virt_row}
use Rattle.lk_rows.specs.Row.{A, B, K, Reason, Y, Second, learns_all}
use Rattle.lk_rows.specs.{declared.parts.Pc.TheVariants.C5, declared.parts.Why.Why}
use Rattle.lk_rows.specs.rows.Cna.{after_tail}
use Rattle.lk_core.proofs.Walks.{LeadFits}
use Rattle.lk_rows.specs.declared.parts.Why.TheVariants as why

-- the rows of the choice are rows of `lock` in mode `cna`

virt_apart : (c : Pc) → chooses c ≡ true → is_virt_row c ≡ false
virt_apart c h = grind arith

queued_apart : (c : Pc) → chooses c ≡ true → is_queued_row c ≡ false
queued_apart c h = grind arith

halting_apart : (c : Pc) → chooses c ≡ true → is_halting_row c ≡ false
halting_apart c h = grind arith

of_choice : (mode : Mode) (v : Verb) (c : Pc) → BelongsTo mode v c → chooses c ≡ true
    → (mode ≡ Cna) × (v ≡ Lock)
of_choice Cna Lock c at on = (refl, refl)
of_choice Virt Lock c at on = absurd (let z = virt_apart c on in grind (arith, at, z))
of_choice Native Lock c at on = absurd (let z = queued_apart c on in grind (arith, at, z))
of_choice Pv Lock c at on = absurd (let z = halting_apart c on in grind (arith, at, z))
of_choice mode Try c (inl e) on = absurd (let z = ap chooses e in grind (arith, z, on))
of_choice mode Try c (inr e) on = absurd (let z = ap chooses e in grind (arith, z, on))
of_choice Pv Unlock c (inl at) on = absurd (let z = ap chooses at in grind (arith, z, on))
of_choice Pv Unlock c (inr (inl at)) on = absurd (let z = ap chooses at in grind (arith, z, on))
of_choice Pv Unlock c (inr (inr at)) on = absurd (let z = ap chooses at in grind (arith, z, on))
of_choice mode Unlock c at on = absurd (let z = ap chooses at in grind (arith, z, on))
of_choice mode _ c at on = absurd at

-- one of two outcomes
pub lead_if : {A : Type 0} (P : Lead → Type 0) (t : Bool) (a b : Effect A) → P a.leads → P b.leads
    → P (if t then a else b).leads
lead_if P true a b x y = x
lead_if P false a b x y = y

module _ (R : NodeName → Type 0) where
  abbrev Chooses : Lead → Type 0
  Chooses lead = LeadFits R Cna Lock lead

  choice_fits : (mode : Mode) (v : Verb) (c : Pc) (lead : Lead) → BelongsTo mode v c
      → (chooses c ≡ true → Chooses lead) → (chooses c ≡ false → lead ≡ Goes c [])
      → LeadFits R mode v lead
  choice_fits mode v c lead at on off =
      elim (cases_Bool (chooses c)) [
        | inl e ↦ let is = of_choice mode v c at e in
            subst (λ (x : Mode). LeadFits R x v lead) (sym is.0)
            (subst (λ (x : Verb). LeadFits R Cna x lead) (sym is.1) (on e))
        | inr e ↦ subst (λ (l : Lead). LeadFits R mode v l) (sym (off e)) at
      ]

  module _ (f : Frame) where
    none_leads : (o : Option NodeName) → Chooses (after_none o).leads
    none_leads None = refl
    none_leads (Some n) = refl

    search_leads : (s : Sight) (c : Pc) (x : Option NodeName) → chooses c ≡ true
        → Chooses (search_row s c f x).leads
    search_leads s C1 None h = none_leads f.second
    search_leads s C1 (Some n) h =
        lead_if Chooses (may_stay s)
        (if s.local n then learns_all C7 (K 0 ∷ Y (Some n) ∷ []) else learns_all C2
        (K 1 ∷ A (Some n) ∷ B (Some n) ∷ []))
        (if is_some f.second then learns_all C3 (K 0 ∷ A (Some n) ∷ Reason why.Flush ∷ [])
        else learns_all C7 (K 0 ∷ Y (Some n) ∷ []))
        (lead_if Chooses (s.local n) (learns_all C7 (K 0 ∷ Y (Some n) ∷ []))
        (learns_all C2 (K 1 ∷ A (Some n) ∷ B (Some n) ∷ [])) refl refl)
        (lead_if Chooses (is_some f.second)
        (learns_all C3 (K 0 ∷ A (Some n) ∷ Reason why.Flush ∷ []))
        (learns_all C7 (K 0 ∷ Y (Some n) ∷ [])) refl refl)
    search_leads s C2 None h =
        lead_if Chooses (is_some f.second) (learns_all C3 (K 0 ∷ Reason why.Flush ∷ []))
        (learns_all C7 (K 0 ∷ Y f.a ∷ [])) refl refl
    search_leads s C2 (Some n) h =
        lead_if Chooses (s.local n)
        (if is_some f.second then learns_all C3
        (Y (Some n) ∷ Reason why.Append ∷ []) else learns_all C5 (Y (Some n) ∷ Second f.a ∷ []))
        (learns_all C2 (B (Some n) ∷ K (f.k + 1) ∷ []))
        (lead_if Chooses (is_some f.second) (learns_all C3 (Y (Some n) ∷ Reason why.Append ∷ []))
        (learns_all C5 (Y (Some n) ∷ Second f.a ∷ [])) refl refl) refl
    search_leads s _ x h = cc

    search_off : (s : Sight) (c : Pc) (x : Option NodeName) → chooses c ≡ false
        → (search_row s c f x).leads ≡ Goes c []
    search_off s C1 x h = cc
    search_off s C2 x h = cc
    search_off s _ x h = cc

    pub search_fits : (s : Sight) (x : Option NodeName) (mode : Mode) (v : Verb) (c : Pc)
        → BelongsTo mode v c → LeadFits R mode v (search_row s c f x).leads
    search_fits s x mode v c at =
        choice_fits mode v c (search_row s c f x).leads at (search_leads s c x) (search_off s c x)

    tail_leads : (y : Why) → is_choosing_row (after_tail y) ≡ true
    tail_leads why.Append = refl
    tail_leads why.Flush = refl
    tail_leads why.Promotion = refl

    second_leads : (c : Pc) (x : Option NodeName) → chooses c ≡ true
        → Chooses (second_row c f x).leads
    second_leads C3 x h = tail_leads f.why
    second_leads _ x h = cc

    second_off : (c : Pc) (x : Option NodeName) → chooses c ≡ false
        → (second_row c f x).leads ≡ Goes c []
    second_off C3 x h = cc
    second_off _ x h = cc

    pub second_fits : (x : Option NodeName) (mode : Mode) (v : Verb) (c : Pc) → BelongsTo mode v c
        → LeadFits R mode v (second_row c f x).leads
    second_fits x mode v c at =
        choice_fits mode v c (second_row c f x).leads at (second_leads c x) (second_off c x)

    runs_leads : (s : Sight) (c : Pc) (x : ℕ) → chooses c ≡ true → Chooses (runs_row s c f x).leads
    runs_leads s C7 x h = refl
    runs_leads s _ x h = cc

    runs_off : (s : Sight) (c : Pc) (x : ℕ) → chooses c ≡ false
        → (runs_row s c f x).leads ≡ Goes c []
    runs_off s C7 x h = cc
    runs_off s _ x h = refl

    pub runs_fits : (s : Sight) (x : ℕ) (mode : Mode) (v : Verb) (c : Pc) → BelongsTo mode v c
        → LeadFits R mode v (runs_row s c f x).leads
    runs_fits s x mode v c at =
        choice_fits mode v c (runs_row s c f x).leads at (runs_leads s c x) (runs_off s c x)

    handover_leads : (c : Pc) (x : Flag) → chooses c ≡ true → Chooses (handover_row c f x).leads
    handover_leads C8 x h = refl
    handover_leads _ x h = cc

    handover_off : (c : Pc) (x : Flag) → chooses c ≡ false → (handover_row c f x).leads ≡ Goes c []
    handover_off C8 x h = cc
    handover_off _ x h = refl

    pub handover_fits : (x : Flag) (mode : Mode) (v : Verb) (c : Pc) → BelongsTo mode v c
        → LeadFits R mode v (handover_row c f x).leads
    handover_fits x mode v c at =
        choice_fits mode v c (handover_row c f x).leads at (handover_leads c x) (handover_off c x)

    promotion_leads : (c : Pc) (x : Fields) → chooses c ≡ true → Chooses (promotion_row c f x).leads
    promotion_leads C10 x h =
        elim (cases_Bool (is_last f x)) [ inl e ↦ rw e refl | inr e ↦ rw e refl ]
    promotion_leads _ x h = cc

    promotion_off : (c : Pc) (x : Fields) → chooses c ≡ false
        → (promotion_row c f x).leads ≡ Goes c []
    promotion_off C10 x h = cc
    promotion_off _ x h = refl

    pub promotion_fits : (x : Fields) (mode : Mode) (v : Verb) (c : Pc) → BelongsTo mode v c
        → LeadFits R mode v (promotion_row c f x).leads
    promotion_fits x mode v c at =
        choice_fits mode v c (promotion_row c f x).leads at (promotion_leads c x)
        (promotion_off c x)
