-- Whether the next row of a newest frame leads it on is told by what the row meets.
use Rattle.std.proofs.Common.{◌≡◌, ◌⊎◌, inl, inr, [], ◌∷◌, subst, Option, Some, None, Bool, true, false, refl, sym, ap, ◌∙◌, arith}
use Rattle.std.proofs.lemmas.Bool.{cases_Bool}
use Rattle.std.specs.Prelude.{if◌then◌else◌, is_some, ◌&&◌, not}
use Rattle.lk_names.specs.Names.{same_waiter}
use Rattle.lk_names.specs.History.{LockHistory}
use Rattle.lk_names.specs.declared.names.LockName.{LockName}
use Rattle.lk_names.specs.declared.names.Mode.{Mode}
use Rattle.lk_names.specs.declared.names.Mode.TheVariants.{Virt, Native, Cna, Pv}
use Rattle.lk_names.specs.declared.events.RwHow.TheVariants as how
use Rattle.lk_names.specs.declared.names.Waiter.{Waiter}
use Rattle.lk_word.specs.declared.rw_word.RwFields.{RwFields}
use Rattle.lk_word.specs.declared.spin_word.Fields.{Fields}
use Rattle.lk_word.specs.declared.spin_word.Locked.{Locked}
use Rattle.lk_word.specs.declared.spin_word.Locked.TheVariants.{Held}
use Rattle.lk_word.specs.declared.spin_word.NodeName.{NodeName}
use Rattle.lk_rows.specs.declared.parts.Flag.{Flag}
use Rattle.lk_rows.specs.declared.parts.Flag.TheVariants as flag
use Rattle.lk_rows.specs.declared.parts.Frame.{Frame}
use Rattle.lk_rows.specs.declared.parts.Pc.{Pc}
use Rattle.lk_rows.specs.declared.parts.Pc.TheVariants.{V1, V2, P3, P4, G6, G7, G8, G9, G10, N1, N2, R2, R5, Wr5, Wr6}
use Rattle.lk_rows.specs.declared.parts.Pc.TheVariants.{C1, C3, C10, H1, H2, E14}
use Rattle.lk_rows.specs.declared.parts.Why.{Why}
use Rattle.lk_rows.specs.declared.parts.Why.TheVariants as why
use Rattle.lk_rows.specs.Acts.{stands_halting}
use Rattle.lk_rows.specs.Moves.{is_node, node_of}
use Rattle.lk_rows.specs.Row.{looks, gone, Done, Tailed}
use Rattle.lk_rows.specs.rows.Cna.{is_held, is_last}
use Rattle.lk_rows.specs.rows.Pv.{after_glance, after_given_up, pv_after_next}
use Rattle.lk_rows.specs.rows.Queue.{after_flag, after_next}
use Rattle.lk_rows.specs.rows.Rw.{admits, frees_wait, is_cleared}
use Rattle.lk_rows.specs.rows.Spin.{is_free, is_unlocked}
use Rattle.lk_rows.specs.TopRow.{target}
use Rattle.lk_law.specs.Agree.{halts}
use Rattle.lk_law.specs.Cna.{moves_aside}
use Rattle.lk_law.specs.Families.{may_halt, chooses}
use Rattle.lk_law.specs.Premises.{IsThen}
use Rattle.lk_law.specs.SoundWorld.{IsSoundWorld, spin_part}
use Rattle.lk_law.specs.Steps.{led}
use Rattle.lk_law.specs.World.{World}
use Rattle.lk_law.proofs.common.Puts.{if-true, not-true}
use Rattle.lk_law.proofs.common.Sames.{same_waiter-self}
use Rattle.lk_law.proofs.pv.Laws.{halts_flat}
use Rattle.lk_law.proofs.running.Leads.{row_is_done}
use Rattle.lk_waits.specs.Halting.{goes_around, LeadsNowhere}
use Rattle.lk_waits.specs.Waits.{IsBarred, StandsStill}
use Rattle.lk_waits.proofs.HaltingStands.{looks_on, same_frame, still_E14, still_looks_at}
use Rattle.lk_waits.proofs.Stands.{still_polls, still_V1, still_N1, still_P3, still_G6, still_G7, still_G10, still_R2}
use Rattle.lk_waits.proofs.Stands.{still_R5, still_Wr5}
use Rattle.lk_waits.proofs.Tails.{next_frame}
use Rattle.lk_waits.proofs.TurnRows.{still_C1, still_choice}
use Rattle.lk_domain_law.specs.GoingOn.{GoesNowhere}

-- decisions

-- it is so, or not
abbrev Decision : Type 0 → Type 0
Decision A = A ⊎ (A → ⊥)

both : {A B : Type 0} → Decision A → Decision B → Decision (A × B)
both (inl a) (inl b) = inl (a, b)
both (inl a) (inr not_b) = inr (λ z. not_b z.1)
both (inr not_a) d = inr (λ z. not_a z.0)

all_of : {A B C : Type 0} → Decision A → Decision B → Decision C → Decision (A × B × C)
all_of (inl a) (inl b) (inl c) = inl (a, b, c)
all_of (inl a) (inl b) (inr not_c) = inr (λ z. not_c z.2)
all_of (inl a) (inr not_b) d = inr (λ z. not_b z.1)
all_of (inr not_a) b d = inr (λ z. not_a z.0)

one_of : {A B : Type 0} → Decision A → Decision B → Decision (A ⊎ B)
one_of (inl a) d = inl (inl a)
one_of (inr not_a) (inl b) = inl (inr b)
one_of (inr not_a) (inr not_b) = inr (λ z. elim z [ inl a ↦ not_a a | inr b ↦ not_b b ])

is_true : (b : Bool) → Decision (b ≡ true)
is_true true = inl refl
is_true false = inr (λ e. cc e)

is_false : (b : Bool) → Decision (b ≡ false)
is_false false = inl refl
is_false true = inr (λ e. cc e)

same_bool : (a b : Bool) → Decision (a ≡ b)
same_bool a true = is_true a
same_bool a false = is_false a

is_none : (o : Option NodeName) → Decision (o ≡ None)
is_none None = inl refl
is_none (Some n) = inr (λ e. cc e)

is_promotion : (y : Why) → Decision (y ≡ why.Promotion)
is_promotion why.Append = inr (λ e. cc e)
is_promotion why.Flush = inr (λ e. cc e)
is_promotion why.Promotion = inl refl

held_is : (b : Locked) → Decision (b ≡ Held)
held_is b = elim (cases_Bool (is_held b)) [
  | inl e ↦ inl (grind (arith, e))
  | inr e ↦ inr (λ q. let z = ap is_held q in cc (z, e))
]

glance_is : (me : Option NodeName) (x : Fields) → Decision (after_glance me x ≡ H1)
glance_is me x = by (is_unlocked x.locked && not x.pending) (is_some x.tail && not x.pending) me
  where
    by : (a b : Bool) (me : Option NodeName) → Decision ((if a then H2 else (if b then H1 else after_given_up me)) ≡ H1)
    by true b me = inr (λ e. cc e)
    by false true me = inl refl
    by false false None = inl refl
    by false false (Some n) = inr (λ e. cc e)

module _ (m : World) (w : Waiter) (f : Frame) (inner : f.lock.wait ≡ true → IsThen f.then) where
  abbrev x : Fields
  x = m.word f.lock

  abbrev y : RwFields
  y = m.rw f.lock.index

  stays : (c : Pc) → next_frame m w f c ≡ f → StandsStill m w f c
  stays c same =
      (row_is_done m w f c (target c f)).frame w
      ∙ (if-true (same_waiter w w) (Some (next_frame m w f c)) (m.frame w) (same_waiter-self w) ∙ ap Some same)

  -- a frame that looks again at its row is what it was
  again : (c : Pc) → f.place ≡ Some c → record f { place = Some c } ≡ f
  again c at = ap (λ (o : Option Pc). record f { place = o }) (sym at)

  -- where the row is of a family that neither halts nor chooses
  decided : (c : Pc) → may_halt c ≡ false → chooses c ≡ false → f.place ≡ Some c → Decision (StandsStill m w f c)
  decided V1 a b at = elim (cases_Bool (is_free x)) [
    | inl e ↦ inr (λ still. let z = still_V1 m w f inner at still in cc (z, e))
    | inr e ↦ inl (stays V1 (ap (λ (b : Bool). record f { place = Some (if b then V2 else V1) }) e ∙ again V1 at))
  ]
  decided N1 a b at = elim (cases_Bool (is_free x)) [
    | inl e ↦ inr (λ still. let z = still_N1 m w f inner at still in cc (z, e))
    | inr e ↦ inl (stays N1 (ap (λ (b : Bool). record f { place = Some (if b then N2 else N1) }) e ∙ again N1 at))
  ]
  decided P3 a b at = elim (cases_Bool (is_unlocked x.locked)) [
    | inl e ↦ inr (λ still. let z = still_P3 m w f inner at still in cc (z, e))
    | inr e ↦ inl (stays P3 (ap (λ (b : Bool). record f { place = Some (if b then P4 else P3) }) e ∙ again P3 at))
  ]
  decided G6 a b at = by (m.node (node_of f.me)).flag refl
    where
      by : (n : Flag) → (m.node (node_of f.me)).flag ≡ n → Decision (StandsStill m w f G6)
      by flag.Unset e = inl (stays G6 (ap (λ (n : Flag). led f (after_flag n).leads) e ∙ again G6 at))
      by flag.Go e = inr (λ still. let z = sym (still_G6 m w f inner at still) ∙ e in cc z)
      by (flag.Second n) e = inr (λ still. let z = sym (still_G6 m w f inner at still) ∙ e in cc z)
  decided G7 a b at = elim (cases_Bool (is_unlocked x.locked && not x.pending)) [
    | inl e ↦ inr (λ still. let z = still_G7 m w f inner at still in cc (z, e))
    | inr e ↦ inl (stays G7
        (ap (λ (b : Bool). record f { place = Some (if b then (if is_node x.tail (node_of f.me) && not (is_some f.second) then G8 else G9) else G7) }) e
        ∙ again G7 at))
  ]
  decided G10 a b at = by (m.node (node_of f.me)).next refl
    where
      by : (n : Option NodeName) → (m.node (node_of f.me)).next ≡ n → Decision (StandsStill m w f G10)
      by None e = inl (stays G10 (ap (λ (n : Option NodeName). led f (after_next n).leads) e ∙ again G10 at))
      by (Some n) e = inr (λ still. let z = sym (still_G10 m w f inner at still) ∙ e in cc z)
  decided R2 a b at = elim (cases_Bool y.writer) [
    | inr e ↦ inr (λ still. let z = still_R2 m w f inner at still in cc (z, e))
    | inl e ↦ inl (stays R2 (ap (λ (b : Bool). led f (if b then looks R2 else admits f None how.Irq Done).leads) e ∙ again R2 at))
  ]
  decided R5 a b at = elim (cases_Bool y.writer) [
    | inr e ↦ inr (λ still. let z = still_R5 m w f inner at still in cc (z, e))
    | inl e ↦ inl (stays R5
        (ap (λ (b : Bool). led f (if b then looks R5 else admits f None how.Queued (frees_wait m.mode)).leads) e ∙ again R5 at))
  ]
  decided Wr5 a b at = elim (cases_Bool (is_cleared y)) [
    | inl e ↦ inr (λ still. let z = still_Wr5 m w f inner at still in cc (z, e))
    | inr e ↦ inl (stays Wr5 (ap (λ (b : Bool). record f { place = Some (if b then Wr6 else Wr5) }) e ∙ again Wr5 at))
  ]
  decided c a b at = inr (λ still. let z = still_polls m w f inner c a b at still in cc (a, b, z))

  -- a row that chooses the next
  barred : (c : Pc) → Decision (IsBarred m f c)
  barred C1 = both (is_none (m.node (node_of f.me)).next) (one_of (is_none f.second) (is_false (is_last f (m.word f.lock))))
  barred C3 =
      all_of (is_none (m.node (node_of f.me)).next) (is_false (is_last f (m.word f.lock))) (is_promotion f.why)
  barred C10 = both (is_none (m.node (node_of f.me)).next) (is_false (is_last f (m.word f.lock)))
  barred _ = inr (λ b. absurd b)

  -- one that chooses and stands still turns on the spot
  still_barred : (c : Pc) → chooses c ≡ true → f.place ≡ Some c → StandsStill m w f c → IsBarred m f c
  still_barred c k at still =
      let q : c ≡ C1 = still_choice m w f inner c k at still in
      let z = still_C1 m w f inner (at ∙ ap Some q) (subst (StandsStill m w f) q still) in
      let b : IsBarred m f C1 = (z.0, inl z.1) in
      subst (IsBarred m f) (sym q) b

  aside : (c : Pc) → may_halt c ≡ false → f.place ≡ Some c → Decision (StandsStill m w f c ⊎ IsBarred m f c)
  aside c a at = elim (barred c) [
    | inl b ↦ inl (inr b)
    | inr free ↦ elim (cases_Bool (chooses c)) [
      | inl k ↦ inr (λ z. elim z [ inl still ↦ free (still_barred c k at still) | inr b ↦ free b ])
      | inr k ↦ one_of (decided c a k at) (inr free)
    ]
  ]

  -- the two polls of the paravirtual lock that do not halt
  glances : f.place ≡ Some H1 → Decision (StandsStill m w f H1)
  glances at = elim (glance_is f.me x) [
    | inr ne ↦ inr (λ still.
        let z : Some (after_glance f.me x) ≡ Some H1 = ap (λ (g : Frame). g.place) (same_frame m w f inner H1 still) ∙ at in
        ne (let y : after_glance f.me x ≡ H1 = cc z in y))
    | inl e ↦ elim (same_bool (is_some x.tail) f.tailed) [
      | inr ne ↦ inr (λ still. ne (ap (λ (g : Frame). g.tailed) (same_frame m w f inner H1 still)))
      | inl q ↦
          let r : Some (after_glance f.me x) ≡ f.place = ap Some e ∙ sym at in
          let same : gone f (after_glance f.me x) (Tailed (is_some x.tail) ∷ []) ≡ f =
          (λ i. record f { tailed = q i; place = r i }) in
          inl (stays H1 same)
    ]
  ]

  looks_next : f.place ≡ Some E14 → Decision (StandsStill m w f E14)
  looks_next at = by (m.node (node_of f.me)).next refl
    where
      by : (n : Option NodeName) → (m.node (node_of f.me)).next ≡ n → Decision (StandsStill m w f E14)
      by None e = inl (stays E14 (ap (λ (n : Option NodeName). led f (pv_after_next n).leads) e ∙ again E14 at))
      by (Some n) e = inr (λ still. let z = sym (still_E14 m w f inner at still) ∙ e in cc z)

  looked : (c : Pc) → may_halt c ≡ true → looks_on c ≡ true → f.place ≡ Some c → Decision (StandsStill m w f c)
  looked H1 a l at = glances at
  looked E14 a l at = looks_next at
  looked _ a l at = cc (a, l)

-- a newest frame of a sound world, at its row
module _ (m : World) (hs : LockName → LockHistory) (ok : IsSoundWorld m hs) (w : Waiter) (f : Frame) (c : Pc)
    (live : m.frame w ≡ Some f) (at : f.place ≡ Some c) where
  after : f.lock.wait ≡ true → IsThen f.then
  after = (ok.fits w f live).after

  awake : halts m.mode ≡ false → may_halt c ≡ false
  awake off = not-true (may_halt c) (λ e. let z = (ok.spins.registers w f live).choice.halting c at e in cc (z, off))

  unchoosing : moves_aside m.mode ≡ false → chooses c ≡ false
  unchoosing off = not-true (chooses c) (λ e. let z = (ok.spins.registers w f live).choice.choice c at e in cc (z, off))

  flat : halts m.mode ≡ false → moves_aside m.mode ≡ false → Decision (StandsStill m w f c)
  flat a p = decided m w f after c (awake a) (unchoosing p) at

  running : halts m.mode ≡ true → stands_halting (Some c) ≡ false → Decision (StandsStill m w f c)
  running on s = elim (cases_Bool (may_halt c)) [
    | inr a ↦ decided m w f after c a (unchoosing (halts_flat m.mode on)) at
    | inl a ↦ elim (cases_Bool (looks_on c)) [
      | inl l ↦ looked m w f after c a l at
      | inr l ↦ inr (λ still.
          let z = still_looks_at m (spin_part m.kind hs) w f c ok.spins on live after at s still in cc (z, l))
    ]
  ]

  halting : halts m.mode ≡ true → Decision (LeadsNowhere m w f c)
  halting on =
      one_of (both (is_true (m.halted w.cpu)) (is_false (m.kicked w.cpu)))
      (one_of still (all_of (is_true (goes_around c)) (is_true f.hashed) (held_is (m.word f.lock).locked)))
    where
      still : Decision ((stands_halting (Some c) ≡ false) × StandsStill m w f c)
      still = elim (is_false (stands_halting (Some c))) [
        | inl s ↦ both (inl s) (running on s)
        | inr halts_here ↦ inr (λ z. halts_here z.0)
      ]

  pub goes_nowhere : (mode : Mode) → m.mode ≡ mode → GoesNowhere mode m w f c ⊎ (GoesNowhere mode m w f c → ⊥)
  goes_nowhere Virt is = flat (ap halts is) (ap moves_aside is)
  goes_nowhere Native is = flat (ap halts is) (ap moves_aside is)
  goes_nowhere Cna is = aside m w f after c (awake (ap halts is)) at
  goes_nowhere Pv is = halting (ap halts is)
