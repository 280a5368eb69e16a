-- Heads of `cna` that may turn on the spot, and which rows of the choice leave their frame.
use Rattle.std.proofs.Common.{◌≡◌, ◌≢◌, ◌⊎◌, inl, inr, ◌+◌, Option, Some, None, Bool, true, false}
use Rattle.std.proofs.Common.{refl, sym, ap, ◌∙◌, subst, arith, [], ◌∷◌, if◌then◌else◌, is_some}
use Rattle.lk_waits.proofs.Names.{Fields, Held, NodeName, same_waiter, Waiter, is_node, node_of}
use Rattle.lk_waits.proofs.Names.{target, Flag, Frame, Pc, C1, C2, C3, C4, C5, C6, C7, C8, C9, C10}
use Rattle.lk_waits.proofs.Names.{G6, G7, Why, after_tail, is_last, may_stay, search_first}
use Rattle.lk_waits.proofs.Names.{search_on, if-true, same_waiter-self, row_is_done, chooses}
use Rattle.lk_waits.proofs.Names.{may_halt, course_in, leads, Holds, phase_at, snapshot, IsThen}
use Rattle.lk_waits.proofs.Names.{led, sight_in, World, is_alone_row, StandsStill, polls}
use Rattle.lk_rows.specs.{Row.{learns_all, K, Y, A, B, Reason, Second}, rows.Cna.Sight}
use Rattle.lk_law.specs.{Places.stage_of, Registers.hands_plainly, Stage.cut_of}
use Rattle.lk_waits.proofs.Owning.{owns}
use Rattle.lk_waits.specs.Waits.{IsBarred}
use Rattle.lk_rows.specs.declared.parts.Flag.TheVariants as flag
use Rattle.lk_rows.specs.declared.parts.Why.TheVariants as why

-- a head that may turn on the spot
abbrev pub IsTurn : Pc → Type 0
IsTurn d = (d ≡ C1) ⊎ (d ≡ C3) ⊎ (d ≡ C10)

pub owns_turn : (d : Pc) (b : Bool) (x y : NodeName) → owns (phase_at d b x y) ≡ true → polls d ≡ true
    → may_halt d ≡ false → hands_plainly d ≡ false → IsTurn d
owns_turn C1 b x y o p a k = inl refl
owns_turn C3 b x y o p a k = inr (inl refl)
owns_turn C10 b x y o p a k = inr (inr refl)
owns_turn d b x y o p a k = grind (arith, o, p, a, k)

pub leads_turn : (d : Pc) (b : Bool) (x y : NodeName) (n : Flag) → leads (phase_at d b x y) n ≡ true → polls d ≡ true
    → may_halt d ≡ false → hands_plainly d ≡ false → ((d ≡ G6) × (n ≢ flag.Unset)) ⊎ (d ≡ G7) ⊎ IsTurn d
leads_turn G6 b x y flag.Unset o p a k = cc o
leads_turn G6 b x y flag.Go o p a k = inl (refl, λ e. cc e)
leads_turn G6 b x y (flag.Second z) o p a k = inl (refl, λ e. cc e)
leads_turn G7 b x y n o p a k = inr (inl refl)
leads_turn C1 b x y n o p a k = inr (inr (inl refl))
leads_turn C3 b x y n o p a k = inr (inr (inr (inl refl)))
leads_turn C10 b x y n o p a k = inr (inr (inr (inr refl)))
leads_turn d b x y n o p a k = grind (arith, o, p, a, k)

pub barred_polls : (m : World) (f : Frame) (d : Pc) → IsBarred m f d → polls d ≡ true
barred_polls m f C1 b = refl
barred_polls m f C3 b = refl
barred_polls m f C10 b = refl
barred_polls m f d b = absurd b

pub stands : {A : Type 0} → A ⊎ ⊥ → A
stands (inl a) = a
stands (inr b) = absurd b

-- of the rows of the choice only C1 can leave its frame as it was
module _ (m : World) (w : Waiter) (f : Frame) (inner : f.lock.wait ≡ true → IsThen f.then) where
  same_frame : (c : Pc) → StandsStill m w f c → led f (course_in m w f c (target c f)).leads ≡ f
  same_frame c still =
      let done = row_is_done m w f c (target c f) in
      let now : Some (led f (course_in m w f c (target c f)).leads) ≡ Some f =
      sym (done.frame w ∙ if-true (same_waiter w w) (Some (led f (course_in m w f c (target c f)).leads)) (m.frame w) (same_waiter-self w)) ∙ still in
      cc now

  here : (c : Pc) → f.place ≡ Some c → StandsStill m w f c → (led f (course_in m w f c (target c f)).leads).place ≡ Some c
  here c at still = ap (λ (g : Frame). g.place) (same_frame c still) ∙ at

  pub still_C1 : f.place ≡ Some C1 → StandsStill m w f C1 → ((m.node (node_of f.me)).next ≡ None) × (f.second ≡ None)
  still_C1 at still = by (m.node (node_of f.me)).next refl f.second refl (here C1 at still)
    where
      s : Sight
      s = sight_in m w f

      by : (x : Option NodeName) → (m.node (node_of f.me)).next ≡ x → (o : Option NodeName) → f.second ≡ o
          → (led f (search_first (sight_in m w f) f.second (m.node (node_of f.me)).next).leads).place ≡ Some C1
          → ((m.node (node_of f.me)).next ≡ None) × (f.second ≡ None)
      by None e None q z = (e, q)
      by None e (Some k) q z = absurd (let y : Some C3 ≡ Some C1 = sym (rw (e, q) refl) ∙ z in cc y)
      by (Some n) e o q z = absurd (skips n o (subst (λ (x : Option NodeName). (led f (search_first (sight_in m w f) f.second x).leads).place ≡ Some C1) e z))
        where
          skips : (n : NodeName) (o : Option NodeName)
              → (led f (search_first (sight_in m w f) f.second (Some n)).leads).place ≡ Some C1 → ⊥
          skips n o z = go (may_stay (sight_in m w f)) ((sight_in m w f).local n) (is_some f.second) z
            where
              go : (a b c : Bool)
                  → (led f (if a then (if b then learns_all {A = Option NodeName} C7 (K 0 ∷ Y (Some n) ∷ [])
                  else learns_all {A = Option NodeName} C2 (K 1 ∷ A (Some n) ∷ B (Some n) ∷ []))
                  else (if c then learns_all {A = Option NodeName} C3 (K 0 ∷ A (Some n) ∷ Reason why.Flush ∷ [])
                  else learns_all {A = Option NodeName} C7 (K 0 ∷ Y (Some n) ∷ []))).leads).place ≡ Some C1 → ⊥
              go true true c e = cc e
              go true false c e = cc e
              go false b true e = cc e
              go false b false e = cc e

  pub still_choice : (c : Pc) → chooses c ≡ true → f.place ≡ Some c → StandsStill m w f c → c ≡ C1
  still_choice C1 k at still = refl
  still_choice C2 k at still = absurd (by (m.node (node_of f.b)).next (same_frame C2 still))
    where
      by : (x : Option NodeName) → led f (search_on (sight_in m w f) f x).leads ≡ f → ⊥
      by None e = none (is_some f.second) (ap (λ (g : Frame). g.place) e ∙ at)
        where
          none : (b : Bool) → (led f (if b then learns_all {A = Option NodeName} C3 (K 0 ∷ Reason why.Flush ∷ [])
              else learns_all {A = Option NodeName} C7 (K 0 ∷ Y f.a ∷ [])).leads).place ≡ Some C2 → ⊥
          none true e = cc e
          none false e = cc e
      by (Some n) e = some ((sight_in m w f).local n) (is_some f.second) e
        where
          some : (b c : Bool) → led f (if b then (if c then learns_all {A = Option NodeName} C3 (Y (Some n) ∷ Reason why.Append ∷ [])
              else learns_all {A = Option NodeName} C5 (Y (Some n) ∷ Second f.a ∷ []))
              else learns_all {A = Option NodeName} C2 (B (Some n) ∷ K (f.k + 1) ∷ [])).leads ≡ f → ⊥
          some true true e = (let z : Some C3 ≡ Some C2 = ap (λ (g : Frame). g.place) e ∙ at in cc z)
          some true false e = (let z : Some C5 ≡ Some C2 = ap (λ (g : Frame). g.place) e ∙ at in cc z)
          some false c e = (let z : f.k + 1 ≡ f.k = ap (λ (g : Frame). g.k) e in omega (arith, z))
  still_choice C3 k at still = absurd (by f.why (here C3 at still))
    where
      by : (y : Why) → Some (after_tail y) ≡ Some C3 → ⊥
      by why.Append e = cc e
      by why.Flush e = cc e
      by why.Promotion e = cc e
  still_choice C4 k at still = (let z : Some C5 ≡ Some C4 = here C4 at still in cc z)
  still_choice C5 k at still = (let z : Some C6 ≡ Some C5 = here C5 at still in cc z)
  still_choice C6 k at still = (let z : Some C7 ≡ Some C6 = here C6 at still in cc z)
  still_choice C7 k at still = (let z : Some C8 ≡ Some C7 = here C7 at still in cc z)
  still_choice C8 k at still = absurd (by f.lock.wait refl (here C8 at still))
    where
      by : (b : Bool) → f.lock.wait ≡ b → (if f.lock.wait then f.then else None) ≡ Some C8 → ⊥
      by true q e =
          let z : f.then ≡ Some C8 = ap (λ (b : Bool). if b then f.then else None) (sym q) ∙ e in
          elim (inner q) [
            | inl r ↦ (let y : Some Rattle.lk_rows.specs.declared.parts.Pc.TheVariants.R4 ≡ Some C8 = sym r ∙ z in cc y)
            | inr r ↦ (let y : Some Rattle.lk_rows.specs.declared.parts.Pc.TheVariants.Wr2 ≡ Some C8 = sym r ∙ z in cc y)
          ]
      by false q e = (let z : None ≡ Some C8 = ap (λ (b : Bool). if b then f.then else None) (sym q) ∙ e in cc z)
  still_choice C9 k at still = (let z : Some C7 ≡ Some C9 = here C9 at still in cc z)
  still_choice C10 k at still = absurd (by (is_last f (m.word f.lock)) (here C10 at still))
    where
      by : (b : Bool) → (led f (if b then record {
        stores = Some (record (m.word f.lock) { tail = f.t });
        leads = Rattle.lk_rows.specs.Row.Goes C7 (Y f.second ∷ Second None ∷ []);
        tells = Rattle.lk_rows.specs.Row.Says (Rattle.lk_names.specs.declared.events.What.TheVariants.Promote f.lock);
        counts = [];
      } else Rattle.lk_rows.specs.Row.looks C1).leads).place ≡ Some C10 → ⊥
      by true e = cc e
      by false e = cc e
  still_choice c k at still = cc k

pub turn_holds : (d : Pc) (b : Bool) (x y : NodeName) → IsTurn d → phase_at d b x y ≡ Holds
turn_holds d b x y (inl e) = ap (λ (c : Pc). phase_at c b x y) e
turn_holds d b x y (inr (inl e)) = ap (λ (c : Pc). phase_at c b x y) e
turn_holds d b x y (inr (inr e)) = ap (λ (c : Pc). phase_at c b x y) e

pub last_is : (g : Frame) (x : Fields) → x.locked ≡ Held → x.pending ≡ false → is_node x.tail (node_of g.me) ≡ true
    → is_last g x ≡ true
last_is g x a b c = rw (a, b, c) refl

-- a head that turns: nobody is linked behind it, and there is no secondary queue, or it cannot return
pub record Turning (m : World) (u : Waiter) (g : Frame) : Type 0 where
  pub place : Pc
  pub at : g.place ≡ Some place
  pub bare : (m.node (node_of g.me)).next ≡ None
  pub shut : (g.second ≡ None) ⊎ (is_last g (m.word g.lock) ≡ false)
  pub alone : is_alone_row place g.why ≡ true
  pub held : (m.word g.lock).locked ≡ Held
  pub cut : cut_of ((snapshot m).own u) (stage_of g) ≡ None
