-- Where no row leads on, somebody is in its critical section, or polls without a node.
use Rattle.std.proofs.Common.{◌≡◌, ◌⊎◌, inl, inr, ℕ, List, [], ◌∷◌, length, Option, Some, None}
use Rattle.std.proofs.Common.{false, refl, sym, ap, ◌∙◌, subst, arith}
use Rattle.std.proofs.lemmas.Bool.{cases_lt}
use Rattle.std.specs.Prelude.{is_some}
use mathlib.Core.Option.{some}
use lib.ListN.{get_elem?}
use Rattle.atomic_table.specs.Table.{State}
use Rattle.lk_names.specs.declared.names.Mode.{Mode}
use Rattle.lk_names.specs.declared.names.Mode.TheVariants.{Virt, Native, Cna, Pv}
use Rattle.lk_names.specs.declared.names.Waiter.{Waiter}
use Rattle.lk_rows.specs.declared.parts.Frame.{Frame}
use Rattle.lk_rows.specs.declared.parts.Pc.{Pc}
use Rattle.lk_law.specs.Agree.{halts}
use Rattle.lk_law.specs.Cna.{moves_aside}
use Rattle.lk_law.specs.World.{World}
use Rattle.lk_waits.specs.Order.{HoldsOutside, IsRanked}
use Rattle.lk_waits.specs.Waits.{IsTop, IsStuck}
use Rattle.lk_waits.proofs.Climb.{stuck_wait_for_outside}
use Rattle.lk_waits.proofs.ClimbAside.{at_bay_wait_for_outside}
use Rattle.lk_waits.proofs.ClimbHalting.{at_rest_wait_for_outside}
use Rattle.lk_domain.specs.Calls.{Running, Calls, Stacked, ArePlaced, frame_in}
use Rattle.lk_domain.specs.Keeps.{Slot}
use Rattle.lk_domain.specs.Runs.{Runs, waiter}
use Rattle.lk_domain.specs.declared.plan.Plan.{Plan}
use Rattle.lk_domain.specs.declared.view.View.{View}
use Rattle.lk_domain.proofs.Stacks.{frame_in-above, frame_in-top}
use Rattle.lk_domain.proofs.seats.Owners.{owner}
use Rattle.lk_domain_law.specs.GoingOn.{GoesNowhere, SomebodyWorks, SomebodyIsBare}
use Rattle.lk_domain_law.specs.InOrder.{AreInOrder}
use Rattle.lk_domain_law.proofs.Bare.{bare_or_noded, followed_so, followed_aside_so}
use Rattle.lk_domain_law.proofs.Calm.{calm_or_works}
use Rattle.lk_domain_law.proofs.Newest.{none_some, placed_at, row_of, frame_below, fits, tidy}
use Rattle.lk_domain_law.proofs.Ranks.{ranked, level, top_level}

-- no newest call's next row leads on
abbrev pub IsAtStop : Mode → World → Type 0
IsAtStop mode m = (w : Waiter) (f : Frame) (c : Pc) → IsTop m w f c → GoesNowhere mode m w f c

module _ (rank : ℕ → ℕ) (k : Plan) (s : State Slot View) (st : Runs k s) (order : AreInOrder rank s) where
  -- who holds a lock outside of every row is in its critical section
  works : HoldsOutside st.world → SomebodyWorks s
  works z = elim (owner s.views z.by.cpu) [
    | inl t ↦
        let fit = fits k s st z.by.cpu t in
        record {
          seat = t.id;
          view_is = t.view_is;
          at = t.at;
          ctx = z.by.ctx;
          lock = z.lock;
          way = z.way;
          holds = sym (fit.mirrors.holds z.by.ctx z.lock) ∙ z.holds;
          above = elim (cases_lt z.by.ctx (length t.view_is.calls.frames)) [
            | inr ge ↦ ge
            | inl lt ↦
                let r = frame_below t.view_is.calls.frames z.by.ctx fit.stacked lt in
                let none = z.out r.0 (fit.mirrors.frames z.by.ctx ∙ r.1) in
                absurd (let y = placed_at t.view_is.calls.frames z.by.ctx r.0 fit.placed r.1 in
                let x : is_some r.0.place ≡ false = ap is_some none in cc (y, x))
          ];
        }
    | inr none ↦ absurd (none_some (sym ((st.blank z.by.cpu none).holds z.by.ctx z.lock) ∙ z.holds))
  ]

  -- the newest call of a seat is a newest frame of the world, at a row
  record Top : Type 0 where
    w : Waiter
    frame : Frame
    row : Pc
    top : IsTop st.world w frame row

  top_of : (id : ℕ) (v : View) (x : Running) (rs : List Running) → get_elem? s.views id ≡ some v → v.calls.frames ≡ x ∷ rs → Top
  top_of id v x rs at in_call = by v.who.number refl
    where
      by : (o : Option ℕ) → v.who.number ≡ o → Top
      by None e =
          absurd (no_call (sym (ap (λ (c : Calls). c.frames) (st.silent id v at e)) ∙ in_call))
        where
          no_call : [] ≡ x ∷ rs → ⊥
          no_call q = cc q
      by (Some p) e =
          let fit = st.seats id v p at e in
          let stacked : Stacked (x ∷ rs) = subst Stacked in_call fit.stacked in
          let placed : ArePlaced (x ∷ rs) = subst ArePlaced in_call fit.placed in
          let r = row_of x.frame.place placed.0 in
          record {
            w = waiter p x.frame.ctx;
            frame = x.frame;
            row = r.0;
            top = record {
              live = fit.mirrors.frames x.frame.ctx
                  ∙ (ap (λ (xs : List Running). frame_in xs x.frame.ctx) in_call ∙ frame_in-top x rs);
              above = λ c lt. fit.mirrors.frames c
                  ∙ (ap (λ (xs : List Running). frame_in xs c) in_call
                  ∙ frame_in-above (x ∷ rs) c stacked (let z = stacked.0 in omega (arith, z, lt)));
              place = r.1;
            };
          }

  module _ (t : Top) (ranks : IsRanked (level rank k s st order) (top_level rank k s st order) st.world) where
    -- in a family that halts nobody and moves nobody aside
    plain : halts st.world.mode ≡ false → moves_aside st.world.mode ≡ false → IsStuck st.world
        → SomebodyWorks s ⊎ SomebodyIsBare s
    plain awake off stuck = elim (bare_or_noded k s st (st.attended.deep awake)) [
      | inl b ↦ inr b
      | inr noded ↦ inl (works (stuck_wait_for_outside _ _ st.world st.histories st.sound awake off (tidy k s st) ranks
          (followed_so st.world noded (st.attended.led awake off).followed) stuck t.w t.frame t.row t.top))
    ]

    waits : (mode : Mode) → st.world.mode ≡ mode → IsAtStop mode st.world → SomebodyWorks s ⊎ SomebodyIsBare s
    waits Virt is stuck = plain (ap halts is) (ap moves_aside is) stuck
    waits Native is stuck = plain (ap halts is) (ap moves_aside is) stuck
    waits Cna is bay = elim (bare_or_noded k s st (st.attended.deep (ap halts is))) [
      | inl b ↦ inr b
      | inr noded ↦ inl (works (at_bay_wait_for_outside _ _ st.world st.histories st.sound (ap halts is) (ap moves_aside is)
          (tidy k s st) ranks (followed_aside_so st.world noded (st.attended.aside (ap halts is) (ap moves_aside is))) bay
          t.w t.frame t.row t.top))
    ]
    waits Pv is rest =
        inl (works (at_rest_wait_for_outside _ _ st.world st.histories st.sound (ap halts is) (tidy k s st) ranks
        (st.attended.served (ap halts is)) rest t.w t.frame t.row t.top))

  pub goes_on : IsAtStop k.mode st.world → (id : ℕ) (v : View) (x : Running) (rs : List Running)
      → get_elem? s.views id ≡ some v → v.calls.frames ≡ x ∷ rs → SomebodyWorks s ⊎ SomebodyIsBare s
  goes_on stop id v x rs at in_call = elim (calm_or_works k s st) [
    | inr works ↦ inl works
    | inl calm ↦ waits (top_of id v x rs at in_call) (ranked rank k s st order calm) k.mode st.of_plan.mode stop
  ]
