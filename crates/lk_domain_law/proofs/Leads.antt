-- The law: whose row leads on is found by a search among the seats.
use Rattle.std.proofs.Common.{◌≡◌, ◌⊎◌, inl, inr, ℕ, List, [], ◌∷◌, Option, Some, None}
use Rattle.std.proofs.Common.{refl, sym, ap, ◌∙◌, subst, arith}
use mathlib.Core.Option.{some}
use lib.ListN.{get_elem?}
use Rattle.atomic_table.specs.Table.{State}
use Rattle.lk_names.specs.declared.names.Waiter.{Waiter}
use Rattle.lk_rows.specs.declared.parts.Frame.{Frame}
use Rattle.lk_rows.specs.declared.parts.Pc.{Pc}
use Rattle.lk_law.specs.World.{World}
use Rattle.lk_domain.specs.Calls.{Running, Calls, ArePlaced, frame_in}
use Rattle.lk_domain.specs.Keeps.{Slot}
use Rattle.lk_domain.specs.Runs.{Runs, waiter}
use Rattle.lk_domain.specs.declared.plan.Plan.{Plan}
use Rattle.lk_domain.specs.declared.view.View.{View}
use Rattle.lk_domain.proofs.Stacks.{frame_in-above, frame_in-top}
use Rattle.lk_domain_law.specs.GoingOn.{GoesNowhere, SomebodyIsBare, SomebodyGoesOn, FewCallsGoOn}
use Rattle.lk_domain_law.proofs.Calm.{Each, each_or}
use Rattle.lk_domain_law.proofs.Decided.{goes_nowhere}
use Rattle.lk_domain_law.proofs.GoesOn.{IsAtStop, goes_on}
use Rattle.lk_domain_law.proofs.Newest.{none_some, some_is, row_of, newest}

nil_cons : {x : Running} {xs : List Running} → [] ≡ x ∷ xs → ⊥
nil_cons e = cc e

head_is : {x y : Running} {xs ys : List Running} → x ∷ xs ≡ y ∷ ys → x ≡ y
head_is e = cc e

-- the newest call of a seat, at its row
record Newest (v : View) : Type 0 where
  number : ℕ
  is : v.who.number ≡ Some number
  call : Running
  rest : List Running
  newest_is : v.calls.frames ≡ call ∷ rest
  row : Pc
  place : call.frame.place ≡ Some row

module _ (k : Plan) (s : State Slot View) (st : Runs k s) where
  abbrev m : World
  m = st.world

  abbrev Stays : {v : View} → Newest v → Type 0
  Stays n = GoesNowhere k.mode m (waiter n.number n.call.frame.ctx) n.call.frame n.row

  -- a seat is in no call, or its next row leads nowhere; or it leads on
  abbrev Calm : View → Type 0
  Calm v = (v.calls.frames ≡ []) ⊎ ((n : Newest v) × Stays n)

  abbrev Moves : View → Type 0
  Moves v = (n : Newest v) × (Stays n → ⊥)

  outcome : (id : ℕ) (v : View) → get_elem? s.views id ≡ some v → Calm v ⊎ Moves v
  outcome id v at = by v.calls.frames refl v.who.number refl
    where
      by : (fs : List Running) → v.calls.frames ≡ fs → (o : Option ℕ) → v.who.number ≡ o → Calm v ⊎ Moves v
      by [] e o is = inl (inl e)
      by (x ∷ rs) e None is = absurd (nil_cons (sym (ap (λ (c : Calls). c.frames) (st.silent id v at is)) ∙ e))
      by (x ∷ rs) e (Some p) is =
          let fit = st.seats id v p at is in
          let placed : ArePlaced (x ∷ rs) = subst ArePlaced e fit.placed in
          let r = row_of x.frame.place placed.0 in
          let n : Newest v = record { number = p; is = is; call = x; rest = rs; newest_is = e; row = r.0; place = r.1 } in
          let w : Waiter = waiter p x.frame.ctx in
          let live : m.frame w ≡ Some x.frame = fit.mirrors.frames x.frame.ctx
          ∙ (ap (λ (xs : List Running). frame_in xs x.frame.ctx) e ∙ frame_in-top x rs) in
          elim (goes_nowhere m st.histories st.sound w x.frame r.0 live r.1 k.mode st.of_plan.mode) [
            | inl stands ↦ inl (inr (n, stands))
            | inr moves ↦ inr (n, moves)
          ]

  -- where each seat is calm no newest frame goes anywhere
  stops : Each s.views (λ id v. Calm v) → IsAtStop k.mode m
  stops all w f c top =
      let t = newest k s st w f c top in
      elim (all t.seat.id t.seat.view_is t.seat.at) [
        | inl none ↦ absurd (nil_cons (sym none ∙ t.is))
        | inr z ↦
            let n = z.0 in
            let call : n.call ≡ t.call = head_is (sym n.newest_is ∙ t.is) in
            let frame : n.call.frame ≡ f = ap (λ (r : Running). r.frame) call ∙ t.frame in
            let cpu : n.number ≡ w.cpu = some_is (sym n.is ∙ t.seat.number) in
            let ctx : n.call.frame.ctx ≡ w.ctx = ap (λ (r : Running). r.frame.ctx) call ∙ sym t.ctx in
            let row : n.row ≡ c = some_is (sym n.place ∙ (ap (λ (y : Frame). y.place) frame ∙ top.place)) in
            let at : waiter n.number n.call.frame.ctx ≡ w = λ j. record { cpu = cpu j; ctx = ctx j } in
            subst (λ (u : Waiter). GoesNowhere k.mode m u f c) at
            (subst (λ (d : Pc). GoesNowhere k.mode m (waiter n.number n.call.frame.ctx) f d) row
            (subst (λ (g : Frame). GoesNowhere k.mode m (waiter n.number n.call.frame.ctx) g n.row) frame z.1))
      ]

  -- somebody is in a call, or nobody
  in_call : (id : ℕ) (v : View) → get_elem? s.views id ≡ some v
      → (v.calls.frames ≡ []) ⊎ ((x : Running) × (rs : List Running) × (v.calls.frames ≡ x ∷ rs))
  in_call id v at = by v.calls.frames refl
    where
      by : (fs : List Running) → v.calls.frames ≡ fs → (v.calls.frames ≡ []) ⊎ ((x : Running) × (rs : List Running) × (v.calls.frames ≡ x ∷ rs))
      by [] e = inl e
      by (x ∷ rs) e = inr (x, rs, e)

pub somebody_goes_on : SomebodyGoesOn
somebody_goes_on rank k s st order =
    elim (each_or s.views (λ id v. Calm k s st.runs v) (λ id v. Moves k s st.runs v) (outcome k s st.runs)) [
      | inr o ↦ inl (record {
        seat = o.id;
        view_is = o.view_is;
        at = o.at;
        number = o.is.0.number;
        is = o.is.0.is;
        call = o.is.0.call;
        rest = o.is.0.rest;
        newest = o.is.0.newest_is;
        row = o.is.0.row;
        place = o.is.0.place;
        leads = o.is.1;
      })
      | inl all ↦ elim (each_or s.views (λ id v. v.calls.frames ≡ [])
          (λ id v. (x : Running) × (rs : List Running) × (v.calls.frames ≡ x ∷ rs)) (in_call k s st.runs)) [
            | inl none ↦ inr (inl none)
            | inr o ↦ inr (inr (goes_on rank k s st.runs order (stops k s st.runs all) o.id o.view_is o.is.0 o.is.1 o.at o.is.2))
          ]
    ]

pub few_calls_go_on : FewCallsGoOn
few_calls_go_on rank k s st order few = elim (somebody_goes_on rank k s st order) [
  | inl leads ↦ inl leads
  | inr y ↦ elim y [
    | inl none ↦ inr (inl none)
    | inr z ↦ elim z [
      | inl works ↦ inr (inr works)
      | inr b ↦ absurd (by b b.view_is.who.number refl)
    ]
  ]
]
  where
    by : (b : SomebodyIsBare s) (o : Option ℕ) → b.view_is.who.number ≡ o → ⊥
    by b None e =
        none_some (sym (ap (λ (c : Calls). frame_in c.frames b.ctx) (st.runs.silent b.seat b.view_is b.at e)) ∙ b.live)
    by b (Some p) e =
        let fit = st.runs.seats b.seat b.view_is p b.at e in
        none_some (sym (frame_in-above b.view_is.calls.frames b.ctx fit.stacked
        (let z = few b.seat b.view_is b.at in let y = b.deep in omega (arith, z, y))) ∙ b.live)
