-- The newest frame of a processor is the newest call of its seat.
use Rattle.std.proofs.Common.{◌≡◌, ◌≢◌, inl, inr, ℕ, ◌<◌, List, [], ◌∷◌, length, Option, Some, None}
use Rattle.std.proofs.Common.{true, eqb, eq-eqb, ne_eqb, refl, sym, ap, ◌∙◌, subst, arith}
use Rattle.std.proofs.lemmas.Bool.{cases_eq, cases_lt}
use Rattle.std.specs.Prelude.{is_some}
use Rattle.atomic_table.specs.Table.{State}
use Rattle.lk_names.specs.declared.names.Waiter.{Waiter}
use Rattle.lk_rows.specs.declared.parts.Frame.{Frame}
use Rattle.lk_rows.specs.declared.parts.Pc.{Pc}
use Rattle.lk_law.proofs.common.Puts.{if-true, if-false}
use Rattle.lk_waits.specs.Order.{IsTidy}
use Rattle.lk_waits.specs.Waits.{IsTop}
use Rattle.lk_domain.specs.Calls.{Running, Stacked, ArePlaced, frame_in}
use Rattle.lk_domain.specs.Runs.{Runs, SeatFits, waiter}
use Rattle.lk_domain.specs.declared.plan.Plan.{Plan}
use Rattle.lk_domain.specs.declared.view.View.{View}
use Rattle.lk_domain.proofs.Stacks.{frame_in-above, frame_in-top}
use Rattle.lk_domain.proofs.seats.Owners.{Owner, Framed, framed}

pub none_some : {A : Type 0} {a : A} → None ≡ Some a → ⊥
none_some e = cc e

pub some_is : {A : Type 0} {a b : A} → Some a ≡ Some b → a ≡ b
some_is e = cc e

-- the frame of a context that is not the newest's is one below it
pub below_top : (x : Running) (rs : List Running) (d : ℕ) (f : Frame) → d ≢ x.frame.ctx
    → frame_in (x ∷ rs) d ≡ Some f → frame_in rs d ≡ Some f
below_top x rs d f ne is =
    sym (if-false (eqb d x.frame.ctx) (Some x.frame) (frame_in rs d) (ne_eqb d x.frame.ctx ne)) ∙ is

-- the frame of the newest's context is its own
pub at_top : (x : Running) (rs : List Running) (d : ℕ) (f : Frame) → d ≡ x.frame.ctx
    → frame_in (x ∷ rs) d ≡ Some f → x.frame ≡ f
at_top x rs d f e is =
    some_is (sym (if-true (eqb d x.frame.ctx) (Some x.frame) (frame_in rs d) (eq-eqb d x.frame.ctx e)) ∙ is)

-- each frame stands at a row
pub placed_at : (rs : List Running) (d : ℕ) (f : Frame) → ArePlaced rs → frame_in rs d ≡ Some f → is_some f.place ≡ true
placed_at [] d f h is = absurd (none_some is)
placed_at (x ∷ rs) d f h is = elim (cases_eq d x.frame.ctx) [
  | inl e ↦ ap (λ (y : Frame). is_some y.place) (sym (at_top x rs d f e is)) ∙ h.0
  | inr ne ↦ placed_at rs d f h.1 (below_top x rs d f ne is)
]

pub row_of : (o : Option Pc) → is_some o ≡ true → (c : Pc) × (o ≡ Some c)
row_of None h = cc h
row_of (Some c) h = (c, refl)

-- there is a frame in each context below the number of calls
pub frame_below : (rs : List Running) (d : ℕ) → Stacked rs → d < length rs → (f : Frame) × (frame_in rs d ≡ Some f)
frame_below [] d s lt = absurd (omega (arith, lt))
frame_below (x ∷ rs) d s lt = elim (cases_eq d x.frame.ctx) [
  | inl e ↦ (x.frame, if-true (eqb d x.frame.ctx) (Some x.frame) (frame_in rs d) (eq-eqb d x.frame.ctx e))
  | inr ne ↦
      let r = frame_below rs d s.1 (let z = s.0 in omega (arith, z, ne, lt)) in
      (r.0, if-false (eqb d x.frame.ctx) (Some x.frame) (frame_in rs d) (ne_eqb d x.frame.ctx ne) ∙ r.1)
]

module _ (k : Plan) {S : Type 0} (s : State S View) (st : Runs k s) where
  -- the newest call of the seat with the processor of a waiter, whose frame is f
  pub record Newest (w : Waiter) (f : Frame) : Type 0 where
    pub seat : Owner s.views w.cpu
    pub call : Running
    pub rest : List Running
    pub is : seat.view_is.calls.frames ≡ call ∷ rest
    pub frame : call.frame ≡ f
    pub ctx : w.ctx ≡ call.frame.ctx

  pub fits : (p : ℕ) (t : Owner s.views p) → SeatFits st.world p t.view_is.calls
  fits p t = st.seats t.id t.view_is p t.at t.number

  pub newest : (w : Waiter) (f : Frame) (c : Pc) → IsTop st.world w f c → Newest w f
  newest w f c top =
      let t = framed k s st w f top.live in
      by t t.seat.view_is.calls.frames refl
    where
      by : (t : Framed s.views w f) (fs : List Running) → t.seat.view_is.calls.frames ≡ fs → Newest w f
      by t [] e = absurd (none_some (sym (ap (λ (xs : List Running). frame_in xs w.ctx) e) ∙ t.is))
      by t (x ∷ rs) e =
          let fit = fits w.cpu t.seat in
          let stacked : Stacked (x ∷ rs) = subst Stacked e fit.stacked in
          let at : frame_in (x ∷ rs) w.ctx ≡ Some f = sym (ap (λ (xs : List Running). frame_in xs w.ctx) e) ∙ t.is in
          elim (cases_eq w.ctx x.frame.ctx) [
            | inl same ↦ record { seat = t.seat; call = x; rest = rs; is = e; frame = at_top x rs w.ctx f same at; ctx = same }
            | inr ne ↦
                let low : w.ctx < length rs = (elim (cases_lt w.ctx (length rs)) [
                  | inl lt ↦ lt
                  | inr ge ↦ absurd (none_some (sym (frame_in-above rs w.ctx stacked.1 ge) ∙ below_top x rs w.ctx f ne at))
                ]) in
                let there : st.world.frame (waiter w.cpu x.frame.ctx) ≡ Some x.frame =
                fit.mirrors.frames x.frame.ctx ∙ (ap (λ (xs : List Running). frame_in xs x.frame.ctx) e ∙ frame_in-top x rs) in
                absurd (none_some (sym (top.above x.frame.ctx (let z = stacked.0 in omega (arith, z, low))) ∙ there))
          ]

  -- every frame stands at a row, and no processor has more than six
  pub tidy : IsTidy st.world
  tidy =
      record {
        shallow = λ p c ge. (st.six (waiter p c) ge).0;
        handlers = λ u f live up.
            let t = framed k s st u f live in
            row_of f.place (placed_at t.seat.view_is.calls.frames u.ctx f (fits u.cpu t.seat).placed t.is);
      }
