-- Which seat has a number for its own, and that each frame is a seat's.
use Rattle.std.proofs.Common.{◌≡◌, ◌≢◌, ◌⊎◌, inl, inr, ℕ, zero, suc, List, [], ◌∷◌, Option, Some}
use Rattle.std.proofs.Common.{None, refl, sym, ap, ◌∙◌, arith}
use Rattle.lk_domain.proofs.Names.{State, get_elem?, dite, some, some-injective, some-ne-none}
use Rattle.lk_domain.proofs.Names.{ℕ_discrete, Waiter, Frame, frame_in, Runs, Plan, View}
use Rattle.lk_domain.specs.Runs.{IsNobodys}

none_some : {A : Type 0} {a : A} → None ≡ Some a → ⊥
none_some e = cc e

number_is : {a b : ℕ} → Some a ≡ Some b → a ≡ b
number_is e = grind (arith, e)

pub number_cases : (o : Option ℕ) (p : ℕ) → (o ≡ Some p) ⊎ (o ≢ Some p)
number_cases None p = inr (λ e. none_some e)
number_cases (Some q) p = dite (ℕ_discrete q p) (λ e. inl (ap Some e)) (λ ne. inr (λ e. ne (number_is e)))

-- a seat of this number
pub record Owner (vs : List View) (p : ℕ) : Type 0 where
  pub id : ℕ
  pub view_is : View
  pub at : get_elem? vs id ≡ some view_is
  pub number : view_is.who.number ≡ Some p

nobodys_else : (x : View) (xs : List View) (p : ℕ) → x.who.number ≢ Some p → IsNobodys xs p → IsNobodys (x ∷ xs) p
nobodys_else x xs p ne none zero v at e = ne (ap (λ (y : View). y.who.number) (some-injective x v at) ∙ e)
nobodys_else x xs p ne none (suc id) v at e = none id v at e

pub owner : (vs : List View) (p : ℕ) → Owner vs p ⊎ IsNobodys vs p
owner [] p = inr (λ id v at e. absurd (some-ne-none v (sym at)))
owner (x ∷ xs) p =
    elim (number_cases x.who.number p) [
      | inl e ↦ inl (record { id = 0; view_is = x; at = refl; number = e })
      | inr ne ↦ elim (owner xs p) [
        | inl t ↦ inl (record { id = suc t.id; view_is = t.view_is; at = t.at; number = t.number })
        | inr none ↦ inr (nobodys_else x xs p ne none)
      ]
    ]

-- the seat whose frame that of a waiter is
pub record Framed (vs : List View) (w : Waiter) (f : Frame) : Type 0 where
  pub seat : Owner vs w.cpu
  pub is : frame_in seat.view_is.calls.frames w.ctx ≡ Some f

pub framed : (k : Plan) {S : Type 0} (s : State S View) (st : Runs k s) (w : Waiter) (f : Frame)
    → st.world.frame w ≡ Some f → Framed s.views w f
framed k s st w f has =
    elim (owner s.views w.cpu) [
      | inl t ↦ record {
        seat = t;
        is = sym ((st.seats t.id t.view_is w.cpu t.at t.number).mirrors.frames w.ctx) ∙ has;
      }
      | inr none ↦ absurd (none_some (sym ((st.blank w.cpu none).frames w.ctx) ∙ has))
    ]
