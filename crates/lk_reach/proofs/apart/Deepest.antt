-- The deepest level.
use Rattle.std.proofs.Common.{◌≡◌, ℕ, zero, suc, ◌<◌, ◌≤◌, ◌-◌, List, [], ◌∷◌, refl, ap, subst}
use Rattle.std.proofs.Common.{length, Some, arith, inl, inr, slice_get}
use Rattle.lk_reach.proofs.Names.{cases_eq, slice_get_within, Act, Machine, StandsFor, AreMoves}
use Rattle.lk_reach.proofs.Names.{state_after, IsGraph, IsWhole, Graph, Origin}
use Rattle.lk_reach.proofs.{Closed.{Laws, same_state}, Kept.one_value, Known.{no_sooner, whole_met}}
use Rattle.lk_reach.proofs.Left.{has_origin}
use Rattle.lk_reach.proofs.apart.Leading.{LeadsOn, leads_start, leads_then, way_to}
use Rattle.lk_reach.specs.{Path.IsBefore, Told.{IsDeepest, IsLikeWithin, IsWithin}}

module _ (laws : Laws) (g : Graph) (is : IsGraph g) where
  -- acts from the first state on, where there are some from this one on
  from_first : (most j k : ℕ) (acts : List Act) → j ≤ most → j < length g.space.keys → LeadsOn g j k acts
      → (all : List Act) × LeadsOn g 0 k all
  from_first zero j k acts low there x =
      (acts, subst (λ (h : ℕ). LeadsOn g h k acts) (let e : j ≡ 0 = omega (arith, low) in e) x)
  from_first (suc most) j k acts low there x =
      elim (cases_eq j 0) [
        | inl e ↦ (acts, subst (λ (h : ℕ). LeadsOn g h k acts) e x)
        | inr ne ↦
            let up : 0 < j = omega (arith, ne) in
            let o = has_origin g.plan g.machine.setup g.space g.book g.left j is.explored there in
            let made = is.explored.origins j o.0 o.1 up in
            let below = made.low in
            let before : IsBefore g.plan g.book j o.0.state made.made.act =
            record { origin = o.0; is = o.1; from = refl; doing = made.made.doing } in
            from_first most o.0.state k (made.made.act ∷ acts) (omega (arith, below, low)) (omega (arith, below, there))
            (leads_then laws g is o.0.state j k made.made.act acts up before x)
      ]

  within : (most k : ℕ) → k < length g.space.keys
      → ((p : Origin) → slice_get g.book.origins k ≡ Some p → p.level ≤ most) → IsWithin g most k
  within most k low level =
      let way = from_first k k k [] (omega arith) low (leads_start g k) in
      let to = way_to laws g is k way.0 low way.1 in
      record {
        acts = way.0;
        way = to;
        few = let few = level to.origin to.is in let count = to.count in omega (arith, few, count);
      }

  pub deepest_is : (n : ℕ)
      → ((o : Origin) → slice_get g.book.origins (length g.space.keys - 1) ≡ Some o → n ≡ o.level) → IsDeepest g n
  deepest_is n level = record {
    enough = each;
    all = λ whole acts moves. like whole acts moves;
    last = last;
    there = omega (arith, some);
    fewer = λ acts moves less.
        no_sooner laws g.plan g.machine.setup is.begun g.space g.book g.left is.explored is.within
        last o.0 o.1 acts moves (omega (arith, less, is_n));
  }
    where
      some : 0 < length g.space.keys
      some = slice_get_within g.space.keys 0 is.explored.first.keeps.key is.explored.first.keeps.is

      last : ℕ
      last = length g.space.keys - 1

      o : (o : Origin) × (slice_get g.book.origins last ≡ Some o)
      o = has_origin g.plan g.machine.setup g.space g.book g.left last is.explored (omega (arith, some))

      is_n : n ≡ o.0.level
      is_n = level o.0 o.1

      top : (k : ℕ) → k < length g.space.keys → (p : Origin) → slice_get g.book.origins k ≡ Some p → p.level ≤ n
      top k low p at =
          elim (cases_eq k last) [
            | inl e ↦
                let same : p ≡ o.0 = one_value (slice_get g.book.origins last) p o.0
                (subst (λ (h : ℕ). slice_get g.book.origins h ≡ Some p) e at) o.1 in
                let level = ap (λ (q : Origin). q.level) same in
                omega (arith, level, is_n)
            | inr ne ↦
                let more = is.explored.sorted k last p o.0 at o.1 (omega (arith, low, ne)) in
                omega (arith, more, is_n)
          ]

      each : (k : ℕ) → k < length g.space.keys → IsWithin g n k
      each k low = within n k low (top k low)

      like : IsWhole g → (acts : List Act) → AreMoves g.plan.extras g.machine.setup acts
          → IsLikeWithin g n (state_after g.plan g.machine.setup acts)
      like whole acts moves =
          let met = whole_met laws g.plan g.machine.setup is.begun g.space g.book g.left is.explored whole acts moves in
          let x = met.like in
          let near = each met.number (slice_get_within g.space.keys met.number x.keeps.key x.keeps.is) in
          let t = state_after g.plan g.machine.setup near.acts in
          let same : x.state ≡ t = same_state laws g.plan g.machine.setup is.begun g.space met.number x.state t x.keeps
          near.way.leads x.reached (record { acts = near.acts; moves = near.way.moves; there = refl }) in
          record {
            acts = near.acts;
            moves = near.way.moves;
            few = near.few;
            stands = subst (λ (z : Machine). StandsFor g.plan g.machine.setup z (state_after g.plan g.machine.setup acts))
                same x.stands;
          }
