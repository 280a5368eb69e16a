-- Which schedules lead to states that were met.
use Rattle.std.proofs.Common.{◌≡◌, ℕ, ◌<◌, ◌≤◌, ◌+◌, List, [], ◌∷◌, ap, subst, length, Some, None}
use Rattle.std.proofs.Common.{arith, inl, inr, slice_get}
use Rattle.lk_reach.proofs.Names.{cases_eq, cases_lt, slice_get-get_or, slice_get_within, get_cases}
use Rattle.lk_reach.proofs.Names.{Act, next, Machine, machine_after, Setup, AreAllMoves, IsExplored}
use Rattle.lk_reach.proofs.Names.{IsLeft, KeepsLike, StandsFor, AreMoves, IsBegun, IsMove}
use Rattle.lk_reach.proofs.Names.{IsReached, after, bare, start_of, state_after, Keeps, SpaceValue}
use Rattle.lk_reach.proofs.Names.{Book, Origin, Plan}
use Rattle.lk_reach.proofs.Closed.{Laws, reached_start, reached_then, same_state}
use Rattle.lk_reach.proofs.{Folded.{stands_self, stands_then, steps}, Kept.one_value}
use Rattle.lk_reach.proofs.apart.Counts.{counts_are_idle}
use Rattle.lk_reach.specs.Explored.{IsMet}

module _ (laws : Laws) (plan : Plan) (setup : Setup) (begun : IsBegun plan setup) where
  -- what a number keeps stands for what it keeps a state for
  pub like_is : (v : SpaceValue) (k : ℕ) (s t : Machine) → Keeps v k s → IsReached plan setup s
      → KeepsLike plan setup v k t → StandsFor plan setup s t
  like_is v k s t keeps reached like =
      subst (λ (z : Machine). StandsFor plan setup z t)
      (same_state laws plan setup begun v k like.state s like.keeps keeps like.reached reached) like.stands

  -- what another stands for is met where that is
  met_like : (v : SpaceValue) (b : Book) (n : ℕ) (s t : Machine) → StandsFor plan setup s t → IsMet plan setup v b n s
      → IsMet plan setup v b n t
  met_like v b n s t stands met = record {
    number = met.number;
    like = record {
      state = met.like.state;
      keeps = met.like.keeps;
      reached = met.like.reached;
      stands = stands_then plan setup begun met.like.state s t met.like.reached met.like.stands stands;
    };
    origin = met.origin;
    is = met.is;
    soon = met.soon;
  }

  -- who was met by so many acts was met by at most more
  pub met_sooner : (v : SpaceValue) (b : Book) (n most : ℕ) (s : Machine) → n ≤ most → IsMet plan setup v b n s → IsMet plan setup v b most s
  met_sooner v b n most s low met = record {
    number = met.number;
    like = met.like;
    origin = met.origin;
    is = met.is;
    soon = let soon = met.soon in omega (arith, soon, low);
  }

  -- Each schedule leads to a state that was met by as few acts, if each state that takes fewer was left.
  module _ (v : SpaceValue) (b : Book) (left most : ℕ)
      (moved : AreAllMoves plan.extras setup plan.acts.items) (all : (k : ℕ) → k < left → IsLeft plan setup v b k)
      (low : (i : ℕ) (o : Origin) → slice_get b.origins i ≡ Some o → o.level < most → i < left) where
    one_more : (n : ℕ) (s : Machine) (a : Act) → n < most → IsReached plan setup s → IsMove plan.extras setup a
        → IsMet plan setup v b n s → IsMet plan setup v b (n + 1) (after s a)
    one_more n s a room reached move met =
        let soon = met.soon in
        let x = all met.number (low met.number met.origin met.is (omega (arith, soon, room))) in
        let stands = like_is v met.number x.state s x.keeps x.reached met.like in
        let step = steps plan setup begun x.state s x.reached reached stands a move in
        let origin : x.origin ≡ met.origin = one_value (slice_get b.origins met.number) x.origin met.origin x.is met.is in
        let level = ap (λ (o : Origin). o.level) origin in
        let at = moved.all step.act step.move in
        met_sooner v b (x.origin.level + 1) (n + 1) (after s a) (omega (arith, level, soon))
        (met_like v b (x.origin.level + 1) (after x.state step.act) (after s a) step.stands (x.next at.0 step.act at.1).met)

    walk : (acts : List Act) (n : ℕ) (m : Machine) → n + length acts ≤ most → AreMoves plan.extras setup acts
        → IsReached plan setup (bare m) → IsMet plan setup v b n (bare m)
        → IsMet plan setup v b (n + length acts) (bare (machine_after m acts))
    walk [] n m room moves reached here = met_sooner v b n (n + 0) (bare m) (omega arith) here
    walk (a ∷ acts) n m room moves reached here =
        let e = (counts_are_idle m a).0 in
        let met = one_more n (bare m) a (omega (arith, room)) reached moves.0 here in
        let rest = walk acts (n + 1) (next m a).0 (omega (arith, room)) moves.1
        (subst (IsReached plan setup) e (reached_then laws plan setup begun (bare m) a reached moves.0))
        (subst (λ z. IsMet plan setup v b (n + 1) z) e met) in
        met_sooner v b (n + 1 + length acts) (n + length (a ∷ acts)) (bare (machine_after (next m a).0 acts))
        (omega arith) rest

  pub all_met : (v : SpaceValue) (b : Book) (left : ℕ) → IsExplored plan setup v b left → (acts : List Act)
      → AreMoves plan.extras setup acts
      → ((i : ℕ) (o : Origin) → slice_get b.origins i ≡ Some o → o.level < length acts → i < left)
      → IsMet plan setup v b (length acts) (state_after plan setup acts)
  all_met v b left x acts moves low =
      let level = x.first.level in
      met_sooner v b (0 + length acts) (length acts) (state_after plan setup acts) (omega arith)
      (walk v b left (length acts) x.acts x.left low acts 0 (start_of plan setup) (omega arith) moves
      (reached_start laws plan setup begun) (record {
        number = 0;
        like = record {
          state = bare (start_of plan setup);
          keeps = x.first.keeps;
          reached = reached_start laws plan setup begun;
          stands = stands_self plan setup begun (bare (start_of plan setup)) (reached_start laws plan setup begun);
        };
        origin = x.first.origin;
        is = x.first.is;
        soon = omega (arith, level);
      }))

  -- where every state was left
  pub whole_met : (v : SpaceValue) (b : Book) (left : ℕ) → IsExplored plan setup v b left
      → left ≡ length v.keys → (acts : List Act) → AreMoves plan.extras setup acts
      → IsMet plan setup v b (length acts) (state_after plan setup acts)
  whole_met v b left x whole acts moves =
      let count = x.count in
      all_met v b left x acts moves
      (λ i o at soon. let within = slice_get_within b.origins i o at in omega (arith, within, count, whole))

  -- who takes fewer acts than the state that is left next was left
  pub soon_left : (v : SpaceValue) (b : Book) (left most : ℕ) → IsExplored plan setup v b left → left ≤ length v.keys
      → ((p : Origin) → slice_get b.origins left ≡ Some p → most ≤ p.level)
      → (i : ℕ) (o : Origin) → slice_get b.origins i ≡ Some o → o.level < most → i < left
  soon_left v b left most x within high i o is few =
      elim (cases_lt i left) [
        | inl low ↦ low
        | inr not_so ↦ elim (get_cases b.origins left) [
          | inl none ↦ absurd (past left not_so none)
          | inr some ↦
              let up = high some.0 some.1 in
              elim (cases_eq left i) [
                | inl e ↦
                    let same : some.0 ≡ o = one_value (slice_get b.origins i) some.0 o
                    (subst (λ (h : ℕ). slice_get b.origins h ≡ Some some.0) e some.1) is in
                    let level = ap (λ (q : Origin). q.level) same in
                    absurd (omega (arith, level, up, few))
                | inr ne ↦
                    let more = x.sorted left i some.0 o some.1 is (omega (arith, not_so, ne)) in
                    absurd (omega (arith, more, up, few))
              ]
        ]
      ]
    where
      past : (n : ℕ) → n ≤ i → slice_get b.origins n ≡ None → ⊥
      past n high none =
          let inside = slice_get_within b.origins i o is in
          let e = slice_get-get_or b.origins n o (omega (arith, inside, high)) in
          cc

  -- A schedule that is shorter than the level of a number leads to a state with a lower number.
  pub no_sooner : (v : SpaceValue) (b : Book) (left : ℕ) → IsExplored plan setup v b left → left ≤ length v.keys
      → (k : ℕ) (o : Origin) → slice_get b.origins k ≡ Some o → (acts : List Act)
      → AreMoves plan.extras setup acts → length acts < o.level
      → (j : ℕ) × (j < k) × KeepsLike plan setup v j (state_after plan setup acts)
  no_sooner v b left x within k o at acts moves short =
      let met = all_met v b left x acts moves (soon_left v b left (length acts) x within
      (λ p here. let near = x.near k o p at here in omega (arith, near, short))) in
      let soon = met.soon in
      (met.number, before met.number met.origin met.is (omega (arith, soon, short)), met.like)
    where
      before : (j : ℕ) (p : Origin) → slice_get b.origins j ≡ Some p → p.level < o.level → j < k
      before j p is less =
          elim (cases_lt j k) [
            | inl low ↦ low
            | inr not_so ↦ elim (cases_eq j k) [
              | inl e ↦
                  let same : p ≡ o = one_value (slice_get b.origins k) p o
                  (subst (λ (h : ℕ). slice_get b.origins h ≡ Some p) e is) at in
                  let level = ap (λ (q : Origin). q.level) same in
                  absurd (omega (arith, level, less))
              | inr ne ↦ let more = x.sorted k j o p at is (omega (arith, not_so, ne)) in absurd (omega (arith, more, less))
            ]
          ]
