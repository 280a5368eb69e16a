-- What an exploration knows grows.
use Rattle.std.proofs.Common.{◌≡◌, ℕ, zero, suc, ◌<◌, ◌≤◌, ◌+◌, true, List, [], ◌∷◌, sym, ◌∙◌, ap}
use Rattle.std.proofs.Common.{subst, length, Option, Some, None, arith, inl, inr, length-append}
use Rattle.std.proofs.Common.{slice_get}
use Rattle.lk_reach.proofs.Names.{cases_eq, cases_lt, slice_get_within, get_cases, Act, Event, next}
use Rattle.lk_reach.proofs.Names.{Machine, Setup, IsSound, AreAllMoves, AreColumns, IsExplored}
use Rattle.lk_reach.proofs.Names.{IsGood, IsLeft, IsOrigin, IsStepped, IsSuch, KeepsLike, HaveFolds}
use Rattle.lk_reach.proofs.Names.{IsNoted, kind_value, IsBegun, IsMove, IsReached, after, bare}
use Rattle.lk_reach.proofs.Names.{start_of, Grows, Keeps, SpaceValue, Book, Origin, Plan}
use Rattle.lk_rows.specs.{Machine.{set_counts, rest_counts}, declared.parts.Counts.Counts}
use Rattle.lk_reach.proofs.Closed.{Laws, reached_sound, reached_start, reached_such, reached_then}
use Rattle.lk_reach.proofs.Columns.{columns_push, leads_now}
use Rattle.lk_reach.proofs.Kept.{front_at, front_self, front_then, keeps_grown, keeps_one}
use Rattle.lk_reach.proofs.Kept.{one_value}
use Rattle.lk_reach.proofs.apart.Grown.{continues, good_grown, left_grown, origin_cases}
use Rattle.lk_reach.proofs.apart.Grown.{origin_grown, telling_grown, tried_grown}
use Rattle.lk_reach.specs.Explored.{Continues, IsAct, IsHalfLeft, IsNew, IsTelling, IsTried, Writes}
use Rattle.lk_reach.specs.Space.{IsLoadable}

pub grows_self : (v : SpaceValue) → Grows v v
grows_self v = record {
  parts = front_self v.parts;
  shareds = front_self v.shareds;
  keys = front_self v.keys;
  folds = front_self v.folds;
}

pub grows_then : (u v w : SpaceValue) → Grows u v → Grows v w → Grows u w
grows_then u v w a b = record {
  parts = front_then u.parts v.parts w.parts a.parts b.parts;
  shareds = front_then u.shareds v.shareds w.shareds a.shareds b.shareds;
  keys = front_then u.keys v.keys w.keys a.keys b.keys;
  folds = front_then u.folds v.folds w.folds a.folds b.folds;
}

pub grows_keys : (v w : SpaceValue) → Grows v w → length v.keys ≤ length w.keys
grows_keys v w g = let e = ap length g.keys.1 ∙ length-append v.keys g.keys.0 in omega (arith, e)

-- where a list is long enough, something stands
pub none_there : {A : Type 0} → (xs : List A) (i : ℕ) → i < length xs → slice_get xs i ≡ None → ⊥
none_there [] i low none = omega (arith, low)
none_there (x ∷ xs) zero low none = cc
none_there (x ∷ xs) (suc i) low none = none_there xs i (omega (arith, low)) none

-- a machine that has counted nothing
pub counted_such : (z : Setup) (m n : Machine) (x : Counts) → n ≡ set_counts m x → x ≡ rest_counts
    → m.setup ≡ z → IsSound m → IsSuch z n
unfolding set_counts
counted_such z m n x e rest setup sound = subst (IsSuch z) (sym e) (record {
  setup = setup;
  counts = rest;
  cpus = sound.1.whole.cpus ∙ ap (λ (q : Setup). length q.topology.sockets.items) setup;
  locks = sound.1.whole.locks ∙ ap (λ (q : Setup). length q.locks.items) setup;
})

-- what is taken up is the state
pub loaded_such : (z : Setup) (m n : Machine) → n.setup ≡ m.setup → n.counts ≡ m.counts
    → length n.cpus ≡ length m.cpus → length n.locks ≡ length m.locks → IsSuch z m → IsSuch z n
loaded_such z m n setup counts cpus locks such = record {
  setup = setup ∙ such.setup;
  counts = counts ∙ such.counts;
  cpus = cpus ∙ such.cpus;
  locks = locks ∙ such.locks;
}

-- it can be taken up by a machine of the setup
pub loadable : (z : Setup) (v : SpaceValue) (k : ℕ) (m : Machine) → IsSuch z m → IsStepped z v k
    → IsLoadable v k m
loadable z v k m such st = record {
  state = st.state;
  keeps = st.keeps;
  setup = st.such.setup ∙ sym such.setup;
  cpus = st.such.cpus ∙ sym such.cpus;
  locks = st.such.locks ∙ sym such.locks;
}

pub loaded_is : (z : Setup) (v : SpaceValue) (k : ℕ) (s t : Machine) → Keeps v k s → IsSuch z s
    → Keeps v k t → IsSuch z t → s ≡ t
loaded_is z v k s t a x b y =
    keeps_one v k s t a b (x.setup ∙ sym y.setup) (x.counts ∙ sym y.counts) (x.cpus ∙ sym y.cpus)

-- an act was made on a state, noted and written down
pub record IsMade (plan : Plan) (setup : Setup) (v w : SpaceValue) (b c : Book) (k number : ℕ) (a : Act) : Type 0 where
  pub then : ℕ
  pub event : Option Event
  pub move : IsMove plan.extras setup a
  pub doing : slice_get plan.acts.items number ≡ Some a
  pub noted : (s : Machine) → Keeps v k s → IsReached plan setup s → IsNoted plan setup v w k (after s a) then
  pub told : (s : Machine) → Keeps v k s → IsReached plan setup s → event ≡ (next s a).1
  pub writes : Writes b c k number then event

module _ (plan : Plan) (setup : Setup) where
  -- what is met has an origin
  pub has_origin : (v : SpaceValue) (b : Book) (left k : ℕ) → IsExplored plan setup v b left → k < length v.keys
      → (o : Origin) × (slice_get b.origins k ≡ Some o)
  has_origin v b left k x low =
      elim (get_cases b.origins k) [
        | inl none ↦
            let count = x.count in
            absurd (none_there b.origins k (omega (arith, low, count)) none)
        | inr some ↦ some
      ]

  pub half_start : (v : SpaceValue) (b : Book) (k : ℕ) (acts : List Act) → IsExplored plan setup v b k
      → k < length v.keys → IsHalfLeft plan setup v b k acts 0
  half_start v b k acts x low =
      let good = x.good k low in
      let o = has_origin v b k k x low in
      record {
        state = good.state;
        keeps = good.keeps;
        reached = good.reached;
        origin = o.0;
        is = o.1;
        next = λ i a none. absurd (omega (arith, none));
      }

  pub left_now : (v : SpaceValue) (b : Book) (k n : ℕ) → length plan.acts.items ≤ n
      → IsHalfLeft plan setup v b k plan.acts.items n → IsLeft plan setup v b k
  left_now v b k n most x = record {
    state = x.state;
    keeps = x.keeps;
    reached = x.reached;
    origin = x.origin;
    is = x.is;
    next = λ i a at. let low = slice_get_within plan.acts.items i a at in
        x.next i a (omega (arith, low, most)) at;
  }

  -- one more is left
  pub explored_next : (v : SpaceValue) (b : Book) (n : ℕ) → IsExplored plan setup v b n → IsLeft plan setup v b n
      → IsExplored plan setup v b (n + 1)
  explored_next v b n x now = record {
    acts = x.acts;
    count = x.count;
    first = x.first;
    good = x.good;
    origins = x.origins;
    sorted = x.sorted;
    near = λ i o p here there.
        let before = x.near i o now.origin here now.is in
        let up = x.sorted n (n + 1) now.origin p now.is there (omega arith) in
        omega (arith, before, up);
    tellings = x.tellings;
    told_near = λ kind o p here there.
        let before = x.told_near kind o now.origin here now.is in
        let up = x.sorted n (n + 1) now.origin p now.is there (omega arith) in
        omega (arith, before, up);
    left = λ k low.
        elim (cases_eq k n) [
          | inl e ↦ subst (λ (h : ℕ). IsLeft plan setup v b h) (sym e) now
          | inr ne ↦ x.left k (omega (arith, low, ne))
        ];
    folds = x.folds;
  }

  pub stepped : (laws : Laws) → IsBegun plan setup → (v : SpaceValue) (b : Book) (k n : ℕ) (acts : List Act)
      → IsHalfLeft plan setup v b k acts n → IsStepped setup v k
  stepped laws begun v b k n acts x = record {
    state = x.state;
    keeps = x.keeps;
    such = reached_such laws plan setup begun x.state x.reached;
    sound = reached_sound laws plan setup begun x.state x.reached;
  }

  module _ (laws : Laws) (begun : IsBegun plan setup) (v w : SpaceValue) (b c : Book) (k number : ℕ) (a : Act)
      (made : IsMade plan setup v w b c k number a) (half : IsHalfLeft plan setup v b k plan.acts.items number)
      (x : IsExplored plan setup v b k) (columns : AreColumns b (length plan.acts.items) k number) where
    noted : IsNoted plan setup v w k (after half.state a) made.then
    noted = made.noted half.state half.keeps half.reached

    in_columns : number < length b.thens.items
    in_columns =
        let low = slice_get_within plan.acts.items number a made.doing in
        let width = columns.width in
        omega (arith, low, width)

    more : Continues b c
    more = continues b c k number made.then made.event in_columns made.writes

    abbrev origin : Origin
    origin = made.writes.origin

    -- a new number is that of the state itself
    good : (i : ℕ) → i < length w.keys → IsGood plan setup w i
    good i low =
        elim (cases_lt i (length v.keys)) [
          | inl old ↦ good_grown plan setup v w noted.grows i (x.good i old)
          | inr new ↦ record {
            state = after half.state a;
            keeps = (noted.one i new low).1;
            reached = reached_then laws plan setup begun half.state a half.reached made.move;
          }
        ]

    leads : KeepsLike plan setup w made.then (after half.state a)
    leads =
        let to = good made.then noted.there in
        record {
          state = to.state;
          keeps = to.keeps;
          reached = to.reached;
          stands = noted.kept to.state to.keeps to.reached;
        }

    -- the new number is the next one
    then_low : made.then < length w.keys
    then_low = noted.there

    count : length c.origins ≡ length w.keys
    count =
        let grown = grows_keys v w noted.grows in
        let before = x.count in
        elim made.writes.origins [
          | inl same ↦
              let not_next = same.0 in
              let size = ap length same.1 in
              elim (cases_lt (length v.keys) (length w.keys)) [
                | inl wider ↦ let e = (noted.one (length v.keys) (omega arith) wider).0 in absurd (not_next (sym e ∙ sym before))
                | inr not_so ↦ omega (arith, grown, before, size, not_so)
              ]
          | inr new ↦
              let is_next = new.0 in
              let size = ap length new.1 ∙ length-append b.origins (origin ∷ []) in
              let low = then_low in
              elim (cases_lt (length v.keys + 1) (length w.keys)) [
                | inl wider ↦
                    let e = (noted.one (length v.keys + 1) (omega arith) wider).0 in
                    absurd (omega (arith, e, is_next, before))
                | inr not_so ↦ omega (arith, low, is_next, before, size, not_so)
              ]
        ]

    abbrev made_act : IsAct plan setup w c origin
    made_act = record {
      state = half.state;
      keeps = subst (λ (h : ℕ). Keeps w h half.state) (sym made.writes.next.from)
          (keeps_grown v w noted.grows k half.state half.keeps);
      reached = half.reached;
      before = made.writes.next.before;
      was = subst (λ (h : ℕ). slice_get c.origins h ≡ Some made.writes.next.before) (sym made.writes.next.from)
          (front_at b.origins c.origins more.origins k made.writes.next.before made.writes.next.was);
      level = made.writes.next.level;
      act = a;
      doing = subst (λ (h : ℕ). slice_get plan.acts.items h ≡ Some a) (sym made.writes.next.by) made.doing;
    }

    -- its level is one more than that of the state that is left
    level : origin.level ≡ half.origin.level + 1
    level = made.writes.next.level ∙ ap (λ (o : Origin). o.level + 1)
        (one_value (slice_get b.origins k) made.writes.next.before half.origin made.writes.next.was half.is)

    old_low : k < length b.origins
    old_low = slice_get_within b.origins k half.origin half.is

    low_level : (i : ℕ) (o : Origin) → slice_get c.origins i ≡ Some o → o.level ≤ half.origin.level + 1
    low_level i o here =
        elim (origin_cases b.origins c.origins made.then origin made.writes.origins i o here) [
          | inl old ↦ x.near i o half.origin old half.is
          | inr new ↦ let e = ap (λ (p : Origin). p.level) new.2 in let up = level in omega (arith, e, up)
        ]

    told_level : (kind : ℕ) (o : Origin) → slice_get c.firsts kind ≡ Some (Some o) → o.level ≤ half.origin.level + 1
    told_level kind o here =
        elim (made.writes.firsts.only kind o here) [
          | inl old ↦ x.told_near kind o half.origin old half.is
          | inr new ↦ let e = ap (λ (p : Origin). p.level) new.same in let up = level in omega (arith, e, up)
        ]

    here_is : slice_get c.origins k ≡ Some half.origin
    here_is = front_at b.origins c.origins more.origins k half.origin half.is

    pub explored_then : IsExplored plan setup w c k
    explored_then = record {
      acts = x.acts;
      count = count;
      first = record {
        keeps = keeps_grown v w noted.grows 0 (bare (start_of plan setup)) x.first.keeps;
        origin = x.first.origin;
        is = front_at b.origins c.origins more.origins 0 x.first.origin x.first.is;
        level = x.first.level;
      };
      good = good;
      origins = λ i o here up.
          elim (origin_cases b.origins c.origins made.then origin made.writes.origins i o here) [
            | inl old ↦ origin_grown plan setup v w noted.grows b c more o i (x.origins i o old up)
            | inr new ↦
                let from = made.writes.next.from in
                let low = old_low in
                let size = x.count in
                subst (λ (p : Origin). IsOrigin plan setup w c p i) (sym new.2)
                (subst (λ (h : ℕ). IsOrigin plan setup w c origin h) (new.1 ∙ sym new.0) (record {
                  made = made_act;
                  low = omega (arith, from, low, new.1);
                  leads = (noted.one made.then (omega (arith, size, new.1)) noted.there).1;
                }))
          ];
      sorted = λ i j o p here there before.
          elim (origin_cases b.origins c.origins made.then origin made.writes.origins j p there) [
            | inl old ↦
                elim (origin_cases b.origins c.origins made.then origin made.writes.origins i o here) [
                  | inl first ↦ x.sorted i j o p first old before
                  | inr last ↦
                      let low = slice_get_within b.origins j p old in
                      let at = last.0 in
                      absurd (omega (arith, low, at, before))
                ]
            | inr new ↦
                let most = low_level i o here in
                let e = ap (λ (q : Origin). q.level) new.2 in
                let up = level in
                omega (arith, most, e, up)
          ];
      near = λ i o p here now.
          let e = ap (λ (q : Origin). q.level) (one_value (slice_get c.origins k) p half.origin now here_is) in
          let most = low_level i o here in
          omega (arith, most, e);
      tellings = λ kind o here.
          elim (made.writes.firsts.only kind o here) [
            | inl old ↦ telling_grown plan setup v w noted.grows b c more o kind (x.tellings kind o old)
            | inr new ↦
                subst (λ (p : Origin). IsTelling plan setup w c p kind) (sym new.same) (record {
                  made = made_act;
                  event = new.told;
                  tells = sym (made.told half.state half.keeps half.reached) ∙ new.is;
                  is = new.right;
                })
          ];
      told_near = λ kind o p here now.
          let e = ap (λ (q : Origin). q.level) (one_value (slice_get c.origins k) p half.origin now here_is) in
          let most = told_level kind o here in
          omega (arith, most, e);
      left = λ i low. left_grown plan setup v w noted.grows b c more i (x.left i low);
      folds = noted.folds;
    }

    tried : IsTried plan setup w c k number (half.origin.level + 1) half.state a
    tried =
        let o = has_origin w c k made.then explored_then then_low in
        record {
          met = record {
            number = made.then;
            like = leads;
            origin = o.0;
            is = o.1;
            soon = low_level made.then o.0 o.1;
          };
          stays = λ e. noted.stays e half.state half.keeps half.reached;
          then = leads_now b c number made.then in_columns made.writes.thens (length plan.acts.items) k columns;
          told = λ e tells.
              let t = made.writes.firsts.told e (made.told half.state half.keeps half.reached ∙ tells) in
              record { origin = t.0; is = t.1; soon = told_level (kind_value e.what) t.0 t.1 };
        }

    pub half_then : IsHalfLeft plan setup w c k plan.acts.items (number + 1)
    half_then = record {
      state = half.state;
      keeps = keeps_grown v w noted.grows k half.state half.keeps;
      reached = half.reached;
      origin = half.origin;
      is = here_is;
      next = λ i d low here.
          elim (cases_eq i number) [
            | inl e ↦
                let same : a ≡ d = one_value (slice_get plan.acts.items number) a d made.doing
                (subst (λ (h : ℕ). slice_get plan.acts.items h ≡ Some d) e here) in
                subst (λ (h : ℕ). IsTried plan setup w c k h (half.origin.level + 1) half.state d) (sym e)
                (subst (λ z. IsTried plan setup w c k number (half.origin.level + 1) half.state z) same tried)
            | inr ne ↦
                tried_grown plan setup v w noted.grows b c more k i (half.origin.level + 1) half.state d
                (half.next i d (omega (arith, low, ne)) here)
          ];
    }

    pub columns_then : AreColumns c (length plan.acts.items) k (number + 1)
    columns_then = columns_push b c number made.then in_columns made.writes.thens (length plan.acts.items) k columns made.writes.edges

  -- nothing is left yet
  pub explored_start : (laws : Laws) → IsBegun plan setup → AreAllMoves plan.extras setup plan.acts.items
      → (v : SpaceValue) (b : Book) (n : ℕ) → IsNew b (length plan.acts.items)
      → Keeps v n (bare (start_of plan setup)) → ((k : ℕ) → k < length v.keys → k ≡ n)
      → (plan.folds ≡ true → HaveFolds plan setup v) → IsExplored plan setup v b 0
  explored_start laws begun acts v b n new keeps one folds =
      let low = slice_get_within v.keys n keeps.key keeps.is in
      let zero_is : 0 ≡ n = one 0 (omega (arith, low)) in
      let keeps_first : Keeps v 0 (bare (start_of plan setup)) =
      subst (λ (h : ℕ). Keeps v h (bare (start_of plan setup))) (sym zero_is) keeps in
      record {
        acts = acts;
        count = size low zero_is;
        first = record {
          keeps = keeps_first;
          origin = new.origin;
          is = ap (λ (os : List Origin). slice_get os 0) new.origins;
          level = new.level;
        };
        good = λ k within.
            subst (λ (h : ℕ). IsGood plan setup v h) (sym (one k within))
            (record { state = bare (start_of plan setup); keeps = keeps; reached = reached_start laws plan setup begun });
        origins = λ k o here up. absurd (alone k o here up);
        sorted = λ i j o p here there before. absurd (alone j p there (omega (arith, before)));
        near = λ i o p here there.
            let e = level_zero i o here in omega (arith, e);
        tellings = λ kind o here. absurd (new.firsts kind o here);
        told_near = λ kind o p here there. absurd (new.firsts kind o here);
        left = λ k none. absurd (omega (arith, none));
        folds = folds;
      }
    where
      size : n < length v.keys → 0 ≡ n → length b.origins ≡ length v.keys
      size low zero_is =
          let single = ap length new.origins in
          elim (cases_lt 1 (length v.keys)) [
            | inl wide ↦ let e = one 1 wide in absurd (omega (arith, e, zero_is))
            | inr not_so ↦ omega (arith, single, low, not_so)
          ]

      alone : (k : ℕ) (o : Origin) → slice_get b.origins k ≡ Some o → 0 < k → ⊥
      alone k o here up =
          let low = slice_get_within b.origins k o here in
          let single = ap length new.origins in
          omega (arith, low, single, up)

      level_zero : (i : ℕ) (o : Origin) → slice_get b.origins i ≡ Some o → o.level ≡ 0
      level_zero i o here = elim (cases_lt 0 i) [
        | inl up ↦ absurd (alone i o here up)
        | inr not_so ↦
            let is : i ≡ 0 = omega (arith, not_so) in
            let same = one_value (slice_get b.origins 0) o new.origin
            (subst (λ (h : ℕ). slice_get b.origins h ≡ Some o) is here)
            (ap (λ (os : List Origin). slice_get os 0) new.origins) in
            ap (λ (p : Origin). p.level) same ∙ new.level
      ]
