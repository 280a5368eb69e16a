-- What is written down of an exploration grows, and what is known of it stays so.
use Rattle.std.proofs.Common.{◌≡◌, ℕ, ◌<◌, ◌⊎◌, ◌+◌, List, [], ◌∷◌, sym, subst, length, Option}
use Rattle.std.proofs.Common.{Some, inl, inr, slice_get}
use Rattle.lk_reach.proofs.Names.{get-append, Act, Event, Machine, Setup, IsGood, IsLeft, IsOrigin}
use Rattle.lk_reach.proofs.Names.{KeepsLike, kind_value, after, Grows, IsFront, SpaceValue, Book}
use Rattle.lk_reach.proofs.Names.{Origin, Plan}
use Rattle.lk_reach.proofs.{Columns.leads_grown, Kept.{front_at, front_self, keeps_grown}}
use Rattle.lk_reach.specs.Explored.{AddsOrigin, Continues, IsAct, IsMet, IsTelling, IsTried, Writes}

-- what a book adds
pub origin_front : (xs ys : List Origin) (j : ℕ) (o : Origin) → AddsOrigin xs ys j o → IsFront xs ys
origin_front xs ys j o adds = elim adds [
  | inl same ↦ subst (IsFront xs) (sym same.1) (front_self xs)
  | inr new ↦ (o ∷ [], new.1)
]

pub continues : (b c : Book) (state act then : ℕ) (event : Option Event) → act < length b.thens.items
    → Writes b c state act then event → Continues b c
continues b c state act then event low w = record {
  thens = leads_grown b c act then low w.thens;
  origins = origin_front b.origins c.origins then w.origin w.origins;
  firsts = w.firsts.kept;
}

-- an origin that stands there is an old one, or the new one
pub origin_cases : (xs ys : List Origin) (j : ℕ) (o : Origin) → AddsOrigin xs ys j o → (i : ℕ) (p : Origin)
    → slice_get ys i ≡ Some p → (slice_get xs i ≡ Some p) ⊎ ((i ≡ length xs) × (j ≡ length xs) × (p ≡ o))
origin_cases xs ys j o adds i p here = elim adds [
  | inl same ↦ inl (subst (λ (zs : List Origin). slice_get zs i ≡ Some p) same.1 here)
  | inr new ↦ elim (get-append xs o i p (subst (λ (zs : List Origin). slice_get zs i ≡ Some p) new.1 here)) [
    | inl old ↦ inl old
    | inr last ↦ inr (last.0, new.0, last.1)
  ]
]

module _ (plan : Plan) (setup : Setup) where
  pub good_grown : (v w : SpaceValue) → Grows v w → (k : ℕ) → IsGood plan setup v k → IsGood plan setup w k
  good_grown v w g k x = record {
    state = x.state;
    keeps = keeps_grown v w g k x.state x.keeps;
    reached = x.reached;
  }

  abbrev pub like_grown : (v w : SpaceValue) → Grows v w → (k : ℕ) (s : Machine) → KeepsLike plan setup v k s
      → KeepsLike plan setup w k s
  like_grown v w g k s x = record {
    state = x.state;
    keeps = keeps_grown v w g k x.state x.keeps;
    reached = x.reached;
    stands = x.stands;
  }

  module _ (v w : SpaceValue) (g : Grows v w) (b c : Book) (more : Continues b c) where
    abbrev pub act_grown : (o : Origin) → IsAct plan setup v b o → IsAct plan setup w c o
    act_grown o x = record {
      state = x.state;
      keeps = keeps_grown v w g o.state x.state x.keeps;
      reached = x.reached;
      before = x.before;
      was = front_at b.origins c.origins more.origins o.state x.before x.was;
      level = x.level;
      act = x.act;
      doing = x.doing;
    }

    pub origin_grown : (o : Origin) (k : ℕ) → IsOrigin plan setup v b o k → IsOrigin plan setup w c o k
    origin_grown o k x = record {
      made = act_grown o x.made;
      low = x.low;
      leads = keeps_grown v w g k (after x.made.state x.made.act) x.leads;
    }

    pub telling_grown : (o : Origin) (kind : ℕ) → IsTelling plan setup v b o kind → IsTelling plan setup w c o kind
    telling_grown o kind x = record {
      made = act_grown o x.made;
      event = x.event;
      tells = x.tells;
      is = x.is;
    }

    abbrev pub met_grown : (n : ℕ) (s : Machine) → IsMet plan setup v b n s → IsMet plan setup w c n s
    met_grown n s x = record {
      number = x.number;
      like = like_grown v w g x.number s x.like;
      origin = x.origin;
      is = front_at b.origins c.origins more.origins x.number x.origin x.is;
      soon = x.soon;
    }

    pub tried_grown : (k i n : ℕ) (s : Machine) (a : Act) → IsTried plan setup v b k i n s a
        → IsTried plan setup w c k i n s a
    tried_grown k i n s a x = record {
      met = met_grown n (after s a) x.met;
      then = more.thens k i x.met.number x.then;
      stays = x.stays;
      told = λ e tells. let t = x.told e tells in
          record { origin = t.origin; is = more.firsts (kind_value e.what) t.origin t.is; soon = t.soon };
    }

    pub left_grown : (k : ℕ) → IsLeft plan setup v b k → IsLeft plan setup w c k
    left_grown k x = record {
      state = x.state;
      keeps = keeps_grown v w g k x.state x.keeps;
      reached = x.reached;
      origin = x.origin;
      is = front_at b.origins c.origins more.origins k x.origin x.is;
      next = λ i a at. tried_grown k i (x.origin.level + 1) x.state a (x.next i a at);
    }
