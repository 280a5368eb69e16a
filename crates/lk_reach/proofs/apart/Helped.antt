-- What helpers find stays so, and gives the numbers that one thread alone would give.
use Rattle.std.proofs.Common.{arith, ℕ, ◌≡◌, ◌∙◌, ◌<◌, ◌++◌, List, [], ◌∷◌, Option, Some, None}
use Rattle.std.proofs.Common.{true, false, length, ap, inl, inr, refl, sym, subst, ◌≢◌, IfSome}
use Rattle.std.proofs.Common.{drop, slice_get, slice_index_or, take}
use Rattle.std.proofs.lemmas.List.{append-nil, drop_all, length-replicate, take_all}
use Rattle.lk_reach.proofs.Names.{slice_get-get_or, slice_get_within, get-append, Act, next}
use Rattle.lk_reach.proofs.Names.{Machine, at_rest, Setup, AreAlike, renamed, Renaming, IsGood}
use Rattle.lk_reach.proofs.Names.{IsSuch, Fits, HaveFolds, IsHere, IsNoted, StandsFor, AreFound}
use Rattle.lk_reach.proofs.Names.{AreFresh, AreHelpers, LeadsThere, AreMoves, IsBegun, IsMove}
use Rattle.lk_reach.proofs.Names.{IsReached, after, state_after, AddsParts, Folds, Grows}
use Rattle.lk_reach.proofs.Names.{IsSameKind, Keeps, KeyKeeps, SpaceValue, AreMade, Here, Helper}
use Rattle.lk_reach.proofs.Names.{Key, Plan, Made}
use Rattle.lk_rows.specs.Machine.{rest_lock}
use Rattle.lk_reach.proofs.Closed.{reached_such, reached_then, rest_cpus_of, same_state}
use Rattle.lk_reach.proofs.{Folded.{laws, stands_alike}, Kept.{keeps_one, key_grown, keeps_grown, one_value}}
use Rattle.lk_reach.proofs.{Left.grows_self, apart.Grown.like_grown}
use Rattle.lk_reach.proofs.apart.Noted.{fold_noted, plain_noted, same_kind}
use Rattle.lk_reach.proofs.apart.Remembered.{made_grown}
use Rattle.lk_reach.specs.{Explored.OnlyMoves, Helped.IsFoldFound}
use Rattle.lk_reach.specs.Helped.{HasLooked, HaveKeys, IsFoldNoted, IsFound, IsFresh, IsHelper}
use Rattle.lk_reach.specs.Helped.{IsKeyNoted, IsKnown, IsOneOf, IsSettled, MayKeep, MaySettle}
use Rattle.lk_reach.specs.{declared.found.Finding.Finding, declared.found.Then.Then}
use Rattle.lk_reach.specs.declared.found.Then.TheVariants as then

-- nothing stands in an empty list
none_there : {A : Type 0} → (i : ℕ) (x : A) → slice_get [] i ≡ Some x → ⊥
none_there i x e = cc

-- no steps
pub none_made : (setup : Setup) (v : SpaceValue) (made : List (Option Made)) → made ≡ [] → AreMade setup v made
none_made setup v made none i e is =
    absurd (none_there i (Some e) (subst (λ (es : List (Option Made)). slice_get es i ≡ Some (Some e)) none is))

pub fresh_helpers : (plan : Plan) (setup : Setup) (v : SpaceValue) (hs : List Helper) → AreFresh setup hs
    → AreHelpers plan setup v hs
fresh_helpers plan setup v hs x i h at =
    let y = x i h at in
    record {
      such = y.such;
      made = none_made setup v h.steps.made.items y.no_steps;
      found = λ j f is. absurd (none_there j f (subst (λ (fs : List Finding). slice_get fs j ≡ Some f) y.none is));
    }

-- what was lent whole comes back whole
pub lent_whole : {A : Type 0} → (xs ys : List A) (n : ℕ) → length ys ≡ length xs → n ≡ length xs
    → take n (ys ++ drop (length ys) xs) ≡ ys
lent_whole xs ys n e f =
    ap (λ zs. take n (ys ++ zs)) (drop_all (length ys) xs (omega (arith, e)))
    ∙ ap (λ zs. take n zs) (append-nil ys) ∙ take_all n ys (omega (arith, e, f))

-- what is so of a thing, if there is one
pub if_some : {A : Type 0} → (o : Option A) (P Q : A → Type 0) → ((x : A) → P x → Q x) → IfSome o P → IfSome o Q
if_some (Some x) P Q f y = f x y
if_some None P Q f y = tt

adds_none : (v : SpaceValue) → AddsParts v v
adds_none v = record { grows = grows_self v; keys = refl; folds = refl }

-- one more helper
pub fresh_more : (setup : Setup) (hs : List Helper) (h : Helper) → AreFresh setup hs → IsFresh setup h
    → AreFresh setup (hs ++ h ∷ [])
fresh_more setup hs h x new i g at = elim (get-append hs h i g at) [
  | inl old ↦ x i g old
  | inr last ↦ subst (λ (z : Helper). IsFresh setup z) (sym last.1) new
]

-- a machine at rest is one of its setup
pub rest_such : (setup : Setup) → IsSuch setup (at_rest setup)
rest_such setup = record {
  setup = refl;
  counts = refl;
  cpus = rest_cpus_of setup;
  locks = length-replicate (length setup.locks.items) rest_lock;
}

module _ (plan : Plan) (setup : Setup) where
  pub none_found : (v : SpaceValue) → AreFound plan setup v []
  none_found v i f at = absurd (none_there i f at)

  -- one more finding, if there was room
  pub found_more : (v : SpaceValue) (fs gs : List Finding) (found : Option Finding) → AreFound plan setup v fs
      → IfSome found (λ f. IsFound plan setup v f) → MayKeep fs gs found → AreFound plan setup v gs
  found_more v fs gs found x new kept = elim kept [
    | inl same ↦ subst (AreFound plan setup v) (sym same) x
    | inr more ↦
        let it : IsFound plan setup v more.0 = subst (λ (o : Option Finding). IfSome o (λ f. IsFound plan setup v f)) more.1 new in
        subst (AreFound plan setup v) (sym more.2)
        (λ i f at. elim (get-append fs more.0 i f at) [
          | inl old ↦ x i f old
          | inr last ↦ subst (IsFound plan setup v) (sym last.1) it
        ])
  ]

  leads_grown : (v w : SpaceValue) → Grows v w → (left : ℕ) (s m : Machine) (t : Then) → LeadsThere plan setup v left s m t
      → LeadsThere plan setup w left s m t
  leads_grown v w g left s m (then.Known k) x = record {
    like = like_grown plan setup v w g k m x.like;
    stays = x.stays;
  }
  leads_grown v w g left s m (then.New key) x = (x.0, key_grown v w g key m x.1)
  leads_grown v w g left s m (then.Fold key fold) x = record {
    folds = x.folds;
    keeps = key_grown v w g key m x.keeps;
    renaming = x.renaming;
    fits = x.fits;
    folded = key_grown v w g fold (renamed x.renaming m) x.folded;
  }

  pub found_grown : (v w : SpaceValue) → Grows v w → (f : Finding) → IsFound plan setup v f → IsFound plan setup w f
  found_grown v w g f x = record {
    state = x.state;
    keeps = keeps_grown v w g f.state x.state x.keeps;
    reached = x.reached;
    act = x.act;
    doing = x.doing;
    event = x.event;
    then = leads_grown v w g f.state x.state (after x.state x.act) f.then x.then;
  }

  pub helpers_grown : (v w : SpaceValue) → Grows v w → (hs : List Helper) → AreHelpers plan setup v hs
      → AreHelpers plan setup w hs
  helpers_grown v w g hs x i h at =
      let y = x i h at in
      record {
        such = y.such;
        made = made_grown setup v w g h.steps.made.items y.made;
        found = λ j f is. found_grown v w g f (y.found j f is);
      }

  -- the keys that were found of a state are those of each machine that has the first
  pub keys_found : IsBegun plan setup → (v : SpaceValue) (fs : List Finding) (key fold : Key) (m : Machine)
      → OnlyMoves plan.extras setup plan.acts.items → AreFound plan setup v fs → IsFoldFound fs key fold → IsSuch setup m
      → KeyKeeps v.parts v.shareds key m → HaveKeys plan setup v m key fold
  keys_found begun v fs key fold m moves found x such keeps =
      let f = found x.place x.finding x.is in
      let n = after f.state f.act in
      let have : HaveKeys plan setup v n key fold =
      subst (λ (t : Then). LeadsThere plan setup v x.finding.state f.state n t) x.then f.then in
      let behind = reached_such laws plan setup begun n
      (reached_then laws plan setup begun f.state f.act f.reached (moves x.finding.act f.act f.doing)) in
      let alone : SpaceValue = record v { keys = key ∷ [] } in
      let same : n ≡ m = keeps_one alone 0 n m (record { key = key; is = refl; keeps = have.keeps })
      (record { key = key; is = refl; keeps = keeps }) (behind.setup ∙ sym such.setup) (behind.counts ∙ sym such.counts)
      (behind.cpus ∙ sym such.cpus) in
      subst (λ (q : Machine). HaveKeys plan setup v q key fold) same have

  pub one_found : (v : SpaceValue) (hs : List Helper) (f : Finding) → AreHelpers plan setup v hs → IsOneOf hs f
      → IsFound plan setup v f
  one_found v hs f x one = (x one.at one.helper one.is).found one.place f one.found

  -- where an act leads that was found to lead there
  module _ (begun : IsBegun plan setup) (v w : SpaceValue) (here : Here) (k : ℕ) (is : IsHere plan setup v here)
      (s : Machine) (a : Act) (has : Keeps v here.spot.state s) (reached : IsReached plan setup s)
      (move : IsMove plan.extras setup a) where
    there : IsReached plan setup (after s a)
    there = reached_then laws plan setup begun s a reached move

    such : IsSuch setup (after s a)
    such = reached_such laws plan setup begun (after s a) there

    known_noted : (j : ℕ) → IsKnown plan setup v here.spot.state s (after s a) j → IsNoted plan setup v v here.spot.state (after s a) j
    known_noted j x = record {
      there = slice_get_within v.keys j x.like.keeps.key x.like.keeps.is;
      kept = λ t keeps at.
          subst (λ (z : Machine). StandsFor plan setup z (after s a))
          (same_state laws plan setup begun v j x.like.state t x.like.keeps keeps x.like.reached at) x.like.stands;
      stays = λ e t keeps at.
          subst (λ (z : Machine). AreAlike z (after s a))
          (same_state laws plan setup begun v here.spot.state s t has keeps reached at) (x.stays e);
      grows = grows_self v;
      one = λ i high low. absurd (omega (arith, high, low));
      folds = λ yes. is.folds yes;
    }

    key_noted : (key : Key) → plan.folds ≡ false → KeyKeeps v.parts v.shareds key (after s a) → IsKeyNoted v w key k
        → IsNoted plan setup v w here.spot.state (after s a) k
    key_noted key plain x e =
        let keeps = key_grown v w e.grows key (after s a) x in
        plain_noted plan setup begun v w here.spot.state k (after s a) such plain e.there
        (λ t at kind. e.alike t (after s a) at keeps kind) e.grows
        (λ j high low. let one = e.one j high low in (one.0, record { key = key; is = one.1; keeps = keeps }))

    fold_settled : (key fold : Key) → HaveKeys plan setup v (after s a) key fold → IsFoldNoted v w key fold here.spot.state k
        → IsNoted plan setup v w here.spot.state (after s a) k
    fold_settled key fold x e =
        let n = renamed x.renaming (after s a) in
        let keeps = key_grown v w e.grows fold n x.folded in
        fold_noted plan setup begun v v w here.spot.state k (after s a) n key x.renaming x.fits there x.folds refl
        (is.folds x.folds) (adds_none v) x.keeps e.grows e.grows e.there e.other (λ t has kind. e.alike t n has keeps kind)
        (λ j high low.
        let one = e.one j high low in
        (one.0, one.1, record { key = fold; is = one.2; keeps = keeps })) e.folds

    by_then : (t : Then) → LeadsThere plan setup v here.spot.state s (after s a) t → IsSettled v w here.spot.state t k
        → IsNoted plan setup v w here.spot.state (after s a) k
    by_then (then.Known j) x e =
        subst (λ (u : SpaceValue). IsNoted plan setup v u here.spot.state (after s a) k) (sym e.1)
        (subst (λ (i : ℕ). IsNoted plan setup v v here.spot.state (after s a) i) (sym e.0) (known_noted j x))
    by_then (then.New key) x e = key_noted key x.0 x.1 e
    by_then (then.Fold key fold) x e = fold_settled key fold x e

    same_then : (f : Finding) → f.state ≡ here.spot.state → slice_get plan.acts.items f.act ≡ Some a → (x : IsFound plan setup v f)
        → (x.state ≡ s) × (x.act ≡ a)
    same_then f left doing x = (
      same_state laws plan setup begun v here.spot.state x.state s
          (subst (λ (h : ℕ). Keeps v h x.state) left x.keeps) has x.reached reached,
      one_value (slice_get plan.acts.items f.act) x.act a x.doing doing,
    )

    pub found_noted : (f : Finding) → f.state ≡ here.spot.state → slice_get plan.acts.items f.act ≡ Some a
        → IsFound plan setup v f → IsSettled v w here.spot.state f.then k
        → IsNoted plan setup v w here.spot.state (after s a) k
    found_noted f left doing x e =
        let same = same_then f left doing x in
        by_then f.then
        (subst (λ (h : ℕ). LeadsThere plan setup v h s (after s a) f.then) left
        (subst (λ (z : Machine). LeadsThere plan setup v f.state z (after z a) f.then) same.0
        (subst (λ (b : Act). LeadsThere plan setup v f.state x.state (after x.state b) f.then) same.1 x.then))) e

    pub found_told : (f : Finding) → f.state ≡ here.spot.state → slice_get plan.acts.items f.act ≡ Some a
        → IsFound plan setup v f → f.event ≡ (next s a).1
    found_told f left doing x =
        let same = same_then f left doing x in
        x.event ∙ ap (λ (b : Act). (next x.state b).1) same.1 ∙ ap (λ (z : Machine). (next z a).1) same.0

  pub settled_grows : (v w : SpaceValue) (left : ℕ) (t : Then) (k : ℕ) → IsSettled v w left t k → Grows v w
  settled_grows v w left (then.Known j) k e = subst (λ (u : SpaceValue). Grows v u) (sym e.1) (grows_self v)
  settled_grows v w left (then.New key) k e = e.grows
  settled_grows v w left (then.Fold key fold) k e = e.grows

  -- a state that is left, and to which an act led that a helper made, may get a fold
  may_fold : (v : SpaceValue) (left : ℕ) (s m : Machine) (t : Then) → left < length v.keys
      → (plan.folds ≡ true → HaveFolds plan setup v) → LeadsThere plan setup v left s m t → MaySettle v left t
  may_fold v left s m (then.Known k) low folds x = tt
  may_fold v left s m (then.New key) low folds x = tt
  may_fold v left s m (then.Fold key fold) low folds x = (low, (folds x.folds).count)

  pub may_settle : (v : SpaceValue) (left : ℕ) (f : Finding) → f.state ≡ left → (plan.folds ≡ true → HaveFolds plan setup v)
      → IsFound plan setup v f → MaySettle v left f.then
  may_settle v left f same folds x =
      subst (λ (i : ℕ). MaySettle v i f.then) same
      (may_fold v f.state x.state (after x.state x.act) f.then (slice_get_within v.keys f.state x.keeps.key x.keeps.is) folds x.then)

  -- a state other than the one that is left, whose fold is that of the machine
  pub known_by_fold : (v : SpaceValue) (left k : ℕ) (s m n : Machine) (key : Key) (r : Renaming) → IsBegun plan setup
      → Fits plan setup r → n ≡ renamed r m → IsReached plan setup m → plan.folds ≡ true → HaveFolds plan setup v
      → KeyKeeps v.parts v.shareds key m → k < length v.folds → k ≢ left
      → ((t : Machine) → Folds v k t → IsSameKind t n → AreAlike t n) → IsKnown plan setup v left s m k
  known_by_fold v left k s m n key r begun fits is reached folds have keeps low other alike =
      let count = have.count in
      let there : k < length v.keys = omega (arith, low, count) in
      let it = have.each k there in
      let grows = grows_self v in
      let noted = fold_noted plan setup begun v v v left k m n key r fits reached folds is have (adds_none v) keeps grows grows
      there other alike (λ j high under. absurd (omega (arith, high, under))) count in
      record {
        like = record {
          state = it.state;
          keeps = it.keeps;
          reached = it.reached;
          stands = noted.kept it.state it.keeps it.reached;
        };
        stays = λ same. absurd (other same);
      }

  -- the state that is left, and a schedule to it if there is one
  pub is_here : (v : SpaceValue) (here : Here) (k : ℕ) → IsBegun plan setup → here.spot.state ≡ k → IsGood plan setup v k
      → slice_get v.keys k ≡ Some here.spot.key → (plan.folds ≡ true → HaveFolds plan setup v)
      → IfSome here.way (λ way. AreMoves plan.extras setup way.items × Keeps v k (state_after plan setup way.items))
      → IsHere plan setup v here
  is_here v here k begun same good key folds way = record {
    begun = begun;
    state = good.state;
    keeps = subst (λ (i : ℕ). Keeps v i good.state) (sym same) good.keeps;
    key = subst (λ (i : ℕ). slice_get v.keys i ≡ Some here.spot.key) (sym same) key;
    reached = good.reached;
    folds = folds;
    moves = if_some here.way (λ w. AreMoves plan.extras setup w.items × Keeps v k (state_after plan setup w.items))
        (λ w. AreMoves plan.extras setup w.items) (λ w x. x.0) way;
    leads = if_some here.way (λ w. AreMoves plan.extras setup w.items × Keeps v k (state_after plan setup w.items))
        (λ w. good.state ≡ state_after plan setup w.items)
        (λ w x. same_state laws plan setup begun v k good.state (state_after plan setup w.items) good.keeps x.1
        good.reached (record { acts = w.items; moves = x.0; there = refl })) way;
  }

  -- what a helper finds of an act on a state
  module _ (begun : IsBegun plan setup) (v : SpaceValue) (left : ℕ) (s m : Machine) (has : Keeps v left s)
      (reached : IsReached plan setup s) (such : IsSuch setup m) where
    pub is_known : (k : ℕ) → IsGood plan setup v k
        → ((t : Machine) → Keeps v k t → IsSameKind t m → AreAlike t m) → IsKnown plan setup v left s m k
    is_known k good alike =
        let kind : (t : Machine) → IsReached plan setup t → IsSameKind t m =
        λ t at. same_kind setup t m (reached_such laws plan setup begun t at) such in
        record {
          like = record {
            state = good.state;
            keeps = good.keeps;
            reached = good.reached;
            stands = stands_alike plan setup begun good.state m
                (alike good.state good.keeps (kind good.state good.reached));
          };
          stays = λ e. alike s (subst (λ (h : ℕ). Keeps v h s) (sym e) has) (kind s reached);
        }

  -- helpers that have looked
  pub have_looked : (u v : SpaceValue) (old new : List Helper) → AreHelpers plan setup u old → length new ≡ length old
      → ((i : ℕ) (d : Helper) → i < length old → HasLooked plan v (slice_index_or old i d) (slice_index_or new i d))
      → AreHelpers plan setup v new
  have_looked u v old new x count looked i h at =
      let low = slice_get_within new i h at in
      let under : i < length old = omega (arith, low, count) in
      let done = looked i h under in
      let was = x i (slice_index_or old i h) (slice_get-get_or old i h under) in
      let now : slice_index_or new i h ≡ h = one_value (slice_get new i) (slice_index_or new i h) h (slice_get-get_or new i h low) at in
      subst (λ (g : Helper). IsHelper plan setup v g) now
      (subst (λ (z : Setup). IsHelper plan z v (slice_index_or new i h)) was.such.setup done.helper)
