-- How states are noted that stand for others.
use Rattle.std.proofs.Common.{◌≡◌, ◌≢◌, ◌<◌, ◌≤◌, ℕ, true, false, zero, suc, List, [], ◌∷◌, ap}
use Rattle.std.proofs.Common.{refl, sym, ◌∙◌, subst, length, Some, arith, inl, inr, slice_get, take}
use Rattle.lk_reach.proofs.Names.{cases_lt, Act, Machine, Setup, AreAlike, renamed, renamed_act}
use Rattle.lk_reach.proofs.Names.{Renaming, IsSuch, Fits, HaveFolds, IsBehind, IsHere, IsNoted}
use Rattle.lk_reach.proofs.Names.{StandsFor, AreMoves, IsBegun, IsMove, IsReached, after, bare, run}
use Rattle.lk_reach.proofs.Names.{start_of, AddsParts, Folds, Grows, IsSameKind, Keeps, KeyKeeps}
use Rattle.lk_reach.proofs.Names.{SpaceValue, Here, Key, Extras, Plan}
use Rattle.lk_reach.proofs.Closed.{reached_start, reached_such, reached_then, run_bare, same_state}
use Rattle.lk_reach.proofs.Folded.{after_renamed, laws, not_both, own_fits, own_numbers, own_same}
use Rattle.lk_reach.proofs.Folded.{reached_renamed, stands_alike, stands_back, stands_then}
use Rattle.lk_reach.proofs.Kept.{front_at, key_grown, keeps_grown}
use Rattle.lk_reach.specs.Folded.{HasFold, IsRenumbered}

-- acts, one by one

pub run_take : (xs : List Act) (m : Machine) (n : ℕ) (a : Act) → slice_get xs n ≡ Some a
    → run m (take (suc n) xs) ≡ after (run m (take n xs)) a
run_take [] m n a e = cc
run_take (x ∷ xs) m zero a e = ap (λ z. after m z) (one e)
  where
    one : Some x ≡ Some a → x ≡ a
    one f = cc
run_take (x ∷ xs) m (suc n) a e = run_take xs (after m x) n a e

pub run_none : (xs : List Act) (m : Machine) → m ≡ run m (take 0 xs)
run_none [] m = refl
run_none (x ∷ xs) m = refl

pub moves_at : (extras : Extras) (setup : Setup) (xs : List Act) (n : ℕ) (a : Act) → AreMoves extras setup xs
    → slice_get xs n ≡ Some a → IsMove extras setup a
moves_at extras setup [] n a moves e = cc
moves_at extras setup (x ∷ xs) zero a moves e = subst (λ (b : Act). IsMove extras setup b) (one e) moves.0
  where
    one : Some x ≡ Some a → x ≡ a
    one f = cc
moves_at extras setup (x ∷ xs) (suc n) a moves e = moves_at extras setup xs n a moves.1 e

pub moves_take : (extras : Extras) (setup : Setup) (xs : List Act) (n : ℕ) → AreMoves extras setup xs
    → AreMoves extras setup (take n xs)
moves_take extras setup [] zero moves = tt
moves_take extras setup [] (suc n) moves = tt
moves_take extras setup (x ∷ xs) zero moves = tt
moves_take extras setup (x ∷ xs) (suc n) moves = (moves.0, moves_take extras setup xs n moves.1)

pub take_all : (xs : List Act) (n : ℕ) → length xs ≤ n → take n xs ≡ xs
take_all [] zero high = refl
take_all [] (suc n) high = refl
take_all (x ∷ xs) zero high = absurd (omega (arith, high))
take_all (x ∷ xs) (suc n) high = ap (λ ys. x ∷ ys) (take_all xs n (omega (arith, high)))

-- machines of one setup that have counted nothing
pub same_kind : (setup : Setup) (s m : Machine) → IsSuch setup s → IsSuch setup m → IsSameKind s m
same_kind setup s m x y = record {
  setup = x.setup ∙ sym y.setup;
  counts = x.counts ∙ sym y.counts;
  cpus = x.cpus ∙ sym y.cpus;
}

module _ (plan : Plan) (setup : Setup) (begun : IsBegun plan setup) where
  kind_of : (t m : Machine) → IsReached plan setup t → IsSuch setup m → IsSameKind t m
  kind_of t m reached such = same_kind setup t m (reached_such laws plan setup begun t reached) such

  -- the first acts of a schedule
  pub reached_by : (acts : List Act) → AreMoves plan.extras setup acts → IsReached plan setup (run (bare (start_of plan setup)) acts)
  reached_by acts moves = record { acts = acts; moves = moves; there = run_bare acts (start_of plan setup) }

  -- one act more under new numbers
  pub renamed_take : (r : Renaming) → Fits plan setup r → (xs : List Act) → AreMoves plan.extras setup xs → (n : ℕ) (a : Act)
      → slice_get xs n ≡ Some a
      → after (renamed r (run (bare (start_of plan setup)) (take n xs))) (renamed_act r a)
      ≡ renamed r (run (bare (start_of plan setup)) (take (suc n) xs))
  renamed_take r fits xs moves n a at =
      let s = run (bare (start_of plan setup)) (take n xs) in
      after_renamed plan setup begun r fits s (reached_by (take n xs) (moves_take plan.extras setup xs n moves)) a
      ∙ ap (λ m. renamed r m) (sym (run_take xs (bare (start_of plan setup)) n a at))

  -- what has a fold has it when more is met
  pub fold_grown : (v w : SpaceValue) → Grows v w → (k : ℕ) → HasFold plan setup v k → HasFold plan setup w k
  fold_grown v w g k x =
      let t = renamed x.renaming x.state in
      record {
        state = x.state;
        keeps = keeps_grown v w g k x.state x.keeps;
        reached = x.reached;
        renaming = x.renaming;
        fits = x.fits;
        folds = record {
          key = x.folds.key;
          is = front_at v.folds w.folds g.folds k x.folds.key x.folds.is;
          keeps = key_grown v w g x.folds.key t x.folds.keeps;
        };
      }

  pub folds_kept : (v w : SpaceValue) → AddsParts v w → HaveFolds plan setup v → HaveFolds plan setup w
  folds_kept v w more x = record {
    count = ap (λ (ks : List Key). length ks) more.folds ∙ x.count ∙ sym (ap (λ (ks : List Key). length ks) more.keys);
    first = keeps_grown v w more.grows 0 (bare (start_of plan setup)) x.first;
    each = λ k low. fold_grown v w more.grows k
        (x.each k (subst (λ (ks : List Key). k < length ks) more.keys low));
  }

  -- the state that is left is where it was
  pub here_kept : (v w : SpaceValue) (here : Here) → AddsParts v w → IsHere plan setup v here → IsHere plan setup w here
  here_kept v w here more h = record {
    begun = h.begun;
    state = h.state;
    keeps = keeps_grown v w more.grows here.spot.state h.state h.keeps;
    key = front_at v.keys w.keys more.grows.keys here.spot.state here.spot.key h.key;
    reached = h.reached;
    folds = λ yes. folds_kept v w more (h.folds yes);
    moves = h.moves;
    leads = h.leads;
  }

  -- the machine behind an act on the state that is left is reached
  pub reached_behind : (v : SpaceValue) (here : Here) (a : Act) (m : Machine) → IsHere plan setup v here
      → IsMove plan.extras setup a → IsBehind plan setup v here a m → IsReached plan setup m
  reached_behind v here a m h move behind =
      subst (λ (z : Machine). IsReached plan setup z) (sym (behind h.state h.keeps h.reached))
      (reached_then laws plan setup begun h.state a h.reached move)

  pub renumbered_such : (m n : Machine) → IsReached plan setup m → IsRenumbered plan setup m n → IsSuch setup n
  renumbered_such m n reached it =
      subst (λ (z : Machine). IsSuch setup z) (sym it.is)
      (reached_such laws plan setup begun (renamed it.renaming m)
      (reached_renamed plan setup begun it.renaming it.fits m reached))

  -- the first state is its own fold
  pub first_folds : (v : SpaceValue) (m : Machine) → m ≡ bare (start_of plan setup) → length v.keys ≡ 1 → Keeps v 0 m
      → length v.folds ≡ 1 → Folds v 0 m → HaveFolds plan setup v
  first_folds v m there count keeps many folds = record {
    count = many ∙ sym count;
    first = subst (λ (z : Machine). Keeps v 0 z) there keeps;
    each = λ k low.
        let e : 0 ≡ k = omega (arith, low, count) in
        subst (λ (h : ℕ). HasFold plan setup v h) e (record {
          state = m;
          keeps = keeps;
          reached = subst (λ (z : Machine). IsReached plan setup z) (sym there) (reached_start laws plan setup begun);
          renaming = own_numbers;
          fits = own_fits plan setup begun;
          folds = subst (λ (z : Machine). Folds v 0 z) (sym (own_same m)) folds;
        });
  }

  module _ (v w : SpaceValue) (left k : ℕ) (m : Machine) (such : IsSuch setup m) where
    -- without folds
    pub plain_noted : plan.folds ≡ false → k < length w.keys
        → ((s : Machine) → Keeps w k s → IsSameKind s m → AreAlike s m) → Grows v w
        → ((j : ℕ) → length v.keys ≤ j → j < length w.keys → (j ≡ k) × Keeps w j m) → IsNoted plan setup v w left m k
    plain_noted plain there alike grows one = record {
      there = there;
      kept = λ t has reached. stands_alike plan setup begun t m (alike t has (kind_of t m reached such));
      stays = λ e s has reached.
          alike s (subst (λ (h : ℕ). Keeps w h s) (sym e) (keeps_grown v w grows left s has)) (kind_of s m reached such);
      grows = grows;
      one = one;
      folds = λ folds. absurd (not_both plan.folds folds plain);
    }

    -- a state whose key has the form of the machine's
    pub like_noted : HaveFolds plan setup v → AddsParts v w → k < length w.keys
        → ((s : Machine) → Keeps w k s → IsSameKind s m → AreAlike s m) → IsNoted plan setup v w left m k
    like_noted folds more there alike =
        let size = ap (λ (ks : List Key). length ks) more.keys in
        record {
          there = there;
          kept = λ t has reached. stands_alike plan setup begun t m (alike t has (kind_of t m reached such));
          stays = λ e s has reached.
              alike s (subst (λ (h : ℕ). Keeps w h s) (sym e) (keeps_grown v w more.grows left s has))
              (kind_of s m reached such);
          grows = more.grows;
          one = λ j high under. absurd (omega (arith, high, under, size));
          folds = λ yes. folds_kept v w more folds;
        }

  -- a state that is found by its fold, or has a new number
  module _ (v u w : SpaceValue) (left k : ℕ) (m n : Machine) (key : Key) (r : Renaming) (fits : Fits plan setup r)
      (reached : IsReached plan setup m) (folds : plan.folds ≡ true) (is : n ≡ renamed r m) (have : HaveFolds plan setup v)
      (more : AddsParts v u) (keeps : KeyKeeps u.parts u.shareds key m) (grows : Grows u w) (all : Grows v w)
      (there : k < length w.keys) (other : k ≢ left)
      (alike : (s : Machine) → Folds w k s → IsSameKind s n → AreAlike s n)
      (one : (j : ℕ) → length u.keys ≤ j → j < length w.keys → (j ≡ k) × (slice_get w.keys j ≡ Some key) × Folds w j n)
      (count : length w.folds ≡ length w.keys) where
    size : length u.keys ≡ length v.keys
    size = ap (λ (ks : List Key). length ks) more.keys

    new_keeps : (j : ℕ) → slice_get w.keys j ≡ Some key → Keeps w j m
    new_keeps j at = record { key = key; is = at; keeps = key_grown u w grows key m keeps }

    each : (j : ℕ) → j < length w.keys → HasFold plan setup w j
    each j low = elim (cases_lt j (length v.keys)) [
      | inl old ↦ fold_grown v w all j (have.each j old)
      | inr high ↦
          let x = one j (omega (arith, high, size)) low in
          record {
            state = m;
            keeps = new_keeps j x.1;
            reached = reached;
            renaming = r;
            fits = fits;
            folds = subst (λ (z : Machine). Folds w j z) is x.2;
          }
    ]

    such_of : (q : Renaming) → Fits plan setup q → (t : Machine) → IsReached plan setup t → IsSuch setup (renamed q t)
    such_of q fit t at = reached_such laws plan setup begun (renamed q t) (reached_renamed plan setup begun q fit t at)

    pub fold_noted : IsNoted plan setup v w left m k
    fold_noted = record {
      there = there;
      kept = λ t has at.
          let x = each k there in
          let same : x.state ≡ t = same_state laws plan setup begun w k x.state t x.keeps has x.reached at in
          let found : AreAlike (renamed x.renaming x.state) n =
          alike (renamed x.renaming x.state) x.folds (same_kind setup (renamed x.renaming x.state) n
          (such_of x.renaming x.fits x.state x.reached) (subst (λ (z : Machine). IsSuch setup z) (sym is) (such_of r fits m reached))) in
          let one : StandsFor plan setup t n = record {
            renaming = x.renaming;
            fits = x.fits;
            alike = subst (λ (z : Machine). AreAlike (renamed x.renaming z) n) same found;
            plain = λ not_so. absurd (not_both plan.folds folds not_so);
          } in
          let back : StandsFor plan setup m n = record {
            renaming = r;
            fits = fits;
            alike = subst (λ (z : Machine). AreAlike (renamed r m) z) (sym is) refl;
            plain = λ not_so. absurd (not_both plan.folds folds not_so);
          } in
          stands_then plan setup begun t n m at one (stands_back plan setup begun m n reached back);
      stays = λ e s has at. absurd (other e);
      grows = all;
      one = λ j high low.
          let x = one j (omega (arith, high, size)) low in
          (x.0, new_keeps j x.1);
      folds = λ yes. record {
        count = count;
        first = keeps_grown v w all 0 (bare (start_of plan setup)) have.first;
        each = each;
      };
    }
