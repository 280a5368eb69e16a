-- What an event makes of the place of a waiter where waiters are moved aside, and of the takes that it may
-- still see.
use Rattle.std.proofs.Common.{◌≡◌, ◌≢◌, ◌⊎◌, inl, inr, ℕ, zero, suc, ◌<◌, ◌≤◌, ◌+◌, ◌-◌, ◌*◌}
use Rattle.std.proofs.Common.{Option, Some, Bool, refl, sym, ap, ◌∙◌, subst, arith, List, [], ◌∷◌}
use Rattle.std.proofs.Common.{◌++◌, length, slice_get, drop, take, replicate, length-append}
use Rattle.std.proofs.Common.{Contains, if◌then◌else◌, map}
use Rattle.lk_progress.proofs.Names.{cases_lt, get-append_old, get-drop_one, LockHistory, changed}
use Rattle.lk_progress.proofs.Names.{Holds, InOrder, Rules, What, Arrive, Flush, Halt, Int, Kick}
use Rattle.lk_progress.proofs.Names.{Leave, Miss, Nudge, Pass, Promote, RRelease, RTake, Release}
use Rattle.lk_progress.proofs.Names.{Take, WRelease, WTake, Wake, Holder, Reads, Spins, Waiter}
use Rattle.lk_progress.proofs.Names.{sole}
use Rattle.lk_names.specs.{History.without, Lawful.OwnsUp}
use Rattle.lk_names.specs.declared.holder.Manner.TheVariants.{Writes}
use Rattle.lk_abs.proofs.Sameness.{is_hold-refl}
use Rattle.lk_law.proofs.cna.Joined.{get-drop, get-join_left, get-join_right}
use Rattle.lk_progress.proofs.Ahead.{FrontHolds, sole_holds, holds_sole, one_more, same_sole}

-- Where the waiter stands, and how many takes it sees at most before its own, where the threshold is t and
-- fresh says that the next handoff moves nobody.
pub data Costs (h : LockHistory) (w : Waiter) (fresh : Type 0) (t cost : ℕ) : Type 0 where
  -- it is the head
  Heads : slice_get h.main 0 ≡ Some w → Costs h w fresh t cost
  -- it stands in the main queue
  Queued : (i : ℕ)
      → slice_get h.main (suc i) ≡ Some w
      → suc (i + length h.second) * suc t ≤ cost
      → Costs h w fresh t cost
  -- and the next handoff moves nobody
  Next : (i : ℕ)
      → slice_get h.main (suc i) ≡ Some w
      → fresh
      → (i + length h.second) * suc t + 1 ≤ cost
      → Costs h w fresh t cost
  -- it stands aside, and has seen p handoffs there
  Aside : (s p : ℕ)
      → slice_get h.second s ≡ Some w
      → slice_get h.passes s ≡ Some p
      → s * suc t + 1 + (t - p) ≤ cost
      → Costs h w fresh t cost

-- The waiter stands in a queue and does not hold the lock, and it sees at most n takes before its own,
-- of which so many are by the pending bit: a head that holds the lock has made its own already.
pub record Sees (h : LockHistory) (w : Waiter) (fresh : Type 0) (t late n : ℕ) : Type 0 where
  pub cost : ℕ
  pub costs : Costs h w fresh t cost
  pub yet : h.holders ≢ sole (Some w)
  pub count : (cost + late ≤ n) ⊎ ((cost + late ≤ suc n) × FrontHolds h)

-- one more of a product
pub up : (x a : ℕ) → suc x * a ≡ a + x * a
up x a = omega arith

-- the counts after a handoff
passed_old : (ps : List ℕ) (k i p : ℕ) → slice_get ps i ≡ Some p
    → slice_get (map (λ n. suc n) (ps ++ replicate k 0)) i ≡ Some (suc p)
passed_old [] k i p h = cc h
passed_old (q ∷ ps) k zero p h = (let z : q ≡ p = cc h in ap (λ n. Some (suc n)) z)
passed_old (q ∷ ps) k (suc i) p h = passed_old ps k i p h

new_at : (k i : ℕ) → i < k → slice_get (map (λ n. suc n) (replicate k 0)) i ≡ Some 1
new_at zero i lt = absurd (omega (arith, lt))
new_at (suc k) zero lt = refl
new_at (suc k) (suc i) lt = new_at k i (omega (arith, lt))

passed_new : (ps : List ℕ) (k i j : ℕ) → i < k → j ≡ length ps + i
    → slice_get (map (λ n. suc n) (ps ++ replicate k 0)) j ≡ Some 1
passed_new [] k i j lt e =
    let z : j ≡ i = omega (arith, e) in ap (slice_get (map (λ n. suc n) (replicate k 0))) z ∙ new_at k i lt
passed_new (p ∷ ps) k i zero lt e = absurd (omega (arith, e))
passed_new (p ∷ ps) k i (suc j) lt e = passed_new ps k i j lt (omega (arith, e))

-- the first k behind the first
get_take : (ws : List Waiter) (k i : ℕ) (w : Waiter) → i < k → slice_get ws i ≡ Some w → slice_get (take k ws) i ≡ Some w
get_take [] k i w lt h = cc h
get_take (v ∷ ws) zero i w lt h = absurd (omega (arith, lt))
get_take (v ∷ ws) (suc k) zero w lt h = h
get_take (v ∷ ws) (suc k) (suc i) w lt h = get_take ws k i w (omega (arith, lt)) h

length_take : (ws : List Waiter) (k i : ℕ) (w : Waiter) → k ≤ i → slice_get ws i ≡ Some w → length (take k ws) ≡ k
length_take ws zero i w le h = refl
length_take [] (suc k) i w le h = cc h
length_take (v ∷ ws) (suc k) zero w le h = absurd (omega (arith, le))
length_take (v ∷ ws) (suc k) (suc i) w le h = ap suc (length_take ws k i w (omega (arith, le)) h)

-- the secondary queue returns behind the first
joined_rest : (ws second : List Waiter) (i : ℕ) (w : Waiter) → slice_get ws (suc i) ≡ Some w
    → slice_get (take 1 ws ++ (second ++ drop 1 ws)) (suc (length second + i)) ≡ Some w
joined_rest [] second i w h = cc h
joined_rest (v ∷ ws) second i w h = get-join_right second ws i ∙ h

joined_second : (ws second : List Waiter) (u w : Waiter) (s : ℕ) → slice_get ws 0 ≡ Some u → slice_get second s ≡ Some w
    → slice_get (take 1 ws ++ (second ++ drop 1 ws)) (suc s) ≡ Some w
joined_second [] second u w s f h = cc f
joined_second (v ∷ ws) second u w s f h = get-join_left second ws s w h

-- an event that neither takes the lock, hands it off, nor lets the secondary queue return
abbrev pub IsOther : What → Type 0
IsOther (Take l way) = ⊥
IsOther (Pass l v i) = ⊥
IsOther (Flush l) = ⊥
IsOther (Promote l) = ⊥
IsOther (Leave l) = ⊥
IsOther _ = Unit {0}

module _ (rules : Rules) (h : LockHistory) (u w : Waiter) (fresh : Type 0) (t late n : ℕ)
    (holder : Option Waiter) (holders : h.holders ≡ sole holder) (counted : length h.passes ≡ length h.second)
    (sees : Sees h w fresh t late n) where
  -- who holds the lock is not w
  other : Holds h u → u ≢ w
  other has e =
      sees.yet (holders ∙ ap sole ((sole_holds holder u has.0 h.holders holders has.1).0 ∙ ap Some e))

  -- the queues stay, or one comes behind them
  stays : (fresh' : Type 0) → (fresh → fresh') → (k : LockHistory) → k.second ≡ h.second → k.passes ≡ h.passes
      → ((i : ℕ) (v : Waiter) → slice_get h.main i ≡ Some v → slice_get k.main i ≡ Some v)
      → (cost : ℕ) → Costs h w fresh t cost → Costs k w fresh' t cost
  stays fresh' keep k second passes main cost (Heads f) = Heads (main 0 w f)
  stays fresh' keep k second passes main cost (Queued i at le) =
      Queued i (main (suc i) w at) (subst (λ (xs : List Waiter). suc (i + length xs) * suc t ≤ cost) (sym second) le)
  stays fresh' keep k second passes main cost (Next i at now le) =
      Next i (main (suc i) w at) (keep now) (subst (λ (xs : List Waiter). (i + length xs) * suc t + 1 ≤ cost) (sym second) le)
  stays fresh' keep k second passes main cost (Aside s p at seen le) =
      Aside s p (ap (λ (xs : List Waiter). slice_get xs s) second ∙ at) (ap (λ (ps : List ℕ). slice_get ps s) passes ∙ seen) le

  -- an event that changes no queue but by an arrival, and no holder
  pub stand : (fresh' : Type 0) → (fresh → fresh') → (k : LockHistory) → k.second ≡ h.second → k.passes ≡ h.passes
      → ((i : ℕ) (v : Waiter) → slice_get h.main i ≡ Some v → slice_get k.main i ≡ Some v)
      → k.holders ≡ h.holders → Sees k w fresh' t late n
  stand fresh' keep k second passes main hold =
      record {
        cost = sees.cost;
        costs = stays fresh' keep k second passes main sees.cost sees.costs;
        yet = λ e. sees.yet (sym hold ∙ e);
        count = elim sees.count [
          | inl le ↦ inl le
          | inr le ↦ inr (
            le.0,
            record {
              by = le.1.by;
              front = main 0 le.1.by le.1.front;
              holds = hold ∙ le.1.holds;
            },
          )
        ];
      }

  -- the secondary queue returns
  pub rejoins : (fresh' : Type 0) → fresh' → slice_get h.main 0 ≡ Some u → Holds h u
      → Sees (record h { main = take 1 h.main ++ (h.second ++ drop 1 h.main); second = []; passes = [] }) w fresh' t late n
  rejoins fresh' now front has =
      record {
        cost = sees.cost;
        costs = by sees.costs;
        yet = sees.yet;
        count = elim sees.count [
          | inl le ↦ inl le
          | inr le ↦ inr (le.0, record { by = le.1.by; front = first h.main le.1.front; holds = le.1.holds })
        ];
      }
    where
      first : (ws : List Waiter) {v : Waiter} → slice_get ws 0 ≡ Some v → slice_get (take 1 ws ++ (h.second ++ drop 1 ws)) 0 ≡ Some v
      first [] e = cc e
      first (x ∷ ws) e = e

      by : Costs h w fresh t sees.cost
          → Costs (record h { main = take 1 h.main ++ (h.second ++ drop 1 h.main); second = []; passes = [] }) w fresh' t sees.cost
      by (Heads f) = absurd (other has (let z : Some u ≡ Some w = sym front ∙ f in cc z))
      by (Queued i at le) =
          Next (length h.second + i) (joined_rest h.main h.second i w at) now
          (let e : suc (i + length h.second) * suc t ≡ suc t + (i + length h.second) * suc t = up (i + length h.second) (suc t) in
          let z : length h.second + i + 0 ≡ i + length h.second = omega arith in
          let same : (length h.second + i + 0) * suc t ≡ (i + length h.second) * suc t = ap (λ (x : ℕ). x * suc t) z in
          omega (arith, le, e, same))
      by (Next i at was le) =
          Next (length h.second + i) (joined_rest h.main h.second i w at) now
          (let z : length h.second + i + 0 ≡ i + length h.second = omega arith in
          let same : (length h.second + i + 0) * suc t ≡ (i + length h.second) * suc t = ap (λ (x : ℕ). x * suc t) z in
          omega (arith, le, same))
      by (Aside s p at seen le) =
          Next s (joined_second h.main h.second u w s front at) now
          (let z : s + 0 ≡ s = omega arith in
          let same : (s + 0) * suc t ≡ s * suc t = ap (λ (x : ℕ). x * suc t) z in omega (arith, le, same))

  -- the head hands off, and i waiters are moved aside
  module _ (fresh' : Type 0) (i : ℕ) (none : fresh → i ≡ 0) (front : slice_get h.main 0 ≡ Some u) (has : Holds h u)
      (few : (j q : ℕ) → slice_get (map (λ n. suc n) (h.passes ++ replicate i 0)) j ≡ Some q → q ≤ t)
      (v : Waiter) (next : slice_get h.main (suc i) ≡ Some v) where
    abbrev handed : LockHistory
    handed = record h {
      main = drop (suc i) h.main;
      second = h.second ++ take i (drop 1 h.main);
      passes = map (λ n. suc n) (h.passes ++ replicate i 0);
    }

    wide : length handed.second ≡ length h.second + i
    wide =
        length-append h.second (take i (drop 1 h.main))
        ∙ ap (λ (x : ℕ). length h.second + x) (length_take (drop 1 h.main) i i v (omega arith) (get-drop_one h.main i ∙ next))

    -- behind the one to which it hands off
    stays_main : (a cost : ℕ) → i ≤ a → slice_get h.main (suc a) ≡ Some w → (a + length h.second) * suc t ≤ cost
        → Costs handed w fresh' t cost
    stays_main a cost le at low = place (a - i) refl
      where
        got : (x : ℕ) → a - i ≡ x → slice_get handed.main x ≡ Some w
        got x e =
            let z : suc i + x ≡ suc a = omega (arith, le, e) in
            get-drop (suc i) h.main x ∙ ap (slice_get h.main) z ∙ at

        place : (x : ℕ) → a - i ≡ x → Costs handed w fresh' t cost
        place zero e = Heads (got zero e)
        place (suc x) e =
            Queued x (got (suc x) e)
            (let z : suc (x + length handed.second) ≡ a + length h.second = (let b = wide in omega (arith, le, e, b)) in
            let same : suc (x + length handed.second) * suc t ≡ (a + length h.second) * suc t = ap (λ (y : ℕ). y * suc t) z in
            omega (arith, low, same))

    moved : (a : ℕ) → a < i → slice_get handed.passes (length h.second + a) ≡ Some 1
    moved a lt = passed_new h.passes i a (length h.second + a) lt (let z = counted in omega (arith, z))

    cheaper : Costs h w fresh t sees.cost → (c : ℕ) × (suc c ≤ sees.cost) × Costs handed w fresh' t c
    cheaper (Heads f) = absurd (other has (let z : Some u ≡ Some w = sym front ∙ f in cc z))
    cheaper (Queued a at le) =
        let e : suc (a + length h.second) * suc t ≡ suc t + (a + length h.second) * suc t = up (a + length h.second) (suc t) in
        elim (cases_lt a i) [
          | inl lt ↦ (
            (a + length h.second) * suc t + t,
            omega (arith, le, e),
            Aside (length h.second + a) 1
                (get-join_right h.second (take i (drop 1 h.main)) a ∙ get_take (drop 1 h.main) i a w lt (get-drop_one h.main a ∙ at))
                (moved a lt)
                (let one = few (length h.second + a) 1 (moved a lt) in
                let z : length h.second + a ≡ a + length h.second = omega arith in
                let same : (length h.second + a) * suc t ≡ (a + length h.second) * suc t = ap (λ (x : ℕ). x * suc t) z in
                omega (arith, one, same)),
          )
          | inr ge ↦ (
            (a + length h.second) * suc t,
            omega (arith, le, e),
            stays_main a ((a + length h.second) * suc t) ge at (omega arith),
          )
        ]
    cheaper (Next a at was le) = (
      (a + length h.second) * suc t,
      omega (arith, le),
      stays_main a ((a + length h.second) * suc t) (let z = none was in omega (arith, z)) at (omega arith),
    )
    cheaper (Aside s p at seen le) = (
      s * suc t + 1 + (t - suc p),
      (let bound = few s (suc p) (passed_old h.passes i s p seen) in omega (arith, le, bound)),
      Aside s (suc p) (get-join_left h.second (take i (drop 1 h.main)) s w at) (passed_old h.passes i s p seen) (omega arith),
    )

    pub hands : Sees handed w fresh' t late n
    hands =
        let c = cheaper sees.costs in
        let lt = c.1 in
        record {
          cost = c.0;
          costs = c.2;
          yet = sees.yet;
          count = inl (elim sees.count [ inl le ↦ omega (arith, le, lt) | inr le ↦ (let z = le.0 in omega (arith, z, lt)) ]);
        }

  -- no other event brings a take
  pub others : (fresh' : Type 0) → (fresh → fresh') → (what : What) (after : Option Waiter) → IsOther what
      → InOrder rules h u what → OwnsUp h u what
      → (changed h u what).holders ≡ sole after → Sees (changed h u what) w fresh' t late n
  others fresh' keep (Take l way) after other_than order owns held = absurd other_than
  others fresh' keep (Pass l v i) after other_than order owns held = absurd other_than
  others fresh' keep (Flush l) after other_than order owns held = absurd other_than
  others fresh' keep (Promote l) after other_than order owns held = absurd other_than
  others fresh' keep (Leave l) after other_than order owns held = absurd other_than
  others fresh' keep (Release l owing) after other_than order owns held =
      record {
        cost = sees.cost;
        costs = stays fresh' keep (changed h u (Release l owing)) refl refl (λ i v e. e) sees.cost sees.costs;
        yet = λ e. (let z : [] ≡ sole (Some w) = sym empty ∙ e in cc z);
        count = elim sees.count [
          | inl le ↦ inl le
          | inr le ↦
              let same : Some u ≡ Some le.1.by =
              sym (sole_holds holder u Spins h.holders holders owns).0
              ∙ (sole_holds holder le.1.by Spins h.holders holders (holds_sole le.1.by h.holders le.1.holds)).0 in
              absurd (order.0 (in_main h.main (le.1.front ∙ sym same)))
        ];
      }
    where
      is : h.holders ≡ record { waiter = u; manner = Spins } ∷ []
      is = holders ∙ ap sole (sole_holds holder u Spins h.holders holders owns).0

      empty : without u Spins h.holders ≡ []
      empty = ap (without u Spins) is
          ∙ ap (λ (b : Bool). if b then [] else record { waiter = u; manner = Spins } ∷ []) (is_hold-refl u Spins)

      in_main : (ws : List Waiter) → slice_get ws 0 ≡ Some u → Contains ws u
      in_main [] q = cc q
      in_main (v ∷ ws) q = (0, omega arith, (let z : v ≡ u = cc q in z))
  others fresh' keep (Arrive l) after other_than order owns held =
      stand fresh' keep (changed h u (Arrive l)) refl refl (λ i v e. get-append_old h.main u i v e) refl
  others fresh' keep (RTake l way) after other_than order owns held =
      absurd (let z = (one_more h.holders (record { waiter = u; manner = Reads }) after held).1 in cc z)
  others fresh' keep (WTake l way) after other_than order owns held =
      absurd (let z = (one_more h.holders (record { waiter = u; manner = Writes }) after held).1 in cc z)
  others fresh' keep (RRelease l) after other_than order owns held =
      absurd (let z = (sole_holds holder u Reads h.holders holders owns).1 in cc z)
  others fresh' keep (WRelease l) after other_than order owns held =
      absurd (let z = (sole_holds holder u Writes h.holders holders owns).1 in cc z)
  others fresh' keep (Miss l) after other_than order owns held = stand fresh' keep h refl refl (λ i v e. e) refl
  others fresh' keep (Kick p) after other_than order owns held = stand fresh' keep h refl refl (λ i v e. e) refl
  others fresh' keep (Halt l) after other_than order owns held = stand fresh' keep h refl refl (λ i v e. e) refl
  others fresh' keep (Wake l) after other_than order owns held = stand fresh' keep h refl refl (λ i v e. e) refl
  others fresh' keep Int after other_than order owns held = stand fresh' keep h refl refl (λ i v e. e) refl
  others fresh' keep Nudge after other_than order owns held = stand fresh' keep h refl refl (λ i v e. e) refl

  -- a take by another that leaves the queues as they are finds nobody who holds the lock
  module _ (ne : u ≢ w) (after : Option Waiter)
      (held : h.holders ++ record { waiter = u; manner = Spins } ∷ [] ≡ sole after) where
    free : h.holders ≡ []
    free = (one_more h.holders (record { waiter = u; manner = Spins }) after held).0

    low : sees.cost + late ≤ n
    low = elim sees.count [
      | inl le ↦ le
      | inr le ↦ absurd (let z : [] ≡ sole (Some le.1.by) = sym free ∙ le.1.holds in cc z)
    ]

    now : h.holders ++ record { waiter = u; manner = Spins } ∷ [] ≡ sole (Some u)
    now = ap (λ (hs : List Holder). hs ++ record { waiter = u; manner = Spins } ∷ []) free

    yet_now : h.holders ++ record { waiter = u; manner = Spins } ∷ [] ≢ sole (Some w)
    yet_now e = ne (same_sole u w (sym now ∙ e))

    abbrev k : LockHistory
    k = record h { holders = h.holders ++ record { waiter = u; manner = Spins } ∷ [] }

    -- by the head, which stays in the queue
    pub head_takes : (fresh' : Type 0) → (fresh → fresh') → slice_get h.main 0 ≡ Some u
        → (m : ℕ) × (n ≡ suc m) × Sees k w fresh' t late m
    head_takes fresh' keep front =
        let some : 1 ≤ sees.cost = by sees.costs in
        let le = low in (
          n - 1,
          omega (arith, le, some),
          record {
            cost = sees.cost;
            costs = stays fresh' keep k refl refl (λ i v e. e) sees.cost sees.costs;
            yet = yet_now;
            count = inr (omega (arith, le, some), record { by = u; front = front; holds = now });
          },
        )
      where
        by : Costs h w fresh t sees.cost → 1 ≤ sees.cost
        by (Heads f) = absurd (ne (let z : Some u ≡ Some w = sym front ∙ f in cc z))
        by (Queued i at le) =
            let e : suc (i + length h.second) * suc t ≡ suc t + (i + length h.second) * suc t = up (i + length h.second) (suc t) in
            omega (arith, le, e)
        by (Next i at was le) = omega (arith, le)
        by (Aside s p at seen le) = omega (arith, le)

    -- by the pending bit
    pub late_takes : (fresh' : Type 0) → (fresh → fresh') → (j : ℕ) → late ≡ suc j → (m : ℕ) × (n ≡ suc m) × Sees k w fresh' t j m
    late_takes fresh' keep j is =
        let le = low in (
          n - 1,
          omega (arith, le, is),
          record {
            cost = sees.cost;
            costs = stays fresh' keep k refl refl (λ i v e. e) sees.cost sees.costs;
            yet = yet_now;
            count = inl (omega (arith, le, is));
          },
        )
