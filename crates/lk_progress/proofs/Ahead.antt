-- What an event makes of the place of a waiter in a queue, and of the takes that it may still see.
use Rattle.std.proofs.Common.{◌≡◌, ◌≢◌, ◌⊎◌, inl, inr, ℕ, zero, suc, ◌<◌, ◌≤◌, ◌+◌, Option, Some}
use Rattle.std.proofs.Common.{None, Bool, false, refl, sym, ap, ◌∙◌, subst, arith, List, [], ◌∷◌}
use Rattle.std.proofs.Common.{◌++◌, slice_get, drop, take, Contains, slice_index_or, if◌then◌else◌}
use Rattle.std.proofs.Common.{◌-◌}
use Rattle.lk_progress.proofs.Names.{get-append_old, get-drop_one, LockHistory, changed, Holds}
use Rattle.lk_progress.proofs.Names.{InOrder, Rules, How, What, Arrive, Flush, Halt, Int, Kick}
use Rattle.lk_progress.proofs.Names.{Leave, Miss, Nudge, Pass, Promote, RRelease, RTake, Release}
use Rattle.lk_progress.proofs.Names.{Take, WRelease, WTake, Wake, Holder, Reads, Spins, LockName}
use Rattle.lk_progress.proofs.Names.{Mode, Cna, Native, Pv, Virt, Waiter, sole, moves_aside}
use Rattle.lk_names.specs.{History.without, Lawful.{HoldsSo, OwnsUp, lawful_moves}}
use Rattle.lk_names.specs.{declared.holder.Manner.Manner, declared.holder.Manner.TheVariants.Writes}
use Rattle.lk_abs.proofs.Sameness.{is_hold-refl}

-- one who holds a spinlock is its one holder
pub sole_holds : (o : Option Waiter) (u : Waiter) (m : Manner) (hs : List Holder) → hs ≡ sole o
    → Contains hs (record { waiter = u; manner = m }) → (o ≡ Some u) × (m ≡ Spins)
sole_holds o u m hs e has = by o (subst (λ (xs : List Holder). Contains xs (record { waiter = u; manner = m })) e has)
  where
    by : (o : Option Waiter) → Contains (sole o) (record { waiter = u; manner = m }) → (o ≡ Some u) × (m ≡ Spins)
    by None has = absurd (let lt = has.1 in omega (arith, lt))
    by (Some v) has = at has.0 has.1 has.2
      where
        at : (k : ℕ) → k < 1 → slice_index_or (sole (Some v)) k (record { waiter = u; manner = m }) ≡ record { waiter = u; manner = m }
            → (Some v ≡ Some u) × (m ≡ Spins)
        at zero lt is = (ap (λ (x : Holder). Some x.waiter) is, ap (λ (x : Holder). x.manner) (sym is))
        at (suc k) lt is = absurd (omega (arith, lt))

-- and its one holder holds it
pub holds_sole : (u : Waiter) (hs : List Holder) → hs ≡ sole (Some u) → Contains hs (record { waiter = u; manner = Spins })
holds_sole u hs e =
    subst (λ (xs : List Holder). Contains xs (record { waiter = u; manner = Spins })) (sym e) (0, omega arith, refl)

-- with one more there is one
pub one_more : (hs : List Holder) (x : Holder) (o : Option Waiter) → hs ++ x ∷ [] ≡ sole o → (hs ≡ []) × (x.manner ≡ Spins)
one_more [] x None e = cc e
one_more [] x (Some v) e = (refl, (let z : x ≡ record { waiter = v; manner = Spins } = cc e in ap (λ (y : Holder). y.manner) z))
one_more (h ∷ hs) x None e = cc e
one_more (h ∷ []) x (Some v) e = cc e
one_more (h ∷ g ∷ hs) x (Some v) e = cc e

pub same_sole : (u v : Waiter) → sole (Some u) ≡ sole (Some v) → u ≡ v
same_sole u v e =
    (let z : record { waiter = u; manner = Spins } ≡ record { waiter = v; manner = Spins } = cc e in ap (λ (x : Holder). x.waiter) z)

whole_again : (ws second : List Waiter) → second ≡ [] → take 1 ws ++ (second ++ drop 1 ws) ≡ ws
whole_again ws second e = ap (λ (vs : List Waiter). take 1 ws ++ (vs ++ drop 1 ws)) e ∙ by ws
  where
    by : (ws : List Waiter) → take 1 ws ++ ([] ++ drop 1 ws) ≡ ws
    by [] = refl
    by (w ∷ ws) = refl

-- The head holds the lock.
pub record FrontHolds (h : LockHistory) : Type 0 where
  pub by : Waiter
  pub front : slice_get h.main 0 ≡ Some by
  pub holds : h.holders ≡ sole (Some by)

-- The waiter stands in the queue and does not hold the lock, and it sees at most n takes before its own,
-- of which so many are by the pending bit: a head that holds the lock has made its own already.
pub record Sees (h : LockHistory) (w : Waiter) (late n : ℕ) : Type 0 where
  pub before : ℕ
  pub place : slice_get h.main before ≡ Some w
  pub yet : h.holders ≢ sole (Some w)
  pub count : (before + late ≤ n) ⊎ ((before + late ≤ suc n) × FrontHolds h)

-- where nobody is moved aside a handoff moves nobody
moves_none : (rules : Rules) (main : List Waiter) → moves_aside rules.mode ≡ false → lawful_moves rules main ≡ 0
moves_none rules main plain = by rules.mode refl
  where
    by : (mode : Mode) → rules.mode ≡ mode → lawful_moves rules main ≡ 0
    by Virt e = rw e refl
    by Native e = rw e refl
    by Pv e = rw e refl
    by Cna e = absurd (let z = ap moves_aside e in cc (z, plain))

module _ (rules : Rules) (h : LockHistory) (u w : Waiter) (late n : ℕ) (plain : moves_aside rules.mode ≡ false)
    (holder : Option Waiter) (holders : h.holders ≡ sole holder) (single : h.second ≡ []) (sees : Sees h w late n) where
  -- who holds the lock is not w
  other : Holds h u → u ≢ w
  other has e =
      sees.yet (holders ∙ ap sole ((sole_holds holder u has.0 h.holders holders has.1).0 ∙ ap Some e))

  -- a head that is not w stands before it
  behind : slice_get h.main 0 ≡ Some u → u ≢ w → (b : ℕ) × (sees.before ≡ suc b)
  behind front ne = by sees.before sees.place refl
    where
      by : (i : ℕ) → slice_get h.main i ≡ Some w → sees.before ≡ i → (b : ℕ) × (sees.before ≡ suc b)
      by zero at e = absurd (ne (let z : Some u ≡ Some w = sym front ∙ at in cc z))
      by (suc b) at e = (b, e)

  -- the head leaves
  leaves : (k : LockHistory) → k.main ≡ drop 1 h.main → k.holders ≢ sole (Some w) → (b : ℕ) → sees.before ≡ suc b
      → (m : ℕ) → b + late ≤ m → Sees k w late m
  leaves k main yet b e m le =
      record {
        before = b;
        place = ap (λ (ws : List Waiter). slice_get ws b) main ∙ get-drop_one h.main b
            ∙ ap (slice_get h.main) (sym e) ∙ sees.place;
        yet = yet;
        count = inl le;
      }

  -- the queue and the holders stay
  stays : (k : LockHistory) → k.main ≡ h.main → k.holders ≡ h.holders → Sees k w late n
  stays k main hold =
      record {
        before = sees.before;
        place = ap (λ (ws : List Waiter). slice_get ws sees.before) main ∙ sees.place;
        yet = λ e. sees.yet (sym hold ∙ e);
        count = elim sees.count [
          | inl le ↦ inl le
          | inr le ↦ inr (
            le.0,
            record {
              by = le.1.by;
              front = ap (λ (ws : List Waiter). slice_get ws 0) main ∙ le.1.front;
              holds = hold ∙ le.1.holds;
            },
          )
        ];
      }

  -- the head hands off, or leaves
  hands : (k : LockHistory) → k.main ≡ drop 1 h.main → k.holders ≡ h.holders → slice_get h.main 0 ≡ Some u → Holds h u
      → Sees k w late n
  hands k main hold front has =
      let b = behind front (other has) in
      let e = b.1 in
      leaves k main (λ z. sees.yet (sym hold ∙ z)) b.0 b.1 n
      (elim sees.count [ inl le ↦ omega (arith, le, e) | inr le ↦ (let z = le.0 in omega (arith, z, e)) ])

  -- no event but a take brings a take
  pub others : (what : What) (after : Option Waiter) → ((l : LockName) (way : How) → what ≢ Take l way)
      → InOrder rules h u what → OwnsUp h u what
      → (changed h u what).holders ≡ sole after → Sees (changed h u what) w late n
  others (Take l way) after other_than order owns held = absurd (other_than l way refl)
  others (Release l owing) after other_than order owns held =
      record {
        before = sees.before;
        place = sees.place;
        yet = λ e. (let z : [] ≡ sole (Some w) = sym empty ∙ e in cc z);
        count = elim sees.count [
          | inl le ↦ inl le
          | inr le ↦
              let same : Some u ≡ Some le.1.by =
              sym (sole_holds holder u Spins h.holders holders owns).0
              ∙ (sole_holds holder le.1.by Spins h.holders holders (held_by le.1)).0 in
              absurd (order.0 (in_main le.1 (cc same)))
        ];
      }
    where
      is : h.holders ≡ record { waiter = u; manner = Spins } ∷ []
      is = holders ∙ ap sole (sole_holds holder u Spins h.holders holders owns).0

      empty : without u Spins h.holders ≡ []
      empty = ap (without u Spins) is
          ∙ ap (λ (b : Bool). if b then [] else record { waiter = u; manner = Spins } ∷ []) (is_hold-refl u Spins)

      held_by : (x : FrontHolds h) → HoldsSo h x.by Spins
      held_by x = holds_sole x.by h.holders x.holds

      in_main : (x : FrontHolds h) → u ≡ x.by → Contains h.main u
      in_main x e = first h.main (x.front ∙ ap Some (sym e))
        where
          first : (ws : List Waiter) → slice_get ws 0 ≡ Some u → Contains ws u
          first [] q = cc q
          first (v ∷ ws) q = (0, omega arith, (let z : v ≡ u = cc q in z))
  others (Arrive l) after other_than order owns held =
      record {
        before = sees.before;
        place = get-append_old h.main u sees.before w sees.place;
        yet = sees.yet;
        count = elim sees.count [
          | inl le ↦ inl le
          | inr le ↦ inr (
            le.0,
            record {
              by = le.1.by;
              front = get-append_old h.main u 0 le.1.by le.1.front;
              holds = le.1.holds;
            },
          )
        ];
      }
  others (Pass l to k) after other_than order owns held =
      let none : k ≡ 0 = (let z = moves_none rules h.main plain in let le = order.2 in omega (arith, z, le)) in
      hands (changed h u (Pass l to k)) (ap (λ (i : ℕ). drop (suc i) h.main) none) refl order.0 order.1
  others (Flush l) after other_than order owns held = stays (changed h u (Flush l)) (whole_again h.main h.second single) refl
  others (Promote l) after other_than order owns held = stays (changed h u (Promote l)) (whole_again h.main h.second single) refl
  others (Leave l) after other_than order owns held = hands (changed h u (Leave l)) refl refl order.0 order.1
  others (RTake l way) after other_than order owns held =
      absurd (let z = (one_more h.holders (record { waiter = u; manner = Reads }) after held).1 in cc z)
  others (WTake l way) after other_than order owns held =
      absurd (let z = (one_more h.holders (record { waiter = u; manner = Writes }) after held).1 in cc z)
  others (RRelease l) after other_than order owns held =
      absurd (let z = (sole_holds holder u Reads h.holders holders owns).1 in cc z)
  others (WRelease l) after other_than order owns held =
      absurd (let z = (sole_holds holder u Writes h.holders holders owns).1 in cc z)
  others (Miss l) after other_than order owns held = sees
  others (Kick p) after other_than order owns held = sees
  others (Halt l) after other_than order owns held = sees
  others (Wake l) after other_than order owns held = sees
  others Int after other_than order owns held = sees
  others Nudge after other_than order owns held = sees

  -- a take by another finds nobody who holds the lock
  module _ (ne : u ≢ w) (after : Option Waiter)
      (held : h.holders ++ record { waiter = u; manner = Spins } ∷ [] ≡ sole after) where
    free : h.holders ≡ []
    free = (one_more h.holders (record { waiter = u; manner = Spins }) after held).0

    low : sees.before + late ≤ n
    low = elim sees.count [
      | inl le ↦ le
      | inr le ↦ absurd (let z : [] ≡ sole (Some le.1.by) = sym free ∙ le.1.holds in cc z)
    ]

    now : h.holders ++ record { waiter = u; manner = Spins } ∷ [] ≡ sole (Some u)
    now = ap (λ (hs : List Holder). hs ++ record { waiter = u; manner = Spins } ∷ []) free

    yet_now : h.holders ++ record { waiter = u; manner = Spins } ∷ [] ≢ sole (Some w)
    yet_now e = ne (same_sole u w (sym now ∙ e))

    -- by the head, which stays in the queue
    pub head_takes : slice_get h.main 0 ≡ Some u
        → (m : ℕ) × (n ≡ suc m)
        × Sees (record h { holders = h.holders ++ record { waiter = u; manner = Spins } ∷ [] }) w late m
    head_takes front =
        let b = behind front ne in
        let le = low in let e = b.1 in (
          n - 1,
          omega (arith, le, e),
          record {
            before = sees.before;
            place = sees.place;
            yet = yet_now;
            count = inr (omega (arith, le, e), record { by = u; front = front; holds = now });
          },
        )

    -- by the head, which leaves the queue
    pub sole_takes : slice_get h.main 0 ≡ Some u
        → (m : ℕ) × (n ≡ suc m)
        × Sees (record h { holders = h.holders ++ record { waiter = u; manner = Spins } ∷ []; main = drop 1 h.main }) w late m
    sole_takes front =
        let b = behind front ne in
        let le = low in let e = b.1 in (
          n - 1,
          omega (arith, le, e),
          leaves (record h { holders = h.holders ++ record { waiter = u; manner = Spins } ∷ []; main = drop 1 h.main }) refl yet_now
              b.0 b.1 (n - 1) (omega (arith, le, e)),
        )

    -- by the pending bit
    pub late_takes : (k : ℕ) → late ≡ suc k
        → (m : ℕ) × (n ≡ suc m)
        × Sees (record h { holders = h.holders ++ record { waiter = u; manner = Spins } ∷ [] }) w k m
    late_takes k is =
        let le = low in (
          n - 1,
          omega (arith, le, is),
          record {
            before = sees.before;
            place = sees.place;
            yet = yet_now;
            count = inl (omega (arith, le, is));
          },
        )
