-- A value that is worked on where it lies: its key goes out with the seat, and comes home.
use Rattle.std.proofs.Common.{◌≡◌, ℕ, List, ◌∷◌, Some, None, sym, ap, ◌∙◌, subst, get_or}
use Rattle.lk_domain.proofs.Names.{rest, Hold, Slot, IsClear, IsHomeAt, IsNewestAt, Key, bringing}
use Rattle.lk_domain.proofs.Names.{lock_of, taking, Plan, CellKey, View}
use Rattle.lk_domain.proofs.seats.Marks.{mark_back}

-- one slot lies at the head of a list

pub head_is : {n : ℕ} {x : Slot} {xs ys : List (ℕ × Slot)} → xs ≡ (n, x) ∷ ys → xs ≡ (n, x) ∷ rest xs
head_is {n} {x} at = at ∙ ap (λ (l : List (ℕ × Slot)). (n, x) ∷ rest l) (sym at)

pub same_head : {x y : Slot} {xs ys zs : List (ℕ × Slot)} (n : ℕ) → xs ≡ (n, x) ∷ ys → xs ≡ (n, y) ∷ zs → x ≡ y
same_head n a b = ap (λ (l : List (ℕ × Slot)). (get_or l 0 (0, None)).1) (sym a ∙ b)

pub same_key : {a b : Key} → ◌≡◌ {A = Slot} (Some (CellKey a)) (Some (CellKey b)) → a ≡ b
same_key {a} {b} e = ap key_in e
  where
    key_in : Slot → Key
    key_in (Some (CellKey key)) = key
    key_in _ = a

module _ (k : Plan) (q : ℕ) (old out : View) (plan : old.who.plan ≡ k)
    (taken : out ≡ taking (lock_of old.who.plan q) q old) where
  -- its value is the newest that is out
  pub taken_newest : IsClear old.who.plan (lock_of old.who.plan q) old.who.outs → IsNewestAt k (lock_of k q) q out.who.outs
  taken_newest apart =
      record {
        others = old.who.outs;
        is = ap (λ (v : View). v.who.outs) taken;
        apart = subst (λ (j : Plan). IsClear j (lock_of j q) old.who.outs) plan apart;
      }

  -- once it is home, the seat knows what it knew
  pub came_back : IsHomeAt k q old.who.number old.calls.holds → bringing (lock_of out.who.plan q) out ≡ old
  came_back home =
      (λ i. bringing (lock_of ((ap (λ (v : View). v.who.plan) taken ∙ plan) i) q) (taken i))
      ∙ (ap (λ (j : Plan). bringing (lock_of k q) (taking (lock_of j q) q old)) plan
      ∙ ap (λ (hs : List Hold). record old { calls = record old.calls { holds = hs } }) (mark_back (lock_of k q) home.manner old.calls.holds home.held))
