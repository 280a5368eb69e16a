-- The keys of a domain that is closed.
use Rattle.std.proofs.Common.{◌≡◌, ℕ, zero, suc, ◌<◌, List, [], ◌∷◌, length, Option, Some, None}
use Rattle.std.proofs.Common.{refl, sym, ap, ◌∙◌, subst, arith, slice_get, slice_index_or}
use Rattle.lk_lock.proofs.Names.{TableId, Rw, IsKey, Key, keys_of, Plan}
use Rattle.lk_domain.specs.Values.{Slot, Fits, AreLaid, id_of, lodged}
use Rattle.lk_domain.specs.declared.slot.Stowed.TheVariants.{CellKey}
use Rattle.lk_lock.proofs.Laid.{own_under}
use Rattle.lk_lock.specs.{Ended.{HasAllKeys, HasKeyOf}, Standing.IsSharedUnder}
use Rattle.lk_lock.specs.declared.keys.Keys.{Keys}

-- what stands at a place of the list
record StandsAt (xs : List (Option Key)) (l : ℕ) : Type 0 where
  item : Option Key
  is : slice_get xs l ≡ Some item
  same : (d : Option Key) → slice_index_or xs l d ≡ item

at : (xs : List (Option Key)) (l : ℕ) → l < length xs → StandsAt xs l
at [] l low = absurd (omega (arith, low))
at (x ∷ xs) zero low = record { item = x; is = refl; same = λ d. refl }
at (x ∷ xs) (suc l) low =
    let more = at xs l (omega (arith, low)) in
    record { item = more.item; is = more.is; same = more.same }

-- a home that has a cell is one of those for which the domain was made with keys
within : (xs : List (Option Key)) (l : ℕ) (cell : TableId) → id_of (slice_get xs l) ≡ Some cell → l < length xs
within [] l cell e = absurd (let z : ⊥ = cc e in z)
within (x ∷ xs) zero cell e = omega arith
within (x ∷ xs) (suc l) cell e = let more = within xs l cell e in omega (arith, more)

-- a slot that fits has a key
key_in : (cell : TableId) (x : Option Key) → Fits (Some cell) (lodged x)
    → (key : Key) × (x ≡ Some key) × IsKey cell key
key_in cell None fits = absurd (let e : None ≡ Some (CellKey fits.0) = fits.1 in let z : ⊥ = cc e in z)
key_in cell (Some key) fits = (key, refl, subst (λ (k : Key). IsKey cell k) (sym (ap got fits.1)) fits.2)
  where
    got : Slot → Key
    got (Some (CellKey k)) = k
    got _ = key

-- each lock of the domain has its key among them
pub all_keys : (k : Plan) (keys : Keys) → AreLaid k keys.by_lock.items → HasAllKeys k keys
all_keys k keys laid kind l cell is =
    let xs = keys.by_lock.items in
    let low = within (keys_of k) l cell is.cell_is in
    let here = at xs l (subst (λ (n : ℕ). l < n) (sym laid.0) low) in
    let found = key_in cell here.item
    (subst (λ (x : Option Key). Fits (Some cell) (lodged x)) (here.same None)
    (subst (λ (o : Option TableId). Fits o (lodged (slice_index_or xs l None))) is.cell_is (laid.1 l None low))) in
    record { key = found.0; key_is = here.is ∙ ap Some found.1; opens = found.2 }

-- and a lock whose value readers share has that of its own value
pub shared_key : (k : Plan) (keys : Keys) (l : ℕ) (cells : List TableId) → HasAllKeys k keys → IsSharedUnder k l cells
    → (cell : TableId) × (slice_get cells 0 ≡ Some cell) × HasKeyOf keys l cell
shared_key k keys l [] all is = let many = is.many in absurd (omega (arith, many))
shared_key k keys l (c ∷ cs) all is =
    (c, refl, all Rw l c (own_under k l (c ∷ cs) c is refl))
