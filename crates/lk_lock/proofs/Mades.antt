-- A lock more among those to be made, and all of them in a domain.
use Rattle.std.proofs.Common.{◌≡◌, ℕ, ◌+◌, ◌*◌, ◌<◌, List, [], ◌∷◌, ◌++◌, length, Option, Some}
use Rattle.std.proofs.Common.{true, refl, sym, ap, ◌∙◌, subst, slice_get}
use Rattle.std.proofs.lemmas.Option.{slice_get_within, get_or_from_slice_get}
use Rattle.lk_lock.proofs.Names.{TableId, ListOf, Rw, locks_of, Key, keys_of, Plan, AreKeysOf, laid}
use Rattle.lk_names.proofs.ByIndex.{get-append_new, get-append_old}
use Rattle.lk_names.specs.{declared.names.Kind.Kind, declared.names.Kind.TheVariants.Spin}
use Rattle.lk_domain.specs.{Plans.{cpus_of, kind_at}, Values.{cell_of, id_of}}
use Rattle.lk_lock.proofs.Laid.{key_at, laid_at, none_before}
use Rattle.lk_lock.specs.Made.{AreAmong, AreMade, AreSharedMade, Keeps, KeepsShared}
use Rattle.lk_lock.specs.declared.locks.Locks.{Locks}

module _ (old new : Locks) (kind : Kind) (keys : ListOf Key) (kinds : new.kinds.items ≡ old.kinds.items ++ kind ∷ [])
    (more : new.keys.items ≡ old.keys.items ++ keys ∷ []) where
  stays : (k : Kind) (l : ℕ) (cells : List TableId) → AreAmong old k l cells → AreAmong new k l cells
  stays k l cells is =
      record {
        keys = is.keys;
        kind_is = ap (λ (xs : List Kind). slice_get xs l) kinds ∙ get-append_old old.kinds.items kind l k is.kind_is;
        keys_are = ap (λ (xs : List (ListOf Key)). slice_get xs l) more
            ∙ get-append_old old.keys.items keys l is.keys is.keys_are;
        fit = is.fit;
      }

  pub keeps : Keeps old new
  keeps k l cell is = stays k l (cell ∷ []) is

  pub keeps_shared : new.threads ≡ old.threads → (old.copied ≡ true → new.copied ≡ true) → KeepsShared old new
  keeps_shared threads copied l cells is =
      record {
        among = stays Rw l cells is.among;
        many = is.many ∙ ap (λ (n : ℕ). 1 + n) (sym threads);
        copied = copied is.copied;
      }

  pub among : (l : ℕ) (cells : List TableId) → l ≡ length old.kinds.items → length old.keys.items ≡ length old.kinds.items
      → AreKeysOf cells keys.items → AreAmong new kind l cells
  among l cells at same fit =
      record {
        keys = keys;
        kind_is = ap (λ (xs : List Kind). slice_get xs l) kinds
            ∙ (ap (λ (n : ℕ). slice_get (old.kinds.items ++ kind ∷ []) n) at ∙ get-append_new old.kinds.items kind);
        keys_are = ap (λ (xs : List (ListOf Key)). slice_get xs l) more
            ∙ (ap (λ (n : ℕ). slice_get (old.keys.items ++ keys ∷ []) n) (at ∙ sym same) ∙ get-append_new old.keys.items keys);
        fit = fit;
      }

-- the kinds of a plan's locks are those of the locks to be made
pub record HasKinds (locks : Locks) (k : Plan) : Type 0 where
  pub many : locks_of k ≡ length locks.kinds.items
  pub each : (l : ℕ) (kind : Kind) → slice_get locks.kinds.items l ≡ Some kind → kind_at k l ≡ kind

-- where they are the same list
pub same_kinds : (locks : Locks) (k : Plan) → k.locks.items ≡ locks.kinds.items → HasKinds locks k
same_kinds locks k same =
    record {
      many = ap (λ (xs : List Kind). length xs) same;
      each = λ l kind is.
          get_or_from_slice_get k.locks.items l kind Spin (ap (λ (xs : List Kind). slice_get xs l) same ∙ is);
    }

-- a domain of these locks has them
module _ (locks : Locks) (k : Plan) (n : ℕ) (kinds : HasKinds locks k)
    (keys : keys_of k ≡ laid n locks.keys.items) (same : length locks.keys.items ≡ length locks.kinds.items) where
  low : (kind : Kind) (l : ℕ) (cells : List TableId) → AreAmong locks kind l cells → l < locks_of k
  low kind l cells is =
      subst (λ (m : ℕ). l < m) (sym kinds.many) (slice_get_within locks.kinds.items l kind is.kind_is)

  many : length locks.keys.items ≡ locks_of k
  many = same ∙ sym kinds.many

  cell_at : (kind : Kind) (l h : ℕ) (cells : List TableId) (cell : TableId) → AreAmong locks kind l cells → h < n
      → slice_get cells h ≡ Some cell → cell_of k (h * locks_of k + l) ≡ Some cell
  cell_at kind l h cells cell is less here =
      let key = key_at cells is.keys.items h cell is.fit here in
      ap (λ (xs : List (Option Key)). id_of (slice_get xs (h * locks_of k + l))) keys
      ∙ (ap (λ (m : ℕ). id_of (slice_get (laid n locks.keys.items) (h * m + l))) (sym many)
      ∙ (ap id_of (laid_at n h l locks.keys.items is.keys key.0 less is.keys_are key.1) ∙ ap Some key.2.0))

  pub made : 0 < n → AreMade locks k
  made some kind l cell is =
      record {
        low = low kind l (cell ∷ []) is;
        kind_is = kinds.each l kind is.kind_is;
        cell_is = ap (λ (q : ℕ). cell_of k q) (sym (none_before (locks_of k) l)) ∙ cell_at kind l 0 (cell ∷ []) cell is some refl;
      }

  pub shared_made : (locks.copied ≡ true → n ≡ 1 + locks.threads) → cpus_of k ≡ locks.threads → AreSharedMade locks k
  shared_made copied cpus l cells is =
      record {
        low = low Rw l cells is.among;
        kind_is = kinds.each l Rw is.among.kind_is;
        many = is.many ∙ ap (λ (m : ℕ). 1 + m) (sym cpus);
        cells_are = λ h cell here. cell_at Rw l h cells cell is.among
            (subst (λ (m : ℕ). h < m) (is.many ∙ sym (copied is.copied)) (slice_get_within cells h cell here)) here;
      }
