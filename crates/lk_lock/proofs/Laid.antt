-- Keys of cells in the order of a domain's homes.
use Rattle.std.proofs.Common.{◌≡◌, ℕ, zero, suc, ◌+◌, ◌*◌, ◌<◌, List, [], ◌∷◌, ◌++◌, length, Option}
use Rattle.std.proofs.Common.{Some, None, false, refl, sym, ap, ◌∙◌, subst, arith, slice_get}
use Rattle.std.proofs.Common.{slice_set}
use Rattle.std.proofs.Math.Nat.{suc-mul, zero-add}
use Rattle.std.specs.Prelude.{unwrap_or}
use Rattle.lk_lock.proofs.Names.{TableId, ListOf, Rw, IsKey, locks_of, Key, Plan, AreKeysOf}
use Rattle.lk_lock.proofs.Names.{all_behind, firsts, laid, names_of}
use Rattle.lk_cell.specs.declared.cell.KeyCell.{KeyCell}
use Rattle.lk_domain.specs.Values.{AreShut, cell_of}
use Rattle.lk_lock.specs.Cells.{AllShut, EachShut, behind, later}
use Rattle.lk_lock.specs.Standing.{IsSharedUnder, IsUnder}

-- each cell has its key at its place
pub key_at : (cells : List TableId) (keys : List Key) (h : ℕ) (cell : TableId) → AreKeysOf cells keys
    → slice_get cells h ≡ Some cell → (key : Key) × (slice_get keys h ≡ Some key) × IsKey cell key
key_at [] keys h cell fit e = absurd (let z : ⊥ = cc e in z)
key_at (c ∷ cells) [] h cell fit e = absurd fit
key_at (c ∷ cells) (key ∷ keys) zero cell fit e =
    (key, refl, subst (λ (x : TableId). IsKey x key) (ap (λ (o : Option TableId). unwrap_or o c) e) fit.0)
key_at (c ∷ cells) (key ∷ keys) (suc h) cell fit e = key_at cells keys h cell fit.1 e

-- one more cell, and its key
pub one_more : (cells : List TableId) (keys : List Key) (cell : TableId) (key : Key) → AreKeysOf cells keys
    → IsKey cell key → AreKeysOf (cells ++ cell ∷ []) (keys ++ key ∷ [])
one_more [] [] cell key fit is = (is, tt)
one_more [] (x ∷ keys) cell key fit is = absurd fit
one_more (c ∷ cells) [] cell key fit is = absurd fit
one_more (c ∷ cells) (x ∷ keys) cell key fit is = (fit.0, one_more cells keys cell key fit.1 is)

-- the keys of cells are of cells that are shut
pub are_shut : (cells : List TableId) (keys : List Key) → AreKeysOf cells keys → EachShut keys
are_shut [] [] fit h key e = absurd (let z : ⊥ = cc e in z)
are_shut [] (x ∷ keys) fit h key e = absurd fit
are_shut (c ∷ cells) [] fit h key e = absurd fit
are_shut (c ∷ cells) (x ∷ keys) fit zero key e =
    subst (λ (y : Key). y.views ≡ false ∷ []) (ap (λ (o : Option Key). unwrap_or o x) e) fit.0.1
are_shut (c ∷ cells) (x ∷ keys) fit (suc h) key e = are_shut cells keys fit.1 h key e

-- so are those that are left, and those that are laid out

later_shut : (keys : List Key) → EachShut keys → EachShut (later keys)
later_shut [] are h key e = absurd (let z : ⊥ = cc e in z)
later_shut (x ∷ keys) are h key e = are (suc h) key e

behind_shut : (all : List (ListOf Key)) → AllShut all → AllShut (all_behind all)
behind_shut [] are l ks e = absurd (let z : ⊥ = cc e in z)
behind_shut (x ∷ all) are zero ks e =
    subst (λ (xs : ListOf Key). EachShut xs.items) (ap (λ (o : Option (ListOf Key)). unwrap_or o (behind x)) e)
    (later_shut x.items (are zero x refl))
behind_shut (x ∷ all) are (suc l) ks e = behind_shut all (λ n. are (suc n)) l ks e

firsts_shut : (all : List (ListOf Key)) → AllShut all → AreShut (firsts all)
firsts_shut [] are q key e = absurd (let z : ⊥ = cc e in z)
firsts_shut (x ∷ all) are zero key e = are zero x refl zero key (ap (λ (o : Option (Option Key)). unwrap_or o None) e)
firsts_shut (x ∷ all) are (suc q) key e = firsts_shut all (λ n. are (suc n)) q key e

joined_shut : (xs ys : List (Option Key)) → AreShut xs → AreShut ys → AreShut (xs ++ ys)
joined_shut [] ys these those q key e = those q key e
joined_shut (x ∷ xs) ys these those zero key e = these zero key e
joined_shut (x ∷ xs) ys these those (suc q) key e = joined_shut xs ys (λ n. these (suc n)) those q key e

pub laid_shut : (n : ℕ) (all : List (ListOf Key)) → AllShut all → AreShut (laid n all)
laid_shut zero all are q key e = absurd (let z : ⊥ = cc e in z)
laid_shut (suc n) all are q key e =
    joined_shut (firsts all) (laid n (all_behind all)) (firsts_shut all are) (laid_shut n (all_behind all) (behind_shut all are)) q key e

-- key h of lock l is laid into the home h * (number of locks) + l

pub many_firsts : (all : List (ListOf Key)) → length (firsts all) ≡ length all
many_firsts [] = refl
many_firsts (x ∷ all) = ap suc (many_firsts all)

pub many_behind : (all : List (ListOf Key)) → length (all_behind all) ≡ length all
many_behind [] = refl
many_behind (x ∷ all) = ap suc (many_behind all)

within : {A : Type 0} (xs ys : List A) (i : ℕ) (x : A) → slice_get xs i ≡ Some x → slice_get (xs ++ ys) i ≡ Some x
within [] ys i x e = absurd (let z : ⊥ = cc e in z)
within (y ∷ xs) ys zero x e = e
within (y ∷ xs) ys (suc i) x e = within xs ys i x e

past : {A : Type 0} (xs ys : List A) (i : ℕ) → slice_get (xs ++ ys) (length xs + i) ≡ slice_get ys i
past [] ys i = ap (λ (n : ℕ). slice_get ys n) (zero-add i)
past (x ∷ xs) ys i =
    let next : suc (length xs) + i ≡ suc (length xs + i) = omega arith in
    ap (λ (n : ℕ). slice_get (x ∷ (xs ++ ys)) n) next ∙ past xs ys i

first_at : (all : List (ListOf Key)) (l : ℕ) (keys : ListOf Key) → slice_get all l ≡ Some keys
    → slice_get (firsts all) l ≡ Some (slice_get keys.items 0)
first_at [] l keys e = absurd (let z : ⊥ = cc e in z)
first_at (x ∷ all) zero keys e =
    ap (λ (xs : ListOf Key). Some (slice_get xs.items 0)) (ap (λ (o : Option (ListOf Key)). unwrap_or o x) e)
first_at (x ∷ all) (suc l) keys e = first_at all l keys e

behind_at : (all : List (ListOf Key)) (l : ℕ) (keys : ListOf Key) → slice_get all l ≡ Some keys
    → slice_get (all_behind all) l ≡ Some (behind keys)
behind_at [] l keys e = absurd (let z : ⊥ = cc e in z)
behind_at (x ∷ all) zero keys e =
    ap (λ (xs : ListOf Key). Some (behind xs)) (ap (λ (o : Option (ListOf Key)). unwrap_or o x) e)
behind_at (x ∷ all) (suc l) keys e = behind_at all l keys e

later_at : (keys : List Key) (h : ℕ) (key : Key) → slice_get keys (suc h) ≡ Some key → slice_get (later keys) h ≡ Some key
later_at [] h key e = absurd (let z : ⊥ = cc e in z)
later_at (x ∷ keys) h key e = e

row : (h n l : ℕ) → suc h * n + l ≡ n + (h * n + l)
row h n l = let z = suc-mul h n in omega (arith, z)

pub none_before : (n l : ℕ) → 0 * n + l ≡ l
none_before n l = omega arith

pub laid_at : (n h l : ℕ) (all : List (ListOf Key)) (keys : ListOf Key) (key : Key) → h < n
    → slice_get all l ≡ Some keys → slice_get keys.items h ≡ Some key
    → slice_get (laid n all) (h * length all + l) ≡ Some (Some key)
laid_at zero h l all keys key less here is = absurd (omega (arith, less))
laid_at (suc n) zero l all keys key less here is =
    ap (λ (i : ℕ). slice_get (firsts all ++ laid n (all_behind all)) i) (none_before (length all) l)
    ∙ within (firsts all) (laid n (all_behind all)) l (Some key) (first_at all l keys here ∙ ap Some is)
laid_at (suc n) (suc h) l all keys key less here is =
    ap (λ (i : ℕ). slice_get (firsts all ++ laid n (all_behind all)) i)
    (row h (length all) l ∙ ap (λ (i : ℕ). i + (h * length all + l)) (sym (many_firsts all)))
    ∙ (past (firsts all) (laid n (all_behind all)) (h * length all + l)
    ∙ (ap (λ (m : ℕ). slice_get (laid n (all_behind all)) (h * m + l)) (sym (many_behind all))
    ∙ laid_at n h l (all_behind all) (behind keys) key (omega (arith, less)) (behind_at all l keys here)
    (later_at keys.items h key is)))

-- the first key of one more lock is taken

pub long : (done left : List (ListOf Key)) → length (all_behind done ++ left) ≡ length (done ++ left)
long [] left = refl
long (x ∷ done) left = ap suc (long done left)

pub next_left : (done left : List (ListOf Key)) (x : ListOf Key) → slice_get (all_behind done ++ left) (length done) ≡ Some x
    → (more : List (ListOf Key)) × (left ≡ x ∷ more)
next_left [] [] x e = absurd (let z : ⊥ = cc e in z)
next_left [] (y ∷ left) x e = (left, ap (λ (o : Option (ListOf Key)). unwrap_or o x ∷ left) e)
next_left (y ∷ done) left x e = next_left done left x e

pub set_at : (done more : List (ListOf Key)) (x : ListOf Key)
    → slice_set (all_behind done ++ x ∷ more) (length done) (behind x) ≡ all_behind (done ++ x ∷ []) ++ more
set_at [] more x = refl
set_at (y ∷ done) more x = ap (λ (xs : List (ListOf Key)). behind y ∷ xs) (set_at done more x)

pub firsts_more : (done : List (ListOf Key)) (x : ListOf Key) → firsts done ++ slice_get x.items 0 ∷ [] ≡ firsts (done ++ x ∷ [])
firsts_more [] x = refl
firsts_more (y ∷ done) x = ap (λ (xs : List (Option Key)). slice_get y.items 0 ∷ xs) (firsts_more done x)

-- the names of cells

pub many_names : {T F : Type 0} (cells : List (KeyCell T F)) → length (names_of cells) ≡ length cells
many_names [] = refl
many_names (x ∷ cells) = ap suc (many_names cells)

pub one_named : {T F : Type 0} (cells : List (KeyCell T F)) (cell : KeyCell T F)
    → names_of (cells ++ cell ∷ []) ≡ names_of cells ++ cell.table.shared.table_id ∷ []
one_named [] cell = refl
one_named (x ∷ cells) cell = ap (λ (xs : List TableId). x.table.shared.table_id ∷ xs) (one_named cells cell)

pub name_at : {T F : Type 0} (cells : List (KeyCell T F)) (i : ℕ) (cell : KeyCell T F) → slice_get cells i ≡ Some cell
    → slice_get (names_of cells) i ≡ Some cell.table.shared.table_id
name_at [] i cell e = absurd (let z : ⊥ = cc e in z)
name_at {T} {F} (x ∷ cells) zero cell e =
    ap (λ (c : KeyCell T F). Some c.table.shared.table_id) (ap (λ (o : Option (KeyCell T F)). unwrap_or o x) e)
name_at (x ∷ cells) (suc i) cell e = name_at cells i cell e

-- there is one for each processor's copy

some_at : {A : Type 0} (xs : List A) (i : ℕ) → i < length xs → (x : A) × (slice_get xs i ≡ Some x)
some_at [] i low = absurd (omega (arith, low))
some_at (x ∷ xs) zero low = (x, refl)
some_at (x ∷ xs) (suc i) low = some_at xs i (omega (arith, low))

-- it has its own value as any lock has
pub own_under : (k : Plan) (l : ℕ) (cells : List TableId) (cell : TableId) → IsSharedUnder k l cells
    → slice_get cells 0 ≡ Some cell → IsUnder k Rw l cell
own_under k l cells cell is here =
    record {
      low = is.low;
      kind_is = is.kind_is;
      cell_is = ap (λ (q : ℕ). cell_of k q) (sym (none_before (locks_of k) l)) ∙ is.cells_are 0 cell here;
    }
