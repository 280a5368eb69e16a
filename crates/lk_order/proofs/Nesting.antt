-- One operation more is looked at, and all are.
use Rattle.std.proofs.Common.{◌≡◌, ◌≢◌, ◌<◌, ◌≤◌, ◌+◌, ◌⊎◌, inl, inr, ℕ, zero, suc, Some, None, Bool, true, List, [], ◌∷◌, length, refl, sym, ap, ◌∙◌, subst, arith}
use Rattle.std.specs.Prelude.{slice_get, is_some}
use Rattle.std.proofs.lemmas.Bool.{cases_lt, ne_eqb}
use Rattle.std.proofs.lemmas.Option.{none-some, same_Some, slice_get_within}
use Rattle.lk_names.specs.declared.holder.Manner.{Manner}
use Rattle.lk_names.specs.declared.names.Kind.{Kind}
use Rattle.lk_rows.specs.declared.setup.Op.{Op}
use Rattle.lk_rows.specs.declared.setup.Verb.TheVariants.{Read}
use Rattle.lk_rows.specs.Programs.{IsLawfulProgram, way_at, way_from}
use Rattle.lk_progress.specs.Ordered.{waits_for}
use Rattle.lk_order.specs.Checked.{NestsSoFar, Nests, ReadsSoFar, ReadsOnly, RanksAbove, IsAboveSoFar}

-- what is true of all operations before one, and of that one, is true of all up to it
pub one_more : (P : ℕ → Op → Type 0) (ops : List Op) (n : ℕ) (o : Op) → slice_get ops n ≡ Some o
    → ((k : ℕ) → k < n → (p : Op) → slice_get ops k ≡ Some p → P k p)
    → P n o
    → (k : ℕ) → k < n + 1 → (p : Op) → slice_get ops k ≡ Some p → P k p
one_more P ops n o here so_far now k below p there = by_place (cases_lt k n)
  where
    by_place : (k < n) ⊎ (n ≤ k) → P k p
    by_place (inl less) = so_far k less p there
    by_place (inr more) =
        let same : n ≡ k = omega (arith, below, more) in
        let found : slice_get ops k ≡ Some o = ap (λ (j : ℕ). slice_get ops j) (sym same) ∙ here in
        let op : o ≡ p = same_Some o p (sym found ∙ there) in
        subst (λ (q : Op). P k q) op (subst (λ (j : ℕ). P j o) same now)

-- an operation of a nested program
pub nests_more : (rank : ℕ → ℕ) (ops : List Op) (i n : ℕ) (o : Op) (is_held : Bool) → slice_get ops n ≡ Some o
    → is_held ≡ is_some (way_at ops n i)
    → NestsSoFar rank ops i n
    → (is_held ≡ true → waits_for o.verb ≡ true → rank i < rank o.lock)
    → NestsSoFar rank ops i (n + 1)
nests_more rank ops i n o is_held here held so_far now k below p way there waits holds =
    one_more (λ (j : ℕ) (q : Op). (w : Manner) → waits_for q.verb ≡ true → way_at ops j i ≡ Some w → rank i < rank q.lock) ops n o here
    (λ j less q at w needs has. so_far j less q w at needs has)
    (λ w needs has. now (held ∙ ap is_some has) needs) k below p there way waits holds

-- all operations, once the walk is over
pub nests_all : (rank : ℕ → ℕ) (ops : List Op) (i n : ℕ) → NestsSoFar rank ops i n → length ops ≤ n → Nests rank ops i
nests_all rank ops i n so_far whole k o way there waits holds =
    let within = slice_get_within ops k o there in
    so_far k (omega (arith, within, whole)) o way there waits holds

pub reads_all : (ops : List Op) (i n : ℕ) → ReadsSoFar ops i n → length ops ≤ n → ReadsOnly ops i
reads_all ops i n so_far whole j r there on =
    let within = slice_get_within ops j r there in
    so_far j (omega (arith, within, whole)) r there on

pub above_all : (rank : ℕ → ℕ) (o : Op) (ops : List Op) (n : ℕ) → IsAboveSoFar rank o ops n → length ops ≤ n → waits_for o.verb ≡ true
    → (k : ℕ) (q : Op) → slice_get ops k ≡ Some q → RanksAbove rank o ops q
above_all rank o ops n so_far whole waits k q there =
    let within = slice_get_within ops k q there in
    so_far k (omega (arith, within, whole)) q there waits

-- what an operation of a handler waits for ranks above the lock of another one, which may be exempt
pub above_one : (rank : ℕ → ℕ) (o : Op) (ops : List Op) (q : Op) (exempt : Bool) → (exempt ≡ true → (o.verb ≡ Read) × ReadsOnly ops o.lock)
    → (rank q.lock < rank o.lock) ⊎ ((exempt ≡ true) × (q.lock ≡ o.lock)) → RanksAbove rank o ops q
above_one rank o ops q exempt reads (inl higher) = inl higher
above_one rank o ops q exempt reads (inr same) =
    let both = reads same.0 in
    inr (both.0, same.1, both.1)

-- a lock that no operation names is never held
unnamed : (ops : List Op) (n i : ℕ) → ((k : ℕ) (o : Op) → slice_get ops k ≡ Some o → o.lock ≢ i) → way_from ops n i None ≡ None
unnamed ops zero i others = refl
unnamed [] (suc n) i others = refl
unnamed (o ∷ ops) (suc n) i others =
    rw (ne_eqb o.lock i (others 0 o refl)) (unnamed ops n i (λ k p at. others (suc k) p at))

-- so a lock that is not declared is never held
undeclared : (kinds : List Kind) (ops : List Op) → IsLawfulProgram kinds ops → (n i : ℕ) → length kinds ≤ i → way_at ops n i ≡ None
undeclared kinds ops lawful n i out = unnamed ops n i (λ k o at same.
    let within = slice_get_within kinds o.lock _ (lawful.declared k o at) in
    omega (arith, within, out, same))

-- a program nests in order if it does so at each declared lock
pub declared_suffice : (rank : ℕ → ℕ) (kinds : List Kind) (ops : List Op) → IsLawfulProgram kinds ops
    → ((i : ℕ) → i < length kinds → Nests rank ops i) → (i : ℕ) → Nests rank ops i
declared_suffice rank kinds ops lawful nests i n o way there waits holds = by_place (cases_lt i (length kinds))
  where
    by_place : (i < length kinds) ⊎ (length kinds ≤ i) → rank i < rank o.lock
    by_place (inl below) = nests i below n o way there waits holds
    by_place (inr out) = absurd (none-some way (sym (undeclared kinds ops lawful n i out) ∙ holds))
