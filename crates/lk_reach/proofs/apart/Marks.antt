-- The marks of rows, one by one.
use Rattle.std.proofs.Common.{◌≡◌, ℕ, Bool, true, false, List, [], length, Some, sym, subst, inl}
use Rattle.std.proofs.Common.{inr, slice_get}
use Rattle.lk_reach.proofs.Names.{get-append, Pc, AreMarked, SpaceValue}
use Rattle.lk_reach.proofs.Kept.{one_value}
use Rattle.lk_reach.specs.Rows.{IsMade, IsUnmade, HasMarked}

-- no mark says nothing
pub none_marked : (v : SpaceValue) (cpus : ℕ) (rows : List Pc) → AreMarked v cpus rows []
none_marked v cpus rows = record {
  made = λ i row here mark. cc;
  never = λ i row here mark. cc;
}

-- the row of the last number is the row that is marked
same_row : (rows : List Pc) (i n : ℕ) (other row : Pc) → slice_get rows i ≡ Some other → i ≡ n
    → slice_get rows n ≡ Some row → row ≡ other
same_row rows i n other row here e there =
    one_value (slice_get rows n) row other there (subst (λ (k : ℕ). slice_get rows k ≡ Some other) e here)

-- one more
pub marked_more : (v : SpaceValue) (cpus : ℕ) (rows : List Pc) (marks more : List Bool) (row : Pc)
    → AreMarked v cpus rows marks → slice_get rows (length marks) ≡ Some row
    → HasMarked v cpus row marks more → AreMarked v cpus rows more
marked_more v cpus rows marks more row before there new = record {
  made = λ i other here mark.
      elim (get-append marks new.mark i true (subst (λ (xs : List Bool). slice_get xs i ≡ Some true) new.pushed mark)) [
        | inl old ↦ before.made i other here old
        | inr last ↦ subst (λ (r : Pc). IsMade v cpus r)
            (same_row rows i (length marks) other row here last.0 there) (new.made (sym last.1))
      ];
  never = λ i other here mark.
      elim (get-append marks new.mark i false (subst (λ (xs : List Bool). slice_get xs i ≡ Some false) new.pushed mark)) [
        | inl old ↦ before.never i other here old
        | inr last ↦ subst (λ (r : Pc). IsUnmade v cpus r)
            (same_row rows i (length marks) other row here last.0 there) (new.never (sym last.1))
      ];
}
