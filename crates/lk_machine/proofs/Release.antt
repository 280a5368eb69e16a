-- The count of operations up to a release, by the first of them.
use Rattle.std.proofs.Common.{◌≡◌, ℕ, ◌+◌, ◌∷◌, List, Some, drop, slice_get, ◌==◌, ap, ◌∙◌, add-one}
use Rattle.std.specs.Prelude.{◌&&◌, if◌then◌else◌}
use Rattle.std.proofs.Common.{suc}
use Rattle.std.proofs.Math.Seq.{drop-cons}
use Rattle.std.proofs.lemmas.Option.{slice_get_within, get_or_from_slice_get}
use Rattle.lk_rows.specs.declared.setup.Op.{Op}
use Rattle.lk_rows.specs.Programs.{is_release, to_release}

-- the operations from a position on, by the first of them
drop-first : (ops : List Op) (i : ℕ) (o : Op) → slice_get ops i ≡ Some o → drop i ops ≡ o ∷ drop (i + 1) ops
drop-first ops i o e =
    rw add-one (drop-cons ops i o (slice_get_within ops i o e) ∙ ap (λ (x : Op). x ∷ drop (suc i) ops) (get_or_from_slice_get ops i o o e))

-- the operation at a position releases the lock, or the count goes on behind it
pub to_release-drop : (ops : List Op) (i : ℕ) (o : Op) (l : ℕ) → slice_get ops i ≡ Some o
    → to_release (drop i ops) l ≡ (if is_release o.verb && (o.lock == l) then 1 else suc (to_release (drop (i + 1) ops) l))
to_release-drop ops i o l e = ap (λ (os : List Op). to_release os l) (drop-first ops i o e)
