use Rattle.std.proofs.Common.{ℕ, ap, length, subst}
use Rattle.lk_reach.specs.Explored.{IsNew}
use Rattle.lk_reach.proofs.exploring.begin.Goals as goal

pub note_first-requires : goal.note_first-requires
note_first-requires c = record {
  few = c.requires.few;
  keys = c.in_ok-space.ensures.keys;
  folds = c.in_ok-space.ensures.folds;
}

pub returns-clause-book : goal.returns-clause-book
returns-clause-book c =
    subst (λ (n : ℕ). IsNew c.in_ok-book.book n) (ap length c.acts.ensures) c.in_ok-book.ensures
