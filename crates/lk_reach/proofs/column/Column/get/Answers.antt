use Rattle.std.proofs.Common.{◌≡◌, ◌∙◌, ℕ, List, ap, arith, subst, sym, None, Some, slice_get}
use Rattle.lk_reach.proofs.Names.{place_at}
use Rattle.lk_reach.proofs.Listed.{listed_get, listed_past}
use Rattle.lk_reach.proofs.column.Column.get.Goals as goal

pub returns-then-state-self-clause-some : goal.returns-then-state-self-clause-some
returns-then-state-self-clause-some c =
    subst (λ (xs : List ℕ). slice_get xs c.args.state ≡ Some c.get.result) c.self.view_is
    (listed_get c.self.inside.count (λ i. place_at c.self.inside.numbers i) c.args.state c.if-state-self.true
    ∙ ap Some (sym c.get.ensures))

pub returns-else-state-self-clause-none : goal.returns-else-state-self-clause-none
returns-else-state-self-clause-none c =
    let high = c.if-state-self.false in
    subst (λ (xs : List ℕ). slice_get xs c.args.state ≡ None) c.self.view_is
    (listed_past c.self.inside.count (λ i. place_at c.self.inside.numbers i) c.args.state (omega (arith, high)))
