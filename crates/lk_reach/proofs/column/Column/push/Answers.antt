use Rattle.std.proofs.Common.{◌∙◌, ◌++◌, ◌∷◌, [], ℕ, List, ap, arith}
use Rattle.lk_reach.proofs.Names.{place_at}
use Rattle.lk_reach.proofs.Listed.{listed_more}
use Rattle.lk_reach.proofs.column.Column.push.Goals as goal

pub returns : goal.returns
returns c =
    let puts = c.in_ok-put.ensures in
    listed_more c.self.inside.count (λ i. place_at c.self.inside.numbers i) (λ i. place_at c.put.new.self i) c.args.then
    (λ i low. puts.others i (λ e. omega (arith, e, low))) puts.here
    ∙ ap (λ (xs : List ℕ). xs ++ c.args.then ∷ []) c.self.view_is
