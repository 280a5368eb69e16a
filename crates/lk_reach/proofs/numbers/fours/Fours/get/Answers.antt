use Rattle.std.proofs.Common.{◌∙◌, List, ℕ, ap, arith, sym, slice_index_or}
use Rattle.lk_reach.proofs.Names.{none}
use Rattle.lk_reach.proofs.Listed.{past}
use Rattle.lk_reach.specs.Numbers.{joined}
use Rattle.lk_reach.proofs.numbers.fours.Fours.get.Goals as goal

pub returns-then-at-len : goal.returns-then-at-len
returns-then-at-len c =
    let count = c.len.ensures in
    let high = c.if-at-len.true in
    let us = c.args.self.now.upper.items in
    c.widened.ensures
    ∙ ap (λ (xs : List ℕ). joined c.item_at-lower.result xs) (sym (past us none c.args.«at» (omega (arith, count, high))))
    ∙ ap (λ (xs : List ℕ). joined xs (slice_index_or us c.args.«at» none)) c.item_at-lower.ensures
