use Rattle.std.proofs.Common.{◌<◌, ◌≤◌, ◌⊎◌, inl, inr, length, arith}
use Rattle.std.proofs.lemmas.Bool.{cases_lt}
use Rattle.std.proofs.lemmas.List.{get_or_past}
use Rattle.lk_order.specs.Checked.{rank_in}
use Rattle.lk_order.proofs.check.are_bounded.Goals as goal

pub returns : goal.returns
returns c made i = by_place (cases_lt i (length c.args.ranks.now))
  where
    by_place : (i < length c.args.ranks.now) ⊎ (length c.args.ranks.now ≤ i) → rank_in c.args.ranks.now i < 32
    by_place (inl less) = c.loop-rank.invariant i (omega (arith, less))
    by_place (inr past) = rw (get_or_past c.args.ranks.now i 0 past) (omega arith)
