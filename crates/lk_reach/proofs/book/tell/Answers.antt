use Rattle.std.proofs.Common.{arith}
use Rattle.lk_reach.proofs.apart.Firsts.{kept_first, new_first}
use Rattle.lk_reach.proofs.book.tell.Goals as goal

pub returns-then-is_first : goal.returns-then-is_first
returns-then-is_first c =
    new_first c.args.firsts.now c.args.origin c.args.event c.in-Some.event c.kind_of-kind.result c.in-Some.is
    c.kind_of-kind.ensures.is (c.is_first.ensures.yes c.if-is_first.true)

pub returns-else-is_first : goal.returns-else-is_first
returns-else-is_first c =
    let few = c.kind_of-kind.ensures.few in
    let long = c.if-is_first.array_long in
    kept_first c.args.firsts.now c.args.origin c.args.event c.in-Some.event c.kind_of-kind.result c.in-Some.is
    c.kind_of-kind.ensures.is (c.is_first.ensures.no c.if-is_first.false (omega (arith, few, long)))
