use Rattle.std.proofs.Common.{◌<◌, ◌/◌, ◌^◌, arith}
use Rattle.lk_text.proofs.Decimal.{decimal_short, decimal_some, decimal_more, decimal_one}
use Rattle.lk_text.proofs.digits.digit_count.Goals as goal

pub loop-left-init : goal.loop-left-init
loop-left-init c =
    let n = c.args.n in
    let fits : n < 2 ^ 64 = omega arith in
    record { count = omega arith; fits = fits; some = decimal_some n fits; short = decimal_short n fits }

pub loop-left-preserved : goal.loop-left-preserved
loop-left-preserved c =
    let left = c.loop-left.left in
    let so_far = c.loop-left.invariant in
    let fewer : left / 10 < 2 ^ 64 = omega (arith, so_far.fits) in
    let more = decimal_more left c.loop-left-test.true so_far.fits in record {
      count = omega (arith, so_far.count, more);
      fits = fewer;
      some = decimal_some (left / 10) fewer;
      short = so_far.short;
    }

pub returns-clause-count : goal.returns-clause-count
returns-clause-count c = let one = decimal_one c.loop-left.left c.loop-left-test.false in omega (arith, c.loop-left.invariant.count, one)
