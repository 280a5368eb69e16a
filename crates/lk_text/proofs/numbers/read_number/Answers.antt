use Rattle.std.proofs.Common.{◌<◌, length, sym, ◌∙◌, arith}
use Rattle.std.proofs.lemmas.Bool.Decides.{nat_tests}
use Rattle.lk_text.proofs.NumberLemmas.{digits_more, value_more, number_of-other, number_of-large_more, number_of-digits}
use Rattle.lk_text.proofs.numbers.read_number.Goals as goal

pub returns-then-not-is_ascii_digit : goal.returns-then-not-is_ascii_digit
returns-then-not-is_ascii_digit c = sym (number_of-other c.args.word.now c.loop-b.b-index c.loop-b-test.true (sym c.if-not-is_ascii_digit.ensures.value))

pub returns-in_err-value : goal.returns-in_err-value
returns-in_err-value c =
    let digit = c.if-not-is_ascii_digit.ensures.cases in
    c.from_residual.ensures ∙ sym (number_of-large_more c.args.word.now c.loop-b.b-index c.loop-b.value c.loop-b-test.true digit.0 digit.1 c.loop-b.invariant.value c.in_err-value.ensures)

pub loop-b-preserved : goal.loop-b-preserved
loop-b-preserved c =
    let digit = c.if-not-is_ascii_digit.ensures in
    let word = c.args.word.now in
    let i = c.loop-b.b-index in record {
      digits = digits_more word i c.loop-b-test.true c.loop-b.invariant.digits (sym digit.value);
      value = c.in_ok-value.ensures.1 ∙ value_more word i c.loop-b.value c.loop-b-test.true digit.cases.0 digit.cases.1 c.loop-b.invariant.value;
      fits = omega (arith, c.in_ok-value.ensures);
    }

pub returns : goal.returns
returns c =
    let some : 0 < length c.args.word.now = grind (arith, nat_tests, c.is_empty.ensures, c.if-is_empty.false) in
    sym (number_of-digits c.args.word.now c.loop-b.b-index c.loop-b.value some c.if-word-gt-MAX_DIGITS.false c.loop-b-test.false c.loop-b.invariant.digits c.loop-b.invariant.value c.loop-b.invariant.fits)
