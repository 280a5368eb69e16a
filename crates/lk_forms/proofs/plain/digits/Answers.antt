use Rattle.std.proofs.Common.{sym, arith}
use Rattle.lk_forms.proofs.FrontLemmas.{digits-fit, digits-more}
use Rattle.lk_forms.proofs.plain.digits.Goals as goal

pub overflow_mul-value : goal.overflow_mul-value
overflow_mul-value c =
    omega (arith, digits-fit c.args.bytes.now c.loop-rest.value c.loop-rest.rest.now c.loop-rest.invariant c.requires c.in-len1-up.len_at_least)

pub overflow_add-value : goal.overflow_add-value
overflow_add-value c =
    let digit = c.if-is_ascii_digit.ensures.cases in
    omega (arith, digit, c.from.ensures, digits-fit c.args.bytes.now c.loop-rest.value c.loop-rest.rest.now c.loop-rest.invariant c.requires c.in-len1-up.len_at_least)

pub loop-rest-preserved : goal.loop-rest-preserved
loop-rest-preserved c =
    digits-more c.args.bytes.now c.loop-rest.value c.loop-rest.rest.now c.from.result c.loop-rest.invariant c.in-len1-up.len_at_least (sym c.if-is_ascii_digit.ensures.value) c.from.ensures
