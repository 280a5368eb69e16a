use Rattle.std.proofs.Common.{rules, sym, ◌∙◌, arith}
use Rattle.lk_forms.proofs.FrontLemmas.{number-last, number-more}
use Rattle.lk_forms.proofs.plain.number.Goals as goal

pub returns-in-empty-clause-number : goal.returns-in-empty-clause-number
returns-in-empty-clause-number c =
    number-last c.args.bytes.now c.digits-value.result.0 c.digits-value.result.1.now c.digits-value.ensures c.if-rest-bytes.false c.requires (search rules) (omega (arith, c.in-empty.len_below))

pub returns-in-len1-up-clause-number : goal.returns-in-len1-up-clause-number
returns-in-len1-up-clause-number c =
    number-more c.args.bytes.now c.digits-value.result.0 c.digits-value.result.1.now c.digits-value.ensures c.if-rest-bytes.false c.requires (search rules)
    c.in-len1-up.len_at_least (sym c.is_blank.ensures ∙ c.if-is_blank.true)
