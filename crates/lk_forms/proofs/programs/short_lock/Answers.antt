use Rattle.std.proofs.Common.{◌≡◌, get_or, sym, arith}
use Rattle.std.proofs.lemmas.Bool.Decides.{nat_tests}
use Rattle.lk_forms.proofs.FrontLemmas.{number-short}
use Rattle.lk_forms.proofs.programs.short_lock.Goals as goal

pub returns-in-32-clause-number : goal.returns-in-32-clause-number
returns-in-32-clause-number c =
    let space : get_or c.args.args.now 0 0 ≡ 32 = grind (arith, nat_tests) in
    number-short c.args.args.now c.from.result c.in-32.len_at_least space (sym c.if-is_ascii_digit.ensures.value) c.from.ensures (sym c.if-is_word_end.ensures)
