use Rattle.std.proofs.Common.{◌≡◌, get_or, arith}
use Rattle.std.proofs.lemmas.Bool.Decides.{nat_tests}
use Rattle.lk_forms.proofs.StepLines.{step-front}
use Rattle.lk_forms.proofs.front.step_words.Goals as goal

pub returns-in_ok-times-in-115 : goal.returns-in_ok-times-in-115
returns-in_ok-times-in-115 c =
    let bytes = c.args.bytes.now in
    let s : get_or bytes 0 0 ≡ 115 = grind (arith, nat_tests) in
    let t : get_or bytes 1 0 ≡ 116 = grind (arith, nat_tests) in
    let e : get_or bytes 2 0 ≡ 101 = grind (arith, nat_tests) in
    let p : get_or bytes 3 0 ≡ 112 = grind (arith, nat_tests) in
    let space : get_or bytes 4 0 ≡ 32 = grind (arith, nat_tests) in
    step-front bytes c.in_ok-cpu-in-115.rest.now c.in_ok-times-in-115.rest.now c.in_ok-cpu-in-115.cpu c.in_ok-times-in-115.times c.in-115.len_at_least s t e p space
    c.in_ok-cpu-in-115.ensures.number c.in_ok-times-in-115.ensures.number
