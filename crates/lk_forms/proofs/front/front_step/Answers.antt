use Rattle.std.proofs.Common.{◌≡◌, ◌≤◌, ◌<◌, ◌-◌, ◌^◌, rules, refl, length, take, arith}
use Rattle.std.proofs.lemmas.List.{length-take-le}
use Rattle.lk_text.specs.Feeds.{FeedAt}
use Rattle.lk_forms.specs.Fronts.{step_of}
use Rattle.lk_forms.proofs.StepLines.{step-says, step-ends, step-short}
use Rattle.lk_forms.proofs.front.front_step.Goals as goal

pub overflow_sub-result-2 : goal.overflow_sub-result-2
overflow_sub-result-2 c =
    let fits : 24 ≤ length c.args.bytes.now = omega (arith, c.if-bytes-lt-NEAR.false) in
    let size = length-take-le 24 c.args.bytes.now fits in
    step-short _ _ _ _ c.in_ok-cpu.ensures 24 (omega (arith, size))

-- where the line ends, and its bytes
ends : (c : goal.In_ok-said) → (take (23 - length c.in_ok-cpu.rest.now) c.args.bytes.now ≡ step_of c.in_ok-cpu.ensures.args) × FeedAt c.args.bytes.now (23 - length c.in_ok-cpu.rest.now)
ends c =
    let fits : 24 ≤ length c.args.bytes.now = omega (arith, c.if-bytes-lt-NEAR.false) in
    step-ends _ _ _ _ c.in_ok-cpu.ensures c.args.bytes.now 24 (23 - length c.in_ok-cpu.rest.now) refl fits refl

pub returns-clause-said : goal.returns-clause-said
returns-clause-said c =
    let here = ends c in
    let fits : c.in_ok-cpu.times < 2 ^ 64 = search rules in
    rw here.0 (step-says _ _ _ _ c.in_ok-cpu.ensures c.args.cpus c.args.acts c.in_ok-said.ensures.processor c.in_ok-said.ensures.some fits c.in_ok-said.said c.in_ok-said.ensures.run)

pub returns-clause-feed : goal.returns-clause-feed
returns-clause-feed c = (ends c).1
