-- What is found at a lock is found first, since nothing was found before it.
use Rattle.std.proofs.Common.{◌≡◌, ◌<◌, true, false, length, sym, ap, ◌∙◌, arith}
use Rattle.lk_abs.specs.Remembered.{state_of}
use Rattle.lk_abs.specs.Judge.{JudgeState, history_at}
use Rattle.std.specs.Option.{is_some}
use Rattle.lk_abs.proofs.Unkicked.{no_kick-found, no_kick-more}
use Rattle.lk_abs.proofs.judge.Judge.no_kick.Goals as goal

pub returns-then-is_some : goal.returns-then-is_some
returns-then-is_some c =
    let j = c.args.self.now in
    let found : is_some c.left_asleep-breach.result ≡ true = sym c.is_some.ensures ∙ c.if-is_some.true in
    let count : length c.self.inside.locks.items ≡ length j.locks = ap (λ (s : JudgeState). length s.locks) c.self.view_is in
    let within : c.loop-place.place < length j.locks = omega (arith, count) in
    no_kick-found (state_of j.kicks) (history_at j) c.loop-place.place (length j.locks) c.left_asleep-breach.result within c.left_asleep-breach.ensures found ∙ sym c.loop-place.invariant

pub loop-place-preserved : goal.loop-place-preserved
loop-place-preserved c =
    let j = c.args.self.now in
    let none : is_some c.left_asleep-breach.result ≡ false = sym c.is_some.ensures ∙ c.if-is_some.false in
    let count : length c.self.inside.locks.items ≡ length j.locks = ap (λ (s : JudgeState). length s.locks) c.self.view_is in
    let within : c.loop-place.place < length j.locks = omega (arith, count) in
    c.loop-place.invariant ∙ no_kick-more (state_of j.kicks) (history_at j) c.loop-place.place (length j.locks) c.left_asleep-breach.result within c.left_asleep-breach.ensures none
