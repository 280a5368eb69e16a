use Rattle.std.proofs.Common.{◌≡◌, ◌+◌, ℕ, Bool, drop, sym, ap, ◌∙◌, arith}
use Rattle.lk_names.specs.declared.names.Waiter.{Waiter}
use Rattle.lk_names.specs.Lawful.{is_far, movable}
use Rattle.lk_abs.proofs.Steps.{movable-last, movable-near}
use Rattle.lk_abs.proofs.rulebook.Rulebook.movable.Goals as goal
use Rattle.lk_abs.proofs.rulebook.Rulebook.movable.Goals.{then-at-behind-via-then-at-behind, then-at-behind-via-else-at-behind+then-not-is_far}

add-zero : (n : ℕ) → n + 0 ≡ n
add-zero n = omega arith

pub returns-then-at-behind : goal.returns-then-at-behind
returns-then-at-behind c =
    let far : Waiter → Bool = is_far c.args.self.now c.args.front in
    let counted : movable far (drop c.loop-at.at c.args.behind.now) ≡ 0 → c.loop-at.at ≡ movable far c.args.behind.now = λ none. sym (c.loop-at.invariant.counted ∙ ap (λ n. c.loop-at.at + n) none ∙ add-zero c.loop-at.at) in
    elim c.then-at-behind.branch [
      | then-at-behind-via-then-at-behind w ↦ counted (movable-last far c.loop-at.at c.args.behind.now w.if-at-behind.true)
      | then-at-behind-via-else-at-behind+then-not-is_far w ↦ counted (movable-near far c.loop-at.at c.args.behind.now (record { cpu = 0; ctx = 0 }) c.loop-at-test.true (sym w.is_far.ensures ∙ w.if-not-is_far.true))
    ]
