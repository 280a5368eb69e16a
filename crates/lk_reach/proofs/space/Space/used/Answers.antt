use Rattle.std.proofs.Common.{arith, ◌<◌, ◌∙◌, [], ℕ, ap, get_or, length, subst}
use Rattle.lk_reach.proofs.Names.{slice_get-get_or, AreUsed, SpaceValue, Key}
use Rattle.lk_reach.proofs.apart.Used.{unused, used_then}
use Rattle.lk_reach.proofs.space.Space.used.Goals as goal

-- any key
no_key : Key
no_key = record { shared = 0; cpus = [] }

pub loop-state-init : goal.loop-state-init
loop-state-init c =
    unused c.args.self.now c.args.cpus (length c.deref.result.now) c.in_ok-marks.marks.items c.in_ok-marks.ensures
    (ap length (c.deref.ensures.value ∙ ap (λ (u : SpaceValue). u.parts) c.self.view_is))

pub loop-state-preserved : goal.loop-state-preserved
loop-state-preserved c =
    let v = c.args.self.now in
    let n = c.loop-state.state in
    let low : n < length v.keys =
    (let below = c.loop-state-test.true in let high = c.loop-state.auto.state-end in let count = c.len-state-end.ensures in
    omega (arith, below, high, count)) in
    let key = get_or v.keys n no_key in
    let is = slice_get-get_or v.keys n no_key low in
    used_then v c.args.cpus n key c.loop-state.marks.items c.mark_parts.new.marks.items is c.loop-state.invariant
    (c.mark_parts.ensures key is)

pub returns : goal.returns
returns c =
    let end = c.loop-state-test.false in
    let high = c.loop-state.auto.state-end in
    let count = c.len-state-end.ensures in
    subst (λ (k : ℕ). AreUsed c.args.self.now c.args.cpus k c.loop-state.marks.items) (omega (arith, end, high, count))
    c.loop-state.invariant
