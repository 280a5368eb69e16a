use Rattle.std.proofs.Common.{arith, ℕ, sym, subst, inl, inr}
use Rattle.lk_reach.proofs.Names.{cases_eq, Setup, IsStepped, IsSuch, NoneAt}
use Rattle.lk_reach.specs.Seeking.{IsDoneBy, NameCpus}
use Rattle.lk_reach.proofs.seeking.first_deed.Goals as goal

pub act_on-requires : goal.act_on-requires
act_on-requires c =
    let inv = c.loop-state.invariant in
    let back = sym inv.such.setup in
    let cpus = inv.such.cpus in
    let before = c.requires.such.cpus in
    let few = c.requires.few in
    let inside = c.loop-state-test.true in
    let count = c.len-state-end.ensures in
    record {
      few = omega (arith, cpus, before, few);
      such = subst (λ (q : Setup). IsSuch q c.loop-state.machine) back inv.such;
      stepped = subst (λ (q : Setup). IsStepped q c.args.space.now c.loop-state.state) back
          (c.requires.stepped c.loop-state.state (omega (arith, inside, count)));
      range = subst (λ (q : Setup). NameCpus q c.args.plan.now.acts.items) back c.requires.range;
    }

pub returns-in-Some : goal.returns-in-Some
returns-in-Some c =
    let inv = c.loop-state.invariant in
    let inside = c.loop-state-test.true in
    let count = c.len-state-end.ensures in
    let same = inv.such.setup in
    record {
      some = record {
        there = omega (arith, inside, count);
        done = subst (λ (q : Setup). IsDoneBy q c.args.space.now c.args.plan.now.acts.items c.loop-state.state c.args.sought c.in-Some.number)
            same c.in-Some.ensures.does;
        first = inv.none;
      };
      none = tt;
      such = subst (λ (q : Setup). IsSuch q c.act_on.new.machine) same c.in-Some.ensures.such;
    }

pub loop-state-preserved : goal.loop-state-preserved
loop-state-preserved c =
    let inv = c.loop-state.invariant in
    let same = inv.such.setup in
    record {
      such = subst (λ (q : Setup). IsSuch q c.act_on.new.machine) same c.act_on.ensures.such;
      none = λ k low.
          elim (cases_eq k c.loop-state.state) [
            | inl e ↦ subst (λ (h : ℕ). NoneAt c.args.machine.now.setup c.args.space.now c.args.plan.now.acts.items c.args.sought h) (sym e)
                (subst (λ (q : Setup). NoneAt q c.args.space.now c.args.plan.now.acts.items c.args.sought c.loop-state.state) same
                c.in-None.ensures.none)
            | inr ne ↦ inv.none k (omega (arith, low, ne))
          ];
    }

pub returns : goal.returns
returns c =
    let inv = c.loop-state.invariant in
    let end = c.loop-state-test.false in
    let count = c.len-state-end.ensures in
    record {
      some = tt;
      none = λ k low. inv.none k (omega (arith, low, end, count));
      such = inv.such;
    }
