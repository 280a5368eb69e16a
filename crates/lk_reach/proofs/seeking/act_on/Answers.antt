use Rattle.std.proofs.Common.{arith, ◌≡◌, ℕ, Some, ap, length, sym, subst, inl, inr, slice_get}
use Rattle.lk_reach.proofs.Names.{cases_eq, slice_get_within, Act, Setup, IsStepped, IsSuch}
use Rattle.lk_reach.proofs.Kept.{one_value}
use Rattle.lk_reach.specs.Seeking.{DoesAt, DoesNotAt}
use Rattle.lk_reach.proofs.seeking.act_on.Goals as goal

pub is_sought_at-requires : goal.is_sought_at-requires
is_sought_at-requires c =
    let inv = c.loop-number.invariant in
    let back = sym inv.such.setup in
    let cpus = inv.such.cpus in
    let before = c.requires.such.cpus in
    let few = c.requires.few in
    let low = c.requires.range c.loop-number.number c.act-doing.result c.act-doing.ensures in
    record {
      few = omega (arith, cpus, before, few);
      such = subst (λ (q : Setup). IsSuch q c.loop-number.machine) back inv.such;
      stepped = subst (λ (q : Setup). IsStepped q c.args.space.now c.args.state) back c.requires.stepped;
      range = omega (arith, low, cpus);
    }

pub returns-then-is_sought_at : goal.returns-then-is_sought_at
returns-then-is_sought_at c =
    let inv = c.loop-number.invariant in
    let doing = c.act-doing.result in
    record {
      some = slice_get_within c.args.plan.now.acts.items c.loop-number.number doing c.act-doing.ensures;
      does = record {
        act = doing;
        is = c.act-doing.ensures;
        does = subst (λ (q : Setup). DoesAt q c.args.space.now c.args.state c.args.sought doing) inv.such.setup
            (c.is_sought_at.ensures.yes c.if-is_sought_at.true);
      };
      none = tt;
      such = subst (λ (q : Setup). IsSuch q c.is_sought_at.new.machine) inv.such.setup c.is_sought_at.ensures.such;
    }

pub loop-number-preserved : goal.loop-number-preserved
loop-number-preserved c =
    let inv = c.loop-number.invariant in
    let doing = c.act-doing.result in
    let n = c.loop-number.number in
    record {
      such = subst (λ (q : Setup). IsSuch q c.is_sought_at.new.machine) inv.such.setup c.is_sought_at.ensures.such;
      none = λ i a low here.
          elim (cases_eq i n) [
            | inl e ↦
                let same : doing ≡ a = one_value (slice_get c.args.plan.now.acts.items n) doing a c.act-doing.ensures
                (subst (λ (h : ℕ). slice_get c.args.plan.now.acts.items h ≡ Some a) e here) in
                subst (λ (b : Act). DoesNotAt c.args.machine.now.setup c.args.space.now c.args.state c.args.sought b) same
                (subst (λ (q : Setup). DoesNotAt q c.args.space.now c.args.state c.args.sought doing) inv.such.setup
                (c.is_sought_at.ensures.no c.if-is_sought_at.false))
            | inr ne ↦ inv.none i a (omega (arith, low, ne)) here
          ];
    }

pub returns : goal.returns
returns c =
    let inv = c.loop-number.invariant in
    let end = c.loop-number-test.false in
    let size = ap length c.acts-number-end.ensures in
    record {
      some = tt;
      does = tt;
      none = λ i a here. let low = slice_get_within c.args.plan.now.acts.items i a here in
          inv.none i a (omega (arith, low, end, size)) here;
      such = inv.such;
    }
