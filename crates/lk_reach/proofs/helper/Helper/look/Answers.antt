use Rattle.std.proofs.Common.{◌∙◌, sym, subst}
use Rattle.lk_reach.proofs.Names.{Setup, IsSuch, AreFound, HaveWays, MayLook, AreMade}
use Rattle.lk_reach.specs.Helped.{IsHelper}
use Rattle.lk_reach.proofs.helper.Helper.look.Goals as goal

pub leave-requires-clause-sent : goal.leave-requires-clause-sent
leave-requires-clause-sent c =
    let inv = c.loop-state.invariant in
    let back = sym inv.same in (
      record {
        may = subst (λ (q : Setup). MayLook c.args.plan.now c.args.space.now q) back c.requires.sent.0.may;
        such = subst (λ (q : Setup). IsSuch q c.loop-state.self.machine) back inv.such;
        made = subst (λ (q : Setup). AreMade q c.args.space.now c.loop-state.self.steps.made.items) back inv.made;
      },
      subst (λ (q : Setup). HaveWays c.args.plan.now c.args.book.now c.args.space.now q) back c.requires.sent.1,
    )

pub leave-requires-clause-found : goal.leave-requires-clause-found
leave-requires-clause-found c =
    let inv = c.loop-state.invariant in
    subst (λ (q : Setup). AreFound c.args.plan.now q c.args.space.now c.loop-state.self.findings.items) (sym inv.same) inv.found

pub loop-state-preserved : goal.loop-state-preserved
loop-state-preserved c =
    let inv = c.loop-state.invariant in
    let e = c.leave.ensures in
    let done = subst (λ (q : Setup). IsHelper c.args.plan.now q c.args.space.now c.leave.new.self) inv.same e.helper in
    record {
      same = e.setup ∙ inv.same;
      such = done.such;
      made = done.made;
      found = done.found;
    }
