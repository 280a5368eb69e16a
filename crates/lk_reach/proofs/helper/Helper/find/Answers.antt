use Rattle.std.proofs.Common.{ℕ, ◌≡◌, Some, sym, subst, slice_get}
use Rattle.lk_reach.proofs.Names.{LeadsThere, after, Keeps}
use Rattle.lk_reach.proofs.helper.Helper.find.Goals as goal

pub try_act-requires-clause-moves : goal.try_act-requires-clause-moves
try_act-requires-clause-moves c = c.requires.ready.may.moves c.args.act c.act.result c.act.ensures

pub returns-clause-found : goal.returns-clause-found
returns-clause-found c =
    let p = c.args.plan.now in
    let z = c.args.self.now.machine.setup in
    let v = c.args.space.now in
    let a = c.act.result in
    let h = c.requires.here in
    let tried = c.in_ok-then.ensures.tried in
    let back = sym c.in_ok-state.ensures in
    record {
      state = h.state;
      keeps = subst (λ (i : ℕ). Keeps v i h.state) back h.keeps;
      reached = h.reached;
      act = a;
      doing = subst (λ (i : ℕ). slice_get p.acts.items i ≡ Some a) (sym c.in_ok-by.ensures) c.act.ensures;
      event = tried.tells h.state h.keeps h.reached;
      then = subst (λ (i : ℕ). LeadsThere p z v i h.state (after h.state a) c.in_ok-then.then) back
          (tried.then h.state h.keeps h.reached);
    }
