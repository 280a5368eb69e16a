use Rattle.std.proofs.Common.{ap, arith, false, refl, sym, true, ◌∙◌, ◌≡◌, is_some, not}
use Rattle.lk_run.proofs.Names.{C7, C8, Number, counting, view_of, Plan, View, Precedes}
use Rattle.lk_run.proofs.Steps.{still_of}
use Rattle.lk_run.proofs.ChoiceRows as choice
use Rattle.lk_run.proofs.Calling as on
use Rattle.lk_run.proofs.call.Front.count.Goals as goal

pub store_runs-requires-clause-row : goal.store_runs-requires-clause-row
store_runs-requires-clause-row c =
    let at = c.requires.waits.waits.looked.at in
    let none : is_some at.frame.second ≡ false = ap is_some at.has.fronts.second ∙ (c.is_none.ensures ∙ ap not c.if-is_none.true) in
    record {
      lock = c.args.self.now.call.lock;
      at = on.at_row c.requires.waits;
      y = at.has.next;
      alone = λ _. refl;
      aside = λ h. let z : false ≡ true = sym none ∙ h in absurd (cc z);
    }

pub returns-then-is_none : goal.returns-then-is_none
returns-then-is_none c =
    let q = c.args.self.now in
    on.steps_by c.requires.waits.domain c.store_runs.ensures.rest (Number c.store_runs.result) (λ i. (c.store_runs.ensures.row.by i).0) C8
    (Precedes q.own c.args.second c.args.y) (λ e. cc e) (λ f has. choice.counts _ _ f q.own c.args.second c.args.y c.store_runs.result has)

pub own_runs-runs-requires-clause-row : goal.own_runs-runs-requires-clause-row
own_runs-runs-requires-clause-row c =
    record {
      lock = c.args.self.now.call.lock;
      row = C7;
      is = refl;
      at = on.at_row c.requires.waits;
      me = c.requires.waits.waits.looked.at.has.fronts.me;
    }

pub prove-unreachable-requires : goal.prove-unreachable-requires
prove-unreachable-requires c =
    let at = c.requires.waits in
    let some = ap is_some at.waits.looked.at.has.fronts.second ∙ (c.is_none.ensures ∙ ap not c.if-is_none.false) in
    let short = c.own_runs-runs.ensures.seen.by.short c.args.self.now.call.verb c.args.self.now.call.lock (on.at_row at).stands some in
    let is = c.threshold-threshold.ensures in
    let plan = ap (λ (k : Plan). k.threshold) at.domain.plan in
    let no = c.if-prove.true in omega (arith, short, is, plan, no)

pub store_runs-requires-2-clause-domain : goal.store_runs-requires-2-clause-domain
store_runs-requires-2-clause-domain c =
    still_of c.args.self.now.call.domain.now c.args.cpu.now c.own_runs-runs.new.cpu c.own_runs-runs.ensures.rest c.requires.waits.domain

pub store_runs-requires-2-clause-row : goal.store_runs-requires-2-clause-row
store_runs-requires-2-clause-row c =
    let r = c.own_runs-runs.result in
    let same : view_of c.own_runs-runs.new.cpu ≡ counting r (view_of c.args.cpu.now) = (λ i. (c.own_runs-runs.ensures.seen.by.seat i).0) in
    let now = on.counted c.own_runs-runs.ensures.rest r same c.requires.waits in
    let at = now.waits.looked.at in
    let some : is_some at.frame.second ≡ true = ap is_some at.has.fronts.second ∙ (c.is_none.ensures ∙ ap not c.if-is_none.false) in
    record {
      lock = c.args.self.now.call.lock;
      at = on.at_row now;
      y = at.has.next;
      alone = λ h. let z : true ≡ false = sym some ∙ ap is_some h in absurd (cc z);
      aside = λ h. (r, ap (λ (v : View). v.calls.runs) same, refl);
    }

pub returns : goal.returns
returns c =
    let q = c.args.self.now in
    let r = c.own_runs-runs.result in
    let same : view_of c.own_runs-runs.new.cpu ≡ counting r (view_of c.args.cpu.now) = (λ i. (c.own_runs-runs.ensures.seen.by.seat i).0) in
    on.counted_steps c.own_runs-runs.ensures.rest r same
    (on.steps_by (still_of q.call.domain.now c.args.cpu.now c.own_runs-runs.new.cpu c.own_runs-runs.ensures.rest c.requires.waits.domain) c.store_runs-2.ensures.rest
    (Number c.store_runs-2.result) (λ i. (c.store_runs-2.ensures.row.by i).0) C8 (Precedes q.own c.args.second c.args.y) (λ e. cc e)
    (λ f has. choice.counts _ _ f q.own c.args.second c.args.y c.store_runs-2.result has))
