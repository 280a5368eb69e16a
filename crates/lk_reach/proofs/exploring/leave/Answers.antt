use Rattle.std.proofs.Common.{arith, ℕ, ◌≡◌, ◌∙◌, List, get_or, Some, length, ap, refl, sym, subst}
use Rattle.std.proofs.Common.{slice_get}
use Rattle.lk_reach.proofs.Names.{slice_get-get_or, Act, Machine, Setup, IsGood, IsSuch, OnlyMoves}
use Rattle.lk_reach.proofs.Names.{IsHere, IsNoted, AreHelpers, IsPath, AreMoves, IsReached, after}
use Rattle.lk_reach.proofs.Names.{state_after, Keeps, AreMade}
use Rattle.lk_reach.proofs.{Kept.{front_at, keeps_grown}, apart.Helped.{if_some, is_here}}
use Rattle.lk_names.specs.declared.events.Act.TheVariants as act
use Rattle.lk_reach.proofs.apart.Leading as leading
use Rattle.lk_reach.proofs.Left as left
use Rattle.lk_reach.proofs.Columns as columns
use Rattle.lk_reach.proofs.Closed as closed
use Rattle.lk_reach.proofs.exploring.leave.Goals as goal

pub here_at-requires : goal.here_at-requires
here_at-requires g c =
    let x = c.requires.explored in
    let there = c.requires.there in
    let count = x.count in
    record {
      low = leading.are_low c.args.plan.now c.args.crew.now.machine.setup c.args.space.now c.args.book.now c.args.state x;
      there = omega (arith, there, count);
      met = there;
    }

pub loop-number-init : goal.loop-number-init
loop-number-init g c =
    let p = c.args.plan.now in
    let z = c.args.crew.now.machine.setup in
    let v = c.args.space.now in
    let b = c.args.book.now in
    let k = c.args.state in
    let e = c.in_ok-here.ensures in
    let there = c.requires.there in
    let ways = leading.ways_of p c.args.crew.now.machine v b k c.requires.begun c.requires.explored c.requires.columns
    c.requires.few c.requires.such (omega (arith, there)) in
    record {
      such = c.requires.such;
      same = refl;
      explored = c.requires.explored;
      half = left.half_start p z v b k p.acts.items c.requires.explored c.requires.there;
      columns = c.requires.columns;
      way = if_some c.in_ok-here.here.way (λ w. IsPath p b 0 k w.items)
          (λ w. AreMoves p.extras z w.items × Keeps v k (state_after p z w.items))
          (λ w path. ways.ways k w.items there path) e.way;
      helpers = c.requires.helpers;
      made = c.requires.made;
      key = e.key;
    }

pub lead-requires-clause-few : goal.lead-requires-clause-few
lead-requires-clause-few g c κs outlives =
    let cpus = c.loop-number.invariant.such.cpus in
    let before = c.requires.such.cpus in
    let few = c.requires.few in
    omega (arith, cpus, before, few)

pub lead-requires-clause-such : goal.lead-requires-clause-such
lead-requires-clause-such g c κs outlives =
    let inv = c.loop-number.invariant in
    subst (λ (q : Setup). IsSuch q c.loop-number.crew.machine) (sym inv.same) inv.such

pub lead-requires-clause-here : goal.lead-requires-clause-here
lead-requires-clause-here g c κs outlives =
    let inv = c.loop-number.invariant in
    let z = c.args.crew.now.machine.setup in
    let p = c.args.plan.now in
    let v = c.loop-number.space in
    let half = inv.half in
    let here = c.in_ok-here.here in
    let state = c.in_ok-here.ensures.state in
    let good : IsGood p z v c.args.state = record { state = half.state; keeps = half.keeps; reached = half.reached } in
    subst (λ (q : Setup). IsHere p q v here) (sym inv.same)
    (is_here p z v here c.args.state c.requires.begun state good inv.key inv.explored.folds inv.way)

pub lead-requires-clause-act : goal.lead-requires-clause-act
lead-requires-clause-act g c κs outlives =
    let test = c.loop-number-test.true in
    let size = ap length c.acts-acts.ensures in
    omega (arith, test, size)

pub lead-requires-clause-moves : goal.lead-requires-clause-moves
lead-requires-clause-moves g c κs outlives =
    let p = c.args.plan.now in
    subst (λ (q : Setup). OnlyMoves p.extras q p.acts.items) (sym c.loop-number.invariant.same) c.requires.explored.acts.only

pub lead-requires-clause-helpers : goal.lead-requires-clause-helpers
lead-requires-clause-helpers g c κs outlives =
    let inv = c.loop-number.invariant in
    subst (λ (q : Setup). AreHelpers c.args.plan.now q c.loop-number.space c.loop-number.crew.helpers.list.items) (sym inv.same)
    inv.helpers

pub lead-requires-clause-made : goal.lead-requires-clause-made
lead-requires-clause-made g c κs outlives =
    let inv = c.loop-number.invariant in
    subst (λ (q : Setup). AreMade q c.loop-number.space c.loop-number.crew.steps.made.items) (sym inv.same) inv.made

pub write-requires : goal.write-requires
write-requires g c =
    let width = c.loop-number.invariant.columns.width in
    let test = c.loop-number-test.true in
    let size = ap length c.acts-acts.ensures in
    omega (arith, width, test, size)

pub loop-number-preserved : goal.loop-number-preserved
loop-number-preserved g c =
    let inv = c.loop-number.invariant in
    let z = c.args.crew.now.machine.setup in
    let p = c.args.plan.now in
    let acts = c.args.plan.now.acts.items in
    let n = c.loop-number.number in
    let v = c.loop-number.space in
    let w = c.lead.new.space in
    let b = c.loop-number.book in
    let d = c.write.new.self in
    let k = c.args.state in
    let e = c.in_ok-then.ensures in
    let laws : closed.Laws = record { runs = c.runs_keep.ensures.run; setup = c.acts_change_little.ensures.setup } in
    let a = get_or c.acts-acts.result.now n (act.Step 0) in
    let at : slice_get acts n ≡ Some a = subst (λ (xs : List Act). slice_get xs n ≡ Some a) c.acts-acts.ensures
    (slice_get-get_or c.acts-acts.result.now n (act.Step 0) c.loop-number-test.true) in
    let state = c.in_ok-here.ensures.state in
    let noted : (s : Machine) → Keeps v k s → IsReached p z s → IsNoted p z v w k (after s a) c.in_ok-then.then =
    (λ s has reached.
    subst (λ (h : ℕ). IsNoted p z v w h (after s a) c.in_ok-then.then) state
    (subst (λ (q : Setup). IsNoted p q v w c.in_ok-here.here.spot.state (after s a) c.in_ok-then.then) inv.same
    (e.noted s a at (subst (λ (h : ℕ). Keeps v h s) (sym state) has) (subst (λ (q : Setup). IsReached p q s) (sym inv.same) reached)))) in
    let made : left.IsMade p z v w b d k n a = record {
      then = c.in_ok-then.then;
      event = c.in_ok-then.event;
      move = c.requires.explored.acts.only n a at;
      doing = at;
      noted = noted;
      told = λ s has reached. e.told s a at (subst (λ (h : ℕ). Keeps v h s) (sym state) has)
          (subst (λ (q : Setup). IsReached p q s) (sym inv.same) reached);
      writes = c.in_ok-write.ensures;
    } in
    record {
      such = subst (λ (q : Setup). IsSuch q c.lead.new.crew.machine) inv.same e.such;
      same = e.such.setup ∙ inv.same;
      explored = left.explored_then p z laws c.requires.begun v w b d k n a made inv.half inv.explored inv.columns;
      half = left.half_then p z laws c.requires.begun v w b d k n a made inv.half inv.explored inv.columns;
      columns = left.columns_then p z laws c.requires.begun v w b d k n a made inv.half inv.explored inv.columns;
      way =
          let half = inv.half in
          if_some c.in_ok-here.here.way (λ way. AreMoves p.extras z way.items × Keeps v k (state_after p z way.items))
          (λ way. AreMoves p.extras z way.items × Keeps w k (state_after p z way.items))
          (λ way x.
          (x.0, keeps_grown v w (noted half.state half.keeps half.reached).grows k (state_after p z way.items) x.1)) inv.way;
      key =
          let half = inv.half in
          front_at v.keys w.keys (noted half.state half.keeps half.reached).grows.keys k c.in_ok-here.here.spot.key inv.key;
      made = subst (λ (q : Setup). AreMade q w c.lead.new.crew.steps.made.items) inv.same e.made;
      helpers = subst (λ (q : Setup). AreHelpers p q w c.lead.new.crew.helpers.list.items) inv.same e.helpers;
    }

pub returns : goal.returns
returns g c =
    let inv = c.loop-number.invariant in
    let p = c.args.plan.now in
    let z = c.args.crew.now.machine.setup in
    let v = c.loop-number.space in
    let b = c.loop-number.book in
    let k = c.args.state in
    let size = ap length c.acts-acts.ensures in
    let end = c.loop-number-test.false in
    record {
      explored = left.explored_next p z v b k inv.explored
          (left.left_now p z v b k c.loop-number.number (omega (arith, size, end)) inv.half);
      columns = columns.columns_next b (length p.acts.items) k c.loop-number.number (omega (arith, size, end)) inv.columns;
      such = inv.such;
      setup = inv.same;
      made = inv.made;
      helpers = inv.helpers;
    }
