use Rattle.std.proofs.Common.{arith, ◌≡◌, ◌∙◌, ap, sym, subst}
use Rattle.lk_reach.proofs.Names.{next, Machine, Setup, IsSound, IsSuch, IsBehind, IsHere}
use Rattle.lk_reach.proofs.Names.{AreFound, LeadsThere, MayLook, IsMove, IsReached, after}
use Rattle.lk_reach.proofs.Closed as closed
use Rattle.lk_reach.proofs.Folded as folded
use Rattle.lk_reach.proofs.Left as left
use Rattle.lk_reach.proofs.apart.Helped as helped
use Rattle.lk_reach.proofs.helper.Helper.try_act.Goals as goal

pub load-requires-clause-there : goal.load-requires-clause-there
load-requires-clause-there c =
    let h = c.requires.here in
    let p = c.args.plan.now in
    let z = c.args.self.now.machine.setup in
    left.loadable z c.args.space.now c.args.here.now.spot.state c.args.self.now.machine c.requires.ready.such (record {
      state = h.state;
      keeps = h.keeps;
      such = closed.reached_such folded.laws p z h.begun h.state h.reached;
      sound = closed.reached_sound folded.laws p z h.begun h.state h.reached;
    })

pub make-event-requires : goal.make-event-requires
make-event-requires c =
    let h = c.requires.here in
    let p = c.args.plan.now in
    let z = c.args.self.now.machine.setup in
    let n = c.load.new.machine in
    let ld = c.load.ensures in
    let such : IsSuch z n = left.loaded_such z c.args.self.now.machine n ld.setup ld.counts
    ld.cpus ld.locks c.requires.ready.such in
    let of_state = closed.reached_such folded.laws p z h.begun h.state h.reached in
    let same : n ≡ h.state = left.loaded_is z c.args.space.now c.args.here.now.spot.state n h.state ld.keeps such h.keeps of_state in
    let cpus = such.cpus in
    let low = closed.move_in_range p.extras z c.args.doing c.requires.moves in
    record {
      such = subst (λ (q : Setup). IsSuch q n) (sym ld.setup) such;
      sound = subst IsSound (sym same) (closed.reached_sound folded.laws p z h.begun h.state h.reached);
      range = omega (arith, cpus, low);
    }

pub fold_seen-requires : goal.fold_seen-requires
fold_seen-requires c =
    let z = c.args.self.now.machine.setup in
    let p = c.args.plan.now in
    let h = c.requires.here in
    let n = c.load.new.machine in
    let m = c.make-event.new.machine in
    let ld = c.load.ensures in
    let such : IsSuch z n = left.loaded_such z c.args.self.now.machine n ld.setup ld.counts
    ld.cpus ld.locks c.requires.ready.such in
    let made : IsSuch z m = subst (λ (q : Setup). IsSuch q m) ld.setup c.make-event.ensures.such in
    let back = sym made.setup in
    let v = c.args.space.now in
    record {
      may = subst (λ (q : Setup). MayLook p v q) back c.requires.ready.may;
      found = subst (λ (q : Setup). AreFound p q v c.args.self.now.findings.items) back c.requires.found;
      such = subst (λ (q : Setup). IsSuch q m) back made;
      here = subst (λ (q : Setup). IsHere p q c.args.space.now c.args.here.now) back h;
      folds = c.if-plan.true;
      moves = subst (λ (q : Setup). IsMove p.extras q c.args.doing) back c.requires.moves;
      behind = subst (λ (q : Setup). IsBehind p q c.args.space.now c.args.here.now c.args.doing m) back
          (λ s has reached.
          let same : n ≡ s = left.loaded_is z c.args.space.now c.args.here.now.spot.state n s ld.keeps such has
          (closed.reached_such folded.laws p z h.begun s reached) in
          c.make-event.ensures.after ∙ ap (λ (q : Machine). after q c.args.doing) same);
    }

pub returns-then-plan-clause-tried : goal.returns-then-plan-clause-tried
returns-then-plan-clause-tried c =
    let z = c.args.self.now.machine.setup in
    let p = c.args.plan.now in
    let h = c.requires.here in
    let v = c.args.space.now in
    let k = c.args.here.now.spot.state in
    let n = c.load.new.machine in
    let m = c.make-event.new.machine in
    let ld = c.load.ensures in
    let then = c.in_ok-then.then in
    let such : IsSuch z n = left.loaded_such z c.args.self.now.machine n ld.setup ld.counts
    ld.cpus ld.locks c.requires.ready.such in
    let made : IsSuch z m = subst (λ (q : Setup). IsSuch q m) ld.setup c.make-event.ensures.such in
    record {
      then = λ s has reached.
          let same : n ≡ s = left.loaded_is z v k n s ld.keeps such has (closed.reached_such folded.laws p z h.begun s reached) in
          subst (λ (q : Machine). LeadsThere p z v k s q then)
          (c.make-event.ensures.after ∙ ap (λ (q : Machine). after q c.args.doing) same)
          (subst (λ (q : Setup). LeadsThere p q v k s m then) made.setup
          (c.in_ok-then.ensures.leads s has (subst (λ (q : Setup). IsReached p q s) (sym made.setup) reached)));
      tells = λ s has reached.
          let same : n ≡ s = left.loaded_is z v k n s ld.keeps such has (closed.reached_such folded.laws p z h.begun s reached) in
          c.make-event.ensures.event ∙ ap (λ (q : Machine). (next q c.args.doing).1) same;
    }

-- where no states are folded

pub lead-requires-clause-range : goal.lead-requires-clause-range
lead-requires-clause-range c =
    closed.move_in_range c.args.plan.now.extras c.args.self.now.machine.setup c.args.doing c.requires.moves

pub lead-requires-clause-spot : goal.lead-requires-clause-spot
lead-requires-clause-spot c =
    let p = c.args.plan.now in
    let z = c.args.self.now.machine.setup in
    let h = c.requires.here in
    record {
      stepped = record {
        state = h.state;
        keeps = h.keeps;
        such = closed.reached_such folded.laws p z h.begun h.state h.reached;
        sound = closed.reached_sound folded.laws p z h.begun h.state h.reached;
      };
      is = h.key;
    }

pub returns-in-Some-clause-tried : goal.returns-in-Some-clause-tried
returns-in-Some-clause-tried c =
    let p = c.args.plan.now in
    let z = c.args.self.now.machine.setup in
    let h = c.requires.here in
    let a = c.args.doing in
    let led = c.in_ok-led.ensures.led in
    let e = c.in-Some.ensures in
    record {
      then = λ s has reached.
          let there = closed.reached_then folded.laws p z h.begun s a reached c.requires.moves in
          helped.is_known p z h.begun c.args.space.now c.args.here.now.spot.state s (after s a) has reached
          (closed.reached_such folded.laws p z h.begun (after s a) there) c.in-Some.known
          (c.requires.ready.may.good c.in-Some.known e.there)
          (λ t keeps kind. e.alike t (after s a) keeps (led.then s has (closed.reached_such folded.laws p z h.begun s reached)) kind);
      tells = λ s has reached. led.event s has (closed.reached_such folded.laws p z h.begun s reached);
    }

pub returns-in-None-clause-tried : goal.returns-in-None-clause-tried
returns-in-None-clause-tried c =
    let p = c.args.plan.now in
    let z = c.args.self.now.machine.setup in
    let h = c.requires.here in
    let led = c.in_ok-led.ensures.led in
    record {
      then = λ s has reached. (c.if-plan.false, led.then s has (closed.reached_such folded.laws p z h.begun s reached));
      tells = λ s has reached. led.event s has (closed.reached_such folded.laws p z h.begun s reached);
    }
