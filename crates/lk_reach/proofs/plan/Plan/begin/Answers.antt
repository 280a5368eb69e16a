use Rattle.std.proofs.Common.{arith, ◌≡◌, ◌∙◌, ◌++◌, ◌∷◌, [], List, ap, refl, sym, subst}
use Rattle.lk_reach.proofs.Names.{Act, Machine, IsLawfulSetup, at_rest, machine_after, Setup}
use Rattle.lk_reach.proofs.Names.{AreInRange, AreAllMoves, IsReached, after, bare, cpus_of}
use Rattle.lk_reach.proofs.Closed as closed
use Rattle.lk_reach.proofs.plan.Plan.begin.Goals as goal

pub make-requires : goal.make-requires
make-requires c =
    let p = c.args.self.now in
    let m = c.args.machine.now in
    let z = m.setup in
    let laws : closed.Laws = record { runs = c.runs_keep.ensures.run; setup = c.acts_change_little.ensures.setup } in
    let reached : IsReached p z m = subst (λ (q : Machine). IsReached p z q) (sym c.requires.start.there) (closed.reached_start laws p z c.requires.start.begun) in
    record {
      such = closed.reached_such laws p z c.requires.start.begun m reached;
      sound = closed.reached_sound laws p z c.requires.start.begun m reached;
      range = let cpus = (closed.reached_such laws p z c.requires.start.begun m reached).cpus in
          let range = c.requires.range in
          omega (arith, range, cpus);
    }

pub returns : goal.returns
returns c =
    let p = c.args.self.now in
    let m = c.args.machine.now in
    let z = m.setup in
    let doing = c.args.doing in
    let acts = p.before.items ++ doing ∷ [] in
    let pushed = c.in_ok-add.ensures in
    let n = c.make.new.machine in
    let laws : closed.Laws = record { runs = c.runs_keep.ensures.run; setup = c.acts_change_little.ensures.setup } in
    let reached : IsReached p z m = subst (λ (q : Machine). IsReached p z q) (sym c.requires.start.there) (closed.reached_start laws p z c.requires.start.begun) in
    let setup : n.setup ≡ z = c.make.ensures.such.setup in
    let there : n ≡ bare (machine_after (at_rest z) acts) =
    c.make.ensures.after ∙ ap (λ (q : Machine). after q doing) c.requires.start.there ∙ sym (closed.begun_then p z doing) in
    let there_new : n ≡ bare (machine_after (at_rest z) c.add.new.acts.items) =
    there ∙ ap (λ (xs : List Act). bare (machine_after (at_rest z) xs)) (sym pushed) in
    record {
      start = record {
        begun = record {
          lawful = subst IsLawfulSetup (sym setup) c.requires.start.begun.lawful;
          range = subst (λ (q : Setup). AreInRange (cpus_of q) c.add.new.acts.items) (sym setup)
              (subst (λ (xs : List Act). AreInRange (cpus_of z) xs) (sym pushed)
              (closed.range_push (cpus_of z) p.before.items doing c.requires.start.begun.range c.requires.range));
          folds = λ yes. absurd (closed.not_true yes);
        };
        acts = subst (λ (q : Setup). AreAllMoves p.extras q p.acts.items) (sym setup) c.requires.start.acts;
        there = subst (λ (q : Setup). n ≡ bare (machine_after (at_rest q) c.add.new.acts.items)) (sym setup) there_new;
      };
      extras = refl;
      setup = setup;
    }
