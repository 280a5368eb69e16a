use Rattle.std.proofs.Common.{◌≡◌, ◌∙◌, List, ℕ, length, ap, refl, sym, subst}
use Rattle.lk_reach.proofs.Names.{Act, Machine, at_rest, machine_after, AreInRange, bare, cpus_of}
use Rattle.lk_rows.specs.Machine.{handlers_at}
use Rattle.lk_reach.proofs.Closed.{not_true, rest_cpus_of, rest_unused}
use Rattle.lk_reach.proofs.plan.Plan.new.Goals as goal

pub moves-requires : goal.moves-requires
moves-requires c =
    let z = c.args.machine.now.setup in
    record {
      lawful = c.requires.lawful;
      cpus = ap (λ (m : Machine). length m.cpus) c.requires.rest ∙ rest_cpus_of z;
      unused = subst (λ (m : Machine). (p : ℕ) → handlers_at m p ≡ 0) (sym c.requires.rest) (rest_unused z);
    }

pub returns : goal.returns
returns c =
    let z = c.args.machine.now.setup in
    let none = c.new-before.ensures.items in
    record {
      start = record {
        begun = record {
          lawful = c.requires.lawful;
          range = subst (λ (acts : List Act). AreInRange (cpus_of z) acts) (sym none) tt;
          folds = λ yes. absurd (not_true yes);
        };
        acts = c.in_ok-acts.ensures;
        there = c.requires.rest ∙ ap (λ (acts : List Act). bare (machine_after (at_rest z) acts)) (sym none);
      };
      extras = refl;
    }
