use Rattle.std.proofs.Common.{◌∙◌, List, subst, sym}
use Rattle.lk_reach.proofs.Names.{CpuState, SharedValue, KeyKeeps}
use Rattle.lk_reach.proofs.{Formed.same_grows, Left.grows_then}
use Rattle.lk_reach.proofs.space.Space.key.Goals as goal

pub returns : goal.returns
returns c =
    let m = c.args.machine.now in
    let u = c.args.self.now in
    let v = c.key_of.new.self in
    let w = c.classify_all.new.self in
    let key = c.in_ok-key.key in
    let made = c.in_ok-key.ensures in
    let formed = c.in_ok-classify_all.ensures in
    record {
      key = subst (λ (xs : List SharedValue). KeyKeeps w.parts xs key m) (sym formed.states.shareds)
          (subst (λ (xs : List CpuState). KeyKeeps xs v.shareds key m) (sym formed.states.parts) made.key);
      states = record {
        grows = grows_then u v w made.grows (same_grows v w formed.states);
        keys = formed.states.keys ∙ made.same;
        folds = formed.states.folds ∙ made.folds;
      };
      machine = formed.machine;
    }
