use Rattle.std.proofs.Common.{◌≡◌, ◌≤◌, List, ap, arith, length, subst, sym}
use Rattle.lk_reach.proofs.Names.{slice_get_within, Machine, IsSuch, IsBehind, IsHere, IsMove}
use Rattle.lk_reach.proofs.Names.{after, Key}
use Rattle.lk_reach.proofs.Kept.{keeps_grown}
use Rattle.lk_reach.specs.Folded.{IsRenumbered}
use Rattle.lk_reach.proofs.Closed as closed
use Rattle.lk_reach.proofs.Folded as folded
use Rattle.lk_reach.proofs.Left as left
use Rattle.lk_reach.proofs.apart.Noted as noted
use Rattle.lk_reach.proofs.folding.fold.Goals as goal

pub become_fold-requires : goal.become_fold-requires
become_fold-requires c =
    let p = c.args.plan.now in
    let v = c.args.space.now in
    let w = c.key.new.self in
    let h = c.args.here.now in
    let z = c.args.machine.now.setup in
    let e = c.in_ok-key.ensures in
    let back = sym e.machine in
    record {
      few = subst (λ (m : Machine). length m.cpus ≤ 8) back c.requires.few;
      such = subst (λ (m : Machine). IsSuch m.setup m) back c.requires.such;
      here = subst (λ (m : Machine). IsHere p m.setup w h) back
          (noted.here_kept p z c.requires.here.begun v w h e.states c.requires.here);
      folds = c.requires.folds;
      moves = subst (λ (m : Machine). IsMove p.extras m.setup c.args.doing) back c.requires.moves;
      behind = subst (λ (m : Machine). IsBehind p m.setup w h c.args.doing m) back (λ s has reached.
          let it = c.requires.here in
          let same = closed.same_state folded.laws p z it.begun w h.spot.state it.state s
          (keeps_grown v w e.states.grows h.spot.state it.state it.keeps) has it.reached reached in
          subst (λ (n : Machine). c.args.machine.now ≡ after n c.args.doing) same (c.requires.behind it.state it.keeps it.reached));
    }

pub note_fold-requires : goal.note_fold-requires
note_fold-requires c =
    let p = c.args.plan.now in
    let z = c.args.machine.now.setup in
    let v = c.args.space.now in
    let h = c.requires.here in
    let m = c.args.machine.now in
    let n = c.become_fold.new.machine in
    let e = c.in_ok-key.ensures in
    let it : IsRenumbered p z m n = subst (λ (q : Machine). IsRenumbered p q.setup q n) e.machine c.become_fold.ensures in
    let reached = noted.reached_behind p z h.begun v c.args.here.now c.args.doing m h c.requires.moves c.requires.behind in
    let cpus = (noted.renumbered_such p z h.begun m n reached it).cpus in
    let before = c.requires.such.cpus in
    let few = c.requires.few in
    let low = slice_get_within v.keys c.args.here.now.spot.state h.keeps.key h.keeps.is in
    let keys = ap (λ (ks : List Key). length ks) e.states.keys in
    let more = ap (λ (ks : List Key). length ks) e.states.folds in
    let count = (h.folds c.requires.folds).count in
    record {
      few = omega (arith, cpus, before, few);
      left = omega (arith, low, keys);
      folds = omega (arith, keys, more, count);
    }

pub returns-in-Some : goal.returns-in-Some
returns-in-Some c =
    let p = c.args.plan.now in
    let m = c.args.machine.now in
    let z = m.setup in
    let h = c.requires.here in
    let v = c.args.space.now in
    let w = c.key.new.self in
    let k = c.in-Some.number in
    let e = c.in_ok-key.ensures in
    record {
      noted = noted.like_noted p z h.begun v w c.args.here.now.spot.state k m c.requires.such (h.folds c.requires.folds) e.states
          c.in-Some.ensures.there (λ s has kind. c.in-Some.ensures.alike s m has e.key kind);
      such = subst (λ (q : Machine). IsSuch z q) (sym e.machine) c.requires.such;
    }

pub returns : goal.returns
returns c =
    let p = c.args.plan.now in
    let m = c.args.machine.now in
    let z = m.setup in
    let h = c.requires.here in
    let v = c.args.space.now in
    let u = c.key.new.self in
    let w = c.note_fold.new.self in
    let n = c.become_fold.new.machine in
    let e = c.in_ok-key.ensures in
    let f = c.in_ok-number.ensures in
    let it : IsRenumbered p z m n = subst (λ (q : Machine). IsRenumbered p q.setup q n) e.machine c.become_fold.ensures in
    let reached = noted.reached_behind p z h.begun v c.args.here.now c.args.doing m h c.requires.moves c.requires.behind in
    record {
      noted = noted.fold_noted p z h.begun v u w c.args.here.now.spot.state c.in_ok-number.number m n c.in_ok-key.key it.renaming
          it.fits reached c.requires.folds it.is (h.folds c.requires.folds) e.states e.key f.grows
          (left.grows_then v u w e.states.grows f.grows) f.there f.other f.alike f.one f.folds;
      such = subst (λ (q : Machine). IsSuch z q) (sym f.machine) (noted.renumbered_such p z h.begun m n reached it);
    }
