use Rattle.std.proofs.Common.{List, ap, arith, length, subst, sym}
use Rattle.lk_reach.proofs.Names.{CpuState, SharedValue, KeyKeeps, Key}
use Rattle.lk_reach.proofs.Left.{grows_then}
use Rattle.lk_reach.proofs.space.Space.note_fold.Goals as goal

pub note_folded-requires : goal.note_folded-requires
note_folded-requires c =
    let made = c.in_ok-fold.ensures in
    let keys = ap (λ (ks : List Key). length ks) made.states.keys in
    let folds = ap (λ (ks : List Key). length ks) made.states.folds in
    let left = c.requires.left in
    let count = c.requires.folds in
    record { left = omega (arith, left, keys); folds = omega (arith, count, keys, folds) }

pub returns : goal.returns
returns c =
    let m = c.args.machine.now in
    let u = c.args.self.now in
    let w = c.key.new.self in
    let z = c.note_folded.new.self in
    let fold = c.in_ok-fold.fold in
    let made = c.in_ok-fold.ensures in
    let e = c.in_ok-number.ensures in
    let k = c.in_ok-number.number in
    let keeps : KeyKeeps z.parts z.shareds fold m =
    subst (λ (xs : List SharedValue). KeyKeeps z.parts xs fold m) (sym e.shareds)
    (subst (λ (xs : List CpuState). KeyKeeps xs w.shareds fold m) (sym e.parts) made.key) in
    let size = ap (λ (ks : List Key). length ks) made.states.keys in
    record {
      there = e.there;
      other = e.other;
      alike = λ s has kind. e.alike s m has keeps kind;
      grows = grows_then u w z made.states.grows e.grows;
      one = λ j high low.
          let one = e.one j (omega (arith, high, size)) low in
          (one.0, one.1, record { key = fold; is = one.2; keeps = keeps });
      folds = e.folds;
      machine = made.machine;
    }
