use Rattle.std.proofs.Common.{◌≡◌, ◌∙◌, ◌∷◌, [], List, Some, ap, arith, inl, length, length-append}
use Rattle.std.proofs.Common.{refl, subst, sym, slice_get}
use Rattle.lk_reach.proofs.Names.{slice_get_within, Key}
use Rattle.lk_reach.proofs.{Formed.{folded_grows, pushed_last}, Left.grows_self}
use Rattle.lk_reach.proofs.space.Space.number_fold.Goals as goal

pub returns-in-Some : goal.returns-in-Some
returns-in-Some c =
    let v = c.args.self.now in
    let e = c.in-Some.ensures in
    let low = slice_get_within v.folds c.in-Some.number e.fold.item e.fold.is in
    let count = c.requires.folds in
    record {
      found = e.fold;
      there = omega (arith, low, count);
      other = e.other;
      grows = grows_self v;
      parts = refl;
      shareds = refl;
      one = λ j high under. absurd (omega (arith, high, under));
      count = count;
    }

pub returns-in_ok-number-in-None : goal.returns-in_ok-number-in-None
returns-in_ok-number-in-None c =
    let v = c.args.self.now in
    let w = c.add_fold.new.self in
    let e = c.in_ok-number-in-None.ensures in
    let k = c.in_ok-number-in-None.number in
    let key = c.args.key.now in
    let fold = c.args.fold.now in
    let left = c.requires.left in
    let count = c.requires.folds in
    let number = e.number in
    let keys = ap (λ (ks : List Key). length ks) e.keys ∙ length-append v.keys (key ∷ []) in
    let folds = ap (λ (ks : List Key). length ks) e.folds ∙ length-append v.folds (fold ∷ []) in
    let there : slice_get w.keys k ≡ Some key = pushed_last v.keys w.keys key k e.keys e.number in
    let is : slice_get w.folds k ≡ Some fold = pushed_last v.folds w.folds fold k e.folds (e.number ∙ sym count) in
    record {
      found = record { item = fold; is = is; same = inl refl };
      there = omega (arith, number, keys);
      other = λ same. absurd (omega (arith, same, number, left));
      grows = folded_grows v w key fold e.parts e.shareds e.keys e.folds;
      parts = e.parts;
      shareds = e.shareds;
      one = λ j high under.
          let same : j ≡ k = omega (arith, high, under, keys, number) in (
            same,
            subst (λ i. slice_get w.keys i ≡ Some key) (sym same) there,
            subst (λ i. slice_get w.folds i ≡ Some fold) (sym same) is,
          );
      count = omega (arith, keys, folds, count);
    }
