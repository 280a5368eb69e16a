use Rattle.std.proofs.Common.{◌≡◌, ℕ, arith, inl, refl, Some, subst, sym, ◌∙◌, ◌++◌, ◌∷◌, [], ap}
use Rattle.std.proofs.Common.{length, length-append, List, slice_get}
use Rattle.lk_reach.proofs.Names.{SpaceValue, Key}
use Rattle.lk_reach.proofs.Formed.{pushed_grows, pushed_last}
use Rattle.lk_reach.proofs.space.Space.add.Goals as goal

pub returns : goal.returns
returns c =
    let e = c.in_ok-number.ensures in
    let u = c.args.self.now in
    let w = c.make_room.new.self in
    let v = c.push.new.self in
    let same = c.in_ok-make_room.ensures in
    let k = c.in_ok-number.number in
    let key = c.args.key.now in
    let number = e.number ∙ ap (λ (x : SpaceValue). length x.keys) same in
    let keys = e.keys ∙ ap (λ (x : SpaceValue). x.keys ++ key ∷ []) same in
    let parts = e.parts ∙ ap (λ (x : SpaceValue). x.parts) same in
    let shareds = e.shareds ∙ ap (λ (x : SpaceValue). x.shareds) same in
    let folds = e.folds ∙ ap (λ (x : SpaceValue). x.folds) same in
    let last : slice_get v.keys k ≡ Some key = pushed_last u.keys v.keys key k keys number in
    record {
      found = record { item = key; is = last; same = inl refl };
      grows = pushed_grows u v parts shareds (key ∷ [], keys) folds;
      parts = parts;
      shareds = shareds;
      folds = folds;
      one = λ j high low.
          let size = ap (λ (ks : List Key). length ks) keys ∙ length-append u.keys (key ∷ []) in
          let is : j ≡ k = omega (arith, high, low, size, number) in
          (is, subst (λ (i : ℕ). slice_get v.keys i ≡ Some key) (sym is) last);
    }
