use Rattle.std.proofs.Common.{◌∙◌, ◌++◌, ◌∷◌, [], ap, length}
use Rattle.lk_reach.proofs.Names.{SpaceValue}
use Rattle.lk_reach.proofs.space.Space.add_fold.Goals as goal

pub returns : goal.returns
returns c =
    let e = c.in_ok-number.ensures in
    let f = c.in_ok-push_fold.ensures in
    let same = c.in_ok-make_room.ensures in
    let put = c.in_ok-put_own.ensures in
    let key = c.args.key.now in
    let fold = c.args.fold.now in
    record {
      number = e.number ∙ ap (λ (x : SpaceValue). length x.keys) same;
      parts = f.parts ∙ ap (λ (x : SpaceValue). x.parts) put ∙ e.parts ∙ ap (λ (x : SpaceValue). x.parts) same;
      shareds = f.shareds ∙ ap (λ (x : SpaceValue). x.shareds) put ∙ e.shareds ∙ ap (λ (x : SpaceValue). x.shareds) same;
      keys = f.keys ∙ ap (λ (x : SpaceValue). x.keys) put ∙ e.keys ∙ ap (λ (x : SpaceValue). x.keys ++ key ∷ []) same;
      folds = f.folds ∙ ap (λ xs. xs ++ fold ∷ []) (ap (λ (x : SpaceValue). x.folds) put ∙ e.folds ∙ ap (λ (x : SpaceValue). x.folds) same);
    }
