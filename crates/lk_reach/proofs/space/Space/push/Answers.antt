use Rattle.std.proofs.Common.{◌∙◌, ◌++◌, ◌∷◌, [], ap}
use Rattle.lk_reach.proofs.Names.{SpaceValue}
use Rattle.lk_reach.proofs.space.Space.push.Goals as goal

pub returns-clause-keys : goal.returns-clause-keys
returns-clause-keys c =
    c.in_ok-push.ensures ∙ ap (λ (u : SpaceValue). u.keys ++ c.args.key.now ∷ []) c.self.view_is
