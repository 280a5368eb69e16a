use Rattle.std.proofs.Common.{◌≡◌, ◌∙◌, ◌++◌, ◌∷◌, [], ℕ, List, ap, arith}
use Rattle.lk_reach.proofs.Names.{number_at, origin_at, place_at, Origin}
use Rattle.lk_reach.proofs.Listed.{listed_more}
use Rattle.lk_reach.proofs.origins.Origins.push.Goals as goal

abbrev origin_with : ℕ → ℕ → ℕ → Origin
origin_with s a l = record { state = s; act = a; level = l }

same_origin : (s t a b l m : ℕ) → t ≡ s → b ≡ a → m ≡ l → origin_with t b m ≡ origin_with s a l
same_origin s t a b l m e f g = cc

pub returns : goal.returns
returns c =
    let o = c.self.inside in
    let states = c.in_ok-put.ensures in
    let acts = c.in_ok-put-2.ensures in
    let levels = c.in_ok-put-3.ensures in
    let origin = c.args.origin in
    listed_more o.count (λ i. origin_at o.states o.acts o.levels i)
    (λ i. origin_at c.put.new.self c.put-2.new.self c.put-3.new.self i) origin
    (λ i low.
    let ne : (i ≡ o.count → ⊥) = λ e. omega (arith, e, low) in
    same_origin (place_at o.states i) (place_at c.put.new.self i) (number_at o.acts i) (number_at c.put-2.new.self i)
    (number_at o.levels i) (number_at c.put-3.new.self i) (states.others i ne) (acts.others i ne) (levels.others i ne))
    (same_origin origin.state (place_at c.put.new.self o.count) origin.act (number_at c.put-2.new.self o.count) origin.level
    (number_at c.put-3.new.self o.count) states.here acts.here levels.here)
    ∙ ap (λ (xs : List Origin). xs ++ origin ∷ []) c.self.view_is
