use Rattle.std.proofs.Common.{◌≡◌, ◌∙◌, ℕ, List, ap, arith, length, subst, Some, slice_get}
use Rattle.lk_reach.proofs.Names.{number_at, origin_at, place_at, Origin}
use Rattle.lk_reach.proofs.Listed.{listed_get, listed_length}
use Rattle.lk_reach.proofs.origins.Origins.at.Goals as goal

abbrev origin_with : ℕ → ℕ → ℕ → Origin
origin_with s a l = record { state = s; act = a; level = l }

same_origin : (s t a b l m : ℕ) → t ≡ s → b ≡ a → m ≡ l → origin_with s a l ≡ origin_with t b m
same_origin s t a b l m e f g = cc

pub returns : goal.returns
returns c =
    let o = c.self.inside in
    let n = c.args.state in
    let size = listed_length o.count (λ i. origin_at o.states o.acts o.levels i) in
    let count = ap length c.self.view_is in
    let low = c.requires in
    subst (λ (xs : List Origin). slice_get xs n ≡ Some (origin_with c.get.result c.get-2.result c.get-3.result)) c.self.view_is
    (listed_get o.count (λ i. origin_at o.states o.acts o.levels i) n (omega (arith, low, size, count))
    ∙ ap Some (same_origin (place_at o.states n) c.get.result (number_at o.acts n) c.get-2.result (number_at o.levels n)
    c.get-3.result c.get.ensures c.get-2.ensures c.get-3.ensures))
