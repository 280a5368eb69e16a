use Rattle.std.proofs.Common.{◌≡◌, ◌∙◌, ◌++◌, ℕ, List, ap, arith, length, subst, Some, slice_get}
use Rattle.lk_reach.proofs.Names.{firsts, four_at, key_at, number_at, Key}
use Rattle.lk_reach.proofs.Listed.{listed_get, listed_length}
use Rattle.lk_reach.proofs.keys.Keys.at.Goals as goal

abbrev key_with : ℕ → List ℕ → Key
key_with s xs = record { shared = s; cpus = xs }

same_key : (s t : ℕ) (a b x y : List ℕ) → t ≡ s → b ≡ a → y ≡ x → key_with s (a ++ x) ≡ key_with t (b ++ y)
same_key s t a b x y e f g = cc

pub returns : goal.returns
returns c =
    let k = c.self.inside in
    let n = c.args.number in
    let size = listed_length k.count (λ i. key_at k.shared k.first k.others i) in
    let count = ap length c.self.view_is in
    let low = c.requires in
    subst (λ (xs : List Key). slice_get xs n ≡ Some (key_with c.get.result (firsts c.get-first.result ++ firsts c.get-others.result)))
    c.self.view_is
    (listed_get k.count (λ i. key_at k.shared k.first k.others i) n (omega (arith, low, size, count))
    ∙ ap Some (same_key (number_at k.shared n) c.get.result (four_at k.first n) (firsts c.get-first.result) (four_at k.others n)
    (firsts c.get-others.result) c.get.ensures (ap firsts c.get-first.ensures) (ap firsts c.get-others.ensures)))
