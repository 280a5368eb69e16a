use Rattle.std.proofs.Common.{◌≡◌, ◌∙◌, ◌++◌, ◌∷◌, [], ℕ, List, ap, arith, length, refl, rules}
use Rattle.lk_reach.proofs.Names.{firsts, four_at, key_at, number_at, Key}
use Rattle.lk_reach.proofs.Listed.{eight_is, listed_more}
use Rattle.lk_reach.specs.Numbers.{nth}
use Rattle.lk_reach.proofs.keys.Keys.push.Goals as goal

abbrev key_with : ℕ → List ℕ → Key
key_with s xs = record { shared = s; cpus = xs }

same_key : (s t : ℕ) (a b x y cpus : List ℕ) → t ≡ s → b ≡ a → y ≡ x → a ++ x ≡ cpus → key_with t (b ++ y) ≡ key_with s cpus
same_key s t a b x y cpus e f g h = cc

pub returns : goal.returns
returns c =
    let k = c.self.inside in
    let shared = c.in_ok-put.ensures in
    let first = c.in_ok-put-2.ensures in
    let others = c.in_ok-put-3.ensures in
    let key = c.args.key.now in
    let xs = key.cpus in
    let size : length xs ≡ 8 = search rules in
    listed_more k.count (λ i. key_at k.shared k.first k.others i)
    (λ i. key_at c.put.new.self c.put-2.new.self c.put-3.new.self i) key
    (λ i low.
    let ne : (i ≡ k.count → ⊥) = λ e. omega (arith, e, low) in
    same_key (number_at k.shared i) (number_at c.put.new.self i) (four_at k.first i) (four_at c.put-2.new.self i)
    (four_at k.others i) (four_at c.put-3.new.self i) (four_at k.first i ++ four_at k.others i) (shared.others i ne)
    (first.others i ne) (others.others i ne) refl)
    (same_key key.shared (number_at c.put.new.self k.count) (firsts xs) (four_at c.put-2.new.self k.count)
    (nth xs 4 ∷ nth xs 5 ∷ nth xs 6 ∷ nth xs 7 ∷ []) (four_at c.put-3.new.self k.count) xs shared.here first.here others.here
    (eight_is xs size))
    ∙ ap (λ (ks : List Key). ks ++ key ∷ []) c.self.view_is
