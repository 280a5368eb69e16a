use Rattle.std.proofs.Common.{◌≡◌, ◌∙◌, ◌<◌, ◌-◌, ℕ, List, ap, arith, length, subst, Some, suc}
use Rattle.std.proofs.Common.{slice_get, slice_index_or}
use Rattle.lk_reach.proofs.Names.{four_at, key_at, none, Key}
use Rattle.lk_reach.proofs.Kept.{one_value}
use Rattle.lk_reach.proofs.Listed.{behind_four, earlier, listed_get, listed_length}
use Rattle.lk_reach.specs.{Numbers.listed, declared.numbers.Numbers.Numbers}
use Rattle.lk_reach.specs.declared.numbers.fours.Fours.{Fours}
use Rattle.lk_reach.proofs.keys.Keys.part.Goals as goal

-- the key of a state is what stands at its number
same_key : (count : ℕ) (shared : Numbers) (first others : Fours) (keys : List Key) (n : ℕ) (key : Key)
    → listed count (λ i. key_at shared first others i) ≡ keys → n < length keys → slice_get keys n ≡ Some key
    → key_at shared first others n ≡ key
same_key count shared first others keys n key view low is =
    let size = listed_length count (λ i. key_at shared first others i) in
    let long = ap length view in
    one_value (slice_get keys n) (key_at shared first others n) key
    (subst (λ (xs : List Key). slice_get xs n ≡ Some (key_at shared first others n)) view
    (listed_get count (λ i. key_at shared first others i) n (omega (arith, low, size, long))))
    is

pub returns-then-cpu-lt4 : goal.returns-then-cpu-lt4
returns-then-cpu-lt4 c = λ key is.
    let k = c.self.inside in
    let n = c.args.number in
    subst (λ (x : Key). slice_get x.cpus c.args.cpu ≡ Some c.part.result)
    (same_key k.count k.shared k.first k.others c.args.self.now n key c.self.view_is c.requires.number is)
    (earlier (four_at k.first n) (four_at k.others n) c.args.cpu c.part.result c.part.ensures)

pub returns-else-cpu-lt4 : goal.returns-else-cpu-lt4
returns-else-cpu-lt4 c = λ key is.
    let k = c.self.inside in
    let n = c.args.number in
    let p = c.args.cpu in
    let high = c.if-cpu-lt4.false in
    let e : p ≡ suc (suc (suc (suc (p - 4)))) = omega (arith, high) in
    subst (λ (x : Key). slice_get x.cpus p ≡ Some c.part-else-cpu-lt4.result)
    (same_key k.count k.shared k.first k.others c.args.self.now n key c.self.view_is c.requires.number is)
    (behind_four (slice_index_or k.first.lower.items n none) (slice_index_or k.first.upper.items n none) (four_at k.others n) p (p - 4) e
    ∙ c.part-else-cpu-lt4.ensures)
