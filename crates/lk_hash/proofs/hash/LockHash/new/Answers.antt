use Rattle.std.proofs.Common.{◌*◌, ℕ, arith, length, ap, sym, subst, ◌∙◌, List}
use Rattle.std.proofs.lemmas.List.{length-replicate}
use Rattle.lk_hash.specs.declared.place.Place.{Place}
use Rattle.lk_hash.specs.declared.place.Place.TheVariants.{Free}
use Rattle.std.specs.Int.{IsNextPowerOfTwo}
use Rattle.lk_hash.specs.Table.{IsSound, entries_of}
use Rattle.lk_hash.proofs.Table.{sound_free, no_entries}
use Rattle.lk_hash.proofs.hash.LockHash.new.Goals as goal

pub invariant_of-result : goal.invariant_of-result
invariant_of-result c =
    let n = c.next_power_of_two-count.result in
    let low = c.next_power_of_two-count.ensures.lower_bound in
    let high = c.next_power_of_two-count.ensures.upper_bound in
    let few = c.requires.few in
    let some = c.requires.some in
    subst (λ (ps : List Place). IsSound ps) (sym c.in_ok-places.ensures)
    (sound_free n (omega (arith, low, some)) (omega (arith, high, few)))

pub returns-clause-places : goal.returns-clause-places
returns-clause-places c =
    let e = c.next_power_of_two-count.ensures in
    subst (λ (count : ℕ). IsNextPowerOfTwo (4 * c.args.cpus) count)
    (sym (ap length c.in_ok-places.ensures ∙ length-replicate _ Free))
    (e.power, e.lower_bound, e.upper_bound)

pub returns-clause-empty : goal.returns-clause-empty
returns-clause-empty c = ap entries_of c.in_ok-places.ensures ∙ no_entries c.next_power_of_two-count.result
