use Rattle.std.proofs.Common.{◌≡◌, arith, ℕ, ◌*◌, length, ap, subst, ◌∙◌}
use Rattle.std.specs.Int.{IsNextPowerOfTwo}
use Rattle.std.proofs.lemmas.List.{length-replicate}
use Rattle.lk_rows.specs.Machine.{rest_lock}
use Rattle.lk_machine.specs.Packed.{Words}
use Rattle.lk_machine.proofs.Rested.{length-rest_cpus}
use Rattle.lk_machine.proofs.machine.Machine.new.Goals as goal

pub invariant_of-result : goal.invariant_of-result
invariant_of-result c =
    let cpus = ap length c.in_ok-cpus.ensures ∙ length-rest_cpus c.args.setup 0 (length c.args.setup.topology.sockets.items) in
    let locks = ap (λ (w : Words). length w.locks) c.in_ok-words.ensures ∙ length-replicate c.len.result rest_lock in
    let few = c.requires.few in
    let short = c.requires.locks in
    let all : c.len-2.result ≡ length c.in_ok-cpus.cpus.items = omega (arith, c.len-2.ensures) in
    (omega (arith, cpus, few), omega (arith, locks, short, c.len.ensures), omega (arith, c.in_ok-hash.ensures.places.1, c.len-2.ensures), ap (λ (w : Words). w.layout) c.in_ok-words.ensures ∙ c.layout_of.ensures, subst (λ (n : ℕ). IsNextPowerOfTwo (4 * n) c.in_ok-hash.hash.places) all c.in_ok-hash.ensures.places)
