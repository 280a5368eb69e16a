use Rattle.std.proofs.Common.{◌≡◌, arith, get_or, List, Some, subst, sym, slice_get}
use Rattle.lk_reach.proofs.Names.{CpuState, Machine}
use Rattle.lk_rows.specs.Machine.{cpu_at}
use Rattle.lk_reach.proofs.Formed.{part_of_key}
use Rattle.lk_reach.proofs.space.Space.classify_all.Goals as goal

pub classify-requires-clause-part : goal.classify-requires-clause-part
classify-requires-clause-part c =
    let inv = c.loop-cpu.invariant in
    let v = c.args.self.now in
    let key = c.args.key.now in
    let p = c.loop-cpu.cpu in
    let low = c.loop-cpu-test.true in
    let end = c.cpus-cpu-end.ensures in
    subst (λ (xs : List CpuState). slice_get xs (get_or key.cpus p 0) ≡ Some (cpu_at c.loop-cpu.machine p))
    (sym inv.states.parts)
    (subst (λ (m : Machine). slice_get v.parts (get_or key.cpus p 0) ≡ Some (cpu_at m p)) (sym inv.machine)
    (part_of_key v.parts v.shareds key c.args.machine.now p c.requires.key (omega (arith, low, end))))
