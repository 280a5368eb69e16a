use Rattle.std.proofs.Common.{arith, ◌≡◌, ◌∙◌, ap, Some, length-set, subst, slice_get}
use Rattle.lk_reach.proofs.Names.{SpaceValue}
use Rattle.lk_reach.proofs.Kept.{front_self, numbered_then}
use Rattle.lk_reach.proofs.space.Space.key_seen.Goals as goal

pub loop-cpu-preserved : goal.loop-cpu-preserved
loop-cpu-preserved c =
    let inv = c.loop-cpu.invariant in
    let parts = c.args.self.now.parts in
    let found = subst (λ (v : SpaceValue). slice_get v.parts c.in_ok-cpus.field-0 ≡ Some c.cpu_part-part.result.now) c.self.view_is c.in_ok-cpus.ensures
    ∙ ap Some c.cpu_part-part.ensures in
    let low = c.loop-cpu-test.true in
    let few = c.requires.few in
    let end = c.cpus-cpu-end.ensures in
    let room = inv.room in
    record {
      each = numbered_then c.loop-cpu.cpus parts parts c.args.machine.now c.loop-cpu.cpu c.in_ok-cpus.field-0
          (omega (arith, low, few, end, room)) (front_self parts) inv.each found;
      room = length-set _ _ _ ∙ room;
    }
