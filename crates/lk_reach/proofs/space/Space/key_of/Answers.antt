use Rattle.std.proofs.Common.{arith, ◌∙◌, ap, Some, length-set, subst}
use Rattle.lk_reach.proofs.Names.{SpaceValue}
use Rattle.lk_reach.proofs.{Formed.formed_kept, Kept.{numbered_then, front_then}}
use Rattle.lk_reach.specs.Space.{AreFormed}
use Rattle.lk_reach.proofs.space.Space.key_of.Goals as goal

pub loop-cpu-preserved : goal.loop-cpu-preserved
loop-cpu-preserved c =
    let inv = c.loop-cpu.invariant in
    let found = c.in_ok-cpus.ensures.found ∙ ap Some c.cpu_part-part.ensures in
    let low = c.loop-cpu-test.true in
    let few = c.requires.few in
    let end = c.cpus-cpu-end.ensures in
    let room = inv.room in
    record {
      shared = inv.shared;
      each = numbered_then c.loop-cpu.cpus c.loop-cpu.self-inside.parts.items.items
          c.number-in-loop-cpu.new.self.items.items c.args.machine.now c.loop-cpu.cpu
          c.in_ok-cpus.field-0 (omega (arith, low, few, end, room)) c.in_ok-cpus.ensures.front
          inv.each found;
      parts = front_then c.args.self.now.parts c.loop-cpu.self-inside.parts.items.items
          c.number-in-loop-cpu.new.self.items.items inv.parts c.in_ok-cpus.ensures.front;
      shareds = inv.shareds;
      keys = inv.keys;
      folds = inv.folds;
      forms = inv.forms;
      classes = inv.classes;
      room = length-set _ _ _ ∙ room;
    }

pub invariant_of-self-in-loop-cpu : goal.invariant_of-self-in-loop-cpu
invariant_of-self-in-loop-cpu c =
    let inv = c.loop-cpu.invariant in
    let v = c.args.self.now in
    let formed = subst (λ (u : SpaceValue). AreFormed u.parts u.forms u.classes) c.self.view_is c.self.invariant in
    formed_kept v c.loop-cpu.self-inside.parts.items.items c.loop-cpu.self-inside.forms.items.items
    c.loop-cpu.self-inside.classes.items inv.parts inv.forms inv.classes formed

pub invariant_of-self-in_err-cpus : goal.invariant_of-self-in_err-cpus
invariant_of-self-in_err-cpus c =
    let inv = c.loop-cpu.invariant in
    let v = c.args.self.now in
    let formed = subst (λ (u : SpaceValue). AreFormed u.parts u.forms u.classes) c.self.view_is c.self.invariant in
    formed_kept v c.number-in-loop-cpu.new.self.items.items c.loop-cpu.self-inside.forms.items.items
    c.loop-cpu.self-inside.classes.items
    (front_then v.parts c.loop-cpu.self-inside.parts.items.items c.number-in-loop-cpu.new.self.items.items
    inv.parts c.in_err-cpus.ensures.front)
    inv.forms inv.classes formed
