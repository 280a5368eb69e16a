use Rattle.std.proofs.Common.{arith, ap, ◌∙◌}
use Rattle.lk_reach.proofs.Names.{CpuState, bared_cpu}
use Rattle.lk_rows.specs.Machine.{set_cpu}
use Rattle.lk_reach.proofs.Formed.{rests_alike, rests_back, rests_count, rests_then}
use Rattle.lk_reach.proofs.forms.form_number.Goals as goal

pub free_nodes-requires : goal.free_nodes-requires
free_nodes-requires c =
    let low = c.requires in
    let size = rests_count c.args.machine.now c.rest_top.new.machine c.args.cpu c.rest_top.ensures in
    omega (arith, low, size)

pub cpu_part-requires-2 : goal.cpu_part-requires-2
cpu_part-requires-2 c =
    let low = c.requires in
    let m = c.args.machine.now in
    let both = rests_then m c.rest_top.new.machine c.free_nodes.new.machine c.args.cpu low c.rest_top.ensures
    c.free_nodes.ensures in
    let size = rests_count m c.free_nodes.new.machine c.args.cpu both in
    omega (arith, low, size)

pub put_cpu-requires : goal.put_cpu-requires
put_cpu-requires c =
    let low = c.requires in
    let m = c.args.machine.now in
    let both = rests_then m c.rest_top.new.machine c.free_nodes.new.machine c.args.cpu low c.rest_top.ensures
    c.free_nodes.ensures in
    let size = rests_count m c.free_nodes.new.machine c.args.cpu both in
    omega (arith, low, size)

pub returns-clause-form : goal.returns-clause-form
returns-clause-form c =
    let low = c.requires in
    let m = c.args.machine.now in
    let n = c.free_nodes.new.machine in
    let both = rests_then m c.rest_top.new.machine n c.args.cpu low c.rest_top.ensures c.free_nodes.ensures in
    record {
      form = c.cpu_part-2.result.now;
      is = c.in_ok-number.ensures.found;
      alike = ap (λ (d : CpuState). bared_cpu d) c.cpu_part-2.ensures ∙ rests_alike m n c.args.cpu low both;
    }

pub returns-clause-machine : goal.returns-clause-machine
returns-clause-machine c =
    let low = c.requires in
    let m = c.args.machine.now in
    let n = c.free_nodes.new.machine in
    let both = rests_then m c.rest_top.new.machine n c.args.cpu low c.rest_top.ensures c.free_nodes.ensures in
    c.put_cpu.ensures ∙ ap (λ d. set_cpu n c.args.cpu d) (c.in_ok-part.ensures ∙ c.cpu_part.ensures)
    ∙ rests_back m n c.args.cpu both
