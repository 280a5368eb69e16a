use Rattle.std.proofs.Common.{◌<◌, ◌∙◌, ap, sym, subst, arith}
use Rattle.lk_rows.specs.Acts.{next, processor_of}
use Rattle.lk_rows.specs.Machine.{Machine}
use Rattle.lk_steps.proofs.Ready.{one_more}
use Rattle.lk_steps.proofs.steps.Steps.repeat.Goals as goal

pub loop-made-preserved : goal.loop-made-preserved
loop-made-preserved g c =
    let so_far = c.loop-made.invariant in
    let done = c.act-event.ensures in record {
      ready = done.ready;
      made = done.machine ∙ ap (λ (m : Machine). (next m c.args.act).0) so_far.made
          ∙ sym (one_more c.args.self.now.told.machine c.args.act c.loop-made._made);
      acts = omega (arith, done.acts, so_far.acts);
      processor = subst (λ n. processor_of c.args.act < n) (sym done.cpus) so_far.processor;
      reader = so_far.reader;
    }
