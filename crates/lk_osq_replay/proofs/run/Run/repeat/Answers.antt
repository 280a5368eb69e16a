use Rattle.std.proofs.Common.{◌≡◌, ◌<◌, subst, sym, arith, replicate}
use Rattle.std.proofs.lemmas.Result.{err_from_is_err_and}
use Rattle.lk_osq_forms.specs.Grammar.{act_of}
use Rattle.lk_osq_replay.specs.Run.{Makes}
use Rattle.lk_osq_replay.proofs.RunLemmas.{cpus_kept, made_more, conveyed_more, front_of_acts}
use Rattle.lk_osq_replay.proofs.run.Run.repeat.Goals as goal

pub returns-in_err-make-clause-err : goal.returns-in_err-make-clause-err
returns-in_err-make-clause-err g c =
    let p = err_from_is_err_and c.from_residual.result c.from_residual.ensures.1 in
    let so_far = c.loop-made.invariant in
    rw p.1 (front_of_acts c.args.self.now c.loop-made.self
    (act_of c.args.give c.args.cpu) c.loop-made._made so_far.made _ _ _ _ _ c.args.times
    (omega arith) so_far.conveyed c.in_err-make.ensures.err)

pub loop-made-preserved : goal.loop-made-preserved
loop-made-preserved g c =
    let so_far = c.loop-made.invariant in
    let made = c.make.ensures in record {
      processor =
          subst (λ n. c.args.cpu < n)
          (sym (cpus_kept c.loop-made.self c.make.new.self _ made.made)) so_far.processor;
      made = made_more c.args.self.now c.loop-made.self
          (act_of c.args.give c.args.cpu) c.loop-made._made so_far.made _ made.made;
      conveyed =
          conveyed_more c.args.self.now c.loop-made.self
          (act_of c.args.give c.args.cpu) c.loop-made._made so_far.made _ _ _ _ _ _ so_far.conveyed c.in_ok-make.ensures.ok;
      later = omega (arith, so_far.later, made.cause.later);
    }

pub returns-clause-made : goal.returns-clause-made
returns-clause-made g c =
    let all : c.loop-made._made ≡ c.args.times = omega arith in
    subst (λ n. Makes c.args.self.now c.loop-made.self
    (replicate n (act_of c.args.give c.args.cpu))) all c.loop-made.invariant.made
