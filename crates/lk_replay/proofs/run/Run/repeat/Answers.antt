use Rattle.std.proofs.Common.{◌≡◌, ◌<◌, subst, sym, arith, replicate}
use Rattle.std.proofs.lemmas.Result.{err_from_is_err_and}
use Rattle.lk_rows.specs.Acts.{processor_of}
use Rattle.lk_replay.specs.Run.{Makes}
use Rattle.lk_replay.proofs.RunLemmas.{cpus_kept, made_on, conveyed_on, front_of_acts}
use Rattle.lk_replay.proofs.run.Run.repeat.Goals as goal

pub returns-in_err-made-clause-err : goal.returns-in_err-made-clause-err
returns-in_err-made-clause-err g c =
    let p = err_from_is_err_and c.from_residual.result c.from_residual.ensures.1 in
    let so_far = c.loop-made.invariant in
    rw p.1 (front_of_acts c.args.self.now c.loop-made.self c.args.act c.loop-made.made so_far.made_so _ _ _ _ _ c.args.times so_far.most so_far.conveyed c.in_err-made.ensures.err)

pub loop-made-preserved : goal.loop-made-preserved
loop-made-preserved g c =
    let so_far = c.loop-made.invariant in
    let made = c.in_ok-made.ensures in record {
      most = omega (arith, so_far.most, made.most);
      ready = c.make.ensures.ready;
      processor = subst (λ n. processor_of c.args.act < n)
          (sym (cpus_kept c.loop-made.self.machine c.make.new.self.machine so_far.ready.sound c.make.ensures.ready.sound made.made.setup))
          so_far.processor;
      made_so = made_on c.args.self.now c.loop-made.self c.args.act c.loop-made.made so_far.made_so _ _ made.made;
      conveyed = conveyed_on c.args.self.now c.loop-made.self c.args.act c.loop-made.made so_far.made_so _ _ _ _ _ _ _ so_far.conveyed made.ok;
      later = omega (arith, so_far.later, c.make.ensures.cause.later);
    }

pub returns-clause-made : goal.returns-clause-made
returns-clause-made g c =
    let so_far = c.loop-made.invariant in
    let all : c.loop-made.made ≡ c.args.times = omega (arith, so_far.most, c.loop-made-test.false) in
    subst (λ n. Makes c.args.self.now c.loop-made.self (replicate n c.args.act)) all so_far.made_so
