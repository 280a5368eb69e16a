use Rattle.std.proofs.Common.{◌≡◌, ◌<◌, ◌≤◌, ◌+◌, ◌∙◌, ℕ, None, Some, ap, subst, sym, refl, arith, replicate}
use Rattle.lk_rows.specs.Acts.{processor_of}
use Rattle.lk_rows.specs.Run.{occurs}
use Rattle.lk_replay.specs.Run.{Makes}
use Rattle.lk_replay.proofs.RunLemmas.{CountsWithin-more, cpus_kept, made_on, ready_after, gone_on, made_nothing, ready_still, ready_counted, made_counted, made_quietly, made_telling, occurrences_more}
use Rattle.lk_replay.proofs.run.Run.until_event.Goals as goal

pub loop-made-init : goal.loop-made-init
loop-made-init c = record {
  acts = refl;
  events = refl;
  ready = ready_still c.args.self.now c.requires.ready;
  processor = c.requires.processor;
  made = made_nothing c.args.self.now;
  none = refl;
}

pub act-requires-clause-sound : goal.act-requires-clause-sound
act-requires-clause-sound c = c.loop-made.invariant.ready.sound

pub act-requires-clause-counts : goal.act-requires-clause-counts
act-requires-clause-counts c =
    let few : c.args.self.now.acts + c.loop-made.made ≤ 100000000 = c.loop-made.invariant.ready.few in
    CountsWithin-more (c.args.self.now.acts + c.loop-made.made) _ c.loop-made.self.machine.counts (omega arith) c.loop-made.invariant.ready.counts

pub returns-in-Some-clause-told : goal.returns-in-Some-clause-told
returns-in-Some-clause-told c =
    let so_far = c.loop-made.invariant in
    let from = c.args.self.now in
    ap (λ (n : ℕ). occurs n (Some c.in-Some.event)) (omega (arith, so_far.acts))
    ∙ sym (occurrences_more from c.loop-made.self.machine c.loop-made.made c.args.act (Some c.in-Some.event) c.in-Some.ensures.event so_far.made so_far.none)

pub returns-in-Some-clause-ready : goal.returns-in-Some-clause-ready
returns-in-Some-clause-ready c =
    let so_far = c.loop-made.invariant in
    let from = c.args.self.now in
    ready_after (gone_on from c.loop-made.self.machine c.loop-made.made) _ so_far.ready
    (omega (arith, c.requires.few, c.loop-made-test.true))
    c.act.ensures.sound c.act.ensures.counted (omega (arith, so_far.acts))

pub returns-in-Some-clause-made : goal.returns-in-Some-clause-made
returns-in-Some-clause-made c =
    let so_far = c.loop-made.invariant in
    let from = c.args.self.now in
    let act = c.in-Some.ensures in
    made_on from (gone_on from c.loop-made.self.machine c.loop-made.made) c.args.act c.loop-made.made so_far.made _ 1
    (made_telling from c.loop-made.self.machine c.loop-made.made c.args.act _ c.in-Some.event act.next act.event act.setup
    (omega (arith, so_far.acts)) (omega (arith, so_far.events)) act.keeps)

pub loop-made-preserved : goal.loop-made-preserved
loop-made-preserved c =
    let so_far = c.loop-made.invariant in
    let from = c.args.self.now in
    let m = c.loop-made.self.machine in
    let act = c.in_default.ensures in record {
      acts = so_far.acts;
      events = so_far.events;
      ready = ready_after (gone_on from m c.loop-made.made) (gone_on from c.act.new.machine (c.loop-made.made + 1)) so_far.ready
          (omega (arith, c.requires.few, c.loop-made-test.true)) act.sound act.counted (omega arith);
      processor = subst (λ n. processor_of c.args.act < n)
          (sym (cpus_kept m c.act.new.machine so_far.ready.sound act.sound act.setup))
          so_far.processor;
      made = made_on from (gone_on from m c.loop-made.made) c.args.act c.loop-made.made so_far.made _ 1
          (made_quietly from m c.loop-made.made c.args.act c.act.new.machine act.next act.event act.setup act.keeps);
      none = occurrences_more from m c.loop-made.made c.args.act None act.event so_far.made so_far.none;
    }

pub returns-clause-ready : goal.returns-clause-ready
returns-clause-ready c =
    let so_far = c.loop-made.invariant in
    let all : c.loop-made.made ≡ c.args.times = omega (arith, c.loop-made-test.false, c.loop-made.auto.made-end) in
    ready_counted c.args.self.now _ c.loop-made.self.machine c.loop-made.made refl (omega (arith, all, so_far.acts)) so_far.ready

pub returns-clause-made : goal.returns-clause-made
returns-clause-made c =
    let so_far = c.loop-made.invariant in
    let from = c.args.self.now in
    let all : c.loop-made.made ≡ c.args.times = omega (arith, c.loop-made-test.false, c.loop-made.auto.made-end) in
    made_counted from _ c.loop-made.self.machine c.loop-made.made (replicate c.args.times c.args.act) refl (omega (arith, all, so_far.acts)) so_far.events
    (subst (λ (n : ℕ). Makes from (gone_on from c.loop-made.self.machine c.loop-made.made) (replicate n c.args.act)) all so_far.made)
