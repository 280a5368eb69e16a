use Rattle.std.proofs.Common.{ap, sym, ◌∙◌}
use Rattle.lk_core.proofs.Names.{Answer}
use Rattle.lk_core.proofs.ActDone.{act_done, preempt_is, resume_is}
use Rattle.lk_names.specs.declared.events.Act.TheVariants as act
use Rattle.lk_core.proofs.acts.act.Goals as goal

pub returns-in-Step : goal.returns-in-Step
returns-in-Step c =
    let d = act_done c.args.machine.now c.args.act (act.Step c.in-Step.cpu) c.step.new.machine
    c.step.result c.in-Step.is c.requires.range c.requires.sound c.step.ensures.next
    c.step.ensures.event in
    record {
      next = d.next;
      event = d.event;
      idle = d.idle;
      busy = d.busy;
      sound = d.sound;
      keeps = d.keeps;
      counted = d.counted;
      setup = d.setup;
    }

pub returns-in-Interrupt : goal.returns-in-Interrupt
returns-in-Interrupt c =
    let d = act_done c.args.machine.now c.args.act (act.Interrupt c.in-Interrupt.cpu)
    c.interrupt.new.machine c.interrupt.result c.in-Interrupt.is c.requires.range
    c.requires.sound c.interrupt.ensures.next c.interrupt.ensures.event in
    record {
      next = d.next;
      event = d.event;
      idle = d.idle;
      busy = d.busy;
      sound = d.sound;
      keeps = d.keeps;
      counted = d.counted;
      setup = d.setup;
    }

pub returns-in-Preempt : goal.returns-in-Preempt
returns-in-Preempt c =
    let is = sym (preempt_is c.args.machine.now c.in-Preempt.cpu) in
    let d = act_done c.args.machine.now c.args.act (act.Preempt c.in-Preempt.cpu)
    c.set_preempted.new.self _ c.in-Preempt.is c.requires.range c.requires.sound
    (c.set_preempted.ensures ∙ ap (λ (a : Answer). a.0) is) (ap (λ (a : Answer). a.1) is) in
    record {
      next = d.next;
      event = d.event;
      idle = d.idle;
      busy = d.busy;
      sound = d.sound;
      keeps = d.keeps;
      counted = d.counted;
      setup = d.setup;
    }

pub returns-in-Resume : goal.returns-in-Resume
returns-in-Resume c =
    let is = sym (resume_is c.args.machine.now c.in-Resume.cpu) in
    let d = act_done c.args.machine.now c.args.act (act.Resume c.in-Resume.cpu)
    c.set_preempted-in-Resume.new.self _ c.in-Resume.is c.requires.range c.requires.sound
    (c.set_preempted-in-Resume.ensures ∙ ap (λ (a : Answer). a.0) is)
    (ap (λ (a : Answer). a.1) is) in
    record {
      next = d.next;
      event = d.event;
      idle = d.idle;
      busy = d.busy;
      sound = d.sound;
      keeps = d.keeps;
      counted = d.counted;
      setup = d.setup;
    }

pub returns-in-Nudge : goal.returns-in-Nudge
returns-in-Nudge c =
    let d = act_done c.args.machine.now c.args.act (act.Nudge c.in-Nudge.cpu) c.nudge.new.machine
    c.nudge.result c.in-Nudge.is c.requires.range c.requires.sound c.nudge.ensures.next
    c.nudge.ensures.event in
    record {
      next = d.next;
      event = d.event;
      idle = d.idle;
      busy = d.busy;
      sound = d.sound;
      keeps = d.keeps;
      counted = d.counted;
      setup = d.setup;
    }
