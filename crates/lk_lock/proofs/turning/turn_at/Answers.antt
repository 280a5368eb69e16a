use Rattle.lk_lock.proofs.AwakeSteps.{turns}
use Rattle.lk_lock.proofs.turning.turn_at.Goals as goal

pub work_late-requires-clause-waits : goal.work_late-requires-clause-waits
work_late-requires-clause-waits g c = (
  c.args.cpu.now,
  record {
    ready = c.requires.ready;
    free = c.requires.free;
    rest = c.in-Err.ensures.rest;
    other = c.in-Err.ensures.waits.0;
    made = c.in-Err.ensures.waits.2;
  },
)

pub returns-in-Ok-clause-turned : goal.returns-in-Ok-clause-turned
returns-in-Ok-clause-turned g c =
    turns c.args.domain.now c.args.cpu.now c.requires.ready c.requires.awake c.args.place.aim.manner c.args.place.aim.lock.index
    c.turn-turned.new.cpu c.in-Ok.ensures.rest c.in-Ok.ensures.turned
