use Rattle.lk_run.proofs.Turning as turn
use Rattle.lk_run.proofs.{RwTurning.{read_polled, read_fits}, Steps.still_of}
use Rattle.lk_run.proofs.reading.read_slowpath.Goals as goal

pub contend-requires : goal.contend-requires
contend-requires g c =
    let h = c.requires.begun in
    record { domain = c.requires.domain; start = h.start; told = g.I.Irq.polls c.args.irq.now; at = h.at }

pub give_way-requires : goal.give_way-requires
give_way-requires g c = still_of c.args.domain.now c.args.cpu.now c.loop.cpu c.loop.invariant.2.rest c.requires.domain

pub turn-requires-clause-fits : goal.turn-requires-clause-fits
turn-requires-clause-fits g c = read_fits c.args.domain.now.plan c.loop.place c.loop.cpu c.give_way.new.cpu c.give_way.ensures.calls c.loop.invariant.2.fits

pub turn-requires-clause-waits : goal.turn-requires-clause-waits
turn-requires-clause-waits g c =
    let h = c.requires.begun in
    let path = c.loop.invariant.2 in
    record {
      domain = turn.still_gave path.rest c.give_way.ensures c.requires.domain;
      start = h.start;
      told = g.I.Irq.polls c.give_way.new.irq;
      at = read_polled c.give_way.ensures c.args.domain.now c.args.lock.index c.loop.place h.start h.nests_is (path.owes h.start h.nests_is h.at);
    }

pub returns-in-None-turn : goal.returns-in-None-turn
returns-in-None-turn g c =
    turn.path_earns c.loop.invariant.2 c.give_way.ensures c.turn.ensures
    (read_polled c.give_way.ensures c.args.domain.now c.args.lock.index c.loop.place) c.in-None-turn.is

pub loop-preserved : goal.loop-preserved
loop-preserved g c = (
  tt,
  tt,
  turn.path_turns c.loop.invariant.2 c.give_way.ensures c.turn.ensures
      (read_polled c.give_way.ensures c.args.domain.now c.args.lock.index c.loop.place) c.in-Some-turn.is,
)

pub loop-init : goal.loop-init
loop-init g c = (tt, tt, turn.path_begins c.in-Some.is c.contend.ensures)
