use Rattle.lk_run.proofs.Steps.{still_of}
use Rattle.lk_run.proofs.Turning as turn
use Rattle.lk_run.proofs.call.Call.wait_on.Goals as goal

pub contend-requires : goal.contend-requires
contend-requires g c =
    let h = c.requires.begun in
    record { domain = c.requires.domain; start = h.start; told = g.I.Irq.polls c.args.irq.now; arrives = h.at }

pub give_way-requires : goal.give_way-requires
give_way-requires g c = still_of c.args.self.now.domain.now c.args.cpu.now c.loop.cpu c.loop.invariant.2.rest c.requires.domain

pub turn-requires : goal.turn-requires
turn-requires g c = turn.rests_at c.args.self.now c.loop.place c.give_way.ensures c.requires.domain c.requires.begun c.loop.invariant.2

pub returns-in-None-turn : goal.returns-in-None-turn
returns-in-None-turn g c =
    turn.path_earns c.loop.invariant.2 c.give_way.ensures c.turn.ensures (turn.polled c.args.self.now c.loop.place c.give_way.ensures) c.in-None-turn.is

pub loop-preserved : goal.loop-preserved
loop-preserved g c =
    (tt, tt, turn.path_turns c.loop.invariant.2 c.give_way.ensures c.turn.ensures (turn.polled c.args.self.now c.loop.place c.give_way.ensures) c.in-Some-turn.is)

pub loop-init : goal.loop-init
loop-init g c = (tt, tt, turn.path_begins c.in-Some.is c.contend.ensures)
