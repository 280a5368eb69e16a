use Rattle.lk_run.proofs.Steps.{still_of}
use Rattle.lk_run.proofs.Turning as turn
use Rattle.lk_run.specs.declared.write_waiter.WritePlace.TheVariants as place
use Rattle.lk_run.proofs.call.Writer.go_on.Goals as goal

pub turn-requires : goal.turn-requires
turn-requires c =
    let h = c.requires.waits in
    record { domain = h.domain; fits = c.requires.fits; start = h.start; told = h.told; waits = h.at }

pub returns-in-Some : goal.returns-in-Some
returns-in-Some c =
    let r = c.in-Some.rest in
    turn.rests (place.Queues r) c.turn.ensures.rest (c.turn.ensures.fits r c.in-Some.is) (c.turn.ensures.owes r c.in-Some.is)

pub enter-requires : goal.enter-requires
enter-requires c =
    let h = c.requires.waits in
    record {
      domain = still_of c.args.self.now.domain.now c.args.cpu.now c.turn.new.cpu c.turn.ensures.rest h.domain;
      start = h.start;
      told = h.told;
      at = c.turn.ensures.has c.in-None.is h.start h.told h.at;
    }

pub returns-in-None : goal.returns-in-None
returns-in-None c = turn.after c.turn.ensures.rest (c.turn.ensures.has c.in-None.is) c.enter.ensures
