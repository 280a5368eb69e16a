use Rattle.lk_run.proofs.Steps.{still_of}
use Rattle.lk_run.proofs.Turning as turn
use Rattle.lk_run.specs.declared.read_waiter.ReadPlace.TheVariants as place
use Rattle.lk_run.proofs.call.Reader.go_on.Goals as goal

pub turn-requires : goal.turn-requires
turn-requires c =
    let h = c.requires.waits in
    record { domain = h.domain; fits = c.requires.fits; start = h.start; told = h.told; waits = h.at.1 }

pub returns-in-Some : goal.returns-in-Some
returns-in-Some c =
    let r = c.in-Some.rest in
    turn.rests (place.Queues r) c.turn.ensures.rest (c.turn.ensures.fits r c.in-Some.is)
    (λ s t h. (h.0, c.turn.ensures.owes r c.in-Some.is s t h.1))

pub enter-requires : goal.enter-requires
enter-requires c =
    let h = c.requires.waits in
    record {
      domain = still_of c.args.self.now.domain.now c.args.cpu.now c.turn.new.cpu c.turn.ensures.rest h.domain;
      start = h.start;
      told = h.told;
      at = (h.at.0, c.turn.ensures.has c.in-None.is h.start h.told h.at.1);
    }

pub returns-in-None : goal.returns-in-None
returns-in-None c = turn.after c.turn.ensures.rest (λ s t h. (h.0, c.turn.ensures.has c.in-None.is s t h.1)) c.enter.ensures
