use Rattle.lk_run.proofs.Steps.{still_of, rest_both}
use Rattle.lk_run.proofs.RwTurning as on
use Rattle.lk_run.proofs.Turning as turn
use Rattle.lk_run.specs.declared.read_waiter.ReadPlace.TheVariants as place
use Rattle.lk_run.proofs.call.Reader.queue.Goals as goal

pub retreat-requires : goal.retreat-requires
retreat-requires c = on.at_alone c.requires

pub begin-requires : goal.begin-requires
begin-requires c =
    let h = c.requires in
    record {
      domain = still_of c.args.self.now.domain.now c.args.cpu.now c.retreat.new.cpu c.retreat.ensures.rest h.domain;
      start = h.start;
      told = h.told;
      waits = c.retreat.ensures.has h.start h.told h.at.1;
    }

pub returns-in-Some : goal.returns-in-Some
returns-in-Some c =
    let r = c.in-Some.rest in
    turn.rests (place.Queues r) (rest_both c.args.cpu.now c.retreat.new.cpu c.begin.new.cpu c.retreat.ensures.rest c.begin.ensures.rest)
    (c.begin.ensures.fits r c.in-Some.is) (λ s t h. (h.0, c.begin.ensures.owes r c.in-Some.is s t (c.retreat.ensures.has s t h.1)))

pub enter-requires : goal.enter-requires
enter-requires c =
    let h = c.requires in
    record {
      domain = still_of c.args.self.now.domain.now c.args.cpu.now c.begin.new.cpu
          (rest_both c.args.cpu.now c.retreat.new.cpu c.begin.new.cpu c.retreat.ensures.rest c.begin.ensures.rest) h.domain;
      start = h.start;
      told = h.told;
      at = (h.at.0, c.begin.ensures.has c.in-None.is h.start h.told (c.retreat.ensures.has h.start h.told h.at.1));
    }

pub returns-in-None : goal.returns-in-None
returns-in-None c =
    turn.after (rest_both c.args.cpu.now c.retreat.new.cpu c.begin.new.cpu c.retreat.ensures.rest c.begin.ensures.rest)
    (λ s t h. (h.0, c.begin.ensures.has c.in-None.is s t (c.retreat.ensures.has s t h.1))) c.enter.ensures
