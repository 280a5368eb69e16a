use Rattle.lk_run.proofs.Steps.{still_of}
use Rattle.lk_run.proofs.RwTurning as on
use Rattle.lk_run.proofs.Turning as turn
use Rattle.lk_run.proofs.call.Reader.enter.Goals as goal

pub join-requires : goal.join-requires
join-requires c = on.at_alone c.requires

pub wait-requires : goal.wait-requires
wait-requires c =
    let h = c.requires in
    record {
      domain = still_of c.args.self.now.domain.now c.args.cpu.now c.join.new.cpu c.join.ensures.rest h.domain;
      start = h.start;
      told = h.told;
      at = (h.at.0, c.join.ensures.goes h.start h.told h.at.1);
    }

pub returns : goal.returns
returns c = turn.after c.join.ensures.rest (λ s t h. (h.0, c.join.ensures.goes s t h.1)) c.wait.ensures
