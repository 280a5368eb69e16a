use Rattle.std.proofs.Common.{ap, sym, ◌∙◌, arith, length}
use Rattle.lk_steps.proofs.told.Told.act.Goals as goal

pub returns-clause-ready : goal.returns-clause-ready
returns-clause-ready c =
    let made = c.act-event.ensures in
    let old = c.requires.ready in record {
      sound = made.sound;
      few = omega (arith, c.requires.few);
      counts = made.counted c.args.self.now.acts old.counts;
      locks = old.locks ∙ ap (λ s. length s.locks.items) (sym made.setup);
    }
