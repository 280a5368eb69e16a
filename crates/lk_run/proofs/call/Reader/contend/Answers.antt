use Rattle.std.proofs.Common.{sym, ◌∙◌}
use Rattle.lk_run.proofs.{RwSteps.{biased_alone, biased_nested}, Steps.rest_same}
use Rattle.lk_run.proofs.Turning as turn
use Rattle.lk_run.proofs.call.Reader.contend.Goals as goal

pub queue-requires : goal.queue-requires
queue-requires c =
    let h = c.requires in
    record {
      domain = h.domain;
      start = h.start;
      told = h.told;
      at = biased_alone c.args.self.now.domain.now c.args.self.now.lock.index h.start c.args.cpu.now h.told h.at (sym c.depth-alone.ensures ∙ c.if-alone.true);
    }

pub returns-then-alone : goal.returns-then-alone
returns-then-alone c =
    let r = c.args.self.now in
    turn.after (rest_same c.args.cpu.now)
    (λ s t h. biased_alone r.domain.now r.lock.index s c.args.cpu.now t h (sym c.depth-alone.ensures ∙ c.if-alone.true)) c.queue.ensures

pub spin-requires : goal.spin-requires
spin-requires c =
    let h = c.requires in
    record {
      domain = h.domain;
      start = h.start;
      told = h.told;
      at = biased_nested c.args.self.now.domain.now c.args.self.now.lock.index h.start c.args.cpu.now h.told h.at (λ e. c.if-alone.false (c.depth-alone.ensures ∙ e));
    }

pub returns-else-alone : goal.returns-else-alone
returns-else-alone c =
    let r = c.args.self.now in
    turn.after (rest_same c.args.cpu.now)
    (λ s t h. biased_nested r.domain.now r.lock.index s c.args.cpu.now t h (λ e. c.if-alone.false (c.depth-alone.ensures ∙ e))) c.spin.ensures
