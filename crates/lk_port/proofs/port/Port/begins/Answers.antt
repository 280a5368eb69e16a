use Rattle.std.proofs.Common.{sym, ◌∙◌}
use Rattle.lk_port.proofs.Shares.{runs_by}
use Rattle.lk_port.proofs.port.Port.begins.Goals as goal

pub returns-then-begins_running-clause-taken : goal.returns-then-begins_running-clause-taken
returns-then-begins_running-clause-taken c done =
    runs_by _ _ c.args.self.now.share (sym c.halts.ensures ∙ c.if-halts.false) (c.begins_running.ensures.taken c.if-begins_running.true)
