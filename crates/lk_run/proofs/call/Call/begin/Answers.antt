use Rattle.lk_run.proofs.Turning as turn
use Rattle.lk_run.proofs.call.Call.begin.Goals as goal

pub fast-met-requires : goal.fast-met-requires
fast-met-requires c = c.requires

pub returns-then-met-eq0 : goal.returns-then-met-eq0
returns-then-met-eq0 c = turn.takes_turns (c.fast-met.ensures.taken c.if-met-eq0.true)

pub contend-requires : goal.contend-requires
contend-requires c = turn.meets_came (c.fast-met.ensures.waits c.if-met-eq0.false) c.requires

pub returns : goal.returns
returns c = turn.meets_turns (c.fast-met.ensures.waits c.if-met-eq0.false) c.contend.ensures
