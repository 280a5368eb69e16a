use Rattle.std.proofs.Common.{ap, sym, ◌∙◌}
use Rattle.lk_run.proofs.Names.{moves_aside}
use Rattle.lk_run.proofs.Calling as on
use Rattle.lk_run.proofs.Turning as turn
use Rattle.lk_run.proofs.call.Front.stake.Goals as goal

pub take_head-requires : goal.take_head-requires
take_head-requires c = c.requires

pub choose-requires : goal.choose-requires
choose-requires c = on.stepped (c.take_head.ensures.chooses (sym (c.moves_waiters.ensures ∙ ap moves_aside c.mode.ensures) ∙ c.if-moves_waiters.true)) c.requires

pub returns-then-moves_waiters : goal.returns-then-moves_waiters
returns-then-moves_waiters c = turn.step_turns (c.take_head.ensures.chooses (sym (c.moves_waiters.ensures ∙ ap moves_aside c.mode.ensures) ∙ c.if-moves_waiters.true)) c.choose.ensures

pub pass_on-requires : goal.pass_on-requires
pass_on-requires c = on.stepped (c.take_head.ensures.goes (sym (c.moves_waiters.ensures ∙ ap moves_aside c.mode.ensures) ∙ c.if-moves_waiters.false)) c.requires

pub returns-else-moves_waiters : goal.returns-else-moves_waiters
returns-else-moves_waiters c = turn.step_turns (c.take_head.ensures.goes (sym (c.moves_waiters.ensures ∙ ap moves_aside c.mode.ensures) ∙ c.if-moves_waiters.false)) c.pass_on.ensures
