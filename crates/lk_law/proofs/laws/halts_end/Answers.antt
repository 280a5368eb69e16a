use Rattle.lk_law.proofs.common.Knows.{nobody_halts}
use Rattle.lk_law.proofs.pv.HaltLayers.{wake_keeps, nudge_keeps, int_keeps, interrupt_keeps}
use Rattle.lk_law.proofs.pv.HaltsEnd.{spin_wake_keeps, spin_nudge_keeps, spin_int_keeps}
use Rattle.lk_law.proofs.pv.HaltsEnd.{roused_is_awake, top_is_awake}
use Rattle.lk_law.proofs.pv.Interrupts.{spin_interrupt_keeps}
use Rattle.lk_law.proofs.laws.halts_end.Goals as goal

pub returns-clause-spin_wake : goal.returns-clause-spin_wake
returns-clause-spin_wake c = spin_wake_keeps

pub returns-clause-spin_nudge : goal.returns-clause-spin_nudge
returns-clause-spin_nudge c = spin_nudge_keeps

pub returns-clause-spin_interrupt : goal.returns-clause-spin_interrupt
returns-clause-spin_interrupt c = spin_int_keeps

pub returns-clause-roused : goal.returns-clause-roused
returns-clause-roused c = roused_is_awake

pub returns-clause-top : goal.returns-clause-top
returns-clause-top c = top_is_awake

pub returns-clause-nobody : goal.returns-clause-nobody
returns-clause-nobody c = nobody_halts

pub returns-clause-spin_interrupted : goal.returns-clause-spin_interrupted
returns-clause-spin_interrupted c = spin_interrupt_keeps

pub returns-clause-wake : goal.returns-clause-wake
returns-clause-wake c = wake_keeps

pub returns-clause-nudge : goal.returns-clause-nudge
returns-clause-nudge c = nudge_keeps

pub returns-clause-interrupt : goal.returns-clause-interrupt
returns-clause-interrupt c = int_keeps

pub returns-clause-interrupted : goal.returns-clause-interrupted
returns-clause-interrupted c = interrupt_keeps
