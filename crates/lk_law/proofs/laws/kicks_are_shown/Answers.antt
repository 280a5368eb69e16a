use Rattle.lk_law.proofs.pv.HaltLayers.{fronts_are_owed}
use Rattle.lk_law.proofs.pv.HaltsShown.{begin_shows, end_shows, wake_shows, nudge_shows, int_shows}
use Rattle.lk_law.proofs.pv.HaltsShown.{int_awake_shows, spin_fronts_are_owed}
use Rattle.lk_law.proofs.{pv.Interrupts.interrupt_shows, pv.KicksShown.every_row_shows}
use Rattle.lk_law.proofs.laws.kicks_are_shown.Goals as goal

pub returns-clause-rows : goal.returns-clause-rows
returns-clause-rows c = every_row_shows

pub returns-clause-begin : goal.returns-clause-begin
returns-clause-begin c = begin_shows

pub returns-clause-end : goal.returns-clause-end
returns-clause-end c = end_shows

pub returns-clause-wake : goal.returns-clause-wake
returns-clause-wake c = wake_shows

pub returns-clause-nudge : goal.returns-clause-nudge
returns-clause-nudge c = nudge_shows

pub returns-clause-interrupt : goal.returns-clause-interrupt
returns-clause-interrupt c = int_shows

pub returns-clause-interrupt_awake : goal.returns-clause-interrupt_awake
returns-clause-interrupt_awake c = int_awake_shows

pub returns-clause-spin_owed : goal.returns-clause-spin_owed
returns-clause-spin_owed c = spin_fronts_are_owed

pub returns-clause-interrupted : goal.returns-clause-interrupted
returns-clause-interrupted c = interrupt_shows

pub returns-clause-owed : goal.returns-clause-owed
returns-clause-owed c = fronts_are_owed
