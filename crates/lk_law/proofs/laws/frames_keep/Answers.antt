use Rattle.lk_law.proofs.common.Begins.{spin_begin_keeps, spin_end_keeps}
use Rattle.lk_law.proofs.rw.Begins.{begin_keeps, end_keeps}
use Rattle.lk_law.proofs.laws.frames_keep.Goals as goal

pub returns-clause-spin_begin : goal.returns-clause-spin_begin
returns-clause-spin_begin c = spin_begin_keeps

pub returns-clause-spin_end : goal.returns-clause-spin_end
returns-clause-spin_end c = spin_end_keeps

pub returns-clause-begin : goal.returns-clause-begin
returns-clause-begin c = begin_keeps

pub returns-clause-end : goal.returns-clause-end
returns-clause-end c = end_keeps
