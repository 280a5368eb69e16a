use Rattle.lk_run.proofs.Names.{Writes}
use Rattle.lk_run.proofs.call.Writer.leave.Goals as goal

pub release-requires-clause-passed : goal.release-requires-clause-passed
release-requires-clause-passed c = (Writes, c.requires.passed.0, c.requires.passed.1, c.requires.passed.2)

pub returns-clause-came : goal.returns-clause-came
returns-clause-came c s t h = c.release.ensures.came Writes s t h
