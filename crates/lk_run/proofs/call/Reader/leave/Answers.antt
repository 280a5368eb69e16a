use Rattle.lk_run.proofs.Names.{Reads}
use Rattle.lk_run.proofs.call.Reader.leave.Goals as goal

pub release-requires-clause-passed : goal.release-requires-clause-passed
release-requires-clause-passed c = (Reads, c.requires.passed.0, c.requires.passed.1, c.requires.passed.2)

pub returns-clause-came : goal.returns-clause-came
returns-clause-came c s t h = c.release.ensures.came Reads s t h
