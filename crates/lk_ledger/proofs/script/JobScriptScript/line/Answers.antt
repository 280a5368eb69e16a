use Rattle.lk_ledger.proofs.Obeyed.{goes, stays}
use Rattle.lk_ledger.proofs.script.JobScriptScript.line.Goals as goal

pub returns-in-Ok-clause-means : goal.returns-in-Ok-clause-means
returns-in-Ok-clause-means g c = λ said so.
    goes c.args.self.now.reader c.args.line.now _ _ said so c.line.new.self c.in-Ok.ensures.0

pub returns-in-Err-clause-means : goal.returns-in-Err-clause-means
returns-in-Err-clause-means g c = λ said so.
    stays c.args.self.now.reader c.args.line.now _ _ said so c.in-Err.why c.in-Err.ensures.1
