use Rattle.lk_audit.proofs.Once.{complete, breaks, exact}
use Rattle.lk_audit.proofs.verdict.audit.Goals as goal

pub returns-clause-outcome : goal.returns-clause-outcome
returns-clause-outcome g c = c.tell.ensures.means _ _ _ _ c.judge-answer.ensures.stops

pub returns-clause-complete : goal.returns-clause-complete
returns-clause-complete g c = λ bytes said known is ok no_read no_write.
    complete _ _ bytes known no_read no_write said c.tell.result is ok (c.tell.ensures.means _ _ _ _ c.judge-answer.ensures.stops)

pub returns-clause-breaks : goal.returns-clause-breaks
returns-clause-breaks g c = λ bytes line breach known b no_read no_write.
    breaks _ _ bytes known no_read no_write line breach c.tell.result b (c.tell.ensures.means _ _ _ _ c.judge-answer.ensures.stops)

pub returns-clause-exact : goal.returns-clause-exact
returns-clause-exact g c = λ bytes line why said known is ok no_read no_write.
    exact _ _ bytes known no_read no_write line why said c.tell.result is ok (c.tell.ensures.means _ _ _ _ c.judge-answer.ensures.stops)
