use Rattle.lk_abs.proofs.OneMore.{exact, exact_none}
use Rattle.lk_abs.proofs.Unkicked.{all_from_no_kick, no_kick_from_all}
use Rattle.lk_abs.proofs.laws.judge_is_exact.Goals as goal

pub returns-clause-on_a_lock : goal.returns-clause-on_a_lock
returns-clause-on_a_lock c = λ rules es e l ok on. exact rules es e ok l on

pub returns-clause-on_none : goal.returns-clause-on_none
returns-clause-on_none c = λ rules es e ok off. exact_none rules es e ok off

pub returns-clause-no_kick : goal.returns-clause-no_kick
returns-clause-no_kick c = λ es ls. (λ e. all_from_no_kick es ls e, λ all. no_kick_from_all es ls all)
