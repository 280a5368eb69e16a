use Rattle.lk_domain.proofs.seats.Openings.{IsOpened}
use Rattle.lk_domain.proofs.making.opening_words.Given as goal

abbrev pub invariant-loop-account : goal.invariant-loop-account
invariant-loop-account l = IsOpened l.plan l.account l.words.items
