use Rattle.lk_text.proofs.FeedLemmas.{found_in_part, none_in_part}
use Rattle.lk_text.proofs.feeds.find_far_feed.Goals as goal

pub returns-in-Some-clause-found : goal.returns-in-Some-clause-found
returns-in-Some-clause-found c = found_in_part _ _ _ _ _ c.requires.plain c.in-Some.ensures

pub returns-in-None-clause-none : goal.returns-in-None-clause-none
returns-in-None-clause-none c = λ _. none_in_part c.args.block.now c.args.at c.args.clear c.args.end c.requires.plain c.in-None.ensures
