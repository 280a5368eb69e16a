use Rattle.std.proofs.Common.{arith}
use Rattle.lk_text.proofs.FeedLemmas.{found_near}
use Rattle.lk_text.proofs.feeds.find_feed.Goals as goal

pub returns-in-Some-clause-found : goal.returns-in-Some-clause-found
returns-in-Some-clause-found c =
    found_near _ c.args.at c.args.clear _ c.args.end _ c.requires.plain c.in-Some.ensures (omega arith) (omega arith)
