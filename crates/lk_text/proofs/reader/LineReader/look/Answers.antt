use Rattle.std.proofs.Common.{◌≡◌, ◌+◌, ◌-◌, arith, length, refl}
use Rattle.lk_text.proofs.Limits.{long_passes, much_passes}
use Rattle.lk_text.proofs.AtHand.{none_at_hand, length-pending}
use Rattle.lk_text.proofs.FeedLemmas.{HasNoFeed-take, read_at_feed}
use Rattle.lk_text.specs.Feeds.{HasNoFeed, FeedAt}
use Rattle.lk_text.specs.Reader.{pending}
use Rattle.lk_text.proofs.reader.LineReader.look.Goals as goal
use Rattle.lk_text.proofs.reader.LineReader.look.Goals.{In-Some, In-None}

-- the first line feed of the pending bytes
feed_at : (c : In-Some) → FeedAt (pending c.args.self.now) c.in-Some.line
feed_at c = rw c.deref.ensures.value at c.in-Some.ensures.found

-- none of the pending bytes is a line feed
none_at : (c : In-None) → HasNoFeed (pending c.args.self.now)
none_at c = rw c.deref.ensures.value at (c.in-None.ensures.none refl)

pub returns-in-Some-passed_limit-clause-long : goal.returns-in-Some-passed_limit-clause-long
returns-in-Some-passed_limit-clause-long c = λ e.
    let limits = c.in-Some-passed_limit.ensures.long cc in
    let feed = feed_at (goal.at.returns-in-Some-passed_limit-clause-long c).In-Some in
    long_passes _ _ c.in-Some.line feed.plain (omega (arith, feed.within)) limits.0 limits.1

pub returns-in-Some-passed_limit-clause-much : goal.returns-in-Some-passed_limit-clause-much
returns-in-Some-passed_limit-clause-much c = λ e.
    let limits = c.in-Some-passed_limit.ensures.much cc in
    let feed = feed_at (goal.at.returns-in-Some-passed_limit-clause-much c).In-Some in
    much_passes _ _ c.in-Some.line (c.in-Some.line + 1) feed.plain (omega (arith, feed.within)) (omega arith) (λ _. read_at_feed (pending c.args.self.now) c.in-Some.line feed.here) c.args.self.now.within limits.0 limits.1

pub returns-in-Some-passed_limit-2-clause-long : goal.returns-in-Some-passed_limit-2-clause-long
returns-in-Some-passed_limit-2-clause-long c = λ e.
    let limits = c.in-Some-passed_limit-2.ensures.long cc in
    let here = (goal.at.returns-in-Some-passed_limit-2-clause-long c).In-None in
    let line = c.args.self.now.end - c.args.self.now.at in
    long_passes (pending c.args.self.now) _ line (HasNoFeed-take _ line (none_at here)) (omega (arith, length-pending c.args.self.now)) limits.0 limits.1

pub returns-in-Some-passed_limit-2-clause-much : goal.returns-in-Some-passed_limit-2-clause-much
returns-in-Some-passed_limit-2-clause-much c = λ e.
    let limits = c.in-Some-passed_limit-2.ensures.much cc in
    let here = (goal.at.returns-in-Some-passed_limit-2-clause-much c).In-None in
    let line = c.args.self.now.end - c.args.self.now.at in
    much_passes (pending c.args.self.now) _ line line (HasNoFeed-take _ line (none_at here)) (omega (arith, length-pending c.args.self.now)) (omega arith) (λ odd. absurd (omega arith)) c.args.self.now.within limits.0 limits.1

pub returns-in-None-passed_limit-2-clause-none : goal.returns-in-None-passed_limit-2-clause-none
returns-in-None-passed_limit-2-clause-none c = λ _.
    let plain = none_at (goal.at.returns-in-None-passed_limit-2-clause-none c).In-None in
    let limits = c.in-None-passed_limit-2.ensures.none cc in (
      plain,
      none_at_hand c.args.self.now plain,
      limits.0,
      limits.1,
    )
