use Rattle.std.proofs.Common.{◌≡◌, false, sym, take, rules}
use Rattle.lk_text.specs.Reader.{pending}
use Rattle.lk_replay.proofs.schedule.next_said.Goals as goal

pub returns-clause-given : goal.returns-clause-given
returns-clause-given g c =
    let line = take c.in-Some.line (pending c.args.reader.now) in
    let going : c.args.ended ≡ false = search rules in
    let bytes : c.ahead.result.now ≡ pending c.args.reader.now = c.ahead.ensures in (
      line,
      c.take_front.ensures.taken (search rules) (g.S.Source.left c.args.source.now),
      rw going (sym (rw bytes at c.in-Some.ensures.said)),
    )
