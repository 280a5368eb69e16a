use Rattle.std.proofs.Common.{refl}
use Rattle.lk_audit.specs.Lawful.{events_said}
use Rattle.lk_audit.proofs.Auditing.{broken_event, shows_event}
use Rattle.lk_audit.proofs.auditor.Auditor.judge.Goals as goal

pub returns-in-Err-clause-means : goal.returns-in-Err-clause-means
returns-in-Err-clause-means c = λ said s. (
  refl,
  (
    c.in-Err.breach,
    c.of.ensures,
    broken_event c.args.self.now said c.args.act c.args.event.now c.in-Err.breach c.requires.ready s c.in-Err.ensures.verdict
        (λ ok. (let is = (c.in-Err.ensures.exact (events_said said) s.taken).1 ok in cc)),
  ),
)

pub returns-clause-means : goal.returns-clause-means
returns-clause-means c = λ said s.
    shows_event c.args.self.now said c.args.act c.args.event.now c.take.new.self s (c.in_default.ensures.taken (events_said said) s.taken)
