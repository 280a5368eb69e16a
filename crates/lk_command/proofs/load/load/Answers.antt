use Rattle.std.proofs.Common.{◌++◌, ap₂, subst}
use Rattle.lk_text.specs.Block.{waiting}
use Rattle.lk_forms.specs.Texts.{closing}
use Rattle.lk_stream.specs.Outside.{outside}
use Rattle.lk_command.specs.Means.{Writes}
use Rattle.lk_command.specs.Status.{status_of_put}
use Rattle.lk_command.proofs.Answered.{put_writes}
use Rattle.lk_command.proofs.load.load.Goals as goal

pub returns-clause-writes : goal.returns-clause-writes
returns-clause-writes g c = λ left reads.
    let old = outside left reads (g.K.Sink.held c.args.sink.now) (g.K.Sink.faults c.args.sink.now) in
    let new = outside left reads (g.K.Sink.held c.write_closing.new.sink) (g.K.Sink.faults c.write_closing.new.sink) in
    let text = ap₂ (λ w t. w ++ t) c.in-Ok-new.ensures (ap₂ closing c.in-Ok.ensures.acts c.in-Ok.ensures.counts) in
    let put = c.write_closing.ensures in
    let whole = put_writes old new (waiting c.in-Ok-new.block ++ closing c.in-Ok.summary.acts c.in-Ok.summary.counts) c.write_closing.result put.ok put.err put.cause in
    rw c.of_put.ensures (subst (λ t. Writes old new t (status_of_put c.write_closing.result)) text whole)
