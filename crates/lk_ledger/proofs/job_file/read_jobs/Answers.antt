use Rattle.std.proofs.Common.{◌∙◌, ap, None, Ok, Err}
use Rattle.lk_job_forms.specs.Grammar.{Reading, ending}
use Rattle.lk_job_forms.specs.Reader.{reading}
use Rattle.lk_ledger.proofs.Obeyed.{has_ended}
use Rattle.lk_ledger.proofs.Answered.{is_read, not_read, complete, exact}
use Rattle.lk_ledger.proofs.job_file.read_jobs.Goals as goal

pub finish-requires : goal.finish-requires
finish-requires g c =
    let done = c.in-Ok.ensures.done in
    has_ended (reading c.in-Ok.script.reader) (ap ending done.1 ∙ done.2.ends)

pub returns-in-Ok-clause-reads : goal.returns-in-Ok-clause-reads
returns-in-Ok-clause-reads g c =
    let done = c.in-Ok.ensures.done in
    is_read _ _ _ _ None None done.0 c.finish.result done.2
    (c.finish.ensures.says ∙ ap (λ (r : Reading). r.work) done.1)

pub returns-in-Ok-clause-exact : goal.returns-in-Ok-clause-exact
returns-in-Ok-clause-exact g c = λ bytes line why known is no_read.
    let done = c.in-Ok.ensures.done in
    let read = is_read (g.S.Source.left c.args.source.now) (g.S.Source.left c.follow.new.source)
    (g.S.Source.faults c.args.source.now) (g.S.Source.faults c.follow.new.source) None None
    done.0 c.finish.result done.2 (c.finish.ensures.says ∙ ap (λ (r : Reading). r.work) done.1) in
    exact (g.S.Source.left c.args.source.now) (g.S.Source.left c.follow.new.source)
    (g.S.Source.faults c.args.source.now) (g.S.Source.faults c.follow.new.source) bytes known no_read line why (Ok c.finish.result) is read

pub returns-in-Err-clause-reads : goal.returns-in-Err-clause-reads
returns-in-Err-clause-reads g c = not_read _ _ _ _ None None c.in-Err.fault c.in-Err.ensures.fault

pub returns-in-Err-clause-complete : goal.returns-in-Err-clause-complete
returns-in-Err-clause-complete g c = λ bytes work known is no_read.
    let means = not_read (g.S.Source.left c.args.source.now) (g.S.Source.left c.follow.new.source)
    (g.S.Source.faults c.args.source.now) (g.S.Source.faults c.follow.new.source) None None
    c.in-Err.fault c.in-Err.ensures.fault in
    complete (g.S.Source.left c.args.source.now) (g.S.Source.left c.follow.new.source)
    (g.S.Source.faults c.args.source.now) (g.S.Source.faults c.follow.new.source) bytes known no_read work (Err c.in-Err.fault) is means

pub returns-in-Err-clause-exact : goal.returns-in-Err-clause-exact
returns-in-Err-clause-exact g c = λ bytes line why known is no_read.
    let means = not_read (g.S.Source.left c.args.source.now) (g.S.Source.left c.follow.new.source)
    (g.S.Source.faults c.args.source.now) (g.S.Source.faults c.follow.new.source) None None
    c.in-Err.fault c.in-Err.ensures.fault in
    exact (g.S.Source.left c.args.source.now) (g.S.Source.left c.follow.new.source)
    (g.S.Source.faults c.args.source.now) (g.S.Source.faults c.follow.new.source) bytes known no_read line why (Err c.in-Err.fault) is means
