use Rattle.std.proofs.Common.{ap, sym, refl, length, subst, ◌∙◌}
use Rattle.lk_run.proofs.Names.{LockName, R1, Read, waits_in, Any, joins_at, calls_of, Waits}
use Rattle.lk_run.proofs.Names.{biased, starting}
use Rattle.lk_run.proofs.RwFast as fast
use Rattle.lk_run.proofs.RwSteps as rw
use Rattle.lk_run.proofs.reading.first.Goals as goal

pub join_first-requires-clause-row : goal.join_first-requires-clause-row
join_first-requires-clause-row c =
    let d = c.args.domain.now in
    let a = c.args.cpu.now in
    let may = c.requires.may in
    rw.acts_begin (joins_at (waits_in (calls_of a).frames c.args.lock.index) Read) d Read c.args.lock.index a c.requires.domain may refl c.requires.kind
    (ap (λ b. joins_at b Read R1) may.fresh)

pub returns-clause-begins : goal.returns-clause-begins
returns-clause-begins c =
    let d = c.args.domain.now in
    let a = c.args.cpu.now in
    let b = c.join_first.new.cpu in
    let l = c.args.lock.index in
    let step = c.join_first.ensures in
    record {
      entered = λ is nests told.
          fast.reader_enters d l a b step.rest c.requires.domain c.requires.may.fresh c.join_first.result nests told step.step.by
          (sym c.lets_readers_in.ensures ∙ is);
      waits = λ is nests told.
          subst (λ (n : LockName). Waits d Read n (biased (length (calls_of a).frames)) Any (starting a nests told) b told)
          (λ i. record { index = l; wait = sym c.requires.plain i })
          (fast.reader_waits d l a b step.rest c.requires.domain c.requires.may.fresh c.join_first.result nests told step.step.by
          (sym c.lets_readers_in.ensures ∙ is));
    }
