use Rattle.lk_run.proofs.Nested.{kept, passed}
use Rattle.lk_rows.specs.declared.setup.Verb.TheVariants.{Lock}
use Rattle.lk_domain.specs.Calls.{terms_of}
use Rattle.lk_domain.specs.Seats.{calls_of}
use Rattle.lk_thread_tests.proofs.Homes.{fresh_home}
use Rattle.lk_thread_tests.proofs.far_waiters.visit.Goals as goal

pub unlock-requires-clause-value : goal.unlock-requires-clause-value
unlock-requires-clause-value g c =
    fresh_home (terms_of c.args.domain.now.plan) c.lock.new.cpu.number Lock c.args.id.index (calls_of c.args.cpu.now) (calls_of c.lock.new.cpu)
    c.lock.ensures.taken c.requires.may.may.free

pub returns-clause-calls : goal.returns-clause-calls
returns-clause-calls g c = kept c.requires.may.may.free c.lock.ensures.taken c.unlock.ensures.freed.freed

pub returns-clause-ledger : goal.returns-clause-ledger
returns-clause-ledger g c = passed c.requires.may.other c.lock.ensures.look c.unlock.ensures.freed
