use Rattle.lk_domain.specs.Seats.{calls_of}
use Rattle.lk_thread_tests.proofs.Homes.{freed_home}
use Rattle.lk_thread_tests.proofs.lock_calls.make_call.Goals as goal

pub returns-in-unlock-true-clause-values : goal.returns-in-unlock-true-clause-values
returns-in-unlock-true-clause-values g c l =
    freed_home c.args.id.index (calls_of c.args.cpu.now) (calls_of c.unlock.new.cpu) c.unlock.ensures.freed.freed l (c.requires.values l)
