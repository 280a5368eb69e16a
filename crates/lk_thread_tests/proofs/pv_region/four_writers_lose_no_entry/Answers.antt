use Rattle.lk_thread_tests.proofs.Written.{last_may}
use Rattle.lk_thread_tests.proofs.pv_region.four_writers_lose_no_entry.Goals as goal

pub read-requires-clause-ready : goal.read-requires-clause-ready
read-requires-clause-ready g c =
    let may = last_may c.in-Ok.region.domain 0 c.add_at_once.new.cpus.items c.pop-reader.new.self.items c.pop-reader.result
    c.add_at_once.ensures.ready c.pop-reader.ensures.items in
    (may.domain_is, may.free)
