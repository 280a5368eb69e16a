use Rattle.lk_guard.proofs.PvBegins.{pv_begins}
use Rattle.lk_guard.proofs.pv_region.PvRegion.hold.Goals as goal

pub returns-clause-begun : goal.returns-clause-begun
returns-clause-begun g c =
    pv_begins c.args.self.now.domain c.args.cpu.now c.pv_lock.new.cpu c.requires.free c.pv_lock.ensures.taken
