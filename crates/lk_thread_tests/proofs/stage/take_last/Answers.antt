use Rattle.lk_domain.proofs.Seating.{of_in}
use Rattle.lk_thread_tests.proofs.TakenOff.{one_less, taken_off, left_over}
use Rattle.lk_thread_tests.proofs.stage.take_last.Goals as goal

pub returns-clause-domain : goal.returns-clause-domain
returns-clause-domain c =
    of_in c.pop.result c.args.domain.now
    (taken_off c.args.domain.now c.args.cpus.now.items c.pop.new.self.items c.pop.result c.requires.rest c.pop.ensures.items).domain_is c.requires.awake

pub returns-clause-idle : goal.returns-clause-idle
returns-clause-idle c =
    let rests = taken_off c.args.domain.now c.args.cpus.now.items c.pop.new.self.items c.pop.result c.requires.rest c.pop.ensures.items in
    record { frames = rests.frames; holds = rests.holds; home = rests.home }

pub returns-clause-long : goal.returns-clause-long
returns-clause-long c = one_less c.args.cpus.now.items c.pop.new.self.items c.pop.result c.pop.ensures.items

pub returns-clause-rest : goal.returns-clause-rest
returns-clause-rest c =
    left_over c.args.domain.now c.args.cpus.now.items c.pop.new.self.items c.pop.result c.requires.rest c.pop.ensures.items
