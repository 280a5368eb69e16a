use Rattle.std.proofs.Common.{subst, sym}
use Rattle.lk_run.proofs.Names.{ReadPlace}
use Rattle.lk_run.specs.Reading.{Fits, Stands, Turns, Resting}
use Rattle.lk_run.proofs.call.Reader.turn.Goals as goal

pub go_on-requires-clause-fits : goal.go_on-requires-clause-fits
go_on-requires-clause-fits c = subst (λ (p : ReadPlace). Fits c.args.self.now p c.args.cpu.now) c.in-Queues.is c.requires.fits

pub go_on-requires-clause-waits : goal.go_on-requires-clause-waits
go_on-requires-clause-waits c = subst (λ (p : ReadPlace). Stands c.args.self.now (Resting p) c.args.cpu.now) c.in-Queues.is c.requires.waits

pub returns-in-Queues : goal.returns-in-Queues
returns-in-Queues c = subst (λ (p : ReadPlace). Turns c.args.self.now (Resting p) c.go_on.result c.args.cpu.now c.go_on.new.cpu) (sym c.in-Queues.is) c.go_on.ensures

pub wait-requires : goal.wait-requires
wait-requires c = subst (λ (p : ReadPlace). Stands c.args.self.now (Resting p) c.args.cpu.now) c.in-Watches.is c.requires.waits

pub returns-in-Watches : goal.returns-in-Watches
returns-in-Watches c = subst (λ (p : ReadPlace). Turns c.args.self.now (Resting p) c.wait.result c.args.cpu.now c.wait.new.cpu) (sym c.in-Watches.is) c.wait.ensures

pub spin-requires : goal.spin-requires
spin-requires c = subst (λ (p : ReadPlace). Stands c.args.self.now (Resting p) c.args.cpu.now) c.in-Spins.is c.requires.waits

pub returns-in-Spins : goal.returns-in-Spins
returns-in-Spins c = subst (λ (p : ReadPlace). Turns c.args.self.now (Resting p) c.spin.result c.args.cpu.now c.spin.new.cpu) (sym c.in-Spins.is) c.spin.ensures
