use Rattle.std.proofs.Common.{◌≡◌, ◌+◌, length}
use Rattle.lk_port.proofs.Names.{domain_of}
use Rattle.lk_domain.specs.Seats.{AreDealt}
use Rattle.lk_port.specs.Opened.{ArePortsOf}
use Rattle.lk_port.proofs.opening.ports_of.Given as goal

abbrev pub invariant-loop-alloc : goal.invariant-loop-alloc
invariant-loop-alloc l = record {
  dealt : AreDealt (domain_of l.share) l.cpus.items;
  many : length l.cpus.items + length l.ports.items ≡ length l.fn.cpus.items;
  each : ArePortsOf (domain_of l.share) (length l.fn.cpus.items) l.ports.items;
}

abbrev pub decreases-loop-alloc : goal.decreases-loop-alloc
decreases-loop-alloc l = length l.cpus.items
