use Rattle.std.proofs.Common.{◌≡◌, ◌+◌, ℕ, length}
use Rattle.lk_domain.specs.declared.domain.Domain.{Domain}
use Rattle.lk_port.specs.Opened.{ArePortsOf}
use Rattle.qlock_c.specs.Opened.{IsHandleOf}
use Rattle.qlock_c.proofs.Opened.{AreFirst}
use Rattle.qlock_c.proofs.opening.put_all.Given as goal

-- the first handles have their ports, and the other ports are left
abbrev pub invariant-loop-i : goal.invariant-loop-i
invariant-loop-i l = record {
  many : length l.ports.items + l.i ≡ length l.fn.cpus;
  left : (domain : Domain) (n : ℕ) → ArePortsOf domain n l.fn.ports.items → ArePortsOf domain n l.ports.items;
  full : (domain : Domain) → ArePortsOf domain (length l.fn.cpus) l.fn.ports.items → AreFirst (IsHandleOf domain) l.i l.cpus;
}
