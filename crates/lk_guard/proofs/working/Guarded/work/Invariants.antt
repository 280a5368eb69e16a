use Rattle.std.proofs.Common.{◌≡◌, ◌+◌, ◌≤◌, take, drop, length}
use Rattle.lk_guard.specs.Idle.{Stays}
use Rattle.lk_guard.specs.Deeds.{Worked, writes_in, reads_in}
use Rattle.lk_domain.specs.Seats.{ledger_of}
use Rattle.lk_guard.specs.Guards.{guard_in}
use Rattle.lk_guard.proofs.working.Guarded.work.Given as goal

abbrev pub invariant-loop-index : goal.invariant-loop-index
invariant-loop-index g l =
    let crew = g.Self.Guarded.crew l.self in
    record {
      stays : Stays crew l.fn.cpu l.cpu;
      share : writes_in (drop l.index l.jobs.items) ≤ (ledger_of l.cpu).share;
      left : length l.reads.items + reads_in (drop l.index l.jobs.items) ≤ l.reads.room;
      room : l.reads.room ≡ l.fn.reads.room;
      worked : Worked (guard_in crew.plan) l.fn.cpu.number (take l.index l.jobs.items)
          (ledger_of l.fn.cpu) (ledger_of l.cpu) l.fn.reads.items l.reads.items;
    }
