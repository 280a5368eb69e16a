use Rattle.std.proofs.Common.{◌≡◌}
use Rattle.lk_lock.specs.Standing.{Rests}
use Rattle.lk_race.proofs.bare_race.PvBareTrackTrack.take_turns.Given as goal

-- between two turns the processor rests
abbrev pub invariant-loop : goal.invariant-loop
invariant-loop g l = record {
  number : l.cpu.number ≡ l.initial.cpu.number;
  rests : Rests l.domain.domain l.initial.cpu.number l.cpu;
}
