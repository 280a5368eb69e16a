use Rattle.std.proofs.Common.{◌≡◌, ◌-◌, length}
use Rattle.lk_names.specs.Names.{locks_from}
use Rattle.lk_abs.specs.NoKick.{no_kick}
use Rattle.lk_abs.specs.Remembered.{state_of}
use Rattle.lk_abs.specs.Judge.{history_at}
use Rattle.lk_abs.proofs.judge.Judge.no_kick.Given as goal

abbrev pub invariant-loop-place : goal.invariant-loop-place
invariant-loop-place l =
    no_kick (state_of l.self.kicks) (history_at l.self) (locks_from 0 (length l.self.locks)) ≡ no_kick (state_of l.self.kicks) (history_at l.self) (locks_from l.place (length l.self.locks - l.place))
