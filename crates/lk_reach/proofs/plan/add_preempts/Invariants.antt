use Rattle.std.proofs.Common.{◌≡◌, ◌<◌, ℕ, true}
use Rattle.lk_reach.proofs.Names.{Among, OnlyMoves, IsFront}
use Rattle.lk_names.specs.declared.events.Act.TheVariants as act
use Rattle.lk_reach.proofs.plan.add_preempts.Given as goal

-- the acts of the processors so far are there
abbrev pub invariant-loop-cpu : goal.invariant-loop-cpu
invariant-loop-cpu l = record {
  only : OnlyMoves l.fn.extras l.machine.setup l.acts.items;
  front : IsFront l.fn.acts.items l.acts.items;
  preempts : (p : ℕ) → p < l.cpu → l.fn.extras.preempts ≡ true → Among l.acts.items (act.Preempt p);
  resumes : (p : ℕ) → p < l.cpu → l.fn.extras.preempts ≡ true → Among l.acts.items (act.Resume p);
}
