use Rattle.std.proofs.Common.{◌≡◌, ◌≤◌, ◌+◌, ℕ, Some, true, false, slice_get}
use Rattle.lk_reach.proofs.Names.{AreFinishing, LeadsTo}
use Rattle.lk_reach.proofs.graph.Graph.spread.Given as goal

-- from who is marked some schedule finishes, and while nobody was marked, the acts on the states so far are closed
abbrev pub invariant-loop-at : goal.invariant-loop-at
invariant-loop-at l = record {
  good : AreFinishing l.self l.marks.items;
  closed : l.spreads ≡ false → (k i j : ℕ) → l.count ≤ k + l.«at» → LeadsTo l.self.book k i j
      → slice_get l.marks.items j ≡ Some true → slice_get l.marks.items k ≡ Some true;
}
