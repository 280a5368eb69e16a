use Rattle.std.proofs.Common.{arith, ◌≡◌, ◌∙◌, ℕ, Some, subst, refl, inl, inr}
use Rattle.lk_reach.proofs.Names.{cases_eq, row_of}
use Rattle.lk_rows.specs.Machine.{cpu_at}
use Rattle.lk_reach.proofs.graph.Graph.makes.Goals as goal

pub loop-cpu-preserved : goal.loop-cpu-preserved
loop-cpu-preserved c = λ s has cpus p low.
    let n = c.loop-cpu.cpu in
    let inside = c.loop-cpu-test.true in
    elim (cases_eq p n) [
      | inl e ↦ (λ made. c.if-is_row.ensures.no refl
          (c.row_at.ensures s has (omega (arith, inside, cpus))
          ∙ subst (λ (q : ℕ). row_of (cpu_at s q) ≡ Some c.args.row) e made))
      | inr ne ↦ c.loop-cpu.invariant s has cpus p (omega (arith, low, ne))
    ]
