use Rattle.std.proofs.Common.{arith, ◌≡◌, ◌∙◌, List, Some, ap, refl, subst, sym, slice_get}
use Rattle.lk_reach.proofs.Names.{CpuState, SpaceValue}
use Rattle.lk_rows.specs.Machine.{cpu_at}
use Rattle.lk_reach.proofs.{Kept.part_there, Likeness.row_alike}
use Rattle.lk_reach.proofs.space.Space.makes_other.Goals as goal

pub returns-then-differ_at : goal.returns-then-differ_at
returns-then-differ_at c = λ yes s t here there cpus many alike.
    let v = c.args.self.now in
    let n = c.loop-cpu.cpu in
    let inside = c.loop-cpu-test.true in
    let part = c.part-part.ensures here.key
    (subst (λ (u : SpaceValue). slice_get u.keys c.args.state ≡ Some here.key) (sym c.self.view_is) here.is) in
    let other = c.part-other.ensures there.key
    (subst (λ (u : SpaceValue). slice_get u.keys c.args.then ≡ Some there.key) (sym c.self.view_is) there.is) in
    let x = part_there v c.args.state s here.key here refl n c.part-part.result (omega (arith, inside, cpus)) part in
    let y = part_there v c.args.then t there.key there refl n c.part-other.result (omega (arith, inside, many)) other in
    let parts = c.deref.ensures.value ∙ ap (λ (u : SpaceValue). u.parts) c.self.view_is in
    c.differ_at.ensures c.if-differ_at.true (cpu_at s n) (cpu_at t n)
    (subst (λ (xs : List CpuState). slice_get xs c.part-part.result ≡ Some (cpu_at s n)) (sym parts) x)
    (subst (λ (xs : List CpuState). slice_get xs c.part-other.result ≡ Some (cpu_at t n)) (sym parts) y)
    (sym (row_alike t s alike n))
