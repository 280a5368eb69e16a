use Rattle.std.proofs.Common.{arith, ◌≡◌, ◌∙◌, ap, length, refl, subst, sym, Some, slice_get}
use Rattle.std.proofs.lemmas.Bool.{lt-ltb}
use Rattle.lk_reach.proofs.Names.{slice_get_within, CpuState, row_of, SpaceValue}
use Rattle.lk_rows.specs.Machine.{cpu_at}
use Rattle.lk_reach.proofs.Kept.{got, one_value, part_there}
use Rattle.lk_reach.proofs.space.Space.row_at.Goals as goal

pub returns : goal.returns
returns c = λ s has low.
    let v = c.args.self.now in
    let n = c.part-number.result in
    let at = c.part-number.ensures has.key
    (subst (λ (u : SpaceValue). slice_get u.keys c.args.state ≡ Some has.key) (sym c.self.view_is) has.is) in
    let there = part_there v c.args.state s has.key has refl c.args.cpu n low at in
    let here = got c.deref.result.now v.parts n c.in_ok-part.part.now
    (c.deref.ensures.value ∙ ap (λ (u : SpaceValue). u.parts) c.self.view_is) c.in_ok-part.ensures.lookup.3 in
    c.next_row.ensures
    ∙ ap (λ (x : CpuState). row_of x)
    (one_value (slice_get v.parts n) c.in_ok-part.part.now (cpu_at s c.args.cpu) here there)

pub returns-in_err-part : goal.returns-in_err-part
returns-in_err-part c = λ s has low.
    let v = c.args.self.now in
    let n = c.part-number.result in
    let at = c.part-number.ensures has.key
    (subst (λ (u : SpaceValue). slice_get u.keys c.args.state ≡ Some has.key) (sym c.self.view_is) has.is) in
    let there = part_there v c.args.state s has.key has refl c.args.cpu n low at in
    let within = slice_get_within v.parts n (cpu_at s c.args.cpu) there in
    let count = ap length (c.deref.ensures.value ∙ ap (λ (u : SpaceValue). u.parts) c.self.view_is) in
    let no = c.in_err-part.ensures.lookup.0 ∙ lt-ltb n (length c.deref.result.now) (omega (arith, within, count)) in
    absurd cc
