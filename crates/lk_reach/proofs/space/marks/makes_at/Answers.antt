use Rattle.std.proofs.Common.{◌≡◌, ◌∙◌, Some, ap, sym, slice_get}
use Rattle.lk_reach.proofs.Names.{slice_get-get_or, CpuState, row_of}
use Rattle.lk_reach.proofs.Kept.{one_value}
use Rattle.lk_reach.proofs.space.marks.makes_at.Goals as goal

pub returns-then-not-is_marked : goal.returns-then-not-is_marked
returns-then-not-is_marked c = record {
  yes = λ yes. cc;
  no = λ no makes. c.is_marked.ensures.no c.if-not-is_marked.true makes.marked;
}

pub returns : goal.returns
returns c =
    let xs = c.args.parts.now in
    let n = c.args.«at» in
    let y = c.index-parts-at.result in
    let there : slice_get xs n ≡ Some y = slice_get-get_or xs n y c.requires ∙ ap Some (sym c.index-parts-at.is) in
    record {
      yes = λ yes. record {
        marked = c.is_marked.ensures.yes c.if-not-is_marked.false;
        part = y;
        is = there;
        makes = sym c.next_row.ensures ∙ c.is_row.ensures.yes yes;
      };
      no = λ no makes. c.is_row.ensures.no no
          (c.next_row.ensures ∙ ap (λ (z : CpuState). row_of z) (one_value (slice_get xs n) y makes.part there makes.is)
          ∙ makes.makes);
    }
