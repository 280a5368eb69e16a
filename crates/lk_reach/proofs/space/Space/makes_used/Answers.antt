use Rattle.std.proofs.Common.{◌∙◌, List, ap, subst, sym}
use Rattle.lk_reach.proofs.Names.{CpuState, SpaceValue}
use Rattle.lk_reach.specs.Rows.{MakesMarked}
use Rattle.lk_reach.proofs.space.Space.makes_used.Goals as goal

pub returns : goal.returns
returns c =
    let e = c.deref.ensures.value ∙ ap (λ (v : SpaceValue). v.parts) c.self.view_is in
    let marks = c.args.marks.now.items in
    record {
      yes = λ yes. subst (λ (xs : List CpuState). MakesMarked xs marks c.args.row) e (c.makes_marked.ensures.yes yes);
      no = λ no makes. c.makes_marked.ensures.no no (subst (λ (xs : List CpuState). MakesMarked xs marks c.args.row) (sym e) makes);
    }
