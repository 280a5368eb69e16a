use Rattle.std.proofs.Common.{◌∙◌, ◌∷◌, [], ◌++◌, List, ap, inl, inr, length, refl, sym}
use Rattle.lk_reach.proofs.Names.{Origin}
use Rattle.lk_reach.proofs.{Columns.columns_none, apart.Firsts.none_first}
use Rattle.lk_reach.proofs.book.Book.new.Goals as goal

abbrev first : Origin
first = record { state = 0; act = 0; level = 0 }

pub returns : goal.returns
returns c =
    let none = c.new-origins.ensures in
    record {
      columns = columns_none (_) c.args.acts c.in_ok-thens.ensures refl;
      origin = first;
      origins = elim c.in_ok-add_origin.ensures [
        | inl other ↦ absurd (other.0 (sym (ap length none)))
        | inr one ↦ one.1 ∙ ap (λ (os : List Origin). os ++ first ∷ []) none
      ];
      level = refl;
      firsts = λ kind o here. none_first 33 kind o here;
    }
