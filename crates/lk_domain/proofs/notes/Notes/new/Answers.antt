use Rattle.std.proofs.Common.{Bool, refl, ap, arith}
use Rattle.lk_names.specs.ListOf.{ListOf}
use Rattle.lk_domain.proofs.turns.Marks.{marks_none}
use Rattle.lk_domain.proofs.notes.Notes.new.Goals as goal

pub returns : goal.returns
returns c =
    let far = c.in_ok-filled.field-0 in
    record {
      deep = refl;
      few = omega arith;
      counted = refl;
      orders = refl;
      paths = refl;
      ordered = record {
        locks = λ d low. absurd (omega (arith, low));
        paths = λ d low. absurd (omega (arith, low));
        among = λ d low. absurd (omega (arith, low));
      };
      all = refl;
      marked = marks_none far.items c.args.locks c.far_marks.result (ap (λ (l : ListOf Bool). l.items) c.in_ok-filled.ensures) c.far_marks.ensures.enough;
    }
