use Rattle.std.proofs.Common.{List, None, ap, refl, sym, ◌∙◌}
use Rattle.lk_run.proofs.Names.{C7, C9, Linked, Running, told, Precedes, newest}
use Rattle.lk_run.proofs.ChoiceRows as choice
use Rattle.lk_run.proofs.Calling as on
use Rattle.lk_run.proofs.call.Front.append_rest.Goals as goal

pub append-requires-clause-domain : goal.append-requires-clause-domain
append-requires-clause-domain c = c.requires.waits.at.domain

pub append-requires-clause-row : goal.append-requires-clause-row
append-requires-clause-row c =
    let at = c.requires.waits.at.waits.looked.at in
    record {
      lock = c.args.self.now.call.lock;
      row = C9;
      is = refl;
      at = on.at_row c.requires.waits.at;
      t = at.has.tail;
      a = at.has.a_is;
      marks = ap (λ (rs : List Running). told (newest rs)) (sym at.frames) ∙ c.requires.knows;
    }

pub returns : goal.returns
returns c =
    let q = c.args.self.now in
    let met = c.append.ensures.met.by in
    record {
      goes = λ first. on.steps_by c.requires.waits.at.domain c.append.ensures.rest (Linked met.found met.mark) (λ i. (met.seat i).0) C7 (Precedes q.own None first) (λ e. cc e)
          (λ f has. choice.returns _ _ f q.own first c.args.a c.args.t met.found has);
    }
