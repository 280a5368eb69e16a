use Rattle.std.proofs.Common.{List, ℕ, ap, subst, ◌∙◌}
use Rattle.lk_text.specs.Bytes.{AppendsFront}
use Rattle.lk_text.specs.Line.{line_text}
use Rattle.lk_audit.specs.Stands.{FaultStops}
use Rattle.lk_audit.proofs.Lines.{cut_lawful, cut_breach}
use Rattle.lk_audit.proofs.verdict.tell.Goals as goal
use Rattle.lk_audit.proofs.verdict.tell.Goals.{in-Ok, in-Err-Breach}

pub returns-in-Err-put-clause-means : goal.returns-in-Err-put-clause-means
returns-in-Err-put-clause-means g c = λ input left reads reads_now j.
    let failed = c.in-Err-put.ensures in
    let put = λ (t : List ℕ). AppendsFront (g.K.Sink.held c.args.sink.now) (g.K.Sink.held c.put.new.sink) t in
    elim c.match-answer.branch [
      | in-Ok w ↦
          cut_lawful input left _ _ reads reads_now _ _ w.in-Ok.events (rw w.in-Ok.is at j) failed.cause.failed
          (subst put (c.bytes.ensures.text ∙ ap line_text w.text-is ∙ w.lawful_line-text.ensures) failed.err)
      | in-Err-Breach w ↦
          let breach = rw w.in-Err-Breach.is at w.in-Err-Breach.field-0-is in
          cut_breach input left _ _ reads reads_now _ _ w.in-Err-Breach.line w.in-Err-Breach.name
          (subst (λ why. FaultStops input reads reads_now why) breach (rw w.in-Err-Breach.is at j)) failed.cause.failed
          (subst put (c.bytes.ensures.text ∙ ap line_text w.text-is ∙ w.breach_line-text.ensures) failed.err)
    ]
