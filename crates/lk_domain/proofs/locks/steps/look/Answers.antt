use Rattle.std.proofs.Common.{◌≡◌, inl, inr, true, false, sym, ◌∙◌}
use Rattle.lk_domain.proofs.Names.{view_of}
use Rattle.lk_domain.proofs.rw.Stepped.{at_word, at_shared}
use Rattle.lk_domain.proofs.locks.steps.look.Goals as goal

pub watch-requires-clause-row : goal.watch-requires-clause-row
watch-requires-clause-row c =
    let v = view_of c.args.cpu.now in
    elim c.requires.row [
      | inl acts ↦ absurd (let z : true ≡ false = sym (sym c.on_shared.ensures ∙ c.if-on_shared.true) ∙ at_word v c.args.verb c.args.lock acts in cc z)
      | inr watches ↦ watches.acts
    ]

pub look_word-requires-clause-row : goal.look_word-requires-clause-row
look_word-requires-clause-row c =
    let v = view_of c.args.cpu.now in
    elim c.requires.row [
      | inl acts ↦ acts
      | inr watches ↦ absurd (let z : true ≡ false = sym (at_shared v c.args.verb c.args.lock watches) ∙ (sym c.on_shared.ensures ∙ c.if-on_shared.false) in cc z)
    ]
