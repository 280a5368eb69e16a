use Rattle.std.proofs.Common.{◌∙◌}
use Rattle.lk_command.proofs.notes.note.Goals as goal

pub returns-in-BadInput : goal.returns-in-BadInput
returns-in-BadInput g c =
    let text = c.bytes.ensures.text ∙ c.refusal_note-text.ensures in
    rw (c.in-BadInput.is, ← c.name_of.ensures.text) (rw text at c.say-in-BadInput.ensures)

pub returns-in-Limit : goal.returns-in-Limit
returns-in-Limit g c =
    let text = c.bytes-in-Limit.ensures.text ∙ c.refusal_note-text-in-Limit.ensures in
    rw (c.in-Limit.is, ← c.limit_name.ensures.text) (rw text at c.say-in-Limit.ensures)

pub returns-in-Unlawful : goal.returns-in-Unlawful
returns-in-Unlawful g c =
    let text = c.bytes-in-Unlawful.ensures.text ∙ c.unlawful_note-text.ensures in
    rw c.in-Unlawful.is (rw text at c.say-in-Unlawful.ensures)
