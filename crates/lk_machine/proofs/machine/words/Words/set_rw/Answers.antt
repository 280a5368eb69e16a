use Rattle.std.proofs.Common.{ap, ◌∙◌, ◌<◌, length}
use Rattle.lk_machine.specs.Packed.{Words, with_rw}
use Rattle.lk_machine.proofs.Words.{within, stored_rw}
use Rattle.lk_machine.proofs.machine.words.Words.set_rw.Goals as goal

pub returns : goal.returns
returns c =
    let ws = c.self.inside.locks.items in
    let inside : c.args.index < length ws = within c.self.inside.layout ws c.args.self.now c.args.index c.self.view_is c.requires.index in
    stored_rw c.self.inside.layout ws c.args.index _ c.index_mut-state.result.now inside
    c.index_mut-state.ensures.value c.rw_word_of-word.result c.args.fields c.rw_word_of-word.ensures.fields
    ∙ ap (λ (words : Words). with_rw words c.args.index c.args.fields) c.self.view_is
