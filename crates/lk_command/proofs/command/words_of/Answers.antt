use Rattle.std.proofs.Common.{◌++◌, ◌∙◌, ap, sym}
use Rattle.std.proofs.IntoIterSteps.{All-taken}
use Rattle.lk_command.proofs.Said.{behind_first}
use Rattle.lk_command.proofs.command.words_of.Goals as goal

pub returns : goal.returns
returns c =
    let behind = c.next-name.new.self in
    let ran = c.in_ok-extend.ensures.ran in
    let drained = rw ran.2 at ran.4 in
    ran.3.0 ∙ ap (λ items. items ++ ran.1) c.in_ok-words.ensures.items
    ∙ All-taken behind ran.1 drained
    ∙ sym (behind_first c.args.args behind c.next-name.result c.next-name.ensures.cases)
