use Rattle.std.proofs.Common.{rules, ap₂, ◌∙◌, ◌≡◌}
use Rattle.std.proofs.lemmas.Result.{IfOk-weaker}
use Rattle.clap.specs.Words.{app_of, with_subcommand}
use Rattle.lk_words.specs.Command.{bare}
use Rattle.lk_words.proofs.command.qlock.Goals as goal

pub returns : goal.returns
returns c =
    let bare_is : app_of c.subcommand_required.result ≡ bare = search rules in
    let replay_is = c.in_ok-subcommand.ensures.shape c.plain.ensures.local ∙ ap₂ with_subcommand bare_is c.plain.ensures.shape in
    let osq_is = c.in_ok-subcommand-2.ensures.shape c.plain-2.ensures.local ∙ ap₂ with_subcommand replay_is c.plain-2.ensures.shape in
    let audit_is = c.in_ok-subcommand-3.ensures.shape c.plain-3.ensures.local ∙ ap₂ with_subcommand osq_is c.plain-3.ensures.shape in
    let ledger_is = c.in_ok-subcommand-4.ensures.shape c.plain-4.ensures.local ∙ ap₂ with_subcommand audit_is c.plain-4.ensures.shape in
    let gen_is = c.in_ok-subcommand-5.ensures.shape c.in_ok-generates.ensures.local ∙ ap₂ with_subcommand ledger_is c.in_ok-generates.ensures.shape in
    IfOk-weaker c.subcommand-6.result _ _ (λ r h. h.shape c.in_ok-loads.ensures.local ∙ ap₂ with_subcommand gen_is c.in_ok-loads.ensures.shape) c.subcommand-6.ensures
