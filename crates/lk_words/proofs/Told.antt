-- What clap's answer to the words says of them.
use Rattle.std.proofs.Common.{◌≡◌, ◌∙◌, Bool, true, false, List, Option, None, Result, Ok, Err, IfOk, IfErr, IsErr, ap, sym, subst}
use Rattle.std.specs.List.{list_any}
use Rattle.clap.specs.Words.{App, Text, HasMatchesOf, kind_of, subcommand_rows_of, is_simple, is_simple_and_free, fault_of, subcommand_of}
use Rattle.clap.specs.Kinds.{FailsBy, HasKind}
use Rattle.clap.specs.declared.parser.matches.ArgMatches.{ArgMatches}
use Rattle.clap.specs.declared.error.Error.{Error}
use Rattle.clap.specs.declared.error.kind.ErrorKind.TheVariants.{OutOfMemory}
use Rattle.lk_words.specs.declared.asked.Reading.{Reading}
use Rattle.lk_words.specs.Reading.{reading_of, is_flag}
use Rattle.lk_words.specs.Command.{qlock, said_of}
use Rattle.lk_words.proofs.Exact.{free, simple, ok_said, err_said}

pub told_said : {M : Type 0} (app : App) (words : List Text) (answer : Result ArgMatches Error) (result : Result (Option Reading) M) → app ≡ qlock
    → list_any is_flag words ≡ false → (is_simple_and_free app ≡ true → FailsBy (fault_of app words) answer) → IfOk answer (λ m. HasMatchesOf app words m)
    → IfOk answer (λ m. result ≡ Ok (said_of (subcommand_rows_of m))) → IfErr answer (λ e. kind_of e ≡ OutOfMemory → IsErr result)
    → IfErr answer (λ e. ¬ (kind_of e ≡ OutOfMemory) → result ≡ Ok None) → IfOk result (λ r. r ≡ reading_of words)
told_said app words (Ok m) result is none fails has said memory other =
    let quiet = sym (ap (λ a. fault_of a words) is) ∙ fails (ap is_simple_and_free is ∙ free) in
    let met = (has (ap is_simple is ∙ simple)).1 ∙ ap (λ a. subcommand_of a words) is in
    subst (λ r. IfOk r (λ x. x ≡ reading_of words)) (sym said) (ap said_of met ∙ ok_said words none quiet)
told_said app words (Err e) (Err why) is none fails has said memory other = tt
told_said app words (Err e) (Ok asked) is none fails has said memory other =
    let room : ¬ (kind_of e ≡ OutOfMemory) = λ full. let no : false ≡ true = memory full in cc in
    let asked_none : asked ≡ None = let same = other room in cc in
    let kinds = fails (ap is_simple_and_free is ∙ free) in
    asked_none ∙ err_said words (kind_of e) none (subst (λ a. HasKind (fault_of a words) e) is kinds) room
