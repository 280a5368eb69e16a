use Rattle.std.proofs.Common.{◌∙◌, sym, map, string_bytes}
use Rattle.clap.proofs.WalkLemmas.{list_any-map}
use Rattle.lk_words.specs.Reading.{is_flag}
use Rattle.lk_words.proofs.Exact.{flags_unread}
use Rattle.lk_words.proofs.Told.{told_said}
use Rattle.lk_words.proofs.words.reading.Goals as goal

pub returns-then-has_flag-clause-exact : goal.returns-then-has_flag-clause-exact
returns-then-has_flag-clause-exact c =
    let any = sym (list_any-map is_flag string_bytes c.args.words.now) ∙ sym c.has_flag.ensures ∙ c.if-has_flag.true in
    sym (flags_unread (map string_bytes c.args.words.now) any)

pub returns-clause-exact : goal.returns-clause-exact
returns-clause-exact c =
    let none = sym (list_any-map is_flag string_bytes c.args.words.now) ∙ sym c.has_flag.ensures ∙ c.if-has_flag.false in
    let answer = c.try_get_matches_from.ensures in
    let told = c.told.ensures in
    told_said _ (map string_bytes c.args.words.now) c.try_get_matches_from.result c.told.result c.in_ok-qlock.ensures none
    answer.kinds answer.matches told.ok told.memory told.other

pub returns-clause-flag : goal.returns-clause-flag
returns-clause-flag c =
    let none = sym (list_any-map is_flag string_bytes c.args.words.now) ∙ sym c.has_flag.ensures ∙ c.if-has_flag.false in
    λ any. cc

pub returns-in_err-qlock-clause-flag : goal.returns-in_err-qlock-clause-flag
returns-in_err-qlock-clause-flag c =
    let none = sym (list_any-map is_flag string_bytes c.args.words.now) ∙ sym c.has_flag.ensures ∙ c.if-has_flag.false in
    λ any. cc
