use Rattle.std.proofs.Common.{◌≡◌, ◌<◌, length, drop, ◌∷◌, ◌∙◌, ap, arith}
use Rattle.std.proofs.lemmas.Bool.Decides.{nat_tests}
use Rattle.lk_forms.specs.Words.{words}
use Rattle.lk_forms.proofs.WordLemmas.{words_from, words_none}
use Rattle.lk_forms.proofs.words.next_word.Goals as goal

pub returns-then-is_empty-clause-words : goal.returns-then-is_empty-clause-words
returns-then-is_empty-clause-words c =
    let none : length (drop c.word_start.result c.args.bytes.now) ≡ 0 = grind (arith, nat_tests, c.split_at.ensures.back, c.is_empty.ensures, c.if-is_empty.true) in
    words_none c.args.bytes.now (rw c.word_start.ensures.place at none)

front : (c : goal.After-split_at-2) → (words c.args.bytes.now ≡ c.split_at-2.result.0.now ∷ words c.split_at-2.result.1.now) × (length c.split_at-2.result.1.now < length c.split_at.result.1.now)
front c =
    let some : 0 < length c.split_at.result.1.now = grind (arith, nat_tests, c.is_empty.ensures, c.if-is_empty.false) in
    let rest = c.split_at.ensures.back ∙ ap (λ n. drop n c.args.bytes.now) c.word_start.ensures.place in
    rw (c.split_at-2.ensures.front, c.split_at-2.ensures.back, c.word_end.ensures.place) (words_from c.args.bytes.now c.split_at.result.1.now rest some)

pub returns-clause-words : goal.returns-clause-words
returns-clause-words c = (front c).0

pub returns-clause-shorter : goal.returns-clause-shorter
returns-clause-shorter c = let less = (front c).1 in omega (arith, less, c.split_at.ensures.back_len)
