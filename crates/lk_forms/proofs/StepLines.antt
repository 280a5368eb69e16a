-- A line `step p n` in front of other bytes.
use Rattle.std.proofs.Common.{◌≡◌, ◌≢◌, ◌≤◌, ◌<◌, ◌+◌, ◌-◌, ◌^◌, ◌&&◌, ℕ, true, false, nat_lt, nat_le, if◌then◌else◌, get_or, take_all, List, [], ◌∷◌, ◌++◌, length, refl, sym, ap, ◌∙◌, arith, append-nil, append_assoc, length-append, take, drop, take-append-drop, subst, Ok, Err}
use Rattle.std.proofs.lemmas.Bool.Decides.{nat_tests}
use Rattle.std.proofs.lemmas.List.{length-take-le}
use lib.Seq.{take-append_seam, drop-append_seam, drop-append-add}
use Rattle.lk_names.specs.declared.events.Act.TheVariants as act
use Rattle.lk_text.proofs.NumberLemmas.{and_split}
use Rattle.lk_text.specs.Feeds.{HasNoFeed, FeedAt}
use Rattle.lk_forms.specs.Words.{is_allowed, is_text, words}
use Rattle.lk_forms.specs.Fronts.{EndsNumber, IsStepLine, step_of}
use Rattle.lk_forms.specs.Grammar.{run_of, step_line, cpu_word, number_in, in_range}
use Rattle.lk_forms.specs.Operations.{and_then, or_fault}
use Rattle.lk_forms.specs.declared.answers.Fault.TheVariants.{BadNumber, OutOfRange}
use Rattle.lk_forms.specs.declared.answers.LineRefusal.TheVariants.{Bad}
use Rattle.lk_forms.specs.Schedule.{schedule_of}
use Rattle.lk_forms.specs.declared.answers.Sched.{Sched}
use Rattle.lk_forms.proofs.FrontLemmas.{solid-digits, filled-long}
use Rattle.lk_forms.proofs.WordLemmas.{words-blank, text-blank, words-word, text-word}

-- no byte that a line may have is a line feed
text-no_feed : (line : List ℕ) → is_text line ≡ true → HasNoFeed line
text-no_feed [] text = tt
text-no_feed (b ∷ line) text =
    let parts = and_split (is_allowed b) (is_text line) text in
    (λ e. allowed_not b parts.0 e, text-no_feed line parts.1)
  where
    allowed_not : (b : ℕ) → is_allowed b ≡ true → b ≢ 10
    allowed_not b allowed e = let false_one : is_allowed 10 ≡ true = subst (λ x. is_allowed x ≡ true) e allowed in cc

-- two numbers with a space between them are the words of a line
pub step-words : (args behind rest : List ℕ) (p n : ℕ) → EndsNumber args 32 p behind → EndsNumber behind 10 n rest → IsStepLine (step_of args) p n rest
step-words args behind rest p n first second =
    let one = first.digits in
    let two = second.digits in
    let solid = solid-digits two second.all in
    let last : words two ≡ two ∷ [] = ap words (sym (append-nil two)) ∙ words-word two [] (filled-long two second.some) solid refl in
    let text : is_text two ≡ true = ap is_text (sym (append-nil two)) ∙ text-word two [] solid refl in record {
      args = one ++ 32 ∷ two;
      cpu = one;
      times = two;
      split = ap step_of (first.split ∙ ap (λ l. one ++ 32 ∷ l) second.split ∙ sym (append_assoc one (32 ∷ two) (10 ∷ rest)));
      two = words-word one (32 ∷ two) (filled-long one first.some) (solid-digits one first.all) refl ∙ ap (λ ws. one ∷ ws) (words-blank 32 two refl ∙ last);
      text = text-word one (32 ∷ two) (solid-digits one first.all) (text-blank 32 two refl text);
      processor = first.number;
      number = second.number;
    }

-- the same, where the letters stand in front of the numbers
pub step-front : (bytes behind rest : List ℕ) (p n : ℕ) → 5 ≤ length bytes → get_or bytes 0 0 ≡ 115 → get_or bytes 1 0 ≡ 116 → get_or bytes 2 0 ≡ 101 → get_or bytes 3 0 ≡ 112
    → get_or bytes 4 0 ≡ 32 → EndsNumber (take (length bytes - 5) (drop 5 bytes)) 32 p behind → EndsNumber behind 10 n rest → IsStepLine bytes p n rest
step-front [] behind rest p n long s t e u space first second = absurd (omega arith)
step-front (a ∷ []) behind rest p n long s t e u space first second = absurd (omega arith)
step-front (a ∷ b ∷ []) behind rest p n long s t e u space first second = absurd (omega arith)
step-front (a ∷ b ∷ c ∷ []) behind rest p n long s t e u space first second = absurd (omega arith)
step-front (a ∷ b ∷ c ∷ d ∷ []) behind rest p n long s t e u space first second = absurd (omega arith)
step-front (a ∷ b ∷ c ∷ d ∷ f ∷ args) behind rest p n long s t e u space first second =
    let whole = take_all (length (a ∷ b ∷ c ∷ d ∷ f ∷ args) - 5) args (omega arith) in
    let letters : step_of args ≡ a ∷ b ∷ c ∷ d ∷ f ∷ args = sym (same a b c d f s t e u space) in
    subst (λ l. IsStepLine l p n rest) letters (step-words args behind rest p n (subst (λ l. EndsNumber l 32 p behind) whole first) second)
  where
    same : (a b c d f : ℕ) → a ≡ 115 → b ≡ 116 → c ≡ 101 → d ≡ 112 → f ≡ 32 → a ∷ b ∷ c ∷ d ∷ f ∷ args ≡ step_of args
    same a b c d f is0 is1 is2 is3 is4 = rw (is0, is1, is2, is3, is4) refl

module _ (bytes rest : List ℕ) (p n : ℕ) (is : IsStepLine bytes p n rest) where
  cpu-is : (cpus : ℕ) → p < cpus → cpu_word cpus is.cpu ≡ Ok p
  cpu-is cpus below =
      let test : nat_lt p cpus ≡ true = grind (arith, nat_tests, below) in
      ap (λ r. and_then (or_fault BadNumber r) (λ n. if nat_lt n cpus then Ok n else Err (Bad OutOfRange))) is.processor
      ∙ ap (λ t. if t then Ok p else Err (Bad OutOfRange)) test

  times-is : 0 < n → n < 2 ^ 64 → number_in 1 (2 ^ 64 - 1) is.times ≡ Ok n
  times-is some fits =
      let test : nat_le 1 n && nat_le n (2 ^ 64 - 1) ≡ true = grind (arith, nat_tests, some, fits) in
      ap (λ r. and_then (or_fault BadNumber r) (λ m. in_range 1 (2 ^ 64 - 1) m)) is.number
      ∙ ap (λ t. if t then Ok n else Err (Bad OutOfRange)) test

  -- the line is one of the schedule with the keyword `step`
  step-keyword : (cpus acts : ℕ) → schedule_of cpus acts false (step_of is.args) ≡ step_line cpus acts (words is.args)
  step-keyword cpus acts = rw is.text refl

  -- what the line says
  pub step-says : (cpus acts : ℕ) → p < cpus → 0 < n → n < 2 ^ 64 → (said : Sched) → run_of acts (act.Step p) n ≡ Ok said
      → schedule_of cpus acts false (step_of is.args) ≡ Ok said
  step-says cpus acts below some fits said run =
      step-keyword cpus acts ∙ ap (λ ws. step_line cpus acts ws) is.two
      ∙ ap (λ r. and_then r (λ q. and_then (number_in 1 (2 ^ 64 - 1) is.times) (λ m. run_of acts (act.Step q) m))) (cpu-is cpus below)
      ∙ ap (λ r. and_then r (λ m. run_of acts (act.Step p) m)) (times-is some fits) ∙ run

  -- a line feed ends it
  pub step-short : (near : ℕ) → length bytes ≤ near → length rest ≤ near - 1
  step-short near short = let size = ap length is.split ∙ length-append (step_of is.args) (10 ∷ rest) in omega (arith, size, short)

  -- where the line ends
  pub step-ends : (all : List ℕ) (near at : ℕ) → bytes ≡ take near all → near ≤ length all → at ≡ near - 1 - length rest
      → (take at all ≡ step_of is.args) × FeedAt all at
  step-ends all near at front fits size =
      let line = step_of is.args in
      let more = rest ++ drop near all in
      let whole : all ≡ line ++ 10 ∷ more = sym (take-append-drop near all) ∙ ap (λ l. l ++ drop near all) (sym front ∙ is.split) ∙ append_assoc line (10 ∷ rest) (drop near all) in
      let long : near ≡ length line + length (10 ∷ rest) = sym (length-take-le near all fits) ∙ ap length (sym front ∙ is.split) ∙ length-append line (10 ∷ rest) in
      let here : at ≡ length line = omega (arith, size, long) in
      let taken : take at all ≡ line = ap (λ k. take k all) here ∙ ap (λ l. take (length line) l) whole ∙ take-append_seam line (10 ∷ more) in (
        taken,
        record {
          within = (let total = ap length whole ∙ length-append line (10 ∷ more) in omega (arith, here, total));
          plain = subst HasNoFeed (sym taken) (text-no_feed line is.text);
          here = ap (λ k. drop k all) here ∙ ap (λ l. drop (length line) l) whole ∙ drop-append_seam line (10 ∷ more)
              ∙ ap (λ l. 10 ∷ l) (sym (ap (λ k. drop (k + 1) all) here ∙ ap (λ l. drop (length line + 1) l) whole ∙ drop-append-add line (10 ∷ more) 1));
        },
      )
