-- What a replay of the generated trace comes to.
use Rattle.std.proofs.Common.{◌≡◌, ◌∙◌, ℕ, List, length, ap, ap₂, sym, arith}
use Rattle.lk_names.specs.declared.events.Act.{Act}
use Rattle.lk_rows.specs.declared.setup.Setup.{Setup}
use Rattle.lk_text.specs.Causes.{Rose}
use Rattle.lk_forms.specs.Trace.{trace, Good, setup_in, acts_in}
use Rattle.lk_gen.specs.Generated.{generated, generated_setup, generated_acts}
use Rattle.lk_gen.proofs.Whole.{is_good, acts_are}
use Rattle.lk_replay.specs.Transcript.{counts_of_run}

-- a count that is 0 did not rise
pub quiet : ¬ Rose 0 0
quiet rose = omega (arith, rose)

module _ (start : ℕ) (bytes : List ℕ) (is : bytes ≡ generated start) where
  pub good : trace bytes ≡ Good (generated_setup start) (generated_acts start)
  good = ap trace is ∙ is_good start

  module _ (setup : Setup) (acts : List Act) (says : trace bytes ≡ Good setup acts) where
    same_acts : acts ≡ generated_acts start
    same_acts = ap acts_in (sym says ∙ good)

    pub acts_made : length acts ≡ 200000
    acts_made = ap length same_acts ∙ acts_are start

    pub counted : counts_of_run setup acts ≡ counts_of_run (generated_setup start) (generated_acts start)
    counted = ap₂ counts_of_run (ap setup_in (sym says ∙ good)) same_acts
