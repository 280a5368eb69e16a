use Rattle.std.proofs.Common.{◌≡◌, ◌≤◌, ◌+◌, length}
use Rattle.lk_forms.specs.Words.{words}
use Rattle.lk_forms.proofs.settings.count_words.Given as goal

abbrev pub invariant-loop-word : goal.invariant-loop-word
invariant-loop-word l = record {
  count : l.count + length (words l.rest) ≡ length (words l.args);
  few : l.count + length l.rest ≤ length l.args;
}

abbrev pub decreases-loop-word : goal.decreases-loop-word
decreases-loop-word l = length l.rest
