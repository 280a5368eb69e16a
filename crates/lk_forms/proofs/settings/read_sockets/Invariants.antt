use Rattle.std.proofs.Common.{◌≡◌, ◌+◌, [], length}
use Rattle.lk_names.specs.declared.limits.TheConstants.{MAX_SOCKET}
use Rattle.lk_forms.specs.Words.{words}
use Rattle.lk_forms.specs.Grammar.{numbers_from}
use Rattle.lk_forms.proofs.settings.read_sockets.Given as goal

abbrev pub invariant-loop-word : goal.invariant-loop-word
invariant-loop-word l = record {
  same : numbers_from 0 MAX_SOCKET l.sockets.items (words l.rest) ≡ numbers_from 0 MAX_SOCKET [] (words l.args);
  room : l.sockets.room ≡ l.cpus;
  left : length l.sockets.items + length (words l.rest) ≡ l.cpus;
}

abbrev pub decreases-loop-word : goal.decreases-loop-word
decreases-loop-word l = length l.rest
