use Rattle.std.proofs.Common.{◌≡◌, replicate}
use Rattle.lk_forms.specs.Grammar.{list_of}
use Rattle.lk_forms.proofs.tables.zero_sockets.Given as goal

abbrev pub invariant-loop-cpu : goal.invariant-loop-cpu
invariant-loop-cpu l = l.sockets ≡ list_of l.cpus (replicate l._cpu 0)
