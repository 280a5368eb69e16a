use Rattle.std.proofs.Common.{◌≡◌, replicate, []}
use Rattle.lk_forms.specs.Grammar.{list_of}
use Rattle.lk_forms.proofs.tables.no_programs.Given as goal

abbrev pub invariant-loop-cpu : goal.invariant-loop-cpu
invariant-loop-cpu l = l.programs ≡ list_of l.cpus (replicate l._cpu (list_of 0 []))
