use Rattle.std.proofs.Common.{◌≡◌, replicate, []}
use Rattle.lk_forms.specs.declared.limits.TheConstants.{MAX_HANDLERS}
use Rattle.lk_forms.specs.Grammar.{list_of}
use Rattle.lk_forms.proofs.tables.no_handlers.Given as goal

abbrev pub invariant-loop-cpu : goal.invariant-loop-cpu
invariant-loop-cpu l = l.handlers ≡ list_of l.cpus (replicate l._cpu (list_of MAX_HANDLERS []))
