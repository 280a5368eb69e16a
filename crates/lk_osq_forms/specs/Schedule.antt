-- What holds of an accepted line of a schedule.
use Rattle.std.specs.Prelude.{◌<◌, ◌≤◌, ◌+◌, ⊤, ℕ}
use Rattle.lk_forms.specs.declared.limits.TheConstants.{MAX_ACTS}
use Rattle.lk_osq_forms.specs.declared.answers.Sched.{Sched}
use Rattle.lk_osq_forms.specs.declared.answers.Sched.TheVariants.{Blank, Run, End}

-- the acts are those of a processor that exists, at least one and not too many
abbrev pub IsWithin : ℕ → ℕ → Sched → Type 0
IsWithin cpus acts Blank = ⊤
IsWithin cpus acts (Run give p times) = (p < cpus) × (1 ≤ times) × (acts + times ≤ MAX_ACTS)
IsWithin cpus acts End = ⊤
