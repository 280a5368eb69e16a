use Rattle.std.proofs.Common.{sym, ◌∙◌}
use Rattle.lk_osq_forms.proofs.ScheduleLemmas.{within-ok, schedule-no_memory}
use Rattle.lk_osq_forms.proofs.schedule.schedule_line.Goals as goal

pub returns-clause-within : goal.returns-clause-within
returns-clause-within c =
    within-ok c.args.cpus c.args.acts c.args.ended c.args.line.now c.read_line.result c.read_line.ensures

pub returns-clause-no_memory : goal.returns-clause-no_memory
returns-clause-no_memory c =
    λ memory. schedule-no_memory c.args.cpus c.args.acts c.args.ended c.args.line.now
    (sym c.read_line.ensures ∙ memory)
