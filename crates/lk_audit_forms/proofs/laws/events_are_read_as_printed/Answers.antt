use Rattle.lk_audit_forms.proofs.Events.{printed_is_read, read_is_printed}
use Rattle.lk_audit_forms.proofs.laws.events_are_read_as_printed.Goals as goal

pub returns-clause-printed : goal.returns-clause-printed
returns-clause-printed c = printed_is_read

pub returns-clause-read : goal.returns-clause-read
returns-clause-read c = read_is_printed
