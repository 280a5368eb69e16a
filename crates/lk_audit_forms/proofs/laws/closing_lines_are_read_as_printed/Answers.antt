use Rattle.lk_audit_forms.proofs.Closings.{end_is_read, end_is_printed, count_is_read, count_is_printed}
use Rattle.lk_audit_forms.proofs.laws.closing_lines_are_read_as_printed.Goals as goal

pub returns-clause-end : goal.returns-clause-end
returns-clause-end c = end_is_read

pub returns-clause-end_printed : goal.returns-clause-end_printed
returns-clause-end_printed c = end_is_printed

pub returns-clause-count : goal.returns-clause-count
returns-clause-count c = count_is_read

pub returns-clause-count_printed : goal.returns-clause-count_printed
returns-clause-count_printed c = count_is_printed
