use Rattle.lk_law.proofs.running.Calm.{row_is_calm, node_comes_at_entry}
use Rattle.lk_law.proofs.running.Leads.{row_is_led, row_is_done}
use Rattle.lk_law.proofs.domains.rows_are_led.Goals as goal

pub returns-clause-led : goal.returns-clause-led
returns-clause-led c = row_is_led

pub returns-clause-done : goal.returns-clause-done
returns-clause-done c = row_is_done

pub returns-clause-calm : goal.returns-clause-calm
returns-clause-calm c = row_is_calm

pub returns-clause-entry : goal.returns-clause-entry
returns-clause-entry c = node_comes_at_entry
