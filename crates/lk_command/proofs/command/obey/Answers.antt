use Rattle.std.proofs.Common.{string_bytes, refl}
use Rattle.lk_command.proofs.Asked.{usage, untouched, had_memory, replays, runs_osq, runs_audit, runs_ledger, writes_gen, writes_load, does_unread}
use Rattle.lk_command.proofs.command.obey.Goals as goal

pub returns-in-Ok : goal.returns-in-Ok
returns-in-Ok g c =
    let args = c.args.args in
    let read = c.in-Ok.ensures.read in
    let asked = c.in-Ok.asked in
    let done = c.perform.ensures.came in record {
      usage = usage string_bytes args _ _ _ _ _ asked read done;
      unread = λ none. absurd (had_memory string_bytes args asked read none);
      untouched = untouched string_bytes args _ _ _ _ _ asked read done;
      memory = c.perform.ensures.memory;
      replays = replays string_bytes args _ _ _ _ _ asked read done;
      audits = runs_audit string_bytes args _ _ _ _ _ asked read done;
      osq = runs_osq string_bytes args _ _ _ _ _ asked read done;
      ledger = runs_ledger string_bytes args _ _ _ _ _ asked read done;
      generates = writes_gen string_bytes args _ _ _ _ _ asked read done;
      loads = writes_load string_bytes args _ _ _ _ _ asked read done;
    }

pub returns-in-Err : goal.returns-in-Err
returns-in-Err g c = does_unread string_bytes _ _ _ refl refl c.args.args c.in-Err.status c.in-Err.ensures.unread
