use Rattle.lk_rows.specs.Machine.{cpu_at}
use Rattle.lk_reach.proofs.Formed.{NoneOwns}
use Rattle.lk_reach.proofs.forms.has_owner.Given as goal

-- no frame so far has the node
abbrev pub invariant-loop-ctx : goal.invariant-loop-ctx
invariant-loop-ctx l = NoneOwns (cpu_at l.machine l.cpu).frames l.index l.ctx
