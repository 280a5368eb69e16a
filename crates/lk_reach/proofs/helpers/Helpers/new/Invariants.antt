use Rattle.lk_reach.proofs.Names.{tight_setup, AreFresh}
use Rattle.lk_reach.proofs.helpers.Helpers.new.Given as goal

-- so many helpers were made
abbrev pub invariant-loop-made : goal.invariant-loop-made
invariant-loop-made g l = AreFresh (tight_setup l.setup) l.list.items
