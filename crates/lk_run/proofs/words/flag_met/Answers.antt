use Rattle.std.proofs.Common.{sym, ap, ◌∙◌, arith}
use Rattle.lk_run.proofs.Names.{NodeName, Flag, Second}
use Rattle.lk_run.proofs.Places.{unset_flag, go_flag, second_flag, small_flag}
use Rattle.lk_run.proofs.words.flag_met.Goals as goal

pub returns-then-met-eq0 : goal.returns-then-met-eq0
returns-then-met-eq0 c k flag on node is = sym (unset_flag k c.args.met flag node is c.if-met-eq0.true)

pub returns-then-met-eq1 : goal.returns-then-met-eq1
returns-then-met-eq1 c k flag on node is = sym (go_flag k c.args.met flag node is c.if-met-eq1.true)

pub node_of_name-requires-clause-unmarked : goal.node_of_name-requires-clause-unmarked
node_of_name-requires-clause-unmarked c =
    let flag = c.requires.flag in
    let small = small_flag flag.0 c.args.met flag.1 flag.3 flag.4 flag.2.cpus in
    omega (arith, small)

pub returns : goal.returns
returns c k flag on node is =
    ap (λ (n : NodeName). let f : Flag = Second n in f) c.node_of_name.ensures
    ∙ second_flag k c.args.met flag node is c.if-met-eq0.false c.if-met-eq1.false
