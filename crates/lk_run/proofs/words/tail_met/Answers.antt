use Rattle.std.proofs.Common.{◌∙◌, arith}
use Rattle.lk_run.proofs.Places.{node_named, small_name}
use Rattle.lk_run.proofs.words.tail_met.Goals as goal

pub node_of_name-requires-clause-unmarked : goal.node_of_name-requires-clause-unmarked
node_of_name-requires-clause-unmarked c =
    let tail = c.requires.tail in
    let small = small_name tail.0 c.args.met tail.1 tail.3 tail.4 tail.2.cpus in
    omega (arith, small)

pub returns : goal.returns
returns c k node on near is = c.node_of_name.ensures ∙ node_named k c.args.met node near is
