use Rattle.std.proofs.Common.{◌%◌, Some, sym, ap, ◌∙◌, arith}
use Rattle.lk_domain.proofs.Names.{NodeName}
use Rattle.lk_domain.proofs.Mets.{no_link, some_link, small_link, name_is}
use Rattle.lk_domain.proofs.met.node_met.Goals as goal

pub returns-then-name-lt-LOWEST_NODE : goal.returns-then-name-lt-LOWEST_NODE
returns-then-name-lt-LOWEST_NODE c k node mark of has is =
    sym (no_link (c.args.met % 4294967296) node (name_is k c.args.met mark node has is of.cpus) c.if-name-lt-LOWEST_NODE.true)

pub node_of_name-requires-clause-unmarked : goal.node_of_name-requires-clause-unmarked
node_of_name-requires-clause-unmarked c =
    let link = c.requires.link in
    let k = link.0 in
    let cpus = link.3.cpus in
    let small = small_link k (c.args.met % 4294967296) link.1 link.4 (name_is k c.args.met link.2 link.1 link.4 link.5 cpus) cpus in
    omega (arith, small)

pub returns : goal.returns
returns c k node mark of has is =
    ap (λ (n : NodeName). Some n) c.node_of_name.ensures
    ∙ some_link k (c.args.met % 4294967296) node has (name_is k c.args.met mark node has is of.cpus)
    (let low = c.if-name-lt-LOWEST_NODE.false in omega (arith, low))
