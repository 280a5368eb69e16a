use Rattle.std.proofs.Common.{sym, subst, ◌∙◌, IfSome}
use Rattle.lk_pvdomain.proofs.Names.{table_of, IsNode, Plan}
use Rattle.lk_pvdomain.proofs.{ways.Hands.{behind_asks, e14_waits, e14_sees}, ways.Ways.numbered}
use Rattle.lk_pvdomain.proofs.call.Queued.wait_for_next.Goals as goal

pub look_next-requires : goal.look_next-requires
look_next-requires c =
    let w = c.requires.1 in
    record { table = table_of c.args.self.now.domain.now; seat = w.of.table_is; number = numbered w; own = w.of.near; row = behind_asks w }

pub node_met-requires : goal.node_met-requires
node_met-requires c =
    let w = c.requires.1 in
    let d = c.args.self.now.domain.now in
    let k = c.look_next.ensures.step in
    record { link = (d.plan, k.found, k.mark, d.lawful, subst (λ (p : Plan). IfSome k.found (IsNode p)) w.of.plan k.node, k.word) }

pub returns-clause-node : goal.returns-clause-node
returns-clause-node c to e =
    let w = c.requires.1 in
    let d = c.args.self.now.domain.now in
    let k = c.look_next.ensures.step in
    let near = subst (λ (p : Plan). IfSome k.found (IsNode p)) w.of.plan k.node in
    subst (λ o. IfSome o (IsNode d.plan)) (sym (c.node_met.ensures d.plan k.found k.mark d.lawful near k.word) ∙ e) near

pub returns-clause-goes : goal.returns-clause-goes
returns-clause-goes c to e s w =
    let d = c.args.self.now.domain.now in
    let k = c.look_next.ensures.step in
    let near = subst (λ (p : Plan). IfSome k.found (IsNode p)) w.of.plan k.node in
    e14_sees c.look_next.ensures.same w k (sym (c.node_met.ensures d.plan k.found k.mark d.lawful near k.word) ∙ e)

pub returns-clause-stays : goal.returns-clause-stays
returns-clause-stays c e s w =
    let d = c.args.self.now.domain.now in
    let k = c.look_next.ensures.step in
    let near = subst (λ (p : Plan). IfSome k.found (IsNode p)) w.of.plan k.node in
    e14_waits c.look_next.ensures.same w k (sym (c.node_met.ensures d.plan k.found k.mark d.lawful near k.word) ∙ e)
