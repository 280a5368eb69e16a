use Rattle.std.proofs.Common.{◌≡◌, ap, sym, ◌∙◌}
use Rattle.lk_rows.specs.Row.{Answer}
use Rattle.lk_rows.specs.Moves.{node_of}
use Rattle.lk_rows.specs.Machine.{node_at}
use Rattle.lk_cna.proofs.Looks.{row_C1}
use Rattle.lk_cna.proofs.scan.look.Goals as goal

pub returns-clause-next : goal.returns-clause-next
returns-clause-next c =
    let node_is : c.node-node.result ≡ node_at c.args.machine.now (node_of c.frame-frame.result.me) = c.node-node.ensures ∙ ap (node_at c.args.machine.now) c.named.ensures in
    sym (ap (λ (r : Answer). r.0) (row_C1 _ _ _ _ _ _ _ c.requires.here c.frame-frame.ensures node_is c.first_seen-met.ensures c.after_first-after.ensures c.set_frame.ensures))

pub returns-clause-event : goal.returns-clause-event
returns-clause-event c =
    let node_is : c.node-node.result ≡ node_at c.args.machine.now (node_of c.frame-frame.result.me) = c.node-node.ensures ∙ ap (node_at c.args.machine.now) c.named.ensures in
    sym (ap (λ (r : Answer). r.1) (row_C1 _ _ _ _ _ _ _ c.requires.here c.frame-frame.ensures node_is c.first_seen-met.ensures c.after_first-after.ensures c.set_frame.ensures))
