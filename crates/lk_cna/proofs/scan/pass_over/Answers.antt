use Rattle.std.proofs.Common.{◌≡◌, ap, sym, ◌∙◌}
use Rattle.lk_rows.specs.declared.parts.Pc.TheVariants.{C2}
use Rattle.lk_rows.specs.Row.{Answer}
use Rattle.lk_rows.specs.Moves.{node_of}
use Rattle.lk_rows.specs.Machine.{node_at}
use Rattle.lk_cna.proofs.Looks.{row_C2}
use Rattle.lk_cna.proofs.scan.pass_over.Goals as goal

pub node-node-requires : goal.node-node-requires
node-node-requires c = rw (c.named.ensures, c.frame-frame.ensures) (c.requires.ready.ready.reaches C2 c.requires.here)

pub returns-clause-next : goal.returns-clause-next
returns-clause-next c =
    let node_is : c.node-node.result ≡ node_at c.args.machine.now (node_of c.frame-frame.result.b) = c.node-node.ensures ∙ ap (node_at c.args.machine.now) c.named.ensures in
    sym (ap (λ (r : Answer). r.0) (row_C2 _ _ _ _ _ _ _ c.requires.here c.frame-frame.ensures node_is c.more_seen-met.ensures c.after_more-after.ensures c.set_frame.ensures))

pub returns-clause-event : goal.returns-clause-event
returns-clause-event c =
    let node_is : c.node-node.result ≡ node_at c.args.machine.now (node_of c.frame-frame.result.b) = c.node-node.ensures ∙ ap (node_at c.args.machine.now) c.named.ensures in
    sym (ap (λ (r : Answer). r.1) (row_C2 _ _ _ _ _ _ _ c.requires.here c.frame-frame.ensures node_is c.more_seen-met.ensures c.after_more-after.ensures c.set_frame.ensures))
