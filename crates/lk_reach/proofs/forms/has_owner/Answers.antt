use Rattle.std.proofs.Common.{arith, ◌∙◌, sym}
use Rattle.lk_rows.specs.Machine.{cpu_at}
use Rattle.lk_reach.proofs.Formed.{depth_is, frame_there, none_owns, none_then}
use Rattle.lk_reach.proofs.forms.has_owner.Goals as goal

pub loop-ctx-preserved : goal.loop-ctx-preserved
loop-ctx-preserved c =
    let m = c.args.machine.now in
    let p = c.args.cpu in
    none_then (cpu_at m p).frames c.args.index c.loop-ctx.ctx c.frame_at.result
    (frame_there m p c.loop-ctx.ctx c.frame_at.result c.frame_at.ensures) (sym c.owns.ensures ∙ c.if-owns.false)
    c.loop-ctx.invariant

pub returns : goal.returns
returns c =
    let m = c.args.machine.now in
    let p = c.args.cpu in
    let end = c.depth-ctx-end.ensures ∙ depth_is m p in
    let high = c.loop-ctx-test.false in
    λ e. none_owns (cpu_at m p).frames c.args.index c.loop-ctx.ctx (omega (arith, end, high)) c.loop-ctx.invariant
