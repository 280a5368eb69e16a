use Rattle.std.proofs.Common.{◌∙◌, ◌∷◌, [], sym, arith, length-append}
use Rattle.lk_forms.specs.Words.{words}
use Rattle.lk_forms.proofs.OpsLemmas.{ops_from-more}
use Rattle.lk_forms.proofs.programs.read_ops.Goals as goal

pub loop-verb-preserved : goal.loop-verb-preserved
loop-verb-preserved c =
    let ops = c.loop-verb.ops.items in
    let read = rw c.as_slice.ensures at c.in_ok-op.ensures.op in
    let more = ops_from-more c.args.kinds.now ops (words c.loop-verb.rest.now) c.in-Some.verb.now (words c.in-Some.behind.now) (words c.in_ok-op.behind.now) c.in_ok-op.op c.in-Some.ensures.words c.in_ok-op.ensures.rest read in
    let few = rw c.as_slice.ensures at c.in_ok-op.ensures.few in
    rw c.push.ensures (record {
      same = sym more ∙ c.loop-verb.invariant.same;
      room = c.loop-verb.invariant.room;
      few = omega (arith, length-append ops (c.in_ok-op.op ∷ []), few);
    })
