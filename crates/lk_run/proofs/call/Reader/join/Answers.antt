use Rattle.std.proofs.Common.{ap, refl}
use Rattle.lk_run.proofs.Names.{R4, R5, Read, waits_in, joins_at, calls_of}
use Rattle.lk_run.proofs.RwRows as row
use Rattle.lk_run.proofs.RwCalling as on
use Rattle.lk_run.proofs.call.Reader.join.Goals as goal

pub add_bias-requires-clause-row : goal.add_bias-requires-clause-row
add_bias-requires-clause-row c =
    on.acts c.requires (joins_at (waits_in (calls_of c.args.cpu.now).frames c.args.self.now.lock.index) Read) (ap (λ b. joins_at b Read R4) (on.waits_on c.requires))

pub returns : goal.returns
returns c =
    let made = c.add_bias.ensures.step.by in
    on.steps c.requires c.add_bias.ensures.rest refl made R5 (λ e. cc e) (λ f. row.joins _ _ f made.found)
