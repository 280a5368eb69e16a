use Rattle.std.proofs.Common.{arith}
use Rattle.lk_replay.proofs.Answered.{stopped_cut}
use Rattle.lk_replay.proofs.replaying.Replaying.cut.Goals as goal

pub returns-in-Err : goal.returns-in-Err
returns-in-Err g c =
    let rose = c.in-Err.ensures.cause.failed in record {
      outcome = λ input left held reads reads_now writes s why before.
          stopped_cut input left held _ _ reads reads_now writes _ c.args.self.now c.args.why c.in_default.not-WriteFault s (omega (arith, rose, before)) c.in-Err.ensures.err;
      rose = λ reads reads_now writes why before. omega (arith, rose, before);
      later = c.in-Err.ensures.cause.later;
    }
