use Rattle.std.proofs.Common.{arith}
use Rattle.lk_stream.proofs.Answered.{stopped_cut, stopped_already}
use Rattle.lk_stream.proofs.stream.Stream.cut.Goals as goal

pub returns-in-WriteFault-clause-means : goal.returns-in-WriteFault-clause-means
returns-in-WriteFault-clause-means g c = λ input left held reads reads_now writes s rose before.
    stopped_already _ input left held _ held reads reads_now writes _ _ c.args.why s rose c.in-WriteFault.is

pub returns-in-Err : goal.returns-in-Err
returns-in-Err g c =
    let rose = c.in-Err.ensures.cause.failed in record {
      means = λ input left held reads reads_now writes s why before.
          stopped_cut _ input left held _ _ reads reads_now writes _ _ c.args.why c.in_default.not-WriteFault c.in_default.not-Memory s (omega (arith, rose, before)) c.in-Err.ensures.err;
      rose = λ reads reads_now writes why before. omega (arith, rose, before);
      later = c.in-Err.ensures.cause.later;
      untouched = λ e. absurd (cc);
    }
