use Rattle.std.proofs.Common.{◌∙◌, sym, refl}
use Rattle.lk_command.proofs.Answered.{replay_means, replay_complete, replay_exact, replay_memory, put_writes, put_memory}
use Rattle.lk_command.proofs.command.perform.Goals as goal

pub returns-in-Some-Replay-clause-came : goal.returns-in-Some-Replay-clause-came
returns-in-Some-Replay-clause-came g c =
    let answer = c.replay.result in
    let replay = c.replay.ensures in
    let inner = rw c.in-Some-Replay.is at c.in-Some-Replay.field-0-is in
    rw (c.in-Some-Replay.is, inner, c.of.ensures) (record {
      means = replay_means _ _ answer replay.outcome;
      complete = λ bytes setup acts left says reads writes. replay_complete answer (replay.complete bytes setup acts left says reads writes);
      exact = λ bytes line why setup acts left says reads writes. replay_exact answer _ (replay.exact bytes line why setup acts left says reads writes);
    })

pub returns-in-Some-Replay-clause-memory : goal.returns-in-Some-Replay-clause-memory
returns-in-Some-Replay-clause-memory g c = λ memory. c.replay.ensures.untouched (replay_memory c.replay.result (sym c.of.ensures ∙ memory))

pub returns-in-Some-Osq-clause-came : goal.returns-in-Some-Osq-clause-came
returns-in-Some-Osq-clause-came g c =
    let inner = rw c.in-Some-Osq.is at c.in-Some-Osq.field-0-is in
    rw (c.in-Some-Osq.is, inner) c.run_osq.ensures.runs

pub returns-in-Some-Audit-clause-came : goal.returns-in-Some-Audit-clause-came
returns-in-Some-Audit-clause-came g c =
    let inner = rw c.in-Some-Audit.is at c.in-Some-Audit.field-0-is in
    rw (c.in-Some-Audit.is, inner) c.run_audit.ensures.runs

pub returns-in-Some-Ledger-clause-came : goal.returns-in-Some-Ledger-clause-came
returns-in-Some-Ledger-clause-came g c =
    let inner = rw c.in-Some-Ledger.is at c.in-Some-Ledger.field-0-is in
    rw (c.in-Some-Ledger.is, inner) c.run_ledger.ensures.runs

pub returns-in-Some-Gen-clause-came : goal.returns-in-Some-Gen-clause-came
returns-in-Some-Gen-clause-came g c =
    let put = c.generate.ensures in
    let inner = rw c.in-Some-Gen.is at c.in-Some-Gen.field-0-is in
    rw (c.in-Some-Gen.is, inner, c.of_put.ensures) (refl, put_writes _ _ _ c.generate.result put.ok put.err put.cause)

pub returns-in-Some-Gen-clause-memory : goal.returns-in-Some-Gen-clause-memory
returns-in-Some-Gen-clause-memory g c = λ memory. absurd (put_memory c.generate.result (sym c.of_put.ensures ∙ memory))

pub returns-in-Some-Load-clause-came : goal.returns-in-Some-Load-clause-came
returns-in-Some-Load-clause-came g c =
    let inner = rw c.in-Some-Load.is at c.in-Some-Load.field-0-is in
    rw (c.in-Some-Load.is, inner) (refl, c.load.ensures.writes (g.S.Source.left c.args.source.now) (g.S.Source.faults c.args.source.now))
