use Rattle.lk_run.proofs.irq.give_way.Goals as goal

pub returns : goal.returns
returns g c =
    let e = c.poll.ensures in
    record { rest = e.rest; calls = e.calls; ledger = e.ledger; polls = e.polls; quiet = e.quiet }
