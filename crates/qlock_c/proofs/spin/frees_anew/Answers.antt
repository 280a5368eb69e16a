use Rattle.qlock_c.proofs.spin.frees_anew.Goals as goal

pub returns : goal.returns
returns c ok = c.unlock.ensures.freed (c.code.ensures ok)
