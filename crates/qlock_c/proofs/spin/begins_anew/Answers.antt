use Rattle.qlock_c.proofs.spin.begins_anew.Goals as goal

pub returns : goal.returns
returns c ok = c.begin.ensures.taken (c.code.ensures ok)
