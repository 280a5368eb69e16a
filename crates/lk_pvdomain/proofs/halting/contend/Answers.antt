use Rattle.lk_pvdomain.proofs.halting.contend.Goals as goal

pub wait_on-requires : goal.wait_on-requires
wait_on-requires g c = c.requires.at

pub returns : goal.returns
returns g c = record { took = λ s w. c.wait_on.ensures s w }
