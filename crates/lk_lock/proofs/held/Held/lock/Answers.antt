use Rattle.std.proofs.Common.{refl}
use Rattle.lk_lock.proofs.Names.{Spins, Lock, terms_of, calls_of}
use Rattle.lk_lock.proofs.Steps.{at_home, gone_in, gone_out, home_again, inside}
use Rattle.lk_lock.proofs.held.Held.lock.Goals as goal

pub take_out-key-requires-clause-held : goal.take_out-key-requires-clause-held
take_out-key-requires-clause-held g c =
    at_home c.args.spin.now.id.index Spins c.args.cpu.now c.take.new.cpu (c.take.ensures).holding refl

pub returns-clause-ready : goal.returns-clause-ready
returns-clause-ready g c =
    gone_out c.args.domain.now c.take.new.cpu c.take_out-key.new.cpu (c.take.ensures).ready c.args.spin.now.id.index c.take_out-key.ensures.taken

pub returns-clause-inside : goal.returns-clause-inside
returns-clause-inside g c =
    inside c.args.spin.now.id.index Spins c.args.cpu.now c.take.new.cpu (c.take.ensures).holding c.take_out-key.new.cpu c.take_out-key.ensures.taken

pub returns-clause-path : goal.returns-clause-path
returns-clause-path g c =
    let l = c.args.spin.now.id.index in
    let old = c.args.cpu.now in
    let mid = c.take.new.cpu in
    gone_in (terms_of c.args.domain.now.plan) old.number Lock l (calls_of old) (calls_of mid) c.take_out-key.new.cpu
    (home_again l Spins old mid (c.take.ensures).holding c.take_out-key.new.cpu c.take_out-key.ensures.taken) (c.take.ensures).path
