use Rattle.std.proofs.Common.{subst}
use Rattle.lk_pvdomain.proofs.Names.{Comes}
use Rattle.lk_pvdomain.proofs.call.Queued.wait_on.Goals as goal

pub give_way-requires : goal.give_way-requires
give_way-requires g c = record { halting = c.args.self.now.halting; cpu = c.args.self.now.node.cpu }

pub turn-requires : goal.turn-requires
turn-requires g c = (c.requires.0, c.loop.invariant c.requires.0 c.requires.1)

pub loop-init : goal.loop-init
loop-init g c s w =
    let q = c.args.self.now in
    subst (λ o. Comes q.domain.now q.lock q.own o s c.contend.new.seat) c.in-Some.is (c.contend.ensures s w)

pub returns-in-None-turn : goal.returns-in-None-turn
returns-in-None-turn g c s w =
    let q = c.args.self.now in
    subst (λ o. Comes q.domain.now q.lock q.own o s c.turn.new.seat) c.in-None-turn.is (c.turn.ensures s (c.loop.invariant s w))

pub loop-preserved : goal.loop-preserved
loop-preserved g c s w =
    let q = c.args.self.now in
    subst (λ o. Comes q.domain.now q.lock q.own o s c.turn.new.seat) c.in-Some-turn.is (c.turn.ensures s (c.loop.invariant s w))
