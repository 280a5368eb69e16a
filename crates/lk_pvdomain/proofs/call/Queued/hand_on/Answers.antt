use Rattle.lk_pvdomain.proofs.Names.{table_of}
use Rattle.lk_pvdomain.proofs.{ways.Hands.{hand_asks, e15_hands}, ways.Ways.numbered}
use Rattle.lk_pvdomain.proofs.call.Queued.hand_on.Goals as goal

pub hand-requires : goal.hand-requires
hand-requires c =
    let w = c.requires.waits.1 in
    record { table = table_of c.args.self.now.domain.now; seat = w.of.table_is; number = numbered w; to = c.requires.to; flag = tt; row = hand_asks w }

pub returns : goal.returns
returns c s w = e15_hands c.hand.ensures.same w c.hand.ensures.step.1
