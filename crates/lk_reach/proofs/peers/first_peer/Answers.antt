use Rattle.lk_reach.proofs.apart.Alike.{peer_self}
use Rattle.lk_reach.proofs.peers.first_peer.Goals as goal

pub returns : goal.returns
returns c = peer_self c.args.setup.now c.args.cpu
