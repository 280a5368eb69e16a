use Rattle.std.proofs.Common.{◌<◌, ℕ}
use Rattle.lk_reach.proofs.Names.{IsPlaced}
use Rattle.lk_reach.proofs.order.Order.fits.Given as goal

-- each processor so far is placed
abbrev pub invariant-loop-cpu : goal.invariant-loop-cpu
invariant-loop-cpu l = (p : ℕ) → p < l.cpu → IsPlaced l.peers.firsts l.cpus l.self p
