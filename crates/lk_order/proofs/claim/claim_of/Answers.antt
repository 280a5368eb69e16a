use Rattle.std.proofs.Common.{refl, sym}
use Rattle.lk_order.specs.Checked.{rank_in}
use Rattle.lk_order.proofs.claim.claim_of.Goals as goal

pub claim_in_order-requires : goal.claim_in_order-requires
claim_in_order-requires c = record {
  lawful = c.requires;
  ordered = (rank_in c.args.ranks.now, c.check_ranks.ensures c.if-not-check_ranks.false);
  awake = sym c.if-halts.ensures;
  room = c.in-None.ensures refl;
}

pub claim_halting-requires : goal.claim_halting-requires
claim_halting-requires c = record {
  lawful = c.requires;
  ordered = (rank_in c.args.ranks.now, c.check_ranks.ensures c.if-not-check_ranks.false);
  halts = sym c.if-halts.ensures;
}
