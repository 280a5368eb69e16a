use Rattle.lk_domain_law.proofs.Kept.{begins_keep_order, ranks_are_asked, rows_keep_order}
use Rattle.lk_domain_law.proofs.Others.{halts_keep_order, values_keep_order}
use Rattle.lk_domain_law.proofs.laws.order_is_kept.Goals as goal

pub returns : goal.returns
returns c =
    record {
      begins = begins_keep_order;
      rows = rows_keep_order;
      values = values_keep_order;
      halts = halts_keep_order;
      ranks = ranks_are_asked;
    }
