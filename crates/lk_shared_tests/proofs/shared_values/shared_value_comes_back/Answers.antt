use Rattle.lk_lock.proofs.Closings.{shared_key}
use Rattle.lk_shared_tests.proofs.shared_values.shared_value_comes_back.Goals as goal

pub into_value-requires : goal.into_value-requires
into_value-requires g c =
    record {
      key = shared_key _ _ _ _ c.in-Ok.ensures.keys (c.in_ok-open.ensures.shared _ _ c.in_ok-limit.ensures.made);
    }
