use Rattle.std.proofs.Common.{arith}
use Rattle.lk_names.specs.declared.names.Kind.TheVariants.{Spin as spinning}
use Rattle.lk_lock.proofs.Closings.{shared_key}
use Rattle.lk_shared_tests.proofs.updates.updates_at_once_leave_one_value.Goals as goal

pub into_value-requires : goal.into_value-requires
into_value-requires g c =
    record {
      key =
          c.in-Ok.ensures.keys spinning _ _
          (c.in_ok-open.ensures.made spinning _ _ c.in_ok-stale.ensures.made);
    }

pub into_value-requires-2 : goal.into_value-requires-2
into_value-requires-2 g c =
    let shared = c.in_ok-open.ensures.shared _ _ (c.spin.ensures.shared _ _ c.in_ok-count.ensures.made) in
    let found = shared_key _ _ _ _ c.in-Ok.ensures.keys shared in
    let n = c.in_ok-count.ensures.number in
    let m = c.in_ok-count.ensures.count in
    let o = c.in_ok-stale.ensures.number in
    record {
      key = (found.0, found.1, c.into_value.ensures.others _ _ (λ e. omega (arith, e, n, m, o)) found.2);
    }
