use Rattle.lk_names.specs.declared.names.Kind.TheVariants.{Spin as spinning}
use Rattle.lk_lock_tests.proofs.counts.counted.Goals as goal

pub into_value-requires : goal.into_value-requires
into_value-requires g c =
    record {
      key =
          c.in-Ok.ensures.keys spinning _ _
          (c.in_ok-open.ensures.made spinning _ _ c.in_ok-count.ensures.made);
    }
