use Rattle.std.proofs.Common.{arith, subst}
use Rattle.std.proofs.lemmas.Option.{get_or_from_slice_get, slice_get_within}
use Rattle.lk_names.specs.declared.names.Kind.TheVariants.{Rw as shared, Spin as spinning}
use Rattle.lk_lock.specs.Standing.{Rests}
use Rattle.lk_lock_tests.proofs.values.values_come_back_as_they_were_left.Goals as goal

pub leave-requires-clause-rests : goal.leave-requires-clause-rests
leave-requires-clause-rests g c =
    let found = c.get_mut.ensures.value in
    let cpus = c.in_ok-open.open.cpus.items in
    let first = c.get_mut.result.now in
    subst (Rests c.in_ok-open.open.domain 0) (get_or_from_slice_get cpus 0 first first found)
    (c.in_ok-open.ensures.rest 0 first (slice_get_within cpus 0 first found))

pub into_value-requires : goal.into_value-requires
into_value-requires g c =
    record {
      key =
          c.in-Ok.ensures.keys shared _ _
          (c.in_ok-open.ensures.made shared _ _ c.in_ok-other.ensures.made);
    }

pub into_value-requires-2 : goal.into_value-requires-2
into_value-requires-2 g c =
    record {
      key =
          c.into_value.ensures.others _ _
          (λ e. let n = c.in_ok-number.ensures.number in let m = c.in_ok-number.ensures.count in let o = c.in_ok-other.ensures.number in omega (arith, e, n, m, o))
          (c.in-Ok.ensures.keys spinning _ _
          (c.in_ok-open.ensures.made spinning _ _
          (c.rw.ensures.kept spinning _ _ c.in_ok-number.ensures.made)));
    }
