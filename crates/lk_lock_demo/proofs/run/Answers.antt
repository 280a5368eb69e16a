use Rattle.std.proofs.Common.{arith}
use Rattle.lk_names.specs.declared.names.Kind.TheVariants.{Spin}
use Rattle.lk_lock_demo.proofs.run.Goals as goal

pub into_value-numbers-requires : goal.into_value-numbers-requires
into_value-numbers-requires g c =
    let queue = c.in_ok-queue.queue.spin in
    let l = queue.id.index in
    let cell = queue.cell.table.shared.table_id in
    let under = c.in_ok-open.ensures.made Spin l cell (c.in_ok-count.ensures.kept Spin l cell c.in_ok-queue.ensures.made) in
    record { key = c.in-Ok.ensures.keys Spin l cell under }

pub into_value-requires : goal.into_value-requires
into_value-requires g c =
    let count = c.in_ok-count.count.spin in
    let l = count.id.index in
    let cell = count.cell.table.shared.table_id in
    let under = c.in_ok-open.ensures.made Spin l cell c.in_ok-count.ensures.made in
    let above = c.in_ok-count.ensures.above in
    record {
      key = c.into_value-numbers.ensures.others l cell (λ same. omega (arith, same, above))
          (c.in-Ok.ensures.keys Spin l cell under);
    }
