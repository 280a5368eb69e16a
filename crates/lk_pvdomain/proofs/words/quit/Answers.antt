use Rattle.std.proofs.Common.{◌+◌, ap, arith}
use Rattle.lk_pvdomain.proofs.Names.{lock_name}
use Rattle.lk_pvdomain.proofs.Quits.{quit_asks}
use Rattle.lk_pvdomain.proofs.words.quit.Goals as goal

pub compare_exchange-requires : goal.compare_exchange-requires
compare_exchange-requires c =
    let d = c.args.domain.now in
    let z = d.table.shared.table_id in (
      c.requires.of.table_is,
      (let few = d.lawful.locks in let low = c.requires.lock in omega (arith, c.lock_word-word.ensures, d.words, low)),
      quit_asks d.table.shared.key d.plan z.slots c.args.seat.now.id c.args.seat.now.me (c.args.own.cpu, c.requires.of.number) c.requires.row.0
          (lock_name c.args.lock) c.lock_word-word.result d.key c.requires.lock c.lock_word-word.ensures c.args.own
          (let a = c.requires.of.near.cpu in let b = c.requires.of.near.index in let few = d.lawful.cpus in (omega arith, omega arith))
          (c.tail_of-last.result + 1) (ap (λ n. n + 1) c.tail_of-last.ensures) c.requires.row.1,
    )
