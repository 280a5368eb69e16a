use Rattle.std.proofs.Common.{refl, arith, eqb}
use Rattle.lk_domain.proofs.Names.{step, none, either, Try, is_take}
use Rattle.lk_domain.proofs.{words.LockPlays.asks, words.Numbers.{takes, take_on, take_frees}}
use Rattle.lk_domain.proofs.locks.moves.take_once.Goals as goal

pub compare_exchange-requires : goal.compare_exchange-requires
compare_exchange-requires c =
    let t = c.args.table.now in
    let z = t.shared.table_id in
    let k = c.requires.table in
    let i = c.lock_word-word.result in (
      c.requires.seat,
      (let few = k.lawful.locks in omega (arith, c.lock_word-word.ensures, k.words, c.requires.lock)),
      asks t.shared.key c.args.plan.now z.slots c.args.seat.now.id c.args.seat.now.me c.requires.number Try c.args.lock i
          (step z.slots i 0 1 none) k.key_is c.requires.lock c.lock_word-word.ensures refl is_take c.requires.row
          (λ pc h fr. take_on pc fr h) (λ pc h may. absurd (take_frees may.0 may.1 may.2 pc h may.3))
          (λ n. either (eqb n 0) 1 n) (λ pc h mode fr y packs known. takes _ mode pc fr y h),
    )
