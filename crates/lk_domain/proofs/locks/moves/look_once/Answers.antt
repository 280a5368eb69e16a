use Rattle.std.proofs.Common.{refl, arith}
use Rattle.lk_domain.proofs.Names.{step, none, Try}
use Rattle.lk_domain.proofs.{words.LockPlays.asks, words.Numbers.{looks, look_on, look_frees}}
use Rattle.lk_domain.specs.Rows.{is_look}
use Rattle.lk_domain.proofs.locks.moves.look_once.Goals as goal

pub load-requires : goal.load-requires
load-requires c =
    let t = c.args.table.now in
    let z = t.shared.table_id in
    let k = c.requires.table in
    let i = c.lock_word-word.result in (
      c.requires.seat,
      (let few = k.lawful.locks in omega (arith, c.lock_word-word.ensures, k.words, c.requires.lock)),
      asks t.shared.key c.args.plan.now z.slots c.args.seat.now.id c.args.seat.now.me c.requires.number Try c.args.lock i
          (step z.slots i 0 0 none) k.key_is c.requires.lock c.lock_word-word.ensures refl is_look c.requires.row
          (λ pc h fr. look_on pc fr h) (λ pc h may. absurd (look_frees may.0 may.1 may.2 pc h may.3))
          (λ n. n) (λ pc h mode fr y packs known. looks _ mode pc fr y h),
    )
