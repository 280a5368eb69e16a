use Rattle.std.proofs.Common.{refl, arith, ◌+◌, ◌-◌, ◌%◌, ◌^◌}
use Rattle.lk_domain.proofs.Names.{step, none, Unlock}
use Rattle.lk_domain.proofs.{words.LockPlays.asks, words.Numbers.{releases, free_on}}
use Rattle.lk_domain.specs.Rows.{is_free}
use Rattle.lk_domain.proofs.locks.moves.release.Goals as goal

pub fetch_sub-met-requires : goal.fetch_sub-met-requires
fetch_sub-met-requires c =
    let d = c.args.domain.now in
    let z = d.table.shared.table_id in
    let i = c.lock_word-word.result in (
      c.requires.table,
      (let few = d.lawful.locks in omega (arith, c.lock_word-word.ensures, d.words, c.requires.lock)),
      asks d.table.shared.key d.plan z.slots c.args.seat.now.id c.args.seat.now.me c.requires.number Unlock c.args.lock i
          (step z.slots i 1 0 none) d.key c.requires.lock c.lock_word-word.ensures refl is_free c.requires.row
          (λ pc h fr. free_on pc fr h) (λ pc h may. record { journal = c.requires.home; value = λ plain. c.requires.value })
          (λ n. (n + (2 ^ 64 - 1)) % 2 ^ 64) (λ pc h mode fr y packs known. releases _ mode pc fr y h packs known),
    )
