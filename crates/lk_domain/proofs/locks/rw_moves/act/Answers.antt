use Rattle.std.proofs.Common.{refl, arith, eqb, ◌+◌, ◌%◌, ◌^◌, ◌-◌, subst, ◌≡◌, true, ap, sym, ℕ}
use Rattle.lk_domain.proofs.Names.{bit_or, step, none, either, Verb, ActsFor, awaits_by, follows_by}
use Rattle.lk_domain.proofs.Names.{joins_by, leaves_by, quits_by, seizes_by, watches_by, View}
use Rattle.lk_domain.proofs.rw.Numbers.{watches, watch_row, watch_last, seizes, seize_row}
use Rattle.lk_domain.proofs.rw.Numbers.{seize_last, joins, join_row, join_last, quits, quit_row}
use Rattle.lk_domain.proofs.rw.Numbers.{quit_frees, quit_reads, follows, follow_row, follow_last}
use Rattle.lk_domain.proofs.rw.Numbers.{leaves, leave_row, leave_writes, awaits, await_row}
use Rattle.lk_domain.proofs.{rw.Numbers.await_last, rw.Plays.{asks, reader_shut, writer_shut}}
use Rattle.lk_domain.specs.{RwUses.{frees_by_use, rw_uses_by}, declared.locks.rw_moves.RwUse.RwUse}
use Rattle.lk_domain.specs.declared.locks.rw_moves.RwUse.TheVariants.{Watches, Joins, Quits, Seizes}
use Rattle.lk_domain.specs.declared.locks.rw_moves.RwUse.TheVariants.{Awaits, Follows, Leaves}
use Rattle.lk_domain.proofs.locks.rw_moves.act.Goals as goal

here : (v : Verb) (w : View) (l : ℕ) (u how : RwUse) → u ≡ how → ActsFor (rw_uses_by u v) w v l → ActsFor (rw_uses_by how v) w v l
here v w l u how is = subst (λ (x : RwUse). ActsFor (rw_uses_by x v) w v l) is

pub load-requires : goal.load-requires
load-requires g c =
    let d = c.args.domain.now in
    let z = d.table.shared.table_id in
    let i = c.lock_word-word.result in
    let v = g.C.RwCalls.verb in
    let m = c.args.seat.now.me in
    let row = here v m.0 c.args.lock c.args.how Watches c.in-Watches.is c.requires.row in (
      c.requires.table,
      (let few = d.lawful.locks in omega (arith, c.lock_word-word.ensures, d.words, c.requires.lock)),
      asks d.table.shared.key d.plan z.slots c.args.seat.now.id m c.requires.number v c.args.lock i
          (step z.slots i 0 0 none) d.key c.requires.lock c.lock_word-word.ensures refl (watches_by v) row
          (λ pc h. watch_row v pc h) (λ pc h z. absurd (watch_last v pc h z))
          (λ n. n) (λ pc h mode fr y packs known. watches mode v pc fr y h),
    )

pub fetch_add-requires : goal.fetch_add-requires
fetch_add-requires g c =
    let d = c.args.domain.now in
    let z = d.table.shared.table_id in
    let i = c.lock_word-word.result in
    let v = g.C.RwCalls.verb in
    let m = c.args.seat.now.me in
    let row = here v m.0 c.args.lock c.args.how Joins c.in-Joins.is c.requires.row in (
      c.requires.table,
      (let few = d.lawful.locks in omega (arith, c.lock_word-word.ensures, d.words, c.requires.lock)),
      asks d.table.shared.key d.plan z.slots c.args.seat.now.id m c.requires.number v c.args.lock i
          (step z.slots i 512 0 none) d.key c.requires.lock c.lock_word-word.ensures refl (joins_by v) row
          (λ pc h. join_row v pc h) (λ pc h z. absurd (join_last v pc h z))
          (λ n. (n + 512) % 2 ^ 64) (λ pc h mode fr y packs known. joins mode v pc fr y h packs),
    )

pub fetch_sub-requires : goal.fetch_sub-requires
fetch_sub-requires g c =
    let d = c.args.domain.now in
    let z = d.table.shared.table_id in
    let i = c.lock_word-word.result in
    let v = g.C.RwCalls.verb in
    let m = c.args.seat.now.me in
    let row = here v m.0 c.args.lock c.args.how Quits c.in-Quits.is c.requires.row in (
      c.requires.table,
      (let few = d.lawful.locks in omega (arith, c.lock_word-word.ensures, d.words, c.requires.lock)),
      asks d.table.shared.key d.plan z.slots c.args.seat.now.id m c.requires.number v c.args.lock i
          (step z.slots i 512 0 none) d.key c.requires.lock c.lock_word-word.ensures refl (quits_by v) row
          (λ pc h. quit_row v pc h) (λ pc h z. reader_shut c.args.lock m.0 pc
          (λ e. c.requires.value (subst (λ (x : RwUse). frees_by_use x v ≡ true) (sym c.in-Quits.is) (quit_frees v pc h e))) (quit_reads v pc h) z)
          (λ n. (n + (2 ^ 64 - 512)) % 2 ^ 64) (λ pc h mode fr y packs known. quits mode v pc fr y h packs known),
    )

pub compare_exchange-requires : goal.compare_exchange-requires
compare_exchange-requires g c =
    let d = c.args.domain.now in
    let z = d.table.shared.table_id in
    let i = c.lock_word-word.result in
    let v = g.C.RwCalls.verb in
    let m = c.args.seat.now.me in
    let row = here v m.0 c.args.lock c.args.how Seizes c.in-Seizes.is c.requires.row in (
      c.requires.table,
      (let few = d.lawful.locks in omega (arith, c.lock_word-word.ensures, d.words, c.requires.lock)),
      asks d.table.shared.key d.plan z.slots c.args.seat.now.id m c.requires.number v c.args.lock i
          (step z.slots i 0 255 none) d.key c.requires.lock c.lock_word-word.ensures refl (seizes_by v) row
          (λ pc h. seize_row v pc h) (λ pc h z. absurd (seize_last v pc h z))
          (λ n. either (eqb n 0) 255 n) (λ pc h mode fr y packs known. seizes mode v pc fr y h),
    )

pub fetch_or-requires : goal.fetch_or-requires
fetch_or-requires g c =
    let d = c.args.domain.now in
    let z = d.table.shared.table_id in
    let i = c.lock_word-word.result in
    let v = g.C.RwCalls.verb in
    let m = c.args.seat.now.me in
    let row = here v m.0 c.args.lock c.args.how Awaits c.in-Awaits.is c.requires.row in (
      c.requires.table,
      (let few = d.lawful.locks in omega (arith, c.lock_word-word.ensures, d.words, c.requires.lock)),
      asks d.table.shared.key d.plan z.slots c.args.seat.now.id m c.requires.number v c.args.lock i
          (step z.slots i 256 0 none) d.key c.requires.lock c.lock_word-word.ensures refl (awaits_by v) row
          (λ pc h. await_row v pc h) (λ pc h z. absurd (await_last v pc h z))
          (λ n. bit_or n 256) (λ pc h mode fr y packs known. awaits mode v pc fr y h),
    )

pub compare_exchange-requires-in-Follows : goal.compare_exchange-requires-in-Follows
compare_exchange-requires-in-Follows g c =
    let d = c.args.domain.now in
    let z = d.table.shared.table_id in
    let i = c.lock_word-word.result in
    let v = g.C.RwCalls.verb in
    let m = c.args.seat.now.me in
    let row = here v m.0 c.args.lock c.args.how Follows c.in-Follows.is c.requires.row in (
      c.requires.table,
      (let few = d.lawful.locks in omega (arith, c.lock_word-word.ensures, d.words, c.requires.lock)),
      asks d.table.shared.key d.plan z.slots c.args.seat.now.id m c.requires.number v c.args.lock i
          (step z.slots i 256 255 none) d.key c.requires.lock c.lock_word-word.ensures refl (follows_by v) row
          (λ pc h. follow_row v pc h) (λ pc h z. absurd (follow_last v pc h z))
          (λ n. either (eqb n 256) 255 n) (λ pc h mode fr y packs known. follows mode v pc fr y h),
    )

pub fetch_sub-requires-in-Leaves : goal.fetch_sub-requires-in-Leaves
fetch_sub-requires-in-Leaves g c =
    let d = c.args.domain.now in
    let z = d.table.shared.table_id in
    let i = c.lock_word-word.result in
    let v = g.C.RwCalls.verb in
    let m = c.args.seat.now.me in
    let row = here v m.0 c.args.lock c.args.how Leaves c.in-Leaves.is c.requires.row in (
      c.requires.table,
      (let few = d.lawful.locks in omega (arith, c.lock_word-word.ensures, d.words, c.requires.lock)),
      asks d.table.shared.key d.plan z.slots c.args.seat.now.id m c.requires.number v c.args.lock i
          (step z.slots i 255 0 none) d.key c.requires.lock c.lock_word-word.ensures refl (leaves_by v) row
          (λ pc h. leave_row v pc h) (λ pc h z. writer_shut c.args.lock m.0 pc (record {
            journal = c.requires.home c.in-Leaves.is;
            value = λ plain. c.requires.value (ap (λ (x : RwUse). frees_by_use x v) c.in-Leaves.is);
          }) (leave_writes v pc h) z)
          (λ n. (n + (2 ^ 64 - 255)) % 2 ^ 64) (λ pc h mode fr y packs known. leaves mode v pc fr y h packs known),
    )
