use Rattle.std.proofs.Common.{refl, arith, sym, ap, ◌∙◌, ◌+◌, ◌%◌, ℕ}
use Rattle.lk_domain.proofs.Names.{step, none, layout_in, arrives_by}
use Rattle.lk_word.specs.SpinWord.{packed}
use Rattle.lk_domain.proofs.queue.LockSwaps.{asks_swap}
use Rattle.lk_domain.proofs.queue.Pending.{arrives, arrive_on, arrive_frees}
use Rattle.lk_domain.proofs.{turns.Courses.arrive_kind, words.Locks.word_below}
use Rattle.lk_domain.proofs.words.Onward.{arrive_later}
use Rattle.lk_domain.proofs.locks.moves.exchange_tail.Goals as goal

pub compare_exchange-requires : goal.compare_exchange-requires
compare_exchange-requires c =
    let t = c.args.table.now in
    let plan = c.args.plan.now in
    let z = t.shared.table_id in
    let k = c.requires.table in
    let i = c.word_of-word.result in
    let old = c.args.arrival.expected in
    let tail = c.tail_of-tail.result in
    let unit = c.tail_unit.result in
    let v = c.requires.row.0 in
    let at = c.requires.row.1 in
    let acts = at.acts.acts in (
      c.requires.seat,
      (let few = k.lawful.locks in let below = word_below plan c.args.lock c.requires.lock in omega (arith, c.word_of-word.ensures, k.words, below)),
      asks_swap t.shared.key plan z.slots c.args.seat.now.id c.args.seat.now.me c.requires.number v c.args.lock i
          (step z.slots i old (old % unit + tail) none) k.key_is c.requires.lock c.word_of-word.ensures (arrives_by v) acts
          (λ pc h fr. arrive_on pc fr (arrive_kind v pc h).0)
          (λ may. absurd (arrive_frees may.0 may.1 may.2 acts.row (arrive_kind v acts.row acts.is).0 may.3))
          (arrive_later v acts.row acts.is) old (old % unit + tail) refl
          (λ mode y packs known is. ap (λ (n : ℕ). n % unit + tail) (sym is)
          ∙ ((λ j. packed (layout_in plan) y % c.tail_unit.ensures j + c.tail_of-tail.ensures j)
          ∙ arrives (layout_in plan) mode acts.row acts.stands.frame y c.args.arrival.own (arrive_kind v acts.row acts.is).0 at.me)),
    )
