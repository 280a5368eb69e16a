use Rattle.std.proofs.Common.{arith, ap, ◌∙◌, ◌+◌, eqb, ℕ}
use Rattle.lk_domain.proofs.Names.{either, node_of, layout_in, promotes_by}
use Rattle.lk_word.specs.SpinWord.{packed}
use Rattle.lk_domain.proofs.queue.Pending.{promotes, promote_on, promote_frees}
use Rattle.lk_domain.proofs.{turns.Courses.promote_kind, words.Locks.word_below}
use Rattle.lk_domain.proofs.words.Onward.{asks_on, made_on, now_of, promote_later}
use Rattle.lk_domain.proofs.locks.moves.tail_to_second.Goals as goal

pub compare_exchange-met-requires : goal.compare_exchange-met-requires
compare_exchange-met-requires c =
    let d = c.args.domain.now in
    let z = d.table.shared.table_id in
    let i = c.word_of-word.result in
    let old : ℕ = c.tail_of-met_own.result + 1 in
    let new : ℕ = c.tail_of-new.result + 1 in
    let near = c.requires.own in
    let v = c.requires.row.0 in
    let at = c.requires.row.1 in
    let acts = at.acts.acts in (
      c.requires.table,
      (let few = d.lawful.locks in let below = word_below d.plan c.args.lock c.requires.lock in omega (arith, c.word_of-word.ensures, d.words, below)),
      asks_on d.table.shared.key d.plan z.slots c.args.seat.now.id c.args.seat.now.me c.requires.number v c.args.lock i
          d.key c.requires.lock c.word_of-word.ensures (promotes_by v) acts
          (λ pc h fr. promote_on pc fr (promote_kind v pc h).0)
          (λ may. absurd (promote_frees may.0 may.1 may.2 acts.row (promote_kind v acts.row acts.is).0 may.3))
          (now_of (promotes_by v) c.args.seat.now.me v c.args.lock acts (promote_later v acts.row acts.is)) (λ n. either (eqb n old) new n)
          (λ mode y packs known. (λ j. either (eqb (packed (layout_in d.plan) y) (c.tail_of-met_own.ensures j + 1)) (c.tail_of-new.ensures j + 1) (packed (layout_in d.plan) y))
          ∙ promotes (layout_in d.plan) mode acts.row acts.stands.frame y c.args.own c.args.tail (promote_kind v acts.row acts.is).0 packs
          (let a = near.cpu in let b = near.index in let few = d.lawful.cpus in (omega arith, omega arith)) (ap node_of at.me) at.t),
    )

pub returns-clause-step : goal.returns-clause-step
returns-clause-step c v at =
    let acts = at.acts.acts in
    made_on v c.args.lock c.compare_exchange-met.result c.args.seat.now.me c.compare_exchange-met.new.seat.me (now_of (promotes_by v) c.args.seat.now.me v c.args.lock acts (promote_later v acts.row acts.is)) c.compare_exchange-met.ensures.2
