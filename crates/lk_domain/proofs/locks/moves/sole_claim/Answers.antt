use Rattle.std.proofs.Common.{arith, ap, ◌∙◌, eqb, ℕ}
use Rattle.lk_domain.proofs.Names.{either, node_of, layout_in, soles_by}
use Rattle.lk_word.specs.SpinWord.{packed}
use Rattle.lk_domain.proofs.queue.Pending.{sole_takes, sole_on, sole_frees}
use Rattle.lk_domain.proofs.{turns.Courses.sole_kind, words.Locks.word_below}
use Rattle.lk_domain.proofs.words.Onward.{asks_on, made_on, now_of, sole_later}
use Rattle.lk_domain.proofs.locks.moves.sole_claim.Goals as goal

pub compare_exchange-met-requires : goal.compare_exchange-met-requires
compare_exchange-met-requires c =
    let d = c.args.domain.now in
    let z = d.table.shared.table_id in
    let i = c.word_of-word.result in
    let tail = c.tail_of-tail.result in
    let own = c.args.own in
    let near = c.requires.own in
    let v = c.requires.row.0 in
    let at = c.requires.row.1 in
    let acts = at.acts.acts in (
      c.requires.table,
      (let few = d.lawful.locks in let below = word_below d.plan c.args.lock c.requires.lock in omega (arith, c.word_of-word.ensures, d.words, below)),
      asks_on d.table.shared.key d.plan z.slots c.args.seat.now.id c.args.seat.now.me c.requires.number v c.args.lock i
          d.key c.requires.lock c.word_of-word.ensures (soles_by v) acts
          (λ pc h fr. sole_on pc fr (sole_kind v pc h).0)
          (λ may. absurd (sole_frees may.0 may.1 may.2 acts.row (sole_kind v acts.row acts.is).0 may.3))
          (now_of (soles_by v) c.args.seat.now.me v c.args.lock acts (sole_later v acts.row acts.is)) (λ n. either (eqb n tail) 1 n)
          (λ mode y packs known. ap (λ (t : ℕ). either (eqb (packed (layout_in d.plan) y) t) 1 (packed (layout_in d.plan) y)) c.tail_of-tail.ensures
          ∙ sole_takes (layout_in d.plan) mode acts.row acts.stands.frame y own (sole_kind v acts.row acts.is).0 packs
          (let a = near.cpu in let b = near.index in let few = d.lawful.cpus in (omega arith, omega arith)) (ap node_of at.me)),
    )

pub returns-clause-step : goal.returns-clause-step
returns-clause-step c v at =
    let acts = at.acts.acts in
    made_on v c.args.lock c.compare_exchange-met.result c.args.seat.now.me c.compare_exchange-met.new.seat.me (now_of (soles_by v) c.args.seat.now.me v c.args.lock acts (sole_later v acts.row acts.is)) c.compare_exchange-met.ensures.2
