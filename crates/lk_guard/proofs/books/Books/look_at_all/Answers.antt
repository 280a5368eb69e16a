use Rattle.std.proofs.Common.{ap, refl, ◌∙◌}
use Rattle.lk_names.specs.declared.ledger.Job.TheVariants.{Sum}
use Rattle.lk_names.specs.declared.ledger.Reply.TheVariants.{Amount}
use Rattle.lk_domain.specs.Ledgers.{Ledger}
use Rattle.lk_domain.specs.Plans.{accounts_of}
use Rattle.lk_guard.specs.Reads.{all_loaded, Answers}
use Rattle.lk_guard.proofs.Looks.{has_looked, both_keep, numbered_as}
use Rattle.lk_guard.proofs.books.Books.look_at_all.Goals as goal

pub returns-clause-looked : goal.returns-clause-looked
returns-clause-looked c =
    let plan = c.args.self.now.plan.now in
    let a = c.args.seat.now in
    let b = c.load_all-sum.new.seat in
    let g = a.me.0.ledger in
    let v = c.version-count.result in
    let s = c.load_all-sum.ensures.summed in
    let keeps = both_keep a c.version-count.new.seat b c.version-count.ensures.rest c.load_all-sum.ensures.rest in
    let is = s.ledger ∙ ap (λ (l : Ledger). all_loaded l s.loads) c.version-count.ensures.seen.ledger in
    let answers : Answers (accounts_of plan) Sum (Amount c.load_all-sum.result) s.loads = record { are = s.are; right = ap Amount s.sum_is } in
    has_looked plan c.args.self.now.stand.lawful b.me.0 c.load_all-sum.ensures.seat.plan_is c.load_all-sum.ensures.one _ (numbered_as a b c.requires.seat.number keeps) g v Sum (Amount c.load_all-sum.result) s.loads is c.requires.look answers refl
    c.version-count.ensures.seen.rises
