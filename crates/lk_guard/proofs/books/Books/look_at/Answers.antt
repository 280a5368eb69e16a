use Rattle.std.proofs.Common.{◌≡◌, ◌+◌, [], ◌∷◌, List, ℕ, refl, ap, ◌∙◌, arith}
use Rattle.lk_names.specs.declared.ledger.Job.TheVariants.{Get}
use Rattle.lk_names.specs.declared.ledger.Reply.TheVariants.{Amount}
use Rattle.lk_domain.specs.Ledgers.{Ledger, loaded}
use Rattle.lk_domain.specs.Plans.{accounts_of}
use Rattle.lk_guard.specs.Reads.{Answers}
use Rattle.lk_guard.proofs.Looks.{has_looked, both_keep, numbered_as}
use Rattle.lk_guard.proofs.books.Books.look_at.Goals as goal

pub returns-clause-looked : goal.returns-clause-looked
returns-clause-looked c =
    let plan = c.args.self.now.plan.now in
    let a = c.args.seat.now in
    let b = c.load-balance.new.seat in
    let g = a.me.0.ledger in
    let v = c.version-count.result in
    let x = c.load-balance.result in
    let account = c.args.account in
    let loads : List (ℕ × ℕ) = (account, x) ∷ [] in
    let keeps = both_keep a c.version-count.new.seat b c.version-count.ensures.rest c.load-balance.ensures.rest in
    let is = c.load-balance.ensures.loaded.ledger ∙ ap (λ (l : Ledger). loaded l account x) c.version-count.ensures.seen.ledger in
    let e : x ≡ x + 0 = omega arith in
    let answers : Answers (accounts_of plan) (Get account) (Amount x) loads = record { are = refl; right = ap Amount e } in
    has_looked plan c.args.self.now.stand.lawful b.me.0 c.load-balance.ensures.seat.plan_is c.load-balance.ensures.loaded.one _ (numbered_as a b c.requires.seat.number keeps) g v (Get account) (Amount x) loads is c.requires.look answers refl
    c.version-count.ensures.seen.rises
