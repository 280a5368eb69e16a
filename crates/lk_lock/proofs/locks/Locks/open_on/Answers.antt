use Rattle.std.proofs.Common.{◌≡◌, rules, ℕ, List, Option, Some, length, sym, ap, ◌∙◌, subst}
use Rattle.lk_lock.proofs.Names.{ListOf, Key, keys_of}
use Rattle.lk_domain.proofs.seats.Dealt.{keys_laid}
use Rattle.lk_domain.specs.{Values.AreShut, Views.no_plan}
use Rattle.lk_lock.proofs.{Laid.laid_shut, Mades.{made, same_kinds, shared_made}}
use Rattle.lk_lock.proofs.locks.Locks.open_on.Goals as goal

-- what lies in the homes is said of a plan's cells alone
pub open-requires-clause-laid : goal.open-requires-clause-laid
open-requires-clause-laid c =
    keys_laid (record no_plan { cells = Some c.of.result }) c.in_ok-keys.keys.items
    (ap (λ (keys : ListOf (Option Key)). keys.items) c.of.ensures)
    (subst (λ (keys : List (Option Key)). AreShut keys) (sym c.in_ok-keys.ensures)
    (laid_shut c.values-values.result c.args.self.keys.items c.args.self.shut))

pub returns-clause-made : goal.returns-clause-made
returns-clause-made c =
    let k = c.in_ok-domain.domain.plan in
    let kinds : k.locks.items ≡ c.args.self.kinds.items = search rules in
    let cells : keys_of k ≡ c.in_ok-keys.keys.items = search rules in
    made c.args.self k c.values-values.result (same_kinds c.args.self k kinds) (cells ∙ c.in_ok-keys.ensures) c.args.self.many
    c.values-values.ensures.own.0

pub returns-clause-shared : goal.returns-clause-shared
returns-clause-shared c =
    let k = c.in_ok-domain.domain.plan in
    let kinds : k.locks.items ≡ c.args.self.kinds.items = search rules in
    let cells : keys_of k ≡ c.in_ok-keys.keys.items = search rules in
    let cpus : k.topology.sockets.items ≡ c.args.topology.sockets.items = search rules in
    shared_made c.args.self k c.values-values.result (same_kinds c.args.self k kinds) (cells ∙ c.in_ok-keys.ensures) c.args.self.many
    c.values-values.ensures.copies (ap (λ (xs : List ℕ). length xs) cpus ∙ c.requires.threads)
