use Rattle.std.proofs.Common.{◌≡◌, List, [], ◌∷◌, ◌++◌, length, sym, ap, ◌∙◌, subst, arith, slice_index_or}
use Rattle.std.proofs.lemmas.List.{get_or_append_left, length-append}
use Rattle.lk_lock.specs.Standing.{Rests}
use Rattle.lk_domain.specs.declared.cpu.Cpu.{Cpu}
use Rattle.lk_lock_tests.proofs.processors.last.Goals as goal

pub returns-clause-rest : goal.returns-clause-rest
returns-clause-rest c i d h =
    let all : c.args.cpus.now.items ≡ c.pop.new.self.items ++ c.pop.result ∷ [] = c.pop.ensures.items in
    let long = sym (ap (λ (xs : List Cpu). length xs) all ∙ length-append c.pop.new.self.items (c.pop.result ∷ [])) in
    subst (Rests c.args.domain.now i)
    (ap (λ (xs : List Cpu). slice_index_or xs i d) all
    ∙ get_or_append_left c.pop.new.self.items (c.pop.result ∷ []) d i h)
    (c.requires.rest i d (omega (arith, long, h)))
