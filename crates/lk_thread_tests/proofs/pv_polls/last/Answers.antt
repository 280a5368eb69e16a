use Rattle.std.proofs.Common.{ℕ, List, [], ◌∷◌, ap, ◌∙◌, subst, arith}
use Rattle.std.proofs.lemmas.List.{get_or_append_left}
use Rattle.std.specs.Prelude.{slice_index_or}
use Rattle.lk_domain.specs.declared.cpu.Cpu.{Cpu}
use Rattle.lk_thread_tests.specs.Halting.{IsReady}
use Rattle.lk_thread_tests.proofs.TakenOff.{one_less}
use Rattle.lk_thread_tests.proofs.pv_polls.last.Goals as goal

pub returns-clause-ready : goal.returns-clause-ready
returns-clause-ready c i d h =
    let all = c.args.cpus.now.items in
    let xs = c.pop.new.self.items in
    let x = c.pop.result in
    let is = c.pop.ensures.items in
    let n = one_less all xs x is in
    subst (IsReady c.args.domain.now)
    (ap (λ (ys : List Cpu). slice_index_or ys i d) is ∙ get_or_append_left xs (x ∷ []) d i h)
    (c.requires.ready i d (omega (arith, n, h)))
