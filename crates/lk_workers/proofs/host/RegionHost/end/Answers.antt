use Rattle.std.proofs.Common.{◌≡◌, true, false, map, sym, ap, ◌∙◌, subst}
use Rattle.lk_names.specs.Journal.{balances_after}
use Rattle.lk_names.specs.ListOf.{ListOf}
use Rattle.lk_domain.specs.Ends.{AllRest, IsFinal}
use Rattle.lk_domain.specs.Plans.{kind_at}
use Rattle.lk_domain.specs.Seats.{ledger_of}
use Rattle.lk_domain.specs.declared.cpu.Cpu.{Cpu}
use Rattle.lk_domain.specs.declared.domain.Domain.{Domain}
use Rattle.lk_law.specs.Agree.{halts}
use Rattle.lk_workers.proofs.Starts.{rest}
use Rattle.lk_workers.proofs.host.RegionHost.end.Goals as goal

pub close-requires-clause-rest : goal.close-requires-clause-rest
close-requires-clause-rest c =
    subst (λ (d : Domain). AllRest d c.args.cpus.items) (sym c.into_domain.ensures) (rest c.args.self.domain c.args.cpus.items c.requires.rest)

pub returns : goal.returns
returns c =
    let same = c.into_domain.ensures in
    let journal = c.in-Ok.closed.journal.items in
    let end = c.in-Ok.ensures in
    record {
      final = subst (λ (d : Domain). IsFinal d.plan c.args.cpus.items journal) same end.ends;
      balances = end.balances ∙ ap (λ (d : Domain). balances_after d.plan.balances.items journal) same;
      looks = ap (λ (cpus : ListOf Cpu). map (λ (cpu : Cpu). (ledger_of cpu).looks) cpus.items) end.cpus;
      of = (
        (λ pv. let no : true ≡ false = sym (ap halts pv) ∙ c.requires.mode in cc no),
        end.mode ∙ ap (λ (d : Domain). d.plan.mode) same,
        end.guard ∙ ap (λ (d : Domain). kind_at d.plan 0) same,
      );
    }
