use Rattle.std.proofs.Common.{map, sym, ap, ◌∙◌, subst}
use Rattle.lk_names.specs.Journal.{balances_after}
use Rattle.lk_names.specs.ListOf.{ListOf}
use Rattle.lk_domain.specs.Ends.{IsFinal}
use Rattle.lk_domain.specs.Seats.{ledger_of}
use Rattle.lk_pvdomain.specs.PvSeats.{AllRest}
use Rattle.lk_domain.specs.declared.cpu.Cpu.{Cpu}
use Rattle.lk_pvdomain.specs.declared.domain.PvDomain.{PvDomain}
use Rattle.lk_workers.proofs.PvStarts.{rest}
use Rattle.lk_workers.proofs.host.PvRegionHost.end.Goals as goal

pub pv_close-requires-clause-rest : goal.pv_close-requires-clause-rest
pv_close-requires-clause-rest c =
    subst (λ (d : PvDomain). AllRest d c.args.cpus.items) (sym c.into_domain.ensures) (rest c.args.self.domain c.args.cpus.items c.requires.rest)

pub returns : goal.returns
returns c =
    let same = c.into_domain.ensures in
    let journal = c.in-Ok.closed.journal.items in
    let end = c.in-Ok.ensures in
    record {
      final = subst (λ (d : PvDomain). IsFinal d.domain.plan c.args.cpus.items journal) same end.ends;
      balances = end.balances ∙ ap (λ (d : PvDomain). balances_after d.domain.plan.balances.items journal) same;
      looks = ap (λ (cpus : ListOf Cpu). map (λ (cpu : Cpu). (ledger_of cpu).looks) cpus.items) end.cpus;
      of = c.requires.mode;
    }
