use Rattle.std.proofs.Common.{refl, ap, ◌∙◌}
use Rattle.lk_domain.proofs.Names.{Who}
use Rattle.lk_domain.proofs.Seating.{table_of, seat_inside}
use Rattle.lk_domain.proofs.journals.Told as told
use Rattle.lk_domain.proofs.ledger.pages.version.Goals as goal

pub version-requires-clause-table : goal.version-requires-clause-table
version-requires-clause-table g c = table_of c.domain-domain.result.now

pub version-requires-clause-seat : goal.version-requires-clause-seat
version-requires-clause-seat g c =
    seat_inside c.args.cpu.now c.domain-domain.result.now (g.D.HasDomain.inside c.args.domain.now) c.domain-domain.ensures c.requires.domain

pub invariant_of-cpu : goal.invariant_of-cpu
invariant_of-cpu g c =
    let cpu = c.args.cpu.now in
    let old = cpu.seat.me.0.calls in
    let new = c.version.new.seat.me.0.calls in
    let kept = c.version.ensures.rest in
    record {
      numbered = ap (λ (w : Who). w.number) kept.who ∙ cpu.numbered;
      noted = told.noted old new kept.calls cpu.seat.me.0.who c.version.new.seat.me.0.who kept.who cpu.noted;
      apart = told.apart old new kept.calls cpu.seat.me.0.who c.version.new.seat.me.0.who kept.who cpu.apart;
      carried = c.version.ensures.seat.carried;
    }

pub returns-clause-rest : goal.returns-clause-rest
returns-clause-rest g c =
    let kept = c.version.ensures.rest in
    record { same = record { table = kept.table; id = kept.id; number = refl; who = kept.who }; calls = kept.calls }
