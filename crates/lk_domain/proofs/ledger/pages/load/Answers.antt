use Rattle.std.proofs.Common.{refl, ap, ◌∙◌}
use Rattle.lk_domain.proofs.Names.{Who}
use Rattle.lk_domain.proofs.Seating.{table_of, seat_inside}
use Rattle.lk_domain.proofs.journals.Told as told
use Rattle.lk_domain.proofs.ledger.pages.load.Goals as goal

pub load-requires-clause-table : goal.load-requires-clause-table
load-requires-clause-table g c = table_of c.domain-domain.result.now

pub load-requires-clause-seat : goal.load-requires-clause-seat
load-requires-clause-seat g c =
    seat_inside c.args.cpu.now c.domain-domain.result.now (g.D.HasDomain.inside c.args.domain.now) c.domain-domain.ensures c.requires.domain

pub invariant_of-cpu : goal.invariant_of-cpu
invariant_of-cpu g c =
    let cpu = c.args.cpu.now in
    let old = cpu.seat.me.0.calls in
    let new = c.load.new.seat.me.0.calls in
    let kept = c.load.ensures.rest in
    record {
      numbered = ap (λ (w : Who). w.number) kept.who ∙ cpu.numbered;
      noted = told.noted old new kept.calls cpu.seat.me.0.who c.load.new.seat.me.0.who kept.who cpu.noted;
      apart = told.apart old new kept.calls cpu.seat.me.0.who c.load.new.seat.me.0.who kept.who cpu.apart;
      carried = c.load.ensures.seat.carried;
    }

pub returns-clause-rest : goal.returns-clause-rest
returns-clause-rest g c =
    let kept = c.load.ensures.rest in
    record { same = record { table = kept.table; id = kept.id; number = refl; who = kept.who }; calls = kept.calls }
