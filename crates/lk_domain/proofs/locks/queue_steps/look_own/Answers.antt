use Rattle.std.proofs.Common.{inl, subst, ◌∙◌}
use Rattle.lk_domain.proofs.Names.{Linked, locks_of, view_of, Part}
use Rattle.lk_domain.proofs.{Seating.{table_of, apart_of, noted_of}, turns.Noted.stays}
use Rattle.lk_domain.specs.NodePlays.{LooksAt}
use Rattle.lk_domain.proofs.turns.Carried as row
use Rattle.lk_domain.proofs.turns.Stepped as stepped
use Rattle.lk_domain.proofs.locks.queue_steps.look_own.Goals as goal

pub invariant_of-cpu-in-Next : goal.invariant_of-cpu-in-Next
invariant_of-cpu-in-Next c =
    let cpu = c.args.cpu.now in
    let noted = noted_of cpu c.args.domain.now c.requires.domain in
    let apart = apart_of cpu c.args.domain.now c.requires.domain in
    let m = cpu.seat.me in
    let n = c.look_next.new.seat.me in
    let seen = c.look_next.ensures.step in
    let at = subst (λ (q : Part). LooksAt q c.args.own c.args.verb (view_of cpu)) c.in-Next.is c.requires.row in
    let t = stepped.behind c.args.verb at.lock m n apart noted.few at.row at.is seen.found seen.mark at.at seen.seat in
    record {
      numbered = row.node_numbered (Linked seen.found seen.mark) m n seen.seat cpu.numbered;
      noted = λ _. row.node_noted (Linked seen.found seen.mark) m n seen.seat
          (stays cpu.notes (locks_of m.0.who.plan) m.0.calls n.0.calls at.lock.index _ noted t.steps (t.on (stepped.behind_later at.row at.is))
          (t.was ∙ stepped.behind_slow at.row at.is));
      apart = λ _. t.apart;
      carried = row.node_carried (Linked seen.found seen.mark) m n seen.seat cpu.carried;
    }

pub look_flag-requires-clause-table : goal.look_flag-requires-clause-table
look_flag-requires-clause-table c = table_of c.args.domain.now

pub look_flag-requires-clause-row : goal.look_flag-requires-clause-row
look_flag-requires-clause-row c = (c.args.verb, inl (subst (λ (q : Part). LooksAt q c.args.own c.args.verb (view_of c.args.cpu.now)) c.in-Flag.is c.requires.row))

pub look_next-requires-clause-table : goal.look_next-requires-clause-table
look_next-requires-clause-table c = table_of c.args.domain.now

pub look_next-requires-clause-row : goal.look_next-requires-clause-row
look_next-requires-clause-row c = (c.args.verb, inl (subst (λ (q : Part). LooksAt q c.args.own c.args.verb (view_of c.args.cpu.now)) c.in-Next.is c.requires.row))
