use Rattle.std.proofs.Common.{arith, refl, sym, ap, ◌∙◌, Some}
use Rattle.lk_domain.proofs.Names.{tail_number, node_of, layout_in, locks_of, Plan}
use Rattle.lk_domain.proofs.{Seating.{low_of, apart_of, noted_of}, queue.Pending.sole_met}
use Rattle.lk_domain.proofs.turns.Carried as row
use Rattle.lk_domain.proofs.turns.Stepped as stepped
use Rattle.lk_domain.proofs.locks.queue_steps.sole_claim.Goals as goal

pub step-requires : goal.step-requires
step-requires c =
    let cpu = c.args.cpu.now in
    let noted = noted_of cpu c.args.domain.now c.requires.domain in
    let apart = apart_of cpu c.args.domain.now c.requires.domain in
    let m = cpu.seat.me in
    let n = c.sole_claim-met.new.seat.me in
    let l = c.args.lock in
    let v = c.args.verb in
    let made = c.sole_claim-met.ensures.step c.args.verb c.requires.row in
    let near = c.requires.own in
    let acts = c.requires.row in
    let test = sole_met (layout_in m.0.who.plan) acts.acts.acts.stands.frame made.found c.args.own c.sole_claim-met.result c.tail_of-alone.result made.packs
    (let a = near.cpu in let b = near.index in let few = c.args.domain.now.lawful.cpus in (omega arith, omega arith)) (ap node_of acts.me) made.word
    (c.tail_of-alone.ensures ∙ ap (λ (k : Plan). tail_number (layout_in k) (Some c.args.own)) (sym c.requires.domain.plan)) in
    record {
      steps = (
        locks_of m.0.who.plan,
        m.0.calls,
        n.0.calls,
        noted,
        low_of cpu c.args.domain.now c.args.lock.index c.requires.domain c.requires.lock,
        stepped.noted_sole m.0.calls n.0.calls l.index v _ c.queues_up-goes_on.result c.queues_up-goes_on.ensures
            (stepped.soles v l c.sole_claim-met.result m n made apart noted.few acts.acts _ (sym test)).steps,
      );
    }

pub invariant_of-cpu : goal.invariant_of-cpu
invariant_of-cpu c =
    let cpu = c.args.cpu.now in
    let noted = noted_of cpu c.args.domain.now c.requires.domain in
    let apart = apart_of cpu c.args.domain.now c.requires.domain in
    let m = cpu.seat.me in
    let n = c.sole_claim-met.new.seat.me in
    let l = c.args.lock in
    let v = c.args.verb in
    let met = c.sole_claim-met.result in
    let made = c.sole_claim-met.ensures.step c.args.verb c.requires.row in
    let near = c.requires.own in
    let acts = c.requires.row in
    let test = sole_met (layout_in m.0.who.plan) acts.acts.acts.stands.frame made.found c.args.own met c.tail_of-alone.result made.packs
    (let a = near.cpu in let b = near.index in let few = c.args.domain.now.lawful.cpus in (omega arith, omega arith)) (ap node_of acts.me) made.word
    (c.tail_of-alone.ensures ∙ ap (λ (k : Plan). tail_number (layout_in k) (Some c.args.own)) (sym c.requires.domain.plan)) in
    let t = stepped.soles v l met m n made apart noted.few acts.acts _ (sym test) in
    record {
      numbered = row.numbered v l.index met m n made cpu.numbered;
      noted = λ _. row.noted v l.index met m n made
          (c.step.ensures (locks_of m.0.who.plan) m.0.calls n.0.calls noted (low_of cpu c.args.domain.now c.args.lock.index c.requires.domain c.requires.lock)
          (stepped.noted_sole m.0.calls n.0.calls l.index v _ c.queues_up-goes_on.result c.queues_up-goes_on.ensures t.steps));
      apart = λ _. t.apart;
      carried = row.carried v l.index met m n made cpu.carried;
    }

pub sole_claim-met-requires-clause-row : goal.sole_claim-met-requires-clause-row
sole_claim-met-requires-clause-row c = (c.args.verb, c.requires.row)

pub returns-clause-step : goal.returns-clause-step
returns-clause-step c = record { by = c.sole_claim-met.ensures.step c.args.verb c.requires.row }

pub returns-clause-rest : goal.returns-clause-rest
returns-clause-rest c =
    let same = c.sole_claim-met.ensures.same in
    let seat = (c.sole_claim-met.ensures.step c.args.verb c.requires.row).seat in
    record {
      same = record { table = same.0; id = same.1; number = refl; who = λ i. (seat i).0.who };
      slots = λ i. (seat i).1;
    }
