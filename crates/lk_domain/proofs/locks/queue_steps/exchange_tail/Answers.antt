use Rattle.lk_domain.proofs.{Seating.{table_of, apart_of, noted_of}, queue.Swapped.{swapped, made}}
use Rattle.lk_domain.proofs.locks.queue_steps.exchange_tail.Goals as goal

pub returns-clause-step : goal.returns-clause-step
returns-clause-step c hit verb at =
    let cpu = c.args.cpu.now in
    let noted = noted_of cpu c.args.domain.now c.requires.domain in
    let apart = apart_of cpu c.args.domain.now c.requires.domain in
    record {
      by = made verb c.args.lock c.args.met c.exchange_tail.result cpu.seat.me c.exchange_tail.new.seat.me c.exchange_tail.ensures.step
          cpu.notes noted apart at.acts hit;
    }

pub invariant_of-cpu : goal.invariant_of-cpu
invariant_of-cpu c =
    let cpu = c.args.cpu.now in
    let noted = noted_of cpu c.args.domain.now c.requires.domain in
    let apart = apart_of cpu c.args.domain.now c.requires.domain in
    let t = swapped c.requires.row.0 c.args.lock c.args.met c.exchange_tail.result cpu.seat.me c.exchange_tail.new.seat.me c.exchange_tail.ensures.step
    cpu.notes noted apart c.requires.row.1.acts in
    record {
      numbered = t.numbered cpu.numbered;
      noted = λ _. t.noted;
      apart = λ _. t.apart;
      carried = t.carried cpu.carried;
    }

pub exchange_tail-requires-clause-table : goal.exchange_tail-requires-clause-table
exchange_tail-requires-clause-table c = table_of c.args.domain.now
