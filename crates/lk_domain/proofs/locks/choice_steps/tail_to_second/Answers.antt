use Rattle.std.proofs.Common.{refl}
use Rattle.lk_domain.proofs.Names.{locks_of}
use Rattle.lk_domain.proofs.{Seating.{apart_of, noted_of}, turns.Noted.stays}
use Rattle.lk_domain.proofs.turns.Carried as row
use Rattle.lk_domain.proofs.turns.Stepped as stepped
use Rattle.lk_domain.proofs.locks.choice_steps.tail_to_second.Goals as goal

pub returns-clause-rest : goal.returns-clause-rest
returns-clause-rest c =
    let made = c.tail_to_second.ensures.step c.requires.row.0 c.requires.row.1 in
    record {
      same = record {
        table = c.tail_to_second.ensures.same.0;
        id = c.tail_to_second.ensures.same.1;
        number = refl;
        who = λ i. (made.seat i).0.who;
      };
      slots = λ i. (made.seat i).1;
    }

pub returns-clause-step : goal.returns-clause-step
returns-clause-step c verb at = record { by = c.tail_to_second.ensures.step verb at }

pub invariant_of-cpu : goal.invariant_of-cpu
invariant_of-cpu c =
    let cpu = c.args.cpu.now in
    let noted = noted_of cpu c.args.domain.now c.requires.domain in
    let apart = apart_of cpu c.args.domain.now c.requires.domain in
    let l = c.args.lock in
    let v = c.requires.row.0 in
    let at = c.requires.row.1 in
    let m = cpu.seat.me in
    let n = c.tail_to_second.new.seat.me in
    let met = c.tail_to_second.result in
    let made = c.tail_to_second.ensures.step v at in
    let t = stepped.promotes v l met m n made apart noted.few at.acts in
    record {
      numbered = row.numbered v l.index met m n made cpu.numbered;
      noted = λ _. row.noted v l.index met m n made
          (stays cpu.notes (locks_of m.0.who.plan) m.0.calls n.0.calls l.index _ noted t.steps (t.on refl) t.was);
      apart = λ _. t.apart;
      carried = row.carried v l.index met m n made cpu.carried;
    }
