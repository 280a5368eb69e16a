use Rattle.std.proofs.Common.{◌≡◌, ◌<◌, length, List, ap, sym, ◌∙◌, subst, arith}
use Rattle.lk_domain.proofs.Names.{view_of, all_past, Who, Cpu, View}
use Rattle.lk_domain.proofs.Seating.{table_of, seat_in}
use Rattle.lk_domain.proofs.journals.Heirs.{first_heir, next_heir, popped, last_popped, popped_is}
use Rattle.lk_domain.specs.{Ends.{HasFrom, Rests}, Seats.ledger_of}
use Rattle.lk_domain.proofs.ending.join_all.Goals as goal

pub loop-cpus-init : goal.loop-cpus-init
loop-cpus-init c =
    let d = c.args.domain.now in
    let all : List Cpu = c.args.cpus.items in
    let new = c.pop-seat.new.self in
    let u = c.pop-seat.result in
    let t = last_popped all new.items u c.pop-seat.ensures.items in
    let few : length new.items < length all = (let b = t.long in omega arith) in
    let r = popped_is (Rests d) all all new.items u c.requires.rest t few in
    record {
      rest = t.front;
      few = few;
      seat = seat_in u d r.domain_is;
      home = r.home;
      holds = r.holds;
      has = first_heir view_of d.plan all (length new.items) u (λ i x lt. (c.requires.rest i x lt).who) t.long t.item;
    }

pub join-requires : goal.join-requires
join-requires c =
    let d = c.args.domain.now in
    let all : List Cpu = c.args.cpus.items in
    let new = c.pop-seat-in-loop-cpus.new.self in
    let u = c.pop-seat-in-loop-cpus.result in
    let inv = c.loop-cpus.invariant in
    let t = popped all c.loop-cpus.cpus.items new.items u inv.rest c.pop-seat-in-loop-cpus.ensures.items in
    let few : length new.items < length all = (let a = inv.few in let b = t.long in omega arith) in
    let r = popped_is (Rests d) all c.loop-cpus.cpus.items new.items u c.requires.rest t few in
    record {
      table = table_of d;
      seat = inv.seat;
      other = seat_in u d r.domain_is;
      rests = record { frames = r.frames; holds = r.holds; home = r.home };
      none = ap (λ (w : Who). w.outs) r.who;
    }

pub loop-cpus-preserved : goal.loop-cpus-preserved
loop-cpus-preserved c =
    let d = c.args.domain.now in
    let all : List Cpu = c.args.cpus.items in
    let new = c.pop-seat-in-loop-cpus.new.self in
    let u = c.pop-seat-in-loop-cpus.result in
    let inv = c.loop-cpus.invariant in
    let t = popped all c.loop-cpus.cpus.items new.items u inv.rest c.pop-seat-in-loop-cpus.ensures.items in
    let few : length new.items < length all = (let a = inv.few in let b = t.long in omega arith) in
    record {
      rest = t.front;
      few = few;
      seat = c.join.ensures.seat;
      home = ap (λ (v : View). v.ledger.out) c.join.ensures.view ∙ inv.home;
      holds = ap (λ (v : View). v.calls.holds) c.join.ensures.view ∙ inv.holds;
      has = next_heir view_of d.plan all (length new.items) (ledger_of u).share c.loop-cpus.last.me.0 u c.join.new.seat.me.0
          (λ i x lt. (c.requires.rest i x lt).who) few t.item
          (subst (λ n. HasFrom n all (all_past c.loop-cpus.last.me.0)) (sym t.long) inv.has) c.join.ensures.view;
    }

pub returns-clause-all : goal.returns-clause-all
returns-clause-all c =
    let n = length c.loop-cpus.cpus.items in
    subst (λ n. HasFrom n c.args.cpus.items (all_past c.loop-cpus.last.me.0))
    (let z : n ≡ 0 = (let a = c.loop-cpus-test.false in let b = c.len.ensures in omega arith) in z) c.loop-cpus.invariant.has
