use Rattle.std.proofs.Common.{refl}
use Rattle.lk_lock.proofs.Names.{is_let, first_node, first_of}
use Rattle.lk_rows.specs.declared.setup.Verb.TheVariants.{Unlock}
use Rattle.lk_lock.proofs.HaltingSteps.{let_seated, may_free, pv_frees, rests}
use Rattle.lk_lock.proofs.holding.free_halting.Goals as goal

pub free-met-requires : goal.free-met-requires
free-met-requires g c =
    let d = c.args.domain.now in
    let old = c.args.cpu.now in
    record {
      may = (
        first_node old.number,
        may_free d old c.requires.ready c.requires.on c.args.id.index c.requires.holding.0 c.requires.lock.low c.requires.holding.1,
      );
    }

pub release-requires : goal.release-requires
release-requires g c =
    let d = c.args.domain.now in
    let old = c.args.cpu.now in
    record {
      other = c.if-met-ne-HELD.true;
      tried = (
        first_node old.number,
        first_of Unlock c.args.id.index old.seat,
        c.free-met.ensures.tried (first_node old.number) (rests d old c.requires.ready c.requires.on),
      );
    }

pub invariant_of-cpu : goal.invariant_of-cpu
invariant_of-cpu g c =
    let d = c.args.domain.now in
    let old = c.args.cpu.now in
    let was = c.requires.ready in
    let on = c.requires.on in
    let own = first_node old.number in
    let seat = c.release.new.seat in
    let s = let_seated d old was on seat (is_let old.seat seat
    (c.release.ensures.freed own (first_of Unlock c.args.id.index old.seat) (c.free-met.ensures.tried own (rests d old was on)))) in
    record {
      numbered = s.numbered;
      noted = λ off. absurd (s.awake off);
      apart = λ off. absurd (s.awake off);
      carried = s.carried;
    }

pub returns-then-met-ne-HELD : goal.returns-then-met-ne-HELD
returns-then-met-ne-HELD g c =
    let d = c.args.domain.now in
    let old = c.args.cpu.now in
    let own = first_node old.number in
    pv_frees d old c.requires.ready c.requires.on _ refl c.args.id.index
    (c.release.ensures.freed own (first_of Unlock c.args.id.index old.seat) (c.free-met.ensures.tried own (rests d old c.requires.ready c.requires.on)))

pub invariant_of-cpu-else-met-ne-HELD : goal.invariant_of-cpu-else-met-ne-HELD
invariant_of-cpu-else-met-ne-HELD g c =
    let d = c.args.domain.now in
    let old = c.args.cpu.now in
    let was = c.requires.ready in
    let on = c.requires.on in
    let own = first_node old.number in
    let seat = c.free-met.new.seat in
    let s = let_seated d old was on seat
    (is_let old.seat seat (c.free-met.ensures.freed c.if-met-ne-HELD.false own (rests d old was on))) in
    record {
      numbered = s.numbered;
      noted = λ off. absurd (s.awake off);
      apart = λ off. absurd (s.awake off);
      carried = s.carried;
    }

pub returns-else-met-ne-HELD : goal.returns-else-met-ne-HELD
returns-else-met-ne-HELD g c =
    let d = c.args.domain.now in
    let old = c.args.cpu.now in
    pv_frees d old c.requires.ready c.requires.on _ refl c.args.id.index
    (c.free-met.ensures.freed c.if-met-ne-HELD.false (first_node old.number) (rests d old c.requires.ready c.requires.on))
