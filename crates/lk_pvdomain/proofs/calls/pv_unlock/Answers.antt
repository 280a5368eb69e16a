use Rattle.std.proofs.Common.{refl}
use Rattle.lk_pvdomain.proofs.Names.{Unlock, own_node, first_of}
use Rattle.lk_pvdomain.proofs.ways.Frees.{is_let, freed_none, freed_others}
use Rattle.lk_pvdomain.proofs.ways.Kept.{rests_of, let_cpu, let_same, let_rests}
use Rattle.lk_pvdomain.proofs.calls.pv_unlock.Goals as goal

pub free-met-requires : goal.free-met-requires
free-met-requires g c =
    record {
      may = (
        own_node c.args.cpu.now,
        record {
          rests = rests_of c.args.domain.now c.args.cpu.now c.requires.domain c.requires.rests;
          low = c.requires.lock;
          held = c.requires.held;
          home = c.requires.home;
          value = c.requires.value;
        },
      );
    }

pub release-requires-clause-tried : goal.release-requires-clause-tried
release-requires-clause-tried g c =
    let cpu = c.args.cpu.now in (
      own_node cpu,
      first_of Unlock c.args.lock.index cpu.seat,
      c.free-met.ensures.tried (own_node cpu) (rests_of c.args.domain.now cpu c.requires.domain c.requires.rests),
    )

pub invariant_of-cpu : goal.invariant_of-cpu
invariant_of-cpu g c =
    let d = c.args.domain.now in
    let cpu = c.args.cpu.now in
    let l = c.args.lock.index in
    let own = own_node cpu in
    let e = c.release.ensures.freed own (first_of Unlock l cpu.seat)
    (c.free-met.ensures.tried own (rests_of d cpu c.requires.domain c.requires.rests)) in
    let k = let_cpu d cpu c.requires.domain _ (is_let cpu.seat _ e) in
    record {
      numbered = k.numbered;
      noted = λ e. absurd (k.awake e);
      apart = λ e. absurd (k.awake e);
      carried = k.carried;
    }

pub invariant_of-cpu-else-met-ne-HELD : goal.invariant_of-cpu-else-met-ne-HELD
invariant_of-cpu-else-met-ne-HELD g c =
    let d = c.args.domain.now in
    let cpu = c.args.cpu.now in
    let own = own_node cpu in
    let e = c.free-met.ensures.freed c.if-met-ne-HELD.false own (rests_of d cpu c.requires.domain c.requires.rests) in
    let k = let_cpu d cpu c.requires.domain _ (is_let cpu.seat _ e) in
    record {
      numbered = k.numbered;
      noted = λ e. absurd (k.awake e);
      apart = λ e. absurd (k.awake e);
      carried = k.carried;
    }

pub returns-then-met-ne-HELD : goal.returns-then-met-ne-HELD
returns-then-met-ne-HELD g c =
    let d = c.args.domain.now.domain in
    let cpu = c.args.cpu.now in
    let l = c.args.lock.index in
    let own = own_node cpu in
    let e = c.release.ensures.freed own (first_of Unlock l cpu.seat)
    (c.free-met.ensures.tried own (rests_of c.args.domain.now cpu c.requires.domain c.requires.rests)) in
    let t = is_let cpu.seat _ e in
    record {
      same = let_same cpu _ t refl;
      freed = record { ended = e; none = freed_none d l own cpu.seat _ e; rests = let_rests t };
      others = freed_others d l own cpu.seat _ e;
    }

pub returns-else-met-ne-HELD : goal.returns-else-met-ne-HELD
returns-else-met-ne-HELD g c =
    let d = c.args.domain.now.domain in
    let cpu = c.args.cpu.now in
    let l = c.args.lock.index in
    let own = own_node cpu in
    let e = c.free-met.ensures.freed c.if-met-ne-HELD.false own (rests_of c.args.domain.now cpu c.requires.domain c.requires.rests) in
    let t = is_let cpu.seat _ e in
    record {
      same = let_same cpu _ t refl;
      freed = record { ended = e; none = freed_none d l own cpu.seat _ e; rests = let_rests t };
      others = freed_others d l own cpu.seat _ e;
    }
