use Rattle.std.proofs.Common.{ℕ, refl, subst}
use Rattle.lk_lock.proofs.Names.{Lock, is_let, first_node, first_of}
use Rattle.lk_pvdomain.proofs.ways.Rested.{kept_since, since_first, since_take}
use Rattle.lk_pvdomain.specs.PvPaths.{Took}
use Rattle.lk_lock.proofs.HaltingSteps.{let_seated, named, pv_takes, rests, seated}
use Rattle.lk_lock.proofs.holding.take_halting.Goals as goal

pub take-requires : goal.take-requires
take-requires g c =
    let old = c.args.cpu.now in
    record {
      rests = (first_node old.number, rests c.args.domain.now old c.requires.ready c.requires.on);
      lock = c.requires.lock.low;
      free = c.requires.free;
    }

pub invariant_of-cpu : goal.invariant_of-cpu
invariant_of-cpu g c =
    let d = c.args.domain.now in
    let old = c.args.cpu.now in
    let l = c.args.id.index in
    let own = first_node old.number in
    let at = rests d old c.requires.ready c.requires.on in
    let since = since_take d l own (first_of Lock l old.seat) c.take.new.seat c.take.result
    (λ e. c.take.ensures.took e own at) (λ e. c.take.ensures.goes e own at) in
    let s = seated d old c.requires.ready c.requires.on c.take.new.seat (kept_since (since_first l old.seat) since) in
    record {
      numbered = s.numbered;
      noted = λ off. absurd (s.awake off);
      apart = λ off. absurd (s.awake off);
      carried = s.carried;
    }

pub contend-requires : goal.contend-requires
contend-requires g c =
    let old = c.args.cpu.now in
    let n = c.number-number.result in
    record {
      at = (
        first_of Lock c.args.id.index old.seat,
        c.take.ensures.goes c.if-not-take.true (first_node n) (named c.args.domain.now old c.requires.ready c.requires.on n c.number-number.ensures),
      );
    }

pub invariant_of-cpu-then-not-take : goal.invariant_of-cpu-then-not-take
invariant_of-cpu-then-not-take g c =
    let d = c.args.domain.now in
    let old = c.args.cpu.now in
    let l = c.args.id.index in
    let n = c.number-number.result in
    let took = c.contend.ensures.took (first_of Lock l old.seat)
    (c.take.ensures.goes c.if-not-take.true (first_node n) (named d old c.requires.ready c.requires.on n c.number-number.ensures)) in
    let s = let_seated d old c.requires.ready c.requires.on c.contend.new.seat (is_let old.seat c.contend.new.seat took) in
    record {
      numbered = s.numbered;
      noted = λ off. absurd (s.awake off);
      apart = λ off. absurd (s.awake off);
      carried = s.carried;
    }

pub returns-then-not-take : goal.returns-then-not-take
returns-then-not-take g c =
    let d = c.args.domain.now in
    let old = c.args.cpu.now in
    let l = c.args.id.index in
    let n = c.number-number.result in
    let s = first_of Lock l old.seat in
    pv_takes d old c.requires.ready c.requires.on _ refl l Lock (λ hs. refl) c.requires.free
    (subst (λ (m : ℕ). Took d Lock l (first_node m) s c.contend.new.seat) c.number-number.ensures
    (c.contend.ensures.took s
    (c.take.ensures.goes c.if-not-take.true (first_node n) (named d old c.requires.ready c.requires.on n c.number-number.ensures))))

pub returns-else-not-take : goal.returns-else-not-take
returns-else-not-take g c =
    let d = c.args.domain.now in
    let old = c.args.cpu.now in
    pv_takes d old c.requires.ready c.requires.on _ refl c.args.id.index Lock (λ hs. refl) c.requires.free
    (c.take.ensures.took c.if-not-take.false (first_node old.number) (rests d old c.requires.ready c.requires.on))
