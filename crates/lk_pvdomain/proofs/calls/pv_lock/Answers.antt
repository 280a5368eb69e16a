use Rattle.std.proofs.Common.{ℕ, refl, subst}
use Rattle.lk_pvdomain.proofs.Names.{Lock, own_node, Took, first_node, first_of}
use Rattle.lk_pvdomain.proofs.ways.Frees.{is_let}
use Rattle.lk_pvdomain.proofs.ways.Kept.{rests_of, rests_as, kept_cpu, let_cpu, let_same, let_rests}
use Rattle.lk_pvdomain.proofs.ways.Rested.{since_first, since_take, kept_since}
use Rattle.lk_pvdomain.proofs.calls.pv_lock.Goals as goal

pub take-requires : goal.take-requires
take-requires g c =
    record {
      rests = (own_node c.args.cpu.now, rests_of c.args.domain.now c.args.cpu.now c.requires.domain c.requires.rests);
      lock = c.requires.lock;
      free = c.requires.free;
    }

pub invariant_of-cpu : goal.invariant_of-cpu
invariant_of-cpu g c =
    let d = c.args.domain.now in
    let cpu = c.args.cpu.now in
    let l = c.args.lock.index in
    let own = own_node cpu in
    let rests = rests_of d cpu c.requires.domain c.requires.rests in
    let since = since_take d.domain l own (first_of Lock l cpu.seat) c.take.new.seat c.take.result
    (λ e. c.take.ensures.took e own rests) (λ e. c.take.ensures.goes e own rests) in
    let k = kept_cpu d cpu c.requires.domain c.take.new.seat (kept_since (since_first l cpu.seat) since) in
    record {
      numbered = k.numbered;
      noted = λ e. absurd (k.awake e);
      apart = λ e. absurd (k.awake e);
      carried = k.carried;
    }

pub contend-requires : goal.contend-requires
contend-requires g c =
    let cpu = c.args.cpu.now in
    record {
      at = (
        first_of Lock c.args.lock.index cpu.seat,
        c.take.ensures.goes c.if-not-take.true (first_node c.number-number.result)
            (rests_as c.args.domain.now cpu c.requires.domain c.requires.rests c.number-number.result c.number-number.ensures),
      );
    }

pub invariant_of-cpu-then-not-take : goal.invariant_of-cpu-then-not-take
invariant_of-cpu-then-not-take g c =
    let d = c.args.domain.now in
    let cpu = c.args.cpu.now in
    let own = first_node c.number-number.result in
    let took = c.contend.ensures.took (first_of Lock c.args.lock.index cpu.seat)
    (c.take.ensures.goes c.if-not-take.true own
    (rests_as d cpu c.requires.domain c.requires.rests c.number-number.result c.number-number.ensures)) in
    let k = let_cpu d cpu c.requires.domain _ (is_let cpu.seat _ took) in
    record {
      numbered = k.numbered;
      noted = λ e. absurd (k.awake e);
      apart = λ e. absurd (k.awake e);
      carried = k.carried;
    }

pub returns-then-not-take : goal.returns-then-not-take
returns-then-not-take g c =
    let d = c.args.domain.now in
    let l = c.args.lock.index in
    let cpu = c.args.cpu.now in
    let s = first_of Lock l cpu.seat in
    let new = c.contend.new.seat in
    let n = c.number-number.result in
    let took : Took d.domain Lock l (own_node cpu) s new =
    subst (λ (n : ℕ). Took d.domain Lock l (first_node n) s new) c.number-number.ensures
    (c.contend.ensures.took s
    (c.take.ensures.goes c.if-not-take.true (first_node n) (rests_as d cpu c.requires.domain c.requires.rests n c.number-number.ensures))) in
    let t = is_let cpu.seat new took in
    record { same = let_same cpu _ t refl; taken = record { took = took; rests = let_rests t } }

pub returns-else-not-take : goal.returns-else-not-take
returns-else-not-take g c =
    let cpu = c.args.cpu.now in
    let took = c.take.ensures.took c.if-not-take.false (own_node cpu) (rests_of c.args.domain.now cpu c.requires.domain c.requires.rests) in
    let t = is_let cpu.seat _ took in
    record { same = let_same cpu _ t refl; taken = record { took = took; rests = let_rests t } }
