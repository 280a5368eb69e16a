use Rattle.std.proofs.Common.{ℕ, refl, subst}
use Rattle.lk_pvdomain.proofs.Names.{Try, Unchanged, Ended, Took, first_node, first_of}
use Rattle.lk_pvdomain.proofs.ways.Frees.{is_tried}
use Rattle.lk_pvdomain.proofs.ways.Kept.{rests_as, let_cpu, let_same, let_rests}
use Rattle.lk_pvdomain.proofs.calls.pv_try_lock.Goals as goal

pub try_lock-requires : goal.try_lock-requires
try_lock-requires c =
    record {
      rests = rests_as c.args.domain.now c.args.cpu.now c.requires.domain c.requires.rests c.number-number.result c.number-number.ensures;
      lock = c.requires.lock;
      free = c.requires.free;
    }

pub invariant_of-cpu : goal.invariant_of-cpu
invariant_of-cpu c =
    let d = c.args.domain.now in
    let cpu = c.args.cpu.now in
    let k = let_cpu d cpu c.requires.domain _ (is_tried cpu.seat _ c.try_lock.result c.try_lock.ensures.took c.try_lock.ensures.missed) in
    record {
      numbered = k.numbered;
      noted = λ e. absurd (k.awake e);
      apart = λ e. absurd (k.awake e);
      carried = k.carried;
    }

pub returns : goal.returns
returns c =
    let d = c.args.domain.now.domain in
    let l = c.args.lock.index in
    let cpu = c.args.cpu.now in
    let new = c.try_lock.new.seat in
    let s = first_of Try l cpu.seat in
    let t = is_tried cpu.seat new c.try_lock.result c.try_lock.ensures.took c.try_lock.ensures.missed in
    record {
      same = let_same cpu _ t refl;
      taken = λ e. record { took = subst (λ (n : ℕ). Took d Try l (first_node n) s new) c.number-number.ensures (c.try_lock.ensures.took e); rests = let_rests t };
      missed = λ e. record { missed = subst (λ (n : ℕ). Ended d Try l (first_node n) s Unchanged new) c.number-number.ensures (c.try_lock.ensures.missed e); rests = let_rests t };
    }
