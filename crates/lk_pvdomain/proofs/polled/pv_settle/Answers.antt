use Rattle.std.proofs.Common.{ℕ, refl, sym, subst, ◌∙◌}
use Rattle.lk_pvdomain.proofs.Names.{Any, G1, Lock, own_node, first_node, Start, Comes}
use Rattle.lk_pvdomain.proofs.ways.Kept.{kept_cpu}
use Rattle.lk_pvdomain.proofs.ways.Rested.{at_row, since_comes, asleep_comes, kept_since}
use Rattle.lk_pvdomain.proofs.ways.Rested.{same_since, waits_of, lock_of}
use Rattle.lk_pvdomain.specs.PvPaths.{At}
use Rattle.lk_pvdomain.proofs.polled.pv_settle.Goals as goal

pub contend-place-requires : goal.contend-place-requires
contend-place-requires c =
    let l = c.args.lock.index in (
      c.requires.at.0,
      subst (λ (n : ℕ). At c.args.domain.now.domain Lock l (first_node n) c.requires.at.0 G1 Any c.args.cpu.now.seat)
          (sym c.number-number.ensures) c.requires.at.1,
    )

pub invariant_of-cpu : goal.invariant_of-cpu
invariant_of-cpu c =
    let d = c.args.domain.now in
    let cpu = c.args.cpu.now in
    let l = c.args.lock.index in
    let s = c.requires.at.0 in
    let own = first_node c.number-number.result in
    let old : At d.domain Lock l own s G1 Any cpu.seat =
    subst (λ (n : ℕ). At d.domain Lock l (first_node n) s G1 Any cpu.seat) (sym c.number-number.ensures) c.requires.at.1 in
    let k = kept_cpu d cpu c.requires.domain c.contend-place.new.seat
    (kept_since (at_row old) (since_comes d.domain l own s c.contend-place.new.seat c.contend-place.result (c.contend-place.ensures s old))) in
    record {
      numbered = k.numbered;
      noted = λ e. absurd (k.awake e);
      apart = λ e. absurd (k.awake e);
      carried = k.carried;
    }

pub returns : goal.returns
returns c =
    let d = c.args.domain.now.domain in
    let cpu = c.args.cpu.now in
    let l = c.args.lock.index in
    let place = c.contend-place.result in
    let seat = c.contend-place.new.seat in
    let came : (s : Start) → At d Lock l (own_node cpu) s G1 Any cpu.seat → Comes d l (own_node cpu) place s seat =
    λ s. subst (λ (n : ℕ). At d Lock l (first_node n) s G1 Any cpu.seat → Comes d l (first_node n) place s seat) c.number-number.ensures
    (c.contend-place.ensures s) in
    let s = c.requires.at.0 in
    let now = came s c.requires.at.1 in
    record {
      same = same_since cpu _ (at_row c.requires.at.1) (since_comes d l (own_node cpu) s seat place now) refl;
      taken = λ e s w.
          let t = subst (λ o. Comes d l (own_node cpu) o s seat) (c.turn_of.ensures.has e) (came s w) in
          record { took = t; rests = record { frames = t.frames; awake = t.still.awake; fresh = t.still.fresh } };
      halted = asleep_comes d l (own_node cpu) s seat place now ∙ sym c.turn_of.ensures.halted;
      lock = λ w e. lock_of c.args.lock place w (sym c.turn_of.ensures.waiter ∙ e);
      waits = λ w e s h. waits_of c.args.domain.now c.args.lock _ place s w h.low (sym c.turn_of.ensures.waiter ∙ e) (came s h);
    }
