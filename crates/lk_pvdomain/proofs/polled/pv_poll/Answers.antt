use Rattle.std.proofs.Common.{ℕ, refl, sym, subst, ◌∙◌}
use Rattle.lk_pvdomain.proofs.Names.{own_node, Start, first_node, Comes}
use Rattle.lk_pvdomain.proofs.ways.Kept.{kept_cpu}
use Rattle.lk_pvdomain.proofs.ways.Rested.{since_rests, since_comes, asleep_comes, kept_since}
use Rattle.lk_pvdomain.proofs.ways.Rested.{same_since, waits_of, lock_of}
use Rattle.lk_pvdomain.specs.PvRests.{Rests}
use Rattle.lk_pvdomain.proofs.polled.pv_poll.Goals as goal

pub turn-place-requires : goal.turn-place-requires
turn-place-requires c =
    let w = c.args.waiter in (
      c.requires.waits.0,
      subst (λ (n : ℕ). Rests c.args.domain.now.domain w.lock.index (first_node n) w.rest c.requires.waits.0 c.args.cpu.now.seat)
          (sym c.number.ensures) c.requires.waits.1.rests,
    )

pub invariant_of-cpu : goal.invariant_of-cpu
invariant_of-cpu c =
    let d = c.args.domain.now in
    let cpu = c.args.cpu.now in
    let w = c.args.waiter in
    let l = w.lock.index in
    let s = c.requires.waits.0 in
    let own = first_node c.number.result in
    let old : Rests d.domain l own w.rest s cpu.seat =
    subst (λ (n : ℕ). Rests d.domain l (first_node n) w.rest s cpu.seat) (sym c.number.ensures) c.requires.waits.1.rests in
    let k = kept_cpu d cpu c.requires.domain c.turn-place.new.seat
    (kept_since (since_rests d.domain l own s cpu.seat w.rest old)
    (since_comes d.domain l own s c.turn-place.new.seat c.turn-place.result (c.turn-place.ensures s old))) in
    record {
      numbered = k.numbered;
      noted = λ e. absurd (k.awake e);
      apart = λ e. absurd (k.awake e);
      carried = k.carried;
    }

pub returns : goal.returns
returns c =
    let d = c.args.domain.now.domain in
    let cpu = c.args.cpu.now in
    let own = own_node cpu in
    let rest = c.args.waiter.rest in
    let lock = c.args.waiter.lock in
    let l = lock.index in
    let place = c.turn-place.result in
    let seat = c.turn-place.new.seat in
    let came : (s : Start) → Rests d l own rest s cpu.seat → Comes d l own place s seat = λ s h.
    subst (λ (n : ℕ). Comes d l (first_node n) place s seat) c.number.ensures
    (c.turn-place.ensures s (subst (λ (n : ℕ). Rests d l (first_node n) rest s cpu.seat) (sym c.number.ensures) h)) in
    let s = c.requires.waits.0 in
    let old = c.requires.waits.1.rests in
    record {
      same = same_since cpu _ (since_rests d l own s cpu.seat rest old) (since_comes d l own s seat place (came s old)) refl;
      taken = λ e s w.
          let t = subst (λ o. Comes d l own o s seat) (c.turn_of.ensures.has e) (came s w.rests) in
          record { took = t; rests = record { frames = t.frames; awake = t.still.awake; fresh = t.still.fresh } };
      halted = asleep_comes d l own s seat place (came s old) ∙ sym c.turn_of.ensures.halted;
      lock = λ w e. lock_of lock place w (sym c.turn_of.ensures.waiter ∙ e);
      waits = λ w e s v. waits_of c.args.domain.now lock _ place s w v.low (sym c.turn_of.ensures.waiter ∙ e) (came s v.rests);
    }
