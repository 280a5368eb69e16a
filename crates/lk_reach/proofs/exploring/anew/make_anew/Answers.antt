use Rattle.std.proofs.Common.{arith, ℕ, ◌≡◌, ◌∙◌, ◌<◌, Option, ap, sym, subst, length, inl, inr}
use Rattle.std.proofs.Common.{IfSome, slice_get}
use Rattle.lk_reach.proofs.Names.{next, processor_of, Machine, Setup, IsSound, Touches, IsSuch}
use Rattle.lk_reach.proofs.Names.{after, Keeps, KeyKeeps, Key}
use Rattle.lk_reach.proofs.Kept.{keeps_grown, key_grown, one_value}
use Rattle.lk_reach.proofs.apart.Remembered.{made_grown, step_low, was_made}
use Rattle.lk_names.specs.declared.events.Act.TheVariants as act
use Rattle.lk_reach.proofs.Left as left
use Rattle.lk_reach.proofs.exploring.anew.make_anew.Goals as goal

pub load-requires-clause-there : goal.load-requires-clause-there
load-requires-clause-there c =
    left.loadable c.args.machine.now.setup c.args.space.now c.args.spot.now.state c.args.machine.now c.requires.such
    c.requires.spot.stepped

pub touched_by-touched-requires : goal.touched_by-touched-requires
touched_by-touched-requires c =
    let cpus = c.requires.such.cpus in
    let same = c.load.ensures.cpus in
    let low = c.requires.range in
    omega (arith, cpus, same, low)

pub make-event-requires : goal.make-event-requires
make-event-requires c =
    let z = c.args.machine.now.setup in
    let n = c.load.new.machine in
    let ld = c.load.ensures in
    let st = c.requires.spot.stepped in
    let such : IsSuch z n = left.loaded_such z c.args.machine.now n ld.setup ld.counts ld.cpus ld.locks c.requires.such in
    let same : n ≡ st.state = left.loaded_is z c.args.space.now c.args.spot.now.state n st.state ld.keeps such st.keeps st.such in
    let cpus = such.cpus in
    let low = c.requires.range in
    record {
      such = subst (λ (q : Setup). IsSuch q n) (sym ld.setup) such;
      sound = subst IsSound (sym same) st.sound;
      range = omega (arith, cpus, low);
    }

pub returns : goal.returns
returns c =
    let z = c.args.machine.now.setup in
    let v = c.args.space.now in
    let w = c.key.new.self in
    let spot = c.args.spot.now in
    let k = spot.state in
    let a = c.args.doing in
    let n = c.load.new.machine in
    let m = c.make-event.new.machine in
    let ld = c.load.ensures in
    let t = c.touched_by-touched in
    let key = c.in_ok-key.key in
    let e = c.in_ok-key.ensures in
    let made = c.make-event.ensures in
    let such : IsSuch z n = left.loaded_such z c.args.machine.now n ld.setup ld.counts ld.cpus ld.locks c.requires.such in
    let kept : Keeps w k n = keeps_grown v w e.states.grows k n ld.keeps in
    let same : (s : Machine) → Keeps w k s → IsSuch z s → n ≡ s =
    (λ s has is. left.loaded_is z w k n s kept such has is) in
    let then_such : IsSuch z (after n a) =
    subst (λ (q : Machine). IsSuch z q) made.after (subst (λ (q : Setup). IsSuch q m) ld.setup made.such) in
    let behind : KeyKeeps w.parts w.shareds key (after n a) =
    subst (λ (q : Machine). KeyKeeps w.parts w.shareds key q) made.after e.key in
    let before : KeyKeeps w.parts w.shareds spot.key n =
    key_grown v w e.states.grows spot.key n
    (subst (λ (x : Key). KeyKeeps v.parts v.shareds x n)
    (one_value (slice_get v.keys k) ld.keeps.key spot.key ld.keeps.is c.requires.spot.is) ld.keeps.keeps) in
    let low : processor_of a < length n.cpus =
    (let cpus = such.cpus in let range = c.requires.range in omega (arith, cpus, range)) in
    record {
      states = e.states;
      led = record {
        then = λ s has is.
            subst (λ (q : Machine). KeyKeeps w.parts w.shareds key (after q a)) (same s has is) behind;
        event = λ s has is. made.event ∙ ap (λ (q : Machine). (next q a).1) (same s has is);
      };
      such = subst (λ (q : Machine). IsSuch z q) (sym e.machine) (subst (λ (q : Setup). IsSuch q m) ld.setup made.such);
      made = λ i d is. elim (c.remember.ensures i d is) [
        | inl old ↦ made_grown z v w e.states.grows c.args.steps.now.made.items c.requires.made old.0 d old.1
        | inr by ↦
            let f = by.0 in
            let step : a ≡ act.Step f.0 = subst (λ (o : Option (ℕ × ℕ)). IfSome o (λ g. a ≡ act.Step g.0)) by.1 t.ensures.step in
            was_made z w spot (record { key = c.in_ok-key.key; hash = c.hash_of-hash.result; event = c.make-event.result }) a n f d such before step
            (step_low a f.0 (length n.cpus) step low)
            (subst (λ (o : Option (ℕ × ℕ)). IfSome o (λ g. g.1 < length n.cpus)) by.1 t.ensures.other)
            (subst (λ (o : Option (ℕ × ℕ)). IfSome o (λ g. Touches n g.0 g.1)) by.1 t.ensures.touches) by.2 then_such
            behind made.event
      ];
    }
