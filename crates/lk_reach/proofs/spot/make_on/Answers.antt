use Rattle.std.proofs.Common.{arith, ℕ, ◌≡◌, ◌∙◌, ◌<◌, Option, ap, sym, subst, length, inl, inr}
use Rattle.std.proofs.Common.{IfSome, slice_get}
use Rattle.lk_reach.proofs.Names.{next, processor_of, Machine, Setup, IsSound, Touches, IsSuch}
use Rattle.lk_reach.proofs.Names.{after, Keeps, KeyKeeps, Key}
use Rattle.lk_reach.proofs.{Kept.one_value, apart.Remembered.{step_low, was_made}}
use Rattle.lk_names.specs.declared.events.Act.TheVariants as act
use Rattle.lk_reach.proofs.Left as left
use Rattle.lk_reach.proofs.spot.make_on.Goals as goal

pub load-requires-clause-there : goal.load-requires-clause-there
load-requires-clause-there c =
    left.loadable c.args.machine.now.setup c.args.space.now c.args.spot.now.state c.args.machine.now c.requires.such
    c.requires.spot.stepped

pub touched_by-touched-requires : goal.touched_by-touched-requires
touched_by-touched-requires c =
    let cpus = c.requires.such.cpus in
    let same = c.load.ensures.cpus in
    let low = c.requires.range in
    omega (arith, cpus, same, low)

pub make-event-requires : goal.make-event-requires
make-event-requires c =
    let z = c.args.machine.now.setup in
    let n = c.load.new.machine in
    let ld = c.load.ensures in
    let st = c.requires.spot.stepped in
    let such : IsSuch z n = left.loaded_such z c.args.machine.now n ld.setup ld.counts ld.cpus ld.locks c.requires.such in
    let same : n ≡ st.state = left.loaded_is z c.args.space.now c.args.spot.now.state n st.state ld.keeps such st.keeps st.such in
    let cpus = such.cpus in
    let low = c.requires.range in
    record {
      such = subst (λ (q : Setup). IsSuch q n) (sym ld.setup) such;
      sound = subst IsSound (sym same) st.sound;
      range = omega (arith, cpus, low);
    }

pub returns-clause-led : goal.returns-clause-led
returns-clause-led c =
    let z = c.args.machine.now.setup in
    let v = c.args.space.now in
    let k = c.args.spot.now.state in
    let a = c.args.doing in
    let n = c.load.new.machine in
    let m = c.make-event.new.machine in
    let ld = c.load.ensures in
    let such : IsSuch z n = left.loaded_such z c.args.machine.now n ld.setup ld.counts ld.cpus ld.locks c.requires.such in
    let same : (s : Machine) → Keeps v k s → IsSuch z s → n ≡ s =
    λ s has is. left.loaded_is z v k n s ld.keeps such has is in
    record {
      then = λ s has is.
          subst (λ (q : Machine). KeyKeeps v.parts v.shareds c.in_ok-key.key q)
          (c.make-event.ensures.after ∙ ap (λ (q : Machine). after q a) (same s has is)) c.in_ok-key.ensures;
      event = λ s has is. c.make-event.ensures.event ∙ ap (λ (q : Machine). (next q a).1) (same s has is);
    }

pub returns-clause-made : goal.returns-clause-made
returns-clause-made c i e is =
    let z = c.args.machine.now.setup in
    let v = c.args.space.now in
    let spot = c.args.spot.now in
    let a = c.args.doing in
    let n = c.load.new.machine in
    let ld = c.load.ensures in
    let t = c.touched_by-touched in
    let such : IsSuch z n = left.loaded_such z c.args.machine.now n ld.setup ld.counts ld.cpus ld.locks c.requires.such in
    let then_such : IsSuch z (after n a) =
    subst (λ (q : Machine). IsSuch z q) c.make-event.ensures.after
    (subst (λ (q : Setup). IsSuch q c.make-event.new.machine) ld.setup c.make-event.ensures.such) in
    let before : KeyKeeps v.parts v.shareds spot.key n =
    subst (λ (k : Key). KeyKeeps v.parts v.shareds k n)
    (one_value (slice_get v.keys spot.state) ld.keeps.key spot.key ld.keeps.is c.requires.spot.is) ld.keeps.keeps in
    let low : processor_of a < length n.cpus =
    (let cpus = such.cpus in let range = c.requires.range in omega (arith, cpus, range)) in
    elim (c.remember.ensures i e is) [
      | inl old ↦ c.requires.made old.0 e old.1
      | inr by ↦
          let f = by.0 in
          let step : a ≡ act.Step f.0 = subst (λ (o : Option (ℕ × ℕ)). IfSome o (λ g. a ≡ act.Step g.0)) by.1 t.ensures.step in
          was_made z v spot (record { key = c.in_ok-key.key; hash = c.hash_of-hash.result; event = c.make-event.result }) a n f e such before step
          (step_low a f.0 (length n.cpus) step low)
          (subst (λ (o : Option (ℕ × ℕ)). IfSome o (λ g. g.1 < length n.cpus)) by.1 t.ensures.other)
          (subst (λ (o : Option (ℕ × ℕ)). IfSome o (λ g. Touches n g.0 g.1)) by.1 t.ensures.touches) by.2 then_such
          (subst (λ (q : Machine). KeyKeeps v.parts v.shareds c.in_ok-key.key q) c.make-event.ensures.after c.in_ok-key.ensures)
          c.make-event.ensures.event
    ]
