use Rattle.std.proofs.Common.{◌≡◌, List, Option, ap, arith, length, refl, false, ℕ}
use Rattle.lk_reach.proofs.Names.{Act, Event, next, Machine, Setup, IsSuch, IsHere, IsNoted}
use Rattle.lk_reach.proofs.Names.{IsBegun, IsMove, IsReached, after, AddsParts, Keeps, KeyKeeps}
use Rattle.lk_reach.proofs.Names.{SpaceValue, AreMade, Here, Key, Plan, Made}
use Rattle.lk_reach.proofs.{Kept.{keeps_grown, key_grown}, Left.{grows_self, grows_then}}
use Rattle.lk_reach.proofs.{apart.Noted.plain_noted, apart.Remembered.{made_grown, remembered_led}}
use Rattle.lk_reach.specs.{Helped.IsKeyNoted, Steps.{IsLed, IsRemembered, IsSpot, then_key}}
use Rattle.lk_reach.specs.declared.spot.Led.{Led}
use Rattle.lk_reach.proofs.Closed as closed
use Rattle.lk_reach.proofs.Folded as folded
use Rattle.lk_reach.proofs.exploring.visit_plain.Goals as goal

-- the state that is left
spot_at : (p : Plan) (z : Setup) (v : SpaceValue) (here : Here) (h : IsHere p z v here) → IsSpot z v here.spot
spot_at p z v here h = record {
  stepped = record {
    state = h.state;
    keeps = h.keeps;
    such = closed.reached_such folded.laws p z h.begun h.state h.reached;
    sound = closed.reached_sound folded.laws p z h.begun h.state h.reached;
  };
  is = h.key;
}

-- nothing is met where a step is remembered
none_added : (v : SpaceValue) → AddsParts v v
none_added v = record { grows = grows_self v; keys = refl; folds = refl }

-- to this it led
abbrev led_of : Key → Option Event → Led
led_of key event = record { key = key; hash = 0; event = event }

led_by : (p : Plan) (z : Setup) (v : SpaceValue) (here : Here) (h : IsHere p z v here) (made : List (Option Made)) → AreMade z v made
    → (a : Act) (e : Made) → IsRemembered made here.spot.key a e → (key : Key) → key ≡ then_key e here.spot.key
    → IsLed z v here.spot.state a (led_of key e.event)
led_by p z v here h made all a e x key is =
    remembered_led z v made here.spot a e (led_of key e.event) all (spot_at p z v here h) x is refl

-- where the act led, the state of this number is noted
module _ (p : Plan) (z : Setup) (begun : IsBegun p z) (plain : p.folds ≡ false) (a : Act) (moves : IsMove p.extras z a)
    (v u w : SpaceValue) (k : ℕ) (led : Led) (number : ℕ) (more : AddsParts v u) (is : IsLed z u k a led)
    (e : IsKeyNoted u w led.key number) where
  of_setup : (s : Machine) → IsReached p z s → IsSuch z s
  of_setup = closed.reached_such folded.laws p z begun

  noted : (s : Machine) → Keeps v k s → IsReached p z s → IsNoted p z v w k (after s a) number
  noted s has reached =
      let m = after s a in
      let such = of_setup m (closed.reached_then folded.laws p z begun s a reached moves) in
      let keeps : KeyKeeps u.parts u.shareds led.key m = is.then s (keeps_grown v u more.grows k s has) (of_setup s reached) in
      let kept : KeyKeeps w.parts w.shareds led.key m = key_grown u w e.grows led.key m keeps in
      let size = ap (λ (ks : List Key). length ks) more.keys in
      plain_noted p z begun v w k number m such plain e.there (λ t there kind. e.alike t m there kept kind)
      (grows_then v u w more.grows e.grows)
      (λ j high low.
      let one = e.one j (omega (arith, high, size)) low in
      (one.0, record { key = led.key; is = one.1; keeps = kept }))

  told : (s : Machine) → Keeps v k s → IsReached p z s → led.event ≡ (next s a).1
  told s has reached = is.event s (keeps_grown v u more.grows k s has) (of_setup s reached)

pub make_anew-requires-clause-spot : goal.make_anew-requires-clause-spot
make_anew-requires-clause-spot g c =
    let h = c.requires.here in
    spot_at c.args.plan.now c.args.crew.now.machine.setup c.args.space.now c.args.here.now h

pub returns-in_ok-number-in-Some-clause-noted : goal.returns-in_ok-number-in-Some-clause-noted
returns-in_ok-number-in-Some-clause-noted g c =
    let r = c.requires in
    let v = c.args.space.now in
    noted c.args.plan.now c.args.crew.now.machine.setup r.here.begun r.plain c.args.doing r.moves v v c.note_key.new.self
    c.args.here.now.spot.state (led_of c.change.new.key c.in-Some.made.now.event) c.in_ok-number-in-Some.number (none_added v)
    (led_by c.args.plan.now c.args.crew.now.machine.setup v c.args.here.now r.here c.args.crew.now.steps.made.items r.made
    c.args.doing c.in-Some.made.now c.in-Some.ensures c.change.new.key c.change.ensures)
    c.in_ok-number-in-Some.ensures

pub returns-in_ok-number-in-Some-clause-told : goal.returns-in_ok-number-in-Some-clause-told
returns-in_ok-number-in-Some-clause-told g c =
    let r = c.requires in
    let v = c.args.space.now in
    told c.args.plan.now c.args.crew.now.machine.setup r.here.begun r.plain c.args.doing r.moves v v c.note_key.new.self
    c.args.here.now.spot.state (led_of c.change.new.key c.in-Some.made.now.event) c.in_ok-number-in-Some.number (none_added v)
    (led_by c.args.plan.now c.args.crew.now.machine.setup v c.args.here.now r.here c.args.crew.now.steps.made.items r.made
    c.args.doing c.in-Some.made.now c.in-Some.ensures c.change.new.key c.change.ensures)
    c.in_ok-number-in-Some.ensures

pub returns-in_ok-number-in-Some-clause-made : goal.returns-in_ok-number-in-Some-clause-made
returns-in_ok-number-in-Some-clause-made g c =
    made_grown c.args.crew.now.machine.setup c.args.space.now c.note_key.new.self c.in_ok-number-in-Some.ensures.grows
    c.args.crew.now.steps.made.items c.requires.made

pub returns-in_ok-number-in-None-clause-noted : goal.returns-in_ok-number-in-None-clause-noted
returns-in_ok-number-in-None-clause-noted g c =
    let r = c.requires in
    let l = c.in_ok-led-in-None.ensures in
    noted c.args.plan.now c.args.crew.now.machine.setup r.here.begun r.plain c.args.doing r.moves c.args.space.now
    c.make_anew.new.space c.note_key-in-None.new.self c.args.here.now.spot.state c.in_ok-led-in-None.led c.in_ok-number-in-None.number l.states
    l.led c.in_ok-number-in-None.ensures

pub returns-in_ok-number-in-None-clause-told : goal.returns-in_ok-number-in-None-clause-told
returns-in_ok-number-in-None-clause-told g c =
    let r = c.requires in
    let l = c.in_ok-led-in-None.ensures in
    told c.args.plan.now c.args.crew.now.machine.setup r.here.begun r.plain c.args.doing r.moves c.args.space.now
    c.make_anew.new.space c.note_key-in-None.new.self c.args.here.now.spot.state c.in_ok-led-in-None.led c.in_ok-number-in-None.number l.states
    l.led c.in_ok-number-in-None.ensures

pub returns-in_ok-number-in-None-clause-made : goal.returns-in_ok-number-in-None-clause-made
returns-in_ok-number-in-None-clause-made g c =
    made_grown c.args.crew.now.machine.setup c.make_anew.new.space c.note_key-in-None.new.self c.in_ok-number-in-None.ensures.grows
    c.make_anew.new.steps.made.items c.in_ok-led-in-None.ensures.made
