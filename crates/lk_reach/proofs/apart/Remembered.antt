-- A step that was made leads from each state with the parts that it touches to the same parts.
use Rattle.std.proofs.Common.{arith, ℕ, ◌≡◌, ◌∙◌, ◌<◌, ◌*◌, List, Option, Some, length, get_or, set}
use Rattle.std.proofs.Common.{ap, inl, inr, sym, subst, length-set, get_or-set_same}
use Rattle.std.proofs.Common.{get_or-set_other, slice_get}
use Rattle.std.proofs.lemmas.List.{set-get_or}
use Rattle.std.specs.Int.{IsNextPowerOfTwo}
use Rattle.lk_reach.proofs.Names.{cases_eq, slice_get_within, Act, next, processor_of, CpuState}
use Rattle.lk_reach.proofs.Names.{Machine, no_cpu, Answer, Setup, SharedValue, Touches, IsSuch}
use Rattle.lk_reach.proofs.Names.{after, bare, Grows, Keeps, KeyKeeps, SpaceValue, AreMade, Key}
use Rattle.lk_reach.proofs.Names.{Made}
use Rattle.lk_names.specs.declared.events.Act.TheVariants.{Step}
use Rattle.lk_rows.specs.Machine.{cpu_at}
use Rattle.lk_touch.proofs.TouchedRows.{steps_stay_among}
use Rattle.lk_touch.specs.Touching.{among, with_both}
use Rattle.lk_reach.proofs.Kept.{front_at, one_value, same_machine, set_other, set_same}
use Rattle.lk_reach.specs.Steps.{Begins, HasParts, IsLed, IsMadeOn, IsRemembered, IsSpot, WasMade}
use Rattle.lk_reach.specs.{Steps.then_key, declared.spot.Led.Led, declared.spot.Spot.Spot}

-- the parts that a step touches stay what they are when more is met
parts_grown : (v w : SpaceValue) → Grows v w → (p q i j k : ℕ) (m : Machine) → HasParts v p q i j k m → HasParts w p q i j k m
parts_grown v w g p q i j k m x = record {
  shared = record {
    item = x.shared.item;
    is = front_at v.shareds w.shareds g.shareds i x.shared.item x.shared.is;
    holds = x.shared.holds;
  };
  part = front_at v.parts w.parts g.parts j (cpu_at m p) x.part;
  beside = front_at v.parts w.parts g.parts k (cpu_at m q) x.beside;
}

pub made_grown : (setup : Setup) (v w : SpaceValue) → Grows v w → (made : List (Option Made)) → AreMade setup v made
    → AreMade setup w made
made_grown setup v w g made x i e at =
    let y = x i e at in
    record {
      from = y.from;
      such = y.such;
      cpu = y.cpu;
      other = y.other;
      touches = y.touches;
      before = parts_grown v w g e.cpu e.other e.shared e.part e.beside y.from y.before;
      then_such = y.then_such;
      behind = parts_grown v w g e.cpu e.other e.then_shared e.then_part e.then_beside (after y.from (Step e.cpu)) y.behind;
      event = y.event;
    }

module _ (setup : Setup) (v : SpaceValue) (e : Made) (x : WasMade setup v e) (key : Key) (b : Begins key e) (s : Machine)
    (has : KeyKeeps v.parts v.shareds key s) (such : IsSuch setup s) where
  abbrev p : ℕ
  p = e.cpu

  abbrev q : ℕ
  q = e.other

  -- the machine behind the step that was made
  abbrev n : Machine
  n = after x.from (Step p)

  many : length s.cpus ≡ length x.from.cpus
  many = such.cpus ∙ sym x.such.cpus

  p_low : p < length s.cpus
  p_low = (let low = x.cpu in let same = many in omega (arith, low, same))

  q_low : q < length s.cpus
  q_low = (let low = x.other in let same = many in omega (arith, low, same))

  -- a part of the state is what the machine had
  one_part : (r i : ℕ) → r < length s.cpus → slice_get key.cpus r ≡ Some i → slice_get v.parts i ≡ Some (cpu_at x.from r)
      → cpu_at x.from r ≡ cpu_at s r
  one_part r i low at is =
      let it = has.each r low in
      one_value (slice_get v.parts i) (cpu_at x.from r) (cpu_at s r) is
      (subst (λ (j : ℕ). slice_get v.parts j ≡ Some (cpu_at s r)) (one_value (slice_get key.cpus r) it.0 i it.1 at) it.2)

  own_part : cpu_at x.from p ≡ cpu_at s p
  own_part = one_part p e.part p_low b.part x.before.part

  other_part : cpu_at x.from q ≡ cpu_at s q
  other_part = one_part q e.beside q_low b.beside x.before.beside

  same_item : has.shared.item ≡ x.before.shared.item
  same_item =
      one_value (slice_get v.shareds key.shared) has.shared.item x.before.shared.item has.shared.is
      (subst (λ (i : ℕ). slice_get v.shareds i ≡ Some x.before.shared.item) b.shared x.before.shared.is)

  same_cpus : with_both s.cpus p q x.from.cpus ≡ s.cpus
  unfolding cpu_at
  same_cpus =
      (λ i. set (set s.cpus p (own_part i)) q (other_part i))
      ∙ ap (λ cs. set cs q (get_or s.cpus q no_cpu)) (set-get_or s.cpus p no_cpu) ∙ set-get_or s.cpus q no_cpu

  -- the state is that machine among others
  is_among : s ≡ among s.cpus p q x.from
  is_among =
      same_machine s (among s.cpus p q x.from) (such.setup ∙ sym x.such.setup)
      (sym has.shared.holds.locks ∙ ap (λ (z : SharedValue). z.locks) same_item ∙ x.before.shared.holds.locks)
      (sym same_cpus)
      (sym has.shared.holds.hash ∙ ap (λ (z : SharedValue). z.hash) same_item ∙ x.before.shared.holds.hash)
      (such.counts ∙ sym x.such.counts)

  led : next s (Step p) ≡ (among s.cpus p q (next x.from (Step p)).0, (next x.from (Step p)).1)
  led =
      ap (λ z. next z (Step p)) is_among
      ∙ steps_stay_among s.cpus p q x.from p_low q_low x.cpu x.other x.touches

  pub told : e.event ≡ (next s (Step p)).1
  told = x.event ∙ sym (ap (λ (a : Answer). a.1) led)

  then_is : after s (Step p) ≡ among s.cpus p q n
  then_is = ap (λ (a : Answer). bare a.0) led

  -- the processors behind the step
  set_low : (i : ℕ) (c : CpuState) → q < length (set s.cpus i c)
  set_low i c = subst (λ (k : ℕ). q < k) (sym (length-set s.cpus i c)) q_low

  q_then : cpu_at (among s.cpus p q n) q ≡ cpu_at n q
  unfolding cpu_at
  q_then = get_or-set_same (set s.cpus p (cpu_at n p)) q (cpu_at n q) no_cpu (set_low p (cpu_at n p))

  p_then : (p ≡ q → ⊥) → cpu_at (among s.cpus p q n) p ≡ cpu_at n p
  unfolding cpu_at
  p_then ne =
      get_or-set_other (set s.cpus p (cpu_at n p)) q p (cpu_at n q) no_cpu ne
      ∙ get_or-set_same s.cpus p (cpu_at n p) no_cpu p_low

  r_then : (r : ℕ) → (r ≡ p → ⊥) → (r ≡ q → ⊥) → cpu_at (among s.cpus p q n) r ≡ cpu_at s r
  unfolding cpu_at
  r_then r ne away =
      get_or-set_other (set s.cpus p (cpu_at n p)) q r (cpu_at n q) no_cpu away
      ∙ get_or-set_other s.cpus p r (cpu_at n p) no_cpu ne

  -- their numbers
  key_low : p < length key.cpus
  key_low = slice_get_within key.cpus p e.part b.part

  key_near : q < length (set key.cpus p e.then_part)
  key_near =
      subst (λ (k : ℕ). q < k) (sym (length-set key.cpus p e.then_part)) (slice_get_within key.cpus q e.beside b.beside)

  Has : ℕ → Type 0
  Has r = (i : ℕ) × (slice_get (then_key e key).cpus r ≡ Some i) × (slice_get v.parts i ≡ Some (cpu_at (among s.cpus p q n) r))

  at_q : Has q
  unfolding Has
  at_q = (
    e.then_beside,
    set_same (set key.cpus p e.then_part) q e.then_beside key_near,
    x.behind.beside ∙ ap (λ (c : CpuState). Some c) (sym q_then),
  )

  at_p : (p ≡ q → ⊥) → Has p
  unfolding Has
  at_p ne = (
    e.then_part,
    set_other (set key.cpus p e.then_part) q p e.then_beside ne ∙ set_same key.cpus p e.then_part key_low,
    x.behind.part ∙ ap (λ (c : CpuState). Some c) (sym (p_then ne)),
  )

  at_r : (r : ℕ) → r < length s.cpus → (r ≡ p → ⊥) → (r ≡ q → ⊥) → Has r
  unfolding Has
  at_r r low ne away =
      let it = has.each r low in (
        it.0,
        set_other (set key.cpus p e.then_part) q r e.then_beside away ∙ set_other key.cpus p r e.then_part ne ∙ it.1,
        it.2 ∙ ap (λ (c : CpuState). Some c) (sym (r_then r ne away)),
      )

  each_then : (r : ℕ) → r < length s.cpus → Has r
  each_then r low = elim (cases_eq r q) [
    | inl same ↦ subst (λ (k : ℕ). Has k) (sym same) at_q
    | inr away ↦ elim (cases_eq r p) [
      | inl same ↦ subst (λ (k : ℕ). Has k) (sym same) (at_p (λ is. away (same ∙ is)))
      | inr ne ↦ at_r r low ne away
    ]
  ]

  -- as many as before
  as_many : length (among s.cpus p q n).cpus ≡ length s.cpus
  as_many = length-set (set s.cpus p _) q _ ∙ length-set s.cpus p _

  n_many : length n.cpus ≡ length (among s.cpus p q n).cpus
  n_many = x.then_such.cpus ∙ sym such.cpus ∙ sym as_many

  pub then_keeps : KeyKeeps v.parts v.shareds (then_key e key) (after s (Step p))
  unfolding Has
  then_keeps =
      let w = x.behind.shared in
      subst (λ (m : Machine). KeyKeeps v.parts v.shareds (then_key e key) m) (sym then_is) (record {
        shared = record {
          item = w.item;
          is = w.is;
          holds = record {
            fits = record {
              layout = w.holds.fits.layout;
              locks = w.holds.fits.locks;
              places = subst (λ (k : ℕ). IsNextPowerOfTwo (4 * k) w.item.places) n_many w.holds.fits.places;
            };
            locks = w.holds.locks;
            hash = w.holds.hash;
          };
        };
        each = λ r low. each_then r (subst (λ (k : ℕ). r < k) as_many low);
      })

-- so a step that is remembered leads there
pub remembered_led : (setup : Setup) (v : SpaceValue) (made : List (Option Made)) (spot : Spot) (a : Act) (e : Made) (led : Led)
    → AreMade setup v made → IsSpot setup v spot → IsRemembered made spot.key a e → led.key ≡ then_key e spot.key
    → led.event ≡ e.event → IsLed setup v spot.state a led
remembered_led setup v made spot a e led all at x then event =
    let w = all x.is.0 e x.is.1 in
    let key : (s : Machine) → Keeps v spot.state s → KeyKeeps v.parts v.shareds spot.key s =
    λ s keeps. subst (λ (k : Key). KeyKeeps v.parts v.shareds k s)
    (one_value (slice_get v.keys spot.state) keeps.key spot.key keeps.is at.is) keeps.keeps in
    record {
      then = λ s keeps such.
          subst (λ (b : Act). KeyKeeps v.parts v.shareds led.key (after s b)) (sym x.doing)
          (subst (λ (k : Key). KeyKeeps v.parts v.shareds k (after s (Step e.cpu))) (sym then)
          (then_keeps setup v e w spot.key x.begins s (key s keeps) such));
      event = λ s keeps such.
          event ∙ told setup v e w spot.key x.begins s (key s keeps) such
          ∙ ap (λ (b : Act). (next s b).1) (sym x.doing);
    }

-- a machine with this key has these parts
has_parts : (v : SpaceValue) (key : Key) (m : Machine) → KeyKeeps v.parts v.shareds key m → (p q i j k : ℕ) → i ≡ key.shared
    → slice_get key.cpus p ≡ Some j → slice_get key.cpus q ≡ Some k → p < length m.cpus → q < length m.cpus
    → HasParts v p q i j k m
has_parts v key m has p q i j k same one other low near =
    let it = has.each p low in
    let at = has.each q near in
    record {
      shared = record {
        item = has.shared.item;
        is = subst (λ (n : ℕ). slice_get v.shareds n ≡ Some has.shared.item) (sym same) has.shared.is;
        holds = has.shared.holds;
      };
      part = subst (λ (n : ℕ). slice_get v.parts n ≡ Some (cpu_at m p)) (one_value (slice_get key.cpus p) it.0 j it.1 one) it.2;
      beside = subst (λ (n : ℕ). slice_get v.parts n ≡ Some (cpu_at m q)) (one_value (slice_get key.cpus q) at.0 k at.1 other) at.2;
    }

-- a step that was made on a state, and is remembered with the parts that it had and got
module _ (setup : Setup) (v : SpaceValue) (spot : Spot) (led : Led) (n : Machine) (e : Made) (such : IsSuch setup n)
    (before : KeyKeeps v.parts v.shareds spot.key n) (then_such : IsSuch setup (after n (Step e.cpu)))
    (behind : KeyKeeps v.parts v.shareds led.key (after n (Step e.cpu))) (event : led.event ≡ (next n (Step e.cpu)).1) where
  was_made_so : e.cpu < length n.cpus → e.other < length n.cpus → Touches n e.cpu e.other
      → IsMadeOn spot led e.cpu e.other e → WasMade setup v e
  was_made_so low near touches on =
      let one = such.cpus in
      let more = then_such.cpus in
      record {
        from = n;
        such = such;
        cpu = low;
        other = near;
        touches = touches;
        before = has_parts v spot.key n before e.cpu e.other e.shared e.part e.beside on.shared on.part on.beside low near;
        then_such = then_such;
        behind = has_parts v led.key (after n (Step e.cpu)) behind e.cpu e.other e.then_shared e.then_part e.then_beside
            on.then_shared on.then_part on.then_beside (omega (arith, low, one, more)) (omega (arith, near, one, more));
        event = on.event ∙ event;
      }

pub was_made : (setup : Setup) (v : SpaceValue) (spot : Spot) (led : Led) (a : Act) (n : Machine) (f : ℕ × ℕ) (e : Made)
    → IsSuch setup n → KeyKeeps v.parts v.shareds spot.key n → a ≡ Step f.0 → f.0 < length n.cpus → f.1 < length n.cpus
    → Touches n f.0 f.1 → IsMadeOn spot led f.0 f.1 e → IsSuch setup (after n a) → KeyKeeps v.parts v.shareds led.key (after n a)
    → led.event ≡ (next n a).1 → WasMade setup v e
was_made setup v spot led a n f e such before step low near touches on then_such behind event =
    let to : a ≡ Step e.cpu = step ∙ ap (λ k. Step k) (sym on.by) in
    let here : IsMadeOn spot led e.cpu e.other e =
    subst (λ (k : ℕ). IsMadeOn spot led k e.other e) (sym on.by)
    (subst (λ (k : ℕ). IsMadeOn spot led f.0 k e) (sym on.touches) on) in
    was_made_so setup v spot led n e such before (subst (λ (b : Act). IsSuch setup (after n b)) to then_such)
    (subst (λ (b : Act). KeyKeeps v.parts v.shareds led.key (after n b)) to behind)
    (event ∙ ap (λ (b : Act). (next n b).1) to)
    (subst (λ (k : ℕ). k < length n.cpus) (sym on.by) low) (subst (λ (k : ℕ). k < length n.cpus) (sym on.touches) near)
    (subst (λ (k : ℕ). Touches n k e.other) (sym on.by) (subst (λ (k : ℕ). Touches n f.0 k) (sym on.touches) touches)) here

-- the processor of a step is there
pub step_low : (a : Act) (p k : ℕ) → a ≡ Step p → processor_of a < k → p < k
step_low a p k same low = subst (λ (b : Act). processor_of b < k) same low
