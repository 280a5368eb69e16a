-- When an act leads on from a state: states that are alike look the same, and make the same rows.
use Rattle.std.proofs.Common.{◌≡◌, ◌<◌, ◌+◌, ◌-◌, ◌∙◌, ℕ, List, Bool, Some, false, length, ap, sym}
use Rattle.std.proofs.Common.{subst, arith, inl, inr, slice_get}
use Rattle.lk_reach.proofs.Names.{cases_eq, length-map, slice_get_within, Act, CpuState, Machine}
use Rattle.lk_reach.proofs.Names.{top_frame, Setup, IsSound, AreAlike, rested_frame}
use Rattle.lk_reach.proofs.Names.{IsMarkedOnly, StaysAt, IsStepped, LeadsTo, IsReached, after}
use Rattle.lk_reach.proofs.Names.{AreGoing, Keeps, SpaceValue, IsGraph, Book, Graph, Plan, StandsFor}
use Rattle.lk_rows.specs.Machine.{HasTop, cpu_at, depth_at, preempted_at, halted_at, kicked_at}
use Rattle.lk_rows.specs.{Machine.handlers_at, Programs.{HasPrograms, handlers_of}}
use Rattle.lk_idle.proofs.Goes.{top-bared}
use Rattle.lk_reach.proofs.Closed.{reached_sound, reached_such, reached_then, same_state}
use Rattle.lk_reach.proofs.{Columns.leads_low, Ending.led, Likeness.{cpu_alike, makes_alike}}
use Rattle.lk_reach.proofs.Folded.{laws, makes_stands, stands_back}
use Rattle.lk_reach.specs.{Ends.AreEnds, Rows.MakesNoOther, Sights.{LeadsOn, MayTry, sight_of}}

pub sight_alike : (s t : Machine) → AreAlike s t → (p : ℕ) → sight_of s p ≡ sight_of t p
unfolding depth_at preempted_at halted_at kicked_at handlers_at
sight_alike s t alike p =
    let same = cpu_alike s t alike p in
    let depth : length (cpu_at s p).frames ≡ length (cpu_at t p).frames =
    sym (length-map (cpu_at s p).frames (λ f. rested_frame f)) ∙ ap (λ (c : CpuState). length c.frames) same
    ∙ length-map (cpu_at t p).frames (λ f. rested_frame f) in
    let top = sym (top-bared s p) ∙ ap (λ (m : Machine). top_frame m p) alike ∙ top-bared t p in
    (λ i. record {
      depth = depth i;
      top = top i;
      preempted = (same i).preempted;
      halted = (same i).halted;
      kicked = (same i).kicked;
      handlers = handlers_of (alike i).setup p - (same i).handlers;
    })

-- a sound machine can be looked at
pub top_at : (m : Machine) → IsSound m → (p : ℕ) → p < length m.cpus → HasTop m p
top_at m sound p low = sound.1.whole.tops p low

pub programs_at : (m : Machine) → IsSound m → (p : ℕ) → p < length m.cpus → HasPrograms m.setup p
programs_at m sound p low =
    let s = sound.1.whole.setup in
    let c = sound.1.whole.cpus in
    record { task = omega (arith, s.progs, c, low); handlers = omega (arith, s.irqs, c, low); few = s.handlers p }

-- the states that were met can be tried, and what acts lead to is sound
module _ (plan : Plan) (setup : Setup) (v : SpaceValue) (may : MayTry plan setup v) where
  pub stepped : (k : ℕ) → k < length v.keys → IsStepped setup v k
  stepped k low = let good = may.good k low in record {
    state = good.state;
    keeps = good.keeps;
    such = reached_such laws plan setup may.begun good.state good.reached;
    sound = reached_sound laws plan setup may.begun good.state good.reached;
  }

  pub sound_behind : (k : ℕ) (low : k < length v.keys) (i : ℕ) (a : Act) → slice_get plan.acts.items i ≡ Some a
      → IsSound (after (stepped k low).state a)
  unfolding stepped
  sound_behind k low i a at =
      let s = (may.good k low).state in
      reached_sound laws plan setup may.begun (after s a)
      (reached_then laws plan setup may.begun s a (may.good k low).reached (may.moves i a at))

  pub stepped_one : (k : ℕ) (low : k < length v.keys) (s : Machine) → Keeps v k s → IsReached plan setup s
      → (stepped k low).state ≡ s
  unfolding stepped
  stepped_one k low s keeps reached =
      let good = may.good k low in
      same_state laws plan setup may.begun v k good.state s good.keeps keeps good.reached reached

-- marks that say who goes on
pub going_more : (plan : Plan) (setup : Setup) (v : SpaceValue) (n : ℕ) (old new : List Bool)
    → IsMarkedOnly old new n → LeadsOn plan setup v n → AreGoing plan setup v old → AreGoing plan setup v new
going_more plan setup v n old new only on going = record {
  count = only.count ∙ going.count;
  on = λ k marked. elim (only.on k marked) [
    | inl before ↦ going.on k before
    | inr now ↦ inr (subst (λ (h : ℕ). LeadsOn plan setup v h) (sym now) on)
  ];
  off = λ k off. going.off k (only.off k off).0;
}

-- and of those so far each that is not marked stays
pub stays_more : (b : Book) (n : ℕ) (old new : List Bool) → IsMarkedOnly old new n
    → ((k : ℕ) → k < n → slice_get old k ≡ Some false → StaysAt b k)
    → (k : ℕ) → k < n + 1 → slice_get new k ≡ Some false → StaysAt b k
stays_more b n old new only stays k low off =
    let was = only.off k off in
    let other = was.1 in
    elim (cases_eq k n) [
      | inl is ↦ absurd (other is)
      | inr ne ↦ stays k (omega (arith, low, ne)) was.0
    ]

pub stays_then : (b : Book) (n : ℕ) (marks : List Bool) → (slice_get marks n ≡ Some false → StaysAt b n)
    → ((k : ℕ) → k < n → slice_get marks k ≡ Some false → StaysAt b k)
    → (k : ℕ) → k < n + 1 → slice_get marks k ≡ Some false → StaysAt b k
stays_then b n marks here stays k low off =
    elim (cases_eq k n) [
      | inl is ↦
          subst (λ (h : ℕ). StaysAt b h) (sym is)
          (here (subst (λ (h : ℕ). slice_get marks h ≡ Some false) is off))
      | inr ne ↦ stays k (omega (arith, low, ne)) off
    ]

pub going_ends : (g : Graph) (marks : List Bool) → AreEnds g marks → AreGoing g.plan g.machine.setup g.space marks
going_ends g marks ends = record {
  count = ends.count;
  on = λ k marked. inl (λ s keeps reached. ends.yes k marked s (record { keeps = keeps; reached = reached }));
  off = λ k off s keeps reached. ends.no k off s (record { keeps = keeps; reached = reached });
}

-- an act led to a number at whose state other rows are made
module _ (g : Graph) (is : IsGraph g) where
  -- what one of these numbers keeps is like nothing for which stands what the other keeps
  pub AreApart : ℕ → ℕ → Type 0
  AreApart k j = (s t u : Machine) → Keeps g.space k s → Keeps g.space j t → length s.cpus ≡ g.cpus
      → length t.cpus ≡ g.cpus → IsReached g.plan g.machine.setup t → IsReached g.plan g.machine.setup u
      → StandsFor g.plan g.machine.setup t u → ¬ AreAlike u s

  pub apart_folded : (k j : ℕ)
      → ((s t : Machine) → Keeps g.space k s → Keeps g.space j t → length s.cpus ≡ g.cpus → length t.cpus ≡ g.cpus
      → MakesNoOther s t → MakesNoOther t s → ⊥)
      → AreApart k j
  unfolding AreApart
  apart_folded k j apart s t u keeps kept count counts one other stands alike =
      let back = stands_back g.plan g.machine.setup is.begun t u one stands in
      apart s t keeps kept count counts
      (λ row x. makes_stands g.plan g.machine.setup is.begun t u one other stands row (makes_alike s u (sym alike) row x))
      (λ row x. makes_alike u s alike row (makes_stands g.plan g.machine.setup is.begun u t other one back row x))

  pub apart_plain : g.plan.folds ≡ false → (k j : ℕ)
      → ((s t : Machine) → Keeps g.space k s → Keeps g.space j t → length s.cpus ≡ g.cpus → length t.cpus ≡ g.cpus → ¬ AreAlike t s)
      → AreApart k j
  unfolding AreApart
  apart_plain plain k j apart s t u keeps kept count counts one other stands alike =
      apart s t keeps kept count counts (stands.plain plain ∙ alike)

  pub shown : (k i j : ℕ) → LeadsTo g.book k i j → AreApart k j → LeadsOn g.plan g.machine.setup g.space k
  unfolding AreApart
  shown k i j leads apart =
      let l = led laws g is k i j leads in
      let like = l.leads in
      let move = is.explored.acts.only i l.act l.doing in
      let such = reached_such laws g.plan g.machine.setup is.begun in
      record {
        act = l.act;
        move = move;
        other = λ s keeps reached alike.
            let same : l.state ≡ s = same_state laws g.plan g.machine.setup is.begun g.space k l.state s l.is.keeps keeps l.is.reached reached in
            apart s like.state (after s l.act) keeps like.keeps ((such s reached).cpus ∙ sym is.cpus)
            ((such like.state like.reached).cpus ∙ sym is.cpus) like.reached
            (reached_then laws g.plan g.machine.setup is.begun s l.act reached move)
            (subst (λ (z : Machine). StandsFor g.plan g.machine.setup like.state (after z l.act)) same like.stands) alike;
      }

  pub within : (k i j : ℕ) → LeadsTo g.book k i j → (k < length g.space.keys) × (j < length g.space.keys)
  within k i j leads =
      let low = leads_low g.book (length g.plan.acts.items) g.left k i j is.columns leads in
      let there = is.within in
      let keeps = (led laws g is k i j leads).leads.keeps in
      (omega (arith, low, there), slice_get_within g.space.keys j keeps.key keeps.is)
