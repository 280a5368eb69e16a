-- What a step of a seat does to its call, where processors halt.
use Rattle.std.proofs.Common.{◌≡◌, ℕ, ◌+◌, ◌<◌, List, [], ◌∷◌, ◌++◌, Some, None, true, false, refl}
use Rattle.std.proofs.Common.{sym, ap, ◌∙◌, subst}
use Rattle.lk_pvdomain.proofs.Names.{TableId, Me, NodeName, target, Frame, Pc, Verb, Marked, Met}
use Rattle.lk_pvdomain.proofs.Names.{Calls, Frees, Hold, Mark, Outlook, Running, StandsOn, Takes}
use Rattle.lk_pvdomain.proofs.Names.{Terms, Unchanged, lock_name, row_of, running, terms_of, Slot}
use Rattle.lk_pvdomain.proofs.Names.{turned, locks_of, went, IsNumbered, Who, Domain, View, AtOn}
use Rattle.lk_pvdomain.proofs.Names.{EndedOn, HaltedOn, Start, woken}
use Rattle.lk_rows.specs.{Acts.{stands_halting, after_halt}, TopRow.Halted}
use Rattle.lk_law.specs.{Leads.held_lock, Sound.takes_wait}
use Rattle.lk_domain.specs.Calls.{mark, read_at, sight_of, halted_after, Grip, holds_after}
use Rattle.lk_domain.specs.{Calls.taken_after, Paths.{next_frame, row_grip, awoken}}
use Rattle.lk_domain.specs.{Plays.{turned_of, turned_on, turned_at}, Standing.{Outside, IsAt}}
use Rattle.lk_domain.specs.Views.{own_number}
use Rattle.lk_pvdomain.specs.{PvPaths.{IsSeat, IsStill, calls_at, freed}, PvPlays.stirred}
use Rattle.lk_domain.proofs.Standing as path

-- where a row leads that goes on, and what its frame then is
pub record Goes (t : Terms) (p : ℕ) (z : Outlook) (c : Pc) (f : Frame) (x : Met) (e : Pc) (Q : Frame → Type 0) : Type 0 where
  pub place : (next_frame t.mode p z c f x).place ≡ Some e
  pub grip : row_grip t.mode p z c f x ≡ Unchanged
  pub lock : (next_frame t.mode p z c f x).lock ≡ f.lock
  pub wakes : halted_after (target c f) false ≡ false
  pub has : Q (next_frame t.mode p z c f x)

-- one that ends the call, and does this to the holds of the lock on which its frame acts
pub record Ends (t : Terms) (p : ℕ) (z : Outlook) (c : Pc) (f : Frame) (x : Met) (grip : Grip) : Type 0 where
  pub place : (next_frame t.mode p z c f x).place ≡ None
  pub grips : row_grip t.mode p z c f x ≡ grip
  pub own : held_lock (target c f) f ≡ f.lock
  pub wakes : halted_after (target c f) false ≡ false

-- the seat stays that of its processor
pub moved_seat : {d : Domain} {own : NodeName} {ta tb : TableId} {a b : Me Slot View} → IsSeat d own ta a → tb ≡ ta → b.0.who ≡ a.0.who
    → IsSeat d own tb b
moved_seat o same who =
    record {
      table_is = same ∙ o.table_is;
      plan = ap (λ (q : Who). q.plan) who ∙ o.plan;
      halting = o.halting;
      number = ap (λ (q : Who). q.number) who ∙ o.number;
      near = o.near;
      index = o.index;
    }

pub moved_still : {d : Domain} {own : NodeName} {s : Start} {ta tb : TableId} {ia ib : ℕ} {a b : Me Slot View} → IsStill d own s ta ia a
    → (tb ≡ ta) × (ib ≡ ia) → b.0.who ≡ a.0.who → b.1 ≡ a.1 → b.0.calls.halted ≡ false → b.0.calls.looked ≡ 0 → IsStill d own s tb ib b
moved_still w same who slots awake fresh =
    record {
      of = moved_seat w.of same.0 who;
      table_was = same.0 ∙ w.table_was;
      id_was = same.1 ∙ w.id_was;
      who = who ∙ w.who;
      slots = slots ∙ w.slots;
      awake = awake;
      fresh = fresh;
    }

-- the release has freed the lock since
pub freed_still : {d : Domain} {own : NodeName} {s : Start} {ta : TableId} {ia : ℕ} {a : Me Slot View} (l : ℕ) (t : List Mark)
    → IsStill d own s ta ia a → IsStill d own (freed s l t) ta ia a
freed_still l t w =
    record { of = w.of; table_was = w.table_was; id_was = w.id_was; who = w.who; slots = w.slots; awake = w.awake; fresh = w.fresh }

-- a call that stands at a row, by its parts

abbrev pub stood : {d : Domain} {v : Verb} {l : ℕ} {own : NodeName} {s : Start} {c : Pc} {P : Frame → Type 0} {ta : TableId} {ia : ℕ}
    {a : Me Slot View} → IsStill d own s ta ia a → l < locks_of d.plan → takes_wait v ≡ false → a.0.ledger ≡ s.ledger
    → IsAt (terms_of d.plan) own.cpu v l c P (calls_at s) a.0.calls → AtOn d v l own s c P ta ia a
stood still low plain ledger at =
    record {
      of = still.of;
      low = low;
      plain = plain;
      table_was = still.table_was;
      id_was = still.id_was;
      who = still.who;
      holds = at.on.holds;
      taken = at.taken;
      ledger = ledger;
      slots = still.slots;
      awake = still.awake;
      fresh = still.fresh;
      frame = at.on.frame;
      trail = at.on.trail;
      walk = at.on.walk;
      frames = at.on.frames;
      place = at.on.place;
      lock = at.on.lock;
      ctx = at.on.ctx;
      has = at.on.has;
    }

module _ {d : Domain} {v : Verb} {l : ℕ} {own : NodeName} {s : Start} {c : Pc} {P : Frame → Type 0} {ta : TableId} {ia : ℕ}
    {a : Me Slot View} (w : AtOn d v l own s c P ta ia a) where
  abbrev pub still_of : IsStill d own s ta ia a
  still_of =
      record { of = w.of; table_was = w.table_was; id_was = w.id_was; who = w.who; slots = w.slots; awake = w.awake; fresh = w.fresh }

  -- its frame meets this condition too, and its calls are these
  abbrev pub stays_at : {b : Calls} (Q : Frame → Type 0) → Q w.frame → b.frames ≡ a.0.calls.frames → b.holds ≡ a.0.calls.holds
      → b.taken ≡ a.0.calls.taken → IsAt (terms_of d.plan) own.cpu v l c Q (calls_at s) b
  stays_at {b} Q has frames holds taken =
      record {
        on = record {
          frame = w.frame;
          trail = w.trail;
          walk = w.walk;
          frames = frames ∙ w.frames;
          holds = holds ∙ w.holds;
          taken = path.none_taken s.taken b.taken (taken ∙ w.taken);
          place = w.place;
          lock = w.lock;
          ctx = w.ctx;
          after = λ e. path.no_wait e;
          free = path.never_waits v w.plain;
          has = has;
        };
        taken = taken ∙ w.taken;
      }

  abbrev pub at_of : IsAt (terms_of d.plan) own.cpu v l c P (calls_at s) a.0.calls
  at_of = stays_at P w.has refl refl refl

-- the call makes its row, which meets x
module _ {d : Domain} {v : Verb} {l : ℕ} {own : NodeName} {s : Start} {c : Pc} {P : Frame → Type 0} {ta tb : TableId} {ia ib : ℕ}
    {a b : Me Slot View} (w : AtOn d v l own s c P ta ia a) (same : (tb ≡ ta) × (ib ≡ ia)) (x : Met)
    (step : b ≡ (went a.0 x, a.1)) where
  abbrev t : Terms
  t = terms_of d.plan

  abbrev f : Frame
  f = w.frame

  abbrev z : Outlook
  z = sight_of (terms_of d.plan) own.cpu a.0.calls.runs

  abbrev trail : List Mark
  trail = w.trail ++ mark c x (read_at c z) ∷ []

  abbrev next : Frame
  next = next_frame t.mode own.cpu z c f x

  terms_are : terms_of a.0.who.plan ≡ t
  terms_are = ap terms_of w.of.plan

  number_is : own_number a.0.who.number ≡ own.cpu
  number_is = ap own_number w.of.number

  calls : b.0.calls ≡ row_of t own.cpu a.0.calls x
  calls = ap (λ (m : Me Slot View). m.0.calls) step ∙ (λ i. row_of (terms_are i) (number_is i) a.0.calls x)

  turns : b.0.ledger ≡ turned a.0.ledger (held_lock (target c f) f) (row_grip t.mode own.cpu z c f x) trail
  turns =
      ap (λ (m : Me Slot View). m.0.ledger) step
      ∙ ((λ i. turned_of (terms_are i) (number_is i) a.0.calls x a.0.ledger)
      ∙ (ap (λ (rs : List Running). turned_on t.mode own.cpu z rs x a.0.ledger) w.frames
      ∙ ap (λ q. turned_at t.mode own.cpu z (running v f w.trail) x a.0.ledger q) w.place))

  -- a row at which the processor does not halt
  stays : halted_after (target c f) false ≡ false → IsStill d own s tb ib b
  stays wakes =
      let is = path.rowed (at_of w).on x calls in
      moved_still (still_of w) same (ap (λ (m : Me Slot View). m.0.who) step) (ap (λ (m : Me Slot View). m.1) step)
      (ap (λ (k : Calls). k.halted) is ∙ (ap (λ y. halted_after (target c f) y) w.awake ∙ wakes)) (ap (λ (k : Calls). k.looked) is)

  -- it goes on
  pub goes : (e : Pc) (Q : Frame → Type 0) → Goes t own.cpu z c f x e Q → AtOn d v l own s e Q tb ib b
  goes e Q g =
      stood (stays g.wakes) w.low w.plain
      (turns ∙ (ap (λ y. turned a.0.ledger (held_lock (target c f) f) y trail) g.grip ∙ w.ledger))
      (path.moves (at_of w) x calls e Q g.place g.grip g.lock g.has)

  pub goes_trail : (e : Pc) (Q : Frame → Type 0) (g : Goes t own.cpu z c f x e Q) → (goes e Q g).trail ≡ trail
  unfolding goes
  goes_trail e Q g = refl

  -- the trail of a call that is over
  pub last_is : next.place ≡ None → b.0.calls.last ≡ trail
  last_is place = path.last_is (at_of w).on x calls place

  -- it is over
  pub ends : (grip : Grip) → Ends t own.cpu z c f x grip → EndedOn d v l own s grip tb ib b
  ends grip e =
      let count : b.0.calls.taken ≡ taken_after grip a.0.calls.taken = path.count_after (at_of w).on x calls grip e.grips in
      record {
        still = stays e.wakes;
        frames = path.frames_off (at_of w).on x calls e.place;
        path = path.path_is (at_of w).on x calls grip e.place e.grips;
        holds = path.holds_is (at_of w).on x calls grip (lock_name l) e.grips (e.own ∙ w.lock)
            ∙ (counted grip a.0.calls.taken b.0.calls.taken a.0.calls.holds count ∙ ap (λ hs. holds_after grip 0 (lock_name l) b.0.calls.taken hs) w.holds);
        taken = count ∙ ap (λ n. taken_after grip n) w.taken;
        ledger = turns
            ∙ ((λ i. turned (w.ledger i) ((e.own ∙ w.lock) i) (e.grips i) trail)
            ∙ ap (λ ks. turned s.ledger (lock_name l) grip ks) (sym (last_is e.place)));
      }
    where
      counted : (y : Grip) (m n : ℕ) (hs : List Hold) → n ≡ taken_after y m → holds_after y 0 (lock_name l) (m + 1) hs ≡ holds_after y 0 (lock_name l) n hs
      counted Unchanged m n hs e = refl
      counted (Takes how) m n hs e = ap (λ j. holds_after (Takes how) 0 (lock_name l) j hs) (sym e)
      counted Frees m n hs e = refl

  -- it frees its lock, and goes on
  pub yields : (e : Pc) (Q : Frame → Type 0) → next.place ≡ Some e → row_grip t.mode own.cpu z c f x ≡ Frees
      → held_lock (target c f) f ≡ f.lock → next.lock ≡ f.lock → halted_after (target c f) false ≡ false → Q next
      → AtOn d v l own (freed s l trail) e Q tb ib b
  yields e Q place is own' lock wakes has =
      let count : b.0.calls.taken ≡ s.taken = path.count_after (at_of w).on x calls Frees is ∙ w.taken in
      stood (freed_still l trail (stays wakes)) w.low w.plain (turns ∙ (λ i. turned (w.ledger i) ((own' ∙ w.lock) i) (is i) trail)) (record {
        on = path.leads (at_of w).on x calls Outside false (holds_after Frees 0 (lock_name l) (s.taken + 1) s.holds) e Q place (lock ∙ w.lock)
            (λ e. path.no_wait e)
            (path.holds_is (at_of w).on x calls Frees (lock_name l) is (own' ∙ w.lock)
            ∙ ap (λ hs. holds_after Frees 0 (lock_name l) (a.0.calls.taken + 1) hs) w.holds)
            (path.none_taken s.taken b.0.calls.taken count) (path.never_waits v w.plain) has;
        taken = count;
      })

  pub yields_trail : (e : Pc) (Q : Frame → Type 0) (place : next.place ≡ Some e) (is : row_grip t.mode own.cpu z c f x ≡ Frees)
      (own' : held_lock (target c f) f ≡ f.lock) (lock : next.lock ≡ f.lock) (wakes : halted_after (target c f) false ≡ false) (has : Q next)
      → (yields e Q place is own' lock wakes has).trail ≡ trail
  unfolding yields
  yields_trail e Q place is own' lock wakes has = refl

-- a call that stands at a row
module _ {d : Domain} {v : Verb} {l : ℕ} {own : NodeName} {s : Start} {c : Pc} {P : Frame → Type 0} {ta : TableId} {ia : ℕ}
    {a : Me Slot View} (w : AtOn d v l own s c P ta ia a) where
  abbrev pub stands : StandsOn a.0.calls v (lock_name l) c
  stands = path.stands (at_of w).on

  -- what its row asks
  pub numbered : IsNumbered a.0
  numbered = (own.cpu, w.of.number)

-- the processor halts, and a kick ends the halt
module _ {d : Domain} {v : Verb} {l : ℕ} {own : NodeName} {s : Start} {c : Pc} {P : Frame → Type 0} {ta tb : TableId} {ia ib : ℕ}
    {a b : Me Slot View} (w : AtOn d v l own s c P ta ia a) (same : (tb ≡ ta) × (ib ≡ ia)) (step : b ≡ (went a.0 (Marked false), a.1))
    (halts : target c w.frame ≡ Halted)
    (still : next_frame (terms_of d.plan).mode own.cpu (sight_of (terms_of d.plan) own.cpu a.0.calls.runs) c w.frame (Marked false) ≡ record w.frame { place = Some c })
    (grip : row_grip (terms_of d.plan).mode own.cpu (sight_of (terms_of d.plan) own.cpu a.0.calls.runs) c w.frame (Marked false) ≡ Unchanged) where
  abbrev put : Frame
  put = next_frame (terms_of d.plan).mode own.cpu (sight_of (terms_of d.plan) own.cpu a.0.calls.runs) c w.frame (Marked false)

  put_place : put.place ≡ Some c
  put_place = ap (λ (f : Frame). f.place) still

  abbrev here : IsAt (terms_of d.plan) own.cpu v l c (λ g. g ≡ record w.frame { place = Some c }) (calls_at s) b.0.calls
  here = path.moves (at_of w) (Marked false) (calls w same (Marked false) step) c (λ g. g ≡ record w.frame { place = Some c }) put_place grip
      (ap (λ (f : Frame). f.lock) still) still

  pub asleep : b.0.calls.halted ≡ true
  asleep = ap (λ (k : Calls). k.halted) (path.rowed (at_of w).on (Marked false) (calls w same (Marked false) step))
      ∙ ap (λ y. halted_after y a.0.calls.halted) halts

  module _ {tc : TableId} {ic : ℕ} {m : Me Slot View} (same' : (tc ≡ tb) × (ic ≡ ib)) (wakes : m ≡ (woken b.0, b.1)) where
    pub sleeps : (e : Pc) (Q : Frame → Type 0) → stands_halting (Some c) ≡ true → after_halt (Some c) ≡ Some e
        → Q (record w.frame { place = Some e }) → AtOn d v l own s e Q tc ic m
    sleeps e Q at to has =
        let is = path.rowed (at_of w).on (Marked false) (calls w same (Marked false) step) in
        let count : m.0.calls.taken ≡ s.taken = ap (λ (n : Me Slot View). n.0.calls.taken) wakes ∙ here.taken in
        stood
        (moved_still (still_of w) (same'.0 ∙ same.0, same'.1 ∙ same.1)
        (ap (λ (n : Me Slot View). n.0.who) wakes ∙ ap (λ (n : Me Slot View). n.0.who) step)
        (ap (λ (n : Me Slot View). n.1) wakes ∙ ap (λ (n : Me Slot View). n.1) step)
        (ap (λ (n : Me Slot View). n.0.calls.halted) wakes)
        (ap (λ (n : Me Slot View). n.0.calls.looked) wakes ∙ ap (λ (k : Calls). k.looked) is))
        w.low w.plain
        (ap (λ (n : Me Slot View). n.0.ledger) wakes
        ∙ (turns w same (Marked false) step
        ∙ (ap (λ y. turned a.0.ledger (held_lock (target c w.frame) w.frame) y here.on.trail) grip ∙ w.ledger)))
        (record {
          on = record {
            frame = record put { place = after_halt put.place };
            trail = here.on.trail;
            walk = awoken here.on.trail put w.of.halting here.on.walk (ap stands_halting put_place ∙ at);
            frames = ap (λ (n : Me Slot View). n.0.calls.frames) wakes ∙ ap stirred here.on.frames;
            holds = ap (λ (n : Me Slot View). n.0.calls.holds) wakes ∙ here.on.holds;
            taken = path.none_taken s.taken m.0.calls.taken count;
            place = ap after_halt put_place ∙ to;
            lock = here.on.lock;
            ctx = here.on.ctx;
            after = λ e. path.no_wait e;
            free = path.never_waits v w.plain;
            has = subst Q (sym (λ i. record (still i) { place = (ap after_halt put_place ∙ to) i })) has;
          };
          taken = count;
        })

  -- and it is asleep until then
  pub rests : (e : Pc) (Q : Frame → Type 0) → stands_halting (Some c) ≡ true → after_halt (Some c) ≡ Some e
      → Q (record w.frame { place = Some e }) → HaltedOn d v l own s c e Q tb ib b
  rests e Q at to has =
      record {
        asleep = asleep;
        call = running v put here.on.trail;
        only = here.on.frames;
        place = put_place;
        wakes = sleeps (refl, refl) refl e Q at to has;
      }
