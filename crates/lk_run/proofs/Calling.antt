-- What a row does to a call that queues, and rows that follow each other.
use Rattle.std.proofs.Common.{◌≡◌, ℕ, Option, Some, None, Bool, true, false, refl, sym, ap, ◌∙◌}
use Rattle.std.proofs.Common.{IfSome, subst}
use Rattle.std.specs.Option.{ForSome}
use Rattle.lk_run.proofs.Names.{Fields, NodeName, Frame, Pc, G1, after_fast, is_rw_row, Met, Number}
use Rattle.lk_run.proofs.Names.{Word, counting, readies, Any, ActsIn, MadeBy, rowed, is_swap}
use Rattle.lk_run.proofs.Names.{is_watch, IsOf, KeepsRest, calls_of, view_of, Outside, IsNode, Cpu}
use Rattle.lk_run.proofs.Names.{View, Owns, StandsAs, At, Steps, Rest}
use Rattle.lk_word.specs.SpinWord.{packed, IsPackable}
use Rattle.lk_rows.specs.declared.parts.Pc.TheVariants.{G2}
use Rattle.lk_domain.proofs.Standing.{stays}
use Rattle.lk_domain.specs.{Calls.slows, NodePlays.{AtRow, AtEntry}, Plans.layout_in}
use Rattle.lk_domain.specs.Rows.{is_patient}
use Rattle.lk_run.proofs.Steps.{still_of, rest_both}
use Rattle.lk_run.proofs.Ways.{Leads, Ends, sees, ready_row, queues_patient, queues_inside, then_is}
use Rattle.lk_run.specs.Resting.{Came, Turns, Turned}
use Rattle.lk_run.specs.{Words.{Waits, Looks, LooksOn, Takes, IsNext}, declared.call.Call.Call}
use Rattle.lk_run.proofs.Rows as rows
use Rattle.lk_domain.specs.Rows as row
use Rattle.lk_run.proofs.Stepped as way

-- what is behind a value, if there is one

pub if_some : {A : Type 0} (P : A → Type 0) (o : Option A) → ForSome o P → IfSome o P
if_some P None h = tt
if_some P (Some x) h = h x refl

pub for_some : {A : Type 0} (P : A → Type 0) (o : Option A) → IfSome o P → ForSome o P
for_some P None h x e = absurd (cc e)
for_some P (Some y) h x e = let same : y ≡ x = cc e in subst P same h

-- a row of the call

module _ {w : Call} {a b : Cpu} (of : IsOf a w.domain.now) (rest : KeepsRest a b) (x : Met)
    (step : view_of b ≡ rowed (view_of a) (calls_of a) x) {c : Pc} {P : Frame → Type 0} where
  pub steps_by : (e : Pc) (Q : Frame → Type 0) → (e ≡ c → ⊥)
      → ((f : Frame) → P f → Leads w.domain.now.plan.mode b.number (sees w.domain.now a b) c f x e Q) → Steps w c P e Q a b
  steps_by e Q other leads =
      record {
        rest = rest;
        goes = λ s told y. way.on_goes w.domain.now w.verb w.lock a b rest of x step c P Outside s told y e Q other leads;
      }

  pub looks_by : (Q : Frame → Type 0) → ((f : Frame) → P f → Leads w.domain.now.plan.mode b.number (sees w.domain.now a b) c f x c Q)
      → LooksOn w c P Q a b
  looks_by Q leads =
      record {
        rest = rest;
        stays = λ s told y. way.on_looks_as w.domain.now w.verb w.lock a b rest of x step c P Outside s told y Q leads;
      }

  pub takes_by : is_rw_row c ≡ false → ((f : Frame) → P f → Ends w.domain.now.plan.mode b.number (sees w.domain.now a b) c f x)
      → Takes w c P a b
  takes_by spin ends =
      record {
        rest = rest;
        has = λ s told y. way.on_takes w.domain.now w.verb w.lock a b rest of x step c P s told y w.queues spin ends;
      }

-- a call that stands there has a frame that meets another condition too
pub weaker : {w : Call} {c : Pc} {P Q : Frame → Type 0} {a : Cpu} (at : At w c P a)
    → Q at.waits.looked.at.frame → At w c Q a
weaker {Q} at has =
    let looked = at.waits.looked in
    record {
      domain = at.domain;
      start = at.start;
      told = at.told;
      waits = record {
        looked = record {
          at = stays looked.at Q has refl looked.at.holds looked.at.taken;
          passes = looked.passes;
          falls = looked.falls;
          stays = looked.stays;
          once = looked.once;
        };
        rises = at.waits.rises;
      };
    }

-- a call that stands there
module _ {w : Call} {c : Pc} {P : Frame → Type 0} {a : Cpu} (at : At w c P a) where
  abbrev pub standing : StandsAs Outside w.domain.now w.verb w.lock c P a
  standing = (at.start.calls, at.waits.looked.at)

  -- what the step calls ask of it

  abbrev pub at_row : AtRow c w.verb w.lock (view_of a)
  at_row = way.at_row w.domain.now w.verb w.lock c P a w.queues standing

  abbrev pub patient : is_patient w.verb ≡ true
  patient = queues_patient w.verb w.lock w.queues

  abbrev pub acts_in : (kind : Pc → Bool) → kind c ≡ true → ActsIn kind (view_of a) w.verb w.lock
  acts_in kind is = way.acts_in w.domain.now w.verb w.lock c P a w.queues standing kind is

  abbrev pub looks_in : is_watch c ≡ true → ActsIn (row.looks_by w.verb) (view_of a) w.verb w.lock
  looks_in is = way.looks_in w.domain.now w.verb w.lock c P a w.queues standing is

  abbrev pub takes_in : is_swap c ≡ true → ActsIn (row.takes_by w.verb) (view_of a) w.verb w.lock
  takes_in is = way.takes_in w.domain.now w.verb w.lock c P a w.queues standing is

  -- a step of it on the word of its lock
  module _ {b : Cpu} (rest : KeepsRest a b) {met : ℕ} (made : MadeBy w.verb w.lock.index a.seat.me met b.seat.me) where
    pub word : view_of b ≡ rowed (view_of a) (calls_of a) (Word made.found)
    word = way.on_word w.domain.now w.verb w.lock a b rest at.domain made at.waits.looked.at

    pub word_steps : (e : Pc) (Q : Frame → Type 0) → (e ≡ c → ⊥)
        → ((f : Frame) → P f → Leads w.domain.now.plan.mode b.number (sees w.domain.now a b) c f (Word made.found) e Q)
        → Steps w c P e Q a b
    word_steps e Q other leads = steps_by at.domain rest (Word made.found) word e Q other leads

    pub word_looks : ((f : Frame) → P f → Leads w.domain.now.plan.mode b.number (sees w.domain.now a b) c f (Word made.found) c P)
        → Looks w c P a b
    word_looks leads = looks_by at.domain rest (Word made.found) word P leads

    pub word_takes : is_rw_row c ≡ false
        → ((f : Frame) → P f → Ends w.domain.now.plan.mode b.number (sees w.domain.now a b) c f (Word made.found)) → Takes w c P a b
    word_takes spin ends = takes_by at.domain rest (Word made.found) word spin ends

-- rows that follow each other

module _ {w : Call} {a : Pc} {P : Frame → Type 0} where
  module _ {b : Pc} {Q : Frame → Type 0} {x y : Cpu} where
    -- after a row
    pub stepped : Steps w a P b Q x y → At w a P x → At w b Q y
    stepped step at =
        record {
          domain = still_of w.domain.now x y step.rest at.domain;
          start = at.start;
          told = at.told;
          waits = step.goes at.start at.told at.waits;
        }

    pub step_takes : {z : Cpu} → Steps w a P b Q x y → Takes w b Q y z → Takes w a P x z
    step_takes {z} step won = record { rest = rest_both x y z step.rest won.rest; has = λ s t h. won.has s t (step.goes s t h) }

    pub step_both : {e : Pc} {R : Frame → Type 0} {z : Cpu} → Steps w a P b Q x y → Steps w b Q e R y z → Steps w a P e R x z
    step_both {z} one two = record { rest = rest_both x y z one.rest two.rest; goes = λ s t h. two.goes s t (one.goes s t h) }

-- the count of handoffs was read
module _ {w : Call} {c : Pc} {P : Frame → Type 0} {a m : Cpu} (rest : KeepsRest a m) (r : ℕ) (same : view_of m ≡ counting r (view_of a)) where
  pub counted : At w c P a → At w c P m
  counted at =
      record {
        domain = still_of w.domain.now a m rest at.domain;
        start = at.start;
        told = at.told;
        waits = way.counted_waits w.domain.now w.verb w.lock a m rest r same c P at.start at.told at.waits;
      }

  pub counted_steps : {e : Pc} {Q : Frame → Type 0} {b : Cpu} → Steps w c P e Q m b → Steps w c P e Q a b
  counted_steps {b} step =
      record {
        rest = rest_both a m b rest step.rest;
        goes = λ s t h. step.goes s t (way.counted_waits w.domain.now w.verb w.lock a m rest r same c P s t h);
      }

  pub counted_looks : {Q : Frame → Type 0} {b : Cpu} → LooksOn w c P Q m b → LooksOn w c P Q a b
  counted_looks {b} look =
      record {
        rest = rest_both a m b rest look.rest;
        stays = λ s t h. look.stays s t (way.counted_waits w.domain.now w.verb w.lock a m rest r same c P s t h);
      }

-- where the word leads that the first row met
module _ (w : Call) {met : ℕ} {word : Fields} (is : (found : Fields) → IsPackable (layout_in w.domain.now.plan) found
    → met ≡ packed (layout_in w.domain.now.plan) found → word ≡ found) {q : Pc} (leads : q ≡ after_fast w.domain.now.plan.mode word) where
  here : (found : Fields) → IsPackable (layout_in w.domain.now.plan) found → met ≡ packed (layout_in w.domain.now.plan) found
      → after_fast w.domain.now.plan.mode found ≡ q
  here found packs meets = sym (leads ∙ ap (after_fast w.domain.now.plan.mode) (is found packs meets))

  pub came_at : {a : Cpu} → Came w met a → At w q Any a
  came_at {a} h =
      let s = h.start in
      let x = h.arrives in
      record {
        domain = h.domain;
        start = s;
        told = h.told;
        waits = subst (λ p. Waits w p Any s a h.told) (here x.found x.packs x.word) x.waits;
      }

  pub turned_by : {a b : Cpu} {n : Option Rest} → Turns w q Any n a b → Turned w met n a b
  turned_by {a} turn =
      record {
        rest = turn.rest;
        has = λ e s t h. turn.has e s t (subst (λ p. Waits w p Any s a t) (here h.found h.packs h.word) h.waits);
        fits = turn.fits;
        owes = λ r e s t h. turn.owes r e s t (subst (λ p. Waits w p Any s a t) (here h.found h.packs h.word) h.waits);
      }

-- the row G1 with a node, after so many private stores
module _ {w : Call} {a : Cpu} (at : At w G1 Any a) {own : NodeName} (next : IsNext own a) (node : IsNode w.domain.now.plan own) where
  pub entry_at : (k : ℕ) → AtEntry own w.verb (readies k (view_of a))
  entry_at k =
      let on = at.waits.looked.at in
      record {
        lock = w.lock;
        at = record {
          stands = record { frame = on.frame; trail = on.trail; rest = at.start.calls.frames; is = on.frames; place = on.place; lock = on.lock };
          patient = queues_patient w.verb w.lock w.queues;
          inside = queues_inside w.verb w.lock w.queues;
          after = then_is w.verb w.lock on.frame.then w.queues on.after;
        };
        cpu = a.numbered ∙ ap Some (sym next.cpu_is);
        index = next.index;
        low = node.index;
      }

  pub entry : AtEntry own w.verb (view_of a)
  entry = record { lock = w.lock; at = at_row at; cpu = a.numbered ∙ ap Some (sym next.cpu_is); index = next.index; low = node.index }

  pub enters : {b : Cpu} (rest : KeepsRest a b) (k : ℕ) (m : Cpu) → view_of m ≡ readies k (view_of a)
      → view_of b ≡ rowed (view_of m) (calls_of m) (Number (slows (calls_of m).frames)) → Steps w G1 Any G2 (Owns own) a b
  enters rest k m reset last =
      let on = at.waits.looked.at in
      let n = slows (calls_of a).frames in
      let same : rowed (view_of m) (calls_of m) (Number (slows (calls_of m).frames)) ≡ rowed (view_of a) (calls_of a) (Number n) =
      ap (λ (v : View). rowed v v.calls (Number (slows v.calls.frames))) reset
      ∙ ready_row k (view_of a) w.verb on.frame on.trail at.start.calls.frames n on.frames on.place in
      steps_by at.domain rest (Number n) (last ∙ same) G2 (Owns own) (λ e. cc e)
      (λ f has. rows.enters _ _ f at.domain.awake own n (next.cpu_is ∙ sym rest.same.number) next.index node.index)
