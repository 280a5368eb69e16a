-- What a row does to a reader or a writer that waits, and rows that follow each other.
use Rattle.std.proofs.Common.{◌≡◌, ℕ, Option, Some, None, Bool, true}
use Rattle.lk_run.proofs.Names.{Manner, wait_name, Frame, Pc, F1, U1, Verb, Shared, after_wait}
use Rattle.lk_run.proofs.Names.{is_taking, lock_name, waits_in, Any, rowed, ActsFor, SharedBy}
use Rattle.lk_run.proofs.Names.{KeepsRest, calls_of, view_of, Inside, Outside, Cpu, Domain, CameIn}
use Rattle.lk_run.proofs.Names.{Passed, StandsAs, Start, Waiter, waiter}
use Rattle.lk_run.proofs.{Steps.{still_of, rest_both}, Ways.{Leads, sees}}
use Rattle.lk_run.specs.Waiters.{Waits, At, Steps, Looks, Gets}
use Rattle.lk_run.proofs.RwRows as row
use Rattle.lk_run.proofs.RwSteps as rw
use Rattle.lk_run.proofs.Stepped as way

-- without the wait lock, and with it

abbrev pub out : Domain → Verb → ℕ → Waiter
out d v l = waiter Outside d v (lock_name l)

abbrev pub within : Domain → Verb → ℕ → Waiter
within d v l = waiter Inside d v (wait_name l)

-- a call that stands there
module _ {w : Waiter} {c : Pc} {a : Cpu} (at : At w c a) where
  abbrev standing : StandsAs w.stage w.domain w.verb w.lock c Any a
  standing = (at.start.calls, at.waits.looked.at)

  -- what the step calls ask of it
  pub acts : (kind : Pc → Bool) → kind c ≡ true → ActsFor kind (view_of a) w.verb w.lock.index
  acts kind is = rw.acts_for w.domain w.verb w.lock c Any w.stage a standing kind is

  pub waits_on : waits_in (calls_of a).frames w.lock.index ≡ true
  waits_on = rw.waits_on w.domain w.verb w.lock c Any w.stage a standing

  -- a step of it on the word of its lock
  module _ {b : Cpu} (rest : KeepsRest a b) (takes : is_taking w.verb ≡ true) {met : ℕ}
      (made : SharedBy w.verb w.lock.index a.seat.me met b.seat.me) where
    word : view_of b ≡ rowed (view_of a) (calls_of a) (Shared made.found)
    word = way.on_shared w.domain w.verb w.lock a b rest at.domain made at.waits.looked.at

    pub steps : (e : Pc) → (e ≡ c → ⊥) → ((f : Frame) → Leads w.domain.plan.mode b.number (sees w.domain a b) c f (Shared made.found) e Any)
        → Steps w c e a b
    steps e other leads =
        record {
          rest = rest;
          goes = λ s told y. way.on_goes w.domain w.verb w.lock a b rest at.domain (Shared made.found) word c Any w.stage s told y e Any other (λ f has. leads f);
        }

    pub looks : ((f : Frame) → Leads w.domain.plan.mode b.number (sees w.domain a b) c f (Shared made.found) c Any) → Looks w c a b
    looks leads =
        record {
          rest = rest;
          stays = λ s told y. way.on_looks w.domain w.verb w.lock a b rest at.domain (Shared made.found) word c Any w.stage s told y (λ f has. leads f);
        }

-- one without the wait lock
module _ {d : Domain} {v : Verb} {l : ℕ} {c : Pc} {a b : Cpu} (at : At (out d v l) c a) (rest : KeepsRest a b) (takes : is_taking v ≡ true)
    {met : ℕ} (made : SharedBy v l a.seat.me met b.seat.me) where
  pub enters : (m : Manner) → ((f : Frame) → row.TakesBy d.plan.mode b.number (sees d a b) c f (Shared made.found) m None)
      → Gets (out d v l) c (CameIn d v l m) a b
  enters m leads = record { rest = rest; has = λ s told y. rw.on_enters d v l a b rest at.domain takes made c s told y m leads }

  pub sets_out : (e : Pc) → ((f : Frame) → row.SetsOut d.plan.mode b.number (sees d a b) c f (Shared made.found) e) → Some e ≡ after_wait v → (F1 ≡ c → ⊥)
      → Gets (out d v l) c (Waits (record { stage = Outside; domain = d; verb = v; lock = wait_name l }) F1) a b
  sets_out e leads next other =
      record { rest = rest; has = λ s told y. rw.on_sets_out d v l a b rest at.domain takes made c s told y e leads next other }

-- one with it
module _ {d : Domain} {v : Verb} {l : ℕ} {c : Pc} {a b : Cpu} (at : At (within d v l) c a) (rest : KeepsRest a b) (takes : is_taking v ≡ true)
    {met : ℕ} (made : SharedBy v l a.seat.me met b.seat.me) where
  pub passes : (m : Manner) → ((f : Frame) → row.TakesBy d.plan.mode b.number (sees d a b) c f (Shared made.found) m (Some U1)) → (U1 ≡ c → ⊥)
      → Gets (within d v l) c (Passed d v l m) a b
  passes m leads other = record { rest = rest; has = λ s told y. rw.on_passes d v l a b rest at.domain takes made c s told y m leads other }

-- rows that follow each other

module _ {w : Waiter} {a : Pc} where
  module _ {b : Pc} {x y : Cpu} where
    -- after a row
    pub stepped : Steps w a b x y → At w a x → At w b y
    stepped step at =
        record {
          domain = still_of w.domain x y step.rest at.domain;
          start = at.start;
          told = at.told;
          waits = step.goes at.start at.told at.waits;
        }

    pub step_both : {e : Pc} {z : Cpu} → Steps w a b x y → Steps w b e y z → Steps w a e x z
    step_both {z} one two = record { rest = rest_both x y z one.rest two.rest; goes = λ s t h. two.goes s t (one.goes s t h) }

    pub step_gets : {E : Start → Cpu → Option ℕ → Type 0} {z : Cpu} → Steps w a b x y → Gets w b E y z → Gets w a E x z
    step_gets {z} step got = record { rest = rest_both x y z step.rest got.rest; has = λ s t h. got.has s t (step.goes s t h) }
