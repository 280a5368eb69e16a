-- Turns of a call that waits, and what polls leave between them.
use Rattle.std.proofs.Common.{◌≡◌, ◌+◌, ◌≤◌, ℕ, Bool, false, List, Option, Some, None, refl, sym}
use Rattle.std.proofs.Common.{ap, subst, arith}
use Rattle.lk_run.proofs.Names.{LockName, Frame, Pc, F1, Verb, Running, told, Any, AreKept, IsOf}
use Rattle.lk_run.proofs.Names.{KeepsRest, calls_of, ledger_of, view_of, Outside, Cpu, Domain, Plan}
use Rattle.lk_run.proofs.Names.{HasPolled, OwesPoll, Start, Waiter, newest, waiter, GivesWay, Path}
use Rattle.lk_run.proofs.Names.{At, Steps, Rest}
use Rattle.lk_domain.specs.Standing.{locks_at}
use Rattle.lk_run.proofs.Steps.{still_of, rest_both, rest_same, passes_none}
use Rattle.lk_run.specs.Resting.{Arrived, Came, Fits, KnowsIn, Rests, Owes, RestsAt, Turns, Turned}
use Rattle.lk_run.specs.{Resting.{row_at, frame_at}, Turns.{Turn, Earns, Begun}}
use Rattle.lk_run.specs.{Words.{Meets, LooksOn, Takes}, declared.call.Call.Call}
use Rattle.lk_run.proofs.Stepped as way

-- turns of any call

module _ {A : Type 0} {At Won : Start → Cpu → Option ℕ → Type 0} {Fits' : A → Cpu → Type 0} {Owes' : A → Start → Cpu → Option ℕ → Type 0}
    {x y : Cpu} where
  -- it has what it waits for
  pub ends : KeepsRest x y → ((s : Start) (t : Option ℕ) → At s x t → Won s y t) → Turn A At Won Fits' Owes' None x y
  ends rest has =
      record { rest = rest; has = λ e s t h. has s t h; fits = λ r e. absurd (cc e); owes = λ r e s t h. absurd (cc e) }

  -- it rests
  pub rests : (r : A) → KeepsRest x y → Fits' r y → ((s : Start) (t : Option ℕ) → At s x t → Owes' r s y t)
      → Turn A At Won Fits' Owes' (Some r) x y
  rests r rest fits owes =
      record {
        rest = rest;
        has = λ e s t h. absurd (cc e);
        fits = λ q e. let same : r ≡ q = cc e in subst (λ z. Fits' z y) same fits;
        owes = λ q e s t h. let same : r ≡ q = cc e in subst (λ z. Owes' z s y t) same (owes s t h);
      }

  -- it goes on after other rows
  pub after : {Now : Start → Cpu → Option ℕ → Type 0} {z : Cpu} {n : Option A} → KeepsRest x y
      → ((s : Start) (t : Option ℕ) → At s x t → Now s y t) → Turn A Now Won Fits' Owes' n y z → Turn A At Won Fits' Owes' n x z
  after {z = z} rest goes turn =
      record {
        rest = rest_both x y z rest turn.rest;
        has = λ e s t h. turn.has e s t (goes s t h);
        fits = turn.fits;
        owes = λ r e s t h. turn.owes r e s t (goes s t h);
      }

-- turns with polls between them

module _ {A : Type 0} {At Won : Start → Cpu → Option ℕ → Type 0} {Fits' : A → Cpu → Type 0} {Owes' : A → Start → Cpu → Option ℕ → Type 0}
    {nests : Bool} {old : Cpu} {before : Option ℕ} where
  pub path_begins : {r : A} {n : Option A} {x : Cpu} → n ≡ Some r → Turn A At Won Fits' Owes' n old x
      → Path A At Fits' Owes' nests r old before x before
  path_begins {r} is turn = record { rest = turn.rest; fits = turn.fits r is; owes = λ s e h. turn.owes r is s before h }

  -- a poll, and a turn after it
  module _ {Now : Start → Cpu → Option ℕ → Type 0} {r : A} {x y z : Cpu} {t u : Option ℕ} {n : Option A}
      (path : Path A At Fits' Owes' nests r old before x t) (gave : GivesWay nests x t y u) (turn : Turn A Now Won Fits' Owes' n y z)
      (polled : (s : Start) → s.nests ≡ nests → Owes' r s x t → Now s y u) where
    rest : KeepsRest old z
    rest = rest_both old y z (rest_both old x y path.rest gave.rest) turn.rest

    pub path_turns : {q : A} → n ≡ Some q → Path A At Fits' Owes' nests q old before z u
    path_turns {q} is = record { rest = rest; fits = turn.fits q is; owes = λ s e h. turn.owes q is s u (polled s e (path.owes s e h)) }

    pub path_earns : n ≡ None → Earns At Won nests old before z u
    path_earns is = record { rest = rest; has = λ s e h. turn.has is s u (polled s e (path.owes s e h)) }

-- a processor that polled is still one of the domain
pub still_gave : {d : Domain} {nests : Bool} {old x y : Cpu} {t u : Option ℕ} → KeepsRest old x → GivesWay nests x t y u → IsOf old d → IsOf y d
still_gave {d} {old = old} {x} {y} rest gave of = still_of d old y (rest_both old x y rest gave.rest) of

-- told nothing of polls, a call is due none
pub gives_none : (nests : Bool) (a : Cpu) → GivesWay nests a None a None
gives_none nests a =
    record {
      rest = rest_same a;
      calls = record { frames = refl; holds = refl; taken = omega arith };
      ledger = passes_none _ (ledger_of a) (ledger_of a) refl;
      polls = refl;
      quiet = λ e. refl;
    }

-- a call that began when so many locks had been taken, and since when nothing took one but it
abbrev pub since : ℕ → Start → Start
since n s = record s { calls = record s.calls { taken = n }; nests = false }

-- how a call waits does not say how many had been taken, but that they were so many fewer
pub exactly : {w : Waiter} {c : Pc} {P : Frame → Type 0} {s : Start} {a : Cpu} {t : Option ℕ} (n : ℕ)
    → HasPolled w c P s a t → (calls_of a).taken ≡ n + locks_at w.stage → HasPolled w c P (since n s) a t
exactly {w} {a = a} n h is =
    let at = h.looked.at in
    let most : n + locks_at w.stage ≤ (calls_of a).taken = omega (arith, is) in
    record {
      looked = record {
        at = record {
          frame = at.frame;
          trail = at.trail;
          walk = at.walk;
          frames = at.frames;
          holds = at.holds;
          taken = most;
          place = at.place;
          lock = at.lock;
          ctx = at.ctx;
          after = at.after;
          free = at.free;
          has = at.has;
        };
        passes = h.looked.passes;
        falls = h.looked.falls;
        stays = h.looked.stays;
        once = is;
      };
      rises = h.rises;
    }

-- turns of a call that queues

module _ {w : Call} {P : Frame → Type 0} {x y : Cpu} where
  pub takes_turns : {a : Pc} → Takes w a P x y → Turns w a P None x y
  takes_turns won = ends won.rest won.has

  pub step_turns : {a b : Pc} {Q : Frame → Type 0} {z : Cpu} {n : Option Rest} → Steps w a P b Q x y → Turns w b Q n y z
      → Turns w a P n x z
  step_turns step turn = after step.rest step.goes turn

  -- it rests after a look
  pub look_turns : (r : Rest) → LooksOn w (row_at r) P (frame_at r) x y → Fits w.domain.now.plan r y → Turns w (row_at r) P (Some r) x y
  look_turns r look fits = rests r look.rest fits look.stays

  -- after a row that leads there
  pub goes_turns : {a : Pc} (r : Rest) → Steps w a P (row_at r) (frame_at r) x y → Fits w.domain.now.plan r y → Turns w a P (Some r) x y
  goes_turns r step fits = rests r step.rest fits (λ s t h. (step.goes s t h).looked)

-- a step that changed nothing leaves it where it stands
pub still_steps : (w : Call) {x y : Cpu} (c : Pc) (P : Frame → Type 0) → KeepsRest x y → view_of y ≡ view_of x → Steps w c P c P x y
still_steps w {x} {y} c P rest same = record { rest = rest; goes = way.same_waits w.domain.now w.verb w.lock x y rest same c P }

-- it rests after such a step
pub still_turns : (w : Call) {x y : Cpu} (r : Rest) → KeepsRest x y → view_of y ≡ view_of x → Fits w.domain.now.plan r y
    → Turns w (row_at r) (frame_at r) (Some r) x y
still_turns w r rest same = goes_turns r (still_steps w (row_at r) (frame_at r) rest same)

-- a row to a place that is known by now
module _ {w : Call} {a : Pc} {P : Frame → Type 0} {b q : Pc} {Q : Frame → Type 0} {x y : Cpu} (is : b ≡ q) (step : Steps w a P b Q x y) where
  abbrev pub step_is : Steps w a P q Q x y
  step_is = subst (λ p. Steps w a P p Q x y) is step

-- what it knows stays, where its frames do
pub fits_kept : {k : Plan} {r : Rest} {a b : Cpu} → AreKept (calls_of a) (calls_of b) → Fits k r a → Fits k r b
fits_kept {r = r} kept fits =
    record {
      nodes = fits.nodes;
      knows = subst (KnowsIn r) (ap (λ (rs : List Running). told (newest rs)) (sym kept.frames)) fits.knows;
    }

-- polls between its turns
module _ (w : Call) (r : Rest) {nests : Bool} {x y : Cpu} {t u : Option ℕ} (gave : GivesWay nests x t y u) where
  pub polled : (s : Start) → s.nests ≡ nests → Owes w r s x t → Rests w r s y u
  polled s e owes = way.polled w.domain.now w.verb w.lock (row_at r) (frame_at r) s x y nests t u owes gave e

  pub rests_at : {met : ℕ} {old : Cpu} {before : Option ℕ} → IsOf old w.domain.now → Begun (Arrived w met) nests old before
      → Path Rest (Arrived w met) (Fits w.domain.now.plan) (Owes w) nests r old before x t → RestsAt w r y
  rests_at of begun path =
      record {
        domain = still_gave path.rest gave of;
        fits = fits_kept gave.calls path.fits;
        start = begun.start;
        told = u;
        waits = polled begun.start begun.nests_is (path.owes begun.start begun.nests_is begun.at);
      }

-- told nothing of polls, it is due none
pub due_none : (d : Domain) (v : Verb) (n : LockName) (r : Rest) {s : Start} {a : Cpu}
    → OwesPoll (waiter Outside d v n) (row_at r) (frame_at r) s a None → HasPolled (waiter Outside d v n) (row_at r) (frame_at r) s a None
due_none d v n r {s} {a} owes = way.polled d v n (row_at r) (frame_at r) s a a s.nests None None owes (gives_none s.nests a) refl

-- after a first row that met a word that was not free
pub meets_turns : {w : Call} {met : ℕ} {n : Option Rest} {x y z : Cpu} → Meets w met x y → Turned w met n y z → Turns w F1 Any n x z
meets_turns meets turned = after meets.rest meets.arrives turned

-- what the first row met
pub meets_came : {w : Call} {met : ℕ} {x y : Cpu} → Meets w met x y → At w F1 Any x → Came w met y
meets_came {w} {met} {x} {y} meets at =
    record { domain = still_of w.domain.now x y meets.rest at.domain; start = at.start; told = at.told; arrives = meets.arrives at.start at.told at.waits }
