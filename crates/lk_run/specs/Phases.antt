-- How a call that waits stands, and what a step of it does.
use Rattle.std.specs.Prelude.{◌≡◌, ℕ, ◌+◌, ◌-◌, ◌<◌, ◌||◌, ◌==◌, Bool, true, false, List, [], ◌∷◌, ◌++◌, length, Option}
use Rattle.std.specs.Prelude.{Some, not}
use Rattle.std.specs.Prelude.{if◌then◌else◌}
use Rattle.lk_names.specs.declared.holder.Manner.{Manner}
use Rattle.lk_names.specs.declared.holder.Manner.TheVariants.{Spins}
use Rattle.lk_names.specs.declared.names.LockName.{LockName}
use Rattle.lk_word.specs.declared.spin_word.Fields.{Fields}
use Rattle.lk_word.specs.SpinWord.{packed, IsPackable}
use Rattle.lk_word.specs.declared.spin_word.NodeName.{NodeName}
use Rattle.lk_rows.specs.Moves.{wait_name}
use Rattle.lk_rows.specs.declared.parts.Frame.{Frame}
use Rattle.lk_rows.specs.declared.parts.Pc.{Pc}
use Rattle.lk_rows.specs.declared.parts.Pc.TheVariants.{R2, R3, R4, Wr2, U1}
use Rattle.lk_rows.specs.declared.setup.Verb.{Verb}
use Rattle.lk_rows.specs.declared.setup.Verb.TheVariants.{Lock, Read, Write}
use Rattle.lk_rows.specs.rows.Spin.{after_fast}
use Rattle.lk_law.specs.Leads.{Met}
use Rattle.lk_domain.specs.Plans.{layout_in}
use Rattle.lk_domain.specs.Calls.{terms_of, Terms, Mark, mark, Running, Calls, Takes, begun, told}
use Rattle.lk_domain.specs.Ledgers.{Ledger}
use Rattle.lk_domain.specs.Paths.{Any, PathTo, HasTaken, HasLooked, Passes, is_busy}
use Rattle.lk_domain.specs.Seats.{calls_of, ledger_of}
use Rattle.lk_domain.specs.Standing.{Stage, Outside, Inside, Entered, IsOn, locks_at}
use Rattle.lk_domain.specs.declared.cpu.Cpu.{Cpu}
use Rattle.lk_domain.specs.declared.domain.Domain.{Domain}
use Rattle.lk_run.specs.Polls.{NeverFalls, RisesBy, HasStayed, IsPolled, Acquires}
use Rattle.lk_run.specs.Entering.{HasEntered}

-- what was there when the call began: the processor's calls, what it knew of the ledger, whether what
-- interrupts the call may make calls itself, and what the interrupt source told of its polls
pub record Start : Type 0 where
  pub calls : Calls
  pub ledger : Ledger
  pub nests : Bool
  pub told : Option ℕ

-- which call waits: what of its lock it has, its domain, its operation, and the lock on which it acts
pub record Waiter : Type 0 where
  pub stage : Stage
  pub domain : Domain
  pub verb : Verb
  pub lock : LockName

abbrev pub waiter : Stage → Domain → Verb → LockName → Waiter
waiter stage domain verb lock = record { stage = stage; domain = domain; verb = verb; lock = lock }

-- The operation may queue for the lock of this name: `lock` for the lock itself, and a reader or a
-- writer for the wait lock.

abbrev pub queues_at : Verb → Bool → Bool
queues_at Lock wait = not wait
queues_at Read wait = wait
queues_at Write wait = wait
queues_at _ wait = false

abbrev pub Queues : Verb → LockName → Type 0
Queues v n = queues_at v n.wait ≡ true

-- where a reader or a writer goes on that has the wait lock
abbrev pub resumes : Verb → Pc
resumes Read = R4
resumes _ = Wr2

-- the trail of the newest call
abbrev pub newest : List Running → List Mark
newest [] = []
newest (r ∷ rs) = r.trail

-- the node that the newest call will link behind the secondary queue is a, and the link in which it
-- met a had the mark b
abbrev pub Knows : NodeName → Bool → Cpu → Type 0
Knows a b cpu = told (newest (calls_of cpu).frames) ≡ Some (a, b)

-- some call of this operation stands at the row c and at this stage, acts on the lock of the name n,
-- and has a frame that meets the condition
abbrev pub StandsAs : Stage → Domain → Verb → LockName → Pc → (Frame → Type 0) → Cpu → Type 0
StandsAs stage domain v n c P cpu =
    (old : Calls) × IsOn (terms_of domain.plan) cpu.number v n c P stage old (calls_of cpu)

-- The call that began so stands there; since then nested calls alone have changed the ledger, and it
-- has taken the locks of its stage. It owes a poll: the source was polled after each look after which
-- the place was the same, but for the last one.
pub record OwesPoll (w : Waiter) (c : Pc) (P : Frame → Type 0) (s : Start) (cpu : Cpu)
    (told : Option ℕ) : Type 0 where
  pub at : IsOn (terms_of w.domain.plan) cpu.number w.verb w.lock c P w.stage s.calls (calls_of cpu)
  pub passes : Passes ((w.lock.index == 0) || is_busy s.calls) s.ledger (ledger_of cpu)
  pub falls : NeverFalls s.told told
  pub stays : (k : ℕ) → HasStayed k (newest (calls_of cpu).frames) → RisesBy k s.told told
  pub once : Acquires s.nests (locks_at w.stage) s.calls (calls_of cpu) s.told told

-- and after the last one too
pub record HasPolled (w : Waiter) (c : Pc) (P : Frame → Type 0) (s : Start) (cpu : Cpu)
    (told : Option ℕ) : Type 0 where
  pub looked : OwesPoll w c P s cpu told
  pub rises : (x : Met) (n k : ℕ)
      → HasStayed k (newest (calls_of cpu).frames ++ mark c x n ∷ [])
      → RisesBy k s.told told

-- the same of a call that has no lock yet
abbrev pub Waits : Domain → Verb → LockName → Pc → (Frame → Type 0) → Start → Cpu → Option ℕ
    → Type 0
Waits domain v n c P s cpu told = HasPolled (waiter Outside domain v n) c P s cpu told

-- the call that began so has taken the lock, by its last row
pub record Holds (domain : Domain) (v : Verb) (l : ℕ) (manner : Manner) (s : Start) (cpu : Cpu)
    (told : Option ℕ) : Type 0 where
  pub taken : HasTaken (terms_of domain.plan) cpu.number v l manner s.calls (calls_of cpu)
  pub look : HasLooked l manner s.calls (calls_of cpu).last s.ledger (ledger_of cpu)
  pub polled : IsPolled (calls_of cpu).last s.told told
  pub once : Acquires s.nests 1 s.calls (calls_of cpu) s.told told

-- it has entered its reader-writer lock, by a row after which it may have freed the wait lock; it
-- has taken that too, then
pub record CameIn (domain : Domain) (v : Verb) (l : ℕ) (manner : Manner) (s : Start) (cpu : Cpu)
    (told : Option ℕ) : Type 0 where
  pub upto : List Mark
  pub entered : HasEntered (terms_of domain.plan) cpu.number v l manner upto s.calls (calls_of cpu)
  pub look : HasLooked l manner s.calls upto s.ledger (ledger_of cpu)
  pub polled : IsPolled (calls_of cpu).last s.told told
  pub once : Acquires s.nests (1 + (length (calls_of cpu).last - length upto)) s.calls
      (calls_of cpu) s.told told

-- it has entered it, and is about to free the wait lock
pub record HasPassed (t : Terms) (p : ℕ) (v : Verb) (l : ℕ) (manner : Manner) (s : Start)
    (calls : Calls) (ledger : Ledger) (told : Option ℕ) : Type 0 where
  pub at : IsOn t p v (wait_name l) U1 Any (Entered manner) s.calls calls
  pub takes : PathTo t p (begun t.mode (length s.calls.frames) v l) at.trail (Takes manner)
  pub taken : s.calls.taken < calls.taken
  pub look : HasLooked l manner s.calls at.trail s.ledger ledger
  pub falls : NeverFalls s.told told
  pub rises : (x : Met) (n k : ℕ) → HasStayed k (at.trail ++ mark U1 x n ∷ [])
      → RisesBy k s.told told
  pub once : Acquires s.nests 2 s.calls calls s.told told

abbrev pub Passed : Domain → Verb → ℕ → Manner → Start → Cpu → Option ℕ → Type 0
Passed domain v l manner s cpu told =
    HasPassed (terms_of domain.plan) cpu.number v l manner s (calls_of cpu) (ledger_of cpu) told

-- a call that begins now
abbrev pub starting : Cpu → Bool → Option ℕ → Start
starting cpu nests told =
    record { calls = calls_of cpu; ledger = ledger_of cpu; nests = nests; told = told }

-- The call has the lock for which it queued: its lock, and then it is over, or the wait lock, and
-- then it goes on.
abbrev pub Won : Bool → Domain → Verb → ℕ → Start → Cpu → Option ℕ → Type 0
Won false domain v l s cpu told = Holds domain v l Spins s cpu told
Won true domain v l s cpu told =
    HasPolled (waiter Inside domain v (wait_name l)) (resumes v) Any s cpu told

-- the call has met a word by the first row for its lock that was not free, and goes on by it
pub record Arrives (domain : Domain) (v : Verb) (n : LockName) (met : ℕ) (s : Start) (cpu : Cpu)
    (told : Option ℕ) : Type 0 where
  pub found : Fields
  pub packs : IsPackable (layout_in domain.plan) found
  pub word : met ≡ packed (layout_in domain.plan) found
  pub waits : Waits domain v n (after_fast domain.plan.mode found) Any s cpu told

-- where a reader goes on that has set its bias and found no way in: one below which no call waits
-- takes it back, and one that has interrupted another leaves it
abbrev pub biased : ℕ → Pc
biased c = if c == 0 then R3 else R2
