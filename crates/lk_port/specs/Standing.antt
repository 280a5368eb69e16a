-- How a processor stands between two calls of its port.
use Rattle.std.specs.Prelude.{◌≡◌, ◌≢◌, ℕ, ◌<◌, ◌&&◌, not, Bool, true, false, List, [], ◌∷◌, length, None, Some, slice_index_or}
use Rattle.lk_names.specs.declared.holder.Manner.{Manner}
use Rattle.lk_names.specs.declared.holder.Manner.TheVariants as manner
use Rattle.lk_names.specs.declared.names.Kind.{Kind}
use Rattle.lk_names.specs.declared.names.Kind.TheVariants.{Spin, Rw}
use Rattle.lk_domain.specs.Calls.{Hold, Calls, hold_in, holds_in}
use Rattle.lk_domain.specs.Ledgers.{Ledger}
use Rattle.lk_domain.specs.Plans.{kind_at, locks_of}
use Rattle.lk_domain.specs.Seats.{calls_of, ledger_of}
use Rattle.lk_domain.specs.declared.cpu.Cpu.{Cpu}
use Rattle.lk_domain.specs.declared.domain.Domain.{Domain}
use Rattle.lk_domain.specs.declared.plan.Plan.{Plan}
use Rattle.lk_pvdomain.specs.PvCalls.{IsResting}
use Rattle.lk_pvdomain.specs.PvPaths as halting
use Rattle.lk_pvdomain.specs.PvTurns.{Waits}
use Rattle.lk_pvdomain.specs.declared.domain.PvDomain.{PvDomain}
use Rattle.lk_run.specs.Phases.{Start}
use Rattle.lk_run.specs.Polled as locker
use Rattle.lk_run.specs.PolledRead as reader
use Rattle.lk_run.specs.PolledWrite as writer
use Rattle.lk_port.specs.Shares.{By}
use Rattle.lk_port.specs.declared.last.TheConstants.{NONE}
use Rattle.lk_port.specs.declared.pending.Pending.{Pending}
use Rattle.lk_port.specs.declared.pending.Pending.TheVariants.{Free, Spins, Reads, Writes, Halts}
use Rattle.lk_port.specs.declared.share.Share.{Share}

-- no value is out with a hold
abbrev pub are_home : List Hold → Bool
are_home [] = true
are_home (h ∷ hs) = not h.out && are_home hs

-- how a lock of this kind is held, by whether it is held as a writer
abbrev pub way_of : Kind → Bool → Manner
way_of Spin b = manner.Spins
way_of Rw false = manner.Reads
way_of Rw true = manner.Writes

-- each lock that is held, is held as the port has noted it
pub record AreNoted (plan : Plan) (ws : List Bool) (hs : List Hold) : Type 0 where
  pub long : length ws ≡ locks_of plan
  pub each : (l : ℕ) (x : Manner × Bool) → hold_in hs l ≡ Some x
      → x.0 ≡ way_of (kind_at plan l) (slice_index_or ws l false)

-- it is in no call, neither the journal nor a value is out with it, and its holds are noted
pub record IsIdle (plan : Plan) (ws : List Bool) (calls : Calls) (ledger : Ledger) : Type 0 where
  pub frames : calls.frames ≡ []
  pub out : ledger.out ≡ None
  pub home : are_home calls.holds ≡ true
  pub noted : AreNoted plan ws calls.holds

-- it rests, or the call waits that began when it was idle
abbrev pub StandsRunning : Domain → List Bool → Pending → Cpu → Type 0
StandsRunning d ws Free cpu = IsIdle d.plan ws (calls_of cpu) (ledger_of cpu)
StandsRunning d ws (Spins w) cpu = (s : Start) × IsIdle d.plan ws s.calls s.ledger
    × (kind_at d.plan w.lock.index ≡ Spin) × locker.Waits d w s cpu
StandsRunning d ws (Reads w) cpu = (s : Start) × IsIdle d.plan ws s.calls s.ledger
    × (kind_at d.plan w.lock.index ≡ Rw) × reader.Waits d w s cpu
StandsRunning d ws (Writes w) cpu = (s : Start) × IsIdle d.plan ws s.calls s.ledger
    × (kind_at d.plan w.lock.index ≡ Rw) × writer.Waits d w s cpu
StandsRunning d ws (Halts w) cpu = ⊥

-- Where waiters halt it has noted of each of so many locks whether it is held.
pub record AreHeld (n : ℕ) (bs : List Bool) (hs : List Hold) : Type 0 where
  pub long : length bs ≡ n
  pub each : (l : ℕ) → l < n → slice_index_or bs l false ≡ holds_in hs l

-- neither the journal nor a value is out with it, and its holds are noted
pub record IsHome (d : PvDomain) (bs : List Bool) (hs : List Hold) (ledger : Ledger) : Type 0 where
  pub out : ledger.out ≡ None
  pub home : are_home hs ≡ true
  pub noted : AreHeld (locks_of d.domain.plan) bs hs

-- it rests, or the call waits or has halted that began when it was so
abbrev pub StandsHalting : PvDomain → List Bool → Pending → Cpu → Type 0
StandsHalting d bs Free cpu = IsResting (calls_of cpu) × IsHome d bs (calls_of cpu).holds (ledger_of cpu)
StandsHalting d bs (Halts w) cpu = (s : halting.Start) × IsHome d bs s.holds s.ledger × Waits d w s cpu
StandsHalting d bs _ cpu = ⊥

abbrev pub Stands : Share → List Bool → Pending → Cpu → Type 0
Stands share notes o cpu = By share (λ d. StandsRunning d notes o cpu) (λ d. StandsHalting d notes o cpu)

-- no call waits, and the lock is one of this kind, which the processor holds or not
pub record IsReady (d : Domain) (o : Pending) (cpu : Cpu) (k : Kind) (l : ℕ) (held : Bool) : Type 0 where
  pub free : o ≡ Free
  pub lock : l < locks_of d.plan
  pub kind : kind_at d.plan l ≡ k
  pub holds : holds_in (calls_of cpu).holds l ≡ held

-- Where a spinlock is named, no call waits, and the processor holds it or not.
abbrev pub IsLast : Domain → Pending → Cpu → ℕ → Bool → Type 0
IsLast d o cpu last held = last ≢ NONE → IsReady d o cpu Spin last held
