-- What the calls of a port have done.
use Rattle.std.specs.Prelude.{◌≡◌, ◌&&◌, ℕ, Bool, true, false, None}
use Rattle.lk_names.specs.declared.holder.Manner.{Manner}
use Rattle.lk_names.specs.declared.holder.Manner.TheVariants as manner
use Rattle.lk_names.specs.declared.names.Kind.TheVariants.{Rw}
use Rattle.lk_rows.specs.declared.parts.Pc.{Pc}
use Rattle.lk_rows.specs.declared.parts.Pc.TheVariants.{G1}
use Rattle.lk_rows.specs.declared.setup.Verb.{Verb}
use Rattle.lk_rows.specs.declared.setup.Verb.TheVariants as verb
use Rattle.lk_domain.specs.Paths.{Any}
use Rattle.lk_domain.specs.Plans.{kind_at}
use Rattle.lk_domain.specs.Seats.{IsStill, calls_of}
use Rattle.lk_domain.specs.Waits.{Gains, Drops}
use Rattle.lk_domain.specs.Waits as try
use Rattle.lk_domain.specs.declared.cpu.Cpu.{Cpu}
use Rattle.lk_domain.specs.declared.domain.Domain.{Domain}
use Rattle.lk_domain.specs.declared.domain.LockId.{LockId}
use Rattle.lk_pvdomain.specs.PvCalls as halting
use Rattle.lk_pvdomain.specs.PvPaths as began
use Rattle.lk_pvdomain.specs.PvTurns as turn
use Rattle.lk_pvdomain.specs.declared.waiter.PvWaiter.{PvWaiter}
use Rattle.lk_run.specs.Entering as entering
use Rattle.lk_run.specs.Phases.{Holds, CameIn, Start, starting}
use Rattle.lk_run.specs.Polled as locker
use Rattle.lk_run.specs.PolledRead as reader
use Rattle.lk_run.specs.PolledWrite as writer
use Rattle.lk_run.specs.declared.read_waiter.ReadWaiter.{ReadWaiter}
use Rattle.lk_run.specs.declared.waiter.Waiter.{Waiter}
use Rattle.lk_run.specs.declared.write_waiter.WriteWaiter.{WriteWaiter}
use Rattle.lk_port.specs.Asking.{cpu_in, domain_in}
use Rattle.lk_port.specs.Shares.{By, domain_of, may_halt}
use Rattle.lk_port.specs.declared.answer.Answer.{Answer}
use Rattle.lk_port.specs.declared.answer.Answer.TheVariants as answer
use Rattle.lk_port.specs.declared.pending.Pending.{Pending}
use Rattle.lk_port.specs.declared.pending.Pending.TheVariants.{Free, Spins, Reads, Writes, Halts}
use Rattle.lk_port.specs.declared.port.Port.{Port}
use Rattle.lk_port.specs.declared.share.Share.{Share}

-- a call comes to this by a turn
abbrev pub is_turn : Answer → Bool
is_turn answer.Done = true
is_turn answer.Waits = true
is_turn answer.Halts = true
is_turn _ = false

-- its processor has halted
abbrev pub has_halted : Port → Bool
has_halted p = may_halt p.share && (calls_of p.cpu).halted

-- Where waiters run: a lock was taken, or missed, at one try, or a spinlock by the first rows of a call; and it
-- was freed.

abbrev pub HasTried : Verb → Manner → ℕ → Port → Port → Type 0
HasTried v m l p q = Gains (domain_in p) v l m (calls_of (cpu_in p)) (cpu_in p) (cpu_in q)

abbrev pub HasMissed : Verb → ℕ → Port → Port → Type 0
HasMissed v l p q = try.Misses (domain_in p) v l (calls_of (cpu_in p)) (cpu_in p) (cpu_in q)

abbrev pub HasLocked : ℕ → Port → Port → Type 0
HasLocked l p q = (nests : Bool)
    → Holds (domain_in p) verb.Lock l manner.Spins (starting (cpu_in p) nests None) (cpu_in q) None

abbrev pub HasUnlocked : ℕ → Port → Port → Type 0
HasUnlocked l p q = Drops l (cpu_in p) (cpu_in q)

-- the call for this spinlock that began so waits, and is the one that is pending
abbrev pub IsPending : Domain → LockId → Pending → Start → Cpu → Type 0
IsPending d lock pending s cpu = (w : Waiter) × (pending ≡ Spins w) × (w.lock ≡ lock) × locker.Waits d w s cpu

-- Where waiters halt the call for this spinlock that began so found it not free, and stands behind its first
-- row. Then it has taken it, or it waits or has halted, and is the one that is pending.

abbrev pub HasBegun : Share → ℕ → began.Start → Cpu → Type 0
HasBegun share l s cpu = began.At (domain_of share) verb.Lock l (halting.own_node cpu) s G1 Any cpu.seat

abbrev pub HasSettled : Share → ℕ → began.Start → Cpu → Type 0
HasSettled share l s cpu = By share (λ d. ⊥) (λ d. halting.HasTakenSince d l s cpu)

abbrev pub IsAsleep : Share → Pending → began.Start → Cpu → Type 0
IsAsleep share pending s cpu =
    By share (λ d. ⊥) (λ d. (w : PvWaiter) × (pending ≡ Halts w) × turn.Waits d w s cpu)

-- the same in each family

abbrev pub Tries : ℕ → Port → Port → Type 0
Tries l p q = By p.share (λ d. HasTried verb.Try manner.Spins l p q) (λ d. halting.HasTakenBy verb.Try d l p.cpu q.cpu)

abbrev pub Misses : ℕ → Port → Port → Type 0
Misses l p q = By p.share (λ d. HasMissed verb.Try l p q) (λ d. halting.HasMissed d l p.cpu q.cpu)

abbrev pub Locks : ℕ → Port → Port → Type 0
Locks l p q = By p.share (λ d. HasLocked l p q) (λ d. halting.HasTaken d l p.cpu q.cpu)

abbrev pub Frees : ℕ → Port → Port → Type 0
Frees l p q = By p.share (λ d. HasUnlocked l p q) (λ d. halting.HasFreed d l p.cpu q.cpu)

-- its waiters halt, and the port is as it was
pub record Stays (p q : Port) : Type 0 where
  pub halts : may_halt p.share ≡ true
  pub share : q.share ≡ p.share
  pub cpu : IsStill p.cpu q.cpu
  pub pending : q.pending ≡ p.pending
  pub notes : q.notes ≡ p.notes

-- A reader-writer lock was entered at one try, or missed, or entered by the first rows of a call; and it was
-- left. A domain whose waiters halt has none.

abbrev pub IsRw : ℕ → Port → Type 0
IsRw l p = kind_at (domain_in p).plan l ≡ Rw

abbrev pub EntersAtOnce : Verb → Manner → ℕ → Port → Port → Type 0
EntersAtOnce v m l p q = IsRw l p × HasTried v m l p q

abbrev pub MissesEntry : Verb → ℕ → Port → Port → Type 0
MissesEntry v l p q = IsRw l p × HasMissed v l p q

abbrev pub Enters : Verb → Manner → ℕ → Port → Port → Type 0
Enters v m l p q = IsRw l p
    × ((nests : Bool) → CameIn (domain_in p) v l m (starting (cpu_in p) nests None) (cpu_in q) None)

abbrev pub Leaves : Pc → ℕ → Port → Port → Type 0
Leaves c l p q = IsRw l p × entering.Leaves c l (cpu_in p) (cpu_in q)

-- the call that waited, which began so, has its lock

abbrev pub LocksNow : Waiter → Port → Port → Type 0
LocksNow w p q = (s : Start) → locker.Waits (domain_in p) w s (cpu_in p)
    → Holds (domain_in p) verb.Lock w.lock.index manner.Spins s (cpu_in q) None

abbrev pub ReadsNow : ReadWaiter → Port → Port → Type 0
ReadsNow w p q = (s : Start) → reader.Waits (domain_in p) w s (cpu_in p)
    → CameIn (domain_in p) verb.Read w.lock.index manner.Reads s (cpu_in q) None

abbrev pub WritesNow : WriteWaiter → Port → Port → Type 0
WritesNow w p q = (s : Start) → writer.Waits (domain_in p) w s (cpu_in p)
    → CameIn (domain_in p) verb.Write w.lock.index manner.Writes s (cpu_in q) None

abbrev pub TurnsNow : PvWaiter → Port → Port → Type 0
TurnsNow w p q = By p.share (λ d. ⊥) (λ d. (s : began.Start) → turn.Waits d w s p.cpu
    → halting.HasTakenSince d w.lock.index s q.cpu)

abbrev pub HasEnded : Pending → Port → Port → Type 0
HasEnded Free p q = ⊥
HasEnded (Spins w) p q = LocksNow w p q
HasEnded (Reads w) p q = ReadsNow w p q
HasEnded (Writes w) p q = WritesNow w p q
HasEnded (Halts w) p q = TurnsNow w p q

abbrev pub Ends : Port → Port → Type 0
Ends p q = HasEnded p.pending p q
