-- The same where the family spins, by what the calls of `lk_run` leave.
use Rattle.std.proofs.Common.{◌≡◌, ℕ, ◌+◌, ◌-◌, List, length, None, Bool, true, false, refl, sym}
use Rattle.std.proofs.Common.{ap, ◌∙◌, subst, inl, inr, arith, if◌then◌else◌}
use Rattle.std.proofs.lemmas.Bool.{cases_Bool}
use Rattle.lk_lock.proofs.Names.{Manner, Reads, Spins, Writes, Rw, Z1, Z2, Verb, Lock, Read, Write}
use Rattle.lk_lock.proofs.Names.{halts, Mark, holds_in, lock_name, terms_of, IsSame, calls_of, Cpu}
use Rattle.lk_lock.proofs.Names.{Domain, starting, IsAsBefore, IsHolding, IsReady, holds_of}
use Rattle.lk_lock.proofs.Names.{HasLocked}
use Rattle.lk_names.specs.{declared.names.Kind.TheVariants.Spin, declared.names.LockName.LockName}
use Rattle.lk_rows.specs.{declared.parts.Pc.Pc, declared.setup.Verb.TheVariants.TryWrite}
use Rattle.lk_domain.proofs.{FreeTurns.freed_frames, Holds.dropped, Seating.of_in}
use Rattle.lk_domain.specs.Calls.{Calls, Frees, Running, Takes, begun, free_of, moved_to, waits_in}
use Rattle.lk_domain.specs.Ledgers.{Ledger, closed, is_first, turned}
use Rattle.lk_domain.specs.Paths.{HasFreed, HasLooked, HasMissed, HasTaken, Path}
use Rattle.lk_domain.specs.{Seats.{IsOf, KeepsRest, ledger_of}, Turns.{HasLeft, Turns}}
use Rattle.lk_domain.specs.Waits.{Drops, Gains, Misses}
use Rattle.lk_pvdomain.specs.PvCalls.{IsResting}
use Rattle.lk_run.proofs.RwFast.{at_once}
use Rattle.lk_run.specs.{Entering.{HasEntered, Leaves}, Phases.Holds}
use Rattle.lk_lock.proofs.Marks.{turned_out}
use Rattle.lk_lock.proofs.Steps.{after_call, as_before, come_in, holding, newest}
use Rattle.lk_lock.specs.Standing.{EntersLock, EntersOnce, FreesLock, HasBeenIn, HasTurnedIn}
use Rattle.lk_lock.specs.Standing.{IsOfKind, LeavesLock, StaysOut, TakesLock, TurnsLock}
use Rattle.lk_lock.specs.Turns.{FreesBy, HasUnlocked}

-- a domain that has a reader-writer lock halts none
pub awake_rw : (d : Domain) (l : ℕ) → IsOfKind d.plan Rw l → halts d.plan.mode ≡ false
awake_rw d l is = elim (cases_Bool (halts d.plan.mode)) [
  | inl on ↦ absurd (let e : Spin ≡ Rw = sym (d.lawful.spins on l) ∙ is.kind_is in let z : ⊥ = cc e in z)
  | inr off ↦ off
]

-- a look that ends leaves the journal where it is
closed_out : (g : Ledger) (n : LockName) (t : List Mark) → (turned g n Frees t).out ≡ g.out
closed_out g n t = pick (is_first n)
  where
    pick : (b : Bool) → (if b then closed g else g).out ≡ g.out
    pick true = refl
    pick false = refl

-- once the lock is freed the processor is as it was
pub freed_before : (l : ℕ) (m : Manner) (before : Cpu) (now new : Cpu) (k : ℕ) → IsHolding l m before now
    → IsSame now new
    → (calls_of new).holds ≡ free_of k (lock_name l) (moved_to k (lock_name l) (calls_of now).holds)
    → IsAsBefore before new
freed_before l m before now new k has is holds =
    as_before l m before now has new (λ hs. free_of k (lock_name l) (moved_to k (lock_name l) hs))
    is holds (dropped k l has.nth m _ has.fresh)

module _ (d : Domain) (old : Cpu) (was : IsReady d old) (awake : halts d.plan.mode ≡ false) where
  pub is_of : IsOf old d
  is_of = of_in old d was.domain_is awake

  pub none_waits : (l : ℕ) → waits_in (calls_of old).frames l ≡ false
  none_waits l = ap (λ (rs : List Running). waits_in rs l) was.frames

  -- so it never has to rest
  unrested : (c : Calls) → halts d.plan.mode ≡ true → IsResting c
  unrested c on = absurd (let no : true ≡ false = sym on ∙ awake in let z : ⊥ = cc no in z)

  after : (mid : Cpu) → KeepsRest old mid → (calls_of mid).frames ≡ (calls_of old).frames
      → (ledger_of mid).out ≡ (ledger_of old).out → IsReady d mid
  after mid rest frames home =
      after_call d old mid was rest.same (frames ∙ was.frames)
      (unrested (calls_of mid)) home

  -- a lock is taken
  locked : (l : ℕ) (m : Manner) (mid : Cpu) (last : List Mark) → KeepsRest old mid
      → (calls_of mid).frames ≡ (calls_of old).frames
      → HasLooked l m (calls_of old) last (ledger_of old) (ledger_of mid)
      → IsReady d mid
  locked l m mid last rest frames look =
      after mid rest frames
      (ap (λ (g : Ledger). g.out) look.now ∙ (turned_out look.between (lock_name l) m last ∙ look.passes.out))

  -- it is taken at one try
  gained : (l : ℕ) (v : Verb) (m : Manner) (mid : Cpu) → KeepsRest old mid
      → Gains d v l m (calls_of old) old mid → IsReady d mid
  gained l v m mid rest gain =
      after mid rest gain.taken.frames
      (ap (λ (g : Ledger). g.out) gain.ledger ∙ turned_out (ledger_of old) (lock_name l) m (calls_of mid).last)

  -- it is missed
  passed_by : (l : ℕ) (v : Verb) (mid : Cpu) → KeepsRest old mid
      → Misses d v l (calls_of old) old mid → IsReady d mid
  passed_by l v mid rest miss =
      after mid rest miss.missed.frames (ap (λ (g : Ledger). g.out) miss.ledger)

  -- it is freed
  freed : (l : ℕ) (mid : Cpu) (last : List Mark) → KeepsRest old mid
      → (calls_of mid).frames ≡ (calls_of old).frames
      → ledger_of mid ≡ turned (ledger_of old) (lock_name l) Frees last
      → IsReady d mid
  freed l mid last rest frames ledger =
      after mid rest frames (ap (λ (g : Ledger). g.out) ledger ∙ closed_out (ledger_of old) (lock_name l) last)

  -- what a call has done that takes a spinlock, and one that frees it

  has_locked : (l : ℕ) (v : Verb) (c : Calls) → HasTaken (terms_of d.plan) old.number v l Spins (calls_of old) c
      → c.taken ≡ (calls_of old).taken + 1 → HasLocked (terms_of d.plan) old.number v l (calls_of old) c
  has_locked l v c taken once =
      record {
        path = subst (λ (rs : List Running). Path (terms_of d.plan) old.number (begun d.plan.mode (length rs) v l) c.last (Takes Spins)) was.frames
            taken.path;
        frames = taken.frames;
        holds = newest l c.taken Spins (calls_of old) c.holds was.frames taken.holds;
        once = once;
      }

  has_unlocked : (l : ℕ) (b c : Calls) → HasFreed l b c → HasUnlocked (terms_of d.plan) old.number l b c
  has_unlocked l b c free =
      record {
        way = subst (λ (off : Bool). FreesBy off (terms_of d.plan) old.number l c.last) (sym awake) (free.word, free.trail);
        frames = free.frames;
        none = free.none;
        taken = free.taken;
      }

  -- the processor waited for it since its first row
  pub takes_late : (l : ℕ) (mid : Cpu) → KeepsRest old mid → Holds d Lock l Spins (starting old false None) mid None
      → holds_in (holds_of old) l ≡ false → TakesLock d Lock l old mid
  takes_late l mid rest has free =
      let taken = subst (λ (n : ℕ). HasTaken (terms_of d.plan) n Lock l Spins (calls_of old) (calls_of mid)) rest.same.number has.taken in
      record {
        ready = locked l Spins mid (calls_of mid).last rest taken.frames has.look;
        holding = holding l (calls_of mid).taken Spins old mid rest.same
            (newest l (calls_of mid).taken Spins (calls_of old) (holds_of mid) was.frames taken.holds) free;
        path = has_locked l Lock (calls_of mid) taken has.once;
      }

  -- it made a turn

  been_in : (v : Verb) (m : Manner) (c : Pc) (l : ℕ) (inside new : Calls)
      → HasTaken (terms_of d.plan) old.number v l m (calls_of old) inside → inside.taken ≡ (calls_of old).taken + 1
      → HasLeft c l inside new → HasBeenIn (terms_of d.plan) old.number v l m c (calls_of old) new
  been_in v m c l inside new taken once left =
      record {
        inside = inside;
        entered = come_in (terms_of d.plan) old.number old.number v l m inside.last (calls_of old) inside refl
            (at_once (terms_of d.plan) old.number v l m (calls_of old) inside taken)
            (once ∙ ap (λ (n : ℕ). (calls_of old).taken + n) (alone (length inside.last)));
        left = left;
      }
    where
      alone : (k : ℕ) → 1 ≡ 1 + (k - k)
      alone k = omega arith

  turned_in : (m : Manner) (l : ℕ) (new : Cpu) → Turns d m l old new
      → HasTurnedIn m (terms_of d.plan) old.number l (calls_of old) (calls_of new)
  turned_in Spins l new has =
      record {
        inside = has.inside;
        taken = has_locked l Lock has.inside has.taken has.once;
        freed = has_unlocked l has.inside (calls_of new) has.freed;
      }
  turned_in Reads l new has = been_in Read Reads Z1 l has.inside (calls_of new) has.taken has.once has.freed
  turned_in Writes l new has = been_in Write Writes Z2 l has.inside (calls_of new) has.taken has.once has.freed

  pub turns : (m : Manner) (l : ℕ) (new : Cpu) → KeepsRest old new → Turns d m l old new → TurnsLock d m l old new
  turns m l new rest has =
      record {
        ready = after new rest (freed_frames m l has.inside (calls_of new) has.freed ∙ has.taken.frames) has.home;
        before = record { same = rest.same; holds = has.holds };
        turned = turned_in m l new has;
      }

  -- what it is as a whole: a spinlock is freed
  pub frees : (l : ℕ) (mid : Cpu) → KeepsRest old mid → Drops l old mid → FreesLock d l old mid
  frees l mid rest free =
      record {
        ready = freed l mid (calls_of mid).last rest free.freed.frames free.ledger;
        before = λ b has. freed_before l Spins b old mid (length (calls_of old).frames) has rest.same free.freed.holds;
        freed = has_unlocked l (calls_of old) (calls_of mid) free.freed;
      }

  -- a reader-writer lock is taken, is taken at one try or missed, and is freed

  pub enters : (l : ℕ) (v : Verb) (m : Manner) (mid : Cpu) (upto : List Mark) → KeepsRest old mid
      → HasEntered (terms_of d.plan) mid.number v l m upto (calls_of old) (calls_of mid)
      → HasLooked l m (calls_of old) upto (ledger_of old) (ledger_of mid)
      → (calls_of mid).taken ≡ (calls_of old).taken + (1 + (length (calls_of mid).last - length upto))
      → holds_in (holds_of old) l ≡ false → EntersLock d v l m old mid
  enters l v m mid upto rest entered look once free =
      record {
        ready = locked l m mid upto rest entered.frames look;
        holding = holding l (calls_of mid).taken m old mid rest.same
            (newest l (calls_of mid).taken m (calls_of old) (holds_of mid) was.frames entered.holds) free;
        path = come_in (terms_of d.plan) old.number mid.number v l m upto (calls_of old) (calls_of mid) rest.same.number entered once;
      }

  pub enters_once : (l : ℕ) (mid : Cpu) → KeepsRest old mid → Gains d TryWrite l Writes (calls_of old) old mid
      → holds_in (holds_of old) l ≡ false → EntersOnce d l old mid
  enters_once l mid rest gain free =
      record {
        ready = gained l TryWrite Writes mid rest gain;
        holding = holding l (calls_of mid).taken Writes old mid rest.same
            (newest l (calls_of mid).taken Writes (calls_of old) (holds_of mid) was.frames gain.taken.holds) free;
        path = subst (λ (n : ℕ). HasTaken (terms_of d.plan) n TryWrite l Writes (calls_of old) (calls_of mid)) rest.same.number gain.taken;
        once = gain.once;
      }

  pub stays_out : (l : ℕ) (mid : Cpu) → KeepsRest old mid → Misses d TryWrite l (calls_of old) old mid → StaysOut d l old mid
  stays_out l mid rest miss =
      record {
        ready = passed_by l TryWrite mid rest miss;
        before = record { same = rest.same; holds = miss.missed.holds };
        missed = subst (λ (n : ℕ). HasMissed (terms_of d.plan) n TryWrite l (calls_of old) (calls_of mid)) rest.same.number miss.missed;
      }

  pub leaves : (l : ℕ) (c : Pc) (m : Manner) (mid : Cpu) → KeepsRest old mid → Leaves c l old mid → LeavesLock d c l m old mid
  leaves l c m mid rest left =
      record {
        ready = freed l mid (calls_of mid).last rest left.left.frames left.ledger;
        before = λ b has. freed_before l m b old mid (length (calls_of old).frames) has rest.same left.left.holds;
        left = left.left;
      }
