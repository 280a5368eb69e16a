-- A turn that had to wait, by the manner in which it held its lock.
use Rattle.std.proofs.Common.{◌≡◌, ℕ, None, true, false, eq-eqb, refl, sym, ◌∙◌, subst}
use Rattle.lk_lock.proofs.Names.{Manner, Reads, Spins, Writes, Z1, Z2, Verb, Lock, Read, Write}
use Rattle.lk_lock.proofs.Names.{halts, lock_name, terms_of, IsStill, calls_of, Cpu, Domain, View}
use Rattle.lk_lock.proofs.Names.{starting, IsAsBefore, IsHolding, IsReady}
use Rattle.lk_domain.specs.Seats.{KeepsRest}
use Rattle.lk_run.proofs.{Fast.arrives, RwFast.{reader_waits, writer_waits}, Steps.rest_both}
use Rattle.lk_run.specs.Phases.{Arrives, CameIn, Holds}
use Rattle.lk_lock.proofs.AwakeSteps.{enters, is_of, none_waits, takes_late}
use Rattle.lk_lock.proofs.Steps.{been_in, still_holding}
use Rattle.lk_lock.specs.Standing.{ComesIn, EntersLock, GoesOut, HasTurnedIn, TurnsLock, WaitsSince}
use Rattle.lk_lock.specs.Turns.{HasUnlocked}
use Rattle.lk_run.specs.PolledRead as read
use Rattle.lk_run.specs.PolledWrite as write

-- its first row did not find the lock free, and then it took it
module _ (d : Domain) (awake : halts d.plan.mode ≡ false) (l met : ℕ) (old now new : Cpu) where
  pub spins_on : WaitsSince d Spins l met old now → Arrives d Lock (lock_name l) met (starting old false None) now None
  spins_on since =
      arrives d (lock_name l) refl old now since.rest (is_of d old since.ready awake) (none_waits d old since.ready awake l) met since.made false None
      (λ e. let z : true ≡ false = sym (eq-eqb met 0 e) ∙ since.other in cc z)

  pub reads_on : WaitsSince d Reads l met old now → read.Began d l (starting old false None) now None
  reads_on since =
      reader_waits d l old now since.rest (is_of d old since.ready awake) (none_waits d old since.ready awake l) met false None since.made.by since.other

  pub writes_on : WaitsSince d Writes l met old now → write.Began d l (starting old false None) now None
  writes_on since =
      writer_waits d l old now since.rest (is_of d old since.ready awake) (none_waits d old since.ready awake l) met false None since.made.by since.other

  pub spins_late : WaitsSince d Spins l met old now → KeepsRest now new → Holds d Lock l Spins (starting old false None) new None
      → ComesIn d Spins l old new
  spins_late since rest has = takes_late d old since.ready awake l new (rest_both old now new since.rest rest) has since.free

  pub enters_late : (m : Manner) (v : Verb) → WaitsSince d m l met old now → KeepsRest now new
      → CameIn d v l m (starting old false None) new None → EntersLock d v l m old new
  enters_late m v since rest has =
      enters d old since.ready awake l v m new has.upto (rest_both old now new since.rest rest) has.entered has.look has.once since.free

-- it has the lock

pub comes_ready : (d : Domain) (m : Manner) (l : ℕ) (old new : Cpu) → ComesIn d m l old new → IsReady d new
comes_ready d Spins l old new has = has.ready
comes_ready d Reads l old new has = has.ready
comes_ready d Writes l old new has = has.ready

pub comes_holding : (d : Domain) (m : Manner) (l : ℕ) (old new : Cpu) → ComesIn d m l old new → IsHolding l m old new
comes_holding d Spins l old new has = has.holding
comes_holding d Reads l old new has = has.holding
comes_holding d Writes l old new has = has.holding

-- and has freed it

goes_ready : (d : Domain) (m : Manner) (l : ℕ) (old new : Cpu) → GoesOut d m l old new → IsReady d new
goes_ready d Spins l old new has = has.ready
goes_ready d Reads l old new has = has.ready
goes_ready d Writes l old new has = has.ready

goes_before : (d : Domain) (m : Manner) (l : ℕ) (old new : Cpu) → GoesOut d m l old new
    → (before : Cpu) → IsHolding l m before old → IsAsBefore before new
goes_before d Spins l old new has = has.before
goes_before d Reads l old new has = has.before
goes_before d Writes l old new has = has.before

module _ (d : Domain) (l : ℕ) (old inside mid new : Cpu) (still : IsStill inside mid) where
  turned_in : (m : Manner) → ComesIn d m l old inside → GoesOut d m l mid new
      → HasTurnedIn m (terms_of d.plan) old.number l (calls_of old) (calls_of new)
  turned_in Spins taken left =
      record {
        inside = calls_of inside;
        taken = taken.path;
        freed = subst (λ (n : ℕ). HasUnlocked (terms_of d.plan) n l (calls_of inside) (calls_of new)) (still.number ∙ taken.holding.same.number)
            (subst (λ (v : View). HasUnlocked (terms_of d.plan) mid.number l v.calls (calls_of new)) still.view left.freed);
      }
  turned_in Reads entered left =
      been_in (terms_of d.plan) old.number Read l Reads Z1 (calls_of old) inside mid (calls_of new) still entered.path left.left
  turned_in Writes entered left =
      been_in (terms_of d.plan) old.number Write l Writes Z2 (calls_of old) inside mid (calls_of new) still entered.path left.left

  pub turned_late : (m : Manner) → ComesIn d m l old inside → GoesOut d m l mid new → TurnsLock d m l old new
  turned_late m entered left =
      record {
        ready = goes_ready d m l mid new left;
        before = goes_before d m l mid new left old (still_holding l m old inside (comes_holding d m l old inside entered) mid still);
        turned = turned_in m entered left;
      }
