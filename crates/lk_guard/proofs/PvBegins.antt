-- A hold of a processor that may halt begins a look. Nothing polls there, so nothing is counted.
use Rattle.std.proofs.Common.{◌≡◌, ℕ, zero, suc, List, ◌∷◌, None, refl, sym, ap, ◌∙◌, subst}
use Rattle.lk_names.specs.declared.holder.Manner.TheVariants.{Spins}
use Rattle.lk_names.specs.declared.names.Kind.{Kind}
use Rattle.lk_names.specs.declared.names.Kind.TheVariants.{Spin}
use Rattle.lk_rows.specs.declared.setup.Verb.TheVariants.{Lock}
use Rattle.lk_domain.specs.Calls.{Hold, Mark, hold, lock_name}
use Rattle.lk_domain.specs.Ledgers.{Ledger, new_look, opened}
use Rattle.lk_domain.specs.Plans.{kind_at}
use Rattle.lk_domain.proofs.Standing.{path_upto}
use Rattle.lk_guard.specs.Guards.{IsTaken, IsToRead, guard_in, reads_as, reads_by}
use Rattle.lk_guard.specs.Holding.{Begins}
use Rattle.lk_guard.specs.Idle.{IsFree, Stays, pv_crew_of}
use Rattle.lk_pvdomain.specs.PvCalls.{HasTaken}
use Rattle.lk_pvdomain.proofs.PvSeating.{same_of}
use Rattle.lk_domain.specs.Seats.{IsSame, calls_of, view_of}
use Rattle.lk_pvdomain.specs.PvSeats.{IsOf}
use Rattle.lk_domain.specs.declared.cpu.Cpu.{Cpu}
use Rattle.lk_pvdomain.specs.declared.domain.PvDomain.{PvDomain}
use Rattle.lk_run.specs.Polls.{IsPolled, RisesBy}

never_counted : (k : ℕ) → RisesBy k None None
never_counted zero = refl
never_counted (suc k) = (None, never_counted k, refl)

unpolled : (trail : List Mark) → IsPolled trail None None
unpolled trail = record { falls = refl; rises = λ k h. never_counted k }

module _ (d : PvDomain) where
  -- its one lock is a spinlock
  spins : kind_at d.domain.plan 0 ≡ Spin
  spins = d.domain.lawful.spins d.halting 0

  pub pv_begins : (a b : Cpu) → IsFree a → HasTaken d 0 a b
      → Begins (guard_in d.domain.plan) a.number Lock Spins (view_of a) (view_of b) None None
  pv_begins a b free taken =
      let took = taken.took in
      record {
        trail = (calls_of b).last;
        holding = record {
          nth = (calls_of b).taken;
          frames = took.frames;
          holds = took.holds ∙ ap (λ (hs : List Hold). hold 0 (lock_name 0) Spins (calls_of b).taken ∷ hs) free.nothing.holds;
        };
        taken = record {
          manner = refl;
          path = path_upto took.path;
          ends = λ _. took.path;
        };
        ledger = took.ledger;
        polled = unpolled (calls_of b).last;
      }

  -- so a look in it is one to read
  pub opens_to_read : (g h : Ledger) (trail : List Mark) → h ≡ opened g Spins trail
      → h ≡ opened g (reads_as (kind_at d.domain.plan 0)) trail
  opens_to_read g h trail e = subst (λ (q : Kind). h ≡ opened g (reads_as q) trail) (sym spins) e

  pub taken_to_read : (p : ℕ) (trail : List Mark) → IsTaken (guard_in d.domain.plan) p Lock Spins (new_look Spins trail)
      → IsToRead (guard_in d.domain.plan) p (new_look (reads_as (kind_at d.domain.plan 0)) trail)
  taken_to_read p trail t =
      subst (λ (q : Kind). IsTaken (guard_in d.domain.plan) p (reads_by q) (reads_as q) (new_look (reads_as q) trail)) (sym spins) t

-- a processor that is the same as before, and free, is one of the domain
pub pv_stays : (d : PvDomain) (a b : Cpu) → IsOf a d → IsSame a b → IsFree b → Stays (pv_crew_of d) a b
pv_stays d a b of same free = record {
  same = same;
  ready = (same_of d a b same of, free);
}
