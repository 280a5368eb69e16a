-- A hold that a call took begins a look.
use Rattle.std.proofs.Common.{◌≡◌, ℕ, ◌<◌, ◌∷◌, length, Option, Bool, true, false, refl, sym, ap, ◌∙◌, subst}
use Rattle.lk_names.specs.declared.holder.Manner.{Manner}
use Rattle.lk_names.specs.declared.holder.Manner.TheVariants.{Spins}
use Rattle.lk_rows.specs.declared.setup.Verb.{Verb}
use Rattle.lk_rows.specs.declared.setup.Verb.TheVariants.{Lock}
use Rattle.lk_law.specs.Sound.{takes_wait}
use Rattle.lk_domain.specs.Calls.{Takes, terms_of, begun, hold, lock_name}
use Rattle.lk_domain.specs.Ledgers.{Ledger, opened}
use Rattle.lk_domain.specs.Paths.{PathTo, Path, HasTaken, HasLooked}
use Rattle.lk_domain.specs.Plans.{cpus_of}
use Rattle.lk_domain.specs.Seats.{IsOf, IsSame, calls_of, ledger_of}
use Rattle.lk_domain.specs.Who.{Who}
use Rattle.lk_domain.specs.declared.cpu.Cpu.{Cpu}
use Rattle.lk_domain.specs.declared.domain.Domain.{Domain}
use Rattle.lk_domain.proofs.Standing.{path_upto}
use Rattle.lk_run.specs.Phases.{CameIn, starting}
use Rattle.lk_run.specs.Polls.{HasStayed, IsPolled}
use Rattle.lk_run.proofs.Polls.{stays_more}
use Rattle.lk_guard.specs.Guards.{guard_in}
use Rattle.lk_guard.specs.Holding.{HasBegun}
use Rattle.lk_guard.specs.Idle.{IsIdle, Stays, crew_of}

module _ (d : Domain) (a b : Cpu) (before after : Option ℕ) (idle : IsIdle a) where
  -- of a spinlock
  pub lock_begins : HasTaken (terms_of d.plan) b.number Lock 0 Spins (calls_of a) (calls_of b)
      → HasLooked 0 Spins (calls_of a) (calls_of b).last (ledger_of a) (ledger_of b)
      → IsPolled (calls_of b).last before after
      → HasBegun (guard_in d.plan) Lock Spins a b before after
  lock_begins taken look polled =
      let trail = (calls_of b).last in
      let path : Path (terms_of d.plan) b.number (begun d.plan.mode 0 Lock 0) trail (Takes Spins) =
      subst (λ (k : ℕ). Path (terms_of d.plan) b.number (begun d.plan.mode k Lock 0) trail (Takes Spins)) (ap length idle.frames) taken.path in
      record {
        trail = trail;
        holding = record {
          nth = (calls_of b).taken;
          frames = taken.frames ∙ idle.frames;
          holds = taken.holds ∙ (λ i. hold (length (idle.frames i)) (lock_name 0) Spins (calls_of b).taken ∷ idle.holds i);
        };
        taken = record {
          manner = refl;
          path = path_upto path;
          ends = λ _. path;
        };
        ledger = look.now ∙ ap (λ (g : Ledger). opened g Spins trail) (look.passes.still refl);
        polled = polled;
      }

  -- of a reader-writer lock: its trail is the rows up to the one that took it
  pub entry_begins : {nests : Bool} (v : Verb) (m : Manner) → takes_wait v ≡ true → CameIn d v 0 m (starting a nests before) b after
      → HasBegun (guard_in d.plan) v m a b before after
  entry_begins v m waits came =
      let entered = came.entered in
      record {
        trail = came.upto;
        holding = record {
          nth = (calls_of b).taken;
          frames = entered.frames ∙ idle.frames;
          holds = entered.holds ∙ (λ i. hold (length (idle.frames i)) (lock_name 0) m (calls_of b).taken ∷ idle.holds i);
        };
        taken = record {
          manner = refl;
          path = subst (λ (k : ℕ). PathTo (terms_of d.plan) b.number (begun d.plan.mode k v 0) came.upto (Takes m)) (ap length idle.frames) entered.takes;
          ends = λ off. let e : true ≡ false = sym waits ∙ off in absurd (cc e);
        };
        ledger = came.look.now ∙ ap (λ (g : Ledger). opened g m came.upto) (came.look.passes.still refl);
        polled = record {
          falls = came.polled.falls;
          rises = λ k h. came.polled.rises k (subst (HasStayed k) (sym entered.last) (stays_more k came.upto entered.behind h));
        };
      }

-- a processor that is the same as before, and idle, is one of the domain
pub stays : (d : Domain) (a b : Cpu) → IsOf a d → IsSame a b → IsIdle b → Stays (crew_of d) a b
stays d a b of same idle = record {
  same = same;
  ready = (
    record {
      table = same.table ∙ of.table;
      plan = ap (λ (w : Who). w.plan) same.who ∙ of.plan;
      low = subst (λ (n : ℕ). n < cpus_of d.plan) (sym same.number) of.low;
      awake = of.awake;
    },
    idle,
  );
}

-- what is the same after two steps
pub same_as : (a b c : Cpu) → IsSame b c → IsSame a b → IsSame a c
same_as a b c next first = record { table = next.table ∙ first.table; id = next.id ∙ first.id; number = next.number ∙ first.number; who = next.who ∙ first.who }
