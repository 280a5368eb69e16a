-- What the calls of a processor that may halt leave of lock 1.
use Rattle.std.proofs.Common.{◌≡◌, List, Some, false, refl, ap, ◌∙◌}
use Rattle.lk_rows.specs.declared.setup.Verb.{Verb}
use Rattle.lk_domain.specs.Calls.{Hold, holds_begun, holds_in}
use Rattle.lk_domain.specs.Values.{out_in}
use Rattle.lk_domain.proofs.Outs.{unheld_out}
use Rattle.lk_pvdomain.specs.PvCalls.{HasTakenBy, HasTakenSince, HasMissed, HasFreed}
use Rattle.lk_pvdomain.specs.PvPaths.{Start}
use Rattle.lk_domain.specs.Seats.{IsSame, calls_of}
use Rattle.lk_pvdomain.specs.PvSeats.{IsOf}
use Rattle.lk_domain.specs.declared.cpu.Cpu.{Cpu}
use Rattle.lk_pvdomain.specs.PvTurns.{Waits, waiter_in}
use Rattle.lk_pvdomain.specs.declared.domain.PvDomain.{PvDomain}
use Rattle.lk_pvdomain.specs.declared.waiter.PvTurn.{PvTurn}
use Rattle.lk_pvdomain.specs.declared.waiter.PvTurn.TheVariants.{Has, Waits as Awaits, Halts}
use Rattle.lk_pvdomain.specs.declared.waiter.PvWaiter.{PvWaiter}
use Rattle.lk_pvdomain.proofs.PvSeating.{same_of}
use Rattle.lk_thread_tests.specs.Halting.{IsReady, HasOne, StandsAt}

module _ (d : PvDomain) (old new : Cpu) (same : IsSame old new) where
  pub has : (v : Verb) → ((hs : List Hold) → holds_begun v 0 1 hs ≡ hs) → IsReady d old → HasTakenBy v d 1 old new → HasOne d new
  has v same_holds ready taken =
      record {
        domain_is = same_of d old new same ready.domain_is;
        rests = taken.rests;
        held = ap (λ (hs : List Hold). holds_in hs 1) taken.took.holds;
        home = ap (λ (hs : List Hold). out_in hs 1) taken.took.holds
            ∙ (ap (λ (hs : List Hold). out_in hs 1) (same_holds (calls_of old).holds) ∙ unheld_out (calls_of old).holds 1 ready.free);
      }

  pub missed : IsReady d old → HasMissed d 1 old new → IsReady d new
  missed ready miss =
      record {
        domain_is = same_of d old new same ready.domain_is;
        rests = miss.rests;
        free = ap (λ (hs : List Hold). holds_in hs 1) miss.missed.holds ∙ ready.free;
      }

  pub freed : IsOf old d → HasFreed d 1 old new → IsReady d new
  freed of free = record { domain_is = same_of d old new same of; rests = free.rests; free = free.none }

-- a call that was polled has the lock
pub polled : (d : PvDomain) (s : Start) (new : Cpu) → IsOf new d → holds_in s.holds 1 ≡ false → HasTakenSince d 1 s new → HasOne d new
polled d s new of free taken =
    record {
      domain_is = of;
      rests = taken.rests;
      held = ap (λ (hs : List Hold). holds_in hs 1) taken.took.holds;
      home = ap (λ (hs : List Hold). out_in hs 1) taken.took.holds ∙ unheld_out s.holds 1 free;
    }

-- and so does one that waited, or it waits or has halted still
pub came : (d : PvDomain) (s : Start) (turn : PvTurn) (old new : Cpu) → IsSame old new → IsOf old d → holds_in s.holds 1 ≡ false
    → (turn ≡ Has → HasOne d new) → ((w : PvWaiter) → waiter_in turn ≡ Some w → w.lock.index ≡ 1)
    → ((w : PvWaiter) → waiter_in turn ≡ Some w → Waits d w s new) → StandsAt d turn new
came d s Has old new same of free has lock waits = has refl
came d s (Awaits w) old new same of free has lock waits =
    record { domain_is = same_of d old new same of; lock = lock w refl; start = s; free = free; waits = waits w refl }
came d s (Halts w) old new same of free has lock waits =
    record { domain_is = same_of d old new same of; lock = lock w refl; start = s; free = free; waits = waits w refl }
