-- What a processor that may halt may still write.
use Rattle.std.proofs.Common.{◌≡◌, ◌+◌, ◌<◌, ◌≤◌, ◌++◌, ◌∷◌, [], ℕ, List, None, length, replicate, get_or, refl, sym, ap, ◌∙◌, subst, arith}
use Rattle.std.proofs.lemmas.List.{get_or-replicate, get_or_push, length-append}
use Rattle.lk_names.specs.declared.ledger.Job.{Job}
use Rattle.lk_names.specs.declared.ledger.Reply.{Reply}
use Rattle.lk_domain.specs.Calls.{Calls}
use Rattle.lk_domain.specs.Ledgers.{Ledger}
use Rattle.lk_domain.specs.Plans.{share_of}
use Rattle.lk_guard.specs.Guards.{Guard}
use Rattle.lk_guard.specs.Idle.{Stays, pv_crew_of}
use Rattle.lk_guard.specs.Writes.{HasWritten}
use Rattle.lk_domain.specs.Seats.{ledger_of}
use Rattle.lk_pvdomain.specs.PvSeats.{AreDealt, IsDealt}
use Rattle.lk_domain.specs.declared.cpu.Cpu.{Cpu}
use Rattle.lk_pvdomain.specs.declared.domain.PvDomain.{PvDomain}
use Rattle.lk_thread_tests.specs.Halting.{AllMayWrite, MayWrite}

-- one entry less than before
pub one_less : (d : PvDomain) (a b : Cpu) (n left p number : ℕ) (h : Guard) (job : Job) (reply : Reply)
    → MayWrite d n a → left + 1 ≤ n → Stays (pv_crew_of d) a b
    → HasWritten h p number job reply (ledger_of a) (ledger_of b) None None → MayWrite d left b
one_less d a b n left p number h job reply may less stays written =
    record {
      domain_is = stays.ready.0;
      free = stays.ready.1;
      share = omega (arith, may.share, less, ap (λ (g : Ledger). g.share) written.ledger);
    }

-- as many as it was dealt
pub dealt : (d : PvDomain) (i n : ℕ) (cpu : Cpu) → n ≤ share_of d.domain.plan i → IsDealt d i cpu → MayWrite d n cpu
dealt d i n cpu le new =
    let frames = ap (λ (c : Calls). c.frames) new.calls in
    record {
      domain_is = new.domain_is;
      free = record {
        nothing = record { frames = frames; holds = ap (λ (c : Calls). c.holds) new.calls; home = ap (λ (g : Ledger). g.out) new.ledger };
        rests = record { frames = frames; awake = ap (λ (c : Calls). c.halted) new.calls; fresh = ap (λ (c : Calls). c.looked) new.calls };
      };
      share = subst (λ (g : Ledger). n ≤ g.share) (sym new.ledger) le;
    }

pub all_dealt : (d : PvDomain) (cpus : List Cpu) (many n : ℕ) → length cpus ≡ many → d.domain.plan.shares.items ≡ replicate many n
    → AreDealt d cpus → AllMayWrite d n cpus
all_dealt d cpus many n long shares new i c within =
    let inside : i < many = omega (arith, within, long) in
    let share : share_of d.domain.plan i ≡ n = ap (λ (ns : List ℕ). get_or ns i 0) shares ∙ get_or-replicate many i n 0 inside in
    dealt d i n (get_or cpus i c) (omega (arith, share)) (new i c within)

-- the last of them too
pub last_may : (d : PvDomain) (n : ℕ) (all xs : List Cpu) (x : Cpu) → AllMayWrite d n all → all ≡ xs ++ x ∷ [] → MayWrite d n x
last_may d n all xs x may is =
    subst (MayWrite d n) (ap (λ (ys : List Cpu). get_or ys (length xs) x) is ∙ get_or_push xs x x (length xs) refl)
    (may (length xs) x (omega (arith, ap (λ (ys : List Cpu). length ys) is, length-append xs (x ∷ []))))
