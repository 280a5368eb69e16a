-- What a write to the ledger leaves.
use Rattle.std.specs.Prelude.{◌≡◌, ℕ, ◌+◌, ◌-◌, ◌≤◌, List, [], ◌∷◌, ◌++◌, length, Option, Some, None}
use Rattle.lk_names.specs.Journal.{balances_after, Replays, IsRight}
use Rattle.lk_names.specs.declared.ledger.Entry.{Entry}
use Rattle.lk_names.specs.declared.ledger.Job.{Job}
use Rattle.lk_names.specs.declared.ledger.Reply.{Reply}
use Rattle.lk_domain.specs.Ledgers.{Ledger, Look, new_look, manner_of, trail_of, listed_look}
use Rattle.lk_run.specs.Polls.{IsPolled}
use Rattle.lk_guard.specs.Guards.{Guard, IsToWrite, IsBare}

abbrev pub entry : ℕ → ℕ → Job → Reply → Entry
entry p n job reply = record { worker = p; number = n; job = job; reply = reply }

-- one state of the journal has so many entries, and the entry is right on its balances
pub record WritesAt (opening : List ℕ) (place : ℕ) (e : Entry) : Type 0 where
  pub journal : List Entry
  pub replays : Replays opening journal
  pub long : place ≡ length journal
  pub right : IsRight (balances_after opening journal) e

-- The entry was appended to one state of the journal, behind all that the processor had seen. The
-- looks before and after it are of a hold that was taken for a write, and loaded nothing.
pub record IsWritten (h : Guard) (p place : ℕ) (e : Entry) (g : Ledger) (first second : Look)
    : Type 0 where
  pub seen : g.seen ≤ place
  pub state : WritesAt h.opening place e
  pub taken : IsToWrite h p first × IsToWrite h p second
  pub bare : IsBare first × IsBare second

-- what the processor knows of the ledger after a write with these two looks
abbrev pub after_write : Ledger → ℕ → Entry → Look → Look → Ledger
after_write g place e first second =
    record {
      share = g.share - 1;
      seen = place + 1;
      own = g.own ++ (place, e) ∷ [];
      out = None;
      look = None;
      looks = (g.looks ++ first ∷ []) ++ second ∷ [];
    }

-- a write in a hold of its own, which appended one entry and left two looks more; while it waited
-- for that hold what interrupts it was polled, which told the first number before and the second one
-- after
pub record HasWritten (h : Guard) (p n : ℕ) (job : Job) (reply : Reply) (old new : Ledger)
    (before after : Option ℕ) : Type 0 where
  pub place : ℕ
  pub first : Look
  pub second : Look
  pub written : IsWritten h p place (entry p n job reply) old first second
  pub ledger : new ≡ after_write old place (entry p n job reply) first second
  pub polled : IsPolled first.trail before after

-- what the processor knows of the ledger where the journal came home with one entry more, and it
-- still holds the lock
abbrev pub after_append : Ledger → ℕ → Entry → Ledger
after_append g place e =
    record {
      share = g.share - 1;
      seen = place + 1;
      own = g.own ++ (place, e) ∷ [];
      out = None;
      look = Some (new_look (manner_of g.look) (trail_of g.look));
      looks = g.looks ++ listed_look g.look;
    }

-- one entry was appended in a hold of lock 0, which began a look anew
pub record HasAppended (opening : List ℕ) (p n : ℕ) (job : Job) (reply : Reply)
    (old new : Ledger) : Type 0 where
  pub place : ℕ
  pub seen : old.seen ≤ place
  pub state : WritesAt opening place (entry p n job reply)
  pub ledger : new ≡ after_append old place (entry p n job reply)
