-- Readers and writers that wait: where they stand, and what polls leave of them.
use Rattle.std.proofs.Common.{◌≡◌, ◌≢◌, ℕ, Bool, List, length, Option, None, refl, ap, arith}
use Rattle.lk_run.proofs.Names.{wait_name, Frame, Pc, R2, R5, Wr5, Read, Write, Running, lock_name}
use Rattle.lk_run.proofs.Names.{Any, AreKept, calls_of, Cpu, Domain, Plan, HasPolled, Start, Waiter}
use Rattle.lk_run.proofs.Names.{GivesWay, ReadPlace, WritePlace}
use Rattle.lk_run.specs.{PolledRead.{Alone, Nested}, Resting.{row_at, frame_at}, Turns.Stands}
use Rattle.lk_run.specs.Waiters.{Waits, At}
use Rattle.lk_run.specs.PolledRead as read
use Rattle.lk_run.specs.PolledWrite as write
use Rattle.lk_run.specs.declared.read_waiter.ReadPlace.TheVariants as at
use Rattle.lk_run.specs.declared.write_waiter.WritePlace.TheVariants as place
use Rattle.lk_run.proofs.Stepped as way
use Rattle.lk_run.proofs.Turning as turn

-- a call stands at its row

pub at_row : {w : Waiter} {c : Pc} {a : Cpu} → Stands w.domain (Waits w c) a → At w c a
at_row h = record { domain = h.domain; start = h.start; told = h.told; waits = h.at }

pub at_alone : {w : Waiter} {c : Pc} {a : Cpu} → Stands w.domain (Alone (Waits w c)) a → At w c a
at_alone h = record { domain = h.domain; start = h.start; told = h.told; waits = h.at.1 }

pub at_nested : {w : Waiter} {c : Pc} {a : Cpu} → Stands w.domain (Nested (Waits w c)) a → At w c a
at_nested h = record { domain = h.domain; start = h.start; told = h.told; waits = h.at.1 }

-- how many calls the processor has

pub one_call : {w : Waiter} {c : Pc} {P : Frame → Type 0} {s : Start} {a : Cpu} {t : Option ℕ}
    → Alone (HasPolled w c P) s a t → length (calls_of a).frames ≡ 1
one_call h =
    let deep = ap (λ (rs : List Running). length rs) h.1.looked.at.frames in
    let none = h.0 in omega (arith, deep, none)

pub two_calls : {w : Waiter} {c : Pc} {P : Frame → Type 0} {s : Start} {a : Cpu} {t : Option ℕ}
    → Nested (HasPolled w c P) s a t → length (calls_of a).frames ≢ 1
two_calls h one =
    let deep = ap (λ (rs : List Running). length rs) h.1.looked.at.frames in
    h.0 (omega (arith, deep, one))

-- what polls leave of one that rests

module _ {nests : Bool} {x y : Cpu} {t u : Option ℕ} (gave : GivesWay nests x t y u) where
  pub read_polled : (d : Domain) (l : ℕ) (p : ReadPlace) (s : Start) → s.nests ≡ nests → read.Owes d l p s x t → read.Rests d l p s y u
  read_polled d l (at.Queues r) s e h = (h.0, way.polled d Read (wait_name l) (row_at r) (frame_at r) s x y nests t u h.1 gave e)
  read_polled d l at.Watches s e h = (h.0, way.polled_in d Read l R5 Any s x y nests t u h.1 gave e)
  read_polled d l at.Spins s e h = (h.0, way.polled d Read (lock_name l) R2 Any s x y nests t u h.1 gave e)

  pub write_polled : (d : Domain) (l : ℕ) (p : WritePlace) (s : Start) → s.nests ≡ nests → write.Owes d l p s x t → write.Rests d l p s y u
  write_polled d l (place.Queues r) s e h = way.polled d Write (wait_name l) (row_at r) (frame_at r) s x y nests t u h gave e
  write_polled d l place.Watches s e h = way.polled_in d Write l Wr5 Any s x y nests t u h gave e

-- and of what it knows

pub read_fits : (k : Plan) (p : ReadPlace) (a b : Cpu) → AreKept (calls_of a) (calls_of b) → read.Fits k p a → read.Fits k p b
read_fits k (at.Queues r) a b kept h = turn.fits_kept kept h
read_fits k at.Watches a b kept h = tt
read_fits k at.Spins a b kept h = tt

pub write_fits : (k : Plan) (p : WritePlace) (a b : Cpu) → AreKept (calls_of a) (calls_of b) → write.Fits k p a → write.Fits k p b
write_fits k (place.Queues r) a b kept h = turn.fits_kept kept h
write_fits k place.Watches a b kept h = tt

-- told nothing of polls, it is due none

pub read_due_none : (d : Domain) (l : ℕ) (p : ReadPlace) (s : Start) (a : Cpu) → read.Owes d l p s a None → read.Rests d l p s a None
read_due_none d l p s a h = read_polled (turn.gives_none s.nests a) d l p s refl h

pub write_due_none : (d : Domain) (l : ℕ) (p : WritePlace) (s : Start) (a : Cpu) → write.Owes d l p s a None → write.Rests d l p s a None
write_due_none d l p s a h = write_polled (turn.gives_none s.nests a) d l p s refl h
