-- What a record of halts and kicks, kept in memory, says of the events so far.
use Rattle.std.specs.Prelude.{◌≡◌, ℕ, ◌+◌, ◌*◌, ◌<◌, ◌≤◌, Some, Bool, false, ◌&&◌, nat_lt, List, length, slice_get, slice_index_or, All}
use Rattle.lk_names.specs.Kicks.{KickState, sleeps_after, owes, kicks, kicked_after}
use Rattle.lk_names.specs.Lists.{waiter_number}
use Rattle.lk_names.specs.declared.names.Waiter.{Waiter}
use Rattle.lk_names.specs.declared.events.Event.{Event}
use Rattle.lk_names.specs.declared.events.What.{What}
use Rattle.lk_names.specs.declared.events.What.TheVariants.{Kick, Release}
use Rattle.lk_abs.specs.declared.kick_record.KickRecord.{KickRecord}

-- what is kept, and nothing of waiters and processors of which nothing is kept
abbrev pub state_of : KickRecord → KickState
state_of k =
    record {
      asleep = λ w. nat_lt w.ctx 6 && slice_index_or k.asleep.items (waiter_number w) false;
      owing = λ p. slice_index_or k.owing.items p 0;
      made = λ p. slice_index_or k.kicks.items p 0;
      kicked = λ p. slice_index_or k.kicked.items p false;
    }

-- so many places from here on sleep no longer, and the others are as they were
pub record IsRoused (old new : List Bool) (i n : ℕ) : Type 0 where
  pub as_long : length new ≡ length old
  pub inside : (j : ℕ) → i ≤ j → j < i + n → slice_get new j ≡ Some false
  pub before : (j : ℕ) → j < i → slice_get new j ≡ slice_get old j
  pub after : (j : ℕ) → i + n ≤ j → slice_get new j ≡ slice_get old j

-- one place for each waiter, and one for each processor
pub record HasRoom (k : KickRecord) : Type 0 where
  pub asleep : length k.asleep.items ≡ length k.owing.items * 6
  pub kicks : length k.kicks.items ≡ length k.owing.items
  pub kicked : length k.kicked.items ≡ length k.owing.items
  pub small : length k.owing.items ≤ 1024

-- there is a place for each, and no count is above the number of events
pub record IsKept (k : KickRecord) : Type 0 where
  pub room : HasRoom k
  pub owing : All (λ n. n ≤ k.told) k.owing.items
  pub kicks : All (λ n. n ≤ k.told) k.kicks.items

-- the processors that an event names beside its own are below this number
abbrev pub IsNamedBy : ℕ → What → Type 0
IsNamedBy count (Kick p) = p < count
IsNamedBy count (Release l (Some p)) = p < count
IsNamedBy count _ = Unit {0}

-- the event is by a waiter of so many processors, and names one of them if any
pub record IsNamed (count : ℕ) (e : Event) : Type 0 where
  pub cpu : e.by.cpu < count
  pub ctx : e.by.ctx < 6
  pub other : IsNamedBy count e.what

-- what is kept is told on by the event
pub record IsToldOn (old new : KickRecord) (e : Event) : Type 0 where
  pub as_many : length new.owing.items ≡ length old.owing.items
  pub asleep : (w : Waiter) (b : Bool)
      → w.ctx < 6
      → w.cpu < length old.owing.items
      → slice_get old.asleep.items (waiter_number w) ≡ Some b
      → slice_get new.asleep.items (waiter_number w) ≡ Some (sleeps_after w b e)
  pub owed : (p m : ℕ) → slice_get old.owing.items p ≡ Some m → slice_get new.owing.items p ≡ Some (owes p e.what + m)
  pub kicks : (p m : ℕ) → slice_get old.kicks.items p ≡ Some m → slice_get new.kicks.items p ≡ Some (kicks p e.what + m)
  pub kicked : (p : ℕ) (b : Bool) → slice_get old.kicked.items p ≡ Some b → slice_get new.kicked.items p ≡ Some (kicked_after p b e)
