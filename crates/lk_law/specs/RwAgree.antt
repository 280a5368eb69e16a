-- When the word of a reader-writer lock and the phases of its waiters agree with its history.
use Rattle.std.specs.Prelude.{◌≡◌, ◌≢◌, ℕ, Option, Some, None, Bool, true, List, [], length}
use Rattle.std.specs.Prelude.{slice_get}
use Rattle.lk_names.specs.History.{LockHistory}
use Rattle.lk_names.specs.declared.holder.Manner.{Manner}
use Rattle.lk_names.specs.declared.holder.Manner.TheVariants.{Spins, Reads, Writes}
use Rattle.lk_names.specs.declared.holder.Holder.{Holder}
use Rattle.lk_names.specs.declared.names.Waiter.{Waiter}
use Rattle.lk_word.specs.declared.rw_word.RwFields.{RwFields}
use Rattle.lk_law.specs.Snapshot.{Moves}
use Rattle.lk_law.specs.RwPhase.{RwPhase, asks, is_inner, is_counted}
use Rattle.lk_law.specs.RwPhase.RwPhase.{Announces, Unreads, Unwrites}

-- the list has each of those of which the fact is true, once
pub record IsEach {A : Type 0} (P : A → Type 0) (xs : List A) : Type 0 where
  pub inside : (i : ℕ) (x : A) → slice_get xs i ≡ Some x → P x
  pub place : (x : A) → P x → (i : ℕ) × (slice_get xs i ≡ Some x)
  pub once : (i j : ℕ) (x : A) → slice_get xs i ≡ Some x → slice_get xs j ≡ Some x → i ≡ j

-- The word counts the waiters that hold as readers, and those that are counted on their way.
pub record ReadersAgree (readers : ℕ) (phase : Waiter → RwPhase) (held : Waiter → Option Manner)
    (counted : List Waiter) : Type 0 where
  pub each : IsEach (λ u. is_counted (phase u) (held u) ≡ true) counted
  pub number : readers ≡ length counted

-- The history's holders are those that hold, in their manner, each once; writer is yes exactly
-- where one holds as the writer, and then nobody else holds; who is on its way does not hold, and
-- who is about to release holds so.
pub record HoldsAgree (writer : Bool) (phase : Waiter → RwPhase) (held : Waiter → Option Manner)
    (holders : List Holder) : Type 0 where
  pub each : IsEach (λ (x : Holder). held x.waiter ≡ Some x.manner) holders
  pub unspun : (u : Waiter) → held u ≢ Some Spins
  pub written : writer ≡ true → (u : Waiter) × (held u ≡ Some Writes)
  pub writes : (u : Waiter) → held u ≡ Some Writes → writer ≡ true
  pub alone : (u v : Waiter) (m : Manner) → held u ≡ Some Writes → held v ≡ Some m → v ≡ u
  pub without : (u : Waiter) → asks (phase u) ≡ true → held u ≡ None
  pub unreads : (u : Waiter) → phase u ≡ Unreads → held u ≡ Some Reads
  pub unwrites : (u : Waiter) → phase u ≡ Unwrites → held u ≡ Some Writes

-- Waiting is yes exactly where a waiter has set it; and who has the wait lock is past taking it,
-- and has not freed it.
pub record WaitingAgrees (waiting : Bool) (phase : Waiter → RwPhase) (waits : Waiter → Bool) : Type
    0 where
  pub set : (u : Waiter) → phase u ≡ Announces → waiting ≡ true
  pub someone : waiting ≡ true → (u : Waiter) × (phase u ≡ Announces)
  pub inner : (u : Waiter) → waits u ≡ is_inner (phase u)

-- One reader-writer lock's word and phases agree with its history. Nobody queues for it: that is
-- the wait lock's.
pub record RwAgrees (x : RwFields) (phase : Waiter → RwPhase) (held : Waiter → Option Manner)
    (waits : Waiter → Bool) (h : LockHistory) : Type 0 where
  pub counted : List Waiter
  pub readers : ReadersAgree x.readers phase held counted
  pub holds : HoldsAgree x.writer phase held h.holders
  pub waiting : WaitingAgrees x.waiting phase waits
  pub main : h.main ≡ []
  pub second : h.second ≡ []
  pub passes : h.passes ≡ []

-- what a row of w changes for one reader-writer lock: its phase, how it holds the lock, and whether
-- it has the wait lock
pub record RwStep (phase phase' : Waiter → RwPhase) (held held' : Waiter → Option Manner)
    (waits waits' : Waiter → Bool) (w : Waiter) (r r' : RwPhase)
    (h h' : Option Manner) : Type 0 where
  pub acts : Moves phase phase' w r r'
  pub holds : Moves held held' w h h'
  pub others : (u : Waiter) → u ≢ w → waits' u ≡ waits u
  pub inner : waits' w ≡ is_inner r'
