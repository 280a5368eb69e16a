-- What a waiter does for one reader-writer lock, as far as the laws read it: nine phases stand for
-- the rows of readers and writers, and for those of the wait lock on their way.
use Rattle.std.specs.Prelude.{Option, Some, Bool, true, false, ◌||◌}
use Rattle.lk_names.specs.declared.holder.Manner.{Manner}
use Rattle.lk_names.specs.declared.holder.Manner.TheVariants.{Reads}

-- what a waiter does for one reader-writer lock
pub data RwPhase : Type 0 where
  -- it does nothing for the lock, or holds it and does no more
  Away : RwPhase
  -- it is on its way, and has touched nothing of the lock
  Asks : RwPhase
  -- it is counted among the readers, and does not hold the lock
  Biases : RwPhase
  -- it has the wait lock
  Inside : RwPhase
  -- it has the wait lock, and is counted among the readers
  Joins : RwPhase
  -- it has the wait lock, and has set waiting
  Announces : RwPhase
  -- it has the wait lock and holds the lock, and is about to free the wait lock
  Frees : RwPhase
  -- it is about to release as a reader, or as the writer
  Unreads : RwPhase
  Unwrites : RwPhase

-- the phase is counted among the readers, without holding
abbrev pub biased : RwPhase → Bool
biased Biases = true
biased Joins = true
biased _ = false

-- the phase is on its way to the lock
abbrev pub asks : RwPhase → Bool
asks Asks = true
asks Biases = true
asks Inside = true
asks Joins = true
asks Announces = true
asks _ = false

-- the phase has the wait lock
abbrev pub is_inner : RwPhase → Bool
is_inner Inside = true
is_inner Joins = true
is_inner Announces = true
is_inner Frees = true
is_inner _ = false

-- the phase wants nothing more of the lock
abbrev pub rests : RwPhase → Bool
rests Away = true
rests Frees = true
rests _ = false

-- the phase has set waiting
abbrev pub announces : RwPhase → Bool
announces Announces = true
announces _ = false

-- the waiter holds the lock as a reader
abbrev pub reads : Option Manner → Bool
reads (Some Reads) = true
reads _ = false

-- the waiter is one of the readers that the word counts
abbrev pub is_counted : RwPhase → Option Manner → Bool
is_counted r h = biased r || reads h
