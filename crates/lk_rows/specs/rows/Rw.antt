-- The rows of readers and writers, on the word of a reader-writer lock. They are those of Linux's
-- qrwlock.c.
use Rattle.std.specs.Prelude.{◌+◌, ◌-◌, ◌==◌, Option, Some, None, Bool, true, false, [], ◌&&◌, not}
use Rattle.std.specs.Prelude.{if◌then◌else◌}
use Rattle.lk_names.specs.declared.names.Mode.{Mode}
use Rattle.lk_names.specs.declared.names.LockName.{LockName}
use Rattle.lk_names.specs.declared.events.RwHow.{RwHow}
use Rattle.lk_names.specs.declared.events.RwHow.TheVariants as how
use Rattle.lk_names.specs.declared.events.What.TheVariants.{Miss, RTake, RRelease, WTake, WRelease}
use Rattle.lk_word.specs.declared.rw_word.RwFields.{RwFields}
use Rattle.lk_rows.specs.declared.setup.Verb.TheVariants.{Unlock}
use Rattle.lk_rows.specs.declared.parts.Frame.{Frame}
use Rattle.lk_rows.specs.declared.parts.Pc.{Pc}
use Rattle.lk_rows.specs.declared.parts.Pc.TheVariants.{R1, R2, R3, R4, R5, Wr1, Wr2, Wr3, Wr4}
use Rattle.lk_rows.specs.declared.parts.Pc.TheVariants.{Wr5, Wr6, Y1, Y2, Y3, Y4, Y5, Z1, Z2}
use Rattle.lk_rows.specs.Moves.{first_place, rw_name}
use Rattle.lk_rows.specs.Row.{Effect, Lead, Goes, Missed, Done, TakesWait, Nothing, Says, looks}
use Rattle.lk_rows.specs.Row.{writes, misses}

-- no reader, not waiting, and no writer
abbrev pub is_empty : RwFields → Bool
is_empty x = (x.readers == 0) && not x.waiting && not x.writer

-- a reader may come in: not waiting, and no writer
abbrev pub is_open : RwFields → Bool
is_open x = not x.waiting && not x.writer

-- a writer waits, and nobody is before it
abbrev pub is_cleared : RwFields → Bool
is_cleared x = (x.readers == 0) && x.waiting && not x.writer

-- the word with one reader more, with one less, and the writer's word
abbrev pub one_more : RwFields → RwFields
one_more x = record x { readers = x.readers + 1 }

-- the word with one reader less
abbrev pub one_less : RwFields → RwFields
one_less x = record x { readers = x.readers - 1 }

-- the word that a writer has taken
abbrev pub written_word : RwFields
written_word = record { readers = 0; waiting = false; writer = true }

-- the lock of the frame's operation, where the frame may act on its wait lock
abbrev pub rw_lock : Frame → LockName
rw_lock f = rw_name f.lock.index

-- the reader comes in, by this way: its operation is done, or it frees the wait lock first
abbrev pub admits : Frame → Option RwFields → RwHow → Lead → Effect RwFields
admits f x h lead =
    record { stores = x; leads = lead; tells = Says (RTake (rw_lock f) h); counts = [] }

-- the writer takes the lock
abbrev pub takes_written : Frame → RwHow → Lead → Effect RwFields
takes_written f h lead =
    record {
      stores = Some written_word;
      leads = lead;
      tells = Says (WTake (rw_lock f) h);
      counts = [];
    }

-- the wait lock is taken first
abbrev pub queues_up : Option RwFields → Pc → Effect RwFields
queues_up x c = record { stores = x; leads = TakesWait c; tells = Nothing; counts = [] }

-- the wait lock is freed: the release of a spinlock begins
abbrev pub frees_wait : Mode → Lead
frees_wait mode = Goes (first_place mode Unlock) []

-- where a reader goes that found no way in: one in an interrupt waits for the writer alone
abbrev pub after_bias : Frame → Pc
after_bias f = if f.ctx == 0 then R3 else R2

-- Each row by its label, the frame, and the word that it meets. The comments give the word before
-- and after as (readers,waiting,writer).
abbrev pub rw_row : Mode → Pc → Frame → RwFields → Effect RwFields
-- a reader adds its bias, r,w,x -> r+1,w,x; at r,0,0 it has come in
rw_row mode R1 f x = if is_open x then admits f (Some (one_more x)) how.Fast Done
    else writes (one_more x) (after_bias f)
-- a reader in an interrupt looks until r,w,0
rw_row mode R2 f x = if x.writer then looks R2 else admits f None how.Irq Done
-- a task's reader takes its bias back, r,w,x -> r-1,w,x, and queues
rw_row mode R3 f x = queues_up (Some (one_less x)) R4
-- at the head of the queue it adds its bias again, r,w,x -> r+1,w,x
rw_row mode R4 f x = writes (one_more x) R5
-- and looks until r,w,0
rw_row mode R5 f x = if x.writer then looks R5 else admits f None how.Queued (frees_wait mode)
-- a writer swaps 0,0,0 -> 0,0,1, or queues
rw_row mode Wr1 f x = if is_empty x then takes_written f how.Fast Done else queues_up None Wr2
-- at the head of the queue it looks for 0,0,0
rw_row mode Wr2 f x = looks (if is_empty x then Wr3 else Wr4)
-- and swaps 0,0,0 -> 0,0,1
rw_row mode Wr3 f x = if is_empty x then takes_written f how.Queued (frees_wait mode) else looks Wr4
-- or says that it waits, r,w,x -> r,1,x
rw_row mode Wr4 f x = writes (record x { waiting = true }) Wr5
-- and looks until 0,1,0
rw_row mode Wr5 f x = looks (if is_cleared x then Wr6 else Wr5)
-- to swap 0,1,0 -> 0,0,1
rw_row mode Wr6 f x = if is_cleared x then takes_written f how.Queued (frees_wait mode)
    else looks Wr5
-- a reader that tries looks for r,0,0
rw_row mode Y1 f x = if is_open x then looks Y2 else misses (Miss (rw_lock f))
-- adds its bias, r,w,x -> r+1,w,x; at r,0,0 it has come in
rw_row mode Y2 f x = if is_open x then admits f (Some (one_more x)) how.Try Done
    else writes (one_more x) Y3
-- and else takes it back, r,w,x -> r-1,w,x
rw_row mode Y3 f x =
    record {
      stores = Some (one_less x);
      leads = Missed;
      tells = Says (Miss (rw_lock f));
      counts = [];
    }
-- a writer that tries looks for 0,0,0
rw_row mode Y4 f x = if is_empty x then looks Y5 else misses (Miss (rw_lock f))
-- and swaps 0,0,0 -> 0,0,1
rw_row mode Y5 f x = if is_empty x then takes_written f how.Try Done else misses (Miss (rw_lock f))
-- a reader releases, r,w,x -> r-1,w,x
rw_row mode Z1 f x =
    record {
      stores = Some (one_less x);
      leads = Done;
      tells = Says (RRelease (rw_lock f));
      counts = [];
    }
-- the writer releases, r,w,1 -> r,w,0
rw_row mode Z2 f x =
    record {
      stores = Some (record x { writer = false });
      leads = Done;
      tells = Says (WRelease (rw_lock f));
      counts = [];
    }
rw_row mode c f x = looks c
