-- The rows on the word of a spinlock that need no queue: the fast path, the try, the test-and-set
-- loop, the pending path, and the release. They are those of Linux's qspinlock.c; the loop is its
-- fallback under a hypervisor.
use Rattle.std.specs.Prelude.{Some, None, Bool, true, false, [], ◌∷◌, ◌&&◌, not, is_some}
use Rattle.std.specs.Prelude.{if◌then◌else◌}
use Rattle.lk_names.specs.declared.names.Mode.{Mode}
use Rattle.lk_names.specs.declared.names.Mode.TheVariants.{Virt, Pv}
use Rattle.lk_names.specs.declared.events.How.{How}
use Rattle.lk_names.specs.declared.events.How.TheVariants as how
use Rattle.lk_names.specs.declared.events.What.TheVariants.{Take, Miss, Release}
use Rattle.lk_word.specs.declared.spin_word.Locked.{Locked}
use Rattle.lk_word.specs.declared.spin_word.Locked.TheVariants.{Free, Held}
use Rattle.lk_word.specs.declared.spin_word.Fields.{Fields}
use Rattle.lk_rows.specs.declared.parts.Frame.{Frame}
use Rattle.lk_rows.specs.declared.parts.Pc.{Pc}
use Rattle.lk_rows.specs.declared.parts.Pc.TheVariants.{F1, T1, T2, U1, V1, V2, P0, P1, P2, P3}
use Rattle.lk_rows.specs.declared.parts.Pc.TheVariants.{P4, G1}
use Rattle.lk_rows.specs.Row.{Effect, Granted, Freed, Says, LockPending, looks, writes, misses}

-- the byte is free
abbrev pub is_unlocked : Locked → Bool
is_unlocked Free = true
is_unlocked _ = false

-- not locked, not pending, and no queue
abbrev pub is_free : Fields → Bool
is_free x = is_unlocked x.locked && not x.pending && not (is_some x.tail)

-- locked, not pending, and no queue
abbrev pub held_word : Fields
held_word = record { locked = Held; pending = false; tail = None }

-- the free word is swapped to locked, and the lock is granted
abbrev pub takes : Frame → How → Effect Fields
takes f h = record {
  stores = Some held_word;
  leads = Granted;
  tells = Says (Take f.lock h);
  counts = [];
}

-- a word that is pending, or has a queue, sends to the queue
abbrev pub to_queue : Fields → Pc
to_queue x = if x.pending then G1 else (if is_some x.tail then G1 else P1)

-- Where the fast path leads that met a word that was not free. A word that is pending alone is
-- about to be taken, and is looked at once more.
abbrev pub after_fast : Mode → Fields → Pc
after_fast Virt x = V1
after_fast Pv x = G1
after_fast _ x = if is_unlocked x.locked && x.pending && not (is_some x.tail) then P0
    else to_queue x

-- where setting pending leads, by the word before it
abbrev pub after_pending : Fields → Pc
after_pending x = if x.pending then G1
    else (if is_some x.tail then P2 else (if is_unlocked x.locked then P4 else P3))

-- each row by its label, the frame, and the word that it meets
abbrev pub spin_row : Mode → Pc → Frame → Fields → Effect Fields
spin_row mode F1 f x = if is_free x then takes f how.Fast else looks (after_fast mode x)
spin_row mode T1 f x = if is_free x then looks T2 else misses (Miss f.lock)
spin_row mode T2 f x = if is_free x then takes f how.Try else misses (Miss f.lock)
spin_row mode U1 f x =
    record {
      stores = Some (record x { locked = Free });
      leads = Freed;
      tells = Says (Release f.lock None);
      counts = [];
    }
spin_row mode V1 f x = looks (if is_free x then V2 else V1)
spin_row mode V2 f x = if is_free x then takes f how.Virt else looks V1
spin_row mode P0 f x = looks (to_queue x)
spin_row mode P1 f x = writes (record x { pending = true }) (after_pending x)
spin_row mode P2 f x = writes (record x { pending = false }) G1
spin_row mode P3 f x = looks (if is_unlocked x.locked then P4 else P3)
spin_row mode P4 f x =
    record {
      stores = Some (record x { locked = Held; pending = false });
      leads = Granted;
      tells = Says (Take f.lock how.Pending);
      counts = LockPending ∷ [];
    }
spin_row mode c f x = looks c
