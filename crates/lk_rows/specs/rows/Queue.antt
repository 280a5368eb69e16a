-- The rows of the queue: those on the word, those on a node's flag, those on a node's link, and the
-- one that takes a node. They are those of the slow path of Linux's qspinlock.c.
use Rattle.std.specs.Prelude.{◌+◌, ◌==◌, ℕ, Option, Some, None, Bool, List, [], ◌∷◌, ◌&&◌, not}
use Rattle.std.specs.Prelude.{is_some, nat_lt, if◌then◌else◌}
use Rattle.lk_names.specs.declared.names.Mode.{Mode}
use Rattle.lk_names.specs.declared.names.Mode.TheVariants.{Cna, Pv}
use Rattle.lk_names.specs.declared.events.How.{How}
use Rattle.lk_names.specs.declared.events.How.TheVariants as how
use Rattle.lk_names.specs.declared.events.What.TheVariants.{Take, Arrive}
use Rattle.lk_word.specs.declared.spin_word.NodeName.{NodeName}
use Rattle.lk_word.specs.declared.spin_word.Locked.TheVariants.{Held}
use Rattle.lk_word.specs.declared.spin_word.Fields.{Fields}
use Rattle.lk_rows.specs.declared.parts.Flag.{Flag}
use Rattle.lk_rows.specs.declared.parts.Flag.TheVariants as flag
use Rattle.lk_rows.specs.declared.parts.Frame.{Frame}
use Rattle.lk_rows.specs.declared.parts.Pc.{Pc}
use Rattle.lk_rows.specs.declared.parts.Pc.TheVariants.{G2, G3, G4, G5, G6, G7, G8, G9, G10, G11}
use Rattle.lk_rows.specs.declared.parts.Pc.TheVariants.{N1, N2, H1, E1, C1, W1}
use Rattle.lk_rows.specs.Moves.{is_node, node_of}
use Rattle.lk_rows.specs.Row.{Effect, Counter, LockSlowpath, LockUseNode2, LockUseNode3}
use Rattle.lk_rows.specs.Row.{LockUseNode4, LockNoNode, Goes, Enters, Leaves, Nothing, Says}
use Rattle.lk_rows.specs.Row.{Passes, Prev, Second, Left, Lead, looks, learns, looks_for_next}
use Rattle.lk_rows.specs.rows.Spin.{is_unlocked, is_free, held_word}

-- the free word is swapped to locked, and the frame leaves the slow path with the lock
abbrev pub takes_out : Frame → How → Effect Fields
takes_out f h =
    record { stores = Some held_word; leads = Leaves; tells = Says (Take f.lock h); counts = [] }

-- the node that a frame gets where so many frames of its processor are in the slow path
abbrev pub own_node : ℕ → ℕ → Option NodeName
own_node p i = if nat_lt i 4 then Some (record { cpu = p; index = i }) else None

-- where a frame goes that got this node
abbrev pub after_entry : Mode → Option NodeName → Pc
after_entry Pv me = H1
after_entry _ None = N1
after_entry _ (Some n) = G2

-- what the entry counts by its index: which node it is
abbrev pub index_count : ℕ → List Counter
index_count i =
    if i == 0 then []
    else if i == 1 then LockUseNode2 ∷ []
    else if i == 2 then LockUseNode3 ∷ []
    else if i == 3 then LockUseNode4 ∷ []
    else LockNoNode ∷ []

-- what an entry to the slow path counts, by how many frames are there already
abbrev pub entry_counts : Mode → ℕ → List Counter
entry_counts Pv i = index_count i
entry_counts _ i = LockSlowpath ∷ index_count i

-- Where an exchange of the tail leads: without a queue before it the frame is the head; else it
-- will link its node behind the old tail.
abbrev pub after_arrival : Mode → Option NodeName → Effect Fields
after_arrival Pv None = looks E1
after_arrival _ None = looks G7
after_arrival _ (Some n) = learns G5 (Prev (Some n))

-- where the head goes that looked at the word
abbrev pub after_look : Frame → Fields → Pc
after_look f x =
    if is_unlocked x.locked && not x.pending
    then (if is_node x.tail (node_of f.me) && not (is_some f.second) then G8 else G9)
    else G7

-- a head that is alone in the queue
abbrev pub is_sole : Frame → Fields → Bool
is_sole f x = is_unlocked x.locked && not x.pending && is_node x.tail (node_of f.me)

-- where a head goes on that has taken the lock and has others behind it
abbrev pub after_head : Mode → Pc
after_head Cna = C1
after_head _ = G10

-- the rows on the word
abbrev pub queue_row : Mode → Pc → Frame → Fields → Effect Fields
queue_row mode G2 f x = looks (if is_free x then G3 else G4)
queue_row mode G3 f x = if is_free x then takes_out f how.Retry else looks G4
queue_row mode G4 f x =
    record (after_arrival mode x.tail) {
      stores = Some (record x { tail = f.me });
      tells = Says (Arrive f.lock);
    }
queue_row mode G7 f x = looks (after_look f x)
queue_row mode G8 f x = if is_sole f x then takes_out f how.Sole else looks G9
queue_row mode G9 f x =
    record {
      stores = Some (record x { locked = Held });
      leads = Goes (after_head mode) [];
      tells = Says (Take f.lock how.Head);
      counts = [];
    }
queue_row mode N1 f x = looks (if is_free x then N2 else N1)
queue_row mode N2 f x = if is_free x then takes_out f how.NoNode else looks N1
queue_row mode c f x = looks c

-- the row on the number of frames in the slow path
abbrev pub entry_row : Mode → ℕ → ℕ → Effect ℕ
entry_row mode p i =
    record {
      stores = Some (i + 1);
      leads = Enters (own_node p i) (after_entry mode (own_node p i));
      tells = Nothing;
      counts = entry_counts mode i;
    }

-- what a waiter does that saw its flag
abbrev pub after_flag : Flag → Effect Flag
after_flag flag.Unset = looks G6
after_flag flag.Go = looks G7
after_flag (flag.Second n) = learns G7 (Second (Some n))

-- the rows on a flag: that of the own node, and that of the next
abbrev pub flag_row : Pc → Frame → Flag → Effect Flag
flag_row G6 f x = after_flag x
flag_row G11 f x =
    record { stores = Some flag.Go; leads = Leaves; tells = Passes (node_of f.y) 0; counts = [] }
flag_row c f x = looks c

-- what the head does that looked for the next
abbrev pub after_next : Option NodeName → Effect (Option NodeName)
after_next x = looks_for_next G10 G11 x

-- where a waiter goes that has linked its node: a paravirtual one spins for so many turns
abbrev pub after_link : Mode → ℕ → Lead
after_link Pv spins = Goes W1 (Left spins ∷ [])
after_link _ spins = Goes G6 []

-- the rows on a link: that of the node before, and that of the own node
abbrev pub next_row : Mode → ℕ → Pc → Frame → Option NodeName → Effect (Option NodeName)
next_row mode spins G5 f x =
    record { stores = Some f.me; leads = after_link mode spins; tells = Nothing; counts = [] }
next_row mode spins G10 f x = after_next x
next_row mode spins c f x = looks c
