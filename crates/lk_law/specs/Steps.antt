-- A row on a world, outright: which word, node, frame and hold there are afterwards, and what it
-- tells.
use Rattle.std.specs.Prelude.{◌-◌, ◌==◌, ◌&&◌, ℕ, Option, Some, None, Bool, false, if◌then◌else◌}
use Rattle.std.proofs.Common.{zero, suc}
use Rattle.lk_names.specs.Names.{same_lock, same_waiter}
use Rattle.lk_names.specs.Lawful.{is_local}
use Rattle.lk_names.specs.History.{LockHistory, told}
use Rattle.lk_names.specs.declared.holder.Manner.{Manner}
use Rattle.lk_names.specs.declared.holder.Manner.TheVariants.{Spins, Reads, Writes}
use Rattle.lk_names.specs.declared.names.Waiter.{Waiter}
use Rattle.lk_names.specs.declared.names.LockName.{LockName}
use Rattle.lk_names.specs.declared.events.Event.{Event}
use Rattle.lk_names.specs.declared.events.What.TheVariants.{Pass, RTake, RRelease, WTake, WRelease}
use Rattle.lk_word.specs.declared.spin_word.NodeName.{NodeName}
use Rattle.lk_word.specs.declared.spin_word.Fields.{Fields}
use Rattle.lk_word.specs.declared.rw_word.RwFields.{RwFields}
use Rattle.lk_rows.specs.declared.parts.Flag.{Flag}
use Rattle.lk_rows.specs.declared.parts.State.{State}
use Rattle.lk_rows.specs.declared.parts.Node.{Node}
use Rattle.lk_rows.specs.declared.parts.Frame.{Frame}
use Rattle.lk_rows.specs.declared.parts.Pc.{Pc}
use Rattle.lk_rows.specs.Machine.{rest_node}
use Rattle.lk_rows.specs.Moves.{is_node, node_of, rw_name, waiting}
use Rattle.lk_rows.specs.Row.{Lead, Goes, Enters, Granted, Freed, Missed, Leaves, Yields, Tell}
use Rattle.lk_rows.specs.Row.{Nothing, Says, Passes, gone, entered, Effect, Done, TakesWait}
use Rattle.lk_rows.specs.rows.Spin.{spin_row}
use Rattle.lk_rows.specs.rows.Queue.{queue_row, entry_row, flag_row, next_row}
use Rattle.lk_rows.specs.rows.Cna.{Sight, search_row, second_row, runs_row}
use Rattle.lk_rows.specs.rows.Cna.{handover_row, promotion_row}
use Rattle.lk_rows.specs.TopRow.{Target, SpinWord, QueueWord, Queued, FlagOf, NextOf, ChoiceWord}
use Rattle.lk_rows.specs.TopRow.{ChoiceFlag, ChoiceNext, SecondTailOf, RunsOf, PvWord, PvFlag}
use Rattle.lk_rows.specs.TopRow.{PvNext, StateOf, HashEntry, Halted, KickOf, target, RwWord}
use Rattle.lk_rows.specs.rows.Pv.{pv_row, pv_flag_row, pv_next_row, state_row, hash_row}
use Rattle.lk_rows.specs.rows.Pv.{halt_row, kick_row}
use Rattle.lk_rows.specs.rows.Rw.{rw_row}
use Rattle.lk_law.specs.Pv.Post.{Spins}
use Rattle.lk_law.specs.Snapshot.{same_node}
use Rattle.lk_law.specs.World.{World}

-- changes of a world

-- the word of one lock is this
abbrev pub put_word : World → LockName → Fields → World
put_word m l x = record m { word = λ k. if same_lock k l then x else m.word k }

-- one node is this
abbrev pub put_node : World → NodeName → Node → World
put_node m n x = record m { node = λ k. if same_node k n then x else m.node k }

-- the word of one reader-writer lock is this
abbrev pub put_rw : World → ℕ → RwFields → World
put_rw m i x = record m { rw = λ k. if k == i then x else m.rw k }

-- the frame of one waiter is this, or gone
abbrev pub put_frame : World → Waiter → Option Frame → World
put_frame m w f = record m { frame = λ u. if same_waiter u w then f else m.frame u }

-- one waiter holds one lock so
abbrev pub put_held : World → Waiter → LockName → Option Manner → World
put_held m w l way =
    record m { held = λ u k. if same_waiter u w && same_lock k l then way else m.held u k }

-- the entry of one lock in the hash is this, or gone
abbrev pub put_entry : World → LockName → Option NodeName → World
put_entry m l n = record m { entry = λ k. if same_lock k l then n else m.entry k }

-- one processor has halted, or has not
abbrev pub put_halted : World → ℕ → Bool → World
put_halted m p b = record m { halted = λ q. if q == p then b else m.halted q }

-- a kick of one processor is remembered, or is not
abbrev pub put_kicked : World → ℕ → Bool → World
put_kicked m p b = record m { kicked = λ q. if q == p then b else m.kicked q }

-- so many frames of one processor are in the slow path
abbrev pub put_queued : World → ℕ → ℕ → World
put_queued m p i = record m { queued = λ q. if q == p then i else m.queued q }

-- The frame f of w goes where its row leads. Where its operation has ended it has no place; that
-- the next one begins is a change of its own. Where a wait lock is granted, the operation goes on.

-- the frame after a lead
abbrev pub led : Frame → Lead → Frame
led f (Goes c cs) = gone f c cs
led f (Enters me c) = entered f me c
led f Granted = record f { place = if f.lock.wait then f.then else None }
led f Freed = record f { place = None }
led f Missed = record f { place = None }
led f Done = record f { place = None }
led f (TakesWait c) = waiting f c
led f Leaves = record f { place = if f.lock.wait then f.then else None; me = None }
led f (Yields c cs) = gone f c cs

-- how its waiter holds the lock after it
abbrev pub way_led : Lead → Option Manner → Option Manner
way_led Granted way = Some Spins
way_led Leaves way = Some Spins
way_led Freed way = None
way_led (Yields c cs) way = None
way_led _ way = way

-- the node, if there is one, is at rest
abbrev pub reset : World → Option NodeName → World
reset m None = m
reset m (Some n) = put_node m n rest_node

-- the rest that a lead changes: who enters the slow path resets its node, and who leaves it is
-- counted off
abbrev pub led_rest : World → Waiter → Lead → World
led_rest m w (Enters me c) = reset m me
led_rest m w Leaves = put_queued m w.cpu (m.queued w.cpu - 1)
led_rest m w _ = m

-- the world after a lead: the frame goes on, its waiter holds the lock so, and the rest follows
abbrev pub lead_on : World → Waiter → Frame → Lead → World
lead_on m w f lead =
    put_held (put_frame (led_rest m w lead) w (Some (led f lead))) w f.lock
    (way_led lead (m.held w f.lock))

-- a row stores into the word of a lock, or stores nothing
abbrev pub stores_word : World → LockName → Option Fields → World
stores_word m l None = m
stores_word m l (Some x) = put_word m l x

-- into the word of a reader-writer lock
abbrev pub stores_rw : World → ℕ → Option RwFields → World
stores_rw m i None = m
stores_rw m i (Some x) = put_rw m i x

-- how a waiter holds the reader-writer lock of its operation after what was told
abbrev pub way_told : Tell → Option Manner → Option Manner
way_told (Says (RTake l h)) way = Some Reads
way_told (Says (WTake l h)) way = Some Writes
way_told (Says (RRelease l)) way = None
way_told (Says (WRelease l)) way = None
way_told _ way = way

-- the world after a row of a reader or a writer
abbrev pub rw_led : World → Waiter → Frame → Effect RwFields → World
rw_led m w f o =
    put_held (put_frame (stores_rw m f.lock.index o.stores) w (Some (led f o.leads))) w
    (rw_name f.lock.index) (way_told o.tells (m.held w (rw_name f.lock.index)))

-- into the flag of a node
abbrev pub stores_flag : World → NodeName → Option Flag → World
stores_flag m n None = m
stores_flag m n (Some x) = put_node m n (record (m.node n) { flag = x })

-- into its link
abbrev pub stores_next : World → NodeName → Option (Option NodeName) → World
stores_next m n None = m
stores_next m n (Some x) = put_node m n (record (m.node n) { next = x })

-- into what it has for the last of the secondary queue
abbrev pub stores_second : World → NodeName → Option (Option NodeName) → World
stores_second m n None = m
stores_second m n (Some x) = put_node m n (record (m.node n) { second_tail = x })

-- into its count of handoffs
abbrev pub stores_runs : World → NodeName → Option ℕ → World
stores_runs m n None = m
stores_runs m n (Some x) = put_node m n (record (m.node n) { runs = x })

-- into its state
abbrev pub stores_state : World → NodeName → Option State → World
stores_state m n None = m
stores_state m n (Some x) = put_node m n (record (m.node n) { state = x })

-- into the hash
abbrev pub stores_entry : World → LockName → Option (Option NodeName) → World
stores_entry m l None = m
stores_entry m l (Some n) = put_entry m l n

-- into the mark of a processor that it has halted
abbrev pub stores_halted : World → ℕ → Option Bool → World
stores_halted m p None = m
stores_halted m p (Some b) = put_halted m p b

-- into the mark that a kick of it is remembered
abbrev pub stores_kicked : World → ℕ → Option Bool → World
stores_kicked m p None = m
stores_kicked m p (Some b) = put_kicked m p b

-- into its count of frames in the slow path
abbrev pub stores_queued : World → ℕ → Option ℕ → World
stores_queued m p None = m
stores_queued m p (Some i) = put_queued m p i

-- the world after a row of the frame f of w, and what it tells
abbrev pub Made : Type 0
Made = World × Tell

-- the frame, if there is one, has the node as its own
abbrev pub has_own : NodeName → Option Frame → Bool
has_own n None = false
has_own n (Some f) = is_node f.me n

-- the first of so many contexts, from this one on, whose frame has the node; 0 where none has
abbrev pub first_user : (ℕ → Option Frame) → NodeName → ℕ → ℕ → ℕ
first_user frames n c zero = 0
first_user frames n c (suc count) =
    if has_own n (frames c) then c else first_user frames n (suc c) count

-- the waiter whose frame has the node as its own, of the six that its processor can have; of a node
-- that nobody uses, the task
abbrev pub waiter_in : World → NodeName → Waiter
waiter_in m n =
    record {
      cpu = n.cpu;
      ctx = first_user (λ c. m.frame (record { cpu = n.cpu; ctx = c })) n 0 6;
    }

-- what a head reads besides the field of its row: a node is local where its waiter is
abbrev pub sight_in : World → Waiter → Frame → Sight
sight_in m w f =
    record {
      runs = (m.node (node_of f.me)).runs;
      threshold = m.threshold;
      local = λ n. is_local m.format m.sockets w.cpu (waiter_in m n);
    }

-- the row at c of the frame f of w, by what it operates on
abbrev pub row_in_at : World → Waiter → Frame → Pc → Target → Made
row_in_at m w f c SpinWord = let o = spin_row m.mode c f (m.word f.lock) in
    (lead_on (stores_word m f.lock o.stores) w f o.leads, o.tells)
row_in_at m w f c QueueWord = let o = queue_row m.mode c f (m.word f.lock) in
    (lead_on (stores_word m f.lock o.stores) w f o.leads, o.tells)
row_in_at m w f c Queued = let o = entry_row m.mode w.cpu (m.queued w.cpu) in
    (lead_on (stores_queued m w.cpu o.stores) w f o.leads, o.tells)
row_in_at m w f c (FlagOf n) = let o = flag_row c f (m.node n).flag in
    (lead_on (stores_flag m n o.stores) w f o.leads, o.tells)
row_in_at m w f c (NextOf n) = let o = next_row m.mode m.turns c f (m.node n).next in
    (lead_on (stores_next m n o.stores) w f o.leads, o.tells)
row_in_at m w f c ChoiceWord = let o = promotion_row c f (m.word f.lock) in
    (lead_on (stores_word m f.lock o.stores) w f o.leads, o.tells)
row_in_at m w f c (ChoiceFlag n) = let o = handover_row c f (m.node n).flag in
    (lead_on (stores_flag m n o.stores) w f o.leads, o.tells)
row_in_at m w f c (ChoiceNext n) = let o = search_row (sight_in m w f) c f (m.node n).next in
    (lead_on (stores_next m n o.stores) w f o.leads, o.tells)
row_in_at m w f c (SecondTailOf n) = let o = second_row c f (m.node n).second_tail in
    (lead_on (stores_second m n o.stores) w f o.leads, o.tells)
row_in_at m w f c (RunsOf n) = let o = runs_row (sight_in m w f) c f (m.node n).runs in
    (lead_on (stores_runs m n o.stores) w f o.leads, o.tells)
row_in_at m w f c PvWord = let o = pv_row m.turns c f (m.word f.lock) in
    (lead_on (stores_word m f.lock o.stores) w f o.leads, o.tells)
row_in_at m w f c (PvFlag n) = let o = pv_flag_row c f (m.node n).flag in
    (lead_on (stores_flag m n o.stores) w f o.leads, o.tells)
row_in_at m w f c (PvNext n) = let o = pv_next_row c f (m.node n).next in
    (lead_on (stores_next m n o.stores) w f o.leads, o.tells)
row_in_at m w f c (StateOf n) = let o = state_row m.turns c f (m.node n).state in
    (lead_on (stores_state m n o.stores) w f o.leads, o.tells)
row_in_at m w f c HashEntry = let o = hash_row c f (m.entry f.lock) in
    (lead_on (stores_entry m f.lock o.stores) w f o.leads, o.tells)
row_in_at m w f c Halted = let o = halt_row c f (m.halted w.cpu) in
    (lead_on (stores_halted m w.cpu o.stores) w f o.leads, o.tells)
row_in_at m w f c (KickOf q) = let o = kick_row c f (m.kicked q) in
    (lead_on (stores_kicked m q o.stores) w f o.leads, o.tells)
row_in_at m w f c RwWord = let o = rw_row m.mode c f (m.rw f.lock.index) in
    (rw_led m w f o, o.tells)

-- the row at c of the frame f of w
abbrev pub row_in : World → Waiter → Frame → Pc → Made
row_in m w f c = row_in_at m w f c (target c f)

-- the event that is told, where `to` is the waiter to which the lead goes
abbrev pub told_event : Waiter → LockName → Waiter → Tell → Option Event
told_event w l to Nothing = None
told_event w l to (Says what) = Some (record { by = w; what = what })
told_event w l to (Passes n k) = Some (record { by = w; what = Pass l to k })

-- the histories after an event, if there is one
abbrev pub told_on : (LockName → LockHistory) → Option Event → LockName → LockHistory
told_on hs None l = hs l
told_on hs (Some e) l = told l (hs l) e
