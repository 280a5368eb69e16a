-- The row of the top frame of a processor.
use Rattle.std.specs.Prelude.{ℕ, Option, Some, None, Bool}
use Rattle.lk_names.specs.Lawful.{is_local}
use Rattle.lk_names.specs.declared.names.LockName.{LockName}
use Rattle.lk_word.specs.declared.spin_word.NodeName.{NodeName}
use Rattle.lk_word.specs.declared.spin_word.Fields.{Fields}
use Rattle.lk_word.specs.declared.rw_word.RwFields.{RwFields}
use Rattle.lk_rows.specs.declared.parts.Flag.{Flag}
use Rattle.lk_rows.specs.declared.parts.State.{State}
use Rattle.lk_rows.specs.declared.parts.Frame.{Frame}
use Rattle.lk_rows.specs.declared.parts.Pc.{Pc}
use Rattle.lk_rows.specs.declared.parts.Pc.TheVariants.{F1, T1, T2, U1, V1, V2, P0, P1, P2, P3}
use Rattle.lk_rows.specs.declared.parts.Pc.TheVariants.{P4, G1, G2, G3, G4, G5, G6, G7, G8, G9}
use Rattle.lk_rows.specs.declared.parts.Pc.TheVariants.{G10, G11, N1, N2, C1, C2, C3, C4, C5, C6}
use Rattle.lk_rows.specs.declared.parts.Pc.TheVariants.{C7, C8, C9, C10, H1, H2, W1, W2, W3, W4}
use Rattle.lk_rows.specs.declared.parts.Pc.TheVariants.{W5, W6, W7, E1, E2, E3, E4, E5, E6, E7}
use Rattle.lk_rows.specs.declared.parts.Pc.TheVariants.{E8, E9, E10, E11, E12, E13, E14, E15, K1}
use Rattle.lk_rows.specs.declared.parts.Pc.TheVariants.{K2, K3, U2, U3, U4, U5, R1, R2, R3, R4}
use Rattle.lk_rows.specs.declared.parts.Pc.TheVariants.{R5, Wr1, Wr2, Wr3, Wr4, Wr5, Wr6, Y1, Y2}
use Rattle.lk_rows.specs.declared.parts.Pc.TheVariants.{Y3, Y4, Y5, Z1, Z2}
use Rattle.lk_rows.specs.Machine.{Machine, word_at, node_at, queued_at, entry_at, halted_at}
use Rattle.lk_rows.specs.Machine.{kicked_at, set_word, set_node, set_queued, set_entry}
use Rattle.lk_rows.specs.Machine.{set_halted, set_kicked, top_frame, rw_at, set_rw}
use Rattle.lk_rows.specs.Moves.{node_of, waiter_of}
use Rattle.lk_rows.specs.Row.{Answer, Effect, applied}
use Rattle.lk_rows.specs.rows.Spin.{spin_row}
use Rattle.lk_rows.specs.rows.Queue.{queue_row, entry_row, flag_row, next_row}
use Rattle.lk_rows.specs.rows.Pv.{pv_row, pv_flag_row, pv_next_row, state_row, hash_row}
use Rattle.lk_rows.specs.rows.Pv.{halt_row, kick_row}
use Rattle.lk_rows.specs.rows.Cna.{Sight, search_row, second_row, runs_row}
use Rattle.lk_rows.specs.rows.Cna.{handover_row, promotion_row}
use Rattle.lk_rows.specs.rows.Rw.{rw_row}

-- on what a row operates
pub data Target : Type 0 where
  -- the word of the frame's lock, by a row that needs no queue, and by a row of the queue
  SpinWord : Target
  QueueWord : Target
  -- the number of the processor's frames in the slow path
  Queued : Target
  -- the flag and the link of a node
  FlagOf : NodeName → Target
  NextOf : NodeName → Target
  -- by a row of a head that chooses to whom it hands off: the word, the flag and the link of a
  -- node, the last of the secondary queue and the count of handoffs in it
  ChoiceWord : Target
  ChoiceFlag : NodeName → Target
  ChoiceNext : NodeName → Target
  SecondTailOf : NodeName → Target
  RunsOf : NodeName → Target
  -- by a row of the paravirtual lock: the word, the flag, the link and the state of a node, the
  -- lock's entry in the hash, whether the own processor has halted, and whether a kick of a
  -- processor is remembered
  PvWord : Target
  PvFlag : NodeName → Target
  PvNext : NodeName → Target
  StateOf : NodeName → Target
  HashEntry : Target
  Halted : Target
  KickOf : ℕ → Target
  -- the word of the reader-writer lock of the frame's operation
  RwWord : Target

-- on what each row operates, by the frame that makes it
abbrev pub target : Pc → Frame → Target
target F1 f = SpinWord
target T1 f = SpinWord
target T2 f = SpinWord
target U1 f = SpinWord
target V1 f = SpinWord
target V2 f = SpinWord
target P0 f = SpinWord
target P1 f = SpinWord
target P2 f = SpinWord
target P3 f = SpinWord
target P4 f = SpinWord
target G1 f = Queued
target G2 f = QueueWord
target G3 f = QueueWord
target G4 f = QueueWord
target G5 f = NextOf (node_of f.prev)
target G6 f = FlagOf (node_of f.me)
target G7 f = QueueWord
target G8 f = QueueWord
target G9 f = QueueWord
target G10 f = NextOf (node_of f.me)
target G11 f = FlagOf (node_of f.y)
target N1 f = QueueWord
target N2 f = QueueWord
target C1 f = ChoiceNext (node_of f.me)
target C2 f = ChoiceNext (node_of f.b)
target C3 f = SecondTailOf (node_of f.second)
target C4 f = ChoiceNext (node_of f.t)
target C5 f = ChoiceNext (node_of f.b)
target C6 f = SecondTailOf (node_of f.second)
target C7 f = RunsOf (node_of f.y)
target C8 f = ChoiceFlag (node_of f.y)
target C9 f = ChoiceNext (node_of f.t)
target C10 f = ChoiceWord
target H1 f = PvWord
target H2 f = PvWord
target W1 f = PvFlag (node_of f.me)
target W2 f = StateOf (node_of f.prev)
target W3 f = StateOf (node_of f.me)
target W4 f = PvFlag (node_of f.me)
target W5 f = StateOf (node_of f.me)
target W6 f = Halted
target W7 f = StateOf (node_of f.me)
target E1 f = StateOf (node_of f.me)
target E2 f = StateOf (node_of f.me)
target E3 f = PvWord
target E4 f = PvWord
target E5 f = PvWord
target E6 f = HashEntry
target E7 f = PvWord
target E8 f = PvWord
target E9 f = HashEntry
target E10 f = StateOf (node_of f.me)
target E11 f = PvWord
target E12 f = Halted
target E13 f = PvWord
target E14 f = PvNext (node_of f.me)
target E15 f = PvFlag (node_of f.y)
target K1 f = StateOf (node_of f.y)
target K2 f = PvWord
target K3 f = HashEntry
target U2 f = PvWord
target U3 f = HashEntry
target U4 f = PvWord
target U5 f = KickOf (node_of f.target).cpu
target R1 f = RwWord
target R2 f = RwWord
target R3 f = RwWord
target R4 f = RwWord
target R5 f = RwWord
target Wr1 f = RwWord
target Wr2 f = RwWord
target Wr3 f = RwWord
target Wr4 f = RwWord
target Wr5 f = RwWord
target Wr6 f = RwWord
target Y1 f = RwWord
target Y2 f = RwWord
target Y3 f = RwWord
target Y4 f = RwWord
target Y5 f = RwWord
target Z1 f = RwWord
target Z2 f = RwWord

-- what the frame reads besides: a node is local where its waiter is
abbrev pub sight_at : Machine → ℕ → Frame → Sight
sight_at m p f =
    record {
      runs = (node_at m (node_of f.me)).runs;
      threshold = m.setup.threshold;
      local = λ n. is_local m.setup.format m.setup.topology.sockets.items p (waiter_of m n);
    }

-- the machine after a store into the word of a frame's lock, or after none
abbrev pub stored_word : Machine → Frame → Option Fields → Machine
stored_word m f None = m
stored_word m f (Some x) = set_word m f.lock x

-- into the word of a reader-writer lock
abbrev pub stored_rw : Machine → ℕ → Option RwFields → Machine
stored_rw m i None = m
stored_rw m i (Some x) = set_rw m i x

-- into the flag of a node
abbrev pub stored_flag : Machine → NodeName → Option Flag → Machine
stored_flag m n None = m
stored_flag m n (Some x) = set_node m n (record (node_at m n) { flag = x })

-- into its link
abbrev pub stored_next : Machine → NodeName → Option (Option NodeName) → Machine
stored_next m n None = m
stored_next m n (Some x) = set_node m n (record (node_at m n) { next = x })

-- into what it has for the last of the secondary queue
abbrev pub stored_second : Machine → NodeName → Option (Option NodeName) → Machine
stored_second m n None = m
stored_second m n (Some x) = set_node m n (record (node_at m n) { second_tail = x })

-- into its count of handoffs
abbrev pub stored_runs : Machine → NodeName → Option ℕ → Machine
stored_runs m n None = m
stored_runs m n (Some x) = set_node m n (record (node_at m n) { runs = x })

-- into its state
abbrev pub stored_state : Machine → NodeName → Option State → Machine
stored_state m n None = m
stored_state m n (Some x) = set_node m n (record (node_at m n) { state = x })

-- into a lock's entry in the hash
abbrev pub stored_entry : Machine → LockName → Option (Option NodeName) → Machine
stored_entry m l None = m
stored_entry m l (Some x) = set_entry m l x

-- into the mark of a processor that it has halted
abbrev pub stored_halted : Machine → ℕ → Option Bool → Machine
stored_halted m p None = m
stored_halted m p (Some b) = set_halted m p b

-- into the mark that a kick of it is remembered
abbrev pub stored_kicked : Machine → ℕ → Option Bool → Machine
stored_kicked m p None = m
stored_kicked m p (Some b) = set_kicked m p b

-- into its count of frames in the slow path
abbrev pub stored_queued : Machine → ℕ → Option ℕ → Machine
stored_queued m p None = m
stored_queued m p (Some i) = set_queued m p i

-- what a row on a word does
abbrev pub on_word : Machine → ℕ → Frame → Effect Fields → Answer
on_word m p f o = applied m (stored_word m f o.stores) p f o

-- what a row on the word of a reader-writer lock does
abbrev pub on_rw : Machine → ℕ → Frame → Effect RwFields → Answer
on_rw m p f o = applied m (stored_rw m f.lock.index o.stores) p f o

-- on a flag
abbrev pub on_flag : Machine → ℕ → Frame → NodeName → Effect Flag → Answer
on_flag m p f n o = applied m (stored_flag m n o.stores) p f o

-- on a link
abbrev pub on_next : Machine → ℕ → Frame → NodeName → Effect (Option NodeName) → Answer
on_next m p f n o = applied m (stored_next m n o.stores) p f o

-- on what a node has for the last of the secondary queue
abbrev pub on_second : Machine → ℕ → Frame → NodeName → Effect (Option NodeName) → Answer
on_second m p f n o = applied m (stored_second m n o.stores) p f o

-- on a count of handoffs
abbrev pub on_runs : Machine → ℕ → Frame → NodeName → Effect ℕ → Answer
on_runs m p f n o = applied m (stored_runs m n o.stores) p f o

-- on a state
abbrev pub on_state : Machine → ℕ → Frame → NodeName → Effect State → Answer
on_state m p f n o = applied m (stored_state m n o.stores) p f o

-- on an entry of the hash
abbrev pub on_entry : Machine → ℕ → Frame → Effect (Option NodeName) → Answer
on_entry m p f o = applied m (stored_entry m f.lock o.stores) p f o

-- on the mark of a processor that it has halted
abbrev pub on_halted : Machine → ℕ → Frame → Effect Bool → Answer
on_halted m p f o = applied m (stored_halted m p o.stores) p f o

-- on the mark that a kick is remembered
abbrev pub on_kicked : Machine → ℕ → Frame → ℕ → Effect Bool → Answer
on_kicked m p f q o = applied m (stored_kicked m q o.stores) p f o

-- on the count of frames in the slow path
abbrev pub on_queued : Machine → ℕ → Frame → Effect ℕ → Answer
on_queued m p f o = applied m (stored_queued m p o.stores) p f o

-- the row at a place, by what it operates on
abbrev pub row_on : Machine → ℕ → Frame → Pc → Target → Answer
row_on m p f c SpinWord = on_word m p f (spin_row m.setup.mode c f (word_at m f.lock))
row_on m p f c QueueWord = on_word m p f (queue_row m.setup.mode c f (word_at m f.lock))
row_on m p f c Queued = on_queued m p f (entry_row m.setup.mode p (queued_at m p))
row_on m p f c (FlagOf n) = on_flag m p f n (flag_row c f (node_at m n).flag)
row_on m p f c (NextOf n) =
    on_next m p f n (next_row m.setup.mode m.setup.spins c f (node_at m n).next)
row_on m p f c ChoiceWord = on_word m p f (promotion_row c f (word_at m f.lock))
row_on m p f c (ChoiceFlag n) = on_flag m p f n (handover_row c f (node_at m n).flag)
row_on m p f c (ChoiceNext n) = on_next m p f n (search_row (sight_at m p f) c f (node_at m n).next)
row_on m p f c (SecondTailOf n) = on_second m p f n (second_row c f (node_at m n).second_tail)
row_on m p f c (RunsOf n) = on_runs m p f n (runs_row (sight_at m p f) c f (node_at m n).runs)
row_on m p f c PvWord = on_word m p f (pv_row m.setup.spins c f (word_at m f.lock))
row_on m p f c (PvFlag n) = on_flag m p f n (pv_flag_row c f (node_at m n).flag)
row_on m p f c (PvNext n) = on_next m p f n (pv_next_row c f (node_at m n).next)
row_on m p f c (StateOf n) = on_state m p f n (state_row m.setup.spins c f (node_at m n).state)
row_on m p f c HashEntry = on_entry m p f (hash_row c f (entry_at m f.lock))
row_on m p f c Halted = on_halted m p f (halt_row c f (halted_at m p))
row_on m p f c (KickOf q) = on_kicked m p f q (kick_row c f (kicked_at m q))
row_on m p f c RwWord = on_rw m p f (rw_row m.setup.mode c f (rw_at m f.lock.index))

-- the row of a frame at a place, if it stands at one
abbrev pub row_at : Machine → ℕ → Frame → Option Pc → Answer
row_at m p f None = (m, None)
row_at m p f (Some c) = row_on m p f c (target c f)

-- the row of the top frame of a processor; a finished frame has none
abbrev pub row : Machine → ℕ → Answer
row m p = row_at m p (top_frame m p) (top_frame m p).place
