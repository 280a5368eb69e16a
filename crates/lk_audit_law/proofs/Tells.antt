-- What each row tells names its frame's lock, and of processors those that the frame knows.
use Rattle.std.proofs.Common.{◌≡◌, ◌<◌, ℕ, Option, Some, None, Bool, true, false, refl}
use Rattle.std.specs.Prelude.{⊤, is_some, if◌then◌else◌, ◌&&◌, ◌==◌, ◌-◌}
use Rattle.lk_names.specs.declared.names.Mode.{Mode}
use Rattle.lk_names.specs.declared.names.LockName.{LockName}
use Rattle.lk_names.specs.declared.events.What.{What}
use Rattle.lk_names.specs.declared.events.What.TheVariants as what
use Rattle.lk_word.specs.declared.spin_word.NodeName.{NodeName}
use Rattle.lk_word.specs.declared.spin_word.Fields.{Fields}
use Rattle.lk_word.specs.declared.rw_word.RwFields.{RwFields}
use Rattle.lk_rows.specs.declared.parts.Flag.{Flag}
use Rattle.lk_rows.specs.declared.parts.Flag.TheVariants as flag
use Rattle.lk_rows.specs.declared.parts.Frame.{Frame}
use Rattle.lk_rows.specs.declared.parts.State.{State}
use Rattle.lk_rows.specs.declared.parts.Pc.{Pc}
use Rattle.lk_rows.specs.declared.parts.Pc.TheVariants.{F1, T1, T2, U1, V2, P4, G3, G4, G6, G8, G9, G10, G11}
use Rattle.lk_rows.specs.declared.parts.Pc.TheVariants.{N2, C1, C2, C3, C7, C8, C9, C10, H2, W2, W4, W6, W7}
use Rattle.lk_rows.specs.declared.parts.Pc.TheVariants.{E4, E7, E12, E13, E14, E15, K1, U2, U4, U5}
use Rattle.lk_rows.specs.declared.parts.Pc.TheVariants.{R1, R2, R5, Wr1, Wr3, Wr6, Y1, Y2, Y3, Y4, Y5, Z1, Z2}
use Rattle.lk_rows.specs.Machine.{Machine, node_at, word_at, entry_at, halted_at, kicked_at, queued_at, rw_at}
use Rattle.lk_rows.specs.Moves.{node_of, rw_name}
use Rattle.lk_rows.specs.Row.{Effect, Tell, Nothing, Says, Passes}
use Rattle.lk_rows.specs.TopRow.{Target, SpinWord, QueueWord, Queued, FlagOf, NextOf, ChoiceWord}
use Rattle.lk_rows.specs.TopRow.{ChoiceFlag, ChoiceNext, SecondTailOf, RunsOf, PvWord, PvFlag}
use Rattle.lk_rows.specs.TopRow.{PvNext, StateOf, HashEntry, Halted, KickOf, RwWord, sight_at}
use Rattle.lk_rows.specs.rows.Spin.{spin_row, is_free, is_unlocked}
use Rattle.lk_rows.specs.rows.Queue.{queue_row, entry_row, flag_row, next_row, is_sole}
use Rattle.lk_rows.specs.rows.Cna.{Sight, may_stay, after_none, is_last, is_held, search_row}
use Rattle.lk_rows.specs.rows.Cna.{second_row, runs_row, handover_row, promotion_row}
use Rattle.lk_rows.specs.rows.Pv.{is_set, is_running, is_halted, pv_row, pv_flag_row}
use Rattle.lk_rows.specs.rows.Pv.{pv_next_row, state_row, hash_row, halt_row, kick_row}
use Rattle.lk_rows.specs.rows.Rw.{rw_row, is_empty, is_open, is_cleared}
use Rattle.lk_audit_forms.specs.Exact.{IsWriters}

-- an event on this spinlock or wait lock, that names one of so many processors if any
abbrev pub IsSpinTold : ℕ → LockName → What → Type 0
IsSpinTold n l (what.Take k h) = k ≡ l
IsSpinTold n l (what.Miss k) = k ≡ l
IsSpinTold n l (what.Release k None) = k ≡ l
IsSpinTold n l (what.Release k (Some p)) = (k ≡ l) × (p < n)
IsSpinTold n l (what.Kick p) = p < n
IsSpinTold n l (what.Arrive k) = k ≡ l
IsSpinTold n l (what.Flush k) = k ≡ l
IsSpinTold n l (what.Promote k) = k ≡ l
IsSpinTold n l (what.Leave k) = k ≡ l
IsSpinTold n l (what.Halt k) = k ≡ l
IsSpinTold n l (what.Wake k) = k ≡ l
IsSpinTold n l _ = ⊥

-- an event on this reader-writer lock
abbrev pub IsRwTold : LockName → What → Type 0
IsRwTold l (what.Miss k) = k ≡ l
IsRwTold l (what.RTake k h) = k ≡ l
IsRwTold l (what.RRelease k) = k ≡ l
IsRwTold l (what.WTake k h) = (k ≡ l) × IsWriters h
IsRwTold l (what.WRelease k) = k ≡ l
IsRwTold l _ = ⊥

-- what a row of a spinlock or a wait lock tells
abbrev pub SpinTells : ℕ → LockName → Tell → Type 0
SpinTells n l Nothing = ⊤
SpinTells n l (Says w) = IsSpinTold n l w
SpinTells n l (Passes y k) = ⊤

-- what a row of a reader or a writer tells
abbrev pub RwTells : LockName → Tell → Type 0
RwTells l Nothing = ⊤
RwTells l (Says w) = IsRwTold l w
RwTells l (Passes y k) = ⊥

module _ (n : ℕ) where
  tells_if : {A : Type 0} (l : LockName) (t : Bool) (a b : Effect A) → SpinTells n l a.tells
      → SpinTells n l b.tells → SpinTells n l (if t then a else b).tells
  tells_if l true a b x y = x
  tells_if l false a b x y = y

  spin_tells : (mode : Mode) (c : Pc) (f : Frame) (x : Fields) → SpinTells n f.lock (spin_row mode c f x).tells
  spin_tells mode F1 f x = tells_if f.lock (is_free x) _ _ refl tt
  spin_tells mode T1 f x = tells_if f.lock (is_free x) _ _ tt refl
  spin_tells mode T2 f x = tells_if f.lock (is_free x) _ _ refl refl
  spin_tells mode V2 f x = tells_if f.lock (is_free x) _ _ refl tt
  spin_tells mode U1 f x = refl
  spin_tells mode P4 f x = refl
  spin_tells mode _ f x = tt

  queue_tells : (mode : Mode) (c : Pc) (f : Frame) (x : Fields) → SpinTells n f.lock (queue_row mode c f x).tells
  queue_tells mode G3 f x = tells_if f.lock (is_free x) _ _ refl tt
  queue_tells mode G4 f x = refl
  queue_tells mode G8 f x = tells_if f.lock (is_sole f x) _ _ refl tt
  queue_tells mode G9 f x = refl
  queue_tells mode N2 f x = tells_if f.lock (is_free x) _ _ refl tt
  queue_tells mode _ f x = tt

  flag_tells : (c : Pc) (f : Frame) (x : Flag) → SpinTells n f.lock (flag_row c f x).tells
  flag_tells G6 f flag.Unset = tt
  flag_tells G6 f flag.Go = tt
  flag_tells G6 f (flag.Second k) = tt
  flag_tells G11 f x = tt
  flag_tells _ f x = tt

  next_tells : (mode : Mode) (turns : ℕ) (c : Pc) (f : Frame) (x : Option NodeName)
      → SpinTells n f.lock (next_row mode turns c f x).tells
  next_tells mode turns G10 f None = tt
  next_tells mode turns G10 f (Some k) = tt
  next_tells mode turns _ f x = tt

  search_tells : (s : Sight) (c : Pc) (f : Frame) (x : Option NodeName)
      → SpinTells n f.lock (search_row s c f x).tells
  search_tells s C1 f None = none_tells f.second
    where
      none_tells : (o : Option NodeName) → SpinTells n f.lock (after_none o).tells
      none_tells None = tt
      none_tells (Some k) = tt
  search_tells s C1 f (Some k) =
      tells_if f.lock (may_stay s) _ _ (tells_if f.lock (s.local k) _ _ tt tt) (tells_if f.lock (is_some f.second) _ _ tt tt)
  search_tells s C2 f None = tells_if f.lock (is_some f.second) _ _ tt tt
  search_tells s C2 f (Some k) =
      tells_if f.lock (s.local k) _ _ (tells_if f.lock (is_some f.second) _ _ tt tt) tt
  search_tells s C9 f x = refl
  search_tells s _ f x = tt

  second_tells : (c : Pc) (f : Frame) (x : Option NodeName) → SpinTells n f.lock (second_row c f x).tells
  second_tells C3 f x = tt
  second_tells _ f x = tt

  runs_tells : (s : Sight) (c : Pc) (f : Frame) (x : ℕ) → SpinTells n f.lock (runs_row s c f x).tells
  runs_tells s C7 f x = tt
  runs_tells s _ f x = tt

  handover_tells : (c : Pc) (f : Frame) (x : Flag) → SpinTells n f.lock (handover_row c f x).tells
  handover_tells C8 f x = tt
  handover_tells _ f x = tt

  promotion_tells : (c : Pc) (f : Frame) (x : Fields) → SpinTells n f.lock (promotion_row c f x).tells
  promotion_tells C10 f x = tells_if f.lock (is_last f x) _ _ refl tt
  promotion_tells _ f x = tt

  pv_tells : (spins : ℕ) (c : Pc) (f : Frame) (x : Fields) → (node_of f.target).cpu < n
      → SpinTells n f.lock (pv_row spins c f x).tells
  pv_tells spins H2 f x h = tells_if f.lock (is_unlocked x.locked) _ _ refl tt
  pv_tells spins E4 f x h =
      tells_if f.lock (is_unlocked x.locked && x.pending) _ _ refl (tells_if f.lock (f.left - 1 == 0) _ _ tt tt)
  pv_tells spins E7 f x h = tells_if f.lock (is_unlocked x.locked) _ _ refl tt
  pv_tells spins E13 f x h = tells_if f.lock (is_last f x) _ _ refl tt
  pv_tells spins U2 f x h = tells_if f.lock (is_held x.locked) _ _ refl tt
  pv_tells spins U4 f x h = (refl, h)
  pv_tells spins _ f x h = tt

  pv_flag_tells : (c : Pc) (f : Frame) (x : Flag) → SpinTells n f.lock (pv_flag_row c f x).tells
  pv_flag_tells W4 f x = tells_if f.lock (is_set x) _ _ tt tt
  pv_flag_tells E15 f x = tt
  pv_flag_tells _ f x = tt

  pv_next_tells : (c : Pc) (f : Frame) (x : Option NodeName) → SpinTells n f.lock (pv_next_row c f x).tells
  pv_next_tells E14 f None = tt
  pv_next_tells E14 f (Some k) = tt
  pv_next_tells _ f x = tt

  state_tells : (spins : ℕ) (c : Pc) (f : Frame) (x : State) → SpinTells n f.lock (state_row spins c f x).tells
  state_tells spins W2 f x = tells_if f.lock (is_running x) _ _ (tells_if f.lock (f.left - 1 == 0) _ _ tt tt) tt
  state_tells spins W7 f x = tells_if f.lock (is_halted x) _ _ tt tt
  state_tells spins K1 f x = tells_if f.lock (is_halted x) _ _ tt tt
  state_tells spins _ f x = tt

  hash_tells : (c : Pc) (f : Frame) (x : Option NodeName) → SpinTells n f.lock (hash_row c f x).tells
  hash_tells F1 f x = tt
  hash_tells _ f x = tt

  halt_tells : (c : Pc) (f : Frame) (x : Bool) → SpinTells n f.lock (halt_row c f x).tells
  halt_tells W6 f x = refl
  halt_tells E12 f x = refl
  halt_tells _ f x = tt

  kick_tells : (c : Pc) (f : Frame) (x : Bool) → (node_of f.target).cpu < n
      → SpinTells n f.lock (kick_row c f x).tells
  kick_tells U5 f x h = h
  kick_tells _ f x h = tt

rw_if : {A : Type 0} (l : LockName) (t : Bool) (a b : Effect A) → RwTells l a.tells → RwTells l b.tells
    → RwTells l (if t then a else b).tells
rw_if l true a b x y = x
rw_if l false a b x y = y

pub rw_tells : (mode : Mode) (c : Pc) (f : Frame) (x : RwFields) → RwTells (rw_name f.lock.index) (rw_row mode c f x).tells
rw_tells mode R1 f x = rw_if (rw_name f.lock.index) (is_open x) _ _ refl tt
rw_tells mode R2 f x = rw_if (rw_name f.lock.index) x.writer _ _ tt refl
rw_tells mode R5 f x = rw_if (rw_name f.lock.index) x.writer _ _ tt refl
rw_tells mode Wr1 f x = rw_if (rw_name f.lock.index) (is_empty x) _ _ (refl, tt) tt
rw_tells mode Wr3 f x = rw_if (rw_name f.lock.index) (is_empty x) _ _ (refl, tt) tt
rw_tells mode Wr6 f x = rw_if (rw_name f.lock.index) (is_cleared x) _ _ (refl, tt) tt
rw_tells mode Y1 f x = rw_if (rw_name f.lock.index) (is_open x) _ _ tt refl
rw_tells mode Y2 f x = rw_if (rw_name f.lock.index) (is_open x) _ _ refl tt
rw_tells mode Y3 f x = refl
rw_tells mode Y4 f x = rw_if (rw_name f.lock.index) (is_empty x) _ _ tt refl
rw_tells mode Y5 f x = rw_if (rw_name f.lock.index) (is_empty x) _ _ (refl, tt) refl
rw_tells mode Z1 f x = refl
rw_tells mode Z2 f x = refl
rw_tells mode _ f x = tt

-- what the row on a target tells
abbrev pub tell_on : Machine → ℕ → Frame → Pc → Target → Tell
tell_on m p f c SpinWord = (spin_row m.setup.mode c f (word_at m f.lock)).tells
tell_on m p f c QueueWord = (queue_row m.setup.mode c f (word_at m f.lock)).tells
tell_on m p f c Queued = (entry_row m.setup.mode p (queued_at m p)).tells
tell_on m p f c (FlagOf k) = (flag_row c f (node_at m k).flag).tells
tell_on m p f c (NextOf k) = (next_row m.setup.mode m.setup.spins c f (node_at m k).next).tells
tell_on m p f c ChoiceWord = (promotion_row c f (word_at m f.lock)).tells
tell_on m p f c (ChoiceFlag k) = (handover_row c f (node_at m k).flag).tells
tell_on m p f c (ChoiceNext k) = (search_row (sight_at m p f) c f (node_at m k).next).tells
tell_on m p f c (SecondTailOf k) = (second_row c f (node_at m k).second_tail).tells
tell_on m p f c (RunsOf k) = (runs_row (sight_at m p f) c f (node_at m k).runs).tells
tell_on m p f c PvWord = (pv_row m.setup.spins c f (word_at m f.lock)).tells
tell_on m p f c (PvFlag k) = (pv_flag_row c f (node_at m k).flag).tells
tell_on m p f c (PvNext k) = (pv_next_row c f (node_at m k).next).tells
tell_on m p f c (StateOf k) = (state_row m.setup.spins c f (node_at m k).state).tells
tell_on m p f c HashEntry = (hash_row c f (entry_at m f.lock)).tells
tell_on m p f c Halted = (halt_row c f (halted_at m p)).tells
tell_on m p f c (KickOf q) = (kick_row c f (kicked_at m q)).tells
tell_on m p f c RwWord = (rw_row m.setup.mode c f (rw_at m f.lock.index)).tells

-- by its target a row tells of its frame's spinlock or wait lock, or of its reader-writer lock
abbrev pub TellsOf : ℕ → Frame → Target → Tell → Type 0
TellsOf n f RwWord t = RwTells (rw_name f.lock.index) t
TellsOf n f _ t = SpinTells n f.lock t

pub row_tells : (n : ℕ) (m : Machine) (p : ℕ) (f : Frame) (c : Pc) (t : Target) → (node_of f.target).cpu < n
    → TellsOf n f t (tell_on m p f c t)
row_tells n m p f c SpinWord h = spin_tells n m.setup.mode c f (word_at m f.lock)
row_tells n m p f c QueueWord h = queue_tells n m.setup.mode c f (word_at m f.lock)
row_tells n m p f c Queued h = tt
row_tells n m p f c (FlagOf k) h = flag_tells n c f (node_at m k).flag
row_tells n m p f c (NextOf k) h = next_tells n m.setup.mode m.setup.spins c f (node_at m k).next
row_tells n m p f c ChoiceWord h = promotion_tells n c f (word_at m f.lock)
row_tells n m p f c (ChoiceFlag k) h = handover_tells n c f (node_at m k).flag
row_tells n m p f c (ChoiceNext k) h = search_tells n (sight_at m p f) c f (node_at m k).next
row_tells n m p f c (SecondTailOf k) h = second_tells n c f (node_at m k).second_tail
row_tells n m p f c (RunsOf k) h = runs_tells n (sight_at m p f) c f (node_at m k).runs
row_tells n m p f c PvWord h = pv_tells n m.setup.spins c f (word_at m f.lock) h
row_tells n m p f c (PvFlag k) h = pv_flag_tells n c f (node_at m k).flag
row_tells n m p f c (PvNext k) h = pv_next_tells n c f (node_at m k).next
row_tells n m p f c (StateOf k) h = state_tells n m.setup.spins c f (node_at m k).state
row_tells n m p f c HashEntry h = hash_tells n c f (entry_at m f.lock)
row_tells n m p f c Halted h = halt_tells n c f (halted_at m p)
row_tells n m p f c (KickOf q) h = kick_tells n c f (kicked_at m q) h
row_tells n m p f c RwWord h = rw_tells m.setup.mode c f (rw_at m f.lock.index)
