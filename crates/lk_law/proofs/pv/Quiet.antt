-- The rows that tell of no halt, no kick and no release that owes one, and lead to no kick.
use Rattle.std.proofs.Common.{◌≡◌, ◌≢◌, ℕ, Option, Some, None, Bool, true, false, arith, ap, refl}
use Rattle.std.proofs.Common.{◌∙◌, if◌then◌else◌}
use Rattle.lk_law.proofs.Names.{RwFields, Fields, NodeName, same_waiter, What, Halt, Int, Release}
use Rattle.lk_law.proofs.Names.{Wake, LockName, Mode, Waiter, Done, Effect, Enters, Freed, Goes}
use Rattle.lk_law.proofs.Names.{Granted, Lead, Leaves, Missed, Nothing, Passes, Says, TakesWait}
use Rattle.lk_law.proofs.Names.{Tell, Yields, target, Flag, Frame, Pc, E12, U4, U5, W6, State}
use Rattle.lk_law.proofs.Names.{Sight, entry_row, Made, lead_on, led, sight_in, stores_entry}
use Rattle.lk_law.proofs.Names.{stores_flag, stores_next, stores_queued, stores_runs, stores_second}
use Rattle.lk_law.proofs.Names.{stores_state, stores_word, World}
use Rattle.lk_names.specs.declared.events.What.TheVariants.{Kick, Nudge}
use Rattle.lk_rows.specs.TopRow.{Target, SpinWord, QueueWord, Queued, FlagOf, NextOf, ChoiceWord}
use Rattle.lk_rows.specs.TopRow.{ChoiceFlag, ChoiceNext, SecondTailOf, RunsOf, PvWord, PvFlag}
use Rattle.lk_rows.specs.TopRow.{PvNext, StateOf, HashEntry, Halted, KickOf, RwWord}
use Rattle.lk_rows.specs.rows.Cna.{search_row, second_row, runs_row, handover_row, promotion_row}
use Rattle.lk_rows.specs.rows.Pv.{pv_row, pv_flag_row, pv_next_row, state_row, hash_row}
use Rattle.lk_rows.specs.{rows.Queue.{queue_row, flag_row, next_row}, rows.Rw.rw_row}
use Rattle.lk_rows.specs.rows.Spin.{spin_row}
use Rattle.lk_law.specs.Steps.{row_in_at, stores_rw, rw_led}

abbrev pub to_kick : Pc → Bool
to_kick U5 = true
to_kick _ = false

abbrev pub reaches_kick : Lead → Bool
reaches_kick (Goes c cs) = to_kick c
reaches_kick (Enters n c) = to_kick c
reaches_kick (Yields c cs) = to_kick c
reaches_kick _ = false

abbrev pub is_quiet : What → Bool
is_quiet (Release l (Some p)) = false
is_quiet (Kick p) = false
is_quiet (Halt l) = false
is_quiet (Wake l) = false
is_quiet Int = false
is_quiet Nudge = false
is_quiet _ = true

abbrev pub quiet_tell : Tell → Bool
quiet_tell Nothing = true
quiet_tell (Says what) = is_quiet what
quiet_tell (Passes n k) = true

pub record IsQuietEffect {A : Type 0} (o : Effect A) : Type 0 where
  pub leads : reaches_kick o.leads ≡ false
  pub tells : quiet_tell o.tells ≡ true

spin_quiet : (mode : Mode) (c : Pc) (f : Frame) (x : Fields) → to_kick c ≡ false
    → IsQuietEffect (spin_row mode c f x)
spin_quiet mode c f x h = record { leads = grind arith; tells = grind arith }

queue_quiet : (mode : Mode) (c : Pc) (f : Frame) (x : Fields) → to_kick c ≡ false
    → IsQuietEffect (queue_row mode c f x)
queue_quiet mode c f x h = record { leads = grind arith; tells = grind arith }

flag_quiet : (c : Pc) (f : Frame) (x : Flag) → to_kick c ≡ false → IsQuietEffect (flag_row c f x)
flag_quiet c f x h = record { leads = grind arith; tells = grind arith }

next_quiet : (mode : Mode) (turns : ℕ) (c : Pc) (f : Frame) (x : Option NodeName)
    → to_kick c ≡ false → IsQuietEffect (next_row mode turns c f x)
next_quiet mode turns c f x h = record { leads = grind arith; tells = grind arith }

search_quiet : (s : Sight) (c : Pc) (f : Frame) (x : Option NodeName) → to_kick c ≡ false
    → IsQuietEffect (search_row s c f x)
search_quiet s c f x h = record { leads = grind arith; tells = grind arith }

second_quiet : (c : Pc) (f : Frame) (x : Option NodeName) → to_kick c ≡ false
    → IsQuietEffect (second_row c f x)
second_quiet c f x h = record { leads = grind arith; tells = grind arith }

runs_quiet : (s : Sight) (c : Pc) (f : Frame) (x : ℕ) → to_kick c ≡ false
    → IsQuietEffect (runs_row s c f x)
runs_quiet s c f x h = record { leads = grind arith; tells = grind arith }

handover_quiet : (c : Pc) (f : Frame) (x : Flag) → to_kick c ≡ false
    → IsQuietEffect (handover_row c f x)
handover_quiet c f x h = record { leads = grind arith; tells = grind arith }

promotion_quiet : (c : Pc) (f : Frame) (x : Fields) → to_kick c ≡ false
    → IsQuietEffect (promotion_row c f x)
promotion_quiet c f x h = record { leads = grind arith; tells = grind arith }

pv_quiet : (turns : ℕ) (c : Pc) (f : Frame) (x : Fields) → to_kick c ≡ false → c ≢ U4
    → IsQuietEffect (pv_row turns c f x)
pv_quiet turns c f x h u4 = record { leads = grind arith; tells = grind arith }

pv_flag_quiet : (c : Pc) (f : Frame) (x : Flag) → to_kick c ≡ false
    → IsQuietEffect (pv_flag_row c f x)
pv_flag_quiet c f x h = record { leads = grind arith; tells = grind arith }

pv_next_quiet : (c : Pc) (f : Frame) (x : Option NodeName) → to_kick c ≡ false
    → IsQuietEffect (pv_next_row c f x)
pv_next_quiet c f x h = record { leads = grind arith; tells = grind arith }

state_quiet : (turns : ℕ) (c : Pc) (f : Frame) (x : State) → to_kick c ≡ false
    → IsQuietEffect (state_row turns c f x)
state_quiet turns c f x h = record { leads = grind arith; tells = grind arith }

hash_quiet : (c : Pc) (f : Frame) (x : Option NodeName) → to_kick c ≡ false
    → IsQuietEffect (hash_row c f x)
hash_quiet c f x h = record { leads = grind arith; tells = grind arith }

rw_row_quiet : (mode : Mode) (c : Pc) (f : Frame) (x : RwFields) → to_kick c ≡ false
    → IsQuietEffect (rw_row mode c f x)
rw_row_quiet mode c f x h = record { leads = grind arith; tells = grind arith }

entry_quiet : (mode : Mode) (p i : ℕ) → IsQuietEffect (entry_row mode p i)
entry_quiet mode p i = record { leads = grind arith; tells = refl }

-- the world has the same frames, halts and kicks
record SameHalts (m n : World) : Type 0 where
  frame : n.frame ≡ m.frame
  halted : n.halted ≡ m.halted
  kicked : n.kicked ≡ m.kicked

same_word : (m : World) (l : LockName) (o : Option Fields) → SameHalts m (stores_word m l o)
same_word m l None = record { frame = refl; halted = refl; kicked = refl }
same_word m l (Some x) = record { frame = refl; halted = refl; kicked = refl }

same_flag : (m : World) (k : NodeName) (o : Option Flag) → SameHalts m (stores_flag m k o)
same_flag m k None = record { frame = refl; halted = refl; kicked = refl }
same_flag m k (Some x) = record { frame = refl; halted = refl; kicked = refl }

same_next : (m : World) (k : NodeName) (o : Option (Option NodeName))
    → SameHalts m (stores_next m k o)
same_next m k None = record { frame = refl; halted = refl; kicked = refl }
same_next m k (Some x) = record { frame = refl; halted = refl; kicked = refl }

same_second : (m : World) (k : NodeName) (o : Option (Option NodeName))
    → SameHalts m (stores_second m k o)
same_second m k None = record { frame = refl; halted = refl; kicked = refl }
same_second m k (Some x) = record { frame = refl; halted = refl; kicked = refl }

same_runs : (m : World) (k : NodeName) (o : Option ℕ) → SameHalts m (stores_runs m k o)
same_runs m k None = record { frame = refl; halted = refl; kicked = refl }
same_runs m k (Some x) = record { frame = refl; halted = refl; kicked = refl }

same_state : (m : World) (k : NodeName) (o : Option State) → SameHalts m (stores_state m k o)
same_state m k None = record { frame = refl; halted = refl; kicked = refl }
same_state m k (Some x) = record { frame = refl; halted = refl; kicked = refl }

same_entry : (m : World) (l : LockName) (o : Option (Option NodeName))
    → SameHalts m (stores_entry m l o)
same_entry m l None = record { frame = refl; halted = refl; kicked = refl }
same_entry m l (Some x) = record { frame = refl; halted = refl; kicked = refl }

same_rw : (m : World) (i : ℕ) (o : Option RwFields) → SameHalts m (stores_rw m i o)
same_rw m i None = record { frame = refl; halted = refl; kicked = refl }
same_rw m i (Some x) = record { frame = refl; halted = refl; kicked = refl }

same_queued : (m : World) (p : ℕ) (o : Option ℕ) → SameHalts m (stores_queued m p o)
same_queued m p None = record { frame = refl; halted = refl; kicked = refl }
same_queued m p (Some x) = record { frame = refl; halted = refl; kicked = refl }

abbrev pub put : (Waiter → Option Frame) → Waiter → Frame → Waiter → Option Frame
put frame w g u = if same_waiter u w then Some g else frame u

led_same : (n : World) (w : Waiter) (f : Frame) (lead : Lead)
    → ((lead_on n w f lead).halted ≡ n.halted) × ((lead_on n w f lead).kicked ≡ n.kicked)
    × ((lead_on n w f lead).frame ≡ put n.frame w (led f lead))
led_same n w f (Goes c cs) = (refl, refl, refl)
led_same n w f (Enters None c) = (refl, refl, refl)
led_same n w f (Enters (Some k) c) = (refl, refl, refl)
led_same n w f Granted = (refl, refl, refl)
led_same n w f Freed = (refl, refl, refl)
led_same n w f Missed = (refl, refl, refl)
led_same n w f Leaves = (refl, refl, refl)
led_same n w f (Yields c cs) = (refl, refl, refl)
led_same n w f Done = (refl, refl, refl)
led_same n w f (TakesWait c) = (refl, refl, refl)

-- what such a row does to a world: it moves the acting frame, and neither halts, nor kicks, nor
-- tells of either
pub record QuietRow (m : World) (w : Waiter) (f : Frame) (made : Made) : Type 0 where
  pub halted : made.0.halted ≡ m.halted
  pub kicked : made.0.kicked ≡ m.kicked
  pub lead : Lead
  pub leads : reaches_kick lead ≡ false
  pub frame : made.0.frame ≡ put m.frame w (led f lead)
  pub tells : quiet_tell made.1 ≡ true

quiet_made : {A : Type 0} {m n : World} (w : Waiter) (f : Frame) (o : Effect A) → SameHalts m n
    → IsQuietEffect o → QuietRow m w f (lead_on n w f o.leads, o.tells)
quiet_made {n = n} w f o same quiet =
    let parts = led_same n w f o.leads in
    record {
      halted = parts.0 ∙ same.halted;
      kicked = parts.1 ∙ same.kicked;
      lead = o.leads;
      leads = quiet.leads;
      frame = parts.2
          ∙ ap {B = Waiter → Option Frame}
          (λ (h : Waiter → Option Frame). put h w (led f o.leads)) same.frame;
      tells = quiet.tells;
    }

rw_made : {m : World} (w : Waiter) (f : Frame) (o : Effect RwFields) → IsQuietEffect o
    → QuietRow m w f (rw_led m w f o, o.tells)
rw_made {m = m} w f o quiet =
    let same = same_rw m f.lock.index o.stores in
    record {
      halted = same.halted;
      kicked = same.kicked;
      lead = o.leads;
      leads = quiet.leads;
      frame =
          ap {B = Waiter → Option Frame}
          (λ (h : Waiter → Option Frame). put h w (led f o.leads)) same.frame;
      tells = quiet.tells;
    }

-- the row is on a halt or a kick
abbrev pub is_loud : Target → Bool
is_loud Halted = true
is_loud (KickOf p) = true
is_loud _ = false

pub quiet_at : (m : World) (w : Waiter) (f : Frame) (c : Pc) (t : Target) → to_kick c ≡ false
    → c ≢ U4 → is_loud t ≡ false → QuietRow m w f (row_in_at m w f c t)
quiet_at m w f c SpinWord h u4 loud =
    quiet_made w f (spin_row m.mode c f (m.word f.lock))
    (same_word m f.lock (spin_row m.mode c f (m.word f.lock)).stores)
    (spin_quiet m.mode c f (m.word f.lock) h)
quiet_at m w f c QueueWord h u4 loud =
    quiet_made w f (queue_row m.mode c f (m.word f.lock))
    (same_word m f.lock (queue_row m.mode c f (m.word f.lock)).stores)
    (queue_quiet m.mode c f (m.word f.lock) h)
quiet_at m w f c Queued h u4 loud =
    quiet_made w f (entry_row m.mode w.cpu (m.queued w.cpu))
    (same_queued m w.cpu (entry_row m.mode w.cpu (m.queued w.cpu)).stores)
    (entry_quiet m.mode w.cpu (m.queued w.cpu))
quiet_at m w f c (FlagOf n) h u4 loud =
    quiet_made w f (flag_row c f (m.node n).flag)
    (same_flag m n (flag_row c f (m.node n).flag).stores) (flag_quiet c f (m.node n).flag h)
quiet_at m w f c (NextOf n) h u4 loud =
    quiet_made w f (next_row m.mode m.turns c f (m.node n).next)
    (same_next m n (next_row m.mode m.turns c f (m.node n).next).stores)
    (next_quiet m.mode m.turns c f (m.node n).next h)
quiet_at m w f c ChoiceWord h u4 loud =
    quiet_made w f (promotion_row c f (m.word f.lock))
    (same_word m f.lock (promotion_row c f (m.word f.lock)).stores)
    (promotion_quiet c f (m.word f.lock) h)
quiet_at m w f c (ChoiceFlag n) h u4 loud =
    quiet_made w f (handover_row c f (m.node n).flag)
    (same_flag m n (handover_row c f (m.node n).flag).stores) (handover_quiet c f (m.node n).flag h)
quiet_at m w f c (ChoiceNext n) h u4 loud =
    quiet_made w f (search_row (sight_in m w f) c f (m.node n).next)
    (same_next m n (search_row (sight_in m w f) c f (m.node n).next).stores)
    (search_quiet (sight_in m w f) c f (m.node n).next h)
quiet_at m w f c (SecondTailOf n) h u4 loud =
    quiet_made w f (second_row c f (m.node n).second_tail)
    (same_second m n (second_row c f (m.node n).second_tail).stores)
    (second_quiet c f (m.node n).second_tail h)
quiet_at m w f c (RunsOf n) h u4 loud =
    quiet_made w f (runs_row (sight_in m w f) c f (m.node n).runs)
    (same_runs m n (runs_row (sight_in m w f) c f (m.node n).runs).stores)
    (runs_quiet (sight_in m w f) c f (m.node n).runs h)
quiet_at m w f c PvWord h u4 loud =
    quiet_made w f (pv_row m.turns c f (m.word f.lock))
    (same_word m f.lock (pv_row m.turns c f (m.word f.lock)).stores)
    (pv_quiet m.turns c f (m.word f.lock) h u4)
quiet_at m w f c (PvFlag n) h u4 loud =
    quiet_made w f (pv_flag_row c f (m.node n).flag)
    (same_flag m n (pv_flag_row c f (m.node n).flag).stores) (pv_flag_quiet c f (m.node n).flag h)
quiet_at m w f c (PvNext n) h u4 loud =
    quiet_made w f (pv_next_row c f (m.node n).next)
    (same_next m n (pv_next_row c f (m.node n).next).stores) (pv_next_quiet c f (m.node n).next h)
quiet_at m w f c (StateOf n) h u4 loud =
    quiet_made w f (state_row m.turns c f (m.node n).state)
    (same_state m n (state_row m.turns c f (m.node n).state).stores)
    (state_quiet m.turns c f (m.node n).state h)
quiet_at m w f c HashEntry h u4 loud =
    quiet_made w f (hash_row c f (m.entry f.lock))
    (same_entry m f.lock (hash_row c f (m.entry f.lock)).stores) (hash_quiet c f (m.entry f.lock) h)
quiet_at m w f c Halted h u4 loud = cc
quiet_at m w f c (KickOf p) h u4 loud = cc
quiet_at m w f c RwWord h u4 loud =
    rw_made w f (rw_row m.mode c f (m.rw f.lock.index))
    (rw_row_quiet m.mode c f (m.rw f.lock.index) h)

-- a row that is on neither is quiet
pub target_kind : (c : Pc) (f : Frame) → to_kick c ≡ false → c ≢ W6 → c ≢ E12
    → is_loud (target c f) ≡ false
target_kind c f h w6 e12 = kind (target c f) (not_halted c f w6 e12) (not_kick c f h)
  where
    not_halted : (c : Pc) (f : Frame) → c ≢ W6 → c ≢ E12 → target c f ≢ Halted
    not_halted c f w6 e12 e = grind (arith, w6, e12, e)

    not_kick : (c : Pc) (f : Frame) → to_kick c ≡ false → (p : ℕ) → target c f ≢ KickOf p
    not_kick c f h p e = grind (arith, h, e)

    kind : (t : Target) → t ≢ Halted → ((p : ℕ) → t ≢ KickOf p) → is_loud t ≡ false
    kind Halted a b = absurd (a refl)
    kind (KickOf p) a b = absurd (b p refl)
    kind _ a b = refl
