-- Where each row leads, the registers that later rows take as names are filled.
use Rattle.std.proofs.Common.{◌≡◌, ℕ, ◌-◌, Option, Some, None, Bool, true, false, [], ◌∷◌, refl}
use Rattle.std.proofs.Common.{◌&&◌, ◌==◌, not, is_some, if◌then◌else◌}
use Rattle.lk_renaming.proofs.Names.{RwFields, Fields, NodeName, Mode, Pv, Virt, is_node, node_of}
use Rattle.lk_renaming.proofs.Names.{Done, Effect, Enters, Freed, Goes, Granted, Lead, Leaves}
use Rattle.lk_renaming.proofs.Names.{Missed, T, TakesWait, Yields, entered, gone, Flag, Frame, Pc}
use Rattle.lk_renaming.proofs.Names.{C1, C2, C3, C4, C5, C7, C8, C9, C10, E1, E2, E6, E10, E13, E14}
use Rattle.lk_renaming.proofs.Names.{G5, G6, G7, G8, G10, G11, K1, U5, W1, W2, W4, W5, W6, W7}
use Rattle.lk_renaming.proofs.Names.{State, handover_row, is_held, is_last, promotion_row, runs_row}
use Rattle.lk_renaming.proofs.Names.{search_row, second_row, halt_row, hash_row, kick_row}
use Rattle.lk_renaming.proofs.Names.{pv_flag_row, pv_next_row, pv_row, state_row, entry_row}
use Rattle.lk_renaming.proofs.Names.{flag_row, next_row, queue_row, rw_row, is_free, is_unlocked}
use Rattle.lk_renaming.proofs.Names.{spin_row, AreNames}
use Rattle.lk_names.specs.declared.names.Mode.TheVariants.{Cna}
use Rattle.lk_rows.specs.declared.parts.Pc.TheVariants.{F1, T1, T2, V1, V2, P0, P1, P3, P4, G2, G3}
use Rattle.lk_rows.specs.declared.parts.Pc.TheVariants.{G4, G9, N1, N2, H1, H2, E4, E5, E7, E11}
use Rattle.lk_rows.specs.declared.parts.Pc.TheVariants.{E12, K3, U2, U3, R1, R2, R3, R5, Wr1, Wr2}
use Rattle.lk_rows.specs.declared.parts.Pc.TheVariants.{Wr3, Wr4, Wr5, Wr6, Y1, Y2, Y4, Y5}
use Rattle.lk_rows.specs.{declared.parts.Why.Why, declared.setup.Verb.TheVariants.Unlock}
use Rattle.lk_rows.specs.rows.Cna.{Sight, may_stay, after_none, after_tail}
use Rattle.lk_rows.specs.rows.Pv.{after_given_up, is_set, is_running, is_halted, is_slow_byte}
use Rattle.lk_rows.specs.rows.Queue.{own_node, after_entry, after_arrival, is_sole, after_head}
use Rattle.lk_rows.specs.{rows.Queue.after_link, rows.Rw.{is_empty, is_open, is_cleared}}
use Rattle.lk_rows.specs.rows.Spin.{to_queue, after_fast}
use Rattle.lk_law.specs.Registers.{ChoiceFits}
use Rattle.lk_renaming.proofs.Later.{Quiet, LaterAt, later_at, later_why, first_quiet}
use Rattle.lk_rows.specs.declared.parts.Flag.TheVariants as flag
use Rattle.lk_rows.specs.declared.parts.Why.TheVariants as why

-- the frame that the lead makes of f has them
abbrev pub LeadNamed : Frame → Lead → Type 0
LeadNamed f (Goes c cs) = LaterAt (Some c) (gone f c cs)
LeadNamed f (Enters me c) = LaterAt (Some c) (entered f me c)
LeadNamed f (TakesWait c) = Quiet (Some c)
LeadNamed f (Yields c cs) = LaterAt (Some c) (gone f c cs)
LeadNamed f Granted = Unit {0}
LeadNamed f Freed = Unit {0}
LeadNamed f Missed = Unit {0}
LeadNamed f Done = Unit {0}
LeadNamed f Leaves = Unit {0}

-- one of two places
either : (b : Bool) (c d : Pc) → Quiet (Some c) → Quiet (Some d) → Quiet (Some (if b then c else d))
either true c d x y = x
either false c d x y = y

module _ (f : Frame) where
  -- one of two effects
  pick : {A : Type 0} (b : Bool) (x y : Effect A) → LeadNamed f x.leads → LeadNamed f y.leads
      → LeadNamed f (if b then x else y).leads
  pick true x y one other = one
  pick false x y one other = other

  -- the rows on the word of a spinlock

  queue : (x : Fields) → Quiet (Some (to_queue x))
  queue x = either x.pending _ _ (λ g. tt) (either (is_some x.tail) _ _ (λ g. tt) (λ g. tt))

  fast : (mode : Mode) (x : Fields) → Quiet (Some (after_fast mode x))
  fast Virt x = λ g. tt
  fast Pv x = λ g. tt
  fast mode x = either (is_unlocked x.locked && x.pending && not (is_some x.tail)) _ _ (λ g. tt) (queue x)

  pub spin_row-named : (mode : Mode) (c : Pc) (x : Fields) → AreNames (later_at c f)
      → LeadNamed f (spin_row mode c f x).leads
  spin_row-named mode F1 x later = pick (is_free x) _ _ tt (fast mode x _)
  spin_row-named mode T1 x later = pick (is_free x) _ _ tt tt
  spin_row-named mode T2 x later = pick (is_free x) _ _ tt tt
  spin_row-named mode V1 x later = either (is_free x) V2 V1 (λ g. tt) (λ g. tt) _
  spin_row-named mode V2 x later = pick (is_free x) _ _ tt tt
  spin_row-named mode P0 x later = queue x _
  spin_row-named mode P1 x later =
      either x.pending _ _ (λ g. tt)
      (either (is_some x.tail) _ _ (λ g. tt) (either (is_unlocked x.locked) P4 P3 (λ g. tt) (λ g. tt))) _
  spin_row-named mode P3 x later = either (is_unlocked x.locked) P4 P3 (λ g. tt) (λ g. tt) _
  spin_row-named mode c x later = later

  -- the rows of the queue

  enters : (mode : Mode) (o : Option NodeName) → Quiet (Some (after_entry mode o))
  enters Pv o = λ g. tt
  enters mode None = λ g. tt
  enters mode (Some n) = λ g. tt

  pub entry_row-named : (mode : Mode) (p i : ℕ) → LeadNamed f (entry_row mode p i).leads
  entry_row-named mode p i = enters mode (own_node p i) _

  arrives : (mode : Mode) (o : Option NodeName) → LeadNamed f (after_arrival mode o).leads
  arrives Pv None = tt
  arrives mode None = tt
  arrives mode (Some n) = tt

  heads : (mode : Mode) → Quiet (Some (after_head mode))
  heads Cna = λ g. tt
  heads mode = λ g. tt

  pub queue_row-named : (mode : Mode) (c : Pc) (x : Fields) → AreNames (later_at c f)
      → LeadNamed f (queue_row mode c f x).leads
  queue_row-named mode G2 x later = either (is_free x) G3 G4 (λ g. tt) (λ g. tt) _
  queue_row-named mode G3 x later = pick (is_free x) _ _ tt tt
  queue_row-named mode G4 x later = arrives mode x.tail
  queue_row-named mode G7 x later =
      either (is_unlocked x.locked && not x.pending) _ _
      (either (is_node x.tail (node_of f.me) && not (is_some f.second)) G8 G9 (λ g. tt) (λ g. tt)) (λ g. tt) _
  queue_row-named mode G8 x later = pick (is_sole f x) _ _ tt tt
  queue_row-named mode G9 x later = heads mode _
  queue_row-named mode N1 x later = either (is_free x) N2 N1 (λ g. tt) (λ g. tt) _
  queue_row-named mode N2 x later = pick (is_free x) _ _ tt tt
  queue_row-named mode c x later = later

  pub flag_row-named : (c : Pc) (x : Flag) → AreNames (later_at c f) → LeadNamed f (flag_row c f x).leads
  flag_row-named G6 flag.Unset later = tt
  flag_row-named G6 flag.Go later = tt
  flag_row-named G6 (flag.Second n) later = tt
  flag_row-named G11 x later = tt
  flag_row-named c x later = later

  links : (mode : Mode) (spins : ℕ) → LeadNamed f (after_link mode spins)
  links Pv spins = tt
  links mode spins = tt

  pub next_row-named : (mode : Mode) (spins : ℕ) (c : Pc) (x : Option NodeName) → AreNames (later_at c f)
      → LeadNamed f (next_row mode spins c f x).leads
  next_row-named mode spins G5 x later = links mode spins
  next_row-named mode spins G10 None later = tt
  next_row-named mode spins G10 (Some n) later = tt
  next_row-named mode spins c x later = later

  -- the rows of a choice

  nobody : (o : Option NodeName) → LeadNamed f (after_none o).leads
  nobody None = tt
  nobody (Some n) = tt

  module _ (mode : Mode) (fits : ChoiceFits mode f) where
    pub search_row-named : (s : Sight) (c : Pc) (x : Option NodeName) → f.place ≡ Some c
        → AreNames (later_at c f) → LeadNamed f (search_row s c f x).leads
    search_row-named s C1 None at later = nobody f.second
    search_row-named s C1 (Some n) at later =
        pick (may_stay s) _ _ (pick (s.local n) _ _ (refl, tt) tt) (pick (is_some f.second) _ _ tt (refl, tt))
    search_row-named s C2 None at later = pick (is_some f.second) _ _ tt (fits.first C2 at refl, tt)
    search_row-named s C2 (Some n) at later =
        pick (s.local n) _ _ (pick (is_some f.second) _ _ (refl, tt) (refl, tt)) tt
    search_row-named s C4 x at later = (later.0, tt)
    search_row-named s C5 x at later = later
    search_row-named s C9 x at later = (fits.second C9 at refl, tt)
    search_row-named s c x at later = later

    pub promotion_row-named : (c : Pc) (x : Fields) → f.place ≡ Some c → AreNames (later_at c f)
        → LeadNamed f (promotion_row c f x).leads
    promotion_row-named C10 x at later = pick (is_last f x) _ _ (fits.second C10 at refl, tt) tt
    promotion_row-named c x at later = later

  tail : (w : Why) (x : Option NodeName) → AreNames (later_why w f.y) → is_some x ≡ true
      → LeadNamed f (Goes (after_tail w) (T x ∷ []))
  tail why.Append x later some = (later.0, (some, tt))
  tail why.Flush x later some = (some, tt)
  tail why.Promotion x later some = tt

  pub second_row-named : (c : Pc) (x : Option NodeName) → (c ≡ C3 → is_some x ≡ true)
      → AreNames (later_at c f) → LeadNamed f (second_row c f x).leads
  second_row-named C3 x some later = tail f.why x later (some refl)
  second_row-named c x some later = later

  pub runs_row-named : (s : Sight) (c : Pc) (x : ℕ) → AreNames (later_at c f)
      → LeadNamed f (runs_row s c f x).leads
  runs_row-named s C7 x later = later
  runs_row-named s c x later = later

  pub handover_row-named : (c : Pc) (x : Flag) → AreNames (later_at c f)
      → LeadNamed f (handover_row c f x).leads
  handover_row-named C8 x later = tt
  handover_row-named c x later = later

  -- the rows of the paravirtual lock

  given_up : (o : Option NodeName) → Quiet (Some (after_given_up o))
  given_up None = λ g. tt
  given_up (Some n) = λ g. tt

  pub pv_row-named : (spins : ℕ) (c : Pc) (x : Fields) → AreNames (later_at c f)
      → LeadNamed f (pv_row spins c f x).leads
  pv_row-named spins H1 x later =
      either (is_unlocked x.locked && not x.pending) _ _ (λ g. tt)
      (either (is_some x.tail && not x.pending) _ _ (λ g. tt) (given_up f.me)) _
  pv_row-named spins H2 x later =
      pick (is_unlocked x.locked) _ _ tt (either f.tailed _ _ (λ g. tt) (given_up f.me) _)
  pv_row-named spins E4 x later =
      pick (is_unlocked x.locked && x.pending) _ _ tt (pick (f.left - 1 == 0) _ _ tt tt)
  pv_row-named spins E5 x later = either f.hashed E10 E6 (λ g. tt) (λ g. tt) _
  pv_row-named spins E7 x later = pick (is_unlocked x.locked) _ _ tt tt
  pv_row-named spins E11 x later = either (is_slow_byte x.locked) E12 E2 (λ g. tt) (λ g. tt) _
  pv_row-named spins E13 x later = pick (is_last f x) _ _ tt tt
  pv_row-named spins U2 x later = pick (is_held x.locked) _ _ tt tt
  pv_row-named spins c x later = later

  pub pv_flag_row-named : (c : Pc) (x : Flag) → AreNames (later_at c f)
      → LeadNamed f (pv_flag_row c f x).leads
  pv_flag_row-named W1 x later = either (is_set x) E1 W2 (λ g. tt) (λ g. tt) _
  pv_flag_row-named W4 x later = pick (is_set x) _ _ tt tt
  pv_flag_row-named c x later = later

  pub pv_next_row-named : (c : Pc) (x : Option NodeName) → AreNames (later_at c f)
      → LeadNamed f (pv_next_row c f x).leads
  pv_next_row-named E14 None later = tt
  pv_next_row-named E14 (Some n) later = tt
  pv_next_row-named c x later = later

  pub state_row-named : (spins : ℕ) (c : Pc) (x : State) → AreNames (later_at c f)
      → LeadNamed f (state_row spins c f x).leads
  state_row-named spins W2 x later = pick (is_running x) _ _ (pick (f.left - 1 == 0) _ _ tt tt) tt
  state_row-named spins W5 x later = either (is_halted x) W6 W7 (λ g. tt) (λ g. tt) _
  state_row-named spins W7 x later = pick (is_halted x) _ _ tt tt
  state_row-named spins K1 x later = pick (is_halted x) _ _ tt tt
  state_row-named spins c x later = later

  pub hash_row-named : (c : Pc) (x : Option NodeName) → (c ≡ U3 → is_some x ≡ true)
      → AreNames (later_at c f) → LeadNamed f (hash_row c f x).leads
  hash_row-named U3 x some later = (some refl, tt)
  hash_row-named K3 x some later = tt
  hash_row-named c x some later = later

  pub halt_row-named : (c : Pc) (x : Bool) → AreNames (later_at c f) → LeadNamed f (halt_row c f x).leads
  halt_row-named W6 x later = tt
  halt_row-named c x later = later

  pub kick_row-named : (c : Pc) (x : Bool) → AreNames (later_at c f) → LeadNamed f (kick_row c f x).leads
  kick_row-named U5 x later = tt
  kick_row-named c x later = later

  -- the rows of readers and writers

  pub rw_row-named : (mode : Mode) (c : Pc) (x : RwFields) → AreNames (later_at c f)
      → LeadNamed f (rw_row mode c f x).leads
  rw_row-named mode R1 x later = pick (is_open x) _ _ tt (either (f.ctx == 0) R3 R2 (λ g. tt) (λ g. tt) _)
  rw_row-named mode R2 x later = pick x.writer _ _ tt tt
  rw_row-named mode R3 x later = λ g. tt
  rw_row-named mode R5 x later = pick x.writer _ _ tt (first_quiet mode Unlock _)
  rw_row-named mode Wr1 x later = pick (is_empty x) _ _ tt (λ g. tt)
  rw_row-named mode Wr2 x later = either (is_empty x) Wr3 Wr4 (λ g. tt) (λ g. tt) _
  rw_row-named mode Wr3 x later = pick (is_empty x) _ _ (first_quiet mode Unlock _) tt
  rw_row-named mode Wr5 x later = either (is_cleared x) Wr6 Wr5 (λ g. tt) (λ g. tt) _
  rw_row-named mode Wr6 x later = pick (is_cleared x) _ _ (first_quiet mode Unlock _) tt
  rw_row-named mode Y1 x later = pick (is_open x) _ _ tt tt
  rw_row-named mode Y2 x later = pick (is_open x) _ _ tt tt
  rw_row-named mode Y4 x later = pick (is_empty x) _ _ tt tt
  rw_row-named mode Y5 x later = pick (is_empty x) _ _ tt tt
  rw_row-named mode c x later = later
