-- Each row does alike on a machine whose unowned nodes are at rest.
use Rattle.std.proofs.Common.{◌≡◌, ℕ, Option, Some, None, Bool, true, false, ap, refl, sym, ◌∙◌}
use Rattle.std.proofs.Common.{subst}
use Rattle.lk_idle.proofs.Names.{RwFields, Fields, NodeName, Machine, top_frame, node_of, Done}
use Rattle.lk_idle.proofs.Names.{Effect, Enters, Freed, Goes, Granted, Lead, Leaves, Missed}
use Rattle.lk_idle.proofs.Names.{TakesWait, Yields, applied, sight_at, target, Flag, Frame, Node}
use Rattle.lk_idle.proofs.Names.{Pc, C1, C2, C3, C4, C5, C6, C7, C8, C9, E14, E15, G5, G6, G10, G11}
use Rattle.lk_idle.proofs.Names.{W1, W4, State, handover_row, promotion_row, runs_row, search_row}
use Rattle.lk_idle.proofs.Names.{second_row, halt_row, hash_row, kick_row, pv_flag_row, pv_next_row}
use Rattle.lk_idle.proofs.Names.{pv_row, state_row, entry_row, flag_row, next_row, queue_row}
use Rattle.lk_idle.proofs.Names.{rw_row, spin_row, freed, freed_node, lives_at, Lives}
use Rattle.lk_names.specs.{Lawful.is_local, declared.names.LockName.LockName}
use Rattle.lk_rows.specs.Machine.{lock_at, word_at, rw_at, node_at, queued_at, entry_at, halted_at}
use Rattle.lk_rows.specs.Machine.{kicked_at, set_lock, set_word, set_rw, set_entry, set_queued}
use Rattle.lk_rows.specs.Machine.{set_halted, set_kicked}
use Rattle.lk_rows.specs.TopRow.{Target, SpinWord, QueueWord, Queued, FlagOf, NextOf, ChoiceWord}
use Rattle.lk_rows.specs.TopRow.{ChoiceFlag, ChoiceNext, SecondTailOf, RunsOf, PvWord, PvFlag}
use Rattle.lk_rows.specs.TopRow.{PvNext, StateOf, HashEntry, Halted, KickOf, RwWord, stored_word}
use Rattle.lk_rows.specs.TopRow.{stored_rw, stored_flag, stored_next, stored_second, stored_runs}
use Rattle.lk_rows.specs.TopRow.{stored_state, stored_entry, stored_halted, stored_kicked}
use Rattle.lk_rows.specs.TopRow.{stored_queued, row_on, row_at, row}
use Rattle.lk_idle.proofs.{Branches.Fine, FineRows.{FineAt, fine_at}}
use Rattle.lk_idle.proofs.FreeLeading.{AreFreedAlike, EntersOwn, applied-freed}
use Rattle.lk_idle.proofs.FreeWrites.{IsOwned, node-owned, state-freed, waiter-freed, field-freed}
use Rattle.lk_idle.proofs.FreeWrites.{freed_twice, queued-freed, halted-freed, kicked-freed}
use Rattle.lk_idle.proofs.FreeWrites.{top-freed, set_queued-freed, set_halted-freed}
use Rattle.lk_idle.proofs.{FreeWrites.set_kicked-freed, Leading.LeadsFine}
use Rattle.lk_idle.proofs.Stores.{word-stores, rw-stores, entry-stores, flag-stores, next-stores}
use Rattle.lk_idle.proofs.Stores.{second-stores, runs-stores, state-stores, halted-stores}
use Rattle.lk_idle.proofs.Stores.{kicked-stores, queued-stores}

-- what is stored

again : (m k : Machine) → k ≡ freed m → freed k ≡ freed m
again m k same = ap (λ (n : Machine). freed n) same ∙ freed_twice m

word-freed : (m : Machine) (f : Frame) (o : Option Fields) → freed (stored_word (freed m) f o) ≡ freed (stored_word m f o)
unfolding set_word set_lock lock_at
word-freed m f None = freed_twice m
word-freed m f (Some x) = again (set_word m f.lock x) (set_word (freed m) f.lock x) refl

rw-freed : (m : Machine) (i : ℕ) (o : Option RwFields) → freed (stored_rw (freed m) i o) ≡ freed (stored_rw m i o)
unfolding set_rw set_lock lock_at
rw-freed m i None = freed_twice m
rw-freed m i (Some x) = again (set_rw m i x) (set_rw (freed m) i x) refl

entry-freed : (m : Machine) (l : LockName) (o : Option (Option NodeName))
    → freed (stored_entry (freed m) l o) ≡ freed (stored_entry m l o)
unfolding set_entry
entry-freed m l None = freed_twice m
entry-freed m l (Some None) = again (set_entry m l None) (set_entry (freed m) l None) refl
entry-freed m l (Some (Some n)) = again (set_entry m l (Some n)) (set_entry (freed m) l (Some n)) refl

keep_flag : (x : Flag) (b : Bool) (y : Node)
    → freed_node b (record (freed_node b y) { flag = x }) ≡ freed_node b (record y { flag = x })
keep_flag x true y = refl
keep_flag x false y = refl

keep_next : (x : Option NodeName) (b : Bool) (y : Node)
    → freed_node b (record (freed_node b y) { next = x }) ≡ freed_node b (record y { next = x })
keep_next x true y = refl
keep_next x false y = refl

keep_second : (x : Option NodeName) (b : Bool) (y : Node)
    → freed_node b (record (freed_node b y) { second_tail = x }) ≡ freed_node b (record y { second_tail = x })
keep_second x true y = refl
keep_second x false y = refl

keep_runs : (x : ℕ) (b : Bool) (y : Node)
    → freed_node b (record (freed_node b y) { runs = x }) ≡ freed_node b (record y { runs = x })
keep_runs x true y = refl
keep_runs x false y = refl

keep_state : (x : State) (b : Bool) (y : Node)
    → freed_node b (record (freed_node b y) { state = x }) ≡ freed_node b (record y { state = x })
keep_state x true y = refl
keep_state x false y = refl

flag-freed : (m : Machine) (n : NodeName) (o : Option Flag) → freed (stored_flag (freed m) n o) ≡ freed (stored_flag m n o)
flag-freed m n None = freed_twice m
flag-freed m n (Some x) = field-freed (λ y. record y { flag = x }) (keep_flag x) m n

next-freed : (m : Machine) (n : NodeName) (o : Option (Option NodeName))
    → freed (stored_next (freed m) n o) ≡ freed (stored_next m n o)
next-freed m n None = freed_twice m
next-freed m n (Some x) = field-freed (λ y. record y { next = x }) (keep_next x) m n

second-freed : (m : Machine) (n : NodeName) (o : Option (Option NodeName))
    → freed (stored_second (freed m) n o) ≡ freed (stored_second m n o)
second-freed m n None = freed_twice m
second-freed m n (Some x) = field-freed (λ y. record y { second_tail = x }) (keep_second x) m n

runs-freed : (m : Machine) (n : NodeName) (o : Option ℕ) → freed (stored_runs (freed m) n o) ≡ freed (stored_runs m n o)
runs-freed m n None = freed_twice m
runs-freed m n (Some x) = field-freed (λ y. record y { runs = x }) (keep_runs x) m n

states-freed : (m : Machine) (n : NodeName) (o : Option State) → freed (stored_state (freed m) n o) ≡ freed (stored_state m n o)
states-freed m n None = freed_twice m
states-freed m n (Some x) = field-freed (λ y. record y { state = x }) (keep_state x) m n

halt-freed : (m : Machine) (p : ℕ) (o : Option Bool) → freed (stored_halted (freed m) p o) ≡ freed (stored_halted m p o)
halt-freed m p None = freed_twice m
halt-freed m p (Some b) = again (set_halted m p b) (set_halted (freed m) p b) (set_halted-freed m p b)

kick-freed : (m : Machine) (p : ℕ) (o : Option Bool) → freed (stored_kicked (freed m) p o) ≡ freed (stored_kicked m p o)
kick-freed m p None = freed_twice m
kick-freed m p (Some b) = again (set_kicked m p b) (set_kicked (freed m) p b) (set_kicked-freed m p b)

count-freed : (m : Machine) (p : ℕ) (o : Option ℕ) → freed (stored_queued (freed m) p o) ≡ freed (stored_queued m p o)
count-freed m p None = freed_twice m
count-freed m p (Some i) = again (set_queued m p i) (set_queued (freed m) p i) (set_queued-freed m p i)

-- what a fine row enters with is its processor's
enters_own : (p : ℕ) (l : Lives) (f : Frame) (lead : Lead) → LeadsFine p l f lead → EntersOwn p lead
enters_own p l f (Goes c cs) fine = tt
enters_own p l f (Enters None c) fine = tt
enters_own p l f (Enters (Some n) c) fine = fine.1
enters_own p l f Granted fine = tt
enters_own p l f Freed fine = tt
enters_own p l f Missed fine = tt
enters_own p l f Done fine = tt
enters_own p l f (TakesWait c) fine = tt
enters_own p l f Leaves fine = tt
enters_own p l f (Yields c cs) fine = tt

module _ (m : Machine) (p : ℕ) (f : Frame) where
  sight-same : IsOwned m (node_of f.me) → sight_at (freed m) p f ≡ sight_at m p f
  sight-same own = (λ i. record {
    runs = (node-owned m (node_of f.me) own i).runs;
    threshold = m.setup.threshold;
    local = λ n. is_local m.setup.format m.setup.topology.sockets.items p (waiter-freed m n i);
  })

  -- what the row reads of nodes is the same
  abbrev ReadsSame : Pc → Target → Type 0
  ReadsSame c (FlagOf n) = flag_row c f (node_at (freed m) n).flag ≡ flag_row c f (node_at m n).flag
  ReadsSame c (NextOf n) = next_row m.setup.mode m.setup.spins c f (node_at (freed m) n).next
      ≡ next_row m.setup.mode m.setup.spins c f (node_at m n).next
  ReadsSame c (ChoiceFlag n) = handover_row c f (node_at (freed m) n).flag ≡ handover_row c f (node_at m n).flag
  ReadsSame c (ChoiceNext n) = search_row (sight_at (freed m) p f) c f (node_at (freed m) n).next
      ≡ search_row (sight_at m p f) c f (node_at m n).next
  ReadsSame c (SecondTailOf n) = second_row c f (node_at (freed m) n).second_tail
      ≡ second_row c f (node_at m n).second_tail
  ReadsSame c (RunsOf n) = runs_row (sight_at (freed m) p f) c f (node_at (freed m) n).runs
      ≡ runs_row (sight_at m p f) c f (node_at m n).runs
  ReadsSame c (PvFlag n) = pv_flag_row c f (node_at (freed m) n).flag ≡ pv_flag_row c f (node_at m n).flag
  ReadsSame c (PvNext n) = pv_next_row c f (node_at (freed m) n).next ≡ pv_next_row c f (node_at m n).next
  ReadsSame c t = Unit {0}

module _ (m : Machine) (p : ℕ) (f : Frame) (top : top_frame m p ≡ f) where
  stored : {A : Type 0} (k n : Machine) (l : Lives) (u o : Effect A) → u ≡ o → freed k ≡ freed n
      → top_frame n p ≡ top_frame m p → Fine p l f o
      → AreFreedAlike (applied (freed m) k p f u) (applied m n p f o)
  stored k n l u o same alike kept fine =
      subst (λ w. AreFreedAlike (applied (freed m) k p f w) (applied m n p f o)) (sym same)
      (applied-freed p m k n f o alike (kept ∙ top) (enters_own p l f o.leads fine.leads))

  row_on-freed : (l : Lives) (c : Pc) (t : Target) → ReadsSame m p f c t → FineAt m p f l c t
      → AreFreedAlike (row_on (freed m) p f c t) (row_on m p f c t)
  unfolding word_at lock_at rw_at entry_at
  row_on-freed l c SpinWord same fine =
      let o = spin_row m.setup.mode c f (word_at m f.lock) in
      stored _ _ l o o refl (word-freed m f o.stores) (word-stores m p f o.stores).top fine
  row_on-freed l c QueueWord same fine =
      let o = queue_row m.setup.mode c f (word_at m f.lock) in
      stored _ _ l o o refl (word-freed m f o.stores) (word-stores m p f o.stores).top fine
  row_on-freed l c Queued same fine =
      let o = entry_row m.setup.mode p (queued_at m p) in
      let u = entry_row m.setup.mode p (queued_at (freed m) p) in
      let e : u ≡ o = ap (λ i. entry_row m.setup.mode p i) (queued-freed m p) in
      stored (stored_queued (freed m) p u.stores) (stored_queued m p o.stores) l u o e
      (ap (λ (w : Effect ℕ). freed (stored_queued (freed m) p w.stores)) e ∙ count-freed m p o.stores)
      (queued-stores m p o.stores).top fine
  row_on-freed l c (FlagOf n) same fine =
      let o = flag_row c f (node_at m n).flag in
      let u = flag_row c f (node_at (freed m) n).flag in
      stored (stored_flag (freed m) n u.stores) (stored_flag m n o.stores) l u o same
      (ap (λ (w : Effect Flag). freed (stored_flag (freed m) n w.stores)) same ∙ flag-freed m n o.stores)
      (flag-stores m p n o.stores).top fine
  row_on-freed l c (NextOf n) same fine =
      let o = next_row m.setup.mode m.setup.spins c f (node_at m n).next in
      let u = next_row m.setup.mode m.setup.spins c f (node_at (freed m) n).next in
      stored (stored_next (freed m) n u.stores) (stored_next m n o.stores) l u o same
      (ap (λ (w : Effect (Option NodeName)). freed (stored_next (freed m) n w.stores)) same ∙ next-freed m n o.stores)
      (next-stores m p n o.stores).top fine
  row_on-freed l c ChoiceWord same fine =
      let o = promotion_row c f (word_at m f.lock) in
      stored _ _ l o o refl (word-freed m f o.stores) (word-stores m p f o.stores).top fine
  row_on-freed l c (ChoiceFlag n) same fine =
      let o = handover_row c f (node_at m n).flag in
      let u = handover_row c f (node_at (freed m) n).flag in
      stored (stored_flag (freed m) n u.stores) (stored_flag m n o.stores) l u o same
      (ap (λ (w : Effect Flag). freed (stored_flag (freed m) n w.stores)) same ∙ flag-freed m n o.stores)
      (flag-stores m p n o.stores).top fine
  row_on-freed l c (ChoiceNext n) same fine =
      let o = search_row (sight_at m p f) c f (node_at m n).next in
      let u = search_row (sight_at (freed m) p f) c f (node_at (freed m) n).next in
      stored (stored_next (freed m) n u.stores) (stored_next m n o.stores) l u o same
      (ap (λ (w : Effect (Option NodeName)). freed (stored_next (freed m) n w.stores)) same ∙ next-freed m n o.stores)
      (next-stores m p n o.stores).top fine
  row_on-freed l c (SecondTailOf n) same fine =
      let o = second_row c f (node_at m n).second_tail in
      let u = second_row c f (node_at (freed m) n).second_tail in
      stored (stored_second (freed m) n u.stores) (stored_second m n o.stores) l u o same
      (ap (λ (w : Effect (Option NodeName)). freed (stored_second (freed m) n w.stores)) same ∙ second-freed m n o.stores)
      (second-stores m p n o.stores).top fine
  row_on-freed l c (RunsOf n) same fine =
      let o = runs_row (sight_at m p f) c f (node_at m n).runs in
      let u = runs_row (sight_at (freed m) p f) c f (node_at (freed m) n).runs in
      stored (stored_runs (freed m) n u.stores) (stored_runs m n o.stores) l u o same
      (ap (λ (w : Effect ℕ). freed (stored_runs (freed m) n w.stores)) same ∙ runs-freed m n o.stores)
      (runs-stores m p n o.stores).top fine
  row_on-freed l c PvWord same fine =
      let o = pv_row m.setup.spins c f (word_at m f.lock) in
      stored _ _ l o o refl (word-freed m f o.stores) (word-stores m p f o.stores).top fine
  row_on-freed l c (PvFlag n) same fine =
      let o = pv_flag_row c f (node_at m n).flag in
      let u = pv_flag_row c f (node_at (freed m) n).flag in
      stored (stored_flag (freed m) n u.stores) (stored_flag m n o.stores) l u o same
      (ap (λ (w : Effect Flag). freed (stored_flag (freed m) n w.stores)) same ∙ flag-freed m n o.stores)
      (flag-stores m p n o.stores).top fine
  row_on-freed l c (PvNext n) same fine =
      let o = pv_next_row c f (node_at m n).next in
      let u = pv_next_row c f (node_at (freed m) n).next in
      stored (stored_next (freed m) n u.stores) (stored_next m n o.stores) l u o same
      (ap (λ (w : Effect (Option NodeName)). freed (stored_next (freed m) n w.stores)) same ∙ next-freed m n o.stores)
      (next-stores m p n o.stores).top fine
  row_on-freed l c (StateOf n) same fine =
      let o = state_row m.setup.spins c f (node_at m n).state in
      let u = state_row m.setup.spins c f (node_at (freed m) n).state in
      let e : u ≡ o = ap (λ x. state_row m.setup.spins c f x) (state-freed m n) in
      stored (stored_state (freed m) n u.stores) (stored_state m n o.stores) l u o e
      (ap (λ (w : Effect State). freed (stored_state (freed m) n w.stores)) e ∙ states-freed m n o.stores)
      (state-stores m p n o.stores).top fine
  row_on-freed l c HashEntry same fine =
      let o = hash_row c f (entry_at m f.lock) in
      stored _ _ l o o refl (entry-freed m f.lock o.stores) (entry-stores m p f.lock o.stores).top fine
  row_on-freed l c Halted same fine =
      let o = halt_row c f (halted_at m p) in
      let u = halt_row c f (halted_at (freed m) p) in
      let e : u ≡ o = ap (λ b. halt_row c f b) (halted-freed m p) in
      stored (stored_halted (freed m) p u.stores) (stored_halted m p o.stores) l u o e
      (ap (λ (w : Effect Bool). freed (stored_halted (freed m) p w.stores)) e ∙ halt-freed m p o.stores)
      (halted-stores m p o.stores).top fine
  row_on-freed l c (KickOf q) same fine =
      let o = kick_row c f (kicked_at m q) in
      let u = kick_row c f (kicked_at (freed m) q) in
      let e : u ≡ o = ap (λ b. kick_row c f b) (kicked-freed m q) in
      stored (stored_kicked (freed m) q u.stores) (stored_kicked m q o.stores) l u o e
      (ap (λ (w : Effect Bool). freed (stored_kicked (freed m) q w.stores)) e ∙ kick-freed m q o.stores)
      (kicked-stores m p q o.stores).top fine
  row_on-freed l c RwWord same fine =
      let o = rw_row m.setup.mode c f (rw_at m f.lock.index) in
      stored _ _ l o o refl (rw-freed m f.lock.index o.stores) (rw-stores m p f.lock.index o.stores).top fine

-- the rows that read the own node
abbrev pub reads_own : Pc → Bool
reads_own G6 = true
reads_own G10 = true
reads_own C1 = true
reads_own C2 = true
reads_own C7 = true
reads_own W1 = true
reads_own W4 = true
reads_own E14 = true
reads_own _ = false

-- the nodes that a row reads have owners
pub record ReadsOwned (m : Machine) (f : Frame) (c : Pc) : Type 0 where
  pub own : reads_own c ≡ true → IsOwned m (node_of f.me)
  pub last : c ≡ C2 → IsOwned m (node_of f.b)
  pub first : c ≡ C3 → IsOwned m (node_of f.second)

module _ (m : Machine) (p : ℕ) (f : Frame) where
  reads_same : (c : Pc) → ReadsOwned m f c → ReadsSame m p f c (target c f)
  reads_same G5 has = refl
  reads_same G6 has = ap (λ (x : Node). flag_row G6 f x.flag) (node-owned m (node_of f.me) (has.own refl))
  reads_same G10 has =
      ap (λ (x : Node). next_row m.setup.mode m.setup.spins G10 f x.next) (node-owned m (node_of f.me) (has.own refl))
  reads_same G11 has = refl
  reads_same C1 has =
      ap (λ s. search_row s C1 f (node_at (freed m) (node_of f.me)).next) (sight-same m p f (has.own refl))
      ∙ ap (λ (x : Node). search_row (sight_at m p f) C1 f x.next) (node-owned m (node_of f.me) (has.own refl))
  reads_same C2 has =
      ap (λ s. search_row s C2 f (node_at (freed m) (node_of f.b)).next) (sight-same m p f (has.own refl))
      ∙ ap (λ (x : Node). search_row (sight_at m p f) C2 f x.next) (node-owned m (node_of f.b) (has.last refl))
  reads_same C3 has =
      ap (λ (x : Node). second_row C3 f x.second_tail) (node-owned m (node_of f.second) (has.first refl))
  reads_same C4 has = refl
  reads_same C5 has = refl
  reads_same C6 has = refl
  reads_same C7 has =
      ap (λ s. runs_row s C7 f (node_at (freed m) (node_of f.y)).runs) (sight-same m p f (has.own refl))
  reads_same C8 has = refl
  reads_same C9 has = refl
  reads_same W1 has = ap (λ (x : Node). pv_flag_row W1 f x.flag) (node-owned m (node_of f.me) (has.own refl))
  reads_same W4 has = ap (λ (x : Node). pv_flag_row W4 f x.flag) (node-owned m (node_of f.me) (has.own refl))
  reads_same E14 has = ap (λ (x : Node). pv_next_row E14 f x.next) (node-owned m (node_of f.me) (has.own refl))
  reads_same E15 has = refl
  reads_same c has = tt

row_at-freed : (m : Machine) (p : ℕ) (f : Frame) → top_frame m p ≡ f → (o : Option Pc)
    → ((c : Pc) → o ≡ Some c → ReadsOwned m f c)
    → AreFreedAlike (row_at (freed m) p f o) (row_at m p f o)
row_at-freed m p f top None has = record { state = freed_twice m; event = refl }
row_at-freed m p f top (Some c) has =
    row_on-freed m p f top (lives_at (Some c) f.why) c (target c f) (reads_same m p f c (has c refl))
    (fine_at m p f c)

pub row-freed : (m : Machine) (p : ℕ)
    → ((c : Pc) → (top_frame m p).place ≡ Some c → ReadsOwned m (top_frame m p) c)
    → AreFreedAlike (row (freed m) p) (row m p)
row-freed m p has =
    subst (λ (f : Frame). AreFreedAlike (row_at (freed m) p f f.place) (row m p)) (sym (top-freed m p))
    (row_at-freed m p (top_frame m p) refl (top_frame m p).place has)
