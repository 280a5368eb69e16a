-- A row of a machine: its store, and how it moves the frame.
use Rattle.std.proofs.Common.{◌≡◌, inl, inr, ℕ, ◌<◌, Option, Some, None, true, refl, sym, ap, ◌∙◌}
use Rattle.std.proofs.Common.{subst, arith, List, [], ◌∷◌, length, zero, suc, set, get_or}
use Rattle.lk_progress.proofs.Names.{slice_get_within, NodeName, LockHistory, LockName, Waiter}
use Rattle.lk_progress.proofs.Names.{CpuState, Machine, halted_at, kicked_at, no_cpu, queued_at}
use Rattle.lk_progress.proofs.Names.{rw_at, top_frame, top_of, word_at, node_of, Lead, moved, row}
use Rattle.lk_progress.proofs.Names.{row_at, row_on, target, Flag, Frame, Node, Pc, U5, State}
use Rattle.lk_progress.proofs.Names.{Sight, is_set, rw_row, if-false, if-true, course_in, stored_in}
use Rattle.lk_progress.proofs.Names.{IsThen, ShowsAll, Works, world, led, stores_next, stores_state}
use Rattle.lk_progress.proofs.Names.{World, frame_within, KeepsFrames, same_then}
use Rattle.lk_rows.specs.Machine.{frame_at, set_node, cpu_at, node_at, entry_at, rest_node, set_cpu}
use Rattle.lk_rows.specs.{Programs.kind_of, Row.{counted, event_of}}
use Rattle.lk_rows.specs.TopRow.{sight_at, stored_second, stored_runs, Target, SpinWord, QueueWord}
use Rattle.lk_rows.specs.TopRow.{Queued, FlagOf, NextOf, ChoiceWord, ChoiceFlag, ChoiceNext}
use Rattle.lk_rows.specs.TopRow.{SecondTailOf, RunsOf, PvWord, PvFlag, PvNext, StateOf, HashEntry}
use Rattle.lk_rows.specs.TopRow.{Halted, KickOf, stored_state, stored_entry, stored_halted}
use Rattle.lk_rows.specs.TopRow.{stored_kicked, RwWord, stored_word, stored_flag, stored_next}
use Rattle.lk_rows.specs.TopRow.{stored_queued, stored_rw}
use Rattle.lk_rows.specs.rows.Cna.{promotion_row, handover_row, search_row, second_row, runs_row}
use Rattle.lk_rows.specs.rows.Pv.{pv_row, pv_flag_row, pv_next_row, state_row, hash_row, halt_row}
use Rattle.lk_rows.specs.{rows.Pv.kick_row, rows.Queue.{queue_row, entry_row, flag_row, next_row}}
use Rattle.lk_rows.specs.rows.Spin.{spin_row}
use Rattle.lk_law.proofs.common.Puts.{same_node-self, same_node-else}
use Rattle.lk_law.specs.Snapshot.{same_node}
use Rattle.lk_law.specs.Steps.{put_node, stores_flag, stores_second, stores_runs}
use Rattle.lk_core.proofs.{Moved.{Ready, ready_same}, RwMoved.rw_stored}
use Rattle.lk_core.proofs.Same.{top_same, same_set_node, same_self, same_set_counts}
use Rattle.lk_core.proofs.{Seated.word-set_cpu, Sights.sight_same}
use Rattle.lk_core.proofs.Stores.{Stored, word_stored, queued_stored, entry_stored, halted_stored}
use Rattle.lk_core.proofs.Stores.{kicked_stored}
use Rattle.lk_core.proofs.Worlds.{frame-set_node, kicked-set_node, halted-set_node}
use Rattle.lk_core.proofs.Worlds.{frame-set_counts, world-set_counts}
use Rattle.lk_progress.proofs.Moves.{Moves, moved_is, flags-set_node, rw-set_node}

-- n is m after a store: it has the frames of m, and the words, flags, kicks and halts of this world
pub record Put (m n : Machine) (x : World) : Type 0 where
  pub same : KeepsFrames m n
  pub frames : (u : Waiter) → frame_at n u ≡ frame_at m u
  pub words : (l : LockName) → word_at n l ≡ x.word l
  pub rw : (i : ℕ) → rw_at n i ≡ x.rw i
  pub flags : (k : NodeName) → is_set (node_at n k).flag ≡ true → is_set (x.node k).flag ≡ true
  pub nodes : ((k : NodeName) → x.node k ≡ node_at m k) → (k : NodeName) → node_at n k ≡ node_at m k
  pub links : ((k : NodeName) → (x.node k).next ≡ (node_at m k).next) → (k : NodeName) → (node_at n k).next ≡ (node_at m k).next
  pub kept : ((k : NodeName) → (x.node k).flag ≡ (node_at m k).flag) → (k : NodeName) → (node_at n k).flag ≡ (node_at m k).flag
  pub kicked : (q : ℕ) → kicked_at n q ≡ x.kicked q
  pub halted : (q : ℕ) → halted_at n q ≡ x.halted q

put_by : (m n : Machine) (x : World) → Stored m n x → Put m n x
put_by m n x s = record {
  same = s.same;
  frames = s.frames;
  words = λ l. ap (λ (y : World). y.word l) s.world;
  rw = λ i. ap (λ (y : World). y.rw i) s.world;
  flags = λ k h. ap (λ (y : World). is_set (y.node k).flag) (sym s.world) ∙ h;
  nodes = λ h k. ap (λ (y : World). y.node k) s.world ∙ h k;
  links = λ h k. ap (λ (y : World). (y.node k).next) s.world ∙ h k;
  kept = λ h k. ap (λ (y : World). (y.node k).flag) s.world ∙ h k;
  kicked = λ q. ap (λ (y : World). y.kicked q) s.world;
  halted = λ q. ap (λ (y : World). y.halted q) s.world;
}

put_counted : (m n : Machine) (x : World) (cs : List Rattle.lk_rows.specs.Row.Counter) → Put m n x → Put m (counted n cs) x
put_counted m n x [] s = s
put_counted m n x (c ∷ cs) s =
    let k = Rattle.lk_rows.specs.Row.count_all n.counts (c ∷ cs) in
    let w = world-set_counts n k in
    record {
      same = same_then m n (Rattle.lk_rows.specs.Machine.set_counts n k) s.same (same_set_counts n k);
      frames = λ u. frame-set_counts n k u ∙ s.frames u;
      words = λ l. ap (λ (y : World). y.word l) w ∙ s.words l;
      rw = λ i. ap (λ (y : World). y.rw i) w ∙ s.rw i;
      flags = λ i h. s.flags i (ap (λ (y : World). is_set (y.node i).flag) (sym w) ∙ h);
      nodes = λ h k. ap (λ (y : World). y.node k) w ∙ s.nodes h k;
      links = λ h k. ap (λ (y : World). (y.node k).next) w ∙ s.links h k;
      kept = λ h k. ap (λ (y : World). (y.node k).flag) w ∙ s.kept h k;
      kicked = λ q. ap (λ (y : World). y.kicked q) w ∙ s.kicked q;
      halted = λ q. ap (λ (y : World). y.halted q) w ∙ s.halted q;
    }

put_self : (m : Machine) → Put m m (world m)
put_self m = record { same = same_self m; frames = λ u. refl; words = λ l. refl; rw = λ i. refl; flags = λ k h. h; nodes = λ h k. refl; links = λ h k. refl; kept = λ h k. refl; kicked = λ q. refl; halted = λ q. refl }

word-set_node : (m : Machine) (n : NodeName) (x : Node) (l : LockName) → word_at (set_node m n x) l ≡ word_at m l
unfolding set_node
word-set_node m n x l =
    word-set_cpu m n.cpu (record (cpu_at m n.cpu) { nodes = Rattle.std.specs.Prelude.slice_set (cpu_at m n.cpu).nodes n.index x }) l

set_get_self : {A : Type 0} (xs : List A) (i : ℕ) (d : A) → set xs i (get_or xs i d) ≡ xs
set_get_self [] i d = refl
set_get_self (y ∷ ys) zero d = refl
set_get_self (y ∷ ys) (suc i) d = ap (λ zs. y ∷ zs) (set_get_self ys i d)

-- a node that becomes what it is
set_node_self : (m : Machine) (n : NodeName) → set_node m n (node_at m n) ≡ m
unfolding set_node set_cpu cpu_at node_at
set_node_self m n =
    ap (λ (xs : List Node). record m { cpus = set m.cpus n.cpu (record (cpu_at m n.cpu) { nodes = xs }) })
    (set_get_self (cpu_at m n.cpu).nodes n.index rest_node)
    ∙ ap (λ (xs : List CpuState). record m { cpus = xs }) (set_get_self m.cpus n.cpu no_cpu)

-- a list in which one element becomes another that is like it
pub set_like : {A B : Type 0} (F : A → B) (xs : List A) (d : A) (i j : ℕ) (y : A) → F y ≡ F (get_or xs i d)
    → F (get_or (set xs i y) j d) ≡ F (get_or xs j d)
set_like F [] d i j y e = refl
set_like F (x ∷ xs) d zero zero y e = e
set_like F (x ∷ xs) d zero (suc j) y e = refl
set_like F (x ∷ xs) d (suc i) zero y e = refl
set_like F (x ∷ xs) d (suc i) (suc j) y e = set_like F xs d i j y e

-- a node that becomes one which is like it
node_like : {A : Type 0} (F : Node → A) (m : Machine) (n k : NodeName) (y : Node) → F y ≡ F (node_at m n)
    → F (node_at (set_node m n y) k) ≡ F (node_at m k)
unfolding set_node set_cpu cpu_at node_at
node_like F m n k y e =
    set_like (λ (c : CpuState). F (get_or c.nodes k.index rest_node)) m.cpus no_cpu n.cpu k.cpu
    (record (cpu_at m n.cpu) { nodes = set (cpu_at m n.cpu).nodes n.index y })
    (set_like F (cpu_at m n.cpu).nodes rest_node n.index k.index y e)

put_at : (m : Machine) (n : NodeName) (x : Node) → Put m (set_node m n x) (put_node (world m) n x)
put_at m n x = record {
  same = same_set_node m n x;
  frames = frame-set_node m n x;
  words = word-set_node m n x;
  rw = rw-set_node m n x;
  flags = λ k h. elim (flags-set_node m n k x h) [
    | inl z ↦
        ap (λ (y : Node). is_set y.flag) (if-true (same_node k n) x (node_at m k) (subst (λ (i : NodeName). same_node k i ≡ true) z.0 (same_node-self k)))
        ∙ z.1
    | inr z ↦ ap (λ (y : Node). is_set y.flag) (if-false (same_node k n) x (node_at m k) (same_node-else k n z.0)) ∙ z.1
  ];
  nodes = λ h k. ap (λ (y : Node). node_at (set_node m n y) k)
      (sym (if-true (same_node n n) x (node_at m n) (same_node-self n)) ∙ h n)
      ∙ ap (λ (y : Machine). node_at y k) (set_node_self m n);
  links = λ h k. node_like (λ (y : Node). y.next) m n k x
      (ap (λ (y : Node). y.next) (sym (if-true (same_node n n) x (node_at m n) (same_node-self n))) ∙ h n);
  kept = λ h k. node_like (λ (y : Node). y.flag) m n k x
      (ap (λ (y : Node). y.flag) (sym (if-true (same_node n n) x (node_at m n) (same_node-self n))) ∙ h n);
  kicked = kicked-set_node m n x;
  halted = halted-set_node m n x;
}

put_flag : (m : Machine) (n : NodeName) (o : Option Flag) → Put m (stored_flag m n o) (stores_flag (world m) n o)
put_flag m n None = put_self m
put_flag m n (Some x) = put_at m n (record (node_at m n) { flag = x })

put_next : (m : Machine) (n : NodeName) (o : Option (Option NodeName)) → Put m (stored_next m n o) (stores_next (world m) n o)
put_next m n None = put_self m
put_next m n (Some x) = put_at m n (record (node_at m n) { next = x })

put_second : (m : Machine) (n : NodeName) (o : Option (Option NodeName)) → Put m (stored_second m n o) (stores_second (world m) n o)
put_second m n None = put_self m
put_second m n (Some x) = put_at m n (record (node_at m n) { second_tail = x })

put_runs : (m : Machine) (n : NodeName) (o : Option ℕ) → Put m (stored_runs m n o) (stores_runs (world m) n o)
put_runs m n None = put_self m
put_runs m n (Some x) = put_at m n (record (node_at m n) { runs = x })

put_state : (m : Machine) (n : NodeName) (o : Option State) → Put m (stored_state m n o) (stores_state (world m) n o)
put_state m n None = put_self m
put_state m n (Some x) = put_at m n (record (node_at m n) { state = x })

-- the machine after the row's store, and the lead
pub record RowMade (m : Machine) (p : ℕ) (f : Frame) (c : Pc) (k : Machine) : Type 0 where
  pub stored : Machine
  pub lead : Lead
  pub is : k ≡ moved stored p f lead
  pub put : Put m stored (stored_in (world m) (top_of m p) f c (target c f))
  pub leads : lead ≡ (course_in (world m) (top_of m p) f c (target c f)).leads

-- only U5 is a row on a kick
kick_is : (c : Pc) (f : Frame) (q : ℕ) → target c f ≡ KickOf q → c ≡ U5
kick_is U5 f q e = refl
kick_is _ f q e = cc e

module _ (m : Machine) (p : ℕ) (hs : LockName → LockHistory) (shows : ShowsAll m hs) (range : p < length m.cpus)
    (f : Frame) (c : Pc) (live : frame_at m (top_of m p) ≡ Some f) (place : f.place ≡ Some c) where
  abbrev w : Waiter
  w = top_of m p

  works : Works m.setup.mode (Rattle.lk_rows.specs.Moves.program_of m p f) f c
  works = (shows.fits w f live).working c place

  lock_within : f.lock.index < length m.locks
  lock_within =
      let d = (shows.whole.setup.lawful p f.program).declared f.«at» works.op works.is in
      let r = slice_get_within m.setup.locks.items works.op.lock (kind_of works.op.verb) d in
      let i = works.lock in
      let n = shows.whole.locks in
      omega arith

  -- the processor that is kicked is there
  kick_within : (q : ℕ) → target U5 f ≡ KickOf q → q < length m.cpus
  kick_within q e = let is : (node_of f.target).cpu ≡ q = cc e in subst (λ (i : ℕ). i < length m.cpus) is (by f.target refl)
    where
      by : (o : Option NodeName) → f.target ≡ o → (node_of o).cpu < length m.cpus
      by None g = let there = frame_within m w f live in omega (arith, there)
      by (Some n) g = ((shows.fits w f live).target n g).cpu

  by_target : (t : Target) → target c f ≡ t
      → (stored : Machine) × (lead : Lead) × ((row_on m p f c t).0 ≡ moved stored p f lead)
      × Put m stored (stored_in (world m) w f c t)
      × (lead ≡ (course_in (world m) w f c t).leads)
  by_target SpinWord e =
      let o = spin_row m.setup.mode c f (word_at m f.lock) in (
        counted (stored_word m f o.stores) o.counts,
        o.leads,
        refl,
        put_counted m (stored_word m f o.stores) (stored_in (world m) w f c SpinWord) o.counts (put_by m (stored_word m f o.stores) (stored_in (world m) w f c SpinWord) (word_stored m f o.stores lock_within)),
        refl,
      )
  by_target QueueWord e =
      let o = queue_row m.setup.mode c f (word_at m f.lock) in (
        counted (stored_word m f o.stores) o.counts,
        o.leads,
        refl,
        put_counted m (stored_word m f o.stores) (stored_in (world m) w f c QueueWord) o.counts (put_by m (stored_word m f o.stores) (stored_in (world m) w f c QueueWord) (word_stored m f o.stores lock_within)),
        refl,
      )
  by_target ChoiceWord e =
      let o = promotion_row c f (word_at m f.lock) in (
        counted (stored_word m f o.stores) o.counts,
        o.leads,
        refl,
        put_counted m (stored_word m f o.stores) (stored_in (world m) w f c ChoiceWord) o.counts (put_by m (stored_word m f o.stores) (stored_in (world m) w f c ChoiceWord) (word_stored m f o.stores lock_within)),
        refl,
      )
  by_target PvWord e =
      let o = pv_row m.setup.spins c f (word_at m f.lock) in (
        counted (stored_word m f o.stores) o.counts,
        o.leads,
        refl,
        put_counted m (stored_word m f o.stores) (stored_in (world m) w f c PvWord) o.counts (put_by m (stored_word m f o.stores) (stored_in (world m) w f c PvWord) (word_stored m f o.stores lock_within)),
        refl,
      )
  by_target Queued e =
      let o = entry_row m.setup.mode p (queued_at m p) in (
        counted (stored_queued m p o.stores) o.counts,
        o.leads,
        refl,
        put_counted m (stored_queued m p o.stores) (stored_in (world m) w f c Queued) o.counts (put_by m (stored_queued m p o.stores) (stored_in (world m) w f c Queued) (queued_stored m p o.stores range)),
        refl,
      )
  by_target RwWord e =
      let o = rw_row m.setup.mode c f (rw_at m f.lock.index) in (
        counted (stored_rw m f.lock.index o.stores) o.counts,
        o.leads,
        refl,
        put_counted m (stored_rw m f.lock.index o.stores) (stored_in (world m) w f c RwWord) o.counts (put_by m (stored_rw m f.lock.index o.stores) (stored_in (world m) w f c RwWord) (rw_stored m f.lock.index o.stores lock_within)),
        refl,
      )
  by_target (FlagOf k) e =
      let o = flag_row c f (node_at m k).flag in (
        counted (stored_flag m k o.stores) o.counts,
        o.leads,
        refl,
        put_counted m (stored_flag m k o.stores) (stored_in (world m) w f c (FlagOf k)) o.counts (put_flag m k o.stores),
        refl,
      )
  by_target (ChoiceFlag k) e =
      let o = handover_row c f (node_at m k).flag in (
        counted (stored_flag m k o.stores) o.counts,
        o.leads,
        refl,
        put_counted m (stored_flag m k o.stores) (stored_in (world m) w f c (ChoiceFlag k)) o.counts (put_flag m k o.stores),
        refl,
      )
  by_target (PvFlag k) e =
      let o = pv_flag_row c f (node_at m k).flag in (
        counted (stored_flag m k o.stores) o.counts,
        o.leads,
        refl,
        put_counted m (stored_flag m k o.stores) (stored_in (world m) w f c (PvFlag k)) o.counts (put_flag m k o.stores),
        refl,
      )
  by_target (NextOf k) e =
      let o = next_row m.setup.mode m.setup.spins c f (node_at m k).next in (
        counted (stored_next m k o.stores) o.counts,
        o.leads,
        refl,
        put_counted m (stored_next m k o.stores) (stored_in (world m) w f c (NextOf k)) o.counts (put_next m k o.stores),
        refl,
      )
  by_target (PvNext k) e =
      let o = pv_next_row c f (node_at m k).next in (
        counted (stored_next m k o.stores) o.counts,
        o.leads,
        refl,
        put_counted m (stored_next m k o.stores) (stored_in (world m) w f c (PvNext k)) o.counts (put_next m k o.stores),
        refl,
      )
  by_target (SecondTailOf k) e =
      let o = second_row c f (node_at m k).second_tail in (
        counted (stored_second m k o.stores) o.counts,
        o.leads,
        refl,
        put_counted m (stored_second m k o.stores) (stored_in (world m) w f c (SecondTailOf k)) o.counts (put_second m k o.stores),
        refl,
      )
  by_target (StateOf k) e =
      let o = state_row m.setup.spins c f (node_at m k).state in (
        counted (stored_state m k o.stores) o.counts,
        o.leads,
        refl,
        put_counted m (stored_state m k o.stores) (stored_in (world m) w f c (StateOf k)) o.counts (put_state m k o.stores),
        refl,
      )
  by_target HashEntry e =
      let o = hash_row c f (entry_at m f.lock) in (
        counted (stored_entry m f.lock o.stores) o.counts,
        o.leads,
        refl,
        put_counted m (stored_entry m f.lock o.stores) (stored_in (world m) w f c HashEntry) o.counts (put_by m (stored_entry m f.lock o.stores) (stored_in (world m) w f c HashEntry) (entry_stored m f.lock o.stores)),
        refl,
      )
  by_target Halted e =
      let o = halt_row c f (halted_at m p) in (
        counted (stored_halted m p o.stores) o.counts,
        o.leads,
        refl,
        put_counted m (stored_halted m p o.stores) (stored_in (world m) w f c Halted) o.counts (put_by m (stored_halted m p o.stores) (stored_in (world m) w f c Halted) (halted_stored m p o.stores range)),
        refl,
      )
  by_target (KickOf q) e =
      let o = kick_row c f (kicked_at m q) in
      let there : q < length m.cpus =
      kick_within q (sym (ap (λ (d : Pc). target d f) (kick_is c f q e)) ∙ e) in (
        counted (stored_kicked m q o.stores) o.counts,
        o.leads,
        refl,
        put_counted m (stored_kicked m q o.stores) (stored_in (world m) w f c (KickOf q)) o.counts
            (put_by m (stored_kicked m q o.stores) (stored_in (world m) w f c (KickOf q)) (kicked_stored m q o.stores there)),
        refl,
      )
  by_target (ChoiceNext k) e =
      let o = search_row (sight_at m p f) c f (node_at m k).next in
      let same = sight_same m hs shows w f in (
        counted (stored_next m k o.stores) o.counts,
        o.leads,
        refl,
        put_counted m (stored_next m k o.stores) (stored_in (world m) w f c (ChoiceNext k)) o.counts
            (subst (λ (s : Sight). Put m (stored_next m k o.stores) (stores_next (world m) k (search_row s c f (node_at m k).next).stores))
            (sym same) (put_next m k o.stores)),
        ap (λ (s : Sight). (search_row s c f (node_at m k).next).leads) (sym same),
      )
  by_target (RunsOf k) e =
      let o = runs_row (sight_at m p f) c f (node_at m k).runs in
      let same = sight_same m hs shows w f in (
        counted (stored_runs m k o.stores) o.counts,
        o.leads,
        refl,
        put_counted m (stored_runs m k o.stores) (stored_in (world m) w f c (RunsOf k)) o.counts
            (subst (λ (s : Sight). Put m (stored_runs m k o.stores) (stores_runs (world m) k (runs_row s c f (node_at m k).runs).stores))
            (sym same) (put_runs m k o.stores)),
        ap (λ (s : Sight). (runs_row s c f (node_at m k).runs).leads) (sym same),
      )

  -- what the row tells is what its course does
  tells_by : (t : Target) → (row_on m p f c t).1 ≡ event_of m p f (course_in (world m) w f c t).tells
  tells_by SpinWord = refl
  tells_by QueueWord = refl
  tells_by Queued = refl
  tells_by (FlagOf k) = refl
  tells_by (NextOf k) = refl
  tells_by ChoiceWord = refl
  tells_by (ChoiceFlag k) = refl
  tells_by (ChoiceNext k) =
      ap (λ (s : Sight). event_of m p f (search_row s c f (node_at m k).next).tells) (sym (sight_same m hs shows w f))
  tells_by (SecondTailOf k) = refl
  tells_by (RunsOf k) =
      ap (λ (s : Sight). event_of m p f (runs_row s c f (node_at m k).runs).tells) (sym (sight_same m hs shows w f))
  tells_by t = refl

  top_is : top_frame m p ≡ f
  top_is = Rattle.lk_core.proofs.Access.top_frame-is m p f live

  pub row_tells : (row m p).1 ≡ event_of m p f (course_in (world m) w f c (target c f)).tells
  row_tells =
      ap (λ (g : Frame). (row_at m p g g.place).1) top_is ∙ ap (λ (o : Option Pc). (row_at m p f o).1) place
      ∙ tells_by (target c f)

  pub row_made : RowMade m p f c (row m p).0
  row_made =
      let t = by_target (target c f) refl in
      let e : row m p ≡ row_on m p f c (target c f) =
      ap (λ (g : Frame). row_at m p g g.place) top_is ∙ ap (row_at m p f) place in
      record { stored = t.0; lead = t.1; is = ap (λ (x : Rattle.lk_rows.specs.Row.Answer). x.0) e ∙ t.2; put = t.3; leads = t.4 }

  -- and so it moves the frame
  pub row_moves : (f.lock.wait ≡ true → IsThen f.then)
      → (n : Machine) × Put m n (stored_in (world m) w f c (target c f))
      × Moves n (top_of m p) f (led f (course_in (world m) w f c (target c f)).leads) (row m p).0
  row_moves inner =
      let r = row_made in
      let ready : Ready m p f c =
      record { whole = shows.whole; range = range; fits = shows.fits; live = live; works = works } in
      let on = ready_same m r.stored p f c ready r.put.same r.put.frames in
      let z = moved_is r.stored p f c on inner r.lead in
      let y : Moves r.stored (top_of m p) f (led f r.lead) (moved r.stored p f r.lead) =
      subst (λ (u : Waiter). Moves r.stored u f (led f r.lead) (moved r.stored p f r.lead)) (top_same m r.stored p r.put.same) z in
      let x : Moves r.stored (top_of m p) f (led f (course_in (world m) w f c (target c f)).leads) (row m p).0 =
      subst (λ (k : Machine). Moves r.stored (top_of m p) f (led f (course_in (world m) w f c (target c f)).leads) k) (sym r.is)
      (subst (λ (l : Lead). Moves r.stored (top_of m p) f (led f l) (moved r.stored p f r.lead)) r.leads y) in
      (r.stored, r.put, x)
