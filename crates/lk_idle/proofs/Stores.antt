-- What a row stores, on a machine whose dead registers are at rest.
use Rattle.std.proofs.Common.{◌≡◌, ℕ, Option, Some, None, Bool, refl, sym, subst, ap, ◌∙◌, get_or}
use Rattle.std.proofs.Common.{set}
use Rattle.lk_idle.proofs.Names.{RwFields, Fields, NodeName, CpuState, Machine, rest_node}
use Rattle.lk_idle.proofs.Names.{top_frame, node_of, Effect, applied, sight_at, Flag, Frame, State}
use Rattle.lk_idle.proofs.Names.{cut, rested, rested_cpu, Lives}
use Rattle.lk_names.specs.{Lawful.is_local, declared.names.LockName.LockName}
use Rattle.lk_rows.specs.Machine.{cpu_at, lock_at, node_at, queued_at, halted_at, kicked_at}
use Rattle.lk_rows.specs.Machine.{frame_at, depth_at, set_cpu, set_lock, set_word, set_rw, set_node}
use Rattle.lk_rows.specs.Machine.{set_queued, set_entry, set_halted, set_kicked}
use Rattle.lk_rows.specs.TopRow.{stored_word, stored_rw, stored_flag, stored_next, stored_second}
use Rattle.lk_rows.specs.TopRow.{stored_runs, stored_state, stored_entry, stored_halted}
use Rattle.lk_rows.specs.TopRow.{stored_kicked, stored_queued, on_word, on_rw, on_flag, on_next}
use Rattle.lk_rows.specs.TopRow.{on_second, on_runs, on_state, on_entry, on_halted, on_kicked}
use Rattle.lk_rows.specs.{TopRow.on_queued, rows.Cna.Sight}
use Rattle.lk_idle.proofs.{Branches.Fine, Leading.{Alike, KnowsWay, applied-alike}}
use Rattle.lk_idle.proofs.Writes.{write-rested, top-write, node-rested, waiter-rested}
use Rattle.lk_idle.proofs.Writes.{queued-rested, halted-rested, kicked-rested}

-- The store made n of m, and k of the same at rest: k is n at rest, and the newest frame is as before.
pub record Stores (m n k : Machine) (p : ℕ) : Type 0 where
  pub same : k ≡ rested n
  pub top : top_frame n p ≡ top_frame m p

-- a store to what a processor has beside its frames
beside : (h : CpuState → CpuState) → ((c : CpuState) → h (rested_cpu c) ≡ rested_cpu (h c))
    → ((c : CpuState) → (h c).frames ≡ c.frames) → (m : Machine) (q p : ℕ)
    → Stores m (set_cpu m q (h (cpu_at m q))) (set_cpu (rested m) q (h (cpu_at (rested m) q))) p
beside h same frames m q p = record {
  same = write-rested h same m q;
  top = top-write h frames m q p;
}

nothing : (m : Machine) (p : ℕ) → Stores m m (rested m) p
nothing m p = record { same = refl; top = refl }

pub word-stores : (m : Machine) (p : ℕ) (f : Frame) (o : Option Fields)
    → Stores m (stored_word m f o) (stored_word (rested m) f o) p
unfolding set_word set_lock lock_at frame_at depth_at cpu_at
word-stores m p f None = nothing m p
word-stores m p f (Some x) = record { same = refl; top = refl }

pub rw-stores : (m : Machine) (p i : ℕ) (o : Option RwFields)
    → Stores m (stored_rw m i o) (stored_rw (rested m) i o) p
unfolding set_rw set_lock lock_at frame_at depth_at cpu_at
rw-stores m p i None = nothing m p
rw-stores m p i (Some x) = record { same = refl; top = refl }

pub entry-stores : (m : Machine) (p : ℕ) (l : LockName) (o : Option (Option NodeName))
    → Stores m (stored_entry m l o) (stored_entry (rested m) l o) p
unfolding set_entry frame_at depth_at cpu_at
entry-stores m p l None = nothing m p
entry-stores m p l (Some None) = record { same = refl; top = refl }
entry-stores m p l (Some (Some n)) = record { same = refl; top = refl }

pub flag-stores : (m : Machine) (p : ℕ) (n : NodeName) (o : Option Flag)
    → Stores m (stored_flag m n o) (stored_flag (rested m) n o) p
unfolding set_node node_at
flag-stores m p n None = nothing m p
flag-stores m p n (Some x) =
    beside (λ c. record c { nodes = set c.nodes n.index (record (get_or c.nodes n.index rest_node) { flag = x }) })
    (λ c. refl) (λ c. refl) m n.cpu p

pub next-stores : (m : Machine) (p : ℕ) (n : NodeName) (o : Option (Option NodeName))
    → Stores m (stored_next m n o) (stored_next (rested m) n o) p
unfolding set_node node_at
next-stores m p n None = nothing m p
next-stores m p n (Some x) =
    beside (λ c. record c { nodes = set c.nodes n.index (record (get_or c.nodes n.index rest_node) { next = x }) })
    (λ c. refl) (λ c. refl) m n.cpu p

pub second-stores : (m : Machine) (p : ℕ) (n : NodeName) (o : Option (Option NodeName))
    → Stores m (stored_second m n o) (stored_second (rested m) n o) p
unfolding set_node node_at
second-stores m p n None = nothing m p
second-stores m p n (Some x) =
    beside (λ c. record c { nodes = set c.nodes n.index (record (get_or c.nodes n.index rest_node) { second_tail = x }) })
    (λ c. refl) (λ c. refl) m n.cpu p

pub runs-stores : (m : Machine) (p : ℕ) (n : NodeName) (o : Option ℕ)
    → Stores m (stored_runs m n o) (stored_runs (rested m) n o) p
unfolding set_node node_at
runs-stores m p n None = nothing m p
runs-stores m p n (Some x) =
    beside (λ c. record c { nodes = set c.nodes n.index (record (get_or c.nodes n.index rest_node) { runs = x }) })
    (λ c. refl) (λ c. refl) m n.cpu p

pub state-stores : (m : Machine) (p : ℕ) (n : NodeName) (o : Option State)
    → Stores m (stored_state m n o) (stored_state (rested m) n o) p
unfolding set_node node_at
state-stores m p n None = nothing m p
state-stores m p n (Some x) =
    beside (λ c. record c { nodes = set c.nodes n.index (record (get_or c.nodes n.index rest_node) { state = x }) })
    (λ c. refl) (λ c. refl) m n.cpu p

pub halted-stores : (m : Machine) (p : ℕ) (o : Option Bool)
    → Stores m (stored_halted m p o) (stored_halted (rested m) p o) p
unfolding set_halted
halted-stores m p None = nothing m p
halted-stores m p (Some b) = beside (λ c. record c { halted = b }) (λ c. refl) (λ c. refl) m p p

pub kicked-stores : (m : Machine) (p q : ℕ) (o : Option Bool)
    → Stores m (stored_kicked m q o) (stored_kicked (rested m) q o) p
unfolding set_kicked
kicked-stores m p q None = nothing m p
kicked-stores m p q (Some b) = beside (λ c. record c { kicked = b }) (λ c. refl) (λ c. refl) m q p

pub queued-stores : (m : Machine) (p : ℕ) (o : Option ℕ)
    → Stores m (stored_queued m p o) (stored_queued (rested m) p o) p
unfolding set_queued
queued-stores m p None = nothing m p
queued-stores m p (Some i) = beside (λ c. record c { queued = i }) (λ c. refl) (λ c. refl) m p p

-- each kind of row does alike, where what it does reads nothing that does not live
module _ (m : Machine) (p : ℕ) (f : Frame) (top : top_frame m p ≡ f) (knows : KnowsWay f) (l : Lives) where
  stored-alike : {A : Type 0} (n k : Machine) (o : Effect A) → Stores m n k p → Fine p l f o
      → Alike (applied (rested m) k p (cut l f) o) (applied m n p f o)
  stored-alike n k o s fine =
      subst (λ (z : Machine). Alike (applied (rested m) z p (cut l f) o) (applied m n p f o)) (sym s.same)
      (applied-alike p m n f l o (s.top ∙ top) knows fine.leads)

  pub word-row : (o : Effect Fields) → Fine p l f o
      → Alike (on_word (rested m) p (cut l f) o) (on_word m p f o)
  word-row o fine = stored-alike _ _ o (word-stores m p f o.stores) fine

  pub rw-row : (o : Effect RwFields) → Fine p l f o
      → Alike (on_rw (rested m) p (cut l f) o) (on_rw m p f o)
  rw-row o fine = stored-alike _ _ o (rw-stores m p f.lock.index o.stores) fine

  pub entry-row : (o : Effect (Option NodeName)) → Fine p l f o
      → Alike (on_entry (rested m) p (cut l f) o) (on_entry m p f o)
  entry-row o fine = stored-alike _ _ o (entry-stores m p f.lock o.stores) fine

  pub flag-row : (n : NodeName) (r : Flag → Effect Flag) → ((x : Flag) → Fine p l f (r x))
      → Alike (on_flag (rested m) p (cut l f) n (r (node_at (rested m) n).flag))
      (on_flag m p f n (r (node_at m n).flag))
  flag-row n r fine =
      let o = r (node_at m n).flag in
      subst (λ (u : Effect Flag). Alike (on_flag (rested m) p (cut l f) n u) (on_flag m p f n o))
      (sym (ap (λ k. r k.flag) (node-rested m n)))
      (stored-alike _ _ o (flag-stores m p n o.stores) (fine (node_at m n).flag))

  pub next-row : (n : NodeName) (r : Option NodeName → Effect (Option NodeName))
      → ((x : Option NodeName) → Fine p l f (r x))
      → Alike (on_next (rested m) p (cut l f) n (r (node_at (rested m) n).next))
      (on_next m p f n (r (node_at m n).next))
  next-row n r fine =
      let o = r (node_at m n).next in
      subst (λ (u : Effect (Option NodeName)). Alike (on_next (rested m) p (cut l f) n u) (on_next m p f n o))
      (sym (ap (λ k. r k.next) (node-rested m n)))
      (stored-alike _ _ o (next-stores m p n o.stores) (fine (node_at m n).next))

  pub second-row : (n : NodeName) (r : Option NodeName → Effect (Option NodeName))
      → ((x : Option NodeName) → Fine p l f (r x))
      → Alike (on_second (rested m) p (cut l f) n (r (node_at (rested m) n).second_tail))
      (on_second m p f n (r (node_at m n).second_tail))
  second-row n r fine =
      let o = r (node_at m n).second_tail in
      subst (λ (u : Effect (Option NodeName)). Alike (on_second (rested m) p (cut l f) n u) (on_second m p f n o))
      (sym (ap (λ k. r k.second_tail) (node-rested m n)))
      (stored-alike _ _ o (second-stores m p n o.stores) (fine (node_at m n).second_tail))

  pub state-row : (n : NodeName) (r : State → Effect State) → ((x : State) → Fine p l f (r x))
      → Alike (on_state (rested m) p (cut l f) n (r (node_at (rested m) n).state))
      (on_state m p f n (r (node_at m n).state))
  state-row n r fine =
      let o = r (node_at m n).state in
      subst (λ (u : Effect State). Alike (on_state (rested m) p (cut l f) n u) (on_state m p f n o))
      (sym (ap (λ k. r k.state) (node-rested m n)))
      (stored-alike _ _ o (state-stores m p n o.stores) (fine (node_at m n).state))

  pub halted-row : (r : Bool → Effect Bool) → ((x : Bool) → Fine p l f (r x))
      → Alike (on_halted (rested m) p (cut l f) (r (halted_at (rested m) p)))
      (on_halted m p f (r (halted_at m p)))
  halted-row r fine =
      let o = r (halted_at m p) in
      subst (λ (u : Effect Bool). Alike (on_halted (rested m) p (cut l f) u) (on_halted m p f o))
      (sym (ap (λ b. r b) (halted-rested m p)))
      (stored-alike _ _ o (halted-stores m p o.stores) (fine (halted_at m p)))

  pub kicked-row : (q : ℕ) (r : Bool → Effect Bool) → ((x : Bool) → Fine p l f (r x))
      → Alike (on_kicked (rested m) p (cut l f) q (r (kicked_at (rested m) q)))
      (on_kicked m p f q (r (kicked_at m q)))
  kicked-row q r fine =
      let o = r (kicked_at m q) in
      subst (λ (u : Effect Bool). Alike (on_kicked (rested m) p (cut l f) q u) (on_kicked m p f q o))
      (sym (ap (λ b. r b) (kicked-rested m q)))
      (stored-alike _ _ o (kicked-stores m p q o.stores) (fine (kicked_at m q)))

  pub queued-row : (r : ℕ → Effect ℕ) → ((x : ℕ) → Fine p l f (r x))
      → Alike (on_queued (rested m) p (cut l f) (r (queued_at (rested m) p)))
      (on_queued m p f (r (queued_at m p)))
  queued-row r fine =
      let o = r (queued_at m p) in
      subst (λ (u : Effect ℕ). Alike (on_queued (rested m) p (cut l f) u) (on_queued m p f o))
      (sym (ap (λ b. r b) (queued-rested m p)))
      (stored-alike _ _ o (queued-stores m p o.stores) (fine (queued_at m p)))

  -- what a head reads besides
  sight-rested : sight_at (rested m) p (cut l f) ≡ sight_at m p f
  sight-rested = (λ i. record {
    runs = (node-rested m (node_of f.me) i).runs;
    threshold = m.setup.threshold;
    local = λ n. is_local m.setup.format m.setup.topology.sockets.items p (waiter-rested m n i);
  })

  pub seen-row : (n : NodeName) (r : Sight → Option NodeName → Effect (Option NodeName))
      → ((s : Sight) (x : Option NodeName) → Fine p l f (r s x))
      → Alike (on_next (rested m) p (cut l f) n (r (sight_at (rested m) p (cut l f)) (node_at (rested m) n).next))
      (on_next m p f n (r (sight_at m p f) (node_at m n).next))
  seen-row n r fine =
      subst (λ (s : Sight). Alike (on_next (rested m) p (cut l f) n (r s (node_at (rested m) n).next))
      (on_next m p f n (r (sight_at m p f) (node_at m n).next)))
      (sym sight-rested) (next-row n (λ x. r (sight_at m p f) x) (λ x. fine (sight_at m p f) x))

  pub runs-row : (n : NodeName) (r : Sight → ℕ → Effect ℕ) → ((s : Sight) (x : ℕ) → Fine p l f (r s x))
      → Alike (on_runs (rested m) p (cut l f) n (r (sight_at (rested m) p (cut l f)) (node_at (rested m) n).runs))
      (on_runs m p f n (r (sight_at m p f) (node_at m n).runs))
  runs-row n r fine =
      let o = r (sight_at m p f) (node_at m n).runs in
      subst (λ (u : Effect ℕ). Alike (on_runs (rested m) p (cut l f) n u) (on_runs m p f n o))
      (sym (ap (λ s. r s (node_at (rested m) n).runs) sight-rested
      ∙ ap (λ k. r (sight_at m p f) k.runs) (node-rested m n)))
      (stored-alike _ _ o (runs-stores m p n o.stores) (fine (sight_at m p f) (node_at m n).runs))
