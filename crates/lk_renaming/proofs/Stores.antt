-- What a row stores, renamed.
use Rattle.std.proofs.Common.{◌≡◌, ℕ, Option, Some, None, Bool, ap, refl, ◌∙◌, option_map}
use Rattle.lk_renaming.proofs.Names.{RwFields, Fields, NodeName, LockName, Machine, Flag, Frame}
use Rattle.lk_renaming.proofs.Names.{Node, State, renamed, renamed_flag, renamed_frame}
use Rattle.lk_renaming.proofs.Names.{renamed_link, renamed_name, renamed_node, renamed_word}
use Rattle.lk_renaming.proofs.Names.{Renaming}
use Rattle.lk_rows.specs.Machine.{node_at, set_node, set_word, set_rw, set_lock, set_entry, set_cpu}
use Rattle.lk_rows.specs.Machine.{set_halted, set_kicked, set_queued}
use Rattle.lk_rows.specs.TopRow.{stored_word, stored_rw, stored_flag, stored_next, stored_second}
use Rattle.lk_rows.specs.TopRow.{stored_runs, stored_state, stored_entry, stored_halted}
use Rattle.lk_rows.specs.TopRow.{stored_kicked, stored_queued}
use Rattle.lk_renaming.proofs.Writes.{Renames, node-renamed, set_word-renamed, set_rw-renamed}
use Rattle.lk_renaming.proofs.Writes.{set_node-renamed, set_entry-renamed, set_halted-renamed}
use Rattle.lk_renaming.proofs.Writes.{set_kicked-renamed, set_queued-renamed, node_kept}
use Rattle.lk_renaming.proofs.Writes.{halted_kept, kicked_kept, queued_kept}

-- The store makes n of m, and k of the renamed machine: that is n renamed, and n has as many processors
-- and the same setup.
pub record Stores (r : Renaming) (m n k : Machine) : Type 0 where
  pub same : k ≡ renamed r n
  pub kept : Renames r n
  pub setup : n.setup ≡ m.setup

module _ (r : Renaming) (m : Machine) (is : Renames r m) where
  nothing : Stores r m m (renamed r m)
  nothing = record { same = refl; kept = is; setup = refl }

  pub word-stores : (f : Frame) (o : Option Fields)
      → Stores r m (stored_word m f o)
      (stored_word (renamed r m) (renamed_frame r f) (option_map (λ w. renamed_word r w) o))
  unfolding set_word set_lock
  word-stores f None = nothing
  word-stores f (Some x) = record { same = set_word-renamed r m f.lock x; kept = is; setup = refl }

  pub rw-stores : (i : ℕ) (o : Option RwFields)
      → Stores r m (stored_rw m i o) (stored_rw (renamed r m) i (option_map (λ w. w) o))
  unfolding set_rw set_lock
  rw-stores i None = nothing
  rw-stores i (Some x) = record { same = set_rw-renamed r m i x; kept = is; setup = refl }

  pub entry-stores : (l : LockName) (o : Option (Option NodeName))
      → Stores r m (stored_entry m l o) (stored_entry (renamed r m) l (option_map (λ y. renamed_link r y) o))
  unfolding set_entry
  entry-stores l None = nothing
  entry-stores l (Some None) = record { same = set_entry-renamed r l m None; kept = is; setup = refl }
  entry-stores l (Some (Some n)) = record { same = set_entry-renamed r l m (Some n); kept = is; setup = refl }

  -- a node is stored
  node-stores : (k : NodeName) (g h : Node → Node) → ((y : Node) → g (renamed_node r y) ≡ renamed_node r (h y))
      → Stores r m (set_node m k (h (node_at m k)))
      (set_node (renamed r m) (renamed_name r k) (g (node_at (renamed r m) (renamed_name r k))))
  unfolding set_node set_cpu
  node-stores k g h same = record {
    same =
        ap (λ y. set_node (renamed r m) (renamed_name r k) (g y)) (node-renamed r m is k)
        ∙ ap (λ y. set_node (renamed r m) (renamed_name r k) y) (same (node_at m k))
        ∙ set_node-renamed r m is k (h (node_at m k));
    kept = node_kept r m is k (h (node_at m k));
    setup = refl;
  }

  pub flag-stores : (k : NodeName) (o : Option Flag)
      → Stores r m (stored_flag m k o)
      (stored_flag (renamed r m) (renamed_name r k) (option_map (λ y. renamed_flag r y) o))
  flag-stores k None = nothing
  flag-stores k (Some x) =
      node-stores k (λ y. record y { flag = renamed_flag r x }) (λ y. record y { flag = x }) (λ y. refl)

  pub next-stores : (k : NodeName) (o : Option (Option NodeName))
      → Stores r m (stored_next m k o)
      (stored_next (renamed r m) (renamed_name r k) (option_map (λ y. renamed_link r y) o))
  next-stores k None = nothing
  next-stores k (Some x) =
      node-stores k (λ y. record y { next = renamed_link r x }) (λ y. record y { next = x }) (λ y. refl)

  pub second-stores : (k : NodeName) (o : Option (Option NodeName))
      → Stores r m (stored_second m k o)
      (stored_second (renamed r m) (renamed_name r k) (option_map (λ y. renamed_link r y) o))
  second-stores k None = nothing
  second-stores k (Some x) =
      node-stores k (λ y. record y { second_tail = renamed_link r x }) (λ y. record y { second_tail = x }) (λ y. refl)

  pub runs-stores : (k : NodeName) (o : Option ℕ)
      → Stores r m (stored_runs m k o) (stored_runs (renamed r m) (renamed_name r k) (option_map (λ y. y) o))
  runs-stores k None = nothing
  runs-stores k (Some x) = node-stores k (λ y. record y { runs = x }) (λ y. record y { runs = x }) (λ y. refl)

  pub state-stores : (k : NodeName) (o : Option State)
      → Stores r m (stored_state m k o) (stored_state (renamed r m) (renamed_name r k) (option_map (λ y. y) o))
  state-stores k None = nothing
  state-stores k (Some x) = node-stores k (λ y. record y { state = x }) (λ y. record y { state = x }) (λ y. refl)

  -- a mark or a number of a processor is stored

  pub halted-stores : (p : ℕ) (o : Option Bool)
      → Stores r m (stored_halted m p o) (stored_halted (renamed r m) (r.to p) (option_map (λ y. y) o))
  unfolding set_halted set_cpu
  halted-stores p None = nothing
  halted-stores p (Some b) =
      record { same = set_halted-renamed r m is p b; kept = halted_kept r m is p b; setup = refl }

  pub kicked-stores : (p : ℕ) (o : Option Bool)
      → Stores r m (stored_kicked m p o) (stored_kicked (renamed r m) (r.to p) (option_map (λ y. y) o))
  unfolding set_kicked set_cpu
  kicked-stores p None = nothing
  kicked-stores p (Some b) =
      record { same = set_kicked-renamed r m is p b; kept = kicked_kept r m is p b; setup = refl }

  pub queued-stores : (p : ℕ) (o : Option ℕ)
      → Stores r m (stored_queued m p o) (stored_queued (renamed r m) (r.to p) (option_map (λ y. y) o))
  unfolding set_queued set_cpu
  queued-stores p None = nothing
  queued-stores p (Some i) =
      record { same = set_queued-renamed r m is p i; kept = queued_kept r m is p i; setup = refl }
