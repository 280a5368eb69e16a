-- What a row stores: the machine after it as a world, before the frame moves.
use Rattle.std.proofs.Common.{◌≡◌, ℕ, Bool, Option, Some, None, List, [], ◌∷◌, ◌<◌, refl, ◌∙◌}
use Rattle.std.proofs.Common.{length}
use Rattle.lk_core.proofs.Names.{Fields, NodeName, LockName, Waiter, HasNode, Machine, Counter}
use Rattle.lk_core.proofs.Names.{counted, stored_entry, stored_flag, stored_halted, stored_kicked}
use Rattle.lk_core.proofs.Names.{stored_next, stored_queued, stored_runs, stored_second}
use Rattle.lk_core.proofs.Names.{stored_state, stored_word, Flag, Frame, State, world, World}
use Rattle.lk_rows.specs.{Machine.{cpu_at, frame_at, node_at, set_counts}, Row.count_all}
use Rattle.lk_law.specs.Steps.{stores_word, stores_flag, stores_next, stores_second, stores_runs}
use Rattle.lk_law.specs.Steps.{stores_state, stores_entry, stores_halted, stores_kicked}
use Rattle.lk_law.specs.Steps.{stores_queued}
use Rattle.lk_core.proofs.Same.{KeepsFrames, same_then, same_self, same_set_word, same_set_node}
use Rattle.lk_core.proofs.Same.{same_set_queued, same_set_counts, same_set_entry, same_set_halted}
use Rattle.lk_core.proofs.Same.{same_set_kicked}
use Rattle.lk_core.proofs.Worlds.{world-set_word, world-set_node, world-set_queued}
use Rattle.lk_core.proofs.Worlds.{world-set_counts, world-set_entry, world-set_halted}
use Rattle.lk_core.proofs.Worlds.{world-set_kicked, frame-set_entry, frame-set_halted}
use Rattle.lk_core.proofs.Worlds.{frame-set_kicked, frame-set_word, frame-set_node}
use Rattle.lk_core.proofs.Worlds.{frame-set_queued, frame-set_counts}

-- The machine n is m after a store, or a count: it is this world, with the frames of m.
pub record Stored (m n : Machine) (x : World) : Type 0 where
  pub same : KeepsFrames m n
  pub frames : (u : Waiter) → frame_at n u ≡ frame_at m u
  pub world : world n ≡ x

pub counts_stored : (m n : Machine) (x : World) (cs : List Counter) → Stored m n x
    → Stored m (counted n cs) x
counts_stored m n x [] s = s
counts_stored m n x (c ∷ cs) s =
    let k = count_all n.counts (c ∷ cs) in
    record {
      same = same_then m n (set_counts n k) s.same (same_set_counts n k);
      frames = λ u. frame-set_counts n k u ∙ s.frames u;
      world = world-set_counts n k ∙ s.world;
    }

nothing_stored : (m : Machine) → Stored m m (world m)
nothing_stored m = record { same = same_self m; frames = λ u. refl; world = refl }

pub word_stored : (m : Machine) (f : Frame) (o : Option Fields) → f.lock.index < length m.locks
    → Stored m (stored_word m f o) (stores_word (world m) f.lock o)
word_stored m f None lt = nothing_stored m
word_stored m f (Some x) lt =
    record {
      same = same_set_word m f.lock x;
      frames = λ u. frame-set_word m f.lock x u;
      world = world-set_word m f.lock x lt;
    }

pub queued_stored : (m : Machine) (p : ℕ) (o : Option ℕ) → p < length m.cpus
    → Stored m (stored_queued m p o) (stores_queued (world m) p o)
queued_stored m p None lt = nothing_stored m
queued_stored m p (Some i) lt =
    record {
      same = same_set_queued m p i;
      frames = λ u. frame-set_queued m p i u;
      world = world-set_queued m p i lt;
    }

-- each processor has four nodes
module _ (m : Machine) (four : (p : ℕ) → p < length m.cpus → length (cpu_at m p).nodes ≡ 4)
    (n : NodeName) where
  pub flag_stored : (o : Option Flag) → ((x : Flag) → o ≡ Some x → HasNode m n)
      → Stored m (stored_flag m n o) (stores_flag (world m) n o)
  flag_stored None has = nothing_stored m
  flag_stored (Some x) has =
      let h = has x refl in
      let y = record (node_at m n) { flag = x } in
      record {
        same = same_set_node m n y;
        frames = λ u. frame-set_node m n y u;
        world = world-set_node m n y h (four n.cpu h.cpu);
      }

  pub next_stored : (o : Option (Option NodeName))
      → ((x : Option NodeName) → o ≡ Some x → HasNode m n)
      → Stored m (stored_next m n o) (stores_next (world m) n o)
  next_stored None has = nothing_stored m
  next_stored (Some x) has =
      let h = has x refl in
      let y = record (node_at m n) { next = x } in
      record {
        same = same_set_node m n y;
        frames = λ u. frame-set_node m n y u;
        world = world-set_node m n y h (four n.cpu h.cpu);
      }

  pub second_stored : (o : Option (Option NodeName))
      → ((x : Option NodeName) → o ≡ Some x → HasNode m n)
      → Stored m (stored_second m n o) (stores_second (world m) n o)
  second_stored None has = nothing_stored m
  second_stored (Some x) has =
      let h = has x refl in
      let y = record (node_at m n) { second_tail = x } in
      record {
        same = same_set_node m n y;
        frames = λ u. frame-set_node m n y u;
        world = world-set_node m n y h (four n.cpu h.cpu);
      }

  pub runs_stored : (o : Option ℕ) → ((x : ℕ) → o ≡ Some x → HasNode m n)
      → Stored m (stored_runs m n o) (stores_runs (world m) n o)
  runs_stored None has = nothing_stored m
  runs_stored (Some x) has =
      let h = has x refl in
      let y = record (node_at m n) { runs = x } in
      record {
        same = same_set_node m n y;
        frames = λ u. frame-set_node m n y u;
        world = world-set_node m n y h (four n.cpu h.cpu);
      }

  pub state_stored : (o : Option State) → ((x : State) → o ≡ Some x → HasNode m n)
      → Stored m (stored_state m n o) (stores_state (world m) n o)
  state_stored None has = nothing_stored m
  state_stored (Some x) has =
      let h = has x refl in
      let y = record (node_at m n) { state = x } in
      record {
        same = same_set_node m n y;
        frames = λ u. frame-set_node m n y u;
        world = world-set_node m n y h (four n.cpu h.cpu);
      }

-- an entry in the hash, a halt, and a kick that is remembered

pub entry_stored : (m : Machine) (l : LockName) (o : Option (Option NodeName))
    → Stored m (stored_entry m l o) (stores_entry (world m) l o)
entry_stored m l None = nothing_stored m
entry_stored m l (Some x) =
    record {
      same = same_set_entry m l x;
      frames = λ u. frame-set_entry m l x u;
      world = world-set_entry m l x;
    }

pub halted_stored : (m : Machine) (p : ℕ) (o : Option Bool) → p < length m.cpus
    → Stored m (stored_halted m p o) (stores_halted (world m) p o)
halted_stored m p None lt = nothing_stored m
halted_stored m p (Some b) lt =
    record {
      same = same_set_halted m p b;
      frames = λ u. frame-set_halted m p b u;
      world = world-set_halted m p b lt;
    }

pub kicked_stored : (m : Machine) (p : ℕ) (o : Option Bool) → p < length m.cpus
    → Stored m (stored_kicked m p o) (stores_kicked (world m) p o)
kicked_stored m p None lt = nothing_stored m
kicked_stored m p (Some b) lt =
    record {
      same = same_set_kicked m p b;
      frames = λ u. frame-set_kicked m p b u;
      world = world-set_kicked m p b lt;
    }
