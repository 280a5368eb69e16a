-- What a row does with other processors, behind a store.
use Rattle.std.proofs.Common.{◌≡◌, ℕ, ◌<◌, Option, Some, None, Bool, List, [], ◌∷◌}
use Rattle.std.proofs.Common.{ap, refl, ◌∙◌, length, position}
use Rattle.std.specs.Prelude.{unwrap_or}
use Rattle.lk_names.specs.declared.events.What.TheVariants as what
use Rattle.lk_names.specs.declared.names.LockName.{LockName}
use Rattle.lk_word.specs.declared.spin_word.NodeName.{NodeName}
use Rattle.lk_word.specs.declared.spin_word.Fields.{Fields}
use Rattle.lk_word.specs.declared.rw_word.RwFields.{RwFields}
use Rattle.lk_rows.specs.declared.parts.Flag.{Flag}
use Rattle.lk_rows.specs.declared.parts.State.{State}
use Rattle.lk_rows.specs.declared.parts.Node.{Node}
use Rattle.lk_rows.specs.declared.parts.Frame.{Frame}
use Rattle.lk_rows.specs.Machine.{Machine, CpuState, cpu_at, lock_at, set_lock, set_word, set_rw, set_entry, node_at}
use Rattle.lk_rows.specs.Machine.{set_node, set_counts}
use Rattle.lk_rows.specs.Machine.{set_halted, set_kicked}
use Rattle.lk_rows.specs.Moves.{is_node, context_of, waiter_of}
use Rattle.lk_rows.specs.Row.{Answer, Counter, Effect}
use Rattle.lk_rows.specs.Row.{Tell, Nothing, Says, Passes, moved, event_of, applied, counted}
use Rattle.lk_rows.specs.TopRow.{stored_second, stored_kicked}
use Rattle.lk_rows.specs.TopRow.{stored_word, stored_rw, stored_flag, stored_next}
use Rattle.lk_rows.specs.TopRow.{stored_state, stored_entry, stored_halted, stored_queued}
use Rattle.lk_touch.proofs.TouchingRows.{IsNearTell, IsNear}
use Rattle.lk_touch.proofs.Touching.{Is, with_cpus, node-among, write-to, write-among, set_queued-among, set_node-among, put-kept, queued-kept, node-kept, moved-among}

module _ (h : List CpuState → List CpuState) (p : ℕ) (isp : Is h p) where
  abbrev amid : Machine → Machine
  amid m = with_cpus h m

  -- an answer among them
  abbrev pub both : Answer → Answer
  both a = (amid a.0, a.1)

  pub counted-among : (m : Machine) (cs : List Counter) → counted (amid m) cs ≡ amid (counted m cs)
  unfolding set_counts cpu_at
  counted-among m [] = refl
  counted-among m (c ∷ cs) = refl

  pub counted-kept : (m : Machine) (cs : List Counter) → p < length m.cpus → p < length (counted m cs).cpus
  unfolding set_counts
  counted-kept m [] lt = lt
  counted-kept m (c ∷ cs) lt = lt

  pub event-among : (m : Machine) (f : Frame) (t : Tell) → IsNearTell (λ r. Is h r) t
      → event_of (amid m) p f t ≡ event_of m p f t
  unfolding waiter_of context_of
  event-among m f Nothing near = refl
  event-among m f (Says what) near = refl
  event-among m f (Passes n k) near =
      ap (λ (c : CpuState). Some (record {
        by = record { cpu = p; ctx = f.ctx };
        what = what.Pass f.lock (record {
          cpu = n.cpu;
          ctx = unwrap_or (position (λ g. is_node g.me n) c.frames) 0;
        }) k;
      })) (near.cpu m)

  -- what a row does that stored into n, which met m
  pub applied-among : {A : Type 0} (m n k : Machine) (f : Frame) (e : Effect A) → k ≡ amid n
      → p < length n.cpus → IsNear (λ r. Is h r) p e → applied (amid m) k p f e ≡ both (applied m n p f e)
  applied-among m n k f e stored lt near =
      ap (λ z. applied (amid m) z p f e) stored
      ∙ ap (λ z. (moved z p f e.leads, event_of (amid m) p f e.tells)) (counted-among n e.counts)
      ∙ (λ i. (
        moved-among h p isp (counted n e.counts) f e.leads (counted-kept n e.counts lt) near.0 i,
        event-among m f e.tells near.1 i,
      ))

  -- after a store

  pub word-among : (m : Machine) (f : Frame) (x : Option Fields)
      → stored_word (amid m) f x ≡ amid (stored_word m f x)
  unfolding set_word set_lock lock_at cpu_at
  word-among m f None = refl
  word-among m f (Some y) = refl

  pub word-kept : (m : Machine) (f : Frame) (x : Option Fields) → p < length m.cpus
      → p < length (stored_word m f x).cpus
  unfolding set_word set_lock lock_at
  word-kept m f None lt = lt
  word-kept m f (Some y) lt = lt

  pub rw-among : (m : Machine) (i : ℕ) (x : Option RwFields)
      → stored_rw (amid m) i x ≡ amid (stored_rw m i x)
  unfolding set_rw set_lock lock_at cpu_at
  rw-among m i None = refl
  rw-among m i (Some y) = refl

  pub rw-kept : (m : Machine) (i : ℕ) (x : Option RwFields) → p < length m.cpus
      → p < length (stored_rw m i x).cpus
  unfolding set_rw set_lock lock_at
  rw-kept m i None lt = lt
  rw-kept m i (Some y) lt = lt

  pub entry-among : (m : Machine) (l : LockName) (x : Option (Option NodeName))
      → stored_entry (amid m) l x ≡ amid (stored_entry m l x)
  unfolding set_entry cpu_at
  entry-among m l None = refl
  entry-among m l (Some None) = refl
  entry-among m l (Some (Some n)) = refl

  pub entry-kept : (m : Machine) (l : LockName) (x : Option (Option NodeName)) → p < length m.cpus
      → p < length (stored_entry m l x).cpus
  unfolding set_entry
  entry-kept m l None lt = lt
  entry-kept m l (Some None) lt = lt
  entry-kept m l (Some (Some n)) lt = lt

  pub halted-among : (m : Machine) (x : Option Bool) → p < length m.cpus
      → stored_halted (amid m) p x ≡ amid (stored_halted m p x)
  unfolding set_halted
  halted-among m None lt = refl
  halted-among m (Some b) lt = write-among h p isp (λ c. record c { halted = b }) m lt

  pub halted-kept : (m : Machine) (x : Option Bool) → p < length m.cpus
      → p < length (stored_halted m p x).cpus
  unfolding set_halted
  halted-kept m None lt = lt
  halted-kept m (Some b) lt = put-kept h p isp m p _ lt

  pub stored_queued-among : (m : Machine) (x : Option ℕ) → p < length m.cpus
      → stored_queued (amid m) p x ≡ amid (stored_queued m p x)
  stored_queued-among m None lt = refl
  stored_queued-among m (Some i) lt = set_queued-among h p isp m i lt

  pub stored_queued-kept : (m : Machine) (x : Option ℕ) → p < length m.cpus
      → p < length (stored_queued m p x).cpus
  stored_queued-kept m None lt = lt
  stored_queued-kept m (Some i) lt = queued-kept h p isp m i lt

  -- into a node
  module _ (n : NodeName) (own : Is h n.cpu) (m : Machine) (lt : p < length m.cpus) (there : n.cpu < length m.cpus) where
    -- a store of a node that is made of the one that stands there
    pub node-stored : (g : Node → Node)
        → set_node (amid m) n (g (node_at (amid m) n)) ≡ amid (set_node m n (g (node_at m n)))
    node-stored g =
        ap (λ x. set_node (amid m) n (g x)) (node-among h p isp m n own) ∙ set_node-among h p isp m n (g (node_at m n)) own there

    pub flag-among : (x : Option Flag) → stored_flag (amid m) n x ≡ amid (stored_flag m n x)
    flag-among None = refl
    flag-among (Some y) = node-stored (λ z. record z { flag = y })

    pub flag-kept : (x : Option Flag) → p < length (stored_flag m n x).cpus
    flag-kept None = lt
    flag-kept (Some y) = node-kept h p isp m n _ lt

    pub next-among : (x : Option (Option NodeName)) → stored_next (amid m) n x ≡ amid (stored_next m n x)
    next-among None = refl
    next-among (Some y) = node-stored (λ z. record z { next = y })

    pub next-kept : (x : Option (Option NodeName)) → p < length (stored_next m n x).cpus
    next-kept None = lt
    next-kept (Some y) = node-kept h p isp m n _ lt

    pub second-among : (x : Option (Option NodeName)) → stored_second (amid m) n x ≡ amid (stored_second m n x)
    second-among None = refl
    second-among (Some y) = node-stored (λ z. record z { second_tail = y })

    pub second-kept : (x : Option (Option NodeName)) → p < length (stored_second m n x).cpus
    second-kept None = lt
    second-kept (Some y) = node-kept h p isp m n _ lt

    pub state-among : (x : Option State) → stored_state (amid m) n x ≡ amid (stored_state m n x)
    state-among None = refl
    state-among (Some y) = node-stored (λ z. record z { state = y })

    pub state-kept : (x : Option State) → p < length (stored_state m n x).cpus
    state-kept None = lt
    state-kept (Some y) = node-kept h p isp m n _ lt

  -- into the mark of a processor that a kick is remembered
  pub kicked-among : (q : ℕ) → Is h q → (m : Machine) (x : Option Bool) → q < length m.cpus
      → stored_kicked (amid m) q x ≡ amid (stored_kicked m q x)
  unfolding set_kicked
  kicked-among q is m None lt = refl
  kicked-among q is m (Some b) lt = write-to h p isp q is (λ c. record c { kicked = b }) m lt

  pub kicked-kept : (q : ℕ) (m : Machine) (x : Option Bool) → p < length m.cpus
      → p < length (stored_kicked m q x).cpus
  unfolding set_kicked
  kicked-kept q m None lt = lt
  kicked-kept q m (Some b) lt = put-kept h p isp m q _ lt
