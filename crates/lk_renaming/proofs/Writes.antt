-- What is read of a renamed machine, and what is written to it.
use Rattle.std.proofs.Common.{◌≡◌, ℕ, ◌+◌, ◌-◌, Option, Some, None, Bool, List, [], ◌∷◌, ◌++◌, map}
use Rattle.std.proofs.Common.{length, take, get_or, set, slice_get, position, ap, refl, sym, ◌∙◌}
use Rattle.std.proofs.Common.{subst, if◌then◌else◌, nat_lt}
use Rattle.std.proofs.lemmas.List.{length-set, map-set, take-map, map_push}
use Rattle.std.specs.Prelude.{unwrap_or}
use Rattle.lk_renaming.proofs.Names.{length-map, RwFields, Fields, NodeName, LockName, CpuState}
use Rattle.lk_renaming.proofs.Names.{Machine, rest_frame, rest_node, top_frame, is_node, Frame}
use Rattle.lk_renaming.proofs.Names.{Node, renamed, renamed_cpu, renamed_frame, renamed_link}
use Rattle.lk_renaming.proofs.Names.{renamed_lock, renamed_name, renamed_node, renamed_word}
use Rattle.lk_renaming.proofs.Names.{IsRenaming, Renaming}
use Rattle.lk_names.specs.Names.{same_lock}
use Rattle.lk_rows.specs.Machine.{LockState, cpu_at, lock_at, word_at, rw_at, node_at, frame_at}
use Rattle.lk_rows.specs.Machine.{depth_at, queued_at, preempted_at, halted_at, kicked_at}
use Rattle.lk_rows.specs.Machine.{handlers_at, entry_in, entry_at, with_entry, without_entry}
use Rattle.lk_rows.specs.Machine.{lock_number, set_cpu, set_lock, set_word, set_rw, set_node}
use Rattle.lk_rows.specs.Machine.{set_top, set_queued, set_preempted, set_halted, set_kicked}
use Rattle.lk_rows.specs.{Machine.{set_entry, pop, push, rest_lock}, Moves.{context_of, waiter_of}}
use Rattle.lk_renaming.proofs.{Cpus.{cpu-renamed, put-renamed}, Effects.{choose, is_node-renamed}}
use Rattle.lk_renaming.proofs.Lists.{get_or_mapped, slice_get_mapped, position_mapped}
use Rattle.lk_renaming.specs.Renamed.{renamed_waiter, renamed_entry}

-- the renaming is one of the machine's processors
abbrev pub Renames : Renaming → Machine → Type 0
Renames r m = IsRenaming (length m.cpus) r

-- words and the hash

module _ (r : Renaming) (m : Machine) where
  lock-renamed : (i : ℕ) → lock_at (renamed r m) i ≡ renamed_lock r (lock_at m i)
  unfolding lock_at
  lock-renamed i = get_or_mapped (λ l. renamed_lock r l) m.locks i rest_lock

  pub word-renamed : (l : LockName) → word_at (renamed r m) l ≡ renamed_word r (word_at m l)
  unfolding word_at
  word-renamed l =
      ap (λ (x : LockState). if l.wait then x.wait else x.spin) (lock-renamed l.index)
      ∙ choose (λ x. renamed_word r x) l.wait l.wait _ _ _ _ refl refl refl

  pub rw-renamed : (i : ℕ) → rw_at (renamed r m) i ≡ rw_at m i
  unfolding rw_at
  rw-renamed i = ap (λ (x : LockState). x.rw) (lock-renamed i)

  set_lock-renamed : (i : ℕ) (x : LockState) → set_lock (renamed r m) i (renamed_lock r x) ≡ renamed r (set_lock m i x)
  unfolding set_lock cpu_at
  set_lock-renamed i x = (λ j. record (renamed r m) { locks = sym (map-set (λ l. renamed_lock r l) m.locks i x) j })

  pub set_word-renamed : (l : LockName) (x : Fields)
      → set_word (renamed r m) l (renamed_word r x) ≡ renamed r (set_word m l x)
  unfolding set_word
  set_word-renamed l x =
      ap (λ (y : LockState). set_lock (renamed r m) l.index
      (if l.wait then record y { wait = renamed_word r x } else record y { spin = renamed_word r x }))
      (lock-renamed l.index)
      ∙ ap (λ y. set_lock (renamed r m) l.index y)
      (choose (λ y. renamed_lock r y) l.wait l.wait (record (lock_at m l.index) { wait = x })
      (record (lock_at m l.index) { spin = x }) _ _ refl refl refl)
      ∙ set_lock-renamed l.index _

  pub set_rw-renamed : (i : ℕ) (x : RwFields) → set_rw (renamed r m) i x ≡ renamed r (set_rw m i x)
  unfolding set_rw
  set_rw-renamed i x =
      ap (λ (y : LockState). set_lock (renamed r m) i (record y { rw = x })) (lock-renamed i)
      ∙ set_lock-renamed i (record (lock_at m i) { rw = x })

module _ (r : Renaming) (l : LockName) where
  abbrev entries : List (LockName × NodeName) → List (LockName × NodeName)
  entries es = map (λ e. renamed_entry r e) es

  entry_in-renamed : (es : List (LockName × NodeName)) → entry_in l (entries es) ≡ renamed_link r (entry_in l es)
  entry_in-renamed [] = refl
  entry_in-renamed (e ∷ es) =
      choose (λ o. renamed_link r o) (same_lock e.0 l) (same_lock e.0 l) _ _ _ _ refl refl (entry_in-renamed es)

  without-renamed : (es : List (LockName × NodeName)) → without_entry l (entries es) ≡ entries (without_entry l es)
  without-renamed [] = refl
  without-renamed (e ∷ es) =
      choose (λ xs. entries xs) (same_lock e.0 l) (same_lock e.0 l) _ _ _ _ refl (without-renamed es)
      (ap (λ xs. renamed_entry r e ∷ xs) (without-renamed es))

  with-renamed : (n : NodeName) (es : List (LockName × NodeName))
      → with_entry l (renamed_name r n) (entries es) ≡ entries (with_entry l n es)
  with-renamed n [] = refl
  with-renamed n (e ∷ es) =
      choose (λ xs. entries xs) (nat_lt (lock_number l) (lock_number e.0)) (nat_lt (lock_number l) (lock_number e.0))
      _ _ _ _ refl refl (ap (λ xs. renamed_entry r e ∷ xs) (with-renamed n es))

  module _ (m : Machine) where
    pub entry-renamed : entry_at (renamed r m) l ≡ renamed_link r (entry_at m l)
    unfolding entry_at
    entry-renamed = entry_in-renamed m.hash

    pub set_entry-renamed : (o : Option NodeName)
        → set_entry (renamed r m) l (renamed_link r o) ≡ renamed r (set_entry m l o)
    unfolding set_entry cpu_at
    set_entry-renamed None = (λ j. record (renamed r m) { hash = without-renamed m.hash j })
    set_entry-renamed (Some n) =
        ap (λ es. record (renamed r m) { hash = with_entry l (renamed_name r n) es }) (without-renamed m.hash)
        ∙ (λ j. record (renamed r m) { hash = with-renamed n (without_entry l m.hash) j })

-- processors

-- the newest of these frames
abbrev top_in : List Frame → Frame
top_in fs = unwrap_or (slice_get fs (length fs - 1)) rest_frame

module _ (r : Renaming) (m : Machine) (is : Renames r m) where
  pub node-renamed : (k : NodeName) → node_at (renamed r m) (renamed_name r k) ≡ renamed_node r (node_at m k)
  unfolding node_at
  node-renamed k =
      ap (λ (c : CpuState). get_or c.nodes k.index rest_node) (cpu-renamed r m is k.cpu)
      ∙ get_or_mapped (λ x. renamed_node r x) (cpu_at m k.cpu).nodes k.index rest_node

  pub queued-renamed : (p : ℕ) → queued_at (renamed r m) (r.to p) ≡ queued_at m p
  unfolding queued_at
  queued-renamed p = ap (λ (c : CpuState). c.queued) (cpu-renamed r m is p)

  pub preempted-renamed : (p : ℕ) → preempted_at (renamed r m) (r.to p) ≡ preempted_at m p
  unfolding preempted_at
  preempted-renamed p = ap (λ (c : CpuState). c.preempted) (cpu-renamed r m is p)

  pub halted-renamed : (p : ℕ) → halted_at (renamed r m) (r.to p) ≡ halted_at m p
  unfolding halted_at
  halted-renamed p = ap (λ (c : CpuState). c.halted) (cpu-renamed r m is p)

  pub kicked-renamed : (p : ℕ) → kicked_at (renamed r m) (r.to p) ≡ kicked_at m p
  unfolding kicked_at
  kicked-renamed p = ap (λ (c : CpuState). c.kicked) (cpu-renamed r m is p)

  pub handlers-renamed : (p : ℕ) → handlers_at (renamed r m) (r.to p) ≡ handlers_at m p
  unfolding handlers_at
  handlers-renamed p = ap (λ (c : CpuState). c.handlers) (cpu-renamed r m is p)

  pub depth-renamed : (p : ℕ) → depth_at (renamed r m) (r.to p) ≡ depth_at m p
  unfolding depth_at
  depth-renamed p =
      ap (λ (c : CpuState). length c.frames) (cpu-renamed r m is p)
      ∙ length-map (cpu_at m p).frames (λ f. renamed_frame r f)

  pub top-renamed : (p : ℕ) → top_frame (renamed r m) (r.to p) ≡ renamed_frame r (top_frame m p)
  unfolding frame_at depth_at
  top-renamed p =
      ap (λ (c : CpuState). top_in c.frames) (cpu-renamed r m is p)
      ∙ ap (λ n. unwrap_or (slice_get (map (λ f. renamed_frame r f) (cpu_at m p).frames) (n - 1)) rest_frame)
      (length-map (cpu_at m p).frames (λ f. renamed_frame r f))
      ∙ slice_get_mapped (λ f. renamed_frame r f) (cpu_at m p).frames (length (cpu_at m p).frames - 1) rest_frame

  pub waiter-renamed : (k : NodeName) → waiter_of (renamed r m) (renamed_name r k) ≡ renamed_waiter r (waiter_of m k)
  unfolding waiter_of context_of
  waiter-renamed k =
      ap (λ (o : Option ℕ). record { cpu = r.to k.cpu; ctx = unwrap_or o 0 })
      (ap (λ (c : CpuState). position (λ f. is_node f.me (renamed_name r k)) c.frames) (cpu-renamed r m is k.cpu)
      ∙ position_mapped (λ f. renamed_frame r f) (λ f. is_node f.me (renamed_name r k)) (λ f. is_node f.me k)
      (λ f. is_node-renamed r (length m.cpus) is f.me k) (cpu_at m k.cpu).frames)

  -- a write to a processor
  write-renamed : (p : ℕ) (g h : CpuState → CpuState)
      → ((c : CpuState) → g (renamed_cpu r c) ≡ renamed_cpu r (h c))
      → set_cpu (renamed r m) (r.to p) (g (cpu_at (renamed r m) (r.to p))) ≡ renamed r (set_cpu m p (h (cpu_at m p)))
  write-renamed p g h same =
      ap (λ c. set_cpu (renamed r m) (r.to p) (g c)) (cpu-renamed r m is p)
      ∙ ap (λ c. set_cpu (renamed r m) (r.to p) c) (same (cpu_at m p))
      ∙ put-renamed r m is p (h (cpu_at m p))

  pub set_node-renamed : (k : NodeName) (x : Node)
      → set_node (renamed r m) (renamed_name r k) (renamed_node r x) ≡ renamed r (set_node m k x)
  unfolding set_node
  set_node-renamed k x =
      write-renamed k.cpu (λ c. record c { nodes = set c.nodes k.index (renamed_node r x) })
      (λ c. record c { nodes = set c.nodes k.index x })
      (λ c j. record (renamed_cpu r c) { nodes = sym (map-set (λ y. renamed_node r y) c.nodes k.index x) j })

  pub set_queued-renamed : (p i : ℕ) → set_queued (renamed r m) (r.to p) i ≡ renamed r (set_queued m p i)
  unfolding set_queued
  set_queued-renamed p i =
      write-renamed p (λ c. record c { queued = i }) (λ c. record c { queued = i }) (λ c. refl)

  pub set_preempted-renamed : (p : ℕ) (b : Bool)
      → set_preempted (renamed r m) (r.to p) b ≡ renamed r (set_preempted m p b)
  unfolding set_preempted
  set_preempted-renamed p b =
      write-renamed p (λ c. record c { preempted = b }) (λ c. record c { preempted = b }) (λ c. refl)

  pub set_halted-renamed : (p : ℕ) (b : Bool) → set_halted (renamed r m) (r.to p) b ≡ renamed r (set_halted m p b)
  unfolding set_halted
  set_halted-renamed p b =
      write-renamed p (λ c. record c { halted = b }) (λ c. record c { halted = b }) (λ c. refl)

  pub set_kicked-renamed : (p : ℕ) (b : Bool) → set_kicked (renamed r m) (r.to p) b ≡ renamed r (set_kicked m p b)
  unfolding set_kicked
  set_kicked-renamed p b =
      write-renamed p (λ c. record c { kicked = b }) (λ c. record c { kicked = b }) (λ c. refl)

  pub set_top-renamed : (p : ℕ) (f : Frame)
      → set_top (renamed r m) (r.to p) (renamed_frame r f) ≡ renamed r (set_top m p f)
  unfolding set_top depth_at
  set_top-renamed p f =
      write-renamed p (λ c. record c { frames = set c.frames (length c.frames - 1) (renamed_frame r f) })
      (λ c. record c { frames = set c.frames (length c.frames - 1) f })
      (λ c.
      ap (λ n. record (renamed_cpu r c) { frames = set (map (λ g. renamed_frame r g) c.frames) (n - 1) (renamed_frame r f) })
      (length-map c.frames (λ g. renamed_frame r g))
      ∙ (λ j. record (renamed_cpu r c) { frames = sym (map-set (λ g. renamed_frame r g) c.frames (length c.frames - 1) f) j }))

  pub pop-renamed : (p : ℕ) → pop (renamed r m) (r.to p) ≡ renamed r (pop m p)
  unfolding pop depth_at
  pop-renamed p =
      write-renamed p (λ c. record c { frames = take (length c.frames - 1) c.frames })
      (λ c. record c { frames = take (length c.frames - 1) c.frames })
      (λ c.
      ap (λ n. record (renamed_cpu r c) { frames = take (n - 1) (map (λ g. renamed_frame r g) c.frames) })
      (length-map c.frames (λ g. renamed_frame r g))
      ∙ (λ j. record (renamed_cpu r c) { frames = take-map (λ g. renamed_frame r g) (length c.frames - 1) c.frames j }))

  pub push-renamed : (p : ℕ) (f : Frame)
      → push (renamed r m) (r.to p) (renamed_frame r f) ≡ renamed r (push m p f)
  unfolding push
  push-renamed p f =
      write-renamed p (λ c. record c { frames = c.frames ++ renamed_frame r f ∷ []; handlers = c.handlers + 1 })
      (λ c. record c { frames = c.frames ++ f ∷ []; handlers = c.handlers + 1 })
      (λ c j. record (renamed_cpu r c) {
        frames = sym (map_push (λ g. renamed_frame r g) c.frames f) j;
        handlers = c.handlers + 1;
      })

  -- no write makes or removes a processor

  pub put_kept : (p : ℕ) (c : CpuState) → Renames r (set_cpu m p c)
  unfolding set_cpu
  put_kept p c = subst (λ (n : ℕ). IsRenaming n r) (sym (length-set m.cpus p c)) is

  pub top_kept : (p : ℕ) (f : Frame) → Renames r (set_top m p f)
  unfolding set_top
  top_kept p f = put_kept p _

  pub node_kept : (k : NodeName) (x : Node) → Renames r (set_node m k x)
  unfolding set_node
  node_kept k x = put_kept k.cpu _

  pub queued_kept : (p i : ℕ) → Renames r (set_queued m p i)
  unfolding set_queued
  queued_kept p i = put_kept p _

  pub halted_kept : (p : ℕ) (b : Bool) → Renames r (set_halted m p b)
  unfolding set_halted
  halted_kept p b = put_kept p _

  pub kicked_kept : (p : ℕ) (b : Bool) → Renames r (set_kicked m p b)
  unfolding set_kicked
  kicked_kept p b = put_kept p _

  pub push_kept : (p : ℕ) (f : Frame) → Renames r (push m p f)
  unfolding push
  push_kept p f = put_kept p _
