-- A machine as a world after each write.
use Rattle.std.proofs.Common.{◌≡◌, ◌≢◌, ℕ, Option, Some, None, Bool, true, false, List, inl, inr}
use Rattle.std.proofs.Common.{arith, ap, ◌<◌, refl, sym, ◌∙◌, subst, length, get_or, set}
use Rattle.std.proofs.Common.{if◌then◌else◌, ◌==◌, slice_index_or}
use Rattle.std.proofs.lemmas.List.{get_or-set_same, get_or-set_other, set_past}
use Rattle.lk_core.proofs.Names.{cases_eq, cases_lt, eq-eqb, ne_eqb, Fields, NodeName, same_lock}
use Rattle.lk_core.proofs.Names.{Spin, LockName, Waiter, CpuState, HasNode, LockState, Machine}
use Rattle.lk_core.proofs.Names.{rest_lock, rest_node, with_entry, without_entry, Counts, Frame}
use Rattle.lk_core.proofs.Names.{Node, Setup, held_at, world, put_queued}
use Rattle.lk_rows.specs.Machine.{cpu_at, lock_at, word_at, rw_at, node_at, frame_at, queued_at}
use Rattle.lk_rows.specs.Machine.{entry_at, halted_at, kicked_at, set_cpu, set_lock, set_counts}
use Rattle.lk_rows.specs.Machine.{set_word, set_node, set_queued, set_halted, set_kicked, set_entry}
use Rattle.lk_law.proofs.{common.Cases.node_cases, common.Puts.{same_node-self, same_node-else}}
use Rattle.lk_law.specs.Snapshot.{same_node}
use Rattle.lk_law.specs.Steps.{put_word, put_node, put_entry, put_halted, put_kicked}
use Rattle.lk_core.proofs.Access.{cpu_same, cpu_other, word_set_word}
use Rattle.lk_core.proofs.Entries.{Entry, entered_now, removed_now}
use Rattle.lk_core.proofs.Seated.{alike, entry-set_cpu, frame-set_cpu, halted-set_cpu}
use Rattle.lk_core.proofs.Seated.{held-set_counts, held-set_cpu, held-set_lock, kicked-set_cpu}
use Rattle.lk_core.proofs.Seated.{kind-set_cpu, mode-set_cpu, node-set_cpu, queued-set_cpu}
use Rattle.lk_core.proofs.Seated.{rw-set_cpu, format-set_cpu, sockets-set_cpu, threshold-set_cpu}
use Rattle.lk_core.proofs.Seated.{turns-set_cpu, word-set_cpu}

queued_changed : (m : Machine) (p : ℕ) (c : CpuState) → p < length m.cpus → (q : ℕ)
    → queued_at (set_cpu m p c) q ≡ (if q == p then c.queued else queued_at m q)
unfolding queued_at
queued_changed m p c lt q =
    elim (cases_eq q p) [
      | inl e ↦
          let P : ℕ → Type 0 = λ r.
          (cpu_at (set_cpu m p c) r).queued ≡ (if r == p then c.queued else (cpu_at m r).queued) in
          subst P (sym e)
          (ap (λ (d : CpuState). d.queued) (cpu_same m p c lt)
          ∙ sym (ap (λ (b : Bool). if b then c.queued else (cpu_at m p).queued)
          (eq-eqb p p refl)))
      | inr ne ↦ ap (λ (d : CpuState). d.queued) (cpu_other m p q c ne)
          ∙ sym (ap (λ (b : Bool). if b then c.queued else (cpu_at m q).queued) (ne_eqb q p ne))
    ]

pub world-set_queued : (m : Machine) (p n : ℕ) → p < length m.cpus
    → world (set_queued m p n) ≡ put_queued (world m) p n
unfolding set_queued
world-set_queued m p n lt =
    let c : CpuState = record (cpu_at m p) { queued = n } in
    let frame = frame-set_cpu m p c refl in
    alike (world (set_cpu m p c)) (put_queued (world m) p n) (record {
      mode = mode-set_cpu m p c;
      turns = turns-set_cpu m p c;
      threshold = threshold-set_cpu m p c;
      format = format-set_cpu m p c;
      sockets = sockets-set_cpu m p c;
      word = λ l. word-set_cpu m p c l;
      node = λ k. node-set_cpu m p c refl k;
      frame = λ u. frame u;
      held =
          λ u l. held-set_cpu m p c u l (frame_at (set_cpu m p c) u) ∙ ap (held_at m u l) (frame u);
      queued = λ q. queued_changed m p c lt q;
      rw = λ i. rw-set_cpu m p c i;
      kind = λ i. kind-set_cpu m p c i;
      entry = λ l. entry-set_cpu m p c l;
      halted = λ q. halted-set_cpu m p c refl q;
      kicked = λ q. kicked-set_cpu m p c refl q;
    })

halted_changed : (m : Machine) (p : ℕ) (c : CpuState) → p < length m.cpus → (q : ℕ)
    → halted_at (set_cpu m p c) q ≡ (if q == p then c.halted else halted_at m q)
unfolding halted_at
halted_changed m p c lt q =
    elim (cases_eq q p) [
      | inl e ↦
          let P : ℕ → Type 0 = λ r.
          (cpu_at (set_cpu m p c) r).halted ≡ (if r == p then c.halted else (cpu_at m r).halted) in
          subst P (sym e)
          (ap (λ (d : CpuState). d.halted) (cpu_same m p c lt)
          ∙ sym (ap (λ (b : Bool). if b then c.halted else (cpu_at m p).halted)
          (eq-eqb p p refl)))
      | inr ne ↦ ap (λ (d : CpuState). d.halted) (cpu_other m p q c ne)
          ∙ sym (ap (λ (b : Bool). if b then c.halted else (cpu_at m q).halted) (ne_eqb q p ne))
    ]

pub frame-set_halted : (m : Machine) (p : ℕ) (b : Bool) (u : Waiter)
    → frame_at (set_halted m p b) u ≡ frame_at m u
unfolding set_halted
frame-set_halted m p b u = frame-set_cpu m p (record (cpu_at m p) { halted = b }) refl u

pub world-set_halted : (m : Machine) (p : ℕ) (b : Bool) → p < length m.cpus
    → world (set_halted m p b) ≡ put_halted (world m) p b
unfolding set_halted
world-set_halted m p b lt =
    let c : CpuState = record (cpu_at m p) { halted = b } in
    let frame = frame-set_cpu m p c refl in
    alike (world (set_cpu m p c)) (put_halted (world m) p b) (record {
      mode = mode-set_cpu m p c;
      turns = turns-set_cpu m p c;
      threshold = threshold-set_cpu m p c;
      format = format-set_cpu m p c;
      sockets = sockets-set_cpu m p c;
      word = λ l. word-set_cpu m p c l;
      node = λ k. node-set_cpu m p c refl k;
      frame = λ u. frame u;
      held =
          λ u l. held-set_cpu m p c u l (frame_at (set_cpu m p c) u) ∙ ap (held_at m u l) (frame u);
      queued = λ q. queued-set_cpu m p c refl q;
      rw = λ i. rw-set_cpu m p c i;
      kind = λ i. kind-set_cpu m p c i;
      entry = λ l. entry-set_cpu m p c l;
      halted = λ q. halted_changed m p c lt q;
      kicked = λ q. kicked-set_cpu m p c refl q;
    })

kicked_changed : (m : Machine) (p : ℕ) (c : CpuState) → p < length m.cpus → (q : ℕ)
    → kicked_at (set_cpu m p c) q ≡ (if q == p then c.kicked else kicked_at m q)
unfolding kicked_at
kicked_changed m p c lt q =
    elim (cases_eq q p) [
      | inl e ↦
          let P : ℕ → Type 0 = λ r.
          (cpu_at (set_cpu m p c) r).kicked ≡ (if r == p then c.kicked else (cpu_at m r).kicked) in
          subst P (sym e)
          (ap (λ (d : CpuState). d.kicked) (cpu_same m p c lt)
          ∙ sym (ap (λ (b : Bool). if b then c.kicked else (cpu_at m p).kicked)
          (eq-eqb p p refl)))
      | inr ne ↦ ap (λ (d : CpuState). d.kicked) (cpu_other m p q c ne)
          ∙ sym (ap (λ (b : Bool). if b then c.kicked else (cpu_at m q).kicked) (ne_eqb q p ne))
    ]

pub frame-set_kicked : (m : Machine) (p : ℕ) (b : Bool) (u : Waiter)
    → frame_at (set_kicked m p b) u ≡ frame_at m u
unfolding set_kicked
frame-set_kicked m p b u = frame-set_cpu m p (record (cpu_at m p) { kicked = b }) refl u

pub world-set_kicked : (m : Machine) (p : ℕ) (b : Bool) → p < length m.cpus
    → world (set_kicked m p b) ≡ put_kicked (world m) p b
unfolding set_kicked
world-set_kicked m p b lt =
    let c : CpuState = record (cpu_at m p) { kicked = b } in
    let frame = frame-set_cpu m p c refl in
    alike (world (set_cpu m p c)) (put_kicked (world m) p b) (record {
      mode = mode-set_cpu m p c;
      turns = turns-set_cpu m p c;
      threshold = threshold-set_cpu m p c;
      format = format-set_cpu m p c;
      sockets = sockets-set_cpu m p c;
      word = λ l. word-set_cpu m p c l;
      node = λ k. node-set_cpu m p c refl k;
      frame = λ u. frame u;
      held =
          λ u l. held-set_cpu m p c u l (frame_at (set_cpu m p c) u) ∙ ap (held_at m u l) (frame u);
      queued = λ q. queued-set_cpu m p c refl q;
      rw = λ i. rw-set_cpu m p c i;
      kind = λ i. kind-set_cpu m p c i;
      entry = λ l. entry-set_cpu m p c l;
      halted = λ q. halted-set_cpu m p c refl q;
      kicked = λ q. kicked_changed m p c lt q;
    })

-- a machine with another hash
abbrev pub hashing : Machine → List Entry → Machine
hashing m es = record m { hash = es }

held-hashing : (m : Machine) (es : List Entry) (u : Waiter) (l : LockName) (o : Option Frame)
    → held_at (hashing m es) u l o ≡ held_at m u l o
held-hashing m es u l None = refl
held-hashing m es u l (Some d) = refl

pub frame-hashing : (m : Machine) (es : List Entry) (u : Waiter)
    → frame_at (hashing m es) u ≡ frame_at m u
unfolding frame_at cpu_at
frame-hashing m es u = refl

node-hashing : (m : Machine) (es : List Entry) (n : NodeName)
    → node_at (hashing m es) n ≡ node_at m n
unfolding node_at cpu_at
node-hashing m es n = refl

queued-hashing : (m : Machine) (es : List Entry) (p : ℕ)
    → queued_at (hashing m es) p ≡ queued_at m p
unfolding queued_at cpu_at
queued-hashing m es p = refl

word-hashing : (m : Machine) (es : List Entry) (l : LockName)
    → word_at (hashing m es) l ≡ word_at m l
unfolding word_at lock_at
word-hashing m es l = refl

rw-hashing : (m : Machine) (es : List Entry) (i : ℕ) → rw_at (hashing m es) i ≡ rw_at m i
unfolding rw_at lock_at
rw-hashing m es i = refl

halted-hashing : (m : Machine) (es : List Entry) (q : ℕ)
    → halted_at (hashing m es) q ≡ halted_at m q
unfolding halted_at cpu_at
halted-hashing m es q = refl

kicked-hashing : (m : Machine) (es : List Entry) (q : ℕ)
    → kicked_at (hashing m es) q ≡ kicked_at m q
unfolding kicked_at cpu_at
kicked-hashing m es q = refl

world-hashing : (m : Machine) (l : LockName) (x : Option NodeName) (es : List Entry)
    → ((k : LockName) → entry_at (hashing m es) k ≡ (if same_lock k l then x else entry_at m k))
    → world (hashing m es) ≡ put_entry (world m) l x
world-hashing m l x es entries =
    alike (world (hashing m es)) (put_entry (world m) l x) (record {
      mode = refl;
      turns = refl;
      threshold = refl;
      format = refl;
      sockets = refl;
      word = λ k. word-hashing m es k;
      node = λ n. node-hashing m es n;
      frame = λ u. frame-hashing m es u;
      held = λ u k. held-hashing m es u k (frame_at (hashing m es) u)
          ∙ ap (held_at m u k) (frame-hashing m es u);
      queued = λ p. queued-hashing m es p;
      rw = λ i. rw-hashing m es i;
      kind = λ i. refl;
      entry = entries;
      halted = λ q. halted-hashing m es q;
      kicked = λ q. kicked-hashing m es q;
    })

pub world-set_entry : (m : Machine) (l : LockName) (x : Option NodeName)
    → world (set_entry m l x) ≡ put_entry (world m) l x
unfolding set_entry entry_at
world-set_entry m l None =
    world-hashing m l None (without_entry l m.hash) (λ k. removed_now k l m.hash)
world-set_entry m l (Some n) =
    world-hashing m l (Some n) (with_entry l n (without_entry l m.hash))
    (λ k. entered_now k l n m.hash)

pub frame-set_entry : (m : Machine) (l : LockName) (x : Option NodeName) (u : Waiter)
    → frame_at (set_entry m l x) u ≡ frame_at m u
unfolding set_entry
frame-set_entry m l None u = frame-hashing m (without_entry l m.hash) u
frame-set_entry m l (Some n) u = frame-hashing m (with_entry l n (without_entry l m.hash)) u

node_changed : (m : Machine) (n : NodeName) (c : CpuState) (x : Node) → n.cpu < length m.cpus
    → n.index < length (cpu_at m n.cpu).nodes → c.nodes ≡ set (cpu_at m n.cpu).nodes n.index x
    → (k : NodeName) → node_at (set_cpu m n.cpu c) k ≡ (if same_node k n then x else node_at m k)
unfolding node_at
node_changed m n c x lt within nodes k =
    elim (node_cases k n) [
      | inl e ↦
          let P : NodeName → Type 0 =
          λ v. node_at (set_cpu m n.cpu c) v ≡ (if same_node v n then x else node_at m v) in
          subst P (sym e)
          (ap (λ (d : CpuState). get_or d.nodes n.index rest_node) (cpu_same m n.cpu c lt)
          ∙ ap (λ (ns : List Node). get_or ns n.index rest_node) nodes
          ∙ get_or-set_same (cpu_at m n.cpu).nodes n.index x rest_node within
          ∙ sym (ap (λ (b : Bool). if b then x else node_at m n) (same_node-self n)))
      | inr ne ↦ kept ne
          ∙ sym (ap (λ (b : Bool). if b then x else node_at m k) (same_node-else k n ne))
    ]
  where
    kept : k ≢ n → node_at (set_cpu m n.cpu c) k ≡ node_at m k
    kept ne =
        elim (cases_eq k.cpu n.cpu) [
          | inl e ↦
              let P : ℕ → Type 0 =
              λ q. get_or (cpu_at (set_cpu m n.cpu c) q).nodes k.index rest_node
              ≡ get_or (cpu_at m q).nodes k.index rest_node in
              subst P (sym e)
              (ap (λ (d : CpuState). get_or d.nodes k.index rest_node) (cpu_same m n.cpu c lt)
              ∙ ap (λ (ns : List Node). get_or ns k.index rest_node) nodes
              ∙ get_or-set_other (cpu_at m n.cpu).nodes n.index k.index x rest_node
              (λ q. ne (λ i. record { cpu = e i; index = q i })))
          | inr z ↦
              ap (λ (d : CpuState). get_or d.nodes k.index rest_node) (cpu_other m n.cpu k.cpu c z)
        ]

pub frame-set_node : (m : Machine) (n : NodeName) (x : Node) (u : Waiter)
    → frame_at (set_node m n x) u ≡ frame_at m u
unfolding set_node
frame-set_node m n x u =
    frame-set_cpu m n.cpu (record (cpu_at m n.cpu) { nodes = set (cpu_at m n.cpu).nodes n.index x })
    refl u

pub halted-set_node : (m : Machine) (n : NodeName) (x : Node) (q : ℕ)
    → halted_at (set_node m n x) q ≡ halted_at m q
unfolding set_node
halted-set_node m n x q =
    halted-set_cpu m n.cpu (record (cpu_at m n.cpu) {
      nodes = set (cpu_at m n.cpu).nodes n.index x;
    }) refl q

pub kicked-set_node : (m : Machine) (n : NodeName) (x : Node) (q : ℕ)
    → kicked_at (set_node m n x) q ≡ kicked_at m q
unfolding set_node
kicked-set_node m n x q =
    kicked-set_cpu m n.cpu (record (cpu_at m n.cpu) {
      nodes = set (cpu_at m n.cpu).nodes n.index x;
    }) refl q

pub frame-set_queued : (m : Machine) (p n : ℕ) (u : Waiter)
    → frame_at (set_queued m p n) u ≡ frame_at m u
unfolding set_queued
frame-set_queued m p n u = frame-set_cpu m p (record (cpu_at m p) { queued = n }) refl u

pub world-set_node : (m : Machine) (n : NodeName) (x : Node) → HasNode m n
    → length (cpu_at m n.cpu).nodes ≡ 4 → world (set_node m n x) ≡ put_node (world m) n x
unfolding set_node
world-set_node m n x has four =
    let c : CpuState = record (cpu_at m n.cpu) { nodes = set (cpu_at m n.cpu).nodes n.index x } in
    let frame = frame-set_cpu m n.cpu c refl in
    alike (world (set_cpu m n.cpu c)) (put_node (world m) n x) (record {
      mode = mode-set_cpu m n.cpu c;
      turns = turns-set_cpu m n.cpu c;
      threshold = threshold-set_cpu m n.cpu c;
      format = format-set_cpu m n.cpu c;
      sockets = sockets-set_cpu m n.cpu c;
      word = λ l. word-set_cpu m n.cpu c l;
      node = λ k. node_changed m n c x has.cpu (omega (arith, four, has.index)) refl k;
      frame = λ u. frame u;
      held = λ u l. held-set_cpu m n.cpu c u l (frame_at (set_cpu m n.cpu c) u)
          ∙ ap (held_at m u l) (frame u);
      queued = λ q. queued-set_cpu m n.cpu c refl q;
      rw = λ i. rw-set_cpu m n.cpu c i;
      kind = λ i. kind-set_cpu m n.cpu c i;
      entry = λ l. entry-set_cpu m n.cpu c l;
      halted = λ q. halted-set_cpu m n.cpu c refl q;
      kicked = λ q. kicked-set_cpu m n.cpu c refl q;
    })

pub frame-set_word : (m : Machine) (l : LockName) (x : Fields) (u : Waiter)
    → frame_at (set_word m l x) u ≡ frame_at m u
unfolding frame_at cpu_at set_word set_lock
frame-set_word m l x u = refl

node-set_word : (m : Machine) (l : LockName) (x : Fields) (n : NodeName)
    → node_at (set_word m l x) n ≡ node_at m n
unfolding node_at cpu_at set_word set_lock
node-set_word m l x n = refl

queued-set_word : (m : Machine) (l : LockName) (x : Fields) (p : ℕ)
    → queued_at (set_word m l x) p ≡ queued_at m p
unfolding queued_at cpu_at set_word set_lock
queued-set_word m l x p = refl

setup-set_word : (m : Machine) (l : LockName) (x : Fields) → (set_word m l x).setup ≡ m.setup
unfolding set_word set_lock
setup-set_word m l x = refl

rw-set_word : (m : Machine) (l : LockName) (x : Fields) (i : ℕ)
    → rw_at (set_word m l x) i ≡ rw_at m i
unfolding rw_at lock_at set_word set_lock
rw-set_word m l x i =
    let y : LockState =
    (if l.wait then record (get_or m.locks l.index rest_lock) {
      wait =
          x;
    } else record (get_or m.locks l.index rest_lock) { spin = x }) in
    elim (cases_eq i l.index) [
      | inl s ↦ elim (cases_lt l.index (length m.locks)) [
        | inl lt ↦ ap (λ n. (get_or (set m.locks l.index y) n rest_lock).rw) s
            ∙ ap (λ (z : LockState). z.rw) (get_or-set_same m.locks l.index y rest_lock lt)
            ∙ by l.wait (get_or m.locks l.index rest_lock)
            ∙ ap (λ n. (get_or m.locks n rest_lock).rw) (sym s)
        | inr ge ↦ ap (λ ls. (get_or ls i rest_lock).rw) (set_past m.locks l.index y ge)
      ]
      | inr ne ↦ ap (λ (z : LockState). z.rw) (get_or-set_other m.locks l.index i y rest_lock ne)
    ]
  where
    by : (b : Bool) (z : LockState)
        → (if b then record z { wait = x } else record z { spin = x }).rw ≡ z.rw
    by true z = refl
    by false z = refl

entry-set_word : (m : Machine) (l : LockName) (x : Fields) (k : LockName)
    → entry_at (set_word m l x) k ≡ entry_at m k
unfolding entry_at set_word set_lock
entry-set_word m l x k = refl

halted-set_word : (m : Machine) (l : LockName) (x : Fields) (q : ℕ)
    → halted_at (set_word m l x) q ≡ halted_at m q
unfolding halted_at cpu_at set_word set_lock
halted-set_word m l x q = refl

kicked-set_word : (m : Machine) (l : LockName) (x : Fields) (q : ℕ)
    → kicked_at (set_word m l x) q ≡ kicked_at m q
unfolding kicked_at cpu_at set_word set_lock
kicked-set_word m l x q = refl

pub world-set_word : (m : Machine) (l : LockName) (x : Fields) → l.index < length m.locks
    → world (set_word m l x) ≡ put_word (world m) l x
world-set_word m l x lt =
    alike (world (set_word m l x)) (put_word (world m) l x) (record {
      mode = ap (λ (s : Setup). s.mode) (setup-set_word m l x);
      turns = ap (λ (s : Setup). s.spins) (setup-set_word m l x);
      threshold = ap (λ (s : Setup). s.threshold) (setup-set_word m l x);
      format = ap (λ (s : Setup). s.format) (setup-set_word m l x);
      sockets = ap (λ (s : Setup). s.topology.sockets.items) (setup-set_word m l x);
      word = λ k. word_set_word m l x lt k;
      node = λ n. node-set_word m l x n;
      frame = λ u. frame-set_word m l x u;
      held = λ u k. held-set_lock m x l u k (frame_at (set_word m l x) u)
          ∙ ap (held_at m u k) (frame-set_word m l x u);
      queued = λ p. queued-set_word m l x p;
      rw = λ i. rw-set_word m l x i;
      kind = λ i. ap (λ (s : Setup). slice_index_or s.locks.items i Spin) (setup-set_word m l x);
      entry = λ k. entry-set_word m l x k;
      halted = λ q. halted-set_word m l x q;
      kicked = λ q. kicked-set_word m l x q;
    })

pub frame-set_counts : (m : Machine) (x : Counts) (u : Waiter)
    → frame_at (set_counts m x) u ≡ frame_at m u
unfolding frame_at cpu_at set_counts
frame-set_counts m x u = refl

node-set_counts : (m : Machine) (x : Counts) (n : NodeName)
    → node_at (set_counts m x) n ≡ node_at m n
unfolding node_at cpu_at set_counts
node-set_counts m x n = refl

queued-set_counts : (m : Machine) (x : Counts) (p : ℕ)
    → queued_at (set_counts m x) p ≡ queued_at m p
unfolding queued_at cpu_at set_counts
queued-set_counts m x p = refl

word-set_counts : (m : Machine) (x : Counts) (l : LockName)
    → word_at (set_counts m x) l ≡ word_at m l
unfolding word_at lock_at set_counts
word-set_counts m x l = refl

setup-set_counts : (m : Machine) (x : Counts) → (set_counts m x).setup ≡ m.setup
unfolding set_counts
setup-set_counts m x = refl

rw-set_counts : (m : Machine) (x : Counts) (i : ℕ) → rw_at (set_counts m x) i ≡ rw_at m i
unfolding rw_at lock_at set_counts
rw-set_counts m x i = refl

entry-set_counts : (m : Machine) (x : Counts) (k : LockName)
    → entry_at (set_counts m x) k ≡ entry_at m k
unfolding entry_at set_counts
entry-set_counts m x k = refl

halted-set_counts : (m : Machine) (x : Counts) (q : ℕ)
    → halted_at (set_counts m x) q ≡ halted_at m q
unfolding halted_at cpu_at set_counts
halted-set_counts m x q = refl

kicked-set_counts : (m : Machine) (x : Counts) (q : ℕ)
    → kicked_at (set_counts m x) q ≡ kicked_at m q
unfolding kicked_at cpu_at set_counts
kicked-set_counts m x q = refl

pub world-set_counts : (m : Machine) (x : Counts) → world (set_counts m x) ≡ world m
world-set_counts m x =
    alike (world (set_counts m x)) (world m) (record {
      mode = ap (λ (s : Setup). s.mode) (setup-set_counts m x);
      turns = ap (λ (s : Setup). s.spins) (setup-set_counts m x);
      threshold = ap (λ (s : Setup). s.threshold) (setup-set_counts m x);
      format = ap (λ (s : Setup). s.format) (setup-set_counts m x);
      sockets = ap (λ (s : Setup). s.topology.sockets.items) (setup-set_counts m x);
      word = λ k. word-set_counts m x k;
      node = λ n. node-set_counts m x n;
      frame = λ u. frame-set_counts m x u;
      held = λ u k. held-set_counts m x u k (frame_at (set_counts m x) u)
          ∙ ap (held_at m u k) (frame-set_counts m x u);
      queued = λ p. queued-set_counts m x p;
      rw = λ i. rw-set_counts m x i;
      kind = λ i. ap (λ (s : Setup). slice_index_or s.locks.items i Spin) (setup-set_counts m x);
      entry = λ k. entry-set_counts m x k;
      halted = λ q. halted-set_counts m x q;
      kicked = λ q. kicked-set_counts m x q;
    })
