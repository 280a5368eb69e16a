-- Machines with other processors: a processor that is read and written as before goes as before.
use Rattle.std.proofs.Common.{◌≡◌, ℕ, ◌+◌, ◌-◌, ◌<◌, Option, Some, None, Bool, true, false, List}
use Rattle.std.proofs.Common.{ap, sym, ◌∙◌, subst, length, take, get_or, set, slice_get}
use Rattle.std.proofs.lemmas.List.{length-set}
use Rattle.std.specs.Prelude.{if◌then◌else◌, ◌==◌, unwrap_or}
use Rattle.lk_word.specs.declared.spin_word.NodeName.{NodeName}
use Rattle.lk_rows.specs.declared.setup.Op.{Op}
use Rattle.lk_rows.specs.declared.parts.Node.{Node}
use Rattle.lk_rows.specs.declared.parts.Frame.{Frame}
use Rattle.lk_rows.specs.Machine.{Machine, CpuState, cpu_at, node_at, frame_at, depth_at, queued_at}
use Rattle.lk_rows.specs.Machine.{top_frame, set_cpu, set_node, set_top, set_queued}
use Rattle.lk_rows.specs.Machine.{pop, rest_frame, rest_node}
use Rattle.lk_rows.specs.Moves.{settled, settled_at, program_of, done, granted, missed, leave, skipped}
use Rattle.lk_rows.specs.Row.{Lead, Goes, Enters, Granted, Freed, Missed, Leaves, Yields}
use Rattle.lk_rows.specs.Row.{Done, TakesWait, moved}
use Rattle.lk_rows.specs.Row.{entered}
use Rattle.lk_touch.proofs.TouchingRows.{IsNearLead}

-- the newest of these frames
top_in : List Frame → Frame
top_in fs = unwrap_or (slice_get fs (length fs - 1)) rest_frame

-- with other processors
abbrev pub with_cpus : (List CpuState → List CpuState) → Machine → Machine
with_cpus h m = record m { cpus = h m.cpus }

-- a processor is read and written as without them
pub record Is (h : List CpuState → List CpuState) (r : ℕ) : Type 0 where
  pub cpu : (m : Machine) → cpu_at (with_cpus h m) r ≡ cpu_at m r
  pub put : (m : Machine) (c : CpuState) → r < length m.cpus
      → set_cpu (with_cpus h m) r c ≡ with_cpus h (set_cpu m r c)

module _ (h : List CpuState → List CpuState) (p : ℕ) (isp : Is h p) where
  abbrev amid : Machine → Machine
  amid m = with_cpus h m

  -- what is read

  pub cpu-among : (m : Machine) → cpu_at (amid m) p ≡ cpu_at m p
  cpu-among m = isp.cpu m

  pub top-among : (m : Machine) → top_frame (amid m) p ≡ top_frame m p
  unfolding frame_at depth_at top_in
  top-among m = ap (λ (c : CpuState). top_in c.frames) (cpu-among m)

  pub queued-among : (m : Machine) → queued_at (amid m) p ≡ queued_at m p
  unfolding queued_at
  queued-among m = ap (λ (c : CpuState). c.queued) (cpu-among m)

  pub node-among : (m : Machine) (n : NodeName) → Is h n.cpu → node_at (amid m) n ≡ node_at m n
  unfolding node_at
  node-among m n is = ap (λ (c : CpuState). get_or c.nodes n.index rest_node) (is.cpu m)

  -- what is written

  pub write-to : (q : ℕ) → Is h q → (g : CpuState → CpuState) (m : Machine) → q < length m.cpus
      → set_cpu (amid m) q (g (cpu_at (amid m) q)) ≡ amid (set_cpu m q (g (cpu_at m q)))
  write-to q is g m lt = ap (λ c. set_cpu (amid m) q (g c)) (is.cpu m) ∙ is.put m (g (cpu_at m q)) lt

  pub write-among : (g : CpuState → CpuState) (m : Machine) → p < length m.cpus
      → set_cpu (amid m) p (g (cpu_at (amid m) p)) ≡ amid (set_cpu m p (g (cpu_at m p)))
  write-among g m lt = write-to p isp g m lt

  pub set_top-among : (m : Machine) (f : Frame) → p < length m.cpus
      → set_top (amid m) p f ≡ amid (set_top m p f)
  unfolding set_top depth_at
  set_top-among m f lt = write-among (λ c. record c { frames = set c.frames (length c.frames - 1) f }) m lt

  pub pop-among : (m : Machine) → p < length m.cpus → pop (amid m) p ≡ amid (pop m p)
  unfolding pop depth_at
  pop-among m lt = write-among (λ c. record c { frames = take (length c.frames - 1) c.frames }) m lt

  pub set_queued-among : (m : Machine) (i : ℕ) → p < length m.cpus
      → set_queued (amid m) p i ≡ amid (set_queued m p i)
  unfolding set_queued
  set_queued-among m i lt = write-among (λ c. record c { queued = i }) m lt

  pub set_node-among : (m : Machine) (n : NodeName) (x : Node) → Is h n.cpu → n.cpu < length m.cpus
      → set_node (amid m) n x ≡ amid (set_node m n x)
  unfolding set_node
  set_node-among m n x is lt = write-to n.cpu is (λ c. record c { nodes = set c.nodes n.index x }) m lt

  -- the processor is still there

  pub put-kept : (m : Machine) (q : ℕ) (c : CpuState) → p < length m.cpus → p < length (set_cpu m q c).cpus
  unfolding set_cpu
  put-kept m q c lt = subst (λ (n : ℕ). p < n) (sym (length-set m.cpus q c)) lt

  pub top-kept : (m : Machine) (f : Frame) → p < length m.cpus → p < length (set_top m p f).cpus
  unfolding set_top
  top-kept m f lt = put-kept m p _ lt

  pub queued-kept : (m : Machine) (i : ℕ) → p < length m.cpus → p < length (set_queued m p i).cpus
  unfolding set_queued
  queued-kept m i lt = put-kept m p _ lt

  pub node-kept : (m : Machine) (n : NodeName) (x : Node) → p < length m.cpus → p < length (set_node m n x).cpus
  unfolding set_node
  node-kept m n x lt = put-kept m n.cpu _ lt

  -- where a frame goes

  one : (b : Bool) (m n k l : Machine) → k ≡ amid m → l ≡ amid n
      → (if b then k else l) ≡ amid (if b then m else n)
  one true m n k l x y = x
  one false m n k l x y = y

  pub settled_at-among : (m : Machine) (f : Frame) (op : Option Op) → p < length m.cpus
      → settled_at (amid m) p f op ≡ amid (settled_at m p f op)
  settled_at-among m f None lt =
      one (f.ctx == 0) _ _ _ _ (set_top-among m (record f { place = None }) lt) (pop-among m lt)
  settled_at-among m f (Some op) lt = set_top-among m _ lt

  pub settled-among : (m : Machine) (f : Frame) → p < length m.cpus
      → settled (amid m) p f ≡ amid (settled m p f)
  settled-among m f lt = settled_at-among m f (slice_get (program_of m p f) f.«at») lt

  pub done-among : (m : Machine) → p < length m.cpus → done (amid m) p ≡ amid (done m p)
  done-among m lt =
      ap (λ (g : Frame). settled (amid m) p (record g { «at» = g.«at» + 1 })) (top-among m)
      ∙ settled-among m (record (top_frame m p) { «at» = (top_frame m p).«at» + 1 }) lt

  pub missed-among : (m : Machine) → p < length m.cpus → missed (amid m) p ≡ amid (missed m p)
  missed-among m lt =
      ap (λ (g : Frame). settled (amid m) p (record g { «at» = g.«at» + skipped m p g })) (top-among m)
      ∙ settled-among m (record (top_frame m p) { «at» = (top_frame m p).«at» + skipped m p (top_frame m p) }) lt

  pub granted-among : (m : Machine) → p < length m.cpus → granted (amid m) p ≡ amid (granted m p)
  granted-among m lt =
      ap (λ (g : Frame). if g.lock.wait then set_top (amid m) p (record g { place = g.then })
      else done (amid m) p) (top-among m)
      ∙ one (top_frame m p).lock.wait _ _ _ _ (set_top-among m _ lt) (done-among m lt)

  pub leave-among : (m : Machine) → p < length m.cpus → leave (amid m) p ≡ amid (leave m p)
  leave-among m lt =
      ap (λ (g : Frame). set_queued (set_top (amid m) p (record g { me = None })) p
      (queued_at (amid m) p - 1)) (top-among m)
      ∙ ap (λ i. set_queued (set_top (amid m) p (record (top_frame m p) { me = None })) p (i - 1))
      (queued-among m)
      ∙ ap (λ k. set_queued k p (queued_at m p - 1)) (set_top-among m (record (top_frame m p) { me = None }) lt)
      ∙ set_queued-among (set_top m p (record (top_frame m p) { me = None })) (queued_at m p - 1)
      (top-kept m _ lt)

  pub moved-among : (m : Machine) (f : Frame) (lead : Lead) → p < length m.cpus → IsNearLead p lead
      → moved (amid m) p f lead ≡ amid (moved m p f lead)
  moved-among m f (Goes c cs) lt near = set_top-among m _ lt
  moved-among m f (Enters None c) lt near = set_top-among m _ lt
  moved-among m f (Enters (Some n) c) lt near =
      ap (λ k. set_top k p (entered f (Some n) c)) (set_node-among m n rest_node (subst (λ (r : ℕ). Is h r) (sym near) isp)
      (subst (λ (r : ℕ). r < length m.cpus) (sym near) lt))
      ∙ set_top-among (set_node m n rest_node) _ (node-kept m n rest_node lt)
  moved-among m f Granted lt near = granted-among m lt
  moved-among m f Freed lt near = done-among m lt
  moved-among m f Missed lt near = missed-among m lt
  moved-among m f Done lt near = done-among m lt
  moved-among m f (TakesWait c) lt near = set_top-among m _ lt
  moved-among m f Leaves lt near =
      ap (λ k. granted k p) (leave-among m lt)
      ∙ granted-among (leave m p) (queued-kept (set_top m p _) _ (top-kept m _ lt))
  moved-among m f (Yields c cs) lt near = set_top-among m _ lt
