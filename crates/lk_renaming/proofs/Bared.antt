-- What nobody reads of a machine, renamed, is what nobody reads of the renamed machine.
use Rattle.std.proofs.Common.{◌≡◌, ℕ, Option, Some, None, Bool, true, false, List, [], ◌∷◌, map}
use Rattle.std.proofs.Common.{length, zero, suc, ap, refl, sym, ◌∙◌, ◌||◌, if◌then◌else◌}
use Rattle.lk_renaming.proofs.Names.{length-map, NodeName, CpuState, Machine, Frame, Node, renamed}
use Rattle.lk_renaming.proofs.Names.{renamed_cpu, renamed_cpus, renamed_frame, renamed_link}
use Rattle.lk_renaming.proofs.Names.{renamed_node, Renaming}
use Rattle.lk_rows.specs.Machine.{cpu_at}
use Rattle.lk_idle.proofs.Goes.{cpu-bared}
use Rattle.lk_idle.specs.Alike.{bared, bared_cpu, cut, rested_cpu, rested_frame}
use Rattle.lk_idle.specs.Free.{freed, freed_cpu, freed_node, freed_nodes, is_owned, owns}
use Rattle.lk_idle.specs.{Lives.lives_at, declared.lives.Lives.Lives}
use Rattle.lk_renaming.specs.Law.{AlikeStaysAlike}

module _ (r : Renaming) where
  -- a register at rest, if it does not live
  kept : (b : Bool) (o : Option NodeName)
      → (if b then renamed_link r o else None) ≡ renamed_link r (if b then o else None)
  kept true o = refl
  kept false o = refl

  frame_cut : (l : Lives) (f : Frame) → cut l (renamed_frame r f) ≡ renamed_frame r (cut l f)
  frame_cut l f = (λ i. record (cut l f) {
    me = renamed_link r f.me;
    prev = kept l.prev f.prev i;
    second = kept l.second f.second i;
    y = kept l.y f.y i;
    a = kept l.a f.a i;
    b = kept l.b f.b i;
    t = kept l.t f.t i;
    target = kept l.target f.target i;
  })

  frames_rest : (fs : List Frame)
      → map (λ f. rested_frame f) (map (λ f. renamed_frame r f) fs) ≡ map (λ f. renamed_frame r f) (map (λ f. rested_frame f) fs)
  frames_rest [] = refl
  frames_rest (f ∷ fs) = (λ i. frame_cut (lives_at f.place f.why) f i ∷ frames_rest fs i)

  own_same : (o : Option NodeName) (i : ℕ) → owns (renamed_link r o) i ≡ owns o i
  own_same None i = refl
  own_same (Some n) i = refl

  owned_same : (fs : List Frame) (i : ℕ) → is_owned (map (λ f. renamed_frame r f) fs) i ≡ is_owned fs i
  owned_same [] i = refl
  owned_same (f ∷ fs) i = (λ j. own_same f.me i j || owned_same fs i j)

  node_rest : (b : Bool) (x : Node) → freed_node b (renamed_node r x) ≡ renamed_node r (freed_node b x)
  node_rest true x = refl
  node_rest false x = refl

  nodes_rest : (fs : List Frame) (i : ℕ) (xs : List Node)
      → freed_nodes (map (λ f. renamed_frame r f) fs) i (map (λ x. renamed_node r x) xs)
      ≡ map (λ x. renamed_node r x) (freed_nodes fs i xs)
  nodes_rest fs i [] = refl
  nodes_rest fs i (x ∷ xs) =
      ap (λ b. freed_node b (renamed_node r x)
      ∷ freed_nodes (map (λ f. renamed_frame r f) fs) (suc i) (map (λ y. renamed_node r y) xs)) (owned_same fs i)
      ∙ (λ j. node_rest (is_owned fs i) x j ∷ nodes_rest fs (suc i) xs j)

  cpu_bare : (c : CpuState) → bared_cpu (renamed_cpu r c) ≡ renamed_cpu r (bared_cpu c)
  cpu_bare c = (λ i. record c { frames = frames_rest c.frames i; nodes = nodes_rest c.frames 0 c.nodes i })

  cpus_bare : (m : Machine) (from count : ℕ)
      → map (λ c. rested_cpu c) (map (λ c. freed_cpu c) (renamed_cpus r m from count))
      ≡ renamed_cpus r (bared m) from count
  cpus_bare m from zero = refl
  cpus_bare m from (suc count) =
      let one : bared_cpu (renamed_cpu r (cpu_at m (r.back from))) ≡ renamed_cpu r (cpu_at (bared m) (r.back from)) =
      cpu_bare (cpu_at m (r.back from)) ∙ ap (λ c. renamed_cpu r c) (sym (cpu-bared m (r.back from))) in
      (λ i. one i ∷ cpus_bare m (suc from) count i)

  bared-renamed : (m : Machine) → bared (renamed r m) ≡ renamed r (bared m)
  bared-renamed m =
      let long : length (bared m).cpus ≡ length m.cpus =
      length-map (freed m).cpus (λ c. rested_cpu c) ∙ length-map m.cpus (λ c. freed_cpu c) in
      let cpus = cpus_bare m 0 (length m.cpus) ∙ ap (λ n. renamed_cpus r (bared m) 0 n) (sym long) in
      (λ i. record (renamed r m) { cpus = cpus i })

pub alike_stays : AlikeStaysAlike
alike_stays r m n alike = bared-renamed r m ∙ ap (λ k. renamed r k) alike ∙ sym (bared-renamed r n)
