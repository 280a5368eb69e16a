-- The processors at rest, one after another.
use Rattle.std.proofs.Common.{◌≡◌, ℕ, zero, suc, ◌+◌, ◌<◌, [], ◌∷◌, ◌++◌, length, get_or, slice_get, ap, ◌∙◌, refl, arith}
use Rattle.lk_rows.specs.declared.setup.Setup.{Setup}
use Rattle.lk_rows.specs.Machine.{HasTop, no_cpu, cpu_at, depth_at, frame_at, top_frame}
use Rattle.lk_rows.specs.Programs.{HasPrograms, IsLawfulSetup, program_at}
use Rattle.lk_rows.specs.Run.{first_frame, rest_cpu, rest_cpus, at_rest}

rest_cpus-suc : (setup : Setup) (p n : ℕ) → rest_cpus setup p (suc n) ≡ rest_cpus setup p n ++ rest_cpu setup (p + n) ∷ []
rest_cpus-suc setup p zero = ap (λ q. rest_cpu setup q ∷ []) (omega arith)
rest_cpus-suc setup p (suc n) =
    let moved : suc p + n ≡ p + suc n = omega arith in
    ap (λ cs. rest_cpu setup p ∷ cs) (rest_cpus-suc setup (suc p) n ∙ ap (λ q. rest_cpus setup (suc p) n ++ rest_cpu setup q ∷ []) moved)

-- one processor more
pub rest_cpus_next : (setup : Setup) (n : ℕ) → rest_cpus setup 0 (n + 1) ≡ rest_cpus setup 0 n ++ rest_cpu setup n ∷ []
rest_cpus_next setup n =
    let more : n + 1 ≡ suc n = omega arith in
    let same : 0 + n ≡ n = omega arith in
    ap (λ q. rest_cpus setup 0 q) more ∙ rest_cpus-suc setup 0 n ∙ ap (λ q. rest_cpus setup 0 n ++ rest_cpu setup q ∷ []) same

pub length-rest_cpus : (setup : Setup) (p n : ℕ) → length (rest_cpus setup p n) ≡ n
length-rest_cpus setup p zero = refl
length-rest_cpus setup p (suc n) = grind (arith, length-rest_cpus setup (suc p) n)

get_or-rest_cpus : (setup : Setup) (p n i : ℕ) → i < n → get_or (rest_cpus setup p n) i no_cpu ≡ rest_cpu setup (p + i)
get_or-rest_cpus setup p zero i within = absurd (omega arith)
get_or-rest_cpus setup p (suc n) zero within = ap (λ q. rest_cpu setup q) (omega arith)
get_or-rest_cpus setup p (suc n) (suc i) within =
    let moved : suc p + i ≡ p + suc i = omega arith in
    get_or-rest_cpus setup (suc p) n i (omega arith) ∙ ap (λ q. rest_cpu setup q) moved

-- the machine at rest, as it is read

pub length-cpus-at_rest : (setup : Setup) → length (at_rest setup).cpus ≡ length setup.topology.sockets.items
length-cpus-at_rest setup = length-rest_cpus setup 0 _

pub cpu_at-at_rest : (setup : Setup) (p : ℕ) → p < length setup.topology.sockets.items → cpu_at (at_rest setup) p ≡ rest_cpu setup p
unfolding cpu_at
cpu_at-at_rest setup p within =
    let same : 0 + p ≡ p = omega arith in
    get_or-rest_cpus setup 0 _ p within ∙ ap (λ q. rest_cpu setup q) same

pub HasTop-at_rest : (setup : Setup) (p : ℕ) → p < length setup.topology.sockets.items → HasTop (at_rest setup) p
unfolding depth_at
HasTop-at_rest setup p within =
    let one : depth_at (at_rest setup) p ≡ 1 = ap (λ c. length c.frames) (cpu_at-at_rest setup p within) in
    record { in_range = omega (arith, length-cpus-at_rest setup); some = omega arith; few = omega arith }

pub top_frame-at_rest : (setup : Setup) (p : ℕ) → p < length setup.topology.sockets.items
    → top_frame (at_rest setup) p ≡ first_frame setup.mode (slice_get (program_at setup p 0) 0)
unfolding depth_at frame_at
top_frame-at_rest setup p within = rw (cpu_at-at_rest setup p within)

-- a lawful setup has the programs of its processors
pub HasPrograms-IsLawfulSetup : (setup : Setup) (p : ℕ) → IsLawfulSetup setup → p < length setup.topology.sockets.items → HasPrograms setup p
HasPrograms-IsLawfulSetup setup p lawful within = record {
  task = omega (arith, lawful.progs);
  handlers = omega (arith, lawful.irqs);
  few = lawful.handlers p;
}

-- what making a machine needs, and reading it at rest
pub ruleset rested = (rest_cpus_next, length-rest_cpus, HasTop-at_rest, length-cpus-at_rest)
