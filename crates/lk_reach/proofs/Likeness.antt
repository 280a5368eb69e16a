-- States that differ in what nobody reads alone make the same rows, end the same, and lead to such states.
use Rattle.std.proofs.Common.{◌≡◌, ◌<◌, ℕ, None, length, ap, refl, sym, ◌∙◌, subst, ◌==◌, ◌&&◌}
use Rattle.std.proofs.Common.{◌||◌, not, is_some, if◌then◌else◌}
use Rattle.lk_reach.proofs.Names.{length-map, Act, processor_of, CpuState, Machine, top_frame}
use Rattle.lk_reach.proofs.Names.{Frame, Pc, is_over, row_of, AreAlike, bared, bared_cpu}
use Rattle.lk_reach.proofs.Names.{rested_frame, IsSought, AreOver, MakesRow, after, bare, Sought}
use Rattle.lk_rows.specs.Machine.{cpu_at}
use Rattle.lk_machine.specs.Parts.{place_of}
use Rattle.lk_idle.proofs.{Goes.{cpu-bared, top-bared}, Writes.top_in-rested}
use Rattle.lk_idle.specs.{Alike.{GoesOnAlike, rested_cpu}, Free.{freed, freed_cpu}}
use Rattle.lk_reach.specs.{Deeds.{Does, count_value, row_by}, declared.deeds.Deed.Deed}
use Rattle.lk_names.specs.declared.events.Act.TheVariants as act
use Rattle.lk_reach.specs.declared.deeds.Deed.TheVariants as deed

-- parts that are alike

place_bared : (c : CpuState) → place_of (bared_cpu c) ≡ place_of c
place_bared c = ap (λ (f : Frame). f.place) (top_in-rested c.frames)

row_bared : (c : CpuState) → row_of (bared_cpu c) ≡ row_of c
row_bared c = ap (λ o. if c.preempted || c.halted then None else o) (place_bared c)

over_bared : (c : CpuState) → is_over (bared_cpu c) ≡ is_over c
over_bared c =
    ap (λ n. (n == 1) && not (is_some (place_of (bared_cpu c)))) (length-map c.frames (λ f. rested_frame f))
    ∙ ap (λ o. (length c.frames == 1) && not (is_some o)) (place_bared c)

row_same : (c d : CpuState) → bared_cpu c ≡ bared_cpu d → row_of c ≡ row_of d
row_same c d e = sym (row_bared c) ∙ ap (λ (x : CpuState). row_of x) e ∙ row_bared d

over_same : (c d : CpuState) → bared_cpu c ≡ bared_cpu d → is_over c ≡ is_over d
over_same c d e = sym (over_bared c) ∙ ap (λ (x : CpuState). is_over x) e ∙ over_bared d

pub cpus_bared : (s : Machine) → length (bared s).cpus ≡ length s.cpus
cpus_bared s = length-map (freed s).cpus (λ c. rested_cpu c) ∙ length-map s.cpus (λ c. freed_cpu c)

-- states that are alike
module _ (s t : Machine) (alike : AreAlike s t) where
  pub cpus_alike : length s.cpus ≡ length t.cpus
  cpus_alike = sym (cpus_bared s) ∙ ap (λ (m : Machine). length m.cpus) alike ∙ cpus_bared t

  pub cpu_alike : (p : ℕ) → bared_cpu (cpu_at s p) ≡ bared_cpu (cpu_at t p)
  cpu_alike p = sym (cpu-bared s p) ∙ ap (λ (m : Machine). cpu_at m p) alike ∙ cpu-bared t p

  pub row_alike : (p : ℕ) → row_of (cpu_at s p) ≡ row_of (cpu_at t p)
  row_alike p = row_same (cpu_at s p) (cpu_at t p) (cpu_alike p)

  pub makes_alike : (row : Pc) → MakesRow s row → MakesRow t row
  makes_alike row x = (x.0, subst (λ (n : ℕ). x.0 < n) cpus_alike x.1, sym (row_alike x.0) ∙ x.2)

  pub over_alike : AreOver s → AreOver t
  over_alike over p low =
      sym (over_same (cpu_at s p) (cpu_at t p) (cpu_alike p))
      ∙ over p (subst (λ (n : ℕ). p < n) (sym cpus_alike) low)

  lock_alike : (p : ℕ) → (top_frame s p).lock.index ≡ (top_frame t p).lock.index
  lock_alike p = ap (λ (f : Frame). f.lock.index)
      (sym (top-bared s p) ∙ ap (λ (m : Machine). top_frame m p) alike ∙ top-bared t p)

  row_by_alike : (a : Act) → row_by s a ≡ row_by t a
  row_by_alike (act.Step p) = row_alike p
  row_by_alike a = refl

  module _ (a : Act) (goes : GoesOnAlike s t a) where
    pub after_alike : AreAlike (after s a) (after t a)
    after_alike = ap (λ (m : Machine). bare m) goes.alike

    does_alike : (d : Deed) → Does d s a → Does d t a
    does_alike (deed.Row row) x = sym (row_by_alike a) ∙ x
    does_alike (deed.Event kind) x = (x.0, sym goes.tells ∙ x.1, x.2)
    does_alike (deed.Count n) x =
        subst (λ (i : ℕ). 0 < i) (ap (λ (m : Machine). count_value m.counts n) goes.alike) x

    pub sought_alike : (sought : Sought) → IsSought sought s a → IsSought sought t a
    sought_alike sought x = record {
      does = does_alike sought.deed x.does;
      cpu = x.cpu;
      lock = λ which is. sym (lock_alike (processor_of a)) ∙ x.lock which is;
    }
