-- A step that leaves the newest frame at its row changes nothing.
use Rattle.std.proofs.Common.{◌≡◌, inl, inr, ℕ, zero, suc, ◌<◌, ◌-◌, Option, Some, None, Bool, true}
use Rattle.std.proofs.Common.{false, refl, sym, ap, ◌∙◌, List, [], ◌∷◌, length, slice_get, set}
use Rattle.std.proofs.Common.{if◌then◌else◌}
use Rattle.std.proofs.lemmas.Option.{slice_get-get_or}
use Rattle.lk_progress.proofs.Names.{cases_Bool, NodeName, CpuState, Machine, no_cpu, rw_at, top_of}
use Rattle.lk_progress.proofs.Names.{node_of, Done, gone, looks, row_on, target, Flag, Frame, Pc}
use Rattle.lk_progress.proofs.Names.{G6, G7, G10, N1, P3, R2, R5, V1, Wr5, after_flag, after_next}
use Rattle.lk_progress.proofs.Names.{admits, frees_wait, chooses, may_halt, course_in, IsThen}
use Rattle.lk_progress.proofs.Names.{world, led, polls}
use Rattle.lk_rows.specs.Machine.{frame_at, set_top, set_cpu, cpu_at, depth_at, node_at}
use Rattle.lk_rows.specs.TopRow.{on_rw, on_flag, on_next}
use Rattle.lk_waits.proofs.Stands.{off, off_unlock}
use Rattle.lk_rows.specs.declared.parts.Flag.TheVariants as flag
use Rattle.lk_names.specs.declared.events.RwHow.TheVariants as how

set_self : {A : Type 0} (xs : List A) (i : ℕ) (x : A) → slice_get xs i ≡ Some x → set xs i x ≡ xs
set_self [] i x e = refl
set_self (y ∷ xs) zero x e = let q : y ≡ x = cc e in ap (λ z. z ∷ xs) (sym q)
set_self (y ∷ xs) (suc i) x e = ap (λ zs. y ∷ zs) (set_self xs i x e)

-- the top frame becomes what it is
pub set_top_same : (m : Machine) (p : ℕ) (f : Frame) → p < length m.cpus → frame_at m (top_of m p) ≡ Some f
    → set_top m p f ≡ m
unfolding set_top set_cpu cpu_at frame_at depth_at
set_top_same m p f lt live =
    let c : CpuState = cpu_at m p in
    let a : set c.frames (length c.frames - 1) f ≡ c.frames = set_self c.frames (length c.frames - 1) f live in
    let b : record c { frames = set c.frames (length c.frames - 1) f } ≡ c = ap (λ (fs : List Frame). record c { frames = fs }) a in
    let d : set m.cpus p c ≡ m.cpus = set_self m.cpus p c (slice_get-get_or m.cpus p no_cpu lt) in
    ap (λ (x : CpuState). record m { cpus = set m.cpus p x }) b ∙ ap (λ (xs : List CpuState). record m { cpus = xs }) d

module _ (m : Machine) (p : ℕ) (f : Frame) (inner : f.lock.wait ≡ true → IsThen f.then) where
  abbrev to : Pc → Option Pc
  to c = (led f (course_in (world m) (top_of m p) f c (target c f)).leads).place

  goes_same : (c d : Pc) → Some d ≡ Some c → set_top m p (gone f d []) ≡ set_top m p (gone f c [])
  goes_same c d e = let q : d ≡ c = cc e in ap (λ (k : Pc). set_top m p (gone f k [])) q

  still_row : (c : Pc) → may_halt c ≡ false → chooses c ≡ false → polls c ≡ true → to c ≡ Some c
      → (row_on m p f c (target c f)).0 ≡ set_top m p (gone f c [])
  still_row V1 a b k e = goes_same V1 _ e
  still_row N1 a b k e = goes_same N1 _ e
  still_row P3 a b k e = goes_same P3 _ e
  still_row G7 a b k e = goes_same G7 _ e
  still_row Wr5 a b k e = goes_same Wr5 _ e
  still_row G6 a b k e = by (node_at m (node_of f.me)).flag e
    where
      by : (x : Flag) → (led f (after_flag x).leads).place ≡ Some G6
          → (on_flag m p f (node_of f.me) (after_flag x)).0 ≡ set_top m p (gone f G6 [])
      by flag.Unset e = refl
      by flag.Go e = cc e
      by (flag.Second n) e = cc e
  still_row G10 a b k e = by (node_at m (node_of f.me)).next e
    where
      by : (x : Option NodeName) → (led f (after_next x).leads).place ≡ Some G10
          → (on_next m p f (node_of f.me) (after_next x)).0 ≡ set_top m p (gone f G10 [])
      by None e = refl
      by (Some n) e = cc e
  still_row R2 a b k e = by (rw_at m f.lock.index).writer e
    where
      by : (w : Bool) → (led f (if w then looks R2 else admits f None how.Irq Done).leads).place ≡ Some R2
          → (on_rw m p f (if w then looks R2 else admits f None how.Irq Done)).0 ≡ set_top m p (gone f R2 [])
      by true e = refl
      by false e = cc e
  still_row R5 a b k e = by (rw_at m f.lock.index).writer e
    where
      by : (w : Bool) → (led f (if w then looks R5 else admits f None how.Queued (frees_wait m.setup.mode)).leads).place ≡ Some R5
          → (on_rw m p f (if w then looks R5 else admits f None how.Queued (frees_wait m.setup.mode))).0 ≡ set_top m p (gone f R5 [])
      by true e = refl
      by false e = absurd (off_unlock R5 (λ z. cc z) (λ z. cc z) m.setup.mode e)
  still_row _ a b k e = cc (a, b, k)

  -- where the frame stays at its row, the machine is as it was
  pub stays_same : (c : Pc) → p < length m.cpus → frame_at m (top_of m p) ≡ Some f → f.place ≡ Some c
      → may_halt c ≡ false → chooses c ≡ false → to c ≡ Some c → (row_on m p f c (target c f)).0 ≡ m
  stays_same c lt live place a b e =
      elim (cases_Bool (polls c)) [
        | inl k ↦
            let same : gone f c [] ≡ f = ap (λ (o : Option Pc). record f { place = o }) (sym place) in
            still_row c a b k e ∙ ap (set_top m p) same ∙ set_top_same m p f lt live
        | inr k ↦ absurd (off (world m) (top_of m p) f inner c a b k e)
      ]
