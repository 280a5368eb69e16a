-- The world of a machine of an ordered setup is ranked, and tidy.
use Rattle.std.proofs.Common.{◌≡◌, ◌≢◌, ◌⊎◌, inl, inr, ℕ, zero, suc, ◌<◌, ◌≤◌, ◌+◌, ◌*◌, Option}
use Rattle.std.proofs.Common.{Some, None, Bool, true, false, refl, sym, ap, ◌∙◌, subst, arith, List}
use Rattle.std.proofs.Common.{[], ◌∷◌, length, slice_get, if◌then◌else◌, ◌==◌, ◌&&◌, ◌||◌}
use Rattle.std.proofs.{lemmas.List.get_or_past, lemmas.Option.slice_get_past}
use Rattle.lk_progress.proofs.Names.{cases_Bool, cases_lt, eqb-true, LockHistory, Reads, Spins}
use Rattle.lk_progress.proofs.Names.{LockName, Mode, Cna, Native, Pv, Virt, Waiter, Machine, no_cpu}
use Rattle.lk_progress.proofs.Names.{program_of, program_at, Frame, Pc, R2, R3, R4, Op, Verb, Lock}
use Rattle.lk_progress.proofs.Names.{RUnlock, Read, Try, TryRead, TryWrite, Unlock, WUnlock, Write}
use Rattle.lk_progress.proofs.Names.{BelongsTo, Footing, ShowsAll, Works, world, Freeing, Owing}
use Rattle.lk_progress.proofs.Names.{Sharing, Spinning, Waiting, level_of, polls, IsOrdered}
use Rattle.lk_progress.proofs.Names.{IsSteady}
use Rattle.lk_names.specs.declared.holder.Manner.{Manner}
use Rattle.lk_rows.specs.{Machine.{frame_at, cpu_at, depth_at}, Moves.rw_name}
use Rattle.lk_rows.specs.Programs.{way_at, way_from, op_way, way_after}
use Rattle.lk_law.specs.{Families.{is_rw_row, is_release_row}, Premises.IsShallow}
use Rattle.lk_law.specs.RwPhase.{RwPhase, is_inner}
use Rattle.lk_law.specs.Sound.{RwBelongs, held_of, held_at, reached, is_over, frees, owes_kick}
use Rattle.lk_law.specs.Sound.{takes_wait, after_wait}
use Rattle.lk_law.specs.SoundWorld.{rw_phase_of, rw_phase_if, rw_phase_at}
use Rattle.lk_waits.specs.{Order.{IsTidy, IsRanked, HoldsInside}, Waits.{lock_at, IsTop}}
use Rattle.lk_progress.specs.Ordered.{waits_for, only_reads}

-- who polls is in an operation that waits
polls_wait : (mode : Mode) (v : Verb) (f : Frame) (c : Pc) → polls c ≡ true → Footing mode v f c → waits_for v ≡ true
polls_wait mode v f c p (Spinning a b e) = by mode v e
  where
    by : (mode : Mode) (v : Verb) → BelongsTo mode v c → waits_for v ≡ true
    by mode Lock e = refl
    by mode Try e = absurd (elim e [ inl q ↦ (let z = ap polls q in cc (z, p)) | inr q ↦ (let z = ap polls q in cc (z, p)) ])
    by Pv Unlock e = absurd (elim e [
      | inl q ↦ (let z = ap polls q in cc (z, p))
      | inr r ↦ elim r [ inl q ↦ (let z = ap polls q in cc (z, p)) | inr q ↦ (let z = ap polls q in cc (z, p)) ]
    ])
    by Virt Unlock e = absurd (let z = ap polls e in cc (z, p))
    by Native Unlock e = absurd (let z = ap polls e in cc (z, p))
    by Cna Unlock e = absurd (let z = ap polls e in cc (z, p))
    by mode Read e = refl
    by mode Write e = refl
    by mode TryRead e = absurd e
    by mode TryWrite e = absurd e
    by mode RUnlock e = absurd e
    by mode WUnlock e = absurd e
polls_wait mode v f c p (Sharing a e) = by v f.lock.wait e
  where
    by : (v : Verb) (b : Bool) → RwBelongs v b c → waits_for v ≡ true
    by Lock b e = refl
    by Read b e = refl
    by Write b e = refl
    by Try b e = absurd e
    by Unlock b e = absurd e
    by TryRead true e = absurd e
    by TryRead false e = absurd (elim e [
      | inl q ↦ (let z = ap polls q in cc (z, p))
      | inr r ↦ elim r [ inl q ↦ (let z = ap polls q in cc (z, p)) | inr q ↦ (let z = ap polls q in cc (z, p)) ]
    ])
    by TryWrite true e = absurd e
    by TryWrite false e = absurd (elim e [ inl q ↦ (let z = ap polls q in cc (z, p)) | inr q ↦ (let z = ap polls q in cc (z, p)) ])
    by RUnlock true e = absurd e
    by RUnlock false e = absurd (let z = ap polls e in cc (z, p))
    by WUnlock true e = absurd e
    by WUnlock false e = absurd (let z = ap polls e in cc (z, p))
polls_wait mode v f c p (Waiting a b d t e) = takes_waits v t
  where
    takes_waits : (v : Verb) → takes_wait v ≡ true → waits_for v ≡ true
    takes_waits v t = grind (arith, t)
polls_wait mode v f c p (Freeing a b d t e) = absurd (rel c p d)
  where
    rel : (c : Pc) → polls c ≡ true → is_release_row c ≡ true → ⊥
    rel c p d = grind (arith, p, d)
polls_wait mode v f c p (Owing a e g h) = absurd (let z = ap polls e in cc (z, p))

-- at a poll the operation is not over, and a wait lock is held only by one that polls for its lock
polls_not_over : (c : Pc) (b : Bool) → polls c ≡ true → frees (rw_phase_at c b) || owes_kick (Some c) ≡ false
polls_not_over c b p = grind (arith, p, cases_Bool b)

polls_inner : (c : Pc) (b : Bool) → polls c ≡ true → is_inner (rw_phase_at c b) ≡ true → is_rw_row c ≡ true
polls_inner c b p h = grind (arith, p, h, cases_Bool b)

-- what a program holds it names, in an operation that takes it so
named_from : (ops : List Op) (n i : ℕ) (w : Option Manner) (way : Manner) → way_from ops n i w ≡ Some way
    → (w ≡ Some way) ⊎ ((j : ℕ) × (q : Op) × (slice_get ops j ≡ Some q) × (q.lock ≡ i) × (way_after q.verb ≡ Some way))
named_from ops zero i w way e = inl e
named_from [] (suc n) i w way e = inl e
named_from (o ∷ ops) (suc n) i w way e =
    elim (named_from ops n i (op_way o i w) way e) [
      | inl h ↦ elim (cases_Bool (o.lock == i)) [
        | inl t ↦ inr (0, o, refl, eqb-true o.lock i t, sym (ap (λ (b : Bool). if b then way_after o.verb else w) t) ∙ h)
        | inr t ↦ inl (sym (ap (λ (b : Bool). if b then way_after o.verb else w) t) ∙ h)
      ]
      | inr j ↦ inr (suc j.0, j.1, j.2, j.3, j.4)
    ]

named : (ops : List Op) (n i : ℕ) (way : Manner) → way_at ops n i ≡ Some way
    → (j : ℕ) × (q : Op) × (slice_get ops j ≡ Some q) × (q.lock ≡ i) × (way_after q.verb ≡ Some way)
named ops n i way e = elim (named_from ops n i None way e) [ inl h ↦ cc h | inr j ↦ j ]

-- a reader's operation takes as a reader
reads_so : (v : Verb) (way : Manner) → only_reads v ≡ true → way_after v ≡ Some way → way ≡ Reads
reads_so Read way o e = cc e
reads_so TryRead way o e = cc e
reads_so RUnlock way o e = cc e
reads_so _ way o e = cc o

module _ (m : Machine) (hs : LockName → LockHistory) (shows : ShowsAll m hs) where
  few : (p : ℕ) → length (cpu_at m p).frames ≤ 6
  unfolding cpu_at depth_at
  few p = elim (cases_lt p (length m.cpus)) [
    | inl lt ↦ (shows.whole.tops p lt).few
    | inr ge ↦ let past = get_or_past m.cpus p no_cpu ge in rw past (omega arith)
  ]

  pub shallow : (p : ℕ) → IsShallow (world m) p
  unfolding frame_at
  shallow p c ge = let f = few p in slice_get_past (cpu_at m p).frames c (omega (arith, ge, f))

  ended : (u : Waiter) (f : Frame) (k : LockName) → frame_at m u ≡ Some f → f.place ≡ None → held_of m u k ≡ None
  ended u f k live place =
      let fit = shows.fits u f live in
      let over : is_over f ≡ false =
      ap (λ (c : Option Pc). frees (rw_phase_if c f.lock.wait) || owes_kick c) place in
      let inner : is_inner (rw_phase_of f) ≡ false =
      ap (λ (c : Option Pc). is_inner (rw_phase_if c f.lock.wait)) place in
      let ops = program_of m u.cpu f in
      let ends : way_at ops (reached f) k.index ≡ None =
      ap (λ (b : Bool). way_at ops (if b then f.«at» + 1 else f.«at») k.index) over
      ∙ ap (λ (n : ℕ). way_at ops n k.index) (fit.finished place)
      ∙ (shows.whole.setup.lawful u.cpu f.program).ends k.index in
      ap (held_at m u k) live ∙ by k.wait ops inner ends
    where
      by : (b : Bool) (ops : List Op) → is_inner (rw_phase_of f) ≡ false → way_at ops (reached f) k.index ≡ None
          → (if b then (if is_inner (rw_phase_of f) && (f.lock.index == k.index) then Some Spins else None) else way_at ops (reached f) k.index) ≡ None
      by true ops i e = ap (λ (a : Bool). if a && (f.lock.index == k.index) then Some Spins else None) i
      by false ops i e = e

  module _ (steady : IsSteady (world m)) where
    placed_some : (o : Option Pc) → o ≢ None → (c : Pc) × (o ≡ Some c)
    placed_some None ne = absurd (ne refl)
    placed_some (Some c) ne = (c, refl)

    pub tidy : IsTidy (world m)
    tidy = record {
      shallow = shallow;
      handlers = λ u f live lt. placed_some f.place (steady.placed u f lt live);
    }

    -- between two operations a program is at no place, and at the end of it it holds nothing
    pub inside : HoldsInside (world m)
    inside z = by (frame_at m z.by) refl
      where
        none_some : {x : Manner} → None ≡ Some x → ⊥
        none_some e = cc e

        by : (o : Option Frame) → frame_at m z.by ≡ o → ⊥
        by None e = none_some (sym (ap (held_at m z.by z.lock) e) ∙ z.holds)
        by (Some f) e = none_some (sym (ended z.by f z.lock e (z.out f e)) ∙ z.holds)

    module _ (rank : ℕ → ℕ) (size : ℕ) (ordered : IsOrdered rank size m.setup) where
      abbrev level : LockName → ℕ
      level l = level_of rank l

      level_low : (l : LockName) → level l ≤ rank l.index * 2 + 1
      level_low l = by l.wait
        where
          by : (b : Bool) → rank l.index * 2 + (if b then 0 else 1) ≤ rank l.index * 2 + 1
          by true = omega arith
          by false = omega arith

      level_high : (c : Pc) (f : Frame) → rank f.lock.index * 2 ≤ level (lock_at c f)
      level_high c f = by (is_rw_row c) refl
        where
          by : (b : Bool) → is_rw_row c ≡ b → rank f.lock.index * 2 ≤ level (lock_at c f)
          by true e = rw e (omega arith)
          by false e = rw e (omega arith)

      -- a lower rank is a lower level
      lower : (k : LockName) (c : Pc) (f : Frame) → rank k.index < rank f.lock.index → level k < level (lock_at c f)
      lower k c f lt = let a = level_low k in let b = level_high c f in omega (arith, a, b, lt)

      -- of an interrupted frame of the same processor
      program_below : (w u : Waiter) (f g : Frame) (c : Pc) → IsTop (world m) w f c → u.cpu ≡ w.cpu → u ≢ w
          → frame_at m u ≡ Some g → g.program < f.program
      program_below w u f g c top cpu ne live =
          elim (cases_lt u.ctx w.ctx) [
            | inl lt ↦ steady.stacked u w g f cpu lt live top.live
            | inr ge ↦ elim (cases_lt w.ctx u.ctx) [
              | inl lt ↦ absurd (none_some (
                  sym (top.above u.ctx lt) ∙ ap (λ (p : ℕ). frame_at m (record { cpu = p; ctx = u.ctx })) (sym cpu) ∙ live))
              | inr le ↦ absurd (ne (let same : u.ctx ≡ w.ctx = omega (arith, ge, le) in
                  λ i. record { cpu = cpu i; ctx = same i }))
            ]
          ]
        where
          none_some : {x : Frame} → None ≡ Some x → ⊥
          none_some e = cc e

      -- a frame of an interrupt that reads stands, at a poll, at R2
      reads_at : (w : Waiter) (f : Frame) (c : Pc) → IsTop (world m) w f c → polls c ≡ true → 0 < w.ctx
          → (works : Works m.setup.mode (program_of m w.cpu f) f c) → works.op.verb ≡ Read → c ≡ R2
      reads_at w f c top poll up works verb =
          by works.stage
        where
          alone : (f.place ≢ Some R3) × (f.lock.wait ≡ true → f.then ≢ Some R4)
          alone = steady.alone w f up top.live

          -- so it acts on no wait lock
          outer : f.lock.wait ≡ true → ⊥
          outer e = alone.1 e (works.after e ∙ ap after_wait verb)

          at : (b : Bool) → f.lock.wait ≡ b → RwBelongs Read b c → c ≡ R2
          at true e q = absurd (outer e)
          at false e (inl q) = absurd (let z = ap polls q in cc (z, poll))
          at false e (inr (inl q)) = q
          at false e (inr (inr q)) = absurd (let z = ap polls q in cc (z, poll))

          by : Footing m.setup.mode works.op.verb f c → c ≡ R2
          by (Spinning a b e) = absurd (none (subst (λ (v : Verb). BelongsTo m.setup.mode v c) verb e))
            where
              none : BelongsTo m.setup.mode Read c → ⊥
              none e = e
          by (Sharing a e) = at f.lock.wait refl (subst (λ (v : Verb). RwBelongs v f.lock.wait c) verb e)
          by (Waiting a b d t e) = absurd (outer a)
          by (Freeing a b d t e) = absurd (outer a)
          by (Owing a e g h) = absurd (let z = ap polls e in cc (z, poll))

      -- what an interrupted frame names ranks below, or the newest frame reads, and that names it only as
      -- a reader
      abbrev Under : Waiter → Waiter → Frame → Frame → Pc → ℕ → Type 0
      Under w u f g c i = (rank i < rank f.lock.index)
          ⊎ ((c ≡ R2) × (i ≡ f.lock.index)
          × ((j : ℕ) (r : Op) → slice_get (program_of m u.cpu g) j ≡ Some r → r.lock ≡ i → only_reads r.verb ≡ true))

      above_named : (w u : Waiter) (f g : Frame) (c : Pc) → IsTop (world m) w f c → polls c ≡ true → u.cpu ≡ w.cpu
          → u ≢ w → frame_at m u ≡ Some g → (n : ℕ) (q : Op) → slice_get (program_of m u.cpu g) n ≡ Some q
          → Under w u f g c q.lock
      above_named w u f g c top poll cpu ne live n q at =
          let works = (shows.fits w f top.live).working c top.place in
          let waits = polls_wait m.setup.mode works.op.verb f c poll works.stage in
          let lt = program_below w u f g c top cpu ne live in
          let here : slice_get (program_at m.setup w.cpu g.program) n ≡ Some q =
          ap (λ (p : ℕ). slice_get (program_at m.setup p g.program) n) (sym cpu) ∙ at in
          elim (ordered.above w.cpu g.program f.program f.«at» n works.op q lt works.is waits here) [
            | inl h ↦ inl (subst (λ (i : ℕ). rank q.lock < rank i) (sym works.lock) h)
            | inr z ↦ inr (
              reads_at w f c top poll (up lt) works z.0,
              z.1 ∙ sym works.lock,
              λ j r e same. z.2 j r (ap (λ (p : ℕ). slice_get (program_at m.setup p g.program) j) (sym cpu) ∙ e) (same ∙ z.1),
            )
          ]
        where
          up : g.program < f.program → 0 < w.ctx
          up lt = elim (cases_lt 0 w.ctx) [
            | inl l ↦ l
            | inr ge ↦ absurd (let z = (shows.fits w f top.live).program.0 (omega (arith, ge)) in omega (arith, z, lt))
          ]

      works_below : (w u : Waiter) (f g : Frame) (c d : Pc) → IsTop (world m) w f c → polls c ≡ true → u.cpu ≡ w.cpu
          → u ≢ w → frame_at m u ≡ Some g → g.place ≡ Some d → Under w u f g c g.lock.index
      works_below w u f g c d top poll cpu ne live place =
          let works = (shows.fits u g live).working d place in
          subst (λ (i : ℕ). Under w u f g c i) (sym works.lock)
          (above_named w u f g c top poll cpu ne live g.«at» works.op works.is)

      lock_index : (d : Pc) (g : Frame) → (lock_at d g).index ≡ g.lock.index
      lock_index d g = by (is_rw_row d) refl
        where
          by : (b : Bool) → is_rw_row d ≡ b → (lock_at d g).index ≡ g.lock.index
          by true e = rw e refl
          by false e = rw e refl

      -- of the frame itself
      own_below : (w : Waiter) (f : Frame) (c : Pc) (k : LockName) (way : Manner) → IsTop (world m) w f c
          → polls c ≡ true → held_of m w k ≡ Some way → level k < level (lock_at c f)
      own_below w f c k way top poll has = by k.wait refl (sym (ap (held_at m w k) top.live) ∙ has)
        where
          ops : List Op
          ops = program_of m w.cpu f

          works : Works m.setup.mode (program_of m w.cpu f) f c
          works = (shows.fits w f top.live).working c top.place

          none_some : {x : Manner} → None ≡ Some x → ⊥
          none_some e = cc e

          phase : rw_phase_of f ≡ rw_phase_at c f.lock.wait
          phase = ap (λ (o : Option Pc). rw_phase_if o f.lock.wait) top.place

          inner : (b : Bool) → is_inner (rw_phase_of f) ≡ b → (i : Bool) → f.lock.index == k.index ≡ i
              → (if b && i then Some Spins else None) ≡ Some way → k.wait ≡ true → level k < level (lock_at c f)
          inner false h i e z q = absurd (none_some z)
          inner true h false e z q = absurd (none_some z)
          inner true h true e z q =
              let row = polls_inner c f.lock.wait poll (sym (ap is_inner phase) ∙ h) in
              let same = eqb-true f.lock.index k.index e in
              let low : level k ≡ rank k.index * 2 + 0 = ap (λ (b : Bool). rank k.index * 2 + (if b then 0 else 1)) q in
              let high : level (lock_at c f) ≡ rank f.lock.index * 2 + 1 = rw row refl in
              let r = ap rank same in
              omega (arith, low, high, r)

          by : (b : Bool) → k.wait ≡ b
              → (if b then (if is_inner (rw_phase_of f) && (f.lock.index == k.index) then Some Spins else None) else way_at (program_of m w.cpu f) (reached f) k.index) ≡ Some way
              → level k < level (lock_at c f)
          by true q z = inner (is_inner (rw_phase_of f)) refl (f.lock.index == k.index) refl z q
          by false q z =
              let over : is_over f ≡ false =
              ap (λ (r : RwPhase). frees r || owes_kick f.place) phase
              ∙ ap (λ (o : Option Pc). frees (rw_phase_at c f.lock.wait) || owes_kick o) top.place
              ∙ polls_not_over c f.lock.wait poll in
              let z' : way_at (program_of m w.cpu f) f.«at» k.index ≡ Some way =
              sym (ap (λ (b : Bool). way_at (program_of m w.cpu f) (if b then f.«at» + 1 else f.«at») k.index) over) ∙ z in
              let waits = polls_wait m.setup.mode works.op.verb f c poll works.stage in
              let h = ordered.nested w.cpu f.program f.«at» k.index works.op way works.is waits z' in
              lower k c f (subst (λ (i : ℕ). rank k.index < rank i) (sym works.lock) h)

      -- at R2 the level is that of the lock itself
      level_R2 : (c : Pc) (f : Frame) → c ≡ R2 → level (lock_at c f) ≡ rank f.lock.index * 2 + 1
      level_R2 c f e = ap (λ (d : Pc). level (lock_at d f)) e

      -- and of an interrupted one
      others_below : (w u : Waiter) (f : Frame) (c : Pc) (k : LockName) (way : Manner) → IsTop (world m) w f c
          → polls c ≡ true → u.cpu ≡ w.cpu → u ≢ w → held_of m u k ≡ Some way
          → (level k < level (lock_at c f)) ⊎ ((c ≡ R2) × (way ≡ Reads) × (k ≡ lock_at c f))
      others_below w u f c k way top poll cpu ne has = with_frame (frame_at m u) refl
        where
          none_some : {x : Manner} → None ≡ Some x → ⊥
          none_some e = cc e

          -- a wait lock
          inner : (g : Frame) → frame_at m u ≡ Some g → k.wait ≡ true → (o : Option Pc) → g.place ≡ o
              → is_inner (rw_phase_of g) ≡ true → g.lock.index ≡ k.index → level k < level (lock_at c f)
          inner g live q None p h same = absurd (let z = ap (λ (o : Option Pc). is_inner (rw_phase_if o g.lock.wait)) p in cc (z, h))
          inner g live q (Some d) p h same = elim (works_below w u f g c d top poll cpu ne live p) [
            | inl lt ↦ lower k c f (subst (λ (i : ℕ). rank i < rank f.lock.index) same lt)
            | inr z ↦
                let low : level k ≡ rank k.index * 2 + 0 = ap (λ (b : Bool). rank k.index * 2 + (if b then 0 else 1)) q in
                let high = level_R2 c f z.0 in
                let r = ap rank (sym same ∙ z.1) in
                omega (arith, low, high, r)
          ]

          inner_by : (g : Frame) → frame_at m u ≡ Some g → k.wait ≡ true → (b : Bool) → is_inner (rw_phase_of g) ≡ b
              → (i : Bool) → g.lock.index == k.index ≡ i
              → (if b && i then Some Spins else None) ≡ Some way → level k < level (lock_at c f)
          inner_by g live q false h i e z = absurd (none_some z)
          inner_by g live q true h false e z = absurd (none_some z)
          inner_by g live q true h true e z = inner g live q g.place refl h (eqb-true g.lock.index k.index e)

          held : (g : Frame) → frame_at m u ≡ Some g → (b : Bool) → k.wait ≡ b
              → (if b then (if is_inner (rw_phase_of g) && (g.lock.index == k.index) then Some Spins else None) else way_at (program_of m u.cpu g) (reached g) k.index) ≡ Some way
              → (level k < level (lock_at c f)) ⊎ ((c ≡ R2) × (way ≡ Reads) × (k ≡ lock_at c f))
          held g live true q z = inl (inner_by g live q (is_inner (rw_phase_of g)) refl (g.lock.index == k.index) refl z)
          held g live false q z =
              let j = named (program_of m u.cpu g) (reached g) k.index way z in
              elim (above_named w u f g c top poll cpu ne live j.0 j.1 j.2) [
                | inl lt ↦ inl (lower k c f (subst (λ (i : ℕ). rank i < rank f.lock.index) j.3 lt))
                | inr y ↦ inr (
                  y.0,
                  reads_so j.1.verb way (y.2 j.0 j.1 j.2 refl) j.4,
                  (let i : k.index ≡ f.lock.index = sym j.3 ∙ y.1 in
                      let name : k ≡ rw_name f.lock.index = (λ t. record { index = i t; wait = q t }) in
                      name ∙ ap (λ (d : Pc). lock_at d f) (sym y.0)),
                )
              ]

          with_frame : (o : Option Frame) → frame_at m u ≡ o
              → (level k < level (lock_at c f)) ⊎ ((c ≡ R2) × (way ≡ Reads) × (k ≡ lock_at c f))
          with_frame None e = absurd (none_some (sym (ap (held_at m u k) e) ∙ has))
          with_frame (Some g) e = held g e k.wait refl (sym (ap (held_at m u k) e) ∙ has)

      pub ranked : IsRanked (level_of rank) (size * 2 + 1) (world m)
      ranked = record {
        below = λ l. let a = level_low l in let b = ordered.below l.index in omega (arith, a, b);
        holds = λ w u f c k way top poll cpu has. elim (same_or u w) [
          | inl e ↦ inl (own_below w f c k way top poll (ap (λ (v : Waiter). held_of m v k) (sym e) ∙ has))
          | inr ne ↦ others_below w u f c k way top poll cpu ne has
        ];
        works = λ w u f g c d top poll cpu ne live place.
            elim (works_below w u f g c d top poll cpu ne live place) [
              | inl lt ↦ inl (lower (lock_at d g) c f
                  (subst (λ (i : ℕ). rank i < rank f.lock.index) (sym (lock_index d g)) lt))
              | inr z ↦ inr (
                z.0,
                (let a = level_low (lock_at d g) in let b = level_R2 c f z.0 in
                    let i = ap rank (lock_index d g ∙ z.1) in omega (arith, a, b, i)),
              )
            ];
      }
        where
          same_or : (u w : Waiter) → (u ≡ w) ⊎ (u ≢ w)
          same_or u w = Rattle.lk_law.proofs.common.Cases.waiter_cases u w
