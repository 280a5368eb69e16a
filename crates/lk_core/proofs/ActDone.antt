-- What holds of an act that was done as it is written.
use Rattle.std.proofs.Common.{◌≡◌, ℕ, Option, Some, None, Bool, true, false, List, inl, inr, arith}
use Rattle.std.proofs.Common.{ap, ◌<◌, ◌≤◌, ◌+◌, ◌-◌, ◌^◌, refl, sym, ◌∙◌, subst, length}
use Rattle.std.proofs.Common.{if◌then◌else◌, ◌||◌, ◌&&◌, not, nat_le, slice_set}
use Rattle.std.proofs.lemmas.Bool.{lt-leb, or_from, or_right, and_from, not_from_false}
use Rattle.std.proofs.lemmas.List.{set-get_or}
use Rattle.lk_core.proofs.Names.{cases_Bool, LockHistory, Act, Event, LockName, awake}
use Rattle.lk_core.proofs.Names.{handler_frame, idle, interrupted, is_shut, nudged, processor_of}
use Rattle.lk_core.proofs.Names.{stands_halting, step, step_halted, CpuState, HasTop, Machine}
use Rattle.lk_core.proofs.Names.{no_cpu, rest_frame, top_frame, settled, HasPrograms, handlers_of}
use Rattle.lk_core.proofs.Names.{Answer, row, Frame, Pc, Setup, CountsWithin, with_event, ShowsAll}
use Rattle.lk_core.proofs.Names.{told_on}
use Rattle.lk_names.specs.declared.events.What.TheVariants.{Int}
use Rattle.lk_rows.specs.{Acts.next as done, Family.family_of}
use Rattle.lk_rows.specs.Machine.{cpu_at, set_cpu, set_preempted, depth_at, preempted_at, halted_at}
use Rattle.lk_rows.specs.{Machine.{handlers_at, push}, declared.family.Family.Family}
use Rattle.lk_rows.specs.declared.family.Family.TheVariants.{Spin, Queue, Cna, Pv, Rw}
use Rattle.lk_machine.specs.Ready.{IsReady}
use Rattle.lk_cna.specs.Row.{IsCnaReady}
use Rattle.lk_rw.specs.Row.{IsRwReady}
use Rattle.lk_pv.specs.Row.{IsPvReady}
use Rattle.lk_law.specs.{MachineLaws.ShowsLawful, Sound.IsSound}
use Rattle.lk_core.proofs.{ActKept.act_kept, CountsKept.counts_within}
use Rattle.lk_core.proofs.IdleActs.{awake_same, idle_act, busy_act}
use Rattle.lk_core.proofs.ReadyRows.{ready_at, cna_ready_at, rw_ready_at, pv_ready_at, has_programs}
use Rattle.lk_core.proofs.{Runs.acts_keep, Same.has_top_same, Setups.setup_kept}
use Rattle.lk_core.specs.{Idle.{IsIdle, Happens}, Ready.{IsReadyFor, MakesARow, RowsAreReady}}
use Rattle.lk_names.specs.declared.events.Act.TheVariants as act
use Rattle.lk_rows.specs.declared.family.Family.TheVariants as family

-- n is the machine after the act, and e its event
pub record IsDone (m : Machine) (a : Act) (n : Machine) (e : Option Event) : Type 0 where
  pub next : n ≡ (done m a).0
  pub event : e ≡ (done m a).1
  pub idle : IsIdle m a → (n ≡ m) × (e ≡ None)
  pub busy : ¬ IsIdle m a → Happens m a n e
  pub sound : IsSound n
  pub keeps : (es : List Event) → ShowsLawful m es → ShowsLawful n (with_event es e)
  pub counted : (k : ℕ) → CountsWithin k m.counts → CountsWithin (k + 1) n.counts
  pub setup : n.setup ≡ m.setup

act_done_at : (m : Machine) (a : Act) → processor_of a < length m.cpus → IsSound m
    → IsDone m a (done m a).0 (done m a).1
act_done_at m a range sound =
    let hs = sound.0 in
    record {
      next = refl;
      event = refl;
      idle = λ i. let e = idle_act m hs sound.1 a range i in
          (ap (λ (x : Answer). x.0) e, ap (λ (x : Answer). x.1) e);
      busy = λ b. busy_act m hs sound.1 a range b;
      sound = (told_on hs (done m a).1, (act_kept m hs sound.1 a range).shows);
      keeps = λ es now. acts_keep m es a range now;
      counted = λ k w. counts_within k m a w;
      setup = setup_kept m a;
    }

-- what the act b gave, a being the same act
pub act_done : (m : Machine) (a b : Act) (n : Machine) (e : Option Event) → a ≡ b
    → processor_of a < length m.cpus → IsSound m → n ≡ (done m b).0 → e ≡ (done m b).1
    → IsDone m a n e
act_done m a b n e same range sound new event =
    let P : Act → Type 0 = λ x. IsDone m a (done m x).0 (done m x).1 in
    subst (λ (k : Machine). IsDone m a k e) (sym new)
    (subst (λ (o : Option Event). IsDone m a (done m b).0 o) (sym event)
    (subst P same (act_done_at m a range sound)))

-- a processor that is preempted already, or is not, stays as it is
set_preempted-same : (m : Machine) (p : ℕ) (b : Bool) → preempted_at m p ≡ b
    → set_preempted m p b ≡ m
unfolding preempted_at set_preempted set_cpu cpu_at
set_preempted-same m p b e =
    let same : record (cpu_at m p) { preempted = b } ≡ cpu_at m p =
    ap (λ (x : Bool). record (cpu_at m p) { preempted = x }) (sym e) in
    ap (λ (c : CpuState). record m { cpus = slice_set m.cpus p c }) same
    ∙ ap (λ (cs : List CpuState). record m { cpus = cs }) (set-get_or m.cpus p no_cpu)

-- the code writes whether a processor is preempted, whatever it was
pub preempt_is : (m : Machine) (p : ℕ) → done m (act.Preempt p) ≡ (set_preempted m p true, None)
preempt_is m p = elim (cases_Bool (preempted_at m p)) [
  | inl e ↦ rw e (ap (λ (x : Machine). (x, None)) (sym (set_preempted-same m p true e)))
  | inr e ↦ rw e refl
]

pub resume_is : (m : Machine) (p : ℕ) → done m (act.Resume p) ≡ (set_preempted m p false, None)
resume_is m p = elim (cases_Bool (preempted_at m p)) [
  | inl e ↦ rw e refl
  | inr e ↦ rw e (ap (λ (x : Machine). (x, None)) (sym (set_preempted-same m p false e)))
]

module _ (m : Machine) (p : ℕ) (range : p < length m.cpus) (sound : IsSound m) where
  abbrev hs : LockName → LockHistory
  hs = sound.0

  abbrev shows : ShowsAll m hs
  shows = sound.1

  -- the row at a place can be made
  pub row_ready : (c : Pc) → (top_frame m p).place ≡ Some c → CountsWithin (2 ^ 64 - 2) m.counts
      → IsReady m p
  row_ready c at counts = ready_at m hs shows p range c at counts

  -- and a row of the choice with what it asks besides
  pub choice_ready : (c : Pc) → (top_frame m p).place ≡ Some c → family_of c ≡ family.Cna
      → CountsWithin (2 ^ 64 - 2) m.counts → IsCnaReady m p
  choice_ready c at on counts = cna_ready_at m hs shows p range c at on counts

  -- and a row of the lock that halts processors
  pub halting_ready : (c : Pc) → (top_frame m p).place ≡ Some c → family_of c ≡ family.Pv
      → CountsWithin (2 ^ 64 - 2) m.counts → IsPvReady m p
  halting_ready c at on counts = pv_ready_at m hs shows p range c at on counts

  -- the processor has a top frame
  pub has_top : HasTop m p
  has_top = shows.whole.tops p range

  -- a step of a processor that is neither preempted nor halted is the row of its top frame
  pub step_is : preempted_at m p ≡ false → halted_at m p ≡ false → step m p ≡ row m p
  step_is calm awake_is =
      ap (λ (b : Bool). if b then idle m
      else (if halted_at m p then step_halted m p else row m p)) calm
      ∙ ap (λ (b : Bool). if b then step_halted m p else row m p) awake_is

  -- and of one that has halted is the end of its halt, if it was kicked
  pub step_halted_is : preempted_at m p ≡ false → halted_at m p ≡ true → step m p ≡ step_halted m p
  step_halted_is calm halted =
      ap (λ (b : Bool). if b then idle m
      else (if halted_at m p then step_halted m p else row m p)) calm
      ∙ ap (λ (b : Bool). if b then step_halted m p else row m p) halted

  -- an interrupt finds no entry between the last test before a halt and the halt
  pub interrupt_off : stands_halting (top_frame m p).place ≡ true → halted_at m p ≡ false
      → done m (act.Interrupt p) ≡ (m, None)
  interrupt_off stands awake_is =
      ap (λ (b : Bool). if b then idle m else interrupted m p)
      (or_right ((preempted_at m p || nat_le 6 (depth_at m p))
      || nat_le (handlers_of m.setup p) (handlers_at m p))
      (stands_halting (top_frame m p).place && not (halted_at m p))
      (and_from (stands_halting (top_frame m p).place) (not (halted_at m p)) stands
      (not_from_false (halted_at m p) awake_is)))

  -- and finds it where the processor is not preempted, has room and a handler left, and is not
  -- about to halt
  pub interrupt_is : preempted_at m p ≡ false → depth_at m p < 6
      → handlers_at m p < handlers_of m.setup p
      → (stands_halting (top_frame m p).place && not (halted_at m p)) ≡ false
      → done m (act.Interrupt p)
      ≡ (
        settled (push (awake m p) p (handler_frame (awake m p) p)) p
            (handler_frame (awake m p) p),
        Some (record { by = record { cpu = p; ctx = depth_at m p }; what = Int }),
      )
  interrupt_is calm room left off =
      let same = awake_same m p in
      let deep : depth_at (awake m p) p ≡ depth_at m p = same.depth p in
      let used : handlers_at (awake m p) p ≡ handlers_at m p = same.handlers p in
      let name : handler_frame (awake m p) p ≡ handler_frame m p =
      (λ i. record rest_frame { ctx = deep i; program = used i + 1 }) in
      let open_entry : is_shut m p ≡ false =
      or_from ((preempted_at m p || nat_le 6 (depth_at m p))
      || nat_le (handlers_of m.setup p) (handlers_at m p))
      (stands_halting (top_frame m p).place && not (halted_at m p))
      (or_from (preempted_at m p || nat_le 6 (depth_at m p))
      (nat_le (handlers_of m.setup p) (handlers_at m p))
      (or_from (preempted_at m p) (nat_le 6 (depth_at m p)) calm (lt-leb 6 (depth_at m p) room))
      (lt-leb (handlers_of m.setup p) (handlers_at m p) left)) off in
      ap (λ (b : Bool). if b then idle m else interrupted m p) open_entry
      ∙ ap (λ (f : Frame). (
        settled (push (awake m p) p f) p f,
        Some (record { by = record { cpu = p; ctx = depth_at m p }; what = Int }),
      )) (sym name)

  -- what the machine has, it has after the end of a halt too
  pub awake_top : HasTop (awake m p) p
  awake_top = has_top_same m (awake m p) p (awake_same m p) has_top

  pub awake_programs : HasPrograms (awake m p).setup p
  awake_programs =
      subst (λ (s : Setup). HasPrograms s p) (sym (awake_same m p).keeps.setup)
      (has_programs m hs shows p range)

  pub awake_room : depth_at m p < 6 → depth_at (awake m p) p < 6
  awake_room room = let deep = (awake_same m p).depth p in omega arith

  pub awake_left : handlers_at m p < handlers_of m.setup p
      → handlers_at (awake m p) p < handlers_of (awake m p).setup p
  awake_left left =
      let h = (awake_same m p).handlers p in
      let s : handlers_of (awake m p).setup p ≡ handlers_of m.setup p =
      ap (λ (k : Setup). handlers_of k p) (awake_same m p).keeps.setup in
      omega arith

  -- a nudge of a processor that is neither preempted nor awake ends its halt
  pub nudge_is : preempted_at m p ≡ false → halted_at m p ≡ true → done m (act.Nudge p) ≡ nudged m p
  nudge_is calm halted =
      ap (λ (b : Bool). if b || not (halted_at m p) then idle m else nudged m p) calm
      ∙ ap (λ (b : Bool). if not b then idle m else nudged m p) halted

  pub nudge_idle : (preempted_at m p || not (halted_at m p)) ≡ true
      → done m (act.Nudge p) ≡ (m, None)
  nudge_idle e = ap (λ (b : Bool). if b then idle m else nudged m p) e

  -- what an interrupt of the code needs
  pub programs : HasPrograms m.setup p
  programs = has_programs m hs shows p range

  pub at_most : (depth_at m p ≤ 6) × (handlers_at m p ≤ handlers_of m.setup p)
  at_most = ((shows.whole.tops p range).few, shows.whole.handlers p)

  -- a row of a reader or a writer can be made: its word has room for one reader more
  pub shared_ready : (c : Pc) → (top_frame m p).place ≡ Some c → family_of c ≡ family.Rw
      → CountsWithin (2 ^ 64 - 2) m.counts → IsRwReady m p
  shared_ready c at on counts = rw_ready_at m hs shows p range c at on counts

-- a step that is not idle finds what its row asks
pub rows_are_ready : RowsAreReady
rows_are_ready m p range sound counts busy awake = by_place (top_frame m p).place refl
  where
    ready : (c : Pc) → (top_frame m p).place ≡ Some c → (family : Family) → family_of c ≡ family
        → IsReadyFor family m p
    ready c here Spin e = row_ready m p range sound c here counts
    ready c here Queue e = row_ready m p range sound c here counts
    ready c here Cna e = choice_ready m p range sound c here e counts
    ready c here Pv e = halting_ready m p range sound c here e counts
    ready c here Rw e = shared_ready m p range sound c here e counts

    by_place : (o : Option Pc) → (top_frame m p).place ≡ o → MakesARow m p
    by_place None here = absurd (busy (inr (inr here)))
    by_place (Some c) here =
        record { place = c; here = here; ready = ready c here (family_of c) refl }
