-- Each act tells an event of the machine's setup.
use Rattle.std.proofs.Common.{◌≡◌, ◌≤◌, ◌<◌, ◌-◌, ◌&&◌, ◌||◌, ◌⊎◌, ℕ, Option, Some, None, Bool, true, false, length, inl, inr, refl, sym, ap, subst, ◌∙◌, arith, slice_get, nat_lt, nat_le, not}
use Rattle.std.specs.Prelude.{if◌then◌else◌}
use Rattle.std.proofs.lemmas.Bool.{cases_Bool}
use Rattle.std.proofs.lemmas.Bool.Decides.{nat_tests}
use Rattle.lk_names.specs.History.{LockHistory}
use Rattle.lk_names.specs.declared.names.Kind.{Kind}
use Rattle.lk_names.specs.declared.names.Kind.TheVariants.{Rw}
use Rattle.lk_names.specs.declared.names.Waiter.{Waiter}
use Rattle.lk_names.specs.declared.names.LockName.{LockName}
use Rattle.lk_names.specs.declared.events.Act.{Act}
use Rattle.lk_names.specs.declared.events.Act.TheVariants as act
use Rattle.lk_names.specs.declared.events.Event.{Event}
use Rattle.lk_names.specs.declared.events.What.{What}
use Rattle.lk_names.specs.declared.events.What.TheVariants as what
use Rattle.lk_rows.specs.declared.parts.Frame.{Frame}
use Rattle.lk_rows.specs.declared.parts.Pc.{Pc}
use Rattle.lk_rows.specs.Machine.{Machine, cpu_at, set_preempted, frame_at, depth_at, preempted_at, halted_at, kicked_at, top_of, top_frame, handlers_at}
use Rattle.lk_rows.specs.Moves.{rw_name, program_of}
use Rattle.lk_rows.specs.Programs.{kind_of, handlers_of}
use Rattle.lk_rows.specs.Row.{Tell, Nothing, Says, Passes, event_of, Answer}
use Rattle.lk_rows.specs.TopRow.{target, row, row_at, row_on}
use Rattle.lk_rows.specs.Acts.{next, step, idle, kicked_awake, nudged, interrupted, is_shut, stands_halting, processor_of}
use Rattle.lk_law.specs.Families.{is_rw_row}
use Rattle.lk_law.specs.Places.{post_of}
use Rattle.lk_law.specs.Pv.{at_halt}
use Rattle.lk_law.specs.SpinWorld.{HasSleeper}
use Rattle.lk_law.specs.Sound.{world, Works, ShowsAll}
use Rattle.lk_forms.specs.Grammar.{cpus_of}
use Rattle.lk_audit_forms.specs.Ranges.{is_spinning}
use Rattle.lk_audit_forms.proofs.Names.{some_same}
use Rattle.lk_audit_law.proofs.Tells.{SpinTells, RwTells, TellsOf, tell_on, row_tells}
use Rattle.lk_audit_law.proofs.Facts.{IsOf, get_below, spin_of, rw_of, pass_of, stage_spins, stage_shares, rw_target, other_target, spin_told, row_event, sleeps_at, live, fit, cpu_below, ctx_below, kind_at, target_below}

-- the event of a row of a spinlock or a wait lock
event_spin : (m : Machine) (p : ℕ) (f : Frame) (k : Kind) → slice_get m.setup.locks.items f.lock.index ≡ Some k
    → is_spinning (Some k) f.lock.wait ≡ true → p < cpus_of m.setup → f.ctx < 6
    → (t : Tell) → SpinTells (cpus_of m.setup) f.lock t → (e : Event) → event_of m p f t ≡ Some e → IsOf m.setup e
event_spin m p f k kind ok cpu ctx Nothing told e is = cc
event_spin m p f k kind ok cpu ctx (Says w) told e is =
    subst (IsOf m.setup) (some_same (record { by = record { cpu = p; ctx = f.ctx }; what = w }) e is)
    (spin_of m.setup f.lock k kind (cpus_of m.setup) (record { cpu = p; ctx = f.ctx }) w refl cpu ctx ok told)
event_spin m p f k kind ok cpu ctx (Passes y n) told e is =
    subst (IsOf m.setup) (some_same _ e is)
    (pass_of m.setup f.lock k kind (record { cpu = p; ctx = f.ctx }) _ n cpu ctx ok)

-- that of a row of a reader or a writer
event_rw : (m : Machine) (p : ℕ) (f : Frame) → slice_get m.setup.locks.items f.lock.index ≡ Some Rw
    → p < cpus_of m.setup → f.ctx < 6 → (t : Tell) → RwTells (rw_name f.lock.index) t → (e : Event)
    → event_of m p f t ≡ Some e → IsOf m.setup e
event_rw m p f kind cpu ctx Nothing told e is = cc
event_rw m p f kind cpu ctx (Says w) told e is =
    subst (IsOf m.setup) (some_same (record { by = record { cpu = p; ctx = f.ctx }; what = w }) e is)
    (rw_of m.setup (rw_name f.lock.index) Rw kind (record { cpu = p; ctx = f.ctx }) w cpu ctx refl refl told)
event_rw m p f kind cpu ctx (Passes y n) told e is = absurd told

-- a frame that is there is below the depth of its processor
frame_below : (m : Machine) (u : Waiter) (f : Frame) → frame_at m u ≡ Some f → u.ctx < depth_at m u.cpu
unfolding frame_at depth_at cpu_at
frame_below m u f is = get_below (cpu_at m u.cpu).frames u.ctx f is

top_ctx : (c depth : ℕ) → c < depth → (c < depth - 1 → ⊥) → c ≡ depth - 1
top_ctx c depth within not = by_test (nat_lt c (depth - 1)) refl
  where
    by_test : (t : Bool) → nat_lt c (depth - 1) ≡ t → c ≡ depth - 1
    by_test true e = absurd (not (grind (arith, nat_tests, e)))
    by_test false e = (let least : depth - 1 ≤ c = grind (arith, nat_tests, e) in omega (arith, least, within))

nothing_some : {A : Type 0} {o : Option A} {a : A} → o ≡ None → o ≡ Some a → ⊥
nothing_some none some = cc

waiter_is : (u v : Waiter) → u.cpu ≡ v.cpu → u.ctx ≡ v.ctx → u ≡ v
waiter_is u v p q =
    let by_cpu : ℕ → Waiter = λ n. record { cpu = n; ctx = u.ctx } in
    let by_ctx : ℕ → Waiter = λ n. record { cpu = v.cpu; ctx = n } in
    ap by_cpu p ∙ ap by_ctx q

-- two answers without an event
no_event : (t : Bool) (x y : Machine) (e : Event) → (if◌then◌else◌ {A = Answer} t (x, None) (y, None)).1 ≡ Some e → ⊥
no_event true x y e is = cc
no_event false x y e is = cc

module _ (m : Machine) (hs : LockName → LockHistory) (shows : ShowsAll m hs) (p : ℕ) (here : p < length m.cpus) where
  -- the event of the row at a place
  row_of : (c : Pc) → (top_frame m p).place ≡ Some c → (e : Event)
      → (row_on m p (top_frame m p) c (target c (top_frame m p))).1 ≡ Some e → IsOf m.setup e
  row_of c at e is = by_family (cases_Bool (is_rw_row c))
    where
      told : TellsOf (cpus_of m.setup) (top_frame m p) (target c (top_frame m p)) (tell_on m p (top_frame m p) c (target c (top_frame m p)))
      told = row_tells (cpus_of m.setup) m p (top_frame m p) c (target c (top_frame m p)) (target_below m hs shows p here)

      event : event_of m p (top_frame m p) (tell_on m p (top_frame m p) c (target c (top_frame m p))) ≡ Some e
      event = sym (row_event m p (top_frame m p) c (target c (top_frame m p))) ∙ is

      works : Works m.setup.mode (program_of m p (top_frame m p)) (top_frame m p) c
      works = (fit m hs shows p here).working c at

      by_family : (is_rw_row c ≡ true) ⊎ (is_rw_row c ≡ false) → IsOf m.setup e
      by_family (inl e1) =
          let on = rw_target c (top_frame m p) e1 in
          let kind = kind_at m hs shows p here c at ∙ ap Some (stage_shares m.setup.mode works.op.verb (top_frame m p) c works.stage e1) in
          event_rw m p (top_frame m p) kind (cpu_below m hs shows p here) (ctx_below m hs shows p here)
          (tell_on m p (top_frame m p) c (target c (top_frame m p)))
          (subst (λ t. TellsOf (cpus_of m.setup) (top_frame m p) t (tell_on m p (top_frame m p) c (target c (top_frame m p)))) on told) e event
      by_family (inr e0) =
          event_spin m p (top_frame m p) (kind_of works.op.verb) (kind_at m hs shows p here c at)
          (stage_spins m.setup.mode works.op.verb (top_frame m p) c works.stage e0)
          (cpu_below m hs shows p here) (ctx_below m hs shows p here)
          (tell_on m p (top_frame m p) c (target c (top_frame m p)))
          (spin_told (cpus_of m.setup) (top_frame m p) (target c (top_frame m p)) _ (other_target c (top_frame m p) e0) told) e event

  rows_of : (o : Option Pc) → (top_frame m p).place ≡ o → (e : Event) → (row_at m p (top_frame m p) o).1 ≡ Some e → IsOf m.setup e
  rows_of None at e is = cc
  rows_of (Some c) at e is = row_of c at e is

  -- a processor that has halted at_halt in its top frame
  halted_place : halted_at m p ≡ true → (c : Pc) × ((top_frame m p).place ≡ Some c) × (is_rw_row c ≡ false)
  halted_place halted = by_sleeper (shows.world.spins.resting p halted)
    where
      by_sleeper : HasSleeper (world m) p → (c : Pc) × ((top_frame m p).place ≡ Some c) × (is_rw_row c ≡ false)
      by_sleeper (u, f, cpu, frame, asleep) =
          let above : (i : ℕ) → u.ctx < i → frame_at m (record { cpu = u.cpu; ctx = i }) ≡ None =
          shows.world.spins.asleep u f frame asleep in
          let none : u.ctx < depth_at m p - 1 → frame_at m (top_of m p) ≡ None =
          λ less. subst (λ q. frame_at m (record { cpu = q; ctx = depth_at m p - 1 }) ≡ None) cpu (above (depth_at m p - 1) less) in
          let within : u.ctx < depth_at m p = subst (λ q. u.ctx < depth_at m q) cpu (frame_below m u f frame) in
          let is_top : u.ctx ≡ depth_at m p - 1 = top_ctx (u.ctx) (depth_at m p) within (λ less. nothing_some (none less) (live m hs shows p here)) in
          let same : u ≡ top_of m p = waiter_is u (top_of m p) cpu is_top in
          let frames : Some f ≡ Some (top_frame m p) = sym frame ∙ ap (frame_at m) same ∙ live m hs shows p here in
          sleeps_at (top_frame m p) (top_frame m p).place
          (subst (λ g. at_halt (post_of g) ≡ true) (some_same f (top_frame m p) frames) asleep)

  wake_of : halted_at m p ≡ true → (e : Event) → (kicked_awake m p).1 ≡ Some e → IsOf m.setup e
  wake_of halted e is =
      let place = halted_place halted in
      let works = (fit m hs shows p here).working place.0 place.1 in
      subst (IsOf m.setup) (some_same _ e is)
      (spin_of m.setup (top_frame m p).lock (kind_of works.op.verb) (kind_at m hs shows p here place.0 place.1) (cpus_of m.setup)
      (record { cpu = p; ctx = (top_frame m p).ctx }) (what.Wake (top_frame m p).lock) refl (cpu_below m hs shows p here) (ctx_below m hs shows p here)
      (stage_spins m.setup.mode works.op.verb (top_frame m p) place.0 works.stage place.2) refl)

  plain_of : (u : Waiter) → u.cpu < cpus_of m.setup → u.ctx < 6 → (w : What) → (w ≡ what.Int) ⊎ (w ≡ what.Nudge)
      → IsOf m.setup (record { by = u; what = w })
  plain_of u cpu ctx w (inl is) =
      subst (λ x. IsOf m.setup (record { by = u; what = x })) (sym is)
      (record { cpu = cpu; ctx = ctx; named = tt; lock = refl; fits = refl; written = tt })
  plain_of u cpu ctx w (inr is) =
      subst (λ x. IsOf m.setup (record { by = u; what = x })) (sym is)
      (record { cpu = cpu; ctx = ctx; named = tt; lock = refl; fits = refl; written = tt })

  step_of : (e : Event) → (step m p).1 ≡ Some e → IsOf m.setup e
  step_of e is = by_tests (preempted_at m p) (halted_at m p) (kicked_at m p) refl is
    where
      by_tests : (pre halt kick : Bool) → halted_at m p ≡ halt
          → (if pre then idle m else (if halt then (if kick then kicked_awake m p else idle m) else row m p)).1 ≡ Some e
          → IsOf m.setup e
      by_tests true halt kick h i = cc
      by_tests false true true h i = wake_of h e i
      by_tests false true false h i = cc
      by_tests false false kick h i = rows_of (top_frame m p).place refl e i

  interrupt_of : (e : Event) → (if is_shut m p then idle m else interrupted m p).1 ≡ Some e → IsOf m.setup e
  interrupt_of e is = by_test (is_shut m p) refl is
    where
      open_below : (a b c d : Bool) → (a || b || c || d) ≡ false → b ≡ false
      open_below true b c d h = cc
      open_below false true c d h = cc
      open_below false false c d h = refl

      by_test : (t : Bool) → is_shut m p ≡ t → (if t then idle m else interrupted m p).1 ≡ Some e → IsOf m.setup e
      by_test true h i = cc
      by_test false h i =
          let few : nat_le 6 (depth_at m p) ≡ false =
          open_below (preempted_at m p) (nat_le 6 (depth_at m p)) (nat_le (handlers_of m.setup p) (handlers_at m p))
          (stands_halting (top_frame m p).place && not (halted_at m p)) h in
          let below : depth_at m p < 6 = grind (arith, nat_tests, few) in
          subst (IsOf m.setup) (some_same _ e i)
          (plain_of (record { cpu = p; ctx = depth_at m p }) (cpu_below m hs shows p here) below what.Int (inl refl))

  nudge_of : (e : Event) → (if preempted_at m p || not (halted_at m p) then idle m else nudged m p).1 ≡ Some e → IsOf m.setup e
  nudge_of e is = by_test (preempted_at m p || not (halted_at m p)) is
    where
      by_test : (t : Bool) → (if t then idle m else nudged m p).1 ≡ Some e → IsOf m.setup e
      by_test true i = cc
      by_test false i =
          subst (IsOf m.setup) (some_same _ e i)
          (plain_of (record { cpu = p; ctx = (top_frame m p).ctx }) (cpu_below m hs shows p here) (ctx_below m hs shows p here) what.Nudge (inr refl))

pub act_of : (m : Machine) (hs : LockName → LockHistory) → ShowsAll m hs → (a : Act) → processor_of a < length m.cpus
    → (e : Event) → (next m a).1 ≡ Some e → IsOf m.setup e
act_of m hs shows (act.Step p) here e is = step_of m hs shows p here e is
act_of m hs shows (act.Interrupt p) here e is = interrupt_of m hs shows p here e is
act_of m hs shows (act.Preempt p) here e is = absurd (no_event (preempted_at m p) m (set_preempted m p true) e is)
act_of m hs shows (act.Resume p) here e is = absurd (no_event (preempted_at m p) (set_preempted m p false) m e is)
act_of m hs shows (act.Nudge p) here e is = nudge_of m hs shows p here e is
