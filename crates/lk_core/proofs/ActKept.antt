-- Each act keeps what the machine shows, and its event is allowed.
use Rattle.std.proofs.Common.{Option, ◌≡◌, ◌⊎◌, ℕ, Some, None, Bool, true, false, List, [], ◌∷◌}
use Rattle.std.proofs.Common.{◌++◌, inl, inr, arith, ap, ◌<◌, ◌+◌, refl, sym, ◌∙◌, subst, length}
use Rattle.std.proofs.Common.{if◌then◌else◌, ◌||◌, ◌&&◌, not, nat_le}
use Rattle.std.proofs.lemmas.Bool.{or_parts, leb-false}
use Rattle.lk_core.proofs.Names.{cases_Bool, none-some, same_Some, LockHistory, Act, Event}
use Rattle.lk_core.proofs.Names.{LockName, Mode, Cna, Native, Pv, Virt, Waiter, after_halt, awake}
use Rattle.lk_core.proofs.Names.{handler_frame, idle, interrupted, is_shut, kicked_awake, next}
use Rattle.lk_core.proofs.Names.{nudged, processor_of, stands_halting, step, step_halted, woken}
use Rattle.lk_core.proofs.Names.{Machine, rest_frame, top_frame, top_of, program_of, settled}
use Rattle.lk_core.proofs.Names.{handlers_of, rules_of, row, Frame, Pc, E2, W6, W7, Setup, Verb}
use Rattle.lk_core.proofs.Names.{Lock, Try, Unlock, held_goes, is_rw_row, ShowsKicks, IsNewest}
use Rattle.lk_core.proofs.Names.{BelongsTo, Fits, Footing, ShowsAll, Works, held_at, held_of}
use Rattle.lk_core.proofs.Names.{is_over, owes_kick, world, IsSoundWorld, rw_phase_of, spin_part}
use Rattle.lk_core.proofs.Names.{told_on, World}
use Rattle.lk_names.specs.declared.events.What.{What}
use Rattle.lk_names.specs.declared.events.What.TheVariants.{Int, Wake, Nudge}
use Rattle.lk_rows.specs.Machine.{frame_at, depth_at, preempted_at, halted_at, kicked_at}
use Rattle.lk_rows.specs.Machine.{handlers_at, set_top, set_kicked, set_preempted, push}
use Rattle.lk_rows.specs.declared.parts.Pc.TheVariants.{E12}
use Rattle.lk_law.proofs.pv.HaltLayers.{wake_keeps, nudge_keeps, int_keeps}
use Rattle.lk_law.proofs.pv.HaltsEnd.{roused_is_awake, top_is_awake}
use Rattle.lk_law.proofs.pv.HaltsShown.{wake_shows, nudge_shows, int_shows, int_awake_shows}
use Rattle.lk_law.specs.{Allowed.MayFollow, Premises.{HasNoSleeper, roused}}
use Rattle.lk_law.specs.Steps.{put_halted, put_kicked}
use Rattle.lk_core.proofs.{FrameComes.{idle_kept, pushed_kicks, pushed_shows}, Leads.SameHold}
use Rattle.lk_core.proofs.{Moved.{Ready, goes_fit, holding_same}, RowKept.{top_live, row_kept}}
use Rattle.lk_core.proofs.RowParts.{StillShows}
use Rattle.lk_core.proofs.Same.{KeepsFrames, same_then, same_set_top, same_set_halted}
use Rattle.lk_core.proofs.Same.{same_set_kicked, same_set_preempted, whole_same, fits_kept}
use Rattle.lk_core.proofs.{Seated.{next_of, world-set_preempted, world-set_top}, Settle.fits_all}
use Rattle.lk_core.proofs.Stands.{Stance, Acts, Owes, Shares, stands, top_newest}
use Rattle.lk_core.proofs.Worlds.{world-set_halted, world-set_kicked}
use Rattle.lk_names.specs.declared.events.Act.TheVariants as act

-- The end of a halt.

-- a processor halts at one of two rows
halting_place : (o : Option Pc) → stands_halting o ≡ true → (o ≡ Some W6) ⊎ (o ≡ Some E12)
halting_place None e = cc
halting_place (Some W6) e = inl refl
halting_place (Some E12) e = inr refl
halting_place (Some _) e = cc

-- and goes on at a row of the same operation
behind_row : (mode : Mode) (v : Verb)
    → (BelongsTo mode v W6 → BelongsTo mode v W7) × (BelongsTo mode v E12 → BelongsTo mode v E2)
behind_row Pv Lock = (λ e. refl, λ e. refl)
behind_row Virt Lock = (λ e. absurd (grind (arith, e)), λ e. absurd (grind (arith, e)))
behind_row Native Lock = (λ e. absurd (grind (arith, e)), λ e. absurd (grind (arith, e)))
behind_row Cna Lock = (λ e. absurd (grind (arith, e)), λ e. absurd (grind (arith, e)))
behind_row mode Try = (
  λ e. absurd (elim e [ inl q ↦ cc | inr q ↦ cc ]),
  λ e. absurd (elim e [ inl q ↦ cc | inr q ↦ cc ]),
)
behind_row Pv Unlock = (
  λ e. absurd (elim e [ inl q ↦ cc | inr z ↦ elim z [ inl q ↦ cc | inr q ↦ cc ] ]),
  λ e. absurd (elim e [ inl q ↦ cc | inr z ↦ elim z [ inl q ↦ cc | inr q ↦ cc ] ]),
)
behind_row mode Unlock = (λ e. absurd (grind (arith, e)), λ e. absurd (grind (arith, e)))
behind_row mode _ = (λ e. absurd e, λ e. absurd e)

-- where a halt has ended, the frame goes on in its operation, and holds what it held
record GoneOn (mode : Mode) (v : Verb) (f : Frame) : Type 0 where
  pub place : Pc
  pub goes : after_halt f.place ≡ Some place
  pub stage : Footing mode v (record f { place = after_halt f.place }) place
  pub hold : SameHold f (record f { place = after_halt f.place })

behind_of : (mode : Mode) (v : Verb) (f : Frame) (c d : Pc) → f.place ≡ Some c
    → after_halt (Some c) ≡ Some d → is_rw_row c ≡ false → owes_kick (Some c) ≡ false
    → ((V : Verb) → BelongsTo mode V c → BelongsTo mode V d) → Footing mode v f c → GoneOn mode v f
behind_of mode v f c d at after spin calm rows stage = by (stands mode v f c at stage)
  where
    goes : after_halt f.place ≡ Some d
    goes = ap after_halt at ∙ after

    by : Stance mode v f c → GoneOn mode v f
    by (Acts V t row) = let s =
        t.stages (record f { place = after_halt f.place }) d refl goes (rows V row) in
        record { place = d; goes = goes; stage = s.0; hold = s.1 }
    by (Owes is inner over plain) =
        absurd (let z = ap (λ (x : Pc). owes_kick (Some x)) is in grind (arith, z, calm))
    by (Shares rw row) = absurd (grind (arith, rw, spin))

module _ (m : Machine) (p : ℕ) (hs : LockName → LockHistory) (shows : ShowsAll m hs)
    (range : p < length m.cpus) where
  abbrev v : Waiter
  v = top_of m p

  abbrev d : Frame
  d = top_frame m p

  on_top : frame_at m v ≡ Some d
  on_top = top_live m p hs shows range

  newest : IsNewest (world m) v
  newest = top_newest m hs shows p range

  abbrev spin_hs : LockName → LockHistory
  spin_hs = spin_part (world m).kind hs

  here : Fits m v d
  here = shows.fits v d on_top

  -- the processor halts only with its top frame at such a row
  pub at_halt : halted_at m p ≡ true → stands_halting d.place ≡ true
  at_halt halted =
      (nudge_keeps (world m) hs (rules_of m.setup) v d shows.world newest on_top halted).0

  module _ (halted : halted_at m p ≡ true) where
    abbrev g : Frame
    g = record d { place = after_halt d.place }

    abbrev x : World
    x = roused (world m) v d

    found : (c : Pc) × (at : d.place ≡ Some c) × GoneOn m.setup.mode (here.working c at).op.verb d
    found = elim (halting_place d.place (at_halt halted)) [
      | inl e ↦ (
        W6,
        e,
        behind_of m.setup.mode (here.working W6 e).op.verb d W6 W7 e refl refl refl
            (λ V. (behind_row m.setup.mode V).0) (here.working W6 e).stage,
      )
      | inr e ↦ (
        E12,
        e,
        behind_of m.setup.mode (here.working E12 e).op.verb d E12 E2 e refl refl refl
            (λ V. (behind_row m.setup.mode V).1) (here.working E12 e).stage,
      )
    ]

    works : Works m.setup.mode (program_of m p d) d found.0
    works = here.working found.0 found.1

    fit : Fits m v g
    fit =
        let b = found.2 in
        let r : Ready m p d found.0 =
        record {
          whole = shows.whole;
          range = range;
          fits = shows.fits;
          live = on_top;
          works = here.working found.0 found.1;
        } in
        goes_fit m p d found.0 hs r g b.place
        (record { ctx = refl; program = refl; position = refl }) b.goes refl b.stage
        r.works.after (record { prev = here.prev; target = here.target })

    held_same : (l : LockName) → held_at m v l (Some g) ≡ held_of m v l
    held_same l =
        let b = found.2 in
        held_goes (program_of m p d) d g {r = rw_phase_of d} {r' = rw_phase_of g} {v = is_over d}
        {v' = is_over g} {i = d.lock.index} {n = d.«at»}
        (record { phase = refl; over = refl; index = refl; position = refl })
        (record { phase = refl; over = refl; index = refl; position = refl }) b.hold.inner
        b.hold.over l ∙ sym (ap (held_at m v l) on_top)

    woken_world : world (woken m p) ≡ x
    woken_world =
        let in_top : p < length (set_top m p g).cpus = rw (same_set_top m p g).keeps.cpus range in
        world-set_halted (set_top m p g) p false in_top
        ∙ ap (λ (y : World). put_halted y p false)
        (world-set_top m p g (shows.whole.tops p range)
        ∙ holding_same (world m) v (Some g) (λ l. held_at m v l (Some g)) held_same)

    woken_same : KeepsFrames m (woken m p)
    woken_same =
        same_then m (set_top m p g) (woken m p) (same_set_top m p g)
        (same_set_halted (set_top m p g) p false)

    -- a machine whose world is as it is after the halt
    shows_awake : (k : Machine) (y : World) (ks : LockName → LockHistory) → KeepsFrames m k
        → world k ≡ y
        → ((u : Waiter) → y.frame u ≡ x.frame u) → IsSoundWorld y ks → ShowsAll k ks
    shows_awake k y ks same is frames sound =
        record {
          whole = whole_same m k shows.whole same;
          world = subst (λ (z : World). IsSoundWorld z ks) (sym is) sound;
          fits =
              fits_all m k v (Some g) same.keeps (λ u. ap (λ (z : World). z.frame u) is ∙ frames u)
              (λ z q. subst (λ (h : Frame). Fits k v h) (same_Some g z q)
              (fits_kept m k v g same.keeps fit)) (λ u z ne q. shows.fits u z q);
        }

    told_by : (what : What)
        → ◌≡◌ {A = Event} (record { by = record { cpu = p; ctx = d.ctx }; what = what })
        (record { by = v; what = what })
    told_by what = ap (λ (i : ℕ). record { by = record { cpu = p; ctx = i }; what = what }) here.ctx

    -- what the end of a halt gives, as the machine tells it
    halt_kept : (k : Machine) (y : World) (what : What) → KeepsFrames m k → world k ≡ y
        → ((u : Waiter) → y.frame u ≡ x.frame u)
        → IsSoundWorld y (told_on hs (Some (record { by = v; what = what })))
        → MayFollow (rules_of m.setup) hs (record { by = v; what = what })
        → ((es : List Event) → ShowsKicks (world m) es
        → ShowsKicks y (es ++ record { by = v; what = what } ∷ []))
        → StillShows m hs (k, Some (record { by = record { cpu = p; ctx = d.ctx }; what = what }))
    halt_kept k y what same is frames sound allowed kicks =
        let P : Event → Type 0 = λ e. StillShows m hs (k, Some e) in
        subst P (sym (told_by what)) (record {
          shows =
              shows_awake k y (told_on hs (Some (record { by = v; what = what }))) same is frames
              sound;
          allowed = allowed;
          kicks = λ es shown.
              subst (λ (z : World). ShowsKicks z (es ++ record { by = v; what = what } ∷ []))
              (sym is) (kicks es shown);
        })

    -- by a kick
    wake_kept : StillShows m hs (kicked_awake m p)
    wake_kept =
        let law = wake_keeps (world m) hs (rules_of m.setup) v d shows.world newest on_top halted in
        let in_woken : p < length (woken m p).cpus = rw woken_same.keeps.cpus range in
        halt_kept (set_kicked (woken m p) p false) (put_kicked x p false) (Wake d.lock)
        (same_then m (woken m p) (set_kicked (woken m p) p false) woken_same
        (same_set_kicked (woken m p) p false))
        (world-set_kicked (woken m p) p false in_woken
        ∙ ap (λ (y : World). put_kicked y p false) woken_world) (λ u. refl) law.1 law.2
        (λ es shown.
        wake_shows (world m) spin_hs v d es shows.world.spins newest on_top halted shown)

    -- by a nudge
    nudged_kept : StillShows m hs (nudged m p)
    nudged_kept =
        let law =
        nudge_keeps (world m) hs (rules_of m.setup) v d shows.world newest on_top halted in
        halt_kept (woken m p) x Nudge woken_same woken_world (λ u. refl) law.1 law.2
        (λ es shown.
        nudge_shows (world m) spin_hs v d es shows.world.spins newest on_top halted shown)

    -- by an interrupt, whose frame comes on top
    int_shows_all : ShowsAll (woken m p) hs
    int_shows_all =
        let law = int_keeps (world m) hs (rules_of m.setup) v d shows.world newest on_top halted in
        shows_awake (woken m p) x hs woken_same woken_world (λ u. refl) law.1

    int_calm : HasNoSleeper (world (woken m p)) p
    int_calm = subst (λ (y : World). HasNoSleeper y p) (sym woken_world)
        (roused_is_awake (world m) spin_hs v d shows.world.spins newest on_top)

    int_kicks : (es : List Event) → ShowsKicks (world m) es
        → ShowsKicks (world (woken m p))
        (es ++ record { by = record { cpu = p; ctx = depth_at m p }; what = Int } ∷ [])
    int_kicks es shown =
        let top = shows.whole.tops p range in
        let up : (top_of m p).ctx + 1 ≡ depth_at m p = omega (arith, top.some) in
        subst (λ (i : ℕ).
        ShowsKicks (world (woken m p))
        (es ++ record { by = record { cpu = p; ctx = i }; what = Int } ∷ [])) up
        (subst (λ (y : World).
        ShowsKicks y
        (es ++ record { by = record { cpu = p; ctx = (top_of m p).ctx + 1 }; what = Int } ∷ []))
        (sym woken_world)
        (int_shows (world m) spin_hs v d es shows.world.spins newest on_top halted shown))

  -- an interrupt finds its entry
  pub interrupted_kept : depth_at m p < 6 → handlers_at m p < handlers_of m.setup p
      → (halted_at m p ≡ false → stands_halting d.place ≡ false) → StillShows m hs (interrupted m p)
  interrupted_kept room left open_entry = elim (cases_Bool (halted_at m p)) [
    | inl e ↦
        let k : Machine = woken m p in
        let same = woken_same e in
        let in_k : p < length k.cpus = rw same.keeps.cpus range in
        let deep : depth_at k p ≡ depth_at m p = same.depth p in
        let used : handlers_at k p ≡ handlers_at m p = same.handlers p in
        let name : handler_frame k p ≡ handler_frame m p =
        (λ i. record rest_frame { ctx = deep i; program = used i + 1 }) in
        let setup : handlers_of k.setup p ≡ handlers_of m.setup p =
        ap (λ (s : Setup). handlers_of s p) same.keeps.setup in
        let low : depth_at k p < 6 = omega arith in
        let some : handlers_at k p < handlers_of k.setup p = omega arith in
        let shown = pushed_shows k p hs (int_shows_all e) in_k low some (int_calm e) in
        let kicked = pushed_kicks k p hs (int_shows_all e) in_k low some (int_calm e) in
        let is : awake m p ≡ k = ap (λ (b : Bool). if b then woken m p else m) e in
        answer k is name shown
        (λ es given.
        kicked (es ++ record { by = record { cpu = p; ctx = depth_at m p }; what = Int } ∷ [])
        (int_kicks e es given))
    | inr e ↦
        let calm =
        (top_is_awake (world m) spin_hs v d shows.world.spins newest on_top (open_entry e)).0 in
        let shown = pushed_shows m p hs shows range room left calm in
        let kicked = pushed_kicks m p hs shows range room left calm in
        let is : awake m p ≡ m = ap (λ (b : Bool). if b then woken m p else m) e in
        answer m is refl shown
        (λ es given.
        kicked (es ++ record { by = record { cpu = p; ctx = depth_at m p }; what = Int } ∷ [])
        (int_awake_shows (world m) (next_of m p) es e given))
  ]
    where
      f : Frame
      f = handler_frame m p

      told : Event
      told = record { by = record { cpu = p; ctx = depth_at m p }; what = Int }

      answer : (k : Machine) → awake m p ≡ k → handler_frame k p ≡ handler_frame m p
          → ShowsAll (settled (push k p (handler_frame k p)) p (handler_frame k p)) hs
          → ((es : List Event) → ShowsKicks (world m) es
          → ShowsKicks (world (settled (push k p (handler_frame k p)) p (handler_frame k p)))
          (es ++ record { by = record { cpu = p; ctx = depth_at m p }; what = Int } ∷ []))
          → StillShows m hs (interrupted m p)
      answer k is name shown kicked =
          let Q : Machine → Frame → Type 0 =
          λ y h. StillShows m hs (
            settled (push y p h) p h,
            Some (record { by = record { cpu = p; ctx = depth_at m p }; what = Int }),
          ) in
          let base : Q k (handler_frame k p) =
          record { shows = shown; allowed = λ l e. absurd (none-some l e); kicks = kicked } in
          subst (λ (y : Machine). Q y (handler_frame m p)) (sym is)
          (subst (λ (h : Frame). Q k h) name base)

module _ (m : Machine) (p : ℕ) (hs : LockName → LockHistory) (shows : ShowsAll m hs) where
  preempted_shows : (b : Bool) → ShowsAll (set_preempted m p b) hs
  preempted_shows b =
      let n = set_preempted m p b in
      let same = same_set_preempted m p b in
      let is = world-set_preempted m p b in
      record {
        whole = whole_same m n shows.whole same;
        world = subst (λ (x : World). IsSoundWorld x hs) (sym is) shows.world;
        fits = λ u g e.
            fits_kept m n u g same.keeps (shows.fits u g
            (sym (ap (λ (x : World). x.frame u) is) ∙ e));
      }

  preempted_kept : (b : Bool) → StillShows m hs (set_preempted m p b, None)
  preempted_kept b =
      record {
        shows = preempted_shows b;
        allowed = tt;
        kicks = λ es shown.
            subst (λ (x : World). ShowsKicks x es) (sym (world-set_preempted m p b)) shown;
      }

module _ (m : Machine) (hs : LockName → LockHistory) (shows : ShowsAll m hs) where
  still : StillShows m hs (idle m)
  still = idle_kept m hs shows

  step_kept : (p : ℕ) → p < length m.cpus → StillShows m hs (step m p)
  step_kept p range = by (preempted_at m p)
    where
      halted_kept : halted_at m p ≡ true → (b : Bool)
          → StillShows m hs (if b then kicked_awake m p else idle m)
      halted_kept e true = wake_kept m p hs shows range e
      halted_kept e false = still

      by : (b : Bool)
          → StillShows m hs (if b then idle m
          else (if halted_at m p then step_halted m p else row m p))
      by true = still
      by false = elim
          (cases_Bool (halted_at m p)) [
            | inl e ↦ rw e (halted_kept e (kicked_at m p))
            | inr e ↦ rw e (row_kept m p hs shows range)
          ]

  interrupt_kept : (p : ℕ) → p < length m.cpus → StillShows m hs (next m (act.Interrupt p))
  interrupt_kept p range =
      elim (cases_Bool (is_shut m p)) [
        | inl e ↦ rw e still
        | inr e ↦
            let a = or_parts
            (preempted_at m p || nat_le 6 (depth_at m p)
            || nat_le (handlers_of m.setup p) (handlers_at m p))
            (stands_halting (top_frame m p).place && not (halted_at m p)) e in
            let b =
            or_parts (preempted_at m p || nat_le 6 (depth_at m p))
            (nat_le (handlers_of m.setup p) (handlers_at m p)) a.0 in
            let c = or_parts (preempted_at m p) (nat_le 6 (depth_at m p)) b.0 in
            rw e (interrupted_kept m p hs shows range (leb-false 6 (depth_at m p) c.1)
            (leb-false (handlers_of m.setup p) (handlers_at m p) b.1)
            (λ q. let z = a.1 in grind (arith, q, z)))
      ]

  preempt_kept : (p : ℕ) → StillShows m hs (next m (act.Preempt p))
  preempt_kept p = by (preempted_at m p)
    where
      by : (b : Bool) → StillShows m hs (if b then idle m else (set_preempted m p true, None))
      by true = still
      by false = preempted_kept m p hs shows true

  resume_kept : (p : ℕ) → StillShows m hs (next m (act.Resume p))
  resume_kept p = by (preempted_at m p)
    where
      by : (b : Bool) → StillShows m hs (if b then (set_preempted m p false, None) else idle m)
      by true = preempted_kept m p hs shows false
      by false = still

  nudge_kept : (p : ℕ) → p < length m.cpus → StillShows m hs (next m (act.Nudge p))
  nudge_kept p range = by (preempted_at m p)
    where
      by : (b : Bool) → StillShows m hs (if b || not (halted_at m p) then idle m else nudged m p)
      by true = still
      by false = elim (cases_Bool (halted_at m p)) [
        | inl e ↦ rw e (nudged_kept m p hs shows range e)
        | inr e ↦ rw e still
      ]

  -- whatever the act, it keeps what the machine shows
  pub act_kept : (a : Act) → processor_of a < length m.cpus → StillShows m hs (next m a)
  act_kept (act.Step p) range = step_kept p range
  act_kept (act.Interrupt p) range = interrupt_kept p range
  act_kept (act.Preempt p) range = preempt_kept p
  act_kept (act.Resume p) range = resume_kept p
  act_kept (act.Nudge p) range = nudge_kept p range
