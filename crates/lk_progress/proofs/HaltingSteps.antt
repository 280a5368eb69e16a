-- A step of the family that halts processors leads nowhere, or it leads on.
use Rattle.std.proofs.Common.{◌≡◌, ◌≢◌, ◌⊎◌, inl, inr, ℕ, ◌<◌, Option, Some, None, Bool, true}
use Rattle.std.proofs.Common.{false, refl, sym, ap, ◌∙◌, [], ◌∷◌, length, arith, if◌then◌else◌}
use Rattle.std.proofs.Common.{is_some, ◌&&◌, not}
use Rattle.lk_progress.proofs.Names.{cases_Bool, Fields, Locked, Held, NodeName, LockHistory}
use Rattle.lk_progress.proofs.Names.{history_of, LockName, idle, kicked_awake, next, stands_halting}
use Rattle.lk_progress.proofs.Names.{Machine, halted_at, kicked_at, rw_at, top_frame, top_of}
use Rattle.lk_progress.proofs.Names.{word_at, node_of, Done, gone, looks, at_rest, machine_after}
use Rattle.lk_progress.proofs.Names.{row, row_at, row_on, target, Frame, Pc, E14, H1, H2, R2, R5}
use Rattle.lk_progress.proofs.Names.{Wr5, Wr6, Setup, is_held, after_given_up, after_glance}
use Rattle.lk_progress.proofs.Names.{pv_after_next, admits, frees_wait, is_cleared, is_unlocked}
use Rattle.lk_progress.proofs.Names.{halts, IsThen, ShowsAll, world, spin_part, led, still_looks_at}
use Rattle.lk_progress.proofs.Names.{IsHeadServed, goes_around, top_live, GoesAround, IsFinished}
use Rattle.lk_progress.proofs.Names.{StepsNowhere}
use Rattle.lk_rows.specs.{Machine.{frame_at, set_top, node_at, preempted_at}, Row.Tailed}
use Rattle.lk_rows.specs.TopRow.{on_next}
use Rattle.lk_waits.proofs.HaltingStands.{looks_on, same_frame, still_E14}
use Rattle.lk_waits.proofs.Stands.{still_R2, still_R5, still_Wr5}
use Rattle.lk_progress.proofs.{Good.IsHalting, Reached.{Reached, reached_from_rest, row_stuck}}
use Rattle.lk_progress.proofs.Runs.{all_or}
use Rattle.lk_progress.proofs.RunsHalting.{row_halts, step_is, kept_served, finished_at}
use Rattle.lk_progress.proofs.Still.{set_top_same, stays_same}
use Rattle.lk_progress.proofs.Woken.{kicked_runs, sleeping_place}
use Rattle.lk_progress.specs.Runs.{SomebodyLeadsOn, SomebodyLeadsOnHalting}
use Rattle.lk_names.specs.declared.events.Act.TheVariants as act
use Rattle.lk_names.specs.declared.events.RwHow.TheVariants as how
use Rattle.lk_waits.specs.Waits as waits

pub bool_same : (a b : Bool) → (a ≡ b) ⊎ (a ≢ b)
bool_same true true = inl refl
bool_same false false = inl refl
bool_same true false = inr (λ e. cc e)
bool_same false true = inr (λ e. cc e)

glance_same : (me : Option NodeName) (x : Fields) → (after_glance me x ≡ H1) ⊎ (after_glance me x ≢ H1)
glance_same me x = by (is_unlocked x.locked && not x.pending) (is_some x.tail && not x.pending) me
  where
    by : (a b : Bool) (me : Option NodeName) → ((if a then H2 else (if b then H1 else after_given_up me)) ≡ H1)
        ⊎ ((if a then H2 else (if b then H1 else after_given_up me)) ≢ H1)
    by true b me = inr (λ e. cc e)
    by false true me = inl refl
    by false false None = inl refl
    by false false (Some n) = inr (λ e. cc e)

pub held_same : (b : Locked) → (b ≡ Held) ⊎ (b ≢ Held)
held_same b = elim (cases_Bool (is_held b)) [ inl e ↦ inl (grind (arith, e)) | inr e ↦ inr (λ q. let z = ap is_held q in cc (z, e)) ]

module _ (m : Machine) (hs : LockName → LockHistory) (shows : ShowsAll m hs) (on : halts m.setup.mode ≡ true) (p : ℕ)
    (lt : p < length m.cpus) where
  abbrev f : Frame
  f = top_frame m p

  live : frame_at m (top_of m p) ≡ Some f
  live = top_live m p hs shows lt

  inner : f.lock.wait ≡ true → IsThen f.then
  inner = (shows.world.fits (top_of m p) f live).after

  abbrev Stays : Pc → Type 0
  Stays c = waits.StandsStill (world m) (top_of m p) f c

  -- a poll leaves the machine as it was, or its frame moves
  pub polled : (c : Pc) → f.place ≡ Some c → looks_on c ≡ true
      → ((row_on m p f c (target c f)).0 ≡ m) ⊎ (Stays c → ⊥)
  polled H1 at l = elim (glance_same f.me (word_at m f.lock)) [
    | inr ne ↦ inr (λ still.
        let z : Some (after_glance f.me (word_at m f.lock)) ≡ Some H1 =
        ap (λ (g : Frame). g.place) (same_frame (world m) (top_of m p) f inner H1 still) ∙ at in
        ne (let y : after_glance f.me (word_at m f.lock) ≡ H1 = cc z in y))
    | inl e ↦ elim (bool_same (is_some (word_at m f.lock).tail) f.tailed) [
      | inr ne ↦ inr (λ still. ne (ap (λ (g : Frame). g.tailed) (same_frame (world m) (top_of m p) f inner H1 still)))
      | inl q ↦
          let r : Some (after_glance f.me (word_at m f.lock)) ≡ f.place = ap Some e ∙ sym at in
          let same : gone f (after_glance f.me (word_at m f.lock)) (Tailed (is_some (word_at m f.lock).tail) ∷ []) ≡ f =
          (λ i. record f { tailed = q i; place = r i }) in
          inl (ap (set_top m p) same ∙ set_top_same m p f lt live)
    ]
  ]
  polled E14 at l = by (node_at m (node_of f.me)).next refl
    where
      by : (o : Option NodeName) → (node_at m (node_of f.me)).next ≡ o → ((row_on m p f E14 (target E14 f)).0 ≡ m) ⊎ (Stays E14 → ⊥)
      by None e =
          let same : gone f E14 [] ≡ f = ap (λ (o : Option Pc). record f { place = o }) (sym at) in
          inl (ap (λ (o : Option NodeName). (on_next m p f (node_of f.me) (pv_after_next o)).0) e
          ∙ ap (set_top m p) same ∙ set_top_same m p f lt live)
      by (Some n) e = inr (λ still. let z = still_E14 (world m) (top_of m p) f inner at still in
          (let y : None ≡ Some n = sym z ∙ e in cc y))
  polled R2 at l = elim (cases_Bool (rw_at m f.lock.index).writer) [
    | inl e ↦ inl (stays_same m p f inner R2 lt live at refl refl
        (ap (λ (b : Bool). (led f (if b then looks R2 else admits f None how.Irq Done).leads).place) e))
    | inr e ↦ inr (λ still. let z = still_R2 (world m) (top_of m p) f inner at still in cc (z, e))
  ]
  polled R5 at l = elim (cases_Bool (rw_at m f.lock.index).writer) [
    | inl e ↦ inl (stays_same m p f inner R5 lt live at refl refl
        (ap (λ (b : Bool). (led f (if b then looks R5 else admits f None how.Queued (frees_wait m.setup.mode)).leads).place) e))
    | inr e ↦ inr (λ still. let z = still_R5 (world m) (top_of m p) f inner at still in cc (z, e))
  ]
  polled Wr5 at l = elim (cases_Bool (is_cleared (rw_at m f.lock.index))) [
    | inr e ↦ inl (stays_same m p f inner Wr5 lt live at refl refl (ap (λ (b : Bool). Some (if b then Wr6 else Wr5)) e))
    | inl e ↦ inr (λ still. let z = still_Wr5 (world m) (top_of m p) f inner at still in cc (z, e))
  ]
  polled _ at l = cc l

  module _ (unpreempted : (q : ℕ) → q < length m.cpus → preempted_at m q ≡ false) where
    -- the head that goes around stands at the row
    around_at : (c : Pc) → f.place ≡ Some c → (z : GoesAround m p) → z.place ≡ c
    around_at c at z = let y : Some z.place ≡ Some c = sym z.here ∙ at in cc y

    not_around : (c : Pc) → f.place ≡ Some c → goes_around c ≡ false → GoesAround m p → ⊥
    not_around c at off z =
        let y : goes_around c ≡ true = ap goes_around (sym (around_at c at z)) ∙ z.robbed.0 in cc (y, off)

    halting_around : (c : Pc) → stands_halting (Some c) ≡ true → goes_around c ≡ false
    halting_around c h = grind (arith, h)

    -- where its processor has halted
    halted_case : halted_at m p ≡ true → StepsNowhere m p ⊎ (StepsNowhere m p → ⊥)
    halted_case h = elim (cases_Bool (kicked_at m p)) [
      | inr k ↦ inl (inl (step_is m hs shows unpreempted p lt true h
          ∙ ap (λ (t : Bool). (if t then kicked_awake m p else idle m).0) k))
      | inl k ↦
          let s = sleeping_place m hs shows p lt h in
          inr (λ z. elim z [
            | inr a ↦ not_around s.0 s.1 (halting_around s.0 s.2) a
            | inl still ↦
                let e : (kicked_awake m p).0 ≡ m =
                sym (ap (λ (t : Bool). (if t then kicked_awake m p else idle m).0) k)
                ∙ sym (step_is m hs shows unpreempted p lt true h) ∙ still in
                let y : halted_at m p ≡ false =
                ap (λ (n : Machine). halted_at n p) (sym e) ∙ kicked_runs m hs shows p lt h in
                cc (y, h)
          ])
    ]

    -- where it runs
    running_case : halted_at m p ≡ false → (c : Pc) → f.place ≡ Some c → StepsNowhere m p ⊎ (StepsNowhere m p → ⊥)
    running_case h c at = elim (cases_Bool (stands_halting (Some c))) [
      | inl s ↦ inr (λ z. elim z [
        | inr a ↦ not_around c at (halting_around c s) a
        | inl still ↦
            let e : (row m p).0 ≡ m = sym step ∙ still in
            let y : halted_at m p ≡ true =
            ap (λ (n : Machine). halted_at n p) (sym e) ∙ row_halts m hs shows unpreempted p lt c at s in
            cc (y, h)
      ])
      | inr s ↦ elim (cases_Bool (goes_around c)) [
        | inl g ↦ elim (bool_same f.hashed true) [
          | inr ne ↦ inr (λ z. elim z [ inr a ↦ ne a.robbed.1 | inl still ↦ moved s g still ])
          | inl q ↦ elim (held_same (word_at m f.lock).locked) [
            | inl b ↦ inl (inr (record { place = c; here = at; robbed = (g, q, b) }))
            | inr ne ↦ inr (λ z. elim z [ inr a ↦ ne a.robbed.2 | inl still ↦ moved s g still ])
          ]
        ]
        | inr g ↦ elim (cases_Bool (looks_on c)) [
          | inr l ↦ inr (λ z. elim z [ inr a ↦ not_around c at g a | inl still ↦ stirs s l still ])
          | inl l ↦ elim (polled c at l) [
            | inl same ↦ inl (inl (step ∙ row_is c at ∙ same))
            | inr off ↦ inr (λ z. elim z [ inr a ↦ not_around c at g a | inl still ↦ off (stuck still) ])
          ]
        ]
      ]
    ]
      where
        step : (next m (act.Step p)).0 ≡ (row m p).0
        step = step_is m hs shows unpreempted p lt false h

        row_is : (d : Pc) → f.place ≡ Some d → (row m p).0 ≡ (row_on m p f d (target d f)).0
        row_is d q = ap (λ (o : Option Pc). (row_at m p f o).0) q

        stuck : (next m (act.Step p)).0 ≡ m → Stays c
        stuck still = row_stuck m hs shows p f c lt live at (sym step ∙ still)

        stirs : stands_halting (Some c) ≡ false → looks_on c ≡ false → (next m (act.Step p)).0 ≡ m → ⊥
        stirs s l still = let z = still_looks_at (world m) (spin_part (world m).kind hs) (top_of m p) f c
            shows.world.spins on live inner at s (stuck still) in cc (z, l)

        around_looks : (d : Pc) → goes_around d ≡ true → looks_on d ≡ false
        around_looks d g = grind (arith, g)

        moved : stands_halting (Some c) ≡ false → goes_around c ≡ true → (next m (act.Step p)).0 ≡ m → ⊥
        moved s g still = stirs s (around_looks c g) still

    pub decided : StepsNowhere m p ⊎ (StepsNowhere m p → ⊥)
    decided = elim (cases_Bool (halted_at m p)) [ inl h ↦ halted_case h | inr h ↦ by h f.place refl ]
      where
        by : halted_at m p ≡ false → (o : Option Pc) → f.place ≡ o → StepsNowhere m p ⊎ (StepsNowhere m p → ⊥)
        by h None at = inl (inl (step_is m hs shows unpreempted p lt false h ∙ ap (λ (o : Option Pc). (row_at m p f o).0) at))
        by h (Some c) at = running_case h c at

pub somebody_leads_on_halting : SomebodyLeadsOnHalting
somebody_leads_on_halting rank size setup acts ok ordered on range unpreempted = by
    (all_or (length (machine_after (at_rest setup) acts).cpus) (StepsNowhere (machine_after (at_rest setup) acts))
    (λ p. StepsNowhere (machine_after (at_rest setup) acts) p → ⊥)
    (λ p lt. decided (machine_after (at_rest setup) acts) (λ l. history_of l r.events) r.shows.shows
    (ap (λ (s : Setup). halts s.mode) r.setup_is ∙ on) p lt unpreempted))
  where
    r : Reached IsHeadServed setup (machine_after (at_rest setup) acts)
    r = reached_from_rest IsHalting IsHeadServed kept_served setup acts ok on (λ e. absurd (let z = on in cc (e, z))) range

    by : ((p : ℕ) → p < length (machine_after (at_rest setup) acts).cpus → StepsNowhere (machine_after (at_rest setup) acts) p)
        ⊎ ((p : ℕ) × (p < length (machine_after (at_rest setup) acts).cpus)
        × (StepsNowhere (machine_after (at_rest setup) acts) p → ⊥))
        → ((p : ℕ) → p < length (machine_after (at_rest setup) acts).cpus → IsFinished (machine_after (at_rest setup) acts) p)
        ⊎ SomebodyLeadsOn (machine_after (at_rest setup) acts)
    by (inl still) =
        inl (finished_at rank size setup ordered on (machine_after (at_rest setup) acts) r unpreempted still)
    by (inr z) = inr (record { processor = z.0; inside = z.1; leads = z.2 })
