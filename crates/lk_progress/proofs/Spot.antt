-- While heads turn on the spot, a step that would lead on still would.
use Rattle.std.proofs.Common.{◌≡◌, ◌⊎◌, inl, inr, ℕ, ◌<◌, Option, Some, None, Bool, true, false}
use Rattle.std.proofs.Common.{refl, sym, ap, ◌∙◌, subst, arith, length, if◌then◌else◌}
use Rattle.lk_progress.proofs.Names.{cases_Bool, cases_lt, RwFields, Fields, NodeName, LockHistory}
use Rattle.lk_progress.proofs.Names.{LockName, Mode, Waiter, idle, next, step_halted, Machine}
use Rattle.lk_progress.proofs.Names.{halted_at, rw_at, top_frame, top_of, word_at, node_of, row}
use Rattle.lk_progress.proofs.Names.{row_at, target, Frame, Node, Pc, C1, C3, C10, G6, G7, G10, N1}
use Rattle.lk_progress.proofs.Names.{P3, R2, R5, V1, Wr5, Why, Setup, is_last, rw_row, nobody_halts}
use Rattle.lk_progress.proofs.Names.{if-true, not-true, same_waiter-self, row_is_done, halts}
use Rattle.lk_progress.proofs.Names.{chooses, may_halt, course_in, ShowsAll, world, spin_part, led}
use Rattle.lk_progress.proofs.Names.{World, IsBarred, polls, above_top, top_live, left_in, turn_of}
use Rattle.lk_progress.proofs.Names.{TurnsOnTheSpot}
use Rattle.lk_rows.specs.Machine.{frame_at, preempted_at, node_at}
use Rattle.lk_rows.specs.{rows.Queue.{queue_row, flag_row, next_row}, rows.Spin.spin_row}
use Rattle.lk_waits.proofs.Stands.{still_polls}
use Rattle.lk_waits.specs.Waits.{StandsStill}
use Rattle.lk_core.proofs.Access.{top_frame-is}
use Rattle.lk_progress.proofs.{Descends.row_descends, Potential.contexts_of, Reached.row_stuck}
use Rattle.lk_progress.proofs.Still.{stays_same}
use Rattle.lk_names.specs.declared.events.Act.TheVariants as act
use Rattle.lk_rows.specs.declared.parts.Why.TheVariants as why

-- a head at a row turns on the spot, or does not

barred_C1 : (m : World) (f : Frame) (o s : Option NodeName) (b : Bool) → (m.node (node_of f.me)).next ≡ o → f.second ≡ s
    → is_last f (m.word f.lock) ≡ b → IsBarred m f C1 ⊎ (IsBarred m f C1 → ⊥)
barred_C1 m f (Some n) s b e q p = inr (λ z. let y = z.0 in cc (e, y))
barred_C1 m f None None b e q p = inl (e, inl q)
barred_C1 m f None (Some t) false e q p = inl (e, inr p)
barred_C1 m f None (Some t) true e q p = inr (λ z. elim z.1 [ inl y ↦ cc (q, y) | inr y ↦ cc (p, y) ])

barred_C10 : (m : World) (f : Frame) (o : Option NodeName) (b : Bool) → (m.node (node_of f.me)).next ≡ o
    → is_last f (m.word f.lock) ≡ b → IsBarred m f C10 ⊎ (IsBarred m f C10 → ⊥)
barred_C10 m f (Some n) b e p = inr (λ z. let y = z.0 in cc (e, y))
barred_C10 m f None true e p = inr (λ z. let y = z.1 in cc (p, y))
barred_C10 m f None false e p = inl (e, p)

barred_C3 : (m : World) (f : Frame) (y : Why) → f.why ≡ y → IsBarred m f C10 ⊎ (IsBarred m f C10 → ⊥)
    → IsBarred m f C3 ⊎ (IsBarred m f C3 → ⊥)
barred_C3 m f why.Append e h = inr (λ z. let y = z.2 in cc (e, y))
barred_C3 m f why.Flush e h = inr (λ z. let y = z.2 in cc (e, y))
barred_C3 m f why.Promotion e h = elim h [ inl b ↦ inl (b.0, b.1, e) | inr off ↦ inr (λ z. off (z.0, z.1)) ]

barred_or : (m : World) (f : Frame) (c : Pc) → IsBarred m f c ⊎ (IsBarred m f c → ⊥)
barred_or m f C1 = barred_C1 m f (m.node (node_of f.me)).next f.second (is_last f (m.word f.lock)) refl refl refl
barred_or m f C3 = barred_C3 m f f.why refl (barred_C10 m f (m.node (node_of f.me)).next (is_last f (m.word f.lock)) refl refl)
barred_or m f C10 = barred_C10 m f (m.node (node_of f.me)).next (is_last f (m.word f.lock)) refl refl
barred_or m f _ = inr (λ z. z)

pub spot_or : (m : Machine) (p : ℕ) → TurnsOnTheSpot m p ⊎ (TurnsOnTheSpot m p → ⊥)
spot_or m p = by (top_frame m p).place refl
  where
    by : (o : Option Pc) → (top_frame m p).place ≡ o → TurnsOnTheSpot m p ⊎ (TurnsOnTheSpot m p → ⊥)
    by None e = inr (λ t. let z = t.here in cc (e, z))
    by (Some c) e = elim (barred_or (world m) (top_frame m p) c) [
      | inl b ↦ inl (record { place = c; here = e; barred = b })
      | inr off ↦ inr (λ t. off (subst (IsBarred (world m) (top_frame m p))
          (let z : Some t.place ≡ Some c = sym t.here ∙ e in (let y : t.place ≡ c = cc z in y)) t.barred))
    ]

-- The machine k is m to the processor q: it meets the same words and nodes, and has the same frames.
pub record Like (m k : Machine) (q : ℕ) : Type 0 where
  pub setup : k.setup ≡ m.setup
  pub word : (l : LockName) → word_at k l ≡ word_at m l
  pub rw : (i : ℕ) → rw_at k i ≡ rw_at m i
  pub node : (n : NodeName) → node_at k n ≡ node_at m n
  pub frame : (c : ℕ) → frame_at k (record { cpu = q; ctx = c }) ≡ frame_at m (record { cpu = q; ctx = c })

module _ (m k : Machine) (q : ℕ) (hs gs : LockName → LockHistory) (shows : ShowsAll m hs) (now : ShowsAll k gs)
    (awake : halts m.setup.mode ≡ false) (low : q < length m.cpus) (low_now : q < length k.cpus) (like : Like m k q) where
  abbrev f : Frame
  f = top_frame m q

  abbrev w : Waiter
  w = top_of m q

  live : frame_at m w ≡ Some f
  live = top_live m q hs shows low

  -- its newest frame is the same
  top : top_of k q ≡ w
  top =
      let there = top_live k q gs now low_now in
      elim (cases_lt (top_of k q).ctx w.ctx) [
        | inl less ↦ absurd (let z : None ≡ Some f = sym (above_top k q w.ctx less) ∙ like.frame w.ctx ∙ live in cc z)
        | inr ge ↦ elim (cases_lt w.ctx (top_of k q).ctx) [
          | inl less ↦ absurd (let z : None ≡ Some (top_frame k q) = sym (above_top m q (top_of k q).ctx less)
              ∙ sym (like.frame (top_of k q).ctx) ∙ there in cc z)
          | inr le ↦ (let same : (top_of k q).ctx ≡ w.ctx = omega (arith, ge, le) in (λ i. record { cpu = q; ctx = same i }))
        ]
      ]

  live_now : frame_at k (top_of k q) ≡ Some f
  live_now = ap (frame_at k) top ∙ like.frame w.ctx ∙ live

  frame_same : top_frame k q ≡ f
  frame_same = top_frame-is k q f live_now

  awake_now : halts k.setup.mode ≡ false
  awake_now = ap (λ (s : Setup). halts s.mode) like.setup ∙ awake

  barred_same : (c : Pc) → IsBarred (world k) f c → IsBarred (world m) f c
  barred_same C1 b = (next_none b.0, elim b.1 [ inl e ↦ inl e | inr e ↦ inr (last_same ∙ e) ])
    where
      next_none : (node_at k (node_of f.me)).next ≡ None → (node_at m (node_of f.me)).next ≡ None
      next_none e = ap (λ (n : Node). n.next) (sym (like.node (node_of f.me))) ∙ e

      last_same : is_last f (word_at m f.lock) ≡ is_last f (word_at k f.lock)
      last_same = ap (is_last f) (sym (like.word f.lock))
  barred_same C3 b = (
    ap (λ (n : Node). n.next) (sym (like.node (node_of f.me))) ∙ b.0,
    ap (is_last f) (sym (like.word f.lock)) ∙ b.1,
    b.2,
  )
  barred_same C10 b = (
    ap (λ (n : Node). n.next) (sym (like.node (node_of f.me))) ∙ b.0,
    ap (is_last f) (sym (like.word f.lock)) ∙ b.1,
  )
  barred_same _ b = b

  pub spot_same : TurnsOnTheSpot k q → TurnsOnTheSpot m q
  spot_same t =
      record {
        place = t.place;
        here = ap (λ (g : Frame). g.place) (sym frame_same) ∙ t.here;
        barred = barred_same t.place (subst (λ (g : Frame). IsBarred (world k) g t.place) frame_same t.barred);
      }

  -- where a frame at a poll goes is the same
  abbrev goes_to : Machine → Waiter → Pc → Option Pc
  goes_to y u c = (led f (course_in (world y) u f c (target c f)).leads).place

  mode_same : k.setup.mode ≡ m.setup.mode
  mode_same = ap (λ (s : Setup). s.mode) like.setup

  to_same : (c : Pc) → may_halt c ≡ false → chooses c ≡ false → polls c ≡ true → (u : Waiter) → goes_to m u c ≡ goes_to k u c
  to_same V1 a b p u = ap (λ (x : Fields). (led f (spin_row m.setup.mode V1 f x).leads).place) (sym (like.word f.lock))
  to_same P3 a b p u = ap (λ (x : Fields). (led f (spin_row m.setup.mode P3 f x).leads).place) (sym (like.word f.lock))
  to_same G7 a b p u = ap (λ (x : Fields). (led f (queue_row m.setup.mode G7 f x).leads).place) (sym (like.word f.lock))
  to_same N1 a b p u = ap (λ (x : Fields). (led f (queue_row m.setup.mode N1 f x).leads).place) (sym (like.word f.lock))
  to_same G6 a b p u = ap (λ (x : Node). (led f (flag_row G6 f x.flag).leads).place) (sym (like.node (node_of f.me)))
  to_same G10 a b p u = ap (λ (x : Node). (led f (next_row m.setup.mode m.setup.spins G10 f x.next).leads).place) (sym (like.node (node_of f.me)))
  to_same R2 a b p u = ap (λ (x : RwFields). (led f (rw_row m.setup.mode R2 f x).leads).place) (sym (like.rw f.lock.index))
  to_same R5 a b p u =
      ap (λ (x : RwFields). (led f (rw_row m.setup.mode R5 f x).leads).place) (sym (like.rw f.lock.index))
      ∙ ap (λ (y : Mode). (led f (rw_row y R5 f (rw_at k f.lock.index)).leads).place) (sym mode_same)
  to_same Wr5 a b p u = ap (λ (x : RwFields). (led f (rw_row m.setup.mode Wr5 f x).leads).place) (sym (like.rw f.lock.index))
  to_same _ a b p u = cc (a, b, p)

  -- a step that changes nothing changed nothing
  pub still_same : preempted_at m q ≡ false → preempted_at k q ≡ false → (TurnsOnTheSpot m q → ⊥)
      → (next k (act.Step q)).0 ≡ k → (next m (act.Step q)).0 ≡ m
  still_same on on_now off still = step_is m on (nobody_halts (world m) (spin_part (world m).kind hs) shows.world.spins awake q) ∙ by f.place refl
    where
      step_is : (y : Machine) → preempted_at y q ≡ false → halted_at y q ≡ false → (next y (act.Step q)).0 ≡ (row y q).0
      step_is y runs up =
          ap (λ (b : Bool). (if b then idle y else (if halted_at y q then step_halted y q else row y q)).0) runs
          ∙ ap (λ (b : Bool). (if b then step_halted y q else row y q).0) up

      row_still : (row k q).0 ≡ k
      row_still =
          sym (step_is k on_now (nobody_halts (world k) (spin_part (world k).kind gs) now.world.spins awake_now q)) ∙ still

      by : (o : Option Pc) → f.place ≡ o → (row m q).0 ≡ m
      by None e = ap (λ (o : Option Pc). (row_at m q f o).0) e
      by (Some c) e = elim (cases_Bool (chooses c)) [
        | inl z ↦ absurd (off (spot_same (choosing c e z)))
        | inr b ↦ plain c e b
      ]
        where
          stuck : (c : Pc) → f.place ≡ Some c → StandsStill (world k) (top_of k q) f c
          stuck c e = row_stuck k gs now q f c low_now live_now e row_still

          stays : (c : Pc) → f.place ≡ Some c → led f (course_in (world k) (top_of k q) f c (target c f)).leads ≡ f
          stays c e =
              let z : Some (led f (course_in (world k) (top_of k q) f c (target c f)).leads) ≡ Some f =
              sym ((row_is_done (world k) (top_of k q) f c (target c f)).frame (top_of k q)
              ∙ if-true _ _ _ (same_waiter-self (top_of k q)))
              ∙ stuck c e in
              cc z

          -- a head that chooses and stands turns on the spot
          choosing : (c : Pc) → f.place ≡ Some c → chooses c ≡ true → TurnsOnTheSpot k q
          choosing c e z =
              elim (row_descends c (world k) (spin_part (world k).kind gs) (top_of k q) f now.world.spins (contexts_of k gs now) awake_now
              live_now e (now.world.fits (top_of k q) f live_now).after) [
                | inl y ↦ absurd (let no = y.1 in cc (z, no))
                | inr r ↦ elim r [
                  | inl lt ↦ absurd (let s = ap (left_in k.setup.mode) (stays c e) in omega (arith, lt, s))
                  | inr r ↦ elim r [
                    | inl t ↦ absurd (let lt = t.nearer in let s = ap (λ (g : Frame). turn_of (world k) (Some g)) (stays c e) in omega (arith, lt, s))
                    | inr t ↦ record {
                      place = c;
                      here = ap (λ (g : Frame). g.place) frame_same ∙ e;
                      barred = subst (λ (g : Frame). IsBarred (world k) g c) (sym frame_same) t.barred;
                    }
                  ]
                ]
              ]

          plain : (c : Pc) → f.place ≡ Some c → chooses c ≡ false → (row m q).0 ≡ m
          plain c e b =
              let a = not-true (may_halt c)
              (λ y. let z = (shows.world.spins.registers w f live).choice.halting c e y in cc (z, awake)) in
              let poll = still_polls (world k) (top_of k q) f (now.world.fits (top_of k q) f live_now).after c a b e (stuck c e) in
              let to : goes_to k (top_of k q) c ≡ Some c = ap (λ (g : Frame). g.place) (stays c e) ∙ e in
              ap (λ (o : Option Pc). (row_at m q f o).0) e
              ∙ stays_same m q f (shows.world.fits w f live).after c low live e a b
              (to_same c a b poll w ∙ at_top c ∙ to)
            where
              at_top : (c : Pc) → goes_to k w c ≡ goes_to k (top_of k q) c
              at_top c = ap (λ (u : Waiter). goes_to k u c) (sym top)
