-- Every act keeps a machine steady, and what is true of its heads that wait for a successor.
use Rattle.std.proofs.Common.{◌≡◌, ◌≢◌, ◌⊎◌, inl, inr, ℕ, zero, suc, ◌<◌, ◌≤◌, ◌+◌, ◌-◌, Option}
use Rattle.std.proofs.Common.{Some, None, Bool, true, false, refl, sym, ap, ◌∙◌, subst, arith}
use Rattle.std.proofs.Common.{length, if◌then◌else◌, ◌||◌, ◌&&◌, not, nat_le}
use Rattle.lk_progress.proofs.Names.{cases_Bool, leb-false, or_parts, LockHistory, same_waiter, Act}
use Rattle.lk_progress.proofs.Names.{LockName, Mode, Waiter, after_halt, handler_frame, idle}
use Rattle.lk_progress.proofs.Names.{is_shut, kicked_awake, next, nudged, processor_of}
use Rattle.lk_progress.proofs.Names.{stands_halting, step_halted, woken, HasTop, Machine, halted_at}
use Rattle.lk_progress.proofs.Names.{handlers_at, kicked_at, push, queued_at, set_kicked}
use Rattle.lk_progress.proofs.Names.{set_preempted, top_frame, top_of, settled, handlers_of, row}
use Rattle.lk_progress.proofs.Names.{row_at, target, Frame, Pc, E2, E12, G1, R3, W6, W7, is_set}
use Rattle.lk_progress.proofs.Names.{waiter_cases, if-false, if-true, same_waiter-else}
use Rattle.lk_progress.proofs.Names.{same_waiter-self, halts, moves_aside, course_in, stored_in}
use Rattle.lk_progress.proofs.Names.{IsThen, ShowsAll, world, spin_part, IsSoundSpinWorld, led}
use Rattle.lk_progress.proofs.Names.{World, IsQuietFrame, above_top, top_live, KeepsFrames}
use Rattle.lk_progress.proofs.Names.{depth_push, has_top_same, tops_push, next_of, world-push}
use Rattle.lk_progress.proofs.Names.{world-set_preempted, IsSteady, ReadsAlone}
use Rattle.lk_rows.specs.{Acts.awake, Machine.{frame_at, depth_at, preempted_at}}
use Rattle.lk_law.specs.{Premises.IsNewest, Sound.RunsOne}
use Rattle.lk_waits.proofs.{Changed.{Changed, Roused}, Quiet.Comes}
use Rattle.lk_progress.proofs.{Moves.{Moves, Settled, settled_is}, Reading.row_reads_alone}
use Rattle.lk_progress.proofs.Rows.{Put, row_moves}
use Rattle.lk_progress.proofs.Settling.{settled_quiet, settled_same, settled_reads}
use Rattle.lk_progress.proofs.Woken.{top_newest, sleeps, woken_keeps, roused_is, kicked_is}
use Rattle.lk_names.specs.declared.events.Act.TheVariants as act

-- A machine is steady, and its world is so.
pub record IsGood (F : World → Type 0) (m : Machine) : Type 0 where
  pub steady : IsSteady (world m)
  pub followed : F (world m)

-- the families in which no processor halts, and somebody is moved aside or nobody; and that in which
-- processors halt
abbrev pub IsAwake : Bool → Mode → Type 0
IsAwake aside mode = (halts mode ≡ false) × (moves_aside mode ≡ aside)

abbrev pub IsHalting : Mode → Type 0
IsHalting mode = halts mode ≡ true

-- What is true of heads is kept in these families: by every row, if its frame finds a node left where no
-- processor halts; where the frame of an interrupt comes; and by the end of a halt.
pub record IsKept (S : Mode → Type 0) (F : World → Type 0) : Type 0 where
  pub rest : (m : World)
      → ((u : Waiter) (f : Frame) → m.frame u ≡ Some f → IsQuietFrame f)
      → F m
  pub comes : (a b : World) (w : Waiter) → Comes a b w → F a → F b
  pub rows : (c : Pc) (m n : World) (hs : LockName → LockHistory) (w : Waiter) (f : Frame)
      → IsSoundSpinWorld m hs
      → S m.mode
      → m.frame w ≡ Some f
      → f.place ≡ Some c
      → (f.lock.wait ≡ true → IsThen f.then)
      → (c ≡ G1 → halts m.mode ≡ false → m.queued w.cpu < 4)
      → Changed m n w f c
      → F m
      → F n
  pub ends : (m n : World) (hs : LockName → LockHistory) (w : Waiter) (f : Frame)
      → IsSoundSpinWorld m hs
      → S m.mode
      → IsNewest m w
      → m.frame w ≡ Some f
      → m.halted w.cpu ≡ true
      → Roused m n w f
      → F m
      → F n

-- An interrupt comes to a machine whose heads are as they should be: the frame g of the next handler.
module _ (m : Machine) (F : World → Type 0) (S : Mode → Type 0) (kept : IsKept S F) (good : IsGood F m) (p : ℕ) (g : Frame)
    (top : HasTop m p) (runs : (u : Waiter) (h : Frame) → frame_at m u ≡ Some h → RunsOne m u h) (low : depth_at m p < 6)
    (ctx : g.ctx ≡ depth_at m p) (program : g.program ≡ handlers_at m p + 1) where
  range : p < length m.cpus
  range = top.in_range

  abbrev n : Machine
  n = push m p g

  abbrev fresh : Waiter
  fresh = next_of m p

  frames : (u : Waiter) → frame_at n u ≡ (if same_waiter u fresh then Some g else frame_at m u)
  frames u = ap (λ (y : World). y.frame u) (world-push m p g range)

  top_is : top_of n p ≡ fresh
  top_is = let e : depth_at n p - 1 ≡ depth_at m p = (let z = depth_push m p g range in omega (arith, z)) in
      (λ i. record { cpu = p; ctx = e i })

  absent : frame_at m fresh ≡ None
  absent = above_top m p (depth_at m p) (let z = top.some in omega (arith, z))

  pub interrupt_good : IsGood F (settled n p g)
  interrupt_good =
      record {
        steady = record { stacked = stacked; placed = placed; alone = alone };
        followed = kept.comes (world m) (world (settled n p g)) fresh (record {
          quietly = record {
            words = λ l. s.follows.word l ∙ ap (λ (y : World). y.word l) (world-push m p g range);
            others = there;
            either = inr (
              λ h e. settled_quiet n.setup.mode g s.now s.settles h (sym here ∙ e),
              λ h e. absurd (let z : None ≡ Some h = sym absent ∙ e in cc z),
            );
          };
          flags = λ x h. ap (λ (y : World). is_set (y.node x).flag) (sym (world-push m p g range)) ∙ s.follows.flags x h;
          kicked = λ q. s.follows.kicked q ∙ ap (λ (y : World). y.kicked q) (world-push m p g range);
        }) good.followed;
      }
    where
      s : Settled n p g (settled n p g)
      s = settled_is n p g (tops_push m p g range low p top)

      here : frame_at (settled n p g) fresh ≡ s.now
      here = s.follows.frame fresh
          ∙ ap (λ (b : Bool). if b then s.now else frame_at n fresh) (ap (same_waiter fresh) top_is ∙ same_waiter-self fresh)

      there : (u : Waiter) → u ≢ fresh → frame_at (settled n p g) u ≡ frame_at m u
      there u ne = s.follows.frame u
          ∙ ap (λ (b : Bool). if b then s.now else frame_at n u) (ap (same_waiter u) top_is ∙ same_waiter-else u fresh ne)
          ∙ frames u ∙ ap (λ (b : Bool). if b then Some g else frame_at m u) (same_waiter-else u fresh ne)

      new : (h : Frame) → frame_at (settled n p g) fresh ≡ Some h → (h.program ≡ handlers_at m p + 1) × (h.place ≢ None)
      new h e =
          let z = settled_same n.setup.mode g s.now s.settles h (sym here ∙ e) in
          let some = top.some in
          (z.0 ∙ program, z.1 (omega (arith, some, ctx)))

      old : (u : Waiter) (h : Frame) → u.cpu ≡ p → frame_at m u ≡ Some h → h.program ≤ handlers_at m p
      old u h cpu e = by u.ctx refl
        where
          one : RunsOne m u h
          one = runs u h e

          by : (i : ℕ) → u.ctx ≡ i → h.program ≤ handlers_at m p
          by zero q = let z = one.0 q in omega (arith, z)
          by (suc i) q =
              let z = (one.1 (omega (arith, q))).1 in
              subst (λ (r : ℕ). h.program ≤ handlers_at m r) cpu z

      stacked : (u x : Waiter) (a b : Frame) → u.cpu ≡ x.cpu → u.ctx < x.ctx → frame_at (settled n p g) u ≡ Some a
          → frame_at (settled n p g) x ≡ Some b → a.program < b.program
      stacked u x a b cpu lt lu lx = elim (waiter_cases x fresh) [
        | inl i ↦
            let ne : u ≢ fresh = (λ e. let z : u.ctx ≡ x.ctx = ap (λ (y : Waiter). y.ctx) (e ∙ sym i) in omega (arith, z, lt)) in
            let o = old u a (cpu ∙ ap (λ (y : Waiter). y.cpu) i) (sym (there u ne) ∙ lu) in
            let z = (new b (ap (frame_at (settled n p g)) (sym i) ∙ lx)).0 in
            omega (arith, o, z)
        | inr ne ↦ elim (waiter_cases u fresh) [
          | inl i ↦
              let deep : depth_at m p < x.ctx = subst (λ (y : Waiter). y.ctx < x.ctx) i lt in
              let in_p : x.cpu ≡ p = sym cpu ∙ ap (λ (y : Waiter). y.cpu) i in
              let none : frame_at m x ≡ None =
              ap (λ (q : ℕ). frame_at m (record { cpu = q; ctx = x.ctx })) in_p
              ∙ above_top m p x.ctx (let z = top.some in omega (arith, z, deep)) in
              absurd (let z : None ≡ Some b = sym none ∙ sym (there x ne) ∙ lx in cc z)
          | inr me ↦ good.steady.stacked u x a b cpu lt (sym (there u me) ∙ lu) (sym (there x ne) ∙ lx)
        ]
      ]

      placed : (u : Waiter) (h : Frame) → 0 < u.ctx → frame_at (settled n p g) u ≡ Some h → h.place ≢ None
      placed u h lt e = elim (waiter_cases u fresh) [
        | inl i ↦ (new h (ap (frame_at (settled n p g)) (sym i) ∙ e)).1
        | inr ne ↦ good.steady.placed u h lt (sym (there u ne) ∙ e)
      ]

      alone : (u : Waiter) (h : Frame) → 0 < u.ctx → frame_at (settled n p g) u ≡ Some h → ReadsAlone h
      alone u h lt e = elim (waiter_cases u fresh) [
        | inl i ↦
            let some = top.some in
            settled_reads n.setup.mode g s.now s.settles h (sym here ∙ ap (frame_at (settled n p g)) (sym i) ∙ e) (omega (arith, some, ctx))
        | inr ne ↦ good.steady.alone u h lt (sym (there u ne) ∙ e)
      ]

module _ (m : Machine) (hs : LockName → LockHistory) (shows : ShowsAll m hs) (S : Mode → Type 0) (family : S m.setup.mode)
    (F : World → Type 0) (kept : IsKept S F) (good : IsGood F m) where
  -- a row
  module _ (p : ℕ) (range : p < length m.cpus)
      (room : halts m.setup.mode ≡ false → (top_frame m p).place ≡ Some G1 → queued_at m p < 4) where
    abbrev w : Waiter
    w = top_of m p

    abbrev f : Frame
    f = top_frame m p

    live : frame_at m w ≡ Some f
    live = top_live m p hs shows range

    abbrev k : Machine
    k = (row m p).0

    module _ (c : Pc) (place : f.place ≡ Some c) where
      abbrev d : Frame
      d = led f (course_in (world m) w f c (target c f)).leads

      by_moves : (n : Machine) → Put m n (stored_in (world m) w f c (target c f)) → Moves n w f d k → IsGood F k
      by_moves n put moves =
          record {
            steady = record { stacked = stacked; placed = placed; alone = alone };
            followed =
                kept.rows c (world m) (world k) (spin_part (world m).kind hs) w f shows.world.spins family live place
                (shows.world.fits w f live).after (λ e awake. room awake (place ∙ ap Some e)) changed good.followed;
          }
        where
          here : frame_at k w ≡ moves.now
          here = moves.follows.frame w ∙ if-true (same_waiter w w) moves.now (frame_at n w) (same_waiter-self w)

          there : (u : Waiter) → u ≢ w → frame_at k u ≡ frame_at m u
          there u ne = moves.follows.frame u ∙ if-false (same_waiter u w) moves.now (frame_at n u) (same_waiter-else u w ne) ∙ put.frames u

          changed : Changed (world m) (world k) w f c
          changed = record {
            words = λ l. moves.follows.word l ∙ put.words l;
            kicked = λ q. moves.follows.kicked q ∙ put.kicked q;
            flags = λ x h. put.flags x (moves.follows.flags x h);
            others = there;
            goes = elim moves.turned [
              | inl t ↦ inl (here ∙ t.0)
              | inr t ↦ inr (t.0, λ g e. settled_quiet n.setup.mode t.1.0 moves.now t.1.4 g (sym here ∙ e))
            ];
          }

          -- the frame that is there now runs the same program, and a handler's has a place
          same_now : (g : Frame) → frame_at k w ≡ Some g → (g.program ≡ f.program) × (0 < w.ctx → g.place ≢ None)
          same_now g e = elim moves.turned [
            | inl t ↦
                let q : Some d ≡ Some g = sym t.0 ∙ sym here ∙ e in
                let y : d ≡ g = cc q in
                (ap (λ (h : Frame). h.program) (sym y) ∙ t.1, λ lt. subst (λ (h : Frame). h.place ≢ None) y t.3)
            | inr t ↦
                let s = settled_same n.setup.mode t.1.0 moves.now t.1.4 g (sym here ∙ e) in
                let ctx : f.ctx ≡ w.ctx = (shows.fits w f live).ctx in
                let hc = t.1.2 in
                (s.0 ∙ t.1.1, λ lt. s.1 (omega (arith, lt, ctx, hc)))
          ]

          -- each frame that is there was there, with its program
          was : (u : Waiter) (g : Frame) → frame_at k u ≡ Some g
              → (h : Frame) × (frame_at m u ≡ Some h) × (g.program ≡ h.program)
          was u g e = elim (waiter_cases u w) [
            | inl i ↦ (f, ap (frame_at m) i ∙ live, (same_now g (ap (frame_at k) (sym i) ∙ e)).0)
            | inr ne ↦ (g, sym (there u ne) ∙ e, refl)
          ]

          stacked : (u v : Waiter) (g h : Frame) → u.cpu ≡ v.cpu → u.ctx < v.ctx → frame_at k u ≡ Some g → frame_at k v ≡ Some h
              → g.program < h.program
          stacked u v g h cpu lt lu lv =
              let a = was u g lu in
              let b = was v h lv in
              let s = good.steady.stacked u v a.0 b.0 cpu lt a.1 b.1 in
              let i = a.2 in let j = b.2 in
              omega (arith, s, i, j)

          placed : (u : Waiter) (g : Frame) → 0 < u.ctx → frame_at k u ≡ Some g → g.place ≢ None
          placed u g lt e = elim (waiter_cases u w) [
            | inl i ↦ (same_now g (ap (frame_at k) (sym i) ∙ e)).1 (subst (λ (v : Waiter). 0 < v.ctx) i lt)
            | inr ne ↦ good.steady.placed u g lt (sym (there u ne) ∙ e)
          ]

          alone : (u : Waiter) (g : Frame) → 0 < u.ctx → frame_at k u ≡ Some g → ReadsAlone g
          alone u g lt e = elim (waiter_cases u w) [
            | inr ne ↦ good.steady.alone u g lt (sym (there u ne) ∙ e)
            | inl i ↦
                let up : 0 < w.ctx = subst (λ (v : Waiter). 0 < v.ctx) i lt in
                let ctx : f.ctx ≡ w.ctx = (shows.fits w f live).ctx in
                let at : moves.now ≡ Some g = sym here ∙ ap (frame_at k) (sym i) ∙ e in
                elim moves.turned [
                  | inl t ↦
                      let q : Some d ≡ Some g = sym t.0 ∙ at in
                      let y : d ≡ g = cc q in
                      subst ReadsAlone y
                      (row_reads_alone (world m) w f c (shows.world.fits w f live).after (omega (arith, up, ctx))
                      place (good.steady.alone w f up live))
                  | inr t ↦
                      let hc = t.1.2 in
                      settled_reads n.setup.mode t.1.0 moves.now t.1.4 g at (omega (arith, up, ctx, hc))
                ]
          ]

      row_good_at : IsGood F k
      row_good_at =
          let r = row_moves m p hs shows range f c live place (shows.world.fits w f live).after in
          by_moves r.0 r.1 r.2

    pub row_good : IsGood F k
    row_good = by f.place refl
      where
        by : (o : Option Pc) → f.place ≡ o → IsGood F k
        by None e = subst (λ (y : Machine). IsGood F y) (sym (ap (λ (o : Option Pc). (row_at m p f o).0) e)) good
        by (Some c) e = row_good_at c e

  preempted_good : (p : ℕ) (b : Bool) → IsGood F (set_preempted m p b)
  preempted_good p b =
      record {
        steady = subst IsSteady (sym (world-set_preempted m p b)) good.steady;
        followed = subst F (sym (world-set_preempted m p b)) good.followed;
      }

  -- the end of a halt
  module _ (p : ℕ) (range : p < length m.cpus) (halted : halted_at m p ≡ true) where
    abbrev v : Waiter
    v = top_of m p

    abbrev e : Frame
    e = top_frame m p

    abbrev behind : Frame
    behind = record e { place = after_halt e.place }

    on_top : frame_at m v ≡ Some e
    on_top = top_live m p hs shows range

    -- the frame goes on in its operation
    ends_good : (k : Machine) → Roused (world m) (world k) v e → IsGood F k
    ends_good k r =
        record {
          steady = record { stacked = stacked; placed = placed; alone = alone };
          followed =
              kept.ends (world m) (world k) (spin_part (world m).kind hs) v e shows.world.spins family
              (top_newest m hs shows p range) on_top halted r good.followed;
        }
      where
        now : (u : Waiter) (g : Frame) → u ≡ v → frame_at k u ≡ Some g → behind ≡ g
        now u g i lu = let z : Some behind ≡ Some g = sym r.here ∙ ap (frame_at k) (sym i) ∙ lu in cc z

        was : (u : Waiter) (g : Frame) → frame_at k u ≡ Some g → (h : Frame) × (frame_at m u ≡ Some h) × (g.program ≡ h.program)
        was u g lu = elim (waiter_cases u v) [
          | inl i ↦ (e, ap (frame_at m) i ∙ on_top, ap (λ (h : Frame). h.program) (sym (now u g i lu)))
          | inr ne ↦ (g, sym (r.others u ne) ∙ lu, refl)
        ]

        stacked : (u x : Waiter) (g h : Frame) → u.cpu ≡ x.cpu → u.ctx < x.ctx → frame_at k u ≡ Some g → frame_at k x ≡ Some h
            → g.program < h.program
        stacked u x g h cpu lt lu lx =
            let a = was u g lu in
            let b = was x h lx in
            let s = good.steady.stacked u x a.0 b.0 cpu lt a.1 b.1 in
            let i = a.2 in let j = b.2 in
            omega (arith, s, i, j)

        on : (o : Option Pc) → (o ≡ Some W6) ⊎ (o ≡ Some E12) → (after_halt o ≢ None) × (after_halt o ≢ Some R3)
        on o (inl i) = (λ z. (let y : Some W7 ≡ None = ap after_halt (sym i) ∙ z in cc y), λ z. (let y : Some W7 ≡ Some R3 = ap after_halt (sym i) ∙ z in cc y))
        on o (inr i) = (λ z. (let y : Some E2 ≡ None = ap after_halt (sym i) ∙ z in cc y), λ z. (let y : Some E2 ≡ Some R3 = ap after_halt (sym i) ∙ z in cc y))

        placed : (u : Waiter) (g : Frame) → 0 < u.ctx → frame_at k u ≡ Some g → g.place ≢ None
        placed u g lt lu = elim (waiter_cases u v) [
          | inl i ↦ subst (λ (h : Frame). h.place ≢ None) (now u g i lu) (on e.place (sleeps m hs shows p range halted)).0
          | inr ne ↦ good.steady.placed u g lt (sym (r.others u ne) ∙ lu)
        ]

        alone : (u : Waiter) (g : Frame) → 0 < u.ctx → frame_at k u ≡ Some g → ReadsAlone g
        alone u g lt lu = elim (waiter_cases u v) [
          | inl i ↦
              subst ReadsAlone (now u g i lu)
              ((on e.place (sleeps m hs shows p range halted)).1, (good.steady.alone v e (subst (λ (x : Waiter). 0 < x.ctx) i lt) on_top).1)
          | inr ne ↦ good.steady.alone u g lt (sym (r.others u ne) ∙ lu)
        ]

    pub woken_good : IsGood F (woken m p)
    woken_good = ends_good (woken m p) (roused_is m hs shows p range halted)

    pub kicked_good : IsGood F (set_kicked (woken m p) p false)
    kicked_good = ends_good (set_kicked (woken m p) p false) (kicked_is m hs shows p range halted)

    -- and the frame of an interrupt may come
    pub woken_interrupted : depth_at m p < 6
        → IsGood F (settled (push (woken m p) p (handler_frame m p)) p (handler_frame m p))
    woken_interrupted low =
        interrupt_good (woken m p) F S kept woken_good p (handler_frame m p)
        (has_top_same m (woken m p) p same (shows.whole.tops p range)) runs
        (subst (λ (i : ℕ). i < 6) (sym (same.depth p)) low) (sym (same.depth p)) (ap (λ (i : ℕ). i + 1) (sym (same.handlers p)))
      where
        same : KeepsFrames m (woken m p)
        same = woken_keeps m p

        r : Roused (world m) (world (woken m p)) v e
        r = roused_is m hs shows p range halted

        runs : (u : Waiter) (g : Frame) → frame_at (woken m p) u ≡ Some g → RunsOne (woken m p) u g
        runs u g lu = elim (waiter_cases u v) [
          | inl i ↦
              let is : behind ≡ g = (let z : Some behind ≡ Some g = sym r.here ∙ ap (frame_at (woken m p)) (sym i) ∙ lu in cc z) in
              one u g e (ap (frame_at m) i ∙ on_top) (ap (λ (h : Frame). h.program) (sym is))
          | inr ne ↦ one u g g (sym (r.others u ne) ∙ lu) refl
        ]
          where
            one : (u : Waiter) (g h : Frame) → frame_at m u ≡ Some h → g.program ≡ h.program → RunsOne (woken m p) u g
            one u g h lh eq =
                let r = (shows.fits u h lh).program in (
                  λ z. eq ∙ r.0 z,
                  λ z. (let y = r.1 z in let t = same.handlers u.cpu in
                      let a = y.0 in let b = y.1 in (omega (arith, a, eq), omega (arith, b, eq, t))),
                )

  pub plain_interrupted : (p : ℕ) → p < length m.cpus → depth_at m p < 6
      → IsGood F (settled (push m p (handler_frame m p)) p (handler_frame m p))
  plain_interrupted p range low =
      interrupt_good m F S kept good p (handler_frame m p) (shows.whole.tops p range) (λ u h e. (shows.fits u h e).program) low refl refl

  -- every act
  pub act_good : (a : Act) → processor_of a < length m.cpus
      → ((p : ℕ) → p < length m.cpus → halts m.setup.mode ≡ false → (top_frame m p).place ≡ Some G1 → queued_at m p < 4)
      → IsGood F (next m a).0
  act_good (act.Step p) range room = by (preempted_at m p)
    where
      halting : halted_at m p ≡ true → (b : Bool) → IsGood F (if b then kicked_awake m p else idle m).0
      halting h true = kicked_good p range h
      halting h false = good

      by : (b : Bool) → IsGood F (if b then idle m else (if halted_at m p then step_halted m p else row m p)).0
      by true = good
      by false = elim (cases_Bool (halted_at m p)) [
        | inl h ↦ rw h (halting h (kicked_at m p))
        | inr h ↦ rw h (row_good p range (room p range))
      ]
  act_good (act.Interrupt p) range room =
      elim (cases_Bool (is_shut m p)) [
        | inl e ↦ rw e good
        | inr e ↦
            let a = or_parts
            (preempted_at m p || nat_le 6 (depth_at m p)
            || nat_le (handlers_of m.setup p) (handlers_at m p))
            (stands_halting (top_frame m p).place && not (halted_at m p)) e in
            let b =
            or_parts (preempted_at m p || nat_le 6 (depth_at m p))
            (nat_le (handlers_of m.setup p) (handlers_at m p)) a.0 in
            let c = or_parts (preempted_at m p) (nat_le 6 (depth_at m p)) b.0 in
            rw e (came (leb-false 6 (depth_at m p) c.1))
      ]
    where
      came : depth_at m p < 6 → IsGood F (settled (push (awake m p) p (handler_frame m p)) p (handler_frame m p))
      came low = elim (cases_Bool (halted_at m p)) [
        | inl h ↦
            let is : awake m p ≡ woken m p = ap (λ (t : Bool). if t then woken m p else m) h in
            subst (λ (y : Machine). IsGood F (settled (push y p (handler_frame m p)) p (handler_frame m p))) (sym is)
            (woken_interrupted p range h low)
        | inr h ↦
            let is : awake m p ≡ m = ap (λ (t : Bool). if t then woken m p else m) h in
            subst (λ (y : Machine). IsGood F (settled (push y p (handler_frame m p)) p (handler_frame m p))) (sym is)
            (plain_interrupted p range low)
      ]
  act_good (act.Preempt p) range room = by (preempted_at m p)
    where
      by : (b : Bool) → IsGood F (if b then idle m else (set_preempted m p true, None)).0
      by true = good
      by false = preempted_good p true
  act_good (act.Resume p) range room = by (preempted_at m p)
    where
      by : (b : Bool) → IsGood F (if b then (set_preempted m p false, None) else idle m).0
      by true = preempted_good p false
      by false = good
  act_good (act.Nudge p) range room = by (preempted_at m p)
    where
      by : (b : Bool) → IsGood F (if b || not (halted_at m p) then idle m else nudged m p).0
      by true = good
      by false = elim (cases_Bool (halted_at m p)) [
        | inl h ↦ rw h (woken_good p range h)
        | inr h ↦ rw h good
      ]
