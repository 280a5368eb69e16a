-- At which rows a frame of the family that halts processors may stand still, and what it met then.
use Rattle.std.proofs.Common.{◌≡◌, ◌≢◌, ◌⊎◌, inl, inr, ℕ, Option, Some, None, Bool, true, false}
use Rattle.std.proofs.Common.{refl, sym, ap, ◌∙◌, subst, arith, ◌<◌, ◌-◌, [], if◌then◌else◌}
use Rattle.std.proofs.Common.{is_some, ◌&&◌, not, ◌==◌}
use Rattle.lk_waits.proofs.Names.{cases_Bool, cases_lt, Fields, Held, NodeName, LockHistory}
use Rattle.lk_waits.proofs.Names.{same_waiter, LockName, Waiter, node_of, Effect, target, Frame, Pc}
use Rattle.lk_waits.proofs.Names.{E1, E2, E3, E4, E5, E7, E8, E10, E11, E12, E13, E14, E15, H1, H2}
use Rattle.lk_waits.proofs.Names.{K1, K2, R2, R4, R5, U2, U4, U5, W5, W6, W7, Wr2, Wr5, State}
use Rattle.lk_waits.proofs.Names.{is_held, is_last, is_halted, is_set, is_slow_byte, pv_after_next}
use Rattle.lk_waits.proofs.Names.{is_unlocked, if-true, not-true, same_waiter-self, row_is_done}
use Rattle.lk_waits.proofs.Names.{halts, chooses, may_halt, stays_awake, course_in, IsNewest}
use Rattle.lk_waits.proofs.Names.{IsThen, IsSoundSpinWorld, led, World, IsTop, StandsStill, polls}
use Rattle.lk_rows.specs.Acts.{stands_halting}
use Rattle.lk_rows.specs.declared.parts.Pc.TheVariants.{E6, E9, W1, W2, W3, W4, K3, U3}
use Rattle.lk_rows.specs.rows.Pv.{is_running, after_given_up, try_again}
use Rattle.lk_law.proofs.{pv.HaltsEnd.{halted_sleeps, sleeping_row}, pv.Laws.halts_flat}
use Rattle.lk_law.specs.{Premises.IsShallow, Registers.counts_turns}
use Rattle.lk_waits.proofs.Stands.{Off, still_polls}
use Rattle.lk_waits.specs.Halting.{LeadsNowhere, goes_around}

-- the row is a poll that leaves the frame where it was, and does not halt
abbrev pub looks_on : Pc → Bool
looks_on H1 = true
looks_on E14 = true
looks_on R2 = true
looks_on R5 = true
looks_on Wr5 = true
looks_on _ = false

either_off : {A : Type 0} (c : Pc) (f : Frame) (b : Bool) (x y : Effect A) → Off c (led f x.leads).place
    → Off c (led f y.leads).place → Off c (led f (if b then x else y).leads).place
either_off c f true x y h k = h
either_off c f false x y h k = k

either_row : (c : Pc) (b : Bool) (d e : Pc) → Off c (Some d) → Off c (Some e) → Off c (Some (if b then d else e))
either_row c true d e h k = h
either_row c false d e h k = k

-- where a frame goes on that has the lock
after : (c : Pc) (f : Frame) → (f.lock.wait ≡ true → IsThen f.then) → Off c (Some R4) → Off c (Some Wr2)
    → Off c (if f.lock.wait then f.then else None)
after c f inner a b =
    elim (cases_Bool f.lock.wait) [
      | inl e ↦ rw e (elim (inner e) [ inl q ↦ λ z. a (sym q ∙ z) | inr q ↦ λ z. b (sym q ∙ z) ])
      | inr e ↦ rw e (λ z. cc z)
    ]

off_given_up : (me : Option NodeName) → Off H2 (Some (after_given_up me))
off_given_up None = λ e. cc e
off_given_up (Some n) = λ e. cc e

module _ (m : World) (w : Waiter) (f : Frame) (inner : f.lock.wait ≡ true → IsThen f.then) where
  abbrev x : Fields
  x = m.word f.lock

  abbrev st : NodeName → State
  st n = (m.node n).state

  -- a row that is no such poll leads elsewhere, but for the tries of a head
  off_halting : (c : Pc) → may_halt c ≡ true → looks_on c ≡ false → stands_halting (Some c) ≡ false → c ≢ E4
      → Off c (led f (course_in m w f c (target c f)).leads).place
  off_halting H2 a b p n =
      either_off H2 f (is_unlocked x.locked) _ _ (after H2 f inner (λ e. cc e) (λ e. cc e))
      (either_row H2 f.tailed H1 _ (λ e. cc e) (off_given_up f.me))
  off_halting W1 a b p n = either_row W1 (is_set (m.node (node_of f.me)).flag) E1 W2 (λ e. cc e) (λ e. cc e)
  off_halting W2 a b p n =
      either_off W2 f (is_running (st (node_of f.prev))) _ _ (either_off W2 f (f.left - 1 == 0) _ _ (λ e. cc e) (λ e. cc e))
      (λ e. cc e)
  off_halting W3 a b p n = λ e. cc e
  off_halting W4 a b p n = either_off W4 f (is_set (m.node (node_of f.me)).flag) _ _ (λ e. cc e) (λ e. cc e)
  off_halting W5 a b p n = either_row W5 (is_halted (st (node_of f.me))) W6 W7 (λ e. cc e) (λ e. cc e)
  off_halting W7 a b p n = either_off W7 f (is_halted (st (node_of f.me))) _ _ (λ e. cc e) (λ e. cc e)
  off_halting E1 a b p n = λ e. cc e
  off_halting E2 a b p n = λ e. cc e
  off_halting E3 a b p n = λ e. cc e
  off_halting E4 a b p n = absurd (n refl)
  off_halting E5 a b p n = either_row E5 f.hashed E10 E6 (λ e. cc e) (λ e. cc e)
  off_halting E6 a b p n = λ e. cc e
  off_halting E7 a b p n = either_off E7 f (is_unlocked x.locked) _ _ (λ e. cc e) (λ e. cc e)
  off_halting E8 a b p n = λ e. cc e
  off_halting E9 a b p n = λ e. cc e
  off_halting E10 a b p n = λ e. cc e
  off_halting E11 a b p n = either_row E11 (is_slow_byte x.locked) E12 E2 (λ e. cc e) (λ e. cc e)
  off_halting E13 a b p n = either_off E13 f (is_last f x) _ _ (after E13 f inner (λ e. cc e) (λ e. cc e)) (λ e. cc e)
  off_halting E15 a b p n = λ e. cc e
  off_halting K1 a b p n =
      either_off K1 f (is_halted (st (node_of f.y))) _ _ (λ e. cc e) (after K1 f inner (λ e. cc e) (λ e. cc e))
  off_halting K2 a b p n = λ e. cc e
  off_halting K3 a b p n = after K3 f inner (λ e. cc e) (λ e. cc e)
  off_halting U2 a b p n = either_off U2 f (is_held x.locked) _ _ (λ e. cc e) (λ e. cc e)
  off_halting U3 a b p n = λ e. cc e
  off_halting U4 a b p n = λ e. cc e
  off_halting U5 a b p n = λ e. cc e
  off_halting _ a b p n = cc (a, b, p)

  pub same_frame : (c : Pc) → StandsStill m w f c → led f (course_in m w f c (target c f)).leads ≡ f
  same_frame c still =
      let done = row_is_done m w f c (target c f) in
      let now : Some (led f (course_in m w f c (target c f)).leads) ≡ Some f =
      sym (done.frame w ∙ if-true (same_waiter w w) (Some (led f (course_in m w f c (target c f)).leads)) (m.frame w) (same_waiter-self w)) ∙ still in
      cc now

  still_place : (c : Pc) → f.place ≡ Some c → StandsStill m w f c
      → (led f (course_in m w f c (target c f)).leads).place ≡ Some c
  still_place c at still = ap (λ (g : Frame). g.place) (same_frame c still) ∙ at

  -- a head that tries has one turn less
  no_E4 : f.place ≡ Some E4 → 0 < f.left → StandsStill m w f E4 → ⊥
  no_E4 at turns still = by (is_unlocked x.locked && x.pending) (same_frame E4 still)
    where
      again : (b : Bool) → f.left - 1 == 0 ≡ b
          → led f (if b then Rattle.lk_rows.specs.Row.learns {A = Fields} E5 (Rattle.lk_rows.specs.Row.Left 0)
          else Rattle.lk_rows.specs.Row.learns {A = Fields} E4 (Rattle.lk_rows.specs.Row.Left (f.left - 1))).leads ≡ f → ⊥
      again true q e = (let z : Some E5 ≡ Some E4 = ap (λ (g : Frame). g.place) e ∙ at in cc z)
      again false q e = (let z : f.left - 1 ≡ f.left = ap (λ (g : Frame). g.left) e in omega (arith, z, turns))

      by : (b : Bool) → led f (if b then record {
        stores = Some (record (m.word f.lock) { locked = Held; pending = false });
        leads = Rattle.lk_rows.specs.Row.Goes E13 [];
        tells = Rattle.lk_rows.specs.Row.Says (Rattle.lk_names.specs.declared.events.What.TheVariants.Take f.lock Rattle.lk_names.specs.declared.events.How.TheVariants.Head);
        counts = [];
      } else try_again f).leads ≡ f → ⊥
      by true e = (let z : Some E13 ≡ Some E4 = ap (λ (g : Frame). g.place) e ∙ at in cc z)
      by false e = again (f.left - 1 == 0) refl e

  pub still_H1 : f.place ≡ Some H1 → StandsStill m w f H1 → is_unlocked x.locked && not x.pending ≡ false
  still_H1 at still = by (is_unlocked x.locked && not x.pending) (still_place H1 at still)
    where
      by : (b : Bool)
          → Some (if b then H2 else (if is_some x.tail && not x.pending then H1 else after_given_up f.me)) ≡ Some H1 → b ≡ false
      by true e = cc e
      by false e = refl

  pub still_E14 : f.place ≡ Some E14 → StandsStill m w f E14 → (m.node (node_of f.me)).next ≡ None
  still_E14 at still = by (m.node (node_of f.me)).next (still_place E14 at still)
    where
      by : (n : Option NodeName) → (led f (pv_after_next n).leads).place ≡ Some E14 → n ≡ None
      by None e = refl
      by (Some n) e = cc e

  try_cases : (c : Pc) → (c ≡ E4) ⊎ (c ≢ E4)
  try_cases E4 = inl refl
  try_cases _ = inr (λ e. cc e)

  plain_looks : (c : Pc) → polls c ≡ true → may_halt c ≡ false → stays_awake c ≡ false → looks_on c ≡ true
  plain_looks c p a s = grind (arith, p, a, s)

  still_looks : (c : Pc) → f.place ≡ Some c → stays_awake c ≡ false → chooses c ≡ false → stands_halting (Some c) ≡ false
      → (c ≡ E4 → 0 < f.left) → StandsStill m w f c → looks_on c ≡ true
  still_looks c at s k h turns still = elim (cases_Bool (may_halt c)) [
    | inr a ↦ plain_looks c (still_polls m w f inner c a k at still) a s
    | inl a ↦ elim (cases_Bool (looks_on c)) [
      | inl e ↦ e
      | inr e ↦ elim (try_cases c) [
        | inl i ↦ absurd (no_E4 (at ∙ ap Some i) (turns i) (subst (StandsStill m w f) i still))
        | inr n ↦ absurd (off_halting c a e h n (still_place c at still))
      ]
    ]
  ]

-- How a newest frame stands that the next step leads nowhere: its processor sleeps; or it goes around; or it
-- looks on.
pub data Stood (m : World) (u : Waiter) (g : Frame) (d : Pc) : Type 0 where
  Sleeping : stands_halting (Some d) ≡ true → m.kicked u.cpu ≡ false → Stood m u g d
  Turning : goes_around d ≡ true → (m.word g.lock).locked ≡ Held → Stood m u g d
  Looking : looks_on d ≡ true → StandsStill m u g d → Stood m u g d

-- a newest frame that stays where it was, at a row that does not halt, looks on
pub still_looks_at : (m : World) (hs : LockName → LockHistory) (u : Waiter) (g : Frame) (d : Pc) → IsSoundSpinWorld m hs
    → halts m.mode ≡ true → m.frame u ≡ Some g → (g.lock.wait ≡ true → IsThen g.then) → g.place ≡ Some d
    → stands_halting (Some d) ≡ false → StandsStill m u g d → looks_on d ≡ true
still_looks_at m hs u g d ok on live inner at h still =
    still_looks m u g inner d at
    (not-true (stays_awake d) (λ e. let y = (ok.registers u g live).choice.waking d at e in cc (y, on)))
    (not-true (chooses d) (λ e. let y = (ok.registers u g live).choice.choice d at e in let q = halts_flat m.mode on in cc (y, q)))
    h (λ e. (ok.registers u g live).choice.turns d at (ap counts_turns e)) still

pub stood : (m : World) (hs : LockName → LockHistory) (u : Waiter) (g : Frame) (d : Pc) → IsSoundSpinWorld m hs → halts m.mode ≡ true
    → ((p : ℕ) → IsShallow m p) → (g.lock.wait ≡ true → IsThen g.then) → IsTop m u g d → LeadsNowhere m u g d → Stood m u g d
stood m hs u g d ok on shallow inner top rest = by rest
  where
    newest : IsNewest m u
    newest = record {
      above = top.above;
      low = elim (cases_lt u.ctx 6) [
        | inl lt ↦ lt
        | inr ge ↦ absurd (let z = shallow u.cpu u.ctx ge in (let y : None ≡ Some g = sym z ∙ top.live in cc y))
      ];
      shallow = shallow;
    }

    halting_row : (o : Option Pc) → (o ≡ Some W6) ⊎ (o ≡ Some E12) → stands_halting o ≡ true
    halting_row o (inl e) = ap stands_halting e
    halting_row o (inr e) = ap stands_halting e

    by : LeadsNowhere m u g d → Stood m u g d
    by (inl z) =
        Sleeping (ap stands_halting (sym top.place)
        ∙ halting_row g.place (sleeping_row g.place g (halted_sleeps ok newest top.live z.0))) z.1
    by (inr (inl z)) = Looking (still_looks_at m hs u g d ok on top.live inner top.place z.0 z.1) z.1
    by (inr (inr z)) = Turning z.0 z.2

pub stood_polls : (m : World) (u : Waiter) (g : Frame) (d : Pc) → Stood m u g d → polls d ≡ true
stood_polls m u g d (Sleeping h k) = grind (arith, h)
stood_polls m u g d (Turning h k) = grind (arith, h)
stood_polls m u g d (Looking h k) = grind (arith, h)
