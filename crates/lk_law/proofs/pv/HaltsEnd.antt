-- A halt ends: by a kick, by a nudge, or by an interrupt.
use Rattle.std.proofs.Common.{◌≡◌, ◌≢◌, ◌⊎◌, inl, inr, ℕ, Option, Some, None, Bool, true, false}
use Rattle.std.proofs.Common.{arith, ap, refl, sym, ◌∙◌, subst, is_some, ◌==◌, if◌then◌else◌}
use Rattle.lk_law.proofs.Names.{cases_Bool, eqb-true, NodeName, LockHistory, same_waiter, LockName}
use Rattle.lk_law.proofs.Names.{Waiter, after_halt, stands_halting, node_of, Frame, Pc, E2, E12, W6}
use Rattle.lk_law.proofs.Names.{W7, Owed, SnapshotAgrees, Stays, Step, halts, is_slow, Phase}
use Rattle.lk_law.proofs.Names.{has_node, Leads, Waits, phase_if, phase_of, post_if, post_of}
use Rattle.lk_law.proofs.Names.{post_on, snapshot, IsNewest, roused, Post, at_halt, Clears, Kicks}
use Rattle.lk_law.proofs.Names.{Naps, Sleeps, RegistersFit, Moves, spins, IsSoundSpinWorld, World}
use Rattle.lk_law.proofs.{common.Cases.waiter_cases, common.Choices.{fit_goes, unchosen}}
use Rattle.lk_law.proofs.common.Puts.{if-true, if-false, put_moves, not-true}
use Rattle.lk_law.proofs.common.Worlds.{world_step, world_stays, world_sound, post_on-here}
use Rattle.lk_law.proofs.common.Worlds.{acts-post, post_on-kicks, sole_sleeper, sleeper_halts}
use Rattle.lk_law.proofs.{pv.EndLaws.{law_W6_ends, law_E12_ends}, pv.Find.{law_wake, allow_wake}}
use Rattle.lk_law.specs.SpinLaws.{SpinWakeKeeps, SpinNudgeKeeps, SpinIntKeeps, RousedIsAwake}
use Rattle.lk_law.specs.SpinLaws.{TopIsAwake}

-- the rows at which a frame sleeps
pub sleeping_row : (o : Option Pc) (f : Frame) → at_halt (post_if o f) ≡ true
    → (o ≡ Some W6) ⊎ (o ≡ Some E12)
sleeping_row (Some W6) f h = inl refl
sleeping_row (Some E12) f h = inr refl
sleeping_row o f h = cc h

halting_sleeps : (o : Option Pc) (f : Frame) → at_halt (post_if o f) ≡ stands_halting o
halting_sleeps None f = refl
halting_sleeps (Some c) f = grind arith

-- the newest frame of a halted processor sleeps
pub halted_sleeps : {m : World} {hs : LockName → LockHistory} {w : Waiter} {f : Frame}
    → IsSoundSpinWorld m hs → IsNewest m w → m.frame w ≡ Some f → m.halted w.cpu ≡ true
    → at_halt (post_of f) ≡ true
halted_sleeps {m = m} {w = w} {f = f} ok newest live h =
    let s = ok.resting w.cpu h in
    let d = s.1 in
    let shown : at_halt (post_on d.lock (m.frame s.0)) ≡ true =
    ap (λ (o : Option Frame). at_halt (post_on d.lock o)) s.3
    ∙ ap at_halt (post_on-here d.lock d refl) ∙ s.4 in
    let same = sole_sleeper ok newest live d.lock s.0 s.2 shown in
    let frames : d ≡ f =
    let z : Some d ≡ Some f = sym s.3 ∙ ap m.frame same ∙ live in grind (arith, z) in
    ap (λ (b : Frame). at_halt (post_of b)) (sym frames) ∙ s.4

-- the world in which w has gone on as g behind its halt, and these kicks are remembered
abbrev gone_behind : World → Waiter → Frame → (ℕ → Bool) → World
gone_behind m w g kick =
    record m {
      frame = λ u. if same_waiter u w then Some g else m.frame u;
      halted = λ q. if q == w.cpu then false else m.halted q;
      kicked = kick;
    }

module _ {m : World} {hs : LockName → LockHistory} {w : Waiter} {f : Frame} (g : Frame)
    (kick : ℕ → Bool) (ok : IsSoundSpinWorld m hs) (newest : IsNewest m w)
    (live : m.frame w ≡ Some f)
    (lock : g.lock ≡ f.lock) (me : g.me ≡ f.me) (slow : is_slow g.place ≡ is_slow f.place)
    (asleep : at_halt (post_of f) ≡ true) (awake : at_halt (post_of g) ≡ false)
    (elsewhere : (p : ℕ) → p ≢ w.cpu → kick p ≡ m.kicked p) where
  abbrev m' : World
  m' = gone_behind m w g kick

  abbrev l : LockName
  l = f.lock

  on : halts m.mode ≡ true
  on = sleeper_halts ok w f live asleep

  moves : Moves m.frame m'.frame w (Some f) (Some g)
  moves = put_moves m.frame w (Some f) (Some g) live

  now_off : at_halt (post_on l (m'.frame w)) ≡ false
  now_off = ap (λ (o : Option Frame). at_halt (post_on l o)) moves.now
      ∙ ap at_halt (post_on-here l g lock) ∙ awake

  -- the kicks that other processors are owed
  owes : (c : Waiter) → c.cpu ≢ w.cpu → Owed (snapshot m) c.cpu → Owed (snapshot m') c.cpu
  owes c ne (inl k) = inl (elsewhere c.cpu ne ∙ k)
  owes c ne (inr o) =
      inr (
        o.0,
        o.1,
        o.2,
        elim (waiter_cases o.1 w) [
          | inl e ↦
              absurd
              (no_kick o.0 o.2 (sym (ap (post_on o.0) live)
              ∙ ap (λ (v : Waiter). post_on o.0 (m.frame v)) (sym e) ∙ o.3))
          | inr ne' ↦ ap (post_on o.0) (moves.others o.1 ne') ∙ o.3
        ],
        o.4,
      )
    where
      no_kick : (k : LockName) (t : NodeName) → post_on k (Some f) ≡ Kicks t → ⊥
      no_kick k t e =
          let z = post_on-kicks k f t e in let y = ap at_halt z in grind (arith, y, asleep)

  end_step : {r : Phase} → phase_of f ≡ r → phase_of g ≡ r
      → Step (snapshot m) (snapshot m') w l r r (m.word l) (spins (m.held w l)) (spins (m.held w l))
  end_step was now =
      world_step m m' w f g moves l (inl refl) (inl lock) was now
      (record {
        mode = refl;
        threshold = refl;
        format = refl;
        sockets = refl;
        entries = λ k ne. refl;
        word = refl;
        words = λ k ne. refl;
        holds = record { was = refl; now = refl; others = λ u ne. refl };
        helds = λ k ne u. refl;
      })
      (λ on k u ne h o. owes u (λ cpu. let same = sole_sleeper ok newest live k u cpu h in
      let z : at_halt (post_on k (Some f)) ≡ true =
      ap (λ (o : Option Frame). at_halt (post_on k o)) (sym live ∙ ap m.frame (sym same)) ∙ h in
      let off = ap at_halt (acts-post f l k (inl refl) ne) in grind (arith, z, off)) o)
      (λ on h. absurd (grind (arith, now_off, h)))

  end_stays : Stays (snapshot m) (snapshot m') w
  end_stays = world_stays m m' w f g moves (ap node_of me) slow (λ p. refl)

  end_posts : {p q : Post} → post_of f ≡ p → post_of g ≡ q
      → Moves ((snapshot m).post l) ((snapshot m').post l) w p q
  end_posts was now =
      record {
        was = ap (post_on l) live ∙ post_on-here l f refl ∙ was;
        now = ap (post_on l) moves.now ∙ post_on-here l g lock ∙ now;
        others = λ u ne. ap (post_on l) (moves.others u ne);
      }

  end_sound : {hs' : LockName → LockHistory} → RegistersFit m.mode g
      → SnapshotAgrees (snapshot m') hs' → IsSoundSpinWorld m' hs'
  end_sound fit agrees =
      world_sound m m' w f g moves ok refl refl (λ e. newest)
      (record {
        still = λ e h.
            absurd (let z = if-true (w.cpu == w.cpu) false (m.halted w.cpu) (grind arith) in
            grind (arith, z, h));
        halted = λ p h. elim (cases_Bool (p == w.cpu)) [
          | inl e ↦ absurd (let z = if-true (p == w.cpu) false (m.halted p) e in
              grind (arith, z, h))
          | inr e ↦ inl (sym (if-false (p == w.cpu) false (m.halted p) e) ∙ h)
        ];
      })
      (record { byte = ok.plain.byte; flag = ok.plain.flag; runs = ok.plain.runs }) fit agrees

-- at either row at which a frame halts
module _ {m : World} {hs : LockName → LockHistory} {w : Waiter} {f : Frame} (kick : ℕ → Bool)
    (ok : IsSoundSpinWorld m hs) (newest : IsNewest m w) (live : m.frame w ≡ Some f)
    (elsewhere : (p : ℕ) → p ≢ w.cpu → kick p ≡ m.kicked p) where
  fit : RegistersFit m.mode f
  fit = ok.registers w f live

  abbrev behind_at : Option Pc → World
  behind_at o = gone_behind m w (record f { place = after_halt o }) kick

  behind_W6 : f.place ≡ Some W6 → IsSoundSpinWorld (behind_at (Some W6)) hs
  behind_W6 place =
      let g : Frame = record f { place = Some W7 } in
      let post : post_of f ≡ Sleeps = ap (λ (o : Option Pc). post_if o f) place in
      let phase : phase_of f ≡ Waits =
      ap (λ (o : Option Pc). phase_if o (is_some f.me) (node_of f.prev) (node_of f.y)) place in
      let asleep : at_halt (post_of f) ≡ true = ap at_halt post in
      let halting : halts m.mode ≡ true = sleeper_halts ok w f live asleep in
      let slow : is_slow (Some W7) ≡ is_slow f.place = sym (ap is_slow place) in
      end_sound g kick ok newest live refl refl slow asleep refl elsewhere
      (fit_goes f g fit refl (sym (ap has_node phase)) (λ e. cc e) (λ e. cc e)
      (unchosen g W7 refl refl (λ e. halting) (λ e. cc) (λ e. cc) (λ e. cc)
      (λ e. fit.choice.peer W6 place refl) (λ e. cc) (λ e. cc) (λ e. cc)))
      (law_W6_ends ok.agrees halting
      (owes g kick ok newest live refl refl slow asleep refl elsewhere)
      (end_step g kick ok newest live refl refl slow asleep refl elsewhere phase refl)
      (end_stays g kick ok newest live refl refl slow asleep refl elsewhere) (λ k. refl)
      (end_posts g kick ok newest live refl refl slow asleep refl elsewhere post refl) refl)

  behind_E12 : f.place ≡ Some E12 → IsSoundSpinWorld (behind_at (Some E12)) hs
  behind_E12 place =
      let g : Frame = record f { place = Some E2 } in
      let post : post_of f ≡ Naps = ap (λ (o : Option Pc). post_if o f) place in
      let phase : phase_of f ≡ Leads =
      ap (λ (o : Option Pc). phase_if o (is_some f.me) (node_of f.prev) (node_of f.y)) place in
      let asleep : at_halt (post_of f) ≡ true = ap at_halt post in
      let halting : halts m.mode ≡ true = sleeper_halts ok w f live asleep in
      let slow : is_slow (Some E2) ≡ is_slow f.place = sym (ap is_slow place) in
      end_sound g kick ok newest live refl refl slow asleep refl elsewhere
      (fit_goes f g fit refl (sym (ap has_node phase)) (λ e. cc e) (λ e. cc e)
      (unchosen g E2 refl refl (λ e. halting) (λ e. cc) (λ e. cc) (λ e. cc) (λ e. cc) (λ e. cc)
      (λ e. cc) (λ e. cc)))
      (law_E12_ends ok.agrees halting
      (owes g kick ok newest live refl refl slow asleep refl elsewhere)
      (end_step g kick ok newest live refl refl slow asleep refl elsewhere phase refl)
      (end_stays g kick ok newest live refl refl slow asleep refl elsewhere) (λ k. refl)
      (end_posts g kick ok newest live refl refl slow asleep refl elsewhere post
      (ap Clears (fit.choice.hashed E12 place refl))) refl)

  pub behind : at_halt (post_of f) ≡ true → IsSoundSpinWorld (behind_at f.place) hs
  behind asleep =
      let P : Option Pc → Type 0 = λ o. IsSoundSpinWorld (behind_at o) hs in
      elim (sleeping_row f.place f asleep) [
        | inl e ↦ subst P (sym e) (behind_W6 e)
        | inr e ↦ subst P (sym e) (behind_E12 e)
      ]

-- the histories told on by an event that changes none
stands_so : {m : World} {hs : LockName → LockHistory} {w : Waiter} {f : Frame}
    → IsSoundSpinWorld m hs → IsNewest m w → m.frame w ≡ Some f → m.halted w.cpu ≡ true
    → stands_halting f.place ≡ true
stands_so {f = f} ok newest live h = sym (halting_sleeps f.place f) ∙ halted_sleeps ok newest live h

pub spin_wake_keeps : SpinWakeKeeps
spin_wake_keeps m hs rules w f ok newest live h =
    let kick : ℕ → Bool = λ q. if q == w.cpu then false else m.kicked q in
    let s = behind kick ok newest live
    (λ p ne. if-false (p == w.cpu) false (m.kicked p)
    (not-true (p == w.cpu) (λ e. ne (eqb-true p w.cpu e)))) (halted_sleeps ok newest live h) in (
      stands_so ok newest live h,
      record {
        plain = record { byte = s.plain.byte; flag = s.plain.flag; runs = s.plain.runs };
        turning = s.turning;
        agrees = law_wake w f.lock s.agrees;
        registers = s.registers;
        asleep = s.asleep;
        resting = s.resting;
      },
      allow_wake rules ok.agrees w f.lock,
    )

pub spin_nudge_keeps : SpinNudgeKeeps
spin_nudge_keeps m hs rules w f ok newest live h = (
  stands_so ok newest live h,
  behind m.kicked ok newest live (λ p ne. refl) (halted_sleeps ok newest live h),
  λ k e. cc e,
)

pub spin_int_keeps : SpinIntKeeps
spin_int_keeps m hs rules w f ok newest live h = (
  stands_so ok newest live h,
  behind m.kicked ok newest live (λ p ne. refl) (halted_sleeps ok newest live h),
  λ k e. cc e,
)

-- who sleeps on the processor of the newest frame is that frame
pub sleeper_is : {m : World} {hs : LockName → LockHistory} {w : Waiter} {f : Frame}
    → IsSoundSpinWorld m hs → IsNewest m w → m.frame w ≡ Some f → (u : Waiter) (d : Frame)
    → u.cpu ≡ w.cpu → m.frame u ≡ Some d → at_halt (post_of d) ≡ true → u ≡ w
sleeper_is {m = m} ok newest live u d cpu live_d h =
    sole_sleeper ok newest live d.lock u cpu
    (ap (λ (o : Option Frame). at_halt (post_on d.lock o)) live_d
    ∙ ap at_halt (post_on-here d.lock d refl) ∙ h)

after_awake : (o : Option Pc) (f : Frame) → at_halt (post_if (after_halt o) f) ≡ false
after_awake None f = refl
after_awake (Some c) f = grind arith

pub roused_is_awake : RousedIsAwake
roused_is_awake m hs w f ok newest live on u d cpu live_d =
    let g : Frame = record f { place = after_halt f.place } in
    let moves = put_moves m.frame w (Some f) (Some g) live in
    not-true (at_halt (post_of d)) (λ h. elim (waiter_cases u w) [
      | inl e ↦
          let same : g ≡ d = let z = sym moves.now ∙ ap (roused m w f).frame (sym e) ∙ live_d in
          grind (arith, z) in
          let z = ap (λ (b : Frame). at_halt (post_of b)) same in
          let y = after_awake f.place g in
          grind (arith, y, z, h)
      | inr ne ↦ ne (sleeper_is ok newest live u d cpu (sym (moves.others u ne) ∙ live_d) h)
    ])

pub top_is_awake : TopIsAwake
top_is_awake m hs w f ok newest live out =
    let awake : at_halt (post_of f) ≡ false = halting_sleeps f.place f ∙ out in (
      (λ on u d cpu live_d. not-true (at_halt (post_of d)) (λ h.
          let e = sleeper_is ok newest live u d cpu live_d h in
          let same : f ≡ d = let z = sym live ∙ ap m.frame (sym e) ∙ live_d in grind (arith, z) in
          let z = ap (λ (b : Frame). at_halt (post_of b)) same in
          grind (arith, awake, z, h))),
      not-true (m.halted w.cpu) (λ h.
          let z = halted_sleeps ok newest live h in grind (arith, z, awake)),
    )
