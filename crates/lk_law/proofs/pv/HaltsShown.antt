-- What the events say of halts and kicks is what a world shows between the operations and after
-- each end of a halt; and so a front that sleeps while nobody holds its lock is owed a kick.
use Rattle.std.proofs.Common.{◌≡◌, ◌≢◌, ◌⊎◌, inl, inr, ℕ, Option, Some, None, Bool, true, false}
use Rattle.std.proofs.Common.{List, [], ◌∷◌, ◌++◌, arith, ap, ◌+◌, refl, sym, ◌∙◌, subst, ◌==◌}
use Rattle.std.proofs.Common.{if◌then◌else◌}
use Rattle.lk_law.proofs.Names.{cases_Bool, eqb-true, Free, NodeName, LockHistory, sleeps, IsFront}
use Rattle.lk_law.proofs.Names.{same_lock, Event, Int, Wake, Format, Kind, LockName, Mode, Waiter}
use Rattle.lk_law.proofs.Names.{after_halt, first_place, node_of, started, Frame, Pc, U5, Verb}
use Rattle.lk_law.proofs.Names.{halts, sole, ShowsKicks, Phase, queues, Idle, phase_of, phase_on}
use Rattle.lk_law.proofs.Names.{post_if, post_of, post_on, snapshot, HasNoPlace, IsNewest, roused}
use Rattle.lk_law.proofs.Names.{at_halt, Kicks, Naps, Off, Sleeps, Moves, IsSoundSpinWorld}
use Rattle.lk_law.proofs.Names.{put_frame, World}
use Rattle.lk_names.specs.{History.history_of, Kicks.{sleeps_after, owes, kicks, kicked_after}}
use Rattle.lk_names.specs.{Lawful.FrontIsOwed, declared.events.What.TheVariants.Nudge}
use Rattle.lk_law.proofs.{common.Begins.place_off, common.Families.lists_main}
use Rattle.lk_law.proofs.{common.Puts.{if-true, if-false, put_moves}, common.RestWorld.empty_world}
use Rattle.lk_law.proofs.common.Worlds.{post_on-kicks}
use Rattle.lk_law.proofs.pv.Alike.{alike_self, frame_place, frame_same, kicked_on, made_on}
use Rattle.lk_law.proofs.pv.Alike.{owing_on, sleeps_on, quiet_shows, same_owing}
use Rattle.lk_law.proofs.{pv.HaltsEnd.{halted_sleeps, sleeping_row}, pv.KicksShown.flip}
use Rattle.lk_law.proofs.pv.Laws.{para_owed}
use Rattle.lk_law.specs.Halting.{SleepingFrontIsKicked}
use Rattle.lk_law.specs.Kicked.{BeginShows, EndShows, WakeShows, NudgeShows, IntShows}
use Rattle.lk_law.specs.{Kicked.{IntAwakeShows, SpinFrontsAreOwed}, Steps.put_kicked}

-- between the operations

first_calm : (mode : Mode) (v : Verb) (f : Frame)
    → at_halt (post_if (Some (first_place mode v)) f) ≡ false
first_calm mode v f = grind arith

first_quiet : (mode : Mode) (v : Verb) → Some (first_place mode v) ≢ Some U5
first_quiet mode v e = grind (arith, e)

pub begin_shows : BeginShows
begin_shows m w f g o es live place shows =
    let h : Frame = started m.mode g o in
    quiet_shows m (put_frame m w (Some h)) (put_moves m.frame w (Some f) (Some h) live) shows
    (alike_self es) (λ p. refl) (λ p. refl)
    (λ d e. let same = frame_same f d e in let z = place_off f place in
    let y = ap (λ (b : Frame). at_halt (post_of b)) same in grind (arith, z, y))
    (λ d e z k. let same = frame_same h d e in let y = first_calm m.mode o.verb h in
    let x = ap (λ (b : Frame). at_halt (post_of b)) same in grind (arith, x, y, z))
    (λ d e z. let y = sym place ∙ frame_place f d e ∙ z in grind (arith, y))
    (λ d e z. first_quiet m.mode o.verb (frame_place h d e ∙ z))

placeless_calm : (f : Option Frame) → HasNoPlace f → (d : Frame) → f ≡ Some d → d.place ≡ None
placeless_calm None p d e = cc e
placeless_calm (Some f) p d e = sym (frame_place f d e) ∙ p.0

pub end_shows : EndShows
end_shows m w f g es live none none' shows =
    quiet_shows m (put_frame m w g) (put_moves m.frame w f g live) shows (alike_self es) (λ p. refl)
    (λ p. refl)
    (λ d e. let z = place_off d (placeless_calm f none d e) in grind (arith, z))
    (λ d e k h. let z = place_off d (placeless_calm g none' d e) in grind (arith, z, k))
    (λ d e z. let y = placeless_calm f none d e in grind (arith, y, z))
    (λ d e z. let y = placeless_calm g none' d e in grind (arith, y, z))

-- a halt ends

record EndsSleep (w : Waiter) (e : Event) : Type 0 where
  sleep : (u : Waiter) (b : Bool) → sleeps_after u b e ≡ (if w.cpu == u.cpu then false else b)
  owe : (p : ℕ) → owes p e.what ≡ 0
  made : (p : ℕ) → kicks p e.what ≡ 0

ends_shows : (m m' : World) {hs : LockName → LockHistory} {w : Waiter} {f : Frame} (es : List Event)
    (e : Event)
    → IsSoundSpinWorld m hs → IsNewest m w → m.frame w ≡ Some f → m.halted w.cpu ≡ true
    → EndsSleep w e
    → Moves m.frame m'.frame w (Some f) (Some (record f { place = after_halt f.place }))
    → ((p : ℕ) → m'.halted p ≡ (if p == w.cpu then false else m.halted p))
    → ((p : ℕ) → m'.kicked p ≡ kicked_after p (m.kicked p) e) → ShowsKicks m es
    → ShowsKicks m' (es ++ e ∷ [])
ends_shows m m' {w = w} {f = f} es e ok newest live halt ends moves halted kicked shows =
    let g : Frame = record f { place = after_halt f.place } in
    let asleep : at_halt (post_of f) ≡ true = halted_sleeps ok newest live halt in
    record {
      asleep = λ u h.
          let h' : (if w.cpu == u.cpu then false else sleeps u es) ≡ true =
          sym (sleeps_on u es e ∙ ends.sleep u (sleeps u es)) ∙ h in
          elim (cases_Bool (w.cpu == u.cpu)) [
            | inl here ↦ absurd (let z = if-true (w.cpu == u.cpu) false (sleeps u es) here in
                grind (arith, z, h'))
            | inr off ↦
                let r =
                shows.asleep u (sym (if-false (w.cpu == u.cpu) false (sleeps u es) off) ∙ h') in
                let ne : u ≢ w =
                (λ q. let z = ap (λ (v : Waiter). v.cpu) q in grind (arith, z, off)) in (
                  r.0,
                  moves.others u ne ∙ r.1,
                  r.2,
                  halted u.cpu
                      ∙ if-false (u.cpu == w.cpu) false (m.halted u.cpu)
                      (flip w.cpu u.cpu false off)
                      ∙ r.3,
                )
          ];
      rests = λ u r. sleeps_on u es e ∙ ends.sleep u (sleeps u es)
          ∙ elim (cases_Bool (w.cpu == u.cpu)) [
            | inl here ↦
                absurd (let z =
                if-true (u.cpu == w.cpu) false (m.halted u.cpu) (flip w.cpu u.cpu true here) in
                let y = halted u.cpu in let k = r.3 in grind (arith, z, y, k))
            | inr off ↦
                let ne : u ≢ w =
                (λ q. let z = ap (λ (v : Waiter). v.cpu) q in grind (arith, z, off)) in
                if-false (w.cpu == u.cpu) false (sleeps u es) off
                ∙ shows.rests u (
                  r.0,
                  sym (moves.others u ne) ∙ r.1,
                  r.2,
                  sym (if-false (u.cpu == w.cpu) false (m.halted u.cpu)
                      (flip w.cpu u.cpu false off))
                      ∙ sym (halted u.cpu) ∙ r.3,
                )
          ];
      kicked = λ p. kicked p ∙ ap (λ (b : Bool). kicked_after p b e) (shows.kicked p)
          ∙ sym (kicked_on p es e);
      owing = λ p.
          let r = shows.owing p in (
            r.0,
            r.1,
            same_owing m m' moves p r.0 r.1
                (λ o. let z = frame_place f o.0 (sym live ∙ o.1) ∙ o.2 in
                asleep_kicks f.place f asleep z)
                (λ o. let z = frame_place g o.0 (sym moves.now ∙ o.1) ∙ o.2 in
                behind_kicks f.place f asleep z) r.2,
            (let a = owing_on p es e in let b = made_on p es e in let c = ends.owe p in
                let d = ends.made p in let k = r.3 in omega (arith, a, b, c, d, k)),
          );
    }
  where
    asleep_kicks : (o : Option Pc) (f : Frame) → at_halt (post_if o f) ≡ true → o ≡ Some U5 → ⊥
    asleep_kicks o f h e =
        let z = ap (λ (c : Option Pc). at_halt (post_if c f)) e in grind (arith, z, h)

    behind_kicks : (o : Option Pc) (f : Frame) → at_halt (post_if o f) ≡ true
        → after_halt o ≡ Some U5 → ⊥
    behind_kicks o f h e =
        elim (sleeping_row o f h) [
          | inl q ↦ (let z = ap after_halt (sym q) ∙ e in grind (arith, z))
          | inr q ↦ (let z = ap after_halt (sym q) ∙ e in grind (arith, z))
        ]

pub wake_shows : WakeShows
wake_shows m hs w f es ok newest live halt shows =
    ends_shows m (put_kicked (roused m w f) w.cpu false) es (record { by = w; what = Wake f.lock })
    ok newest live halt (record { sleep = λ u b. refl; owe = λ p. refl; made = λ p. refl })
    (put_moves m.frame w (Some f) (Some (record f { place = after_halt f.place })) live) (λ p. refl)
    (λ p. elim (cases_Bool (p == w.cpu)) [
      | inl ay ↦ if-true (p == w.cpu) false (m.kicked p) ay
          ∙ sym (if-true (w.cpu == p) false (m.kicked p) (flip p w.cpu true ay))
      | inr nay ↦ if-false (p == w.cpu) false (m.kicked p) nay
          ∙ sym (if-false (w.cpu == p) false (m.kicked p) (flip p w.cpu false nay))
    ]) shows

pub nudge_shows : NudgeShows
nudge_shows m hs w f es ok newest live halt shows =
    ends_shows m (roused m w f) es (record { by = w; what = Nudge }) ok newest live halt
    (record { sleep = λ u b. refl; owe = λ p. refl; made = λ p. refl })
    (put_moves m.frame w (Some f) (Some (record f { place = after_halt f.place })) live) (λ p. refl)
    (λ p. refl) shows

pub int_shows : IntShows
int_shows m hs w f es ok newest live halt shows =
    ends_shows m (roused m w f) es
    (record { by = record { cpu = w.cpu; ctx = w.ctx + 1 }; what = Int }) ok newest live halt
    (record { sleep = λ u b. refl; owe = λ p. refl; made = λ p. refl })
    (put_moves m.frame w (Some f) (Some (record f { place = after_halt f.place })) live) (λ p. refl)
    (λ p. refl) shows

pub int_awake_shows : IntAwakeShows
int_awake_shows m w es awake shows =
    let e : Event = record { by = w; what = Int } in
    record {
      asleep = λ u h.
          let h' : (if w.cpu == u.cpu then false else sleeps u es) ≡ true =
          sym (sleeps_on u es e) ∙ h in
          elim (cases_Bool (w.cpu == u.cpu)) [
            | inl here ↦ absurd (let z = if-true (w.cpu == u.cpu) false (sleeps u es) here in
                grind (arith, z, h'))
            | inr off ↦
                shows.asleep u (sym (if-false (w.cpu == u.cpu) false (sleeps u es) off) ∙ h')
          ];
      rests = λ u r. sleeps_on u es e ∙ elim (cases_Bool (w.cpu == u.cpu)) [
        | inl here ↦ absurd (let q = eqb-true w.cpu u.cpu here in let z = ap m.halted q in
            let k = r.3 in grind (arith, z, k, awake))
        | inr off ↦ if-false (w.cpu == u.cpu) false (sleeps u es) off ∙ shows.rests u r
      ];
      kicked = λ p. shows.kicked p ∙ sym (kicked_on p es e);
      owing = λ p. let r = shows.owing p in (
        r.0,
        r.1,
        r.2,
        (let a = owing_on p es e in let b = made_on p es e in let k = r.3 in
            omega (arith, a, b, k)),
      );
    }

-- Who sleeps in the history and leads the queue of a free lock is owed a kick by the world, and so
-- by the history.

phase_acts : (l : LockName) (d : Frame) → queues (phase_on l (Some d)) ≡ true
    → same_lock d.lock l ≡ true
phase_acts l d h = go (same_lock d.lock l) (phase_of d) h
  where
    go : (b : Bool) (r : Phase) → queues (if b then r else Idle) ≡ true → b ≡ true
    go true r h = refl
    go false r h = cc h

none_sole : (o : Option Waiter) → sole o ≡ [] → o ≡ None
none_sole None h = refl
none_sole (Some w) h = cc h

kick_frame : (k : LockName) (o : Option Frame) (t : NodeName) → post_on k o ≡ Kicks t
    → (d : Frame) × (o ≡ Some d) × (d.place ≡ Some U5) × (node_of d.target ≡ t)
kick_frame k None t e = cc e
kick_frame k (Some d) t e =
    let q = post_kick d.place d t (post_on-kicks k d t e) in (d, refl, q.0, q.1)
  where
    post_kick : (o : Option Pc) (d : Frame) (t : NodeName) → post_if o d ≡ Kicks t
        → (o ≡ Some U5) × (node_of d.target ≡ t)
    post_kick None d t e = cc e
    post_kick (Some U5) d t e =
        (refl, (let q : Kicks (node_of d.target) ≡ Kicks t = e in grind (arith, q)))
    post_kick (Some c) d t e = absurd (grind (arith, e))

-- where the world's history of the lock is that of the events
pub front_is_owed : (m : World) (es : List Event) {hs : LockName → LockHistory}
    → halts m.mode ≡ true → IsSoundSpinWorld m hs → ShowsKicks m es → (l : LockName)
    → hs l ≡ history_of l es → FrontIsOwed es l
front_is_owed m es {hs = hs} on ok shows l is w front_e free_e asleep =
    let front : IsFront (hs l) w = subst (λ (h : LockHistory). IsFront h w) (sym is) front_e in
    let free_h : (hs l).holders ≡ [] = ap (λ (h : LockHistory). h.holders) is ∙ free_e in
    let s = snapshot m in
    let o = ok.agrees.locks l in
    let r = shows.asleep w asleep in
    let d = r.0 in
    let shown : queues (phase_on l (Some d)) ≡ true =
    sym (ap (λ (q : Option Frame). queues (phase_on l q)) r.1) ∙ lists_main o.lists 0 w front in
    let here = phase_acts l d shown in
    let post : s.post l w ≡ post_of d =
    ap (post_on l) r.1 ∙ if-true (same_lock d.lock l) (post_of d) Off here in
    let free : (m.word l).locked ≡ Free =
    o.hold.taken (none_sole o.holder (sym o.holders ∙ free_h)) in
    let lies : (s.post l w ≡ Sleeps) ⊎ (s.post l w ≡ Naps) = elim (sleeping_row d.place d r.2) [
      | inl q ↦ inl (post ∙ ap (λ (c : Option Pc). post_if c d) q)
      | inr q ↦ inr (post ∙ ap (λ (c : Option Pc). post_if c d) q)
    ] in
    elim (para_owed ok.agrees on l free w front lies) [
      | inl k ↦ inr (sym (shows.kicked w.cpu) ∙ k)
      | inr x ↦
          let q = kick_frame x.0 (m.frame x.1) x.2 x.3 in
          let c = shows.owing w.cpu in
          let i = c.2.place x.1 (q.0, q.1, q.2, ap (λ (n : NodeName). n.cpu) q.3 ∙ x.4) in
          let lt = i.1 in
          let k = c.3 in
          inl (omega (arith, lt, k))
    ]

-- the same of the world alone
pub sleeping_front_is_kicked : SleepingFrontIsKicked
sleeping_front_is_kicked m hs l w d on ok free front live asleep =
    let s = snapshot m in
    let o = ok.agrees.locks l in
    let shown : queues (phase_on l (Some d)) ≡ true =
    sym (ap (λ (q : Option Frame). queues (phase_on l q)) live) ∙ lists_main o.lists 0 w front in
    let here = phase_acts l d shown in
    let post : s.post l w ≡ post_of d =
    ap (post_on l) live ∙ if-true (same_lock d.lock l) (post_of d) Off here in
    let lies : (s.post l w ≡ Sleeps) ⊎ (s.post l w ≡ Naps) = elim (sleeping_row d.place d asleep) [
      | inl q ↦ inl (post ∙ ap (λ (c : Option Pc). post_if c d) q)
      | inr q ↦ inr (post ∙ ap (λ (c : Option Pc). post_if c d) q)
    ] in
    elim (para_owed ok.agrees on l free w front lies) [
      | inl k ↦ inl k
      | inr x ↦ let q = kick_frame x.0 (m.frame x.1) x.2 x.3 in
          inr (x.1, (q.0, q.1, q.2, ap (λ (n : NodeName). n.cpu) q.3 ∙ x.4))
    ]

pub spin_fronts_are_owed : SpinFrontsAreOwed
spin_fronts_are_owed m es on ok shows l = front_is_owed m es on ok shows l refl

-- where nobody is there and nothing has happened
pub empty_shows : (format : Format) (mode : Mode) (t : ℕ) (sockets : List ℕ) (kind : ℕ → Kind)
    → ShowsKicks (empty_world format mode t sockets kind) []
empty_shows format mode t sockets kind =
    record {
      asleep = λ u h. cc h;
      rests = λ u r. let e = r.1 in cc e;
      kicked = λ p. refl;
      owing = λ p. (
        0,
        (λ i. record { cpu = 0; ctx = 0 }),
        record {
          once = λ i j lt. absurd (omega (arith, lt));
          inside = λ i lt. absurd (omega (arith, lt));
          place = λ u o. let e = o.1 in cc e;
        },
        refl,
      );
    }
