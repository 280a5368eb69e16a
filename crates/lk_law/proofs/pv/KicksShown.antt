-- What the events so far say of halts and kicks is what a world shows, after each row and each end
-- of a halt; and so a front that sleeps while nobody holds its lock is owed a kick.
-- one more event
use Rattle.std.proofs.Common.{◌≡◌, ◌≢◌, ◌⊎◌, inl, inr, ℕ, Option, Some, None, Bool, true, false}
use Rattle.std.proofs.Common.{List, [], ◌∷◌, ◌++◌, arith, ap, ◌+◌, ◌-◌, refl, sym, ◌∙◌, subst, ◌==◌}
use Rattle.std.proofs.Common.{if◌then◌else◌}
use Rattle.lk_law.proofs.Names.{cases_Bool, eqb-true, LockHistory, sleeps, same_waiter, Event, Halt}
use Rattle.lk_law.proofs.Names.{Release, LockName, Waiter, node_of, Done, Enters, Freed, Goes}
use Rattle.lk_law.proofs.Names.{Granted, Lead, Leaves, Missed, TakesWait, Yields, target, Frame, Pc}
use Rattle.lk_law.proofs.Names.{E12, U4, U5, W6, ShowsKicks, post_if, post_of, IsNewest, IsThen}
use Rattle.lk_law.proofs.Names.{at_halt, Moves, IsSoundSpinWorld, led, row_in, told_event, World}
use Rattle.lk_names.specs.{Kicks.is_kicked, declared.events.What.TheVariants.Kick}
use Rattle.lk_law.proofs.common.Cases.{waiter_cases}
use Rattle.lk_law.proofs.common.Puts.{if-true, if-false, put_moves, not-true, same_waiter-else}
use Rattle.lk_law.proofs.{common.Puts.kept_true, common.Sames.same_waiter-self}
use Rattle.lk_law.proofs.pv.Alike.{alike_told, frame_place, frame_same, kicked_on, made_on}
use Rattle.lk_law.proofs.pv.Alike.{owing_on, sleeps_on, quiet_shows, same_owing, more_owing}
use Rattle.lk_law.proofs.pv.Alike.{less_owing}
use Rattle.lk_law.proofs.pv.HaltsEnd.{halted_sleeps, sleeper_is, sleeping_row}
use Rattle.lk_law.proofs.pv.Quiet.{to_kick, reaches_kick, put, QuietRow, quiet_at, target_kind}
use Rattle.lk_law.specs.Kicked.{with_event, Rests, Owes, AreOwing, RowShows}

-- where a quiet lead goes no kick is owed
granted_apart : (b : Bool) (c : Option Pc) → (b ≡ true → IsThen c)
    → (if b then c else None) ≢ Some U5
granted_apart false c after e = cc e
granted_apart true c after e =
    elim (after refl) [ inl q ↦ grind (arith, q, e) | inr q ↦ grind (arith, q, e) ]

quiet_led : (f : Frame) (lead : Lead) → (f.lock.wait ≡ true → IsThen f.then)
    → reaches_kick lead ≡ false → (led f lead).place ≢ Some U5
quiet_led f (Goes c cs) plain h e = go c h e
  where
    go : (c : Pc) → to_kick c ≡ false → Some c ≢ Some U5
    go c h e = grind (arith, h, e)
quiet_led f (Enters n c) plain h e = go c h e
  where
    go : (c : Pc) → to_kick c ≡ false → Some c ≢ Some U5
    go c h e = grind (arith, h, e)
quiet_led f (Yields c cs) plain h e = go c h e
  where
    go : (c : Pc) → to_kick c ≡ false → Some c ≢ Some U5
    go c h e = grind (arith, h, e)
quiet_led f Granted plain h e = granted_apart f.lock.wait f.then plain e
quiet_led f Freed plain h e = cc e
quiet_led f Missed plain h e = cc e
quiet_led f Leaves plain h e = granted_apart f.lock.wait f.then plain e
quiet_led f Done plain h e = cc e
quiet_led f (TakesWait c) plain h e = grind (arith, e)

post_awake : (o : Option Pc) (c : Pc) (f : Frame) → o ≡ Some c → c ≢ W6 → c ≢ E12
    → at_halt (post_if o f) ≡ false
post_awake o c f e w6 e12 =
    not-true (at_halt (post_if o f))
    (λ h. elim (sleeping_row o f h) [
      | inl q ↦ w6
          (let z : Some c ≡ Some W6 = sym e ∙ q in grind (arith, z))
      | inr q ↦ e12 (let z : Some c ≡ Some E12 = sym e ∙ q in grind (arith, z))
    ])

pub quiet_row_shows : (c : Pc) → c ≢ W6 → c ≢ E12 → c ≢ U4 → c ≢ U5 → RowShows c
quiet_row_shows c w6 e12 u4 u5 m hs w to f es ok newest live place plain shows =
    let out : to_kick c ≡ false = not-true (to_kick c) (λ h. u5 (kick_is c h)) in
    row (quiet_at m w f c (target c f) out u4 (target_kind c f out w6 e12))
  where
    kick_is : (c : Pc) → to_kick c ≡ true → c ≡ U5
    kick_is c h = grind arith

    row : QuietRow m w f (row_in m w f c)
        → ShowsKicks (row_in m w f c).0 (with_event es (told_event w f.lock to (row_in m w f c).1))
    row q =
        let m' = (row_in m w f c).0 in
        let g = led f q.lead in
        let base = put_moves m.frame w (Some f) (Some g) live in
        let at : (u : Waiter) → m'.frame u ≡ put m.frame w g u =
        λ u. ap (λ (h : Waiter → Option Frame). h u) q.frame in
        let moves : Moves m.frame m'.frame w (Some f) (Some g) =
        record {
          was = live;
          now = at w ∙ base.now;
          others = λ u ne. at u ∙ base.others u ne;
        } in
        let awake : at_halt (post_of f) ≡ false = post_awake f.place c f place w6 e12 in
        quiet_shows m m' moves shows (alike_told es w f.lock to (row_in m w f c).1 q.tells)
        (λ p. ap (λ (h : ℕ → Bool). h p) q.halted) (λ p. ap (λ (h : ℕ → Bool). h p) q.kicked)
        (λ d e. let same : f ≡ d = grind arith in
        ap (λ (b : Frame). at_halt (post_of b)) (sym same) ∙ awake)
        (λ d e z h. let y = halted_sleeps ok newest live h in grind (arith, y, awake))
        (λ d e z. let same : f ≡ d = grind arith in
        u5 (let k : Some c ≡ Some U5 = sym place ∙ ap (λ (b : Frame). b.place) same ∙ z in
        grind (arith, k)))
        (λ d e z. let same : g ≡ d = grind arith in
        quiet_led f q.lead plain q.leads (ap (λ (b : Frame). b.place) same ∙ z))

-- W6 and E12: the frame stands where it stood, and its processor has halted

halt_shows : {m m' : World} {hs : LockName → LockHistory} {w : Waiter} {f g : Frame}
    (es : List Event) (l : LockName)
    → IsSoundSpinWorld m hs → IsNewest m w → Moves m.frame m'.frame w (Some f) (Some g)
    → at_halt (post_of f) ≡ true → at_halt (post_of g) ≡ true → f.place ≢ Some U5
    → g.place ≢ Some U5
    → ((p : ℕ) → m'.halted p ≡ (if p == w.cpu then true else m.halted p))
    → ((p : ℕ) → m'.kicked p ≡ m.kicked p) → ShowsKicks m es
    → ShowsKicks m' (es ++ record { by = w; what = Halt l } ∷ [])
halt_shows {m = m} {m' = m'} {w = w} {f = f} {g = g} es l ok newest moves was_asleep asleep was now
    halted kicked shows =
    let e : Event = record { by = w; what = Halt l } in
    record {
      asleep = λ u h.
          let h' : (if same_waiter w u then true else sleeps u es) ≡ true =
          sym (sleeps_on u es e) ∙ h in
          elim (waiter_cases u w) [
            | inl q ↦ (
              g,
              ap m'.frame q ∙ moves.now,
              asleep,
              halted u.cpu
                  ∙ if-true (u.cpu == w.cpu) true (m.halted u.cpu)
                  (let z = ap (λ (v : Waiter). v.cpu) q in grind (arith, z)),
            )
            | inr ne ↦
                let r = shows.asleep u
                (sym (if-false (same_waiter w u) true (sleeps u es)
                (same_waiter-else w u (λ z. ne (sym z)))) ∙ h') in (
                  r.0,
                  moves.others u ne ∙ r.1,
                  r.2,
                  halted u.cpu ∙ kept_true (u.cpu == w.cpu) (m.halted u.cpu) r.3,
                )
          ];
      rests = λ u r. sleeps_on u es e ∙ elim (waiter_cases u w) [
        | inl q ↦
            if-true (same_waiter w u) true (sleeps u es) (ap (same_waiter w) q ∙ same_waiter-self w)
        | inr ne ↦
            let live_u : m.frame u ≡ Some r.0 = sym (moves.others u ne) ∙ r.1 in
            let apart : (u.cpu == w.cpu) ≡ false =
            not-true (u.cpu == w.cpu)
            (λ q. ne (sleeper_is ok newest moves.was u r.0 (eqb-true u.cpu w.cpu q) live_u
            r.2)) in
            kept_true (same_waiter w u) (sleeps u es)
            (shows.rests u (
              r.0,
              live_u,
              r.2,
              sym (if-false (u.cpu == w.cpu) true (m.halted u.cpu) apart)
                  ∙ sym (halted u.cpu) ∙ r.3,
            ))
      ];
      kicked = λ p. kicked p ∙ shows.kicked p ∙ sym (kicked_on p es e);
      owing = λ p.
          let r = shows.owing p in (
            r.0,
            r.1,
            same_owing m m' moves p r.0 r.1
                (λ o. was (frame_place f o.0 (sym moves.was ∙ o.1) ∙ o.2))
                (λ o. now (frame_place g o.0 (sym moves.now ∙ o.1) ∙ o.2)) r.2,
            (let a = owing_on p es e in let b = made_on p es e in let k = r.3 in
                omega (arith, a, b, k)),
          );
    }

halt_row_shows : (c : Pc) → (c ≡ W6) ⊎ (c ≡ E12) → RowShows c
halt_row_shows c (inl e) =
    subst RowShows (sym e) (λ m hs w to f es ok newest live place plain shows.
    halt_shows es f.lock ok newest
    (put_moves m.frame w (Some f) (Some (record f { place = Some W6 })) live)
    (ap (λ (o : Option Pc). at_halt (post_if o f)) place) refl
    (λ z. let k = sym place ∙ z in
    grind (arith, k)) (λ z. grind (arith, z)) (λ p. refl) (λ p. refl) shows)
halt_row_shows c (inr e) =
    subst RowShows (sym e) (λ m hs w to f es ok newest live place plain shows.
    halt_shows es f.lock ok newest
    (put_moves m.frame w (Some f) (Some (record f { place = Some E12 })) live)
    (ap (λ (o : Option Pc). at_halt (post_if o f)) place) refl
    (λ z. let k = sym place ∙ z in
    grind (arith, k)) (λ z. grind (arith, z)) (λ p. refl) (λ p. refl) shows)

-- U4: the waiter owes one now. U5: it makes the kick.

-- no halt begins or ends, and nobody moves that sleeps
module _ (m m' : World) {w : Waiter} {f g : Frame}
    (moves : Moves m.frame m'.frame w (Some f) (Some g)) (was : at_halt (post_of f) ≡ false)
    (now : at_halt (post_of g) ≡ false) (halted : (p : ℕ) → m'.halted p ≡ m.halted p) where
  rests_before : (u : Waiter) → Rests m' u → Rests m u
  rests_before u r =
      elim (waiter_cases u w) [
        | inl e ↦ absurd
            (let same = frame_same g r.0 (sym moves.now ∙ ap m'.frame (sym e) ∙ r.1) in
            let z = ap (λ (b : Frame). at_halt (post_of b)) same in let k = r.2 in
            grind (arith, z, k, now))
        | inr ne ↦ (r.0, sym (moves.others u ne) ∙ r.1, r.2, sym (halted u.cpu) ∙ r.3)
      ]

  rests_after : (u : Waiter) → Rests m u → Rests m' u
  rests_after u r =
      elim (waiter_cases u w) [
        | inl e ↦ absurd
            (let same = frame_same f r.0 (sym moves.was ∙ ap m.frame (sym e) ∙ r.1) in
            let z = ap (λ (b : Frame). at_halt (post_of b)) same in let k = r.2 in
            grind (arith, z, k, was))
        | inr ne ↦ (r.0, moves.others u ne ∙ r.1, r.2, halted u.cpu ∙ r.3)
      ]

pub flip : (p q : ℕ) (b : Bool) → (p == q) ≡ b → (q == p) ≡ b
flip p q b e = grind (arith, e)

owing_row_shows : RowShows U4
owing_row_shows m hs w to f es ok newest live place plain shows =
    let m' = (row_in m w f U4).0 in
    let g : Frame = record f { place = Some U5 } in
    let q = (node_of f.target).cpu in
    let e : Event = record { by = w; what = Release f.lock (Some q) } in
    let moves : Moves m.frame m'.frame w (Some f) (Some g) =
    put_moves m.frame w (Some f) (Some g) live in
    let awake : at_halt (post_of f) ≡ false = ap (λ (o : Option Pc). at_halt (post_if o f)) place in
    let was : (p : ℕ) → Owes m p w → ⊥ = λ p o. let z = frame_place f o.0 (sym live ∙ o.1) ∙ o.2 in
    let k = sym place ∙ z in grind (arith, k) in
    record {
      asleep = λ u h.
          rests_after m m' moves awake refl (λ p. refl) u
          (shows.asleep u (sym (sleeps_on u es e) ∙ h));
      rests = λ u r. sleeps_on u es e
          ∙ shows.rests u (rests_before m m' moves awake refl (λ p. refl) u r);
      kicked = λ p. shows.kicked p ∙ sym (kicked_on p es e);
      owing = λ p.
          let r = shows.owing p in
          let a = owing_on p es e in
          let b = made_on p es e in
          let k = r.3 in
          elim (cases_Bool (q == p)) [
            | inl ay ↦ (
              r.0 + 1,
              (λ i. if i == r.0 then w else r.1 i),
              more_owing m m' moves p r.0 r.1 (was p) (g, moves.now, refl, eqb-true q p ay) r.2,
              (let z = if-true {A = ℕ} (q == p) 1 0 ay in omega (arith, a, b, k, z)),
            )
            | inr nay ↦ (
              r.0,
              r.1,
              same_owing m m' moves p r.0 r.1 (was p)
                  (λ o. let same = frame_same g o.0 (sym moves.now ∙ o.1) in
                  let z : q ≡ p = ap (λ (d : Frame). (node_of d.target).cpu) same ∙ o.3 in
                  grind (arith, z, nay)) r.2,
              (let z = if-false {A = ℕ} (q == p) 1 0 nay in omega (arith, a, b, k, z)),
            )
          ];
    }

kick_row_shows : RowShows U5
kick_row_shows m hs w to f es ok newest live place plain shows =
    let m' = (row_in m w f U5).0 in
    let g : Frame = record f { place = None } in
    let q = (node_of f.target).cpu in
    let e : Event = record { by = w; what = Kick q } in
    let moves : Moves m.frame m'.frame w (Some f) (Some g) =
    put_moves m.frame w (Some f) (Some g) live in
    let awake : at_halt (post_of f) ≡ false = ap (λ (o : Option Pc). at_halt (post_if o f)) place in
    let now : (p : ℕ) → Owes m' p w → ⊥ = λ p o.
    let z = frame_place g o.0 (sym moves.now ∙ o.1) ∙ o.2 in grind (arith, z) in
    record {
      asleep = λ u h.
          rests_after m m' moves awake refl (λ p. refl) u
          (shows.asleep u (sym (sleeps_on u es e) ∙ h));
      rests = λ u r. sleeps_on u es e
          ∙ shows.rests u (rests_before m m' moves awake refl (λ p. refl) u r);
      kicked = λ p. elim (cases_Bool (p == q)) [
        | inl ay ↦ if-true (p == q) true (m.kicked p) ay
            ∙ sym (kicked_on p es e ∙ if-true (q == p) true (is_kicked p es) (flip p q true ay))
        | inr nay ↦ if-false (p == q) true (m.kicked p) nay ∙ shows.kicked p
            ∙ sym (kicked_on p es e ∙ if-false (q == p) true (is_kicked p es) (flip p q false nay))
      ];
      owing = λ p.
          let r = shows.owing p in
          let a = owing_on p es e in
          let b = made_on p es e in
          let k = r.3 in
          elim (cases_Bool (q == p)) [
            | inl ay ↦
                let i = r.2.place w (f, live, place, eqb-true q p ay) in
                let lt = i.1 in
                let one : r.0 ≡ (r.0 - 1) + 1 = omega (arith, lt) in (
                  r.0 - 1,
                  (λ j. if j == i.0 then r.1 (r.0 - 1) else r.1 j),
                  less_owing m m' moves p (r.0 - 1) r.1 (now p) i.0 (omega (arith, lt)) i.2
                      (subst (λ (c : ℕ). AreOwing m p c r.1) one r.2),
                  (let z = if-true {A = ℕ} (q == p) 1 0 ay in omega (arith, a, b, k, z, lt)),
                )
            | inr nay ↦ (
              r.0,
              r.1,
              same_owing m m' moves p r.0 r.1
                  (λ o. let same = frame_same f o.0 (sym live ∙ o.1) in
                  let z : q ≡ p = ap (λ (d : Frame). (node_of d.target).cpu) same ∙ o.3 in
                  grind (arith, z, nay)) (now p) r.2,
              (let z = if-false {A = ℕ} (q == p) 1 0 nay in omega (arith, a, b, k, z)),
            )
          ];
    }

loud : (c : Pc)
    → (c ≡ W6) ⊎ (c ≡ E12) ⊎ (c ≡ U4) ⊎ (c ≡ U5) ⊎ ((c ≢ W6) × (c ≢ E12) × (c ≢ U4) × (c ≢ U5))
loud W6 = inl refl
loud E12 = inr (inl refl)
loud U4 = inr (inr (inl refl))
loud U5 = inr (inr (inr (inl refl)))
loud c = inr (inr (inr (inr ((λ e. cc e), (λ e. cc e), (λ e. cc e), (λ e. cc e)))))

pub every_row_shows : (c : Pc) → RowShows c
every_row_shows c =
    elim (loud c) [
      | inl a ↦ halt_row_shows c (inl a)
      | inr r ↦ elim r [
        | inl a ↦ halt_row_shows c (inr a)
        | inr r2 ↦ elim r2 [
          | inl a ↦ subst RowShows (sym a) owing_row_shows
          | inr r3 ↦ elim r3 [
            | inl a ↦ subst RowShows (sym a) kick_row_shows
            | inr n ↦ quiet_row_shows c n.0 n.1 n.2 n.3
          ]
        ]
      ]
    ]
