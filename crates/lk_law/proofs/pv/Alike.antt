-- What the events say of halts and kicks, and what one frame that moves changes of it.
use Rattle.std.proofs.Common.{◌≡◌, ◌≢◌, inl, inr, ℕ, Option, Some, Bool, true, false, List, [], ◌∷◌}
use Rattle.std.proofs.Common.{◌++◌, arith, ap, ◌+◌, ◌<◌, refl, sym, ◌∙◌, subst, ◌==◌, if◌then◌else◌}
use Rattle.lk_law.proofs.Names.{cases_Bool, eqb-true, sleeps, Event, What, LockName, Waiter}
use Rattle.lk_law.proofs.Names.{Nothing, Passes, Says, Tell, Frame, U5, ShowsKicks, post_of}
use Rattle.lk_law.proofs.Names.{at_halt, Moves, told_event, World}
use Rattle.lk_names.specs.Kicks.{sleeps_after, sleeps_from, owes, kicks, owing, kicks_made}
use Rattle.lk_names.specs.Kicks.{kicked_after, is_kicked_from, is_kicked}
use Rattle.lk_law.proofs.{common.Cases.waiter_cases, common.Puts.{if-true, if-false, not-true}}
use Rattle.lk_law.proofs.pv.Quiet.{is_quiet, quiet_tell}
use Rattle.lk_law.specs.Kicked.{with_event, Owes, AreOwing}

pub sleeps_on : (u : Waiter) (es : List Event) (e : Event)
    → sleeps u (es ++ e ∷ []) ≡ sleeps_after u (sleeps u es) e
sleeps_on u es e = go false es
  where
    go : (b : Bool) (es : List Event)
        → sleeps_from u b (es ++ e ∷ []) ≡ sleeps_after u (sleeps_from u b es) e
    go b [] = refl
    go b (x ∷ es) = go (sleeps_after u b x) es

pub kicked_on : (p : ℕ) (es : List Event) (e : Event)
    → is_kicked p (es ++ e ∷ []) ≡ kicked_after p (is_kicked p es) e
kicked_on p es e = go false es
  where
    go : (b : Bool) (es : List Event)
        → is_kicked_from p b (es ++ e ∷ []) ≡ kicked_after p (is_kicked_from p b es) e
    go b [] = refl
    go b (x ∷ es) = go (kicked_after p b x) es

pub owing_on : (p : ℕ) (es : List Event) (e : Event)
    → owing p (es ++ e ∷ []) ≡ owing p es + owes p e.what
owing_on p [] e = omega arith
owing_on p (x ∷ es) e = let r = owing_on p es e in omega (arith, r)

pub made_on : (p : ℕ) (es : List Event) (e : Event)
    → kicks_made p (es ++ e ∷ []) ≡ kicks_made p es + kicks p e.what
made_on p [] e = omega arith
made_on p (x ∷ es) e = let r = made_on p es e in omega (arith, r)

quiet_sleeps : (u : Waiter) (b : Bool) (w : Waiter) (what : What) → is_quiet what ≡ true
    → sleeps_after u b (record { by = w; what = what }) ≡ b
quiet_sleeps u b w what h = grind arith

quiet_kicked : (p : ℕ) (b : Bool) (w : Waiter) (what : What) → is_quiet what ≡ true
    → kicked_after p b (record { by = w; what = what }) ≡ b
quiet_kicked p b w what h = grind arith

quiet_owes : (p : ℕ) (what : What) → is_quiet what ≡ true → owes p what ≡ 0
quiet_owes p what h = grind arith

quiet_kicks : (p : ℕ) (what : What) → is_quiet what ≡ true → kicks p what ≡ 0
quiet_kicks p what h = grind arith

-- the events say no more of halts and kicks than before
pub record Alike (es es' : List Event) : Type 0 where
  sleep : (u : Waiter) → sleeps u es' ≡ sleeps u es
  kick : (p : ℕ) → is_kicked p es' ≡ is_kicked p es
  owe : (p : ℕ) → owing p es' ≡ owing p es
  made : (p : ℕ) → kicks_made p es' ≡ kicks_made p es

pub alike_self : (es : List Event) → Alike es es
alike_self es = record { sleep = λ u. refl; kick = λ p. refl; owe = λ p. refl; made = λ p. refl }

alike_quiet : (es : List Event) (w : Waiter) (what : What) → is_quiet what ≡ true
    → Alike es (es ++ record { by = w; what = what } ∷ [])
alike_quiet es w what h =
    record {
      sleep = λ u. sleeps_on u es _ ∙ quiet_sleeps u (sleeps u es) w what h;
      kick = λ p. kicked_on p es _ ∙ quiet_kicked p (is_kicked p es) w what h;
      owe = λ p. let r = owing_on p es (record { by = w; what = what }) in
          let z = quiet_owes p what h in omega (arith, r, z);
      made = λ p. let r = made_on p es (record { by = w; what = what }) in
          let z = quiet_kicks p what h in omega (arith, r, z);
    }

pub alike_told : (es : List Event) (w : Waiter) (l : LockName) (to : Waiter) (tell : Tell)
    → quiet_tell tell ≡ true → Alike es (with_event es (told_event w l to tell))
alike_told es w l to Nothing h = alike_self es
alike_told es w l to (Says what) h = alike_quiet es w what h
alike_told es w l to (Passes n k) h = alike_quiet es w _ refl

-- one frame moves, which owed no kick and owes none
module _ (m m' : World) {w : Waiter} {fo go : Option Frame}
    (moves : Moves m.frame m'.frame w fo go) where
  owes_before : (p : ℕ) (u : Waiter) → u ≢ w → Owes m' p u → Owes m p u
  owes_before p u ne o = (o.0, sym (moves.others u ne) ∙ o.1, o.2, o.3)

  owes_after : (p : ℕ) (u : Waiter) → u ≢ w → Owes m p u → Owes m' p u
  owes_after p u ne o = (o.0, moves.others u ne ∙ o.1, o.2, o.3)

  pub same_owing : (p n : ℕ) (the : ℕ → Waiter) → (Owes m p w → ⊥) → (Owes m' p w → ⊥)
      → AreOwing m p n the → AreOwing m' p n the
  same_owing p n the was now a =
      record {
        once = a.once;
        inside = λ i lt.
            let o = a.inside i lt in owes_after p (the i) (λ e. was (subst (Owes m p) e o)) o;
        place = λ u o. a.place u (owes_before p u (λ e. now (subst (Owes m' p) e o)) o);
      }

  pub quiet_shows : {es es' : List Event} → ShowsKicks m es → Alike es es'
      → ((p : ℕ) → m'.halted p ≡ m.halted p) → ((p : ℕ) → m'.kicked p ≡ m.kicked p)
      → ((d : Frame) → fo ≡ Some d → at_halt (post_of d) ≡ false)
      → ((d : Frame) → go ≡ Some d → at_halt (post_of d) ≡ true → m.halted w.cpu ≡ true → ⊥)
      → ((d : Frame) → fo ≡ Some d → d.place ≢ Some U5)
      → ((d : Frame) → go ≡ Some d → d.place ≢ Some U5) → ShowsKicks m' es'
  quiet_shows shows same halted kicked awake rises was now =
      record {
        asleep = λ u h.
            let r = shows.asleep u (sym (same.sleep u) ∙ h) in
            elim (waiter_cases u w) [
              | inl e ↦ absurd (let z = awake r.0 (sym moves.was ∙ ap m.frame (sym e) ∙ r.1) in
                  let k = r.2 in grind (arith, z, k))
              | inr ne ↦ (r.0, moves.others u ne ∙ r.1, r.2, halted u.cpu ∙ r.3)
            ];
        rests = λ u r. same.sleep u ∙ elim (waiter_cases u w) [
          | inl e ↦ absurd
              (rises r.0 (sym moves.now ∙ ap m'.frame (sym e) ∙ r.1) r.2
              (ap (λ (v : Waiter). m.halted v.cpu) (sym e) ∙ sym (halted u.cpu) ∙ r.3))
          | inr ne ↦
              shows.rests u (r.0, sym (moves.others u ne) ∙ r.1, r.2, sym (halted u.cpu) ∙ r.3)
        ];
        kicked = λ p. kicked p ∙ shows.kicked p ∙ sym (same.kick p);
        owing = λ p. let r = shows.owing p in (
          r.0,
          r.1,
          same_owing p r.0 r.1 (λ o. was o.0 (sym moves.was ∙ o.1) o.2)
              (λ o. now o.0 (sym moves.now ∙ o.1) o.2) r.2,
          (let a = same.owe p in let b = same.made p in let c = r.3 in omega (arith, a, b, c)),
        );
      }

  -- it owes one now
  pub more_owing : (p n : ℕ) (the : ℕ → Waiter) → (Owes m p w → ⊥) → Owes m' p w
      → AreOwing m p n the
      → AreOwing m' p (n + 1) (λ i. if i == n then w else the i)
  more_owing p n the was now a =
      record {
        once = λ i j lt kt e. elim (cases_Bool (i == n)) [
          | inl a1 ↦ elim (cases_Bool (j == n)) [
            | inl b1 ↦ eqb-true i n a1 ∙ sym (eqb-true j n b1)
            | inr b0 ↦ absurd
                (new (j) (below j b0 kt)
                (sym (sym (if-true (i == n) w (the i) a1) ∙ e ∙ if-false (j == n) w (the j) b0)))
          ]
          | inr a0 ↦ elim (cases_Bool (j == n)) [
            | inl b1 ↦
                absurd (new i (below i a0 lt) (sym (if-false (i == n) w (the i) a0) ∙ e
                ∙ if-true (j == n) w (the j) b1))
            | inr b0 ↦ a.once i j (below i a0 lt) (below j b0 kt)
                (sym (if-false (i == n) w (the i) a0) ∙ e ∙ if-false (j == n) w (the j) b0)
          ]
        ];
        inside = λ i lt. elim (cases_Bool (i == n)) [
          | inl a1 ↦ subst (Owes m' p) (sym (if-true (i == n) w (the i) a1)) now
          | inr a0 ↦ subst (Owes m' p) (sym (if-false (i == n) w (the i) a0))
              (owes_after p (the i) (new i (below i a0 lt)) (a.inside i (below i a0 lt)))
        ];
        place = λ u o. elim (waiter_cases u w) [
          | inl e ↦ (n, (omega arith), if-true (n == n) w (the n) (grind arith) ∙ sym e)
          | inr ne ↦ let r = a.place u (owes_before p u ne o) in let lt = r.1 in (
            r.0,
            omega (arith, lt),
            if-false (r.0 == n) w (the r.0)
                (not-true (r.0 == n) (λ q. let z = eqb-true r.0 n q in omega (arith, z, lt))) ∙ r.2,
          )
        ];
      }
    where
      below : (i : ℕ) → (i == n) ≡ false → i < n + 1 → i < n
      below i ne lt = grind (arith, ne, lt)

      new : (i : ℕ) → i < n → the i ≢ w
      new i lt e = was (subst (Owes m p) e (a.inside i lt))

  -- it owes none any more: the last takes its number
  pub less_owing : (p n : ℕ) (the : ℕ → Waiter) → (Owes m' p w → ⊥) → (k : ℕ) → k < n + 1
      → the k ≡ w
      → AreOwing m p (n + 1) the → AreOwing m' p n (λ i. if i == k then the n else the i)
  less_owing p n the now k in_range is a =
      record {
        once = λ i j lt kt e. elim (cases_Bool (i == k)) [
          | inl a1 ↦ elim (cases_Bool (j == k)) [
            | inl b1 ↦ eqb-true i k a1 ∙ sym (eqb-true j k b1)
            | inr b0 ↦ absurd
                (let z = a.once n j (omega arith) (omega (arith, kt))
                (sym (if-true (i == k) (the n) (the i) a1) ∙ e
                ∙ if-false (j == k) (the n) (the j) b0) in omega (arith, z, kt))
          ]
          | inr a0 ↦ elim (cases_Bool (j == k)) [
            | inl b1 ↦ absurd
                (let z = a.once i n (omega (arith, lt)) (omega arith)
                (sym (if-false (i == k) (the n) (the i) a0) ∙ e
                ∙ if-true (j == k) (the n) (the j) b1) in omega (arith, z, lt))
            | inr b0 ↦ a.once i j (omega (arith, lt)) (omega (arith, kt))
                (sym (if-false (i == k) (the n) (the i) a0) ∙ e
                ∙ if-false (j == k) (the n) (the j) b0)
          ]
        ];
        inside = λ i lt. elim (cases_Bool (i == k)) [
          | inl a1 ↦
              let e = eqb-true i k a1 in
              subst (Owes m' p) (sym (if-true (i == k) (the n) (the i) a1))
              (owes_after p (the n)
              (λ q. let z = a.once n k (omega arith) in_range (q ∙ sym is) in
              omega (arith, z, e, lt)) (a.inside n (omega arith)))
          | inr a0 ↦
              subst (Owes m' p) (sym (if-false (i == k) (the n) (the i) a0))
              (owes_after p (the i)
              (λ q. let z = a.once i k (omega (arith, lt)) in_range (q ∙ sym is) in
              grind (arith, z, a0)) (a.inside i (omega (arith, lt))))
        ];
        place = λ u o.
            let ne : u ≢ w = (λ e. now (subst (Owes m' p) e o)) in
            let r = a.place u (owes_before p u ne o) in
            let i = r.0 in
            let lt = r.1 in
            let apart : i ≢ k = (λ q. ne (sym r.2 ∙ ap the q ∙ is)) in
            elim (cases_Bool (i == n)) [
              | inl e1 ↦ let e = eqb-true i n e1 in (
                k,
                grind (arith, e, apart, in_range),
                if-true (k == k) (the n) (the k) (grind arith) ∙ ap the (sym e) ∙ r.2,
              )
              | inr e0 ↦ (
                i,
                grind (arith, e0, lt),
                if-false (i == k) (the n) (the i)
                    (not-true (i == k) (λ q. apart (eqb-true i k q))) ∙ r.2,
              )
            ];
      }

pub frame_same : (f d : Frame) → Some f ≡ Some d → f ≡ d
frame_same f d e = grind arith

pub frame_place : (f d : Frame) → Some f ≡ Some d → f.place ≡ d.place
frame_place f d e = ap (λ (b : Frame). b.place) (frame_same f d e)
