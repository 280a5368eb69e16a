-- U2, the byte not 1: the releaser will look into the hash, in which it finds its lock. And the
-- events that change no history.
use Rattle.std.proofs.Common.{◌≡◌, ◌≢◌, Option, Some, None, Bool, true, false, inl, arith, ap, refl}
use Rattle.std.proofs.Common.{sym, ◌∙◌, subst, is_some}
use Rattle.lk_law.proofs.Names.{cases_Bool, Locked, Free, Held, Slow, NodeName, LockHistory, told}
use Rattle.lk_law.proofs.Names.{Rules, same_lock, Halt, Wake, LockName, Waiter, State, Owed}
use Rattle.lk_law.proofs.Names.{SnapshotAgrees, Stays, Step, halts, node_state, MayFollow, Releases}
use Rattle.lk_law.proofs.Names.{Post, PostsAgree, bare, calls, dozes, names, one_at, post_full}
use Rattle.lk_law.proofs.Names.{post_holds, raw, slow_at, Finds, Off, Moves, Snapshot}
use Rattle.lk_law.proofs.{common.Allowed.{on_lock, shared_by}, common.Cases.waiter_cases}
use Rattle.lk_law.proofs.{pv.Laws.{para, para_only}, pv.StayLaws.law_looks}
use Rattle.lk_law.proofs.pv.Turn.{was_true, still_true, as_before, bare-holds}
use Rattle.lk_law.proofs.spin.Laws.{SameNodes}

pub u2_find : (locked : Locked) (entry : Option NodeName) (front : Option Waiter)
    (post post' : Waiter → Post) (state : Waiter → State) (own : Waiter → NodeName)
    (owed : Waiter → Type 0) (w : Waiter)
    → PostsAgree locked entry front post state own owed → Moves post post' w Off Finds
    → locked ≡ Slow → PostsAgree locked entry front post' state own owed
u2_find locked entry front post post' state own owed w ok moves l =
    record {
      fit = λ u f p q. grind (arith, waiter_cases u w, moves.others u, moves.now, ok.fit u f p q);
      bare_entry = λ u p. ok.bare_entry u (was bare refl u p);
      bare_slow = λ u p. l;
      bare_some = λ p q. let r = ok.bare_some p q in (r.0, still bare refl r.0 r.1);
      full_entry = λ u p. ok.full_entry u (was post_full refl u p);
      full_slow = λ u p. ok.full_slow u (was post_full refl u p);
      full_some = λ n p q. absurd (q l);
      entered = ok.entered;
      named = λ u m p. ok.named u m (sym (as_before post post' w Off Finds moves names refl u) ∙ p);
      raw_slow = λ z p q. ok.raw_slow z p (raws z q);
      raw_free = λ z u p q. absurd (ok.raw_slow z p (raws z q) l);
      slow = λ u p. l;
      one = λ u p. ok.one u (was one_at refl u p);
      called = λ z u p q d. ok.called z u p (was calls refl u q) (was dozes refl z d);
      dozed = λ z p q r. let c =
          ok.dozed z p
          (sym (moves.others z (λ e. let k = ap post' e in grind (arith, k, moves.now, q))) ∙ q)
          r in (c.0, still calls refl c.0 c.1);
      slept = λ z p q. inl l;
      napped = λ z p q. inl l;
    }
  where
    was : (P : Post → Bool) → P Finds ≡ false → (u : Waiter) → P (post' u) ≡ true
        → P (post u) ≡ true
    was P f u h = (was_true post post' w Off Finds moves P f u h).1

    still : (P : Post → Bool) → P Off ≡ false → (u : Waiter) → P (post u) ≡ true
        → P (post' u) ≡ true
    still P f u h = still_true post post' w Off Finds moves P f u h

    raws : (z : Waiter) → raw (post' z) (state z) ≡ true → raw (post z) (state z) ≡ true
    raws z q =
        sym (as_before post post' w Off Finds moves (λ (c : Post). raw c (state z)) refl z) ∙ q

module _ {s s' : Snapshot} {hs : LockName → LockHistory} {w : Waiter} {l : LockName}
    (ok : SnapshotAgrees s hs) (on : halts s.mode ≡ true)
    (owed : (c : Waiter) → Owed s c.cpu → Owed s' c.cpu) where
  pub law_U2_find : Step s s' w l Releases Releases (s.word l) true true → Stays s s' w
      → SameNodes s s' → (s.word l).locked ≡ Slow → Moves (s.post l) (s'.post l) w Off Finds
      → s'.entry l ≡ s.entry l → SnapshotAgrees s' hs
  law_U2_find step stays nodes slow moves entry =
      law_looks ok on step stays nodes moves owed refl refl refl (inl refl)
      (rw entry (u2_find _ _ _ _ _ (node_state s) _ (λ u. Owed s u.cpu) _
      (para ok on l).posts moves slow))

some_if : (o : Option NodeName) → (o ≡ None → ⊥) → is_some o ≡ true
some_if None h = absurd (h refl)
some_if (Some n) h = refl

-- who looks into the hash finds its lock there
pub finds_some : {s : Snapshot} {hs : LockName → LockHistory} (ok : SnapshotAgrees s hs)
    (on : halts s.mode ≡ true) (l : LockName) (w : Waiter)
    → s.post l w ≡ Finds → is_some (s.entry l) ≡ true
finds_some {s = s} ok on l w e =
    some_if (s.entry l) (λ none.
    let u = (para ok on l).posts.bare_some none ((para ok on l).posts.slow w (ap slow_at e)) in
    let same = para_only ok on l u.0 w (bare-holds (s.post l u.0) u.1) (ap post_holds e) in
    let z : bare (s.post l w) ≡ true = ap (λ (v : Waiter). bare (s.post l v)) (sym same) ∙ u.1 in
    let k = ap bare e in
    grind (arith, z, k))

-- who releases a byte that is not 1 meets it slow
pub not_held_slow : {s : Snapshot} {hs : LockName → LockHistory} (ok : SnapshotAgrees s hs)
    (l : LockName) (w : Waiter)
    → s.phase l w ≡ Releases → (s.word l).locked ≢ Held → (s.word l).locked ≡ Slow
not_held_slow {s = s} ok l w was other = go (s.word l).locked refl
  where
    go : (b : Locked) → (s.word l).locked ≡ b → (s.word l).locked ≡ Slow
    go Slow e = e
    go Held e = absurd (other e)
    go Free e =
        let o = ok.locks l in
        let none = o.hold.free e in
        let mine = o.hold.has w (let h = o.hold.releases w was in grind (arith, was, h)) in
        absurd (grind (arith, none, mine))

-- halts, wakes and kicks change no lock's history

pub law_halt : {s : Snapshot} {hs : LockName → LockHistory} (w : Waiter) (l : LockName)
    → SnapshotAgrees s hs → SnapshotAgrees s (λ k. told k (hs k) (record { by = w; what = Halt l }))
law_halt {s = s} {hs = hs} w l ok =
    let each : (k : LockName) (h : LockHistory) → told k h (record { by = w; what = Halt l }) ≡ h =
    λ k h. grind (arith, cases_Bool (same_lock l k)) in
    let e : (λ k. told k (hs k) (record { by = w; what = Halt l })) ≡ hs =
    (λ i k. each k (hs k) i) in
    subst (SnapshotAgrees s) (sym e) ok

pub law_wake : {s : Snapshot} {hs : LockName → LockHistory} (w : Waiter) (l : LockName)
    → SnapshotAgrees s hs → SnapshotAgrees s (λ k. told k (hs k) (record { by = w; what = Wake l }))
law_wake {s = s} {hs = hs} w l ok =
    let each : (k : LockName) (h : LockHistory) → told k h (record { by = w; what = Wake l }) ≡ h =
    λ k h. grind (arith, cases_Bool (same_lock l k)) in
    let e : (λ k. told k (hs k) (record { by = w; what = Wake l })) ≡ hs =
    (λ i k. each k (hs k) i) in
    subst (SnapshotAgrees s) (sym e) ok

module _ (rules : Rules) {s : Snapshot} {hs : LockName → LockHistory} (ok : SnapshotAgrees s hs)
    (w : Waiter) (l : LockName) where
  pub allow_halt : MayFollow rules hs (record { by = w; what = Halt l })
  allow_halt =
      on_lock rules hs (record { by = w; what = Halt l }) l refl
      (record {
        owned = tt;
        ordered = tt;
        shared = shared_by (ok.locks l).holder (ok.locks l).holders;
      })

  pub allow_wake : MayFollow rules hs (record { by = w; what = Wake l })
  allow_wake =
      on_lock rules hs (record { by = w; what = Wake l }) l refl
      (record {
        owned = tt;
        ordered = tt;
        shared = shared_by (ok.locks l).holder (ok.locks l).holders;
      })
