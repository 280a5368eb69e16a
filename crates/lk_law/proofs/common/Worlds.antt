-- A row moves one frame of a world: the step of its snapshot.
use Rattle.std.proofs.Common.{◌≡◌, ◌≢◌, ◌⊎◌, ◌<◌, inl, inr, ℕ, Option, None, Some, Bool, true}
use Rattle.std.proofs.Common.{false, arith, ap, ◌+◌, refl, sym, ◌∙◌, subst, if◌then◌else◌, is_some}
use Rattle.lk_law.proofs.Names.{Fields, NodeName, LockHistory, is_local, same_lock, LockName, Mode}
use Rattle.lk_law.proofs.Names.{Waiter, node_of, Frame, Pc, C2, C3, C4, C5, C6, C7, C8, C9, C10}
use Rattle.lk_law.proofs.Names.{E12, W6, EntersSlowPath, Knows, LeavesSlowPath, Owed}
use Rattle.lk_law.proofs.Names.{SnapshotAgrees, Stays, Step, halts, is_slow, may_halt, Phase, Holds}
use Rattle.lk_law.proofs.Names.{Idle, kept_in, own_in, phase_at, phase_if, phase_of, phase_on}
use Rattle.lk_law.proofs.Names.{post_at, post_if, post_of, post_on, slow_in, snapshot, stage_at}
use Rattle.lk_law.proofs.Names.{stage_if, stage_of, stage_on, IsNewest, Post, at_halt, Kicks, Off}
use Rattle.lk_law.proofs.Names.{RegistersFit, Moves, spins, IsPlain, IsSoundSpinWorld, Stage, Rests}
use Rattle.lk_law.proofs.Names.{World}
use Rattle.lk_law.proofs.common.Cases.{waiter_cases}
use Rattle.lk_law.proofs.common.Puts.{if-true, if-false, same_lock-else}
use Rattle.lk_law.proofs.common.Sames.{same_lock-self}
use Rattle.lk_law.specs.Agree.{IsOnTop}

pub phase_on-here : (l : LockName) (f : Frame) → f.lock ≡ l → phase_on l (Some f) ≡ phase_of f
phase_on-here l f e =
    if-true (same_lock f.lock l) (phase_of f) Idle
    (ap (λ (k : LockName). same_lock k l) e ∙ same_lock-self l)

pub phase_on-else : (k : LockName) (f : Frame) → k ≢ f.lock → phase_on k (Some f) ≡ Idle
phase_on-else k f ne =
    if-false (same_lock f.lock k) (phase_of f) Idle (same_lock-else f.lock k (λ e. ne (sym e)))

pub phase_on-idle : (k : LockName) (f : Frame) → phase_of f ≡ Idle → phase_on k (Some f) ≡ Idle
phase_on-idle k f e = both (same_lock f.lock k) (phase_of f) e
  where
    both : (b : Bool) (r : Phase) → r ≡ Idle → (if b then r else Idle) ≡ Idle
    both true r e = e
    both false r e = refl

-- the frame is at work on this lock, if on any
abbrev pub ActsOn : Frame → LockName → Type 0
ActsOn f l = (f.lock ≡ l) ⊎ (phase_of f ≡ Idle)

acts-here : (f : Frame) (l : LockName) → ActsOn f l → phase_on l (Some f) ≡ phase_of f
acts-here f l (inl e) = phase_on-here l f e
acts-here f l (inr e) = phase_on-idle l f e ∙ sym e

acts-else : (f : Frame) (l k : LockName) → ActsOn f l → k ≢ l → phase_on k (Some f) ≡ Idle
acts-else f l k (inl e) ne = phase_on-else k f (λ q. ne (q ∙ e))
acts-else f l k (inr e) ne = phase_on-idle k f e

-- Who does not hold the lock as the front has not begun to choose.

calm_at : (c : Pc) (f : Frame) → phase_at c (is_some f.me) (node_of f.prev) (node_of f.y) ≢ Holds
    → stage_at c f ≡ Rests
calm_at C2 f off = absurd (off refl)
calm_at C3 f off = absurd (off refl)
calm_at C4 f off = absurd (off refl)
calm_at C5 f off = absurd (off refl)
calm_at C6 f off = absurd (off refl)
calm_at C7 f off = absurd (off refl)
calm_at C8 f off = absurd (off refl)
calm_at C9 f off = absurd (off refl)
calm_at C10 f off = absurd (off refl)
calm_at _ f off = refl

pub stage_calm : (f : Frame) → phase_of f ≢ Holds → stage_of f ≡ Rests
stage_calm f off = go f.place off
  where
    go : (o : Option Pc) → phase_if o (is_some f.me) (node_of f.prev) (node_of f.y) ≢ Holds
        → stage_if o f ≡ Rests
    go None h = refl
    go (Some c) h = calm_at c f h

pub stage_on-rests : (l : LockName) (f : Frame) → stage_of f ≡ Rests → stage_on l (Some f) ≡ Rests
stage_on-rests l f e = both (same_lock f.lock l) (stage_of f) e
  where
    both : (b : Bool) (g : Stage) → g ≡ Rests → (if b then g else Rests) ≡ Rests
    both true g e = e
    both false g e = refl

pub post_on-here : (l : LockName) (f : Frame) → f.lock ≡ l → post_on l (Some f) ≡ post_of f
post_on-here l f e =
    if-true (same_lock f.lock l) (post_of f) Off
    (ap (λ (k : LockName). same_lock k l) e ∙ same_lock-self l)

pub stage_on-here : (l : LockName) (f : Frame) → f.lock ≡ l → stage_on l (Some f) ≡ stage_of f
stage_on-here l f e =
    if-true (same_lock f.lock l) (stage_of f) Rests
    (ap (λ (k : LockName). same_lock k l) e ∙ same_lock-self l)

acts-calm : (f : Frame) (l k : LockName) → ActsOn f l → k ≢ l → stage_on k (Some f) ≡ Rests
acts-calm f l k (inl e) ne =
    if-false (same_lock f.lock k) (stage_of f) Rests (same_lock-else f.lock k (λ q. ne (sym q ∙ e)))
acts-calm f l k (inr e) ne = stage_on-rests k f (stage_calm f (λ q. grind (arith, e, q)))

acts-off : (f : Frame) (l k : LockName) → (f.lock ≡ l) ⊎ (post_of f ≡ Off) → k ≢ l
    → post_on k (Some f) ≡ Off
acts-off f l k (inl e) ne =
    if-false (same_lock f.lock k) (post_of f) Off (same_lock-else f.lock k (λ q. ne (sym q ∙ e)))
acts-off f l k (inr e) ne = both (same_lock f.lock k) (post_of f) e
  where
    both : (b : Bool) (p : Post) → p ≡ Off → (if b then p else Off) ≡ Off
    both true p e = e
    both false p e = refl

pub post_on-off : (l : LockName) (f : Frame) → post_of f ≡ Off → post_on l (Some f) ≡ Off
post_on-off l f e = both (same_lock f.lock l) (post_of f) e
  where
    both : (b : Bool) (p : Post) → p ≡ Off → (if b then p else Off) ≡ Off
    both true p e = e
    both false p e = refl

pub post_on-kicks : (l : LockName) (f : Frame) (t : NodeName) → post_on l (Some f) ≡ Kicks t
    → post_of f ≡ Kicks t
post_on-kicks l f t e = both (same_lock f.lock l) (post_of f) e
  where
    both : (b : Bool) (p : Post) → (if b then p else Off) ≡ Kicks t → p ≡ Kicks t
    both true p e = e
    both false p e = cc e

-- a post that sleeps is that of the frame
pub post_on-sleeps : (l : LockName) (f : Frame) → at_halt (post_on l (Some f)) ≡ true
    → at_halt (post_of f) ≡ true
post_on-sleeps l f e = both (same_lock f.lock l) (post_of f) e
  where
    both : (b : Bool) (p : Post) → at_halt (if b then p else Off) ≡ true → at_halt p ≡ true
    both true p e = e
    both false p e = cc e

-- who sleeps on its processor beside the newest frame is that frame
pub sole_sleeper : {m : World} {hs : LockName → LockHistory} {w : Waiter} {f : Frame}
    → IsSoundSpinWorld m hs → IsNewest m w → m.frame w ≡ Some f → (k : LockName) (u : Waiter)
    → u.cpu ≡ w.cpu → at_halt (post_on k (m.frame u)) ≡ true → u ≡ w
sole_sleeper {m = m} {w = w} {f = f} ok newest live k u cpu h = there (m.frame u) refl h
  where
    there : (o : Option Frame) → m.frame u ≡ o → at_halt (post_on k o) ≡ true → u ≡ w
    there None e h = cc h
    there (Some d) e h =
        let above = ok.asleep u d e (post_on-sleeps k d h) in
        elim (apart u.ctx w.ctx) [
          | inl lt ↦ absurd
              (let z = above w.ctx lt in
              let q : m.frame w ≡ None =
              ap (λ (p : ℕ). m.frame (record { cpu = p; ctx = w.ctx })) (sym cpu) ∙ z in
              grind (arith, q, live))
          | inr r ↦ elim r [
            | inl same ↦ (λ i. record { cpu = cpu i; ctx = same i })
            | inr gt ↦ absurd
                (let z = newest.above u.ctx gt in
                let q : m.frame u ≡ None =
                ap (λ (p : ℕ). m.frame (record { cpu = p; ctx = u.ctx })) cpu ∙ z in
                grind (arith, q, e))
          ]
        ]
      where
        apart : (i j : ℕ) → (i < j) ⊎ (i ≡ j) ⊎ (j < i)
        apart i j = grind arith

off_at : (c : Pc) (f : Frame) → phase_at c (is_some f.me) (node_of f.prev) (node_of f.y) ≡ Idle
    → post_at c f ≡ Off
off_at c f h = grind arith

pub idle_off : (f : Frame) → phase_of f ≡ Idle → post_of f ≡ Off
idle_off f h = go f.place h
  where
    go : (o : Option Pc) → phase_if o (is_some f.me) (node_of f.prev) (node_of f.y) ≡ Idle
        → post_if o f ≡ Off
    go None h = refl
    go (Some c) h = off_at c f h

pub acts-post : (f : Frame) (l k : LockName) → ActsOn f l → k ≢ l → post_on k (Some f) ≡ Off
acts-post f l k (inl e) ne = acts-off f l k (inl e) ne
acts-post f l k (inr e) ne = acts-off f l k (inr (idle_off f e)) ne

-- what a row does to the holds of a world, and to its words
pub record HoldsChange (m m' : World) (w : Waiter) (l : LockName) (x : Fields)
    (h h' : Bool) : Type 0 where
  pub mode : m'.mode ≡ m.mode
  pub threshold : m'.threshold ≡ m.threshold
  pub format : m'.format ≡ m.format
  pub sockets : m'.sockets ≡ m.sockets
  pub entries : (k : LockName) → k ≢ l → m'.entry k ≡ m.entry k
  pub word : m'.word l ≡ x
  pub words : (k : LockName) → k ≢ l → m'.word k ≡ m.word k
  pub holds : Moves (λ u. spins (m.held u l)) (λ u. spins (m'.held u l)) w h h'
  pub helds : (k : LockName) → k ≢ l → (u : Waiter) → spins (m'.held u k) ≡ spins (m.held u k)

-- A processor is halted by the acting frame alone, which sleeps then; and where it was asleep and
-- its processor is still halted it sleeps on.
pub record Rest (m m' : World) (w : Waiter) (f g : Frame) : Type 0 where
  pub still : at_halt (post_of f) ≡ true → m'.halted w.cpu ≡ true → at_halt (post_of g) ≡ true
  pub halted : (p : ℕ) → m'.halted p ≡ true
      → (m.halted p ≡ true) ⊎ ((p ≡ w.cpu) × (at_halt (post_of g) ≡ true))

sleeping_place : (o : Option Pc) (f : Frame) → at_halt (post_if o f) ≡ true
    → (c : Pc) × (o ≡ Some c) × (may_halt c ≡ true)
sleeping_place (Some W6) f h = (W6, refl, refl)
sleeping_place (Some E12) f h = (E12, refl, refl)
sleeping_place o f h = cc h

-- a frame that has halted its processor is one of a family that does
pub sleeper_halts : {m : World} {hs : LockName → LockHistory} → IsSoundSpinWorld m hs
    → (u : Waiter) (d : Frame) → m.frame u ≡ Some d → at_halt (post_of d) ≡ true
    → halts m.mode ≡ true
sleeper_halts ok u d live h =
    let p = sleeping_place d.place d h in (ok.registers u d live).choice.halting p.0 p.1 p.2

module _ (m m' : World) (w : Waiter) (f g : Frame)
    (moves : Moves m.frame m'.frame w (Some f) (Some g)) where
  -- one frame moves, which acts on one lock before and after
  pub world_step : {r r' : Phase} {x : Fields} {h h' : Bool} (l : LockName) → ActsOn f l
      → ActsOn g l → phase_of f ≡ r → phase_of g ≡ r' → HoldsChange m m' w l x h h'
      → (halts m.mode ≡ true → (k : LockName) (u : Waiter) → k ≢ l
      → at_halt (post_on k (m.frame u)) ≡ true → Owed (snapshot m) u.cpu
      → Owed (snapshot m') u.cpu)
      → (halts m.mode ≡ true → at_halt (post_on l (m'.frame w)) ≡ true → (k : LockName) (u : Waiter)
      → u.cpu ≡ w.cpu → at_halt (post_on k (m.frame u)) ≡ true → u ≡ w)
      → Step (snapshot m) (snapshot m') w l r r' x h h'
  world_step l from to was now holds owed lone =
      record {
        acts = record {
          was = ap (phase_on l) moves.was ∙ acts-here f l from ∙ was;
          now = ap (phase_on l) moves.now ∙ acts-here g l to ∙ now;
          others = λ u ne. ap (phase_on l) (moves.others u ne);
        };
        phases = λ k ne u. elim (waiter_cases u w) [
          | inl e ↦ subst (λ (v : Waiter). phase_on k (m'.frame v) ≡ phase_on k (m.frame v)) (sym e)
              (ap (phase_on k) moves.now ∙ acts-else g l k to ne
              ∙ sym (ap (phase_on k) moves.was ∙ acts-else f l k from ne))
          | inr n ↦ ap (phase_on k) (moves.others u n)
        ];
        idle = λ k ne. ap (phase_on k) moves.was ∙ acts-else f l k from ne;
        word = holds.word;
        words = holds.words;
        holds = holds.holds;
        helds = holds.helds;
        owns = λ u ne. ap own_in (moves.others u ne);
        mode = holds.mode;
        threshold = holds.threshold;
        local = (λ i w u. is_local (holds.format i) (holds.sockets i) w.cpu u);
        stages = λ k u ne. ap (stage_on k) (moves.others u ne);
        was_calm = λ k ne. ap (stage_on k) moves.was ∙ acts-calm f l k from ne;
        calm = λ k ne. ap (stage_on k) moves.now ∙ acts-calm g l k to ne;
        rests = λ off. ap (stage_on l) moves.now
            ∙ stage_on-rests l g (stage_calm g (λ q. off (sym now ∙ q)));
        kepts = λ u ne. ap kept_in (moves.others u ne);
        posts = λ k u ne. ap (post_on k) (moves.others u ne);
        were_off = λ k ne. ap (post_on k) moves.was ∙ acts-post f l k from ne;
        off = λ k ne. ap (post_on k) moves.now ∙ acts-post g l k to ne;
        entries = holds.entries;
        owed = owed;
        lone = lone;
      }

  -- a kick that was owed is owed still, where the frame did not owe it
  pub world_owes : ((t : NodeName) → post_of f ≢ Kicks t) → ((p : ℕ) → m'.kicked p ≡ m.kicked p)
      → (p : ℕ) → Owed (snapshot m) p → Owed (snapshot m') p
  world_owes other kicked p (inl k) = inl (kicked p ∙ k)
  world_owes other kicked p (inr o) =
      inr (
        o.0,
        o.1,
        o.2,
        elim (waiter_cases o.1 w) [
          | inl e ↦ absurd
              (other o.2 (post_on-kicks o.0 f o.2
              (sym (ap (post_on o.0) moves.was)
              ∙ ap (λ (v : Waiter). post_on o.0 (m.frame v)) (sym e) ∙ o.3)))
          | inr ne ↦ ap (post_on o.0) (moves.others o.1 ne) ∙ o.3
        ],
        o.4,
      )

  -- the frame knows of its choice what it knew
  pub world_knows : (l : LockName) → f.lock ≡ l → g.lock ≡ l → stage_of g ≡ stage_of f
      → g.second ≡ f.second → post_of g ≡ post_of f → m'.entry l ≡ m.entry l
      → ((p : ℕ) → m'.kicked p ≡ m.kicked p) → Knows (snapshot m) (snapshot m') w l
  world_knows l from to stage kept post entry kicked =
      record {
        stage = ap (stage_on l) moves.now ∙ stage_on-here l g to ∙ stage
            ∙ sym (ap (stage_on l) moves.was ∙ stage_on-here l f from);
        kept = ap kept_in moves.now ∙ kept ∙ sym (ap kept_in moves.was);
        post = ap (post_on l) moves.now ∙ post_on-here l g to ∙ post
            ∙ sym (ap (post_on l) moves.was ∙ post_on-here l f from);
        entry = entry;
        kicked = kicked;
      }

  -- the frame neither enters nor leaves the slow path
  pub world_stays : node_of g.me ≡ node_of f.me → is_slow g.place ≡ is_slow f.place
      → ((p : ℕ) → m'.queued p ≡ m.queued p) → Stays (snapshot m) (snapshot m') w
  world_stays own slow queued =
      record {
        own = ap own_in moves.now ∙ own ∙ sym (ap own_in moves.was);
        slow = λ u. elim (waiter_cases u w) [
          | inl e ↦ subst (λ (v : Waiter). slow_in (m'.frame v) ≡ slow_in (m.frame v)) (sym e)
              (ap slow_in moves.now ∙ slow ∙ sym (ap slow_in moves.was))
          | inr n ↦ ap slow_in (moves.others u n)
        ];
        queued = queued;
      }

  slow_moves : {b b' : Bool} → is_slow f.place ≡ b → is_slow g.place ≡ b'
      → Moves (snapshot m).slow (snapshot m').slow w b b'
  slow_moves was now =
      record {
        was = ap slow_in moves.was ∙ was;
        now = ap slow_in moves.now ∙ now;
        others = λ u ne. ap slow_in (moves.others u ne);
      }

  pub on_top : IsNewest m w → IsOnTop (snapshot m) w
  on_top newest = record { top = λ c lt. ap slow_in (newest.above c lt); low = newest.low }

  pub world_leaves : IsNewest m w → is_slow f.place ≡ true → is_slow g.place ≡ false
      → m'.queued w.cpu + 1 ≡ m.queued w.cpu → ((p : ℕ) → p ≢ w.cpu → m'.queued p ≡ m.queued p)
      → LeavesSlowPath (snapshot m) (snapshot m') w
  world_leaves newest was now here queued =
      record { slow = slow_moves was now; here = here; queued = queued; on_top = on_top newest }

  pub world_enters : IsNewest m w → is_slow f.place ≡ false → is_slow g.place ≡ true
      → m'.queued w.cpu ≡ m.queued w.cpu + 1 → ((p : ℕ) → p ≢ w.cpu → m'.queued p ≡ m.queued p)
      → EntersSlowPath (snapshot m) (snapshot m') w
  world_enters newest was now here queued =
      record { slow = slow_moves was now; here = here; queued = queued; on_top = on_top newest }

  -- the world is sound again, where its snapshot agrees and the moved frame's registers fit
  pub world_sound : {hs hs' : LockName → LockHistory} → IsSoundSpinWorld m hs → m'.mode ≡ m.mode
      → m'.turns ≡ m.turns → (at_halt (post_of g) ≡ true → IsNewest m w) → Rest m m' w f g
      → IsPlain m' → RegistersFit m.mode g → SnapshotAgrees (snapshot m') hs'
      → IsSoundSpinWorld m' hs'
  world_sound ok mode turns newest rest plain fit agrees =
      record {
        plain = plain;
        turning = subst (λ (n : ℕ). 0 < n) (sym turns) ok.turning;
        agrees = agrees;
        registers =
            λ u d e. subst (λ (o : Mode). RegistersFit o d) (sym mode) (elim (waiter_cases u w) [
              | inl q ↦ fits d (sym moves.now ∙ ap m'.frame (sym q) ∙ e)
              | inr ne ↦ ok.registers u d (sym (moves.others u ne) ∙ e)
            ]);
        asleep = λ u d e sleeps_on c lt. elim (waiter_cases u w) [
          | inl q ↦
              let same : g ≡ d =
              let z = sym moves.now ∙ ap m'.frame (sym q) ∙ e in grind (arith, z) in
              none_above (record { cpu = u.cpu; ctx = c })
              (λ z. let k = ap (λ (v : Waiter). v.ctx) z in
              omega (arith, k, lt, ap (λ (v : Waiter). v.ctx) q))
              (ap (λ (p : ℕ). m.frame (record { cpu = p; ctx = c })) (ap (λ (v : Waiter). v.cpu) q)
              ∙ (newest (ap (λ (b : Frame). at_halt (post_of b)) same ∙ sleeps_on)).above c
              (subst (λ (v : Waiter). v.ctx < c) q lt))
          | inr ne ↦
              let was = ok.asleep u d (sym (moves.others u ne) ∙ e) sleeps_on c lt in
              none_above (record { cpu = u.cpu; ctx = c })
              (λ z. let k : m.frame w ≡ None = sym (ap m.frame z) ∙ was in
              grind (arith, k, moves.was)) was
        ];
        resting = λ p h. elim (rest.halted p h) [
          | inl old ↦
              let s = ok.resting p old in
              elim (waiter_cases s.0 w) [
                | inl q ↦
                    let same : f ≡ s.1 =
                    let z = sym moves.was ∙ ap m.frame (sym q) ∙ s.3 in grind (arith, z) in
                    let cpu : w.cpu ≡ p = ap (λ (v : Waiter). v.cpu) (sym q) ∙ s.2 in (
                      w,
                      g,
                      cpu,
                      moves.now,
                      rest.still (ap (λ (b : Frame). at_halt (post_of b)) same ∙ s.4)
                          (ap m'.halted cpu ∙ h),
                    )
                | inr ne ↦ (s.0, s.1, s.2, moves.others s.0 ne ∙ s.3, s.4)
              ]
          | inr new ↦ (w, g, sym new.0, moves.now, new.1)
        ];
      }
    where
      none_above : (v : Waiter) → v ≢ w → m.frame v ≡ None → m'.frame v ≡ None
      none_above v ne e = moves.others v ne ∙ e

      fits : (d : Frame) → Some g ≡ Some d → RegistersFit m.mode d
      fits d e = let same : g ≡ d = grind arith in subst (RegistersFit m.mode) same fit
