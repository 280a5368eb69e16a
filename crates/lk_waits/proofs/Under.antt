-- Where all newest frames poll: who holds a lock, or is at work on it, has on its processor a newest frame
-- that polls at a higher level, or holds outside.
use Rattle.std.proofs.Common.{◌≡◌, ◌≢◌, ◌⊎◌, inl, inr, ℕ, ◌<◌, ◌≤◌, Option, Some, None, Bool, true}
use Rattle.std.proofs.Common.{false, refl, sym, ap, ◌∙◌, subst, arith, List, [], ◌∷◌, length}
use Rattle.std.proofs.Common.{slice_get}
use Rattle.lk_waits.proofs.Names.{cases_Bool, cases_lt, LockHistory, Rw, LockName, Waiter, rw_name}
use Rattle.lk_waits.proofs.Names.{Frame, Pc, R2, R5, is_rw_row, Idle, snapshot, biased, Snapshot}
use Rattle.lk_waits.proofs.Names.{spins, IsSoundWorld, HasNoneAbove, World, HoldsOutside, IsRanked}
use Rattle.lk_waits.proofs.Names.{IsTidy, IsTop, lock_at, polls}
use Rattle.lk_names.specs.declared.holder.Manner.{Manner}
use Rattle.lk_names.specs.declared.holder.Manner.TheVariants.{Reads, Writes}
use Rattle.lk_law.specs.{RwAgree.RwAgrees, RwPhase.{RwPhase, reads, is_counted}}
use Rattle.lk_law.specs.SoundWorld.{rw_phases}
use Rattle.lk_waits.proofs.Polling.{plain_lock, biased_polls, reads_is}
use Rattle.lk_waits.proofs.Tops.{newest_of, any_newest, IsAt, busy_at, busy_lock, biased_at}

-- somebody polls at a lock of a higher level
pub record Higher (level : LockName → ℕ) (m : World) (n : ℕ) : Type 0 where
  pub by : Waiter
  pub frame : Frame
  pub place : Pc
  pub top : IsTop m by frame place
  pub waits : polls place ≡ true
  pub more : n < level (lock_at place frame)

-- or a lock is held outside
abbrev pub Next : (LockName → ℕ) → World → ℕ → Type 0
Next level m n = Higher level m n ⊎ HoldsOutside m

module _ (level : LockName → ℕ) (bound : ℕ) (m : World) (hs : LockName → LockHistory)
    (ok : IsSoundWorld m hs) (tidy : IsTidy m) (ranked : IsRanked level bound m)
    (top_polls : (u : Waiter) (g : Frame) (d : Pc) → IsTop m u g d → polls d ≡ true)
    (meets_writer : (u : Waiter) (g : Frame) (d : Pc) → IsTop m u g d → (d ≡ R2) ⊎ (d ≡ R5)
    → (m.rw g.lock.index).writer ≡ true) where
  abbrev s : Snapshot
  s = snapshot m

  -- who holds a lock has, on its processor, a newest frame that polls at a higher level; or that is a
  -- reader in an interrupt, which stands at the same lock
  over_or : (u : Waiter) (l : LockName) (way : Manner) → m.held u l ≡ Some way
      → ((t : Waiter) (g : Frame) → IsTop m t g R2 → way ≡ Reads → l ≡ rw_name g.lock.index → Next level m (level l))
      → Next level m (level l)
  over_or u l way has same = with_frame (any_newest m u (tidy.shallow u.cpu))
    where
      at : (t : Waiter) (g : Frame) → t.cpu ≡ u.cpu → m.frame t ≡ Some g → HasNoneAbove m t → (c : Pc) → g.place ≡ Some c
          → Next level m (level l)
      at t g cpu live above c place =
          let top : IsTop m t g c = record { live = live; above = above; place = place } in
          let poll = top_polls t g c top in
          elim (ranked.holds t u g c l way top poll (sym cpu) has) [
            | inl more ↦
                inl (record { by = t; frame = g; place = c; top = top; waits = poll; more = more })
            | inr z ↦ same t g (subst (IsTop m t g) z.0 top) z.1
                (z.2 ∙ ap (λ (d : Pc). lock_at d g) z.0)
          ]

      -- the newest frame of the processor has ended: it is the task's, which holds, or there is none
      placed : (t : Waiter) (g : Frame) → t.cpu ≡ u.cpu → m.frame t ≡ Some g → HasNoneAbove m t → (o : Option Pc) → g.place ≡ o
          → Next level m (level l)
      placed t g cpu live above (Some c) e = at t g cpu live above c e
      placed t g cpu live above None e =
          elim (cases_lt 0 t.ctx) [
            | inl lt ↦ let p = tidy.handlers t g live lt in at t g cpu live above p.0 p.1
            | inr ge ↦ elim (cases_lt t.ctx u.ctx) [
              | inl up ↦ inr (record {
                by = u;
                lock = l;
                way = way;
                holds = has;
                out = λ f lf. absurd (let z = absent up in (let y : None ≡ Some f = sym z ∙ lf in cc y));
                newest = λ c lt. ap (λ (p : ℕ). m.frame (record { cpu = p; ctx = c })) (sym cpu) ∙ above c (omega (arith, up, lt));
              })
              | inr le ↦
                  let i : t ≡ u = (let x : t.ctx ≡ u.ctx = omega (arith, ge, le) in λ i. record { cpu = cpu i; ctx = x i }) in
                  inr (record {
                    by = u;
                    lock = l;
                    way = way;
                    holds = has;
                    out = λ f lf. (let z : Some g ≡ Some f = sym live ∙ ap m.frame i ∙ lf in
                        let y : g ≡ f = cc z in ap (λ (h : Frame). h.place) (sym y) ∙ e);
                    newest = subst (HasNoneAbove m) i above;
                  })
            ]
          ]
        where
          absent : t.ctx < u.ctx → m.frame u ≡ None
          absent lt = ap (λ (p : ℕ). m.frame (record { cpu = p; ctx = u.ctx })) (sym cpu) ∙ above u.ctx lt

      with_frame : ((c : ℕ) → m.frame (record { cpu = u.cpu; ctx = c }) ≡ None)
          ⊎ ((t : Waiter) × (d : Frame) × (t.cpu ≡ u.cpu) × (m.frame t ≡ Some d) × HasNoneAbove m t)
          → Next level m (level l)
      with_frame (inl none) = inr (record {
        by = u;
        lock = l;
        way = way;
        holds = has;
        out = λ f lf. absurd (let z = none u.ctx in (let y : None ≡ Some f = sym z ∙ lf in cc y));
        newest = λ c lt. none c;
      })
      with_frame (inr t) = placed t.0 t.1 t.2 t.3 t.4 t.1.place refl

  -- a writer
  pub written : (i : ℕ) → m.kind i ≡ Rw → (m.rw i).writer ≡ true → Next level m (level (rw_name i))
  written i is h =
      let u = (ok.rws i is).holds.written h in
      over_or u.0 (rw_name i) Writes u.1 (λ t g top way. absurd (let z : Writes ≡ Reads = way in cc z))

  -- a reader in an interrupt that stands still meets a writer
  pub reader : (t : Waiter) (g : Frame) → IsTop m t g R2 → Next level m (level (rw_name g.lock.index))
  reader t g top =
      written g.lock.index ((ok.fits t g top.live).rw R2 top.place refl) (meets_writer t g R2 top (inl refl))

  pub over : (u : Waiter) (l : LockName) (way : Manner) → m.held u l ≡ Some way → Next level m (level l)
  over u l way has =
      over_or u l way has (λ t g top r same. subst (λ (k : LockName). Next level m (level k)) (sym same) (reader t g top))

  -- who is at work on a lock is the newest of its processor, or the newest polls at a higher level
  pub under : (u : Waiter) (g : Frame) (d : Pc) (l : LockName) → m.frame u ≡ Some g → g.place ≡ Some d
      → lock_at d g ≡ l → (IsTop m u g d → Next level m (level l)) → Next level m (level l)
  under u g d l live place lock first =
      let t = newest_of m u (tidy.shallow u.cpu) g live in
      elim t.is [
        | inl same ↦ first (record { live = live; above = subst (HasNoneAbove m) same t.above; place = place })
        | inr lt ↦
            let p = tidy.handlers t.by t.frame t.live (omega (arith, lt)) in
            let top : IsTop m t.by t.frame p.0 = record { live = t.live; above = t.above; place = p.1 } in
            let poll = top_polls t.by t.frame p.0 top in
            let ne : u ≢ t.by = (λ e. let z = ap (λ (v : Waiter). v.ctx) e in omega (arith, z, lt)) in
            elim (ranked.works t.by u t.frame g p.0 d top poll (sym t.cpu) ne live place) [
              | inl more ↦ inl (record {
                by = t.by;
                frame = t.frame;
                place = p.0;
                top = top;
                waits = poll;
                more = subst (λ (k : LockName). level k < level (lock_at p.0 t.frame)) lock more;
              })
              | inr z ↦
                  let same : level (lock_at p.0 t.frame) ≡ level (rw_name t.frame.lock.index) =
                  ap (λ (c : Pc). level (lock_at c t.frame)) z.0 in
                  let le : level l ≤ level (lock_at p.0 t.frame) =
                  subst (λ (k : LockName). level k ≤ level (lock_at p.0 t.frame)) lock z.1 in
                  elim (reader t.by t.frame (subst (IsTop m t.by t.frame) z.0 top)) [
                    | inr out ↦ inr out
                    | inl r ↦
                        let more = r.more in
                        inl (record {
                          by = r.by;
                          frame = r.frame;
                          place = r.place;
                          top = r.top;
                          waits = r.waits;
                          more = omega (arith, more, same, le);
                        })
                  ]
            ]
      ]

  -- the same by its phase
  pub under_phase : (u : Waiter) (l : LockName) → s.phase l u ≢ Idle
      → ((a : IsAt m l u) → IsTop m u a.frame a.place → Next level m (level l)) → Next level m (level l)
  under_phase u l busy first =
      let a = busy_at m l u busy in
      under u a.frame a.place l a.live a.at (busy_lock m l u busy a) (first a)

  -- reader-writer locks
  module _ (i : ℕ) (is : m.kind i ≡ Rw) where
    rws : RwAgrees (m.rw i) (rw_phases m i) (λ u. m.held u (rw_name i)) (λ u. spins (m.held u (Rattle.lk_rows.specs.Moves.wait_name i))) (hs (rw_name i))
    rws = ok.rws i is

    counted : (r : RwPhase) (h : Option Manner) → is_counted r h ≡ true → (biased r ≡ true) ⊎ (reads h ≡ true)
    counted r h e = grind (arith, e, cases_Bool (biased r))

    some_of : (us : List Waiter) → 0 < length us → (u : Waiter) × (slice_get us 0 ≡ Some u)
    some_of [] h = absurd (omega (arith, h))
    some_of (u ∷ us) h = (u, refl)

    pub read : 0 < (m.rw i).readers → Next level m (level (rw_name i))
    read h =
        let number = rws.readers.number in
        let u = some_of rws.counted (omega (arith, h, number)) in
        elim (counted (rw_phases m i u.0) (m.held u.0 (rw_name i)) (rws.readers.each.inside 0 u.0 u.1)) [
          | inl b ↦
              let a = biased_at m i u.0 b in
              under u.0 a.frame a.place (rw_name i) a.live a.at a.lock
              (λ t. elim (biased_polls a.place a.row (top_polls u.0 a.frame a.place t)) [
                | inl e ↦
                    let top : IsTop m u.0 a.frame R2 = subst (IsTop m u.0 a.frame) e t in
                    written i is (subst (λ (k : ℕ). (m.rw k).writer ≡ true) (index a.place a.frame a.lock)
                    (meets_writer u.0 a.frame R2 top (inl refl)))
                | inr e ↦
                    let top : IsTop m u.0 a.frame R5 = subst (IsTop m u.0 a.frame) e t in
                    written i is (subst (λ (k : ℕ). (m.rw k).writer ≡ true) (index a.place a.frame a.lock)
                    (meets_writer u.0 a.frame R5 top (inr refl)))
              ])
          | inr r ↦ over u.0 (rw_name i) Reads (reads_is (m.held u.0 (rw_name i)) r)
        ]
      where
        index : (d : Pc) (g : Frame) → lock_at d g ≡ rw_name i → g.lock.index ≡ i
        index d g e = by (is_rw_row d) refl
          where
            by : (b : Bool) → is_rw_row d ≡ b → g.lock.index ≡ i
            by true h = let z : rw_name g.lock.index ≡ rw_name i = sym (rw h refl) ∙ e in ap (λ (k : LockName). k.index) z
            by false h = let z : g.lock ≡ rw_name i = sym (plain_lock d g h) ∙ e in ap (λ (k : LockName). k.index) z
