-- The world of a domain whose calls are in order is ranked, where no processor is in a critical section.
use Rattle.std.proofs.Common.{◌≡◌, ◌≢◌, inl, inr, ℕ, suc, ◌+◌, ◌*◌, ◌<◌, ◌≤◌, List, [], ◌∷◌, Option, Some, None, Bool}
use Rattle.std.proofs.Common.{true, false, eqb, refl, sym, ap, ◌∙◌, subst, arith, lt-ltb, le-ltb}
use Rattle.std.proofs.lemmas.Bool.{cases_Bool, cases_lt, eqb-true}
use Rattle.std.specs.Prelude.{if◌then◌else◌, ◌&&◌, not, nat_lt, is_some}
use Rattle.atomic_table.specs.Table.{State}
use Rattle.lk_names.specs.declared.holder.Manner.{Manner}
use Rattle.lk_names.specs.declared.holder.Manner.TheVariants.{Spins}
use Rattle.lk_names.specs.declared.names.Kind.{Kind}
use Rattle.lk_names.specs.declared.names.Kind.TheVariants.{Spin, Rw}
use Rattle.lk_names.specs.declared.names.Waiter.{Waiter}
use Rattle.lk_names.specs.declared.names.LockName.{LockName}
use Rattle.lk_word.specs.declared.spin_word.NodeName.{NodeName}
use Rattle.lk_rows.specs.declared.parts.Frame.{Frame}
use Rattle.lk_rows.specs.declared.parts.Pc.{Pc}
use Rattle.lk_rows.specs.Moves.{node_of}
use Rattle.lk_law.specs.Families.{is_rw_row}
use Rattle.lk_law.specs.Phase.{seeks}
use Rattle.lk_law.specs.Places.{phase_at, phase_if, phase_on}
use Rattle.lk_law.specs.RwPhase.{is_inner}
use Rattle.lk_law.specs.SoundWorld.{is_rw, is_rw_name, rw_phases, rw_phase_on, rw_phase_of}
use Rattle.lk_law.specs.Snapshot.{spins}
use Rattle.lk_law.specs.World.{World}
use Rattle.lk_law.proofs.common.Cases.{waiter_cases}
use Rattle.lk_law.proofs.common.Puts.{if-true, if-false}
use Rattle.lk_law.proofs.common.Worlds.{phase_on-here}
use Rattle.lk_waits.specs.Order.{IsRanked, level_of}
use Rattle.lk_waits.specs.Waits.{polls, lock_at, IsTop}
use Rattle.lk_domain.specs.Calls.{Running, frame_in, held_in, lock_name}
use Rattle.lk_domain.specs.Runs.{Runs, SeatFits, waiter}
use Rattle.lk_domain.specs.Views.{total}
use Rattle.lk_domain.specs.declared.plan.Plan.{Plan}
use Rattle.lk_domain.specs.declared.view.View.{View}
use Rattle.lk_domain.proofs.Manners.{held_spun}
use Rattle.lk_domain.proofs.seats.Owners.{Framed, framed}
use Rattle.lk_domain.proofs.seats.Totals.{term_le}
use Rattle.lk_domain_law.specs.InOrder.{AreCallsBelow, AreHoldsBelow, AreInOrder, may_wait_at}
use Rattle.lk_domain_law.proofs.Newest.{none_some, some_is, fits}

-- who polls waits
polls_wait : (c : Pc) (f : Frame) → polls c ≡ true → may_wait_at f (Some c) ≡ true
polls_wait c f h = grind (arith, h)

-- and at a row of a spinlock or a wait lock its phase says so
polls_seeks : (c : Pc) (b : Bool) (x y : NodeName) → polls c ≡ true → is_rw_row c ≡ false → seeks (phase_at c b x y) ≡ true
polls_seeks c b x y h r = grind (arith, h, r, cases_Bool b)

-- the kind is that of a spinlock, or of a reader-writer lock
kind_is : (a : Kind) → is_rw a ≡ true → a ≡ Rw
kind_is Rw h = refl
kind_is Spin h = cc h

-- the sum of the ranks of all calls, which bounds each
abbrev ranks_of : (ℕ → ℕ) → List Running → ℕ
ranks_of rank rs = total (λ (r : Running). rank r.frame.lock.index) rs

rank_le : (rank : ℕ → ℕ) (rs : List Running) (d : ℕ) (f : Frame) → frame_in rs d ≡ Some f → rank f.lock.index ≤ ranks_of rank rs
rank_le rank [] d f is = absurd (none_some is)
rank_le rank (x ∷ rs) d f is = elim (cases_Bool (eqb d x.frame.ctx)) [
  | inl e ↦
      let q : x.frame ≡ f = some_is (sym (if-true (eqb d x.frame.ctx) (Some x.frame) (frame_in rs d) e) ∙ is) in
      let z : rank x.frame.lock.index ≡ rank f.lock.index = ap (λ (y : Frame). rank y.lock.index) q in
      omega (arith, z)
  | inr e ↦
      let z = rank_le rank rs d f (sym (if-false (eqb d x.frame.ctx) (Some x.frame) (frame_in rs d) e) ∙ is) in
      omega (arith, z)
]

-- no context above the newest call of its processor holds a lock
abbrev pub IsCalm : World → Type 0
IsCalm m = (w u : Waiter) (f : Frame) (c : Pc) (l : LockName) (way : Manner) → IsTop m w f c → u.cpu ≡ w.cpu
    → m.held u l ≡ Some way → u.ctx ≤ w.ctx

module _ (rank : ℕ → ℕ) (k : Plan) {S : Type 0} (s : State S View) (st : Runs k s) (order : AreInOrder rank s) where
  -- a bound of the ranks of the locks of all calls; and the ranks below it
  abbrev bound : ℕ
  bound = total (λ (v : View). ranks_of rank v.calls.frames) s.views + 1

  abbrev low_rank : ℕ → ℕ
  low_rank l = if nat_lt (rank l) bound then rank l else 0

  low_is : (l : ℕ) → rank l < bound → low_rank l ≡ rank l
  low_is l lt = ap (λ (b : Bool). if b then rank l else 0) (lt-ltb (rank l) bound lt)

  low_below : (l : ℕ) → low_rank l < bound
  low_below l = elim (cases_lt (rank l) bound) [
    | inl lt ↦ let z = low_is l lt in omega (arith, z, lt)
    | inr ge ↦
        let z : low_rank l ≡ 0 = ap (λ (b : Bool). if b then rank l else 0) (le-ltb (rank l) bound ge) in
        omega (arith, z)
  ]

  -- The level of a lock is by its rank; that of a wait lock which no reader-writer lock has, and for which
  -- nobody waits, is below all.
  abbrev pub level : LockName → ℕ
  level l = if l.wait && not (is_rw (st.world.kind l.index)) then 0 else suc (level_of low_rank l)

  abbrev pub top_level : ℕ
  top_level = bound * 2 + 1

  pub level_below : (l : LockName) → level l < top_level
  level_below l = by (l.wait && not (is_rw (st.world.kind l.index))) l.wait
    where
      by : (a b : Bool) → (if a then 0 else suc (low_rank l.index * 2 + (if b then 0 else 1))) < top_level
      by true b = omega arith
      by false true = let z = low_below l.index in omega (arith, z)
      by false false = let z = low_below l.index in omega (arith, z)

  level_low : (l : LockName) → level l ≤ low_rank l.index * 2 + 2
  level_low l = by (l.wait && not (is_rw (st.world.kind l.index))) l.wait
    where
      by : (a b : Bool) → (if a then 0 else suc (low_rank l.index * 2 + (if b then 0 else 1))) ≤ low_rank l.index * 2 + 2
      by true b = omega arith
      by false true = omega arith
      by false false = omega arith

  lock_index : (d : Pc) (g : Frame) → (lock_at d g).index ≡ g.lock.index
  lock_index d g = by (is_rw_row d) refl
    where
      by : (b : Bool) → is_rw_row d ≡ b → (lock_at d g).index ≡ g.lock.index
      by true e = rw e refl
      by false e = rw e refl

  module _ (w : Waiter) (f : Frame) (c : Pc) (top : IsTop st.world w f c) (poll : polls c ≡ true) where
    t : Framed s.views w f
    t = framed k s st w f top.live

    fit : SeatFits st.world w.cpu t.seat.view_is.calls
    fit = fits k s st w.cpu t.seat

    below : AreCallsBelow rank f.lock.index w.ctx t.seat.view_is.calls.frames
        × AreHoldsBelow rank f.lock.index w.ctx t.seat.view_is.calls.holds
    below =
        order t.seat.id t.seat.view_is t.seat.at w.ctx f t.is (ap (may_wait_at f) top.place ∙ polls_wait c f poll)

    bounded : rank f.lock.index < bound
    bounded =
        let z = term_le (λ (v : View). ranks_of rank v.calls.frames) s.views t.seat.id t.seat.view_is t.seat.at in
        let y = rank_le rank t.seat.view_is.calls.frames w.ctx f t.is in
        omega (arith, z, y)

    -- the lock for which it polls, if it is a wait lock, is one of a reader-writer lock
    own_kind : f.lock.wait ≡ true → is_rw (st.world.kind f.lock.index) ≡ true
    own_kind on = ap is_rw ((st.sound.fits w f top.live).waits on)

    level_high : low_rank f.lock.index * 2 + 1 ≤ level (lock_at c f)
    level_high = by (is_rw_row c) refl f.lock.wait refl
      where
        by : (b : Bool) → is_rw_row c ≡ b → (d : Bool) → f.lock.wait ≡ d → low_rank f.lock.index * 2 + 1 ≤ level (lock_at c f)
        by true e d q = rw e (omega arith)
        by false e true q =
            let at : level (lock_at c f) ≡ level f.lock = rw e refl in
            let is : level f.lock ≡ suc (low_rank f.lock.index * 2 + 0) = rw (q, own_kind q) refl in
            omega (arith, at, is)
        by false e false q =
            let at : level (lock_at c f) ≡ level f.lock = rw e refl in
            let is : level f.lock ≡ suc (low_rank f.lock.index * 2 + 1) = rw q refl in
            omega (arith, at, is)

    -- a lower rank is a lower level
    lower : (l : LockName) → rank l.index < rank f.lock.index → level l < level (lock_at c f)
    lower l lt =
        let a = level_low l in
        let b = level_high in
        let x = low_is f.lock.index bounded in
        let y = low_is l.index (let z = bounded in omega (arith, z, lt)) in
        omega (arith, a, b, x, y, lt)

    mirrored : (u : Waiter) (g : Frame) → u.cpu ≡ w.cpu → st.world.frame u ≡ Some g
        → frame_in t.seat.view_is.calls.frames u.ctx ≡ Some g
    mirrored u g cpu live =
        sym (fit.mirrors.frames u.ctx) ∙ subst (λ (p : ℕ). st.world.frame (waiter p u.ctx) ≡ Some g) cpu live

    -- the frame of another context of the processor ranks below
    frame_below : (u : Waiter) (g : Frame) → u.cpu ≡ w.cpu → u ≢ w → st.world.frame u ≡ Some g
        → rank g.lock.index < rank f.lock.index
    frame_below u g cpu ne live = below.0 u.ctx g inside (mirrored u g cpu live)
      where
        same_waiter : u.ctx ≡ w.ctx → u ≡ w
        same_waiter e = λ j. record { cpu = cpu j; ctx = e j }

        inside : u.ctx < w.ctx
        inside = elim (cases_lt u.ctx w.ctx) [
          | inl lt ↦ lt
          | inr ge ↦ elim (cases_lt w.ctx u.ctx) [
            | inl lt ↦
                absurd (none_some (sym (top.above u.ctx lt)
                ∙ subst (λ (p : ℕ). st.world.frame (waiter p u.ctx) ≡ Some g) cpu live))
            | inr le ↦ absurd (ne (same_waiter (omega (arith, ge, le))))
          ]
        ]

    -- what its context or one below holds is of a lower level
    module _ (u : Waiter) (l : LockName) (way : Manner) (cpu : u.cpu ≡ w.cpu) (low : u.ctx ≤ w.ctx)
        (has : st.world.held u l ≡ Some way) where
      held_here : held_in t.seat.view_is.calls.holds u.ctx l ≡ Some way
      held_here = sym (fit.mirrors.holds u.ctx l) ∙ subst (λ (p : ℕ). st.world.held (waiter p u.ctx) l ≡ Some way) cpu has

      plain : l.wait ≡ false → level l < level (lock_at c f)
      plain off =
          let name : l ≡ lock_name l.index = (λ j. record { index = l.index; wait = off j }) in
          lower l (below.1 u.ctx l.index way low
          (subst (λ (j : LockName). held_in t.seat.view_is.calls.holds u.ctx j ≡ Some way) name held_here))

      -- the wait lock of a reader-writer lock is held inside a call for that lock
      module _ (on : l.wait ≡ true) (kind : st.world.kind l.index ≡ Rw) where
        spun : st.world.held u l ≡ Some Spins
        spun =
            subst (λ (p : ℕ). st.world.held (waiter p u.ctx) l ≡ Some Spins) (sym cpu)
            (fit.mirrors.holds u.ctx l ∙ held_spun st.world.kind t.seat.view_is.calls.holds u.ctx l way fit.held off held_here)
          where
            off : is_rw_name st.world.kind l ≡ false
            off = ap (λ (b : Bool). not b && is_rw (st.world.kind l.index)) on

        record Inner : Type 0 where
          frame : Frame
          live : st.world.frame u ≡ Some frame
          same : frame.lock.index ≡ l.index

        inner : Inner
        inner = by (st.world.frame u) refl
            (sym ((st.sound.rws l.index kind).waiting.inner u) ∙ (ap spins at))
          where
            at : st.world.held u (record { index = l.index; wait = true }) ≡ Some Spins
            at = subst (λ (j : LockName). st.world.held u j ≡ Some Spins) (λ j. record { index = l.index; wait = on j }) spun

            by : (o : Option Frame) → st.world.frame u ≡ o → is_inner (rw_phases st.world l.index u) ≡ true → Inner
            by None e h = let z = ap (rw_phase_on l.index) e in let y = ap is_inner z in cc (y, h)
            by (Some g) e h =
                let z : is_inner (rw_phase_on l.index (Some g)) ≡ true =
                sym (ap (λ (o : Option Frame). is_inner (rw_phase_on l.index o)) e) ∙ h in
                on_lock (eqb g.lock.index l.index) refl z
              where
                on_lock : (b : Bool) → eqb g.lock.index l.index ≡ b
                    → is_inner (if b then rw_phase_of g else Rattle.lk_law.specs.RwPhase.RwPhase.Away) ≡ true → Inner
                on_lock true q z = record { frame = g; live = e; same = eqb-true g.lock.index l.index q }
                on_lock false q z = cc z

        -- by its own call it is held at the rows of the lock alone
        own : u ≡ w → l.index ≡ f.lock.index → level l < level (lock_at c f)
        own same index = by (is_rw_row c) refl f.lock.wait refl
          where
            r : low_rank l.index ≡ low_rank f.lock.index
            r = ap low_rank index

            is : level l ≡ suc (low_rank l.index * 2 + 0)
            is = rw (on, kind) refl

            at_wait : is_rw_row c ≡ false → f.lock.wait ≡ true → ⊥
            at_wait row wait =
                let name : l ≡ f.lock = (λ j. record { index = index j; wait = (on ∙ sym wait) j }) in
                let o = (st.sound.spins.agrees.locks l).hold in
                let shows : phase_on l (st.world.frame w) ≡ phase_at c (is_some f.me) (node_of f.prev) (node_of f.y) =
                ap (phase_on l) top.live ∙ phase_on-here l f (sym name)
                ∙ ap (λ (d : Option Pc). phase_if d (is_some f.me) (node_of f.prev) (node_of f.y)) top.place in
                let free = o.without w (ap seeks shows ∙ polls_seeks c (is_some f.me) (node_of f.prev) (node_of f.y) poll row) in
                let spun' : st.world.held w l ≡ Some Spins = ap (λ (x : Waiter). st.world.held x l) (sym same) ∙ spun in
                grind (arith, free, spun')

            by : (b : Bool) → is_rw_row c ≡ b → (d : Bool) → f.lock.wait ≡ d → level l < level (lock_at c f)
            by true e d q =
                let high : level (lock_at c f) ≡ suc (low_rank f.lock.index * 2 + 1) = rw e refl in
                omega (arith, is, high, r)
            by false e false q =
                let at : level (lock_at c f) ≡ level f.lock = rw e refl in
                let high : level f.lock ≡ suc (low_rank f.lock.index * 2 + 1) = rw q refl in
                omega (arith, is, at, high, r)
            by false e true q = absurd (at_wait e q)

        waited : level l < level (lock_at c f)
        waited = elim (waiter_cases u w) [
          | inl same ↦
              let g : inner.frame ≡ f = some_is (sym inner.live ∙ (ap (λ (x : Waiter). st.world.frame x) same ∙ top.live)) in
              own same (sym inner.same ∙ ap (λ (y : Frame). y.lock.index) g)
          | inr ne ↦
              lower l (subst (λ (n : ℕ). rank n < rank f.lock.index) inner.same (frame_below u inner.frame cpu ne inner.live))
        ]

      pub holds_lower : level l < level (lock_at c f)
      holds_lower = by l.wait refl (is_rw (st.world.kind l.index)) refl
        where
          by : (a : Bool) → l.wait ≡ a → (b : Bool) → is_rw (st.world.kind l.index) ≡ b → level l < level (lock_at c f)
          by false e b q = plain e
          by true e true q = waited e (kind_is (st.world.kind l.index) q)
          by true e false q =
              let z : level l ≡ 0 = rw (e, q) refl in
              let y = level_high in
              omega (arith, z, y)

    pub works_lower : (u : Waiter) (g : Frame) (d : Pc) → u.cpu ≡ w.cpu → u ≢ w → st.world.frame u ≡ Some g
        → level (lock_at d g) < level (lock_at c f)
    works_lower u g d cpu ne live =
        lower (lock_at d g)
        (subst (λ (n : ℕ). rank n < rank f.lock.index) (sym (lock_index d g)) (frame_below u g cpu ne live))

  pub ranked : IsCalm st.world → IsRanked level top_level st.world
  ranked calm =
      record {
        below = level_below;
        holds = λ w u f c l way top poll cpu has. inl (holds_lower w f c top poll u l way cpu (calm w u f c l way top cpu has) has);
        works = λ w u f g c d top poll cpu ne live place. inl (works_lower w f c top poll u g d cpu ne live);
      }
