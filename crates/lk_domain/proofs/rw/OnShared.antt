-- The steps on the word of a reader-writer lock.
use Rattle.std.proofs.Common.{◌≡◌, ◌⊎◌, inl, inr, ℕ, ◌<◌, ◌≤◌, List, length, set, get_or, Option}
use Rattle.std.proofs.Common.{Some, None, true, false, refl, sym, ap, ◌∙◌, subst, arith, eqb}
use Rattle.std.proofs.Common.{eq-eqb, if◌then◌else◌}
use Rattle.std.proofs.lemmas.Bool.{cases_lt}
use Rattle.std.specs.Prelude.{unwrap_or}
use Rattle.lk_domain.proofs.Names.{cases_eq, State, get_elem?, some, IsPackableRw, RwFields, Reads}
use Rattle.lk_domain.proofs.Names.{Kind, Rw, LockName, Mode, Waiter, rw_name, wait_name, Target}
use Rattle.lk_domain.proofs.Names.{target, Frame, Pc, C1, C2, Z1, Verb, rw_row, if-true, is_rw_row}
use Rattle.lk_domain.proofs.Names.{Shared, enters, met_in, stored_in, looks_along, RwKnown, is_rw}
use Rattle.lk_domain.proofs.Names.{World, Begins, Calls, StandsOn, acting, held_in, lock_name}
use Rattle.lk_domain.proofs.Names.{row_of, terms_of, sole_count, cpus_of, kind_at, layout_in}
use Rattle.lk_domain.proofs.Names.{locks_of, Runs, waiter, OfLock, lock_at, number_of, Plan, View}
use mathlib.Core.Option.{Option as Maybe}
use Rattle.lk_word.specs.{RwWord.packed_rw, SpinWord.packed}
use Rattle.lk_law.proofs.{rw.Few.each_few, rw.Knows.rw_row_knows, rw.Phases.rw_here}
use Rattle.lk_law.specs.{RwPhase.{is_counted, is_inner}, RwPhase.RwPhase.Unreads, Snapshot.spins}
use Rattle.lk_law.specs.SoundWorld.{rw_phases, rw_helds, rw_phase_on, rw_phase_if, rw_phase_at}
use Rattle.lk_law.specs.Steps.{stores_rw}
use Rattle.lk_domain.proofs.{Manners.{held_above, held_cases}, Stacks.frame_in-above}
use Rattle.lk_domain.proofs.{journals.Held.reads_sole, rows.Changes.IsAt}
use Rattle.lk_domain.proofs.{rows.Grips.{rw_target, shared_bare}, rows.Poised.Poised}
use Rattle.lk_domain.proofs.{rows.Sights.{IsUnseen, IsSeen, Sees}, rows.Writes.row_step}
use Rattle.lk_domain.proofs.seats.Totals.{drawn, nobodys}
use Rattle.lk_domain.specs.Runs.{IsIdle}
use Rattle.lk_domain.proofs.rows.Lands as lands

stored_here : (m : World) (l : ℕ) (o : Option RwFields) → (stores_rw m l o).rw l ≡ unwrap_or o (m.rw l)
stored_here m l None = refl
stored_here m l (Some y) = if-true (eqb l l) y (m.rw l) (eq-eqb l l refl)

-- the number of a reader-writer lock
shared_number : (k : Plan) (m : World) (pairs : ℕ → ℕ) (l : ℕ) → kind_at k l ≡ Rw
    → number_of k m pairs (OfLock (rw_name l)) ≡ packed_rw (m.rw l)
shared_number k m pairs l is =
    ap (λ (z : Kind). if is_rw z then packed_rw (m.rw l) else packed (layout_in k) (m.word (rw_name l))) is

pub off_links : (c : Pc) → is_rw_row c ≡ true → looks_along c ≡ true → ⊥
off_links C1 on h = cc on
off_links C2 on h = cc on
off_links _ on h = cc h

-- a row of a reader or a writer is no look along links
pub rw_sees : (c : Pc) → is_rw_row c ≡ true → (r : Option ℕ) → Sees c r
rw_sees C1 h r = cc h
rw_sees _ h r = tt

-- who has no frame and no lock is not counted
idle_uncounted : (m : World) (l : ℕ) (u : Waiter) → IsIdle m u
    → is_counted (rw_phases m l u) (rw_helds m l u) ≡ false
idle_uncounted m l u idle =
    (λ i. is_counted (rw_phase_on l (idle.0 i)) (idle.1 (rw_name l) i))

module _ (k : Plan) {S : Type 0} (s : State S View) (st : Runs k s) (id : ℕ) (v : View)
    (me : get_elem? s.views id ≡ some v) (p : ℕ) (is : v.who.number ≡ Some p) where
  -- nobody is there but six contexts of the processors of the plan
  out_of_reach : (c : Calls) (at : Poised st.world p c) (u : Waiter) → (6 ≤ u.ctx) ⊎ (cpus_of k ≤ u.cpu)
      → IsIdle at.acted.world u
  out_of_reach c at u far =
      elim (cases_eq u.cpu p) [
        | inl e ↦
            let low = drawn s.views (get_or s.words 0 0) st.once id v p me is in
            let few = st.roll in
            let high : 6 ≤ u.ctx = elim far [ inl h ↦ h | inr h ↦ absurd (omega (arith, h, e, low, few)) ] in
            subst (λ (z : ℕ). IsIdle at.acted.world (waiter z u.ctx)) (sym e) (
              at.acted.mirrors.frames u.ctx ∙ frame_in-above c.frames u.ctx at.stacked (let x = at.few in omega arith),
              λ l. at.acted.mirrors.holds u.ctx l ∙ held_above st.world.kind c.holds u.ctx l at.held high,
            )
        | inr ne ↦
            let others = at.acted.others u ne in
            let idle : IsIdle st.world u = elim far [
              | inl h ↦ st.six u h
              | inr h ↦ let few = st.roll in let b = st.blank u.cpu (nobodys s.views (get_or s.words 0 0) st.once u.cpu (omega (arith, h, few))) in (b.frames u.ctx, λ l. b.holds u.ctx l)
            ] in (others.0 ∙ idle.0, λ l. others.1 l ∙ idle.1 l)
      ]

  module _ (verb : Verb) (n : LockName) (pc : Pc) (asks : Begins k v.calls verb n.index)
      (acts : StandsOn (acting k.mode v.calls verb n.index) verb n pc) (near : n.index < locks_of k)
      (row : is_rw_row pc ≡ true) where
    abbrev pub l : ℕ
    l = n.index

    abbrev pub f : Frame
    f = acts.frame

    abbrev pub unseen : IsSeen pc (target pc acts.frame) (acting k.mode v.calls verb n.index).runs
    unseen = (subst (IsUnseen pc) (sym (rw_target pc acts.frame row)) tt, rw_sees pc row (acting k.mode v.calls verb n.index).runs)

    abbrev w : Waiter
    w = waiter p f.ctx

    abbrev at : Poised st.world p (acting k.mode v.calls verb n.index)
    at = lands.at k s st id v me p is verb n pc asks acts unseen

    abbrev pub m : World
    m = at.acted.world

    index_is : f.lock.index ≡ l
    index_is = ap (λ (z : LockName). z.index) acts.lock

    kind_is : m.kind l ≡ Rw
    kind_is =
        ap m.kind (sym index_is)
        ∙ (lands.fitting k s st id v me p is verb n pc asks acts unseen).rw pc acts.place row

    kind_was : st.world.kind l ≡ Rw
    kind_was = ap (λ (g : ℕ → Kind). g l) (sym at.acted.same.kind) ∙ kind_is

    of_plan : kind_at k l ≡ Rw
    of_plan = ap (λ (g : ℕ → Kind). g l) (sym st.of_plan.kind) ∙ kind_was

    -- a context without a call has not the wait lock
    pub outside : (d : ℕ) → length v.calls.frames ≤ d → held_in v.calls.holds d (wait_name l) ≡ None
    outside d high =
        let fits = st.seats id v p me is in
        let u : Waiter = waiter p d in
        let away : st.world.frame u ≡ None =
        fits.mirrors.frames d ∙ frame_in-above v.calls.frames d fits.stacked high in
        let inner : spins (st.world.held u (wait_name l)) ≡ false =
        (st.sound.rws l kind_was).waiting.inner u ∙ ap (λ o. is_inner (rw_phase_on l o)) away in
        elim (held_cases st.world.kind v.calls.holds d (wait_name l) fits.held refl) [
          | inl e ↦ e
          | inr e ↦
              let z : true ≡ false = sym (ap spins (fits.mirrors.holds d (wait_name l) ∙ e)) ∙ inner in
              absurd (cc z)
        ]

    -- the word that the step meets
    abbrev pub found : RwFields
    found = m.rw l

    pub found_is : get_or s.words (lock_at l) 0 ≡ packed_rw found
    found_is =
        st.stored.words (OfLock (rw_name l)) near refl ∙ (shared_number k st.world st.pairs l of_plan
        ∙ ap (λ (g : ℕ → RwFields). packed_rw (g l)) (sym at.acted.same.rw))

    -- it counts no more than six readers a processor
    pub found_packs : IsPackableRw found
    found_packs =
        let agrees = at.acted.sound.rws l kind_is in
        let cpus = st.lawful.cpus in
        let few = each_few 6144 _ agrees.counted agrees.readers.each
        (λ u counted. elim (cases_lt u.ctx 6) [
          | inl low ↦ elim (cases_lt u.cpu (cpus_of k)) [
            | inl near ↦ (low, omega (arith, low, near, cpus))
            | inr far ↦ absurd (seen u counted (out_of_reach _ at u (inr (omega (arith, far)))))
          ]
          | inr high ↦ absurd (seen u counted (out_of_reach _ at u (inl (omega (arith, high)))))
        ]) in
        let number = agrees.readers.number in
        omega (arith, few, number)
      where
        seen : (u : Waiter) → is_counted (rw_phases m l u) (rw_helds m l u) ≡ true → IsIdle m u → ⊥
        seen u h idle = let z : true ≡ false = sym h ∙ idle_uncounted m l u idle in cc z

    pub known : RwKnown pc found
    known =
        subst (λ (i : ℕ). RwKnown pc (m.rw i)) index_is
        (rw_row_knows pc m at.acted.histories w f at.acted.sound (lands.live k s st id v me p is verb n pc asks acts unseen)
        acts.place row).1

    -- who releases as a reader holds the lock so, and nobody of its processor holds it alone
    holds_read : pc ≡ Z1 → held_in (acting k.mode v.calls verb l).holds f.ctx (lock_name l) ≡ Some Reads
    holds_read reads =
        let live = lands.live k s st id v me p is verb n pc asks acts unseen in
        let phase : rw_phases m l w ≡ Unreads =
        ap (rw_phase_on l) live
        ∙ (rw_here l f index_is
        ∙ (ap (λ (c : Option Pc). rw_phase_if c f.lock.wait) acts.place ∙ ap (λ (c : Pc). rw_phase_at c f.lock.wait) reads)) in
        sym (at.acted.mirrors.holds f.ctx (lock_name l)) ∙ (at.acted.sound.rws l kind_is).holds.unreads w phase

    pub unalone : pc ≡ Z1 → l ≡ 0 → sole_count (acting k.mode v.calls verb l).holds ≡ 0
    unalone reads first =
        reads_sole st.world.kind (acting k.mode v.calls verb l).holds f.ctx at.held
        (ap (λ (i : ℕ). held_in (acting k.mode v.calls verb l).holds f.ctx (lock_name i)) (sym first) ∙ holds_read reads)

    pub met_is : met_in m w f (target pc f) ≡ Shared found
    met_is = ap (met_in m w f) (rw_target pc f row) ∙ ap (λ (i : ℕ). Shared (m.rw i)) index_is

    abbrev stores : Option RwFields
    stores = (rw_row m.mode pc f found).stores

    stored_is : stored_in m w f pc (target pc f) ≡ stores_rw m l stores
    stored_is =
        ap (stored_in m w f pc) (rw_target pc f row)
        ∙ ap (λ (i : ℕ). stores_rw m i (rw_row m.mode pc f (m.rw i)).stores) index_is

    -- the row gives no node
    row_bare : enters (lands.o k s st id v me p is verb n pc asks acts unseen).leads ≡ false
    row_bare = shared_bare m w f pc (lands.fitting k s st id v me p is verb n pc asks acts unseen) acts.place row

    -- a step on the word that makes the row of the call, where it writes what the row stores
    pub shared_step : (i : ℕ)
        → i ≡ packed_rw (unwrap_or (rw_row k.mode pc f found).stores found)
        → (u : View) → u.who ≡ v.who
        → u.calls ≡ row_of (terms_of k) p (acting k.mode v.calls verb l) (Shared found) → (homes : List (Maybe S))
        → Runs k {S = S} (record { words = set s.words (lock_at l) i; homes = homes; views = set s.views id u })
    shared_step i writes u who calls homes =
        let after : World = stored_in m w f pc (target pc f) in
        let mode : k.mode ≡ m.mode = sym (at.acted.same.mode ∙ st.of_plan.mode) in
        let here : after.rw l ≡ unwrap_or stores found = ap (λ (z : World). z.rw l) stored_is ∙ stored_here m l stores in
        row_step k s st id v me p is verb n pc asks acts unseen (OfLock (rw_name l))
        (subst (λ (t : Target). IsAt f t (OfLock (rw_name l))) (sym (rw_target pc f row)) (ap rw_name index_is)) row_bare
        near (λ b r e. cc e) (Shared found) (sym met_is) (λ e. absurd (off_links pc row e)) i
        (writes
        ∙ (ap (λ (z : Mode). packed_rw (unwrap_or (rw_row z pc f found).stores found)) mode
        ∙ (ap packed_rw (sym here) ∙ sym (shared_number k after st.pairs l of_plan))))
        u who calls homes
