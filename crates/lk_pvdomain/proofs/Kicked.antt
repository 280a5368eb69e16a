-- A front that has halted on a free lock is kicked; and who seeks an entry finds it.
use Rattle.std.proofs.Common.{◌≡◌, ◌≤◌, ℕ, List, [], ◌∷◌, length, eqb, Bool, inl, inr, Option, Some}
use Rattle.std.proofs.Common.{None, true, false, refl, ap, ◌∙◌, arith, slice_get, get_or}
use Rattle.std.proofs.Common.{if◌then◌else◌, is_some}
use Rattle.lk_pvdomain.proofs.Names.{get_elem?, some, NodeName, Waiter, node_of, Frame, U3, halts}
use Rattle.lk_pvdomain.proofs.Names.{top_live, Running, frame_in, Slot, Runs, seeks_entry, waiter}
use Rattle.lk_pvdomain.proofs.Names.{IsNode, OfKick, Plan, View}
use Rattle.atomic_table.specs.Table.{State}
use Rattle.lk_names.specs.History.{no_history}
use Rattle.lk_law.proofs.common.Knows.{row_knows, entry_is_used}
use Rattle.lk_law.proofs.pv.HaltsShown.{sleeping_front_is_kicked}
use Rattle.lk_law.specs.{Kicked.Owes, SoundWorld.spin_part}
use Rattle.lk_domain.proofs.{seats.Owners.framed, seats.Totals.drawn, words.OnWords.seated}
use Rattle.lk_domain.specs.Words.{mark_number}
use Rattle.lk_pvdomain.proofs.HashMaps.{sought_is_there}
use Rattle.lk_pvdomain.specs.Laws.{FrontIsKicked, EntryIsFound, WillKick}

frame_is : (b : Bool) (x f : Frame) → (if b then Some x else None) ≡ Some f → x ≡ f
frame_is true x f e = cc e
frame_is false x f e = cc e

none_some : {f : Frame} → None ≡ Some f → ⊥
none_some e = cc e

-- the one call of a processor
one_call : (rs : List Running) (d : ℕ) (f : Frame) → length rs ≤ 1 → frame_in rs d ≡ Some f
    → (x : Running) × (rs ≡ x ∷ []) × (x.frame ≡ f)
one_call [] d f few e = absurd (none_some e)
one_call (x ∷ []) d f few e = (x, refl, frame_is (eqb d x.frame.ctx) x.frame f e)
one_call (x ∷ y ∷ rs) d f few e = absurd (omega (arith, few))

-- whose frame owes a processor a kick
kicker : (k : Plan) (s : State Slot View) (st : Runs k s) (p : ℕ) (u : Waiter) → halts st.world.mode ≡ true
    → Owes st.world p u → (id : ℕ) × (v : View) × (get_elem? s.views id ≡ some v) × WillKick v p
kicker k s st p u on owes =
    let by = framed k s st u owes.0 owes.1 in
    let v = by.seat.view_is in
    let one = one_call v.calls.frames u.ctx owes.0 ((st.seats by.seat.id v u.cpu by.seat.at by.seat.number).single on) by.is in (
      by.seat.id,
      v,
      by.seat.at,
      record {
        call = one.0;
        only = one.1;
        place = ap (λ (g : Frame). g.place) one.2 ∙ owes.2;
        target = ap (λ (g : Frame). (node_of g.target).cpu) one.2 ∙ owes.3;
      },
    )

pub front_is_kicked : FrontIsKicked
front_is_kicked k s both l w f on plain free front live asleep =
    let st = both.runs in
    let m = st.world in
    let by = framed k s st w f live in
    let drew = drawn s.views (get_or s.words 0 0) st.once by.seat.id by.seat.view_is w.cpu by.seat.at by.seat.number in
    let few = st.roll in
    let front' : slice_get (spin_part m.kind st.histories l).main 0 ≡ Some w =
    ap (λ b. slice_get (if b then no_history else st.histories l).main 0) plain ∙ front in
    elim (sleeping_front_is_kicked m (spin_part m.kind st.histories) l w f (ap halts st.of_plan.mode ∙ on) st.sound.spins free
    front' live asleep) [
      | inl h ↦ inl (st.stored.words (OfKick w.cpu) (on, omega (arith, drew, few)) refl ∙ ap mark_number h)
      | inr h ↦ inr (kicker k s st w.cpu h.0 (ap halts st.of_plan.mode ∙ on) h.1)
    ]

some_of : (o : Option NodeName) → is_some o ≡ true → (a : NodeName) × (o ≡ Some a)
some_of None h = cc h
some_of (Some a) h = (a, refl)

pub entry_is_found : EntryIsFound
entry_is_found k s both id p v x rs on me is frames place =
    let st = both.runs in
    let m = st.world in
    let fits = st.seats id v p me is in
    let live = top_live k s st id v me p is fits x rs frames in
    let halting = ap halts st.of_plan.mode ∙ on in
    let known = (row_knows U3 m _ (waiter p x.frame.ctx) x.frame st.sound.spins live place).2 halting in
    let some = some_of (m.entry x.frame.lock) known.1 in
    let a : NodeName = some.0 in
    let used = entry_is_used m _ x.frame.lock a st.sound.spins halting some.1 in
    let low = seated k s st id v me p is m (λ u ne. (refl, λ l. refl)) used.0 used.1.0 used.1.1 in
    let near : IsNode k a = record { cpu = let c = used.2.cpu in omega (arith, c, low); index = used.2.index } in
    let sought = st.seeks id v me x rs frames (ap seeks_entry place) in
    sought_is_there k m.entry st.pairs x.frame.lock a v.calls.looked (st.hashed on) some.1 near sought.passed
