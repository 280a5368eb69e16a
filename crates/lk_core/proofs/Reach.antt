-- The nodes that a row writes are a processor's own, and the lead goes to a waiter that is there.
use Rattle.std.proofs.Common.{◌≡◌, ◌<◌, ℕ, Option, Some, None, Bool, true, false, length, inl, inr}
use Rattle.std.proofs.Common.{arith, ap, refl, sym, ◌∙◌, subst, slice_get, is_some, if◌then◌else◌}
use Rattle.std.proofs.Common.{◌&&◌, ◌==◌, ◌-◌}
use Rattle.lk_core.proofs.Names.{cases_Bool, RwFields, Fields, NodeName, LockHistory, same_lock}
use Rattle.lk_core.proofs.Names.{LockName, Mode, Waiter, HasNode, Machine, is_node, node_of, Effect}
use Rattle.lk_core.proofs.Names.{ChoiceFlag, ChoiceNext, ChoiceWord, FlagOf, Halted, HashEntry}
use Rattle.lk_core.proofs.Names.{KickOf, NextOf, PvFlag, PvNext, PvWord, QueueWord, Queued, RunsOf}
use Rattle.lk_core.proofs.Names.{RwWord, SecondTailOf, SpinWord, StateOf, Target, target, Flag}
use Rattle.lk_core.proofs.Names.{Frame, Pc, C1, C2, C3, C6, C7, C8, C10, E1, E2, E4, E6, E7, E10}
use Rattle.lk_core.proofs.Names.{E13, E14, F1, G3, G5, G6, G8, G10, G11, H2, K1, N2, R1, R2, R5, T1}
use Rattle.lk_core.proofs.Names.{T2, U2, U3, U5, V2, W2, W4, W6, W7, Wr1, Wr3, Wr6, Y1, Y2, Y4, Y5}
use Rattle.lk_core.proofs.Names.{State, Sight, after_none, handover_row, is_held, is_last, may_stay}
use Rattle.lk_core.proofs.Names.{promotion_row, runs_row, search_row, second_row, halt_row}
use Rattle.lk_core.proofs.Names.{hash_row, is_halted, is_running, is_set, kick_row, pv_flag_row}
use Rattle.lk_core.proofs.Names.{pv_next_row, pv_row, state_row, flag_row, is_sole, next_row}
use Rattle.lk_core.proofs.Names.{queue_row, is_cleared, is_empty, is_open, rw_row, is_free}
use Rattle.lk_core.proofs.Names.{is_unlocked, spin_row, named_front_is_used, same_lock-self}
use Rattle.lk_core.proofs.Names.{chooses, may_halt, IsOwnNode, Phase, has_node, own_in, phase_of}
use Rattle.lk_core.proofs.Names.{phase_on, Uses, ShowsAll, world, spin_part}
use Rattle.lk_rows.specs.Machine.{cpu_at, frame_at, node_at, word_at, entry_at, halted_at}
use Rattle.lk_rows.specs.{Machine.{kicked_at, rw_at}, Moves.waiter_of}
use Rattle.lk_rows.specs.Row.{Tell, Nothing, Says, Passes}
use Rattle.lk_rows.specs.declared.parts.Pc.TheVariants.{C4, C5, C9, W1, W3, W5, E15}
use Rattle.lk_machine.specs.Ready.{HasTarget}
use Rattle.lk_law.proofs.{cna.Knows.choice_is_used, common.Families.lists_met}
use Rattle.lk_law.proofs.common.Knows.{tail_is_used, halting_next_is_used, entry_is_used}
use Rattle.lk_law.proofs.common.Users.{some_is, is_node-own}
use Rattle.lk_law.specs.{Known.choice_node, Places.phase_if, Premises.GoesTo}
use Rattle.lk_law.specs.Steps.{row_in, row_in_at, sight_in}
use Rattle.lk_core.proofs.{Access.frame_within, Lists.first_found}
use Rattle.lk_rows.specs.declared.parts.Flag.TheVariants as flag

-- the waiter of a phase that has a node has a frame
phase_frame : (l : LockName) (o : Option Frame) → has_node (phase_on l o) ≡ true
    → (f : Frame) × (o ≡ Some f) × (phase_of f ≡ phase_on l o)
phase_frame l None e = cc
phase_frame l (Some f) e =
    elim (cases_Bool (same_lock f.lock l)) [
      | inl t ↦ (f, refl, rw t refl)
      | inr t ↦ absurd (let z = rw t at e in grind (arith, z))
    ]

-- the first frame that has the node uses it
used : (m : Machine) (v : Waiter) (g : Frame) (k : NodeName) → frame_at m v ≡ Some g
    → is_node g.me k ≡ true → k.cpu ≡ v.cpu → Uses (world m) (waiter_of m k) k
unfolding waiter_of frame_at
used m v g k at mine cpu =
    first_found (λ (f : Frame). is_node f.me k) (cpu_at m k.cpu).frames v.ctx g
    (subst (λ (q : ℕ). slice_get (cpu_at m q).frames v.ctx ≡ Some g) (sym cpu) at) mine

module _ (m : Machine) (hs : LockName → LockHistory) (shows : ShowsAll m hs) where
  abbrev phase : LockName → Waiter → Phase
  phase l u = phase_on l (frame_at m u)

  abbrev own : Waiter → NodeName
  own u = own_in (frame_at m u)

  -- a waiter's own node is its processor's
  own_within : (l : LockName) (u : Waiter) → has_node (phase l u) ≡ true → HasNode m (own u)
  own_within l u noded =
      let placed = shows.world.spins.agrees.nodes.placed l u noded in
      let below = shows.world.spins.agrees.nodes.below l u noded in
      let there = phase_frame l (frame_at m u) noded in
      subst (λ (k : NodeName). HasNode m k) (sym placed)
      (record { cpu = frame_within m u there.0 there.1; index = below })

  -- a waiter's own node is used
  own_used : (l : LockName) (v : Waiter) → has_node (phase l v) ≡ true
      → Uses (world m) (waiter_of m (own v)) (own v)
  own_used l v noded =
      let there = phase_frame l (frame_at m v) noded in
      let g = there.0 in
      let is : own v ≡ node_of g.me = ap own_in there.1 in
      let has = (shows.world.spins.registers v g there.1).me (ap has_node there.2 ∙ noded) in
      let mine : is_node g.me (own v) ≡ true = ap (is_node g.me) is ∙ is_node-own g.me has in
      used m v g (own v) there.1 mine
      (ap (λ (k : NodeName). k.cpu) (shows.world.spins.agrees.nodes.placed l v noded))

  module _ (w : Waiter) (f : Frame) (live : frame_at m w ≡ Some f) where
    phase_here : phase f.lock w ≡ phase_of f
    phase_here = ap (phase_on f.lock) live ∙ rw (same_lock-self f.lock) refl

    pub phase_there : (c : Pc) → f.place ≡ Some c
        → phase f.lock w ≡ phase_if (Some c) (is_some f.me) (node_of f.prev) (node_of f.y)
    phase_there c at = phase_here
        ∙ ap (λ (x : Option Pc). phase_if x (is_some f.me) (node_of f.prev) (node_of f.y)) at

    -- the node before it, to which it links its own
    pub prev_within : f.place ≡ Some G5 → HasNode m (node_of f.prev)
    prev_within at =
        let met =
        lists_met (shows.world.spins.agrees.locks f.lock).lists w (node_of f.prev)
        (phase_there G5 at) in
        subst (λ (k : NodeName). HasNode m k) (sym met.owned) (own_within f.lock met.by met.noded)

    hands_to : f.place ≡ Some G11
        → (v : Waiter) × (has_node (phase f.lock v) ≡ true) × (own v ≡ node_of f.y)
    hands_to at =
        let alone = (shows.world.spins.registers w f live).choice.plainly G11 at refl in
        let h =
        ((shows.world.spins.agrees.locks f.lock).lists.flat alone).queue.links.hand w (node_of f.y)
        (phase_there G11 at) in
        (h.0, ap has_node h.2, h.3)

    -- the node on which a row of the choice operates
    choice_within : (c : Pc) → f.place ≡ Some c → chooses c ≡ true
        → HasNode m (node_of (choice_node c f))
    choice_within c at on =
        let u =
        choice_is_used (world m) (spin_part (world m).kind hs) w f c shows.world.spins live at on in
        let there = frame_within m u.0 u.1.0 u.1.1 in
        let own = u.2 in
        record { cpu = subst (λ (i : ℕ). i < length m.cpus) (sym own.cpu) there; index = own.index }

    -- the waiter to which a front that has chosen hands the lead is found
    pub chosen_used : f.place ≡ Some C8 → Uses (world m) (waiter_of m (node_of f.y)) (node_of f.y)
    chosen_used at =
        let u =
        choice_is_used (world m) (spin_part (world m).kind hs) w f C8 shows.world.spins live at refl
        in
        used m u.0 u.1.0 (node_of f.y) u.1.1 u.1.2 u.2.cpu

    -- the node of the next
    pub next_within : f.place ≡ Some G11 → HasNode m (node_of f.y)
    next_within at =
        let h = hands_to at in subst (λ (k : NodeName). HasNode m k) h.2 (own_within f.lock h.0 h.1)

    -- the waiter of the next is found
    pub next_used : f.place ≡ Some G11 → Uses (world m) (waiter_of m (node_of f.y)) (node_of f.y)
    next_used at = let h = hands_to at in
        subst (λ (k : NodeName). Uses (world m) (waiter_of m k) k) h.2 (own_used f.lock h.0 h.1)

    -- the own node, where the phase has one
    pub own_here : (c : Pc) → f.place ≡ Some c
        → has_node (phase_if (Some c) (is_some f.me) (node_of f.prev) (node_of f.y)) ≡ true
        → HasNode m (node_of f.me)
    own_here c at noded =
        let there = own_within f.lock w (ap has_node (phase_there c at) ∙ noded) in
        subst (λ (k : NodeName). HasNode m k) (ap own_in live) there

    -- the node of a waiter that uses it, as one of its processor's
    own_node : (u : Waiter) (n : NodeName) → Uses (world m) u n → IsOwnNode u n → HasNode m n
    own_node u n uses own =
        let there = frame_within m u uses.0 uses.1 in
        record { cpu = subst (λ (i : ℕ). i < length m.cpus) (sym own.cpu) there; index = own.index }

    -- the node before it, by whose state a waiter judges whether to halt
    peer_within : f.place ≡ Some W2 → HasNode m (node_of f.prev)
    peer_within at =
        let some = (shows.world.spins.registers w f live).choice.peer W2 at refl in
        (shows.fits w f live).prev (node_of f.prev) (some_is f.prev some)

    -- the node to which a front hands the lead where processors halt
    pub pv_next_within : f.place ≡ Some E15 → HasNode m (node_of f.y)
    pv_next_within at = let u =
        halting_next_is_used (world m) (spin_part (world m).kind hs) w f shows.world.spins
        live at in own_node u.0 (node_of f.y) u.1 u.2

    pub pv_next_used : f.place ≡ Some E15 → Uses (world m) (waiter_of m (node_of f.y)) (node_of f.y)
    pv_next_used at =
        let u =
        halting_next_is_used (world m)
        (spin_part (world m).kind hs) w f shows.world.spins live at in
        used m u.0 u.1.0 (node_of f.y) u.1.1 u.1.2 u.2.cpu

    -- the node after which a holder looks
    pub front_within : f.place ≡ Some K1 → HasNode m (node_of f.y)
    front_within at = let u =
        named_front_is_used (world m) (spin_part (world m).kind hs) w f K1 shows.world.spins live at
        refl in own_node u.0 (node_of f.y) u.1 u.2

    -- the entry of its lock, at a row of the lock that halts processors
    pub entry_within : (c : Pc) → f.place ≡ Some c → c ≡ U3 → (n : NodeName)
        → entry_at m f.lock ≡ Some n → HasNode m n
    entry_within c at is n e =
        let on = (shows.world.spins.registers w f live).choice.halting c at (ap may_halt is) in
        let u =
        entry_is_used (world m) (spin_part (world m).kind hs) f.lock n shows.world.spins on e in
        own_node u.0 n u.1 u.2

    -- the processor that is kicked
    pub kick_within : (q : ℕ) → target U5 f ≡ KickOf q → q < length m.cpus
    kick_within q e = let is : (node_of f.target).cpu ≡ q = cc e in
        subst (λ (i : ℕ). i < length m.cpus) is (by f.target refl)
      where
        by : (o : Option NodeName) → f.target ≡ o → (node_of o).cpu < length m.cpus
        by None g = let there = frame_within m w f live in omega (arith, there)
        by (Some n) g = ((shows.fits w f live).target n g).cpu

    -- the node on which a row operates is one of the machine's
    pub target_within : (c : Pc) → f.place ≡ Some c → HasTarget m (target c f)
    target_within G5 at = prev_within at
    target_within G6 at = own_here G6 at refl
    target_within G10 at = own_here G10 at refl
    target_within G11 at = next_within at
    target_within C1 at = choice_within C1 at refl
    target_within C2 at = choice_within C2 at refl
    target_within C3 at = choice_within C3 at refl
    target_within C4 at = choice_within C4 at refl
    target_within C5 at = choice_within C5 at refl
    target_within C6 at = choice_within C6 at refl
    target_within C7 at = choice_within C7 at refl
    target_within C8 at = choice_within C8 at refl
    target_within C9 at = choice_within C9 at refl
    target_within W1 at = own_here W1 at refl
    target_within W3 at = own_here W3 at refl
    target_within W4 at = own_here W4 at refl
    target_within W5 at = own_here W5 at refl
    target_within W7 at = own_here W7 at refl
    target_within E1 at = own_here E1 at refl
    target_within E2 at = own_here E2 at refl
    target_within E10 at = own_here E10 at refl
    target_within E14 at = own_here E14 at refl
    target_within W2 at = peer_within at
    target_within E15 at = pv_next_within at
    target_within K1 at = front_within at
    target_within _ at = tt

    -- and so it is where the row's target is known by itself
    pub node_within : (c : Pc) (t : Target) → f.place ≡ Some c → target c f ≡ t → HasTarget m t
    node_within c t at e = subst (HasTarget m) e (target_within c at)

-- the tail of a lock is a node of the machine's
pub tail_within : (m : Machine) (hs : LockName → LockHistory) → ShowsAll m hs
    → (l : LockName) (n : NodeName) → (word_at m l).tail ≡ Some n → HasNode m n
tail_within m hs shows l n e =
    let u = tail_is_used (world m) (spin_part (world m).kind hs) l n shows.world.spins e in
    let there = frame_within m u.0 u.1.0 u.1.1 in
    record { cpu = subst (λ (i : ℕ). i < length m.cpus) (sym u.2.cpu) there; index = u.2.index }

-- the waiter to which a row hands the lead
abbrev pub to_of : Machine → Tell → Waiter
to_of m (Passes n k) = waiter_of m n
to_of m _ = record { cpu = 0; ctx = 0 }

-- a row hands no lead on
abbrev StaysIn : Tell → Type 0
StaysIn (Passes n k) = ⊥
StaysIn _ = Unit {0}

stays_if : {A : Type 0} (t : Bool) (a b : Effect A) → StaysIn a.tells → StaysIn b.tells
    → StaysIn (if t then a else b).tells
stays_if true a b x y = x
stays_if false a b x y = y

spin_stays : (mode : Mode) (c : Pc) (f : Frame) (x : Fields) → StaysIn (spin_row mode c f x).tells
spin_stays mode F1 f x = elim (cases_Bool (is_free x)) [ inl e ↦ rw e tt | inr e ↦ rw e tt ]
spin_stays mode T1 f x = elim (cases_Bool (is_free x)) [ inl e ↦ rw e tt | inr e ↦ rw e tt ]
spin_stays mode T2 f x = elim (cases_Bool (is_free x)) [ inl e ↦ rw e tt | inr e ↦ rw e tt ]
spin_stays mode V2 f x = elim (cases_Bool (is_free x)) [ inl e ↦ rw e tt | inr e ↦ rw e tt ]
spin_stays mode _ f x = tt

rw_stays : (mode : Mode) (c : Pc) (f : Frame) (x : RwFields) → StaysIn (rw_row mode c f x).tells
rw_stays mode R1 f x = elim (cases_Bool (is_open x)) [ inl e ↦ rw e tt | inr e ↦ rw e tt ]
rw_stays mode R2 f x = elim (cases_Bool (x.writer)) [ inl e ↦ rw e tt | inr e ↦ rw e tt ]
rw_stays mode R5 f x = elim (cases_Bool (x.writer)) [ inl e ↦ rw e tt | inr e ↦ rw e tt ]
rw_stays mode Wr1 f x = elim (cases_Bool (is_empty x)) [ inl e ↦ rw e tt | inr e ↦ rw e tt ]
rw_stays mode Wr3 f x = elim (cases_Bool (is_empty x)) [ inl e ↦ rw e tt | inr e ↦ rw e tt ]
rw_stays mode Wr6 f x = elim (cases_Bool (is_cleared x)) [ inl e ↦ rw e tt | inr e ↦ rw e tt ]
rw_stays mode Y1 f x = elim (cases_Bool (is_open x)) [ inl e ↦ rw e tt | inr e ↦ rw e tt ]
rw_stays mode Y2 f x = elim (cases_Bool (is_open x)) [ inl e ↦ rw e tt | inr e ↦ rw e tt ]
rw_stays mode Y4 f x = elim (cases_Bool (is_empty x)) [ inl e ↦ rw e tt | inr e ↦ rw e tt ]
rw_stays mode Y5 f x = elim (cases_Bool (is_empty x)) [ inl e ↦ rw e tt | inr e ↦ rw e tt ]
rw_stays mode _ f x = tt

queue_stays : (mode : Mode) (c : Pc) (f : Frame) (x : Fields) → StaysIn (queue_row mode c f x).tells
queue_stays mode G3 f x = elim (cases_Bool (is_free x)) [ inl e ↦ rw e tt | inr e ↦ rw e tt ]
queue_stays mode G8 f x = elim (cases_Bool (is_sole f x)) [ inl e ↦ rw e tt | inr e ↦ rw e tt ]
queue_stays mode N2 f x = elim (cases_Bool (is_free x)) [ inl e ↦ rw e tt | inr e ↦ rw e tt ]
queue_stays mode _ f x = tt

next_stays : (mode : Mode) (turns : ℕ) (c : Pc) (f : Frame) (x : Option NodeName)
    → StaysIn (next_row mode turns c f x).tells
next_stays mode turns G10 f None = tt
next_stays mode turns G10 f (Some n) = tt
next_stays mode turns _ f x = tt

flag_waits : (f : Frame) (x : Flag) → StaysIn (flag_row G6 f x).tells
flag_waits f flag.Unset = tt
flag_waits f flag.Go = tt
flag_waits f (flag.Second n) = tt

search_stays : (s : Sight) (c : Pc) (f : Frame) (x : Option NodeName)
    → StaysIn (search_row s c f x).tells
search_stays s C1 f None = none_stays f.second
  where
    none_stays : (o : Option NodeName) → StaysIn (after_none o).tells
    none_stays None = tt
    none_stays (Some n) = tt
search_stays s C1 f (Some n) =
    stays_if (may_stay s) _ _ (stays_if (s.local n) _ _ tt tt)
    (stays_if (is_some f.second) _ _ tt tt)
search_stays s C2 f None = stays_if (is_some f.second) _ _ tt tt
search_stays s C2 f (Some n) = stays_if (s.local n) _ _ (stays_if (is_some f.second) _ _ tt tt) tt
search_stays s _ f x = tt

second_stays : (c : Pc) (f : Frame) (x : Option NodeName) → StaysIn (second_row c f x).tells
second_stays C3 f x = tt
second_stays _ f x = tt

runs_stays : (s : Sight) (c : Pc) (f : Frame) (x : ℕ) → StaysIn (runs_row s c f x).tells
runs_stays s C7 f x = tt
runs_stays s _ f x = tt

promotion_stays : (c : Pc) (f : Frame) (x : Fields) → StaysIn (promotion_row c f x).tells
promotion_stays C10 f x = stays_if (is_last f x) _ _ tt tt
promotion_stays _ f x = tt

pv_stays : (spins : ℕ) (c : Pc) (f : Frame) (x : Fields) → StaysIn (pv_row spins c f x).tells
pv_stays spins H2 f x = stays_if (is_unlocked x.locked) _ _ tt tt
pv_stays spins E4 f x =
    stays_if (is_unlocked x.locked && x.pending) _ _ tt (stays_if (f.left - 1 == 0) _ _ tt tt)
pv_stays spins E7 f x = stays_if (is_unlocked x.locked) _ _ tt tt
pv_stays spins E13 f x = stays_if (is_last f x) _ _ tt tt
pv_stays spins U2 f x = stays_if (is_held x.locked) _ _ tt tt
pv_stays spins _ f x = tt

pv_next_stays : (c : Pc) (f : Frame) (x : Option NodeName) → StaysIn (pv_next_row c f x).tells
pv_next_stays E14 f None = tt
pv_next_stays E14 f (Some n) = tt
pv_next_stays _ f x = tt

state_stays : (spins : ℕ) (c : Pc) (f : Frame) (x : State) → StaysIn (state_row spins c f x).tells
state_stays spins W2 f x = stays_if (is_running x) _ _ (stays_if (f.left - 1 == 0) _ _ tt tt) tt
state_stays spins W7 f x = stays_if (is_halted x) _ _ tt tt
state_stays spins K1 f x = stays_if (is_halted x) _ _ tt tt
state_stays spins _ f x = tt

hash_stays : (c : Pc) (f : Frame) (x : Option NodeName) → StaysIn (hash_row c f x).tells
hash_stays E6 f x = tt
hash_stays _ f x = tt

halt_stays : (c : Pc) (f : Frame) (x : Bool) → StaysIn (halt_row c f x).tells
halt_stays W6 f x = tt
halt_stays _ f x = tt

kick_stays : (c : Pc) (f : Frame) (x : Bool) → StaysIn (kick_row c f x).tells
kick_stays U5 f x = tt
kick_stays _ f x = tt

stays_goes : (m : Machine) (t : Tell) → StaysIn t → GoesTo (world m) (to_of m t) t
stays_goes m Nothing s = tt
stays_goes m (Says what) s = tt
stays_goes m (Passes n k) s = absurd s

-- where a row hands the lead on, it goes to the waiter that uses the some_is node
pub goes_to : (m : Machine) (hs : LockName → LockHistory) → ShowsAll m hs
    → (w : Waiter) (f : Frame) (c : Pc) → frame_at m w ≡ Some f → f.place ≡ Some c
    → GoesTo (world m) (to_of m (row_in (world m) w f c).1) (row_in (world m) w f c).1
goes_to m hs shows w f c live at = by_target (target c f) refl
  where
    flags : (c : Pc) (k : NodeName) → f.place ≡ Some c → target c f ≡ FlagOf k
        → GoesTo (world m) (to_of m (flag_row c f (node_at m k).flag).tells)
        (flag_row c f (node_at m k).flag).tells
    flags G6 k at e =
        stays_goes m (flag_row G6 f (node_at m k).flag).tells (flag_waits f (node_at m k).flag)
    flags G11 k at e = next_used m hs shows w f live at
    flags _ k at e = tt

    hands : (c : Pc) (k : NodeName) → f.place ≡ Some c → target c f ≡ ChoiceFlag k
        → GoesTo (world m) (to_of m (handover_row c f (node_at m k).flag).tells)
        (handover_row c f (node_at m k).flag).tells
    hands C8 k at e = chosen_used m hs shows w f live at
    hands _ k at e = tt

    passes : (c : Pc) (k : NodeName) → f.place ≡ Some c → target c f ≡ PvFlag k
        → GoesTo (world m) (to_of m (pv_flag_row c f (node_at m k).flag).tells)
        (pv_flag_row c f (node_at m k).flag).tells
    passes W4 k at e = let o = pv_flag_row W4 f (node_at m k).flag in
        stays_goes m o.tells (stays_if (is_set (node_at m k).flag) _ _ tt tt)
    passes E15 k at e = pv_next_used m hs shows w f live at
    passes _ k at e = tt

    by_target : (t : Target) → target c f ≡ t
        → GoesTo (world m) (to_of m (row_in_at (world m) w f c t).1) (row_in_at (world m) w f c t).1
    by_target SpinWord e = let o = spin_row m.setup.mode c f (word_at m f.lock) in
        stays_goes m o.tells (spin_stays m.setup.mode c f (word_at m f.lock))
    by_target QueueWord e = let o = queue_row m.setup.mode c f (word_at m f.lock) in
        stays_goes m o.tells (queue_stays m.setup.mode c f (word_at m f.lock))
    by_target Queued e = tt
    by_target (FlagOf k) e = flags c k at e
    by_target (NextOf k) e = let o = next_row m.setup.mode m.setup.spins c f (node_at m k).next in
        stays_goes m o.tells (next_stays m.setup.mode m.setup.spins c f (node_at m k).next)
    by_target RwWord e = let o = rw_row m.setup.mode c f (rw_at m f.lock.index) in
        stays_goes m o.tells (rw_stays m.setup.mode c f (rw_at m f.lock.index))
    by_target ChoiceWord e = let o = promotion_row c f (word_at m f.lock) in
        stays_goes m o.tells (promotion_stays c f (word_at m f.lock))
    by_target (ChoiceFlag k) e = hands c k at e
    by_target (ChoiceNext k) e = let s = sight_in (world m) w f in
        let o = search_row s c f (node_at m k).next in
        stays_goes m o.tells (search_stays s c f (node_at m k).next)
    by_target (SecondTailOf k) e = let o = second_row c f (node_at m k).second_tail in
        stays_goes m o.tells (second_stays c f (node_at m k).second_tail)
    by_target (RunsOf k) e = let s = sight_in (world m) w f in
        let o = runs_row s c f (node_at m k).runs in
        stays_goes m o.tells (runs_stays s c f (node_at m k).runs)
    by_target PvWord e = let o = pv_row m.setup.spins c f (word_at m f.lock) in
        stays_goes m o.tells (pv_stays m.setup.spins c f (word_at m f.lock))
    by_target (PvFlag k) e = passes c k at e
    by_target (PvNext k) e = let o = pv_next_row c f (node_at m k).next in
        stays_goes m o.tells (pv_next_stays c f (node_at m k).next)
    by_target (StateOf k) e = let o = state_row m.setup.spins c f (node_at m k).state in
        stays_goes m o.tells (state_stays m.setup.spins c f (node_at m k).state)
    by_target HashEntry e = let o = hash_row c f (entry_at m f.lock) in
        stays_goes m o.tells (hash_stays c f (entry_at m f.lock))
    by_target Halted e = let o = halt_row c f (halted_at m w.cpu) in
        stays_goes m o.tells (halt_stays c f (halted_at m w.cpu))
    by_target (KickOf q) e = let o = kick_row c f (kicked_at m q) in
        stays_goes m o.tells (kick_stays c f (kicked_at m q))
