-- A frame at a row of a sound world, and what becomes of the world after the row.
use Rattle.std.proofs.Common.{◌≡◌, ◌≢◌, ◌⊎◌, inl, inr, ℕ, Option, Some, None, Bool, true, false, []}
use Rattle.std.proofs.Common.{arith, ap, ◌-◌, ◌<◌, refl, sym, ◌∙◌, subst, if◌then◌else◌, is_some}
use Rattle.std.proofs.Common.{◌≤◌}
use Rattle.lk_law.proofs.Names.{Fields, Slow, NodeName, LockHistory, Rules, Manner, LockName, Mode}
use Rattle.lk_law.proofs.Names.{Waiter, node_of, Goes, Granted, Leaves, Nothing, Tell, Second}
use Rattle.lk_law.proofs.Names.{Frame, Node, Pc, C2, C3, C4, C5, C6, C7, C8, C9, C10, G5, G11}
use Rattle.lk_law.proofs.Names.{LeavesSlowPath, SnapshotAgrees, Stays, Step, halts, MayFollowIfAny}
use Rattle.lk_law.proofs.Names.{moves_aside, chooses, is_slow, may_halt, stays_awake, Phase}
use Rattle.lk_law.proofs.Names.{has_node, seeks, Idle, Releases, kept_in, own_in, phase_at}
use Rattle.lk_law.proofs.Names.{phase_if, phase_of, phase_on, post_at, post_if, post_of, slow_in}
use Rattle.lk_law.proofs.Names.{snapshot, stage_at, stage_if, IsNewest, IsThen, at_halt, Off}
use Rattle.lk_law.proofs.Names.{ChoiceFits, IsQuiet, RegistersFit, hands_plainly, is_unaware, spins}
use Rattle.lk_law.proofs.Names.{SpinRowKeeps, IsPlain, IsSoundSpinWorld, Rests, lead_on, led}
use Rattle.lk_law.proofs.Names.{put_node, put_queued, put_word, row_in, told_event, told_on, World}
use Rattle.lk_law.proofs.common.Before.{before_lt}
use Rattle.lk_law.proofs.common.Choices.{fit_goes, fixed_choice, fit_quiet, quiet_none, quiet_then}
use Rattle.lk_law.proofs.common.Puts.{put_word-here, put_number-here, put_number-else}
use Rattle.lk_law.proofs.common.TurnSteps.{word_plain, node_plain, turn_knows, turn_kept, turn_step}
use Rattle.lk_law.proofs.common.TurnSteps.{turn_stays, turn_leaves, turn_sound}
use Rattle.lk_law.proofs.common.Turns.{Turn, turned, same_turn, word_turn, node_turn}
use Rattle.lk_law.proofs.common.Worlds.{phase_on-here, idle_off, sleeper_halts}
use Rattle.lk_law.proofs.spin.Laws.{law_same, step_same}
use Rattle.lk_law.specs.Premises.{GoesTo, FollowsRules}

-- who acts, and where: a world, what its locks' histories are, and the frame of a waiter; and to
-- whom the lead goes, if it does
pub record Acting : Type 0 where
  pub world : World
  pub histories : LockName → LockHistory
  pub rules : Rules
  pub by : Waiter
  pub to : Waiter
  pub frame : Frame

-- the world is sound, and the frame stands at this row; and whether processors halt in it
pub record StandsIn (halting : Bool) (a : Acting) (c : Pc) : Type 0 where
  pub sound : IsSoundSpinWorld a.world a.histories
  pub follows : FollowsRules a.world a.rules
  pub newest : IsNewest a.world a.by
  pub live : a.world.frame a.by ≡ Some a.frame
  pub place : a.frame.place ≡ Some c
  pub after : a.frame.lock.wait ≡ true → IsThen a.frame.then
  pub kind : halts a.world.mode ≡ halting

-- the same, where no processor halts
abbrev pub StandsAwake : Acting → Pc → Type 0
StandsAwake a c = StandsIn false a c

-- the world afterwards is sound, with the histories told on, and what is told is allowed
abbrev pub Kept : Acting → World → Tell → Type 0
Kept a after tell =
    IsSoundSpinWorld after (told_on a.histories (told_event a.by a.frame.lock a.to tell))
    × MayFollowIfAny a.rules a.histories (told_event a.by a.frame.lock a.to tell)

-- what a law of a row says of one frame
abbrev pub RowKept : Acting → Pc → Type 0
RowKept a c = Kept a (row_in a.world a.by a.frame c).0 (row_in a.world a.by a.frame c).1

-- what a row's law says where processors halt, or where none does
abbrev pub KeepsIn : Bool → Pc → Type 0
KeepsIn halting c = (a : Acting) → StandsIn halting a c
    → GoesTo a.world a.to (row_in a.world a.by a.frame c).1 → RowKept a c

-- who proves it of every frame that stands at the row, whether processors halt or not, has the law
pub row_keeps_both : (c : Pc) → KeepsIn false c → KeepsIn true c → SpinRowKeeps c
row_keeps_both c awake halting m hs rules w to f sound follows newest live place after goes =
    go (halts m.mode) refl
  where
    a : Acting
    a = record { world = m; histories = hs; rules = rules; by = w; to = to; frame = f }

    stands : (b : Bool) → halts m.mode ≡ b → StandsIn b a c
    stands b e = record {
      sound = sound;
      follows = follows;
      newest = newest;
      live = live;
      place = place;
      after = after;
      kind = e;
    }

    go : (b : Bool) → halts m.mode ≡ b → RowKept a c
    go false e = awake a (stands false e) goes
    go true e = halting a (stands true e) goes

-- the row is one of the families that halt no processor
pub spin_row_keeps : (c : Pc) → stays_awake c ≡ true → KeepsIn false c → SpinRowKeeps c
spin_row_keeps c wakes each =
    row_keeps_both c each
    (λ a at goes.
    absurd (let off =
    (at.sound.registers a.by a.frame at.live).choice.waking c at.place wakes in
    let on = at.kind in grind (arith, off, on)))

-- the row is one of the family that halts processors
pub row_keeps_halting : (c : Pc) → may_halt c ≡ true → KeepsIn true c → SpinRowKeeps c
row_keeps_halting c rests each =
    row_keeps_both c
    (λ a at goes.
    absurd (let on =
    (at.sound.registers a.by a.frame at.live).choice.halting c at.place rests in
    let off = at.kind in grind (arith, off, on))) each

-- no processor halts here
pub awake_here : {a : Acting} {c : Pc} → StandsAwake a c → halts a.world.mode ≡ false
awake_here at = at.kind

-- a frame there does not sleep
pub awake_post : {a : Acting} {c : Pc} {A : Type 0} → StandsAwake a c
    → at_halt (post_of a.frame) ≡ true
    → A
awake_post {a = a} at e =
    absurd (let on = sleeper_halts at.sound a.by a.frame at.live e in let off = at.kind in
    grind (arith, on, off))

module _ {b : Bool} {a : Acting} {c : Pc} (at : StandsIn b a c) where
  pub fit_here : RegistersFit a.world.mode a.frame
  fit_here = at.sound.registers a.by a.frame at.live

  pub phase_here : phase_of a.frame
      ≡ phase_at c (is_some a.frame.me) (node_of a.frame.prev) (node_of a.frame.y)
  phase_here =
      ap (λ (d : Option Pc).
      phase_if d (is_some a.frame.me) (node_of a.frame.prev) (node_of a.frame.y)) at.place

  pub phase_shown : (snapshot a.world).phase a.frame.lock a.by ≡ phase_of a.frame
  phase_shown = ap (phase_on a.frame.lock) at.live ∙ phase_on-here a.frame.lock a.frame refl

  pub own_here : (snapshot a.world).own a.by ≡ node_of a.frame.me
  own_here = ap own_in at.live

  pub slow_here : is_slow a.frame.place ≡ is_slow (Some c)
  slow_here = ap is_slow at.place

  -- who is on the way to the lock does not hold it
  pub held_not : seeks (phase_of a.frame) ≡ true → spins (a.world.held a.by a.frame.lock) ≡ false
  held_not p = (at.sound.agrees.locks a.frame.lock).hold.without a.by (ap seeks phase_shown ∙ p)

  -- who is about to release holds it
  pub held_so : phase_of a.frame ≡ Releases → spins (a.world.held a.by a.frame.lock) ≡ true
  held_so p = (at.sound.agrees.locks a.frame.lock).hold.releases a.by (phase_shown ∙ p)

-- At both rows the laws read the same of a frame, and it needs no register to stand at the second.
pub record ReadAlike (c d : Pc) : Type 0 where
  pub phase : (b : Bool) (prev y : NodeName) → phase_at d b prev y ≡ phase_at c b prev y
  pub slow : is_slow (Some d) ≡ is_slow (Some c)
  pub unlinked : d ≢ G5
  pub unhanded : d ≢ G11
  pub post : (f : Frame) → post_at d (record f { place = Some d }) ≡ post_at c f
  pub was_fixed : chooses c ≡ false
  pub fixed : chooses d ≡ false
  pub awake : may_halt d ≡ false
  pub unaware : is_unaware d ≡ true → is_unaware c ≡ true
  pub plainly : hands_plainly d ≡ true → hands_plainly c ≡ true

-- at a row that chooses nobody no choice is on
pub fixed_stage : (c : Pc) (f : Frame) → chooses c ≡ false → stage_at c f ≡ Rests
fixed_stage C2 f h = cc
fixed_stage C3 f h = cc
fixed_stage C4 f h = cc
fixed_stage C5 f h = cc
fixed_stage C6 f h = cc
fixed_stage C7 f h = cc
fixed_stage C8 f h = cc
fixed_stage C9 f h = cc
fixed_stage C10 f h = cc
fixed_stage _ f h = refl

-- the frame only looks, and goes where all that the laws read is as before
pub looks_kept : {a : Acting} {c : Pc} → StandsAwake a c → (d : Pc) → ReadAlike c d
    → Kept a (lead_on a.world a.by a.frame (Goes d [])) Nothing
looks_kept {a = a} {c = c} at d alike =
    let m = a.world in
    let f = a.frame in
    let g : Frame = record f { place = Some d } in
    let way = m.held a.by f.lock in
    let t : Turn m m a.by f g way = same_turn at.live refl in
    let phase : phase_of g ≡ phase_of f =
    alike.phase (is_some f.me) (node_of f.prev) (node_of f.y) ∙ sym (phase_here at) in
    let step : Step (snapshot m) (snapshot (turned m a.by g f.lock way)) a.by f.lock (phase_of f)
    (phase_of f) (m.word f.lock) (spins way) (spins way) =
    turn_step t (awake_here at) refl phase refl refl refl in
    let stays : Stays (snapshot m) (snapshot (turned m a.by g f.lock way)) a.by =
    turn_stays t refl (alike.slow ∙ sym (slow_here at)) (λ p. refl) in
    let fit : RegistersFit m.mode g =
    fit_goes f g (fit_here at) refl (ap has_node phase)
    (λ e. absurd (alike.unlinked (grind arith))) (λ e. absurd (alike.unhanded (grind arith)))
    (fixed_choice g d refl alike.fixed alike.awake (λ e. at.kind)
    (λ e. (fit_here at).choice.unaware c at.place (alike.unaware e))
    (λ e. (fit_here at).choice.plainly c at.place (alike.plainly e))) in
    let knows = turn_knows t
    (fixed_stage d g alike.fixed
    ∙ sym (ap (λ (o : Option Pc). stage_if o f) at.place ∙ fixed_stage c f alike.was_fixed))
    refl
    (alike.post f ∙ sym (ap (λ (o : Option Pc). post_if o f) at.place)) refl (λ p. refl) in (
      turn_sound t at.sound at.newest (awake_post at) at.sound.plain fit
          (law_same at.sound.agrees (step_same step stays knows (λ n. refl))),
      tt,
    )

-- where a lock is granted the operation ends, or, with a wait lock, it goes on to a row that is
-- none of a spinlock

granted_quiet : (b : Bool) (c : Option Pc) → (b ≡ true → IsThen c) → IsQuiet (if b then c else None)
granted_quiet true c after = quiet_then c (after refl)
granted_quiet false c after = quiet_none None refl

pub granted_place : {b : Bool} {a : Acting} {c : Pc} → StandsIn b a c
    → IsQuiet (led a.frame Granted).place
granted_place {a = a} at = granted_quiet a.frame.lock.wait a.frame.then at.after

pub left_place : {b : Bool} {a : Acting} {c : Pc} → StandsIn b a c
    → IsQuiet (led a.frame Leaves).place
left_place {a = a} at = granted_quiet a.frame.lock.wait a.frame.then at.after

pub quiet_phase : (g : Frame) → IsQuiet g.place → phase_of g ≡ Idle
quiet_phase g q = q.phase (is_some g.me) (node_of g.prev) (node_of g.y)

pub quiet_off : (g : Frame) → IsQuiet g.place → post_of g ≡ Off
quiet_off g q = idle_off g (quiet_phase g q)

pub placeless_phase : (g : Frame) → g.place ≡ None → phase_of g ≡ Idle
placeless_phase g e =
    ap (λ (c : Option Pc). phase_if c (is_some g.me) (node_of g.prev) (node_of g.y)) e

-- A row after which the operation goes on: n is the world after its store, g the frame, r and r'
-- its phases, and x the lock's word.
pub record Going (a : Acting) (n : World) (g : Frame) (r r' : Phase) (x : Fields) : Type 0 where
  pub turn : Turn a.world n a.by a.frame g (a.world.held a.by a.frame.lock)
  pub word : n.word a.frame.lock ≡ x
  pub plain : IsPlain n
  pub was : phase_of a.frame ≡ r
  pub now : phase_of g ≡ r'
  pub on_way : seeks r ≡ true
  pub noded : has_node r' ≡ has_node r
  pub me : g.me ≡ a.frame.me
  pub met : g.place ≡ Some G5 → is_some g.prev ≡ true
  pub next : g.place ≡ Some G11 → is_some g.y ≡ true
  pub choice : ChoiceFits a.world.mode g
  pub slow : is_slow g.place ≡ is_slow a.frame.place
  pub queued : (p : ℕ) → n.queued p ≡ a.world.queued p

-- the world after it
abbrev pub gone_on : Acting → World → Frame → World
gone_on a n g = turned n a.by g a.frame.lock (a.world.held a.by a.frame.lock)

pub going_step : {a : Acting} {c : Pc} {n : World} {g : Frame} {r r' : Phase} {x : Fields}
    → StandsAwake a c → Going a n g r r' x
    → Step (snapshot a.world) (snapshot (gone_on a n g)) a.by a.frame.lock r r' x false false
going_step {a = a} {n = n} {g = g} at on =
    let held = held_not at (ap seeks on.was ∙ on.on_way) in
    turn_step on.turn (awake_here at) on.was on.now on.word held held

pub going_stays : {a : Acting} {n : World} {g : Frame} {r r' : Phase} {x : Fields}
    → Going a n g r r' x → Stays (snapshot a.world) (snapshot (gone_on a n g)) a.by
going_stays {a = a} {n = n} {g = g} on = turn_stays on.turn on.me on.slow on.queued

-- where the laws say that all agrees, the world is sound
pub goes_kept : {a : Acting} {c : Pc} {n : World} {g : Frame} {r r' : Phase} {x : Fields}
    → StandsAwake a c → Going a n g r r' x → (tell : Tell)
    → SnapshotAgrees (snapshot (gone_on a n g))
    (told_on a.histories (told_event a.by a.frame.lock a.to tell))
    → MayFollowIfAny a.rules a.histories (told_event a.by a.frame.lock a.to tell)
    → Kept a (gone_on a n g) tell
goes_kept {a = a} {n = n} {g = g} at on tell agrees allowed =
    let fit = fit_goes a.frame g (fit_here at) on.me
    (ap has_node on.now ∙ on.noded ∙ sym (ap has_node on.was)) on.met on.next on.choice in
    (turn_sound on.turn at.sound at.newest (awake_post at) on.plain fit agrees, allowed)

-- A row that ends the operation, or has taken its wait lock: n is the world after its store, g the
-- frame, which does nothing for a spinlock and has no node, x the lock's word, and way how its
-- waiter holds the lock.
pub record Ending (a : Acting) (n : World) (g : Frame) (r : Phase) (x : Fields)
    (way : Option Manner) : Type 0 where
  pub turn : Turn a.world n a.by a.frame g way
  pub word : n.word a.frame.lock ≡ x
  pub plain : IsPlain n
  pub was : phase_of a.frame ≡ r
  pub place : IsQuiet g.place
  pub me : g.me ≡ None

-- the world after it
abbrev pub world_ended : Acting → World → Frame → Option Manner → World
world_ended a n g way = turned n a.by g a.frame.lock way

pub ending_step : {a : Acting} {n : World} {g : Frame} {r : Phase} {x : Fields} {h h' : Bool}
    {way : Option Manner}
    → halts a.world.mode ≡ false → Ending a n g r x way → spins (a.world.held a.by a.frame.lock) ≡ h
    → spins way ≡ h'
    → Step (snapshot a.world) (snapshot (world_ended a n g way)) a.by a.frame.lock r Idle x h h'
ending_step {a = a} {n = n} {g = g} {way = way} awake on had has =
    turn_step on.turn awake on.was (on.place.phase (is_some g.me) (node_of g.prev) (node_of g.y))
    on.word had has

-- a frame that was outside of the slow path
pub ending_stays : {a : Acting} {c : Pc} {n : World} {g : Frame} {r : Phase} {x : Fields}
    {way : Option Manner}
    → StandsAwake a c → Ending a n g r x way → g.me ≡ a.frame.me → is_slow (Some c) ≡ false
    → ((p : ℕ) → n.queued p ≡ a.world.queued p)
    → Stays (snapshot a.world) (snapshot (world_ended a n g way)) a.by
ending_stays {a = a} {n = n} {g = g} {way = way} at on me fast queued =
    turn_stays on.turn me (on.place.fast ∙ sym (slow_here at ∙ fast)) queued

pub ends_kept : {a : Acting} {c : Pc} {n : World} {g : Frame} {r : Phase} {x : Fields}
    {way : Option Manner}
    → StandsAwake a c → Ending a n g r x way → (tell : Tell)
    → SnapshotAgrees (snapshot (world_ended a n g way))
    (told_on a.histories (told_event a.by a.frame.lock a.to tell))
    → MayFollowIfAny a.rules a.histories (told_event a.by a.frame.lock a.to tell)
    → Kept a (world_ended a n g way) tell
ends_kept {a = a} {n = n} {g = g} {way = way} at on tell agrees allowed =
    let fit = fit_quiet g on.place on.me in
    (turn_sound on.turn at.sound at.newest (awake_post at) on.plain fit agrees, allowed)

-- From the row c to the row d a frame's phase goes from r to r', on its way; and it needs no
-- register to stand at d.
pub record LeadsTo (mode : Mode) (f : Frame) (c d : Pc) (r r' : Phase) : Type 0 where
  pub was : phase_at c (is_some f.me) (node_of f.prev) (node_of f.y) ≡ r
  pub now : phase_at d (is_some f.me) (node_of f.prev) (node_of f.y) ≡ r'
  pub on_way : seeks r ≡ true
  pub noded : has_node r' ≡ has_node r
  pub slow : is_slow (Some d) ≡ is_slow (Some c)
  pub unlinked : d ≢ G5
  pub unhanded : d ≢ G11
  pub fixed : chooses d ≡ false
  pub awake : may_halt d ≡ false
  pub unaware : is_unaware d ≡ true → (is_unaware c ≡ true) ⊎ (f.second ≡ None)
  pub plainly : hands_plainly d ≡ true → moves_aside mode ≡ false

module _ {a : Acting} {c d : Pc} {r r' : Phase} (at : StandsAwake a c)
    (leads : LeadsTo a.world.mode a.frame c d r r') where
  abbrev placed : Frame
  placed = record a.frame { place = Some d }

  placed_choice : ChoiceFits a.world.mode placed
  placed_choice =
      fixed_choice placed d refl leads.fixed leads.awake (λ e. at.kind)
      (λ e. elim (leads.unaware e) [
        | inl u ↦ (fit_here at).choice.unaware c at.place u
        | inr n ↦ n
      ]) leads.plainly

  -- it knows of the second queue what it knew
  pub placed_kept : {n : World}
      → Turn a.world n a.by a.frame placed (a.world.held a.by a.frame.lock)
      → (snapshot (gone_on a n placed)).kept a.by ≡ (snapshot a.world).kept a.by
  placed_kept t = turn_kept t ∙ sym (ap kept_in at.live)

  -- a row that stores a word
  pub word_going : (x : Fields) → x.locked ≢ Slow
      → Going a (put_word a.world a.frame.lock x) placed r r' x
  word_going x quick =
      record {
        turn = word_turn at.live refl x;
        word = put_word-here a.world.word a.frame.lock x;
        plain = word_plain a.world a.frame.lock x at.sound.plain quick;
        was = phase_here at ∙ leads.was;
        now = leads.now;
        on_way = leads.on_way;
        noded = leads.noded;
        me = refl;
        met = λ e. absurd (leads.unlinked (grind arith));
        next = λ e. absurd (leads.unhanded (grind arith));
        choice = placed_choice;
        slow = leads.slow ∙ sym (slow_here at);
        queued = λ p. refl;
      }

  -- a row that only looks
  pub look_going : Going a a.world placed r r' (a.world.word a.frame.lock)
  look_going =
      record {
        turn = same_turn at.live refl;
        word = refl;
        plain = at.sound.plain;
        was = phase_here at ∙ leads.was;
        now = leads.now;
        on_way = leads.on_way;
        noded = leads.noded;
        me = refl;
        met = λ e. absurd (leads.unlinked (grind arith));
        next = λ e. absurd (leads.unhanded (grind arith));
        choice = placed_choice;
        slow = leads.slow ∙ sym (slow_here at);
        queued = λ p. refl;
      }

  -- a row that stores a node
  pub node_going : (n : NodeName) (y : Node) → y.runs ≤ a.world.threshold
      → (moves_aside a.world.mode ≡ false → (k : NodeName) → y.flag ≢ Second k)
      → Going a (put_node a.world n y) placed r r' (a.world.word a.frame.lock)
  node_going n y few sole =
      record {
        turn = node_turn at.live refl n y;
        word = refl;
        plain = node_plain a.world n y at.sound.plain few sole;
        was = phase_here at ∙ leads.was;
        now = leads.now;
        on_way = leads.on_way;
        noded = leads.noded;
        me = refl;
        met = λ e. absurd (leads.unlinked (grind arith));
        next = λ e. absurd (leads.unhanded (grind arith));
        choice = placed_choice;
        slow = leads.slow ∙ sym (slow_here at);
        queued = λ p. refl;
      }

-- the lock's word may be told otherwise
pub going_word : {a : Acting} {n : World} {g : Frame} {r r' : Phase} {x y : Fields}
    → Going a n g r r' x → x ≡ y → Going a n g r r' y
going_word {a = a} {n = n} {g = g} {r = r} {r' = r'} on e =
    subst (λ (z : Fields). Going a n g r r' z) e on

-- who is in the slow path is counted
pub some_queued : {b : Bool} {a : Acting} {c : Pc} → StandsIn b a c → is_slow (Some c) ≡ true
    → 0 < a.world.queued a.by.cpu
some_queued {a = a} at slow =
    let s = snapshot a.world in
    let counted = at.sound.agrees.nodes.counted a.by.cpu in
    let rises =
    before_lt s.slow a.by.cpu a.by.ctx 6 (ap slow_in at.live ∙ slow_here at ∙ slow) at.newest.low in
    omega (arith, counted, rises)

-- the world in which the waiter is counted off
abbrev pub counted_off : Acting → World → World
counted_off a n = put_queued n a.by.cpu (a.world.queued a.by.cpu - 1)

-- a frame that was in the slow path leaves it
pub ending_leaves : {a : Acting} {c : Pc} {n : World} {g : Frame} {r : Phase} {x : Fields}
    {way : Option Manner}
    → StandsAwake a c → Ending a (counted_off a n) g r x way → is_slow (Some c) ≡ true
    → ((p : ℕ) → n.queued p ≡ a.world.queued p)
    → LeavesSlowPath (snapshot a.world) (snapshot (world_ended a (counted_off a n) g way)) a.by
ending_leaves {a = a} {n = n} {g = g} {way = way} at on slow queued =
    let p = a.by.cpu in
    let i = a.world.queued p - 1 in
    let one = some_queued at slow in
    turn_leaves on.turn at.newest (slow_here at ∙ slow) on.place.fast
    (let here = put_number-here n.queued p i in
    omega (arith, here, one)) (λ q ne. put_number-else n.queued p q i ne ∙ queued q)
