-- A frame at a row of a sound world in which processors halt: what a row makes of the world, its
-- posts, the kicks that are owed, and what its frame knows.
use Rattle.std.proofs.Common.{◌≡◌, ◌≢◌, ◌<◌, inl, ℕ, Option, Some, None, Bool, true, false, arith}
use Rattle.std.proofs.Common.{ap, ◌-◌, refl, sym, ◌∙◌, subst, slice_get, is_some, ◌≤◌}
use Rattle.lk_law.proofs.Names.{Fields, NodeName, Manner, LockName, Waiter, node_of, Tell, Flag}
use Rattle.lk_law.proofs.Names.{Second, Frame, Node, Pc, G5, G11, State, is_set, LeavesSlowPath}
use Rattle.lk_law.proofs.Names.{Owed, SnapshotAgrees, Stays, Step, halts, node_state}
use Rattle.lk_law.proofs.Names.{MayFollowIfAny, chooses, is_slow, may_halt, stays_awake, Phase}
use Rattle.lk_law.proofs.Names.{has_node, leads, Waits, phase_at, phase_of, post_at, post_if}
use Rattle.lk_law.proofs.Names.{post_of, post_on, snapshot, stage_if, stage_of, Post, at_halt}
use Rattle.lk_law.proofs.Names.{Kicks, RegistersFit, counts_turns, hands_plainly, is_unaware}
use Rattle.lk_law.proofs.Names.{names_next, needs_hash, sees_peer, Moves, Rewrites, spins, IsPlain}
use Rattle.lk_law.proofs.Names.{Rests, put_entry, put_node, put_queued, told_event, told_on, World}
use Rattle.lk_law.proofs.common.Acting.{Acting, StandsIn, Kept, fit_here, phase_here, phase_shown}
use Rattle.lk_law.proofs.common.Acting.{own_here, slow_here, some_queued, fixed_stage}
use Rattle.lk_law.proofs.common.Choices.{unchosen}
use Rattle.lk_law.proofs.common.Puts.{put_number-here, put_number-else, put_word-else, put_rewrites}
use Rattle.lk_law.proofs.common.TurnSteps.{turn_moves, turn_step_of, turn_stays, turn_leaves}
use Rattle.lk_law.proofs.common.TurnSteps.{turn_post, turn_sound, turn_knows}
use Rattle.lk_law.proofs.common.Turns.{Turn, turned, queued_turn, node_turn}
use Rattle.lk_law.proofs.common.Worlds.{world_owes, sole_sleeper, post_on-here}
use Rattle.lk_law.proofs.{pv.Laws.{halts_flat, para_queue}, pv.Outside.Posted}
use Rattle.lk_law.proofs.spin.Laws.{law_same, step_same}

halt_facts : (d : Pc) → may_halt d ≡ true
    → (chooses d ≡ false) × (stays_awake d ≡ false) × (hands_plainly d ≡ false) × (d ≢ G5)
    × (d ≢ G11)
halt_facts d h = (
  grind arith,
  grind arith,
  grind arith,
  (λ e. grind (arith, ap may_halt e, h)),
  (λ e. grind (arith, ap may_halt e, h)),
)

-- a frame that goes on to a row at which processors may halt
pub fit_halting : {b : Bool} {a : Acting} {c : Pc} (at : StandsIn b a c) → halts a.world.mode ≡ true
    → (g : Frame) (d : Pc) → g.place ≡ Some d → may_halt d ≡ true → g.me ≡ a.frame.me
    → has_node (phase_of g)
    ≡ has_node (phase_at c (is_some a.frame.me) (node_of a.frame.prev) (node_of a.frame.y))
    → (needs_hash d ≡ true → g.hashed ≡ true) → (names_next d ≡ true → is_some g.y ≡ true)
    → (sees_peer d ≡ true → is_some g.prev ≡ true) → (counts_turns d ≡ true → 0 < g.left)
    → (is_unaware d ≡ true → g.second ≡ None) → RegistersFit a.world.mode g
fit_halting at on g d place halting me noded hashed named peer turns unaware =
    let fit = fit_here at in
    let q = halt_facts d halting in
    let back = noded ∙ sym (ap has_node (phase_here at)) in
    record {
      me = λ e. ap is_some me ∙ fit.me (sym back ∙ e);
      bare = λ e. me ∙ fit.bare (sym back ∙ e);
      met = λ e. absurd (q.3 (let z : Some d ≡ Some G5 = sym place ∙ e in grind (arith, z)));
      next = λ e. absurd (q.4 (let z : Some d ≡ Some G11 = sym place ∙ e in grind (arith, z)));
      choice = unchosen g d place q.0 (λ e. on) (λ e. absurd (let z = q.1 in grind (arith, z, e)))
          hashed named peer turns unaware (λ e. absurd (let z = q.2 in grind (arith, z, e)));
    }

-- where processors halt any byte may be stored
pub halting_plain : (n : World) → halts n.mode ≡ true
    → ((k j : NodeName) → (n.node k).flag ≢ Second j)
    → ((k : NodeName) → (n.node k).runs ≤ n.threshold) → IsPlain n
halting_plain n on flags runs =
    record {
      byte = λ off. absurd (grind (arith, on, off));
      flag = λ flat k j. flags k j;
      runs = runs;
    }

module _ {a : Acting} {c : Pc} (at : StandsIn true a c) where
  abbrev m : World
  m = a.world

  abbrev f : Frame
  f = a.frame

  abbrev l : LockName
  l = a.frame.lock

  abbrev phase_before : Phase
  phase_before = phase_at c (is_some a.frame.me) (node_of a.frame.prev) (node_of a.frame.y)

  pub post_here : (snapshot m).post l a.by ≡ post_at c f
  post_here =
      ap (post_on l) at.live ∙ post_on-here l f refl ∙ ap (λ (o : Option Pc). post_if o f) at.place

  pub post_mine : post_of f ≡ post_at c f
  post_mine = ap (λ (o : Option Pc). post_if o f) at.place

  module _ {n : World} {g : Frame} {way : Option Manner} (t : Turn m n a.by f g way) where
    abbrev after : World
    after = turned n a.by g l way

    pub hm_posts : Moves ((snapshot m).post l) ((snapshot after).post l) a.by (post_at c f)
        (post_of g)
    hm_posts = record {
      was = post_here;
      now = turn_post t;
      others = λ u ne. ap (post_on l) ((turn_moves t).others u ne);
    }

    pub hm_posted : n.entry l ≡ m.entry l → ((p : ℕ) → n.kicked p ≡ m.kicked p)
        → Posted (snapshot m) (snapshot after) a.by l (post_at c f) (post_of g)
    hm_posted entry kicked =
        record { was = post_here; now = turn_post t; entry = entry; kicked = kicked }

    -- the kicks that are owed, where the row makes none
    pub hm_owed : ((k : NodeName) → post_at c f ≢ Kicks k) → ((p : ℕ) → n.kicked p ≡ m.kicked p)
        → (p : ℕ) → Owed (snapshot m) p → Owed (snapshot after) p
    hm_owed other kicked =
        world_owes m after a.by f g (turn_moves t) (λ k e. other k (sym post_mine ∙ e)) kicked

    -- the step of a row, whose frame may fall asleep, since it is its processor's newest
    pub hm_step : {x : Fields} {h h' : Bool} → n.word l ≡ x → spins (m.held a.by l) ≡ h
        → spins way ≡ h' → ((p : ℕ) → Owed (snapshot m) p → Owed (snapshot after) p)
        → Step (snapshot m) (snapshot after) a.by l phase_before (phase_of g) x h h'
    hm_step word had has owed =
        turn_step_of t (phase_here at) refl word had has (λ on k u ne h. owed u.cpu)
        (λ on h. sole_sleeper at.sound at.newest at.live)

    -- the same, by the phases and the posts that are shown
    pub hm_step_as : {r r' : Phase} {x : Fields} {h h' : Bool} → phase_of f ≡ r → phase_of g ≡ r'
        → n.word l ≡ x → spins (m.held a.by l) ≡ h → spins way ≡ h'
        → ((p : ℕ) → Owed (snapshot m) p → Owed (snapshot after) p)
        → Step (snapshot m) (snapshot after) a.by l r r' x h h'
    hm_step_as was now word had has owed =
        turn_step_of t was now word had has (λ on k u ne h. owed u.cpu)
        (λ on h. sole_sleeper at.sound at.newest at.live)

    pub hm_posted_as : {p q : Post} → post_at c f ≡ p → post_of g ≡ q → n.entry l ≡ m.entry l
        → ((i : ℕ) → n.kicked i ≡ m.kicked i) → Posted (snapshot m) (snapshot after) a.by l p q
    hm_posted_as was now entry kicked =
        record { was = post_here ∙ was; now = turn_post t ∙ now; entry = entry; kicked = kicked }

    pub hm_stays : g.me ≡ f.me → is_slow g.place ≡ is_slow (Some c)
        → ((p : ℕ) → n.queued p ≡ m.queued p) → Stays (snapshot m) (snapshot after) a.by
    hm_stays me slow queued = turn_stays t me (slow ∙ sym (slow_here at)) queued

    pub hm_kept : (at_halt (post_at c f) ≡ true → at_halt (post_of g) ≡ true) → IsPlain n
        → RegistersFit m.mode g → (tell : Tell)
        → SnapshotAgrees (snapshot after) (told_on a.histories (told_event a.by l a.to tell))
        → MayFollowIfAny a.rules a.histories (told_event a.by l a.to tell) → Kept a after tell
    hm_kept still plain fit tell agrees allowed = (
      turn_sound t at.sound at.newest (λ e. still (sym (ap at_halt post_mine) ∙ e)) plain fit
          agrees,
      allowed,
    )

  -- the world in which the waiter is counted off
  module _ {n : World} {g : Frame} {way : Option Manner} (t : Turn m n a.by f g way) where
    abbrev off : World
    off = put_queued n a.by.cpu (m.queued a.by.cpu - 1)

    pub off_turn : Turn m off a.by f g way
    off_turn = queued_turn a.by.cpu _ t

    pub off_leaves : is_slow (Some c) ≡ true → is_slow g.place ≡ false
        → ((p : ℕ) → n.queued p ≡ m.queued p)
        → LeavesSlowPath (snapshot m) (snapshot (turned off a.by g l way)) a.by
    off_leaves slow place queued =
        let p = a.by.cpu in
        let i = m.queued p - 1 in
        let one = some_queued at slow in
        turn_leaves off_turn at.newest (slow_here at ∙ slow) place
        (let here = put_number-here n.queued p i in omega (arith, here, one))
        (λ q ne. put_number-else n.queued p q i ne ∙ queued q)

  -- the row changes nothing that the laws read
  pub hm_same : {n : World} {g : Frame} → chooses c ≡ false
      → (t : Turn m n a.by f g (m.held a.by l)) → phase_of g ≡ phase_before
      → post_of g ≡ post_at c f → stage_of g ≡ Rests → g.second ≡ f.second → g.me ≡ f.me
      → is_slow g.place ≡ is_slow (Some c) → n.word ≡ m.word → n.node ≡ m.node → n.entry ≡ m.entry
      → ((p : ℕ) → n.kicked p ≡ m.kicked p) → ((p : ℕ) → n.queued p ≡ m.queued p)
      → ((k : NodeName) → post_at c f ≢ Kicks k)
      → SnapshotAgrees (snapshot (turned n a.by g l (m.held a.by l))) a.histories
  hm_same fixed t phase post stage second me slow word node entry kicked queued other =
      let back = ap (λ (o : Option Pc). stage_if o f) at.place ∙ fixed_stage c f fixed in
      law_same at.sound.agrees
      (step_same (hm_step_as t (phase_here at) phase (ap (λ (h : LockName → Fields). h l) word) refl
      refl (hm_owed t other kicked)) (hm_stays t me slow queued)
      (turn_knows t (stage ∙ sym back) second (post ∙ sym post_mine)
      (ap (λ (h : LockName → Option NodeName). h l) entry) kicked)
      (λ k. ap (λ (h : NodeName → Node). h k) node))

  -- the flags stay plain
  pub flags_here : (k j : NodeName) → (m.node k).flag ≢ Second j
  flags_here k j = at.sound.plain.flag (halts_flat m.mode at.kind) k j

-- more stores of rows
module _ {m : World} {w : Waiter} {f g : Frame} {way : Option Manner} (live : m.frame w ≡ Some f)
    (lock : g.lock ≡ f.lock) where
  pub state_turn : (n : NodeName) (x : State)
      → Turn m (put_node m n (record (m.node n) { state = x })) w f g way
  state_turn n x = node_turn live lock n (record (m.node n) { state = x })

  pub entry_turn : (x : Option NodeName) → Turn m (put_entry m f.lock x) w f g way
  entry_turn x =
      record {
        live = live;
        frames = refl;
        holds = refl;
        mode = refl;
        turns = refl;
        threshold = refl;
        format = refl;
        sockets = refl;
        entries = λ k ne. put_word-else m.entry f.lock k x ne;
        halted = λ p h. inl h;
        lock = lock;
        words = λ k ne. refl;
      }

module _ {a : Acting} {c : Pc} (at : StandsIn true a c) where
  -- the own node's state
  pub state_here : node_state (snapshot a.world) a.by ≡ (a.world.node (node_of a.frame.me)).state
  state_here = ap (λ (n : NodeName). (a.world.node n).state) (own_here at)

  -- a store of it
  pub writes_here : (x : State)
      → Rewrites a.world.node
      (put_node a.world (node_of a.frame.me)
      (record (a.world.node (node_of a.frame.me)) { state = x })).node
      ((snapshot a.world).own a.by)
      (record (a.world.node ((snapshot a.world).own a.by)) { state = x })
  writes_here x =
      let n = node_of a.frame.me in
      let after = (put_node a.world n (record (a.world.node n) { state = x })).node in
      subst (λ (k : NodeName).
      Rewrites a.world.node after k (record (a.world.node k) { state = x })) (sym (own_here at))
      (put_rewrites a.world.node n (record (a.world.node n) { state = x }))

  set_leads : (x : Flag) → is_set x ≡ true → leads Waits x ≡ true
  set_leads x h = grind arith

  unset_follows : (x : Flag) → is_set x ≡ false → leads Waits x ≡ false
  unset_follows x h = grind arith

  -- a waiter whose flag is set leads the queue; one whose flag is not does not
  pub flag_leads : phase_at c (is_some a.frame.me) (node_of a.frame.prev) (node_of a.frame.y)
      ≡ Waits
      → is_set (a.world.node (node_of a.frame.me)).flag ≡ true
      → leads Waits ((a.world.node ((snapshot a.world).own a.by)).flag) ≡ true
  flag_leads waits set = ap (λ (n : NodeName). leads Waits ((a.world.node n).flag)) (own_here at)
      ∙ set_leads (a.world.node (node_of a.frame.me)).flag set

  pub flag_behind : phase_at c (is_some a.frame.me) (node_of a.frame.prev) (node_of a.frame.y)
      ≡ Waits
      → is_set (a.world.node (node_of a.frame.me)).flag ≡ false
      → slice_get (a.histories a.frame.lock).main 0 ≢ Some a.by
  flag_behind waits unset front =
      let lead = (para_queue at.sound.agrees at.kind a.frame.lock).ends.first a.by front in
      let not : leads Waits ((a.world.node ((snapshot a.world).own a.by)).flag) ≡ false =
      ap (λ (n : NodeName). leads Waits ((a.world.node n).flag)) (own_here at)
      ∙ unset_follows (a.world.node (node_of a.frame.me)).flag unset in
      let so : leads Waits ((a.world.node ((snapshot a.world).own a.by)).flag) ≡ true =
      sym (ap (λ (r : Phase). leads r ((a.world.node ((snapshot a.world).own a.by)).flag))
      (phase_shown at ∙ phase_here at ∙ waits)) ∙ lead in
      grind (arith, not, so)
