-- What the step calls on the words of nodes ask.
use Rattle.std.proofs.Common.{◌≡◌, ◌≢◌, inl, inr, ℕ, ◌<◌, ◌≤◌, get_or, set, Option, Some, None, ◌⊎◌}
use Rattle.std.proofs.Common.{true, refl, sym, ap, ◌∙◌, subst, arith, IfSome, Bool}
use Rattle.lk_domain.proofs.Names.{Allows, Me, State, Step, keeps, get_elem?, some, NodeName}
use Rattle.lk_domain.proofs.Names.{LockName, Waiter, node_of, target, Flag, Go, Second, Unset, Node}
use Rattle.lk_domain.proofs.Names.{Pc, G1, G5, G6, G10, G11, Verb, same_node-self, halts}
use Rattle.lk_domain.proofs.Names.{moves_aside, Flagged, Linked, Met, Named, Number, held_lock}
use Rattle.lk_domain.proofs.Names.{stored_in, looks_along, Uses, IsSoundSpinWorld, stores_flag}
use Rattle.lk_domain.proofs.Names.{stores_next, World, Begins, Calls, StandsOn, acting, grip_of}
use Rattle.lk_domain.proofs.Names.{is_inner, plain, row_of, slows, terms_of, Keeps, Knows, Slot}
use Rattle.lk_domain.proofs.Names.{turned, Enters, Hands, SeesFlag, SeesLink, locks_of, turned_of}
use Rattle.lk_domain.proofs.Names.{went, AreTold, Runs, node_name, waiter, Stand, IsNumbered}
use Rattle.lk_domain.proofs.Names.{own_number, IsNode, OfLock, OfNode, flag_number, has_part}
use Rattle.lk_domain.proofs.Names.{is_last, link_number, marked, name_number, node_at, node_number}
use Rattle.lk_domain.proofs.Names.{part_index, stored_number, word_at, Part, Plan, View}
use Rattle.lk_rows.specs.{Moves.is_node as has_name, rows.Queue.{flag_row, next_row}}
use Rattle.lk_law.proofs.{cna.Named.first_is_used, common.Knows.{row_knows, next_is_used}}
use Rattle.lk_law.proofs.{common.Users.node_is_ones, running.Nodes.{link_is_used, prev_is_used}}
use Rattle.lk_law.specs.{Known.KnownNodes, SoundWorld.spin_part}
use Rattle.lk_domain.proofs.{Acting.{acting_is, acts_on, begins_on}, Outs.acting_holds}
use Rattle.lk_domain.proofs.journals.Purses.{alters_at, knows_after, knows_same}
use Rattle.lk_domain.proofs.queue.NodeStores.{met_of, met_there, flag_here, next_here}
use Rattle.lk_domain.proofs.queue.OnNodes.{IsUsed}
use Rattle.lk_domain.proofs.queue.Relinks.{remarked, remarked_here, remarked_else, relinked, alone}
use Rattle.lk_domain.proofs.queue.Unfreed.{G1_frees, G5_frees, G6_frees, G10_frees, G11_frees}
use Rattle.lk_domain.proofs.rows.Changes.{IsAt, next_changes, node_part, row_changes}
use Rattle.lk_domain.proofs.{rows.Poised.Poised, rows.Sights.{IsSeen, Sees}}
use Rattle.lk_domain.proofs.rows.Users.{AreRight, KeepsMarks, IsTrue}
use Rattle.lk_domain.proofs.words.LockPlays.{MayFree, acting_any, acting_sole}
use Rattle.lk_domain.proofs.words.NodeWords.{part_at, stored_plain, stored_zero}
use Rattle.lk_domain.proofs.{words.OnWords.seated, words.Written.{IsBare, bare}}
use Rattle.lk_domain.specs.NodePlays.{IsFlagNode, readied_by, Readies, Links}
use Rattle.lk_domain.specs.declared.part.Part.TheVariants as part
use Rattle.lk_domain.proofs.rows.Fresh as fresh
use Rattle.lk_domain.proofs.rows.Lands as lands
use Rattle.lk_domain.proofs.queue.Entries as entry
use Rattle.lk_domain.proofs.queue.OnNodes as on

-- the ledger part of a step of the newest call
module _ (k : Plan) (id : ℕ) (m : Me Slot View) (number : IsNumbered m.0) (v : Verb) (lock : LockName) (pc : Pc)
    (acts : StandsOn m.0.calls v lock pc) (s : State Slot View) (both : Stand k s)
    (me : get_elem? s.views id ≡ some m.0) where
  pub planned : m.0.who.plan ≡ k
  planned = both.runs.planned id m.0 number.0 me number.1

  abbrev pub acts' : StandsOn (acting k.mode m.0.calls v lock.index) v lock pc
  acts' = acts_on m.0.calls v lock pc acts k.mode

  abbrev pub asks : Begins k m.0.calls v lock.index
  asks = begins_on m.0.calls v lock pc acts k

  -- these are the calls after the row
  pub calls_are : (x : Met) → (went m.0 x).calls ≡ row_of (terms_of k) number.0 (acting k.mode m.0.calls v lock.index) x
  calls_are x =
      (λ j. row_of (terms_of (planned j)) (own_number (number.1 j)) m.0.calls x)
      ∙ ap (λ (c : Calls). row_of (terms_of k) number.0 c x) (sym (acting_is m.0.calls v lock pc acts k.mode))

  module _ (unseen : IsSeen pc (target pc acts.frame) (acting k.mode m.0.calls v lock.index).runs)
      (frees : MayFree pc → ⊥) where
    abbrev pub x : Met
    x = lands.x k s both.runs id m.0 me number.0 number.1 v lock pc asks acts' unseen

    -- the world in which the row is made
    abbrev pub made_in : World
    made_in = lands.m k s both.runs id m.0 me number.0 number.1 v lock pc asks acts' unseen

    pub knows : (y : Met) → plain y ≡ x → IsTrue made_in pc y → Knows k both.keeps.journal (went m.0 y)
    knows y is true_ =
        let c : Calls = acting k.mode m.0.calls v lock.index in
        let f = acts'.frame in
        let t = target pc f in
        let u : View = went m.0 y in
        let o = lands.o k s both.runs id m.0 me number.0 number.1 v lock pc asks acts' unseen in
        let trail = lands.trail k s both.runs id m.0 me number.0 number.1 v lock pc asks acts' unseen y in
        let ledger : u.ledger ≡ turned m.0.ledger (held_lock t f) (grip_of t o) trail =
        (λ j. turned_of (terms_of (planned j)) (own_number (number.1 j)) m.0.calls y m.0.ledger)
        ∙ (ap (λ (z : Calls). turned_of (terms_of k) number.0 z y m.0.ledger) (sym (acting_is m.0.calls v lock pc acts k.mode))
        ∙ fresh.turns k s both.runs id m.0 me number.0 number.1 v lock pc asks acts' unseen y is true_ m.0.ledger) in
        let rowed =
        calls_are y ∙ lands.rowed k s both.runs id m.0 me number.0 number.1 v lock pc asks acts' unseen y is true_ in
        knows_after k both.keeps.journal m.0 u number.0 number.1 (both.keeps.knows id m.0 me) c f.ctx (held_lock t f) trail
        (acting_any k.mode m.0.calls v lock.index) (acting_sole k.mode m.0.calls v lock.index)
        (acting_holds k.mode m.0.calls v lock.index) refl (grip_of t o) ledger
        (ap (λ (z : Calls). z.holds) rowed)
        (fresh.fresh k s both.runs id m.0 me number.0 number.1 v lock pc asks acts' unseen)
        (λ e. absurd (frees (lands.m k s both.runs id m.0 me number.0 number.1 v lock pc asks acts' unseen, waiter number.0 f.ctx, f, e)))

    pub kept : (y : Met) → plain y ≡ x → IsTrue made_in pc y → (j n : ℕ) → IsBare k j
        → Keeps k (record { words = set s.words j n; homes = s.homes; views = set s.views id (went m.0 y) })
    kept y is true_ j n bare =
        let purse : fresh.SamePurse m.0.ledger (went m.0 y).ledger =
        fresh.turned_purse m.0.who.plan (own_number m.0.who.number) m.0.calls y m.0.ledger in
        alters_at k s both.keeps id m.0 (went m.0 y) j n bare me purse.share (knows y is true_) purse.out refl

-- a step of the newest call on a word of a node
module _ (k : Plan) (slots id : ℕ) (m : Me Slot View) (number : IsNumbered m.0) (v : Verb) (lock : LockName) (pc : Pc)
    (acts : StandsOn m.0.calls v lock pc) (a : NodeName) (q : Part) (near : IsNode k a)
    (entry : pc ≢ G1) (calm : Sees pc m.0.calls.runs) (target_is : IsAt acts.frame (target pc acts.frame) (OfNode a q))
    (frees : MayFree pc → ⊥) (s : State Slot View) (both : Stand k s)
    (me : get_elem? s.views id ≡ some m.0) where
  abbrev p : ℕ
  p = number.0

  abbrev st : Runs k s
  st = both.runs

  abbrev go : StandsOn (acting k.mode m.0.calls v lock.index) v lock pc
  go = acts' k id m number v lock pc acts s both me

  abbrev ask : Begins k m.0.calls v lock.index
  ask = asks k id m number v lock pc acts s both me

  abbrev pub calm' : Sees pc (acting k.mode m.0.calls v lock.index).runs
  calm' = subst (λ (c : Calls). Sees pc c.runs) (sym (acting_is m.0.calls v lock pc acts k.mode)) calm

  module _ (has : has_part k.mode q ≡ true) where
    abbrev unseen : IsSeen pc (target pc acts.frame) (acting k.mode m.0.calls v lock.index).runs
    unseen = on.unseen k s st id m.0 me p number.1 v lock pc ask go a q near has entry calm' target_is

    -- the world in which the row is made
    abbrev pub at : Poised st.world p (acting k.mode m.0.calls v lock.index)
    at = lands.at k s st id m.0 me p number.1 v lock pc ask go unseen

    abbrev pub world : World
    world = at.acted.world

    pub sound : IsSoundSpinWorld world (spin_part world.kind at.acted.histories)
    sound = at.acted.sound.spins

    pub live : world.frame (waiter p acts.frame.ctx) ≡ Some acts.frame
    live = lands.live k s st id m.0 me p number.1 v lock pc ask go unseen

    pub known : KnownNodes pc acts.frame world.node
    known = (row_knows pc world _ (waiter p acts.frame.ctx) acts.frame sound live acts.place).1

    -- a node that is used is one of the domain
    pub is_node : (b : NodeName) → IsUsed world b → IsNode m.0.who.plan b
    is_node b u =
        let low = seated k s st id m.0 me p number.1 world at.acted.others u.0 u.1.0 u.1.1 in
        subst (λ (j : Plan). IsNode j b) (sym (planned k id m number v lock pc acts s both me))
        (record { cpu = let c = u.2.cpu in omega arith; index = u.2.index })

    -- the count that the seat has read is that of its own node
    pub own_count : (r : ℕ) → m.0.calls.runs ≡ Some r → (world.node (node_of acts.frame.me)).runs ≡ r
    own_count r e =
        lands.counted k s st id m.0 me p number.1 v lock pc ask go unseen r
        (ap (λ (c : Calls). c.runs) (acting_is m.0.calls v lock pc acts k.mode) ∙ e)

    abbrev pub before : Node
    before = world.node a

    -- as the step leaves it
    abbrev pub after : Node
    after = (stored_in world (waiter p acts.frame.ctx) acts.frame pc (target pc acts.frame)).node a

    abbrev pub marks : NodeName → Bool
    marks = st.marks

    pub word_is : get_or s.words (node_at k a q) 0 ≡ stored_number (marks a) q (node_number q before)
    word_is = on.word_is k s st id m.0 me p number.1 v lock pc ask go a q near has entry calm' target_is

    abbrev pub IsSafe : Type 0
    IsSafe = ((stored_in world (waiter p acts.frame.ctx) acts.frame pc (target pc acts.frame)).node ≡ world.node)
        ⊎ IsUsed world a

    -- it leaves the counts, or none that chooses the next uses the node
    abbrev pub IsQuiet : Type 0
    IsQuiet = (q ≢ part.Runs) ⊎ ((u : Waiter) → Uses world u a → on.Chooses world u → ⊥)

    -- the world after the store of the row
    abbrev pub stored : World
    stored = stored_in world (waiter p acts.frame.ctx) acts.frame pc (target pc acts.frame)

    -- where the step leaves all links the marks are still right
    pub leaves : ((b c : NodeName) → (stored.node b).next ≡ Some c → (world.node b).next ≡ Some c) → KeepsMarks world stored marks
    leaves = on.leaves_marks k s st id m.0 me p number.1 v lock pc ask go a q near has entry calm' target_is

    -- who uses a node here used it before the step
    pub was_marked : AreRight world marks
    was_marked = lands.marked_here k s st id m.0 me p number.1 v lock pc ask go unseen

    pub was_told : AreTold world (acting k.mode m.0.calls v lock.index).frames
    was_told = lands.told_here k s st id m.0 me p number.1 v lock pc ask go unseen

    -- the rule after it, where it writes what the row stores; a link with a mark that says what it is to say
    pub stands_marked : (ms : NodeName → Bool) → ((b : NodeName) → (b ≡ a → q ≢ part.Next) → ms b ≡ marks b)
        → KeepsMarks world stored ms
        → (i : ℕ) → i ≡ stored_number (ms a) q (node_number q after) → IsSafe → IsQuiet
        → (x : Met) → plain x ≡ met_of q before → IsTrue world pc x
        → Stand k (record { words = set s.words (node_at k a q) i; homes = s.homes; views = set s.views id (went m.0 x) })
    stands_marked ms others links i writes safe quiet x is true_ =
        let meets = met_there world (waiter p acts.frame.ctx) acts.frame pc (target pc acts.frame) a q target_is in
        record {
          runs = on.node_step k s st id m.0 me p number.1 v lock pc ask go a q near has entry calm' target_is ms others links i writes
              safe quiet x is true_ (went m.0 x) refl (calls_are k id m number v lock pc acts s both me x) s.homes;
          keeps = kept k id m number v lock pc acts s both me unseen frees x (is ∙ sym meets) true_ (node_at k a q) i
              (bare k st.lawful.accounts (OfNode a q) near);
        }

    -- the same where the word is no link
    pub stands : q ≢ part.Next → (looks_along pc ≡ true → ⊥) → (i : ℕ) → i ≡ node_number q after → IsSafe → IsQuiet → (x : Met)
        → plain x ≡ met_of q before
        → Stand k (record { words = set s.words (node_at k a q) i; homes = s.homes; views = set s.views id (went m.0 x) })
    stands apart first i writes safe quiet x is =
        stands_marked marks (λ b ne. refl)
        (leaves (λ b c h. sym ((row_changes k world (waiter p acts.frame.ctx) acts.frame pc (target pc acts.frame) (OfNode a q) target_is).links b
        (λ e. apart (sym (node_part e).1))) ∙ h))
        i (writes ∙ sym (stored_plain (marks a) q (node_number q after) apart)) safe quiet x is (λ e. absurd (first e))

-- a look at the own flag
pub flag_look : (k : Plan) (slots id : ℕ) (m : Me Slot View) → IsNumbered m.0 → (v : Verb) (lock : LockName)
    → (acts : StandsOn m.0.calls v lock G6) (a : NodeName) → IsNode k a → acts.frame.me ≡ Some a
    → Allows (Stand k) slots id m (node_at k a part.Flag) (λ n. n) (SeesFlag m)
flag_look k slots id m number v lock acts a near own s both long me small =
    let tgt : node_of acts.frame.me ≡ a = ap node_of own in
    let e : G6 ≢ G1 = λ e. cc e in
    let y : Flag = (before k slots id m number v lock G6 acts a part.Flag near e tt tgt G6_frees s both me refl).flag in
    let world = world k slots id m number v lock G6 acts a part.Flag near e tt tgt G6_frees s both me refl in
    let at = at k slots id m number v lock G6 acts a part.Flag near e tt tgt G6_frees s both me refl in
    let is : get_or s.words (node_at k a part.Flag) 0 ≡ flag_number y =
    word_is k slots id m number v lock G6 acts a part.Flag near e tt tgt G6_frees s both me refl in
    let w = waiter number.0 acts.frame.ctx in
    let there : (o : Flag) → y ≡ o → IsFlagNode m.0.who.plan o =
    λ o e'. named o (λ b q.
    is_node k slots id m number v lock G6 acts a part.Flag near e tt tgt G6_frees s both me refl b
    (first_is_used world _ w acts.frame b
    (sound k slots id m number v lock G6 acts a part.Flag near e tt tgt G6_frees s both me refl)
    (live k slots id m number v lock G6 acts a part.Flag near e tt tgt G6_frees s both me refl) acts.place
    (ap (λ c. (world.node c).flag) tgt ∙ (e' ∙ q)))) in
    let stored : (stored_in world w acts.frame G6 (target G6 acts.frame)).node ≡ world.node =
    none world (node_of acts.frame.me) (world.node (node_of acts.frame.me)).flag in (
      went m.0 (Flagged y),
      keeps,
      tt,
      stands k slots id m number v lock G6 acts a part.Flag near e tt tgt G6_frees s both me refl (λ e. cc e) (λ e. cc e)
          (get_or s.words (node_at k a part.Flag) 0)
          (is ∙ ap (λ (g : NodeName → Node). flag_number (g a).flag) (sym stored)) (inl stored) (inl (λ e. cc e)) (Flagged y) refl,
      record {
        found = y;
        node = there y refl;
        plain = λ off b e. at.acted.sound.spins.plain.flag (ap moves_aside (at.acted.same.mode ∙ (both.runs.of_plan.mode ∙ ap (λ (j : Plan). j.mode) (sym (planned k id m number v lock G6 acts s both me)))) ∙ off) a b e;
        word = is;
        seat = refl;
      },
    )
  where
    named : (o : Flag) → ((b : NodeName) → o ≡ Second b → IsNode m.0.who.plan b) → IsFlagNode m.0.who.plan o
    named Unset h = tt
    named Go h = tt
    named (Second b) h = h b refl

    none : (n : World) (b : NodeName) (y : Flag) → (stores_flag n b (flag_row G6 acts.frame y).stores).node ≡ n.node
    none n b Unset = refl
    none n b Go = refl
    none n b (Second c) = refl

-- the lead is handed to the next
pub hand_on : (k : Plan) (slots id : ℕ) (m : Me Slot View) → IsNumbered m.0 → (v : Verb) (lock : LockName)
    → (acts : StandsOn m.0.calls v lock G11) (a : NodeName) → IsNode k a → acts.frame.y ≡ Some a
    → Allows (Stand k) slots id m (node_at k a part.Flag) (λ _. 1) (Hands m)
hand_on k slots id m number v lock acts a near to s both long me small =
    let tgt : node_of acts.frame.y ≡ a = ap node_of to in
    let e : G11 ≢ G1 = λ e. cc e in
    let world = world k slots id m number v lock G11 acts a part.Flag near e tt tgt G11_frees s both me refl in
    let known = known k slots id m number v lock G11 acts a part.Flag near e tt tgt G11_frees s both me refl in
    let is = word_is k slots id m number v lock G11 acts a part.Flag near e tt tgt G11_frees s both me refl in
    let unset : (world.node a).flag ≡ Unset = ap (λ b. (world.node b).flag) (sym tgt) ∙ known in
    let used = next_is_used world _ (waiter number.0 acts.frame.ctx) acts.frame
    (sound k slots id m number v lock G11 acts a part.Flag near e tt tgt G11_frees s both me refl)
    (live k slots id m number v lock G11 acts a part.Flag near e tt tgt G11_frees s both me refl) acts.place in (
      went m.0 (Flagged Unset),
      keeps,
      tt,
      stands k slots id m number v lock G11 acts a part.Flag near e tt tgt G11_frees s both me refl (λ e. cc e) (λ e. cc e) 1
          (sym (ap flag_number (ap (λ b. ((stores_flag world b (Some Go)).node a).flag) tgt ∙ flag_here world a (Some Go))))
          (inr (subst (IsUsed world) tgt (used.0, used.1, used.2))) (inl (λ e. cc e)) (Flagged Unset) (ap Flagged (sym unset)),
      (is ∙ ap flag_number unset, refl),
    )

-- the own node is linked behind the one before, with the mark of the call's context
pub link_on : (k : Plan) (slots id : ℕ) (m : Me Slot View) → IsNumbered m.0 → (v : Verb) (lock : LockName)
    → (acts : StandsOn m.0.calls v lock G5) (a own : NodeName) → IsNode k a → acts.frame.prev ≡ Some a
    → acts.frame.me ≡ Some own → (mark : Bool) → mark ≡ is_inner acts.frame.ctx → (i : ℕ) → i ≡ marked mark (name_number own)
    → Allows (Stand k) slots id m (node_at k a part.Next) (λ _. i) (Links m)
link_on k slots id m number v lock acts a own near before mine mark mark_is i named s both long me small =
    let tgt : node_of acts.frame.prev ≡ a = ap node_of before in
    let e : G5 ≢ G1 = λ e. cc e in
    let world = world k slots id m number v lock G5 acts a part.Next near e tt tgt G5_frees s both me refl in
    let marks = marks k slots id m number v lock G5 acts a part.Next near e tt tgt G5_frees s both me refl in
    let known = known k slots id m number v lock G5 acts a part.Next near e tt tgt G5_frees s both me refl in
    let is = word_is k slots id m number v lock G5 acts a part.Next near e tt tgt G5_frees s both me refl in
    let sound = sound k slots id m number v lock G5 acts a part.Next near e tt tgt G5_frees s both me refl in
    let live = live k slots id m number v lock G5 acts a part.Next near e tt tgt G5_frees s both me refl in
    let at = at k slots id m number v lock G5 acts a part.Next near e tt tgt G5_frees s both me refl in
    let acts' = acts' k id m number v lock G5 acts s both me in
    let w = waiter number.0 acts.frame.ctx in
    let none : (world.node a).next ≡ None = ap (λ b. (world.node b).next) (sym tgt) ∙ known in
    let used = prev_is_used world _ w acts.frame sound live acts.place in
    let stored : (stores_next world (node_of acts.frame.prev) (Some acts.frame.me)).node ≡ (stores_next world a (Some acts.frame.me)).node =
    ap (λ b. (stores_next world b (Some acts.frame.me)).node) tgt in
    let here : ((stores_next world (node_of acts.frame.prev) (Some acts.frame.me)).node a).next ≡ Some own =
    ap (λ (g : NodeName → Node). (g a).next) stored ∙ (next_here world a (Some acts.frame.me) ∙ mine) in
    let uses : Uses world w own = (acts.frame, live, ap (λ o. has_name o own) mine ∙ same_node-self own) in
    let ms = remarked a mark marks in (
      went m.0 (Named None),
      keeps,
      tt,
      stands_marked k slots id m number v lock G5 acts a part.Next near e tt tgt G5_frees s both me refl ms
          (λ b ne. remarked_else a mark marks b (λ e. ne e refl))
          (relinked world _ _ marks a mark sound
          (λ halting. mark_is ∙ ap is_inner (alone _ _ acts'.rest acts'.is at.stacked
          (at.single (ap halts (sym at.acted.same.mode) ∙ halting))))
          (was_marked k slots id m number v lock G5 acts a part.Next near e tt tgt G5_frees s both me refl)
          own here
          (λ b ne. ap (λ (g : NodeName → Node). (g b).next) stored ∙ (next_changes k world a a refl (Some acts.frame.me)).links b (λ e. ne (node_part e).0))
          (λ free. free w uses)
          (λ u there. mark_is ∙ ap (λ (z : Waiter). is_inner z.ctx) (node_is_ones world _ w u own sound uses there).0))
          i (named ∙ (ap (λ (b : Bool). marked b (name_number own)) (sym (remarked_here a mark marks))
          ∙ ap (λ (o : Option NodeName). marked (ms a) (link_number o)) (sym here)))
          (inr (subst (IsUsed world) tgt used)) (inl (λ e. cc e)) (Named None) (ap Named (sym none)) (λ e. cc e),
      (is ∙ (ap (λ (o : Option NodeName). marked (marks a) (link_number o)) none ∙ stored_zero (marks a) part.Next), refl),
    )

-- a look at the own link
pub link_look : (k : Plan) (slots id : ℕ) (m : Me Slot View) → IsNumbered m.0 → (v : Verb) (lock : LockName)
    → (acts : StandsOn m.0.calls v lock G10) (a : NodeName) → IsNode k a → acts.frame.me ≡ Some a
    → Allows (Stand k) slots id m (node_at k a part.Next) (λ n. n) (SeesLink m)
link_look k slots id m number v lock acts a near own s both long me small =
    let tgt : node_of acts.frame.me ≡ a = ap node_of own in
    let e : G10 ≢ G1 = λ e. cc e in
    let world = world k slots id m number v lock G10 acts a part.Next near e tt tgt G10_frees s both me refl in
    let marks = marks k slots id m number v lock G10 acts a part.Next near e tt tgt G10_frees s both me refl in
    let y : Option NodeName = (world.node a).next in
    let is : get_or s.words (node_at k a part.Next) 0 ≡ marked (marks a) (link_number y) =
    word_is k slots id m number v lock G10 acts a part.Next near e tt tgt G10_frees s both me refl in
    let w = waiter number.0 acts.frame.ctx in
    let stored : (stored_in world w acts.frame G10 (target G10 acts.frame)).node ≡ world.node =
    none world (node_of acts.frame.me) (world.node (node_of acts.frame.me)).next in
    let there : (o : Option NodeName) → y ≡ o → IfSome o (IsNode m.0.who.plan) =
    λ o e'. linked o (λ b q.
    is_node k slots id m number v lock G10 acts a part.Next near e tt tgt G10_frees s both me refl b
    (link_is_used world _ w acts.frame b
    (sound k slots id m number v lock G10 acts a part.Next near e tt tgt G10_frees s both me refl)
    (live k slots id m number v lock G10 acts a part.Next near e tt tgt G10_frees s both me refl) acts.place
    (ap (λ c. (world.node c).next) tgt ∙ (e' ∙ q)))) in (
      went m.0 (Linked y (marks a)),
      keeps,
      tt,
      stands_marked k slots id m number v lock G10 acts a part.Next near e tt tgt G10_frees s both me refl marks (λ b ne. refl)
          (leaves k slots id m number v lock G10 acts a part.Next near e tt tgt G10_frees s both me refl
          (λ b c h. ap (λ (g : NodeName → Node). (g b).next) (sym stored) ∙ h))
          (get_or s.words (node_at k a part.Next) 0)
          (is ∙ ap (λ (g : NodeName → Node). marked (marks a) (link_number (g a).next)) (sym stored)) (inl stored) (inl (λ e. cc e))
          (Linked y (marks a)) refl (λ e. cc e),
      record { found = y; mark = marks a; node = there y refl; word = is; seat = refl },
    )
  where
    none : (n : World) (b : NodeName) (y : Option NodeName)
        → (stores_next n b (next_row n.mode n.turns G10 acts.frame y).stores).node ≡ n.node
    none n b None = refl
    none n b (Some c) = refl

    linked : (o : Option NodeName) → ((b : NodeName) → o ≡ Some b → IsNode m.0.who.plan b) → IfSome o (IsNode m.0.who.plan)
    linked None h = tt
    linked (Some b) h = h b refl

-- the private store that resets a word of the node to come
pub reset_on : (k : Plan) (slots id : ℕ) (m : Me Slot View) (number : IsNumbered m.0) (q : Part)
    → slows m.0.calls.frames < 4 → (q ≢ part.Flag → m.0.calls.ready ≡ part_index q)
    → (st : Step Slot) → st.word ≡ node_at m.0.who.plan (node_name number.0 (slows m.0.calls.frames)) q
    → Allows (Stand k) slots id m (node_at k (node_name number.0 (slows m.0.calls.frames)) q) (λ _. 0) (Readies st m)
reset_on k slots id m number q low ready step at s both long me small =
    let a : NodeName = node_name number.0 (slows m.0.calls.frames) in
    let j = node_at k a q in
    let bare = bare k both.runs.lawful.accounts (OfNode a q)
    (record { cpu = on.in_plan k s both.runs id m.0 me number.0 number.1; index = low }) in
    let u : View = readied_by q m.0 in (
      u,
      keeps,
      tt,
      record {
        runs = on.resets k s both.runs id m.0 me number.0 number.1 q low ready u refl refl s.homes;
        keeps = alters_at k s both.keeps id m.0 u j 0 bare me refl
            (knows_same k both.keeps.journal m.0 u (both.keeps.knows id m.0 me) refl refl refl refl (λ l m is. is)) refl refl;
      },
      λ own r is. ap (λ (x : Part). (readied_by x m.0, m.1))
          (part_at m.0.who.plan a own q r (sym at ∙ is)),
    )

-- the last private store: the row that takes the node
pub enter_on : (k : Plan) (slots id : ℕ) (m : Me Slot View) (number : IsNumbered m.0) (v : Verb) (lock : LockName) (q : Part)
    → is_last k.mode q ≡ true → has_part k.mode q ≡ true
    → StandsOn m.0.calls v lock G1 → slows m.0.calls.frames < 4 → m.0.calls.ready ≡ part_index q
    → Allows (Stand k) slots id m (node_at k (node_name number.0 (slows m.0.calls.frames)) q) (λ _. 0) (Enters m)
enter_on k slots id m number v lock q last has acts low ready s both long me small =
    let p = number.0 in let st = both.runs in
    let x : Met = Number (slows m.0.calls.frames) in
    let a : NodeName = node_name p (slows m.0.calls.frames) in
    let go = acts' k id m number v lock G1 acts s both me in
    let ask = asks k id m number v lock G1 acts s both me in (
      went m.0 x,
      keeps,
      tt,
      record {
        runs = entry.enters k s st id m.0 me p number.1 v lock ask go q last has low ready (went m.0 x) refl
            (calls_are k id m number v lock G1 acts s both me x) s.homes;
        keeps = kept k id m number v lock G1 acts s both me (tt, tt) G1_frees x
            (ap Number (sym (entry.count_is k s st id m.0 me p number.1 v lock ask go))) (λ e. cc e) (node_at k a q) 0
            (bare k st.lawful.accounts (OfNode a q) (record { cpu = on.in_plan k s st id m.0 me p number.1; index = low }));
      },
      refl,
    )

-- the row that finds no node: a look at the lock's word
pub enter_bare_on : (k : Plan) (slots id : ℕ) (m : Me Slot View) → IsNumbered m.0 → (v : Verb) (lock : LockName)
    → lock.index < locks_of k → StandsOn m.0.calls v lock G1 → 4 ≤ slows m.0.calls.frames
    → Allows (Stand k) slots id m (word_at lock) (λ n. n) (Enters m)
enter_bare_on k slots id m number v lock near acts high s both long me small =
    let p = number.0 in let st = both.runs in
    let x : Met = Number (slows m.0.calls.frames) in
    let go = acts' k id m number v lock G1 acts s both me in
    let ask = asks k id m number v lock G1 acts s both me in (
      went m.0 x,
      keeps,
      tt,
      record {
        runs = entry.enters_bare k s st id m.0 me p number.1 v lock ask go high (went m.0 x) refl
            (calls_are k id m number v lock G1 acts s both me x) s.homes;
        keeps = kept k id m number v lock G1 acts s both me (tt, tt) G1_frees x
            (ap Number (sym (entry.count_is k s st id m.0 me p number.1 v lock ask go))) (λ e. cc e) (word_at lock) (get_or s.words (word_at lock) 0) (bare k st.lawful.accounts (OfLock lock) near);
      },
      refl,
    )
