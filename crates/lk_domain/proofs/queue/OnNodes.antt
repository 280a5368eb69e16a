-- The steps on a word of a node.
use Rattle.std.proofs.Common.{◌≡◌, ◌≢◌, ◌⊎◌, inl, inr, ℕ, ◌+◌, ◌<◌, List, set, get_or, Bool, Option}
use Rattle.std.proofs.Common.{Some, None, true, refl, sym, ap, ◌∙◌, subst, arith, false, ◌∷◌, eqb}
use Rattle.std.proofs.Common.{eq-eqb, is_some, ◌≤◌}
use Rattle.lk_domain.proofs.Names.{State, get_elem?, some, NodeName, LockHistory, LockName, Waiter}
use Rattle.lk_domain.proofs.Names.{node_of, target, Second, Frame, Node, Pc, G1, Verb, is_set}
use Rattle.lk_domain.proofs.Names.{node_cases, if-true, chooses, Met, enters, stored_in, IsFree}
use Rattle.lk_domain.proofs.Names.{phase_at, phase_if, phase_of, Uses, IsSoundSpinWorld, World}
use Rattle.lk_domain.proofs.Names.{attended_stays, Begins, Calls, Running, StandsOn, acting}
use Rattle.lk_domain.proofs.Names.{frame_in, plain, row_of, slows, terms_of, cpus_of, Runs}
use Rattle.lk_domain.proofs.Names.{SeatFits, Seeks, node_name, waiter, IsNode, OfNode, Place}
use Rattle.lk_domain.proofs.Names.{has_part, node_at, node_number, number_of, part_index}
use Rattle.lk_domain.proofs.Names.{stored_number, with_mark, Part, Plan, View}
use mathlib.Core.Option.{Option as Maybe}
use Rattle.lk_law.proofs.{common.Users.is_node-own, running.Calm.node_comes_at_entry}
use Rattle.lk_law.proofs.running.Nodes.{free_node_keeps, fresh_is_free}
use Rattle.lk_law.specs.{Known.IsOwnNode, Phase.has_node, Steps.put_node}
use Rattle.lk_domain.proofs.{Stacks.frame_in-above, queue.Counts.queued_is}
use Rattle.lk_domain.proofs.{queue.NodeStores.{met_of, own_by, met_there}, rows.Begun.Elsewhere}
use Rattle.lk_domain.proofs.rows.Changes.{IsAt, node_part, node_here, node_else, reset_changes}
use Rattle.lk_domain.proofs.{rows.Grips.own_row, rows.Kept.{KeepsComing, keeps, halting_same}}
use Rattle.lk_domain.proofs.{rows.Poised.Poised, rows.Sights.{IsSeen, Sees}}
use Rattle.lk_domain.proofs.rows.Users.{KeepsMarks, IsTrue, bare_me, kept_marks}
use Rattle.lk_domain.proofs.{rows.Writes.{row_else, beside}, seats.Totals.drawn}
use Rattle.lk_domain.proofs.words.NodeWords.{part_is, part_cases, reset_part, reset_number}
use Rattle.lk_domain.proofs.words.NodeWords.{reset_others, stored_plain, stored_zero}
use Rattle.lk_domain.proofs.words.Written.{written, roll_stays}
use Rattle.lk_domain.specs.Runs.{IsCounted}
use Rattle.lk_domain.specs.declared.part.Part.TheVariants as part
use Rattle.lk_domain.proofs.rows.Kept as rule
use Rattle.lk_domain.proofs.rows.Lands as lands

-- the node to come of a processor
abbrev pub to_come : (NodeName → Node) → World → ℕ → Node
to_come g m q = g (node_name q (m.queued q))

-- the waiter chooses the next of its queue
pub record Chooses (m : World) (u : Waiter) : Type 0 where
  pub frame : Frame
  pub row : Pc
  pub live : m.frame u ≡ Some frame
  pub place : frame.place ≡ Some row
  pub front : chooses row ≡ true

-- it has a node of its own
front_uses : (m : World) (hs : LockName → LockHistory) (u : Waiter) (f : Frame) (c : Pc)
    → IsSoundSpinWorld m hs → m.frame u ≡ Some f → f.place ≡ Some c → chooses c ≡ true → Uses m u (node_of f.me)
front_uses m hs u f c ok live place on =
    let noded : has_node (phase_of f) ≡ true =
    ap (λ (o : Option Pc). has_node (phase_if o (is_some f.me) (node_of f.prev) (node_of f.y))) place ∙ holding c on in
    (f, live, is_node-own f.me ((ok.registers u f live).me noded))
  where
    holding : (c : Pc) → chooses c ≡ true → has_node (phase_at c (is_some f.me) (node_of f.prev) (node_of f.y)) ≡ true
    holding c h = grind arith

-- some waiter uses the node
abbrev pub IsUsed : World → NodeName → Type 0
IsUsed m a = (u : Waiter) × Uses m u a × IsOwnNode u a

module _ (k : Plan) {S : Type 0} (s : State S View) (st : Runs k s) (id : ℕ) (v : View)
    (me : get_elem? s.views id ≡ some v) (p : ℕ) (is : v.who.number ≡ Some p) where
  abbrev fits : SeatFits st.world p v.calls
  fits = st.seats id v p me is

  pub in_plan : p < cpus_of k
  in_plan = let x = drawn s.views (get_or s.words 0 0) st.once id v p me is in let y = st.roll in omega arith

  -- the node to come of a processor is used by nobody
  pub to_come_free : (q : ℕ) (d : Calls) → SeatFits st.world q d → IsFree st.world (node_name q (st.world.queued q))
  to_come_free q d fit =
      fresh_is_free st.world _ q st.sound.spins
      (λ c le. fit.mirrors.frames c ∙ frame_in-above d.frames c fit.stacked (let x = fit.few in omega arith))

  -- so a node that is used is not that of another processor
  apart : (m : World) → Elsewhere st.world m p → (a : NodeName) → IsUsed m a
      → (q : ℕ) (d : Calls) → q ≢ p → SeatFits st.world q d → node_name q (st.world.queued q) ≢ a
  apart m others a used q d ne fit e =
      let u = used.0 in let uses = used.1 in let own = used.2 in
      let cpu : u.cpu ≡ q = sym own.cpu ∙ ap (λ (z : NodeName). z.cpu) (sym e) in
      let other : u.cpu ≢ p = λ h. ne (sym cpu ∙ h) in
      let there : Uses st.world u a = (uses.0, sym (others u other).0 ∙ uses.1, uses.2) in
      to_come_free q d fit u (subst (Uses st.world u) (sym e) there)

  -- the newest call of a seat is a frame of the world
  pub top_live : {q : ℕ} {d : Calls} → SeatFits st.world q d → (x : Running) (rs : List Running) → d.frames ≡ x ∷ rs
      → st.world.frame (waiter q x.frame.ctx) ≡ Some x.frame
  top_live {q} {d} fit x rs frames =
      fit.mirrors.frames x.frame.ctx ∙ (ap (λ (xs : List Running). frame_in xs x.frame.ctx) frames
      ∙ if-true (eqb x.frame.ctx x.frame.ctx) (Some x.frame) (frame_in rs x.frame.ctx) (eq-eqb x.frame.ctx x.frame.ctx refl))

  -- a count that another seat has read is there where the nodes that are used keep theirs
  pub counts_beside : (n : World) {q : ℕ} {d : Calls} → SeatFits st.world q d
      → ((b : NodeName) (u : Waiter) → u.cpu ≡ q → Uses st.world u b → Chooses st.world u
      → (n.node b).runs ≡ (st.world.node b).runs)
      → IsCounted n d
  counts_beside n {q} {d} fit same j x rs runs frames =
      let h = fit.counted j x rs runs frames in
      let live = top_live fit x rs frames in
      let uses = front_uses st.world _ (waiter q x.frame.ctx) x.frame h.row st.sound.spins live h.place h.front in
      record {
        row = h.row;
        place = h.place;
        front = h.front;
        is = same (node_of x.frame.me) (waiter q x.frame.ctx) refl uses
            (record { frame = x.frame; row = h.row; live = live; place = h.place; front = h.front }) ∙ h.is;
      }

  module _ (verb : Verb) (l : LockName) (pc : Pc) (asks : Begins k v.calls verb l.index)
      (acts : StandsOn (acting k.mode v.calls verb l.index) verb l pc) (a : NodeName) (q : Part)
      (near : IsNode k a) (has : has_part k.mode q ≡ true) (entry : pc ≢ G1)
      (calm : Sees pc (acting k.mode v.calls verb l.index).runs) (on : IsAt acts.frame (target pc acts.frame) (OfNode a q)) where
    abbrev f : Frame
    f = acts.frame

    abbrev w : Waiter
    w = waiter p f.ctx

    abbrev pub unseen : IsSeen pc (target pc acts.frame) (acting k.mode v.calls verb l.index).runs
    unseen = (tt, calm)

    abbrev at : Poised st.world p (acting k.mode v.calls verb l.index)
    at = lands.at k s st id v me p is verb l pc asks acts unseen

    abbrev pub m : World
    m = at.acted.world

    -- the node, as the step meets it, and as it leaves it
    abbrev pub before : Node
    before = m.node a

    abbrev pub after : Node
    after = (stored_in m w f pc (target pc f)).node a

    pub word_is : get_or s.words (node_at k a q) 0 ≡ stored_number (st.marks a) q (node_number q before)
    word_is =
        st.stored.words (OfNode a q) near has
        ∙ ap (λ (g : NodeName → Node). stored_number (st.marks a) q (node_number q (g a))) (sym at.acted.same.node)

    -- the row gives no node
    row_bare : enters (lands.o k s st id v me p is verb l pc asks acts unseen).leads ≡ false
    row_bare =
        node_comes_at_entry m w f pc
        (own_row pc f (own_by st.world w f pc (target pc f) a q on))
        (lands.fitting k s st id v me p is verb l pc asks acts unseen).after entry

    nodes_are : (lands.n k s st id v me p is verb l pc asks acts unseen).node ≡ (stored_in m w f pc (target pc f)).node
    nodes_are = (lands.row_done k s st id v me p is verb l pc asks acts unseen).node row_bare

    abbrev n : World
    n = lands.n k s st id v me p is verb l pc asks acts unseen

    -- the words of nodes are as before, but for that of the row
    other_words : (b : NodeName) (r : Part) → OfNode b r ≢ OfNode a q
        → node_number r (n.node b) ≡ node_number r (st.world.node b)
    other_words b r ne = row_else k s st id v me p is verb l pc asks acts unseen (OfNode a q) on row_bare (OfNode b r) ne

    -- the step stores nothing, or into a node that is used
    abbrev pub IsSafe : Type 0
    IsSafe = ((stored_in m w f pc (target pc f)).node ≡ m.node) ⊎ IsUsed m a

    coming : IsSafe → KeepsComing st.world n p
    coming (inl e) r d ne fit x =
        ap (λ (g : NodeName → Node). node_number x (to_come g st.world r)) (nodes_are ∙ (e ∙ at.acted.same.node))
    coming (inr t) r d ne fit x =
        other_words (node_name r (st.world.queued r)) x (λ e. apart m at.acted.others a t r d ne fit (node_part e).0)

    -- and it leaves the counts, or none that chooses the next uses the node
    abbrev pub IsQuiet : Type 0
    IsQuiet = (q ≢ part.Runs) ⊎ ((u : Waiter) → Uses m u a → Chooses m u → ⊥)

    runs_stay : IsQuiet → (b : NodeName) (u : Waiter) → Uses m u b → Chooses m u → (n.node b).runs ≡ (st.world.node b).runs
    runs_stay (inl ne) b u uses on = other_words b part.Runs (λ e. ne (sym (node_part e).1))
    runs_stay (inr off) b u uses on = other_words b part.Runs (λ e. off u (subst (Uses m u) (node_part e).0 uses) on)

    -- another processor's waiter is as it was when the call began
    uses_here : (u : Waiter) (b : NodeName) → u.cpu ≢ p → Uses st.world u b → Uses m u b
    uses_here u b ne uses = (uses.0, (at.acted.others u ne).0 ∙ uses.1, uses.2)

    chooses_here : (u : Waiter) → u.cpu ≢ p → Chooses st.world u → Chooses m u
    chooses_here u ne h =
        record { frame = h.frame; row = h.row; live = (at.acted.others u ne).0 ∙ h.live; place = h.place; front = h.front }

    -- where it leaves all links, their marks are still right
    pub leaves_marks : ((b c : NodeName) → ((stored_in m w f pc (target pc f)).node b).next ≡ Some c → (m.node b).next ≡ Some c)
        → KeepsMarks m (stored_in m w f pc (target pc f)) st.marks
    leaves_marks =
        kept_marks m (stored_in m w f pc (target pc f)) _ st.marks at.acted.sound.spins
        (lands.marked_here k s st id v me p is verb l pc asks acts unseen)

    -- the words and the marks of the other places are as before
    other_numbers : (marks : NodeName → Bool) → ((b : NodeName) → (b ≡ a → q ≢ part.Next) → marks b ≡ st.marks b)
        → (z : Place) → z ≢ OfNode a q
        → with_mark marks z (number_of k n st.pairs z) ≡ with_mark st.marks z (number_of k st.world st.pairs z)
    other_numbers marks kept (OfNode b r) ne = elim (part_cases r part.Next) [
      | inl e ↦
          let same : marks b ≡ st.marks b = kept b (λ c d. ne (λ i. OfNode (c i) ((e ∙ sym d) i))) in
          (λ i. stored_number (same i) r (other_words b r ne i))
      | inr off ↦ stored_plain (marks b) r (node_number r (n.node b)) off
          ∙ (other_words b r ne ∙ sym (stored_plain (st.marks b) r (node_number r (st.world.node b)) off))
    ]
    other_numbers marks kept z ne = row_else k s st id v me p is verb l pc asks acts unseen (OfNode a q) on row_bare z ne

    -- A step on a word of a node that makes the row of the call, where it writes what the row stores; of a
    -- link, with a mark that says what it is to say.
    pub node_step : (marks : NodeName → Bool) → ((b : NodeName) → (b ≡ a → q ≢ part.Next) → marks b ≡ st.marks b)
        → KeepsMarks m (stored_in m w f pc (target pc f)) marks
        → (i : ℕ) → i ≡ stored_number (marks a) q (node_number q after) → IsSafe → IsQuiet
        → (y : Met) → plain y ≡ met_of q before → IsTrue m pc y → (u : View) → u.who ≡ v.who
        → u.calls ≡ row_of (terms_of k) p (acting k.mode v.calls verb l.index) y → (homes : List (Maybe S))
        → Runs k {S = S} (record { words = set s.words (node_at k a q) i; homes = homes; views = set s.views id u })
    node_step marks kept links i writes safe quiet y meets true_ u who calls homes =
        lands.lands k s st id v me p is verb l pc asks acts unseen y (meets ∙ sym (met_there m w f pc (target pc f) a q on)) true_
        (λ b mine. inl (bare_me f (lands.o k s st id v me p is verb l pc asks acts unseen).leads b row_bare mine))
        marks
        (record {
          used = λ awake b c e uses next free. links.used awake b c e uses (ap (λ (g : NodeName → Node). (g b).next) (sym nodes_are) ∙ next) free;
          says = λ awake b c e j uses next there. links.says awake b c e j uses (ap (λ (g : NodeName → Node). (g b).next) (sym nodes_are) ∙ next) there;
          bare = links.bare;
        })
        st.pairs u who calls
        (set s.words (node_at k a q) i)
        (written k st.stored n marks st.pairs (OfNode a q) near i
        (writes ∙ ap (λ (g : NodeName → Node). stored_number (marks a) q (node_number q (g a))) (sym nodes_are))
        (λ z there read ne. other_numbers marks kept z ne))
        (roll_stays k s.words (OfNode a q) i near)
        (coming safe)
        (λ r d ne fit. counts_beside n fit (λ b u cpu uses on.
        let away : u.cpu ≢ p = λ e. ne (sym cpu ∙ e) in
        runs_stay quiet b u (uses_here u b away uses) (chooses_here u away on)))
        (beside k s st id v me p is verb l pc asks acts unseen (OfNode a q) on row_bare)
        homes

  pub index_is : st.world.queued p ≡ slows v.calls.frames
  index_is = queued_is st.world st.histories st.sound p v.calls fits.mirrors fits.stacked fits.few

  -- a private store: the next word of the node to come is reset
  pub resets : (q : Part) → slows v.calls.frames < 4 → (q ≢ part.Flag → v.calls.ready ≡ part_index q)
      → (u : View) → u.who ≡ v.who
      → u.calls ≡ record v.calls { ready = part_index q + 1; runs = None } → (homes : List (Maybe S))
      → Runs k {S = S} (record {
        words = set s.words (node_at k (node_name p (slows v.calls.frames)) q) 0;
        homes = homes;
        views = set s.views id u;
      })
  resets q few ready u who calls homes =
      let a : NodeName = node_name p (slows v.calls.frames) in
      let is_a : node_name p (st.world.queued p) ≡ a = ap (node_name p) index_is in
      let y : Node = reset_part q (st.world.node a) in
      let n : World = put_node st.world a y in
      let sound =
      free_node_keeps st.world st.histories a y st.sound
      (subst (IsFree st.world) is_a (to_come_free p v.calls fits))
      (counts q (st.world.node a) st.world.threshold (st.sound.spins.plain.runs a), λ off b. plain q (st.world.node a) b (st.sound.spins.plain.flag off a b)) in
      let here : n.node a ≡ y = node_here st.world a y in
      let changed = reset_changes k st.world a q in
      let near : IsNode k a = record { cpu = in_plan; index = few } in
      let away : (b : NodeName) → b ≢ a → n.node b ≡ st.world.node b = λ b ne. node_else st.world a b y ne in
      keeps k s st id v me p is n st.histories st.marks st.pairs u (set s.words (node_at k a q) 0) sound
      (attended_stays st.world n (waiter p 0) (record { words = λ j. refl; others = λ x ne. refl; either = inl refl }) refl
      (λ b h. elim (node_cases b a) [
        | inl e ↦
            let back : is_set (n.node a).flag ≡ true = subst (λ (z : NodeName). is_set (n.node z).flag ≡ true) e h in
            subst (λ (z : NodeName). is_set (st.world.node z).flag ≡ true) (sym e)
            (reset_flag q (st.world.node a) (ap (λ (z : Node). is_set z.flag) (sym here) ∙ back))
        | inr off ↦ ap (λ (z : Node). is_set z.flag) (sym (away b off)) ∙ h
      ])
      (λ r. refl) st.attended)
      (record {
        mode = st.of_plan.mode;
        turns = st.of_plan.turns;
        threshold = st.of_plan.threshold;
        format = st.of_plan.format;
        sockets = st.of_plan.sockets;
        kind = st.of_plan.kind;
      })
      (written k st.stored n st.marks st.pairs (OfNode a q) near 0
      (sym (ap (stored_number (st.marks a) q) (ap (node_number q) here ∙ reset_number q (st.world.node a)) ∙ stored_zero (st.marks a) q))
      (λ z there read ne. ap (with_mark st.marks z) (changed.numbers st.pairs z ne)))
      (record {
        says = λ awake b c e j uses next there. elim (node_cases b a) [
          | inl same ↦ absurd (to_come_free p v.calls fits e (subst (Uses st.world e) (same ∙ sym is_a) uses))
          | inr ne ↦ (rule.right k s st id v me p is).says awake b c e j uses (ap (λ (z : Node). z.next) (sym (away b ne)) ∙ next) there
        ];
        bare = (rule.right k s st id v me p is).bare;
      })
      (roll_stays k s.words (OfNode a q) 0 near)
      (λ x ne. (refl, λ j. refl)) (λ q ne. refl)
      (λ r d ne fit x. ap (node_number x) (away (node_name r (st.world.queued r)) (λ e. ne (ap (λ (z : NodeName). z.cpu) e))))
      (λ r d ne fit. counts_beside n fit (λ b u cpu uses on. ap (λ (z : Node). z.runs) (away b (λ e.
      to_come_free p v.calls fits u (subst (Uses st.world u) (e ∙ sym is_a) uses)))))
      (λ r d ne fit. fit.told)
      who
      (subst (λ (c : Calls). SeatFits n p c) (sym calls) (record {
        mirrors = record { frames = fits.mirrors.frames; holds = fits.mirrors.holds };
        stacked = fits.stacked;
        few = fits.few;
        placed = fits.placed;
        rests = fits.rests;
        held = fits.held;
        fresh = fits.fresh;
        reset = λ r lt. ap (λ (z : NodeName). node_number r (n.node z)) is_a ∙ (ap (node_number r) here
            ∙ elim (part_cases r q) [
              | inl e ↦ ap (λ (x : Part). node_number x y) e ∙ reset_number q (st.world.node a)
              | inr ne ↦ reset_others q r (st.world.node a) ne ∙ before_it r lt ne
            ]);
        counted = λ j x rs e. absurd (none_some e);
        told = fits.told;
        single = fits.single;
        halted = fits.halted;
      }))
      (halting_same k s st n id p refl (λ q ne. refl))
      (subst (Seeks k st.pairs) (sym calls) (st.seeks id v me)) homes
    where
      none_some : {j : ℕ} → None ≡ Some j → ⊥
      none_some e = cc e

      reset_flag : (q : Part) (x : Node) → is_set (reset_part q x).flag ≡ true → is_set x.flag ≡ true
      reset_flag part.Flag x h = cc h
      reset_flag part.Next x h = h
      reset_flag part.SecondTail x h = h
      reset_flag part.Runs x h = h

      plain : (q : Part) (x : Node) (b : NodeName) → x.flag ≢ Second b → (reset_part q x).flag ≢ Second b
      plain part.Flag x b ne e = cc e
      plain part.Next x b ne e = ne e
      plain part.SecondTail x b ne e = ne e
      plain part.Runs x b ne e = ne e

      counts : (q : Part) (x : Node) (t : ℕ) → x.runs ≤ t → (reset_part q x).runs ≤ t
      counts part.Flag x t low = low
      counts part.Next x t low = low
      counts part.SecondTail x t low = low
      counts part.Runs x t low = omega arith

      before_it : (r : Part) → part_index r < part_index q + 1 → r ≢ q
          → node_number r (st.world.node (node_name p (slows v.calls.frames))) ≡ 0
      before_it r lt ne =
          let apart' : part_index r ≢ part_index q = λ e. ne (part_is r q e) in
          let below : part_index r < part_index q = omega arith in
          let later : v.calls.ready ≡ part_index q = ready (λ e. let z : part_index q ≡ 0 = ap part_index e in omega arith) in
          ap (λ (j : ℕ). node_number r (st.world.node (node_name p j))) (sym index_is)
          ∙ fits.reset r (omega (arith, later, below))
