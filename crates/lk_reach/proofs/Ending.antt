-- How the states of a graph end.
use Rattle.std.proofs.Common.{◌≡◌, ◌⊎◌, ℕ, ◌<◌, ◌≤◌, Bool, true, false, ◌||◌, List, [], ◌∷◌, ◌++◌}
use Rattle.std.proofs.Common.{refl, sym, ◌∙◌, ap, subst, length, Some, arith, inl, inr, get_or}
use Rattle.std.proofs.Common.{slice_get}
use Rattle.lk_reach.proofs.Names.{cases_eq, cases_lt, slice_get-get_or, slice_get_within}
use Rattle.lk_reach.proofs.Names.{get-append, Act, Machine, AreAlike, AreFinishing, IsMarkedOnly}
use Rattle.lk_reach.proofs.Names.{StaysAt, KeepsLike, LeadsTo, StandsFor, AreMoves, AreOver, IsMove}
use Rattle.lk_reach.proofs.Names.{IsReached, after, run, state_after, AreGoing, Keeps, IsGraph}
use Rattle.lk_reach.proofs.Names.{IsWay, IsWhole, Graph}
use Rattle.lk_reach.proofs.Closed.{Laws, reached_alike, reached_such, reached_then, same_state}
use Rattle.lk_reach.proofs.Columns.{leads_act, leads_low, leads_one}
use Rattle.lk_reach.proofs.Folded.{over_stands, runs_on, stands_back, stands_self, stands_then}
use Rattle.lk_reach.proofs.{Folded.{steps, still_stands}, Known.{no_sooner, whole_met}}
use Rattle.lk_reach.proofs.Likeness.{after_alike}
use Rattle.lk_reach.specs.Ends.{AreDoomed, AreEnds, AreStuck, AreTurned, CanFinish, IsClosed}
use Rattle.lk_reach.specs.Ends.{IsFirst, IsLed, IsPassed, LeadsMarked, IsShortestToDoom}
use Rattle.lk_reach.specs.Ends.{IsShortestToEnd, IsShortestToStuck, IsState, IsStuck}
use Rattle.lk_reach.specs.Ends.{NobodyIsDoomed, NobodyIsStuck}
use Rattle.lk_names.specs.declared.events.Act.TheVariants as act

-- the marks so far say whether everybody is done
pub record EndsSo (g : Graph) (marks : List Bool) : Type 0 where
  pub yes : (k : ℕ) → slice_get marks k ≡ Some true → (s : Machine) → IsState g k s → AreOver s
  pub no : (k : ℕ) → slice_get marks k ≡ Some false → (s : Machine) → IsState g k s → ¬ AreOver s

pub ends_none : (g : Graph) → EndsSo g []
ends_none g = record { yes = λ k here. absurd (none_at k true here); no = λ k here. absurd (none_at k false here) }
  where
    none_at : (k : ℕ) (b : Bool) → slice_get [] k ≡ Some b → ⊥
    none_at k b here = cc

pub neither : (a b : Bool) → (a || b) ≡ false → (a ≡ false) × (b ≡ false)
neither false b e = (refl, e)
neither true b e = cc

-- a mark stands where the list is long enough
pub some_mark : (marks : List Bool) (k : ℕ) → k < length marks
    → (slice_get marks k ≡ Some true) ⊎ (slice_get marks k ≡ Some false)
some_mark marks k low = elim (bool_cases (get_or marks k true)) [
  | inl is_so ↦ inl (slice_get-get_or marks k true low ∙ ap Some is_so)
  | inr not_so ↦ inr (slice_get-get_or marks k true low ∙ ap Some not_so)
]
  where
    bool_cases : (b : Bool) → (b ≡ true) ⊎ (b ≡ false)
    bool_cases true = inl refl
    bool_cases false = inr refl

module _ (laws : Laws) (g : Graph) (is : IsGraph g) where
  as_many : (k : ℕ) (s : Machine) → IsState g k s → length s.cpus ≡ g.cpus
  as_many k s x = (reached_such laws g.plan g.machine.setup is.begun s x.reached).cpus ∙ sym is.cpus

  pub ends_more : (marks more : List Bool) (mark : Bool) → more ≡ marks ++ mark ∷ [] → EndsSo g marks
      → (mark ≡ true → (s : Machine) → Keeps g.space (length marks) s → length s.cpus ≡ g.cpus → AreOver s)
      → (mark ≡ false → (s : Machine) → Keeps g.space (length marks) s → length s.cpus ≡ g.cpus → ¬ AreOver s)
      → EndsSo g more
  ends_more marks more mark pushed before done waits = record {
    yes = λ k here s x. elim (get-append marks mark k true (subst (λ (ms : List Bool). slice_get ms k ≡ Some true) pushed here)) [
      | inl old ↦ before.yes k old s x
      | inr new ↦ done (sym new.1) s (subst (λ (h : ℕ). Keeps g.space h s) new.0 x.keeps) (as_many k s x)
    ];
    no = λ k here s x. elim (get-append marks mark k false (subst (λ (ms : List Bool). slice_get ms k ≡ Some false) pushed here)) [
      | inl old ↦ before.no k old s x
      | inr new ↦ waits (sym new.1) s (subst (λ (h : ℕ). Keeps g.space h s) new.0 x.keeps) (as_many k s x)
    ];
  }

  -- the same acts lead from reached states that are alike to states that are
  run_alike : (acts : List Act) (s t : Machine) → IsReached g.plan g.machine.setup s
      → IsReached g.plan g.machine.setup t → AreMoves g.plan.extras g.machine.setup acts → AreAlike s t
      → AreAlike (run s acts) (run t acts)
  run_alike [] s t r q moves alike = alike
  run_alike (a ∷ acts) s t r q moves alike =
      run_alike acts (after s a) (after t a) (reached_then laws g.plan g.machine.setup is.begun s a r moves.0)
      (reached_then laws g.plan g.machine.setup is.begun t a q moves.0) moves.1
      (after_alike s t alike a (reached_alike laws g.plan g.machine.setup is.begun s t a r q alike))

  -- some schedule finishes from a state, if one does from a state that stands for it
  can_stand : (s t : Machine) → IsReached g.plan g.machine.setup s → IsReached g.plan g.machine.setup t
      → StandsFor g.plan g.machine.setup s t → CanFinish g s → CanFinish g t
  can_stand s t r q st can =
      let on = runs_on g.plan g.machine.setup is.begun can.acts t s q r
      (stands_back g.plan g.machine.setup is.begun s t r st) can.moves in
      record {
        acts = on.others;
        moves = on.moves;
        over = over_stands g.plan g.machine.setup is.begun (run t on.others) (run s can.acts) on.reached on.came on.stands
            can.over;
      }

  -- the state of a number that keeps one like this
  state_like : (k : ℕ) (s : Machine) (like : KeepsLike g.plan g.machine.setup g.space k s)
      → IsState g k like.state
  state_like k s like = record { keeps = like.keeps; reached = like.reached }

  -- a state that no act changes, and at which not everybody is done
  stuck_when : (s : Machine) → IsReached g.plan g.machine.setup s
      → ((a : Act) → IsMove g.plan.extras g.machine.setup a → AreAlike (after s a) s) → ¬ AreOver s → IsStuck g s
  stuck_when s reached step waits = record { still = still; waits = waits }
    where
      still : (acts : List Act) → AreMoves g.plan.extras g.machine.setup acts → AreAlike (run s acts) s
      still [] moves = refl
      still (a ∷ acts) moves =
          run_alike acts (after s a) s (reached_then laws g.plan g.machine.setup is.begun s a reached moves.0)
          reached moves.1 (step a moves.0)
          ∙ still acts moves.1

  -- each act led from it to its own number
  stuck_at : (k : ℕ) → k < g.left → StaysAt g.book k → (s : Machine) → IsState g k s → ¬ AreOver s → IsStuck g s
  stuck_at k low stays s x waits = stuck_when s x.reached step waits
    where
      step : (a : Act) → IsMove g.plan.extras g.machine.setup a → AreAlike (after s a) s
      step a move =
          let l = is.explored.left k low in
          let same : l.state ≡ s = same_state laws g.plan g.machine.setup is.begun g.space k l.state s l.keeps x.keeps l.reached x.reached in
          let at = is.explored.acts.all a move in
          let tried = l.next at.0 a at.1 in
          subst (λ z. AreAlike (after z a) z) same (sym (tried.stays (stays at.0 tried.met.number tried.then)))

  -- who stands for a stuck state is stuck
  stuck_stands : (s t : Machine) → IsReached g.plan g.machine.setup s → IsReached g.plan g.machine.setup t
      → StandsFor g.plan g.machine.setup s t → IsStuck g t → IsStuck g s
  stuck_stands s t r q st stuck =
      let back = stands_back g.plan g.machine.setup is.begun s t r st in
      stuck_when s r
      (still_stands g.plan g.machine.setup is.begun t s q r back (λ b move. stuck.still (b ∷ []) (move, tt)))
      (λ over. stuck.waits (over_stands g.plan g.machine.setup is.begun t s q r back over))

  -- what the marks of those that go on say of the others
  pub stuck_all : (marks turned : List Bool) → IsWhole g → AreGoing g.plan g.machine.setup g.space marks
      → ((k : ℕ) → slice_get marks k ≡ Some false → StaysAt g.book k) → AreTurned marks turned → AreStuck g turned
  stuck_all marks turned whole going stays t = record {
    count = t.count ∙ going.count;
    yes = λ k on s x.
        let off = t.each k true on in
        let low = slice_get_within marks k false off in
        let count = going.count in
        stuck_at k (omega (arith, low, count, whole)) (stays k off) s x (going.off k off s x.keeps x.reached);
    no = λ k off s x stuck.
        elim (going.on k (t.each k false off)) [
          | inl over ↦ stuck.waits (over s x.keeps x.reached)
          | inr on ↦ on.other s x.keeps x.reached (stuck.still (on.act ∷ []) (on.move, tt))
        ];
  }

  -- what an act led to
  pub led : (k i j : ℕ) → LeadsTo g.book k i j → IsLed g k i j
  led k i j leads =
      let acts = g.plan.acts.items in
      let a = get_or acts i (act.Step 0) in
      let at = slice_get-get_or acts i (act.Step 0) (leads_act g.book (length acts) g.left k i j is.columns leads) in
      let l = is.explored.left k (leads_low g.book (length acts) g.left k i j is.columns leads) in
      let tried = l.next i a at in
      record {
        state = l.state;
        is = record { keeps = l.keeps; reached = l.reached };
        act = a;
        doing = at;
        leads = subst (λ (h : ℕ). KeepsLike g.plan g.machine.setup g.space h (after l.state a))
            (leads_one g.book k i j tried.met.number leads tried.then) tried.met.like;
      }

  -- an act to a state from which some schedule finishes
  pub finish_more : (k i j : ℕ) → LeadsTo g.book k i j → ((s : Machine) → IsState g j s → CanFinish g s)
      → (s : Machine) → IsState g k s → CanFinish g s
  finish_more k i j leads can s x =
      let l = led k i j leads in
      let move = is.explored.acts.only i l.act l.doing in
      let same : l.state ≡ s = same_state laws g.plan g.machine.setup is.begun g.space k l.state s l.is.keeps x.keeps l.is.reached x.reached in
      let like = l.leads in
      let rest = can_stand like.state (after s l.act) like.reached
      (reached_then laws g.plan g.machine.setup is.begun s l.act x.reached move)
      (subst (λ z. StandsFor g.plan g.machine.setup like.state (after z l.act)) same like.stands)
      (can like.state (state_like j (after l.state l.act) like)) in
      record { acts = l.act ∷ rest.acts; moves = (move, rest.moves); over = rest.over }

  -- one state more is passed
  pub finishing_more : (n : ℕ) (old new : List Bool) → LeadsMarked g old n → IsMarkedOnly old new n → AreFinishing g old
      → AreFinishing g new
  finishing_more n old new to only good = record {
    count = only.count ∙ good.count;
    yes = λ k marked s x. elim (only.on k marked) [
      | inl before ↦ good.yes k before s x
      | inr now ↦ finish_more n to.act to.then to.leads (good.yes to.then to.marked) s
          (subst (λ (h : ℕ). IsState g h s) now x)
    ];
    no = λ k off s x. good.no k (only.off k off).0 s x;
  }

  -- and where it was marked before, the acts from it on are closed, if those behind it are
  pub closed_more : (n : ℕ) (old new : List Bool) (passes : Bool) → passes ≡ false → IsPassed g old new n passes
      → ((k i j : ℕ) → n < k → LeadsTo g.book k i j → slice_get old j ≡ Some true → slice_get old k ≡ Some true)
      → (k i j : ℕ) → n ≤ k → LeadsTo g.book k i j → slice_get new j ≡ Some true → slice_get new k ≡ Some true
  closed_more n old new passes still p before k i j high leads to =
      let same : new ≡ old = p.same still in
      let was : slice_get old j ≡ Some true = subst (λ (ms : List Bool). slice_get ms j ≡ Some true) same to in
      subst (λ (ms : List Bool). slice_get ms k ≡ Some true) (sym same) (elim (cases_eq k n) [
        | inl e ↦
            subst (λ (h : ℕ). slice_get old h ≡ Some true) (sym e)
            (p.closed still i j (subst (λ (h : ℕ). LeadsTo g.book h i j) e leads) was)
        | inr ne ↦ before k i j (omega (arith, high, ne)) leads was
      ])

  -- whoever is marked can finish, whether it passes or not
  pub passed_good : (n : ℕ) (old new : List Bool) (passes : Bool) → IsPassed g old new n passes → AreFinishing g old
      → AreFinishing g new
  passed_good n old new true p good = finishing_more n old new (p.moved refl) (p.marked refl) good
  passed_good n old new false p good = subst (λ (ms : List Bool). AreFinishing g ms) (sym (p.same refl)) good

  -- no schedule leads from what is not marked to what is
  module _ (whole : IsWhole g) (marks : List Bool) (good : AreFinishing g marks) (closed : IsClosed g marks) where
    pub doomed_at : (acts : List Act) (k : ℕ) → slice_get marks k ≡ Some false → (s : Machine) → IsState g k s
        → (u : Machine) → IsReached g.plan g.machine.setup u → StandsFor g.plan g.machine.setup s u
        → AreMoves g.plan.extras g.machine.setup acts → ¬ AreOver (run u acts)
    doomed_at [] k off s x u q st moves =
        λ over. good.no k off s x (over_stands g.plan g.machine.setup is.begun s u x.reached q st over)
    doomed_at (a ∷ acts) k off s x u q st moves =
        let step = steps g.plan g.machine.setup is.begun s u x.reached q st a moves.0 in
        let within = slice_get_within marks k false off in
        let count = good.count in
        let l = is.explored.left k (omega (arith, within, count, whole)) in
        let same : l.state ≡ s = same_state laws g.plan g.machine.setup is.begun g.space k l.state s l.keeps x.keeps l.reached x.reached in
        let at = is.explored.acts.all step.act step.move in
        let tried = l.next at.0 step.act at.1 in
        let j = tried.met.number in
        let like = tried.met.like in
        let to = state_like j (after l.state step.act) like in
        let stands = subst (λ z. StandsFor g.plan g.machine.setup like.state (after z step.act)) same like.stands in
        doomed_at acts j (off_too at.0 j like.state to tried.then) like.state to (after u a)
        (reached_then laws g.plan g.machine.setup is.begun u a q moves.0)
        (stands_then g.plan g.machine.setup is.begun like.state (after s step.act) (after u a) like.reached stands step.stands)
        moves.1
      where
        apart : slice_get marks k ≡ Some true → ⊥
        apart here = cc

        off_too : (i j : ℕ) (t : Machine) → IsState g j t → LeadsTo g.book k i j → slice_get marks j ≡ Some false
        off_too i j t to leads =
            let inside = slice_get_within g.space.keys j to.keeps.key to.keeps.is in
            let count = good.count in
            elim (some_mark marks j (omega (arith, inside, count))) [
              | inr not_so ↦ not_so
              | inl is_so ↦ absurd (apart (closed k i j leads is_so))
            ]

    pub doomed_all : (turned : List Bool) → AreTurned marks turned → AreDoomed g turned
    doomed_all turned t = record {
      count = t.count ∙ good.count;
      yes = λ k here s x acts moves. doomed_at acts k (t.each k true here) s x s x.reached
          (stands_self g.plan g.machine.setup is.begun s x.reached) moves;
      no = λ k here s x. good.yes k (t.each k false here) s x;
    }

  -- the first states that are marked
  pub state_of : (k : ℕ) (acts : List Act) → AreMoves g.plan.extras g.machine.setup acts
      → Keeps g.space k (state_after g.plan g.machine.setup acts)
      → IsState g k (state_after g.plan g.machine.setup acts)
  state_of k acts moves keeps = record { keeps = keeps; reached = record { acts = acts; moves = moves; there = refl } }

  sooner : (k : ℕ) (acts others : List Act) → IsWay g k acts → AreMoves g.plan.extras g.machine.setup others
      → length others < length acts
      → (j : ℕ) × (j < k) × KeepsLike g.plan g.machine.setup g.space j (state_after g.plan g.machine.setup others)
  sooner k acts others to moves less =
      let count = to.count in
      no_sooner laws g.plan g.machine.setup is.begun g.space g.book g.left is.explored is.within
      k to.origin to.is others moves (omega (arith, less, count))

  -- a mark below the first one that is set
  off_below : (marks : List Bool) (k j : ℕ) (s : Machine) → length marks ≡ length g.space.keys → IsFirst marks k
      → j < k → Keeps g.space j s → slice_get marks j ≡ Some false
  off_below marks k j s count first low keeps =
      let inside = slice_get_within g.space.keys j keeps.key keeps.is in
      elim (some_mark marks j (omega (arith, inside, count))) [
        | inl is_so ↦ absurd (first.first j low is_so)
        | inr not_so ↦ not_so
      ]

  pub shortest_end : (marks : List Bool) (k : ℕ) (acts : List Act) → AreEnds g marks → IsFirst marks k
      → IsWay g k acts → IsShortestToEnd g acts
  shortest_end marks k acts ends first to = record {
    moves = to.moves;
    over = ends.yes k first.here (state_after g.plan g.machine.setup acts) (state_of k acts to.moves to.leads);
    shortest = λ others moves over.
        elim (cases_lt (length others) (length acts)) [
          | inr not_so ↦ omega (arith, not_so)
          | inl less ↦
              let before = sooner k acts others to moves less in
              let t = state_after g.plan g.machine.setup others in
              let like = before.2 in
              absurd (ends.no before.0 (off_below marks k before.0 like.state ends.count first before.1 like.keeps)
              like.state (state_like before.0 t like) (over_stands g.plan g.machine.setup is.begun like.state t like.reached
              (record { acts = others; moves = moves; there = refl }) like.stands over))
        ];
  }

  pub shortest_doom : (marks : List Bool) (k : ℕ) (acts : List Act) → AreDoomed g marks → IsFirst marks k
      → IsWay g k acts → IsShortestToDoom g acts
  shortest_doom marks k acts doomed first to = record {
    moves = to.moves;
    doomed = doomed.yes k first.here (state_after g.plan g.machine.setup acts) (state_of k acts to.moves to.leads);
    shortest = λ others moves lost.
        elim (cases_lt (length others) (length acts)) [
          | inr not_so ↦ omega (arith, not_so)
          | inl less ↦
              let before = sooner k acts others to moves less in
              let t = state_after g.plan g.machine.setup others in
              let like = before.2 in
              let can = can_stand like.state t like.reached (record { acts = others; moves = moves; there = refl })
              like.stands (doomed.no before.0
              (off_below marks k before.0 like.state doomed.count first before.1 like.keeps)
              like.state (state_like before.0 t like)) in
              absurd (lost can.acts can.moves can.over)
        ];
  }

  pub shortest_stuck : (marks : List Bool) (k : ℕ) (acts : List Act) → AreStuck g marks → IsFirst marks k
      → IsWay g k acts → IsShortestToStuck g acts
  shortest_stuck marks k acts stuck first to = record {
    moves = to.moves;
    stuck = stuck.yes k first.here (state_after g.plan g.machine.setup acts) (state_of k acts to.moves to.leads);
    shortest = λ others moves lost.
        elim (cases_lt (length others) (length acts)) [
          | inr not_so ↦ omega (arith, not_so)
          | inl less ↦
              let before = sooner k acts others to moves less in
              let t = state_after g.plan g.machine.setup others in
              let like = before.2 in
              absurd (stuck.no before.0 (off_below marks k before.0 like.state stuck.count first before.1 like.keeps)
              like.state (state_like before.0 t like) (stuck_stands like.state t like.reached
              (record { acts = others; moves = moves; there = refl }) like.stands lost))
        ];
  }

  -- no mark is set, where every state was left
  off_at : (marks : List Bool) (j : ℕ) (s : Machine) → length marks ≡ length g.space.keys
      → ((k : ℕ) → slice_get marks k ≡ Some true → ⊥) → Keeps g.space j s → slice_get marks j ≡ Some false
  off_at marks j s count none keeps =
      let inside = slice_get_within g.space.keys j keeps.key keeps.is in
      elim (some_mark marks j (omega (arith, inside, count))) [
        | inl is_so ↦ absurd (none j is_so)
        | inr not_so ↦ not_so
      ]

  pub no_end : (marks : List Bool) → AreEnds g marks → ((k : ℕ) → slice_get marks k ≡ Some true → ⊥) → IsWhole g
      → (acts : List Act) → AreMoves g.plan.extras g.machine.setup acts
      → ¬ AreOver (state_after g.plan g.machine.setup acts)
  no_end marks ends none whole acts moves over =
      let met = whole_met laws g.plan g.machine.setup is.begun g.space g.book g.left is.explored whole acts moves in
      let t = state_after g.plan g.machine.setup acts in
      let like = met.like in
      ends.no met.number (off_at marks met.number like.state ends.count none like.keeps) like.state
      (state_like met.number t like) (over_stands g.plan g.machine.setup is.begun like.state t like.reached
      (record { acts = acts; moves = moves; there = refl }) like.stands over)

  pub no_doom : (marks : List Bool) → AreDoomed g marks → ((k : ℕ) → slice_get marks k ≡ Some true → ⊥) → IsWhole g
      → NobodyIsDoomed g
  no_doom marks doomed none whole acts moves =
      let met = whole_met laws g.plan g.machine.setup is.begun g.space g.book g.left is.explored whole acts moves in
      let t = state_after g.plan g.machine.setup acts in
      let like = met.like in
      can_stand like.state t like.reached (record { acts = acts; moves = moves; there = refl }) like.stands
      (doomed.no met.number (off_at marks met.number like.state doomed.count none like.keeps) like.state
      (state_like met.number t like))

  pub no_stuck : (marks : List Bool) → AreStuck g marks → ((k : ℕ) → slice_get marks k ≡ Some true → ⊥) → IsWhole g
      → NobodyIsStuck g
  no_stuck marks stuck none whole acts moves lost =
      let met = whole_met laws g.plan g.machine.setup is.begun g.space g.book g.left is.explored whole acts moves in
      let t = state_after g.plan g.machine.setup acts in
      let like = met.like in
      stuck.no met.number (off_at marks met.number like.state stuck.count none like.keeps) like.state
      (state_like met.number t like) (stuck_stands like.state t like.reached
      (record { acts = acts; moves = moves; there = refl }) like.stands lost)

-- who is done can finish
pub finishing : (g : Graph) (marks : List Bool) → AreEnds g marks → AreFinishing g marks
finishing g marks ends = record {
  count = ends.count;
  yes = λ k here s x. record { acts = []; moves = tt; over = ends.yes k here s x };
  no = ends.no;
}
