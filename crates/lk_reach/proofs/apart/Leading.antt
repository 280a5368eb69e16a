-- Schedules, put together from their ends.
use Rattle.std.proofs.Common.{◌≡◌, ℕ, ◌<◌, ◌≤◌, ◌+◌, List, [], ◌∷◌, refl, sym, ◌∙◌, ap, subst, ◌++◌}
use Rattle.std.proofs.Common.{length, Option, Some, arith, inl, inr, slice_get}
use Rattle.lk_reach.proofs.Names.{cases_lt, slice_get_within, get_cases, Act, Event, next, Machine}
use Rattle.lk_reach.proofs.Names.{Pc, Setup, AreColumns, IsExplored, IsOrigin, IsSuch, KeepsLike}
use Rattle.lk_reach.proofs.Names.{HaveWays, kind_value, IsPath, AreMoves, IsBegun, IsReached}
use Rattle.lk_reach.proofs.Names.{MakesRow, after, bare, cpus_of, run, start_of, state_after, Keeps}
use Rattle.lk_reach.proofs.Names.{SpaceValue, IsGraph, IsWay, IsWhole, Book, Graph, Origin, Plan}
use Rattle.lk_reach.proofs.Closed.{Laws, reached_start, reached_such, reached_then, run_bare}
use Rattle.lk_reach.proofs.{Closed.same_state, Folded.{WasTold, laws, makes_stands, steps}}
use Rattle.lk_reach.proofs.Kept.{one_value}
use Rattle.lk_reach.proofs.Known.{all_met, like_is, no_sooner, soon_left, whole_met}
use Rattle.lk_reach.proofs.Left.{none_there}
use Rattle.lk_reach.specs.{Explored.IsTold, Path.{AreLow, IsBefore}}
use Rattle.lk_reach.specs.Told.{IsNever, IsShortestToEvent, IsShortestToRow, Tells}

-- these acts lead from the state of the one number to that of the other
pub record LeadsOn (g : Graph) (j k : ℕ) (acts : List Act) : Type 0 where
  pub moves : AreMoves g.plan.extras g.machine.setup acts
  pub leads : (s : Machine) → Keeps g.space j s → IsReached g.plan g.machine.setup s → Keeps g.space k (run s acts)
  pub count : (o p : Origin) → slice_get g.book.origins j ≡ Some o → slice_get g.book.origins k ≡ Some p
      → o.level + length acts ≡ p.level

pub leads_start : (g : Graph) (k : ℕ) → LeadsOn g k k []
leads_start g k = record {
  moves = tt;
  leads = λ s keeps reached. keeps;
  count = λ o p a b. let e = ap (λ (q : Origin). q.level) (one_value (slice_get g.book.origins k) o p a b) in omega (arith, e);
}

-- each state but the first was met from one with a lower number
pub are_low : (plan : Plan) (setup : Setup) (v : SpaceValue) (b : Book) (n : ℕ) → IsExplored plan setup v b n → AreLow plan b
are_low plan setup v b n x k o at up =
    let is = x.origins k o at up in
    (is.low, slice_get_within plan.acts.items o.act is.made.act is.made.doing)

module _ (laws : Laws) (g : Graph) (is : IsGraph g) where
  origin_of : (k j : ℕ) (a : Act) (before : IsBefore g.plan g.book k j a) → 0 < k
      → IsOrigin g.plan g.machine.setup g.space g.book before.origin k
  origin_of k j a before up = is.explored.origins k before.origin before.is up

  -- one act before
  pub leads_then : (i j k : ℕ) (a : Act) (acts : List Act) → 0 < j → IsBefore g.plan g.book j i a → LeadsOn g j k acts
      → LeadsOn g i k (a ∷ acts)
  leads_then i j k a acts up before x =
      let o = origin_of j i a before up in
      let move = is.explored.acts.only before.origin.act a before.doing in
      let same_act : o.made.act ≡ a = one_value (slice_get g.plan.acts.items before.origin.act) o.made.act a o.made.doing before.doing in
      record {
        moves = (move, x.moves);
        leads = λ s keeps reached.
            let same : o.made.state ≡ s = same_state laws g.plan g.machine.setup is.begun g.space i o.made.state s
            (subst (λ (h : ℕ). Keeps g.space h o.made.state) before.from o.made.keeps) keeps o.made.reached reached in
            x.leads (after s a)
            (subst (λ z. Keeps g.space j (after s z)) same_act (subst (λ z. Keeps g.space j (after z o.made.act)) same o.leads))
            (reached_then laws g.plan g.machine.setup is.begun s a reached move);
        count = λ p q here there.
            let rest = x.count before.origin q before.is there in
            let level = o.made.level in
            let was = ap (λ (r : Origin). r.level) (one_value (slice_get g.book.origins i) o.made.before p
            (subst (λ (h : ℕ). slice_get g.book.origins h ≡ Some o.made.before) before.from o.made.was) here) in
            omega (arith, rest, level, was);
      }

  -- the acts by which a state was met
  pub path_leads : (acts : List Act) (i k : ℕ) → IsPath g.plan g.book i k acts → LeadsOn g i k acts
  path_leads [] i k e = subst (λ (h : ℕ). LeadsOn g i h []) e (leads_start g i)
  path_leads (a ∷ acts) i k x = leads_then i x.0 k a acts x.2 x.1 (path_leads acts x.0 k x.3)

  -- acts from the first state on
  pub way : (k : ℕ) (o : Origin) (acts : List Act) → slice_get g.book.origins k ≡ Some o → LeadsOn g 0 k acts
      → IsWay g k acts
  way k o acts at x =
      let start = reached_start laws g.plan g.machine.setup is.begun in
      let first = is.explored.first in
      let count = x.count first.origin o first.is at in
      let zero = first.level in
      record {
        moves = x.moves;
        leads = subst (λ (s : Machine). Keeps g.space k s) (run_bare acts (start_of g.plan g.machine.setup))
            (x.leads (bare (start_of g.plan g.machine.setup)) first.keeps start);
        origin = o;
        is = at;
        count = omega (arith, count, zero);
      }

  -- a state that a schedule reaches has as many processors as the graph
  pub cpus_of_reached : (acts : List Act) → AreMoves g.plan.extras g.machine.setup acts
      → length (state_after g.plan g.machine.setup acts).cpus ≡ g.cpus
  cpus_of_reached acts moves =
      (reached_such laws g.plan g.machine.setup is.begun (state_after g.plan g.machine.setup acts)
      (record { acts = acts; moves = moves; there = refl })).cpus ∙ sym is.cpus

  -- and so has the state that a number keeps
  cpus_of_like : (k : ℕ) (s : Machine) (x : KeepsLike g.plan g.machine.setup g.space k s)
      → length x.state.cpus ≡ g.cpus
  cpus_of_like k s x =
      (reached_such laws g.plan g.machine.setup is.begun x.state x.reached).cpus ∙ sym is.cpus

  -- the first state at which a step makes the row
  pub shortest_row : (k : ℕ) (row : Pc) (acts : List Act) → IsWay g k acts
      → ((s : Machine) → Keeps g.space k s → length s.cpus ≡ g.cpus → MakesRow s row)
      → ((j : ℕ) → j < k → (s : Machine) → Keeps g.space j s → length s.cpus ≡ g.cpus → ¬ MakesRow s row)
      → IsShortestToRow g row acts
  shortest_row k row acts to makes first = record {
    moves = to.moves;
    makes = makes (state_after g.plan g.machine.setup acts) to.leads (cpus_of_reached acts to.moves);
    shortest = λ others moves made.
        elim (cases_lt (length others) (length acts)) [
          | inl less ↦
              let count = to.count in
              let sooner = no_sooner laws g.plan g.machine.setup is.begun g.space g.book g.left is.explored is.within
              k to.origin to.is others moves (omega (arith, less, count)) in
              let like = sooner.2 in
              let t = state_after g.plan g.machine.setup others in
              absurd (first sooner.0 sooner.1 like.state like.keeps (cpus_of_like sooner.0 t like)
              (makes_stands g.plan g.machine.setup is.begun like.state t like.reached
              (record { acts = others; moves = moves; there = refl }) like.stands row made))
          | inr not_so ↦ omega (arith, not_so)
        ];
  }

  -- and where there is none
  pub no_row : (row : Pc) → IsWhole g
      → ((k : ℕ) (s : Machine) → Keeps g.space k s → length s.cpus ≡ g.cpus → ¬ MakesRow s row)
      → (acts : List Act) → AreMoves g.plan.extras g.machine.setup acts
      → ¬ MakesRow (state_after g.plan g.machine.setup acts) row
  no_row row whole none acts moves made =
      let met = whole_met laws g.plan g.machine.setup is.begun g.space g.book g.left is.explored whole acts moves in
      let like = met.like in
      let t = state_after g.plan g.machine.setup acts in
      none met.number like.state like.keeps (cpus_of_like met.number t like)
      (makes_stands g.plan g.machine.setup is.begun like.state t like.reached
      (record { acts = acts; moves = moves; there = refl }) like.stands row made)

  -- and each state that was met has an origin
  pub way_to : (k : ℕ) (acts : List Act) → k < length g.space.keys → LeadsOn g 0 k acts → IsWay g k acts
  way_to k acts low x =
      elim (get_cases g.book.origins k) [
        | inl none ↦
            let count = is.explored.count in
            absurd (none_there g.book.origins k (omega (arith, low, count)) none)
        | inr some ↦ way k some.0 acts some.1 x
      ]

  -- how an event of a kind was first met
  pub told_way : (kind : ℕ) (o : Origin) (acts : List Act) (a : Act) → slice_get g.book.firsts kind ≡ Some (Some o)
      → IsWay g o.state acts → slice_get g.plan.acts.items o.act ≡ Some a → Tells g kind acts a
  told_way kind o acts a here to doing =
      let t = is.explored.tellings kind o here in
      let s = state_after g.plan g.machine.setup acts in
      let same : t.made.state ≡ s = same_state laws g.plan g.machine.setup is.begun g.space o.state t.made.state s t.made.keeps
      to.leads t.made.reached (record { acts = acts; moves = to.moves; there = refl }) in
      let same_act : t.made.act ≡ a = one_value (slice_get g.plan.acts.items o.act) t.made.act a t.made.doing doing in
      record {
        moves = to.moves;
        move = is.explored.acts.only o.act a doing;
        event = t.event;
        tells = subst (λ z. (next s z).1 ≡ Some t.event) same_act (subst (λ (z : Machine). (next z t.made.act).1 ≡ Some t.event) same t.tells);
        is = t.is;
      }

  -- an event of the kind that was told of a state that stands for another
  told_so : (kind most : ℕ) (e : Event) (o : Option Event) → WasTold o e → kind_value e.what ≡ kind
      → ((x : Event) → o ≡ Some x → IsTold g.book (kind_value x.what) most) → IsTold g.book kind most
  told_so kind most e o before is told =
      subst (λ (h : ℕ). IsTold g.book h most) (before.kind ∙ is) (told before.event before.is)

  -- an event behind acts that lead to a state that was left
  telling_first : (kind : ℕ) (acts : List Act) (a : Act) → Tells g kind acts a
      → ((i : ℕ) (o : Origin) → slice_get g.book.origins i ≡ Some o → o.level < length acts + 1 → i < g.left)
      → IsTold g.book kind (length acts + 1)
  telling_first kind acts a t low =
      let s = state_after g.plan g.machine.setup acts in
      let met = all_met laws g.plan g.machine.setup is.begun g.space g.book g.left is.explored acts t.moves
      (λ i o at few. low i o at (omega (arith, few))) in
      let soon = met.soon in
      let l = is.explored.left met.number (low met.number met.origin met.is (omega (arith, soon))) in
      let stands = like_is laws g.plan g.machine.setup is.begun g.space met.number l.state s l.keeps l.reached met.like in
      let step = steps g.plan g.machine.setup is.begun l.state s l.reached
      (record { acts = acts; moves = t.moves; there = refl }) stands a t.move in
      let level = ap (λ (q : Origin). q.level) (one_value (slice_get g.book.origins met.number) l.origin met.origin l.is met.is) in
      let at = is.explored.acts.all step.act step.move in
      let told = told_so kind (l.origin.level + 1) t.event (next l.state step.act).1 (step.told t.event t.tells) t.is
      (l.next at.0 step.act at.1).told in
      let high = told.soon in
      record { origin = told.origin; is = told.is; soon = omega (arith, high, level, soon) }

  pub shortest_event : (kind : ℕ) (o : Origin) (acts : List Act) (a : Act) → slice_get g.book.firsts kind ≡ Some (Some o)
      → IsWay g o.state acts → slice_get g.plan.acts.items o.act ≡ Some a
      → IsShortestToEvent g kind (acts ++ a ∷ [])
  shortest_event kind o acts a here to doing = record {
    first = acts;
    last = a;
    all = refl;
    tells = told_way kind o acts a here to doing;
    shortest = λ others b t.
        elim (cases_lt (length others) (length acts)) [
          | inr not_so ↦ omega (arith, not_so)
          | inl less ↦
              let made = (is.explored.tellings kind o here).made in
              let up = made.level in
              let count = to.count in
              let level = ap (λ (q : Origin). q.level) (one_value (slice_get g.book.origins o.state) made.before to.origin made.was to.is) in
              let told = telling_first kind others b t (soon_left laws g.plan g.machine.setup is.begun g.space g.book g.left
              (length others + 1) is.explored is.within
              (λ p at. let near = is.explored.told_near kind o p here at in omega (arith, near, up, level, count, less))) in
              let soon = told.soon in
              let same = ap (λ (q : Origin). q.level) (one_first (slice_get g.book.firsts kind) told.origin o told.is here) in
              absurd (omega (arith, soon, same, up, level, count, less))
        ];
  }
    where
      one_first : (m : Option (Option Origin)) (p q : Origin) → m ≡ Some (Some p) → m ≡ Some (Some q) → p ≡ q
      one_first m p q e f = cc

  pub never_told : (kind : ℕ) → IsWhole g → ((o : Origin) → slice_get g.book.firsts kind ≡ Some (Some o) → ⊥)
      → IsNever g kind
  never_told kind whole none acts a t =
      let count = is.explored.count in
      let told = telling_first kind acts a t
      (λ i o at few. let low = slice_get_within g.book.origins i o at in omega (arith, low, count, whole)) in
      none told.origin told.is

-- the acts by which states were met
pub ways_of : (plan : Plan) (m : Machine) (v : SpaceValue) (b : Book) (k : ℕ) → IsBegun plan m.setup
    → IsExplored plan m.setup v b k → AreColumns b (length plan.acts.items) k 0 → length m.cpus ≤ 8 → IsSuch m.setup m
    → k ≤ length v.keys → HaveWays plan b v m.setup
ways_of plan m v b k begun x columns few such within =
    let g : Graph = record { space = v; plan = plan; book = b; machine = m; cpus = cpus_of m.setup; left = k } in
    let cpus = such.cpus in
    let is : IsGraph g = record {
      begun = begun;
      explored = x;
      columns = columns;
      within = within;
      cpus = refl;
      few = omega (arith, few, cpus);
      such = such;
    } in
    record {
      low = are_low plan m.setup v b k x;
      count = x.count;
      ways = λ j acts there path.
          let way = way_to laws g is j acts there (path_leads laws g is acts 0 j path) in
          (way.moves, way.leads);
    }
