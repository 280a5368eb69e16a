-- A shortest schedule to an act that is sought.
use Rattle.std.proofs.Common.{◌≡◌, ℕ, ◌<◌, List, sym, subst, length, Some, None, true, arith, inl}
use Rattle.std.proofs.Common.{inr, refl, slice_get}
use Rattle.lk_reach.proofs.Names.{cases_lt, slice_get_within, Act, Machine, Setup, IsSought}
use Rattle.lk_reach.proofs.Names.{IsExplored, IsStepped, IsSuch, AreMoves, IsBegun, IsReached}
use Rattle.lk_reach.proofs.Names.{cpus_of, state_after, NoneAt, Keeps, IsGraph, IsWay, IsWhole}
use Rattle.lk_reach.proofs.Names.{Sought, Graph}
use Rattle.lk_reach.proofs.Closed.{Laws, move_in_range, reached_sound, reached_such}
use Rattle.lk_reach.proofs.{Folded.deeds_stand, Kept.one_value, Known.{no_sooner, whole_met}}
use Rattle.lk_reach.specs.{Deeds.{IsNeverDone, IsShortestToDeed}, Seeking.{IsFirstDeed, NameCpus}}

-- another machine of the setup
pub graph_same : (g : Graph) (m : Machine) → IsSuch g.machine.setup m → IsGraph g → IsGraph (record g { machine = m })
graph_same g m such is =
    let back = sym such.setup in
    record {
      begun = subst (λ (z : Setup). IsBegun g.plan z) back is.begun;
      explored = subst (λ (z : Setup). IsExplored g.plan z g.space g.book g.left) back is.explored;
      columns = is.columns;
      within = is.within;
      cpus = subst (λ (z : Setup). g.cpus ≡ cpus_of z) back is.cpus;
      few = is.few;
      such = subst (λ (z : Setup). IsSuch z m) back such;
    }

pub way_same : (g : Graph) (m : Machine) → IsSuch g.machine.setup m → (k : ℕ) (acts : List Act)
    → IsWay (record g { machine = m }) k acts → IsWay g k acts
way_same g m such k acts w = record {
  moves = subst (λ (z : Setup). AreMoves g.plan.extras z acts) such.setup w.moves;
  leads = subst (λ (z : Setup). Keeps g.space k (state_after g.plan z acts)) such.setup w.leads;
  origin = w.origin;
  is = w.is;
  count = w.count;
}

module _ (laws : Laws) (g : Graph) (is : IsGraph g) where
  reached : (acts : List Act) → AreMoves g.plan.extras g.machine.setup acts
      → IsReached g.plan g.machine.setup (state_after g.plan g.machine.setup acts)
  reached acts moves = record { acts = acts; moves = moves; there = refl }

  such_of : (acts : List Act) → AreMoves g.plan.extras g.machine.setup acts
      → IsSuch g.machine.setup (state_after g.plan g.machine.setup acts)
  such_of acts moves = reached_such laws g.plan g.machine.setup is.begun (state_after g.plan g.machine.setup acts) (reached acts moves)

  pub all_stepped : (k : ℕ) → k < length g.space.keys → IsStepped g.machine.setup g.space k
  all_stepped k low = let good = is.explored.good k low in record {
    state = good.state;
    keeps = good.keeps;
    such = reached_such laws g.plan g.machine.setup is.begun good.state good.reached;
    sound = reached_sound laws g.plan g.machine.setup is.begun good.state good.reached;
  }

  pub acts_name_cpus : NameCpus g.machine.setup g.plan.acts.items
  acts_name_cpus i a at = move_in_range g.plan.extras g.machine.setup a (is.explored.acts.only i a at)

  pub shortest_deed : (sought : Sought) → (g.plan.folds ≡ true → sought.cpu ≡ None) → (k i : ℕ) (acts : List Act) (a : Act)
      → IsFirstDeed g.machine.setup g.space g.plan.acts.items sought k i → slice_get g.plan.acts.items i ≡ Some a
      → IsWay g k acts → IsShortestToDeed g sought acts a
  shortest_deed sought any k i acts a found doing to =
      let s = state_after g.plan g.machine.setup acts in
      let same : found.done.act ≡ a = one_value (slice_get g.plan.acts.items i) found.done.act a found.done.is doing in
      record {
        moves = to.moves;
        move = is.explored.acts.only i a doing;
        does = subst (λ (b : Act). IsSought sought s b) same (found.done.does s to.leads (such_of acts to.moves));
        shortest = λ others other moves move does.
            elim (cases_lt (length others) (length acts)) [
              | inr not_so ↦ omega (arith, not_so)
              | inl less ↦
                  let count = to.count in
                  let sooner = no_sooner laws g.plan g.machine.setup is.begun g.space g.book g.left is.explored is.within
                  k to.origin to.is others moves (omega (arith, less, count)) in
                  let like = sooner.2 in
                  let t = state_after g.plan g.machine.setup others in
                  let deed = deeds_stand g.plan g.machine.setup is.begun like.state t like.reached (reached others moves)
                  like.stands sought any other move does in
                  let at = is.explored.acts.all deed.0 deed.1 in
                  absurd (found.first sooner.0 sooner.1 at.0 deed.0 at.1 like.state like.keeps
                  (reached_such laws g.plan g.machine.setup is.begun like.state like.reached) deed.2)
            ];
      }

  pub never_done : (sought : Sought) → (g.plan.folds ≡ true → sought.cpu ≡ None)
      → ((k : ℕ) → k < length g.space.keys → NoneAt g.machine.setup g.space g.plan.acts.items sought k) → IsWhole g
      → IsNeverDone g sought
  never_done sought any none whole acts last moves move does =
      let met = whole_met laws g.plan g.machine.setup is.begun g.space g.book g.left is.explored whole acts moves in
      let like = met.like in
      let t = state_after g.plan g.machine.setup acts in
      let deed = deeds_stand g.plan g.machine.setup is.begun like.state t like.reached (reached acts moves) like.stands
      sought any last move does in
      let at = is.explored.acts.all deed.0 deed.1 in
      none met.number (slice_get_within g.space.keys met.number like.keeps.key like.keeps.is) at.0 deed.0 at.1
      like.state like.keeps (reached_such laws g.plan g.machine.setup is.begun like.state like.reached) deed.2
