-- The words of nodes, of which a row stores one.
use Rattle.std.proofs.Common.{◌≡◌, ℕ, Option, Some, None, refl, ap}
use Rattle.std.specs.Prelude.{unwrap_or}
use Rattle.lk_domain.proofs.Names.{NodeName, Waiter, ChoiceFlag, ChoiceNext, FlagOf, NextOf, PvFlag}
use Rattle.lk_domain.proofs.Names.{PvNext, RunsOf, RwWord, SecondTailOf, Target, Flag, Frame, Node}
use Rattle.lk_domain.proofs.Names.{Pc, Flagged, Met, Named, Number, met_in, stores_flag}
use Rattle.lk_domain.proofs.Names.{stores_next, stores_runs, stores_second, World, OfNode, Part}
use Rattle.lk_domain.proofs.{rows.Changes.{IsAt, node_here}, rows.Grips.IsOwn}
use Rattle.lk_domain.specs.declared.part.Part.TheVariants as part

-- what a row meets there
abbrev pub met_of : Part → Node → Met
met_of part.Flag x = Flagged x.flag
met_of part.Next x = Named x.next
met_of part.SecondTail x = Named x.second_tail
met_of part.Runs x = Number x.runs

-- what it stores there

pub flag_here : (m : World) (a : NodeName) (o : Option Flag) → ((stores_flag m a o).node a).flag ≡ unwrap_or o (m.node a).flag
flag_here m a None = refl
flag_here m a (Some x) = ap (λ (y : Node). y.flag) (node_here m a (record (m.node a) { flag = x }))

pub next_here : (m : World) (a : NodeName) (o : Option (Option NodeName)) → ((stores_next m a o).node a).next ≡ unwrap_or o (m.node a).next
next_here m a None = refl
next_here m a (Some x) = ap (λ (y : Node). y.next) (node_here m a (record (m.node a) { next = x }))

pub tail_here : (m : World) (a : NodeName) (o : Option (Option NodeName)) → ((stores_second m a o).node a).second_tail ≡ unwrap_or o (m.node a).second_tail
tail_here m a None = refl
tail_here m a (Some x) = ap (λ (y : Node). y.second_tail) (node_here m a (record (m.node a) { second_tail = x }))

pub runs_here : (m : World) (a : NodeName) (o : Option ℕ) → ((stores_runs m a o).node a).runs ≡ unwrap_or o (m.node a).runs
runs_here m a None = refl
runs_here m a (Some x) = ap (λ (y : Node). y.runs) (node_here m a (record (m.node a) { runs = x }))

-- the row is on a word of a node
module _ (m : World) (w : Waiter) (f : Frame) (c : Pc) where
  -- it is one of a spinlock or a wait lock
  pub own_by : (t : Target) (a : NodeName) (q : Part) → IsAt f t (OfNode a q) → IsOwn t
  own_by RwWord a q on = absurd on
  own_by _ a q on = tt

  pub met_there : (t : Target) (a : NodeName) (q : Part) → IsAt f t (OfNode a q) → met_in m w f t ≡ met_of q (m.node a)
  met_there (FlagOf n) a part.Flag on = ap (λ (z : NodeName). met_of part.Flag (m.node z)) on
  met_there (NextOf n) a part.Next on = ap (λ (z : NodeName). met_of part.Next (m.node z)) on
  met_there (ChoiceFlag n) a part.Flag on = ap (λ (z : NodeName). met_of part.Flag (m.node z)) on
  met_there (ChoiceNext n) a part.Next on = ap (λ (z : NodeName). met_of part.Next (m.node z)) on
  met_there (SecondTailOf n) a part.SecondTail on = ap (λ (z : NodeName). met_of part.SecondTail (m.node z)) on
  met_there (RunsOf n) a part.Runs on = ap (λ (z : NodeName). met_of part.Runs (m.node z)) on
  met_there (PvFlag n) a part.Flag on = ap (λ (z : NodeName). met_of part.Flag (m.node z)) on
  met_there (PvNext n) a part.Next on = ap (λ (z : NodeName). met_of part.Next (m.node z)) on
  met_there _ a q on = absurd on
