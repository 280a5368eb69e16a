-- What the code of a row needs of the machine; all of it holds of a sound one.
use Rattle.std.specs.Prelude.{◌≡◌, ◌<◌, ◌≤◌, ◌-◌, ◌^◌, ℕ, Option, Some, None, length}
use Rattle.lk_word.specs.declared.spin_word.NodeName.{NodeName}
use Rattle.lk_word.specs.SpinWord.{IsTailInRange}
use Rattle.lk_rows.specs.declared.parts.Frame.{Frame}
use Rattle.lk_rows.specs.declared.parts.Counts.{Counts}
use Rattle.lk_rows.specs.declared.parts.Pc.{Pc}
use Rattle.lk_rows.specs.declared.parts.Pc.TheVariants.{G4, C10, E6, K3}
use Rattle.lk_rows.specs.Machine.{Machine, HasNode, top_frame, queued_at}
use Rattle.lk_rows.specs.Layouts.{layout_of}
use Rattle.lk_rows.specs.Moves.{CanMove}
use Rattle.lk_rows.specs.TopRow.{Target, FlagOf, NextOf, ChoiceFlag, ChoiceNext, SecondTailOf}
use Rattle.lk_rows.specs.TopRow.{RunsOf, PvFlag, PvNext, StateOf, target}

-- none of the ten counts is above this number
pub record CountsWithin (n : ℕ) (c : Counts) : Type 0 where
  pub lock_pending : c.lock_pending ≤ n
  pub lock_slowpath : c.lock_slowpath ≤ n
  pub lock_use_node2 : c.lock_use_node2 ≤ n
  pub lock_use_node3 : c.lock_use_node3 ≤ n
  pub lock_use_node4 : c.lock_use_node4 ≤ n
  pub lock_no_node : c.lock_no_node ≤ n
  pub pv_lock_stealing : c.pv_lock_stealing ≤ n
  pub pv_wait_node : c.pv_wait_node ≤ n
  pub pv_wait_head : c.pv_wait_head ≤ n
  pub pv_kick_unlock : c.pv_kick_unlock ≤ n

-- the node on which a row operates is there
abbrev pub HasTarget : Machine → Target → Type 0
HasTarget m (FlagOf n) = HasNode m n
HasTarget m (NextOf n) = HasNode m n
HasTarget m (ChoiceFlag n) = HasNode m n
HasTarget m (ChoiceNext n) = HasNode m n
HasTarget m (SecondTailOf n) = HasNode m n
HasTarget m (RunsOf n) = HasNode m n
HasTarget m (PvFlag n) = HasNode m n
HasTarget m (PvNext n) = HasNode m n
HasTarget m (StateOf n) = HasNode m n
HasTarget m _ = Unit {0}

-- the node that a row takes from a register and stores, as the tail of a word or in the hash
abbrev pub stored_name : Pc → Frame → Option NodeName
stored_name G4 f = f.me
stored_name C10 f = f.t
stored_name E6 f = f.me
stored_name K3 f = f.y
stored_name _ f = None

-- The top frame of the processor can make its row: it can move, its lock and the node that it
-- reaches are there, the node that it stores can stand in a word, and no count is at its end.
pub record IsReady (m : Machine) (p : ℕ) : Type 0 where
  pub moves : CanMove m p
  pub lock : (top_frame m p).lock.index < length m.locks
  pub queued : queued_at m p ≤ 6
  pub reaches : (c : Pc) → (top_frame m p).place ≡ Some c → HasTarget m (target c (top_frame m p))
  pub stores : (c : Pc)
      → (top_frame m p).place ≡ Some c
      → IsTailInRange (layout_of m.setup.format) (stored_name c (top_frame m p))
  pub counts : CountsWithin (2 ^ 64 - 2) m.counts
