-- Locks, nodes and frames as functions of their names. A replayed machine is a world by look-up,
-- and so are the words and seats of running threads. Here is what a row does to a world, outright:
-- the word, the node, the frame and the hold after it.
use Rattle.std.specs.Prelude.{ℕ, Option, Bool, List}
use Rattle.lk_names.specs.declared.names.Format.{Format}
use Rattle.lk_names.specs.declared.names.Kind.{Kind}
use Rattle.lk_names.specs.declared.holder.Manner.{Manner}
use Rattle.lk_names.specs.declared.names.Mode.{Mode}
use Rattle.lk_names.specs.declared.names.Waiter.{Waiter}
use Rattle.lk_names.specs.declared.names.LockName.{LockName}
use Rattle.lk_word.specs.declared.spin_word.NodeName.{NodeName}
use Rattle.lk_word.specs.declared.spin_word.Fields.{Fields}
use Rattle.lk_word.specs.declared.rw_word.RwFields.{RwFields}
use Rattle.lk_rows.specs.declared.parts.Node.{Node}
use Rattle.lk_rows.specs.declared.parts.Frame.{Frame}

-- all that a machine has, as functions of names
pub record World : Type 0 where
  pub format : Format
  pub mode : Mode
  -- how many turns a paravirtual waiter spins
  pub turns : ℕ
  -- how many handoffs may pass a moved waiter by, and the socket of each processor
  pub threshold : ℕ
  pub sockets : List ℕ
  pub word : LockName → Fields
  pub node : NodeName → Node
  pub frame : Waiter → Option Frame
  pub held : Waiter → LockName → Option Manner
  pub queued : ℕ → ℕ
  -- the hash, which processors have halted, and of which a kick is remembered
  pub entry : LockName → Option NodeName
  pub halted : ℕ → Bool
  pub kicked : ℕ → Bool
  -- the word of a reader-writer lock, and of which kind a lock is
  pub rw : ℕ → RwFields
  pub kind : ℕ → Kind
