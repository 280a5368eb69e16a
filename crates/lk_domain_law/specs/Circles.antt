-- Who waits for whom in a domain.
use Rattle.std.specs.Prelude.{◌≡◌, ◌<◌, ℕ, Some, true}
use Rattle.atomic_table.specs.Table.{State}
use Rattle.lk_names.specs.declared.holder.Manner.{Manner}
use Rattle.lk_names.specs.declared.names.LockName.{LockName}
use Rattle.lk_names.specs.declared.names.Waiter.{Waiter}
use Rattle.lk_rows.specs.declared.parts.Frame.{Frame}
use Rattle.lk_rows.specs.declared.parts.Pc.{Pc}
use Rattle.lk_law.specs.World.{World}
use Rattle.lk_waits.specs.Waits.{polls, lock_at, IsTop}
use Rattle.lk_domain.specs.Keeps.{Slot}
use Rattle.lk_domain.specs.Runs.{waiter}
use Rattle.lk_domain.specs.Stand.{Stand}
use Rattle.lk_domain.specs.declared.plan.Plan.{Plan}
use Rattle.lk_domain.specs.declared.view.View.{View}
use Rattle.lk_domain_law.specs.InOrder.{AreInOrder}

-- The processor p waits for the lock, which may be a wait lock: its newest call polls for it, and no context
-- above that call is in a critical section.
pub record Awaits (m : World) (p : ℕ) (l : LockName) : Type 0 where
  pub by : Waiter
  pub frame : Frame
  pub row : Pc
  pub cpu : by.cpu ≡ p
  pub top : IsTop m by frame row
  pub poll : polls row ≡ true
  pub lock : lock_at row frame ≡ l
  pub idle : (d : ℕ) (k : LockName) (way : Manner) → by.ctx < d → m.held (waiter p d) k ≡ Some way → ⊥

-- the processor p has the lock, in one of its contexts
abbrev pub Has : World → ℕ → LockName → Type 0
Has m p l = (d : ℕ) × (way : Manner) × (m.held (waiter p d) l ≡ Some way)

-- A chain of waits, from p, which waits for l, to q, which waits for k: each processor in it waits for a lock
-- that the next one has.
pub data Chain (m : World) (p : ℕ) (l : LockName) : ℕ → LockName → Type 0 where
  one : (q : ℕ) (k : LockName) → Awaits m p l → Has m q l → Awaits m q k → Chain m p l q k
  more : (q r : ℕ) (k n : LockName) → Chain m p l q k → Has m r k → Awaits m r n → Chain m p l r n

-- No wait leads back to itself, however many processors are in between.
abbrev pub NoCircle : Type 0
NoCircle = (rank : ℕ → ℕ) (k : Plan) (s : State Slot View) (st : Stand k s) → AreInOrder rank s
    → (p : ℕ) (l : LockName) → Chain st.runs.world p l p l → ⊥

-- each lock for which somebody waits is held by a processor that waits, too
abbrev pub AllAreBlocked : World → Type 0
AllAreBlocked m = (p : ℕ) (l : LockName) → Awaits m p l → (q : ℕ) × (n : LockName) × Has m q l × Awaits m q n

-- That is never so where somebody waits.
abbrev pub SomebodyIsFree : Type 0
SomebodyIsFree = (rank : ℕ → ℕ) (k : Plan) (s : State Slot View) (st : Stand k s) → AreInOrder rank s
    → AllAreBlocked st.runs.world → (p : ℕ) (l : LockName) → Awaits st.runs.world p l → ⊥
