-- How a lock is held by a running processor: a spinlock by one waiter at most, and each from one of
-- its contexts to another.
use Rattle.std.specs.Prelude.{◌≡◌, ℕ, Some, None, true, false, [], ◌∷◌, ◌++◌, if◌then◌else◌}
use Rattle.lk_names.specs.Names.{same_lock}
use Rattle.lk_names.specs.History.{LockHistory, without}
use Rattle.lk_names.specs.declared.holder.Manner.{Manner}
use Rattle.lk_names.specs.declared.holder.Manner.TheVariants.{Spins}
use Rattle.lk_names.specs.declared.names.Kind.TheVariants.{Spin, Rw}
use Rattle.lk_names.specs.declared.names.Waiter.{Waiter}
use Rattle.lk_names.specs.declared.names.LockName.{LockName}
use Rattle.lk_rows.specs.Moves.{rw_name}
use Rattle.lk_law.specs.Agree.{sole}
use Rattle.lk_law.specs.Phase.Phase.{Idle}
use Rattle.lk_law.specs.Places.{phase_on}
use Rattle.lk_law.specs.RwPhase.{rests}
use Rattle.lk_law.specs.SoundWorld.{IsSoundWorld, rw_phases}
use Rattle.lk_law.specs.SpinWorld.{IsSoundSpinWorld}
use Rattle.lk_law.specs.Steps.{put_held}
use Rattle.lk_law.specs.World.{World}

-- A spinlock or a wait lock is held by one waiter at most.
abbrev pub HolderIsOne : Type 0
HolderIsOne = (m : World) (hs : LockName → LockHistory) (l : LockName) (u v : Waiter)
    → IsSoundSpinWorld m hs → m.held u l ≡ Some Spins → m.held v l ≡ Some Spins → u ≡ v

-- the hold of the lock goes from u to v
abbrev pub hands_hold : World → LockName → Waiter → Waiter → World
hands_hold m l u v = put_held (put_held m u l None) v l (Some Spins)

-- in the lock's history v is the holder
abbrev pub held_by : (LockName → LockHistory) → LockName → Waiter → LockName → LockHistory
held_by hs l v k = if same_lock k l then record (hs k) { holders = sole (Some v) } else hs k

-- A hold of a spinlock goes from one waiter to another, neither of which is at work on the lock: the
-- world stays sound, and the history names the other as the holder.
abbrev pub HoldMoves : Type 0
HoldMoves = (m : World) (hs : LockName → LockHistory) (l : LockName) (u v : Waiter)
    → IsSoundWorld m hs → l.wait ≡ false → m.kind l.index ≡ Spin → m.held u l ≡ Some Spins
    → phase_on l (m.frame u) ≡ Idle → phase_on l (m.frame v) ≡ Idle
    → IsSoundWorld (hands_hold m l u v) (held_by hs l v)

-- the hold of the reader-writer lock, as of a reader or the writer, goes from u to v
abbrev pub hands_share : World → ℕ → Manner → Waiter → Waiter → World
hands_share m i way u v = put_held (put_held m u (rw_name i) None) v (rw_name i) (Some way)

-- in the lock's history v holds it so, and u no more
abbrev pub shared_by : (LockName → LockHistory) → ℕ → Manner → Waiter → Waiter → LockName → LockHistory
shared_by hs i way u v k =
    if same_lock k (rw_name i)
    then record (hs k) {
      holders = without u way (hs k).holders ++ record { waiter = v; manner = way } ∷ [];
    } else hs k

-- A hold of a reader-writer lock goes from one waiter to another that has none, neither of which wants
-- more of the lock: the world stays sound, and the history names the other in its place.
abbrev pub ShareMoves : Type 0
ShareMoves = (m : World) (hs : LockName → LockHistory) (i : ℕ) (way : Manner) (u v : Waiter)
    → IsSoundWorld m hs → m.kind i ≡ Rw → m.held u (rw_name i) ≡ Some way
    → m.held v (rw_name i) ≡ None → rests (rw_phases m i u) ≡ true → rests (rw_phases m i v) ≡ true
    → IsSoundWorld (hands_share m i way u v) (shared_by hs i way u v)
