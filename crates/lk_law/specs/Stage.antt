-- How far a head has come with its choice of the next: what it knows at each row of the choice. It
-- has the branch that was taken, so that no clause reads a register that is stale.
use Rattle.std.specs.Prelude.{ℕ, Option, Some, None, Bool, true, false}
use Rattle.lk_word.specs.declared.spin_word.NodeName.{NodeName}

-- how far a waiter that leads the queue has come with its search for a local next
pub data Stage : Type 0 where
  -- no search is on
  Rests : Stage
  -- k waiters were passed over, the first and the last of them have the nodes a and b
  Skips : (a b : NodeName) (k : ℕ) → Stage
  -- the next, y, is known, and second has a tail to append to
  Meets : (a b : NodeName) (k : ℕ) (y : NodeName) → Stage
  -- the same, and the tail is t
  Tips : (a b : NodeName) (k : ℕ) (y t : NodeName) → Stage
  -- a stands behind second's last, if it has any
  Ties : (a b : NodeName) (k : ℕ) (y : NodeName) → Stage
  -- nothing stands behind b
  Cuts : (a b : NodeName) (k : ℕ) (y : NodeName) → Stage
  -- second's tail is b
  Hangs : (a b : NodeName) (k : ℕ) (y : NodeName) → Stage
  -- y knows how long the run is
  Counts : (a b : NodeName) (k : ℕ) (y : NodeName) → Stage
  -- nobody is moved, and the next is y
  Picks : (y : NodeName) → Stage
  -- the same, and y knows how long the run is
  Picked : (y : NodeName) → Stage
  -- second will stand before a
  Flushes : (a : NodeName) → Stage
  -- the same, and second's tail is t
  Flushing : (a t : NodeName) → Stage
  -- second will be all of the queue
  Promotes : Stage
  -- the same, and second's tail is t
  Promoting : (t : NodeName) → Stage

-- the link that is missing in the nodes while the queue has it
abbrev pub cut_of : NodeName → Stage → Option (NodeName × NodeName)
cut_of me (Cuts a b k y) = Some (b, y)
cut_of me (Hangs a b k y) = Some (b, y)
cut_of me (Counts a b k y) = Some (b, y)
cut_of me (Picks y) = Some (me, y)
cut_of me (Picked y) = Some (me, y)
cut_of me _ = None

-- what stands behind second's last
abbrev pub tip_of : Stage → Option NodeName
tip_of (Ties a b k y) = Some a
tip_of (Cuts a b k y) = Some a
tip_of (Hangs a b k y) = Some a
tip_of (Counts a b k y) = Some a
tip_of _ = None

-- the waiters that were passed over
abbrev pub passed_over : Stage → Option (NodeName × NodeName × ℕ)
passed_over (Skips a b k) = Some (a, b, k)
passed_over (Meets a b k y) = Some (a, b, k)
passed_over (Tips a b k y t) = Some (a, b, k)
passed_over (Ties a b k y) = Some (a, b, k)
passed_over (Cuts a b k y) = Some (a, b, k)
passed_over (Hangs a b k y) = Some (a, b, k)
passed_over (Counts a b k y) = Some (a, b, k)
passed_over _ = None

-- the last of those passed over, from when nothing stands behind it
abbrev pub parted : Stage → Option NodeName
parted (Cuts a b k y) = Some b
parted (Hangs a b k y) = Some b
parted (Counts a b k y) = Some b
parted _ = None

-- whom the lead will go to, and how many are moved
abbrev pub chosen : Stage → Option (ℕ × NodeName)
chosen (Meets a b k y) = Some (k, y)
chosen (Tips a b k y t) = Some (k, y)
chosen (Ties a b k y) = Some (k, y)
chosen (Cuts a b k y) = Some (k, y)
chosen (Hangs a b k y) = Some (k, y)
chosen (Counts a b k y) = Some (k, y)
chosen (Picks y) = Some (0, y)
chosen (Picked y) = Some (0, y)
chosen _ = None

-- the register or the flag names the first of second, or of the waiters that are moved
abbrev pub tied : Stage → Bool
tied (Ties a b k y) = true
tied (Cuts a b k y) = true
tied (Hangs a b k y) = true
tied (Counts a b k y) = true
tied _ = false

-- the run was not counted
abbrev pub picks : Stage → Bool
picks (Picks y) = true
picks (Picked y) = true
picks _ = false

-- the last of those that are moved, once the first of the secondary queue names it as the last
abbrev pub hangs : Stage → Option NodeName
hangs (Hangs a b k y) = Some b
hangs (Counts a b k y) = Some b
hangs _ = None

-- the last of the secondary queue, where the head has learnt it
abbrev pub tail_seen : Stage → Option NodeName
tail_seen (Tips a b k y t) = Some t
tail_seen (Flushing a t) = Some t
tail_seen (Promoting t) = Some t
tail_seen _ = None

-- the first of those that stand before the queue again
abbrev pub before_of : Stage → Option NodeName
before_of (Flushes a) = Some a
before_of (Flushing a t) = Some a
before_of _ = None

-- the next, once it was told how many handoffs were made
abbrev pub told_runs : Stage → Option NodeName
told_runs (Counts a b k y) = Some y
told_runs (Picked y) = Some y
told_runs _ = None
