-- What a waiter does for one lock besides its phase, where processors halt: a *post* for each row
-- of the paravirtual lock. And when the hash, the lock's byte and the posts of one lock agree.
use Rattle.std.specs.Prelude.{◌≡◌, ◌≢◌, ◌⊎◌, Option, Some, None, Bool, true, false, not}
use Rattle.lk_names.specs.declared.names.Waiter.{Waiter}
use Rattle.lk_word.specs.declared.spin_word.NodeName.{NodeName}
use Rattle.lk_word.specs.declared.spin_word.Locked.{Locked}
use Rattle.lk_word.specs.declared.spin_word.Locked.TheVariants.{Held, Slow}
use Rattle.lk_rows.specs.declared.parts.State.{State}
use Rattle.lk_rows.specs.declared.parts.State.TheVariants.{Running, Halted, Hashed}
use Rattle.lk_law.specs.Phase.{Phase}
use Rattle.lk_law.specs.Phase.Phase.{Idle, Seeks, Releases, Prepared, Links, Waits, Leads, Presses}
use Rattle.lk_law.specs.Phase.Phase.{Holds, Hands, Tends}

-- what a waiter does for one lock besides its phase, where processors halt
pub data Post : Type 0 where
  Off : Post
  -- has the tail, and will link
  Joins : Post
  -- looks at its flag; at the one before it; is about to halt; has said so; looks again; sleeps;
  -- wakes
  Spins : Post
  Peers : Post
  Stops : Post
  Stopped : Post
  Dozes : Post
  Sleeps : Post
  Stirs : Post
  -- leads the queue: learns whether it is hashed; says that it runs; tries to take the lock
  Rises : Post
  Clears : (hashed : Bool) → Post
  Tries : (hashed : Bool) → Post
  -- enters itself into the hash; tells the holder; took the lock while doing so; seeks itself out
  Signs : Post
  Slows : Post
  Wins : Post
  Erases : Post
  -- says that it is hashed; looks at the lock; sleeps
  Marks : Post
  Checks : Post
  Naps : Post
  -- leads and has the lock
  Has : Post
  -- has handed off to y: looks whether it halted; tells the releaser; enters it
  Calls : (y : NodeName) → Post
  Slowing : (y : NodeName) → Post
  Signing : (y : NodeName) → Post
  -- releases: looks whom to kick; knows it; kicks
  Finds : Post
  Drops : (t : NodeName) → Post
  Kicks : (t : NodeName) → Post

-- the lock is slow and nobody is entered
abbrev pub bare : Post → Bool
bare (Signing y) = true
bare (Drops t) = true
bare _ = false

-- it is entered and the lock is not slow
abbrev pub post_full : Post → Bool
post_full Slows = true
post_full Erases = true
post_full _ = false

-- brings the lock from or to slow
abbrev pub touches : Post → Bool
touches (Slowing y) = true
touches (Signing y) = true
touches Finds = true
touches (Drops t) = true
touches _ = false

-- the byte is slow where a waiter has this post
abbrev pub slow_at : Post → Bool
slow_at Finds = true
slow_at Wins = true
slow_at _ = false

-- the byte is held, and not slow, where a waiter has this post
abbrev pub one_at : Post → Bool
one_at Has = true
one_at (Slowing y) = true
one_at _ = false

-- a holder that is about to look whether the next has halted
abbrev pub calls : Post → Bool
calls (Calls y) = true
calls _ = false

-- a holder that has marked the next as hashed, and is about to make the byte slow
abbrev pub slowing : Post → Bool
slowing (Slowing y) = true
slowing _ = false

-- a waiter that is about to test its state for the last time, or to halt, or has halted
abbrev pub dozes : Post → Bool
dozes Dozes = true
dozes Sleeps = true
dozes _ = false

-- it is about to halt, or halted
abbrev pub at_halt : Post → Bool
at_halt Sleeps = true
at_halt Naps = true
at_halt _ = false

-- the node that the post says leads the queue
abbrev pub names : Post → Option NodeName
names (Calls y) = Some y
names (Slowing y) = Some y
names (Signing y) = Some y
names (Drops t) = Some t
names _ = None

-- it has the lock
abbrev pub post_holds : Post → Bool
post_holds Wins = true
post_holds Erases = true
post_holds Has = true
post_holds (Calls y) = true
post_holds (Slowing y) = true
post_holds (Signing y) = true
post_holds Finds = true
post_holds (Drops t) = true
post_holds _ = false

-- it leads the queue
abbrev pub fronts : Post → Bool
fronts Rises = true
fronts (Clears h) = true
fronts (Tries h) = true
fronts Signs = true
fronts Slows = true
fronts Wins = true
fronts Erases = true
fronts Marks = true
fronts Checks = true
fronts Naps = true
fronts Has = true
fronts _ = false

-- the state is not that of a node in the hash
abbrev pub not_hashed : State → Bool
not_hashed Hashed = false
not_hashed _ = true

-- if it leads the queue, it is in no entry and no other is about to enter it
abbrev pub raw : Post → State → Bool
raw Spins s = not_hashed s
raw Peers s = not_hashed s
raw Stops s = not_hashed s
raw Stopped s = not_hashed s
raw Dozes s = not_hashed s
raw Sleeps s = not_hashed s
raw Stirs s = not_hashed s
raw Rises s = not_hashed s
raw (Clears h) s = not h
raw (Tries h) s = not h
raw Signs s = true
raw Slows s = true
raw _ s = false

-- the own node's state, for one that leads or does not
abbrev pub fits : Post → Bool → State → Bool
fits Joins f Running = true
fits Joins f _ = false
fits Spins f Running = true
fits Spins true Hashed = true
fits Spins f _ = false
fits Peers f Running = true
fits Peers f _ = false
fits Stops f Running = true
fits Stops f _ = false
fits Stopped f Halted = true
fits Stopped true Hashed = true
fits Stopped f _ = false
fits Dozes f Halted = true
fits Dozes true Hashed = true
fits Dozes f _ = false
fits Sleeps f Halted = true
fits Sleeps true Hashed = true
fits Sleeps f _ = false
fits Stirs f Running = true
fits Stirs f Halted = true
fits Stirs true Hashed = true
fits Stirs f _ = false
fits Rises f Halted = false
fits (Clears h) f Halted = false
fits (Tries h) f Halted = false
fits Signs f Halted = false
fits Slows f Halted = false
fits Wins f Halted = false
fits Erases f Halted = false
fits Marks f Halted = false
fits Checks f Halted = false
fits Naps f Halted = false
fits Has f Halted = false
fits _ f s = true

-- what a post says of the phase
abbrev pub agrees : Post → Phase → Bool
agrees Off Idle = true
agrees Off Seeks = true
agrees Off Releases = true
agrees Off Prepared = true
agrees Joins (Links n) = true
agrees Spins Waits = true
agrees Peers Waits = true
agrees Stops Waits = true
agrees Stopped Waits = true
agrees Dozes Waits = true
agrees Sleeps Waits = true
agrees Stirs Waits = true
agrees Rises Leads = true
agrees (Clears h) Leads = true
agrees (Tries h) Leads = true
agrees (Tries h) Presses = true
agrees Signs Leads = true
agrees Slows Leads = true
agrees Marks Leads = true
agrees Checks Leads = true
agrees Naps Leads = true
agrees Wins Holds = true
agrees Erases Holds = true
agrees Has Holds = true
agrees Has (Hands n) = true
agrees (Calls y) (Tends n) = true
agrees (Slowing y) (Tends n) = true
agrees (Signing y) (Tends n) = true
agrees Finds Releases = true
agrees (Drops t) Releases = true
agrees (Kicks t) Seeks = true
agrees _ _ = false

-- the hash, the lock's byte and the posts of one lock agree; owed: a kick of the waiter's processor
-- is remembered or on its way
pub record PostsAgree (locked : Locked) (entry : Option NodeName) (front : Option Waiter)
    (post : Waiter → Post) (state : Waiter → State) (own : Waiter → NodeName)
    (owed : Waiter → Type 0) : Type 0 where
  pub fit : (u : Waiter) (f : Bool)
      → (f ≡ false → front ≢ Some u)
      → (f ≡ true → front ≡ Some u)
      → fits (post u) f (state u) ≡ true
  pub bare_entry : (u : Waiter) → bare (post u) ≡ true → entry ≡ None
  pub bare_slow : (u : Waiter) → bare (post u) ≡ true → locked ≡ Slow
  pub bare_some : entry ≡ None → locked ≡ Slow → (u : Waiter) × (bare (post u) ≡ true)
  pub full_entry : (u : Waiter) → post_full (post u) ≡ true → entry ≡ Some (own u)
  pub full_slow : (u : Waiter) → post_full (post u) ≡ true → locked ≢ Slow
  pub full_some : (n : NodeName)
      → entry ≡ Some n
      → locked ≢ Slow
      → (u : Waiter) × (post_full (post u) ≡ true)
  pub entered : (n : NodeName) → entry ≡ Some n → (w : Waiter) × (front ≡ Some w) × (own w ≡ n)
  pub named : (u : Waiter) (n : NodeName)
      → names (post u) ≡ Some n
      → (w : Waiter) × (front ≡ Some w) × (own w ≡ n)
  pub raw_slow : (w : Waiter) → front ≡ Some w → raw (post w) (state w) ≡ true → locked ≢ Slow
  pub raw_free : (w u : Waiter)
      → front ≡ Some w
      → raw (post w) (state w) ≡ true
      → touches (post u) ≡ false
  pub slow : (u : Waiter) → slow_at (post u) ≡ true → locked ≡ Slow
  pub one : (u : Waiter) → one_at (post u) ≡ true → locked ≡ Held
  pub called : (w u : Waiter)
      → front ≡ Some w
      → calls (post u) ≡ true
      → dozes (post w) ≡ true
      → state w ≡ Halted
  pub dozed : (w : Waiter)
      → front ≡ Some w
      → post w ≡ Dozes
      → state w ≡ Halted
      → (u : Waiter) × (calls (post u) ≡ true)
  pub slept : (w : Waiter)
      → front ≡ Some w
      → post w ≡ Sleeps
      → (locked ≡ Slow) ⊎ ((u : Waiter) × (calls (post u) ≡ true))
      ⊎ ((u : Waiter) × (slowing (post u) ≡ true)) ⊎ owed w
  pub napped : (w : Waiter)
      → front ≡ Some w
      → post w ≡ Naps
      → (locked ≡ Slow) ⊎ ((u : Waiter) × (slowing (post u) ≡ true)) ⊎ owed w
