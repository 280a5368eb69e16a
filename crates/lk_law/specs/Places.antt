-- What a frame does at each row, as the laws read it: its phase, its stage and its post; and the
-- snapshot of a world.
use Rattle.std.specs.Prelude.{◌==◌, Option, Some, None, Bool, false, is_some, if◌then◌else◌}
use Rattle.lk_names.specs.Names.{same_lock}
use Rattle.lk_names.specs.Lawful.{is_local}
use Rattle.lk_names.specs.declared.holder.Manner.TheVariants.{Spins}
use Rattle.lk_names.specs.declared.names.LockName.{LockName}
use Rattle.lk_word.specs.declared.spin_word.NodeName.{NodeName}
use Rattle.lk_rows.specs.declared.parts.Frame.{Frame}
use Rattle.lk_rows.specs.declared.parts.Pc.{Pc}
use Rattle.lk_rows.specs.declared.parts.Pc.TheVariants.{F1, T1, T2, U1, V1, V2, P0, P1, P2, P3}
use Rattle.lk_rows.specs.declared.parts.Pc.TheVariants.{P4, G1, G2, G3, G4, G5, G6, G7, G8, G9}
use Rattle.lk_rows.specs.declared.parts.Pc.TheVariants.{G10, G11, N1, N2, C1, C2, C3, C4, C5, C6}
use Rattle.lk_rows.specs.declared.parts.Pc.TheVariants.{C7, C8, C9, C10, H1, H2, W1, W2, W3, W4}
use Rattle.lk_rows.specs.declared.parts.Pc.TheVariants.{W5, W6, W7, E1, E2, E3, E4, E5, E6, E7}
use Rattle.lk_rows.specs.declared.parts.Pc.TheVariants.{E8, E9, E10, E11, E12, E13, E14, E15, K1}
use Rattle.lk_rows.specs.declared.parts.Pc.TheVariants.{K2, K3, U2, U3, U4, U5}
use Rattle.lk_rows.specs.declared.parts.Why.{Why}
use Rattle.lk_rows.specs.Moves.{node_of}
use Rattle.lk_law.specs.Phase.{Phase}
use Rattle.lk_law.specs.Phase.Phase.{Idle, Seeks, Releases, Undoes, Watches, Claims, Prepared}
use Rattle.lk_law.specs.Phase.Phase.{Links, Waits, Leads, Stakes, Holds, Hands, Presses, Tends}
use Rattle.lk_law.specs.Pv.{Post}
use Rattle.lk_law.specs.Pv.Post.{Off, Joins, Spins, Peers, Stops, Stopped, Dozes, Sleeps, Stirs}
use Rattle.lk_law.specs.Pv.Post.{Rises, Clears, Tries, Signs, Slows, Wins, Erases, Marks, Checks}
use Rattle.lk_law.specs.Pv.Post.{Naps, Has, Calls, Slowing, Signing, Finds, Drops, Kicks}
use Rattle.lk_law.specs.Stage.{Stage}
use Rattle.lk_law.specs.Stage.Stage.{Rests, Skips, Meets, Tips, Ties, Cuts, Hangs, Counts, Picks}
use Rattle.lk_law.specs.Stage.Stage.{Picked, Flushes, Flushing, Promotes, Promoting}
use Rattle.lk_law.specs.Snapshot.{Snapshot}
use Rattle.lk_law.specs.World.{World}
use Rattle.lk_law.specs.Families.{is_slow}
use Rattle.lk_rows.specs.declared.parts.Why.TheVariants as why

-- what a frame at a row does for its lock
abbrev pub phase_at : Pc → Bool → NodeName → NodeName → Phase
phase_at F1 b prev y = Seeks
phase_at T1 b prev y = Seeks
phase_at T2 b prev y = Seeks
phase_at V1 b prev y = Seeks
phase_at V2 b prev y = Seeks
phase_at P0 b prev y = Seeks
phase_at P1 b prev y = Seeks
phase_at G1 b prev y = Seeks
phase_at N1 b prev y = Seeks
phase_at N2 b prev y = Seeks
phase_at U1 b prev y = Releases
phase_at P2 b prev y = Undoes
phase_at P3 b prev y = Watches
phase_at P4 b prev y = Claims
phase_at G2 b prev y = Prepared
phase_at G3 b prev y = Prepared
phase_at G4 b prev y = Prepared
phase_at G5 b prev y = Links prev
phase_at G6 b prev y = Waits
phase_at G7 b prev y = Leads
phase_at G8 b prev y = Stakes
phase_at G9 b prev y = Stakes
phase_at G10 b prev y = Holds
phase_at G11 b prev y = Hands y
phase_at C1 b prev y = Holds
phase_at C2 b prev y = Holds
phase_at C3 b prev y = Holds
phase_at C4 b prev y = Holds
phase_at C5 b prev y = Holds
phase_at C6 b prev y = Holds
phase_at C7 b prev y = Holds
phase_at C8 b prev y = Holds
phase_at C9 b prev y = Holds
phase_at C10 b prev y = Holds
phase_at H1 b prev y = if b then Prepared else Seeks
phase_at H2 b prev y = if b then Prepared else Seeks
phase_at W1 b prev y = Waits
phase_at W2 b prev y = Waits
phase_at W3 b prev y = Waits
phase_at W4 b prev y = Waits
phase_at W5 b prev y = Waits
phase_at W6 b prev y = Waits
phase_at W7 b prev y = Waits
phase_at E1 b prev y = Leads
phase_at E2 b prev y = Leads
phase_at E3 b prev y = Leads
phase_at E4 b prev y = Presses
phase_at E5 b prev y = Presses
phase_at E6 b prev y = Leads
phase_at E7 b prev y = Leads
phase_at E8 b prev y = Holds
phase_at E9 b prev y = Holds
phase_at E10 b prev y = Leads
phase_at E11 b prev y = Leads
phase_at E12 b prev y = Leads
phase_at E13 b prev y = Holds
phase_at E14 b prev y = Holds
phase_at E15 b prev y = Hands y
phase_at K1 b prev y = Tends y
phase_at K2 b prev y = Tends y
phase_at K3 b prev y = Tends y
phase_at U2 b prev y = Releases
phase_at U3 b prev y = Releases
phase_at U4 b prev y = Releases
phase_at U5 b prev y = Seeks
phase_at _ b prev y = Idle

-- what a frame at a place does for its lock; a finished one does nothing
abbrev pub phase_if : Option Pc → Bool → NodeName → NodeName → Phase
phase_if None b prev y = Idle
phase_if (Some c) b prev y = phase_at c b prev y

-- what a frame does for the lock on which it acts
abbrev pub phase_of : Frame → Phase
phase_of f = phase_if f.place (is_some f.me) (node_of f.prev) (node_of f.y)

-- how far a head has come that stands at a row of the choice

-- where the last of the secondary queue is looked for, the stage by what it is looked for
abbrev pub stage_why : Frame → Why → Stage
stage_why f why.Append = Meets (node_of f.a) (node_of f.b) f.k (node_of f.y)
stage_why f why.Flush = Flushes (node_of f.a)
stage_why f why.Promotion = Promotes

-- how far a head at a row has come with its choice
abbrev pub stage_at : Pc → Frame → Stage
stage_at C2 f = Skips (node_of f.a) (node_of f.b) f.k
stage_at C3 f = stage_why f f.why
stage_at C4 f = Tips (node_of f.a) (node_of f.b) f.k (node_of f.y) (node_of f.t)
stage_at C5 f = Ties (node_of f.a) (node_of f.b) f.k (node_of f.y)
stage_at C6 f = Cuts (node_of f.a) (node_of f.b) f.k (node_of f.y)
stage_at C7 f =
    if f.k == 0 then Picks (node_of f.y) else Hangs (node_of f.a) (node_of f.b) f.k (node_of f.y)
stage_at C8 f =
    if f.k == 0 then Picked (node_of f.y) else Counts (node_of f.a) (node_of f.b) f.k (node_of f.y)
stage_at C9 f = Flushing (node_of f.a) (node_of f.t)
stage_at C10 f = Promoting (node_of f.t)
stage_at _ f = Rests

-- the same of a place; a finished frame chooses nobody
abbrev pub stage_if : Option Pc → Frame → Stage
stage_if None f = Rests
stage_if (Some c) f = stage_at c f

-- how far a frame has come with its choice
abbrev pub stage_of : Frame → Stage
stage_of f = stage_if f.place f

-- how far the frame of a waiter, if there is one, has come with its choice for a lock
abbrev pub stage_on : LockName → Option Frame → Stage
stage_on l None = Rests
stage_on l (Some f) = if same_lock f.lock l then stage_of f else Rests

-- what a frame does besides, where processors halt

-- the post of a frame at a row
abbrev pub post_at : Pc → Frame → Post
post_at G5 f = Joins
post_at W1 f = Spins
post_at W2 f = Peers
post_at W3 f = Stops
post_at W4 f = Stopped
post_at W5 f = Dozes
post_at W6 f = Sleeps
post_at W7 f = Stirs
post_at E1 f = Rises
post_at E2 f = Clears f.hashed
post_at E3 f = Tries f.hashed
post_at E4 f = Tries f.hashed
post_at E5 f = Tries f.hashed
post_at E6 f = Signs
post_at E7 f = Slows
post_at E8 f = Wins
post_at E9 f = Erases
post_at E10 f = Marks
post_at E11 f = Checks
post_at E12 f = Naps
post_at E13 f = Has
post_at E14 f = Has
post_at E15 f = Has
post_at K1 f = Calls (node_of f.y)
post_at K2 f = Slowing (node_of f.y)
post_at K3 f = Signing (node_of f.y)
post_at U3 f = Finds
post_at U4 f = Drops (node_of f.target)
post_at U5 f = Kicks (node_of f.target)
post_at _ f = Off

-- the same of a place; a finished frame has none
abbrev pub post_if : Option Pc → Frame → Post
post_if None f = Off
post_if (Some c) f = post_at c f

-- the post of a frame
abbrev pub post_of : Frame → Post
post_of f = post_if f.place f

-- the post of the frame of a waiter, if there is one, at a lock
abbrev pub post_on : LockName → Option Frame → Post
post_on l None = Off
post_on l (Some f) = if same_lock f.lock l then post_of f else Off

-- what the frame of a waiter, if there is one, does for a lock
abbrev pub phase_on : LockName → Option Frame → Phase
phase_on l None = Idle
phase_on l (Some f) = if same_lock f.lock l then phase_of f else Idle

-- the own node of a frame
abbrev pub own_in : Option Frame → NodeName
own_in None = node_of None
own_in (Some f) = node_of f.me

-- the frame is in the slow path
abbrev pub slow_in : Option Frame → Bool
slow_in None = false
slow_in (Some f) = is_slow f.place

-- what a frame has for the first of the secondary queue
abbrev pub kept_in : Option Frame → Option NodeName
kept_in None = None
kept_in (Some f) = f.second

-- what the laws read of a world
abbrev pub snapshot : World → Snapshot
snapshot m =
    record {
      mode = m.mode;
      threshold = m.threshold;
      local = λ w u. is_local m.format m.sockets w.cpu u;
      word = m.word;
      phase = λ l u. phase_on l (m.frame u);
      own = λ u. own_in (m.frame u);
      node = m.node;
      held = m.held;
      slow = λ u. slow_in (m.frame u);
      queued = m.queued;
      stage = λ l u. stage_on l (m.frame u);
      kept = λ u. kept_in (m.frame u);
      post = λ l u. post_on l (m.frame u);
      entry = m.entry;
      kicked = m.kicked;
    }
