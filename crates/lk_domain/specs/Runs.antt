-- The machine part of the rule of a domain's table: a world that is sound, whose locks and nodes
-- are the words, and whose frames and holds are those of the seats.
use Rattle.std.specs.Prelude.{◌≡◌, ℕ, ◌<◌, ◌≤◌, List, ◌∷◌, length, Some, None, Bool, true, false, ◌≢◌, ◌⊎◌, Option}
use Rattle.std.specs.Prelude.{slice_index}
use mathlib.Core.Option.{some}
use lib.ListN.{get_elem?}
use Rattle.atomic_table.specs.Table.{State}
use Rattle.lk_names.specs.History.{LockHistory}
use Rattle.lk_names.specs.declared.names.LockName.{LockName}
use Rattle.lk_names.specs.declared.names.Waiter.{Waiter}
use Rattle.lk_word.specs.declared.spin_word.NodeName.{NodeName}
use Rattle.lk_rows.specs.declared.parts.Frame.{Frame}
use Rattle.lk_rows.specs.declared.parts.Node.{Node}
use Rattle.lk_rows.specs.declared.parts.Pc.{Pc}
use Rattle.lk_rows.specs.declared.parts.Pc.TheVariants.{U3, E9}
use Rattle.lk_rows.specs.Moves.{node_of}
use Rattle.lk_law.specs.Agree.{halts}
use Rattle.lk_law.specs.Families.{chooses}
use Rattle.lk_law.specs.Nodes.{will_link}
use Rattle.lk_law.specs.Premises.{Uses}
use Rattle.lk_law.specs.SoundWorld.{IsSoundWorld}
use Rattle.lk_law.specs.World.{World}
use Rattle.lk_waits.specs.Attended.{IsAttended}
use Rattle.lk_domain.specs.Calls.{Calls, no_calls, frame_in, held_in, Stacked, ArePlaced, Rests, AreHeld}
use Rattle.lk_domain.specs.Calls.{AreFresh, Running, told_in, is_inner, lock_name}
use Rattle.lk_domain.specs.Plans.{cpus_of, locks_of, kind_at, IsRunningPlan, turns_of}
use Rattle.lk_domain.specs.Views.{total, times, numbers, once_below}
use Rattle.lk_domain.specs.Words.{Place, place_at, IsPlace, is_read, number_of, with_mark, words_of}
use Rattle.lk_domain.specs.Words.{part_index, node_number, places_of, IsNode, pair_number}
use Rattle.lk_domain.specs.declared.part.Part.{Part}
use Rattle.lk_domain.specs.declared.plan.Plan.{Plan}
use Rattle.lk_domain.specs.declared.view.View.{View}

abbrev pub waiter : ℕ → ℕ → Waiter
waiter p c = record { cpu = p; ctx = c }

abbrev pub node_name : ℕ → ℕ → NodeName
node_name p j = record { cpu = p; index = j }

-- the world is of this plan
pub record IsOfPlan (k : Plan) (m : World) : Type 0 where
  pub format : m.format ≡ k.format
  pub mode : m.mode ≡ k.mode
  pub turns : m.turns ≡ turns_of k
  pub threshold : m.threshold ≡ k.threshold
  pub sockets : m.sockets ≡ k.topology.sockets.items
  pub kind : m.kind ≡ kind_at k

-- the frames and holds of the processor p of a world are those of these calls
pub record Mirrors (m : World) (p : ℕ) (c : Calls) : Type 0 where
  pub frames : (d : ℕ) → m.frame (waiter p d) ≡ frame_in c.frames d
  pub holds : (d : ℕ) (l : LockName) → m.held (waiter p d) l ≡ held_in c.holds d l

-- so many words of a node are reset, in order of their places
abbrev pub IsReset : ℕ → Node → Type 0
IsReset n x = (q : Part) → part_index q < n → node_number q x ≡ 0

-- the newest call chooses the next, and this is the count of handoffs in its own node
pub record HasCounted (m : World) (x : Running) (n : ℕ) : Type 0 where
  pub row : Pc
  pub place : x.frame.place ≡ Some row
  pub front : chooses row ≡ true
  pub is : (m.node (node_of x.frame.me)).runs ≡ n

-- the count that the seat has read for the next row is still there
abbrev pub IsCounted : World → Calls → Type 0
IsCounted m c = (n : ℕ) (x : Running) (rs : List Running) → c.runs ≡ Some n → c.frames ≡ x ∷ rs
    → HasCounted m x n

-- Where no processor halts: if the link of a node that a call uses names a node, a call uses that
-- node too, and the mark of the link says whether that call is in a context above 0. Where
-- processors halt no link has a mark, and of the node that it names nothing is said here.
pub record AreMarked (m : World) (marks : NodeName → Bool) : Type 0 where
  pub says : halts m.mode ≡ false
      → (a b : NodeName) (u : Waiter)
      → Uses m u a
      → (m.node a).next ≡ Some b
      → (w : Waiter) × Uses m w b × (marks a ≡ is_inner w.ctx)
  pub bare : halts m.mode ≡ true → (a : NodeName) → marks a ≡ false

-- what a mark told a head of the node that it will link behind the secondary queue is true of the
-- call that uses that node
abbrev pub AreTold : World → List Running → Type 0
AreTold m rs = (d : ℕ) (f : Frame) (c : Pc) (a : NodeName) (b : Bool) (w : Waiter)
    → frame_in rs d ≡ Some f → f.place ≡ Some c → will_link c f.why ≡ true → f.a ≡ Some a
    → told_in rs d ≡ Some (a, b) → Uses m w a → b ≡ is_inner w.ctx

-- The calls of a seat with the number p: the world's processor is theirs; their contexts are
-- numbered from the oldest, and there are six at most; each stands at a row; none waits at a release;
-- each lock is held
-- once, in a manner of its kind, and by nobody who waits for it; of the node to come as many words
-- are reset as the seat knows; a head's count of handoffs is what the seat has read; and what a
-- mark told it of the node that it will link is true.
pub record SeatFits (m : World) (p : ℕ) (c : Calls) : Type 0 where
  pub mirrors : Mirrors m p c
  pub stacked : Stacked c.frames
  pub few : length c.frames ≤ 6
  pub placed : ArePlaced c.frames
  pub rests : Rests c.frames
  pub held : AreHeld m.kind c.holds
  pub fresh : AreFresh c.frames c.holds
  pub reset : IsReset c.ready (m.node (node_name p (m.queued p)))
  pub counted : IsCounted m c
  pub told : AreTold m c.frames
  -- where processors halt, each is in one call at most; and it has halted where its seat says so
  pub single : halts m.mode ≡ true → length c.frames ≤ 1
  pub halted : m.halted p ≡ c.halted

-- each word that somebody reads has the number of what it stands for
pub record IsStored (k : Plan) (m : World) (marks : NodeName → Bool) (pairs : ℕ → ℕ) (ws : List ℕ) : Type 0 where
  pub long : length ws ≡ words_of k
  pub words : (x : Place)
      → IsPlace k x
      → is_read k.mode x ≡ true
      → slice_index ws (place_at k x) ≡ with_mark marks x (number_of k m pairs x)

-- With these numbers in its places the hash is the map of the entries: each entry stands at one place, and
-- each place that is not empty has an entry.
pub record IsHashed (k : Plan) (entry : LockName → Option NodeName) (pairs : ℕ → ℕ) : Type 0 where
  pub entered : (l : LockName) (n : NodeName)
      → entry l ≡ Some n
      → (l.wait ≡ false) × (l.index < locks_of k) × ((i : ℕ) × (i < places_of k)
      × (pairs i ≡ pair_number l.index n))
  pub placed : (i : ℕ)
      → i < places_of k
      → (pairs i ≡ 0)
      ⊎ ((l : ℕ) × (n : NodeName) × IsNode k n × (l < locks_of k) × (entry (lock_name l) ≡ Some n)
      × (pairs i ≡ pair_number l n))
  -- no lock stands in two places
  pub once : (i j l : ℕ) (a b : NodeName)
      → i < places_of k
      → j < places_of k
      → IsNode k a
      → IsNode k b
      → l < locks_of k
      → pairs i ≡ pair_number l a
      → pairs j ≡ pair_number l b
      → i ≡ j

-- the newest call seeks the entry of its lock: a release that finds whom to kick, or a head that took
-- the lock while it entered itself
abbrev pub seeks_entry : Option Pc → Bool
seeks_entry (Some U3) = true
seeks_entry (Some E9) = true
seeks_entry _ = false

-- It has looked at so many places, and none has an entry of the lock; and where it has found one, that
-- stands at the next.
pub record Sought (k : Plan) (pairs : ℕ → ℕ) (l n : ℕ) (spot : Option NodeName) : Type 0 where
  pub passed : (i : ℕ) (a : NodeName)
      → i < n
      → IsNode k a
      → pairs i ≢ pair_number l a
  pub inside : n ≤ places_of k
  pub found : (a : NodeName)
      → spot ≡ Some a
      → (n < places_of k) × (pairs n ≡ pair_number l a)

abbrev pub Seeks : Plan → (ℕ → ℕ) → Calls → Type 0
Seeks k pairs c = (x : Running) (rs : List Running) → c.frames ≡ x ∷ rs
    → seeks_entry x.frame.place ≡ true → Sought k pairs x.frame.lock.index c.looked c.spot

-- the first seat alone deals the numbers, and as many were dealt as the roll word says
pub record Deals (k : Plan) (roll id n : ℕ) (plan : Plan) : Type 0 where
  pub first : id ≡ 0
  pub next : roll ≡ n
  pub of_plan : plan ≡ k

-- the waiter has no frame and no lock
abbrev pub IsIdle : World → Waiter → Type 0
IsIdle m u = (m.frame u ≡ None) × ((l : LockName) → m.held u l ≡ None)

-- no seat has this number for its own
abbrev pub IsNobodys : List View → ℕ → Type 0
IsNobodys vs p = (id : ℕ) (v : View) → get_elem? vs id ≡ some v → v.who.number ≢ Some p

-- the machine part of the rule
pub record Runs (k : Plan) {S : Type 0} (s : State S View) : Type 0 where
  pub lawful : IsRunningPlan k
  -- the world for which words and seats stand, and its histories
  pub world : World
  pub histories : LockName → LockHistory
  pub sound : IsSoundWorld world histories
  -- who waits for a successor or a kick waits for somebody
  pub attended : IsAttended world
  pub of_plan : IsOfPlan k world
  -- the marks of the links, and the numbers in the places of the hash
  pub marks : NodeName → Bool
  pub pairs : ℕ → ℕ
  pub stored : IsStored k world marks pairs s.words
  pub marked : AreMarked world marks
  pub hashed : halts k.mode ≡ true → IsHashed k world.entry pairs
  pub seeks : (id : ℕ) (v : View) → get_elem? s.views id ≡ some v → Seeks k pairs v.calls
  pub seats : (id : ℕ) (v : View) (p : ℕ)
      → get_elem? s.views id ≡ some v
      → v.who.number ≡ Some p
      → SeatFits world p v.calls
  -- Each number below the roll word is one seat's, by itself or as an ended one, and no other is
  -- any seat's. A number that no seat has for its own, which was not dealt or whose seat has ended, has
  -- no frame and no lock.
  pub once : (p : ℕ)
      → total (λ v. times p (numbers v)) s.views ≡ once_below p (slice_index s.words 0)
  pub blank : (p : ℕ) → IsNobodys s.views p → Mirrors world p no_calls
  pub roll : slice_index s.words 0 ≤ cpus_of k
  -- each processor has six contexts
  pub six : (u : Waiter) → 6 ≤ u.ctx → IsIdle world u
  pub planned : (id : ℕ) (v : View) (p : ℕ)
      → get_elem? s.views id ≡ some v
      → v.who.number ≡ Some p
      → v.who.plan ≡ k
  pub silent : (id : ℕ) (v : View)
      → get_elem? s.views id ≡ some v
      → v.who.number ≡ None
      → v.calls ≡ no_calls
  pub deals : (id : ℕ) (v : View) (n : ℕ)
      → get_elem? s.views id ≡ some v
      → v.who.dealt ≡ Some n
      → Deals k (slice_index s.words 0) id n v.who.plan
