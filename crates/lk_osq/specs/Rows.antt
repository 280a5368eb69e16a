-- The rows as data, and what an act does. They are those of Linux's osq_lock.c.
use Rattle.std.specs.Prelude.{◌≡◌, ◌⊎◌, ◌-◌, ◌==◌, ℕ, Option, Some, None, Bool, true, false, ◌&&◌}
use Rattle.std.specs.Prelude.{not, is_some, nat_lt, if◌then◌else◌}
use Rattle.lk_osq.specs.declared.nodes.Node.{Node}
use Rattle.lk_osq.specs.declared.nodes.Cpu.{Cpu}
use Rattle.lk_osq.specs.declared.places.Place.{Place}
use Rattle.lk_osq.specs.declared.places.Place.TheVariants.{O1, O2, O3, O4, O5, Q1, Q2, Q3, Q4, Q5}
use Rattle.lk_osq.specs.declared.places.Place.TheVariants.{Q6, Q7, Q8, Q9, X1, X2, X3, X4, X5, X6}
use Rattle.lk_osq.specs.declared.places.Place.TheVariants.{X7}
use Rattle.lk_osq.specs.declared.events.OsqWhat.{OsqWhat}
use Rattle.lk_osq.specs.declared.events.OsqWhat.TheVariants.{TakeFree, Arrive, TakeHanded, Quit}
use Rattle.lk_osq.specs.declared.events.OsqWhat.TheVariants.{Release}
use Rattle.lk_osq.specs.declared.events.OsqEvent.{OsqEvent}
use Rattle.lk_osq.specs.declared.outcomes.Lead.{Lead}
use Rattle.lk_osq.specs.declared.outcomes.Lead.TheVariants.{Goes, Knows, Meets, Ends}
use Rattle.lk_osq.specs.declared.outcomes.Store.{Store}
use Rattle.lk_osq.specs.declared.outcomes.Store.TheVariants.{Flag, Next, Prev, Reset}
use Rattle.lk_osq.specs.declared.outcomes.Outcome.{Outcome}
use Rattle.lk_osq.specs.Machine.{Machine, cpu_at, node_at, set_cpu, set_node, set_tail}

-- it only looks
abbrev pub looks : Place → Outcome
looks d = record { tail = None; node = None; leads = Goes d; tells = None }

-- it stores in a node, if there is one
abbrev pub writes : Option ℕ → Store → Place → Outcome
writes None x d = looks d
writes (Some a) x d = record { tail = None; node = Some (a, x); leads = Goes d; tells = None }

-- it takes the lock that was handed to it
abbrev pub takes : Outcome
takes = record { tail = None; node = None; leads = Goes X1; tells = Some TakeHanded }

-- it swaps the tail from itself to this, and its round ends
abbrev pub swaps : Option ℕ → OsqWhat → Outcome
swaps x what = record { tail = Some x; node = None; leads = Ends; tells = Some what }

-- the processor is this one
abbrev pub is_cpu : Option ℕ → ℕ → Bool
is_cpu None p = false
is_cpu (Some q) p = q == p

-- O1: its node is made fresh
abbrev pub enters : ℕ → Outcome
enters p = writes (Some p) Reset O2

-- O2: it exchanges the tail with itself, and takes the free lock, or arrives behind another
abbrev pub arrives : ℕ → Option ℕ → Outcome
arrives p None =
    record { tail = Some (Some p); node = None; leads = Goes X1; tells = Some TakeFree }
arrives p (Some a) =
    record { tail = Some (Some p); node = None; leads = Knows O3 (Some a); tells = Some Arrive }

-- O3 for its own node, Q8 for the one behind it: a node is told whom it stands behind
abbrev pub tells : Option ℕ → Option ℕ → Place → Outcome
tells u a d = writes u (Prev a) d

-- O4: it links its node behind the one before it
abbrev pub links : ℕ → Option ℕ → Outcome
links p a = writes a (Next (Some p)) O5

-- O5: it looks at its flag; without it, it gives up where it was asked
abbrev pub waits : Bool → Bool → Outcome
waits true request = takes
waits false true = looks Q1
waits false false = looks O5

-- Q1: it swaps the link to itself with none, where the next of the one before it is this
abbrev pub cuts : ℕ → Option ℕ → Option ℕ → Outcome
cuts p a next = if is_cpu next p then writes a (Next None) Q4 else looks Q2

-- Q2: it looks at its flag once more
abbrev pub sees_flag : Bool → Outcome
sees_flag flag = if flag then takes else looks Q3

-- Q3: it looks whom its node names as the one before it
abbrev pub sees_prev : Option ℕ → Outcome
sees_prev a = record { tail = None; node = None; leads = Knows Q1 a; tells = None }

-- Q4, X4: it looks whether it is the last
abbrev pub sees_tail : ℕ → Option ℕ → Place → Place → Outcome
sees_tail p tail d e = looks (if is_cpu tail p then d else e)

-- Q5: it swaps the tail from itself to the one before it
abbrev pub withdraws : ℕ → Option ℕ → Option ℕ → Outcome
withdraws p a tail = if is_cpu tail p then swaps a Quit else looks Q6

-- Q6, X6: it looks for the link to the one behind it
abbrev pub sees_next : Option ℕ → Place → Place → Outcome
sees_next next d e = looks (if is_some next then d else e)

-- Q7, X2, X7: it exchanges its own next with none: it goes to the first place if it found none,
-- else to the second
abbrev pub grabs : ℕ → Option ℕ → Place → Place → Outcome
grabs p None d e =
    record { tail = None; node = Some (p, Next None); leads = Goes d; tells = None }
grabs p (Some b) d e =
    record { tail = None; node = Some (p, Next None); leads = Meets e b; tells = None }

-- Q9: it links the one before it to the one behind it
abbrev pub unlinks : Option ℕ → Option ℕ → Outcome
unlinks a b = record (writes a (Next b) Q9) { leads = Ends; tells = Some Quit }

-- X1, X5: it swaps the tail from itself to none
abbrev pub frees : ℕ → Option ℕ → Place → Outcome
frees p tail d = if is_cpu tail p then swaps None (Release None) else looks d

-- X3: it hands the lock to this one
abbrev pub hands : Option ℕ → Outcome
hands None =
    record { tail = None; node = None; leads = Ends; tells = Some (Release None) }
hands (Some b) =
    record {
      tail = None;
      node = Some (b, Flag true);
      leads = Ends;
      tells = Some (Release (Some b));
    }

-- the next of a node, if there is one
abbrev pub next_of : Machine → Option ℕ → Option ℕ
next_of m None = None
next_of m (Some a) = (node_at m a).next

-- the row of a processor p, whose parts are c, at a place
abbrev pub row : Machine → ℕ → Cpu → Place → Outcome
row m p c O1 = enters p
row m p c O2 = arrives p m.tail
row m p c O3 = tells (Some p) c.prev O4
row m p c O4 = links p c.prev
row m p c O5 = waits c.node.flag c.request
row m p c Q1 = cuts p c.prev (next_of m c.prev)
row m p c Q2 = sees_flag c.node.flag
row m p c Q3 = sees_prev c.node.prev
row m p c Q4 = sees_tail p m.tail Q5 Q6
row m p c Q5 = withdraws p c.prev m.tail
row m p c Q6 = sees_next c.node.next Q7 Q4
row m p c Q7 = grabs p c.node.next Q4 Q8
row m p c Q8 = tells c.y c.prev Q9
row m p c Q9 = unlinks c.prev c.y
row m p c X1 = frees p m.tail X2
row m p c X2 = grabs p c.node.next X4 X3
row m p c X3 = hands c.y
row m p c X4 = sees_tail p m.tail X5 X6
row m p c X5 = frees p m.tail X6
row m p c X6 = sees_next c.node.next X7 X4
row m p c X7 = grabs p c.node.next X4 X3

-- a node after a store
abbrev pub stored : Node → Store → Node
stored n (Flag x) = record n { flag = x }
stored n (Next x) = record n { next = x }
stored n (Prev x) = record n { prev = x }
stored n Reset = record n { flag = false; next = None }

-- a processor goes where its row leads
abbrev pub moved : Cpu → Lead → Cpu
moved c (Goes d) = record c { place = Some d }
moved c (Knows d a) = record c { prev = a; place = Some d }
moved c (Meets d b) = record c { y = Some b; place = Some d }
moved c Ends =
    record c {
      request = false;
      rounds = c.rounds - 1;
      place = if nat_lt 1 c.rounds then Some O1 else None;
    }

-- the machine after a row has stored the tail, if it does
abbrev pub with_tail : Machine → Option (Option ℕ) → Machine
with_tail m None = m
with_tail m (Some x) = set_tail m x

-- the machine after a row has stored into one node, if it does
abbrev pub with_node : Machine → Option (ℕ × Store) → Machine
with_node m None = m
with_node m (Some s) = set_node m s.0 (stored (node_at m s.0) s.1)

-- the machine after a row: what it stores, and then where it leads
abbrev pub applied : Machine → ℕ → Outcome → Machine
applied m p o =
    let n = with_node (with_tail m o.tail) o.node in
    set_cpu n p (moved (cpu_at n p) o.leads)

-- a machine after an act, and its event
abbrev pub Answer : Type 0
Answer = Machine × Option OsqEvent

-- the event of a processor's row, if it tells something
abbrev pub event_of : ℕ → Option OsqWhat → Option OsqEvent
event_of p None = None
event_of p (Some what) = Some (record { cpu = p; what = what })

-- the machine after a step of a processor: the row at its place, if it is not finished
abbrev pub stepped : Machine → ℕ → Option Place → Answer
stepped m p None = (m, None)
stepped m p (Some d) = let o = row m p (cpu_at m p) d in (applied m p o, event_of p o.tells)

-- it may be asked to give up: it stands at one of the first five rows
abbrev pub may_give : Option Place → Bool
may_give (Some O1) = true
may_give (Some O2) = true
may_give (Some O3) = true
may_give (Some O4) = true
may_give (Some O5) = true
may_give _ = false

-- and was not asked yet
abbrev pub gives : Cpu → Bool
gives c = may_give c.place && not c.request

-- the processor is asked to give up
abbrev pub asked : Cpu → Cpu
asked c = record c { request = true }

-- the machine after a request to give up, which only one that waits or is about to can be given
abbrev pub given : Machine → ℕ → Answer
given m p = (if gives (cpu_at m p) then set_cpu m p (asked (cpu_at m p)) else m, None)

-- what an act does: a processor is asked to give up, or makes its row
abbrev pub next : Machine → Bool → ℕ → Answer
next m true p = given m p
next m false p = stepped m p (cpu_at m p).place

-- An act is idle: a step of a processor that is finished; a request to one that stands at none of
-- the first five rows, or has one.
abbrev pub IsIdle : Machine → Bool → ℕ → Type 0
IsIdle m true p = (may_give (cpu_at m p).place ≡ false) ⊎ ((cpu_at m p).request ≡ true)
IsIdle m false p = (cpu_at m p).place ≡ None
