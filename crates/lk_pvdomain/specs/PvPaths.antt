-- Where a call stands between two of its rows, and what it has done when it is over, where processors
-- halt. A processor is in one call at most, and nothing comes between the rows of a call.
use Rattle.std.specs.Prelude.{◌≡◌, ℕ, ◌+◌, ◌<◌, Bool, true, false, List, [], ◌∷◌, Some}
use Rattle.atomic_table.specs.Table.{Me}
use Rattle.atomic_table.specs.Seated.{TableId}
use Rattle.atomic_table.specs.declared.shared.Seat.{Seat}
use Rattle.lk_names.specs.declared.holder.Manner.TheVariants.{Spins}
use Rattle.lk_word.specs.declared.spin_word.NodeName.{NodeName}
use Rattle.lk_rows.specs.declared.parts.Frame.{Frame}
use Rattle.lk_rows.specs.declared.parts.Pc.{Pc}
use Rattle.lk_rows.specs.declared.setup.Verb.{Verb}
use Rattle.lk_rows.specs.declared.setup.Verb.TheVariants.{Lock}
use Rattle.lk_law.specs.Agree.{halts}
use Rattle.lk_law.specs.Sound.{takes_wait}
use Rattle.lk_domain.specs.Calls.{Mark, Running, running, Hold, Calls, no_calls, Grip, Takes, Frees}
use Rattle.lk_domain.specs.Calls.{terms_of, begun, lock_name, holds_begun, holds_after, taken_after}
use Rattle.lk_domain.specs.Keeps.{Slot}
use Rattle.lk_domain.specs.Ledgers.{Ledger, turned}
use Rattle.lk_domain.specs.Paths.{Walk, Path}
use Rattle.lk_domain.specs.Plans.{locks_of}
use Rattle.lk_domain.specs.Who.{Who}
use Rattle.lk_domain.specs.Words.{IsNode}
use Rattle.lk_domain.specs.declared.domain.Domain.{Domain}
use Rattle.lk_domain.specs.declared.view.View.{View}
use Rattle.lk_pvdomain.specs.PvPlays.{woken}

-- what was there when the call began, of the seat and of its view
pub record Start : Type 0 where
  pub table : TableId
  pub id : ℕ
  pub who : Who
  pub holds : List Hold
  pub taken : ℕ
  pub ledger : Ledger
  pub slots : List (ℕ × Slot)

-- where a call of this operation on this lock begins
abbrev pub starting : Verb → ℕ → TableId → ℕ → Me Slot View → Start
starting v l table id m =
    record {
      table = table;
      id = id;
      who = m.0.who;
      holds = holds_begun v 0 l m.0.calls.holds;
      taken = m.0.calls.taken;
      ledger = m.0.ledger;
      slots = m.1;
    }

abbrev pub first_of : Verb → ℕ → Seat Slot View → Start
first_of v l a = starting v l a.table_id a.id a.me

-- the calls of its processor then, which is in no other
abbrev pub calls_at : Start → Calls
calls_at s = record no_calls { holds = s.holds; taken = s.taken }

-- the node of the calls of a processor, which is its first
abbrev pub first_node : ℕ → NodeName
first_node cpu = record { cpu = cpu; index = 0 }

-- it is a processor of the domain, which halts: its first node is this
pub record IsSeat (d : Domain) (own : NodeName) (table : TableId) (m : Me Slot View) : Type 0 where
  pub table_is : table ≡ d.table.shared.table_id
  pub plan : m.0.who.plan ≡ d.plan
  pub halting : halts d.plan.mode ≡ true
  pub number : m.0.who.number ≡ Some own.cpu
  pub near : IsNode d.plan own
  pub index : own.index ≡ 0

-- it is one of them
abbrev pub IsOn : Domain → Seat Slot View → Type 0
IsOn d a = (own : NodeName) × IsSeat d own a.table_id a.me

-- it is in no call, and has not halted
pub record RestsOn (d : Domain) (own : NodeName) (table : TableId) (m : Me Slot View) : Type 0 where
  pub of : IsSeat d own table m
  pub frames : m.0.calls.frames ≡ []
  pub awake : m.0.calls.halted ≡ false
  pub fresh : m.0.calls.looked ≡ 0

abbrev pub Rests : Domain → NodeName → Seat Slot View → Type 0
Rests d own a = RestsOn d own a.table_id a.me

-- Since the call began so, it is the same seat of the same processor, with the same slots. The processor
-- has not halted.
pub record IsStill (d : Domain) (own : NodeName) (s : Start) (table : TableId) (id : ℕ) (m : Me Slot View) : Type 0 where
  pub of : IsSeat d own table m
  pub table_was : table ≡ s.table
  pub id_was : id ≡ s.id
  pub who : m.0.who ≡ s.who
  pub slots : m.1 ≡ s.slots
  pub awake : m.0.calls.halted ≡ false
  pub fresh : m.0.calls.looked ≡ 0

-- The call of this operation on the lock l, which began so, stands at the row c, its processor has not
-- halted, and its frame meets the condition: it is on no wait lock, has no lock yet, and none was taken
-- since (`IsAt`, over no other frames).
pub record AtOn (d : Domain) (v : Verb) (l : ℕ) (own : NodeName) (s : Start) (c : Pc) (condition : Frame → Type 0)
    (table : TableId) (id : ℕ) (m : Me Slot View) : Type 0 where
  pub of : IsSeat d own table m
  pub low : l < locks_of d.plan
  pub plain : takes_wait v ≡ false
  pub table_was : table ≡ s.table
  pub id_was : id ≡ s.id
  pub who : m.0.who ≡ s.who
  pub holds : m.0.calls.holds ≡ s.holds
  pub taken : m.0.calls.taken ≡ s.taken
  pub ledger : m.0.ledger ≡ s.ledger
  pub slots : m.1 ≡ s.slots
  pub awake : m.0.calls.halted ≡ false
  pub fresh : m.0.calls.looked ≡ 0
  pub frame : Frame
  pub trail : List Mark
  pub walk : Walk (terms_of d.plan) own.cpu (begun d.plan.mode 0 v l) trail frame
  pub frames : m.0.calls.frames ≡ running v frame trail ∷ []
  pub place : frame.place ≡ Some c
  pub lock : frame.lock ≡ lock_name l
  pub ctx : frame.ctx ≡ 0
  pub has : condition frame

abbrev pub At : Domain → Verb → ℕ → NodeName → Start → Pc → (Frame → Type 0) → Seat Slot View → Type 0
At d v l own s c P a = AtOn d v l own s c P a.table_id a.id a.me

-- The call, which began so, has halted at the row c. Once its halt ends it stands at the row behind it.
pub record HaltedOn (d : Domain) (v : Verb) (l : ℕ) (own : NodeName) (s : Start) (c e : Pc) (condition : Frame → Type 0)
    (table : TableId) (id : ℕ) (m : Me Slot View) : Type 0 where
  pub asleep : m.0.calls.halted ≡ true
  pub call : Running
  pub only : m.0.calls.frames ≡ call ∷ []
  pub place : call.frame.place ≡ Some c
  pub wakes : AtOn d v l own s e condition table id (woken m.0, m.1)

abbrev pub Halted : Domain → ℕ → NodeName → Start → Pc → Pc → (Frame → Type 0) → Seat Slot View → Type 0
Halted d l own s c e P a = HaltedOn d Lock l own s c e P a.table_id a.id a.me

-- The call is over by its last row, which has done this to the holds: it has taken the lock, missed it, or
-- freed it. Its processor is in no call.
pub record EndedOn (d : Domain) (v : Verb) (l : ℕ) (own : NodeName) (s : Start) (grip : Grip) (table : TableId) (id : ℕ)
    (m : Me Slot View) : Type 0 where
  pub still : IsStill d own s table id m
  pub frames : m.0.calls.frames ≡ []
  pub path : Path (terms_of d.plan) own.cpu (begun d.plan.mode 0 v l) m.0.calls.last grip
  pub holds : m.0.calls.holds ≡ holds_after grip 0 (lock_name l) m.0.calls.taken s.holds
  pub taken : m.0.calls.taken ≡ taken_after grip s.taken
  pub ledger : m.0.ledger ≡ turned s.ledger (lock_name l) grip m.0.calls.last

abbrev pub Ended : Domain → Verb → ℕ → NodeName → Start → Grip → Seat Slot View → Type 0
Ended d v l own s grip a = EndedOn d v l own s grip a.table_id a.id a.me

-- it has taken the lock
abbrev pub TookOn : Domain → Verb → ℕ → NodeName → Start → TableId → ℕ → Me Slot View → Type 0
TookOn d v l own s table id m = EndedOn d v l own s (Takes Spins) table id m

abbrev pub Took : Domain → Verb → ℕ → NodeName → Start → Seat Slot View → Type 0
Took d v l own s a = TookOn d v l own s a.table_id a.id a.me

-- the release has freed the lock, and is about to kick
abbrev pub freed : Start → ℕ → List Mark → Start
freed s l t = record s { holds = holds_after Frees 0 (lock_name l) (s.taken + 1) s.holds; ledger = turned s.ledger (lock_name l) Frees t }

-- the one to kick
abbrev pub Kicks : NodeName → Frame → Type 0
Kicks n f = f.target ≡ Some n

-- its own node
abbrev pub Owns : NodeName → Frame → Type 0
Owns own f = f.me ≡ Some own

-- and the node before it
pub record Follows (own before : NodeName) (f : Frame) : Type 0 where
  pub me : f.me ≡ Some own
  pub prev : f.prev ≡ Some before

-- and so many turns before it halts
pub record Spares (own before : NodeName) (n : ℕ) (f : Frame) : Type 0 where
  pub me : f.me ≡ Some own
  pub prev : f.prev ≡ Some before
  pub left : f.left ≡ n

-- it is the queue head, and knows whether its lock is entered in the hash
pub record Leads (own : NodeName) (hashed : Bool) (f : Frame) : Type 0 where
  pub me : f.me ≡ Some own
  pub hashed_is : f.hashed ≡ hashed

-- and has so many turns before it halts
pub record Tries (own : NodeName) (hashed : Bool) (n : ℕ) (f : Frame) : Type 0 where
  pub me : f.me ≡ Some own
  pub hashed_is : f.hashed ≡ hashed
  pub left : f.left ≡ n

-- the one behind it
pub record Precedes (own behind : NodeName) (f : Frame) : Type 0 where
  pub me : f.me ≡ Some own
  pub next : f.y ≡ Some behind

-- it looks whether it may steal the lock, whose word had a tail when it looked last, or not
pub record Steals (own : NodeName) (tailed : Bool) (f : Frame) : Type 0 where
  pub me : f.me ≡ Some own
  pub tailed_is : f.tailed ≡ tailed
