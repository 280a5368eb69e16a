-- What each step of a seat on a word of a node asks and tells. It is one of the newest call, which
-- goes on until it has its lock, or its wait lock.
use Rattle.std.specs.Prelude.{◌≡◌, ◌≢◌, ℕ, ◌+◌, ◌<◌, ◌≤◌, false, Option, Some, None, IfSome, is_some, Bool, true}
use Rattle.atomic_table.specs.Table.{Me, Step}
use Rattle.lk_names.specs.declared.names.LockName.{LockName}
use Rattle.lk_word.specs.declared.spin_word.NodeName.{NodeName}
use Rattle.lk_rows.specs.declared.parts.Flag.{Flag}
use Rattle.lk_rows.specs.declared.parts.Flag.TheVariants.{Unset, Go, Second}
use Rattle.lk_rows.specs.declared.parts.Frame.{Frame}
use Rattle.lk_rows.specs.declared.parts.Pc.{Pc}
use Rattle.lk_rows.specs.declared.parts.Pc.TheVariants.{G1, G5, G6, G10, G11, C1, C2, C3, C4, C5}
use Rattle.lk_rows.specs.declared.parts.Pc.TheVariants.{C6, C7, C8, C9}
use Rattle.lk_rows.specs.declared.setup.Verb.{Verb}
use Rattle.lk_rows.specs.rows.Cna.{flag_for}
use Rattle.lk_law.specs.Cna.{moves_aside}
use Rattle.lk_law.specs.Leads.{Number, Flagged, Named, Linked}
use Rattle.lk_law.specs.Premises.{IsThen}
use Rattle.lk_domain.specs.Calls.{StandsOn, slows, told, is_inner}
use Rattle.lk_domain.specs.Plays.{ActsAs, ActsIn, Goes, MadeBy}
use Rattle.lk_domain.specs.Rows.{arrives_by, is_patient, queues_up, promotes_by}
use Rattle.lk_domain.specs.declared.plan.Plan.{Plan}
use Rattle.lk_domain.specs.Words.{IsNode, name_number, flag_number, link_number, node_at, part_index}
use Rattle.lk_domain.specs.Words.{marked}
use Rattle.lk_domain.specs.declared.part.Part.{Part}
use Rattle.lk_domain.specs.declared.part.Part.TheVariants as part
use Rattle.lk_domain.specs.declared.view.View.{View}

-- The call is this operation, and stands at the row: on a spinlock, or inside a call of a reader or a
-- writer on its wait lock; there it knows where it goes on.
pub record AtRow (row : Pc) (verb : Verb) (n : LockName) (v : View) : Type 0 where
  pub stands : StandsOn v.calls verb n row
  pub patient : is_patient verb ≡ true
  pub inside : n.wait ≡ queues_up verb
  pub after : n.wait ≡ true → IsThen stands.frame.then

-- and this is its own node
pub record AtOwn (row : Pc) (own : NodeName) (verb : Verb) (v : View) : Type 0 where
  pub lock : LockName
  pub at : AtRow row verb lock v
  pub me : at.stands.frame.me ≡ Some own

-- it will link its own node behind that of the one before it; the mark says whether its context is
-- above 0
pub record AtPrev (before own : NodeName) (mark : Bool) (verb : Verb) (v : View) : Type 0 where
  pub lock : LockName
  pub at : AtRow G5 verb lock v
  pub prev : at.stands.frame.prev ≡ Some before
  pub me : at.stands.frame.me ≡ Some own
  pub marks : mark ≡ is_inner at.stands.frame.ctx

-- it will hand off to the one with this node, by this flag: where it has chosen the next, by
-- that which names the first of the secondary queue
abbrev pub hands : Pc → Bool
hands G11 = true
hands C8 = true
hands _ = false

abbrev pub flag_told : Pc → Frame → Flag
flag_told C8 f = flag_for f.second
flag_told _ f = Go

pub record AtNext (to : NodeName) (flag : Flag) (verb : Verb) (v : View) : Type 0 where
  pub lock : LockName
  pub row : Pc
  pub is : hands row ≡ true
  pub at : AtRow row verb lock v
  pub y : at.stands.frame.y ≡ Some to
  pub told : flag ≡ flag_told row at.stands.frame

-- the node that a flag names is one of the domain
abbrev pub IsFlagNode : Plan → Flag → Type 0
IsFlagNode k (Second n) = IsNode k n
IsFlagNode k _ = Unit {0}

-- it enters the slow path, and gets this node of its processor
pub record AtEntry (own : NodeName) (verb : Verb) (v : View) : Type 0 where
  pub lock : LockName
  pub at : AtRow G1 verb lock v
  pub cpu : v.who.number ≡ Some own.cpu
  pub index : own.index ≡ slows v.calls.frames
  pub low : own.index < 4

-- it enters the slow path, and gets no node
pub record AtBare (lock : LockName) (verb : Verb) (v : View) : Type 0 where
  pub at : AtRow G1 verb lock v
  pub high : 4 ≤ slows v.calls.frames

-- the view after private stores, by which so many words of the node to come are reset
abbrev pub readies : ℕ → View → View
readies n v = record v { calls = record v.calls { ready = n; runs = None } }

-- after the store into this word, where those before it are reset
abbrev pub readied_by : Part → View → View
readied_by q v = readies (part_index q + 1) v

-- a private store has reset a word of the node to come
abbrev pub Readies : {S : Type 0} → Step S → Me S View → ℕ → Me S View → Type 0
Readies st m x n = (own : NodeName) (q : Part) → st.word ≡ node_at m.0.who.plan own q
    → n ≡ (readied_by q m.0, m.1)

-- the call has entered the slow path
abbrev pub Enters : {S : Type 0} → Me S View → ℕ → Me S View → Type 0
Enters m x n = Goes (Number (slows m.0.calls.frames)) m n

-- the call has linked its node, where no link was
abbrev pub Links : {S : Type 0} → Me S View → ℕ → Me S View → Type 0
Links m x n = (x ≡ 0) × Goes (Named None) m n

-- the call has handed off, to one that waited for it
abbrev pub Hands : {S : Type 0} → Me S View → ℕ → Me S View → Type 0
Hands m x n = (x ≡ 0) × Goes (Flagged Unset) m n

-- the call has looked at the flag of its node; where nobody is moved aside it names no node
pub record SeesFlag {S : Type 0} (m : Me S View) (met : ℕ) (n : Me S View) : Type 0 where
  pub found : Flag
  pub node : IsFlagNode m.0.who.plan found
  pub plain : moves_aside m.0.who.plan.mode ≡ false → (b : NodeName) → found ≢ Second b
  pub word : met ≡ flag_number found
  pub seat : Goes (Flagged found) m n

-- the call has looked at the link of a node, which has this mark
pub record SeesLink {S : Type 0} (m : Me S View) (met : ℕ) (n : Me S View) : Type 0 where
  pub found : Option NodeName
  pub mark : Bool
  pub node : IfSome found (IsNode m.0.who.plan)
  pub word : met ≡ marked mark (link_number found)
  pub seat : Goes (Linked found mark) m n

-- It looks for the one behind it, in its own node. Where it chooses the next it has read the count of
-- handoffs there.
abbrev pub looks_behind : Pc → Bool
looks_behind G10 = true
looks_behind C1 = true
looks_behind _ = false

pub record AtLink (own : NodeName) (verb : Verb) (v : View) : Type 0 where
  pub lock : LockName
  pub row : Pc
  pub is : looks_behind row ≡ true
  pub at : AtRow row verb lock v
  pub me : at.stands.frame.me ≡ Some own
  pub seen : row ≡ C1 → is_some v.calls.runs ≡ true

-- it looks for the one behind the last that it has passed over
pub record AtSkipped (node : NodeName) (verb : Verb) (v : View) : Type 0 where
  pub lock : LockName
  pub at : AtRow C2 verb lock v
  pub b : at.stands.frame.b ≡ Some node

-- the call looks at this word of its own node next: at the flag or at the link
abbrev pub LooksAt : Part → NodeName → Verb → View → Type 0
LooksAt part.Flag own verb v = AtOwn G6 own verb v
LooksAt part.Next own verb v = AtLink own verb v
LooksAt _ own verb v = ⊥

-- the call has stored a link, and met this one
pub record Relinks {S : Type 0} (m : Me S View) (met : ℕ) (n : Me S View) : Type 0 where
  pub found : Option NodeName
  pub mark : Bool
  pub word : met ≡ marked mark (link_number found)
  pub seat : Goes (Linked found mark) m n

-- the call has stored the last of the secondary queue, and met this one
pub record Names {S : Type 0} (m : Me S View) (met : ℕ) (n : Me S View) : Type 0 where
  pub found : Option NodeName
  pub word : met ≡ link_number found
  pub seat : Goes (Named found) m n

-- the call has looked at the last of the secondary queue
pub record SeesTail {S : Type 0} (m : Me S View) (met : ℕ) (n : Me S View) : Type 0 where
  pub found : NodeName
  pub node : IsNode m.0.who.plan found
  pub word : met ≡ name_number found
  pub seat : Goes (Named (Some found)) m n

-- the call links those that it passed over, or the rest of the queue, behind the last of the
-- secondary queue
abbrev pub appends : Pc → Bool
appends C4 = true
appends C9 = true
appends _ = false

-- the mark is that of the link in which the call met the first of them
pub record AtAppend (node next : NodeName) (mark : Bool) (verb : Verb) (v : View) : Type 0 where
  pub lock : LockName
  pub row : Pc
  pub is : appends row ≡ true
  pub at : AtRow row verb lock v
  pub t : at.stands.frame.t ≡ Some node
  pub a : at.stands.frame.a ≡ Some next
  pub marks : told at.stands.trail ≡ Some (next, mark)

-- it cuts the link of the last that it passed over
pub record AtCut (node : NodeName) (verb : Verb) (v : View) : Type 0 where
  pub lock : LockName
  pub at : AtRow C5 verb lock v
  pub b : at.stands.frame.b ≡ Some node

-- it looks at the last of the secondary queue, in the node of its first
pub record AtTail (node : NodeName) (verb : Verb) (v : View) : Type 0 where
  pub lock : LockName
  pub at : AtRow C3 verb lock v
  pub second : at.stands.frame.second ≡ Some node

-- it stores there the last that it passed over
pub record AtNewTail (node tail : NodeName) (verb : Verb) (v : View) : Type 0 where
  pub lock : LockName
  pub at : AtRow C6 verb lock v
  pub second : at.stands.frame.second ≡ Some node
  pub b : at.stands.frame.b ≡ Some tail

-- it looks at the last of the secondary queue, or stores it
abbrev pub AtSecondTail : NodeName → Option NodeName → Verb → View → Type 0
AtSecondTail node None verb v = AtTail node verb v
AtSecondTail node (Some tail) verb v = AtNewTail node tail verb v

-- It chooses the next, and its row asks how many handoffs its own node counts: when it looks at its
-- link, and when it tells the next.
abbrev pub counts : Pc → Bool
counts C1 = true
counts C7 = true
counts _ = false

pub record AtOwnRuns (own : NodeName) (verb : Verb) (v : View) : Type 0 where
  pub lock : LockName
  pub row : Pc
  pub is : counts row ≡ true
  pub at : AtRow row verb lock v
  pub me : at.stands.frame.me ≡ Some own

-- the view after the count was read
abbrev pub counting : ℕ → View → View
counting n v = record v { calls = record v.calls { runs = Some n } }

-- the call has read the count; where it tells the next of a secondary queue there is room for one
-- more
pub record Counted {S : Type 0} (m : Me S View) (met : ℕ) (n : Me S View) : Type 0 where
  pub seat : n ≡ (counting met m.0, m.1)
  pub short : (verb : Verb) (lock : LockName) (at : StandsOn m.0.calls verb lock C7)
      → is_some at.frame.second ≡ true
      → met < m.0.who.plan.threshold

-- It will tell the next this count: one more than the own one where somebody stands aside, and else
-- none.
pub record AtRuns (to : NodeName) (n : ℕ) (verb : Verb) (v : View) : Type 0 where
  pub lock : LockName
  pub at : AtRow C7 verb lock v
  pub y : at.stands.frame.y ≡ Some to
  pub alone : at.stands.frame.second ≡ None → n ≡ 0
  pub aside : is_some at.stands.frame.second ≡ true
      → (r : ℕ) × (v.calls.runs ≡ Some r) × (n ≡ r + 1)

-- it has told the next
abbrev pub Tells : {S : Type 0} → Me S View → ℕ → Me S View → Type 0
Tells m x n = Goes (Number x) m n

-- it lets the secondary queue return, whose last has this node, as all of the rest of the queue
pub record AtPromotion (lock : LockName) (own tail : NodeName) (verb : Verb) (v : View)
    : Type 0 where
  pub acts : ActsIn (promotes_by verb) v verb lock
  pub me : acts.acts.stands.frame.me ≡ Some own
  pub t : acts.acts.stands.frame.t ≡ Some tail

-- it makes its own node the tail of the lock
abbrev pub Arrives : LockName → NodeName → Verb → View → Type 0
Arrives lock own verb v = ActsAs (arrives_by verb) v verb lock own

-- the newest call is some operation, and stands so
abbrev pub InCall : (Verb → View → Type 0) → View → Type 0
InCall At v = (verb : Verb) × At verb v

-- whatever operation the call is that stood so: the seat has made its row, and met this word
abbrev pub RowMade : {S : Type 0} → (Verb → View → Type 0) → ℕ → Me S View → ℕ → Me S View
    → Type 0
RowMade At l m met n = (verb : Verb) → At verb m.0 → MadeBy verb l m met n
