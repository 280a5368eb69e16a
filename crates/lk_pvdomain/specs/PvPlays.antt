-- What each step of a seat tells it, where processors halt. It is one of the newest call, which is the
-- only one of its processor.
use Rattle.std.specs.Prelude.{◌≡◌, ◌≢◌, ℕ, ◌+◌, ◌<◌, Bool, true, false, List, [], ◌∷◌, Option, Some, None, IfSome, ◌⊎◌, not, ◌&&◌}
use Rattle.atomic_table.specs.Table.{Me, Step}
use Rattle.lk_names.specs.declared.names.LockName.{LockName}
use Rattle.lk_word.specs.declared.spin_word.NodeName.{NodeName}
use Rattle.lk_word.specs.declared.spin_word.Fields.{Fields}
use Rattle.lk_word.specs.SpinWord.{packed, IsPackable}
use Rattle.lk_rows.specs.declared.parts.State.{State}
use Rattle.lk_rows.specs.declared.parts.Pc.{Pc}
use Rattle.lk_rows.specs.declared.parts.Pc.TheVariants.{U5, E13}
use Rattle.lk_rows.specs.declared.setup.Verb.{Verb}
use Rattle.lk_rows.specs.Acts.{after_halt}
use Rattle.lk_rows.specs.Moves.{node_of}
use Rattle.lk_law.specs.Leads.{Stated, Named, Marked, Word}
use Rattle.lk_rows.specs.rows.Spin.{is_unlocked}
use Rattle.lk_rows.specs.rows.Cna.{is_held}
use Rattle.lk_domain.specs.Calls.{Running, StandsOn, lock_name}
use Rattle.lk_domain.specs.Plans.{layout_in}
use Rattle.lk_domain.specs.Keeps.{AllHome}
use Rattle.lk_domain.specs.Plays.{Goes, made}
use Rattle.lk_domain.specs.Words.{state_number, pair_number, mark_number, lock_at, places_of, IsNode}
use Rattle.lk_domain.specs.declared.view.View.{View}
use Rattle.lk_domain.specs.declared.plan.TheConstants.{MOST_LOCKS}
use Rattle.lk_pvdomain.specs.PvRows.{state_node, halts_at, fills, filled_with, erases}

-- the newest call stands at a row of this kind, which operates on the state of this node
pub record AtState (kind : Pc → Bool) (node : NodeName) (v : View) : Type 0 where
  pub verb : Verb
  pub lock : LockName
  pub row : Pc
  pub is : kind row ≡ true
  pub stands : StandsOn v.calls verb lock row
  pub node_is : state_node row stands.frame ≡ node

-- and what it stores there is this
pub record AtTold (kind : Pc → Bool) (told : Pc → State) (node : NodeName) (state : State) (v : View) : Type 0 where
  pub at : AtState kind node v
  pub told_is : state ≡ told at.row

-- it has the lock of this name, and may be the last of its queue
pub record AtLast (own : NodeName) (lock : LockName) (verb : Verb) (v : View) : Type 0 where
  pub stands : StandsOn v.calls verb lock E13
  pub me : stands.frame.me ≡ Some own

-- it has made the row, and this is the state that it met
pub record SeesState {S : Type 0} (m : Me S View) (met : ℕ) (n : Me S View) : Type 0 where
  pub found : State
  pub word : met ≡ state_number found
  pub seat : Goes (Stated found) m n

-- it stands at a row at which its processor halts
pub record AtHalt (v : View) : Type 0 where
  pub verb : Verb
  pub lock : LockName
  pub row : Pc
  pub is : halts_at row ≡ true
  pub stands : StandsOn v.calls verb lock row

-- it will kick this processor, and all that lies under the lock that it has freed is at home
pub record AtKick (cpu : ℕ) (v : View) : Type 0 where
  pub verb : Verb
  pub lock : LockName
  pub stands : StandsOn v.calls verb lock U5
  pub home : AllHome lock v
  pub target : (node_of stands.frame.target).cpu ≡ cpu

-- it will put the lock into the hash, with this node
pub record AtFill (node : NodeName) (lock : LockName) (v : View) : Type 0 where
  pub verb : Verb
  pub row : Pc
  pub is : fills row ≡ true
  pub stands : StandsOn v.calls verb lock row
  pub node_is : filled_with row stands.frame ≡ Some node

-- it seeks the entry of its lock
pub record AtSeek (lock : LockName) (v : View) : Type 0 where
  pub verb : Verb
  pub row : Pc
  pub is : erases row ≡ true
  pub stands : StandsOn v.calls verb lock row

-- Its processor halts, by a look at its kick word.
abbrev pub Halts : {S : Type 0} → Me S View → ℕ → Me S View → Type 0
Halts m met n = Goes (Marked false) m n

-- a halt ends: the call goes on behind it
abbrev pub stirred : List Running → List Running
stirred [] = []
stirred (r ∷ rs) = record r { frame = record r.frame { place = after_halt r.frame.place } } ∷ rs

abbrev pub woken : View → View
woken v = record v { calls = record v.calls { frames = stirred v.calls.frames; halted = false } }

-- the kick was taken, which ends the halt; or there was none, and the seat is as it was
pub record Wakes {S : Type 0} (m : Me S View) (met : ℕ) (n : Me S View) : Type 0 where
  pub wakes : met ≢ 0 → n ≡ (woken m.0, m.1)
  pub stays : met ≡ 0 → n ≡ m

-- A look at a word into which a step would store 0. It is that step where the word is 0, and else the
-- seat is as it was.
pub record SparedBy {S : Type 0} (step : ℕ → Me S View → Type 0) (m : Me S View) (met : ℕ) (n : Me S View) : Type 0 where
  pub spares : met ≡ 0 → step met n
  pub stays : met ≢ 0 → n ≡ m

-- a kick is remembered
pub record Kicks {S : Type 0} (m : Me S View) (met : ℕ) (n : Me S View) : Type 0 where
  pub found : Bool
  pub word : met ≡ mark_number found
  pub seat : Goes (Marked found) m n

-- A place of the hash was filled where it was empty; else the seat is as it was, and the call tries the
-- next.
pub record Fills {S : Type 0} (m : Me S View) (met : ℕ) (n : Me S View) : Type 0 where
  pub fills : met ≡ 0 → Goes (Named None) m n
  pub stays : met ≢ 0 → n ≡ m

-- One more place was looked at, which has no entry of the lock; or it has one, with this node.
abbrev pub passed_on : View → View
passed_on v = record v { calls = record v.calls { looked = v.calls.looked + 1; spot = None } }

-- it has looked at so many, and this is what it found at the last one
abbrev pub looked_at : ℕ → Option NodeName → View → View
looked_at n o v = record v { calls = record v.calls { looked = n; spot = o } }

abbrev pub spotted : NodeName → View → View
spotted a v = record v { calls = record v.calls { spot = Some a } }

-- the place is empty, or has another lock's entry
abbrev pub IsOther : ℕ → ℕ → Type 0
IsOther lock met = (met ≡ 0) ⊎ ((l : ℕ) × (b : NodeName) × (l < MOST_LOCKS) × (l ≢ lock) × (met ≡ pair_number l b))

-- and in both cases there is a place left to look at, that of the entry or a next one
pub record SeesPlace {S : Type 0} (lock : ℕ) (m : Me S View) (met : ℕ) (n : Me S View) : Type 0 where
  pub here : ((a : NodeName) × IsNode m.0.who.plan a × (met ≡ pair_number lock a) × (n ≡ (spotted a m.0, m.1)))
      ⊎ (IsOther lock met × (n ≡ (passed_on m.0, m.1)))
  pub inside : n.0.calls.looked < places_of m.0.who.plan

-- the same, of the lock of the newest call
abbrev pub SeesHash : {S : Type 0} → Me S View → ℕ → Me S View → Type 0
SeesHash m met n = (x : Running) (rs : List Running) → m.0.calls.frames ≡ x ∷ rs → SeesPlace x.frame.lock.index m met n

-- The entry was taken out, which was that of this node.
pub record EmptiesAt {S : Type 0} (lock : ℕ) (m : Me S View) (met : ℕ) (n : Me S View) : Type 0 where
  pub node : NodeName
  pub near : IsNode m.0.who.plan node
  pub word : met ≡ pair_number lock node
  pub seat : Goes (Named (Some node)) m n

-- the same, of the lock of the newest call
abbrev pub Empties : {S : Type 0} → Me S View → ℕ → Me S View → Type 0
Empties m met n = (x : Running) (rs : List Running) → m.0.calls.frames ≡ x ∷ rs → EmptiesAt x.frame.lock.index m met n

-- A swap of one field, made by an exchange of the whole word. It is the row where it met the word that it
-- expected, and where the swap fails on the word that it met; else only the tail or the pending bit had
-- changed: the seat is as it was, and the exchange is tried again.
pub record TriedBy {S : Type 0} (fails : Fields → Bool) (verb : Verb) (lock : LockName) (expected : ℕ)
    (m : Me S View) (met : ℕ) (n : Me S View) : Type 0 where
  pub found : Fields
  pub packs : IsPackable (layout_in m.0.who.plan) found
  pub tail : IfSome found.tail (IsNode m.0.who.plan)
  pub word : met ≡ packed (layout_in m.0.who.plan) found
  pub makes : (met ≡ expected) ⊎ (fails found ≡ true) → n ≡ (made m.0 verb lock.index (Word found), m.1)
  pub stays : met ≢ expected → fails found ≡ false → n ≡ m

-- where the swap of a release, of a queue head that tries, and of a call that steals fails
abbrev pub release_fails : Fields → Bool
release_fails x = not (is_held x.locked)

abbrev pub head_fails : Fields → Bool
head_fails x = not (is_unlocked x.locked && x.pending)

abbrev pub steal_fails : Fields → Bool
steal_fails x = not (is_unlocked x.locked)

-- what an exchange on the word of a lock tells
abbrev pub Tries : (Fields → Bool) → Verb → {S : Type 0} → Step S → Me S View → ℕ → Me S View → Type 0
Tries fails verb st m x n = (l : ℕ) → st.word ≡ lock_at l → TriedBy fails verb (lock_name l) st.first m x n
