-- What each step of a seat on the word of a reader-writer lock asks and tells.
use Rattle.std.specs.Prelude.{◌≡◌, ◌≤◌, ◌==◌, ℕ, Bool, false, None, length}
use Rattle.atomic_table.specs.Table.{Me, Step}
use Rattle.lk_names.specs.declared.names.LockName.{LockName}
use Rattle.lk_word.specs.declared.rw_word.RwFields.{RwFields}
use Rattle.lk_word.specs.RwWord.{packed_rw, IsPackableRw}
use Rattle.lk_rows.specs.declared.parts.Pc.{Pc}
use Rattle.lk_rows.specs.declared.setup.Verb.{Verb}
use Rattle.lk_rows.specs.Moves.{wait_name}
use Rattle.lk_law.specs.Leads.{Shared}
use Rattle.lk_domain.specs.Calls.{held_in}
use Rattle.lk_domain.specs.Plays.{ActsOn, made}
use Rattle.lk_domain.specs.RwRows.{watches_at}
use Rattle.lk_domain.specs.Words.{lock_at}
use Rattle.lk_domain.specs.declared.view.View.{View}

-- The call on the reader-writer lock makes a row of this kind next; it may have the wait lock.
pub record ActsFor (kind : Pc → Bool) (v : View) (verb : Verb) (l : ℕ) : Type 0 where
  pub inside : Bool
  pub acts : ActsOn kind v verb (record { index = l; wait = inside })

-- the call looks at the word of the reader-writer lock next, and not at that of its wait lock
pub record Watches (verb : Verb) (n : LockName) (v : View) : Type 0 where
  pub plain : n.wait ≡ false
  pub acts : ActsFor (watches_at (length v.calls.frames == 1) verb) v verb n.index

-- the seat has made the row of its call, and met this word; no context without a call has the wait
-- lock
pub record SharedBy {S : Type 0} (verb : Verb) (l : ℕ) (m : Me S View) (met : ℕ)
    (n : Me S View) : Type 0 where
  pub found : RwFields
  pub packs : IsPackableRw found
  pub word : met ≡ packed_rw found
  pub seat : n ≡ (made m.0 verb l (Shared found), m.1)
  pub outside : (d : ℕ)
      → length m.0.calls.frames ≤ d
      → held_in m.0.calls.holds d (wait_name l) ≡ None

-- what a step on the word of a reader-writer lock tells
abbrev pub Shares : Verb → {S : Type 0} → Step S → Me S View → ℕ → Me S View → Type 0
Shares verb st m x n = (l : ℕ) → st.word ≡ lock_at l → SharedBy verb l m x n
