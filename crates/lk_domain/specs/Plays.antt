-- What each step of a seat tells it.
use Rattle.std.specs.Prelude.{◌≡◌, ◌≢◌, ℕ, ◌+◌, ◌<◌, ◌≤◌, Bool, true, List, [], ◌∷◌, ◌++◌, length}
use Rattle.std.specs.Prelude.{Option, Some, None, IfSome, drop, slice_index}
use Rattle.atomic_table.specs.Table.{Me, Step}
use Rattle.lk_names.specs.declared.ledger.Entry.{Entry}
use Rattle.lk_names.specs.declared.names.LockName.{LockName}
use Rattle.lk_names.specs.declared.names.Mode.{Mode}
use Rattle.lk_word.specs.declared.spin_word.NodeName.{NodeName}
use Rattle.lk_word.specs.declared.spin_word.Fields.{Fields}
use Rattle.lk_word.specs.SpinWord.{packed, IsPackable}
use Rattle.lk_rows.specs.declared.parts.Pc.{Pc}
use Rattle.lk_rows.specs.declared.setup.Verb.{Verb}
use Rattle.lk_domain.specs.Calls.{Outlook}
use Rattle.lk_rows.specs.TopRow.{target}
use Rattle.lk_law.specs.Leads.{Met, Word, held_lock}
use Rattle.lk_law.specs.Premises.{IsThen}
use Rattle.lk_domain.specs.Calls.{Running, Calls, mark, read_at, grip_of, course, row_of, acting, StandsOn}
use Rattle.lk_domain.specs.Calls.{Begins, lock_name, no_calls, Terms, terms_of, sight_of}
use Rattle.lk_domain.specs.Places.{places}
use Rattle.lk_names.specs.Journal.{Replays}
use Rattle.lk_domain.specs.Keeps.{Slot, IsOpen, balance}
use Rattle.lk_domain.specs.Ledgers.{Ledger, Out, turned, loaded, sighted, taken_out, stored}
use Rattle.lk_domain.specs.Ledgers.{brought, with_share}
use Rattle.lk_domain.specs.Plans.{accounts_of, share_of, layout_in}
use Rattle.lk_domain.specs.Rows.{queues_up}
use Rattle.lk_domain.specs.Views.{view, drawer, own_number}
use Rattle.lk_domain.specs.Values.{Key, taking, bringing, lock_of, IsClear, IsKeyOf, empty_places}
use Rattle.lk_domain.specs.Words.{lock_at, balance_at, quiet_at, IsNode}
use Rattle.lk_domain.specs.declared.ledger.journal.Journal.{Journal}
use Rattle.lk_domain.specs.declared.plan.Plan.{Plan}
use Rattle.lk_domain.specs.declared.slot.Stowed.TheVariants.{Entries, CellKey}
use Rattle.lk_domain.specs.declared.view.View.{View}

-- what a row of the newest call makes of what its processor knows of the ledger

abbrev pub turned_at : Mode → ℕ → Outlook → Running → Met → Ledger → Option Pc → Ledger
turned_at mode p z r x g None = g
turned_at mode p z r x g (Some d) =
    turned g (held_lock (target d r.frame) r.frame)
    (grip_of (target d r.frame) (course mode p z d r.frame x)) (r.trail ++ mark d x (read_at d z) ∷ [])

abbrev pub turned_on : Mode → ℕ → Outlook → List Running → Met → Ledger → Ledger
turned_on mode p z [] x g = g
turned_on mode p z (r ∷ rs) x g = turned_at mode p z r x g r.frame.place

abbrev pub turned_of : Terms → ℕ → Calls → Met → Ledger → Ledger
turned_of t p c x g = turned_on t.mode p (sight_of t p c.runs) c.frames x g

-- the view after the row of its newest call, where the calls before it are c
abbrev pub rowed : View → Calls → Met → View
rowed v c x =
    record v {
      calls = row_of (terms_of v.who.plan) (own_number v.who.number) c x;
      ledger = turned_of (terms_of v.who.plan) (own_number v.who.number) c x v.ledger;
    }

-- the view after the row of its call on a lock, which begins or goes on
abbrev pub made : View → Verb → ℕ → Met → View
made v verb l x = rowed v (acting v.who.plan.mode v.calls verb l) x

-- the seat has made the row of its call, and met this word: fields that pack, whose tail is a node
-- of the domain
pub record MadeBy {S : Type 0} (verb : Verb) (l : ℕ) (m : Me S View) (met : ℕ)
    (n : Me S View) : Type 0 where
  pub found : Fields
  pub packs : IsPackable (layout_in m.0.who.plan) found
  pub tail : IfSome found.tail (IsNode m.0.who.plan)
  pub word : met ≡ packed (layout_in m.0.who.plan) found
  pub seat : n ≡ (made m.0 verb l (Word found), m.1)

-- the number is that of such a word
pub record IsWord (k : Plan) (n : ℕ) : Type 0 where
  pub found : Fields
  pub packs : IsPackable (layout_in k) found
  pub tail : IfSome found.tail (IsNode k)
  pub word : n ≡ packed (layout_in k) found

-- what a step on the word of a lock tells
abbrev pub Makes : Verb → {S : Type 0} → Step S → Me S View → ℕ → Me S View → Type 0
Makes verb st m x n = (l : ℕ) → st.word ≡ lock_at l → MadeBy verb l m x n

-- the call on the lock of this name, or on the lock of which this is the wait lock, makes a row of
-- this kind next
pub record ActsOn (kind : Pc → Bool) (v : View) (verb : Verb) (n : LockName) : Type 0 where
  pub row : Pc
  pub is : kind row ≡ true
  pub stands : StandsOn (acting v.who.plan.mode v.calls verb n.index) verb n row
  pub begins : Begins v.who.plan v.calls verb n.index

-- the call on the lock acts on it, and not on its wait lock
abbrev pub Acts : (Pc → Bool) → View → Verb → ℕ → Type 0
Acts kind v verb l = ActsOn kind v verb (lock_name l)

-- The call acts on a spinlock, or inside a call of a reader or a writer on its wait lock; there it
-- knows where it goes on.
pub record ActsIn (kind : Pc → Bool) (v : View) (verb : Verb) (n : LockName) : Type 0 where
  pub acts : ActsOn kind v verb n
  pub inside : n.wait ≡ queues_up verb
  pub after : n.wait ≡ true → IsThen acts.stands.frame.then

-- and its own node is this
pub record ActsAs (kind : Pc → Bool) (v : View) (verb : Verb) (n : LockName)
    (own : NodeName) : Type 0 where
  pub acts : ActsIn kind v verb n
  pub me : acts.acts.stands.frame.me ≡ Some own

-- the view after the row of the newest call, which met this
abbrev pub went : View → Met → View
went v x = rowed v v.calls x

abbrev pub Goes : {S : Type 0} → Met → Me S View → Me S View → Type 0
Goes x m n = n ≡ (went m.0 x, m.1)

-- the newest call, which goes on, has made its row, and met this word
pub record WentBy {S : Type 0} (m : Me S View) (met : ℕ) (n : Me S View) : Type 0 where
  pub found : Fields
  pub packs : IsPackable (layout_in m.0.who.plan) found
  pub tail : IfSome found.tail (IsNode m.0.who.plan)
  pub word : met ≡ packed (layout_in m.0.who.plan) found
  pub seat : Goes (Word found) m n

-- What an exchange of a whole word tells that is tried again where it fails: it has made the row of
-- the newest call where it met the word that it expected, and else the seat is as it was.
pub record SwappedBy {S : Type 0} (expected : ℕ) (m : Me S View) (met : ℕ)
    (n : Me S View) : Type 0 where
  pub made : met ≡ expected → WentBy m met n
  pub stands : met ≢ expected → n ≡ m
  pub word : IsWord m.0.who.plan met

abbrev pub Swaps : {S : Type 0} → Step S → Me S View → ℕ → Me S View → Type 0
Swaps st m x n = SwappedBy st.first m x n

-- the first seat has drawn the number that it deals next, and the share that goes with it
abbrev pub Draws : Step Slot → Me Slot View → ℕ → Me Slot View → Type 0
Draws st m x n = (m.0.who.dealt ≡ Some x)
    × (n ≡ (view (drawer m.0.who.plan x) no_calls (with_share (share_of m.0.who.plan x)), m.1))

-- the open look of a seat is of one state of the journal, with all entries of its processor
pub record OneState (v : View) : Type 0 where
  pub journal : List Entry
  pub replays : Replays v.who.plan.balances.items journal
  pub looking : IsOpen v.who.plan journal v.calls v.ledger.look
  pub own : (p : ℕ) → v.who.number ≡ Some p → v.ledger.own ≡ places p journal
  pub seen : v.ledger.seen ≤ length journal

-- a balance was loaded; where the journal is out it is what the seat knows of the word
pub record LoadedBy (a : ℕ) (m : Me Slot View) (x : ℕ) (n : Me Slot View) : Type 0 where
  pub seat : n ≡ (record m.0 { ledger = loaded m.0.ledger a x }, m.1)
  pub out : (o : Out) → m.0.ledger.out ≡ Some o → x ≡ slice_index o.words a
  pub one : OneState n.0

abbrev pub Loads : Step Slot → Me Slot View → ℕ → Me Slot View → Type 0
Loads st m x n = (a : ℕ) → st.word ≡ balance_at m.0.who.plan a → LoadedBy a m x n

-- the version was loaded
pub record Sees (st : Step Slot) (m : Me Slot View) (x : ℕ) (n : Me Slot View) : Type 0 where
  pub rises : m.0.ledger.seen ≤ x
  pub seat : n ≡ (record m.0 { ledger = sighted m.0.ledger x }, m.1)
  pub one : OneState n.0

-- the journal was taken, with its room, and the balances after it
pub record TakenBy (m : Me Slot View) (version : ℕ) (n : Me Slot View) : Type 0 where
  pub journal : Journal
  pub words : List ℕ
  pub seat : n
      ≡ (
        record m.0 {
          ledger = taken_out m.0.ledger journal.entries.items journal.entries.room words;
        },
        (0, Some (Entries journal)) ∷ m.1,
      )
  pub replays : Replays m.0.who.plan.balances.items journal.entries.items
  pub long : length words ≡ accounts_of m.0.who.plan
  pub are : (a : ℕ)
      → a < accounts_of m.0.who.plan
      → slice_index words a ≡ balance m.0.who.plan journal.entries.items a
  pub version_is : version ≡ length journal.entries.items
  pub seen : m.0.ledger.seen ≤ length journal.entries.items
  pub room : length journal.entries.items + m.0.ledger.share ≤ journal.entries.room

abbrev pub TakesJournal : Step Slot → Me Slot View → ℕ → Me Slot View → Type 0
TakesJournal st m x n = TakenBy m x n

-- a balance was stored
abbrev pub Stores : Step Slot → Me Slot View → ℕ → Me Slot View → Type 0
Stores st m x n = (a : ℕ) (o : Out) → st.word ≡ balance_at m.0.who.plan a → m.0.ledger.out ≡ Some o
    → n ≡ (record m.0 { ledger = stored m.0.ledger o a x }, m.1)

-- the journal was brought home
abbrev pub Brings : Step Slot → Me Slot View → ℕ → Me Slot View → Type 0
Brings st m x n = (o : Out) (j : Journal) (p : ℕ) (xs : List (ℕ × Slot)) → m.0.ledger.out ≡ Some o
    → m.1 ≡ (0, Some (Entries j)) ∷ xs → m.0.who.number ≡ Some p
    → n
    ≡ (
      record m.0 {
        ledger = brought m.0.ledger p o (drop (length o.list) j.entries.items);
      },
      xs,
    )

-- a value of the lock l was taken out of its home q: the key of its cell
pub record ValueTakenBy (l q : ℕ) (m n : Me Slot View) : Type 0 where
  pub key : Key
  pub seat : n ≡ (taking l q m.0, (1 + q, Some (CellKey key)) ∷ m.1)
  pub is : IsKeyOf m.0.who.plan q key
  pub apart : IsClear m.0.who.plan l m.0.who.outs

abbrev pub TakesValue : Step Slot → Me Slot View → ℕ → Me Slot View → Type 0
TakesValue st m x n = (q : ℕ) → st.word ≡ quiet_at m.0.who.plan q
    → ValueTakenBy (lock_of m.0.who.plan q) q m n

-- it was brought home
abbrev pub BringsValue : Step Slot → Me Slot View → ℕ → Me Slot View → Type 0
BringsValue st m x n = (q : ℕ) (y : Slot) (xs : List (ℕ × Slot)) → st.word ≡ quiet_at m.0.who.plan q
    → m.1 ≡ (1 + q, y) ∷ xs → n ≡ (bringing (lock_of m.0.who.plan q) m.0, xs)

-- the slots that go with a view, all of them empty: the place of the journal, where it is out, and those
-- of the values that are out

abbrev pub carried_with : List ℕ → Option Out → List (ℕ × Slot)
carried_with ls None = empty_places ls
carried_with ls (Some o) = (0, None) ∷ empty_places ls

abbrev pub carried_of : View → List (ℕ × Slot)
carried_of v = carried_with v.who.outs v.ledger.out
