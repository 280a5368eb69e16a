-- Where the words of a domain stand in its table, and what their numbers say. The words of two locks
-- stand eight words apart, so that they do not share a line of a cache.
use Rattle.std.specs.Prelude.{◌≡◌, ◌≢◌, ℕ, ◌+◌, ◌-◌, ◌*◌, ◌<◌, List, length, Option, Some, None, not}
use Rattle.std.specs.Prelude.{slice_index, Bool, true, false, if◌then◌else◌, ◌==◌, ◌&&◌}
use Rattle.lk_names.specs.declared.names.LockName.{LockName}
use Rattle.lk_names.specs.declared.names.Mode.{Mode}
use Rattle.lk_word.specs.RwWord.{packed_rw}
use Rattle.lk_word.specs.SpinWord.{packed}
pub use Rattle.lk_word.specs.NodeWord.{name_number}
use Rattle.lk_word.specs.declared.spin_word.NodeName.{NodeName}
use Rattle.lk_rows.specs.declared.parts.Flag.{Flag}
use Rattle.lk_rows.specs.declared.parts.Flag.TheVariants.{Unset, Go, Second}
use Rattle.lk_rows.specs.declared.parts.Node.{Node}
use Rattle.lk_rows.specs.declared.parts.State.{State}
use Rattle.lk_rows.specs.declared.parts.State.TheVariants.{Running, Halted, Hashed}
use Rattle.lk_law.specs.Agree.{halts}
use Rattle.lk_law.specs.Cna.{moves_aside}
use Rattle.lk_law.specs.SoundWorld.{is_rw_name}
use Rattle.lk_law.specs.World.{World}
use Rattle.lk_domain.specs.Plans.{locks_of, cpus_of, accounts_of, kind_at, layout_in}
use Rattle.lk_domain.specs.Values.{homes_of}
use Rattle.lk_domain.specs.declared.part.Part.{Part}
use Rattle.lk_domain.specs.declared.part.Part.TheVariants as part
use Rattle.lk_domain.specs.declared.place.TheConstants.{FIRST_LOCK, LOCK_WORDS, BALANCES, CPU_WORDS, NODE_WORDS}
use Rattle.lk_domain.specs.declared.place.TheConstants.{HALTING_WORDS, NODES, KICK_WORDS}
use Rattle.lk_domain.specs.declared.plan.Plan.{Plan}
use Rattle.lk_domain.specs.declared.plan.TheConstants.{MOST_LOCKS}

-- The number of the next processor that is dealt stands in word 0, and the version in word 1.
abbrev pub version_at : ℕ
version_at = 1

-- a lock, and beside it, on the same line of the cache, its wait lock
abbrev pub lock_at : ℕ → ℕ
lock_at l = FIRST_LOCK + LOCK_WORDS * l

abbrev pub wait_at : ℕ → ℕ
wait_at l = lock_at l + 1

-- one of these by its name

abbrev pub place_of : Bool → ℕ → ℕ
place_of false l = lock_at l
place_of true l = wait_at l

abbrev pub word_at : LockName → ℕ
word_at n = place_of n.wait n.index

-- behind the locks, a balance
abbrev pub balance_at : Plan → ℕ → ℕ
balance_at k a = FIRST_LOCK + LOCK_WORDS * locks_of k + a

-- which of the four places of a node is that of a word
abbrev pub part_index : Part → ℕ
part_index part.Flag = 0
part_index part.Next = 1
part_index part.SecondTail = 2
part_index part.Runs = 3

-- Behind the balances, the words of the nodes. There is room for four words of each.
abbrev pub first_node : Plan → ℕ
first_node k = balance_at k BALANCES

abbrev pub node_at : Plan → NodeName → Part → ℕ
node_at k n q = first_node k + part_index q + (CPU_WORDS * n.cpu + NODE_WORDS * n.index)

-- The words that a node has here, by the family: all four where waiters are moved aside, and else its
-- flag and its link, and nobody reads or writes the other two places. Where processors halt it has its
-- state elsewhere, which is the last that a call resets.
abbrev pub has_part : Mode → Part → Bool
has_part mode part.Flag = true
has_part mode part.Next = true
has_part mode part.SecondTail = moves_aside mode
has_part mode part.Runs = moves_aside mode

-- the word is the last of them
abbrev pub is_last : Mode → Part → Bool
is_last mode part.Flag = false
is_last mode part.Next = not (moves_aside mode) && not (halts mode)
is_last mode part.SecondTail = false
is_last mode part.Runs = true

-- Where processors halt, behind them the words of which that family alone has need: a state for each
-- node, the places of the hash, four for each processor, and for each processor, on a line of the cache
-- of its own, whether a kick of it is remembered. Other families have no room for them.
abbrev pub far_of : Plan → ℕ
far_of k = first_node k + CPU_WORDS * cpus_of k

abbrev pub state_at : Plan → NodeName → ℕ
state_at k n = far_of k + (NODES * n.cpu + n.index)

abbrev pub places_of : Plan → ℕ
places_of k = NODES * cpus_of k

abbrev pub hash_at : Plan → ℕ → ℕ
hash_at k i = far_of k + NODES * cpus_of k + i

abbrev pub kick_at : Plan → ℕ → ℕ
kick_at k p = far_of k + 2 * NODES * cpus_of k + KICK_WORDS * p

-- how many these are
abbrev pub halting_words : Plan → ℕ
halting_words k = if halts k.mode then HALTING_WORDS * cpus_of k else 0

-- how many words there are: behind these, one for each home of a value
abbrev pub words_of : Plan → ℕ
words_of k = far_of k + halting_words k + homes_of k

-- The word by whose load the value of a home goes out and comes home. Each home has its own, since by the
-- word a step tells which value it was: that of home 0 is the last of all, and before it come the others.
-- Nobody writes them.
abbrev pub quiet_at : Plan → ℕ → ℕ
quiet_at k q = words_of k - (1 + q)

-- the number of a state
abbrev pub state_number : State → ℕ
state_number Running = 0
state_number Halted = 1
state_number Hashed = 2

-- the number of an entry of the hash: a lock with a node; 0 is an empty place
abbrev pub pair_number : ℕ → NodeName → ℕ
pair_number l n = 1 + l + MOST_LOCKS * (NODES * n.cpu + n.index)

-- the number of a mark
abbrev pub mark_number : Bool → ℕ
mark_number false = 0
mark_number true = 1

-- a node of the domain
pub record IsNode (k : Plan) (n : NodeName) : Type 0 where
  pub cpu : n.cpu < cpus_of k
  pub index : n.index < NODES

-- the number of a flag
abbrev pub flag_number : Flag → ℕ
flag_number Unset = 0
flag_number Go = 1
flag_number (Second n) = name_number n

-- the number of a link
abbrev pub link_number : Option NodeName → ℕ
link_number None = 0
link_number (Some n) = name_number n

-- A link that names a node has a mark, which says whether the call that uses the node is in a
-- context above 0. A mark adds 2^32. Where no node is named there is none.
abbrev pub marked : Bool → ℕ → ℕ
marked false i = i
marked true i = if i == 0 then 0 else 4294967296 + i

-- the number of a word of a node, but for the mark
abbrev pub node_number : Part → Node → ℕ
node_number part.Flag x = flag_number x.flag
node_number part.Next x = link_number x.next
node_number part.SecondTail x = link_number x.second_tail
node_number part.Runs x = x.runs

-- with the mark, if it is a link
abbrev pub stored_number : Bool → Part → ℕ → ℕ
stored_number b part.Next i = marked b i
stored_number b q i = i

-- What a word of the locks stands for: a lock, of either kind, or a wait lock; a part or the state of a
-- node; a place of the hash; or the kicks of a processor.
pub data Place : Type 0 where
  OfLock : LockName → Place
  OfNode : NodeName → Part → Place
  OfState : NodeName → Place
  OfHash : ℕ → Place
  OfKick : ℕ → Place

-- where it stands
abbrev pub place_at : Plan → Place → ℕ
place_at k (OfLock l) = word_at l
place_at k (OfNode n q) = node_at k n q
place_at k (OfState n) = state_at k n
place_at k (OfHash i) = hash_at k i
place_at k (OfKick p) = kick_at k p

-- a domain of this plan has such a word
abbrev pub IsPlace : Plan → Place → Type 0
IsPlace k (OfLock l) = l.index < locks_of k
IsPlace k (OfNode n q) = IsNode k n
IsPlace k (OfState n) = (halts k.mode ≡ true) × IsNode k n
IsPlace k (OfHash i) = (halts k.mode ≡ true) × (i < places_of k)
IsPlace k (OfKick p) = (halts k.mode ≡ true) × (p < cpus_of k)

-- and somebody reads it
abbrev pub is_read : Mode → Place → Bool
is_read mode (OfNode n q) = has_part mode q
is_read mode _ = true

-- Its number in a world, but for the mark of a link, where these stand in the places of the hash.
abbrev pub number_of : Plan → World → (ℕ → ℕ) → Place → ℕ
number_of k m pairs (OfLock l) =
    if is_rw_name (kind_at k) l then packed_rw (m.rw l.index) else packed (layout_in k) (m.word l)
number_of k m pairs (OfNode n q) = node_number q (m.node n)
number_of k m pairs (OfState n) = state_number (m.node n).state
number_of k m pairs (OfHash i) = pairs i
number_of k m pairs (OfKick p) = mark_number (m.kicked p)

-- with the mark, if it is a link
abbrev pub with_mark : (NodeName → Bool) → Place → ℕ → ℕ
with_mark marks (OfNode n q) i = stored_number (marks n) q i
with_mark marks _ i = i

-- the words of a new table: all are 0 but the balances
pub record IsOpening (k : Plan) (ws : List ℕ) : Type 0 where
  pub long : length ws ≡ words_of k
  pub balances : (a : ℕ)
      → a < accounts_of k
      → slice_index ws (balance_at k a) ≡ slice_index k.balances.items a
  pub zeros : (i : ℕ)
      → ((a : ℕ) → a < accounts_of k → i ≢ balance_at k a)
      → slice_index ws i ≡ 0
