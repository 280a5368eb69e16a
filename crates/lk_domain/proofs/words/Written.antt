-- No two words of the locks stand at one place, so a step that writes one leaves the others.
use Rattle.std.proofs.Common.{◌≡◌, ◌≢◌, inl, inr, ℕ, ◌+◌, ◌*◌, ◌<◌, ◌≤◌, List, set, get_or, Bool}
use Rattle.std.proofs.Common.{true, refl, sym, ap, ◌∙◌, arith, length-set, get_or-set_other}
use Rattle.std.proofs.Common.{get_or-set_same, if◌then◌else◌}
use Rattle.lk_domain.proofs.Names.{cases_eq, NodeName, Node, halts, is_rw_name, World, accounts_of}
use Rattle.lk_domain.proofs.Names.{cpus_of, kind_at, layout_in, IsStored, homes_of, IsPlace, OfLock}
use Rattle.lk_domain.proofs.Names.{OfNode, OfState, Place, balance_at, node_number, number_of}
use Rattle.lk_domain.proofs.Names.{place_at, state_number, version_at, with_mark, words_of, Plan}
use Rattle.lk_word.specs.{RwWord.packed_rw, SpinWord.packed}
use Rattle.lk_domain.proofs.words.Locks.{word_from, word_below, name_one}
use Rattle.lk_domain.proofs.words.NodeWords.{low, name_is, part_at}
use Rattle.lk_domain.specs.Words.{OfHash, OfKick, is_read, far_of, state_at, mark_number}
use Rattle.lk_domain.specs.Words.{first_node, hash_at, kick_at}
use Rattle.lk_domain.specs.declared.place.TheConstants.{FIRST_LOCK, HALTING_WORDS}

-- where processors halt, all words have room
pub far_words : (k : Plan) → halts k.mode ≡ true → words_of k ≡ far_of k + HALTING_WORDS * cpus_of k + homes_of k
far_words k halting = ap (λ (b : Bool). far_of k + (if b then HALTING_WORDS * cpus_of k else 0) + homes_of k) halting

-- between these stand the words of a kind

abbrev from : Plan → Place → ℕ
from k (OfLock l) = FIRST_LOCK
from k (OfNode n q) = first_node k
from k (OfState n) = far_of k
from k (OfHash i) = hash_at k 0
from k (OfKick p) = kick_at k 0

abbrev upto : Plan → Place → ℕ
upto k (OfLock l) = balance_at k 0
upto k (OfNode n q) = far_of k
upto k (OfState n) = hash_at k 0
upto k (OfHash i) = kick_at k 0
upto k (OfKick p) = far_of k + HALTING_WORDS * cpus_of k

between : (k : Plan) (x : Place) → IsPlace k x → (from k x ≤ place_at k x) × (place_at k x < upto k x)
between k (OfLock l) h = (word_from l, word_below k l h)
between k (OfNode n q) h = let c = h.cpu in let i = h.index in let z = low q in (omega arith, omega (arith, c, i, z))
between k (OfState n) h = let c = h.1.cpu in let i = h.1.index in (omega arith, omega (arith, c, i))
between k (OfHash i) h = let z = h.1 in (omega arith, omega (arith, z))
between k (OfKick p) h = let z = h.1 in (omega arith, omega (arith, z))

state_is : (k : Plan) (a b : NodeName) → a.index < 4 → b.index < 4 → state_at k a ≡ state_at k b → a ≡ b
state_is k a b low high e =
    let cpu : a.cpu ≡ b.cpu = omega (arith, e, low, high) in
    let index : a.index ≡ b.index = omega (arith, e, low, high) in
    (λ i. record { cpu = cpu i; index = index i })

-- a word is known by its place
pub place_is : (k : Plan) (x y : Place) → IsPlace k x → IsPlace k y → place_at k x ≡ place_at k y → x ≡ y
place_is k (OfLock a) (OfLock b) g h e = ap OfLock (name_one a b e)
place_is k (OfNode a q) (OfNode b r) g h e =
    let name = name_is k a b q r g.index h.index e in
    let part = part_at k a b q r e in
    (λ i. OfNode (name i) (part i))
place_is k (OfState a) (OfState b) g h e = ap OfState (state_is k a b g.1.index h.1.index e)
place_is k (OfHash i) (OfHash j) g h e = ap OfHash (omega (arith, e))
place_is k (OfKick p) (OfKick q) g h e = ap OfKick (omega (arith, e))
place_is k x y g h e =
    let a = between k x g in let b = between k y h in absurd (omega (arith, e, a.0, a.1, b.0, b.1))

-- none is the roll or the version
pub behind : (k : Plan) (x : Place) → IsPlace k x → FIRST_LOCK ≤ place_at k x
behind k (OfLock l) h = word_from l
behind k x h = let a = (between k x h).0 in omega (arith, a)

-- the table has it
pub inside : (k : Plan) (x : Place) → IsPlace k x → place_at k x < words_of k
inside k (OfLock l) h = let b = word_below k l h in omega (arith, b)
inside k (OfNode n q) h = let b = (between k (OfNode n q) h).1 in omega (arith, b)
inside k (OfState n) h = let b = (between k (OfState n) h).1 in let w = far_words k h.0 in omega (arith, b, w)
inside k (OfHash i) h = let b = (between k (OfHash i) h).1 in let w = far_words k h.0 in omega (arith, b, w)
inside k (OfKick p) h = let b = (between k (OfKick p) h).1 in let w = far_words k h.0 in omega (arith, b, w)

-- the word is none of the ledger's
pub record IsBare (k : Plan) (j : ℕ) : Type 0 where
  pub roll : j ≢ 0
  pub version : j ≢ version_at
  pub balances : (a : ℕ) → a < accounts_of k → j ≢ balance_at k a

pub bare : (k : Plan) → accounts_of k ≤ 64 → (x : Place) → IsPlace k x → IsBare k (place_at k x)
bare k few x h =
    let a = behind k x h in
    record { roll = λ e. omega (arith, e, a); version = λ e. omega (arith, e, a); balances = λ c lt. apart x h c lt }
  where
    apart : (x : Place) → IsPlace k x → (c : ℕ) → c < accounts_of k → place_at k x ≢ balance_at k c
    apart (OfLock l) h c lt e = let b = word_below k l h in omega (arith, e, b)
    apart x h c lt e = let b = (between k x h).0 in omega (arith, e, b, lt, few)

-- the number of the next processor stays
pub roll_stays : (k : Plan) (ws : List ℕ) (x : Place) (i : ℕ) → IsPlace k x → get_or (set ws (place_at k x) i) 0 0 ≡ get_or ws 0 0
roll_stays k ws x i near =
    get_or-set_other ws (place_at k x) 0 i 0 (λ e. let a = behind k x near in omega (arith, e, a))

-- the numbers are those of another world with these words, nodes and kicks
pub same_numbers : (k : Plan) (pairs : ℕ → ℕ) (m n : World) → n.word ≡ m.word → n.rw ≡ m.rw → n.node ≡ m.node
    → n.kicked ≡ m.kicked → (x : Place) → number_of k n pairs x ≡ number_of k m pairs x
same_numbers k pairs m n word rw node kicked (OfLock l) =
    (λ i. if is_rw_name (kind_at k) l then packed_rw (rw i l.index) else packed (layout_in k) (word i l))
same_numbers k pairs m n word rw node kicked (OfNode a q) = ap (λ (g : NodeName → Node). node_number q (g a)) node
same_numbers k pairs m n word rw node kicked (OfState a) = ap (λ (g : NodeName → Node). state_number (g a).state) node
same_numbers k pairs m n word rw node kicked (OfHash i) = refl
same_numbers k pairs m n word rw node kicked (OfKick p) = ap (λ (g : ℕ → Bool). mark_number (g p)) kicked

module _ (k : Plan) {m : World} {marks : NodeName → Bool} {pairs : ℕ → ℕ} {ws : List ℕ}
    (old : IsStored k m marks pairs ws) where
  -- a world with the same numbers
  pub renumbered : (n : World) → ((y : Place) → number_of k n pairs y ≡ number_of k m pairs y)
      → IsStored k n marks pairs ws
  renumbered n same =
      record {
        long = old.long;
        words = λ y at read. old.words y at read ∙ ap (with_mark marks y) (sym (same y));
      }

  -- another word of the table is written
  pub unwritten : (j i : ℕ) → ((y : Place) → IsPlace k y → place_at k y ≢ j) → IsStored k m marks pairs (set ws j i)
  unwritten j i off =
      record {
        long = length-set ws j i ∙ old.long;
        words = λ y at read. get_or-set_other ws j (place_at k y) i 0 (off y at) ∙ old.words y at read;
      }

  -- the word of x is written, and the new world has that number there, and the others as they were
  pub written : (n : World) (now : NodeName → Bool) (pairs_now : ℕ → ℕ) (x : Place) → IsPlace k x → (i : ℕ)
      → i ≡ with_mark now x (number_of k n pairs_now x)
      → ((y : Place) → IsPlace k y → is_read k.mode y ≡ true → y ≢ x
      → with_mark now y (number_of k n pairs_now y) ≡ with_mark marks y (number_of k m pairs y))
      → IsStored k n now pairs_now (set ws (place_at k x) i)
  written n now pairs_now x near i is others =
      record {
        long = length-set ws (place_at k x) i ∙ old.long;
        words = λ y at read. elim (cases_eq (place_at k y) (place_at k x)) [
          | inl e ↦ ap (λ (z : ℕ). get_or (set ws (place_at k x) i) z 0) e
              ∙ (get_or-set_same ws (place_at k x) i 0 (let a = inside k x near in let b = old.long in omega (arith, a, b))
              ∙ (is ∙ ap (λ (z : Place). with_mark now z (number_of k n pairs_now z)) (sym (place_is k y x at near e))))
          | inr ne ↦ get_or-set_other ws (place_at k x) (place_at k y) i 0 ne
              ∙ (old.words y at read ∙ sym (others y at read (λ e. ne (ap (place_at k) e))))
        ];
      }
