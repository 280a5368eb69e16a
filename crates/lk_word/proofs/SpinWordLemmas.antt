-- Packing a spinlock's word is exact.
use Rattle.std.proofs.Common.{◌≡◌, ◌≢◌, ℕ, ◌+◌, ◌-◌, ◌*◌, ◌/◌, ◌%◌, ◌^◌, ◌<◌, ◌≤◌, Bool, true, false, eqb, Option, Some, None, refl, sym, ap, ◌∙◌, arith, ◌↔◌, inl, inr, cond, IfSome, IfNone, IsNone, ◌⊎◌, subst}
use Rattle.std.proofs.lemmas.Bool.Decides.{nat_tests}
use Rattle.std.proofs.lemmas.Bool.{true≢false, eqb-true, eqb-false, ne_eqb}
use Rattle.std.proofs.lemmas.Option.{same_Some, none-some}
use Rattle.lk_word.specs.declared.spin_word.NodeName.{NodeName}
use Rattle.lk_word.specs.declared.spin_word.Layout.{Layout}
use Rattle.lk_word.specs.declared.spin_word.Layout.TheVariants.{Narrow, Wide}
use Rattle.lk_word.specs.declared.spin_word.Locked.{Locked}
use Rattle.lk_word.specs.declared.spin_word.Locked.TheVariants.{Free, Held, Slow}
use Rattle.lk_word.specs.declared.spin_word.Fields.{Fields}
use Rattle.lk_word.specs.SpinWord.{locked_number, tail_number, packed, IsTailInRange, IsPackable, locked_of, tail_of, fields_of, unpacked, IsRefused, unused_values, index_unit, cpu_unit, last_cpu}

-- the parts of a word with no unused bit, by `/` and `%`
record Parts (layout : Layout) (word byte bit index above : ℕ) : Type 0 where
  byte_is : word % 256 ≡ byte
  bit_is : word / 256 % 2 ≡ bit
  unused_is : word / 512 % unused_values layout ≡ 0
  index_is : word / index_unit layout % 4 ≡ index
  above_is : word / cpu_unit layout ≡ above

parts_of_sum : (layout : Layout) (word byte bit index above : ℕ) → byte < 256 → bit < 2 → index < 4 →
    word ≡ byte + 256 * bit + (index_unit layout * index + cpu_unit layout * above) →
    Parts layout word byte bit index above
parts_of_sum Narrow word byte bit index above l p i e = record {
  byte_is = omega arith;
  bit_is = omega arith;
  unused_is = omega arith;
  index_is = omega arith;
  above_is = omega arith;
}
parts_of_sum Wide word byte bit index above l p i e = record {
  byte_is = omega arith;
  bit_is = omega arith;
  unused_is = omega arith;
  index_is = omega arith;
  above_is = omega arith;
}

-- a word with these parts has these fields
unpacked_of_parts : (layout : Layout) (word byte bit index above : ℕ) →
    Parts layout word byte bit index above →
    unpacked layout word ≡ fields_of (locked_of byte) (eqb bit 1) (tail_of above index)
unfolding unpacked
unpacked_of_parts layout word byte bit index above parts =
    rw (parts.unused_is, parts.byte_is, parts.bit_is, parts.index_is, parts.above_is)

-- a tail is read back from its parts
tail_turned : (node : NodeName) → tail_of (node.cpu + 1) node.index ≡ Some (Some node)
tail_turned node = grind (arith, nat_tests)

module _ (layout : Layout) where
  -- the parts of the word with this tail
  unpacked_of_sum : (byte bit : ℕ) (node : NodeName) → byte < 256 → bit < 2 → node.index ≤ 3 →
      unpacked layout (byte + 256 * bit + tail_number layout (Some node))
      ≡ fields_of (locked_of byte) (eqb bit 1) (Some (Some node))
  unpacked_of_sum byte bit node l p i =
      unpacked_of_parts layout _ byte bit node.index (node.cpu + 1)
      (parts_of_sum layout _ byte bit node.index (node.cpu + 1) l p (omega arith) refl)
      ∙ ap (fields_of (locked_of byte) (eqb bit 1)) (tail_turned node)

  -- and of one without a tail
  unpacked_of_low : (byte bit : ℕ) → byte < 256 → bit < 2 →
      unpacked layout (byte + 256 * bit + 0) ≡ fields_of (locked_of byte) (eqb bit 1) (Some None)
  unpacked_of_low byte bit l p =
      unpacked_of_parts layout _ byte bit 0 0 (parts_of_sum layout _ byte bit 0 0 l p (omega arith) (omega arith))

  -- each lot of fields is read back, one equation for each locked byte, pending bit and tail
  turned : (locked : Locked) (pending : Bool) (tail : Option NodeName) → IsTailInRange layout tail →
      unpacked layout (packed layout (record { locked = locked; pending = pending; tail = tail }))
      ≡ Some (record { locked = locked; pending = pending; tail = tail })
  unfolding packed
  turned Free false None _ = unpacked_of_low 0 0 (omega arith) (omega arith)
  turned Free true None _ = unpacked_of_low 0 1 (omega arith) (omega arith)
  turned Held false None _ = unpacked_of_low 1 0 (omega arith) (omega arith)
  turned Held true None _ = unpacked_of_low 1 1 (omega arith) (omega arith)
  turned Slow false None _ = unpacked_of_low 3 0 (omega arith) (omega arith)
  turned Slow true None _ = unpacked_of_low 3 1 (omega arith) (omega arith)
  turned Free false (Some node) h = unpacked_of_sum 0 0 node (omega arith) (omega arith) h.1
  turned Free true (Some node) h = unpacked_of_sum 0 1 node (omega arith) (omega arith) h.1
  turned Held false (Some node) h = unpacked_of_sum 1 0 node (omega arith) (omega arith) h.1
  turned Held true (Some node) h = unpacked_of_sum 1 1 node (omega arith) (omega arith) h.1
  turned Slow false (Some node) h = unpacked_of_sum 3 0 node (omega arith) (omega arith) h.1
  turned Slow true (Some node) h = unpacked_of_sum 3 1 node (omega arith) (omega arith) h.1

  -- the word of some fields has these fields
  pub unpacked-packed : (f : Fields) → IsPackable layout f → unpacked layout (packed layout f) ≡ Some f
  unpacked-packed f h = turned f.locked f.pending f.tail h

  -- two lots of fields with one word are one
  pub packed_injective : (f g : Fields) → IsPackable layout f → IsPackable layout g →
      packed layout f ≡ packed layout g → f ≡ g
  packed_injective f g hf hg e =
      same_Some f g (sym (unpacked-packed f hf) ∙ ap (unpacked layout) e ∙ unpacked-packed g hg)

-- no part of some fields is refused
fields_from : (unused : Bool) (locked : Option Locked) (pending : Bool)
    (tail : Option (Option NodeName)) (f : Fields) →
    cond unused (fields_of locked pending tail) None ≡ Some f →
    (unused ≡ true) × (locked ≡ Some f.locked) × (pending ≡ f.pending) × (tail ≡ Some f.tail)
fields_from false locked pending tail f e = absurd (none-some f e)
fields_from true None pending tail f e = absurd (none-some f e)
fields_from true (Some locked) pending None f e = absurd (none-some f e)
fields_from true (Some locked) pending (Some tail) f e =
    let same = same_Some _ f e in (
      refl,
      ap (λ (g : Fields). Some g.locked) same,
      ap (λ (g : Fields). g.pending) same,
      ap (λ (g : Fields). Some g.tail) same,
    )

-- a locked byte that stands for something has its number
locked_from : (byte : ℕ) (locked : Locked) →
    locked_of byte ≡ Some locked → locked_number locked ≡ byte
locked_from byte Free e = grind (arith, nat_tests)
locked_from byte Held e = grind (arith, nat_tests)
locked_from byte Slow e = grind (arith, nat_tests)

-- the two ways in which the parts of a tail are not refused
tail_cases : (no_cpu no_index : Bool) (node : NodeName) (tail : Option NodeName) →
    cond no_cpu (cond no_index (Some None) None) (Some (Some node)) ≡ Some tail →
    ((no_cpu ≡ true) × (no_index ≡ true) × (tail ≡ None)) ⊎ ((no_cpu ≡ false) × (tail ≡ Some node))
tail_cases false no_index node tail e = inr (refl, sym (same_Some _ tail e))
tail_cases true false node tail e = absurd (none-some tail e)
tail_cases true true node tail e = inl (refl, refl, sym (same_Some _ tail e))

-- a tail that stands for these parts is in range, and adds them
record Adds (layout : Layout) (tail : Option NodeName) (number : ℕ) : Type 0 where
  in_range : IsTailInRange layout tail
  number_is : tail_number layout tail ≡ number

-- what an index and a processor plus one add
abbrev parts_number : Layout → ℕ → ℕ → ℕ
parts_number layout index above = index_unit layout * index + cpu_unit layout * above

-- no queue
no_tail : (layout : Layout) (above index : ℕ) → above ≡ 0 → index ≡ 0 →
    Adds layout None (parts_number layout index above)
no_tail Narrow above index a i = record { in_range = tt; number_is = omega arith }
no_tail Wide above index a i = record { in_range = tt; number_is = omega arith }

-- a queue whose last node has this index and this processor plus one
some_tail : (layout : Layout) (above index : ℕ) → above ≢ 0 → above ≤ last_cpu layout + 1 → index < 4 →
    Adds layout (Some (record { cpu = above - 1; index = index })) (parts_number layout index above)
some_tail Narrow above index a below small =
    record { in_range = (omega arith, omega arith); number_is = omega arith }
some_tail Wide above index a below small =
    record { in_range = (omega arith, omega arith); number_is = omega arith }

tail_from : (layout : Layout) (above index : ℕ) (tail : Option NodeName) →
    above ≤ last_cpu layout + 1 → index < 4 →
    tail_of above index ≡ Some tail → Adds layout tail (parts_number layout index above)
tail_from layout above index tail below small e =
    let P : Option NodeName → Type 0 = λ t. Adds layout t (parts_number layout index above) in
    elim (tail_cases (eqb above 0) (eqb index 0) (record { cpu = above - 1; index = index }) tail e) [
      | inl h ↦ subst P (sym h.2) (no_tail layout above index (eqb-true above 0 h.0) (eqb-true index 0 h.1))
      | inr h ↦ subst P (sym h.1) (some_tail layout above index (eqb-false above 0 h.0) below small)
    ]

-- the pending part of a word
pub bit_number : (bit : ℕ) (pending : Bool) → bit < 2 → eqb bit 1 ≡ pending →
    cond pending 256 0 ≡ 256 * bit
bit_number bit false small e = grind (arith, nat_tests)
bit_number bit true small e = grind (arith, nat_tests)

-- a word with no unused bit is the sum of its parts
sum_of_parts : (layout : Layout) (word : ℕ) → word / 512 % unused_values layout ≡ 0 →
    word % 256 + 256 * (word / 256 % 2)
    + parts_number layout (word / index_unit layout % 4) (word / cpu_unit layout)
    ≡ word
sum_of_parts Narrow word unused = omega arith
sum_of_parts Wide word unused = omega arith

-- the processor of a word of 32 bits is at most the highest
above_small : (layout : Layout) (word : ℕ) → word < 2 ^ 32 → word / cpu_unit layout ≤ last_cpu layout + 1
above_small Narrow word fits = omega arith
above_small Wide word fits = omega arith

index_small : (layout : Layout) (word : ℕ) → word / index_unit layout % 4 < 4
index_small Narrow word = omega arith
index_small Wide word = omega arith

module _ (layout : Layout) where
  -- the fields in a word of 32 bits have this word
  pub packed_of_unpacked : (word : ℕ) (f : Fields) → word < 2 ^ 32 → unpacked layout word ≡ Some f →
      IsPackable layout f × (packed layout f ≡ word)
  unfolding packed unpacked
  packed_of_unpacked word f fits e =
      let above = word / cpu_unit layout in
      let index = word / index_unit layout % 4 in
      let parts = fields_from (eqb (word / 512 % unused_values layout) 0) (locked_of (word % 256))
      (eqb (word / 256 % 2) 1) (tail_of above index) f e in
      let tail = tail_from layout above index f.tail
      (above_small layout word fits) (index_small layout word) parts.3 in
      let locked = locked_from (word % 256) f.locked parts.1 in
      let bit = bit_number (word / 256 % 2) f.pending (omega arith) parts.2 in
      let sum = sum_of_parts layout word (eqb-true (word / 512 % unused_values layout) 0 parts.0) in
      (tail.in_range, rw (locked, bit, tail.number_is) sum)

  -- no fields pack to a word that is refused
  pub packed_not_refused : (word : ℕ) → unpacked layout word ≡ None →
      (f : Fields) → IsPackable layout f → packed layout f ≢ word
  packed_not_refused word e f h is =
      none-some f (sym e ∙ ap (unpacked layout) (sym is) ∙ unpacked-packed layout f h)

-- a tail that can stand in a word can stand in a wide one
pub in_wide : (layout : Layout) (tail : Option NodeName) → IsTailInRange layout tail →
    IsTailInRange Wide tail
in_wide layout None h = tt
in_wide Narrow (Some node) h = (omega (arith, h.0), h.1)
in_wide Wide (Some node) h = h

-- and one of the narrow layout in each
pub from_narrow : (layout : Layout) (tail : Option NodeName) → IsTailInRange Narrow tail →
    IsTailInRange layout tail
from_narrow layout None h = tt
from_narrow Narrow (Some node) h = h
from_narrow Wide (Some node) h = (omega (arith, h.0), h.1)

-- how large the parts of a word are
small_locked : (locked : Locked) → locked_number locked ≤ 3
small_locked Free = omega arith
small_locked Held = omega arith
small_locked Slow = omega arith

small_tail : (layout : Layout) (tail : Option NodeName) → IsTailInRange layout tail →
    tail_number layout tail + 512 ≤ 2 ^ 32
small_tail layout None h = omega arith
small_tail Narrow (Some node) h = omega (arith, h.0, h.1)
small_tail Wide (Some node) h = omega (arith, h.0, h.1)

small_bit : (pending : Bool) → cond pending 256 0 ≤ 256
small_bit false = omega arith
small_bit true = omega arith

-- a word has 32 bits
pub packed_small : (layout : Layout) (f : Fields) → IsPackable layout f → packed layout f < 2 ^ 32
unfolding packed
packed_small layout f h =
    omega (arith, small_locked f.locked, small_bit f.pending, small_tail layout f.tail h)

-- an unknown locked byte stands for nothing, and no other byte does
pub unknown_from_none : (byte : ℕ) → locked_of byte ≡ None → (byte ≢ 0) × (byte ≢ 1) × (byte ≢ 3)
unknown_from_none byte e = (grind (arith, nat_tests), grind (arith, nat_tests), grind (arith, nat_tests))

none_from_unknown : (byte : ℕ) → byte ≢ 0 → byte ≢ 1 → byte ≢ 3 → locked_of byte ≡ None
none_from_unknown byte a b c = grind (arith, nat_tests)

-- an index alone is no tail, and nothing else is none
pub alone_from_none : (above index : ℕ) → tail_of above index ≡ None → (index ≢ 0) × (above ≡ 0)
alone_from_none above index e = (grind (arith, nat_tests), grind (arith, nat_tests))

none_from_alone : (above index : ℕ) → index ≢ 0 → above ≡ 0 → tail_of above index ≡ None
none_from_alone above index i a = grind (arith, nat_tests)

-- the fields are refused where a part is, and only there
parts_refused : (unused : Bool) (locked : Option Locked) (pending : Bool)
    (tail : Option (Option NodeName)) →
    cond unused (fields_of locked pending tail) None ≡ None →
    (unused ≡ false) ⊎ (locked ≡ None) ⊎ (tail ≡ None)
parts_refused false locked pending tail e = inl refl
parts_refused true None pending tail e = inr (inl refl)
parts_refused true (Some locked) pending None e = inr (inr refl)
parts_refused true (Some locked) pending (Some tail) e = absurd (none-some _ (sym e))

refused_tail : (unused : Bool) (locked : Option Locked) (pending : Bool) →
    cond unused (fields_of locked pending None) None ≡ None
refused_tail false locked pending = refl
refused_tail true None pending = refl
refused_tail true (Some locked) pending = refl

refused_locked : (unused : Bool) (pending : Bool) (tail : Option (Option NodeName)) →
    cond unused (fields_of None pending tail) None ≡ None
refused_locked false pending tail = refl
refused_locked true pending tail = refl

module _ (layout : Layout) where
  -- a word of no fields has an unused bit, an unknown locked byte, or a tail index alone
  refused_cases : (word : ℕ) → unpacked layout word ≡ None → IsRefused layout word
  unfolding unpacked
  refused_cases word e =
      let unused = word / 512 % unused_values layout in
      let above = word / cpu_unit layout in
      let index = word / index_unit layout % 4 in
      let cases = parts_refused (eqb unused 0) (locked_of (word % 256)) (eqb (word / 256 % 2) 1)
      (tail_of above index) e in
      elim cases [
        | inl h ↦ inl (eqb-false unused 0 h)
        | inr (inl h) ↦ inr (inl (unknown_from_none (word % 256) h))
        | inr (inr h) ↦ inr (inr (alone_from_none above index h))
      ]

  -- and each of these words has no fields
  pub refused_from : (word : ℕ) → IsRefused layout word → unpacked layout word ≡ None
  unfolding unpacked
  refused_from word (inl h) = rw (ne_eqb (word / 512 % unused_values layout) 0 h) refl
  refused_from word (inr (inl h)) =
      rw (none_from_unknown (word % 256) h.0 h.1 h.2)
      (refused_locked (eqb (word / 512 % unused_values layout) 0) (eqb (word / 256 % 2) 1)
      (tail_of (word / cpu_unit layout) (word / index_unit layout % 4)))
  refused_from word (inr (inr h)) =
      rw (none_from_alone (word / cpu_unit layout) (word / index_unit layout % 4) h.0 h.1)
      (refused_tail (eqb (word / 512 % unused_values layout) 0) (locked_of (word % 256))
      (eqb (word / 256 % 2) 1))

  -- what the outcome of `unpacked` says of the word
  pub outcome_fields : (o : Option Fields) (word : ℕ) → word < 2 ^ 32 → o ≡ unpacked layout word →
      IfSome o (λ f. IsPackable layout f × (packed layout f ≡ word))
  outcome_fields None word fits e = tt
  outcome_fields (Some f) word fits e = packed_of_unpacked layout word f fits (sym e)

  pub outcome_unpackable : (o : Option Fields) (word : ℕ) → o ≡ unpacked layout word →
      IfNone o ((f : Fields) → IsPackable layout f → packed layout f ≢ word)
  outcome_unpackable None word e = packed_not_refused layout word (sym e)
  outcome_unpackable (Some f) word e = tt

  pub outcome_refused : (o : Option Fields) (word : ℕ) → o ≡ unpacked layout word →
      IsNone o ↔ IsRefused layout word
  outcome_refused None word e = (λ _. refused_cases word (sym e), λ _. refl)
  outcome_refused (Some f) word e =
      (λ h. absurd (true≢false h), λ h. absurd (none-some f (sym (refused_from word h) ∙ sym e)))
