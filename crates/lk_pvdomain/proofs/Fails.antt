-- Whether a swap fails on a word is seen by the low bits of its number.
use Rattle.std.proofs.Common.{◌≡◌, ◌≢◌, ◌⊎◌, ℕ, ◌+◌, ◌*◌, ◌%◌, Option, Some, None, Bool, true}
use Rattle.std.proofs.Common.{false, refl, arith, if◌then◌else◌}
use Rattle.lk_pvdomain.proofs.Names.{Me, Fields, Layout, Locked, Free, Held, Slow, NodeName, Verb}
use Rattle.lk_pvdomain.proofs.Names.{lock_name, MadeBy, View, TriedBy, head_fails, release_fails}
use Rattle.lk_pvdomain.proofs.Names.{steal_fails}
use Rattle.lk_word.specs.SpinWord.{packed, locked_number, tail_number}
use Rattle.lk_word.specs.declared.spin_word.Layout.TheVariants.{Narrow, Wide}

-- what a tail counts for leaves the low nine bits as they are
pub tail_512 : (layout : Layout) (t : Option NodeName) → (n : ℕ) × (tail_number layout t ≡ 512 * n)
tail_512 layout None = (0, refl)
tail_512 Narrow (Some n) = (128 * (n.index + 4 * (n.cpu + 1)), omega arith)
tail_512 Wide (Some n) = (n.index + 4 * (n.cpu + 1), omega arith)

-- the numbers of the two low fields
low_bits : (layout : Layout) (a : Locked) (b : Bool) (t : Option NodeName)
    → packed layout (record { locked = a; pending = b; tail = t }) % 512 ≡ locked_number a + (if b then 256 else 0)
unfolding packed
low_bits layout Free true t = let h = tail_512 layout t in omega (arith, h.1)
low_bits layout Free false t = let h = tail_512 layout t in omega (arith, h.1)
low_bits layout Held true t = let h = tail_512 layout t in omega (arith, h.1)
low_bits layout Held false t = let h = tail_512 layout t in omega (arith, h.1)
low_bits layout Slow true t = let h = tail_512 layout t in omega (arith, h.1)
low_bits layout Slow false t = let h = tail_512 layout t in omega (arith, h.1)

pub low_byte : (layout : Layout) (a : Locked) (b : Bool) (t : Option NodeName)
    → packed layout (record { locked = a; pending = b; tail = t }) % 256 ≡ locked_number a
low_byte layout Free true t = let h = low_bits layout Free true t in omega (arith, h)
low_byte layout Free false t = let h = low_bits layout Free false t in omega (arith, h)
low_byte layout Held true t = let h = low_bits layout Held true t in omega (arith, h)
low_byte layout Held false t = let h = low_bits layout Held false t in omega (arith, h)
low_byte layout Slow true t = let h = low_bits layout Slow true t in omega (arith, h)
low_byte layout Slow false t = let h = low_bits layout Slow false t in omega (arith, h)

steal_on : (a : Locked) (b : Bool) (t : Option NodeName) → locked_number a ≢ 0 → steal_fails (record { locked = a; pending = b; tail = t }) ≡ true
steal_on Free b t ne = absurd (ne refl)
steal_on Held b t ne = refl
steal_on Slow b t ne = refl

steal_off : (a : Locked) (b : Bool) (t : Option NodeName) → locked_number a ≡ 0 → steal_fails (record { locked = a; pending = b; tail = t }) ≡ false
steal_off Free b t e = refl
steal_off Held b t e = absurd (omega (arith, e))
steal_off Slow b t e = absurd (omega (arith, e))

release_on : (a : Locked) (b : Bool) (t : Option NodeName) → locked_number a ≢ 1 → release_fails (record { locked = a; pending = b; tail = t }) ≡ true
release_on Free b t ne = refl
release_on Held b t ne = absurd (ne refl)
release_on Slow b t ne = refl

release_off : (a : Locked) (b : Bool) (t : Option NodeName) → locked_number a ≡ 1 → release_fails (record { locked = a; pending = b; tail = t }) ≡ false
release_off Free b t e = absurd (omega (arith, e))
release_off Held b t e = refl
release_off Slow b t e = absurd (omega (arith, e))

head_on : (a : Locked) (b : Bool) (t : Option NodeName) → locked_number a + (if b then 256 else 0) ≢ 256
    → head_fails (record { locked = a; pending = b; tail = t }) ≡ true
head_on Free true t ne = absurd (ne refl)
head_on Free false t ne = refl
head_on Held b t ne = refl
head_on Slow b t ne = refl

head_off : (a : Locked) (b : Bool) (t : Option NodeName) → locked_number a + (if b then 256 else 0) ≡ 256
    → head_fails (record { locked = a; pending = b; tail = t }) ≡ false
head_off Free true t e = refl
head_off Free false t e = absurd (omega (arith, e))
head_off Held true t e = absurd (omega (arith, e))
head_off Held false t e = absurd (omega (arith, e))
head_off Slow true t e = absurd (omega (arith, e))
head_off Slow false t e = absurd (omega (arith, e))

-- by the number that was met
pub steal_failed : (layout : Layout) (x : Fields) (met : ℕ) → met ≡ packed layout x → met % 256 ≢ 0 → steal_fails x ≡ true
steal_failed layout x met is ne =
    let h = low_byte layout x.locked x.pending x.tail in steal_on x.locked x.pending x.tail (λ e. ne (omega (arith, is, h, e)))

pub steal_again : (layout : Layout) (x : Fields) (met : ℕ) → met ≡ packed layout x → met % 256 ≡ 0 → steal_fails x ≡ false
steal_again layout x met is e = let h = low_byte layout x.locked x.pending x.tail in steal_off x.locked x.pending x.tail (omega (arith, is, h, e))

pub release_failed : (layout : Layout) (x : Fields) (met : ℕ) → met ≡ packed layout x → met % 256 ≢ 1 → release_fails x ≡ true
release_failed layout x met is ne =
    let h = low_byte layout x.locked x.pending x.tail in release_on x.locked x.pending x.tail (λ e. ne (omega (arith, is, h, e)))

pub release_again : (layout : Layout) (x : Fields) (met : ℕ) → met ≡ packed layout x → met % 256 ≡ 1 → release_fails x ≡ false
release_again layout x met is e = let h = low_byte layout x.locked x.pending x.tail in release_off x.locked x.pending x.tail (omega (arith, is, h, e))

pub head_failed : (layout : Layout) (x : Fields) (met : ℕ) → met ≡ packed layout x → met % 512 ≢ 256 → head_fails x ≡ true
head_failed layout x met is ne =
    let h = low_bits layout x.locked x.pending x.tail in head_on x.locked x.pending x.tail (λ e. ne (omega (arith, is, h, e)))

pub head_again : (layout : Layout) (x : Fields) (met : ℕ) → met ≡ packed layout x → met % 512 ≡ 256 → head_fails x ≡ false
head_again layout x met is e = let h = low_bits layout x.locked x.pending x.tail in head_off x.locked x.pending x.tail (omega (arith, is, h, e))

-- a try that is the row, and one after which it is tried again
pub tried : {S : Type 0} (fails : Fields → Bool) (verb : Verb) (l expected : ℕ) (m : Me S View) (met : ℕ) (n : Me S View)
    → (t : TriedBy fails verb (lock_name l) expected m met n) → (met ≡ expected) ⊎ (fails t.found ≡ true) → MadeBy verb l m met n
tried fails verb l expected m met n t h =
    record { found = t.found; packs = t.packs; tail = t.tail; word = t.word; seat = t.makes h }
