-- What the steps on the word of a reader-writer lock do to its number.
use Rattle.std.proofs.Common.{◌≡◌, ◌⊎◌, inl, inr, ℕ, ◌+◌, ◌-◌, ◌*◌, ◌%◌, ◌^◌, ◌<◌, Bool, true}
use Rattle.std.proofs.Common.{false, eqb, eq-eqb, ne_eqb, refl, sym, ap, ◌∙◌, arith, if◌then◌else◌}
use Rattle.std.proofs.Common.{◌&&◌, not}
use Rattle.std.specs.Prelude.{unwrap_or}
use Rattle.lk_domain.proofs.Names.{cases_Bool, cases_eq, or_block, bit_or, or_zero_r, either}
use Rattle.lk_domain.proofs.Names.{IsPackableRw, RwFields, Mode, Frame, Pc, R1, R2, R3, R4, R5, Wr1}
use Rattle.lk_domain.proofs.Names.{Wr2, Wr3, Wr4, Wr5, Wr6, Y1, Y2, Y3, Y4, Y5, Z1, Z2, Verb}
use Rattle.lk_domain.proofs.Names.{RUnlock, Read, TryRead, TryWrite, WUnlock, Write, is_cleared}
use Rattle.lk_domain.proofs.Names.{is_empty, is_open, rw_row, is_rw_row, RwKnown, awaits_by}
use Rattle.lk_domain.proofs.Names.{follows_by, joins_by, leaves_by, quits_by, seizes_by, watches_by}
use Rattle.lk_word.specs.RwWord.{packed_rw}
use Rattle.lk_rows.specs.rows.Rw.{one_more, one_less, written_word}
use Rattle.lk_domain.specs.{RwRows.{has_no_writer, lets_in}, RwUses.frees_by_use}
use Rattle.lk_domain.specs.declared.locks.rw_moves.RwUse.TheVariants.{Quits}

-- they are rows of readers and writers

pub watch_row : (v : Verb) (c : Pc) → watches_by v c ≡ true → is_rw_row c ≡ true
watch_row v c h = grind (arith, h)

pub join_row : (v : Verb) (c : Pc) → joins_by v c ≡ true → is_rw_row c ≡ true
join_row v c h = grind (arith, h)

pub quit_row : (v : Verb) (c : Pc) → quits_by v c ≡ true → is_rw_row c ≡ true
quit_row v c h = grind (arith, h)

pub seize_row : (v : Verb) (c : Pc) → seizes_by v c ≡ true → is_rw_row c ≡ true
seize_row v c h = grind (arith, h)

pub await_row : (v : Verb) (c : Pc) → awaits_by v c ≡ true → is_rw_row c ≡ true
await_row v c h = grind (arith, h)

pub follow_row : (v : Verb) (c : Pc) → follows_by v c ≡ true → is_rw_row c ≡ true
follow_row v c h = grind (arith, h)

pub leave_row : (v : Verb) (c : Pc) → leaves_by v c ≡ true → is_rw_row c ≡ true
leave_row v c h = grind (arith, h)

-- what a row writes
abbrev pub writes : Mode → Pc → Frame → RwFields → RwFields
writes mode c f y = unwrap_or (rw_row mode c f y).stores y

-- the number of a word by its parts
number : (r : ℕ) (w x : Bool) → ℕ
number r w x = (if x then 255 else 0) + (if w then 256 else 0) + 512 * r

number_is : (y : RwFields) → packed_rw y ≡ number y.readers y.waiting y.writer
unfolding packed_rw number
number_is y = refl

parts_small : (w x : Bool) → (if x then 255 else 0) + (if w then 256 else 0) < 512
parts_small true true = omega arith
parts_small true false = omega arith
parts_small false true = omega arith
parts_small false false = omega arith

-- a look
pub watches : (mode : Mode) (v : Verb) (c : Pc) (f : Frame) (y : RwFields) → watches_by v c ≡ true
    → packed_rw y ≡ packed_rw (writes mode c f y)
watches mode v c f y h = by v c h
  where
    by : (v : Verb) (c : Pc) → watches_by v c ≡ true → packed_rw y ≡ packed_rw (writes mode c f y)
    by Read R2 h = elim (cases_Bool y.writer) [ inl e ↦ rw e refl | inr e ↦ rw e refl ]
    by Read R5 h = elim (cases_Bool y.writer) [ inl e ↦ rw e refl | inr e ↦ rw e refl ]
    by Write Wr2 h = refl
    by Write Wr5 h = refl
    by TryRead Y1 h = elim (cases_Bool (is_open y)) [ inl e ↦ rw e refl | inr e ↦ rw e refl ]
    by TryWrite Y4 h = elim (cases_Bool (is_empty y)) [ inl e ↦ rw e refl | inr e ↦ rw e refl ]
    by _ _ h = cc h

-- a reader more
more : (y : RwFields) → IsPackableRw y → (packed_rw y + 512) % 2 ^ 64 ≡ packed_rw (one_more y)
unfolding packed_rw
more y fits = let s = parts_small y.waiting y.writer in omega (arith, s, fits)

pub joins : (mode : Mode) (v : Verb) (c : Pc) (f : Frame) (y : RwFields) → joins_by v c ≡ true → IsPackableRw y
    → (packed_rw y + 512) % 2 ^ 64 ≡ packed_rw (writes mode c f y)
joins mode v c f y h fits = more y fits ∙ ap packed_rw (by v c h)
  where
    by : (v : Verb) (c : Pc) → joins_by v c ≡ true → one_more y ≡ writes mode c f y
    by Read R1 h = elim (cases_Bool (is_open y)) [ inl e ↦ rw e refl | inr e ↦ rw e refl ]
    by Read R4 h = refl
    by TryRead Y2 h = elim (cases_Bool (is_open y)) [ inl e ↦ rw e refl | inr e ↦ rw e refl ]
    by _ _ h = cc h

-- a reader less
less : (y : RwFields) → IsPackableRw y → 0 < y.readers
    → (packed_rw y + (2 ^ 64 - 512)) % 2 ^ 64 ≡ packed_rw (one_less y)
unfolding packed_rw
less y fits some = let s = parts_small y.waiting y.writer in omega (arith, s, fits, some)

pub quits : (mode : Mode) (v : Verb) (c : Pc) (f : Frame) (y : RwFields) → quits_by v c ≡ true → IsPackableRw y
    → RwKnown c y
    → (packed_rw y + (2 ^ 64 - 512)) % 2 ^ 64 ≡ packed_rw (writes mode c f y)
quits mode v c f y h fits known = by v c h known
  where
    by : (v : Verb) (c : Pc) → quits_by v c ≡ true → RwKnown c y
        → (packed_rw y + (2 ^ 64 - 512)) % 2 ^ 64 ≡ packed_rw (writes mode c f y)
    by Read R3 h some = less y fits some
    by TryRead Y3 h some = less y fits some
    by RUnlock Z1 h some = less y fits some
    by _ _ h some = cc h

-- the number of the empty word, and of one in which a writer alone waits

empty_number : (r : ℕ) (w x : Bool) → eqb (number r w x) 0 ≡ ((eqb r 0) && not w && not x)
unfolding number
empty_number r true true = ne_eqb _ 0 (λ e. omega arith) ∙ sym (off (eqb r 0))
  where
    off : (b : Bool) → (b && not true && not true) ≡ false
    off true = refl
    off false = refl
empty_number r true false = ne_eqb _ 0 (λ e. omega arith) ∙ sym (off (eqb r 0))
  where
    off : (b : Bool) → (b && not true && not false) ≡ false
    off true = refl
    off false = refl
empty_number r false true = ne_eqb _ 0 (λ e. omega arith) ∙ sym (off (eqb r 0))
  where
    off : (b : Bool) → (b && not false && not true) ≡ false
    off true = refl
    off false = refl
empty_number r false false = elim (cases_eq r 0) [
  | inl e ↦ eq-eqb _ 0 (omega (arith, e)) ∙ sym (ap (λ b. b && not false && not false) (eq-eqb r 0 e))
  | inr ne ↦ ne_eqb _ 0 (λ e. ne (omega arith)) ∙ sym (ap (λ b. b && not false && not false) (ne_eqb r 0 ne))
]

cleared_number : (r : ℕ) (w x : Bool) → eqb (number r w x) 256 ≡ ((eqb r 0) && w && not x)
unfolding number
cleared_number r true true = ne_eqb _ 256 (λ e. omega arith) ∙ sym (off (eqb r 0))
  where
    off : (b : Bool) → (b && true && not true) ≡ false
    off true = refl
    off false = refl
cleared_number r true false = elim (cases_eq r 0) [
  | inl e ↦ eq-eqb _ 256 (omega (arith, e)) ∙ sym (ap (λ b. b && true && not false) (eq-eqb r 0 e))
  | inr ne ↦ ne_eqb _ 256 (λ e. ne (omega arith)) ∙ sym (ap (λ b. b && true && not false) (ne_eqb r 0 ne))
]
cleared_number r false true = ne_eqb _ 256 (λ e. omega arith) ∙ sym (off (eqb r 0))
  where
    off : (b : Bool) → (b && false && not true) ≡ false
    off true = refl
    off false = refl
cleared_number r false false = ne_eqb _ 256 (λ e. omega arith) ∙ sym (off (eqb r 0))
  where
    off : (b : Bool) → (b && false && not false) ≡ false
    off true = refl
    off false = refl

pub empty_test : (y : RwFields) → eqb (packed_rw y) 0 ≡ is_empty y
empty_test y = ap (λ (n : ℕ). eqb n 0) (number_is y) ∙ empty_number y.readers y.waiting y.writer

pub cleared_test : (y : RwFields) → eqb (packed_rw y) 256 ≡ is_cleared y
cleared_test y = ap (λ (n : ℕ). eqb n 256) (number_is y) ∙ cleared_number y.readers y.waiting y.writer

-- what the number tells

writer_part : (r : ℕ) (w x : Bool) → eqb (number r w x % 256) 0 ≡ not x
unfolding number
writer_part r true true = ne_eqb _ 0 (λ e. omega arith)
writer_part r true false = eq-eqb _ 0 (omega arith)
writer_part r false true = ne_eqb _ 0 (λ e. omega arith)
writer_part r false false = eq-eqb _ 0 (omega arith)

open_part : (r : ℕ) (w x : Bool) → eqb (number r w x % 512) 0 ≡ (not w && not x)
unfolding number
open_part r true true = ne_eqb _ 0 (λ e. omega arith)
open_part r true false = ne_eqb _ 0 (λ e. omega arith)
open_part r false true = ne_eqb _ 0 (λ e. omega arith)
open_part r false false = eq-eqb _ 0 (omega arith)

pub writer_test : (y : RwFields) → has_no_writer (packed_rw y) ≡ not y.writer
writer_test y = ap (λ (n : ℕ). eqb (n % 256) 0) (number_is y) ∙ writer_part y.readers y.waiting y.writer

pub open_test : (y : RwFields) → lets_in (packed_rw y) ≡ is_open y
open_test y = ap (λ (n : ℕ). eqb (n % 512) 0) (number_is y) ∙ open_part y.readers y.waiting y.writer

pub written_number : packed_rw written_word ≡ 255
unfolding packed_rw
written_number = refl

-- an exchange for the word of a writer, by what it expects
exchanged : (n : ℕ) (b : Bool) (y z : RwFields) → eqb (packed_rw y) n ≡ b
    → z ≡ (if b then written_word else y)
    → either (eqb (packed_rw y) n) 255 (packed_rw y) ≡ packed_rw z
exchanged n b y z e is = ap (λ c. either c 255 (packed_rw y)) e ∙ (by b ∙ ap packed_rw (sym is))
  where
    by : (b : Bool) → either b 255 (packed_rw y) ≡ packed_rw (if b then written_word else y)
    by true = sym written_number
    by false = refl

pub seizes : (mode : Mode) (v : Verb) (c : Pc) (f : Frame) (y : RwFields) → seizes_by v c ≡ true
    → either (eqb (packed_rw y) 0) 255 (packed_rw y) ≡ packed_rw (writes mode c f y)
seizes mode v c f y h = exchanged 0 (is_empty y) y (writes mode c f y) (empty_test y) (by v c h)
  where
    by : (v : Verb) (c : Pc) → seizes_by v c ≡ true → writes mode c f y ≡ (if is_empty y then written_word else y)
    by Write Wr1 h = elim (cases_Bool (is_empty y)) [ inl e ↦ rw e refl | inr e ↦ rw e refl ]
    by Write Wr3 h = elim (cases_Bool (is_empty y)) [ inl e ↦ rw e refl | inr e ↦ rw e refl ]
    by TryWrite Y5 h = elim (cases_Bool (is_empty y)) [ inl e ↦ rw e refl | inr e ↦ rw e refl ]
    by _ _ h = cc h

pub follows : (mode : Mode) (v : Verb) (c : Pc) (f : Frame) (y : RwFields) → follows_by v c ≡ true
    → either (eqb (packed_rw y) 256) 255 (packed_rw y) ≡ packed_rw (writes mode c f y)
follows mode v c f y h = exchanged 256 (is_cleared y) y (writes mode c f y) (cleared_test y) (by v c h)
  where
    by : (v : Verb) (c : Pc) → follows_by v c ≡ true → writes mode c f y ≡ (if is_cleared y then written_word else y)
    by Write Wr6 h = elim (cases_Bool (is_cleared y)) [ inl e ↦ rw e refl | inr e ↦ rw e refl ]
    by _ _ h = cc h

-- bit 8 is that of waiting
or_waiting : (r : ℕ) (w x : Bool) → bit_or (number r w x) 256 ≡ number r true x
unfolding number
or_waiting r w x =
    let p : ℕ = if w then 1 else 0 in
    let b : ℕ = if x then 255 else 0 in
    let e : (if x then 255 else 0) + (if w then 256 else 0) + 512 * r ≡ ((2 * r + p) * 2 ^ 8 + b) =
    omega (arith, bits w) in
    let inner : bit_or (r * 2 ^ 1 + p) (0 * 2 ^ 1 + 1) ≡ bit_or r 0 * 2 ^ 1 + bit_or p 1 =
    or_block 1 r 0 p 1 (low w) (omega arith) in
    let inner' : bit_or (2 * r + p) 1 ≡ 2 * r + 1 =
    ap (λ (n : ℕ). bit_or n 1) (let z : 2 * r + p ≡ r * 2 ^ 1 + p = omega arith in z) ∙ omega (arith, inner, or_zero_r r, or_one w) in
    let outer : bit_or ((2 * r + p) * 2 ^ 8 + b) (1 * 2 ^ 8 + 0) ≡ bit_or (2 * r + p) 1 * 2 ^ 8 + bit_or b 0 =
    or_block 8 (2 * r + p) 1 b 0 (byte x) (omega arith) in
    ap (λ (n : ℕ). bit_or n 256) e ∙ (outer ∙ omega (arith, inner', or_zero_r b))
  where
    bits : (b : Bool) → (if b then 256 else 0) ≡ 256 * (if b then 1 else 0)
    bits true = refl
    bits false = refl

    low : (b : Bool) → (if b then 1 else 0) < 2 ^ 1
    low true = omega arith
    low false = omega arith

    byte : (b : Bool) → (if b then 255 else 0) < 2 ^ 8
    byte true = omega arith
    byte false = omega arith

    or_one : (b : Bool) → bit_or (if b then 1 else 0) 1 ≡ 1
    or_one true = refl
    or_one false = refl

pub awaits : (mode : Mode) (v : Verb) (c : Pc) (f : Frame) (y : RwFields) → awaits_by v c ≡ true
    → bit_or (packed_rw y) 256 ≡ packed_rw (writes mode c f y)
awaits mode v c f y h = by v c h
  where
    set_waiting : bit_or (packed_rw y) 256 ≡ packed_rw (record y { waiting = true })
    set_waiting =
        ap (λ (n : ℕ). bit_or n 256) (number_is y)
        ∙ (or_waiting y.readers y.waiting y.writer ∙ sym (number_is (record y { waiting = true })))

    by : (v : Verb) (c : Pc) → awaits_by v c ≡ true → bit_or (packed_rw y) 256 ≡ packed_rw (writes mode c f y)
    by Write Wr4 h = set_waiting
    by _ _ h = cc h

-- the writer less
unwritten : (y : RwFields) → IsPackableRw y → y.writer ≡ true
    → (packed_rw y + (2 ^ 64 - 255)) % 2 ^ 64 ≡ packed_rw (record y { writer = false })
unfolding packed_rw
unwritten y fits on =
    let e : ◌≡◌ {A = ℕ} (if y.writer then 255 else 0) 255 = ap (λ b. if b then 255 else 0) on in
    let s = parts_small y.waiting y.writer in omega (arith, s, fits, e)

pub leaves : (mode : Mode) (v : Verb) (c : Pc) (f : Frame) (y : RwFields) → leaves_by v c ≡ true → IsPackableRw y
    → RwKnown c y
    → (packed_rw y + (2 ^ 64 - 255)) % 2 ^ 64 ≡ packed_rw (writes mode c f y)
leaves mode v c f y h fits known = by v c h known
  where
    by : (v : Verb) (c : Pc) → leaves_by v c ≡ true → RwKnown c y
        → (packed_rw y + (2 ^ 64 - 255)) % 2 ^ 64 ≡ packed_rw (writes mode c f y)
    by WUnlock Z2 h on = unwritten y fits on
    by _ _ h on = cc h

-- but for the releases none is one

pub watch_last : (v : Verb) (c : Pc) → watches_by v c ≡ true → (c ≡ Z1) ⊎ (c ≡ Z2) → ⊥
watch_last v c h e = elim e [ inl a ↦ grind (arith, h, a) | inr b ↦ grind (arith, h, b) ]

pub join_last : (v : Verb) (c : Pc) → joins_by v c ≡ true → (c ≡ Z1) ⊎ (c ≡ Z2) → ⊥
join_last v c h e = elim e [ inl a ↦ grind (arith, h, a) | inr b ↦ grind (arith, h, b) ]

pub seize_last : (v : Verb) (c : Pc) → seizes_by v c ≡ true → (c ≡ Z1) ⊎ (c ≡ Z2) → ⊥
seize_last v c h e = elim e [ inl a ↦ grind (arith, h, a) | inr b ↦ grind (arith, h, b) ]

pub await_last : (v : Verb) (c : Pc) → awaits_by v c ≡ true → (c ≡ Z1) ⊎ (c ≡ Z2) → ⊥
await_last v c h e = elim e [ inl a ↦ grind (arith, h, a) | inr b ↦ grind (arith, h, b) ]

pub follow_last : (v : Verb) (c : Pc) → follows_by v c ≡ true → (c ≡ Z1) ⊎ (c ≡ Z2) → ⊥
follow_last v c h e = elim e [ inl a ↦ grind (arith, h, a) | inr b ↦ grind (arith, h, b) ]

-- and that of a reader is not that of a writer

pub quit_frees : (v : Verb) (c : Pc) → quits_by v c ≡ true → c ≡ Z1 → frees_by_use Quits v ≡ true
quit_frees v c h e = grind (arith, h, e)

pub quit_reads : (v : Verb) (c : Pc) → quits_by v c ≡ true → c ≡ Z2 → ⊥
quit_reads v c h e = grind (arith, h, e)

pub leave_writes : (v : Verb) (c : Pc) → leaves_by v c ≡ true → c ≡ Z1 → ⊥
leave_writes v c h e = grind (arith, h, e)
