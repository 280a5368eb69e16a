-- What the steps of the pending path, and of a front, do to the number of a lock's word.
use Rattle.std.proofs.Common.{◌≡◌, inl, inr, ℕ, ◌+◌, ◌-◌, ◌*◌, ◌%◌, ◌^◌, ◌<◌, ◌≤◌, Option, Some}
use Rattle.std.proofs.Common.{None, Bool, true, false, eqb, eq-eqb, ne_eqb, refl, sym, ap, ◌∙◌}
use Rattle.std.proofs.Common.{subst, arith, if◌then◌else◌, ◌&&◌, not}
use Rattle.std.specs.Prelude.{unwrap_or}
use Rattle.lk_domain.proofs.Names.{cases_Bool, or_block, bit_or, or_zero_r, either, packed_small}
use Rattle.lk_domain.proofs.Names.{IsPackable, locked_number, tail_number, Fields, Layout, Narrow}
use Rattle.lk_domain.proofs.Names.{Wide, Locked, Free, Held, Slow, NodeName, Mode, Cna, Native, Pv}
use Rattle.lk_domain.proofs.Names.{Virt, Waiter, is_node, node_of, target, Frame, Pc, C10, G4, G8}
use Rattle.lk_domain.proofs.Names.{G9, P1, P2, P4, Lock, is_held, is_sole, is_unlocked}
use Rattle.lk_domain.proofs.Names.{same_node-self, course_in, World, Frees, grip_led, grip_of}
use Rattle.lk_domain.proofs.Names.{arrives_by, claims_by, clears_by, pends_by, promotes_by}
use Rattle.lk_domain.proofs.Names.{soles_by, stakes_by}
use Rattle.lk_word.proofs.SpinWordLemmas.{packed_injective, from_narrow}
use Rattle.lk_word.specs.SpinWord.{packed, index_unit}
use Rattle.lk_rows.specs.{rows.Cna.is_last, rows.Queue.after_arrival}
use Rattle.lk_law.proofs.common.Users.{is_node-true}
use Rattle.lk_domain.proofs.words.Numbers.{held_packed}
use Rattle.lk_domain.proofs.words.OnWords.{OnWord, word_stores, KnownHere}

-- the rows are on the word of a lock

pub pend_on : (c : Pc) (f : Frame) → pends_by Lock c ≡ true → OnWord (target c f)
pend_on P1 f h = tt
pend_on _ f h = cc h

pub clear_on : (c : Pc) (f : Frame) → clears_by Lock c ≡ true → OnWord (target c f)
clear_on P2 f h = tt
clear_on _ f h = cc h

pub claim_on : (c : Pc) (f : Frame) → claims_by Lock c ≡ true → OnWord (target c f)
claim_on P4 f h = tt
claim_on _ f h = cc h

pub arrive_on : (c : Pc) (f : Frame) → arrives_by Lock c ≡ true → OnWord (target c f)
arrive_on G4 f h = tt
arrive_on _ f h = cc h

pub sole_on : (c : Pc) (f : Frame) → soles_by Lock c ≡ true → OnWord (target c f)
sole_on G8 f h = tt
sole_on _ f h = cc h

pub stake_on : (c : Pc) (f : Frame) → stakes_by Lock c ≡ true → OnWord (target c f)
stake_on G9 f h = tt
stake_on _ f h = cc h

-- and free nothing

pub pend_frees : (w : World) (u : Waiter) (f : Frame) (c : Pc) → pends_by Lock c ≡ true
    → grip_of (target c f) (course_in w u f c (target c f)) ≡ Frees → ⊥
pend_frees w u f P1 h e = cc e
pend_frees w u f _ h e = cc h

pub clear_frees : (w : World) (u : Waiter) (f : Frame) (c : Pc) → clears_by Lock c ≡ true
    → grip_of (target c f) (course_in w u f c (target c f)) ≡ Frees → ⊥
clear_frees w u f P2 h e = cc e
clear_frees w u f _ h e = cc h

pub claim_frees : (w : World) (u : Waiter) (f : Frame) (c : Pc) → claims_by Lock c ≡ true
    → grip_of (target c f) (course_in w u f c (target c f)) ≡ Frees → ⊥
claim_frees w u f P4 h e = cc e
claim_frees w u f _ h e = cc h

pub stake_frees : (w : World) (u : Waiter) (f : Frame) (c : Pc) → stakes_by Lock c ≡ true
    → grip_of (target c f) (course_in w u f c (target c f)) ≡ Frees → ⊥
stake_frees w u f G9 h e = cc e
stake_frees w u f _ h e = cc h

pub sole_frees : (w : World) (u : Waiter) (f : Frame) (c : Pc) → soles_by Lock c ≡ true
    → grip_of (target c f) (course_in w u f c (target c f)) ≡ Frees → ⊥
sole_frees w u f G8 h e = elim (cases_Bool (is_sole f (w.word f.lock))) [ inl d ↦ cc (rw d at e) | inr d ↦ cc (rw d at e) ]
sole_frees w u f _ h e = cc h

arrival_frees : (mode : Mode) (t : Option NodeName) → grip_led (after_arrival mode t).leads ≡ Frees → ⊥
arrival_frees Virt None e = cc e
arrival_frees Native None e = cc e
arrival_frees Cna None e = cc e
arrival_frees Pv None e = cc e
arrival_frees Virt (Some n) e = cc e
arrival_frees Native (Some n) e = cc e
arrival_frees Cna (Some n) e = cc e
arrival_frees Pv (Some n) e = cc e

pub arrive_frees : (w : World) (u : Waiter) (f : Frame) (c : Pc) → arrives_by Lock c ≡ true
    → grip_of (target c f) (course_in w u f c (target c f)) ≡ Frees → ⊥
arrive_frees w u f G4 h e = arrival_frees w.mode (w.word f.lock).tail e
arrive_frees w u f _ h e = cc h

-- what the operations write is what the rows store

less_256 : (n r : ℕ) → n ≡ 256 + r → n < 2 ^ 32 → (n + (2 ^ 64 - 256)) % 2 ^ 64 ≡ r
less_256 n r e h = omega arith

less_255 : (n r : ℕ) → n ≡ 255 + r → n < 2 ^ 32 → (n + (2 ^ 64 - 255)) % 2 ^ 64 ≡ r
less_255 n r e h = omega arith

-- what a tail adds is blocks of 512
tail_blocks : (layout : Layout) (n : NodeName) → (b : ℕ) × (tail_number layout (Some n) ≡ b * 2 ^ 1 * 2 ^ 8)
tail_blocks Narrow n = (128 * (n.index + 4 * (n.cpu + 1)), omega arith)
tail_blocks Wide n = (n.index + 4 * (n.cpu + 1), omega arith)

-- and it stands above what the low bits say
low_part : (layout : Layout) (low : ℕ) (t : Option NodeName) → low < 512 → (low + tail_number layout t) % index_unit layout ≡ low
low_part Narrow low None small = omega (arith, small)
low_part Wide low None small = omega (arith, small)
low_part Narrow low (Some n) small = omega (arith, small)
low_part Wide low (Some n) small = omega (arith, small)

more_one : (n r : ℕ) → n + 1 ≡ r → n < 2 ^ 32 → (n + 1) % 2 ^ 64 ≡ r
more_one n r e h = omega arith

module _ (layout : Layout) where
  -- who has set pending clears it by taking 256 off
  pub clears : (mode : Mode) (c : Pc) (f : Frame) (y : Fields) → clears_by Lock c ≡ true → IsPackable layout y
      → KnownHere c f y
      → (packed layout y + (2 ^ 64 - 256)) % 2 ^ 64 ≡ packed layout (unwrap_or (word_stores mode c f (target c f) y) y)
  unfolding packed
  clears mode P2 f y h fits pending =
      let e : ◌≡◌ {A = ℕ} (if y.pending then 256 else 0) 256 = ap (λ b. if b then 256 else 0) (pending.awake refl) in
      less_256 _ _ (omega (arith, e)) (packed_small layout y fits)
  clears mode _ f y h fits known = cc h

  -- who has set pending takes the free lock by taking 255 off
  pub claims : (mode : Mode) (c : Pc) (f : Frame) (y : Fields) → claims_by Lock c ≡ true → IsPackable layout y
      → KnownHere c f y
      → (packed layout y + (2 ^ 64 - 255)) % 2 ^ 64 ≡ packed layout (unwrap_or (word_stores mode c f (target c f) y) y)
  unfolding packed
  claims mode P4 f y h fits known =
      let e : ◌≡◌ {A = ℕ} (if y.pending then 256 else 0) 256 = ap (λ b. if b then 256 else 0) (known.awake refl).1 in
      let d : locked_number y.locked ≡ 0 = ap locked_number (known.awake refl).0 in
      less_255 _ _ (omega (arith, e, d)) (packed_small layout y fits)
  claims mode _ f y h fits known = cc h

  -- the front takes the free lock by adding 1
  pub stakes : (mode : Mode) (c : Pc) (f : Frame) (y : Fields) → stakes_by Lock c ≡ true → IsPackable layout y
      → KnownHere c f y
      → (packed layout y + 1) % 2 ^ 64 ≡ packed layout (unwrap_or (word_stores mode c f (target c f) y) y)
  unfolding packed
  stakes mode G9 f y h fits known =
      let d : locked_number y.locked ≡ 0 = ap locked_number (known.awake refl).0 in
      more_one _ _ (omega (arith, d)) (packed_small layout y fits)
  stakes mode _ f y h fits known = cc h

  -- a tail is a number of blocks of 512
  high : (t : Option NodeName) → (n : ℕ) × (tail_number layout t ≡ n * 2 ^ 1 * 2 ^ 8)
  high None = (0, refl)
  high (Some n) = tail_blocks layout n

  or_number : (a : Locked) (b : Bool) (t : Option NodeName)
      → bit_or (locked_number a + (if b then 256 else 0) + tail_number layout t) 256
      ≡ locked_number a + 256 + tail_number layout t
  or_number a b t =
      let h = high t in
      let n = h.0 in
      let p : ℕ = if b then 1 else 0 in
      let small : locked_number a < 2 ^ 8 = below a in
      let e : locked_number a + (if b then 256 else 0) + tail_number layout t ≡ (n * 2 ^ 1 + p) * 2 ^ 8 + locked_number a =
      omega (arith, h.1, bits b) in
      let inner : bit_or (n * 2 ^ 1 + p) (0 * 2 ^ 1 + 1) ≡ bit_or n 0 * 2 ^ 1 + bit_or p 1 =
      or_block 1 n 0 p 1 (low b) (omega arith) in
      let inner' : bit_or (n * 2 ^ 1 + p) 1 ≡ n * 2 ^ 1 + 1 = omega (arith, inner, or_zero_r n, or_one b) in
      let outer : bit_or ((n * 2 ^ 1 + p) * 2 ^ 8 + locked_number a) (1 * 2 ^ 8 + 0)
      ≡ bit_or (n * 2 ^ 1 + p) 1 * 2 ^ 8 + bit_or (locked_number a) 0 =
      or_block 8 (n * 2 ^ 1 + p) 1 (locked_number a) 0 small (omega arith) in
      ap (λ (x : ℕ). bit_or x 256) e ∙ (outer ∙ omega (arith, inner', or_zero_r (locked_number a), h.1))
    where
      below : (a : Locked) → locked_number a < 2 ^ 8
      below Free = omega arith
      below Held = omega arith
      below Slow = omega arith

      bits : (b : Bool) → (if b then 256 else 0) ≡ 256 * (if b then 1 else 0)
      bits true = refl
      bits false = refl

      low : (b : Bool) → (if b then 1 else 0) < 2 ^ 1
      low true = omega arith
      low false = omega arith

      or_one : (b : Bool) → bit_or (if b then 1 else 0) 1 ≡ 1
      or_one true = refl
      or_one false = refl

  -- setting bit 8 sets pending
  pub pends : (mode : Mode) (c : Pc) (f : Frame) (y : Fields) → pends_by Lock c ≡ true
      → bit_or (packed layout y) 256 ≡ packed layout (unwrap_or (word_stores mode c f (target c f) y) y)
  unfolding packed
  pends mode P1 f y h = or_number y.locked y.pending y.tail
  pends mode _ f y h = cc h

-- the word of a free lock with one node alone in its queue, and no other's
abbrev pub own_word : NodeName → Fields
own_word n = record { locked = Free; pending = false; tail = Some n }

module _ (layout : Layout) where
  own_packed : (n : NodeName) → packed layout (own_word n) ≡ tail_number layout (Some n)
  unfolding packed
  own_packed n = omega arith

sole_word : (a : Locked) (b : Bool) (t : Option NodeName) (n : NodeName)
    → (is_unlocked a && not b && is_node t n) ≡ true → record { locked = a; pending = b; tail = t } ≡ own_word n
sole_word Free false t n h =
    ap (λ (z : Option NodeName). record { locked = Free; pending = false; tail = z }) (is_node-true t n h)
sole_word Free true t n h = cc h
sole_word Held b t n h = cc h
sole_word Slow b t n h = cc h

module _ (layout : Layout) where
  -- a front is alone exactly where it meets that number
  pub sole_test : (f : Frame) (y : Fields) (n : NodeName) → IsPackable layout y → (n.cpu ≤ 16382) × (n.index ≤ 3)
      → node_of f.me ≡ n → eqb (packed layout y) (tail_number layout (Some n)) ≡ is_sole f y
  sole_test f y n fits near own =
      elim (cases_Bool (is_sole f y)) [
        | inl e ↦
            let is : y ≡ own_word n = sole_word y.locked y.pending y.tail n
            (subst (λ (z : NodeName). (is_unlocked y.locked && not y.pending && is_node y.tail z) ≡ true) own e) in
            eq-eqb (packed layout y) (tail_number layout (Some n)) (ap (packed layout) is ∙ own_packed layout n) ∙ sym e
        | inr e ↦ ne_eqb (packed layout y) (tail_number layout (Some n)) (λ h.
            let is : y ≡ own_word n = packed_injective layout y (own_word n) fits (from_narrow layout (Some n) near) (h ∙ sym (own_packed layout n)) in
            let alone : is_sole f y ≡ true =
            ap (λ (z : NodeName). is_unlocked y.locked && not y.pending && is_node y.tail z) own
            ∙ (ap (λ (z : Fields). is_unlocked z.locked && not z.pending && is_node z.tail n) is ∙ same_node-self n) in
            grind (arith, alone, e)) ∙ sym e
      ]

  -- by the number that was met
  pub sole_met : (f : Frame) (y : Fields) (n : NodeName) (met tail : ℕ) → IsPackable layout y
      → (n.cpu ≤ 16382) × (n.index ≤ 3) → node_of f.me ≡ n → met ≡ packed layout y → tail ≡ tail_number layout (Some n)
      → eqb met tail ≡ is_sole f y
  sole_met f y n met tail fits near own is named = (λ i. eqb (is i) (named i)) ∙ sole_test f y n fits near own

  -- an exchange of it for 1 takes the lock and empties the queue
  pub sole_takes : (mode : Mode) (c : Pc) (f : Frame) (y : Fields) (n : NodeName) → soles_by Lock c ≡ true
      → IsPackable layout y → (n.cpu ≤ 16382) × (n.index ≤ 3) → node_of f.me ≡ n
      → either (eqb (packed layout y) (tail_number layout (Some n))) 1 (packed layout y)
      ≡ packed layout (unwrap_or (word_stores mode c f (target c f) y) y)
  sole_takes mode G8 f y n h fits near own =
      let e = sole_test f y n fits near own in
      elim (cases_Bool (is_sole f y)) [
        | inl d ↦ ap (λ b. either b 1 (packed layout y)) (e ∙ d) ∙ (sym (held_packed layout) ∙ rw (d, word_stores) refl)
        | inr d ↦ ap (λ b. either b 1 (packed layout y)) (e ∙ d) ∙ rw (d, word_stores) refl
      ]
  sole_takes mode _ f y n h fits near own = cc h

-- the word of a held lock with one node as its tail
abbrev pub last_word : NodeName → Fields
last_word n = record { locked = Held; pending = false; tail = Some n }

module _ (layout : Layout) where
  last_packed : (n : NodeName) → packed layout (last_word n) ≡ tail_number layout (Some n) + 1
  unfolding packed
  last_packed n = omega arith

pub last_is : (a : Locked) (b : Bool) (t : Option NodeName) (n : NodeName)
    → (is_held a && not b && is_node t n) ≡ true → record { locked = a; pending = b; tail = t } ≡ last_word n
last_is Held false t n h =
    ap (λ (z : Option NodeName). record { locked = Held; pending = false; tail = z }) (is_node-true t n h)
last_is Held true t n h = cc h
last_is Free b t n h = cc h
last_is Slow b t n h = cc h

module _ (layout : Layout) where
  -- a front is the last of the main queue exactly where it meets that number
  pub last_test : (f : Frame) (y : Fields) (n : NodeName) → IsPackable layout y → (n.cpu ≤ 16382) × (n.index ≤ 3)
      → node_of f.me ≡ n → eqb (packed layout y) (tail_number layout (Some n) + 1) ≡ is_last f y
  last_test f y n fits near own =
      elim (cases_Bool (is_last f y)) [
        | inl e ↦
            let is : y ≡ last_word n = last_is y.locked y.pending y.tail n
            (subst (λ (z : NodeName). (is_held y.locked && not y.pending && is_node y.tail z) ≡ true) own e) in
            eq-eqb (packed layout y) (tail_number layout (Some n) + 1) (ap (packed layout) is ∙ last_packed layout n) ∙ sym e
        | inr e ↦ ne_eqb (packed layout y) (tail_number layout (Some n) + 1) (λ h.
            let is : y ≡ last_word n = packed_injective layout y (last_word n) fits (from_narrow layout (Some n) near) (h ∙ sym (last_packed layout n)) in
            let alone : is_last f y ≡ true =
            ap (λ (z : NodeName). is_held y.locked && not y.pending && is_node y.tail z) own
            ∙ (ap (λ (z : Fields). is_held z.locked && not z.pending && is_node z.tail n) is ∙ same_node-self n) in
            grind (arith, alone, e)) ∙ sym e
      ]

  -- an exchange of it makes the second queue all of the rest
  pub promotes : (mode : Mode) (c : Pc) (f : Frame) (y : Fields) (n t : NodeName) → promotes_by Lock c ≡ true
      → IsPackable layout y → (n.cpu ≤ 16382) × (n.index ≤ 3) → node_of f.me ≡ n → f.t ≡ Some t
      → either (eqb (packed layout y) (tail_number layout (Some n) + 1)) (tail_number layout (Some t) + 1) (packed layout y)
      ≡ packed layout (unwrap_or (word_stores mode c f (target c f) y) y)
  promotes mode C10 f y n t h fits near own to =
      let e = last_test f y n fits near own in
      elim (cases_Bool (is_last f y)) [
        | inl d ↦
            let is : y ≡ last_word n = last_is y.locked y.pending y.tail n
            (subst (λ (z : NodeName). (is_held y.locked && not y.pending && is_node y.tail z) ≡ true) own d) in
            let new : record y { tail = f.t } ≡ last_word t =
            (λ i. record (is i) { tail = to i }) in
            ap (λ b. either b (tail_number layout (Some t) + 1) (packed layout y)) (e ∙ d)
            ∙ (sym (last_packed layout t) ∙ (ap (packed layout) (sym new) ∙ rw (d, word_stores) refl))
        | inr d ↦ ap (λ b. either b (tail_number layout (Some t) + 1) (packed layout y)) (e ∙ d) ∙ rw (d, word_stores) refl
      ]
  promotes mode _ f y n t h fits near own to = cc h

pub promote_on : (c : Pc) (f : Frame) → promotes_by Lock c ≡ true → OnWord (target c f)
promote_on C10 f h = tt
promote_on _ f h = cc h

pub promote_frees : (w : World) (u : Waiter) (f : Frame) (c : Pc) → promotes_by Lock c ≡ true
    → grip_of (target c f) (course_in w u f c (target c f)) ≡ Frees → ⊥
promote_frees w u f C10 h e = elim (cases_Bool (is_last f (w.word f.lock))) [ inl d ↦ cc (rw d at e) | inr d ↦ cc (rw d at e) ]
promote_frees w u f _ h e = cc h

module _ (layout : Layout) where
  low_half : (a : Locked) (b : Bool) (t : Option NodeName)
      → (locked_number a + (if b then 256 else 0) + tail_number layout t) % index_unit layout ≡ locked_number a + (if b then 256 else 0)
  low_half a b t = low_part layout _ t (small a b)
    where
      small : (a : Locked) (b : Bool) → locked_number a + (if b then 256 else 0) < 512
      small Free true = omega arith
      small Free false = omega arith
      small Held true = omega arith
      small Held false = omega arith
      small Slow true = omega arith
      small Slow false = omega arith

  -- the word with the own node as the tail
  pub arrives : (mode : Mode) (c : Pc) (f : Frame) (y : Fields) (n : NodeName) → arrives_by Lock c ≡ true
      → f.me ≡ Some n
      → packed layout y % index_unit layout + tail_number layout (Some n) ≡ packed layout (unwrap_or (word_stores mode c f (target c f) y) y)
  unfolding packed
  arrives mode G4 f y n h own =
      let e = low_half y.locked y.pending y.tail in
      let d : tail_number layout f.me ≡ tail_number layout (Some n) = ap (tail_number layout) own in omega (arith, e, d)
  arrives mode _ f y n h own = cc h
