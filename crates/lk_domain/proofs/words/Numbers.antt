-- What the steps on a lock's word do to its number.
use Rattle.std.proofs.Common.{◌≡◌, inl, inr, ℕ, ◌+◌, ◌-◌, ◌%◌, ◌^◌, ◌<◌, Option, Some, None, Bool}
use Rattle.std.proofs.Common.{true, false, eqb, ne_eqb, refl, sym, ap, ◌∙◌, arith, if◌then◌else◌}
use Rattle.std.proofs.Common.{◌&&◌, not, is_some}
use Rattle.std.specs.Prelude.{unwrap_or}
use Rattle.lk_domain.proofs.Names.{cases_Bool, either, packed_small, IsPackable, locked_number}
use Rattle.lk_domain.proofs.Names.{tail_number, Fields, Layout, Narrow, Wide, Locked, Free, Held}
use Rattle.lk_domain.proofs.Names.{Slow, NodeName, Mode, Waiter, target, Frame, Pc, F1, G2, G3, G7}
use Rattle.lk_domain.proofs.Names.{N1, N2, P0, P3, T1, T2, U1, V1, V2, is_free, is_unlocked}
use Rattle.lk_domain.proofs.Names.{course_in, World, Frees, grip_of}
use Rattle.lk_word.specs.SpinWord.{packed}
use Rattle.lk_rows.specs.rows.Spin.{held_word}
use Rattle.lk_domain.proofs.words.OnWords.{OnWord, word_stores, KnownHere}
use Rattle.lk_domain.specs.Rows as kind

-- which rows a kind of step makes

pub look_on : (c : Pc) (f : Frame) → kind.is_look c ≡ true → OnWord (target c f)
look_on T1 f h = tt
look_on V1 f h = tt
look_on P0 f h = tt
look_on P3 f h = tt
look_on G2 f h = tt
look_on G7 f h = tt
look_on N1 f h = tt
look_on _ f h = cc h

pub take_on : (c : Pc) (f : Frame) → kind.is_take c ≡ true → OnWord (target c f)
take_on F1 f h = tt
take_on T2 f h = tt
take_on V2 f h = tt
take_on G3 f h = tt
take_on N2 f h = tt
take_on _ f h = cc h

pub free_on : (c : Pc) (f : Frame) → kind.is_free c ≡ true → OnWord (target c f)
free_on U1 f h = tt
free_on _ f h = cc h

look_stores : (mode : Mode) (c : Pc) (f : Frame) (y : Fields) → kind.is_look c ≡ true
    → word_stores mode c f (target c f) y ≡ None
look_stores mode T1 f y h = elim (cases_Bool (is_free y)) [ inl e ↦ rw (e, word_stores) refl | inr e ↦ rw (e, word_stores) refl ]
look_stores mode V1 f y h = refl
look_stores mode P0 f y h = refl
look_stores mode P3 f y h = refl
look_stores mode G2 f y h = refl
look_stores mode G7 f y h = refl
look_stores mode N1 f y h = refl
look_stores mode _ f y h = cc h

module _ (layout : Layout) where
  pub looks : (mode : Mode) (c : Pc) (f : Frame) (y : Fields) → kind.is_look c ≡ true
      → packed layout y ≡ packed layout (unwrap_or (word_stores mode c f (target c f) y) y)
  looks mode c f y h = ap (λ (o : Option Fields). packed layout (unwrap_or o y)) (sym (look_stores mode c f y h))

take_stores : (mode : Mode) (c : Pc) (f : Frame) (y : Fields) → kind.is_take c ≡ true
    → word_stores mode c f (target c f) y ≡ (if is_free y then Some held_word else None)
take_stores mode F1 f y h = elim (cases_Bool (is_free y)) [ inl e ↦ rw (e, word_stores) refl | inr e ↦ rw (e, word_stores) refl ]
take_stores mode T2 f y h = elim (cases_Bool (is_free y)) [ inl e ↦ rw (e, word_stores) refl | inr e ↦ rw (e, word_stores) refl ]
take_stores mode V2 f y h = elim (cases_Bool (is_free y)) [ inl e ↦ rw (e, word_stores) refl | inr e ↦ rw (e, word_stores) refl ]
take_stores mode G3 f y h = elim (cases_Bool (is_free y)) [ inl e ↦ rw (e, word_stores) refl | inr e ↦ rw (e, word_stores) refl ]
take_stores mode N2 f y h = elim (cases_Bool (is_free y)) [ inl e ↦ rw (e, word_stores) refl | inr e ↦ rw (e, word_stores) refl ]
take_stores mode _ f y h = cc h

-- a tail is a number above 0
tail_some : (layout : Layout) (n : NodeName) → 0 < tail_number layout (Some n)
tail_some Narrow n = omega arith
tail_some Wide n = omega arith

module _ (layout : Layout) where
  zero_test : (a : Locked) (b : Bool) (t : Option NodeName)
      → eqb (locked_number a + (if b then 256 else 0) + tail_number layout t) 0
      ≡ (is_unlocked a && not b && not (is_some t))
  zero_test Free false None = refl
  zero_test Free true None = refl
  zero_test Held false None = refl
  zero_test Held true None = refl
  zero_test Slow false None = refl
  zero_test Slow true None = refl
  zero_test Free false (Some n) = ne_eqb _ 0 (λ e. omega (arith, tail_some layout n))
  zero_test Free true (Some n) = ne_eqb _ 0 (λ e. omega (arith, tail_some layout n))
  zero_test Held false (Some n) = ne_eqb _ 0 (λ e. omega (arith, tail_some layout n))
  zero_test Held true (Some n) = ne_eqb _ 0 (λ e. omega (arith, tail_some layout n))
  zero_test Slow false (Some n) = ne_eqb _ 0 (λ e. omega (arith, tail_some layout n))
  zero_test Slow true (Some n) = ne_eqb _ 0 (λ e. omega (arith, tail_some layout n))

  -- a word is 0 exactly where it is free
  pub free_test : (y : Fields) → eqb (packed layout y) 0 ≡ is_free y
  unfolding packed
  free_test y = zero_test y.locked y.pending y.tail

  pub held_packed : packed layout held_word ≡ 1
  unfolding packed
  held_packed = refl

  -- an exchange of 0 for 1 takes a free word
  pub takes : (mode : Mode) (c : Pc) (f : Frame) (y : Fields) → kind.is_take c ≡ true
      → either (eqb (packed layout y) 0) 1 (packed layout y)
      ≡ packed layout (unwrap_or (word_stores mode c f (target c f) y) y)
  takes mode c f y h =
      let t = take_stores mode c f y h in
      let e = free_test y in
      elim (cases_Bool (is_free y)) [
        | inl d ↦ ap (λ b. either b 1 (packed layout y)) (e ∙ d)
            ∙ (sym held_packed
            ∙ ap (λ (o : Option Fields). packed layout (unwrap_or o y)) (sym (t ∙ ap (λ b. if b then Some held_word else None) d)))
        | inr d ↦ ap (λ b. either b 1 (packed layout y)) (e ∙ d)
            ∙ ap (λ (o : Option Fields). packed layout (unwrap_or o y)) (sym (t ∙ ap (λ b. if b then Some held_word else None) d))
      ]

less_one : (n r : ℕ) → n ≡ 1 + r → n < 2 ^ 32 → (n + (2 ^ 64 - 1)) % 2 ^ 64 ≡ r
less_one n r e h = omega arith

module _ (layout : Layout) where
  -- a release takes 1 off a held word
  pub releases : (mode : Mode) (c : Pc) (f : Frame) (y : Fields) → kind.is_free c ≡ true → IsPackable layout y
      → KnownHere c f y
      → (packed layout y + (2 ^ 64 - 1)) % 2 ^ 64
      ≡ packed layout (unwrap_or (word_stores mode c f (target c f) y) y)
  unfolding packed
  releases mode U1 f y h fits held =
      let e : locked_number y.locked ≡ 1 = ap locked_number (held.awake refl) in
      less_one _ _ (omega (arith, e)) (packed_small layout y fits)
  releases mode _ f y h fits held = cc h

-- looks and takes free nothing

pub look_frees : (w : World) (u : Waiter) (f : Frame) (c : Pc) → kind.is_look c ≡ true
    → grip_of (target c f) (course_in w u f c (target c f)) ≡ Frees → ⊥
look_frees w u f T1 h e = elim (cases_Bool (is_free (w.word f.lock))) [ inl d ↦ cc (rw d at e) | inr d ↦ cc (rw d at e) ]
look_frees w u f V1 h e = cc e
look_frees w u f P0 h e = cc e
look_frees w u f P3 h e = cc e
look_frees w u f G2 h e = cc e
look_frees w u f G7 h e = cc e
look_frees w u f N1 h e = cc e
look_frees w u f _ h e = cc h

pub take_frees : (w : World) (u : Waiter) (f : Frame) (c : Pc) → kind.is_take c ≡ true
    → grip_of (target c f) (course_in w u f c (target c f)) ≡ Frees → ⊥
take_frees w u f F1 h e = elim (cases_Bool (is_free (w.word f.lock))) [ inl d ↦ cc (rw d at e) | inr d ↦ cc (rw d at e) ]
take_frees w u f T2 h e = elim (cases_Bool (is_free (w.word f.lock))) [ inl d ↦ cc (rw d at e) | inr d ↦ cc (rw d at e) ]
take_frees w u f V2 h e = elim (cases_Bool (is_free (w.word f.lock))) [ inl d ↦ cc (rw d at e) | inr d ↦ cc (rw d at e) ]
take_frees w u f G3 h e = elim (cases_Bool (is_free (w.word f.lock))) [ inl d ↦ cc (rw d at e) | inr d ↦ cc (rw d at e) ]
take_frees w u f N2 h e = elim (cases_Bool (is_free (w.word f.lock))) [ inl d ↦ cc (rw d at e) | inr d ↦ cc (rw d at e) ]
take_frees w u f _ h e = cc h
