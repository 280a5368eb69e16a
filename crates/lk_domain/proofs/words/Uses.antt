-- What each use of the word of a spinlock or a wait lock writes, and that it is what the row stores.
use Rattle.std.proofs.Common.{◌≡◌, ◌≢◌, inl, inr, ℕ, ◌+◌, ◌-◌, ◌*◌, ◌%◌, ◌^◌, ◌<◌, Option, Some}
use Rattle.std.proofs.Common.{None, Bool, true, false, eqb, refl, sym, ap, ◌∙◌, subst, arith}
use Rattle.std.proofs.Common.{if◌then◌else◌}
use Rattle.std.specs.Prelude.{unwrap_or}
use Rattle.lk_domain.proofs.Names.{cases_Bool, or_block, bit_or, or_zero_r, TableId, Allows, Me}
use Rattle.lk_domain.proofs.Names.{either, packed_small, IsPackable, locked_number, tail_number}
use Rattle.lk_domain.proofs.Names.{Fields, Layout, Narrow, Wide, Locked, Free, Held, Slow, NodeName}
use Rattle.lk_domain.proofs.Names.{LockName, Mode, Effect, target, Frame, Pc, F1, G2, G3, G7, G9}
use Rattle.lk_domain.proofs.Names.{H1, N1, N2, P0, P1, P2, P3, P4, U1, U4, V1, V2, Verb, pv_row}
use Rattle.lk_domain.proofs.Names.{is_unlocked, grip_led, AllHome, Slot, layout_in, locks_of}
use Rattle.lk_domain.proofs.Names.{MadeBy, Stand, IsNumbered, word_at, Claims, Clears, Looks, Pends}
use Rattle.lk_domain.proofs.Names.{Stakes, Plan, View}
use Rattle.lk_word.specs.SpinWord.{packed}
use Rattle.lk_rows.specs.declared.parts.Pc.TheVariants.{E3, E5, E7, E8, E11, K2}
use Rattle.lk_domain.proofs.{Acting.acting_is, queue.Pending.{pends, clears, claims, stakes}}
use Rattle.lk_domain.proofs.{words.LockPlays.MayFree, words.Locks.word_below}
use Rattle.lk_domain.proofs.words.Numbers.{looks, takes, take_frees, releases}
use Rattle.lk_domain.proofs.words.OnWords.{OnWord, word_stores, KnownHere}
use Rattle.lk_domain.proofs.words.Onward.{acts_at, asks_on, made_on}
use Rattle.lk_domain.specs.{Calls.Frees as FreesLock, NodePlays.InCall, Plays.WentBy}
use Rattle.lk_domain.specs.{Seated.IsTableOf, Uses.{uses, frees, UsesWord}}
use Rattle.lk_domain.specs.declared.locks.moves.WordUse.{WordUse}
use Rattle.lk_domain.specs.declared.locks.moves.WordUse.TheVariants.{Takes, Frees, Slows, Wins}
use Rattle.lk_domain.specs.declared.locks.moves.WordUse.TheVariants.{Signs, Drops}

-- the rows are on the word of their lock
use_on : (how : WordUse) (c : Pc) (f : Frame) → uses how c ≡ true → OnWord (target c f)
use_on Looks V1 f h = tt
use_on Looks P0 f h = tt
use_on Looks P3 f h = tt
use_on Looks G2 f h = tt
use_on Looks G7 f h = tt
use_on Looks N1 f h = tt
use_on Looks H1 f h = tt
use_on Looks E11 f h = tt
use_on Takes F1 f h = tt
use_on Takes V2 f h = tt
use_on Takes G3 f h = tt
use_on Takes N2 f h = tt
use_on Frees U1 f h = tt
use_on Pends P1 f h = tt
use_on Pends E3 f h = tt
use_on Clears P2 f h = tt
use_on Clears E5 f h = tt
use_on Claims P4 f h = tt
use_on Stakes G9 f h = tt
use_on Slows E7 f h = tt
use_on Wins E8 f h = tt
use_on Signs K2 f h = tt
use_on Drops U4 f h = tt
use_on _ _ f h = cc h

pub either_frees : (b : Bool) (x y : Effect Fields) → grip_led x.leads ≢ FreesLock → grip_led y.leads ≢ FreesLock
    → grip_led (if b then x else y).leads ≢ FreesLock
either_frees true x y h k = h
either_frees false x y h k = k

-- and free nothing, but for those that say so
use_frees : (how : WordUse) (c : Pc) → frees how ≡ false → uses how c ≡ true → MayFree c → ⊥
use_frees Looks V1 n h t = cc t.3
use_frees Looks P0 n h t = cc t.3
use_frees Looks P3 n h t = cc t.3
use_frees Looks G2 n h t = cc t.3
use_frees Looks G7 n h t = cc t.3
use_frees Looks N1 n h t = cc t.3
use_frees Looks H1 n h t = cc t.3
use_frees Looks E11 n h t = cc t.3
use_frees Takes F1 n h t = take_frees t.0 t.1 t.2 F1 refl t.3
use_frees Takes V2 n h t = take_frees t.0 t.1 t.2 V2 refl t.3
use_frees Takes G3 n h t = take_frees t.0 t.1 t.2 G3 refl t.3
use_frees Takes N2 n h t = take_frees t.0 t.1 t.2 N2 refl t.3
use_frees Pends P1 n h t = cc t.3
use_frees Pends E3 n h t = cc t.3
use_frees Clears P2 n h t = cc t.3
use_frees Clears E5 n h t = cc t.3
use_frees Claims P4 n h t = cc t.3
use_frees Stakes G9 n h t = cc t.3
use_frees Slows E7 n h t = either_frees (is_unlocked (t.0.word t.2.lock).locked) _ _ (λ e. cc e) (λ e. cc e) t.3
use_frees Wins E8 n h t = cc t.3
use_frees Signs K2 n h t = cc t.3
use_frees _ _ n h t = cc (n, h)

-- what it writes over the number that it meets
abbrev pub written : WordUse → ℕ → ℕ
written Looks n = n
written Takes n = either (eqb n 0) 1 n
written Frees n = (n + (2 ^ 64 - 1)) % 2 ^ 64
written Pends n = bit_or n 256
written Clears n = (n + (2 ^ 64 - 256)) % 2 ^ 64
written Claims n = (n + (2 ^ 64 - 255)) % 2 ^ 64
written Stakes n = (n + 1) % 2 ^ 64
written Slows n = bit_or n 3
written Wins n = (n + (2 ^ 64 - 2)) % 2 ^ 64
written Signs n = (n + 2) % 2 ^ 64
written Drops n = (n + (2 ^ 64 - 3)) % 2 ^ 64

less_two : (n r : ℕ) → n ≡ 2 + r → n < 2 ^ 32 → (n + (2 ^ 64 - 2)) % 2 ^ 64 ≡ r
less_two n r e h = omega arith

less_three : (n r : ℕ) → n ≡ 3 + r → n < 2 ^ 32 → (n + (2 ^ 64 - 3)) % 2 ^ 64 ≡ r
less_three n r e h = omega arith

more_two : (n r : ℕ) → n + 2 ≡ r → n < 2 ^ 32 → (n + 2) % 2 ^ 64 ≡ r
more_two n r e h = omega arith

less_256 : (n r : ℕ) → n ≡ 256 + r → n < 2 ^ 32 → (n + (2 ^ 64 - 256)) % 2 ^ 64 ≡ r
less_256 n r e h = omega arith

module _ (layout : Layout) (mode : Mode) (f : Frame) (y : Fields) where
  -- what the row stores
  abbrev stored : Pc → ℕ
  stored c = packed layout (unwrap_or (word_stores mode c f (target c f) y) y)

  -- a queue head takes its pending bit back
  relents : IsPackable layout y → KnownHere E5 f y → written Clears (packed layout y) ≡ stored E5
  unfolding packed
  relents fits known =
      let e : ◌≡◌ {A = ℕ} (if y.pending then 256 else 0) 256 = ap (λ b. if b then 256 else 0) (known.pressed (λ b x z. refl)) in
      less_256 _ _ (omega (arith, e)) (packed_small layout y fits)

  -- who took the lock as slow takes 2 off the byte
  wins : IsPackable layout y → KnownHere E8 f y → written Wins (packed layout y) ≡ stored E8
  unfolding packed
  wins fits known =
      let e : locked_number y.locked ≡ 3 = ap locked_number (known.halting refl).1 in
      less_two _ _ (omega (arith, e)) (packed_small layout y fits)

  -- who hands the lock on to one that halted adds 2
  signs : IsPackable layout y → KnownHere K2 f y → written Signs (packed layout y) ≡ stored K2
  unfolding packed
  signs fits known =
      let e : locked_number y.locked ≡ 1 = ap locked_number (known.halting refl).1 in
      more_two _ _ (omega (arith, e)) (packed_small layout y fits)

  -- a release that will kick takes 3 off
  drops : IsPackable layout y → KnownHere U4 f y → written Drops (packed layout y) ≡ stored U4
  unfolding packed
  drops fits known =
      let e : locked_number y.locked ≡ 3 = ap locked_number (known.halting refl).1.0 in
      less_three _ _ (omega (arith, e)) (packed_small layout y fits)

-- setting the two low bits makes the byte slow, whatever it is
slow_low : (a : Locked) → bit_or (locked_number a) 3 ≡ 3
slow_low Free = refl
slow_low Held = refl
slow_low Slow = refl

tail_blocks : (layout : Layout) (t : Option NodeName) → (n : ℕ) × (tail_number layout t ≡ n * 2 ^ 8)
tail_blocks layout None = (0, refl)
tail_blocks Narrow (Some n) = (256 * (n.index + 4 * (n.cpu + 1)), omega arith)
tail_blocks Wide (Some n) = (2 * (n.index + 4 * (n.cpu + 1)), omega arith)

slow_number : (layout : Layout) (a : Locked) (b : Bool) (t : Option NodeName)
    → bit_or (locked_number a + (if b then 256 else 0) + tail_number layout t) 3 ≡ 3 + (if b then 256 else 0) + tail_number layout t
slow_number layout a b t =
    let h = tail_blocks layout t in
    let n : ℕ = h.0 + (if b then 1 else 0) in
    let e : locked_number a + (if b then 256 else 0) + tail_number layout t ≡ n * 2 ^ 8 + locked_number a = omega (arith, h.1, bits b) in
    let split : bit_or (n * 2 ^ 8 + locked_number a) (0 * 2 ^ 8 + 3) ≡ bit_or n 0 * 2 ^ 8 + bit_or (locked_number a) 3 =
    or_block 8 n 0 (locked_number a) 3 (below a) (omega arith) in
    ap (λ (x : ℕ). bit_or x 3) e ∙ (split ∙ omega (arith, or_zero_r n, slow_low a, h.1, bits b))
  where
    bits : (b : Bool) → (if b then 256 else 0) ≡ 256 * (if b then 1 else 0)
    bits true = refl
    bits false = refl

    below : (a : Locked) → locked_number a < 2 ^ 8
    below Free = omega arith
    below Held = omega arith
    below Slow = omega arith

slow_stored : (layout : Layout) (f : Frame) (a : Locked) (b : Bool) (t : Option NodeName)
    → packed layout (unwrap_or (pv_row 1 E7 f (record { locked = a; pending = b; tail = t })).stores (record { locked = a; pending = b; tail = t }))
    ≡ 3 + (if b then 256 else 0) + tail_number layout t
unfolding packed
slow_stored layout f Free b t = refl
slow_stored layout f Held b t = refl
slow_stored layout f Slow b t = refl

slow : (layout : Layout) (mode : Mode) (f : Frame) (y : Fields) → written Slows (packed layout y) ≡ stored layout mode f y E7
unfolding packed
slow layout mode f y = slow_number layout y.locked y.pending y.tail ∙ sym (slow_stored layout f y.locked y.pending y.tail)

-- it is what the row stores
use_writes : (how : WordUse) (layout : Layout) (mode : Mode) (c : Pc) (f : Frame) (y : Fields) → uses how c ≡ true
    → IsPackable layout y → KnownHere c f y → written how (packed layout y) ≡ stored layout mode f y c
use_writes Looks layout mode V1 f y h fits known = looks layout mode V1 f y refl
use_writes Looks layout mode P0 f y h fits known = looks layout mode P0 f y refl
use_writes Looks layout mode P3 f y h fits known = looks layout mode P3 f y refl
use_writes Looks layout mode G2 f y h fits known = looks layout mode G2 f y refl
use_writes Looks layout mode G7 f y h fits known = looks layout mode G7 f y refl
use_writes Looks layout mode N1 f y h fits known = looks layout mode N1 f y refl
use_writes Looks layout mode H1 f y h fits known = refl
use_writes Looks layout mode E11 f y h fits known = refl
use_writes Takes layout mode F1 f y h fits known = takes layout mode F1 f y refl
use_writes Takes layout mode V2 f y h fits known = takes layout mode V2 f y refl
use_writes Takes layout mode G3 f y h fits known = takes layout mode G3 f y refl
use_writes Takes layout mode N2 f y h fits known = takes layout mode N2 f y refl
use_writes Frees layout mode U1 f y h fits known = releases layout mode U1 f y refl fits known
use_writes Pends layout mode P1 f y h fits known = pends layout mode P1 f y refl
use_writes Pends layout mode E3 f y h fits known = pends layout mode P1 f y refl
use_writes Clears layout mode P2 f y h fits known = clears layout mode P2 f y refl fits known
use_writes Clears layout mode E5 f y h fits known = relents layout mode f y fits known
use_writes Claims layout mode P4 f y h fits known = claims layout mode P4 f y refl fits known
use_writes Stakes layout mode G9 f y h fits known = stakes layout mode G9 f y refl fits known
use_writes Slows layout mode E7 f y h fits known = slow layout mode f y
use_writes Wins layout mode E8 f y h fits known = wins layout mode f y fits known
use_writes Signs layout mode K2 f y h fits known = signs layout mode f y fits known
use_writes Drops layout mode U4 f y h fits known = drops layout mode f y fits known
use_writes _ layout mode _ f y h fits known = cc h

-- what such a step asks, in which the word is named by its place
module _ (k plan : Plan) (slots id : ℕ) (m : Me Slot View) (number : IsNumbered m.0) (verb : Verb)
    (n : LockName) (i : ℕ) (same : k ≡ plan) (near : n.index < locks_of plan) (at : i ≡ word_at n) where
  pub use_asks : (how : WordUse) → UsesWord how n verb m.0 → (frees how ≡ true → AllHome n m.0)
      → Allows (Stand k) slots id m i (written how) (WentBy m)
  use_asks how h home =
      asks_on k plan slots id m number verb n i same near at (uses how) (acts_at (uses how) m verb n h) (λ c q f. use_on how c f q)
      (λ may. elim (cases_Bool (frees how)) [ inl e ↦ home e | inr ne ↦ absurd (use_frees how h.row ne h.is may) ])
      (acting_is m.0.calls verb n h.row h.stands m.0.who.plan.mode) (written how)
      (λ mode y packs known. use_writes how (layout_in plan) mode h.row h.stands.frame y h.is packs known)

-- The same of a table of the plan, in which the word stands, and of what else the use may be called.
module _ (z : TableId) (key plan : Plan) (id : ℕ) (m : Me Slot View) (n : LockName) (it : WordUse) (i : ℕ)
    (on : IsTableOf plan z key) (near : n.index < locks_of plan) (number : IsNumbered m.0)
    (row : InCall (UsesWord it n) m.0) (home : frees it ≡ true → AllHome n m.0) (at : i ≡ word_at n) where
  pub use_inside : i < z.words
  use_inside = let few = on.lawful.locks in let below = word_below plan n near in let words = on.words in omega (arith, at, words, below)

  pub use_allowed : (how : WordUse) → it ≡ how → Allows (Stand key) z.slots id m i (written how) (WentBy m)
  use_allowed how is =
      subst (λ (u : WordUse). Allows (Stand key) z.slots id m i (written u) (WentBy m)) is
      (use_asks key plan z.slots id m number row.0 n i on.key_is near at it row.1 home)

-- and it is a row of the operation, on the lock
pub use_made : (how : WordUse) (v : Verb) (l : LockName) (met : ℕ) (m n : Me Slot View) → UsesWord how l v m.0 → WentBy m met n
    → MadeBy v l.index m met n
use_made how v l met m n at went = made_on v l met m n (acting_is m.0.calls v l at.row at.stands m.0.who.plan.mode) went
