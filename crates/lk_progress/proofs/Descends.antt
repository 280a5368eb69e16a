-- Each row leaves its frame where it was, or leaves it fewer rows, or leads it on in its turn, or is that of a head
-- which turns on the spot.
use Rattle.std.proofs.Common.{◌≡◌, ◌⊎◌, ◌<◌, ◌≤◌, ◌+◌, ℕ, arith, inl, inr, Option, Some, Bool, true}
use Rattle.std.proofs.Common.{false, refl, ap, ◌∙◌, if◌then◌else◌}
use Rattle.lk_progress.proofs.Names.{cases_Bool, Mode, Cna, Native, Pv, Virt, started, target}
use Rattle.lk_progress.proofs.Names.{Frame, Pc, N1, N2, V1, V2, Wr5, Wr6, Verb, Lock, RUnlock, Read}
use Rattle.lk_progress.proofs.Names.{Try, TryRead, TryWrite, Unlock, WUnlock, Write, not-true}
use Rattle.lk_progress.proofs.Names.{halts, moves_aside, chooses, may_halt, course_in, led}
use Rattle.lk_progress.proofs.Names.{choice_at, choice_if, is_turn, left_at, left_in, left_of}
use Rattle.lk_progress.proofs.Names.{turn_at, turn_of}
use Rattle.lk_progress.proofs.{Choiceless.{calm, most}, Choosing.{chosen, few_skipped}}
use Rattle.lk_progress.proofs.Measure.{less, turn}
use Rattle.lk_progress.specs.Measure.{turn_if, TurnGoesOn, TurnStays, RowDescends, BeginIsShort}

-- the left of a frame in a family, by whether heads choose in it
left_aside : (mode : Mode) (f : Frame) → moves_aside mode ≡ true → left_in mode f ≡ left_of f + choice_if f.place f
left_aside mode f e = ap (λ (b : Bool). left_of f + (if b then choice_if f.place f else 0)) e

-- a row of a turn that is none of a choice leaves no rows of one
no_choice : (c : Pc) (f : Frame) → is_turn c ≡ true → chooses c ≡ false → choice_at c f ≡ 0
no_choice V1 f r b = refl
no_choice V2 f r b = refl
no_choice N1 f r b = refl
no_choice N2 f r b = refl
no_choice Wr5 f r b = refl
no_choice Wr6 f r b = refl
no_choice _ f r b = cc (r, b)

pub row_descends : (c : Pc) → RowDescends c
row_descends c m hs w f ok contexts awake live at inner =
    elim (cases_Bool (chooses c)) [ inl e ↦ choice e | inr e ↦ plain e ]
  where
    h : Frame
    h = led f (course_in m w f c (target c f)).leads

    now : left_of f ≡ left_at (Some c) f
    now = ap (λ (o : Option Pc). left_at o f) at

    turn_now : turn_of m (Some f) ≡ turn_at m f c
    turn_now = ap (λ (o : Option Pc). turn_if m f o) at

    choice_now : choice_if f.place f ≡ choice_at c f
    choice_now = ap (λ (o : Option Pc). choice_if o f) at

    choice : chooses c ≡ true
        → (((led f (course_in m w f c (target c f)).leads).place ≡ Some c) × (chooses c ≡ false))
        ⊎ (left_in m.mode (led f (course_in m w f c (target c f)).leads) < left_in m.mode f)
        ⊎ TurnGoesOn m w f c ⊎ TurnStays m w f c
    choice e =
        let aside = (ok.registers w f live).choice.choice c at e in
        let before = left_aside m.mode f aside in
        let after = left_aside m.mode (led f (course_in m w f c (target c f)).leads) aside in
        let n = now in
        let q = choice_now in
        let t = turn_now in
        elim (chosen m w f inner c e (λ two. few_skipped m hs w f ok contexts live (at ∙ ap Some two))) [
          | inl less ↦ (let x = less.0 in let y = less.1 in inr (inl (omega (arith, x, y, before, after, n, q))))
          | inr z ↦ elim z [
            | inl on ↦
                let s = on.0 in
                let x = s.3 in
                let y = s.4 in
                let lt = on.1 in
                inr (inr (inl (record {
                  turn = s.0;
                  stores = s.1;
                  away = s.2;
                  left = omega (arith, x, y, before, after, n, q);
                  nearer = omega (arith, lt, t);
                })))
            | inr stays ↦
                let s = stays.0 in
                let x = s.3 in
                let y = s.4 in
                let same = stays.2 in
                inr (inr (inr (record {
                  barred = stays.1;
                  stores = s.1;
                  away = s.2;
                  left = omega (arith, x, y, before, after, n, q);
                  same = omega (arith, same, t);
                })))
          ]
        ]

    plain : chooses c ≡ false
        → (((led f (course_in m w f c (target c f)).leads).place ≡ Some c) × (chooses c ≡ false))
        ⊎ (left_in m.mode (led f (course_in m w f c (target c f)).leads) < left_in m.mode f)
        ⊎ TurnGoesOn m w f c ⊎ TurnStays m w f c
    plain b =
        let a = not-true (may_halt c) (λ e. let z = (ok.registers w f live).choice.halting c at e in cc (z, awake)) in
        elim (cases_Bool (is_turn c)) [
          | inl r ↦ elim (turn m w f inner c r b) [
            | inl e ↦ inl (e, b)
            | inr z ↦ elim z [
              | inl lt ↦ inr (inl (falls a lt))
              | inr t ↦
                  let less = t.3 in
                  let then_is = turn_now in
                  inr (inr (inl (record {
                    turn = r;
                    stores = t.0;
                    away = t.1;
                    left = same a r t.2;
                    nearer = omega (arith, less, then_is);
                  })))
            ]
          ]
          | inr r ↦ elim (less m w f inner c a b awake r) [
            | inl e ↦ inl (e, b)
            | inr lt ↦ inr (inl (falls a lt))
          ]
        ]
      where
        falls : may_halt c ≡ false → left_of (led f (course_in m w f c (target c f)).leads) < left_at (Some c) f
            → left_in m.mode (led f (course_in m w f c (target c f)).leads) < left_in m.mode f
        falls a lt =
            let k = calm m w f inner c a b in
            let n = now in
            let q = choice_now in
            by (moves_aside m.mode) lt k n q
          where
            by : (b : Bool) → left_of (led f (course_in m w f c (target c f)).leads) < left_at (Some c) f
                → choice_if (led f (course_in m w f c (target c f)).leads).place (led f (course_in m w f c (target c f)).leads) ≤ choice_at c f
                → left_of f ≡ left_at (Some c) f → choice_if f.place f ≡ choice_at c f
                → left_of (led f (course_in m w f c (target c f)).leads) + (if b then choice_if (led f (course_in m w f c (target c f)).leads).place (led f (course_in m w f c (target c f)).leads) else 0)
                < left_of f + (if b then choice_if f.place f else 0)
            by true lt k n q = omega (arith, lt, k, n, q)
            by false lt k n q = omega (arith, lt, n)

        same : may_halt c ≡ false → is_turn c ≡ true
            → left_of (led f (course_in m w f c (target c f)).leads) ≡ left_at (Some c) f
            → left_in m.mode (led f (course_in m w f c (target c f)).leads) ≡ left_in m.mode f
        same a r e =
            let k = calm m w f inner c a b in
            let none = no_choice c f r b in
            let n = now in
            let q = choice_now in
            by (moves_aside m.mode) e k none n q
          where
            by : (b : Bool) → left_of (led f (course_in m w f c (target c f)).leads) ≡ left_at (Some c) f
                → choice_if (led f (course_in m w f c (target c f)).leads).place (led f (course_in m w f c (target c f)).leads) ≤ choice_at c f
                → choice_at c f ≡ 0 → left_of f ≡ left_at (Some c) f → choice_if f.place f ≡ choice_at c f
                → left_of (led f (course_in m w f c (target c f)).leads) + (if b then choice_if (led f (course_in m w f c (target c f)).leads).place (led f (course_in m w f c (target c f)).leads) else 0)
                ≡ left_of f + (if b then choice_if f.place f else 0)
            by true e k none n q = omega (arith, e, k, none, n, q)
            by false e k none n q = omega (arith, e, n)

-- an operation begins with few rows
begin_of : (mode : Mode) (v : Verb) (f : Frame) (lock : ℕ) → halts mode ≡ false
    → left_of (started mode f (record { verb = v; lock = lock })) < 23
begin_of mode Lock f l a = omega arith
begin_of mode Try f l a = omega arith
begin_of Virt Unlock f l a = omega arith
begin_of Native Unlock f l a = omega arith
begin_of Cna Unlock f l a = omega arith
begin_of Pv Unlock f l a = cc a
begin_of mode Read f l a = omega arith
begin_of mode Write f l a = omega arith
begin_of mode TryRead f l a = omega arith
begin_of mode TryWrite f l a = omega arith
begin_of mode RUnlock f l a = omega arith
begin_of mode WUnlock f l a = omega arith

pub begin_is_short : BeginIsShort
begin_is_short m f o awake = by (moves_aside m.mode)
  where
    short : left_of (started m.mode f o) < 23
    short = begin_of m.mode o.verb f o.lock awake

    eight : choice_if (started m.mode f o).place (started m.mode f o) ≤ 8
    eight = most (started m.mode f o)

    by : (b : Bool) → left_of (started m.mode f o) + (if b then choice_if (started m.mode f o).place (started m.mode f o) else 0)
        < (if b then 31 else 23)
    by true = let s = short in let e = eight in omega (arith, s, e)
    by false = let s = short in omega (arith, s)
