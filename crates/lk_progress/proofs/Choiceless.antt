-- A row of no choice leaves no more rows of a choice than there were.
use Rattle.std.proofs.Common.{◌≡◌, ◌≤◌, arith, inl, inr, Option, Some, None, Bool, true, false}
use Rattle.std.proofs.Common.{refl, [], if◌then◌else◌}
use Rattle.lk_progress.proofs.Names.{RwFields, Fields, NodeName, Mode, Cna, Native, Pv, Virt}
use Rattle.lk_progress.proofs.Names.{Waiter, node_of, Effect, gone, target, Frame, Pc, C3, F1, G1}
use Rattle.lk_progress.proofs.Names.{G2, G3, G4, G5, G6, G7, G8, G9, G10, G11, N1, N2, P0, P1, P2}
use Rattle.lk_progress.proofs.Names.{P3, P4, R1, R2, R3, R4, R5, T1, T2, U1, V1, V2, Wr1, Wr2, Wr3}
use Rattle.lk_progress.proofs.Names.{Wr4, Wr5, Wr6, Y1, Y2, Y3, Y4, Y5, Z1, Z2, Why, after_next}
use Rattle.lk_progress.proofs.Names.{frees_wait, is_cleared, is_empty, is_open, is_free}
use Rattle.lk_progress.proofs.Names.{is_unlocked, chooses, may_halt, course_in, IsThen, led, World}
use Rattle.lk_progress.proofs.Names.{choice_at, choice_if}
use Rattle.lk_progress.specs.Measure.{choice_why}
use Rattle.lk_rows.specs.declared.parts.Why.TheVariants as why

most_why : (y : Why) → choice_why y ≤ 8
most_why why.Append = omega arith
most_why why.Flush = omega arith
most_why why.Promotion = omega arith

-- there are at most 8 rows of a choice
most_at : (c : Pc) (f : Frame) → choice_at c f ≤ 8
most_at C3 f = most_why f.why
most_at _ f = omega arith

abbrev Calm : Frame → Type 0
Calm g = choice_if g.place g ≤ 0

pub most : (g : Frame) → choice_if g.place g ≤ 8
most g = by g.place
  where
    by : (o : Option Pc) → choice_if o g ≤ 8
    by None = omega arith
    by (Some c) = most_at c g

either_calm : {A : Type 0} (f : Frame) (b : Bool) (x y : Effect A) → Calm (led f x.leads) → Calm (led f y.leads)
    → Calm (led f (if b then x else y).leads)
either_calm f true x y h k = h
either_calm f false x y h k = k

to_calm : (f : Frame) (b : Bool) (d e : Pc) → Calm (gone f d []) → Calm (gone f e []) → Calm (gone f (if b then d else e) [])
to_calm f true d e h k = h
to_calm f false d e h k = k

module _ (m : World) (w : Waiter) (f : Frame) (inner : f.lock.wait ≡ true → IsThen f.then) where
  abbrev x : Fields
  x = m.word f.lock

  abbrev y : RwFields
  y = m.rw f.lock.index

  abbrev g : Pc → Frame
  g c = led f (course_in m w f c (target c f)).leads

  -- the lock is had
  had : (me : Option NodeName) → Calm (record f { place = if f.lock.wait then f.then else None; me = me })
  had me = by f.lock.wait refl
    where
      by : (b : Bool) → f.lock.wait ≡ b
          → choice_if (if b then f.then else None) (record f { place = if f.lock.wait then f.then else None; me = me }) ≤ 0
      by false e = omega arith
      by true e = elim (inner e) [ inl q ↦ rw q (omega arith) | inr q ↦ rw q (omega arith) ]

  next_calm : (z : Option NodeName) → Calm (led f (after_next z).leads)
  next_calm None = omega arith
  next_calm (Some n) = omega arith

  frees : (mode : Mode) → Calm (led f (frees_wait mode))
  frees Virt = omega arith
  frees Native = omega arith
  frees Cna = omega arith
  frees Pv = omega arith

  pub calm : (c : Pc) → may_halt c ≡ false → chooses c ≡ false → choice_if (g c).place (g c) ≤ choice_at c f
  calm F1 a b = most (g F1)
  calm P0 a b = most (g P0)
  calm P1 a b = most (g P1)
  calm P2 a b = most (g P2)
  calm G1 a b = most (g G1)
  calm G2 a b = most (g G2)
  calm G3 a b = most (g G3)
  calm G4 a b = most (g G4)
  calm G5 a b = most (g G5)
  calm G6 a b = most (g G6)
  calm G7 a b = most (g G7)
  calm G8 a b = most (g G8)
  calm G9 a b = most (g G9)
  calm R1 a b = most (g R1)
  calm R3 a b = most (g R3)
  calm Wr1 a b = most (g Wr1)
  calm T1 a b = either_calm f (is_free x) _ _ (omega arith) (omega arith)
  calm T2 a b = either_calm f (is_free x) _ _ (had f.me) (omega arith)
  calm U1 a b = omega arith
  calm V1 a b = to_calm f (is_free x) V2 V1 (omega arith) (omega arith)
  calm V2 a b = either_calm f (is_free x) _ _ (had f.me) (omega arith)
  calm P3 a b = to_calm f (is_unlocked x.locked) P4 P3 (omega arith) (omega arith)
  calm P4 a b = had f.me
  calm G10 a b = next_calm (m.node (node_of f.me)).next
  calm G11 a b = had None
  calm N1 a b = to_calm f (is_free x) N2 N1 (omega arith) (omega arith)
  calm N2 a b = either_calm f (is_free x) _ _ (had None) (omega arith)
  calm R2 a b = either_calm f y.writer _ _ (omega arith) (omega arith)
  calm R4 a b = omega arith
  calm R5 a b = either_calm f y.writer _ _ (omega arith) (frees m.mode)
  calm Wr2 a b = to_calm f (is_empty y) Wr3 Wr4 (omega arith) (omega arith)
  calm Wr3 a b = either_calm f (is_empty y) _ _ (frees m.mode) (omega arith)
  calm Wr4 a b = omega arith
  calm Wr5 a b = to_calm f (is_cleared y) Wr6 Wr5 (omega arith) (omega arith)
  calm Wr6 a b = either_calm f (is_cleared y) _ _ (frees m.mode) (omega arith)
  calm Y1 a b = either_calm f (is_open y) _ _ (omega arith) (omega arith)
  calm Y2 a b = either_calm f (is_open y) _ _ (omega arith) (omega arith)
  calm Y3 a b = omega arith
  calm Y4 a b = either_calm f (is_empty y) _ _ (omega arith) (omega arith)
  calm Y5 a b = either_calm f (is_empty y) _ _ (omega arith) (omega arith)
  calm Z1 a b = omega arith
  calm Z2 a b = omega arith
  calm _ a b = cc (a, b)
