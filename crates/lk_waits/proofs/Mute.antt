-- From which rows a frame comes to where it shows that it leads.
use Rattle.std.proofs.Common.{◌≡◌, inl, inr, ℕ, Option, Some, None, Bool, true, false, refl, ap}
use Rattle.std.proofs.Common.{if◌then◌else◌, is_some, ◌&&◌, not, ◌==◌}
use Rattle.lk_waits.proofs.Names.{cases_Bool, RwFields, Fields, NodeName, Mode, Cna, Native, Pv}
use Rattle.lk_waits.proofs.Names.{Virt, Waiter, first_place, Effect, Lead, target, Frame, Pc, F1}
use Rattle.lk_waits.proofs.Names.{G1, G2, G3, G4, G5, G6, G7, G8, G9, G10, G11, N1, N2, P0, P1, P2}
use Rattle.lk_waits.proofs.Names.{P3, P4, R1, R2, R3, R4, R5, T1, T2, U1, V1, V2, Wr1, Wr2, Wr3}
use Rattle.lk_waits.proofs.Names.{Wr4, Wr5, Wr6, Y1, Y2, Y3, Y4, Y5, Z1, Z2, Unlock, after_entry}
use Rattle.lk_waits.proofs.Names.{after_link, own_node, is_cleared, is_empty, is_open, after_fast}
use Rattle.lk_waits.proofs.Names.{is_free, is_unlocked, to_queue, chooses, may_halt, course_in}
use Rattle.lk_waits.proofs.Names.{IsThen, led, World}

-- a place at which the frame has something to show: a head that was led on, or that looks at the
-- word
abbrev pub tells : Option Pc → Bool
tells (Some G7) = true
tells (Some G9) = true
tells (Some G10) = true
tells _ = false

-- from these rows alone a frame comes to such a place
abbrev pub nears : Pc → Bool
nears G4 = true
nears G6 = true
nears G7 = true
nears G8 = true
nears G9 = true
nears G10 = true
nears _ = false

-- the place is none of these
abbrev pub Mute : Option Pc → Type 0
Mute o = tells o ≡ false

either_mute : {A : Type 0} (f : Frame) (b : Bool) (x y : Effect A) → Mute (led f x.leads).place
    → Mute (led f y.leads).place → Mute (led f (if b then x else y).leads).place
either_mute f true x y h k = h
either_mute f false x y h k = k

either_row : (b : Bool) (d e : Pc) → Mute (Some d) → Mute (Some e) → Mute (Some (if b then d else e))
either_row true d e h k = h
either_row false d e h k = k

pub after : (f : Frame) → (f.lock.wait ≡ true → IsThen f.then) → Mute (if f.lock.wait then f.then else None)
after f inner =
    elim (cases_Bool f.lock.wait) [
      | inl e ↦ rw e (elim (inner e) [ inl q ↦ ap tells q | inr q ↦ ap tells q ])
      | inr e ↦ rw e refl
    ]

mute_queue : (x : Fields) → Mute (Some (to_queue x))
mute_queue x = either_row x.pending G1 _ refl (either_row (is_some x.tail) G1 P1 refl refl)

mute_fast : (mode : Mode) (x : Fields) → Mute (Some (after_fast mode x))
mute_fast Virt x = refl
mute_fast Pv x = refl
mute_fast Native x = either_row (is_unlocked x.locked && x.pending && not (is_some x.tail)) P0 _ refl (mute_queue x)
mute_fast Cna x = either_row (is_unlocked x.locked && x.pending && not (is_some x.tail)) P0 _ refl (mute_queue x)

mute_entry : (mode : Mode) (me : Option NodeName) → Mute (Some (after_entry mode me))
mute_entry Virt None = refl
mute_entry Native None = refl
mute_entry Cna None = refl
mute_entry Pv None = refl
mute_entry Virt (Some n) = refl
mute_entry Native (Some n) = refl
mute_entry Cna (Some n) = refl
mute_entry Pv (Some n) = refl

mute_link : (mode : Mode) (f : Frame) (k : ℕ) → Mute (led f (after_link mode k)).place
mute_link Virt f k = refl
mute_link Native f k = refl
mute_link Cna f k = refl
mute_link Pv f k = refl

mute_unlock : (mode : Mode) → Mute (Some (first_place mode Unlock))
mute_unlock Virt = refl
mute_unlock Native = refl
mute_unlock Cna = refl
mute_unlock Pv = refl

module _ (m : World) (w : Waiter) (f : Frame) (inner : f.lock.wait ≡ true → IsThen f.then) where
  abbrev x : Fields
  x = m.word f.lock

  abbrev y : RwFields
  y = m.rw f.lock.index

  abbrev pub lead : Pc → Lead
  lead c = (course_in m w f c (target c f)).leads

  -- where the row leads
  abbrev pub to : Pc → Option Pc
  to c = (led f (lead c)).place

  pub mute : (c : Pc) → may_halt c ≡ false → chooses c ≡ false → nears c ≡ false → Mute (to c)
  mute F1 a b p = either_mute f (is_free x) _ _ (after f inner) (mute_fast m.mode x)
  mute T1 a b p = either_mute f (is_free x) _ _ refl refl
  mute T2 a b p = either_mute f (is_free x) _ _ (after f inner) refl
  mute U1 a b p = refl
  mute V1 a b p = either_row (is_free x) V2 V1 refl refl
  mute V2 a b p = either_mute f (is_free x) _ _ (after f inner) refl
  mute P0 a b p = mute_queue x
  mute P1 a b p =
      either_row x.pending G1 _ refl
      (either_row (is_some x.tail) P2 _ refl (either_row (is_unlocked x.locked) P4 P3 refl refl))
  mute P2 a b p = refl
  mute P3 a b p = either_row (is_unlocked x.locked) P4 P3 refl refl
  mute P4 a b p = after f inner
  mute G1 a b p = mute_entry m.mode (own_node w.cpu (m.queued w.cpu))
  mute G2 a b p = either_row (is_free x) G3 G4 refl refl
  mute G3 a b p = either_mute f (is_free x) _ _ (after f inner) refl
  mute G5 a b p = mute_link m.mode f m.turns
  mute G11 a b p = after f inner
  mute N1 a b p = either_row (is_free x) N2 N1 refl refl
  mute N2 a b p = either_mute f (is_free x) _ _ (after f inner) refl
  mute R1 a b p = either_mute f (is_open y) _ _ refl (either_row (f.ctx == 0) R3 R2 refl refl)
  mute R2 a b p = either_mute f y.writer _ _ refl refl
  mute R3 a b p = refl
  mute R4 a b p = refl
  mute R5 a b p = either_mute f y.writer _ _ refl (mute_unlock m.mode)
  mute Wr1 a b p = either_mute f (is_empty y) _ _ refl refl
  mute Wr2 a b p = either_row (is_empty y) Wr3 Wr4 refl refl
  mute Wr3 a b p = either_mute f (is_empty y) _ _ (mute_unlock m.mode) refl
  mute Wr4 a b p = refl
  mute Wr5 a b p = either_row (is_cleared y) Wr6 Wr5 refl refl
  mute Wr6 a b p = either_mute f (is_cleared y) _ _ (mute_unlock m.mode) refl
  mute Y1 a b p = either_mute f (is_open y) _ _ refl refl
  mute Y2 a b p = either_mute f (is_open y) _ _ refl refl
  mute Y3 a b p = refl
  mute Y4 a b p = either_mute f (is_empty y) _ _ refl refl
  mute Y5 a b p = either_mute f (is_empty y) _ _ refl refl
  mute Z1 a b p = refl
  mute Z2 a b p = refl
  mute _ a b p = cc (a, b, p)
