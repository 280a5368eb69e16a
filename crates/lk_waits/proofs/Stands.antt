-- Which rows can leave a frame where it was, and what they met then.
use Rattle.std.proofs.Common.{◌≡◌, inl, inr, Option, Some, None, Bool, true, false, refl, sym, ap}
use Rattle.std.proofs.Common.{◌∙◌, if◌then◌else◌, is_some, ◌&&◌, not, ◌==◌}
use Rattle.lk_waits.proofs.Names.{cases_Bool, RwFields, Fields, NodeName, same_waiter, Mode, Cna}
use Rattle.lk_waits.proofs.Names.{Native, Pv, Virt, Waiter, first_place, is_node, node_of, Effect}
use Rattle.lk_waits.proofs.Names.{target, Flag, Frame, Pc, F1, G1, G2, G3, G4, G5, G6, G7, G8, G9}
use Rattle.lk_waits.proofs.Names.{G10, G11, N1, N2, P0, P1, P2, P3, P4, R1, R2, R3, R4, R5, T1, T2}
use Rattle.lk_waits.proofs.Names.{U1, U2, V1, V2, Wr1, Wr2, Wr3, Wr4, Wr5, Wr6, Y1, Y2, Y3, Y4, Y5}
use Rattle.lk_waits.proofs.Names.{Z1, Z2, Unlock, after_arrival, after_entry, after_flag}
use Rattle.lk_waits.proofs.Names.{after_head, after_link, after_next, is_sole, own_node, is_cleared}
use Rattle.lk_waits.proofs.Names.{is_empty, is_open, after_fast, is_free, is_unlocked, if-true}
use Rattle.lk_waits.proofs.Names.{same_waiter-self, row_is_done, chooses, may_halt, course_in}
use Rattle.lk_waits.proofs.Names.{IsThen, led, World, StandsStill, polls}
use Rattle.lk_rows.specs.rows.Rw.{frees_wait}
use Rattle.lk_rows.specs.declared.parts.Flag.TheVariants as flag

-- the place is not this row
abbrev pub Off : Pc → Option Pc → Type 0
Off c o = o ≡ Some c → ⊥

either_off : {A : Type 0} (c : Pc) (f : Frame) (b : Bool) (x y : Effect A) → Off c (led f x.leads).place
    → Off c (led f y.leads).place → Off c (led f (if b then x else y).leads).place
either_off c f true x y h k = h
either_off c f false x y h k = k

either_row : (c : Pc) (b : Bool) (d e : Pc) → Off c (Some d) → Off c (Some e) → Off c (Some (if b then d else e))
either_row c true d e h k = h
either_row c false d e h k = k

-- where a frame goes on that has the lock
after : (c : Pc) (f : Frame) → (f.lock.wait ≡ true → IsThen f.then) → Off c (Some R4) → Off c (Some Wr2)
    → Off c (if f.lock.wait then f.then else None)
after c f inner a b =
    elim (cases_Bool f.lock.wait) [
      | inl e ↦ rw e (elim (inner e) [ inl q ↦ λ z. a (sym q ∙ z) | inr q ↦ λ z. b (sym q ∙ z) ])
      | inr e ↦ rw e (λ z. cc z)
    ]

off_fast : (mode : Mode) (x : Fields) → Off F1 (Some (after_fast mode x))
off_fast Virt x = λ e. cc e
off_fast Pv x = λ e. cc e
off_fast Native x =
    either_row F1 (is_unlocked x.locked && x.pending && not (is_some x.tail)) P0 _ (λ e. cc e)
    (either_row F1 x.pending G1 _ (λ e. cc e) (either_row F1 (is_some x.tail) G1 P1 (λ e. cc e) (λ e. cc e)))
off_fast Cna x =
    either_row F1 (is_unlocked x.locked && x.pending && not (is_some x.tail)) P0 _ (λ e. cc e)
    (either_row F1 x.pending G1 _ (λ e. cc e) (either_row F1 (is_some x.tail) G1 P1 (λ e. cc e) (λ e. cc e)))

off_entry : (mode : Mode) (me : Option NodeName) → Off G1 (Some (after_entry mode me))
off_entry Virt None = λ e. cc e
off_entry Native None = λ e. cc e
off_entry Cna None = λ e. cc e
off_entry Pv None = λ e. cc e
off_entry Virt (Some n) = λ e. cc e
off_entry Native (Some n) = λ e. cc e
off_entry Cna (Some n) = λ e. cc e
off_entry Pv (Some n) = λ e. cc e

off_arrival : (mode : Mode) (f : Frame) (t : Option NodeName) → Off G4 (led f (after_arrival mode t).leads).place
off_arrival Virt f None = λ e. cc e
off_arrival Native f None = λ e. cc e
off_arrival Cna f None = λ e. cc e
off_arrival Pv f None = λ e. cc e
off_arrival Virt f (Some n) = λ e. cc e
off_arrival Native f (Some n) = λ e. cc e
off_arrival Cna f (Some n) = λ e. cc e
off_arrival Pv f (Some n) = λ e. cc e

off_link : (mode : Mode) (f : Frame) (k : Rattle.std.specs.Prelude.ℕ) → Off G5 (led f (after_link mode k)).place
off_link Virt f k = λ e. cc e
off_link Native f k = λ e. cc e
off_link Cna f k = λ e. cc e
off_link Pv f k = λ e. cc e

off_head : (mode : Mode) → Off G9 (Some (after_head mode))
off_head Virt = λ e. cc e
off_head Native = λ e. cc e
off_head Cna = λ e. cc e
off_head Pv = λ e. cc e

pub off_unlock : (c : Pc) → Off c (Some U1) → Off c (Some U2) → (mode : Mode) → Off c (Some (first_place mode Unlock))
off_unlock c a b Virt = a
off_unlock c a b Native = a
off_unlock c a b Cna = a
off_unlock c a b Pv = b

module _ (m : World) (w : Waiter) (f : Frame) (inner : f.lock.wait ≡ true → IsThen f.then) where
  abbrev x : Fields
  x = m.word f.lock

  abbrev y : RwFields
  y = m.rw f.lock.index

  -- a row that is no poll, of a family that neither halts nor chooses, leads elsewhere
  pub off : (c : Pc) → may_halt c ≡ false → chooses c ≡ false → polls c ≡ false
      → Off c (led f (course_in m w f c (target c f)).leads).place
  off F1 a b p = either_off F1 f (is_free x) _ _ (after F1 f inner (λ e. cc e) (λ e. cc e)) (off_fast m.mode x)
  off T1 a b p = either_off T1 f (is_free x) _ _ (λ e. cc e) (λ e. cc e)
  off T2 a b p = either_off T2 f (is_free x) _ _ (after T2 f inner (λ e. cc e) (λ e. cc e)) (λ e. cc e)
  off U1 a b p = λ e. cc e
  off V2 a b p = either_off V2 f (is_free x) _ _ (after V2 f inner (λ e. cc e) (λ e. cc e)) (λ e. cc e)
  off P0 a b p = either_row P0 x.pending G1 _ (λ e. cc e) (either_row P0 (is_some x.tail) G1 P1 (λ e. cc e) (λ e. cc e))
  off P1 a b p =
      either_row P1 x.pending G1 _ (λ e. cc e)
      (either_row P1 (is_some x.tail) P2 _ (λ e. cc e) (either_row P1 (is_unlocked x.locked) P4 P3 (λ e. cc e) (λ e. cc e)))
  off P2 a b p = λ e. cc e
  off P4 a b p = after P4 f inner (λ e. cc e) (λ e. cc e)
  off G1 a b p = off_entry m.mode (own_node w.cpu (m.queued w.cpu))
  off G2 a b p = either_row G2 (is_free x) G3 G4 (λ e. cc e) (λ e. cc e)
  off G3 a b p = either_off G3 f (is_free x) _ _ (after G3 f inner (λ e. cc e) (λ e. cc e)) (λ e. cc e)
  off G4 a b p = off_arrival m.mode f x.tail
  off G5 a b p = off_link m.mode f m.turns
  off G8 a b p = either_off G8 f (is_sole f x) _ _ (after G8 f inner (λ e. cc e) (λ e. cc e)) (λ e. cc e)
  off G9 a b p = off_head m.mode
  off G11 a b p = after G11 f inner (λ e. cc e) (λ e. cc e)
  off N2 a b p = either_off N2 f (is_free x) _ _ (after N2 f inner (λ e. cc e) (λ e. cc e)) (λ e. cc e)
  off R1 a b p = either_off R1 f (is_open y) _ _ (λ e. cc e) (either_row R1 (f.ctx == 0) R3 R2 (λ e. cc e) (λ e. cc e))
  off R3 a b p = λ e. cc e
  off R4 a b p = λ e. cc e
  off Wr1 a b p = either_off Wr1 f (is_empty y) _ _ (λ e. cc e) (λ e. cc e)
  off Wr2 a b p = either_row Wr2 (is_empty y) Wr3 Wr4 (λ e. cc e) (λ e. cc e)
  off Wr3 a b p = either_off Wr3 f (is_empty y) _ _ (off_unlock Wr3 (λ e. cc e) (λ e. cc e) m.mode) (λ e. cc e)
  off Wr4 a b p = λ e. cc e
  off Wr6 a b p = either_off Wr6 f (is_cleared y) _ _ (off_unlock Wr6 (λ e. cc e) (λ e. cc e) m.mode) (λ e. cc e)
  off Y1 a b p = either_off Y1 f (is_open y) _ _ (λ e. cc e) (λ e. cc e)
  off Y2 a b p = either_off Y2 f (is_open y) _ _ (λ e. cc e) (λ e. cc e)
  off Y3 a b p = λ e. cc e
  off Y4 a b p = either_off Y4 f (is_empty y) _ _ (λ e. cc e) (λ e. cc e)
  off Y5 a b p = either_off Y5 f (is_empty y) _ _ (λ e. cc e) (λ e. cc e)
  off Z1 a b p = λ e. cc e
  off Z2 a b p = λ e. cc e
  off _ a b p = cc (a, b, p)

  -- the frame that stands still is where it was
  still_place : (c : Pc) → f.place ≡ Some c → StandsStill m w f c
      → (led f (course_in m w f c (target c f)).leads).place ≡ Some c
  still_place c at still =
      let done = row_is_done m w f c (target c f) in
      let now : Some (led f (course_in m w f c (target c f)).leads) ≡ Some f =
      sym (done.frame w ∙ if-true (same_waiter w w) (Some (led f (course_in m w f c (target c f)).leads)) (m.frame w) (same_waiter-self w)) ∙ still in
      let same : led f (course_in m w f c (target c f)).leads ≡ f = cc now in
      ap (λ (g : Frame). g.place) same ∙ at

  -- so it stands at a poll
  pub still_polls : (c : Pc) → may_halt c ≡ false → chooses c ≡ false → f.place ≡ Some c
      → StandsStill m w f c → polls c ≡ true
  still_polls c a b at still =
      elim (cases_Bool (polls c)) [
        | inl e ↦ e
        | inr e ↦ absurd (off c a b e (still_place c at still))
      ]

  -- and what it met did not let it go on

  pub still_V1 : f.place ≡ Some V1 → StandsStill m w f V1 → is_free x ≡ false
  still_V1 at still = by (is_free x) (still_place V1 at still)
    where
      by : (b : Bool) → Some (if b then V2 else V1) ≡ Some V1 → b ≡ false
      by true e = cc e
      by false e = refl

  pub still_N1 : f.place ≡ Some N1 → StandsStill m w f N1 → is_free x ≡ false
  still_N1 at still = by (is_free x) (still_place N1 at still)
    where
      by : (b : Bool) → Some (if b then N2 else N1) ≡ Some N1 → b ≡ false
      by true e = cc e
      by false e = refl

  pub still_P3 : f.place ≡ Some P3 → StandsStill m w f P3 → is_unlocked x.locked ≡ false
  still_P3 at still = by (is_unlocked x.locked) (still_place P3 at still)
    where
      by : (b : Bool) → Some (if b then P4 else P3) ≡ Some P3 → b ≡ false
      by true e = cc e
      by false e = refl

  pub still_G6 : f.place ≡ Some G6 → StandsStill m w f G6 → (m.node (node_of f.me)).flag ≡ flag.Unset
  still_G6 at still = by (m.node (node_of f.me)).flag (still_place G6 at still)
    where
      by : (n : Flag) → (led f (after_flag n).leads).place ≡ Some G6 → n ≡ flag.Unset
      by flag.Unset e = refl
      by flag.Go e = cc e
      by (flag.Second n) e = cc e

  pub still_G7 : f.place ≡ Some G7 → StandsStill m w f G7 → is_unlocked x.locked && not x.pending ≡ false
  still_G7 at still = by (is_unlocked x.locked && not x.pending) (still_place G7 at still)
    where
      by : (b : Bool) → Some (if b then (if is_node x.tail (node_of f.me) && not (is_some f.second) then G8 else G9) else G7) ≡ Some G7 → b ≡ false
      by true e = absurd (either_row G7 (is_node x.tail (node_of f.me) && not (is_some f.second)) G8 G9 (λ z. cc z) (λ z. cc z) e)
      by false e = refl

  pub still_G10 : f.place ≡ Some G10 → StandsStill m w f G10 → (m.node (node_of f.me)).next ≡ None
  still_G10 at still = by (m.node (node_of f.me)).next (still_place G10 at still)
    where
      by : (n : Option NodeName) → (led f (after_next n).leads).place ≡ Some G10 → n ≡ None
      by None e = refl
      by (Some n) e = cc e

  pub still_R2 : f.place ≡ Some R2 → StandsStill m w f R2 → y.writer ≡ true
  still_R2 at still = by y.writer (still_place R2 at still)
    where
      by : (b : Bool) → (led f (if b then Rattle.lk_rows.specs.Row.looks R2 else Rattle.lk_rows.specs.rows.Rw.admits f None Rattle.lk_names.specs.declared.events.RwHow.TheVariants.Irq Rattle.lk_rows.specs.Row.Done).leads).place ≡ Some R2 → b ≡ true
      by true e = refl
      by false e = cc e

  pub still_R5 : f.place ≡ Some R5 → StandsStill m w f R5 → y.writer ≡ true
  still_R5 at still = by y.writer (still_place R5 at still)
    where
      by : (b : Bool) → (led f (if b then Rattle.lk_rows.specs.Row.looks R5 else Rattle.lk_rows.specs.rows.Rw.admits f None Rattle.lk_names.specs.declared.events.RwHow.TheVariants.Queued (frees_wait m.mode)).leads).place ≡ Some R5 → b ≡ true
      by true e = refl
      by false e = absurd (off_unlock R5 (λ z. cc z) (λ z. cc z) m.mode e)

  pub still_Wr5 : f.place ≡ Some Wr5 → StandsStill m w f Wr5 → is_cleared y ≡ false
  still_Wr5 at still = by (is_cleared y) (still_place Wr5 at still)
    where
      by : (b : Bool) → Some (if b then Wr6 else Wr5) ≡ Some Wr5 → b ≡ false
      by true e = cc e
      by false e = refl
