-- What rows do to the tails of words; and who comes to a queue goes on so.
use Rattle.std.proofs.Common.{◌≡◌, ◌≢◌, ◌⊎◌, ◌<◌, inl, inr, ℕ, Option, Some, None, Bool, true}
use Rattle.std.proofs.Common.{false, refl, sym, ap, ◌∙◌, subst, arith, if◌then◌else◌, is_some}
use Rattle.lk_waits.proofs.Names.{RwFields, Fields, NodeName, same_lock, LockName, Mode, Cna}
use Rattle.lk_waits.proofs.Names.{Native, Pv, Virt, Waiter, node_of, Effect, target, Flag, Frame}
use Rattle.lk_waits.proofs.Names.{Pc, F1, G1, G2, G3, G4, G5, G6, G7, G8, G9, G10, G11, N1, N2, P0}
use Rattle.lk_waits.proofs.Names.{P1, P2, P3, P4, R1, R2, R3, R4, R5, T1, T2, U1, V1, V2, Wr1, Wr2}
use Rattle.lk_waits.proofs.Names.{Wr3, Wr4, Wr5, Wr6, Y1, Y2, Y3, Y4, Y5, Z1, Z2, after_entry}
use Rattle.lk_waits.proofs.Names.{entry_row, flag_row, is_sole, next_row, own_node, rw_row, is_free}
use Rattle.lk_waits.proofs.Names.{lock_cases, if-false, if-true, same_lock-else, same_lock-self}
use Rattle.lk_waits.proofs.Names.{halts, chooses, may_halt, course_in, stored_in, led, World}
use Rattle.lk_waits.proofs.Names.{comes_by}

-- a store that leaves the tail, or leaves none
abbrev Leaves_tail : Option NodeName → Option Fields → Type 0
Leaves_tail t o = (o ≡ None) ⊎ ((z : Fields) × (o ≡ Some z) × ((z.tail ≡ t) ⊎ (z.tail ≡ None)))

either_store : (t : Option NodeName) (b : Bool) (x y : Effect Fields) → Leaves_tail t x.stores → Leaves_tail t y.stores
    → Leaves_tail t (if b then x else y).stores
either_store t true x y h k = h
either_store t false x y h k = k

module _ (m : World) (w : Waiter) (f : Frame) where
  abbrev x : Fields
  x = m.word f.lock

  abbrev pub Kept : LockName → Option NodeName → Type 0
  Kept k t = (t ≡ (m.word k).tail) ⊎ (t ≡ None)

  word_kept : (o : Option Fields) → Leaves_tail x.tail o → (k : LockName)
      → Kept k ((Rattle.lk_law.specs.Steps.stores_word m f.lock o).word k).tail
  word_kept None h k = inl refl
  word_kept (Some z) (inl h) k = cc h
  word_kept (Some z) (inr h) k =
      elim (lock_cases k f.lock) [
        | inl same ↦
            let is : (if same_lock k f.lock then z else m.word k) ≡ z =
            if-true (same_lock k f.lock) z (m.word k) (subst (λ (l : LockName). same_lock k l ≡ true) same (same_lock-self k)) in
            let at : z ≡ h.0 = (let e = h.1 in cc e) in
            elim h.2 [
              | inl t ↦ inl (ap (λ (y : Fields). y.tail) (is ∙ at) ∙ t ∙ ap (λ (l : LockName). (m.word l).tail) (sym same))
              | inr t ↦ inr (ap (λ (y : Fields). y.tail) (is ∙ at) ∙ t)
            ]
        | inr ne ↦ inl (ap (λ (y : Fields). y.tail) (if-false (same_lock k f.lock) z (m.word k) (same_lock-else k f.lock ne)))
      ]

  flag_word : (n : NodeName) (o : Option Flag) (k : LockName) → Kept k ((Rattle.lk_law.specs.Steps.stores_flag m n o).word k).tail
  flag_word n None k = inl refl
  flag_word n (Some z) k = inl refl

  next_word : (n : NodeName) (o : Option (Option NodeName)) (k : LockName) → Kept k ((Rattle.lk_law.specs.Steps.stores_next m n o).word k).tail
  next_word n None k = inl refl
  next_word n (Some z) k = inl refl

  queued_word : (p : ℕ) (o : Option ℕ) (k : LockName) → Kept k ((Rattle.lk_law.specs.Steps.stores_queued m p o).word k).tail
  queued_word p None k = inl refl
  queued_word p (Some z) k = inl refl

  rw_word : (i : ℕ) (o : Option RwFields) (k : LockName) → Kept k ((Rattle.lk_law.specs.Steps.stores_rw m i o).word k).tail
  rw_word i None k = inl refl
  rw_word i (Some z) k = inl refl

  took : Leaves_tail x.tail (Some Rattle.lk_rows.specs.rows.Spin.held_word)
  took = inr (Rattle.lk_rows.specs.rows.Spin.held_word, refl, inr refl)

  -- every row but the arrival leaves the tail of each word, or leaves none
  pub tails : (c : Pc) → may_halt c ≡ false → chooses c ≡ false → c ≢ G4 → (k : LockName)
      → Kept k ((stored_in m w f c (target c f)).word k).tail
  tails F1 a b g k = word_kept _ (either_store x.tail (is_free x) _ _ took (inl refl)) k
  tails T1 a b g k = word_kept _ (either_store x.tail (is_free x) _ _ (inl refl) (inl refl)) k
  tails T2 a b g k = word_kept _ (either_store x.tail (is_free x) _ _ took (inl refl)) k
  tails U1 a b g k = word_kept _ (inr (_, refl, inl refl)) k
  tails V1 a b g k = word_kept _ (inl refl) k
  tails V2 a b g k = word_kept _ (either_store x.tail (is_free x) _ _ took (inl refl)) k
  tails P0 a b g k = word_kept _ (inl refl) k
  tails P1 a b g k = word_kept _ (inr (_, refl, inl refl)) k
  tails P2 a b g k = word_kept _ (inr (_, refl, inl refl)) k
  tails P3 a b g k = word_kept _ (inl refl) k
  tails P4 a b g k = word_kept _ (inr (_, refl, inl refl)) k
  tails G1 a b g k = queued_word w.cpu (entry_row m.mode w.cpu (m.queued w.cpu)).stores k
  tails G2 a b g k = word_kept _ (inl refl) k
  tails G3 a b g k = word_kept _ (either_store x.tail (is_free x) _ _ took (inl refl)) k
  tails G4 a b g k = absurd (g refl)
  tails G5 a b g k = next_word (node_of f.prev) (next_row m.mode m.turns G5 f (m.node (node_of f.prev)).next).stores k
  tails G6 a b g k = flag_word (node_of f.me) (flag_row G6 f (m.node (node_of f.me)).flag).stores k
  tails G7 a b g k = word_kept _ (inl refl) k
  tails G8 a b g k = word_kept _ (either_store x.tail (is_sole f x) _ _ took (inl refl)) k
  tails G9 a b g k = word_kept _ (inr (_, refl, inl refl)) k
  tails G10 a b g k = next_word (node_of f.me) (next_row m.mode m.turns G10 f (m.node (node_of f.me)).next).stores k
  tails G11 a b g k = flag_word (node_of f.y) (flag_row G11 f (m.node (node_of f.y)).flag).stores k
  tails N1 a b g k = word_kept _ (inl refl) k
  tails N2 a b g k = word_kept _ (either_store x.tail (is_free x) _ _ took (inl refl)) k
  tails R1 a b g k = rw_word f.lock.index (rw_row m.mode R1 f (m.rw f.lock.index)).stores k
  tails R2 a b g k = rw_word f.lock.index (rw_row m.mode R2 f (m.rw f.lock.index)).stores k
  tails R3 a b g k = rw_word f.lock.index (rw_row m.mode R3 f (m.rw f.lock.index)).stores k
  tails R4 a b g k = rw_word f.lock.index (rw_row m.mode R4 f (m.rw f.lock.index)).stores k
  tails R5 a b g k = rw_word f.lock.index (rw_row m.mode R5 f (m.rw f.lock.index)).stores k
  tails Wr1 a b g k = rw_word f.lock.index (rw_row m.mode Wr1 f (m.rw f.lock.index)).stores k
  tails Wr2 a b g k = rw_word f.lock.index (rw_row m.mode Wr2 f (m.rw f.lock.index)).stores k
  tails Wr3 a b g k = rw_word f.lock.index (rw_row m.mode Wr3 f (m.rw f.lock.index)).stores k
  tails Wr4 a b g k = rw_word f.lock.index (rw_row m.mode Wr4 f (m.rw f.lock.index)).stores k
  tails Wr5 a b g k = rw_word f.lock.index (rw_row m.mode Wr5 f (m.rw f.lock.index)).stores k
  tails Wr6 a b g k = rw_word f.lock.index (rw_row m.mode Wr6 f (m.rw f.lock.index)).stores k
  tails Y1 a b g k = rw_word f.lock.index (rw_row m.mode Y1 f (m.rw f.lock.index)).stores k
  tails Y2 a b g k = rw_word f.lock.index (rw_row m.mode Y2 f (m.rw f.lock.index)).stores k
  tails Y3 a b g k = rw_word f.lock.index (rw_row m.mode Y3 f (m.rw f.lock.index)).stores k
  tails Y4 a b g k = rw_word f.lock.index (rw_row m.mode Y4 f (m.rw f.lock.index)).stores k
  tails Y5 a b g k = rw_word f.lock.index (rw_row m.mode Y5 f (m.rw f.lock.index)).stores k
  tails Z1 a b g k = rw_word f.lock.index (rw_row m.mode Z1 f (m.rw f.lock.index)).stores k
  tails Z2 a b g k = rw_word f.lock.index (rw_row m.mode Z2 f (m.rw f.lock.index)).stores k
  tails _ a b g k = cc (a, b)

  -- the arrival makes the acting frame's node the tail
  pub arrived : ((stored_in m w f G4 (target G4 f)).word f.lock).tail ≡ f.me
  arrived = ap (λ (y : Fields). y.tail) (if-true (same_lock f.lock f.lock) (record x { tail = f.me }) (m.word f.lock) (same_lock-self f.lock))

  pub elsewhere : (k : LockName) → k ≢ f.lock → ((stored_in m w f G4 (target G4 f)).word k).tail ≡ (m.word k).tail
  elsewhere k ne = ap (λ (y : Fields). y.tail) (if-false (same_lock k f.lock) (record x { tail = f.me }) (m.word k) (same_lock-else k f.lock ne))

  abbrev pub next_frame : Pc → Frame
  next_frame c = led f (course_in m w f c (target c f)).leads

  -- who comes goes on so, up to its arrival; and, if bare is yes, also who polls beside the queue
  pub record GoesOn (bare : Bool) (c : Pc) : Type 0 where
    pub place : Pc
    pub at : (next_frame c).place ≡ Some place
    pub comes : comes_by bare place ≡ true
    pub lock : (next_frame c).lock ≡ f.lock

  -- a word that is free has no tail
  tailed : is_free x ≡ true → x.tail ≡ None
  tailed e = by x.tail refl
    where
      by : (t : Option NodeName) → x.tail ≡ t → x.tail ≡ None
      by None q = q
      by (Some n) q = absurd (grind (arith, e, q))

  pub comes_on : (bare : Bool) (c : Pc) → comes_by bare c ≡ true → c ≢ G4 → halts m.mode ≡ false
      → (bare ≡ false → c ≡ G1 → m.queued w.cpu < 4) → ((m.word f.lock).tail ≡ None → ⊥) → GoesOn bare c
  comes_on bare P2 h g awake room some = record { place = G1; at = refl; comes = refl; lock = refl }
  comes_on bare G1 h g awake room some =
      record { place = after_entry m.mode (own_node w.cpu (m.queued w.cpu)); at = refl; comes = by m.mode (own_node w.cpu (m.queued w.cpu)) awake noded; lock = refl }
    where
      noded : bare ≡ false → is_some (own_node w.cpu (m.queued w.cpu)) ≡ true
      noded e = let z = room e refl in grind (arith, z)

      only : (b : Bool) → (b ≡ false → false ≡ true) → b ≡ true
      only true h = refl
      only false h = let z = h refl in cc z

      by : (mode : Mode) (me : Option NodeName) → halts mode ≡ false → (bare ≡ false → is_some me ≡ true)
          → comes_by bare (after_entry mode me) ≡ true
      by Virt (Some n) a h = refl
      by Native (Some n) a h = refl
      by Cna (Some n) a h = refl
      by Pv me a h = cc a
      by Virt None a h = only bare h
      by Native None a h = only bare h
      by Cna None a h = only bare h
  comes_on bare G2 h g awake room some = by (is_free x) refl
    where
      by : (b : Bool) → is_free x ≡ b → GoesOn bare G2
      by true e = record { place = G3; at = ap (λ (b : Bool). Some (if b then G3 else G4)) e; comes = refl; lock = refl }
      by false e = record { place = G4; at = ap (λ (b : Bool). Some (if b then G3 else G4)) e; comes = refl; lock = refl }
  comes_on bare G3 h g awake room some = by (is_free x) refl
    where
      by : (b : Bool) → is_free x ≡ b → GoesOn bare G3
      by true e = absurd (some (tailed e))
      by false e =
          let P : Bool → Type 0 = λ b. (led f (if b then Rattle.lk_rows.specs.rows.Queue.takes_out f Rattle.lk_names.specs.declared.events.How.TheVariants.Retry else Rattle.lk_rows.specs.Row.looks G4).leads).place ≡ Some G4 in
          let Q : Bool → Type 0 = λ b. (led f (if b then Rattle.lk_rows.specs.rows.Queue.takes_out f Rattle.lk_names.specs.declared.events.How.TheVariants.Retry else Rattle.lk_rows.specs.Row.looks G4).leads).lock ≡ f.lock in
          record { place = G4; at = subst P (sym e) refl; comes = refl; lock = subst Q (sym e) refl }
  comes_on bare G4 h g awake room some = absurd (g refl)
  comes_on bare N1 h g awake room some = by (is_free x) refl
    where
      by : (b : Bool) → is_free x ≡ b → GoesOn bare N1
      by true e = record { place = N2; at = ap (λ (b : Bool). Some (if b then N2 else N1)) e; comes = h; lock = refl }
      by false e = record { place = N1; at = ap (λ (b : Bool). Some (if b then N2 else N1)) e; comes = h; lock = refl }
  comes_on bare N2 h g awake room some = by (is_free x) refl
    where
      by : (b : Bool) → is_free x ≡ b → GoesOn bare N2
      by true e = absurd (some (tailed e))
      by false e =
          let P : Bool → Type 0 = λ b. (led f (if b then Rattle.lk_rows.specs.rows.Queue.takes_out f Rattle.lk_names.specs.declared.events.How.TheVariants.NoNode else Rattle.lk_rows.specs.Row.looks N1).leads).place ≡ Some N1 in
          let Q : Bool → Type 0 = λ b. (led f (if b then Rattle.lk_rows.specs.rows.Queue.takes_out f Rattle.lk_names.specs.declared.events.How.TheVariants.NoNode else Rattle.lk_rows.specs.Row.looks N1).leads).lock ≡ f.lock in
          record { place = N1; at = subst P (sym e) refl; comes = h; lock = subst Q (sym e) refl }
  comes_on bare _ h g awake room some = cc h
