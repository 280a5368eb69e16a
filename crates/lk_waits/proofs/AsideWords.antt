-- What rows do to the words of locks, where waiters are moved aside.
use Rattle.std.proofs.Common.{◌≡◌, ◌≢◌, ◌⊎◌, inl, inr, ℕ, Option, Some, None, Bool, true, false}
use Rattle.std.proofs.Common.{refl, sym, ◌∙◌, subst, if◌then◌else◌}
use Rattle.lk_waits.proofs.Names.{RwFields, Fields, NodeName, same_lock, LockName, Waiter, node_of}
use Rattle.lk_waits.proofs.Names.{Effect, target, Flag, Frame, Pc, C1, C2, C3, C4, C5, C6, C7, C8}
use Rattle.lk_waits.proofs.Names.{C9, C10, F1, G1, G2, G3, G4, G5, G6, G7, G8, G9, G10, G11, N1, N2}
use Rattle.lk_waits.proofs.Names.{P0, P1, P2, P3, P4, R1, R2, R3, R4, R5, T1, T2, U1, V1, V2, Wr1}
use Rattle.lk_waits.proofs.Names.{Wr2, Wr3, Wr4, Wr5, Wr6, Y1, Y2, Y3, Y4, Y5, Z1, Z2, runs_row}
use Rattle.lk_waits.proofs.Names.{search_row, second_row, entry_row, flag_row, is_sole, next_row}
use Rattle.lk_waits.proofs.Names.{rw_row, is_free, lock_cases, if-false, if-true, same_lock-else}
use Rattle.lk_waits.proofs.Names.{same_lock-self, may_halt, stored_in, sight_in, World}
use Rattle.lk_rows.specs.rows.Cna.{handover_row}

-- a store that leaves the tail, and pending or not pending; or leaves no tail
abbrev pub Like : Fields → Fields → Type 0
Like x z = ((z.tail ≡ x.tail) × ((z.pending ≡ x.pending) ⊎ (z.pending ≡ false))) ⊎ (z.tail ≡ None)

abbrev Leaves_tail : Fields → Option Fields → Type 0
Leaves_tail t o = (o ≡ None) ⊎ ((z : Fields) × (o ≡ Some z) × Like t z)

either_store : (t : Fields) (b : Bool) (x y : Effect Fields) → Leaves_tail t x.stores → Leaves_tail t y.stores
    → Leaves_tail t (if b then x else y).stores
either_store t true x y h k = h
either_store t false x y h k = k

module _ (m : World) (w : Waiter) (f : Frame) where
  abbrev x : Fields
  x = m.word f.lock

  abbrev pub Kept : LockName → Fields → Type 0
  Kept k y = Like (m.word k) y

  word_kept : (o : Option Fields) → Leaves_tail x o → (k : LockName)
      → Kept k ((Rattle.lk_law.specs.Steps.stores_word m f.lock o).word k)
  word_kept None h k = inl (refl, inl refl)
  word_kept (Some z) (inl h) k = cc h
  word_kept (Some z) (inr h) k =
      elim (lock_cases k f.lock) [
        | inl same ↦
            let is : (if same_lock k f.lock then z else m.word k) ≡ z =
            if-true (same_lock k f.lock) z (m.word k) (subst (λ (l : LockName). same_lock k l ≡ true) same (same_lock-self k)) in
            let at : z ≡ h.0 = (let e = h.1 in cc e) in
            subst (λ (y : Fields). Like (m.word k) y) (sym (is ∙ at))
            (subst (λ (l : LockName). Like (m.word l) h.0) (sym same) h.2)
        | inr ne ↦
            subst (λ (y : Fields). Like (m.word k) y)
            (sym (if-false (same_lock k f.lock) z (m.word k) (same_lock-else k f.lock ne))) (inl (refl, inl refl))
      ]

  flag_word : (n : NodeName) (o : Option Flag) (k : LockName) → Kept k ((Rattle.lk_law.specs.Steps.stores_flag m n o).word k)
  flag_word n None k = inl (refl, inl refl)
  flag_word n (Some z) k = inl (refl, inl refl)

  next_word : (n : NodeName) (o : Option (Option NodeName)) (k : LockName) → Kept k ((Rattle.lk_law.specs.Steps.stores_next m n o).word k)
  next_word n None k = inl (refl, inl refl)
  next_word n (Some z) k = inl (refl, inl refl)

  second_word : (n : NodeName) (o : Option (Option NodeName)) (k : LockName) → Kept k ((Rattle.lk_law.specs.Steps.stores_second m n o).word k)
  second_word n None k = inl (refl, inl refl)
  second_word n (Some z) k = inl (refl, inl refl)

  runs_word : (n : NodeName) (o : Option ℕ) (k : LockName) → Kept k ((Rattle.lk_law.specs.Steps.stores_runs m n o).word k)
  runs_word n None k = inl (refl, inl refl)
  runs_word n (Some z) k = inl (refl, inl refl)

  queued_word : (p : ℕ) (o : Option ℕ) (k : LockName) → Kept k ((Rattle.lk_law.specs.Steps.stores_queued m p o).word k)
  queued_word p None k = inl (refl, inl refl)
  queued_word p (Some z) k = inl (refl, inl refl)

  rw_word : (i : ℕ) (o : Option RwFields) (k : LockName) → Kept k ((Rattle.lk_law.specs.Steps.stores_rw m i o).word k)
  rw_word i None k = inl (refl, inl refl)
  rw_word i (Some z) k = inl (refl, inl refl)

  took : Leaves_tail x (Some Rattle.lk_rows.specs.rows.Spin.held_word)
  took = inr (Rattle.lk_rows.specs.rows.Spin.held_word, refl, inr refl)

  -- every row but P1, the arrival and the promotion
  pub words_kept : (c : Pc) → may_halt c ≡ false → c ≢ P1 → c ≢ G4 → c ≢ C10 → (k : LockName)
      → Kept k ((stored_in m w f c (target c f)).word k)
  words_kept F1 a p g q k = word_kept _ (either_store x (is_free x) _ _ took (inl refl)) k
  words_kept T1 a p g q k = word_kept _ (either_store x (is_free x) _ _ (inl refl) (inl refl)) k
  words_kept T2 a p g q k = word_kept _ (either_store x (is_free x) _ _ took (inl refl)) k
  words_kept U1 a p g q k = word_kept _ (inr (_, refl, inl (refl, inl refl))) k
  words_kept V1 a p g q k = word_kept _ (inl refl) k
  words_kept V2 a p g q k = word_kept _ (either_store x (is_free x) _ _ took (inl refl)) k
  words_kept P0 a p g q k = word_kept _ (inl refl) k
  words_kept P1 a p g q k = absurd (p refl)
  words_kept P2 a p g q k = word_kept _ (inr (_, refl, inl (refl, inr refl))) k
  words_kept P3 a p g q k = word_kept _ (inl refl) k
  words_kept P4 a p g q k = word_kept _ (inr (_, refl, inl (refl, inr refl))) k
  words_kept G1 a p g q k = queued_word w.cpu (entry_row m.mode w.cpu (m.queued w.cpu)).stores k
  words_kept G2 a p g q k = word_kept _ (inl refl) k
  words_kept G3 a p g q k = word_kept _ (either_store x (is_free x) _ _ took (inl refl)) k
  words_kept G4 a p g q k = absurd (g refl)
  words_kept C10 a p g q k = absurd (q refl)
  words_kept G5 a p g q k = next_word (node_of f.prev) (next_row m.mode m.turns G5 f (m.node (node_of f.prev)).next).stores k
  words_kept G6 a p g q k = flag_word (node_of f.me) (flag_row G6 f (m.node (node_of f.me)).flag).stores k
  words_kept G7 a p g q k = word_kept _ (inl refl) k
  words_kept G8 a p g q k = word_kept _ (either_store x (is_sole f x) _ _ took (inl refl)) k
  words_kept G9 a p g q k = word_kept _ (inr (_, refl, inl (refl, inl refl))) k
  words_kept G10 a p g q k = next_word (node_of f.me) (next_row m.mode m.turns G10 f (m.node (node_of f.me)).next).stores k
  words_kept G11 a p g q k = flag_word (node_of f.y) (flag_row G11 f (m.node (node_of f.y)).flag).stores k
  words_kept N1 a p g q k = word_kept _ (inl refl) k
  words_kept N2 a p g q k = word_kept _ (either_store x (is_free x) _ _ took (inl refl)) k
  words_kept R1 a p g q k = rw_word f.lock.index (rw_row m.mode R1 f (m.rw f.lock.index)).stores k
  words_kept R2 a p g q k = rw_word f.lock.index (rw_row m.mode R2 f (m.rw f.lock.index)).stores k
  words_kept R3 a p g q k = rw_word f.lock.index (rw_row m.mode R3 f (m.rw f.lock.index)).stores k
  words_kept R4 a p g q k = rw_word f.lock.index (rw_row m.mode R4 f (m.rw f.lock.index)).stores k
  words_kept R5 a p g q k = rw_word f.lock.index (rw_row m.mode R5 f (m.rw f.lock.index)).stores k
  words_kept Wr1 a p g q k = rw_word f.lock.index (rw_row m.mode Wr1 f (m.rw f.lock.index)).stores k
  words_kept Wr2 a p g q k = rw_word f.lock.index (rw_row m.mode Wr2 f (m.rw f.lock.index)).stores k
  words_kept Wr3 a p g q k = rw_word f.lock.index (rw_row m.mode Wr3 f (m.rw f.lock.index)).stores k
  words_kept Wr4 a p g q k = rw_word f.lock.index (rw_row m.mode Wr4 f (m.rw f.lock.index)).stores k
  words_kept Wr5 a p g q k = rw_word f.lock.index (rw_row m.mode Wr5 f (m.rw f.lock.index)).stores k
  words_kept Wr6 a p g q k = rw_word f.lock.index (rw_row m.mode Wr6 f (m.rw f.lock.index)).stores k
  words_kept Y1 a p g q k = rw_word f.lock.index (rw_row m.mode Y1 f (m.rw f.lock.index)).stores k
  words_kept Y2 a p g q k = rw_word f.lock.index (rw_row m.mode Y2 f (m.rw f.lock.index)).stores k
  words_kept Y3 a p g q k = rw_word f.lock.index (rw_row m.mode Y3 f (m.rw f.lock.index)).stores k
  words_kept Y4 a p g q k = rw_word f.lock.index (rw_row m.mode Y4 f (m.rw f.lock.index)).stores k
  words_kept Y5 a p g q k = rw_word f.lock.index (rw_row m.mode Y5 f (m.rw f.lock.index)).stores k
  words_kept Z1 a p g q k = rw_word f.lock.index (rw_row m.mode Z1 f (m.rw f.lock.index)).stores k
  words_kept Z2 a p g q k = rw_word f.lock.index (rw_row m.mode Z2 f (m.rw f.lock.index)).stores k
  words_kept C1 a p g q k = next_word (node_of f.me) (search_row (sight_in m w f) C1 f (m.node (node_of f.me)).next).stores k
  words_kept C2 a p g q k = next_word (node_of f.b) (search_row (sight_in m w f) C2 f (m.node (node_of f.b)).next).stores k
  words_kept C3 a p g q k = second_word (node_of f.second) (second_row C3 f (m.node (node_of f.second)).second_tail).stores k
  words_kept C4 a p g q k = next_word (node_of f.t) (search_row (sight_in m w f) C4 f (m.node (node_of f.t)).next).stores k
  words_kept C5 a p g q k = next_word (node_of f.b) (search_row (sight_in m w f) C5 f (m.node (node_of f.b)).next).stores k
  words_kept C6 a p g q k = second_word (node_of f.second) (second_row C6 f (m.node (node_of f.second)).second_tail).stores k
  words_kept C7 a p g q k = runs_word (node_of f.y) (runs_row (sight_in m w f) C7 f (m.node (node_of f.y)).runs).stores k
  words_kept C8 a p g q k = flag_word (node_of f.y) (handover_row C8 f (m.node (node_of f.y)).flag).stores k
  words_kept C9 a p g q k = next_word (node_of f.t) (search_row (sight_in m w f) C9 f (m.node (node_of f.t)).next).stores k
  words_kept _ a p g q k = cc a

  -- a store into the word of one lock leaves those of the others
  pub elsewhere_any : (o : Option Fields) (k : LockName) → k ≢ f.lock
      → (Rattle.lk_law.specs.Steps.stores_word m f.lock o).word k ≡ m.word k
  elsewhere_any None k ne = refl
  elsewhere_any (Some z) k ne = if-false (same_lock k f.lock) z (m.word k) (same_lock-else k f.lock ne)
