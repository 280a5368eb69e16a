-- What the rows of the family that halts processors do to words, flags and kicks, and where they lead.
use Rattle.std.proofs.Common.{◌≡◌, ◌≢◌, ◌⊎◌, inl, inr, ℕ, Option, Some, None, Bool, true, false}
use Rattle.std.proofs.Common.{refl, sym, ap, ◌∙◌, subst, arith, if◌then◌else◌, ◌&&◌, ◌==◌, ◌-◌}
use Rattle.lk_waits.proofs.Names.{RwFields, Fields, Locked, Slow, NodeName, same_lock, LockName}
use Rattle.lk_waits.proofs.Names.{Waiter, node_of, Effect, ChoiceFlag, ChoiceNext, ChoiceWord}
use Rattle.lk_waits.proofs.Names.{FlagOf, Halted, HashEntry, KickOf, NextOf, PvFlag, PvNext, PvWord}
use Rattle.lk_waits.proofs.Names.{QueueWord, Queued, RunsOf, RwWord, SecondTailOf, SpinWord}
use Rattle.lk_waits.proofs.Names.{StateOf, Target, target, Flag, Frame, Pc, E3, E4, E5, E7, E8, E11}
use Rattle.lk_waits.proofs.Names.{E13, F1, G4, H1, H2, K2, T1, T2, U2, U4, U5, State, is_held}
use Rattle.lk_waits.proofs.Names.{is_last, promotion_row, runs_row, search_row, second_row}
use Rattle.lk_waits.proofs.Names.{entry_row, flag_row, next_row, queue_row, rw_row, is_free}
use Rattle.lk_waits.proofs.Names.{is_unlocked, lock_cases, if-false, if-true, same_lock-else}
use Rattle.lk_waits.proofs.Names.{same_lock-self, stays_awake, stored_in, sight_in, stores_next}
use Rattle.lk_waits.proofs.Names.{stores_word, World}
use Rattle.lk_rows.specs.rows.Cna.{handover_row}
use Rattle.lk_rows.specs.rows.Pv.{pv_row, pv_flag_row, pv_next_row, state_row, hash_row, halt_row}
use Rattle.lk_rows.specs.{rows.Pv.kick_row, rows.Spin.spin_row}
use Rattle.lk_law.specs.Steps.{stores_flag, stores_second, stores_runs, stores_state, stores_entry}
use Rattle.lk_law.specs.Steps.{stores_halted, stores_kicked, stores_queued, stores_rw}

-- what the store of a row may make of a word: in this relation to what it was
abbrev pub Makes : (Fields → Fields → Type 0) → Fields → Option Fields → Type 0
Makes P x o = (o ≡ None) ⊎ ((z : Fields) × (o ≡ Some z) × P x z)

-- the tail stays, or there is none; and a byte that is slow stays so
abbrev pub LikeTail : Fields → Fields → Type 0
LikeTail x z = (z.tail ≡ x.tail) ⊎ (z.tail ≡ None)

abbrev pub LikeByte : Fields → Fields → Type 0
LikeByte x z = x.locked ≡ Slow → z.locked ≡ Slow

-- on a word
abbrev is_word : Target → Bool
is_word SpinWord = true
is_word QueueWord = true
is_word ChoiceWord = true
is_word PvWord = true
is_word _ = false

-- the rows of the family that may store into a word
abbrev pub moves_word : Pc → Bool
moves_word F1 = true
moves_word T1 = true
moves_word T2 = true
moves_word G4 = true
moves_word H1 = true
moves_word H2 = true
moves_word E3 = true
moves_word E4 = true
moves_word E5 = true
moves_word E7 = true
moves_word E8 = true
moves_word E11 = true
moves_word E13 = true
moves_word K2 = true
moves_word U2 = true
moves_word U4 = true
moves_word _ = false

quiet_word : (c : Pc) (f : Frame) → stays_awake c ≡ false → moves_word c ≡ false → is_word (target c f) ≡ false
quiet_word c f a e = grind (arith, a, e)

unslow : (b : Locked) (r : Bool) → is_unlocked b && r ≡ true → b ≡ Slow → ⊥
unslow b r e s = let z : is_unlocked b ≡ false = ap is_unlocked s in grind (arith, e, z)

unslow_free : (x : Fields) → is_free x ≡ true → x.locked ≡ Slow → ⊥
unslow_free x e s = let z : is_unlocked x.locked ≡ false = ap is_unlocked s in grind (arith, e, z)

unheld : (b : Locked) → is_held b ≡ true → b ≡ Slow → ⊥
unheld b e s = let z : is_held b ≡ false = ap is_held s in cc (z, e)

either_makes : (P : Fields → Fields → Type 0) (t : Fields) (b : Bool) (x y : Effect Fields)
    → (b ≡ true → Makes P t x.stores) → (b ≡ false → Makes P t y.stores) → Makes P t (if b then x else y).stores
either_makes P t true x y h k = h refl
either_makes P t false x y h k = k refl

either_same : {A : Type 0} (P : Option A → Type 0) (b : Bool) (x y : Effect A) → P x.stores → P y.stores
    → P (if b then x else y).stores
either_same P true x y h k = h
either_same P false x y h k = k

module _ (m : World) (w : Waiter) (f : Frame) where
  abbrev x : Fields
  x = m.word f.lock

  word_made : (P : Fields → Fields → Type 0) → ((z : Fields) → P z z) → (o : Option Fields) → Makes P x o
      → (k : LockName) → P (m.word k) ((stores_word m f.lock o).word k)
  word_made P same None h k = same (m.word k)
  word_made P same (Some z) (inl h) k = cc h
  word_made P same (Some z) (inr h) k =
      elim (lock_cases k f.lock) [
        | inl e ↦
            let is : (if same_lock k f.lock then z else m.word k) ≡ z =
            if-true (same_lock k f.lock) z (m.word k) (subst (λ (l : LockName). same_lock k l ≡ true) e (same_lock-self k)) in
            let at : z ≡ h.0 = (let q = h.1 in cc q) in
            subst (λ (y : Fields). P (m.word k) y) (sym (is ∙ at))
            (subst (λ (l : LockName). P (m.word l) h.0) (sym e) h.2)
        | inr ne ↦
            subst (λ (y : Fields). P (m.word k) y)
            (sym (if-false (same_lock k f.lock) z (m.word k) (same_lock-else k f.lock ne))) (same (m.word k))
      ]

  -- rows on something else leave all words
  flag_word : (n : NodeName) (o : Option Flag) (k : LockName) → (stores_flag m n o).word k ≡ m.word k
  flag_word n None k = refl
  flag_word n (Some z) k = refl

  next_word : (n : NodeName) (o : Option (Option NodeName)) (k : LockName) → (stores_next m n o).word k ≡ m.word k
  next_word n None k = refl
  next_word n (Some z) k = refl

  second_word : (n : NodeName) (o : Option (Option NodeName)) (k : LockName) → (stores_second m n o).word k ≡ m.word k
  second_word n None k = refl
  second_word n (Some z) k = refl

  runs_word : (n : NodeName) (o : Option ℕ) (k : LockName) → (stores_runs m n o).word k ≡ m.word k
  runs_word n None k = refl
  runs_word n (Some z) k = refl

  state_word : (n : NodeName) (o : Option State) (k : LockName) → (stores_state m n o).word k ≡ m.word k
  state_word n None k = refl
  state_word n (Some z) k = refl

  entry_word : (o : Option (Option NodeName)) (k : LockName) → (stores_entry m f.lock o).word k ≡ m.word k
  entry_word None k = refl
  entry_word (Some z) k = refl

  halted_word : (p : ℕ) (o : Option Bool) (k : LockName) → (stores_halted m p o).word k ≡ m.word k
  halted_word p None k = refl
  halted_word p (Some z) k = refl

  kicked_word : (p : ℕ) (o : Option Bool) (k : LockName) → (stores_kicked m p o).word k ≡ m.word k
  kicked_word p None k = refl
  kicked_word p (Some z) k = refl

  queued_word : (p : ℕ) (o : Option ℕ) (k : LockName) → (stores_queued m p o).word k ≡ m.word k
  queued_word p None k = refl
  queued_word p (Some z) k = refl

  rw_word : (i : ℕ) (o : Option RwFields) (k : LockName) → (stores_rw m i o).word k ≡ m.word k
  rw_word i None k = refl
  rw_word i (Some z) k = refl

  unworded : (c : Pc) (t : Target) → is_word t ≡ false → (k : LockName) → (stored_in m w f c t).word k ≡ m.word k
  unworded c SpinWord e k = cc e
  unworded c QueueWord e k = cc e
  unworded c ChoiceWord e k = cc e
  unworded c PvWord e k = cc e
  unworded c Queued e k = queued_word w.cpu (entry_row m.mode w.cpu (m.queued w.cpu)).stores k
  unworded c (FlagOf n) e k = flag_word n (flag_row c f (m.node n).flag).stores k
  unworded c (NextOf n) e k = next_word n (next_row m.mode m.turns c f (m.node n).next).stores k
  unworded c (ChoiceFlag n) e k = flag_word n (handover_row c f (m.node n).flag).stores k
  unworded c (ChoiceNext n) e k = next_word n (search_row (sight_in m w f) c f (m.node n).next).stores k
  unworded c (SecondTailOf n) e k = second_word n (second_row c f (m.node n).second_tail).stores k
  unworded c (RunsOf n) e k = runs_word n (runs_row (sight_in m w f) c f (m.node n).runs).stores k
  unworded c (PvFlag n) e k = flag_word n (pv_flag_row c f (m.node n).flag).stores k
  unworded c (PvNext n) e k = next_word n (pv_next_row c f (m.node n).next).stores k
  unworded c (StateOf n) e k = state_word n (state_row m.turns c f (m.node n).state).stores k
  unworded c HashEntry e k = entry_word (hash_row c f (m.entry f.lock)).stores k
  unworded c Halted e k = halted_word w.cpu (halt_row c f (m.halted w.cpu)).stores k
  unworded c (KickOf q) e k = kicked_word q (kick_row c f (m.kicked q)).stores k
  unworded c RwWord e k = rw_word f.lock.index (rw_row m.mode c f (m.rw f.lock.index)).stores k

  pub words_stay : (c : Pc) → stays_awake c ≡ false → moves_word c ≡ false → (k : LockName)
      → (stored_in m w f c (target c f)).word k ≡ m.word k
  words_stay c a e k = unworded c (target c f) (quiet_word c f a e) k

  likes_tail : (z : Fields) → LikeTail z z
  likes_tail z = inl refl

  tail_made : (o : Option Fields) → Makes LikeTail x o → (k : LockName)
      → LikeTail (m.word k) ((stores_word m f.lock o).word k)
  tail_made = word_made LikeTail likes_tail

  -- every row but the arrival leaves each tail, or leaves none
  pub tails_kept : (c : Pc) → stays_awake c ≡ false → c ≢ G4 → (k : LockName)
      → LikeTail (m.word k) ((stored_in m w f c (target c f)).word k)
  tails_kept F1 a g k = tail_made (spin_row m.mode F1 f x).stores (either_makes LikeTail x (is_free x) _ _ (λ e. inr (_, refl, inr refl)) (λ e. inl refl)) k
  tails_kept T1 a g k = tail_made (spin_row m.mode T1 f x).stores (either_makes LikeTail x (is_free x) _ _ (λ e. inl refl) (λ e. inl refl)) k
  tails_kept T2 a g k = tail_made (spin_row m.mode T2 f x).stores (either_makes LikeTail x (is_free x) _ _ (λ e. inr (_, refl, inr refl)) (λ e. inl refl)) k
  tails_kept G4 a g k = absurd (g refl)
  tails_kept H1 a g k = tail_made None (inl refl) k
  tails_kept H2 a g k = tail_made (pv_row m.turns H2 f x).stores (either_makes LikeTail x (is_unlocked x.locked) _ _ (λ e. inr (_, refl, inl refl)) (λ e. inl refl)) k
  tails_kept E3 a g k = tail_made (pv_row m.turns E3 f x).stores (inr (_, refl, inl refl)) k
  tails_kept E4 a g k = tail_made (pv_row m.turns E4 f x).stores (either_makes LikeTail x (is_unlocked x.locked && x.pending) _ _ (λ e. inr (_, refl, inl refl)) (λ e. either_makes LikeTail x (f.left - 1 == 0) _ _ (λ e. inl refl) (λ e. inl refl))) k
  tails_kept E5 a g k = tail_made (pv_row m.turns E5 f x).stores (inr (_, refl, inl refl)) k
  tails_kept E7 a g k = tail_made (pv_row m.turns E7 f x).stores (either_makes LikeTail x (is_unlocked x.locked) _ _ (λ e. inr (_, refl, inl refl)) (λ e. inr (_, refl, inl refl))) k
  tails_kept E8 a g k = tail_made (pv_row m.turns E8 f x).stores (inr (_, refl, inl refl)) k
  tails_kept E11 a g k = tail_made None (inl refl) k
  tails_kept E13 a g k = tail_made (pv_row m.turns E13 f x).stores (either_makes LikeTail x (is_last f x) _ _ (λ e. inr (_, refl, inr refl)) (λ e. inl refl)) k
  tails_kept K2 a g k = tail_made (pv_row m.turns K2 f x).stores (inr (_, refl, inl refl)) k
  tails_kept U2 a g k = tail_made (pv_row m.turns U2 f x).stores (either_makes LikeTail x (is_held x.locked) _ _ (λ e. inr (_, refl, inl refl)) (λ e. inl refl)) k
  tails_kept U4 a g k = tail_made (pv_row m.turns U4 f x).stores (inr (_, refl, inl refl)) k
  tails_kept c a g k = inl (ap (λ (y : Fields). y.tail) (words_stay c a refl k))

  likes_byte : (z : Fields) → LikeByte z z
  likes_byte z e = e

  byte_made : (o : Option Fields) → Makes LikeByte x o → (k : LockName)
      → LikeByte (m.word k) ((stores_word m f.lock o).word k)
  byte_made = word_made LikeByte likes_byte

  -- every row but that of a head which took the lock as slow, and that of a release which kicks, leaves
  -- each byte slow that is
  pub bytes_kept : (c : Pc) → stays_awake c ≡ false → c ≢ E8 → c ≢ U4 → (k : LockName)
      → LikeByte (m.word k) ((stored_in m w f c (target c f)).word k)
  bytes_kept F1 a g u k = byte_made (spin_row m.mode F1 f x).stores (either_makes LikeByte x (is_free x) _ _ (λ e. inr (_, refl, λ s. absurd (unslow_free x e s))) (λ e. inl refl)) k
  bytes_kept T1 a g u k = byte_made (spin_row m.mode T1 f x).stores (either_makes LikeByte x (is_free x) _ _ (λ e. inl refl) (λ e. inl refl)) k
  bytes_kept T2 a g u k = byte_made (spin_row m.mode T2 f x).stores (either_makes LikeByte x (is_free x) _ _ (λ e. inr (_, refl, λ s. absurd (unslow_free x e s))) (λ e. inl refl)) k
  bytes_kept G4 a g u k = byte_made (Some (record x { tail = f.me })) (inr (_, refl, λ s. s)) k
  bytes_kept H1 a g u k = byte_made None (inl refl) k
  bytes_kept H2 a g u k = byte_made (pv_row m.turns H2 f x).stores (either_makes LikeByte x (is_unlocked x.locked) _ _ (λ e. inr (_, refl, λ s. absurd (let z = ap is_unlocked s in cc (z, e)))) (λ e. inl refl)) k
  bytes_kept E3 a g u k = byte_made (pv_row m.turns E3 f x).stores (inr (_, refl, λ s. s)) k
  bytes_kept E4 a g u k = byte_made (pv_row m.turns E4 f x).stores (either_makes LikeByte x (is_unlocked x.locked && x.pending) _ _ (λ e. inr (_, refl, λ s. absurd (unslow x.locked x.pending e s))) (λ e. either_makes LikeByte x (f.left - 1 == 0) _ _ (λ e. inl refl) (λ e. inl refl))) k
  bytes_kept E5 a g u k = byte_made (pv_row m.turns E5 f x).stores (inr (_, refl, λ s. s)) k
  bytes_kept E7 a g u k = byte_made (pv_row m.turns E7 f x).stores (either_makes LikeByte x (is_unlocked x.locked) _ _ (λ e. inr (_, refl, λ s. refl)) (λ e. inr (_, refl, λ s. refl))) k
  bytes_kept E8 a g u k = absurd (g refl)
  bytes_kept E11 a g u k = byte_made None (inl refl) k
  bytes_kept E13 a g u k = byte_made (pv_row m.turns E13 f x).stores (either_makes LikeByte x (is_last f x) _ _ (λ e. inr (_, refl, λ s. s)) (λ e. inl refl)) k
  bytes_kept K2 a g u k = byte_made (pv_row m.turns K2 f x).stores (inr (_, refl, λ s. refl)) k
  bytes_kept U2 a g u k = byte_made (pv_row m.turns U2 f x).stores (either_makes LikeByte x (is_held x.locked) _ _ (λ e. inr (_, refl, λ s. absurd (unheld x.locked e s))) (λ e. inl refl)) k
  bytes_kept U4 a g u k = absurd (u refl)
  bytes_kept c a g u k = λ s. ap (λ (y : Fields). y.locked) (words_stay c a refl k) ∙ s

  -- a store into the word of one lock leaves those of the others
  pub elsewhere_word : (o : Option Fields) (k : LockName) → k ≢ f.lock → (stores_word m f.lock o).word k ≡ m.word k
  elsewhere_word None k ne = refl
  elsewhere_word (Some z) k ne = if-false (same_lock k f.lock) z (m.word k) (same_lock-else k f.lock ne)

  pub here_word : (z : Fields) → (stores_word m f.lock (Some z)).word f.lock ≡ z
  here_word z = if-true (same_lock f.lock f.lock) z (m.word f.lock) (same_lock-self f.lock)

  -- a kick that is remembered stays so
  halted_kick : (p : ℕ) (o : Option Bool) (q : ℕ) → (stores_halted m p o).kicked q ≡ m.kicked q
  halted_kick p None q = refl
  halted_kick p (Some z) q = refl

  flag_kick : (n : NodeName) (o : Option Flag) (q : ℕ) → (stores_flag m n o).kicked q ≡ m.kicked q
  flag_kick n None q = refl
  flag_kick n (Some z) q = refl

  next_kick : (n : NodeName) (o : Option (Option NodeName)) (q : ℕ) → (stores_next m n o).kicked q ≡ m.kicked q
  next_kick n None q = refl
  next_kick n (Some z) q = refl

  second_kick : (n : NodeName) (o : Option (Option NodeName)) (q : ℕ) → (stores_second m n o).kicked q ≡ m.kicked q
  second_kick n None q = refl
  second_kick n (Some z) q = refl

  runs_kick : (n : NodeName) (o : Option ℕ) (q : ℕ) → (stores_runs m n o).kicked q ≡ m.kicked q
  runs_kick n None q = refl
  runs_kick n (Some z) q = refl

  state_kick : (n : NodeName) (o : Option State) (q : ℕ) → (stores_state m n o).kicked q ≡ m.kicked q
  state_kick n None q = refl
  state_kick n (Some z) q = refl

  entry_kick : (o : Option (Option NodeName)) (q : ℕ) → (stores_entry m f.lock o).kicked q ≡ m.kicked q
  entry_kick None q = refl
  entry_kick (Some z) q = refl

  queued_kick : (p : ℕ) (o : Option ℕ) (q : ℕ) → (stores_queued m p o).kicked q ≡ m.kicked q
  queued_kick p None q = refl
  queued_kick p (Some z) q = refl

  rw_kick : (i : ℕ) (o : Option RwFields) (q : ℕ) → (stores_rw m i o).kicked q ≡ m.kicked q
  rw_kick i None q = refl
  rw_kick i (Some z) q = refl

  word_kick : (o : Option Fields) (q : ℕ) → (stores_word m f.lock o).kicked q ≡ m.kicked q
  word_kick None q = refl
  word_kick (Some z) q = refl

  kicks : (b : Bool) (q p : ℕ) → m.kicked p ≡ true → (if b then true else m.kicked p) ≡ true
  kicks true q p h = refl
  kicks false q p h = h

  kick_stays : (c : Pc) (q p : ℕ) → m.kicked p ≡ true → (stores_kicked m q (kick_row c f (m.kicked q)).stores).kicked p ≡ true
  kick_stays U5 q p h = kicks (p == q) q p h
  kick_stays c q p h = h

  pub kicks_stay : (c : Pc) (t : Target) (p : ℕ) → m.kicked p ≡ true → (stored_in m w f c t).kicked p ≡ true
  kicks_stay c SpinWord p h = word_kick (spin_row m.mode c f x).stores p ∙ h
  kicks_stay c QueueWord p h = word_kick (queue_row m.mode c f x).stores p ∙ h
  kicks_stay c ChoiceWord p h = word_kick (promotion_row c f x).stores p ∙ h
  kicks_stay c PvWord p h = word_kick (pv_row m.turns c f x).stores p ∙ h
  kicks_stay c Queued p h = queued_kick w.cpu (entry_row m.mode w.cpu (m.queued w.cpu)).stores p ∙ h
  kicks_stay c (FlagOf n) p h = flag_kick n (flag_row c f (m.node n).flag).stores p ∙ h
  kicks_stay c (NextOf n) p h = next_kick n (next_row m.mode m.turns c f (m.node n).next).stores p ∙ h
  kicks_stay c (ChoiceFlag n) p h = flag_kick n (handover_row c f (m.node n).flag).stores p ∙ h
  kicks_stay c (ChoiceNext n) p h = next_kick n (search_row (sight_in m w f) c f (m.node n).next).stores p ∙ h
  kicks_stay c (SecondTailOf n) p h = second_kick n (second_row c f (m.node n).second_tail).stores p ∙ h
  kicks_stay c (RunsOf n) p h = runs_kick n (runs_row (sight_in m w f) c f (m.node n).runs).stores p ∙ h
  kicks_stay c (PvFlag n) p h = flag_kick n (pv_flag_row c f (m.node n).flag).stores p ∙ h
  kicks_stay c (PvNext n) p h = next_kick n (pv_next_row c f (m.node n).next).stores p ∙ h
  kicks_stay c (StateOf n) p h = state_kick n (state_row m.turns c f (m.node n).state).stores p ∙ h
  kicks_stay c HashEntry p h = entry_kick (hash_row c f (m.entry f.lock)).stores p ∙ h
  kicks_stay c Halted p h = halted_kick w.cpu (halt_row c f (m.halted w.cpu)).stores p ∙ h
  kicks_stay c (KickOf q) p h = kick_stays c q p h
  kicks_stay c RwWord p h = rw_kick f.lock.index (rw_row m.mode c f (m.rw f.lock.index)).stores p ∙ h

  pub kick_made : (stored_in m w f U5 (target U5 f)).kicked (node_of f.target).cpu ≡ true
  kick_made = grind arith
