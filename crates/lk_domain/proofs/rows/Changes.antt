-- A row changes one word of a world at most.
use Rattle.std.proofs.Common.{◌≡◌, ◌≢◌, inl, inr, ℕ, Option, Some, None, Bool, true, false, refl}
use Rattle.std.proofs.Common.{sym, ap, ◌∙◌, subst, eqb, ne_eqb, eq-eqb, if◌then◌else◌}
use Rattle.lk_domain.proofs.Names.{cases_Bool, RwFields, Fields, NodeName, same_lock, LockName}
use Rattle.lk_domain.proofs.Names.{Waiter, rw_name, ChoiceFlag, ChoiceNext, ChoiceWord, FlagOf}
use Rattle.lk_domain.proofs.Names.{NextOf, PvFlag, PvNext, PvWord, QueueWord, RunsOf, RwWord}
use Rattle.lk_domain.proofs.Names.{SecondTailOf, SpinWord, Target, target, Flag, Frame, Node, Pc}
use Rattle.lk_domain.proofs.Names.{G1, U3, node_cases, if-false, if-true, same_lock-else}
use Rattle.lk_domain.proofs.Names.{same_node-else, same_node-self, stored_in, same_node, is_rw_name}
use Rattle.lk_domain.proofs.Names.{stores_flag, stores_next, stores_runs, stores_second, World}
use Rattle.lk_domain.proofs.Names.{kind_at, layout_in, OfLock, OfNode, OfState, Place, node_number}
use Rattle.lk_domain.proofs.Names.{number_of, state_number, Part, Plan}
use Rattle.lk_word.specs.{RwWord.packed_rw, SpinWord.packed}
use Rattle.lk_rows.specs.TopRow.{Queued, StateOf, HashEntry, Halted, KickOf}
use Rattle.lk_rows.specs.declared.parts.Pc.TheVariants.{W6, E6, E9, E12, K3}
use Rattle.lk_rows.specs.declared.parts.State.{State}
use Rattle.lk_law.specs.Steps.{put_halted, put_kicked, put_node, put_rw, put_word, stores_kicked}
use Rattle.lk_law.specs.Steps.{stores_rw, stores_state, stores_word}
use Rattle.lk_domain.proofs.words.NodeWords.{reset_part, reset_others}
use Rattle.lk_domain.specs.{Calls.halted_after, Words.{OfKick, mark_number}}
use Rattle.lk_domain.specs.declared.part.Part.TheVariants as part

-- a world is another but for the word of x; links, the hash, and who has halted are the same
pub record Changes (k : Plan) (m n : World) (x : Place) : Type 0 where
  pub numbers : (pairs : ℕ → ℕ) (y : Place) → y ≢ x → number_of k n pairs y ≡ number_of k m pairs y
  pub links : (b : NodeName) → OfNode b part.Next ≢ x → (n.node b).next ≡ (m.node b).next
  pub entry : n.entry ≡ m.entry
  pub halted : n.halted ≡ m.halted

-- the row of this frame is on that word
abbrev pub IsAt : Frame → Target → Place → Type 0
IsAt f SpinWord (OfLock l) = f.lock ≡ l
IsAt f QueueWord (OfLock l) = f.lock ≡ l
IsAt f ChoiceWord (OfLock l) = f.lock ≡ l
IsAt f PvWord (OfLock l) = f.lock ≡ l
IsAt f RwWord (OfLock l) = rw_name f.lock.index ≡ l
IsAt f (FlagOf n) (OfNode a part.Flag) = n ≡ a
IsAt f (NextOf n) (OfNode a part.Next) = n ≡ a
IsAt f (ChoiceFlag n) (OfNode a part.Flag) = n ≡ a
IsAt f (ChoiceNext n) (OfNode a part.Next) = n ≡ a
IsAt f (SecondTailOf n) (OfNode a part.SecondTail) = n ≡ a
IsAt f (RunsOf n) (OfNode a part.Runs) = n ≡ a
IsAt f (PvFlag n) (OfNode a part.Flag) = n ≡ a
IsAt f (PvNext n) (OfNode a part.Next) = n ≡ a
IsAt f (StateOf n) (OfState a) = n ≡ a
IsAt f (KickOf q) (OfKick p) = q ≡ p
IsAt f _ _ = ⊥

-- a word of a node is known by the node and the part
pub node_part : {a b : NodeName} {q r : Part} → OfNode b r ≡ OfNode a q → (b ≡ a) × (r ≡ q)
node_part e = (cc e, cc e)

pub node_here : (m : World) (a : NodeName) (x : Node) → (put_node m a x).node a ≡ x
node_here m a x = if-true (same_node a a) x (m.node a) (same_node-self a)

pub node_else : (m : World) (a b : NodeName) (x : Node) → b ≢ a → (put_node m a x).node b ≡ m.node b
node_else m a b x ne = if-false (same_node b a) x (m.node b) (same_node-else b a ne)

module _ (k : Plan) (m : World) where
  none_changes : (x : Place) → Changes k m m x
  none_changes x = record { numbers = λ pairs y ne. refl; links = λ b ne. refl; entry = refl; halted = refl }

  word_changes : (l j : LockName) → l ≡ j → (o : Option Fields) → Changes k m (stores_word m l o) (OfLock j)
  word_changes l j e None = none_changes (OfLock j)
  word_changes l j e (Some x) = record { numbers = numbers; links = λ b ne. refl; entry = refl; halted = refl }
    where
      numbers : (pairs : ℕ → ℕ) (y : Place) → y ≢ OfLock j
          → number_of k (put_word m l x) pairs y ≡ number_of k m pairs y
      numbers pairs (OfLock i) ne =
          ap (λ (z : Fields). if is_rw_name (kind_at k) i then packed_rw (m.rw i.index) else packed (layout_in k) z)
          (if-false (same_lock i l) x (m.word i) (same_lock-else i l (λ q. ne (ap OfLock (q ∙ e)))))
      numbers pairs _ ne = refl

  rw_changes : (i : ℕ) (j : LockName) → rw_name i ≡ j → (o : Option RwFields) → Changes k m (stores_rw m i o) (OfLock j)
  rw_changes i j e None = none_changes (OfLock j)
  rw_changes i j e (Some x) = record { numbers = numbers; links = λ b ne. refl; entry = refl; halted = refl }
    where
      rw_known : (l : LockName) → is_rw_name (kind_at k) l ≡ true → l.index ≡ i → l ≡ rw_name i
      rw_known l on q = (λ t. record { index = q t; wait = plain l.wait on t })
        where
          plain : (b : Bool) → is_rw_name (kind_at k) (record { index = l.index; wait = b }) ≡ true → b ≡ false
          plain false h = refl
          plain true h = cc h

      numbers : (pairs : ℕ → ℕ) (y : Place) → y ≢ OfLock j
          → number_of k (put_rw m i x) pairs y ≡ number_of k m pairs y
      numbers pairs (OfLock l) ne = elim (cases_Bool (is_rw_name (kind_at k) l)) [
        | inl on ↦ ap (λ (z : RwFields). if is_rw_name (kind_at k) l then packed_rw z else packed (layout_in k) (m.word l))
            (if-false (eqb l.index i) x (m.rw l.index) (ne_eqb l.index i (λ q. ne (ap OfLock (rw_known l on q ∙ e)))))
        | inr off ↦ rw off refl
      ]
      numbers pairs _ ne = refl

  pub put_changes : (a : NodeName) (x : Node) (z : Place)
      → ((r : Part) → OfNode a r ≢ z → node_number r x ≡ node_number r (m.node a))
      → (OfState a ≢ z → x.state ≡ (m.node a).state) → (OfNode a part.Next ≢ z → x.next ≡ (m.node a).next)
      → Changes k m (put_node m a x) z
  put_changes a x z parts state next =
      record {
        numbers = numbers;
        links = λ b ne. at b (λ (y : Node). y.next) (λ e. next (λ q. ne (ap (λ (c : NodeName). OfNode c part.Next) e ∙ q)));
        entry = refl;
        halted = refl;
      }
    where
      at : {A : Type 0} (b : NodeName) (g : Node → A) → (b ≡ a → g x ≡ g (m.node a))
          → g ((put_node m a x).node b) ≡ g (m.node b)
      at b g same = elim (node_cases b a) [
        | inl e ↦ ap (λ (c : NodeName). g ((put_node m a x).node c)) e
            ∙ (ap g (node_here m a x) ∙ (same e ∙ ap (λ (c : NodeName). g (m.node c)) (sym e)))
        | inr ne ↦ ap g (node_else m a b x ne)
      ]

      numbers : (pairs : ℕ → ℕ) (y : Place) → y ≢ z → number_of k (put_node m a x) pairs y ≡ number_of k m pairs y
      numbers pairs (OfNode b r) ne =
          at b (node_number r) (λ e. parts r (λ q. ne (ap (λ (c : NodeName). OfNode c r) e ∙ q)))
      numbers pairs (OfState b) ne =
          at b (λ (y : Node). state_number y.state) (λ e. ap state_number (state (λ q. ne (ap OfState e ∙ q))))
      numbers pairs _ ne = refl

  flag_changes : (n a : NodeName) → n ≡ a → (o : Option Flag) → Changes k m (stores_flag m n o) (OfNode a part.Flag)
  flag_changes n a e None = none_changes (OfNode a part.Flag)
  flag_changes n a e (Some x) =
      subst (λ (c : NodeName). Changes k m (stores_flag m n (Some x)) (OfNode c part.Flag)) e
      (put_changes n (record (m.node n) { flag = x }) (OfNode n part.Flag) parts (λ ne. refl) (λ ne. refl))
    where
      parts : (r : Part) → OfNode n r ≢ OfNode n part.Flag → node_number r (record (m.node n) { flag = x }) ≡ node_number r (m.node n)
      parts part.Flag ne = absurd (ne refl)
      parts _ ne = refl

  pub next_changes : (n a : NodeName) → n ≡ a → (o : Option (Option NodeName)) → Changes k m (stores_next m n o) (OfNode a part.Next)
  next_changes n a e None = none_changes (OfNode a part.Next)
  next_changes n a e (Some x) =
      subst (λ (c : NodeName). Changes k m (stores_next m n (Some x)) (OfNode c part.Next)) e
      (put_changes n (record (m.node n) { next = x }) (OfNode n part.Next) parts (λ ne. refl) (λ ne. absurd (ne refl)))
    where
      parts : (r : Part) → OfNode n r ≢ OfNode n part.Next → node_number r (record (m.node n) { next = x }) ≡ node_number r (m.node n)
      parts part.Next ne = absurd (ne refl)
      parts _ ne = refl

  second_changes : (n a : NodeName) → n ≡ a → (o : Option (Option NodeName))
      → Changes k m (stores_second m n o) (OfNode a part.SecondTail)
  second_changes n a e None = none_changes (OfNode a part.SecondTail)
  second_changes n a e (Some x) =
      subst (λ (c : NodeName). Changes k m (stores_second m n (Some x)) (OfNode c part.SecondTail)) e
      (put_changes n (record (m.node n) { second_tail = x }) (OfNode n part.SecondTail) parts (λ ne. refl) (λ ne. refl))
    where
      parts : (r : Part) → OfNode n r ≢ OfNode n part.SecondTail
          → node_number r (record (m.node n) { second_tail = x }) ≡ node_number r (m.node n)
      parts part.SecondTail ne = absurd (ne refl)
      parts _ ne = refl

  runs_changes : (n a : NodeName) → n ≡ a → (o : Option ℕ) → Changes k m (stores_runs m n o) (OfNode a part.Runs)
  runs_changes n a e None = none_changes (OfNode a part.Runs)
  runs_changes n a e (Some x) =
      subst (λ (c : NodeName). Changes k m (stores_runs m n (Some x)) (OfNode c part.Runs)) e
      (put_changes n (record (m.node n) { runs = x }) (OfNode n part.Runs) parts (λ ne. refl) (λ ne. refl))
    where
      parts : (r : Part) → OfNode n r ≢ OfNode n part.Runs → node_number r (record (m.node n) { runs = x }) ≡ node_number r (m.node n)
      parts part.Runs ne = absurd (ne refl)
      parts _ ne = refl

  state_changes : (n a : NodeName) → n ≡ a → (o : Option State) → Changes k m (stores_state m n o) (OfState a)
  state_changes n a e None = none_changes (OfState a)
  state_changes n a e (Some x) =
      subst (λ (c : NodeName). Changes k m (stores_state m n (Some x)) (OfState c)) e
      (put_changes n (record (m.node n) { state = x }) (OfState n) (λ r ne. parts r) (λ ne. absurd (ne refl)) (λ ne. refl))
    where
      parts : (r : Part) → node_number r (record (m.node n) { state = x }) ≡ node_number r (m.node n)
      parts part.Flag = refl
      parts part.Next = refl
      parts part.SecondTail = refl
      parts part.Runs = refl

  pub kick_changes : (q p : ℕ) → q ≡ p → (o : Option Bool) → Changes k m (stores_kicked m q o) (OfKick p)
  kick_changes q p e None = none_changes (OfKick p)
  kick_changes q p e (Some b) = record { numbers = numbers; links = λ b ne. refl; entry = refl; halted = refl }
    where
      numbers : (pairs : ℕ → ℕ) (y : Place) → y ≢ OfKick p → number_of k (put_kicked m q b) pairs y ≡ number_of k m pairs y
      numbers pairs (OfKick r) ne =
          ap mark_number (if-false (eqb r q) b (m.kicked r) (ne_eqb r q (λ c. ne (ap OfKick (c ∙ e)))))
      numbers pairs _ ne = refl

  -- a private store into a node
  pub reset_changes : (a : NodeName) (q : Part) → Changes k m (put_node m a (reset_part q (m.node a))) (OfNode a q)
  reset_changes a q =
      put_changes a (reset_part q (m.node a)) (OfNode a q)
      (λ r ne. reset_others q r (m.node a) (λ e. ne (ap (λ (z : Part). OfNode a z) e))) (λ ne. state q) (next q)
    where
      state : (q : Part) → (reset_part q (m.node a)).state ≡ (m.node a).state
      state part.Flag = refl
      state _ = refl

      next : (q : Part) → OfNode a part.Next ≢ OfNode a q → (reset_part q (m.node a)).next ≡ (m.node a).next
      next part.Next ne = absurd (ne refl)
      next _ ne = refl

  module _ (w : Waiter) (f : Frame) (c : Pc) where
    pub row_changes : (t : Target) (x : Place) → IsAt f t x → Changes k m (stored_in m w f c t) x
    row_changes SpinWord (OfLock l) on = word_changes f.lock l on _
    row_changes QueueWord (OfLock l) on = word_changes f.lock l on _
    row_changes ChoiceWord (OfLock l) on = word_changes f.lock l on _
    row_changes PvWord (OfLock l) on = word_changes f.lock l on _
    row_changes RwWord (OfLock l) on = rw_changes f.lock.index l on _
    row_changes (FlagOf n) (OfNode a part.Flag) on = flag_changes n a on _
    row_changes (NextOf n) (OfNode a part.Next) on = next_changes n a on _
    row_changes (ChoiceFlag n) (OfNode a part.Flag) on = flag_changes n a on _
    row_changes (ChoiceNext n) (OfNode a part.Next) on = next_changes n a on _
    row_changes (SecondTailOf n) (OfNode a part.SecondTail) on = second_changes n a on _
    row_changes (RunsOf n) (OfNode a part.Runs) on = runs_changes n a on _
    row_changes (PvFlag n) (OfNode a part.Flag) on = flag_changes n a on _
    row_changes (PvNext n) (OfNode a part.Next) on = next_changes n a on _
    row_changes (StateOf n) (OfState a) on = state_changes n a on _
    row_changes (KickOf q) (OfKick p) on = kick_changes q p on _
    row_changes _ x on = absurd on

-- a row on one of these leaves who has halted
abbrev IsAwake : Target → Type 0
IsAwake Queued = ⊥
IsAwake HashEntry = ⊥
IsAwake Halted = ⊥
IsAwake _ = Unit {0}

stays_halted : (k : Plan) (m : World) (w : Waiter) (f : Frame) (c : Pc) (t : Target) → IsAwake t
    → (stored_in m w f c t).halted ≡ m.halted
stays_halted k m w f c SpinWord h = (row_changes k m w f c SpinWord (OfLock f.lock) refl).halted
stays_halted k m w f c QueueWord h = (row_changes k m w f c QueueWord (OfLock f.lock) refl).halted
stays_halted k m w f c ChoiceWord h = (row_changes k m w f c ChoiceWord (OfLock f.lock) refl).halted
stays_halted k m w f c PvWord h = (row_changes k m w f c PvWord (OfLock f.lock) refl).halted
stays_halted k m w f c RwWord h = (row_changes k m w f c RwWord (OfLock (rw_name f.lock.index)) refl).halted
stays_halted k m w f c (FlagOf n) h = (row_changes k m w f c (FlagOf n) (OfNode n part.Flag) refl).halted
stays_halted k m w f c (NextOf n) h = (row_changes k m w f c (NextOf n) (OfNode n part.Next) refl).halted
stays_halted k m w f c (ChoiceFlag n) h = (row_changes k m w f c (ChoiceFlag n) (OfNode n part.Flag) refl).halted
stays_halted k m w f c (ChoiceNext n) h = (row_changes k m w f c (ChoiceNext n) (OfNode n part.Next) refl).halted
stays_halted k m w f c (SecondTailOf n) h = (row_changes k m w f c (SecondTailOf n) (OfNode n part.SecondTail) refl).halted
stays_halted k m w f c (RunsOf n) h = (row_changes k m w f c (RunsOf n) (OfNode n part.Runs) refl).halted
stays_halted k m w f c (PvFlag n) h = (row_changes k m w f c (PvFlag n) (OfNode n part.Flag) refl).halted
stays_halted k m w f c (PvNext n) h = (row_changes k m w f c (PvNext n) (OfNode n part.Next) refl).halted
stays_halted k m w f c (StateOf n) h = (row_changes k m w f c (StateOf n) (OfState n) refl).halted
stays_halted k m w f c (KickOf q) h = (row_changes k m w f c (KickOf q) (OfKick q) refl).halted
stays_halted k m w f c _ h = absurd h

-- whether the own processor has halted after a row
pub halted_row : (k : Plan) (m : World) (w : Waiter) (f : Frame) (c : Pc) (b : Bool) → m.halted w.cpu ≡ b
    → (stored_in m w f c (target c f)).halted w.cpu ≡ halted_after (target c f) b
halted_row k m w f c b is = by c
  where
    set : (put_halted m w.cpu true).halted w.cpu ≡ true
    set = ap (λ (q : Bool). if q then true else m.halted w.cpu) (eq-eqb w.cpu w.cpu refl)

    other : (d : Pc) (t : Target) → IsAwake t → halted_after t b ≡ b
        → (stored_in m w f d t).halted w.cpu ≡ halted_after t b
    other d t h e = ap (λ (g : ℕ → Bool). g w.cpu) (stays_halted k m w f d t h) ∙ (is ∙ sym e)

    by : (d : Pc) → (stored_in m w f d (target d f)).halted w.cpu ≡ halted_after (target d f) b
    by W6 = set
    by E12 = set
    by E6 = is
    by E9 = is
    by K3 = is
    by U3 = is
    by G1 = is
    by d = other d (target d f) tt refl
