-- Where the rows of the family that halts processors lead, and which flags they set.
use Rattle.std.proofs.Common.{◌≡◌, ◌≢◌, ◌⊎◌, inl, inr, ℕ, Option, Some, None, Bool, true, false}
use Rattle.std.proofs.Common.{refl, sym, ap, ◌∙◌, subst, arith, ◌-◌, [], ◌∷◌, if◌then◌else◌}
use Rattle.std.proofs.Common.{is_some, ◌&&◌, not, ◌==◌}
use Rattle.lk_waits.proofs.Names.{cases_Bool, RwFields, Fields, NodeName, Mode, Cna, Native, Pv}
use Rattle.lk_waits.proofs.Names.{Virt, Waiter, first_place, node_of, Effect, Goes, ChoiceFlag}
use Rattle.lk_waits.proofs.Names.{ChoiceNext, ChoiceWord, FlagOf, Halted, HashEntry, KickOf, NextOf}
use Rattle.lk_waits.proofs.Names.{PvFlag, PvNext, PvWord, QueueWord, Queued, RunsOf, RwWord}
use Rattle.lk_waits.proofs.Names.{SecondTailOf, SpinWord, StateOf, Target, target, Flag, Frame, Pc}
use Rattle.lk_waits.proofs.Names.{E1, E2, E3, E4, E5, E7, E8, E10, E11, E12, E13, E14, E15, F1, G1}
use Rattle.lk_waits.proofs.Names.{G4, G5, H1, H2, K1, K2, R1, R2, R3, R4, R5, T1, T2, U2, U4, U5}
use Rattle.lk_waits.proofs.Names.{W5, W6, W7, Wr1, Wr2, Wr3, Wr4, Wr5, Wr6, Y1, Y2, Y3, Y4, Y5, Z1}
use Rattle.lk_waits.proofs.Names.{Z2, State, Unlock, is_held, promotion_row, runs_row, search_row}
use Rattle.lk_waits.proofs.Names.{second_row, is_halted, is_set, after_arrival, after_entry}
use Rattle.lk_waits.proofs.Names.{after_link, entry_row, next_row, own_node, queue_row, is_cleared}
use Rattle.lk_waits.proofs.Names.{is_empty, is_open, rw_row, after_fast, is_free, is_unlocked}
use Rattle.lk_waits.proofs.Names.{to_queue, if-false, if-true, stays_awake, course_in, stored_in}
use Rattle.lk_waits.proofs.Names.{IsThen, led, sight_in, stores_next, stores_word, World}
use Rattle.lk_rows.specs.{Row.{looks, Nothing, PvWaitNode}, declared.parts.Node.Node}
use Rattle.lk_rows.specs.declared.parts.Pc.TheVariants.{E6, E9, W1, W2, W3, W4, K3, U3}
use Rattle.lk_rows.specs.rows.Pv.{pv_row, pv_flag_row, pv_next_row, state_row, hash_row, halt_row}
use Rattle.lk_rows.specs.rows.Pv.{kick_row, is_running, after_glance, after_given_up}
use Rattle.lk_rows.specs.rows.Spin.{spin_row}
use Rattle.lk_law.proofs.{common.Cases.node_cases, common.Puts.{same_node-self, same_node-else}}
use Rattle.lk_law.specs.Snapshot.{same_node}
use Rattle.lk_law.specs.Steps.{put_node, stores_second, stores_runs, stores_state, stores_entry}
use Rattle.lk_law.specs.Steps.{stores_halted, stores_kicked, stores_queued, stores_rw, stores_flag}
use Rattle.lk_rows.specs.declared.parts.Flag.TheVariants as flag

-- the place is one of these that tell: of a head that looks for its successor, or of a waiter that halts
abbrev pub tells : Option Pc → Bool
tells (Some W6) = true
tells (Some E12) = true
tells (Some E14) = true
tells _ = false

-- from these rows alone a frame comes to such a place
abbrev pub nears : Pc → Bool
nears W5 = true
nears W6 = true
nears E11 = true
nears E12 = true
nears E13 = true
nears E14 = true
nears _ = false

-- the place is none of these
abbrev pub Mute : Option Pc → Type 0
Mute o = tells o ≡ false

either_mute : {A : Type 0} (f : Frame) (b : Bool) (x y : Effect A) → Mute (led f x.leads).place
    → Mute (led f y.leads).place → Mute (led f (if b then x else y).leads).place
either_mute f true x y h k = h
either_mute f false x y h k = k

either_row : (b : Bool) (d e : Pc) → Mute (Some d) → Mute (Some e) → Mute (Some (if b then d else e))
either_row true d e h k = h
either_row false d e h k = k

after : (f : Frame) → (f.lock.wait ≡ true → IsThen f.then) → Mute (if f.lock.wait then f.then else None)
after f inner =
    elim (cases_Bool f.lock.wait) [
      | inl e ↦ rw e (elim (inner e) [ inl q ↦ ap tells q | inr q ↦ ap tells q ])
      | inr e ↦ rw e refl
    ]

mute_queue : (x : Fields) → Mute (Some (to_queue x))
mute_queue x = either_row x.pending G1 _ refl (either_row (is_some x.tail) G1 _ refl refl)

mute_fast : (mode : Mode) (x : Fields) → Mute (Some (after_fast mode x))
mute_fast Virt x = refl
mute_fast Pv x = refl
mute_fast Native x = either_row (is_unlocked x.locked && x.pending && not (is_some x.tail)) _ _ refl (mute_queue x)
mute_fast Cna x = either_row (is_unlocked x.locked && x.pending && not (is_some x.tail)) _ _ refl (mute_queue x)

mute_entry : (mode : Mode) (me : Option NodeName) → Mute (Some (after_entry mode me))
mute_entry Virt None = refl
mute_entry Native None = refl
mute_entry Cna None = refl
mute_entry Pv None = refl
mute_entry Virt (Some n) = refl
mute_entry Native (Some n) = refl
mute_entry Cna (Some n) = refl
mute_entry Pv (Some n) = refl

mute_arrival : (mode : Mode) (f : Frame) (t : Option NodeName) → Mute (led f (after_arrival mode t).leads).place
mute_arrival Virt f None = refl
mute_arrival Native f None = refl
mute_arrival Cna f None = refl
mute_arrival Pv f None = refl
mute_arrival Virt f (Some n) = refl
mute_arrival Native f (Some n) = refl
mute_arrival Cna f (Some n) = refl
mute_arrival Pv f (Some n) = refl

mute_link : (mode : Mode) (f : Frame) (k : ℕ) → Mute (led f (after_link mode k)).place
mute_link Virt f k = refl
mute_link Native f k = refl
mute_link Cna f k = refl
mute_link Pv f k = refl

mute_unlock : (mode : Mode) → Mute (Some (first_place mode Unlock))
mute_unlock Virt = refl
mute_unlock Native = refl
mute_unlock Cna = refl
mute_unlock Pv = refl

mute_given_up : (me : Option NodeName) → Mute (Some (after_given_up me))
mute_given_up None = refl
mute_given_up (Some n) = refl

mute_glance : (me : Option NodeName) (x : Fields) → Mute (Some (after_glance me x))
mute_glance me x =
    either_row (is_unlocked x.locked && not x.pending) H2 _ refl
    (either_row (is_some x.tail && not x.pending) H1 _ refl (mute_given_up me))

module _ (m : World) (w : Waiter) (f : Frame) (inner : f.lock.wait ≡ true → IsThen f.then) where
  abbrev x : Fields
  x = m.word f.lock

  abbrev y : RwFields
  y = m.rw f.lock.index

  abbrev st : NodeName → State
  st n = (m.node n).state

  -- where the row leads
  abbrev pub to : Pc → Option Pc
  to c = (led f (course_in m w f c (target c f)).leads).place

  pub mute : (c : Pc) → stays_awake c ≡ false → nears c ≡ false → Mute (to c)
  mute F1 a p = either_mute f (is_free x) _ _ (after f inner) (mute_fast m.mode x)
  mute T1 a p = either_mute f (is_free x) _ _ refl refl
  mute T2 a p = either_mute f (is_free x) _ _ (after f inner) refl
  mute G1 a p = mute_entry m.mode (own_node w.cpu (m.queued w.cpu))
  mute G4 a p = mute_arrival m.mode f x.tail
  mute G5 a p = mute_link m.mode f m.turns
  mute H1 a p = mute_glance f.me x
  mute H2 a p =
      either_mute f (is_unlocked x.locked) _ _ (after f inner)
      (either_row f.tailed H1 _ refl (mute_given_up f.me))
  mute W1 a p = either_row (is_set (m.node (node_of f.me)).flag) E1 W2 refl refl
  mute W2 a p =
      either_mute f (is_running (st (node_of f.prev))) _ _ (either_mute f (f.left - 1 == 0) _ _ refl refl) refl
  mute W3 a p = refl
  mute W4 a p = either_mute f (is_set (m.node (node_of f.me)).flag) _ _ refl refl
  mute W7 a p = either_mute f (is_halted (st (node_of f.me))) _ _ refl refl
  mute E1 a p = refl
  mute E2 a p = refl
  mute E3 a p = refl
  mute E4 a p =
      either_mute f (is_unlocked x.locked && x.pending) _ _ refl (either_mute f (f.left - 1 == 0) _ _ refl refl)
  mute E5 a p = either_row f.hashed E10 E6 refl refl
  mute E6 a p = refl
  mute E7 a p = either_mute f (is_unlocked x.locked) _ _ refl refl
  mute E8 a p = refl
  mute E9 a p = refl
  mute E10 a p = refl
  mute E15 a p = refl
  mute K1 a p = either_mute f (is_halted (st (node_of f.y))) _ _ refl (after f inner)
  mute K2 a p = refl
  mute K3 a p = after f inner
  mute U2 a p = either_mute f (is_held x.locked) _ _ refl refl
  mute U3 a p = refl
  mute U4 a p = refl
  mute U5 a p = refl
  mute R1 a p = either_mute f (is_open y) _ _ refl (either_row (f.ctx == 0) R3 R2 refl refl)
  mute R2 a p = either_mute f y.writer _ _ refl refl
  mute R3 a p = refl
  mute R4 a p = refl
  mute R5 a p = either_mute f y.writer _ _ refl (mute_unlock m.mode)
  mute Wr1 a p = either_mute f (is_empty y) _ _ refl refl
  mute Wr2 a p = either_row (is_empty y) Wr3 Wr4 refl refl
  mute Wr3 a p = either_mute f (is_empty y) _ _ (mute_unlock m.mode) refl
  mute Wr4 a p = refl
  mute Wr5 a p = either_row (is_cleared y) Wr6 Wr5 refl refl
  mute Wr6 a p = either_mute f (is_cleared y) _ _ (mute_unlock m.mode) refl
  mute Y1 a p = either_mute f (is_open y) _ _ refl refl
  mute Y2 a p = either_mute f (is_open y) _ _ refl refl
  mute Y3 a p = refl
  mute Y4 a p = either_mute f (is_empty y) _ _ refl refl
  mute Y5 a p = either_mute f (is_empty y) _ _ refl refl
  mute Z1 a p = refl
  mute Z2 a p = refl
  mute _ a p = cc (a, p)

-- which flags a row sets

abbrev is_flag : Target → Bool
is_flag (FlagOf n) = true
is_flag (ChoiceFlag n) = true
is_flag _ = false

quiet_flag : (c : Pc) (f : Frame) → stays_awake c ≡ false → is_flag (target c f) ≡ false
quiet_flag c f a = grind (arith, a)

no_flag : (c : Pc) (f : Frame) (x : Flag) → c ≢ E15 → (pv_flag_row c f x).stores ≡ None
no_flag E15 f x ne = absurd (ne refl)
no_flag W1 f x ne = refl
no_flag W4 f x ne = by (is_set x)
  where
    by : (b : Bool) → (if b then looks {A = Flag} W7 else record {
      stores = None;
      leads = Goes W5 [];
      tells = Nothing;
      counts = PvWaitNode ∷ [];
    }).stores ≡ None
    by true = refl
    by false = refl
no_flag _ f x ne = refl

module _ (m : World) (w : Waiter) (f : Frame) where
  put_flag : (n : NodeName) (y : Node) → y.flag ≡ (m.node n).flag → (k : NodeName)
      → ((put_node m n y).node k).flag ≡ (m.node k).flag
  put_flag n y h k = elim (node_cases k n) [
    | inl e ↦
        ap (λ (z : Node). z.flag) (if-true (same_node k n) y (m.node k) (subst (λ (i : NodeName). same_node k i ≡ true) e (same_node-self k)))
        ∙ h ∙ ap (λ (i : NodeName). (m.node i).flag) (sym e)
    | inr ne ↦ ap (λ (z : Node). z.flag) (if-false (same_node k n) y (m.node k) (same_node-else k n ne))
  ]

  next_flag : (n : NodeName) (o : Option (Option NodeName)) (k : NodeName) → ((stores_next m n o).node k).flag ≡ (m.node k).flag
  next_flag n None k = refl
  next_flag n (Some z) k = put_flag n (record (m.node n) { next = z }) refl k

  second_flag : (n : NodeName) (o : Option (Option NodeName)) (k : NodeName) → ((stores_second m n o).node k).flag ≡ (m.node k).flag
  second_flag n None k = refl
  second_flag n (Some z) k = put_flag n (record (m.node n) { second_tail = z }) refl k

  runs_flag : (n : NodeName) (o : Option ℕ) (k : NodeName) → ((stores_runs m n o).node k).flag ≡ (m.node k).flag
  runs_flag n None k = refl
  runs_flag n (Some z) k = put_flag n (record (m.node n) { runs = z }) refl k

  state_flag : (n : NodeName) (o : Option State) (k : NodeName) → ((stores_state m n o).node k).flag ≡ (m.node k).flag
  state_flag n None k = refl
  state_flag n (Some z) k = put_flag n (record (m.node n) { state = z }) refl k

  word_flag : (o : Option Fields) (k : NodeName) → ((stores_word m f.lock o).node k).flag ≡ (m.node k).flag
  word_flag None k = refl
  word_flag (Some z) k = refl

  entry_flag : (o : Option (Option NodeName)) (k : NodeName) → ((stores_entry m f.lock o).node k).flag ≡ (m.node k).flag
  entry_flag None k = refl
  entry_flag (Some z) k = refl

  halted_flag : (p : ℕ) (o : Option Bool) (k : NodeName) → ((stores_halted m p o).node k).flag ≡ (m.node k).flag
  halted_flag p None k = refl
  halted_flag p (Some z) k = refl

  kicked_flag : (p : ℕ) (o : Option Bool) (k : NodeName) → ((stores_kicked m p o).node k).flag ≡ (m.node k).flag
  kicked_flag p None k = refl
  kicked_flag p (Some z) k = refl

  queued_flag : (p : ℕ) (o : Option ℕ) (k : NodeName) → ((stores_queued m p o).node k).flag ≡ (m.node k).flag
  queued_flag p None k = refl
  queued_flag p (Some z) k = refl

  rw_flag : (i : ℕ) (o : Option RwFields) (k : NodeName) → ((stores_rw m i o).node k).flag ≡ (m.node k).flag
  rw_flag i None k = refl
  rw_flag i (Some z) k = refl

  by_target : (c : Pc) → c ≢ E15 → (t : Target) → is_flag t ≡ false → (k : NodeName)
      → ((stored_in m w f c t).node k).flag ≡ (m.node k).flag
  by_target c ne (FlagOf n) e k = cc e
  by_target c ne (ChoiceFlag n) e k = cc e
  by_target c ne (PvFlag n) e k =
      ap (λ (o : Option Flag). ((stores_flag m n o).node k).flag) (no_flag c f (m.node n).flag ne)
  by_target c ne SpinWord e k = word_flag (spin_row m.mode c f (m.word f.lock)).stores k
  by_target c ne QueueWord e k = word_flag (queue_row m.mode c f (m.word f.lock)).stores k
  by_target c ne ChoiceWord e k = word_flag (promotion_row c f (m.word f.lock)).stores k
  by_target c ne PvWord e k = word_flag (pv_row m.turns c f (m.word f.lock)).stores k
  by_target c ne Queued e k = queued_flag w.cpu (entry_row m.mode w.cpu (m.queued w.cpu)).stores k
  by_target c ne (NextOf n) e k = next_flag n (next_row m.mode m.turns c f (m.node n).next).stores k
  by_target c ne (ChoiceNext n) e k = next_flag n (search_row (sight_in m w f) c f (m.node n).next).stores k
  by_target c ne (SecondTailOf n) e k = second_flag n (second_row c f (m.node n).second_tail).stores k
  by_target c ne (RunsOf n) e k = runs_flag n (runs_row (sight_in m w f) c f (m.node n).runs).stores k
  by_target c ne (PvNext n) e k = next_flag n (pv_next_row c f (m.node n).next).stores k
  by_target c ne (StateOf n) e k = state_flag n (state_row m.turns c f (m.node n).state).stores k
  by_target c ne HashEntry e k = entry_flag (hash_row c f (m.entry f.lock)).stores k
  by_target c ne Halted e k = halted_flag w.cpu (halt_row c f (m.halted w.cpu)).stores k
  by_target c ne (KickOf q) e k = kicked_flag q (kick_row c f (m.kicked q)).stores k
  by_target c ne RwWord e k = rw_flag f.lock.index (rw_row m.mode c f (m.rw f.lock.index)).stores k

  -- every row but the handoff leaves each flag
  pub flags_stay : (c : Pc) → stays_awake c ≡ false → c ≢ E15 → (k : NodeName)
      → ((stored_in m w f c (target c f)).node k).flag ≡ (m.node k).flag
  flags_stay c a ne k = by_target c ne (target c f) (quiet_flag c f a) k

  -- the handoff sets that of the next alone
  pub flags_handed : (k : NodeName) → is_set ((stored_in m w f E15 (target E15 f)).node k).flag ≡ true
      → (is_set (m.node k).flag ≡ true) ⊎ (k ≡ node_of f.y)
  flags_handed k h = elim (node_cases k (node_of f.y)) [
    | inl e ↦ inr e
    | inr ne ↦
        inl (ap (λ (z : Node). is_set z.flag)
        (sym (if-false (same_node k (node_of f.y)) (record (m.node (node_of f.y)) { flag = flag.Go }) (m.node k) (same_node-else k (node_of f.y) ne))) ∙ h)
  ]
