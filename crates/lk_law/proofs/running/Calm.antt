-- Where rows lead: none to a release, and but for the entry none gives a node.
use Rattle.std.proofs.Common.{◌≡◌, ◌≢◌, ◌⊎◌, inl, inr, Option, Some, None, Bool, true, false, refl}
use Rattle.std.proofs.Common.{sym, ap, subst, List, [], if◌then◌else◌, is_some, ◌&&◌, not, ◌-◌}
use Rattle.std.proofs.Common.{◌==◌}
use Rattle.lk_law.proofs.Names.{cases_Bool, Fields, NodeName, Mode, Cna, Native, Pv, Virt, Waiter}
use Rattle.lk_law.proofs.Names.{is_node, node_of, Effect, Goes, Granted, Lead, Leaves, Missed}
use Rattle.lk_law.proofs.Names.{target, Flag, Frame, Pc, C1, C2, C3, C4, C5, C6, C7, C8, C9, C10}
use Rattle.lk_law.proofs.Names.{E1, E2, E3, E4, E5, E6, E7, E8, E9, E10, E11, E12, E13, E14, E15}
use Rattle.lk_law.proofs.Names.{F1, G1, G2, G3, G4, G5, G6, G7, G8, G9, G10, G11, H1, H2, K1, K2}
use Rattle.lk_law.proofs.Names.{K3, N1, N2, P0, P1, P2, P3, P4, T1, T2, U1, U2, U3, U4, U5, V1, V2}
use Rattle.lk_law.proofs.Names.{W1, W2, W3, W4, W5, W6, W7, Why, Sight, after_none, after_tail}
use Rattle.lk_law.proofs.Names.{is_held, is_last, may_stay, search_first, search_on, is_halted}
use Rattle.lk_law.proofs.Names.{is_running, is_set, pv_after_next, after_arrival, after_entry}
use Rattle.lk_law.proofs.Names.{after_flag, after_head, after_link, after_look, after_next, is_sole}
use Rattle.lk_law.proofs.Names.{after_fast, is_free, is_unlocked, to_queue, is_rw_row, may_halt}
use Rattle.lk_law.proofs.Names.{course_in, IsThen, led, sight_in, World}
use Rattle.lk_rows.specs.{Row.Change, rows.Queue.own_node, rows.Spin.after_pending}
use Rattle.lk_law.specs.Families.{is_ending_row}
use Rattle.lk_law.specs.Leads.{is_release, enters, RowIsCalm, NodeComesAtEntry}
use Rattle.lk_rows.specs.declared.parts.Flag.TheVariants as flag
use Rattle.lk_rows.specs.declared.parts.Why.TheVariants as why

-- A lead is mild: the frame does not come to a release by it, and gets no node.
record Mild (f : Frame) (lead : Lead) : Type 0 where
  pub calm : is_release (led f lead).place ≡ false
  pub bare : enters lead ≡ false

-- where a frame goes on that has the lock
after : (f : Frame) → (f.lock.wait ≡ true → IsThen f.then)
    → is_release (if f.lock.wait then f.then else None) ≡ false
after f inner =
    elim (cases_Bool f.lock.wait) [
      | inl e ↦ rw e (elim (inner e) [ inl q ↦ ap is_release q | inr q ↦ ap is_release q ])
      | inr e ↦ rw e refl
    ]

missed : (f : Frame) → Mild f Missed
missed f = record { calm = refl; bare = refl }

-- a row is the entry, or not
entry_or : (c : Pc) → (c ≡ G1) ⊎ (c ≢ G1)
entry_or G1 = inl refl
entry_or _ = inr (λ e. cc e)

module _ (f : Frame) (inner : f.lock.wait ≡ true → IsThen f.then) where
  granted : Mild f Granted
  granted = record { calm = after f inner; bare = refl }

  leaves : Mild f Leaves
  leaves = record { calm = after f inner; bare = refl }

  -- a choice of two mild effects
  either : {A : Type 0} (b : Bool) (x y : Effect A) → Mild f x.leads → Mild f y.leads
      → Mild f (if b then x else y).leads
  either true x y h k = h
  either false x y h k = k

either_row : (b : Bool) (c d : Pc) → is_ending_row c ≡ false → is_ending_row d ≡ false
    → is_ending_row (if b then c else d) ≡ false
either_row true c d h k = h
either_row false c d h k = k

calm_queue : (x : Fields) → is_ending_row (to_queue x) ≡ false
calm_queue x = either_row x.pending _ _ refl (either_row (is_some x.tail) _ _ refl refl)

calm_fast : (mode : Mode) (x : Fields) → is_ending_row (after_fast mode x) ≡ false
calm_fast Virt x = refl
calm_fast Pv x = refl
calm_fast Native x = either_row (is_unlocked x.locked && x.pending && not (is_some x.tail)) _ _ refl (calm_queue x)
calm_fast Cna x = either_row (is_unlocked x.locked && x.pending && not (is_some x.tail)) _ _ refl (calm_queue x)

calm_pending : (x : Fields) → is_ending_row (after_pending x) ≡ false
calm_pending x =
    either_row x.pending _ _ refl
    (either_row (is_some x.tail) _ _ refl (either_row (is_unlocked x.locked) _ _ refl refl))

calm_look : (f : Frame) (x : Fields) → is_ending_row (after_look f x) ≡ false
calm_look f x =
    either_row (is_unlocked x.locked && not x.pending) _ _
    (either_row (is_node x.tail (node_of f.me) && not (is_some f.second)) _ _ refl refl) refl

calm_entry : (mode : Mode) (me : Option NodeName) → is_ending_row (after_entry mode me) ≡ false
calm_entry Virt None = refl
calm_entry Native None = refl
calm_entry Cna None = refl
calm_entry Pv None = refl
calm_entry Virt (Some n) = refl
calm_entry Native (Some n) = refl
calm_entry Cna (Some n) = refl
calm_entry Pv (Some n) = refl

module _ (m : World) (w : Waiter) (f : Frame) (inner : f.lock.wait ≡ true → IsThen f.then) where
  abbrev s : Sight
  s = sight_in m w f

  -- the frame goes to a row that is none of a release
  to : (c : Pc) (cs : List Change) → is_ending_row c ≡ false → Mild f (Goes c cs)
  to c cs h = record { calm = h; bare = refl }

  arrived : (mode : Mode) (t : Option NodeName) → Mild f (after_arrival mode t).leads
  arrived Virt None = to G7 [] refl
  arrived Native None = to G7 [] refl
  arrived Cna None = to G7 [] refl
  arrived Pv None = to E1 [] refl
  arrived Virt (Some n) = to G5 _ refl
  arrived Native (Some n) = to G5 _ refl
  arrived Cna (Some n) = to G5 _ refl
  arrived Pv (Some n) = to G5 _ refl

  head : (mode : Mode) → Mild f (Goes (after_head mode) [])
  head Virt = to G10 [] refl
  head Native = to G10 [] refl
  head Cna = to C1 [] refl
  head Pv = to G10 [] refl

  linked : (mode : Mode) → Mild f (after_link mode m.turns)
  linked Virt = to G6 [] refl
  linked Native = to G6 [] refl
  linked Cna = to G6 [] refl
  linked Pv = to W1 _ refl

  flagged : (x : Flag) → Mild f (after_flag x).leads
  flagged flag.Unset = to G6 [] refl
  flagged flag.Go = to G7 [] refl
  flagged (flag.Second n) = to G7 _ refl

  next : (x : Option NodeName) → Mild f (after_next x).leads
  next None = to G10 [] refl
  next (Some n) = to G11 _ refl

  nobody : (o : Option NodeName) → Mild f (after_none o).leads
  nobody None = to C1 _ refl
  nobody (Some n) = to C3 _ refl

  tail : (y : Why) (cs : List Change) → Mild f (Goes (after_tail y) cs)
  tail why.Append cs = to C4 cs refl
  tail why.Flush cs = to C9 cs refl
  tail why.Promotion cs = to C10 cs refl

  first : (x : Option NodeName) → Mild f (search_first s f.second x).leads
  first None = nobody f.second
  first (Some n) =
      either f inner (may_stay s) _ _
      (either f inner (s.local n) _ _ (to C7 _ refl) (to C2 _ refl))
      (either f inner (is_some f.second) _ _ (to C3 _ refl) (to C7 _ refl))

  further : (x : Option NodeName) → Mild f (search_on s f x).leads
  further None = either f inner (is_some f.second) _ _ (to C3 _ refl) (to C7 _ refl)
  further (Some n) =
      either f inner (s.local n) _ _
      (either f inner (is_some f.second) _ _ (to C3 _ refl) (to C5 _ refl)) (to C2 _ refl)

  mild : (c : Pc) → may_halt c ≡ false → is_rw_row c ≡ false → c ≢ G1
      → Mild f (course_in m w f c (target c f)).leads
  mild F1 a b g = let x = m.word f.lock in either f inner (is_free x) _ _ (granted f inner) (to _ [] (calm_fast m.mode x))
  mild T1 a b g = let x = m.word f.lock in either f inner (is_free x) _ _ (to T2 [] refl) (missed f)
  mild T2 a b g = let x = m.word f.lock in either f inner (is_free x) _ _ (granted f inner) (missed f)
  mild U1 a b g = record { calm = refl; bare = refl }
  mild V1 a b g = to _ [] (either_row (is_free (m.word f.lock)) V2 V1 refl refl)
  mild V2 a b g = let x = m.word f.lock in either f inner (is_free x) _ _ (granted f inner) (to V1 [] refl)
  mild P0 a b g = to _ [] (calm_queue (m.word f.lock))
  mild P1 a b g = to _ [] (calm_pending (m.word f.lock))
  mild P2 a b g = to G1 [] refl
  mild P3 a b g = to _ [] (either_row (is_unlocked (m.word f.lock).locked) P4 P3 refl refl)
  mild P4 a b g = granted f inner
  mild G1 a b g = absurd (g refl)
  mild G2 a b g = to _ [] (either_row (is_free (m.word f.lock)) G3 G4 refl refl)
  mild G3 a b g = let x = m.word f.lock in either f inner (is_free x) _ _ (leaves f inner) (to G4 [] refl)
  mild G4 a b g = arrived m.mode (m.word f.lock).tail
  mild G5 a b g = linked m.mode
  mild G6 a b g = flagged (m.node (node_of f.me)).flag
  mild G7 a b g = to _ [] (calm_look f (m.word f.lock))
  mild G8 a b g = let x = m.word f.lock in either f inner (is_sole f x) _ _ (leaves f inner) (to G9 [] refl)
  mild G9 a b g = head m.mode
  mild G10 a b g = next (m.node (node_of f.me)).next
  mild G11 a b g = leaves f inner
  mild N1 a b g = to _ [] (either_row (is_free (m.word f.lock)) N2 N1 refl refl)
  mild N2 a b g = let x = m.word f.lock in either f inner (is_free x) _ _ (leaves f inner) (to N1 [] refl)
  mild C1 a b g = first (m.node (node_of f.me)).next
  mild C2 a b g = further (m.node (node_of f.b)).next
  mild C3 a b g = tail f.why _
  mild C4 a b g = to C5 [] refl
  mild C5 a b g = to C6 [] refl
  mild C6 a b g = to C7 [] refl
  mild C7 a b g = to C8 [] refl
  mild C8 a b g = leaves f inner
  mild C9 a b g = to C7 _ refl
  mild C10 a b g = either f inner (is_last f (m.word f.lock)) _ _ (to C7 _ refl) (to C1 [] refl)
  mild _ a b g = cc (a, b)

pub row_is_calm : RowIsCalm
row_is_calm m w f c plain inner = at c plain.awake plain.spin
  where
    entry : (mode : Mode) (me : Option NodeName) → is_ending_row (after_entry mode me) ≡ false
    entry = calm_entry

    at : (c : Pc) → may_halt c ≡ false → is_rw_row c ≡ false
        → is_release (led f (course_in m w f c (target c f)).leads).place ≡ false
    at c a b = elim (entry_or c) [ inl e ↦ subst (λ (d : Pc). is_release (led f (course_in m w f d (target d f)).leads).place ≡ false) (sym e) (entry m.mode (own_node w.cpu (m.queued w.cpu))) | inr ne ↦ (mild m w f inner c a b ne).calm ]

-- a row of the lock that halts processors gives no node
module _ (m : World) (w : Waiter) (f : Frame) where
  bare_either : {A : Type 0} (b : Bool) (x y : Effect A) → enters x.leads ≡ false
      → enters y.leads ≡ false → enters (if b then x else y).leads ≡ false
  bare_either true x y h k = h
  bare_either false x y h k = k

  bare_next : (x : Option NodeName) → enters (pv_after_next x).leads ≡ false
  bare_next None = refl
  bare_next (Some n) = refl

  bare_halting : (c : Pc) → may_halt c ≡ true → enters (course_in m w f c (target c f)).leads ≡ false
  bare_halting H1 h = refl
  bare_halting H2 h = bare_either (is_unlocked (m.word f.lock).locked) _ _ refl refl
  bare_halting W1 h = refl
  bare_halting W2 h =
      bare_either (is_running (m.node (node_of f.prev)).state) _ _
      (bare_either (f.left - 1 == 0) _ _ refl refl) refl
  bare_halting W3 h = refl
  bare_halting W4 h = bare_either (is_set (m.node (node_of f.me)).flag) _ _ refl refl
  bare_halting W5 h = refl
  bare_halting W6 h = refl
  bare_halting W7 h = bare_either (is_halted (m.node (node_of f.me)).state) _ _ refl refl
  bare_halting E1 h = refl
  bare_halting E2 h = refl
  bare_halting E3 h = refl
  bare_halting E4 h =
      bare_either (is_unlocked (m.word f.lock).locked && (m.word f.lock).pending) _ _ refl
      (bare_either (f.left - 1 == 0) _ _ refl refl)
  bare_halting E5 h = refl
  bare_halting E6 h = refl
  bare_halting E7 h = bare_either (is_unlocked (m.word f.lock).locked) _ _ refl refl
  bare_halting E8 h = refl
  bare_halting E9 h = refl
  bare_halting E10 h = refl
  bare_halting E11 h = refl
  bare_halting E12 h = refl
  bare_halting E13 h = bare_either (Rattle.lk_rows.specs.rows.Cna.is_last f (m.word f.lock)) _ _ refl refl
  bare_halting E14 h = bare_next (m.node (node_of f.me)).next
  bare_halting E15 h = refl
  bare_halting K1 h = bare_either (is_halted (m.node (node_of f.y)).state) _ _ refl refl
  bare_halting K2 h = refl
  bare_halting K3 h = refl
  bare_halting U2 h = bare_either (is_held (m.word f.lock).locked) _ _ refl refl
  bare_halting U3 h = refl
  bare_halting U4 h = refl
  bare_halting U5 h = refl
  bare_halting _ h = cc h

pub node_comes_at_entry : NodeComesAtEntry
node_comes_at_entry m w f c spin inner ne = elim (cases_Bool (may_halt c)) [
  | inl on ↦ bare_halting m w f c on
  | inr off ↦ (mild m w f inner c off spin ne).bare
]
