-- From which rows a frame comes to wait by the pending bit; and who takes the lock while somebody stands in
-- its queue: the head, or the waiter that set pending.
use Rattle.std.proofs.Common.{◌≡◌, ◌⊎◌, inl, inr, ℕ, Option, Some, None, Bool, true, false, refl}
use Rattle.std.proofs.Common.{sym, ap, ◌∙◌, arith, slice_get, subst, if◌then◌else◌, is_some, ◌&&◌}
use Rattle.std.proofs.Common.{not, ◌==◌}
use Rattle.lk_progress.proofs.Names.{cases_Bool, RwFields, Fields, NodeName, LockHistory, How, Take}
use Rattle.lk_progress.proofs.Names.{LockName, Mode, Cna, Native, Pv, Virt, Waiter, first_place}
use Rattle.lk_progress.proofs.Names.{is_node, node_of, Effect, Lead, looks, target, Flag, Frame, Pc}
use Rattle.lk_progress.proofs.Names.{C1, C2, C3, C4, C5, C6, C7, C8, C9, C10, F1, G1, G2, G3, G4}
use Rattle.lk_progress.proofs.Names.{G5, G6, G7, G8, G9, G10, G11, N1, N2, P0, P1, P2, P3, P4, R1}
use Rattle.lk_progress.proofs.Names.{R2, R3, R4, R5, T1, T2, U1, V1, V2, Wr1, Wr2, Wr3, Wr4, Wr5}
use Rattle.lk_progress.proofs.Names.{Wr6, Y1, Y2, Y3, Y4, Y5, Z1, Z2, Why, Unlock, Sight}
use Rattle.lk_progress.proofs.Names.{after_tail, is_last, may_stay, search_first, search_on}
use Rattle.lk_progress.proofs.Names.{after_arrival, after_entry, after_flag, after_head, after_link}
use Rattle.lk_progress.proofs.Names.{after_next, is_sole, own_node, is_cleared, is_empty, is_open}
use Rattle.lk_progress.proofs.Names.{after_fast, is_free, is_unlocked, to_queue, lists_main}
use Rattle.lk_progress.proofs.Names.{lists_none, not-true, phase_on-here, may_halt, course_in}
use Rattle.lk_progress.proofs.Names.{queues, phase_at, phase_if, phase_on, snapshot, IsThen}
use Rattle.lk_progress.proofs.Names.{IsSoundSpinWorld, led, sight_in, World}
use Rattle.lk_rows.specs.rows.Spin.{after_pending}
use Rattle.lk_law.proofs.common.Families.{lists_front}
use Rattle.lk_law.specs.Phase.{Phase, leads}
use Rattle.lk_progress.proofs.Told.{TellsSo, SaysSo, tells_so}
use Rattle.lk_progress.specs.Turns.{NobodyWatchesAnew, is_watching, TakesInTurn}
use Rattle.lk_rows.specs.declared.parts.Flag.TheVariants as flag
use Rattle.lk_rows.specs.declared.parts.Why.TheVariants as why

-- a place at which a frame waits by the pending bit
abbrev tells : Option Pc → Bool
tells (Some P3) = true
tells (Some P4) = true
tells _ = false

-- from these rows alone a frame comes to such a place
abbrev nears : Pc → Bool
nears P1 = true
nears P3 = true
nears _ = false

-- the place is none of these
abbrev Mute : Option Pc → Type 0
Mute o = tells o ≡ false

either_mute : {A : Type 0} (f : Frame) (b : Bool) (x y : Effect A) → Mute (led f x.leads).place
    → Mute (led f y.leads).place → Mute (led f (if b then x else y).leads).place
either_mute f true x y h k = h
either_mute f false x y h k = k

either_row : (b : Bool) (d e : Pc) → Mute (Some d) → Mute (Some e) → Mute (Some (if b then d else e))
either_row true d e h k = h
either_row false d e h k = k

after : (f : Frame) → (f.lock.wait ≡ true → IsThen f.then) → Mute (if f.lock.wait then f.then else None)
after f inner =
    elim (cases_Bool f.lock.wait) [
      | inl e ↦ rw e (elim (inner e) [ inl q ↦ ap tells q | inr q ↦ ap tells q ])
      | inr e ↦ rw e refl
    ]

mute_queue : (x : Fields) → Mute (Some (to_queue x))
mute_queue x = either_row x.pending G1 _ refl (either_row (is_some x.tail) G1 P1 refl refl)

mute_fast : (mode : Mode) (x : Fields) → Mute (Some (after_fast mode x))
mute_fast Virt x = refl
mute_fast Pv x = refl
mute_fast Native x = either_row (is_unlocked x.locked && x.pending && not (is_some x.tail)) P0 _ refl (mute_queue x)
mute_fast Cna x = either_row (is_unlocked x.locked && x.pending && not (is_some x.tail)) P0 _ refl (mute_queue x)

mute_entry : (mode : Mode) (me : Option NodeName) → Mute (Some (after_entry mode me))
mute_entry Virt (Some n) = refl
mute_entry Native (Some n) = refl
mute_entry Cna (Some n) = refl
mute_entry Pv (Some n) = refl
mute_entry Virt None = refl
mute_entry Native None = refl
mute_entry Cna None = refl
mute_entry Pv None = refl

mute_arrival : (mode : Mode) (f : Frame) (t : Option NodeName) → Mute (led f (after_arrival mode t).leads).place
mute_arrival Virt f None = refl
mute_arrival Native f None = refl
mute_arrival Cna f None = refl
mute_arrival Pv f None = refl
mute_arrival Virt f (Some n) = refl
mute_arrival Native f (Some n) = refl
mute_arrival Cna f (Some n) = refl
mute_arrival Pv f (Some n) = refl

mute_flag : (f : Frame) (x : Flag) → Mute (led f (after_flag x).leads).place
mute_flag f flag.Unset = refl
mute_flag f flag.Go = refl
mute_flag f (flag.Second n) = refl

mute_head : (mode : Mode) → Mute (Some (after_head mode))
mute_head Virt = refl
mute_head Native = refl
mute_head Cna = refl
mute_head Pv = refl

mute_next : (f : Frame) (x : Option NodeName) → Mute (led f (after_next x).leads).place
mute_next f None = refl
mute_next f (Some n) = refl

mute_link : (mode : Mode) (f : Frame) (k : ℕ) → Mute (led f (after_link mode k)).place
mute_link Virt f k = refl
mute_link Native f k = refl
mute_link Cna f k = refl
mute_link Pv f k = refl

mute_unlock : (mode : Mode) → Mute (Some (first_place mode Unlock))
mute_unlock Virt = refl
mute_unlock Native = refl
mute_unlock Cna = refl
mute_unlock Pv = refl

mute_first : (f : Frame) (s : Sight) (o x : Option NodeName) → Mute (led f (search_first s o x).leads).place
mute_first f s None None = refl
mute_first f s (Some k) None = refl
mute_first f s o (Some n) =
    either_mute f (may_stay s) _ _ (either_mute f (s.local n) _ _ refl refl) (either_mute f (is_some o) _ _ refl refl)

mute_on : (f : Frame) (s : Sight) (x : Option NodeName) → Mute (led f (search_on s f x).leads).place
mute_on f s None = either_mute f (is_some f.second) _ _ refl refl
mute_on f s (Some n) = either_mute f (s.local n) _ _ (either_mute f (is_some f.second) _ _ refl refl) refl

mute_tail : (y : Why) → Mute (Some (after_tail y))
mute_tail why.Append = refl
mute_tail why.Flush = refl
mute_tail why.Promotion = refl

module _ (m : World) (w : Waiter) (f : Frame) (inner : f.lock.wait ≡ true → IsThen f.then) where
  abbrev x : Fields
  x = m.word f.lock

  abbrev y : RwFields
  y = m.rw f.lock.index

  abbrev pub lead : Pc → Lead
  lead c = (course_in m w f c (target c f)).leads

  -- where the row leads
  abbrev pub to : Pc → Option Pc
  to c = (led f (lead c)).place

  mute : (c : Pc) → may_halt c ≡ false → nears c ≡ false → Mute (to c)
  mute F1 a p = either_mute f (is_free x) _ _ (after f inner) (mute_fast m.mode x)
  mute T1 a p = either_mute f (is_free x) _ _ refl refl
  mute T2 a p = either_mute f (is_free x) _ _ (after f inner) refl
  mute U1 a p = refl
  mute V1 a p = either_row (is_free x) V2 V1 refl refl
  mute V2 a p = either_mute f (is_free x) _ _ (after f inner) refl
  mute P0 a p = mute_queue x
  mute P2 a p = refl
  mute G1 a p = mute_entry m.mode (own_node w.cpu (m.queued w.cpu))
  mute N1 a p = either_row (is_free x) N2 N1 refl refl
  mute N2 a p = either_mute f (is_free x) _ _ (after f inner) refl
  mute P4 a p = after f inner
  mute G2 a p = either_row (is_free x) G3 G4 refl refl
  mute G3 a p = either_mute f (is_free x) _ _ (after f inner) refl
  mute G5 a p = mute_link m.mode f m.turns
  mute G4 a p = mute_arrival m.mode f x.tail
  mute G6 a p = mute_flag f (m.node (node_of f.me)).flag
  mute G7 a p = either_row (is_unlocked x.locked && not x.pending) _ G7 (either_row (is_node x.tail (node_of f.me) && not (is_some f.second)) G8 G9 refl refl) refl
  mute G8 a p = either_mute f (is_sole f x) _ _ (after f inner) refl
  mute G9 a p = mute_head m.mode
  mute G10 a p = mute_next f (m.node (node_of f.me)).next
  mute G11 a p = after f inner
  mute R1 a p = either_mute f (is_open y) _ _ refl (either_row (f.ctx == 0) R3 R2 refl refl)
  mute R2 a p = either_mute f y.writer _ _ refl refl
  mute R3 a p = refl
  mute R4 a p = refl
  mute R5 a p = either_mute f y.writer _ _ refl (mute_unlock m.mode)
  mute Wr1 a p = either_mute f (is_empty y) _ _ refl refl
  mute Wr2 a p = either_row (is_empty y) Wr3 Wr4 refl refl
  mute Wr3 a p = either_mute f (is_empty y) _ _ (mute_unlock m.mode) refl
  mute Wr4 a p = refl
  mute Wr5 a p = either_row (is_cleared y) Wr6 Wr5 refl refl
  mute Wr6 a p = either_mute f (is_cleared y) _ _ (mute_unlock m.mode) refl
  mute Y1 a p = either_mute f (is_open y) _ _ refl refl
  mute Y2 a p = either_mute f (is_open y) _ _ refl refl
  mute Y3 a p = refl
  mute Y4 a p = either_mute f (is_empty y) _ _ refl refl
  mute Y5 a p = either_mute f (is_empty y) _ _ refl refl
  mute Z1 a p = refl
  mute Z2 a p = refl
  mute C1 a p = mute_first f (sight_in m w f) f.second (m.node (node_of f.me)).next
  mute C2 a p = mute_on f (sight_in m w f) (m.node (node_of f.b)).next
  mute C3 a p = mute_tail f.why
  mute C4 a p = refl
  mute C5 a p = refl
  mute C6 a p = refl
  mute C7 a p = refl
  mute C8 a p = after f inner
  mute C9 a p = refl
  mute C10 a p = either_mute f (is_last f x) _ (looks C1) refl refl
  mute _ a p = cc (a, p)

  -- P1 leads there only where there is no tail
  from_P1 : (d : Pc) → Some (after_pending x) ≡ Some d → is_watching d ≡ true → x.tail ≡ None
  from_P1 d e h = by x.pending x.tail refl e
    where
      by : (p : Bool) (t : Option NodeName) → x.tail ≡ t
          → Some (if p then G1 else (if is_some x.tail then P2 else (if is_unlocked x.locked then P4 else P3))) ≡ Some d
          → x.tail ≡ None
      by true t q e = absurd (let r : G1 ≡ d = cc e in let z = ap is_watching r in cc (z, h))
      by false None q e = q
      by false (Some n) q e =
          let z : Some P2 ≡ Some d =
          ap (λ (o : Option NodeName). Some (if is_some o then P2 else (if is_unlocked x.locked then P4 else P3))) (sym q) ∙ e in
          absurd (let r : P2 ≡ d = cc z in let y = ap is_watching r in cc (y, h))

  anew : (c : Pc) → may_halt c ≡ false → (d : Pc) → to c ≡ Some d → is_watching d ≡ true
      → (c ≡ P3) ⊎ (x.tail ≡ None)
  anew P3 a d e h = inl refl
  anew P1 a d e h = inr (from_P1 d e h)
  anew c a d e h = absurd (differ (mute c a refl) d e h)
    where
      differ : tells (to c) ≡ false → (d : Pc) → to c ≡ Some d → is_watching d ≡ true → ⊥
      differ t d e h = let z = ap tells e in let y = watching d h in cc (z, y, t)
        where
          watching : (d : Pc) → is_watching d ≡ true → tells (Some d) ≡ true
          watching P3 h = refl
          watching P4 h = refl
          watching d h = cc h

pub nobody_watches_anew : (c : Pc) → NobodyWatchesAnew c
nobody_watches_anew c m hs w f d ok awake live at inner e h =
    anew m w f inner c
    (not-true (may_halt c) (λ q. let z = (ok.registers w f live).choice.halting c at q in cc (z, awake))) d e h

-- ---- takes

pub free_tail : (x : Fields) → is_free x ≡ true → x.tail ≡ None
free_tail x e = by x.tail refl
  where
    by : (t : Option NodeName) → x.tail ≡ t → x.tail ≡ None
    by None q = q
    by (Some n) q = absurd (grind (arith, e, q))

module _ (m : World) (hs : LockName → LockHistory) (w u : Waiter) (f : Frame)
    (ok : IsSoundSpinWorld m hs) (live : m.frame w ≡ Some f) (queued : queues ((snapshot m).phase f.lock u) ≡ true) where
  shown : (c : Pc) → f.place ≡ Some c → (snapshot m).phase f.lock w ≡ phase_at c (is_some f.me) (node_of f.prev) (node_of f.y)
  shown c at = ap (phase_on f.lock) live ∙ phase_on-here f.lock f refl
      ∙ ap (λ (d : Option Pc). phase_if d (is_some f.me) (node_of f.prev) (node_of f.y)) at

  -- a free word has no queue
  not_free : is_free (m.word f.lock) ≡ true → ⊥
  not_free e =
      lists_none (ok.agrees.locks f.lock).lists (free_tail (m.word f.lock) e) u queued

  front : (c : Pc) → f.place ≡ Some c
      → leads (phase_at c (is_some f.me) (node_of f.prev) (node_of f.y)) ((m.node ((snapshot m).own w)).flag) ≡ true
      → slice_get (hs f.lock).main 0 ≡ Some w
  front c at e =
      lists_front (ok.agrees.locks f.lock).lists w
      (ap (λ (r : Phase). leads r ((m.node ((snapshot m).own w)).flag)) (shown c at) ∙ e)

  pub turns : (c : Pc) (h : How) → f.place ≡ Some c → SaysSo (m.word f.lock) f c (Take f.lock h)
      → (slice_get (hs f.lock).main 0 ≡ Some w) ⊎ (c ≡ P4)
  turns c h at so = elim so.2 [
    | inl free ↦ absurd (not_free free)
    | inr other ↦ elim other [
      | inl four ↦ inr four
      | inr head ↦ inl (elim head [
        | inl e ↦ front G8 (at ∙ ap (λ (d : Pc). Some d) e) refl
        | inr e ↦ front G9 (at ∙ ap (λ (d : Pc). Some d) e) refl
      ])
    ]
  ]

pub takes_in_turn : (c : Pc) → TakesInTurn c
takes_in_turn c m hs w u f i h ok awake live at e queued =
    turns m hs w u f ok live (lists_main (ok.agrees.locks f.lock).lists i u queued) c h at
    (subst (TellsSo (m.word f.lock) f c) e
    (tells_so m w f c
    (not-true (may_halt c) (λ q. let z = (ok.registers w f live).choice.halting c at q in cc (z, awake)))))
