-- Where processors halt, each row leaves its frame as it was, or leaves it fewer rows, or leads it on in its turn, or is
-- that of a head which goes around.
use Rattle.std.proofs.Common.{◌≡◌, ◌⊎◌, ◌<◌, ◌+◌, ◌-◌, ◌*◌, ℕ, arith, inl, inr, Option, Some, None}
use Rattle.std.proofs.Common.{Bool, true, false, refl, sym, ap, ◌∙◌, [], ◌∷◌, if◌then◌else◌}
use Rattle.std.proofs.Common.{is_some, ◌&&◌, not, ◌==◌}
use Rattle.lk_progress.proofs.Names.{RwFields, Fields, Locked, Free, Held, Slow, NodeName}
use Rattle.lk_progress.proofs.Names.{LockHistory, LockName, Mode, Cna, Native, Pv, Virt, Waiter}
use Rattle.lk_progress.proofs.Names.{stands_halting, node_of, Done, Effect, Freed, Goes}
use Rattle.lk_progress.proofs.Names.{Lead, Missed, gone, target, Frame, Pc, E1, E2}
use Rattle.lk_progress.proofs.Names.{E3, E4, E5, E6, E7, E8, E9, E10, E11, E12, E13, E14, E15, F1}
use Rattle.lk_progress.proofs.Names.{G1, G4, G5, H1, H2, K1, K2, K3, R1, R2, R3, R4, R5, T1, T2, U2}
use Rattle.lk_progress.proofs.Names.{U3, U4, U5, W1, W2, W3, W4, W5, W6, W7, Wr1, Wr2, Wr3, Wr4}
use Rattle.lk_progress.proofs.Names.{Wr5, Wr6, Y1, Y2, Y3, Y4, Y5, Z1, Z2, State, is_held, is_last}
use Rattle.lk_progress.proofs.Names.{after_given_up, is_halted, is_running, is_set}
use Rattle.lk_progress.proofs.Names.{is_slow_byte, pv_after_next, after_arrival, after_entry}
use Rattle.lk_progress.proofs.Names.{after_link, own_node, frees_wait, is_cleared, is_empty}
use Rattle.lk_progress.proofs.Names.{is_open, after_fast, is_free, is_unlocked, halts, chooses}
use Rattle.lk_progress.proofs.Names.{stays_awake, course_in, stored_in, IsThen, IsSoundSpinWorld}
use Rattle.lk_progress.proofs.Names.{led, stores_next, stores_state, stores_word, World, IsRobbed}
use Rattle.lk_progress.proofs.Names.{goes_around, KeepsTurns, halting_left, halting_left_at}
use Rattle.lk_progress.proofs.Names.{halting_turn_at, halting_turn_of, head_turn, goes}
use Rattle.lk_rows.specs.{Row.{Left, Tailed, entered, learns}, rows.Pv.{peer_again, try_again}}
use Rattle.lk_law.specs.Steps.{stores_rw, stores_flag}
use Rattle.lk_progress.proofs.halting.Knows.{tries_pending, doubts_led}
use Rattle.lk_progress.proofs.halting.Parts.{behind, none_left, had_lt, head_less, flag_less}
use Rattle.lk_progress.proofs.halting.Parts.{unlike_self, unlike_or, unlike_few, four_most}
use Rattle.lk_progress.proofs.halting.Parts.{two_less, off_hash, Calm, keeps_self, calm_self}
use Rattle.lk_progress.proofs.halting.Parts.{calm_state, calm_pending, keeps_halted}
use Rattle.lk_progress.specs.HaltingMeasure.{halting_rows, halting_rows_if, is_on_the_way}
use Rattle.lk_progress.specs.HaltingMeasure.{rows_to_hash, is_flagged}
use Rattle.lk_rows.specs.declared.parts.State.TheVariants as state

module _ (m : World) (hs : LockName → LockHistory) (ok : IsSoundSpinWorld m hs) (halting : halts m.mode ≡ true) (w : Waiter)
    (f : Frame) (live : m.frame w ≡ Some f) (inner : f.lock.wait ≡ true → IsThen f.then) (up : m.halted w.cpu ≡ false) where
  abbrev x : Fields
  x = m.word f.lock

  abbrev y : RwFields
  y = m.rw f.lock.index

  abbrev flag : Bool
  flag = is_flagged m f

  -- what a row does that leads so and makes this world
  abbrev Turn : Pc → Lead → World → Type 0
  Turn c lead s = KeepsTurns m s × (goes lead ≡ true) × (halting_left (led f lead) ≡ halting_left_at (Some c) f)
      × (halting_turn_of s w (Some (led f lead)) < halting_turn_at m w f c)

  abbrev Around : Pc → Lead → World → Type 0
  Around c lead s = IsRobbed m f c × Calm m s f.lock × (goes lead ≡ true)
      × (halting_left (led f lead) ≡ halting_left_at (Some c) f)
      × (halting_turn_of s w (Some (led f lead)) ≡ halting_turn_at m w f c)

  abbrev Out : Pc → Lead → World → Type 0
  Out c lead s = ((stands_halting (Some c) ≡ false) × (led f lead ≡ f)) ⊎ (halting_left (led f lead) < halting_left_at (Some c) f)
      ⊎ Turn c lead s ⊎ Around c lead s

  down : (c : Pc) (lead : Lead) (s : World) → halting_left (led f lead) < halting_left_at (Some c) f → Out c lead s
  down c lead s lt = inr (inl lt)

  either : {A : Type 0} (c : Pc) (st : Option A → World) (b : Bool) (X Y : Effect A) → (b ≡ true → Out c X.leads (st X.stores))
      → (b ≡ false → Out c Y.leads (st Y.stores)) → Out c (if b then X else Y).leads (st (if b then X else Y).stores)
  either c st true X Y h k = h refl
  either c st false X Y h k = k refl

  to_row : (c : Pc) (s : World) (b : Bool) (d e : Pc) → (b ≡ true → Out c (Goes d []) s) → (b ≡ false → Out c (Goes e []) s)
      → Out c (Goes (if b then d else e) []) s
  to_row c s true d e h k = h refl
  to_row c s false d e h k = k refl

  -- the frame stays
  stays : (c : Pc) (s : World) → f.place ≡ Some c → stands_halting (Some c) ≡ false → Out c (Goes c []) s
  stays c s at h = inl (h, ap (λ (o : Option Pc). record f { place = o }) (sym at))

  -- a row among those in which a head goes around, to the next of them
  head : (c d : Pc) (lead : Lead) (s : World) (a k p n : ℕ) → goes_around c ≡ true → Calm m s f.lock
      → goes lead ≡ true → halting_left (led f lead) ≡ halting_left_at (Some c) f
      → halting_turn_of s w (Some (led f lead)) ≡ head_turn f.hashed (s.word f.lock).locked a k
      → halting_turn_at m w f c ≡ head_turn f.hashed x.locked p n → a < p → k < n → Out c lead s
  head c d lead s a k p n round calm away left now was lt less =
      elim (head_less f.hashed x.locked a k p n lt less) [
        | inl z ↦ inr (inr (inr ((round, z.0, z.1), calm, away, left, here ∙ z.2 ∙ sym was)))
        | inr z ↦ inr (inr (inl (calm.keeps, away, left, let q = here in omega (arith, q, was, z))))
      ]
    where
      here : halting_turn_of s w (Some (led f lead)) ≡ head_turn f.hashed x.locked a k
      here = now ∙ ap (λ (b : Locked). head_turn f.hashed b a k) (calm.keeps.byte f.lock)

  -- rows of readers and writers, and of a release

  flat : (d : Pc) (k : ℕ) → halting_rows d ≡ k → (h : Bool) → rows_to_hash d h ≡ 0 → is_on_the_way d ≡ false
      → halting_rows d + rows_to_hash d h + (if f.lock.wait then (if is_on_the_way d then halting_rows_if f.then else 0) else 0) ≡ k
  flat d k e h r t =
      let z : (if f.lock.wait then (if is_on_the_way d then halting_rows_if f.then else 0) else 0) ≡ (if f.lock.wait then 0 else 0) =
      ap (λ (b : Bool). if f.lock.wait then (if b then halting_rows_if f.then else 0) else 0) t in
      let q : (if f.lock.wait then 0 else 0) ≡ 0 = none_left f.lock.wait in
      omega (arith, z, q, e, r)

  -- as many rows are left of such a row
  flat_is : (d : Pc) (k : ℕ) → halting_rows d ≡ k → rows_to_hash d f.hashed ≡ 0 → is_on_the_way d ≡ false → halting_left_at (Some d) f ≡ k
  flat_is d k e r t = flat d k e f.hashed r t

  on_flat : (c d : Pc) (n k : ℕ) (s : World) → halting_rows c ≡ n → rows_to_hash c f.hashed ≡ 0 → is_on_the_way c ≡ false
      → halting_rows d ≡ k → rows_to_hash d f.hashed ≡ 0 → is_on_the_way d ≡ false → k < n → Out c (Goes d []) s
  on_flat c d n k s e r t e2 r2 t2 lt =
      down c (Goes d []) s
      (let a = flat_is c n e r t in let b : halting_left (gone f d []) ≡ k = flat d k e2 f.hashed r2 t2 in omega (arith, a, b, lt))

  ends_flat : (c : Pc) (n : ℕ) (lead : Lead) (s : World) → halting_rows c ≡ n → rows_to_hash c f.hashed ≡ 0 → is_on_the_way c ≡ false
      → (led f lead).place ≡ None → 0 < n → Out c lead s
  ends_flat c n lead s e r t none lt =
      down c lead s
      (let a = flat_is c n e r t in let z : halting_left (led f lead) ≡ 0 = ap (λ (o : Option Pc). halting_left_at o (led f lead)) none in
      omega (arith, a, z, lt))

  unlock_lt : (n : ℕ) (mode : Mode) → halts mode ≡ true → 4 < n → halting_left (led f (frees_wait mode)) < n
  unlock_lt n Pv a lt = let z : halting_left (gone f U2 []) ≡ 4 = flat U2 4 refl f.hashed refl refl in omega (arith, z, lt)
  unlock_lt n Virt a lt = cc a
  unlock_lt n Native a lt = cc a
  unlock_lt n Cna a lt = cc a

  unlocks : (c : Pc) (n : ℕ) (s : World) → halting_rows c ≡ n → rows_to_hash c f.hashed ≡ 0 → is_on_the_way c ≡ false → 4 < n
      → Out c (frees_wait m.mode) s
  unlocks c n s e r t lt =
      down c (frees_wait m.mode) s
      (let a = flat_is c n e r t in let z = unlock_lt n m.mode halting lt in omega (arith, a, z))

  -- where the family is known
  fast_on : (mode : Mode) → halts mode ≡ true → Out F1 (Goes (after_fast mode x) []) m
  fast_on Pv a = down F1 (Goes G1 []) m (omega arith)
  fast_on Virt a = cc a
  fast_on Native a = cc a
  fast_on Cna a = cc a

  entry_on : (mode : Mode) (me : Option NodeName) (s : World) → halts mode ≡ true
      → Out G1 (Rattle.lk_rows.specs.Row.Enters me (after_entry mode me)) s
  entry_on Pv me s a = inr (inl (omega arith))
  entry_on Virt me s a = cc a
  entry_on Native me s a = cc a
  entry_on Cna me s a = cc a

  arrival_on : (mode : Mode) (t : Option NodeName) (s : World) → halts mode ≡ true → Out G4 (after_arrival mode t).leads s
  arrival_on Pv None s a = inr (inl (omega arith))
  arrival_on Pv (Some n) s a = inr (inl (omega arith))
  arrival_on Virt t s a = cc a
  arrival_on Native t s a = cc a
  arrival_on Cna t s a = cc a

  link_on : (mode : Mode) (k : ℕ) (s : World) → halts mode ≡ true → Out G5 (after_link mode k) s
  link_on Pv k s a = inr (inl (omega arith))
  link_on Virt k s a = cc a
  link_on Native k s a = cc a
  link_on Cna k s a = cc a

  -- a waiter that looks whether it may steal

  looks_anew : f.place ≡ Some H1 → Out H1 (Goes H1 (Tailed (is_some x.tail) ∷ [])) m
  looks_anew at = elim (unlike_or f.tailed (is_some x.tail)) [
    | inl e ↦ inl (refl, (let r : Some H1 ≡ f.place = sym at in λ i. record f { tailed = e i; place = r i }))
    | inr e ↦ inr (inr (inl (keeps_self m, refl, refl, (let z = unlike_self (is_some x.tail) in omega (arith, z, e)))))
  ]

  glance : f.place ≡ Some H1 → (a b : Bool) → is_unlocked x.locked && not x.pending ≡ a → (me : Option NodeName)
      → Out H1 (Goes (if a then H2 else (if b then H1 else after_given_up me)) (Tailed (is_some x.tail) ∷ [])) m
  glance at true b e me =
      let q : is_unlocked x.locked ≡ true = grind (arith, e) in
      let z : ◌≡◌ {A = ℕ} (if is_unlocked x.locked then 0 else 3) 0 = ap (λ (t : Bool). if t then 0 else 3) q in
      inr (inr (inl (keeps_self m, refl, refl, omega (arith, z))))
  glance at false true e me = looks_anew at
  glance at false false e None = looks_anew at
  glance at false false e (Some n) = inr (inl (omega arith))

  misses : is_unlocked x.locked ≡ false → (t : Bool) (me : Option NodeName) → Out H2 (Goes (if t then H1 else after_given_up me) []) m
  misses e t me = by t me
    where
      back : Out H2 (Goes H1 []) m
      back =
          let z : ◌≡◌ {A = ℕ} (if is_unlocked x.locked then 0 else 3) 3 = ap (λ (t : Bool). if t then 0 else 3) e in
          let few = unlike_few f.tailed (is_some x.tail) in
          inr (inr (inl (keeps_self m, refl, refl, omega (arith, z, few))))

      by : (t : Bool) (me : Option NodeName) → Out H2 (Goes (if t then H1 else after_given_up me) []) m
      by true me = back
      by false None = back
      by false (Some n) = inr (inl (omega arith))

  -- a waiter that spins behind another

  -- a number by the flag, where it is known
  if_flag : (a b : ℕ) (t : Bool) → flag ≡ t → (if flag then a else b) ≡ (if t then a else b)
  if_flag a b t e = ap (λ (r : Bool). if r then a else b) e

  spins_on : 0 < f.left → (t : Bool)
      → Out W2 (if t then learns {A = State} W3 (Left 0) else learns {A = State} W1 (Left (f.left - 1))).leads m
  spins_on turns true =
      inr (inr (inl (keeps_self m, refl, refl, flag_less flag 4 6 5 (2 * f.left + 7) (omega arith) (omega (arith, turns)))))
  spins_on turns false =
      inr (inr (inl (keeps_self m, refl, refl, flag_less flag 1 (2 * (f.left - 1) + 8) 5 (2 * f.left + 7) (omega arith) (omega (arith, turns)))))

  halts_now : ◌≡◌ {A = ℕ} (if (if w.cpu == w.cpu then true else m.halted w.cpu) then 0 else 2) 0
  halts_now = let z : w.cpu == w.cpu ≡ true = grind arith in
      ap (λ (t : Bool). if (if t then true else m.halted w.cpu) then 0 else 2) z

  naps_now : ◌≡◌ {A = ℕ} (if (if w.cpu == w.cpu then true else m.halted w.cpu) then 0 else 1) 0
  naps_now = let z : w.cpu == w.cpu ≡ true = grind arith in
      ap (λ (t : Bool). if (if t then true else m.halted w.cpu) then 0 else 1) z

  awake : (n : ℕ) → (if m.halted w.cpu then 0 else n) ≡ n
  awake n = ap (λ (t : Bool). if t then 0 else n) up

  at_head : (h : Bool) (b : Locked) → f.hashed ≡ h → x.locked ≡ b → (a k : ℕ) → head_turn f.hashed x.locked a k ≡ head_turn h b a k
  at_head h b p q a k = ap (λ (t : Bool). head_turn t x.locked a k) p ∙ ap (λ (t : Locked). head_turn h t a k) q

  outside : f.hashed ≡ false → (a k : ℕ) → head_turn f.hashed x.locked a k ≡ k
  outside p a k = ap (λ (t : Bool). head_turn t x.locked a k) p ∙ off_hash x.locked a k

  hashed_left : f.hashed ≡ true → 7 + 0 + behind f ≡ 7 + (if f.hashed then 0 else 4) + behind f
  hashed_left e = let z : ◌≡◌ {A = ℕ} (if f.hashed then 0 else 4) 0 = ap (λ (t : Bool). if t then 0 else 4) e in omega (arith, z)

  -- a try that fails, by how the head stands
  fails : f.place ≡ Some E4 → 0 < f.left → is_unlocked x.locked && x.pending ≡ false → (t : Bool)
      → Out E4 (if t then learns {A = Fields} E5 (Left 0) else learns {A = Fields} E4 (Left (f.left - 1))).leads m
  fails at turns shut t = by f.hashed refl x.locked refl t
    where
      by : (h : Bool) → f.hashed ≡ h → (b : Locked) → x.locked ≡ b → (t : Bool)
          → Out E4 (if t then learns {A = Fields} E5 (Left 0) else learns {A = Fields} E4 (Left (f.left - 1))).leads m
      by true p Free q t =
          let z = tries_pending m hs ok halting w f live at in
          let y : is_unlocked x.locked ≡ true = ap is_unlocked q in
          absurd (let n : is_unlocked x.locked && x.pending ≡ true = grind (arith, y, z) in cc (n, shut))
      by true p Held q true =
          inr (inr (inr ((refl, p, q), calm_self m f.lock, refl, refl, at_head true Held p q 6 4 ∙ sym (at_head true Held p q 1 (f.left + 4)))))
      by true p Held q false =
          inr (inr (inr ((refl, p, q), calm_self m f.lock, refl, refl, at_head true Held p q 1 (f.left - 1 + 4) ∙ sym (at_head true Held p q 1 (f.left + 4)))))
      by true p Slow q true =
          inr (inr (inl (
            keeps_self m,
            refl,
            refl,
            let a = at_head true Slow p q 6 4 in let b = at_head true Slow p q 1 (f.left + 4) in
                omega (arith, a, b, turns),
          )))
      by true p Slow q false =
          inr (inr (inl (
            keeps_self m,
            refl,
            refl,
            let a = at_head true Slow p q 1 (f.left - 1 + 4) in
                let b = at_head true Slow p q 1 (f.left + 4) in omega (arith, a, b, turns),
          )))
      by false p b q true =
          inr (inr (inl (keeps_self m, refl, refl, let a = outside p 6 4 in let b = outside p 1 (f.left + 4) in omega (arith, a, b, turns))))
      by false p b q false =
          inr (inr (inl (
            keeps_self m,
            refl,
            refl,
            let a = outside p 1 (f.left - 1 + 4) in let b = outside p 1 (f.left + 4) in
                omega (arith, a, b, turns),
          )))

  -- a head clears the pending bit
  unpends : Out E5 (Goes (if f.hashed then E10 else E6) []) (stores_word m f.lock (Some (record x { pending = false })))
  unpends = by f.hashed refl
    where
      by : (t : Bool) → f.hashed ≡ t → Out E5 (Goes (if t then E10 else E6) []) (stores_word m f.lock (Some (record x { pending = false })))
      by true e =
          head E5 E10 (Goes E10 []) (stores_word m f.lock (Some (record x { pending = false }))) 5 3 6 4 refl (calm_pending m f.lock false)
          refl (hashed_left e) refl refl (omega arith) (omega arith)
      by false e =
          let z : ◌≡◌ {A = ℕ} (if f.hashed then 0 else 4) 4 = ap (λ (t : Bool). if t then 0 else 4) e in
          inr (inl (omega (arith, z)))

  -- a head tests the byte before it halts
  tests : f.hashed ≡ true → Out E11 (Goes (if is_slow_byte x.locked then E12 else E2) []) m
  tests p = by x.locked refl
    where
      by : (b : Locked) → x.locked ≡ b → Out E11 (Goes (if is_slow_byte b then E12 else E2) []) m
      by Slow q =
          inr (inr (inl (keeps_self m, refl, refl, let a = awake 1 in let b = at_head true Slow p q 4 2 in omega (arith, a, b))))
      by Held q =
          inr (inr (inr (
            (refl, p, q),
            calm_self m f.lock,
            refl,
            sym (hashed_left p),
            at_head true Held p q 3 (m.turns + 6) ∙ sym (at_head true Held p q 4 2),
          )))
      by Free q =
          inr (inr (inl (
            keeps_self m,
            refl,
            sym (hashed_left p),
            let a = at_head true Free p q 3 (m.turns + 6) in
                let b = at_head true Free p q 4 2 in omega (arith, a, b),
          )))

  abbrev own : NodeName
  own = node_of f.me

  -- the flag after a store into the state of the own node
  flag_kept : (s : World) → KeepsTurns m s → (a b : ℕ) → (if is_set (s.node own).flag then a else b) ≡ (if flag then a else b)
  flag_kept s keeps a b = ap (λ (t : Rattle.lk_rows.specs.declared.parts.Flag.Flag). if is_set t then a else b) (keeps.flag own)

  -- the rows of the paravirtual lock
  pub pv : (c : Pc) → f.place ≡ Some c → stays_awake c ≡ false → chooses c ≡ false
      → (c ≡ E4 → 0 < f.left) → (c ≡ W2 → 0 < f.left) → (c ≡ E11 → f.hashed ≡ true)
      → Out c (course_in m w f c (target c f)).leads (stored_in m w f c (target c f))
  pv F1 at a b tries peers hash =
      either F1 (stores_word m f.lock) (is_free x) _ _ (λ e. inr (inl (had_lt f 18 f.me inner (omega arith)))) (λ e. fast_on m.mode halting)
  pv T1 at a b tries peers hash =
      either T1 (stores_word m f.lock) (is_free x) _ _ (λ e. inr (inl (omega arith))) (λ e. inr (inl (omega arith)))
  pv T2 at a b tries peers hash =
      either T2 (stores_word m f.lock) (is_free x) _ _ (λ e. inr (inl (had_lt f 1 f.me inner (omega arith)))) (λ e. inr (inl (omega arith)))
  pv G1 at a b tries peers hash = entry_on m.mode (own_node w.cpu (m.queued w.cpu)) _ halting
  pv G4 at a b tries peers hash = arrival_on m.mode x.tail _ halting
  pv G5 at a b tries peers hash = link_on m.mode m.turns _ halting
  pv H1 at a b tries peers hash = glance at (is_unlocked x.locked && not x.pending) (is_some x.tail && not x.pending) refl f.me
  pv H2 at a b tries peers hash =
      either H2 (stores_word m f.lock) (is_unlocked x.locked) _ _ (λ e. inr (inl (had_lt f 16 None inner (omega arith))))
      (λ e. misses e f.tailed f.me)
  pv W1 at a b tries peers hash =
      to_row W1 m flag E1 W2 (λ e. inr (inl (omega arith)))
      (λ e. inr (inr (inl (
        keeps_self m,
        refl,
        refl,
        let p = if_flag 5 (2 * f.left + 7) false e in let q = if_flag 1 (2 * f.left + 8) false e in
            omega (arith, p, q),
      ))))
  pv W2 at a b tries peers hash =
      either W2 (stores_state m (node_of f.prev)) (is_running (m.node (node_of f.prev)).state) _ _
      (λ e. again (f.left - 1 == 0))
      (λ e. inr (inr (inl (keeps_self m, refl, refl, flag_less flag 4 6 5 (2 * f.left + 7) (omega arith) (omega arith)))))
    where
      again : (t : Bool) → Out W2 (if t then learns {A = State} W3 (Left 0) else learns {A = State} W1 (Left (f.left - 1))).leads
          (stores_state m (node_of f.prev) (if t then learns {A = State} W3 (Left 0) else learns {A = State} W1 (Left (f.left - 1))).stores)
      again true = spins_on (peers refl) true
      again false = spins_on (peers refl) false
  pv W3 at a b tries peers hash =
      let keeps = (calm_state m own state.Halted f.lock).keeps in
      inr (inr (inl (
        keeps,
        refl,
        refl,
        let p = flag_kept (stores_state m own (Some state.Halted)) keeps 3 5 in
            let q = flag_less flag 3 5 4 6 (omega arith) (omega arith) in omega (arith, p, q),
      )))
  pv W4 at a b tries peers hash =
      either W4 (stores_flag m own) flag _ _
      (λ e. inr (inr (inl (keeps_self m, refl, refl, let p = if_flag 2 (2 * m.turns + 9) true e in let q = if_flag 3 5 true e in omega (arith, p, q)))))
      (λ e. inr (inr (inl (keeps_self m, refl, refl, let p = if_flag 3 4 false e in let q = if_flag 3 5 false e in omega (arith, p, q)))))
  pv W5 at a b tries peers hash =
      to_row W5 m (is_halted (m.node own).state) W6 W7
      (λ e. inr (inr (inl (keeps_self m, refl, refl, let p = awake 2 in let q = two_less flag in omega (arith, p, q)))))
      (λ e. inr (inr (inl (
        keeps_self m,
        refl,
        refl,
        let z = doubts_led m hs ok halting w f live at e in
            let p = if_flag 2 (2 * m.turns + 9) true z in let q = if_flag 3 4 true z in omega (arith, p, q),
      ))))
  pv W6 at a b tries peers hash =
      inr (inr (inl (keeps_halted m w.cpu, refl, refl, let p = halts_now in let q = awake 2 in omega (arith, p, q))))
  pv W7 at a b tries peers hash =
      either W7 (stores_state m own) (is_halted (m.node own).state) _ _
      (λ e. let keeps = (calm_state m own state.Running f.lock).keeps in
      inr (inr (inl (
        keeps,
        refl,
        refl,
        let p = flag_kept (stores_state m own (Some state.Running)) keeps 1 (2 * m.turns + 8) in
            let q = flag_less flag 1 (2 * m.turns + 8) 2 (2 * m.turns + 9) (omega arith) (omega arith) in omega (arith, p, q),
      ))))
      (λ e. inr (inr (inl (keeps_self m, refl, refl, flag_less flag 1 (2 * m.turns + 8) 2 (2 * m.turns + 9) (omega arith) (omega arith)))))
  pv E1 at a b tries peers hash = inr (inl (let z = four_most (Rattle.lk_rows.specs.rows.Pv.is_hashed (m.node own).state) in omega (arith, z)))
  pv E2 at a b tries peers hash =
      head E2 E3 (Goes E3 []) (stores_state m own (Some state.Running)) 2 (m.turns + 5) 3 (m.turns + 6) refl (calm_state m own state.Running f.lock)
      refl refl refl refl (omega arith) (omega arith)
  pv E3 at a b tries peers hash =
      head E3 E4 (Goes E4 (Left m.turns ∷ [])) (stores_word m f.lock (Some (record x { pending = true }))) 1 (m.turns + 4) 2 (m.turns + 5)
      refl (calm_pending m f.lock true) refl refl refl refl (omega arith) (omega arith)
  pv E4 at a b tries peers hash =
      either E4 (stores_word m f.lock) (is_unlocked x.locked && x.pending) _ _ (λ e. inr (inl (omega arith)))
      (λ e. again e (f.left - 1 == 0))
    where
      again : is_unlocked x.locked && x.pending ≡ false → (t : Bool)
          → Out E4 (if t then learns {A = Fields} E5 (Left 0) else learns {A = Fields} E4 (Left (f.left - 1))).leads
          (stores_word m f.lock (if t then learns {A = Fields} E5 (Left 0) else learns {A = Fields} E4 (Left (f.left - 1))).stores)
      again e true = fails at (tries refl) e true
      again e false = fails at (tries refl) e false
  pv E5 at a b tries peers hash = unpends
  pv E6 at a b tries peers hash = inr (inl (omega arith))
  pv E7 at a b tries peers hash =
      either E7 (stores_word m f.lock) (is_unlocked x.locked) _ _ (λ e. inr (inl (omega arith))) (λ e. inr (inl (omega arith)))
  pv E8 at a b tries peers hash = inr (inl (omega arith))
  pv E9 at a b tries peers hash = inr (inl (omega arith))
  pv E10 at a b tries peers hash =
      head E10 E11 (Goes E11 []) (stores_state m own (Some state.Hashed)) 4 2 5 3 refl (calm_state m own state.Hashed f.lock)
      refl refl refl refl (omega arith) (omega arith)
  pv E11 at a b tries peers hash = tests (hash refl)
  pv E12 at a b tries peers hash =
      inr (inr (inl (keeps_halted m w.cpu, refl, refl, let p = naps_now in let q = awake 1 in omega (arith, p, q))))
  pv E13 at a b tries peers hash =
      either E13 (stores_word m f.lock) (is_last f x) _ _ (λ e. inr (inl (had_lt f 6 None inner (omega arith)))) (λ e. inr (inl (omega arith)))
  pv E14 at a b tries peers hash = by (m.node own).next
    where
      by : (o : Option NodeName) → Out E14 (pv_after_next o).leads (stores_next m own (pv_after_next o).stores)
      by None = stays E14 m at refl
      by (Some n) = inr (inl (omega arith))
  pv E15 at a b tries peers hash = inr (inl (omega arith))
  pv K1 at a b tries peers hash =
      either K1 (stores_state m (node_of f.y)) (is_halted (m.node (node_of f.y)).state) _ _ (λ e. inr (inl (omega arith)))
      (λ e. inr (inl (had_lt f 3 None inner (omega arith))))
  pv K2 at a b tries peers hash = inr (inl (omega arith))
  pv K3 at a b tries peers hash = inr (inl (had_lt f 1 None inner (omega arith)))
  pv U2 at a b tries peers hash =
      either U2 (stores_word m f.lock) (is_held x.locked) _ _ (λ e. ends_flat U2 4 Freed _ refl refl refl refl (omega arith))
      (λ e. on_flat U2 U3 4 3 m refl refl refl refl refl refl (omega arith))
  pv U3 at a b tries peers hash =
      inr (inl (let p = flat_is U3 3 refl refl refl in let q = flat U4 2 refl f.hashed refl refl in omega (arith, p, q)))
  pv U4 at a b tries peers hash =
      inr (inl (let p = flat_is U4 2 refl refl refl in let q = flat U5 1 refl f.hashed refl refl in omega (arith, p, q)))
  pv U5 at a b tries peers hash = ends_flat U5 1 Freed _ refl refl refl refl (omega arith)
  pv R1 at a b tries peers hash =
      either R1 (stores_rw m f.lock.index) (is_open y) _ _ (λ e. ends_flat R1 26 Done _ refl refl refl refl (omega arith))
      (λ e. to_row R1 _ (f.ctx == 0) R3 R2 (λ e. on_flat R1 R3 26 25 _ refl refl refl refl refl refl (omega arith))
      (λ e. on_flat R1 R2 26 1 _ refl refl refl refl refl refl (omega arith)))
  pv R2 at a b tries peers hash =
      either R2 (stores_rw m f.lock.index) y.writer _ _ (λ e. stays R2 m at refl) (λ e. ends_flat R2 1 Done _ refl refl refl refl (omega arith))
  pv R3 at a b tries peers hash = inr (inl (let p = flat_is R3 25 refl refl refl in omega (arith, p)))
  pv R4 at a b tries peers hash = on_flat R4 R5 6 5 _ refl refl refl refl refl refl (omega arith)
  pv R5 at a b tries peers hash =
      either R5 (stores_rw m f.lock.index) y.writer _ _ (λ e. stays R5 m at refl) (λ e. unlocks R5 5 _ refl refl refl (omega arith))
  pv Wr1 at a b tries peers hash =
      either Wr1 (stores_rw m f.lock.index) (is_empty y) _ _ (λ e. ends_flat Wr1 27 Done _ refl refl refl refl (omega arith))
      (λ e. inr (inl (let p = flat_is Wr1 27 refl refl refl in omega (arith, p))))
  pv Wr2 at a b tries peers hash =
      to_row Wr2 m (is_empty y) Wr3 Wr4 (λ e. on_flat Wr2 Wr3 8 7 _ refl refl refl refl refl refl (omega arith))
      (λ e. on_flat Wr2 Wr4 8 6 _ refl refl refl refl refl refl (omega arith))
  pv Wr3 at a b tries peers hash =
      either Wr3 (stores_rw m f.lock.index) (is_empty y) _ _ (λ e. unlocks Wr3 7 _ refl refl refl (omega arith))
      (λ e. on_flat Wr3 Wr4 7 6 _ refl refl refl refl refl refl (omega arith))
  pv Wr4 at a b tries peers hash = on_flat Wr4 Wr5 6 5 _ refl refl refl refl refl refl (omega arith)
  pv Wr5 at a b tries peers hash =
      to_row Wr5 m (is_cleared y) Wr6 Wr5
      (λ e. inr (inr (inl (keeps_self m, refl, refl, let p : ◌≡◌ {A = ℕ} (if is_cleared y then 0 else 2) 0 = ap (λ (t : Bool). if t then 0 else 2) e in omega (arith, p)))))
      (λ e. stays Wr5 m at refl)
  pv Wr6 at a b tries peers hash =
      either Wr6 (stores_rw m f.lock.index) (is_cleared y) _ _ (λ e. unlocks Wr6 5 _ refl refl refl (omega arith))
      (λ e. inr (inr (inl (keeps_self m, refl, refl, let p : ◌≡◌ {A = ℕ} (if is_cleared y then 0 else 2) 2 = ap (λ (t : Bool). if t then 0 else 2) e in omega (arith, p)))))
  pv Y1 at a b tries peers hash =
      either Y1 (stores_rw m f.lock.index) (is_open y) _ _ (λ e. on_flat Y1 Y2 3 2 _ refl refl refl refl refl refl (omega arith))
      (λ e. ends_flat Y1 3 Missed _ refl refl refl refl (omega arith))
  pv Y2 at a b tries peers hash =
      either Y2 (stores_rw m f.lock.index) (is_open y) _ _ (λ e. ends_flat Y2 2 Done _ refl refl refl refl (omega arith))
      (λ e. on_flat Y2 Y3 2 1 _ refl refl refl refl refl refl (omega arith))
  pv Y3 at a b tries peers hash = ends_flat Y3 1 Missed _ refl refl refl refl (omega arith)
  pv Y4 at a b tries peers hash =
      either Y4 (stores_rw m f.lock.index) (is_empty y) _ _ (λ e. on_flat Y4 Y5 2 1 _ refl refl refl refl refl refl (omega arith))
      (λ e. ends_flat Y4 2 Missed _ refl refl refl refl (omega arith))
  pv Y5 at a b tries peers hash =
      either Y5 (stores_rw m f.lock.index) (is_empty y) _ _ (λ e. ends_flat Y5 1 Done _ refl refl refl refl (omega arith))
      (λ e. ends_flat Y5 1 Missed _ refl refl refl refl (omega arith))
  pv Z1 at a b tries peers hash = ends_flat Z1 1 Done _ refl refl refl refl (omega arith)
  pv Z2 at a b tries peers hash = ends_flat Z2 1 Done _ refl refl refl refl (omega arith)
  pv _ at a b tries peers hash = cc (a, b)
