-- A reader in an interrupt takes no wait lock: it waits for the writer alone.
use Rattle.std.proofs.Common.{◌≡◌, ◌≢◌, ◌<◌, arith, inl, inr, ℕ, Option, Some, None, Bool, true}
use Rattle.std.proofs.Common.{false, refl, sym, ap, ◌∙◌, List, [], if◌then◌else◌, is_some, ◌&&◌}
use Rattle.std.proofs.Common.{not, ◌==◌, ◌-◌, ◌∷◌}
use Rattle.lk_progress.proofs.Names.{cases_Bool, RwFields, Fields, NodeName, LockName, Mode, Cna}
use Rattle.lk_progress.proofs.Names.{Native, Pv, Virt, Waiter, is_node, node_of, Done, Effect}
use Rattle.lk_progress.proofs.Names.{Enters, Freed, Goes, Granted, Lead, Leaves, Missed, TakesWait}
use Rattle.lk_progress.proofs.Names.{Yields, target, Flag, Frame, Pc, C1, C2, C3, C4, C5, C6, C7}
use Rattle.lk_progress.proofs.Names.{C8, C9, C10, E1, E2, E3, E4, E5, E6, E7, E8, E9, E10, E11, E12}
use Rattle.lk_progress.proofs.Names.{E13, E14, E15, F1, G1, G2, G3, G4, G5, G6, G7, G8, G9, G10}
use Rattle.lk_progress.proofs.Names.{G11, H1, H2, K1, K2, K3, N1, N2, P0, P1, P2, P3, P4, R1, R2}
use Rattle.lk_progress.proofs.Names.{R3, R4, R5, T1, T2, U1, U2, U3, U4, U5, V1, V2, W1, W2, W3, W4}
use Rattle.lk_progress.proofs.Names.{W5, W6, W7, Wr1, Wr2, Wr3, Wr4, Wr5, Wr6, Y1, Y2, Y3, Y4, Y5}
use Rattle.lk_progress.proofs.Names.{Z1, Z2, Why, after_tail, is_held, is_last, may_stay}
use Rattle.lk_progress.proofs.Names.{search_first, search_on, after_given_up, after_glance}
use Rattle.lk_progress.proofs.Names.{is_halted, is_running, is_set, is_slow_byte, pv_after_next}
use Rattle.lk_progress.proofs.Names.{after_arrival, after_entry, after_flag, after_head, after_link}
use Rattle.lk_progress.proofs.Names.{after_next, is_sole, own_node, frees_wait, is_cleared}
use Rattle.lk_progress.proofs.Names.{is_empty, is_open, after_fast, is_free, is_unlocked, to_queue}
use Rattle.lk_progress.proofs.Names.{course_in, IsThen, led, sight_in, World, same_changed_all}
use Rattle.lk_progress.proofs.Names.{ReadsAlone}
use Rattle.lk_rows.specs.Row.{Change}
use Rattle.lk_rows.specs.declared.parts.Flag.TheVariants as flag
use Rattle.lk_rows.specs.declared.parts.Why.TheVariants as why

-- the place at which a task's reader takes its bias back
abbrev pub tells : Option Pc → Bool
tells (Some R3) = true
tells _ = false

-- the lead takes the wait lock for a reader
abbrev pub takes_reader : Lead → Bool
takes_reader (TakesWait R4) = true
takes_reader _ = false

-- neither of them
abbrev pub Calm : Frame → Lead → Type 0
Calm f lead = (tells (led f lead).place ≡ false) × (takes_reader lead ≡ false)

either_calm : {A : Type 0} (f : Frame) (b : Bool) (x y : Effect A) → Calm f x.leads → Calm f y.leads
    → Calm f (if b then x else y).leads
either_calm f true x y h k = h
either_calm f false x y h k = k

either_row : (b : Bool) (d e : Pc) → tells (Some d) ≡ false → tells (Some e) ≡ false → tells (Some (if b then d else e)) ≡ false
either_row true d e h k = h
either_row false d e h k = k

after : (f : Frame) → (f.lock.wait ≡ true → IsThen f.then) → tells (if f.lock.wait then f.then else None) ≡ false
after f inner =
    elim (cases_Bool f.lock.wait) [
      | inl e ↦ rw e (elim (inner e) [ inl q ↦ ap tells q | inr q ↦ ap tells q ])
      | inr e ↦ rw e refl
    ]

calm_queue : (x : Fields) → tells (Some (to_queue x)) ≡ false
calm_queue x = either_row x.pending G1 _ refl (either_row (is_some x.tail) G1 P1 refl refl)

calm_fast : (mode : Mode) (x : Fields) → tells (Some (after_fast mode x)) ≡ false
calm_fast Virt x = refl
calm_fast Pv x = refl
calm_fast Native x = either_row (is_unlocked x.locked && x.pending && not (is_some x.tail)) P0 _ refl (calm_queue x)
calm_fast Cna x = either_row (is_unlocked x.locked && x.pending && not (is_some x.tail)) P0 _ refl (calm_queue x)

calm_entry : (mode : Mode) (me : Option NodeName) → tells (Some (after_entry mode me)) ≡ false
calm_entry Virt None = refl
calm_entry Native None = refl
calm_entry Cna None = refl
calm_entry Pv None = refl
calm_entry Virt (Some n) = refl
calm_entry Native (Some n) = refl
calm_entry Cna (Some n) = refl
calm_entry Pv (Some n) = refl

calm_arrival : (mode : Mode) (f : Frame) (t : Option NodeName) → Calm f (after_arrival mode t).leads
calm_arrival Virt f None = (refl, refl)
calm_arrival Native f None = (refl, refl)
calm_arrival Cna f None = (refl, refl)
calm_arrival Pv f None = (refl, refl)
calm_arrival Virt f (Some n) = (refl, refl)
calm_arrival Native f (Some n) = (refl, refl)
calm_arrival Cna f (Some n) = (refl, refl)
calm_arrival Pv f (Some n) = (refl, refl)

calm_link : (mode : Mode) (f : Frame) (k : ℕ) → Calm f (after_link mode k)
calm_link Virt f k = (refl, refl)
calm_link Native f k = (refl, refl)
calm_link Cna f k = (refl, refl)
calm_link Pv f k = (refl, refl)

calm_flag : (f : Frame) (x : Flag) → Calm f (after_flag x).leads
calm_flag f flag.Unset = (refl, refl)
calm_flag f flag.Go = (refl, refl)
calm_flag f (flag.Second n) = (refl, refl)

calm_head : (mode : Mode) → tells (Some (after_head mode)) ≡ false
calm_head Virt = refl
calm_head Native = refl
calm_head Cna = refl
calm_head Pv = refl

calm_next : (f : Frame) (x : Option NodeName) → Calm f (after_next x).leads
calm_next f None = (refl, refl)
calm_next f (Some n) = (refl, refl)

calm_look : (f : Frame) (x : Option NodeName) → Calm f (pv_after_next x).leads
calm_look f None = (refl, refl)
calm_look f (Some n) = (refl, refl)

calm_given_up : (me : Option NodeName) → tells (Some (after_given_up me)) ≡ false
calm_given_up None = refl
calm_given_up (Some n) = refl

calm_glance : (me : Option NodeName) (x : Fields) → tells (Some (after_glance me x)) ≡ false
calm_glance me x =
    either_row (is_unlocked x.locked && not x.pending) H2 _ refl
    (either_row (is_some x.tail && not x.pending) H1 _ refl (calm_given_up me))

calm_unlock : (f : Frame) (mode : Mode) → Calm f (frees_wait mode)
calm_unlock f Virt = (refl, refl)
calm_unlock f Native = (refl, refl)
calm_unlock f Cna = (refl, refl)
calm_unlock f Pv = (refl, refl)

module _ (m : World) (w : Waiter) (f : Frame) (inner : f.lock.wait ≡ true → IsThen f.then) (up : 0 < f.ctx) where
  abbrev x : Fields
  x = m.word f.lock

  abbrev y : RwFields
  y = m.rw f.lock.index

  abbrev lead : Pc → Lead
  lead c = (course_in m w f c (target c f)).leads

  not_task : f.ctx == 0 ≡ false
  not_task = grind (arith, up)

  calm_first : (o y : Option NodeName) → Calm f (search_first (sight_in m w f) o y).leads
  calm_first None None = (refl, refl)
  calm_first (Some n) None = (refl, refl)
  calm_first o (Some n) = either_calm f (may_stay (sight_in m w f)) _ _
      (either_calm f ((sight_in m w f).local n) _ _ (refl, refl) (refl, refl))
      (either_calm f (is_some o) _ _ (refl, refl) (refl, refl))

  calm_on : (y : Option NodeName) → Calm f (search_on (sight_in m w f) f y).leads
  calm_on None = either_calm f (is_some f.second) _ _ (refl, refl) (refl, refl)
  calm_on (Some n) = either_calm f ((sight_in m w f).local n) _ _
      (either_calm f (is_some f.second) _ _ (refl, refl) (refl, refl)) (refl, refl)

  calm_tail : (y : Why) (cs : List Change) → Calm f (Goes (after_tail y) cs)
  calm_tail why.Append cs = (refl, refl)
  calm_tail why.Flush cs = (refl, refl)
  calm_tail why.Promotion cs = (refl, refl)

  calm : (c : Pc) → c ≢ R3 → Calm f (lead c)
  calm F1 p = either_calm f (is_free x) _ _ (after f inner, refl) (calm_fast m.mode x, refl)
  calm T1 p = either_calm f (is_free x) _ _ (refl, refl) (refl, refl)
  calm T2 p = either_calm f (is_free x) _ _ (after f inner, refl) (refl, refl)
  calm U1 p = (refl, refl)
  calm V1 p = (either_row (is_free x) V2 V1 refl refl, refl)
  calm V2 p = either_calm f (is_free x) _ _ (after f inner, refl) (refl, refl)
  calm P0 p = (calm_queue x, refl)
  calm P1 p = (
    either_row x.pending G1 _ refl
        (either_row (is_some x.tail) P2 _ refl (either_row (is_unlocked x.locked) P4 P3 refl refl)),
    refl,
  )
  calm P2 p = (refl, refl)
  calm P3 p = (either_row (is_unlocked x.locked) P4 P3 refl refl, refl)
  calm P4 p = (after f inner, refl)
  calm G1 p = (calm_entry m.mode (own_node w.cpu (m.queued w.cpu)), refl)
  calm G2 p = (either_row (is_free x) G3 G4 refl refl, refl)
  calm G3 p = either_calm f (is_free x) _ _ (after f inner, refl) (refl, refl)
  calm G4 p = calm_arrival m.mode f x.tail
  calm G5 p = calm_link m.mode f m.turns
  calm G6 p = calm_flag f (m.node (node_of f.me)).flag
  calm G7 p = (either_row (is_unlocked x.locked && not x.pending) _ G7 (either_row (is_node x.tail (node_of f.me) && not (is_some f.second)) G8 G9 refl refl) refl, refl)
  calm G8 p = either_calm f (is_sole f x) _ _ (after f inner, refl) (refl, refl)
  calm G9 p = (calm_head m.mode, refl)
  calm G10 p = calm_next f (m.node (node_of f.me)).next
  calm G11 p = (after f inner, refl)
  calm N1 p = (either_row (is_free x) N2 N1 refl refl, refl)
  calm N2 p = either_calm f (is_free x) _ _ (after f inner, refl) (refl, refl)
  calm R1 p = either_calm f (is_open y) _ _ (refl, refl) (ap (λ (t : Bool). tells (Some (if t then R3 else R2))) not_task, refl)
  calm R2 p = either_calm f y.writer _ _ (refl, refl) (refl, refl)
  calm R3 p = absurd (p refl)
  calm R4 p = (refl, refl)
  calm R5 p = either_calm f y.writer _ _ (refl, refl) (calm_unlock f m.mode)
  calm Wr1 p = either_calm f (is_empty y) _ _ (refl, refl) (refl, refl)
  calm Wr2 p = (either_row (is_empty y) Wr3 Wr4 refl refl, refl)
  calm Wr3 p = either_calm f (is_empty y) _ _ (calm_unlock f m.mode) (refl, refl)
  calm Wr4 p = (refl, refl)
  calm Wr5 p = (either_row (is_cleared y) Wr6 Wr5 refl refl, refl)
  calm Wr6 p = either_calm f (is_cleared y) _ _ (calm_unlock f m.mode) (refl, refl)
  calm Y1 p = either_calm f (is_open y) _ _ (refl, refl) (refl, refl)
  calm Y2 p = either_calm f (is_open y) _ _ (refl, refl) (refl, refl)
  calm Y3 p = (refl, refl)
  calm Y4 p = either_calm f (is_empty y) _ _ (refl, refl) (refl, refl)
  calm Y5 p = either_calm f (is_empty y) _ _ (refl, refl) (refl, refl)
  calm Z1 p = (refl, refl)
  calm Z2 p = (refl, refl)
  calm C1 p = calm_first f.second (m.node (node_of f.me)).next
  calm C2 p = calm_on (m.node (node_of f.b)).next
  calm C3 p = calm_tail f.why (Rattle.lk_rows.specs.Row.T (m.node (node_of f.second)).second_tail ∷ [])
  calm C4 p = (refl, refl)
  calm C5 p = (refl, refl)
  calm C6 p = (refl, refl)
  calm C7 p = (refl, refl)
  calm C8 p = (after f inner, refl)
  calm C9 p = (refl, refl)
  calm C10 p = either_calm f (is_last f (m.word f.lock)) _ _ (refl, refl) (refl, refl)
  calm H1 p = (calm_glance f.me x, refl)
  calm H2 p =
      either_calm f (is_unlocked x.locked) _ _ (after f inner, refl)
      (either_row f.tailed H1 _ refl (calm_given_up f.me), refl)
  calm W1 p = (either_row (is_set (m.node (node_of f.me)).flag) E1 W2 refl refl, refl)
  calm W2 p =
      either_calm f (is_running (m.node (node_of f.prev)).state) _ _
      (either_calm f (f.left - 1 == 0) _ _ (refl, refl) (refl, refl)) (refl, refl)
  calm W3 p = (refl, refl)
  calm W4 p = either_calm f (is_set (m.node (node_of f.me)).flag) _ _ (refl, refl) (refl, refl)
  calm W5 p = (either_row (is_halted (m.node (node_of f.me)).state) W6 W7 refl refl, refl)
  calm W6 p = (refl, refl)
  calm W7 p = either_calm f (is_halted (m.node (node_of f.me)).state) _ _ (refl, refl) (refl, refl)
  calm E1 p = (refl, refl)
  calm E2 p = (refl, refl)
  calm E3 p = (refl, refl)
  calm E4 p =
      either_calm f (is_unlocked x.locked && x.pending) _ _ (refl, refl)
      (either_calm f (f.left - 1 == 0) _ _ (refl, refl) (refl, refl))
  calm E5 p = (either_row f.hashed E10 E6 refl refl, refl)
  calm E6 p = (refl, refl)
  calm E7 p = either_calm f (is_unlocked x.locked) _ _ (refl, refl) (refl, refl)
  calm E8 p = (refl, refl)
  calm E9 p = (refl, refl)
  calm E10 p = (refl, refl)
  calm E11 p = (either_row (is_slow_byte x.locked) E12 E2 refl refl, refl)
  calm E12 p = (refl, refl)
  calm E13 p = either_calm f (is_last f x) _ _ (after f inner, refl) (refl, refl)
  calm E14 p = calm_look f (m.node (node_of f.me)).next
  calm E15 p = (refl, refl)
  calm K1 p = either_calm f (is_halted (m.node (node_of f.y)).state) _ _ (refl, refl) (after f inner, refl)
  calm K2 p = (refl, refl)
  calm K3 p = (after f inner, refl)
  calm U2 p = either_calm f (is_held x.locked) _ _ (refl, refl) (refl, refl)
  calm U3 p = (refl, refl)
  calm U4 p = (refl, refl)
  calm U5 p = (refl, refl)

led_reads : (f : Frame) (lead : Lead) → takes_reader lead ≡ false → (f.lock.wait ≡ true → f.then ≢ Some R4)
    → (led f lead).lock.wait ≡ true → (led f lead).then ≢ Some R4
led_reads f (Goes c cs) t old w e =
    let s = same_changed_all f cs in
    old (ap (λ (l : Rattle.lk_names.specs.declared.names.LockName.LockName). l.wait) (sym s.lock) ∙ w) (sym s.next ∙ e)
led_reads f (Enters me c) t old w e = old w e
led_reads f Granted t old w e = old w e
led_reads f Freed t old w e = old w e
led_reads f Missed t old w e = old w e
led_reads f Done t old w e = old w e
led_reads f (TakesWait c) t old w e =
    let q : c ≡ R4 = (let z : Some c ≡ Some R4 = e in cc z) in
    let z = ap (λ (k : Pc). takes_reader (TakesWait k)) q in
    cc (z, t)
led_reads f Leaves t old w e = old w e
led_reads f (Yields c cs) t old w e =
    let s = same_changed_all f cs in
    old (ap (λ (l : Rattle.lk_names.specs.declared.names.LockName.LockName). l.wait) (sym s.lock) ∙ w) (sym s.next ∙ e)

pub row_reads_alone : (m : World) (w : Waiter) (f : Frame) (c : Pc) → (f.lock.wait ≡ true → IsThen f.then) → 0 < f.ctx
    → f.place ≡ Some c → ReadsAlone f
    → ReadsAlone (led f (course_in m w f c (target c f)).leads)
row_reads_alone m w f c inner up place old =
    let z = calm m w f inner up c (λ e. old.0 (place ∙ ap Some e)) in (
      λ e. (let y = ap tells e in let x = z.0 in cc (y, x)),
      led_reads f (course_in m w f c (target c f)).leads z.1 old.1,
    )
