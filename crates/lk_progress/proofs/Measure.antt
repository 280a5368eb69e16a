-- Each row leaves its frame where it was, or leaves it fewer rows, or leads it on in its turn.
use Rattle.std.proofs.Common.{◌≡◌, ◌⊎◌, ◌<◌, ◌+◌, ℕ, arith, inl, inr, Option, Some, None, Bool}
use Rattle.std.proofs.Common.{true, false, refl, ap, [], if◌then◌else◌, is_some, ◌&&◌, not, ◌==◌}
use Rattle.lk_progress.proofs.Names.{RwFields, Fields, NodeName, Mode, Cna, Native, Pv, Virt}
use Rattle.lk_progress.proofs.Names.{Waiter, is_node, node_of, Effect, Goes, Lead}
use Rattle.lk_progress.proofs.Names.{gone, looks, target, Flag, Frame, Pc, F1, G1, G2, G3}
use Rattle.lk_progress.proofs.Names.{G4, G5, G6, G7, G8, G9, G10, G11, N1, N2, P0, P1, P2, P3, P4}
use Rattle.lk_progress.proofs.Names.{R1, R2, R3, R4, R5, T1, T2, U1, U2, V1, V2, Wr1, Wr2, Wr3, Wr4}
use Rattle.lk_progress.proofs.Names.{Wr5, Wr6, Y1, Y2, Y3, Y4, Y5, Z1, Z2, after_arrival}
use Rattle.lk_progress.proofs.Names.{after_entry, after_flag, after_head, after_link, after_next}
use Rattle.lk_progress.proofs.Names.{is_sole, own_node, takes_out, frees_wait, is_cleared, is_empty}
use Rattle.lk_progress.proofs.Names.{is_open, after_fast, is_free, is_unlocked, to_queue, halts}
use Rattle.lk_progress.proofs.Names.{chooses, may_halt, course_in, stored_in, IsThen, led}
use Rattle.lk_progress.proofs.Names.{stores_word, World, goes, is_turn, left_at, left_of, turn_at}
use Rattle.lk_progress.proofs.Names.{turn_of}
use Rattle.lk_rows.specs.{Row.Change, rows.Rw.takes_written, rows.Spin.takes}
use Rattle.lk_law.specs.Steps.{stores_rw}
use Rattle.lk_progress.specs.Measure.{rows_left, rows_left_if, is_taking}
use Rattle.lk_rows.specs.declared.parts.Flag.TheVariants as flag
use Rattle.lk_names.specs.declared.events.How.TheVariants as how
use Rattle.lk_names.specs.declared.events.RwHow.TheVariants as rw_how

-- what is behind a wait lock on the way to it
abbrev behind : Frame → ℕ
behind f = if f.lock.wait then rows_left_if f.then else 0

-- the row leaves its frame where it was, or fewer rows than this
abbrev Less : Pc → ℕ → Frame → Type 0
Less c n g = (g.place ≡ Some c) ⊎ (left_of g < n)

either_less : {A : Type 0} (c : Pc) (n : ℕ) (f : Frame) (b : Bool) (x y : Effect A) → Less c n (led f x.leads)
    → Less c n (led f y.leads) → Less c n (led f (if b then x else y).leads)
either_less c n f true x y h k = h
either_less c n f false x y h k = k

-- among rows on the way to the lock
to_row : (c : Pc) (f : Frame) (n : ℕ) (b : Bool) (d e : Pc) → Less c n (gone f d []) → Less c n (gone f e [])
    → Less c n (gone f (if b then d else e) [])
to_row c f n true d e h k = h
to_row c f n false d e h k = k

pub none_left : (b : Bool) → ◌≡◌ {A = ℕ} (if b then 0 else 0) 0
none_left true = refl
none_left false = refl

-- the lock is had
had_lt : (f : Frame) (n : ℕ) (me : Option NodeName) → (f.lock.wait ≡ true → IsThen f.then) → 0 < n
    → left_of (record f { place = if f.lock.wait then f.then else None; me = me }) < n + behind f
had_lt f n me inner some = by f.lock.wait refl
  where
    by : (b : Bool) → f.lock.wait ≡ b
        → left_at (if b then f.then else None) (record f { place = if f.lock.wait then f.then else None; me = me })
        < n + (if b then rows_left_if f.then else 0)
    by false e = omega (arith, some)
    by true e = elim (inner e) [
      | inl q ↦ rw q (let z = none_left f.lock.wait in omega (arith, some, z))
      | inr q ↦ rw q (let z = none_left f.lock.wait in omega (arith, some, z))
    ]

had : (c : Pc) (f : Frame) (n : ℕ) (me : Option NodeName) → (f.lock.wait ≡ true → IsThen f.then) → 0 < n
    → Less c (n + behind f) (record f { place = if f.lock.wait then f.then else None; me = me })
had c f n me inner some = inr (had_lt f n me inner some)

done_less : (c : Pc) (n : ℕ) (g : Frame) → g.place ≡ None → 0 < n → Less c n g
done_less c n g e some = inr (let z : left_of g ≡ 0 = ap (λ (o : Option Pc). left_at o g) e in omega (arith, z, some))

module _ (m : World) (w : Waiter) (f : Frame) (inner : f.lock.wait ≡ true → IsThen f.then) where
  abbrev x : Fields
  x = m.word f.lock

  abbrev y : RwFields
  y = m.rw f.lock.index

  abbrev g : Pc → Frame
  g c = led f (course_in m w f c (target c f)).leads

  -- to a row on the way
  on : (c d : Pc) (n k : ℕ) → left_of (gone f d []) ≡ k + behind f → k < n → Less c (n + behind f) (gone f d [])
  on c d n k e lt = inr (omega (arith, e, lt))

  -- a row of a reader or a writer, or of a release
  flat : (d : Pc) (k : ℕ) → rows_left d ≡ k → is_taking d ≡ false → left_of (gone f d []) ≡ k
  flat d k e t =
      let z : left_of (gone f d []) ≡ rows_left d + (if f.lock.wait then 0 else 0) =
      ap (λ (b : Bool). rows_left d + (if f.lock.wait then (if b then rows_left_if f.then else 0) else 0)) t in
      let q = none_left f.lock.wait in
      omega (arith, z, q, e)

  rw_on : (c d : Pc) (n k : ℕ) → rows_left d ≡ k → is_taking d ≡ false → k < n → Less c n (gone f d [])
  rw_on c d n k e t lt = inr (let z = flat d k e t in omega (arith, z, lt))

  unlock_lt : (n : ℕ) (mode : Mode) → 1 < n → left_of (led f (frees_wait mode)) < n
  unlock_lt n Virt lt = let z = flat U1 1 refl refl in omega (arith, z, lt)
  unlock_lt n Native lt = let z = flat U1 1 refl refl in omega (arith, z, lt)
  unlock_lt n Cna lt = let z = flat U1 1 refl refl in omega (arith, z, lt)
  unlock_lt n Pv lt = let z = flat U2 0 refl refl in omega (arith, z, lt)

  unlock_on : (c : Pc) (n : ℕ) (mode : Mode) → 1 < n → Less c n (led f (frees_wait mode))
  unlock_on c n mode lt = inr (unlock_lt n mode lt)

  queue_on : (c : Pc) (n : ℕ) → 13 < n → Less c (n + behind f) (gone f (to_queue x) [])
  queue_on c n lt = to_row c f (n + behind f) x.pending G1 _ (on c G1 n 11 refl (omega (arith, lt)))
      (to_row c f (n + behind f) (is_some x.tail) G1 P1 (on c G1 n 11 refl (omega (arith, lt))) (on c P1 n 13 refl lt))

  fast_on : (mode : Mode) → halts mode ≡ false → Less F1 (15 + behind f) (gone f (after_fast mode x) [])
  fast_on Virt a = on F1 V1 15 2 refl (omega arith)
  fast_on Pv a = cc a
  fast_on Native a = to_row F1 f (15 + behind f) (is_unlocked x.locked && x.pending && not (is_some x.tail)) P0 _ (on F1 P0 15 14 refl (omega arith)) (queue_on F1 15 (omega arith))
  fast_on Cna a = to_row F1 f (15 + behind f) (is_unlocked x.locked && x.pending && not (is_some x.tail)) P0 _ (on F1 P0 15 14 refl (omega arith)) (queue_on F1 15 (omega arith))

  entry_on : (mode : Mode) (me : Option NodeName) → halts mode ≡ false
      → Less G1 (11 + behind f) (Rattle.lk_rows.specs.Row.entered f me (after_entry mode me))
  entry_on Virt None a = inr (omega arith)
  entry_on Native None a = inr (omega arith)
  entry_on Cna None a = inr (omega arith)
  entry_on Virt (Some n) a = inr (omega arith)
  entry_on Native (Some n) a = inr (omega arith)
  entry_on Cna (Some n) a = inr (omega arith)
  entry_on Pv me a = cc a

  arrival_on : (mode : Mode) (t : Option NodeName) → halts mode ≡ false → Less G4 (8 + behind f) (led f (after_arrival mode t).leads)
  arrival_on Virt None a = inr (omega arith)
  arrival_on Native None a = inr (omega arith)
  arrival_on Cna None a = inr (omega arith)
  arrival_on Virt (Some n) a = inr (omega arith)
  arrival_on Native (Some n) a = inr (omega arith)
  arrival_on Cna (Some n) a = inr (omega arith)
  arrival_on Pv t a = cc a

  link_on : (mode : Mode) (k : ℕ) → halts mode ≡ false → Less G5 (7 + behind f) (led f (after_link mode k))
  link_on Virt k a = inr (omega arith)
  link_on Native k a = inr (omega arith)
  link_on Cna k a = inr (omega arith)
  link_on Pv k a = cc a

  flag_on : (z : Flag) → Less G6 (6 + behind f) (led f (after_flag z).leads)
  flag_on flag.Unset = inl refl
  flag_on flag.Go = inr (omega arith)
  flag_on (flag.Second n) = inr (omega arith)

  head_on : (mode : Mode) → halts mode ≡ false → Less G9 (3 + behind f) (gone f (after_head mode) [])
  head_on Virt a = inr (omega arith)
  head_on Native a = inr (omega arith)
  head_on Cna a = inr (omega arith)
  head_on Pv a = cc a

  next_on : (z : Option NodeName) → Less G10 (2 + behind f) (led f (after_next z).leads)
  next_on None = inl refl
  next_on (Some n) = inr (omega arith)

  -- each row but those of a turn
  pub less : (c : Pc) → may_halt c ≡ false → chooses c ≡ false → halts m.mode ≡ false → is_turn c ≡ false
      → Less c (left_at (Some c) f) (g c)
  less F1 a b h r = either_less F1 (15 + behind f) f (is_free x) _ _ (had F1 f 15 f.me inner (omega arith)) (fast_on m.mode h)
  less T1 a b h r = either_less T1 (2 + behind f) f (is_free x) _ _ (on T1 T2 2 1 refl (omega arith)) (done_less T1 (2 + behind f) (record f { place = None }) refl (omega arith))
  less T2 a b h r = either_less T2 (1 + behind f) f (is_free x) _ _ (had T2 f 1 f.me inner (omega arith)) (done_less T2 (1 + behind f) (record f { place = None }) refl (omega arith))
  less U1 a b h r = done_less U1 (left_at (Some U1) f) (record f { place = None }) refl (omega arith)
  less P0 a b h r = queue_on P0 14 (omega arith)
  less P1 a b h r =
      to_row P1 f (13 + behind f) x.pending G1 _ (on P1 G1 13 11 refl (omega arith))
      (to_row P1 f (13 + behind f) (is_some x.tail) P2 _ (on P1 P2 13 12 refl (omega arith))
      (to_row P1 f (13 + behind f) (is_unlocked x.locked) P4 P3 (on P1 P4 13 1 refl (omega arith)) (on P1 P3 13 2 refl (omega arith))))
  less P2 a b h r = on P2 G1 12 11 refl (omega arith)
  less P3 a b h r = to_row P3 f (2 + behind f) (is_unlocked x.locked) P4 P3 (on P3 P4 2 1 refl (omega arith)) (inl refl)
  less P4 a b h r = had P4 f 1 f.me inner (omega arith)
  less G1 a b h r = entry_on m.mode (own_node w.cpu (m.queued w.cpu)) h
  less G2 a b h r = to_row G2 f (10 + behind f) (is_free x) G3 G4 (on G2 G3 10 9 refl (omega arith)) (on G2 G4 10 8 refl (omega arith))
  less G3 a b h r = either_less G3 (9 + behind f) f (is_free x) _ _ (had G3 f 9 None inner (omega arith)) (on G3 G4 9 8 refl (omega arith))
  less G4 a b h r = arrival_on m.mode x.tail h
  less G5 a b h r = link_on m.mode m.turns h
  less G6 a b h r = flag_on (m.node (node_of f.me)).flag
  less G7 a b h r = to_row G7 f (5 + behind f) (is_unlocked x.locked && not x.pending) _ G7
      (to_row G7 f (5 + behind f) (is_node x.tail (node_of f.me) && not (is_some f.second)) G8 G9 (on G7 G8 5 4 refl (omega arith)) (on G7 G9 5 3 refl (omega arith))) (inl refl)
  less G8 a b h r = either_less G8 (4 + behind f) f (is_sole f x) _ _ (had G8 f 4 None inner (omega arith)) (on G8 G9 4 3 refl (omega arith))
  less G9 a b h r = head_on m.mode h
  less G10 a b h r = next_on (m.node (node_of f.me)).next
  less G11 a b h r = had G11 f 1 None inner (omega arith)
  less R1 a b h r = either_less R1 (left_at (Some R1) f) f (is_open y) _ _ (done_less R1 (left_at (Some R1) f) (record f { place = None }) refl (omega arith))
      (to_row R1 f (left_at (Some R1) f) (f.ctx == 0) R3 R2 (rw_on R1 R3 (left_at (Some R1) f) 19 refl refl (omega arith)) (rw_on R1 R2 (left_at (Some R1) f) 1 refl refl (omega arith)))
  less R2 a b h r = either_less R2 (left_at (Some R2) f) f y.writer _ _ (inl refl) (done_less R2 (left_at (Some R2) f) (record f { place = None }) refl (omega arith))
  less R3 a b h r = inr (omega arith)
  less R4 a b h r = rw_on R4 R5 (left_at (Some R4) f) 2 refl refl (omega arith)
  less R5 a b h r = either_less R5 (left_at (Some R5) f) f y.writer _ _ (inl refl) (unlock_on R5 (left_at (Some R5) f) m.mode (omega arith))
  less Wr1 a b h r = either_less Wr1 (left_at (Some Wr1) f) f (is_empty y) _ _ (done_less Wr1 (left_at (Some Wr1) f) (record f { place = None }) refl (omega arith)) (inr (omega arith))
  less Wr2 a b h r = to_row Wr2 f (left_at (Some Wr2) f) (is_empty y) Wr3 Wr4 (rw_on Wr2 Wr3 (left_at (Some Wr2) f) 5 refl refl (omega arith)) (rw_on Wr2 Wr4 (left_at (Some Wr2) f) 4 refl refl (omega arith))
  less Wr3 a b h r = either_less Wr3 (left_at (Some Wr3) f) f (is_empty y) _ _ (unlock_on Wr3 (left_at (Some Wr3) f) m.mode (omega arith)) (rw_on Wr3 Wr4 (left_at (Some Wr3) f) 4 refl refl (omega arith))
  less Wr4 a b h r = rw_on Wr4 Wr5 (left_at (Some Wr4) f) 3 refl refl (omega arith)
  less Y1 a b h r = either_less Y1 (left_at (Some Y1) f) f (is_open y) _ _ (rw_on Y1 Y2 (left_at (Some Y1) f) 2 refl refl (omega arith)) (done_less Y1 (left_at (Some Y1) f) (record f { place = None }) refl (omega arith))
  less Y2 a b h r = either_less Y2 (left_at (Some Y2) f) f (is_open y) _ _ (done_less Y2 (left_at (Some Y2) f) (record f { place = None }) refl (omega arith)) (rw_on Y2 Y3 (left_at (Some Y2) f) 1 refl refl (omega arith))
  less Y3 a b h r = done_less Y3 (left_at (Some Y3) f) (record f { place = None }) refl (omega arith)
  less Y4 a b h r = either_less Y4 (left_at (Some Y4) f) f (is_empty y) _ _ (rw_on Y4 Y5 (left_at (Some Y4) f) 1 refl refl (omega arith)) (done_less Y4 (left_at (Some Y4) f) (record f { place = None }) refl (omega arith))
  less Y5 a b h r = either_less Y5 (left_at (Some Y5) f) f (is_empty y) _ _ (done_less Y5 (left_at (Some Y5) f) (record f { place = None }) refl (omega arith)) (done_less Y5 (left_at (Some Y5) f) (record f { place = None }) refl (omega arith))
  less Z1 a b h r = done_less Z1 (left_at (Some Z1) f) (record f { place = None }) refl (omega arith)
  less Z2 a b h r = done_less Z2 (left_at (Some Z2) f) (record f { place = None }) refl (omega arith)
  less _ a b h r = cc (a, b, r)

  -- A row leaves its frame where it was, or leaves it fewer rows; or it stores nothing, and the end of the turn
  -- is nearer.
  abbrev Turn : Pc → Lead → World → Type 0
  Turn c lead s = ((led f lead).place ≡ Some c) ⊎ (left_of (led f lead) < left_at (Some c) f)
      ⊎ ((s ≡ m) × (goes lead ≡ true) × (left_of (led f lead) ≡ left_at (Some c) f)
      × (turn_of m (Some (led f lead)) < turn_at m f c))

  -- how far a swap is from the end of its turn, by the word that it is going to meet
  swap : (b c : Bool) → b ≡ c → ◌≡◌ {A = ℕ} (if b then 0 else 2) (if c then 0 else 2)
  swap b c e = ap (λ (t : Bool). if t then 0 else 2) e

  -- the rows of a turn
  pub turn : (c : Pc) → is_turn c ≡ true → chooses c ≡ false → Turn c (course_in m w f c (target c f)).leads (stored_in m w f c (target c f))
  turn V1 r b = by (is_free x) refl
    where
      by : (b : Bool) → is_free x ≡ b → Turn V1 (Goes (if b then V2 else V1) []) m
      by true e = inr (inr (refl, refl, refl, let z = swap (is_free x) true e in omega (arith, z)))
      by false e = inl refl
  turn V2 r b = by (is_free x) refl
    where
      by : (b : Bool) → is_free x ≡ b
          → Turn V2 (if b then takes f how.Virt else looks V1).leads
          (stores_word m f.lock (if b then takes f how.Virt else looks V1).stores)
      by true e = inr (inl (had_lt f 2 f.me inner (omega arith)))
      by false e = inr (inr (refl, refl, refl, let z = swap (is_free x) false e in omega (arith, z)))
  turn N1 r b = by (is_free x) refl
    where
      by : (b : Bool) → is_free x ≡ b → Turn N1 (Goes (if b then N2 else N1) []) m
      by true e = inr (inr (refl, refl, refl, let z = swap (is_free x) true e in omega (arith, z)))
      by false e = inl refl
  turn N2 r b = by (is_free x) refl
    where
      by : (b : Bool) → is_free x ≡ b
          → Turn N2 (if b then takes_out f how.NoNode else looks N1).leads
          (stores_word m f.lock (if b then takes_out f how.NoNode else looks N1).stores)
      by true e = inr (inl (had_lt f 2 None inner (omega arith)))
      by false e = inr (inr (refl, refl, refl, let z = swap (is_free x) false e in omega (arith, z)))
  turn Wr5 r b = by (is_cleared y) refl
    where
      by : (b : Bool) → is_cleared y ≡ b → Turn Wr5 (Goes (if b then Wr6 else Wr5) []) m
      by true e = inr (inr (refl, refl, refl, let z = swap (is_cleared y) true e in omega (arith, z)))
      by false e = inl refl
  turn Wr6 r b = by (is_cleared y) refl
    where
      by : (b : Bool) → is_cleared y ≡ b
          → Turn Wr6 (if b then takes_written f rw_how.Queued (frees_wait m.mode) else looks Wr5).leads
          (stores_rw m f.lock.index (if b then takes_written f rw_how.Queued (frees_wait m.mode) else looks Wr5).stores)
      by true e = inr (inl (unlock_lt (left_at (Some Wr6) f) m.mode (omega arith)))
      by false e = inr (inr (refl, refl, refl, let z = swap (is_cleared y) false e in omega (arith, z)))
  turn _ r b = cc (r, b)
