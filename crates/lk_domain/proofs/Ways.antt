-- What the rows of `virt` do to a call, by what they meet.
use Rattle.std.proofs.Common.{◌≡◌, ℕ, ◌+◌, List, [], ◌∷◌, ◌++◌, length, Some, None, Bool, true}
use Rattle.std.proofs.Common.{false, eqb, refl, sym, ap, ◌∙◌, subst, arith, if◌then◌else◌}
use Rattle.lk_domain.proofs.Names.{Me, RwFields, Fields, Layout, Manner, Reads, Spins, Writes, Spin}
use Rattle.lk_domain.proofs.Names.{LockName, Mode, Cna, Native, Pv, Virt, first_place, rw_name}
use Rattle.lk_domain.proofs.Names.{wait_name, kind_of, target, Frame, Pc, F1, R1, T1, T2, U1, Wr1}
use Rattle.lk_domain.proofs.Names.{Verb, Lock, Read, Try, Unlock, Write, is_empty, is_open, is_free}
use Rattle.lk_domain.proofs.Names.{halts, Met, Shared, Word, held_lock, IsThen, Calls, Frees}
use Rattle.lk_domain.proofs.Names.{Outlook, Running, Takes, Unchanged, acting, are_calls, begin}
use Rattle.lk_domain.proofs.Names.{begun, held_in, holds_in, lock_name, mark, read_at, row_of}
use Rattle.lk_domain.proofs.Names.{running, sight_of, terms_of, waits_in, Slot, turned, kind_at}
use Rattle.lk_domain.proofs.Names.{Acts, MadeBy, turned_of, frees_by, SharedBy, own_number, Plan}
use Rattle.lk_domain.proofs.Names.{View}
use Rattle.lk_word.specs.SpinWord.{packed}
use Rattle.lk_law.specs.Sound.{takes_wait}
use Rattle.lk_domain.proofs.{Acting.{acting_is, acts_on, begins_on}, Freed.not_on, Turned.is_taking}
use Rattle.lk_domain.proofs.{rw.Numbers.{empty_test, open_test}, words.Numbers.free_test}
use Rattle.lk_domain.specs.Calls.{StandsAt}
use Rattle.lk_domain.specs.Paths.{next_frame, row_grip, HasTaken, HasMissed, HasFreed, Any}
use Rattle.lk_domain.specs.{Plays.{made as after_row, turned_on, turned_at}, RwRows.lets_in}
use Rattle.lk_domain.specs.Standing.{IsAt}
use Rattle.lk_domain.proofs.turns.Courses as rows
use Rattle.lk_domain.proofs.Freed as freed
use Rattle.lk_domain.proofs.Standing as path

-- the seat of a processor of a plan
pub record IsSeat (k : Plan) (p : ℕ) (v : View) : Type 0 where
  pub plan : v.who.plan ≡ k
  pub number : v.who.number ≡ Some p
  pub awake : halts k.mode ≡ false

-- a call, with what the ledger was

pub record Moved (k : Plan) (p : ℕ) (v : Verb) (l : ℕ) (c : Pc) (old : Calls) (m n : View) : Type 0 where
  pub at : IsAt (terms_of k) p v l c Any old n.calls
  pub ledger : n.ledger ≡ m.ledger

pub record Took (k : Plan) (p : ℕ) (v : Verb) (l : ℕ) (w : Manner) (old : Calls) (m n : View) : Type 0 where
  pub taken : HasTaken (terms_of k) p v l w old n.calls
  pub once : n.calls.taken ≡ old.taken + 1
  pub ledger : n.ledger ≡ turned m.ledger (lock_name l) (Takes w) n.calls.last

pub record Missed (k : Plan) (p : ℕ) (v : Verb) (l : ℕ) (old : Calls) (m n : View) : Type 0 where
  pub missed : HasMissed (terms_of k) p v l old n.calls
  pub ledger : n.ledger ≡ m.ledger

-- a row of a call that stands at it
module _ (k : Plan) (p : ℕ) (v : Verb) (l : ℕ) (pl : Pc) (old : Calls) (m n : Me Slot View) (x : Met)
    (seat : IsSeat k p m.0) (step : n ≡ (after_row m.0 v l x, m.1)) (c : Calls)
    (acts : acting k.mode m.0.calls v l ≡ c) (at : IsAt (terms_of k) p v l pl Any old c)
    (own : held_lock (target pl at.on.frame) at.on.frame ≡ at.on.frame.lock) where
  abbrev f : Frame
  f = at.on.frame

  abbrev z : Outlook
  z = sight_of (terms_of k) p c.runs

  calls : n.0.calls ≡ row_of (terms_of k) p c x
  calls =
      ap (λ (y : Me Slot View). y.0.calls) step
      ∙ ((λ i. row_of (terms_of (seat.plan i)) (own_number (seat.number i)) (acting (seat.plan i).mode m.0.calls v l) x)
      ∙ ap (λ d. row_of (terms_of k) p d x) acts)

  turns : n.0.ledger
      ≡ turned m.0.ledger (lock_name l) (row_grip k.mode p z pl f x) (at.on.trail ++ mark pl x (read_at pl z) ∷ [])
  turns =
      ap (λ (y : Me Slot View). y.0.ledger) step
      ∙ ((λ i. turned_of (terms_of (seat.plan i)) (own_number (seat.number i)) (acting (seat.plan i).mode m.0.calls v l) x m.0.ledger)
      ∙ (ap (λ (d : Calls). turned_of (terms_of k) p d x m.0.ledger) acts
      ∙ (ap (λ (rs : List Running). turned_on k.mode p z rs x m.0.ledger) at.on.frames
      ∙ (ap (λ q. turned_at k.mode p z (running v f at.on.trail) x m.0.ledger q) at.on.place
      ∙ ap (λ (j : LockName). turned m.0.ledger j (row_grip k.mode p z pl f x) (at.on.trail ++ mark pl x (read_at pl z) ∷ []))
      (own ∙ at.on.lock)))))

  still_turned : row_grip k.mode p z pl f x ≡ Unchanged → n.0.ledger ≡ m.0.ledger
  still_turned grip = turns ∙ ap (λ y. turned m.0.ledger (lock_name l) y (at.on.trail ++ mark pl x (read_at pl z) ∷ [])) grip

  pub moves : (d : Pc) → (next_frame k.mode p z pl f x).place ≡ Some d
      → row_grip k.mode p z pl f x ≡ Unchanged → (next_frame k.mode p z pl f x).lock ≡ f.lock
      → Moved k p v l d old m.0 n.0
  moves d place grip lock =
      record {
        at = path.moves at x calls d Any place grip lock tt;
        ledger = still_turned grip;
      }

  pub takes : (w : Manner) → (next_frame k.mode p z pl f x).place ≡ None → row_grip k.mode p z pl f x ≡ Takes w
      → Took k p v l w old m.0 n.0
  takes w place grip =
      record {
        taken = path.takes at.on x calls w place grip (own ∙ at.on.lock);
        once = path.count_after at.on x calls (Takes w) grip ∙ ap (λ n. n + 1) at.taken;
        ledger = turns
            ∙ (λ i. turned m.0.ledger (lock_name l) (grip i) (at.on.trail ++ mark pl x (read_at pl z) ∷ []))
            ∙ ap (λ ms. turned m.0.ledger (lock_name l) (Takes w) ms) (sym (path.last_is at.on x calls place));
      }

  pub misses : (next_frame k.mode p z pl f x).place ≡ None → row_grip k.mode p z pl f x ≡ Unchanged
      → Missed k p v l old m.0 n.0
  misses place grip =
      record {
        missed = path.misses at.on x calls at.taken place grip;
        ledger = still_turned grip;
      }

-- what a word says

module _ (layout : Layout) where
  pub is_zero : (n : ℕ) (y : Fields) → n ≡ packed layout y → eqb n 0 ≡ true → is_free y ≡ true
  is_zero n y is h = sym (free_test layout y) ∙ (ap (λ (z : ℕ). eqb z 0) (sym is) ∙ h)

  pub not_zero : (n : ℕ) (y : Fields) → n ≡ packed layout y → eqb n 0 ≡ false → is_free y ≡ false
  not_zero n y is h = sym (free_test layout y) ∙ (ap (λ (z : ℕ). eqb z 0) (sym is) ∙ h)

-- the rows

module _ (mode : Mode) (p : ℕ) (z : Outlook) (f : Frame) (y : Fields) (plain : f.lock.wait ≡ false) where
  pub T1_free : is_free y ≡ true → (next_frame mode p z T1 f (Word y)).place ≡ Some T2
  T1_free e = rw e refl

  pub T1_grip : is_free y ≡ true → row_grip mode p z T1 f (Word y) ≡ Unchanged
  T1_grip e = rw e refl

  pub T1_lock : is_free y ≡ true → (next_frame mode p z T1 f (Word y)).lock ≡ f.lock
  T1_lock e = rw e refl

-- the first rows of readers and writers
module _ (mode : Mode) (p : ℕ) (z : Outlook) (f : Frame) (y : RwFields) where
  R1_place : is_open y ≡ true → (next_frame mode p z R1 f (Shared y)).place ≡ None
  R1_place e = rw e refl

  R1_grip : is_open y ≡ true → row_grip mode p z R1 f (Shared y) ≡ Takes Reads
  R1_grip e = rw e refl

  Wr1_place : is_empty y ≡ true → (next_frame mode p z Wr1 f (Shared y)).place ≡ None
  Wr1_place e = rw e refl

  Wr1_grip : is_empty y ≡ true → row_grip mode p z Wr1 f (Shared y) ≡ Takes Writes
  Wr1_grip e = rw e refl

-- the lock is no wait lock
not_wait : (f : Frame) → f.lock.wait ≡ false → f.lock.wait ≡ true → IsThen f.then
not_wait f plain e = absurd (let z : true ≡ false = sym e ∙ plain in cc z)

-- the rows of a call, by the number that the step met
module _ (k : Plan) (p : ℕ) (l : ℕ) (m n : Me Slot View) (met : ℕ) (seat : IsSeat k p m.0) where
  module _ (v : Verb) (t : is_taking v ≡ true) (none : waits_in m.0.calls.frames l ≡ false) where
    abbrev first : (takes_wait v ≡ true → held_in m.0.calls.holds (length m.0.calls.frames) (wait_name l) ≡ None)
        → IsAt (terms_of k) p v l (first_place k.mode v) Any m.0.calls (begin k.mode m.0.calls v l)
    first free = path.starts (terms_of k) p v l m.0.calls t free

    begun_is : acting k.mode m.0.calls v l ≡ begin k.mode m.0.calls v l
    begun_is = path.acts_begin k.mode m.0.calls v l none

  -- F1
  module _ (none : waits_in m.0.calls.frames l ≡ false) (made : MadeBy Lock l m met n) where
    pub F1_takes : eqb met 0 ≡ true → Took k p Lock l Spins m.0.calls m.0 n.0
    F1_takes h =
        let at = first Lock refl none (path.never_waits Lock refl) in
        let plain = ap (λ (z : LockName). z.wait) at.on.lock in
        let o = rows.takes_free k.mode p {z = sight_of (terms_of k) p None} at.on.frame false plain (not_wait at.on.frame plain) made.found Lock F1 refl (is_zero _ met made.found made.word h) in
        takes k p Lock l F1 m.0.calls m n (Word made.found) seat made.seat (begin k.mode m.0.calls Lock l) (begun_is Lock refl none) at refl Spins o.place.0 (o.grip plain)

  -- R1 and Wr1, on the word of a reader-writer lock
  module _ (none : waits_in m.0.calls.frames l ≡ false) where
    shared : {v : Verb} {pl : Pc} (at : IsAt (terms_of k) p v l pl Any m.0.calls (begin k.mode m.0.calls v l))
        → rw_name at.on.frame.lock.index ≡ at.on.frame.lock
    shared at = ap (λ (z : LockName). rw_name z.index) at.on.lock ∙ sym at.on.lock

    outside : {v : Verb} → SharedBy v l m met n → held_in m.0.calls.holds (length m.0.calls.frames) (wait_name l) ≡ None
    outside made = made.outside (length m.0.calls.frames) (omega arith)

    pub R1_takes : (made : SharedBy Read l m met n) → lets_in met ≡ true → Took k p Read l Reads m.0.calls m.0 n.0
    R1_takes made h =
        let at = first Read refl none (λ _. outside made) in
        let e = sym (open_test made.found) ∙ (ap lets_in (sym made.word) ∙ h) in
        let z = sight_of (terms_of k) p None in
        takes k p Read l R1 m.0.calls m n (Shared made.found) seat made.seat (begin k.mode m.0.calls Read l) (begun_is Read refl none) at (shared at) Reads
        (R1_place k.mode p z at.on.frame made.found e) (R1_grip k.mode p z at.on.frame made.found e)

    pub Wr1_takes : (made : SharedBy Write l m met n) → eqb met 0 ≡ true → Took k p Write l Writes m.0.calls m.0 n.0
    Wr1_takes made h =
        let at = first Write refl none (λ _. outside made) in
        let e = sym (empty_test made.found) ∙ (ap (λ (w : ℕ). eqb w 0) (sym made.word) ∙ h) in
        let z = sight_of (terms_of k) p None in
        takes k p Write l Wr1 m.0.calls m n (Shared made.found) seat made.seat (begin k.mode m.0.calls Write l) (begun_is Write refl none) at (shared at) Writes
        (Wr1_place k.mode p z at.on.frame made.found e) (Wr1_grip k.mode p z at.on.frame made.found e)

  -- T1
  module _ (none : waits_in m.0.calls.frames l ≡ false) (made : MadeBy Try l m met n) where
    pub T1_sees : eqb met 0 ≡ true → Moved k p Try l T2 m.0.calls m.0 n.0
    T1_sees h =
        let at = first Try refl none (path.never_waits Try refl) in
        let plain = ap (λ (z : LockName). z.wait) at.on.lock in
        let e = is_zero _ met made.found made.word h in
        let z = sight_of (terms_of k) p None in
        moves k p Try l T1 m.0.calls m n (Word made.found) seat made.seat (begin k.mode m.0.calls Try l) (begun_is Try refl none) at refl T2
        (T1_free k.mode p z at.on.frame made.found plain e) (T1_grip k.mode p z at.on.frame made.found plain e)
        (T1_lock k.mode p z at.on.frame made.found plain e)

    pub T1_misses : eqb met 0 ≡ false → Missed k p Try l m.0.calls m.0 n.0
    T1_misses h =
        let at = first Try refl none (path.never_waits Try refl) in
        let plain = ap (λ (z : LockName). z.wait) at.on.lock in
        let o = rows.looks_held k.mode p {z = sight_of (terms_of k) p None} at.on.frame false plain (not_wait at.on.frame plain) made.found Try T1 refl (not_zero _ met made.found made.word h) in
        misses k p Try l T1 m.0.calls m n (Word made.found) seat made.seat (begin k.mode m.0.calls Try l) (begun_is Try refl none) at refl o.place.0 (o.grip plain)

  -- the rows of a call that goes on
  module _ (old : Calls) where
    plain : {v : Verb} {pl : Pc} (at : IsAt (terms_of k) p v l pl Any old m.0.calls) → at.on.frame.lock.wait ≡ false
    plain at = ap (λ (z : LockName). z.wait) at.on.lock

    -- T2
    module _ (made : MadeBy Try l m met n) (at : IsAt (terms_of k) p Try l T2 Any old m.0.calls) where
      pub T2_takes : eqb met 0 ≡ true → Took k p Try l Spins old m.0 n.0
      T2_takes h =
          let o = rows.takes_free k.mode p {z = sight_of (terms_of k) p m.0.calls.runs} at.on.frame false (plain at) (not_wait at.on.frame (plain at)) made.found Try T2 refl (is_zero _ met made.found made.word h) in
          takes k p Try l T2 old m n (Word made.found) seat made.seat m.0.calls (acting_is m.0.calls Try (lock_name l) T2 (path.stands at.on) k.mode) at refl Spins o.place.0 (o.grip (ap (λ (z : LockName). z.wait) at.on.lock))

      pub T2_misses : eqb met 0 ≡ false → Missed k p Try l old m.0 n.0
      T2_misses h =
          let o = rows.takes_held k.mode p {z = sight_of (terms_of k) p m.0.calls.runs} at.on.frame false (plain at) (not_wait at.on.frame (plain at)) made.found Try T2 refl (not_zero _ met made.found made.word h) in
          misses k p Try l T2 old m n (Word made.found) seat made.seat m.0.calls (acting_is m.0.calls Try (lock_name l) T2 (path.stands at.on) k.mode) at refl o.place.0 (o.grip (ap (λ (z : LockName). z.wait) at.on.lock))

-- what the step calls ask

-- a call that begins
pub acts_first : (kind : Pc → Bool) (k : Plan) (p : ℕ) (v : Verb) (l : ℕ) (m : View) → IsSeat k p m
    → is_taking v ≡ true → waits_in m.calls.frames l ≡ false → holds_in m.calls.holds l ≡ false
    → Rattle.std.proofs.Common.◌<◌ (length m.calls.frames) 6 → kind_at k l ≡ kind_of v → kind (first_place k.mode v) ≡ true → Acts kind m v l
acts_first kind k p v l m seat t none free few fits is =
    record {
      row = first_place k.mode v;
      is = is;
      stands = subst (λ (c : Calls). StandsAt c v l (first_place k.mode v))
          (sym (ap (λ (j : Plan). acting j.mode m.calls v l) seat.plan ∙ path.acts_begin k.mode m.calls v l none))
          (record { frame = begun k.mode (length m.calls.frames) v l; trail = []; rest = m.calls.frames; is = refl; place = refl; lock = refl });
      begins = λ _. (few, path.may_begin m.calls v l t free none, ap (λ (j : Plan). kind_at j l) seat.plan ∙ fits, λ on. absurd (grind (arith, ap (λ (j : Plan). halts j.mode) seat.plan, seat.awake, on)));
    }

-- one that goes on
pub acts_next : (kind : Pc → Bool) (k : Plan) (p : ℕ) (v : Verb) (l : ℕ) (pl : Pc) (old : Calls) (m : View)
    → IsAt (terms_of k) p v l pl Any old m.calls → kind pl ≡ true → Acts kind m v l
acts_next kind k p v l pl old m at is =
    record {
      row = pl;
      is = is;
      stands = acts_on m.calls v (lock_name l) pl (path.stands at.on) m.who.plan.mode;
      begins = begins_on m.calls v (lock_name l) pl (path.stands at.on) m.who.plan;
    }

-- a release begins and ends in one step
pub acts_release : (k : Plan) (p l : ℕ) (m : View) → IsSeat k p m → halts k.mode ≡ false
    → are_calls m.calls.frames ≡ true → Rattle.std.proofs.Common.◌<◌ (length m.calls.frames) 6
    → kind_at k l ≡ Spin → holds_in m.calls.holds l ≡ true → Acts (frees_by Unlock) m Unlock l
acts_release k p l m seat awake calm few spin has =
    record {
      row = U1;
      is = refl;
      stands = record {
        frame = begun k.mode (length m.calls.frames) Unlock l;
        trail = [];
        rest = m.calls.frames;
        is = ap (λ (j : Plan). (acting j.mode m.calls Unlock l).frames) seat.plan
            ∙ ap (λ b. (if b then m.calls else begin k.mode m.calls Unlock l).frames) (not_on m.calls.frames l calm);
        place = starts_at k.mode awake;
        lock = refl;
      };
      begins = λ _. (few, has, ap (λ (j : Plan). kind_at j l) seat.plan ∙ spin, λ on. absurd (grind (arith, ap (λ (j : Plan). halts j.mode) seat.plan, seat.awake, on)));
    }
  where
    starts_at : (mode : Mode) → halts mode ≡ false → Some (first_place mode Unlock) ≡ Some U1
    starts_at Virt h = refl
    starts_at Native h = refl
    starts_at Cna h = refl
    starts_at Pv h = cc h

pub record Freed (l : ℕ) (m n : View) : Type 0 where
  pub freed : HasFreed l m.calls n.calls
  pub ledger : n.ledger ≡ turned m.ledger (lock_name l) Frees n.calls.last

pub frees : (k : Plan) (p l : ℕ) (m n : Me Slot View) (met : ℕ) → IsSeat k p m.0 → halts k.mode ≡ false
    → are_calls m.0.calls.frames ≡ true → MadeBy Unlock l m met n → Freed l m.0 n.0
frees k p l m n met seat awake calm made =
    let x = Word made.found in
    let old = m.0.calls in
    let plan = ap (λ (j : Plan). j.mode) seat.plan in
    let is : n.0.calls ≡ row_of (terms_of k) p (begin k.mode old Unlock l) x =
    ap (λ (y : Me Slot View). y.0.calls) made.seat
    ∙ ((λ i. row_of (terms_of (seat.plan i)) (own_number (seat.number i)) (acting (plan i) old Unlock l) x)
    ∙ ap (λ b. row_of (terms_of k) p (if b then old else begin k.mode old Unlock l) x) (not_on old.frames l calm)) in
    let e = freed.ends k awake p old l made.found in
    let last : n.0.calls.last ≡ mark U1 x 0 ∷ [] = ap (λ (z : Calls). z.last) is ∙ e.last in
    record {
      freed = record {
        word = made.found;
        trail = last;
        frames = ap (λ (z : Calls). z.frames) is ∙ e.frames;
        holds = ap (λ (z : Calls). z.holds) is ∙ e.holds;
        none = ap (λ (z : Calls). holds_in z.holds l) is ∙ (ap (λ hs. holds_in hs l) e.holds ∙ freed.released (length old.frames) l old.holds);
        taken = ap (λ (z : Calls). z.taken) is ∙ e.taken;
      };
      ledger = ap (λ (y : Me Slot View). y.0.ledger) made.seat
          ∙ ((λ i. turned_of (terms_of (seat.plan i)) (own_number (seat.number i)) (acting (plan i) old Unlock l) x m.0.ledger)
          ∙ (ap (λ b. turned_of (terms_of k) p (if b then old else begin k.mode old Unlock l) x m.0.ledger) (not_on old.frames l calm)
          ∙ (turns k.mode awake made.found ∙ ap (λ ms. turned m.0.ledger (lock_name l) Frees ms) (sym last))));
    }
  where
    turns : (mode : Mode) → halts mode ≡ false → (y : Fields)
        → turned_on mode p (sight_of (terms_of k) p None) (begin mode m.0.calls Unlock l).frames (Word y) m.0.ledger
        ≡ turned m.0.ledger (lock_name l) Frees (mark U1 (Word y) 0 ∷ [])
    turns Virt h y = refl
    turns Native h y = refl
    turns Cna h y = refl
    turns Pv h y = absurd (cc h)
