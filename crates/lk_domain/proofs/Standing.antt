-- A call from row to row, and from stage to stage.
use Rattle.std.proofs.Common.{◌≡◌, ◌≤◌, ℕ, ◌+◌, ◌<◌, List, [], ◌∷◌, ◌++◌, length, Some, None, Bool}
use Rattle.std.proofs.Common.{true, false, eqb, refl, sym, ap, ◌∙◌, arith, if◌then◌else◌, ◌&&◌}
use Rattle.lk_domain.proofs.Names.{Manner, Spins, LockName, Mode, first_place, wait_name, target}
use Rattle.lk_domain.proofs.Names.{Frame, Pc, Verb, Lock, Read, Try, TryRead, TryWrite, Write, Met}
use Rattle.lk_domain.proofs.Names.{held_lock, Calls, Grip, Hold, Mark, MayBegin, Outlook, Running}
use Rattle.lk_domain.proofs.Names.{StandsOn, Takes, Unchanged, acting, after, begin, begun, course}
use Rattle.lk_domain.proofs.Names.{frames_after, held_in, hold, holds_after, holds_in, is_on}
use Rattle.lk_domain.proofs.Names.{is_verb, lock_name, mark, read_at, row_at, row_of, row_on}
use Rattle.lk_domain.proofs.Names.{running, sight_of, waits_in}
use Rattle.lk_law.specs.Sound.{after_wait, takes_wait}
use Rattle.lk_domain.proofs.{Turned.is_taking, rows.Went.led_ctx}
use Rattle.lk_domain.specs.Calls.{Terms, last_after, taken_after}
use Rattle.lk_domain.specs.Paths.{next_frame, row_grip, still, onward, PathTo, Path, HasTaken}
use Rattle.lk_domain.specs.Paths.{HasMissed, AreKept, Any}
use Rattle.lk_domain.specs.Standing.{Stage, Outside, Inside, Entered, HoldsAt, locks_at, IsOn, IsAt}

-- a lock that is no wait lock, and a call that takes none
pub no_wait : {A : Type 0} → false ≡ true → A
no_wait e = cc e

pub never_waits : {A : Type 0} (v : Verb) → takes_wait v ≡ false → takes_wait v ≡ true → A
never_waits v off e = no_wait (sym off ∙ e)

-- no lock was taken
pub none_taken : (m n : ℕ) → n ≡ m → m + 0 ≤ n
none_taken m n e = omega (arith, e)

-- a path up to its last row
pub path_upto : {t : Terms} {p : ℕ} {a : Frame} {trail : List Mark} {grip : Grip} → Path t p a trail grip → PathTo t p a trail grip
path_upto k =
    record {
      before = k.before;
      frame = k.frame;
      row = k.row;
      met = k.met;
      runs = k.runs;
      walk = k.walk;
      place = k.place;
      is = k.is;
      grips = k.grips;
    }

-- a row that takes and frees nothing
still_held : (stage : Stage) (k : ℕ) (n : LockName) (old : List Hold) (c d : Calls) → d.holds ≡ c.holds → d.taken ≡ c.taken
    → HoldsAt stage k n old c → HoldsAt stage k n old d
still_held Outside k n old c d holds taken h = holds ∙ h
still_held Inside k n old c d holds taken h = (h.0, holds ∙ h.1)
still_held (Entered m) k n old c d holds taken h =
    (h.0, holds ∙ (h.1 ∙ ap (λ j. hold k (lock_name n.index) m j ∷ hold k n Spins h.0 ∷ old) (sym taken)))

-- nested calls, which may take more locks, are made at these stages alone
abbrev pub is_polled : Stage → Bool
is_polled Outside = true
is_polled Inside = true
is_polled (Entered m) = false

kept_held : (stage : Stage) (k : ℕ) (n : LockName) (old : List Hold) (c d : Calls) → d.holds ≡ c.holds
    → is_polled stage ≡ true → HoldsAt stage k n old c → HoldsAt stage k n old d
kept_held Outside k n old c d holds is h = holds ∙ h
kept_held Inside k n old c d holds is h = (h.0, holds ∙ h.1)
kept_held (Entered m) k n old c d holds is h = absurd (cc is)

-- a call that stands at a row
module _ {t : Terms} {p : ℕ} {v : Verb} {n : LockName} {pl : Pc} {P : Frame → Type 0} {stage : Stage} {old c : Calls}
    (at : IsOn t p v n pl P stage old c) where
  abbrev pub stands : StandsOn c v n pl
  stands = record { frame = at.frame; trail = at.trail; rest = old.frames; is = at.frames; place = at.place; lock = at.lock }

  -- its frame stays, and meets this condition too
  abbrev pub stays : {d : Calls} (Q : Frame → Type 0) → Q at.frame → d.frames ≡ c.frames → HoldsAt stage (length old.frames) n old.holds d
      → old.taken + locks_at stage ≤ d.taken → IsOn t p v n pl Q stage old d
  stays Q has same holds taken =
      record {
        frame = at.frame;
        trail = at.trail;
        walk = at.walk;
        frames = same ∙ at.frames;
        holds = holds;
        taken = taken;
        place = at.place;
        lock = at.lock;
        ctx = at.ctx;
        after = at.after;
        free = at.free;
        has = has;
      }

  -- nested calls leave it where it is
  pub kept : {d : Calls} → is_polled stage ≡ true → AreKept c d → IsOn t p v n pl P stage old d
  kept {d} is k =
      let a = at.taken in
      let b = k.taken in
      stays P at.has k.frames (kept_held stage (length old.frames) n old.holds c d k.holds is at.holds) (omega (arith, a, b))

-- and its row, which meets x
module _ {t : Terms} {p : ℕ} {v : Verb} {n : LockName} {pl : Pc} {P : Frame → Type 0} {stage : Stage} {old c d : Calls}
    (at : IsOn t p v n pl P stage old c) (x : Met) (is : d ≡ row_of t p c x) where
  abbrev f : Frame
  f = at.frame

  abbrev z : Outlook
  z = sight_of t p c.runs

  abbrev trail : List Mark
  trail = at.trail ++ mark pl x (read_at pl z) ∷ []

  abbrev next : Frame
  next = next_frame t.mode p z pl f x

  pub rowed : d ≡ after v f trail old.frames c (target pl f) (course t.mode p z pl f x)
  rowed =
      is
      ∙ (ap (λ (xs : List Running). row_on t.mode p z xs c x) at.frames
      ∙ ap (λ o. row_at t.mode p z (running v f at.trail) old.frames c x o) at.place)

  pub frames_on : (e : Pc) → next.place ≡ Some e → d.frames ≡ running v next trail ∷ old.frames
  frames_on e place = ap (λ (k : Calls). k.frames) rowed ∙ ap (λ q. frames_after v next trail old.frames q) place

  pub frames_off : next.place ≡ None → d.frames ≡ old.frames
  frames_off place = ap (λ (k : Calls). k.frames) rowed ∙ ap (λ q. frames_after v next trail old.frames q) place

  pub last_is : next.place ≡ None → d.last ≡ trail
  last_is place = ap (λ (k : Calls). k.last) rowed ∙ ap (λ q. last_after trail c.last q) place

  -- what it does to the holds
  pub holds_is : (y : Grip) (l : LockName) → row_grip t.mode p z pl f x ≡ y → held_lock (target pl f) f ≡ l
      → d.holds ≡ holds_after y (length old.frames) l (c.taken + 1) c.holds
  holds_is y l grip own =
      ap (λ (k : Calls). k.holds) rowed ∙ (λ i. holds_after (grip i) (at.ctx i) (own i) (c.taken + 1) c.holds)

  -- how many locks were taken
  pub count_after : (y : Grip) → row_grip t.mode p z pl f x ≡ y → d.taken ≡ taken_after y c.taken
  count_after y grip = ap (λ (k : Calls). k.taken) rowed ∙ ap (λ y. taken_after y c.taken) grip

  -- it takes a lock
  pub takes_is : (m : Manner) (l : LockName) → row_grip t.mode p z pl f x ≡ Takes m → held_lock (target pl f) f ≡ l
      → d.holds ≡ hold (length old.frames) l m d.taken ∷ c.holds
  takes_is m l grip own =
      holds_is (Takes m) l grip own ∙ ap (λ j. hold (length old.frames) l m j ∷ c.holds) (sym (count_after (Takes m) grip))

  -- it leads to another row: at this stage, on the lock or the wait lock, and beside these holds
  abbrev pub leads : (stage' : Stage) (w : Bool) (hs : List Hold) (e : Pc) (Q : Frame → Type 0) → next.place ≡ Some e
      → next.lock ≡ record n { wait = w } → (w ≡ true → next.then ≡ after_wait v)
      → HoldsAt stage' (length old.frames) (record n { wait = w }) hs d → old.taken + locks_at stage' ≤ d.taken
      → (takes_wait v ≡ true → held_in hs (length old.frames) (wait_name n.index) ≡ None) → Q next
      → IsOn t p v (record n { wait = w }) e Q stage' (record old { holds = hs }) d
  leads stage' w hs e Q place lock after holds taken free has =
      record {
        frame = next;
        trail = trail;
        walk = onward at.trail f pl e x c.runs at.walk at.place place;
        frames = frames_on e place;
        holds = holds;
        taken = taken;
        place = place;
        lock = lock;
        ctx = led_ctx f (course t.mode p z pl f x).leads ∙ at.ctx;
        after = after;
        free = free;
        has = has;
      }

  -- and stays at its stage
  pub goes : (e : Pc) (Q : Frame → Type 0) → next.place ≡ Some e → row_grip t.mode p z pl f x ≡ Unchanged
      → next.lock ≡ f.lock → next.then ≡ f.then → Q next → IsOn t p v n e Q stage old d
  goes e Q place grip lock then' has =
      let same : d.taken ≡ c.taken = count_after Unchanged grip in
      leads stage n.wait old.holds e Q place (lock ∙ at.lock) (λ w. then' ∙ at.after w)
      (still_held stage (length old.frames) n old.holds c d (holds_is Unchanged (held_lock (target pl f) f) grip refl) same at.holds)
      (let b = at.taken in omega (arith, same, b)) at.free has

  -- the trail with it
  pub path_to : (y : Grip) → row_grip t.mode p z pl f x ≡ y → PathTo t p (begun t.mode (length old.frames) v n.index) trail y
  path_to y grip =
      record { before = at.trail; frame = f; row = pl; met = x; runs = c.runs; walk = at.walk; place = at.place; is = refl; grips = grip }

  -- it ends the call
  pub path_is : (y : Grip) → next.place ≡ None → row_grip t.mode p z pl f x ≡ y
      → Path t p (begun t.mode (length old.frames) v n.index) d.last y
  path_is y place grip =
      record {
        before = at.trail;
        frame = f;
        row = pl;
        met = x;
        runs = c.runs;
        walk = at.walk;
        place = at.place;
        is = last_is place;
        ends = place;
        grips = grip;
      }

-- a call that has no lock yet
module _ {t : Terms} {p : ℕ} {v : Verb} {n : LockName} {pl : Pc} {P : Frame → Type 0} {old c d : Calls}
    (at : IsOn t p v n pl P Outside old c) (x : Met) (is : d ≡ row_of t p c x) where
  abbrev next' : Frame
  next' = next_frame t.mode p (sight_of t p c.runs) pl at.frame x

  abbrev grip' : Grip
  grip' = row_grip t.mode p (sight_of t p c.runs) pl at.frame x

  pub more_taken : (m : Manner) → grip' ≡ Takes m → old.taken < d.taken
  more_taken m grip =
      let a : d.taken ≡ c.taken + 1 = count_after at x is (Takes m) grip in
      let b : old.taken + 0 ≤ c.taken = at.taken in
      omega (arith, a, b)

  -- it takes its lock, and is over
  pub takes : (m : Manner) → next'.place ≡ None → grip' ≡ Takes m → held_lock (target pl at.frame) at.frame ≡ lock_name n.index
      → HasTaken t p v n.index m old d
  takes m place grip own =
      record {
        path = path_is at x is (Takes m) place grip;
        frames = frames_off at x is place;
        holds = takes_is at x is m (lock_name n.index) grip own
            ∙ ap (λ hs. hold (length old.frames) (lock_name n.index) m d.taken ∷ hs) at.holds;
        taken = more_taken m grip;
      }

  -- it misses the lock
  pub misses : c.taken ≡ old.taken → next'.place ≡ None → grip' ≡ Unchanged → HasMissed t p v n.index old d
  misses count place grip =
      record {
        path = path_is at x is Unchanged place grip;
        frames = frames_off at x is place;
        holds = holds_is at x is Unchanged (held_lock (target pl at.frame) at.frame) grip refl ∙ at.holds;
        taken = count_after at x is Unchanged grip ∙ count;
      }

-- one that has taken none since it began goes on
module _ {t : Terms} {p : ℕ} {v : Verb} {l : ℕ} {pl : Pc} {P : Frame → Type 0} {old c d : Calls}
    (at : IsAt t p v l pl P old c) (x : Met) (is : d ≡ row_of t p c x) where
  abbrev next'' : Frame
  next'' = next_frame t.mode p (sight_of t p c.runs) pl at.on.frame x

  abbrev pub moves : (e : Pc) (Q : Frame → Type 0) → next''.place ≡ Some e
      → row_grip t.mode p (sight_of t p c.runs) pl at.on.frame x ≡ Unchanged → next''.lock ≡ at.on.frame.lock → Q next''
      → IsAt t p v l e Q old d
  moves e Q place grip lock has =
      let count : d.taken ≡ old.taken = count_after at.on x is Unchanged grip ∙ at.taken in
      record {
        on = leads at.on x is Outside false old.holds e Q place (lock ∙ at.on.lock) (λ w. no_wait w)
            (holds_is at.on x is Unchanged (held_lock (target pl at.on.frame) at.on.frame) grip refl ∙ at.on.holds)
            (none_taken old.taken d.taken count) at.on.free has;
        taken = count;
      }

-- a call begins
pub starts : (t : Terms) (p : ℕ) (v : Verb) (l : ℕ) (c : Calls) → is_taking v ≡ true
    → (takes_wait v ≡ true → held_in c.holds (length c.frames) (wait_name l) ≡ None)
    → IsAt t p v l (first_place t.mode v) Any c (begin t.mode c v l)
starts t p v l c taking free =
    record {
      on = record {
        frame = begun t.mode (length c.frames) v l;
        trail = [];
        walk = still;
        frames = refl;
        holds = keeps v taking;
        taken = (let e : c.taken + 0 ≤ c.taken = omega arith in e);
        place = refl;
        lock = refl;
        ctx = refl;
        after = λ e. cc e;
        free = free;
        has = tt;
      };
      taken = refl;
    }
  where
    keeps : (v : Verb) → is_taking v ≡ true → (begin t.mode c v l).holds ≡ c.holds
    keeps Lock t = refl
    keeps Try t = refl
    keeps Read t = refl
    keeps TryRead t = refl
    keeps Write t = refl
    keeps TryWrite t = refl
    keeps _ t = cc t

-- a call on a lock for which none waits begins
pub off_it : (rs : List Running) (v : Verb) (l : ℕ) → waits_in rs l ≡ false → is_on rs v l ≡ false
off_it [] v l h = refl
off_it (r ∷ rs) v l h = by (is_verb r.verb v) (eqb r.frame.lock.index l) (waits_in rs l) h
  where
    by : (a b w : Bool) → (if b then true else w) ≡ false → (a && b) ≡ false
    by a true w h = cc h
    by true false w h = refl
    by false false w h = refl

pub acts_begin : (mode : Mode) (c : Calls) (v : Verb) (l : ℕ) → waits_in c.frames l ≡ false
    → acting mode c v l ≡ begin mode c v l
acts_begin mode c v l h = ap (λ b. if b then c else begin mode c v l) (off_it c.frames v l h)

pub may_begin : (c : Calls) (v : Verb) (l : ℕ) → is_taking v ≡ true → holds_in c.holds l ≡ false
    → waits_in c.frames l ≡ false → MayBegin c v l
may_begin c Lock l t h w = (h, w)
may_begin c Try l t h w = (h, w)
may_begin c Read l t h w = (h, w)
may_begin c TryRead l t h w = (h, w)
may_begin c Write l t h w = (h, w)
may_begin c TryWrite l t h w = (h, w)
may_begin c _ l t h w = cc t
