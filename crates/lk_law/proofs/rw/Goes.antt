-- The ways in which a row of a reader or a writer leads on, each of which keeps every sound world.
use Rattle.std.proofs.Common.{◌≡◌, ◌≢◌, Option, Some, None, Bool, true, false, arith, ap, refl, sym}
use Rattle.std.proofs.Common.{◌∙◌, subst}
use Rattle.lk_law.proofs.Names.{RwFields, LockHistory, changed, lock_of, told, Rules, Event, What}
use Rattle.lk_law.proofs.Names.{Manner, Spins, LockName, Waiter, first_place, rw_name, wait_name}
use Rattle.lk_law.proofs.Names.{Effect, Nothing, Says, Tell, Frame, Pc, R1, R2, R3, R4, R5, Wr1}
use Rattle.lk_law.proofs.Names.{Wr2, Wr3, Wr4, Wr5, Wr6, Y1, Y2, Y3, Y4, Y5, Z1, Z2, Unlock}
use Rattle.lk_law.proofs.Names.{MayFollowIfAny, is_rw_row, IsThen, IsQuiet, RwAgrees, RwStep}
use Rattle.lk_law.proofs.Names.{RwPhase, is_inner, Asks, Away, Frees, IsSoundWorld, part_of}
use Rattle.lk_law.proofs.Names.{rw_helds, rw_own_phase, rw_phases, rw_waits, Freeing, led}
use Rattle.lk_law.proofs.Names.{told_event, told_on, World}
use Rattle.lk_names.specs.Lawful.{OwnsUp, InOrder}
use Rattle.lk_rows.specs.{Moves.waiting, rows.Rw.frees_wait}
use Rattle.lk_law.proofs.{common.Allowed.on_lock, common.Choices.{quiet_none, quiet_some}}
use Rattle.lk_law.proofs.{common.Puts.{if-true, if-false}, common.Told.told_here, rw.Else.IsOfLock}
use Rattle.lk_law.proofs.rw.Kept.{RwStored, side_rests, side_takes, side_frees, RwStands, rw_kind}
use Rattle.lk_law.proofs.rw.Kept.{rw_waits_here, RwGoing, rw_after, going_put, going_rw_step}
use Rattle.lk_law.proofs.{rw.Kept.{going_sound, frees_by}, rw.Laws.rw_shared}
use Rattle.lk_law.specs.{SoundWorld.rw_wait_phase, Steps.rw_led}

-- what a row is to keep
abbrev pub RwKept : World → (LockName → LockHistory) → Rules → Waiter → Waiter → Frame → World
    → Tell
    → Type 0
RwKept m hs rules w to f m' t = IsSoundWorld m' (told_on hs (told_event w f.lock to t))
    × MayFollowIfAny rules hs (told_event w f.lock to t)

-- and by its outcome
abbrev pub OutcomeKept : World → (LockName → LockHistory) → Rules → Waiter → Waiter → Frame
    → Effect RwFields → Type 0
OutcomeKept m hs rules w to f o = RwKept m hs rules w to f (rw_led m w f o) o.tells

-- the fact on the lock's own word, phases and history after the row, whatever the functions
abbrev Law : World → (LockName → LockHistory) → Waiter → Frame → Pc → RwPhase → RwFields
    → Option Manner → LockHistory → Type 0
Law m hs w f c r' x way h' =
    (phase' : Waiter → RwPhase) (held' : Waiter → Option Manner) (waits' : Waiter → Bool)
    → RwStep (rw_phases m f.lock.index) phase' (rw_helds m f.lock.index) held'
    (rw_waits m f.lock.index) waits' w (rw_own_phase c) r' (rw_helds m f.lock.index w) (held' w)
    → held' w ≡ way → RwAgrees x phase' held' waits' h'

module _ {m n : World} {hs : LockName → LockHistory} (rules : Rules) {w : Waiter} (to : Waiter)
    {f g : Frame} {c : Pc} {r' : RwPhase} {x : RwFields} {way : Option Manner}
    (at : RwStands m hs w f c)
    (go : RwGoing m n w f g c r' x way) where
  -- a row that tells nothing
  pub silent : Law m hs w f c r' x way (hs (rw_name f.lock.index))
      → RwKept m hs rules w to f (rw_after n w g f.lock.index way) Nothing
  silent law =
      (going_sound at go None tt (law _ _ _ (going_rw_step at go) (going_put at go).here), tt)

  -- one that tells an event of the lock
  pub says : (what : What) → lock_of what ≡ Some (rw_name f.lock.index)
      → OwnsUp (hs (rw_name f.lock.index)) w what → InOrder rules (hs (rw_name f.lock.index)) w what
      → Law m hs w f c r' x way (changed (hs (rw_name f.lock.index)) w what)
      → RwKept m hs rules w to f (rw_after n w g f.lock.index way) (Says what)
  says what of owned ordered law =
      let l = rw_name f.lock.index in
      let m' = rw_after n w g f.lock.index way in
      let e : Event = record { by = w; what = what } in
      let agrees = law _ _ _ (going_rw_step at go) (going_put at go).here in
      let told_is : told l (hs l) e ≡ changed (hs l) w what = told_here l (hs l) e of in (
        going_sound at go (Some e) (subst (IsOfLock l) (sym of) refl)
            (subst (λ (h : LockHistory).
            RwAgrees x (rw_phases m' f.lock.index) (rw_helds m' f.lock.index)
            (rw_waits m' f.lock.index) h) (sym told_is) agrees),
        on_lock rules hs e l of (record {
          owned = owned;
          ordered = ordered;
          shared = rw_shared agrees.holds;
        }),
      )

-- a row of a reader or a writer needs nothing of spinlocks
pub rw_quiet : (c : Pc) → is_rw_row c ≡ true → IsQuiet (Some c)
rw_quiet R1 h = quiet_some R1 refl (λ b p y. refl) refl (λ e. grind arith) (λ e. grind arith)
rw_quiet R2 h = quiet_some R2 refl (λ b p y. refl) refl (λ e. grind arith) (λ e. grind arith)
rw_quiet R3 h = quiet_some R3 refl (λ b p y. refl) refl (λ e. grind arith) (λ e. grind arith)
rw_quiet R4 h = quiet_some R4 refl (λ b p y. refl) refl (λ e. grind arith) (λ e. grind arith)
rw_quiet R5 h = quiet_some R5 refl (λ b p y. refl) refl (λ e. grind arith) (λ e. grind arith)
rw_quiet Wr1 h = quiet_some Wr1 refl (λ b p y. refl) refl (λ e. grind arith) (λ e. grind arith)
rw_quiet Wr2 h = quiet_some Wr2 refl (λ b p y. refl) refl (λ e. grind arith) (λ e. grind arith)
rw_quiet Wr3 h = quiet_some Wr3 refl (λ b p y. refl) refl (λ e. grind arith) (λ e. grind arith)
rw_quiet Wr4 h = quiet_some Wr4 refl (λ b p y. refl) refl (λ e. grind arith) (λ e. grind arith)
rw_quiet Wr5 h = quiet_some Wr5 refl (λ b p y. refl) refl (λ e. grind arith) (λ e. grind arith)
rw_quiet Wr6 h = quiet_some Wr6 refl (λ b p y. refl) refl (λ e. grind arith) (λ e. grind arith)
rw_quiet Y1 h = quiet_some Y1 refl (λ b p y. refl) refl (λ e. grind arith) (λ e. grind arith)
rw_quiet Y2 h = quiet_some Y2 refl (λ b p y. refl) refl (λ e. grind arith) (λ e. grind arith)
rw_quiet Y3 h = quiet_some Y3 refl (λ b p y. refl) refl (λ e. grind arith) (λ e. grind arith)
rw_quiet Y4 h = quiet_some Y4 refl (λ b p y. refl) refl (λ e. grind arith) (λ e. grind arith)
rw_quiet Y5 h = quiet_some Y5 refl (λ b p y. refl) refl (λ e. grind arith) (λ e. grind arith)
rw_quiet Z1 h = quiet_some Z1 refl (λ b p y. refl) refl (λ e. grind arith) (λ e. grind arith)
rw_quiet Z2 h = quiet_some Z2 refl (λ b p y. refl) refl (λ e. grind arith) (λ e. grind arith)
rw_quiet _ h = cc

-- The ways in which a row leads on.

pub going_to : {m n : World} {hs : LockName → LockHistory} {w : Waiter} {f : Frame} {c : Pc}
    {x : RwFields} {way : Option Manner}
    → RwStands m hs w f c → (d : Pc) → is_rw_row d ≡ true
    → is_inner (rw_own_phase d) ≡ is_inner (rw_own_phase c) → RwStored m n f.lock.index x
    → way ≢ Some Spins → RwGoing m n w f (record f { place = Some d }) c (rw_own_phase d) x way
going_to {m = m} {w = w} {f = f} {c = c} at d row inner stored unspun =
    let fits = at.sound.fits w f at.live in
    record {
      stored = stored;
      lock = refl;
      me = refl;
      now = if-true (is_rw_row d) (rw_own_phase d) _ row;
      inner = inner;
      side = side_rests (record f { place = Some d }) (wait_name f.lock.index) _ (rw_quiet d row);
      unspun = unspun;
      fits = record {
        rw = λ d' q e. rw_kind at;
        inner = λ d' q e i.
            fits.inner c at.place at.row (sym inner
            ∙ ap (λ (k : Pc). is_inner (rw_own_phase k)) (same d' q) ∙ i);
        spin = λ d' q e s. absurd (let z = ap is_rw_row (same d' q) in grind (arith, z, row, e));
        waits = fits.waits;
        after = fits.after;
      };
    }
  where
    same : (d' : Pc) → Some d ≡ Some d' → d ≡ d'
    same d' q = grind arith

pub going_end : {m n : World} {hs : LockName → LockHistory} {w : Waiter} {f : Frame} {c : Pc}
    {x : RwFields} {way : Option Manner}
    → RwStands m hs w f c → is_inner (rw_own_phase c) ≡ false → RwStored m n f.lock.index x
    → way ≢ Some Spins → RwGoing m n w f (record f { place = None }) c Away x way
going_end {m = m} {w = w} {f = f} {c = c} at outer stored unspun =
    let fits = at.sound.fits w f at.live in
    record {
      stored = stored;
      lock = refl;
      me = refl;
      now = refl;
      inner = sym outer;
      side =
          side_rests (record f { place = None }) (wait_name f.lock.index) _ (quiet_none None refl);
      unspun = unspun;
      fits = record {
        rw = λ d q e. cc;
        inner = λ d q e i. cc;
        spin = λ d q e s. cc;
        waits = fits.waits;
        after = fits.after;
      };
    }

pub going_wait : {m n : World} {hs : LockName → LockHistory} {w : Waiter} {f : Frame} {c : Pc}
    {x : RwFields} {way : Option Manner}
    → RwStands m hs w f c → (d : Pc) → IsThen (Some d) → is_inner (rw_own_phase c) ≡ false
    → RwStored m n f.lock.index x → way ≢ Some Spins → RwGoing m n w f (waiting f d) c Asks x way
going_wait {m = m} {w = w} {f = f} {c = c} at d after outer stored unspun =
    record {
      stored = stored;
      lock = refl;
      me = refl;
      now = refl;
      inner = sym outer;
      side = side_takes f d _ (rw_waits_here at ∙ outer);
      unspun = unspun;
      fits = record {
        rw = λ d q e. rw_kind at;
        inner = λ d q e i. refl;
        spin = λ d q e s. cc;
        waits = λ q. rw_kind at;
        after = λ q. after;
      };
    }

pub going_free : {m n : World} {hs : LockName → LockHistory} {w : Waiter} {f : Frame} {c : Pc}
    {x : RwFields} {way : Option Manner}
    → RwStands m hs w f c → is_inner (rw_own_phase c) ≡ true → RwStored m n f.lock.index x
    → way ≢ Some Spins → RwGoing m n w f (led f (frees_wait m.mode)) c Frees x way
going_free {m = m} {w = w} {f = f} {c = c} at in_hand stored unspun =
    let fits = at.sound.fits w f at.live in
    let wait = fits.inner c at.place at.row in_hand in
    let d = first_place m.mode Unlock in
    let free = frees_by m.mode in
    record {
      stored = stored;
      lock = refl;
      me = refl;
      now = if-false (is_rw_row d) (rw_own_phase d) (rw_wait_phase f.lock.wait (part_of d))
          free.spin ∙ ap (rw_wait_phase f.lock.wait) free.part
          ∙ ap (λ (b : Bool). rw_wait_phase b Freeing) wait;
      inner = sym in_hand;
      side = side_frees d free f (wait_name f.lock.index) _
          (λ i. record { index = f.lock.index; wait = wait i }) (rw_waits_here at ∙ in_hand);
      unspun = unspun;
      fits = record {
        rw = λ d q e. rw_kind at;
        inner = λ d q e i. wait;
        spin = λ d q e s. absurd (grind (arith, wait, s));
        waits = fits.waits;
        after = fits.after;
      };
    }
