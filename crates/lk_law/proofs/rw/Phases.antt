-- What a row of a spinlock or a wait lock does to the phase of its waiter for a reader-writer lock.
use Rattle.std.proofs.Common.{◌≡◌, ◌≢◌, inl, inr, ℕ, Option, Some, None, Bool, true, false, arith}
use Rattle.std.proofs.Common.{ap, refl, sym, ◌∙◌, subst, ◌==◌, if◌then◌else◌}
use Rattle.lk_law.proofs.Names.{cases_eq, LockHistory, Manner, Rw, LockName, Waiter, rw_name}
use Rattle.lk_law.proofs.Names.{wait_name, Lead, Frame, Pc, is_rw_row, IsThen, RwAgrees, RwStep}
use Rattle.lk_law.proofs.Names.{RwPhase, announces, asks, is_counted, is_inner, Asks, Away, Frees}
use Rattle.lk_law.proofs.Names.{Inside, Unreads, Unwrites, spins, IsSoundWorld, Part, RwFits}
use Rattle.lk_law.proofs.Names.{part_of, rw_helds, rw_own_phase, rw_phase_if, rw_phase_of}
use Rattle.lk_law.proofs.Names.{rw_phase_on, rw_phases, rw_waits, Freeing, Taking, way_led, World}
use Rattle.lk_law.proofs.{common.Puts.{if-true, if-false}, rw.Else.{IsIn, Onward, Put}}
use Rattle.lk_law.proofs.{rw.Else.Onward.{Gave, Gives, Kicked, Lost, On, Took}, rw.Laws.rw_turn}
use Rattle.lk_law.specs.{RwPhase.biased, SoundWorld.{rw_wait_phase, rw_phase_at}}
use Rattle.lk_law.specs.SoundWorld.Part.{Owing}

-- at a row of a spinlock
pub spin_phase : (c : Pc) (wait : Bool) → is_rw_row c ≡ false
    → rw_phase_at c wait ≡ rw_wait_phase wait (part_of c)
spin_phase c wait e = if-false (is_rw_row c) (rw_own_phase c) (rw_wait_phase wait (part_of c)) e

-- From r to r' with a row of a spinlock, where the waiter has the wait lock before and after it so.
pub record IsSpinTurn (r r' : RwPhase) : Type 0 where
  pub counts : biased r' ≡ biased r
  pub told : announces r' ≡ announces r
  pub on_way : asks r' ≡ true → asks r ≡ true
  pub unread : r' ≢ Unreads
  pub unwrite : r' ≢ Unwrites

turn_away : IsSpinTurn Away Away
turn_away = record {
  counts = refl;
  told = refl;
  on_way = λ p. grind arith;
  unread = λ e. grind arith;
  unwrite = λ e. grind arith;
}

turn_asks : IsSpinTurn Asks Asks
turn_asks = record {
  counts = refl;
  told = refl;
  on_way = λ p. refl;
  unread = λ e. grind arith;
  unwrite = λ e. grind arith;
}

turn_frees : IsSpinTurn Frees Frees
turn_frees = record {
  counts = refl;
  told = refl;
  on_way = λ p. grind arith;
  unread = λ e. grind arith;
  unwrite = λ e. grind arith;
}

-- a frame that goes on with the same part
turn_on : (b : Bool) (part : Part) → IsSpinTurn (rw_wait_phase b part) (rw_wait_phase b part)
turn_on false part = turn_away
turn_on true Taking = turn_asks
turn_on true Freeing = turn_frees
turn_on true Owing = turn_away

turn_enters : IsSpinTurn Asks Inside
turn_enters = record {
  counts = refl;
  told = refl;
  on_way = λ p. refl;
  unread = λ e. grind arith;
  unwrite = λ e. grind arith;
}

turn_loses : IsSpinTurn Asks Away
turn_loses = record {
  counts = refl;
  told = refl;
  on_way = λ p. grind arith;
  unread = λ e. grind arith;
  unwrite = λ e. grind arith;
}

turn_gives : IsSpinTurn Frees Away
turn_gives = record {
  counts = refl;
  told = refl;
  on_way = λ p. grind arith;
  unread = λ e. grind arith;
  unwrite = λ e. grind arith;
}

then_enters : (c : Option Pc) (wait : Bool) → IsThen c → rw_phase_if c wait ≡ Inside
then_enters c wait (inl e) = ap (λ (d : Option Pc). rw_phase_if d wait) e
then_enters c wait (inr e) = ap (λ (d : Option Pc). rw_phase_if d wait) e

-- what a row of a spinlock does to the phase of its waiter for the lock, without a wait lock and
-- with it: and whether it has the wait lock after it, where it had it before
pub record SpinPhases (f g : Frame) (c : Pc) (lead : Lead) (way : Option Manner) : Type 0 where
  pub r : RwPhase
  pub r' : RwPhase
  pub was : rw_phase_of f ≡ r
  pub now : rw_phase_of g ≡ r'
  pub turn : IsSpinTurn r r'
  pub has : f.lock.wait ≡ true → spins way ≡ is_inner r → spins (way_led lead way) ≡ is_inner r'

phase_by : (f : Frame) (c : Option Pc) (b : Bool) → f.place ≡ c → f.lock.wait ≡ b
    → rw_phase_of f ≡ rw_phase_if c b
phase_by f c b place wait =
    ap (λ (d : Option Pc). rw_phase_if d f.lock.wait) place ∙ ap (rw_phase_if c) wait

pub spin_phases : (f g : Frame) (c : Pc) (lead : Lead) (way : Option Manner) → f.place ≡ Some c
    → is_rw_row c ≡ false → (f.lock.wait ≡ true → IsThen f.then) → g.lock ≡ f.lock
    → Onward f g lead (part_of c) → SpinPhases f g c lead way
spin_phases f g c lead way place spin after lock on = by_wait f.lock.wait refl on
  where
    was_at : (b : Bool) → f.lock.wait ≡ b → (q : Part) → part_of c ≡ q
        → rw_phase_of f ≡ rw_wait_phase b q
    was_at b e q part =
        phase_by f (Some c) b place e ∙ spin_phase c b spin ∙ ap (rw_wait_phase b) part

    wait_is : (b : Bool) → f.lock.wait ≡ b → g.lock.wait ≡ b
    wait_is b e = ap (λ (l : LockName). l.wait) lock ∙ e

    now_at : (b : Bool) → f.lock.wait ≡ b → (d : Option Pc) → g.place ≡ d
        → rw_phase_of g ≡ rw_phase_if d b
    now_at b e d p = phase_by g d b p (wait_is b e)

    onward_at : (b : Bool) → f.lock.wait ≡ b → (q : Part) (d : Pc) → IsIn q d → g.place ≡ Some d
        → rw_phase_of g ≡ rw_wait_phase b q
    onward_at b e q d o p =
        now_at b e (Some d) p ∙ spin_phase d b o.spin ∙ ap (rw_wait_phase b) o.part

    same_way : (q : RwPhase) → way_led lead ≡ (λ way. way) → spins way ≡ is_inner q
        → spins (way_led lead way) ≡ is_inner q
    same_way q e h = ap (λ (k : Option Manner → Option Manner). spins (k way)) e ∙ h

    by_wait : (b : Bool) → f.lock.wait ≡ b → Onward f g lead (part_of c) → SpinPhases f g c lead way
    by_wait b e (On d o p same) =
        record {
          r = rw_wait_phase b (part_of c);
          r' = rw_wait_phase b (part_of c);
          was = was_at b e (part_of c) refl;
          now = onward_at b e (part_of c) d o p;
          turn = turn_on b (part_of c);
          has = λ q h. same_way (rw_wait_phase b (part_of c)) same h;
        }
    by_wait false e (Took part p takes) =
        record {
          r = Away;
          r' = Away;
          was = was_at false e Taking part;
          now = now_at false e None (p ∙ ap (λ (b : Bool). if b then f.then else None) e);
          turn = turn_away;
          has = λ q h. absurd (grind (arith, q, e));
        }
    by_wait false e (Gave part p gives) =
        record {
          r = Away;
          r' = Away;
          was = was_at false e Freeing part;
          now = now_at false e None p;
          turn = turn_away;
          has = λ q h. absurd (grind (arith, q, e));
        }
    by_wait false e (Gives part d o p gives) =
        record {
          r = Away;
          r' = Away;
          was = was_at false e Freeing part;
          now = onward_at false e Owing d o p;
          turn = turn_away;
          has = λ q h. absurd (grind (arith, q, e));
        }
    by_wait false e (Kicked part p gives) =
        record {
          r = Away;
          r' = Away;
          was = was_at false e Owing part;
          now = now_at false e None p;
          turn = turn_away;
          has = λ q h. absurd (grind (arith, q, e));
        }
    by_wait false e (Lost part p same) =
        record {
          r = Away;
          r' = Away;
          was = was_at false e Taking part;
          now = now_at false e None p;
          turn = turn_away;
          has = λ q h. absurd (grind (arith, q, e));
        }
    by_wait true e (Took part p takes) =
        record {
          r = Asks;
          r' = Inside;
          was = was_at true e Taking part;
          now = now_at true e f.then (p ∙ ap (λ (b : Bool). if b then f.then else None) e)
              ∙ then_enters f.then true (after e);
          turn = turn_enters;
          has = λ q h. ap spins (takes way);
        }
    by_wait true e (Gave part p gives) =
        record {
          r = Frees;
          r' = Away;
          was = was_at true e Freeing part;
          now = now_at true e None p;
          turn = turn_gives;
          has = λ q h. ap spins (gives way);
        }
    by_wait true e (Gives part d o p gives) =
        record {
          r = Frees;
          r' = Away;
          was = was_at true e Freeing part;
          now = onward_at true e Owing d o p;
          turn = turn_gives;
          has = λ q h. ap spins (gives way);
        }
    by_wait true e (Kicked part p gives) =
        record {
          r = Away;
          r' = Away;
          was = was_at true e Owing part;
          now = now_at true e None p;
          turn = turn_away;
          has = λ q h. ap spins (gives way);
        }
    by_wait true e (Lost part p same) =
        record {
          r = Asks;
          r' = Away;
          was = was_at true e Taking part;
          now = now_at true e None p;
          turn = turn_loses;
          has = λ q h. same_way Asks same h;
        }

pub rw_here : (i : ℕ) (f : Frame) → f.lock.index ≡ i → rw_phase_on i (Some f) ≡ rw_phase_of f
rw_here i f e = if-true (f.lock.index == i) (rw_phase_of f) Away (grind (arith, e))

pub rw_else : (i : ℕ) (f : Frame) → f.lock.index ≢ i → rw_phase_on i (Some f) ≡ Away
rw_else i f ne = if-false (f.lock.index == i) (rw_phase_of f) Away (grind (arith, ne))

-- a change of one frame and one hold is a step for each reader-writer lock
pub rw_step : {m m' : World} {w : Waiter} {f g : Frame} {l : LockName} {way : Option Manner}
    → Put m m' w f g l way → (i : ℕ) {r r' : RwPhase} → rw_phase_on i (Some f) ≡ r
    → rw_phase_on i (Some g) ≡ r' → rw_waits m' i w ≡ is_inner r'
    → RwStep (rw_phases m i) (rw_phases m' i) (rw_helds m i) (rw_helds m' i) (rw_waits m i)
    (rw_waits m' i) w r r' (rw_helds m i w) (rw_helds m' i w)
rw_step put i was now inner =
    record {
      acts = record {
        was = ap (rw_phase_on i) put.frames.was ∙ was;
        now = ap (rw_phase_on i) put.frames.now ∙ now;
        others = λ u ne. ap (rw_phase_on i) (put.frames.others u ne);
      };
      holds = record { was = refl; now = refl; others = λ u ne. put.waiters u ne (rw_name i) };
      others = λ u ne. ap spins (put.waiters u ne (wait_name i));
      inner = inner;
    }

-- a lock of which nothing is changed: neither its word, nor the phase of the waiter, nor how it
-- holds the lock or the wait lock
pub rws_else : {m m' : World} {w : Waiter} {f g : Frame} {l : LockName} {way : Option Manner}
    {h : LockHistory}
    → Put m m' w f g l way → (i : ℕ)
    → RwAgrees (m.rw i) (rw_phases m i) (rw_helds m i) (rw_waits m i) h → f.lock.index ≢ i
    → g.lock.index ≢ i → rw_helds m' i w ≡ rw_helds m i w → rw_waits m' i w ≡ rw_waits m i w
    → RwAgrees (m.rw i) (rw_phases m' i) (rw_helds m' i) (rw_waits m' i) h
rws_else {m = m} {w = w} {f = f} {g = g} put i ok ne ne' held waits =
    let away : rw_phases m i w ≡ Away = ap (rw_phase_on i) put.frames.was ∙ rw_else i f ne in
    rw_turn ok (rw_step put i {r = Away} {r' = Away} (rw_else i f ne) (rw_else i g ne')
    (waits ∙ ok.waiting.inner w ∙ ap is_inner away)) held (ap (is_counted Away) held) refl
    (λ p. absurd (grind arith)) (λ p. absurd (grind arith)) (λ p. absurd (grind arith))

module _ {m m' : World} {hs : LockName → LockHistory} {w : Waiter} {f g : Frame} {c : Pc}
    {lead : Lead} (sound : IsSoundWorld m hs) (live : m.frame w ≡ Some f) (place : f.place ≡ Some c)
    (spin : is_rw_row c ≡ false) (put : Put m m' w f g f.lock (way_led lead (m.held w f.lock)))
    (lock : g.lock ≡ f.lock) (next : g.then ≡ f.then)
    (on : Onward f g lead (part_of c)) where
  pub spin_apart : (i : ℕ) → m.kind i ≡ Rw → rw_name i ≢ f.lock
  spin_apart i k e =
      let fits = sound.fits w f live in
      let s = fits.spin c place spin (ap (λ (l : LockName). l.wait) (sym e)) in
      let same : f.lock.index ≡ i = ap (λ (l : LockName). l.index) (sym e) in
      absurd (let q = ap m.kind same in grind (arith, s, k, q))

  -- the lock on whose wait lock the frame acts
  rws_here : (i : ℕ) → f.lock.index ≡ i → m.kind i ≡ Rw → f.lock.wait ≡ true
      → RwAgrees (m.rw i) (rw_phases m i) (rw_helds m i) (rw_waits m i) (hs (rw_name i))
      → RwAgrees (m.rw i) (rw_phases m' i) (rw_helds m' i) (rw_waits m' i) (hs (rw_name i))
  rws_here i same k wait ok =
      let p =
      spin_phases f g c lead (m.held w f.lock) place spin (sound.fits w f live).after lock on in
      let name : f.lock ≡ wait_name i = (λ j. record { index = same j; wait = wait j }) in
      let was : rw_phases m i w ≡ p.r =
      ap (rw_phase_on i) put.frames.was ∙ rw_here i f same ∙ p.was in
      let had : spins (m.held w f.lock) ≡ is_inner p.r =
      ap (λ (l : LockName). spins (m.held w l)) name ∙ ok.waiting.inner w ∙ ap is_inner was in
      let inner : rw_waits m' i w ≡ is_inner p.r' =
      ap (λ (l : LockName). spins (m'.held w l)) (sym name) ∙ ap spins put.here
      ∙ p.has wait had in
      let held : rw_helds m' i w ≡ rw_helds m i w = put.locks (rw_name i) (spin_apart i k) w in
      rw_turn ok (rw_step put i {r = p.r} {r' = p.r'} (rw_here i f same ∙ p.was)
      (rw_here i g (ap (λ (l : LockName). l.index) lock ∙ same) ∙ p.now) inner) held
      (let b = p.turn.counts in
      counts_same p.r p.r' (rw_helds m i w) (rw_helds m' i w) b held) p.turn.told
      (λ a. ok.holds.without w (ap asks was ∙ p.turn.on_way a)) (λ q. absurd (p.turn.unread q))
      (λ q. absurd (p.turn.unwrite q))
    where
      counts_same : (r r' : RwPhase) (h h' : Option Manner) → biased r' ≡ biased r → h' ≡ h
          → is_counted r' h' ≡ is_counted r h
      counts_same r r' h h' b e = grind (arith, b, e)

  pub spin_rws : (i : ℕ) → m.kind i ≡ Rw
      → RwAgrees (m.rw i) (rw_phases m' i) (rw_helds m' i) (rw_waits m' i) (hs (rw_name i))
  spin_rws i k =
      elim (cases_eq f.lock.index i) [
        | inl same ↦ by_wait f.lock.wait refl same
        | inr ne ↦ rws_else put i (sound.rws i k) ne
            (λ q. ne (sym (ap (λ (l : LockName). l.index) lock) ∙ q))
            (put.locks (rw_name i) (spin_apart i k) w)
            (ap spins (put.locks (wait_name i)
            (λ e. ne (ap (λ (l : LockName). l.index) (sym e))) w))
      ]
    where
      by_wait : (b : Bool) → f.lock.wait ≡ b → f.lock.index ≡ i
          → RwAgrees (m.rw i) (rw_phases m' i) (rw_helds m' i) (rw_waits m' i) (hs (rw_name i))
      by_wait true wait same = rws_here i same k wait (sound.rws i k)
      by_wait false wait same =
          absurd (spin_apart i k (λ j. record { index = sym same j; wait = sym wait j }))

  -- and its frame fits again
  pub spin_fits : RwFits m.kind g
  spin_fits = by_way on
    where
      fits : RwFits m.kind f
      fits = sound.fits w f live

      index : g.lock.index ≡ f.lock.index
      index = ap (λ (l : LockName). l.index) lock

      wait : g.lock.wait ≡ f.lock.wait
      wait = ap (λ (l : LockName). l.wait) lock

      waits : g.lock.wait ≡ true → m.kind g.lock.index ≡ Rw
      waits q = ap m.kind index ∙ fits.waits (sym wait ∙ q)

      after : g.lock.wait ≡ true → IsThen g.then
      after q = subst IsThen (sym next) (fits.after (sym wait ∙ q))

      at_none : g.place ≡ None → RwFits m.kind g
      at_none p =
          record {
            rw = λ d q e. absurd (grind (arith, p, q));
            inner = λ d q e i. absurd (grind (arith, p, q));
            spin = λ d q e s. absurd (grind (arith, p, q));
            waits = waits;
            after = after;
          }

      at_then : g.lock.wait ≡ true → RwFits m.kind g
      at_then q =
          record {
            rw = λ d p e. waits q;
            inner = λ d p e i. q;
            spin = λ d p e s. absurd (grind (arith, q, s));
            waits = waits;
            after = after;
          }

      at_spin : (d : Pc) → g.place ≡ Some d → is_rw_row d ≡ false → RwFits m.kind g
      at_spin d p o =
          record {
            rw = λ d' q e. absurd (let z = ap is_rw_row (same d' q) in grind (arith, z, e, o));
            inner = λ d' q e i. absurd (let z = ap is_rw_row (same d' q) in grind (arith, z, e, o));
            spin = λ d' q e s. ap m.kind index ∙ fits.spin c place spin (sym wait ∙ s);
            waits = waits;
            after = after;
          }
        where
          same : (d' : Pc) → g.place ≡ Some d' → d' ≡ d
          same d' q = let z : Some d' ≡ Some d = sym q ∙ p in grind (arith, z)

      by_way : Onward f g lead (part_of c) → RwFits m.kind g
      by_way (On d o p same) = at_spin d p o.spin
      by_way (Gave part p gives) = at_none p
      by_way (Gives part d o p gives) = at_spin d p o.spin
      by_way (Kicked part p gives) = at_none p
      by_way (Lost part p same) = at_none p
      by_way (Took part p takes) = by_bool f.lock.wait refl
        where
          by_bool : (b : Bool) → f.lock.wait ≡ b → RwFits m.kind g
          by_bool true e = at_then (wait ∙ e)
          by_bool false e = at_none (p ∙ ap (λ (b : Bool). if b then f.then else None) e)
