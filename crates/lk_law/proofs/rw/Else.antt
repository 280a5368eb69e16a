-- What a row of a spinlock or a wait lock leaves of reader-writer locks.
use Rattle.std.proofs.Common.{◌≡◌, ◌≢◌, ℕ, Option, Some, None, Bool, false, List, [], ◌∷◌, arith}
use Rattle.std.proofs.Common.{ap, refl, ◌∙◌, ◌&&◌, if◌then◌else◌}
use Rattle.lk_law.proofs.Names.{Fields, NodeName, lock_of, same_lock, same_waiter, Manner, Spins}
use Rattle.lk_law.proofs.Names.{LockName, Waiter, A, B, Done, Enters, Freed, Goes, Granted}
use Rattle.lk_law.proofs.Names.{HashedIs, K, Lead, Leaves, Left, Missed, Nothing, Passes, Prev}
use Rattle.lk_law.proofs.Names.{Reason, Says, TakesWait, Tell, Y, Yields, Flag, Frame, Pc, State}
use Rattle.lk_law.proofs.Names.{is_rw_row, Moves, Part, part_of, Freeing, Taking, Made, lead_on}
use Rattle.lk_law.proofs.Names.{led, put_frame, put_held, stores_entry, stores_flag, stores_halted}
use Rattle.lk_law.proofs.Names.{stores_kicked, stores_next, stores_queued, stores_runs}
use Rattle.lk_law.proofs.Names.{stores_second, stores_state, stores_word, way_led, World}
use Rattle.lk_rows.specs.Row.{Change, with_change, changed_all, Second, T, Tailed, TargetIs}
use Rattle.lk_law.proofs.common.Puts.{if-true, if-false, put_moves, same_lock-else}
use Rattle.lk_law.proofs.common.Puts.{same_waiter-else}
use Rattle.lk_law.proofs.common.Sames.{same_lock-self, same_waiter-self}
use Rattle.lk_law.specs.{SoundWorld.Part.Owing, Steps.led_rest}

-- n is m but for words of spinlocks, nodes and counts
pub record Beside (m n : World) : Type 0 where
  pub frames : n.frame ≡ m.frame
  pub helds : n.held ≡ m.held
  pub rws : n.rw ≡ m.rw
  pub kinds : n.kind ≡ m.kind

pub beside_same : (m : World) → Beside m m
beside_same m = record { frames = refl; helds = refl; rws = refl; kinds = refl }

pub beside_word : (m : World) (l : LockName) (o : Option Fields) → Beside m (stores_word m l o)
beside_word m l None = beside_same m
beside_word m l (Some x) = record { frames = refl; helds = refl; rws = refl; kinds = refl }

pub beside_flag : (m : World) (n : NodeName) (o : Option Flag) → Beside m (stores_flag m n o)
beside_flag m n None = beside_same m
beside_flag m n (Some x) = record { frames = refl; helds = refl; rws = refl; kinds = refl }

pub beside_next : (m : World) (n : NodeName) (o : Option (Option NodeName))
    → Beside m (stores_next m n o)
beside_next m n None = beside_same m
beside_next m n (Some x) = record { frames = refl; helds = refl; rws = refl; kinds = refl }

pub beside_second : (m : World) (n : NodeName) (o : Option (Option NodeName))
    → Beside m (stores_second m n o)
beside_second m n None = beside_same m
beside_second m n (Some x) = record { frames = refl; helds = refl; rws = refl; kinds = refl }

pub beside_runs : (m : World) (n : NodeName) (o : Option ℕ) → Beside m (stores_runs m n o)
beside_runs m n None = beside_same m
beside_runs m n (Some x) = record { frames = refl; helds = refl; rws = refl; kinds = refl }

pub beside_queued : (m : World) (p : ℕ) (o : Option ℕ) → Beside m (stores_queued m p o)
beside_queued m p None = beside_same m
beside_queued m p (Some x) = record { frames = refl; helds = refl; rws = refl; kinds = refl }

pub beside_state : (m : World) (n : NodeName) (o : Option State) → Beside m (stores_state m n o)
beside_state m n None = beside_same m
beside_state m n (Some x) = record { frames = refl; helds = refl; rws = refl; kinds = refl }

pub beside_entry : (m : World) (l : LockName) (o : Option (Option NodeName))
    → Beside m (stores_entry m l o)
beside_entry m l None = beside_same m
beside_entry m l (Some x) = record { frames = refl; helds = refl; rws = refl; kinds = refl }

pub beside_halted : (m : World) (p : ℕ) (o : Option Bool) → Beside m (stores_halted m p o)
beside_halted m p None = beside_same m
beside_halted m p (Some x) = record { frames = refl; helds = refl; rws = refl; kinds = refl }

pub beside_kicked : (m : World) (p : ℕ) (o : Option Bool) → Beside m (stores_kicked m p o)
beside_kicked m p None = beside_same m
beside_kicked m p (Some x) = record { frames = refl; helds = refl; rws = refl; kinds = refl }

pub beside_rest : (m n : World) (w : Waiter) (lead : Lead) → Beside m n
    → Beside m (led_rest n w lead)
beside_rest m n w (Goes c cs) b = b
beside_rest m n w (Enters None c) b = b
beside_rest m n w (Enters (Some k) c) b =
    record { frames = b.frames; helds = b.helds; rws = b.rws; kinds = b.kinds }
beside_rest m n w Granted b = b
beside_rest m n w Freed b = b
beside_rest m n w Missed b = b
beside_rest m n w Done b = b
beside_rest m n w (TakesWait c) b = b
beside_rest m n w (Yields c cs) b = b
beside_rest m n w Leaves b =
    record { frames = b.frames; helds = b.helds; rws = b.rws; kinds = b.kinds }

-- the frame f of w becomes g, and w holds the lock l so
pub record Put (m m' : World) (w : Waiter) (f g : Frame) (l : LockName)
    (way : Option Manner) : Type 0 where
  pub frames : Moves m.frame m'.frame w (Some f) (Some g)
  pub here : m'.held w l ≡ way
  pub waiters : (u : Waiter) → u ≢ w → (k : LockName) → m'.held u k ≡ m.held u k
  pub locks : (k : LockName) → k ≢ l → (u : Waiter) → m'.held u k ≡ m.held u k

pub put_held_frame : (m n : World) (w : Waiter) (f g : Frame) (l : LockName) (way : Option Manner)
    → m.frame w ≡ Some f → n.frame ≡ m.frame → n.held ≡ m.held
    → Put m (put_held (put_frame n w (Some g)) w l way) w f g l way
put_held_frame m n w f g l way live frames helds =
    record {
      frames = record {
        was = live;
        now = p.now;
        others = λ u ne. p.others u ne ∙ ap (λ (h : Waiter → Option Frame). h u) frames;
      };
      here =
          if-true (same_waiter w w && same_lock l l) way (n.held w l)
          (grind (arith, same_waiter-self w, same_lock-self l));
      waiters = λ u ne k.
          if-false (same_waiter u w && same_lock k l) way (n.held u k)
          (grind (arith, same_waiter-else u w ne)) ∙ is u k;
      locks = λ k ne u.
          if-false (same_waiter u w && same_lock k l) way (n.held u k)
          (grind (arith, same_lock-else k l ne)) ∙ is u k;
    }
  where
    p : Moves n.frame (put_frame n w (Some g)).frame w (Some f) (Some g)
    p =
        put_moves n.frame w (Some f) (Some g)
        (ap (λ (h : Waiter → Option Frame). h w) frames ∙ live)

    is : (u : Waiter) (k : LockName) → n.held u k ≡ m.held u k
    is u k = ap (λ (h : Waiter → LockName → Option Manner). h u k) helds

-- the place is a row of a spinlock, and of this part
pub record IsIn (p : Part) (c : Pc) : Type 0 where
  pub spin : is_rw_row c ≡ false
  pub part : part_of c ≡ p

-- where a row of a spinlock leads, by what it does with its lock
abbrev pub SpinLead : Part → Lead → Type 0
SpinLead Taking (Goes c cs) = IsIn Taking c
SpinLead Taking (Enters me c) = IsIn Taking c
SpinLead Taking Granted = Unit {0}
SpinLead Taking Missed = Unit {0}
SpinLead Taking Leaves = Unit {0}
SpinLead Freeing (Goes c cs) = IsIn Freeing c
SpinLead Freeing Freed = Unit {0}
SpinLead Freeing (Yields c cs) = IsIn Owing c
SpinLead Owing Freed = Unit {0}
SpinLead _ _ = ⊥

-- an event of this lock, if of any
abbrev pub IsOfLock : LockName → Option LockName → Type 0
IsOfLock l None = Unit {0}
IsOfLock l (Some k) = k ≡ l

-- what it tells is told of its lock, or of none
abbrev pub TellsOf : LockName → Tell → Type 0
TellsOf l Nothing = Unit {0}
TellsOf l (Says what) = IsOfLock l (lock_of what)
TellsOf l (Passes n k) = Unit {0}

-- what a row of a spinlock makes of a world
pub record SpinMade (m : World) (w : Waiter) (f : Frame) (c : Pc) (made : Made) : Type 0 where
  pub stored : World
  pub lead : Lead
  pub beside : Beside m stored
  pub is : made.0 ≡ lead_on stored w f lead
  pub onward : SpinLead (part_of c) lead
  pub tells : TellsOf f.lock made.1

changed_lock : (f : Frame) (c : Change) → (with_change f c).lock ≡ f.lock
changed_lock f (Prev n) = refl
changed_lock f (Second n) = refl
changed_lock f (Y n) = refl
changed_lock f (Left n) = refl
changed_lock f (A n) = refl
changed_lock f (B n) = refl
changed_lock f (K n) = refl
changed_lock f (T n) = refl
changed_lock f (Reason n) = refl
changed_lock f (Tailed n) = refl
changed_lock f (HashedIs n) = refl
changed_lock f (TargetIs n) = refl

changed_then : (f : Frame) (c : Change) → (with_change f c).then ≡ f.then
changed_then f (Prev n) = refl
changed_then f (Second n) = refl
changed_then f (Y n) = refl
changed_then f (Left n) = refl
changed_then f (A n) = refl
changed_then f (B n) = refl
changed_then f (K n) = refl
changed_then f (T n) = refl
changed_then f (Reason n) = refl
changed_then f (Tailed n) = refl
changed_then f (HashedIs n) = refl
changed_then f (TargetIs n) = refl

pub changes_lock : (f : Frame) (cs : List Change) → (changed_all f cs).lock ≡ f.lock
changes_lock f [] = refl
changes_lock f (c ∷ cs) = changes_lock (with_change f c) cs ∙ changed_lock f c

pub changes_then : (f : Frame) (cs : List Change) → (changed_all f cs).then ≡ f.then
changes_then f [] = refl
changes_then f (c ∷ cs) = changes_then (with_change f c) cs ∙ changed_then f c

-- The frame goes on with the lock as before, or has taken or freed it; or its operation has ended
-- without it, or behind its release.
pub data Onward (f g : Frame) (lead : Lead) (part : Part) : Type 0 where
  On : (c : Pc) → IsIn part c → g.place ≡ Some c → way_led lead ≡ (λ way. way)
      → Onward f g lead part
  Took : part ≡ Taking → g.place ≡ (if f.lock.wait then f.then else None)
      → ((way : Option Manner) → way_led lead way ≡ Some Spins) → Onward f g lead part
  Gave : part ≡ Freeing → g.place ≡ None → ((way : Option Manner) → way_led lead way ≡ None)
      → Onward f g lead part
  Gives : part ≡ Freeing → (c : Pc) → IsIn Owing c → g.place ≡ Some c
      → ((way : Option Manner) → way_led lead way ≡ None) → Onward f g lead part
  Kicked : part ≡ Owing → g.place ≡ None → ((way : Option Manner) → way_led lead way ≡ None)
      → Onward f g lead part
  Lost : part ≡ Taking → g.place ≡ None → way_led lead ≡ (λ way. way) → Onward f g lead part

-- a row of a spinlock changes neither the lock on which its frame acts nor where it goes on after a
-- wait lock
pub led_keeps : (f : Frame) (part : Part) (lead : Lead) → SpinLead part lead
    → ((led f lead).lock ≡ f.lock) × ((led f lead).then ≡ f.then)
led_keeps f Taking (Goes c cs) on = (changes_lock f cs, changes_then f cs)
led_keeps f Taking (Enters me c) on = (refl, refl)
led_keeps f Taking Granted on = (refl, refl)
led_keeps f Taking Freed on = absurd on
led_keeps f Taking Missed on = (refl, refl)
led_keeps f Taking Leaves on = (refl, refl)
led_keeps f Taking Done on = absurd on
led_keeps f Taking (TakesWait c) on = absurd on
led_keeps f Taking (Yields c cs) on = absurd on
led_keeps f Freeing (Goes c cs) on = (changes_lock f cs, changes_then f cs)
led_keeps f Freeing (Enters me c) on = absurd on
led_keeps f Freeing Granted on = absurd on
led_keeps f Freeing Freed on = (refl, refl)
led_keeps f Freeing Missed on = absurd on
led_keeps f Freeing Leaves on = absurd on
led_keeps f Freeing Done on = absurd on
led_keeps f Freeing (TakesWait c) on = absurd on
led_keeps f Freeing (Yields c cs) on = (changes_lock f cs, changes_then f cs)
led_keeps f Owing (Goes c cs) on = absurd on
led_keeps f Owing (Enters me c) on = absurd on
led_keeps f Owing Granted on = absurd on
led_keeps f Owing Freed on = (refl, refl)
led_keeps f Owing Missed on = absurd on
led_keeps f Owing Leaves on = absurd on
led_keeps f Owing Done on = absurd on
led_keeps f Owing (TakesWait c) on = absurd on
led_keeps f Owing (Yields c cs) on = absurd on

pub led_onward : (f : Frame) (part : Part) (lead : Lead) → SpinLead part lead
    → Onward f (led f lead) lead part
led_onward f Taking (Goes c cs) on = On c on refl refl
led_onward f Taking (Enters me c) on = On c on refl refl
led_onward f Taking Granted on = Took refl refl (λ way. refl)
led_onward f Taking Freed on = absurd on
led_onward f Taking Missed on = Lost refl refl refl
led_onward f Taking Leaves on = Took refl refl (λ way. refl)
led_onward f Taking Done on = absurd on
led_onward f Taking (TakesWait c) on = absurd on
led_onward f Taking (Yields c cs) on = absurd on
led_onward f Freeing (Goes c cs) on = On c on refl refl
led_onward f Freeing (Enters me c) on = absurd on
led_onward f Freeing Granted on = absurd on
led_onward f Freeing Freed on = Gave refl refl (λ way. refl)
led_onward f Freeing Missed on = absurd on
led_onward f Freeing Leaves on = absurd on
led_onward f Freeing Done on = absurd on
led_onward f Freeing (TakesWait c) on = absurd on
led_onward f Freeing (Yields c cs) on = Gives refl c on refl (λ way. refl)
led_onward f Owing (Goes c cs) on = absurd on
led_onward f Owing (Enters me c) on = absurd on
led_onward f Owing Granted on = absurd on
led_onward f Owing Freed on = Kicked refl refl (λ way. refl)
led_onward f Owing Missed on = absurd on
led_onward f Owing Leaves on = absurd on
led_onward f Owing Done on = absurd on
led_onward f Owing (TakesWait c) on = absurd on
led_onward f Owing (Yields c cs) on = absurd on
