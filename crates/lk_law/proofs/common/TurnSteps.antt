-- The step of the snapshot that a turn makes.
use Rattle.std.proofs.Common.{◌≡◌, ◌≢◌, inl, ℕ, Option, Some, Bool, true, false, arith, ap, ◌+◌}
use Rattle.std.proofs.Common.{refl, ◌∙◌, ◌&&◌, ◌≤◌}
use Rattle.lk_law.proofs.Names.{Fields, Slow, NodeName, LockHistory, same_lock, same_waiter, Manner}
use Rattle.lk_law.proofs.Names.{LockName, Waiter, node_of, Second, Frame, Node, EntersSlowPath}
use Rattle.lk_law.proofs.Names.{Knows, LeavesSlowPath, Owed, SnapshotAgrees, Stays, Step, halts}
use Rattle.lk_law.proofs.Names.{moves_aside, is_slow, Phase, kept_in, own_in, phase_of, post_of}
use Rattle.lk_law.proofs.Names.{post_on, snapshot, stage_of, stage_on, IsNewest, at_halt}
use Rattle.lk_law.proofs.Names.{RegistersFit, Moves, same_node, spins, IsPlain, IsSoundSpinWorld}
use Rattle.lk_law.proofs.Names.{put_node, put_queued, put_word, World}
use Rattle.lk_law.proofs.common.Puts.{if_cases, if-true, if-false, put_moves, same_lock-else}
use Rattle.lk_law.proofs.common.Puts.{same_waiter-else}
use Rattle.lk_law.proofs.common.Sames.{same_lock-self, same_waiter-self}
use Rattle.lk_law.proofs.common.Turns.{Turn, turned}
use Rattle.lk_law.proofs.common.Worlds.{HoldsChange, world_step, world_stays, world_leaves}
use Rattle.lk_law.proofs.common.Worlds.{world_enters, world_sound, world_knows, stage_on-here}
use Rattle.lk_law.proofs.common.Worlds.{post_on-here}

-- plain worlds

pub word_plain : (m : World) (l : LockName) (x : Fields) → IsPlain m → x.locked ≢ Slow
    → IsPlain (put_word m l x)
word_plain m l x ok quick =
    record {
      byte =
          λ wakes k.
          if_cases (λ (y : Fields). y.locked ≢ Slow) (same_lock k l) x (m.word k) (λ e. quick)
          (λ e. ok.byte wakes k);
      flag = ok.flag;
      runs = ok.runs;
    }

pub node_plain : (m : World) (n : NodeName) (x : Node) → IsPlain m → x.runs ≤ m.threshold
    → (moves_aside m.mode ≡ false → (k : NodeName) → x.flag ≢ Second k) → IsPlain (put_node m n x)
node_plain m n x ok few sole =
    record {
      byte = ok.byte;
      flag = λ flat a k.
          if_cases (λ (y : Node). y.flag ≢ Second k) (same_node a n) x (m.node a) (λ e. sole flat k)
          (λ e. ok.flag flat a k);
      runs = λ a. if_cases (λ (y : Node). y.runs ≤ m.threshold) (same_node a n) x (m.node a)
          (λ e. few) (λ e. ok.runs a);
    }

pub queued_plain : (m : World) (p i : ℕ) → IsPlain m → IsPlain (put_queued m p i)
queued_plain m p i ok = record { byte = ok.byte; flag = ok.flag; runs = ok.runs }

module _ {m n : World} {w : Waiter} {f g : Frame} {way : Option Manner}
    (t : Turn m n w f g way) where
  pub turn_moves : Moves m.frame (turned n w g f.lock way).frame w (Some f) (Some g)
  turn_moves =
      let p =
      put_moves n.frame w (Some f) (Some g)
      (ap (λ (h : Waiter → Option Frame). h w) t.frames ∙ t.live) in
      record {
        was = t.live;
        now = p.now;
        others = λ u ne. p.others u ne ∙ ap (λ (h : Waiter → Option Frame). h u) t.frames;
      }

  held_is : (u : Waiter) (k : LockName) → n.held u k ≡ m.held u k
  held_is u k = ap (λ (h : Waiter → LockName → Option Manner). h u k) t.holds

  held_here : (turned n w g f.lock way).held w f.lock ≡ way
  held_here = if-true (same_waiter w w && same_lock f.lock f.lock) way (n.held w f.lock)
      (grind (arith, same_waiter-self w, same_lock-self f.lock))

  held_waiter : (u : Waiter) → u ≢ w → (k : LockName)
      → (turned n w g f.lock way).held u k ≡ m.held u k
  held_waiter u ne k =
      if-false (same_waiter u w && same_lock k f.lock) way (n.held u k)
      (grind (arith, same_waiter-else u w ne)) ∙ held_is u k

  held_lock : (k : LockName) → k ≢ f.lock → (u : Waiter)
      → (turned n w g f.lock way).held u k ≡ m.held u k
  held_lock k ne u =
      if-false (same_waiter u w && same_lock k f.lock) way (n.held u k)
      (grind (arith, same_lock-else k f.lock ne)) ∙ held_is u k

  turn_holds : {x : Fields} {h h' : Bool} → n.word f.lock ≡ x → spins (m.held w f.lock) ≡ h
      → spins way ≡ h' → HoldsChange m (turned n w g f.lock way) w f.lock x h h'
  turn_holds word was now =
      record {
        mode = t.mode;
        threshold = t.threshold;
        format = t.format;
        sockets = t.sockets;
        entries = t.entries;
        word = word;
        words = t.words;
        holds = record {
          was = was;
          now = ap spins held_here ∙ now;
          others = λ u ne. ap spins (held_waiter u ne f.lock);
        };
        helds = λ k ne u. ap spins (held_lock k ne u);
      }

  -- where processors halt, the kicks that are owed and who sleeps are said by the row
  pub turn_step_of : {r r' : Phase} {x : Fields} {h h' : Bool} → phase_of f ≡ r → phase_of g ≡ r'
      → n.word f.lock ≡ x → spins (m.held w f.lock) ≡ h → spins way ≡ h'
      → (halts m.mode ≡ true → (k : LockName) (u : Waiter) → k ≢ f.lock
      → at_halt (post_on k (m.frame u)) ≡ true → Owed (snapshot m) u.cpu
      → Owed (snapshot (turned n w g f.lock way)) u.cpu)
      → (halts m.mode ≡ true → at_halt (post_on f.lock ((turned n w g f.lock way).frame w)) ≡ true
      → (k : LockName) (u : Waiter) → u.cpu ≡ w.cpu → at_halt (post_on k (m.frame u)) ≡ true
      → u ≡ w)
      → Step (snapshot m) (snapshot (turned n w g f.lock way)) w f.lock r r' x h h'
  turn_step_of was now word had has owed lone =
      world_step m (turned n w g f.lock way) w f g turn_moves f.lock (inl refl) (inl t.lock) was now
      (turn_holds word had has) owed lone

  pub turn_step : {r r' : Phase} {x : Fields} {h h' : Bool} → halts m.mode ≡ false → phase_of f ≡ r
      → phase_of g ≡ r' → n.word f.lock ≡ x → spins (m.held w f.lock) ≡ h → spins way ≡ h'
      → Step (snapshot m) (snapshot (turned n w g f.lock way)) w f.lock r r' x h h'
  turn_step awake was now word had has =
      turn_step_of was now word had has (λ on. absurd (grind (arith, awake, on)))
      (λ on. absurd (grind (arith, awake, on)))

  pub turn_stays : g.me ≡ f.me → is_slow g.place ≡ is_slow f.place
      → ((p : ℕ) → n.queued p ≡ m.queued p)
      → Stays (snapshot m) (snapshot (turned n w g f.lock way)) w
  turn_stays me slow queued =
      world_stays m (turned n w g f.lock way) w f g turn_moves (ap node_of me) slow queued

  pub turn_leaves : IsNewest m w → is_slow f.place ≡ true → is_slow g.place ≡ false
      → n.queued w.cpu + 1 ≡ m.queued w.cpu → ((p : ℕ) → p ≢ w.cpu → n.queued p ≡ m.queued p)
      → LeavesSlowPath (snapshot m) (snapshot (turned n w g f.lock way)) w
  turn_leaves newest was now here queued =
      world_leaves m (turned n w g f.lock way) w f g turn_moves newest was now here queued

  pub turn_enters : IsNewest m w → is_slow f.place ≡ false → is_slow g.place ≡ true
      → n.queued w.cpu ≡ m.queued w.cpu + 1 → ((p : ℕ) → p ≢ w.cpu → n.queued p ≡ m.queued p)
      → EntersSlowPath (snapshot m) (snapshot (turned n w g f.lock way)) w
  turn_enters newest was now here queued =
      world_enters m (turned n w g f.lock way) w f g turn_moves newest was now here queued

  -- the frame knows of its choice what it knew
  pub turn_knows : stage_of g ≡ stage_of f → g.second ≡ f.second → post_of g ≡ post_of f
      → n.entry f.lock ≡ m.entry f.lock → ((p : ℕ) → n.kicked p ≡ m.kicked p)
      → Knows (snapshot m) (snapshot (turned n w g f.lock way)) w f.lock
  turn_knows stage kept post entry kicked =
      world_knows m (turned n w g f.lock way) w f g turn_moves f.lock refl t.lock stage kept post
      entry kicked

  pub turn_stage : (snapshot (turned n w g f.lock way)).stage f.lock w ≡ stage_of g
  turn_stage = ap (stage_on f.lock) turn_moves.now ∙ stage_on-here f.lock g t.lock

  pub turn_post : (snapshot (turned n w g f.lock way)).post f.lock w ≡ post_of g
  turn_post = ap (post_on f.lock) turn_moves.now ∙ post_on-here f.lock g t.lock

  pub turn_kept : (snapshot (turned n w g f.lock way)).kept w ≡ g.second
  turn_kept = ap kept_in turn_moves.now

  pub turn_own : (snapshot (turned n w g f.lock way)).own w ≡ node_of g.me
  turn_own = ap own_in turn_moves.now

  pub turn_sound : {hs hs' : LockName → LockHistory} → IsSoundSpinWorld m hs → IsNewest m w
      → (at_halt (post_of f) ≡ true → at_halt (post_of g) ≡ true) → IsPlain n
      → RegistersFit m.mode g
      → SnapshotAgrees (snapshot (turned n w g f.lock way)) hs'
      → IsSoundSpinWorld (turned n w g f.lock way) hs'
  turn_sound ok newest still plain fit agrees =
      world_sound m (turned n w g f.lock way) w f g turn_moves ok t.mode t.turns (λ e. newest)
      (record { still = λ e h. still e; halted = t.halted })
      (record { byte = plain.byte; flag = plain.flag; runs = plain.runs }) fit agrees
