-- The frame of a row: a world after its store, and then the frame moves and its waiter's hold of
-- the lock changes.
use Rattle.std.proofs.Common.{◌≡◌, ◌≢◌, inl, ℕ, Option, Some, true, refl, ◌⊎◌}
use Rattle.lk_law.proofs.Names.{Fields, NodeName, Manner, LockName, Waiter, Frame, Node, post_of}
use Rattle.lk_law.proofs.Names.{at_halt, put_frame, put_held, put_node, put_queued, put_word, World}
use Rattle.lk_law.proofs.common.Puts.{put_word-else}

-- the frame of w becomes g, and w holds the lock so
abbrev pub turned : World → Waiter → Frame → LockName → Option Manner → World
turned n w g l way = put_held (put_frame n w (Some g)) w l way

-- n is m after a store that is no frame's; g is to be the frame of w, at work on the same lock, and
-- w to hold that lock so
pub record Turn (m n : World) (w : Waiter) (f g : Frame) (way : Option Manner) : Type 0 where
  pub live : m.frame w ≡ Some f
  pub frames : n.frame ≡ m.frame
  pub holds : n.held ≡ m.held
  pub mode : n.mode ≡ m.mode
  pub turns : n.turns ≡ m.turns
  pub threshold : n.threshold ≡ m.threshold
  pub format : n.format ≡ m.format
  pub sockets : n.sockets ≡ m.sockets
  pub entries : (k : LockName) → k ≢ f.lock → n.entry k ≡ m.entry k
  pub halted : (p : ℕ) → n.halted p ≡ true
      → (m.halted p ≡ true) ⊎ ((p ≡ w.cpu) × (at_halt (post_of g) ≡ true))
  pub lock : g.lock ≡ f.lock
  pub words : (k : LockName) → k ≢ f.lock → n.word k ≡ m.word k

-- the stores of rows

module _ {m : World} {w : Waiter} {f g : Frame} {way : Option Manner} (live : m.frame w ≡ Some f)
    (lock : g.lock ≡ f.lock) where
  pub same_turn : Turn m m w f g way
  same_turn = record {
    live = live;
    frames = refl;
    holds = refl;
    mode = refl;
    turns = refl;
    threshold = refl;
    format = refl;
    sockets = refl;
    entries = λ k ne. refl;
    halted = λ p h. inl h;
    lock = lock;
    words = λ k ne. refl;
  }

  pub word_turn : (x : Fields) → Turn m (put_word m f.lock x) w f g way
  word_turn x =
      record {
        live = live;
        frames = refl;
        holds = refl;
        mode = refl;
        turns = refl;
        threshold = refl;
        format = refl;
        sockets = refl;
        entries = λ k ne. refl;
        halted = λ p h. inl h;
        lock = lock;
        words = λ k ne. put_word-else m.word f.lock k x ne;
      }

  pub node_turn : (n : NodeName) (x : Node) → Turn m (put_node m n x) w f g way
  node_turn n x =
      record {
        live = live;
        frames = refl;
        holds = refl;
        mode = refl;
        turns = refl;
        threshold = refl;
        format = refl;
        sockets = refl;
        entries = λ k ne. refl;
        halted = λ p h. inl h;
        lock = lock;
        words = λ k ne. refl;
      }

-- a store of a processor's count beside another
pub queued_turn : {m n : World} {w : Waiter} {f g : Frame} {way : Option Manner} (p i : ℕ)
    → Turn m n w f g way → Turn m (put_queued n p i) w f g way
queued_turn p i t =
    record {
      live = t.live;
      frames = t.frames;
      holds = t.holds;
      mode = t.mode;
      turns = t.turns;
      threshold = t.threshold;
      format = t.format;
      sockets = t.sockets;
      entries = t.entries;
      halted = t.halted;
      lock = t.lock;
      words = t.words;
    }
