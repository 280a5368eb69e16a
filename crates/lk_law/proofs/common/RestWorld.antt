-- A world in which nobody is there is sound in each family, with no history: so the laws speak of
-- something.
use Rattle.std.proofs.Common.{◌≡◌, ℕ, None, false, List, [], arith, refl, sym, subst}
use Rattle.lk_law.proofs.Names.{NodeName, LockHistory, no_history, Format, Kind, LockName, Mode}
use Rattle.lk_law.proofs.Names.{Waiter, rest_node, Node, Idle, QueueAgrees, IsSoundWorld}
use Rattle.lk_law.proofs.Names.{is_rw_name, spin_part, IsSoundSpinWorld, World}
use Rattle.lk_rows.specs.Machine.{rest_word}
use Rattle.lk_law.proofs.common.Puts.{if_cases}
use Rattle.lk_law.specs.Resting.{RestIsSound}

abbrev pub empty_world : Format → Mode → ℕ → List ℕ → (ℕ → Kind) → World
empty_world format mode t sockets kind =
    record {
      format = format;
      mode = mode;
      turns = 1;
      threshold = t;
      sockets = sockets;
      word = λ l. rest_word;
      node = λ n. rest_node;
      frame = λ u. None;
      held = λ u l. None;
      queued = λ p. 0;
      entry = λ l. None;
      halted = λ p. false;
      kicked = λ p. false;
      rw = λ i. record { readers = 0; waiting = false; writer = false };
      kind = kind;
    }

nobody : (own : Waiter → NodeName) (node : NodeName → Node)
    → QueueAgrees None (λ u. Idle) own node []
nobody own node =
    record {
      members = record {
        inside = λ i u h. cc h;
        place = λ u h. cc h;
        once = λ i j u h k. cc h;
      };
      ends = record {
        no_tail = λ h. refl;
        tail_is = λ i u h k. cc h;
        first = λ u h. cc h;
        behind = λ i u h. cc h;
      };
      links = record {
        linked = λ i u v h k p. cc h;
        linking = λ i u v n h k p. cc h;
        last = λ i u h k. cc h;
        hand = λ u n h. cc h;
        fresh = λ u h. cc h;
      };
    }

pub empty_sound : (format : Format) (mode : Mode) (t : ℕ) (sockets : List ℕ) (kind : ℕ → Kind)
    → IsSoundSpinWorld (empty_world format mode t sockets kind) (λ l. no_history)
empty_sound format mode t sockets kind =
    record {
      plain = record { byte = λ a l e. cc e; flag = λ e n k h. cc h; runs = λ n. omega arith };
      turning = omega arith;
      agrees = record {
        locks = λ l. record {
          holder = None;
          holders = refl;
          hold = record {
            free = λ e. refl;
            taken = λ e. refl;
            has = λ u h. cc h;
            had = λ u h. cc h;
            without = λ u h. cc h;
            releases = λ u h. cc h;
          };
          pend = record {
            set = λ u h. cc h;
            one = λ u v h k. cc h;
            someone = λ h. cc h;
            free = λ u h. cc h;
            apart = λ u v h k. cc h;
          };
          posts = λ e. record {
            posts = record {
              fit = λ u f a b. refl;
              bare_entry = λ u h. cc h;
              bare_slow = λ u h. cc h;
              bare_some = λ a h. cc h;
              full_entry = λ u h. cc h;
              full_slow = λ u h. cc h;
              full_some = λ n h. cc h;
              entered = λ n h. cc h;
              named = λ u n h. cc h;
              raw_slow = λ w h. cc h;
              raw_free = λ w u h. cc h;
              slow = λ u h. cc h;
              one = λ u h. cc h;
              called = λ w u h. cc h;
              dozed = λ w h. cc h;
              slept = λ w h. cc h;
              napped = λ w h. cc h;
            };
            suits = λ u. refl;
          };
          lists = record {
            flat = λ e. record { queue = nobody _ _; single = refl; unpassed = refl };
            cna = λ e. record {
              queue = nobody _ _;
              second_ok = record {
                waits = λ i u h. cc h;
                once = λ i j u h k. cc h;
                linked = λ i u v h k. cc h;
                last = λ i u h k. cc h;
              };
              moved = λ i u h. cc h;
              lead = λ w h. cc h;
              empty = λ h. refl;
              lengths = refl;
              calm = λ u h. refl;
            };
          };
        };
        nodes = record {
          counted = λ p. refl;
          slowly = λ l u h. cc h;
          below = λ l u h. cc h;
          placed = λ l u h. cc h;
        };
        alone = λ k l u ne h. refl;
        sleeper = λ e k l u z h. cc h;
      };
      registers = λ u f h. cc h;
      asleep = λ u f h. cc h;
      resting = λ p h. cc h;
    }

-- what is told of no lock is told of no spinlock
pub none_told : (kind : ℕ → Kind) → spin_part kind (λ l. no_history) ≡ (λ l. no_history)
none_told kind = (λ i l. each l i)
  where
    each : (l : LockName) → spin_part kind (λ l. no_history) l ≡ no_history
    each l =
        if_cases (λ (h : LockHistory). h ≡ no_history) (is_rw_name kind l) no_history no_history
        (λ e. refl) (λ e. refl)

-- and so it is with reader-writer locks, whichever locks are such
pub empty_is_sound : (format : Format) (mode : Mode) (t : ℕ) (sockets : List ℕ) (kind : ℕ → Kind)
    → IsSoundWorld (empty_world format mode t sockets kind) (λ l. no_history)
empty_is_sound format mode t sockets kind =
    record {
      spins =
          subst (IsSoundSpinWorld (empty_world format mode t sockets kind)) (sym (none_told kind))
          (empty_sound format mode t sockets kind);
      rws = λ i k. record {
        counted = [];
        readers = record {
          each = record { inside = λ j u h. cc h; place = λ u h. cc h; once = λ j q u h p. cc h };
          number = refl;
        };
        holds = record {
          each = record { inside = λ j u h. cc h; place = λ u h. cc h; once = λ j q u h p. cc h };
          unspun = λ u h. cc h;
          written = λ h. cc h;
          writes = λ u h. cc h;
          alone = λ u v m h q. cc h;
          without = λ u h. cc h;
          unreads = λ u h. cc h;
          unwrites = λ u h. cc h;
        };
        waiting = record { set = λ u h. cc h; someone = λ h. cc h; inner = λ u. refl };
        main = refl;
        second = refl;
        passes = refl;
      };
      fits = λ u f h. cc h;
    }

-- the same where a waiter spins for so many turns
pub rest_is_sound : RestIsSound
rest_is_sound format mode turns t sockets kind some =
    let e = empty_is_sound format mode t sockets kind in
    record {
      spins = record {
        plain = record { byte = e.spins.plain.byte; flag = e.spins.plain.flag; runs = e.spins.plain.runs };
        turning = some;
        agrees = e.spins.agrees;
        registers = e.spins.registers;
        asleep = e.spins.asleep;
        resting = e.spins.resting;
      };
      rws = e.rws;
      fits = e.fits;
    }
