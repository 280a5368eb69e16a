-- A world in which nobody is there.
use Rattle.std.specs.Prelude.{ℕ, ◌<◌, None, false, List}
use Rattle.lk_names.specs.History.{no_history}
use Rattle.lk_names.specs.declared.names.Format.{Format}
use Rattle.lk_names.specs.declared.names.Kind.{Kind}
use Rattle.lk_names.specs.declared.names.Mode.{Mode}
use Rattle.lk_rows.specs.Machine.{rest_node, rest_word, rest_lock}
use Rattle.lk_law.specs.SoundWorld.{IsSoundWorld}
use Rattle.lk_law.specs.World.{World}

-- the world of this format, family, turns, threshold, sockets and kinds of locks in which all locks
-- and nodes are at rest and no processor has a frame
abbrev pub world_at_rest : Format → Mode → ℕ → ℕ → List ℕ → (ℕ → Kind) → World
world_at_rest format mode turns threshold sockets kind =
    record {
      format = format;
      mode = mode;
      turns = turns;
      threshold = threshold;
      sockets = sockets;
      word = λ l. rest_word;
      node = λ n. rest_node;
      frame = λ u. None;
      held = λ u l. None;
      queued = λ p. 0;
      entry = λ l. None;
      halted = λ p. false;
      kicked = λ p. false;
      rw = λ i. rest_lock.rw;
      kind = kind;
    }

-- Where a waiter spins for one turn at least, it is sound, and its histories are empty.
abbrev pub RestIsSound : Type 0
RestIsSound = (format : Format) (mode : Mode) (turns threshold : ℕ) (sockets : List ℕ)
    (kind : ℕ → Kind) → 0 < turns
    → IsSoundWorld (world_at_rest format mode turns threshold sockets kind) (λ l. no_history)
