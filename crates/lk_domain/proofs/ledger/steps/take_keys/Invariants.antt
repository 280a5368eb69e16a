use Rattle.std.proofs.Common.{◌≡◌, ◌+◌, ◌<◌, ℕ, Option, length, get_or}
use Rattle.std.specs.Slots.{slots_filled, slots_len}
use Rattle.lk_domain.proofs.Names.{slots_items, get_elem?, some, Key, homes_of, lodged}
use Rattle.lk_domain.specs.Ends.{AreTaken}
use Rattle.lk_domain.proofs.ledger.steps.take_keys.Given as goal

-- the slots before this one are taken, and the keys are those that lay in them
abbrev pub invariant-loop-home : goal.invariant-loop-home
invariant-loop-home l = record {
  slots : slots_len l.closed.slots ≡ 1 + homes_of l.plan;
  same : slots_items l.closed.slots ≡ slots_items l.fn.closed.slots;
  taken : AreTaken (1 + l.home) (slots_filled l.closed.slots);
  room : l.keys.room ≡ homes_of l.plan;
  many : length l.keys.items ≡ l.home;
  each : (i : ℕ) (d : Option Key) → i < l.home
      → get_elem? (slots_items l.fn.closed.slots) (1 + i) ≡ some (lodged (get_or l.keys.items i d));
}
