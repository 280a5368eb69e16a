-- What the queues of a lock, kept in memory, say of it, and what is true of them.
use Rattle.std.specs.Prelude.{◌≡◌, ℕ, ◌+◌, ◌*◌, ◌<◌, ◌≤◌, List, [], ◌++◌, length, count_by, All, map, take, drop, replicate}
use Rattle.std.proofs.Common.{suc}
use Rattle.std.specs.List.{IsDistinct}
use Rattle.lk_names.specs.Names.{same_waiter}
use Rattle.lk_names.specs.History.{LockHistory}
use Rattle.lk_names.specs.ListOf.{ListOf}
use Rattle.lk_names.specs.declared.holder.Holder.{Holder}
use Rattle.lk_names.specs.declared.names.Waiter.{Waiter}
use Rattle.lk_names.specs.declared.events.Lists.{Lists}

-- what the holders and the queues of a lock say of it
abbrev pub history_of_lists : List Holder → Lists → LockHistory
history_of_lists holders lists = record { holders = holders; main = lists.main.items; second = lists.second.items; passes = lists.passes.items }

-- the waiter's number among all, of which each processor has six
abbrev pub waiter_number : Waiter → ℕ
waiter_number w = w.cpu * 6 + w.ctx

-- the waiter is one of so many
abbrev pub IsOneOf : ℕ → Waiter → Type 0
IsOneOf count w = (w.ctx < 6) × (waiter_number w < count)

-- how often the waiter stands in the queues
abbrev pub standing : Waiter → Lists → ℕ
standing w lists = count_by (λ u. same_waiter u w) lists.main.items + count_by (λ u. same_waiter u w) lists.second.items

-- No waiter stands in the queues twice, each is one of as many as each list has room for, and each that stands aside has its
-- count of handoffs.
pub record IsInOrder (lists : Lists) : Type 0 where
  pub once : (w : Waiter) → standing w lists ≤ 1
  pub in_room : (w : Waiter) → 0 < standing w lists → IsOneOf lists.main.room w
  pub second_room : lists.second.room ≡ lists.main.room
  pub passes_room : lists.passes.room ≡ lists.main.room
  pub counted : length lists.second.items ≡ length lists.passes.items
  pub few : All (λ n. n ≤ 65535) lists.passes.items
  pub small : lists.main.room ≤ 6144

-- who the holders are, in their order
abbrev pub waiters_of : List Holder → List Waiter
waiters_of xs = map (λ x. x.waiter) xs

-- no waiter holds the lock twice, each is one of so many, and there is room for as many
pub record IsHeld (room : ℕ) (holders : ListOf Holder) : Type 0 where
  pub distinct : IsDistinct same_waiter (waiters_of holders.items)
  pub in_room : All (IsOneOf room) (waiters_of holders.items)
  pub as_many : holders.room ≡ room

-- the queues after the head handed off, with so many waiters moved aside
abbrev pub lists_passed : Lists → ℕ → Lists
lists_passed lists k =
    record {
      main = record lists.main { items = drop (suc k) lists.main.items };
      second = record lists.second { items = lists.second.items ++ take k (drop 1 lists.main.items) };
      passes = record lists.passes { items = map (λ n. suc n) (lists.passes.items ++ replicate k 0) };
    }

-- the queues after the second one returned
abbrev pub lists_rejoined : Lists → Lists
lists_rejoined lists =
    record {
      main = record lists.main { items = take 1 lists.main.items ++ (lists.second.items ++ drop 1 lists.main.items) };
      second = record lists.second { items = [] };
      passes = record lists.passes { items = [] };
    }
