-- The homes of a lock: its own, and that of its copy for each processor.
use Rattle.std.proofs.Common.{◌≡◌, inl, inr, ℕ, ◌+◌, ◌<◌, ap, ◌∙◌}
use Rattle.std.proofs.{Math.Nat.mod-eq_of_lt, lemmas.Nat.{mod-mul-add, div-mul-add}}
use Rattle.lk_domain.proofs.Names.{hold_in, locks_of, IsHomeAt, lock_of, Plan, View}
use Rattle.lk_domain.specs.Values.{IsHomeWith, MayCopy, copy_at}

-- the lock of its own home, and of the home of a copy

pub own_lock : (k : Plan) (l : ℕ) → l < locks_of k → lock_of k l ≡ l
own_lock k l low = mod-eq_of_lt low

pub copy_lock : (k : Plan) (l p : ℕ) → l < locks_of k → lock_of k (copy_at k l p) ≡ l
copy_lock k l p low = mod-mul-add (1 + p) (locks_of k) l low

-- who holds the lock alone may take its own value out
pub alone_at : (k : Plan) (l : ℕ) (v : View) → l < locks_of k → IsHomeWith l v.calls.holds
    → IsHomeAt k l v.who.number v.calls.holds
alone_at k l v low home =
    record {
      manner = home.manner;
      held = ap (hold_in v.calls.holds) (own_lock k l low) ∙ home.held;
      may = inl home.sole;
    }

-- who may copy for a processor may take the copy out
pub copy_held : (k : Plan) (l p : ℕ) (v : View) → l < locks_of k → MayCopy l p v
    → IsHomeAt k (copy_at k l p) v.who.number v.calls.holds
copy_held k l p v low home =
    record {
      manner = home.manner;
      held = ap (hold_in v.calls.holds) (copy_lock k l p low) ∙ home.held;
      may = elim home.may [
        | inl sole ↦ inl sole
        | inr own ↦ inr (p, own, div-mul-add (1 + p) (locks_of k) l low)
      ];
    }
