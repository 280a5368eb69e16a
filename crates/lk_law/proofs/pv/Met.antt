-- The posts of a lock, with what a row of the paravirtual lock may rest on.
use Rattle.std.proofs.Common.{◌≡◌, ◌≢◌, Option, Some, true}
use Rattle.lk_law.proofs.Names.{Locked, Free, NodeName, Waiter, State, Post, PostsAgree, fronts}
use Rattle.lk_law.proofs.Names.{post_holds}

-- The posts of a lock as a row meets them: they agree, one holder stands among them at most, a
-- front leads the queue, and the lock of a holder is not free.
pub record Met (locked : Locked) (entry : Option NodeName) (front : Option Waiter)
    (post : Waiter → Post)
    (state : Waiter → State) (own : Waiter → NodeName) (owed : Waiter → Type 0) : Type 0 where
  pub posts : PostsAgree locked entry front post state own owed
  pub only : (u v : Waiter) → post_holds (post u) ≡ true → post_holds (post v) ≡ true → u ≡ v
  pub leads : (u : Waiter) → fronts (post u) ≡ true → front ≡ Some u
  pub taken : (u : Waiter) → post_holds (post u) ≡ true → locked ≢ Free
