-- A hold of lock 0.
use Rattle.std.specs.Prelude.{◌≡◌, ℕ, List, [], ◌∷◌, Option}
use Rattle.lk_names.specs.declared.holder.Manner.{Manner}
use Rattle.lk_rows.specs.declared.setup.Verb.{Verb}
use Rattle.lk_domain.specs.Calls.{Calls, Mark, hold, lock_name}
use Rattle.lk_domain.specs.Ledgers.{new_look, opened}
use Rattle.lk_domain.specs.Seats.{calls_of, view_of}
use Rattle.lk_domain.specs.declared.cpu.Cpu.{Cpu}
use Rattle.lk_domain.specs.declared.view.View.{View}
use Rattle.lk_run.specs.Polls.{IsPolled}
use Rattle.lk_guard.specs.Guards.{Guard, IsTaken}

-- the processor waits for nothing and holds lock 0 alone, in this manner
pub record HoldsFirst (m : Manner) (c : Calls) : Type 0 where
  pub nth : ℕ
  pub frames : c.frames ≡ []
  pub holds : c.holds ≡ hold 0 (lock_name 0) m nth ∷ []

abbrev pub IsHolding : Manner → Cpu → Type 0
IsHolding m cpu = HoldsFirst m (calls_of cpu)

-- The processor p has begun a look with this trail, in a hold that it took so; while it waited what
-- interrupts it was polled, which told the first number before and the second one after.
pub record Begins (h : Guard) (p : ℕ) (v : Verb) (m : Manner) (old new : View) (before after : Option ℕ)
    : Type 0 where
  pub trail : List Mark
  pub holding : HoldsFirst m new.calls
  pub taken : IsTaken h p v m (new_look m trail)
  pub ledger : new.ledger ≡ opened old.ledger m trail
  pub polled : IsPolled trail before after

abbrev pub HasBegun : Guard → Verb → Manner → Cpu → Cpu → Option ℕ → Option ℕ → Type 0
HasBegun h v m old new before after = Begins h new.number v m (view_of old) (view_of new) before after
