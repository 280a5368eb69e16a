-- What the events so far say of halts and kicks, in the paravirtual lock.
use Rattle.std.specs.Prelude.{◌≡◌, ℕ, ◌+◌, ◌<◌, ◌==◌, ◌⊎◌, Some, Bool, true, false, List, [], ◌∷◌, if◌then◌else◌}
use Rattle.lk_names.specs.Names.{same_waiter}
use Rattle.lk_names.specs.declared.names.Waiter.{Waiter}
use Rattle.lk_names.specs.declared.events.Event.{Event}
use Rattle.lk_names.specs.declared.events.What.{What}
use Rattle.lk_names.specs.declared.events.What.TheVariants.{Release, Kick, Halt, Wake, Int, Nudge}

-- the waiter sleeps after the event, where it slept before it or not
abbrev pub sleeps_after : Waiter → Bool → Event → Bool
sleeps_after w b e = by_what e.what
  where
    by_what : What → Bool
    by_what (Halt l) = if same_waiter e.by w then true else b
    by_what (Wake l) = if e.by.cpu == w.cpu then false else b
    by_what Int = if e.by.cpu == w.cpu then false else b
    by_what Nudge = if e.by.cpu == w.cpu then false else b
    by_what _ = b

-- a halt of the waiter has no later wake, interrupt or nudge of its processor
abbrev pub sleeps_from : Waiter → Bool → List Event → Bool
sleeps_from w b [] = b
sleeps_from w b (e ∷ es) = sleeps_from w (sleeps_after w b e) es

-- the waiter sleeps after these events: the last of them that ends or begins a halt of it begins
-- one
abbrev pub sleeps : Waiter → List Event → Bool
sleeps w es = sleeps_from w false es

-- how many kicks of the processor a release says that it owes: one, where it names it
abbrev pub owes : ℕ → What → ℕ
owes p (Release l (Some q)) = if q == p then 1 else 0
owes p _ = 0

-- how many kicks of the processor an event is
abbrev pub kicks : ℕ → What → ℕ
kicks p (Kick q) = if q == p then 1 else 0
kicks p _ = 0

-- how many releases owe the processor a kick
abbrev pub owing : ℕ → List Event → ℕ
owing p [] = 0
owing p (e ∷ es) = owes p e.what + owing p es

-- how many kicks of the processor were made
abbrev pub kicks_made : ℕ → List Event → ℕ
kicks_made p [] = 0
kicks_made p (e ∷ es) = kicks p e.what + kicks_made p es

-- a kick of the processor is remembered after the event, where one was before it or not
abbrev pub kicked_after : ℕ → Bool → Event → Bool
kicked_after p b e = by_what e.what
  where
    by_what : What → Bool
    by_what (Kick q) = if q == p then true else b
    by_what (Wake l) = if e.by.cpu == p then false else b
    by_what _ = b

-- a kick of the processor has no later wake by it
abbrev pub is_kicked_from : ℕ → Bool → List Event → Bool
is_kicked_from p b [] = b
is_kicked_from p b (e ∷ es) = is_kicked_from p (kicked_after p b e) es

-- a kick of the processor is remembered after these events: it has not ended a halt yet
abbrev pub is_kicked : ℕ → List Event → Bool
is_kicked p es = is_kicked_from p false es

-- the processor is owed a kick: a release owes one that was not made, or one was made and has not ended a halt
abbrev pub IsOwed : ℕ → List Event → Type 0
IsOwed p es = (kicks_made p es < owing p es) ⊎ (is_kicked p es ≡ true)

-- who sleeps, and for each processor how many releases owe it a kick, how many kicks were made, and whether one is remembered
pub record KickState : Type 0 where
  pub asleep : Waiter → Bool
  pub owing : ℕ → ℕ
  pub made : ℕ → ℕ
  pub kicked : ℕ → Bool

-- what a history says of halts and kicks
abbrev pub kicks_of : List Event → KickState
kicks_of es = record { asleep = λ w. sleeps w es; owing = λ p. owing p es; made = λ p. kicks_made p es; kicked = λ p. is_kicked p es }

-- what is said of halts and kicks after one more event
abbrev pub kicks_told : KickState → Event → KickState
kicks_told s e =
    record {
      asleep = λ w. sleeps_after w (s.asleep w) e;
      owing = λ p. owes p e.what + s.owing p;
      made = λ p. kicks p e.what + s.made p;
      kicked = λ p. kicked_after p (s.kicked p) e;
    }
