-- What calls that read words answer, and what they do to a setup.
use Rattle.std.specs.Prelude.{◌≡◌, ◌⊎◌, ◌≤◌, Result, Ok, Err, All, length}
use Rattle.lk_rows.specs.declared.setup.Setup.{Setup}
use Rattle.lk_forms.specs.declared.limits.TheConstants.{MAX_HANDLERS, MAX_LOCKS, MAX_WIDE_CPUS}
use Rattle.lk_forms.specs.Grammar.{cpus_of}
use Rattle.lk_forms.specs.declared.answers.LineRefusal.{LineRefusal}
use Rattle.lk_forms.specs.declared.answers.LineRefusal.TheVariants.{Memory}

-- Where `said` is what has to come of it: it came, or the refusal was answered, or there was no memory; and without it nothing
-- changed.
abbrev pub Agrees : {A : Type 0} → Result Setup LineRefusal → Setup → Setup → Result A LineRefusal → Type 0
Agrees said old new (Ok a) = said ≡ Ok new
Agrees said old new (Err why) = (new ≡ old) × ((said ≡ Err why) ⊎ (why ≡ Memory))

-- what is said, as `view` shows it, is answered; or why it is refused
abbrev pub IsAnswer : {A B : Type 0} → Result A LineRefusal → (B → A) → Result B LineRefusal → Type 0
IsAnswer said view (Ok b) = said ≡ Ok (view b)
IsAnswer said view (Err why) = said ≡ Err why

-- a setup of at least one processor, with a program for each and not too many processors and locks, and room for more of each
pub record IsRoomy (s : Setup) : Type 0 where
  pub some : 1 ≤ cpus_of s
  pub few : cpus_of s ≤ MAX_WIDE_CPUS
  pub locks : length s.locks.items ≤ MAX_LOCKS
  pub lock_room : s.locks.room ≡ MAX_LOCKS
  pub progs : length s.progs.items ≡ cpus_of s
  pub irqs : length s.irqs.items ≡ cpus_of s
  pub irq_rooms : All (λ handlers. handlers.room ≡ MAX_HANDLERS) s.irqs.items
