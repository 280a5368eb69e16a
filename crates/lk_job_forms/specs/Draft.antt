-- What a draft says, and what a line makes of it.
use Rattle.std.specs.Prelude.{◌≡◌, ◌⊎◌, Result, Ok, Err, map}
use Rattle.lk_names.specs.Workload.{Workload}
use Rattle.lk_forms.specs.declared.answers.LineRefusal.{LineRefusal}
use Rattle.lk_forms.specs.declared.answers.LineRefusal.TheVariants.{Memory}
use Rattle.lk_job_forms.specs.declared.draft.Draft.{Draft}

-- what is said by a draft
abbrev pub work_of : Draft → Workload
work_of draft =
    record {
      format = draft.format;
      mode = draft.mode;
      guard = draft.guard;
      sockets = draft.sockets.items;
      threshold = draft.threshold;
      balances = draft.balances.items;
      jobs = map (λ jobs. jobs.items) draft.jobs.items;
    }

-- Where `said` is what has to come of a line: the draft says it; or the refusal was answered, or
-- there was no memory, and the draft says what it did.
abbrev pub Makes : {A : Type 0} → Result Workload LineRefusal → Draft → Draft → Result A LineRefusal
    → Type 0
Makes said old new (Ok a) = said ≡ Ok (work_of new)
Makes said old new (Err why) = (work_of new ≡ work_of old) × ((said ≡ Err why) ⊎ (why ≡ Memory))
