-- When an answer that speaks of a fault has a cause: a count of faults that rose.
use Rattle.std.specs.Prelude.{ℕ, ◌+◌, ◌-◌, ◌^◌, ◌≤◌, ◌<◌, min, Result, Ok, Err, OnErr}

-- the count is greater than before, or stands at the last value of a `u64`
abbrev pub Rose : ℕ → ℕ → Type 0
Rose before now = min (before + 1) (2 ^ 64 - 1) ≤ now

-- the count did not fall, and an `Err` comes only where it rose
pub record HasCause {T E : Type 0} (before now : ℕ) (result : Result T E) : Type 0 where
  pub later : before ≤ now
  pub failed : OnErr result (Rose before now)

-- Some bytes were taken, and by no more than these there are fewer that are taken for certain. `sure` and `sure_after` are how many
-- bytes more the sink takes for certain, before the call and after it.
abbrev pub TakesSurely : {E : Type 0} → ℕ → ℕ → Result ℕ E → Type 0
TakesSurely sure sure_after (Ok count) = (0 < count) × (sure ≤ sure_after + count)
TakesSurely sure sure_after (Err why) = ⊥

-- a text of this size is put without fail where the sink takes as many bytes for certain, and then by no more there are fewer
abbrev pub PutsSurely : {T E : Type 0} → ℕ → ℕ → ℕ → Result T E → Type 0
PutsSurely sure sure_after size (Ok t) = size ≤ sure → sure ≤ sure_after + size
PutsSurely sure sure_after size (Err why) = size ≤ sure → ⊥
