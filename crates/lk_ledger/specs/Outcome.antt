-- What each answer of `ledger` means, by what is seen of its source and its sink before it and
-- after it.
use Rattle.std.specs.Prelude.{ℕ, List, Option}
use Rattle.std.specs.Io.KnownBytes.{Appends, IsAtEnd, Keeps}
use Rattle.lk_names.specs.declared.ledger.Entry.{Entry}
use Rattle.lk_names.specs.declared.ledger.Seen.{Seen}
use Rattle.lk_names.specs.Workload.{Workload}
use Rattle.lk_names.specs.Outcome.{IsOutcome}
use Rattle.lk_text.specs.Causes.{Rose}
use Rattle.lk_text.specs.Bytes.{AppendsFront}
use Rattle.lk_forms.specs.declared.answers.LineRefusal.{LineRefusal}
use Rattle.lk_forms.specs.declared.answers.LineRefusal.TheVariants.{Bad, Limit}
use Rattle.lk_stream.specs.Outside.{Outside}
use Rattle.lk_stream.specs.declared.answers.ReplayFault.{ReplayFault}
use Rattle.lk_stream.specs.declared.answers.ReplayFault.TheVariants as fault
use Rattle.lk_job_forms.specs.Texts.{outcome_text}
use Rattle.lk_workers.specs.Ended.{balances_in, journal_in, looks_in}
use Rattle.lk_workers.specs.UnderLock.{UnderLock}
use Rattle.lk_workers.specs.declared.running.Outcome.{Outcome}
use Rattle.lk_ledger.specs.Reading.{SaysJobs, IsRefused}

-- the text is a job file, of which this journal, these records and these balances may come
pub record MayCome (input : Option (List ℕ)) (journal : List Entry) (reads : List Seen)
    (balances : List ℕ) : Type 0 where
  pub work : Workload
  pub says : SaysJobs input work
  pub outcome : IsOutcome work journal reads balances

-- The text is a job file, and this is what its jobs left: an outcome of the file, whose every read and
-- write was made under its lock, as the looks of the workers tell.
pub record Left (input : Option (List ℕ)) (left : Outcome) : Type 0 where
  pub work : Workload
  pub says : SaysJobs input work
  pub outcome : IsOutcome work (journal_in left.closed) left.reads.items
      (balances_in left.closed)
  pub under_lock : UnderLock work left.reads.items (looks_in left.closed)

-- The text is a job file, and was read to its end. The whole text of an outcome was written that may
-- come of it.
pub record IsRun (old new : Outside) (journal : List Entry) (reads : List Seen)
    (balances : List ℕ) : Type 0 where
  pub comes : MayCome old.left journal reads balances
  pub all_read : IsAtEnd new.left
  pub written : Appends old.held new.held (outcome_text journal reads balances)

-- The text is a job file, and was read to its end; this is what its jobs left, and the whole text of it
-- was written.
pub record HasRun (old new : Outside) (left : Outcome) : Type 0 where
  pub came : Left old.left left
  pub all_read : IsAtEnd new.left
  pub written : Appends old.held new.held
      (outcome_text (journal_in left.closed) left.reads.items (balances_in left.closed))

-- the text is refused at this line, and nothing was written
pub record RefusedAt (old new : Outside) (line : ℕ) (why : LineRefusal) : Type 0 where
  pub refused : IsRefused old.left line why
  pub unwritten : Keeps old.held new.held

-- a read failed, and nothing was written
pub record CutByRead (old new : Outside) : Type 0 where
  pub rose : Rose old.reads new.reads
  pub unwritten : Keeps old.held new.held

-- The text is a job file, and was read to its end. A write failed, and a front of the text of an
-- outcome was written that may come of it.
pub record CutByWrite (old new : Outside) : Type 0 where
  pub rose : Rose old.writes new.writes
  pub journal : List Entry
  pub reads : List Seen
  pub balances : List ℕ
  pub comes : MayCome old.left journal reads balances
  pub all_read : IsAtEnd new.left
  pub written : AppendsFront old.held new.held (outcome_text journal reads balances)

-- the meaning of each fault
abbrev pub FaultMeans : Outside → Outside → ReplayFault → Type 0
FaultMeans old new (fault.BadInput line why) = RefusedAt old new line (Bad why)
FaultMeans old new (fault.Limit line which) = RefusedAt old new line (Limit which)
FaultMeans old new fault.ReadFault = CutByRead old new
FaultMeans old new fault.WriteFault = CutByWrite old new
FaultMeans old new fault.Memory = Keeps old.held new.held
