-- What follows from how the words were read, and from what they came to.
use Rattle.std.proofs.Common.{◌≡◌, ◌↔◌, ◌⊎◌, true, false, ℕ, List, Option, Some, None, Result, Ok, Err, IsErr, refl, sym, ◌∙◌, subst, inl, inr}
use Rattle.std.specs.declared.vec.IntoIter.{IntoIter}
use Rattle.std.specs.declared.io.Error.{Error}
use Rattle.std.proofs.KnownBytes.{Keeps-refl}
use Rattle.lk_stream.specs.Outside.{Outside}
use Rattle.lk_replay.specs.Outcome.{Unwritten}
use Rattle.lk_gen.specs.Generated.{generated}
use Rattle.lk_words.specs.declared.asked.Reading.{Reading}
use Rattle.lk_words.specs.declared.asked.Reading.TheVariants.{Replay, Osq, Audit, Ledger, Gen, Load}
use Rattle.lk_command.specs.Args.{AreRead, Asks, AsksNothing, FoundNoMemory}
use Rattle.lk_command.specs.OsqRuns.{OsqRuns}
use Rattle.lk_command.specs.Audits.{Audits}
use Rattle.lk_command.specs.Ledgers.{Ledgers}
use Rattle.lk_command.specs.Means.{CameTo, Does, Replays, Writes, closing_of}
use Rattle.lk_command.specs.declared.status.Status.{Status}
use Rattle.lk_command.specs.declared.status.Status.TheVariants as status

module _ {X Z : Type 0} (bytes : X → List ℕ) where
  -- words are read in one way
  one_reading : (args : Result (IntoIter X Z) Error) (r : Option Reading) (q : Reading) → AreRead r bytes args → Asks q bytes args → r ≡ Some q
  one_reading (Ok words) r q read asks = sym read ∙ asks
  one_reading (Err why) r q read asks = absurd read

  -- words that were read needed no more memory
  pub had_memory : (args : Result (IntoIter X Z) Error) (r : Option Reading) → AreRead r bytes args → ¬ FoundNoMemory args
  had_memory (Ok words) r read no_memory = no_memory
  had_memory (Err why) r read no_memory = read

  -- words that can't be read ask for nothing
  pub nothing_unread : (args : Result (IntoIter X Z) Error) → ((r : Option Reading) → ¬ AreRead r bytes args) → AsksNothing (λ q. Asks q bytes args)
  nothing_unread args unread = record {
    no_replay = unread (Some Replay);
    no_osq = unread (Some Osq);
    no_audit = unread (Some Audit);
    no_ledger = unread (Some Ledger);
    no_gen = λ start. unread (Some (Gen start));
    no_load = λ start. unread (Some (Load start));
  }

  module _ (args : Result (IntoIter X Z) Error) (same_source same_sink : Type 0) (old new : Outside) (came : Status) where
    -- words with another reading ask for nothing
    nothing : (r : Option Reading) → AreRead r bytes args → ¬ (r ≡ Some Replay) → ¬ (r ≡ Some Osq) → ¬ (r ≡ Some Audit) → ¬ (r ≡ Some Ledger) → ((start : ℕ) → ¬ (r ≡ Some (Gen start))) → ((start : ℕ) → ¬ (r ≡ Some (Load start)))
        → AsksNothing (λ q. Asks q bytes args)
    nothing r read replay osq audit ledger gens loads = record {
      no_replay = λ asks. replay (one_reading args r Replay read asks);
      no_osq = λ asks. osq (one_reading args r Osq read asks);
      no_audit = λ asks. audit (one_reading args r Audit read asks);
      no_ledger = λ asks. ledger (one_reading args r Ledger read asks);
      no_gen = λ start asks. gens start (one_reading args r (Gen start) read asks);
      no_load = λ start asks. loads start (one_reading args r (Load start) read asks);
    }

    pub replays : (r : Option Reading) → AreRead r bytes args → CameTo r same_source same_sink old new came → Asks Replay bytes args → Replays old new came
    replays r read done asks = subst (λ q. CameTo q same_source same_sink old new came) (one_reading args r Replay read asks) done

    pub runs_audit : (r : Option Reading) → AreRead r bytes args → CameTo r same_source same_sink old new came → Asks Audit bytes args → Audits old new came
    runs_audit r read done asks = subst (λ q. CameTo q same_source same_sink old new came) (one_reading args r Audit read asks) done

    pub runs_ledger : (r : Option Reading) → AreRead r bytes args → CameTo r same_source same_sink old new came → Asks Ledger bytes args → Ledgers old new came
    runs_ledger r read done asks = subst (λ q. CameTo q same_source same_sink old new came) (one_reading args r Ledger read asks) done

    pub runs_osq : (r : Option Reading) → AreRead r bytes args → CameTo r same_source same_sink old new came → Asks Osq bytes args → OsqRuns old new came
    runs_osq r read done asks = subst (λ q. CameTo q same_source same_sink old new came) (one_reading args r Osq read asks) done

    pub writes_gen : (r : Option Reading) → AreRead r bytes args → CameTo r same_source same_sink old new came → (start : ℕ) → Asks (Gen start) bytes args
        → same_source × Writes old new (generated start) came
    writes_gen r read done start asks = subst (λ q. CameTo q same_source same_sink old new came) (one_reading args r (Gen start) read asks) done

    pub writes_load : (r : Option Reading) → AreRead r bytes args → CameTo r same_source same_sink old new came → (start : ℕ) → Asks (Load start) bytes args
        → same_source × Writes old new (closing_of start) came
    writes_load r read done start asks = subst (λ q. CameTo q same_source same_sink old new came) (one_reading args r (Load start) read asks) done

    pub untouched : (r : Option Reading) → AreRead r bytes args → CameTo r same_source same_sink old new came → AsksNothing (λ q. Asks q bytes args)
        → same_source × same_sink
    untouched None read done asks_nothing = (done.1, done.2)
    untouched (Some Replay) read done asks_nothing = absurd (asks_nothing.no_replay read)
    untouched (Some Osq) read done asks_nothing = absurd (asks_nothing.no_osq read)
    untouched (Some Audit) read done asks_nothing = absurd (asks_nothing.no_audit read)
    untouched (Some Ledger) read done asks_nothing = absurd (asks_nothing.no_ledger read)
    untouched (Some (Gen start)) read done asks_nothing = absurd (asks_nothing.no_gen start read)
    untouched (Some (Load start)) read done asks_nothing = absurd (asks_nothing.no_load start read)

    -- only words that ask for nothing come to the usage line
    usage_only : (r : Option Reading) → AreRead r bytes args → CameTo r same_source same_sink old new came → came ≡ status.Usage → AsksNothing (λ q. Asks q bytes args)
    usage_only None read done is = nothing None read (λ e. cc) (λ e. cc) (λ e. cc) (λ e. cc) (λ start e. cc) (λ start e. cc)
    usage_only (Some Replay) read done is = absurd (rw is at done.means)
    usage_only (Some Osq) read done is = absurd (rw is at done.means)
    usage_only (Some Audit) read done is = absurd (rw is at done.means)
    usage_only (Some Ledger) read done is = absurd (rw is at done.means)
    usage_only (Some (Gen start)) read done is = absurd (rw is at done.1)
    usage_only (Some (Load start)) read done is = absurd (rw is at done.1)

    -- and they do
    usage_comes : (r : Option Reading) → AreRead r bytes args → CameTo r same_source same_sink old new came → AsksNothing (λ q. Asks q bytes args) → came ≡ status.Usage
    usage_comes None read done asks_nothing = done.0
    usage_comes (Some Replay) read done asks_nothing = absurd (asks_nothing.no_replay read)
    usage_comes (Some Osq) read done asks_nothing = absurd (asks_nothing.no_osq read)
    usage_comes (Some Audit) read done asks_nothing = absurd (asks_nothing.no_audit read)
    usage_comes (Some Ledger) read done asks_nothing = absurd (asks_nothing.no_ledger read)
    usage_comes (Some (Gen start)) read done asks_nothing = absurd (asks_nothing.no_gen start read)
    usage_comes (Some (Load start)) read done asks_nothing = absurd (asks_nothing.no_load start read)

    pub usage : (r : Option Reading) → AreRead r bytes args → CameTo r same_source same_sink old new came
        → (came ≡ status.Usage) ↔ (AsksNothing (λ q. Asks q bytes args) × ¬ FoundNoMemory args × ¬ (came ≡ status.Memory))
    usage r read done =
        (λ is. (usage_only r read done is, had_memory args r read, λ memory. let same : status.Usage ≡ status.Memory = sym is ∙ memory in cc), λ all. usage_comes r read done all.0)

-- words for which there was no memory, or that can't be read

unwritten : (at : Outside) → Unwritten at at
unwritten at = record { not_written = Keeps-refl at.held }

not_replayed : (at : Outside) → Replays at at status.Memory
not_replayed at = record { means = unwritten at; complete = λ bytes setup acts left says reads writes. inr refl; exact = λ bytes line why setup acts left says reads writes. inr refl }

osq_not_run : (at : Outside) → OsqRuns at at status.Memory
osq_not_run at = record { means = Keeps-refl at.held; complete = λ bytes said left says reads writes. inr refl; exact = λ bytes line why said left says reads writes. inr refl }

not_audited : (at : Outside) → Audits at at status.Memory
not_audited at = record {
  means = Keeps-refl at.held;
  complete = λ bytes said left says lawful reads writes. inr refl;
  breaks = λ bytes line breach left is reads writes. inr refl;
  exact = λ bytes line why said left says lawful reads writes. inr refl;
}

no_jobs_run : (at : Outside) → Ledgers at at status.Memory
no_jobs_run at = record { means = Keeps-refl at.held; complete = λ bytes work left says reads writes. inr refl; exact = λ bytes line why left says reads writes. inr refl }

module _ {X Z : Type 0} (bytes : X → List ℕ) (same_source same_sink : Type 0) (at : Outside) (source : same_source) (sink : same_sink) where
  no_memory_left : (args : Result (IntoIter X Z) Error) (came : Status) → came ≡ status.Memory
      → Does (λ q. Asks q bytes args) (FoundNoMemory args) same_source same_sink at at came
  no_memory_left args came is = record {
    usage = (λ usage. absurd (let same : status.Usage ≡ status.Memory = sym usage ∙ is in cc), λ all. absurd (all.2 is));
    unread = λ none. is;
    untouched = λ nothing. (source, sink);
    memory = λ memory. sink;
    replays = λ asks. rw is (not_replayed at);
    osq = λ asks. rw is (osq_not_run at);
    audits = λ asks. rw is (not_audited at);
    ledger = λ asks. rw is (no_jobs_run at);
    generates = λ start asks. (source, rw is (unwritten at));
    loads = λ start asks. (source, rw is (unwritten at));
  }

  no_text : (args : Result (IntoIter X Z) Error) (came : Status) → ((r : Option Reading) → ¬ AreRead r bytes args) → came ≡ status.Usage → ¬ FoundNoMemory args
      → Does (λ q. Asks q bytes args) (FoundNoMemory args) same_source same_sink at at came
  no_text args came unread is room = record {
    usage = (λ usage. (nothing_unread bytes args unread, room, λ memory. let same : status.Usage ≡ status.Memory = sym is ∙ memory in cc), λ all. is);
    unread = λ none. absurd (room none);
    untouched = λ nothing. (source, sink);
    memory = λ memory. sink;
    replays = λ asks. absurd (unread (Some Replay) asks);
    osq = λ asks. absurd (unread (Some Osq) asks);
    audits = λ asks. absurd (unread (Some Audit) asks);
    ledger = λ asks. absurd (unread (Some Ledger) asks);
    generates = λ start asks. absurd (unread (Some (Gen start)) asks);
    loads = λ start asks. absurd (unread (Some (Load start)) asks);
  }

  pub does_unread : (args : Result (IntoIter X Z) Error) (came : Status) → (came ≡ status.Memory) ⊎ ((came ≡ status.Usage) × IsErr args × ¬ FoundNoMemory args)
      → Does (λ q. Asks q bytes args) (FoundNoMemory args) same_source same_sink at at came
  does_unread args came (inl is) = no_memory_left args came is
  does_unread (Ok words) came (inr why) = let no : false ≡ true = why.1 in cc
  does_unread (Err error) came (inr why) = no_text (Err error) came (λ r read. read) why.0 why.2
