-- What a line of the schedule comes to.
use Rattle.std.proofs.Common.{Bool, true, false, ◌≡◌, ◌≢◌, ◌<◌, ◌++◌, ℕ, List, [], Option, Some, None, Result, Ok, Err, length, replicate, sym, ap, ◌∙◌, subst, refl, append-nil, if◌then◌else◌}
use Rattle.lk_text.specs.Bytes.{AppendsFront, Conveys}
use Rattle.lk_text.proofs.Conveyed.{Conveys-nothing}
use Rattle.lk_forms.specs.Operations.{and_then}
use Rattle.lk_forms.specs.Texts.{end_text}
use Rattle.lk_forms.specs.declared.answers.Fault.TheVariants.{NoEnd}
use Rattle.lk_forms.specs.declared.answers.LineRefusal.{LineRefusal}
use Rattle.lk_forms.specs.declared.answers.LineRefusal.TheVariants.{Bad, Limit, Memory}
use Rattle.lk_stream.specs.Line.{GoesOn, Fails, Refuses, Stays}
use Rattle.lk_osq.specs.Run.{Act}
use Rattle.lk_osq_forms.specs.declared.answers.Sched.{Sched}
use Rattle.lk_osq_forms.specs.declared.answers.Sched.TheVariants as sched
use Rattle.lk_osq_forms.specs.Lines.{schedule_of}
use Rattle.lk_osq_forms.specs.Grammar.{Said, Header, Schedule, act_of, scheduled, read, ending}
use Rattle.lk_osq_forms.specs.Reader.{said_by}
use Rattle.lk_osq_forms.specs.declared.header.OsqHeader.{OsqHeader}
use Rattle.lk_osq_forms.specs.Texts.{lines}
use Rattle.lk_osq_forms.specs.Trace.{osq_grammar, text_of, closing_of, lines_of_run}
use Rattle.lk_osq_replay.specs.Run.{occurrences_in, Makes, RanTo, RunShows}
use Rattle.lk_osq_replay.specs.Script.{StageShows, Begins}
use Rattle.lk_osq_replay.specs.declared.run.Run.{Run}
use Rattle.lk_osq_replay.specs.declared.script.Stage.TheVariants.{Reads, Runs}
use Rattle.lk_osq_replay.proofs.RunLemmas.{cpus_ran, lines_on, ran_on, AreInRange-replicate}

module _ (old : Run) (line : List ℕ) where
  -- what the line says to the run, the grammar says behind the lines before it
  said_alike : (rounds : List ℕ) (acts : List Act) (ended : Bool) → RanTo old rounds acts
      → old.ended ≡ ended → (x : Result Sched LineRefusal)
      → x ≡ schedule_of (length old.machine.cpus) old.acts old.ended line
      → schedule_of (length rounds) (length acts) ended line ≡ x
  said_alike rounds acts ended ran end x is =
      ap (λ n. schedule_of n (length acts) ended line) (sym (cpus_ran old rounds acts ran))
      ∙ ap (λ n. schedule_of (length old.machine.cpus) n ended line) (sym ran.acts_made)
      ∙ ap (λ b. schedule_of (length old.machine.cpus) old.acts b line) (sym end) ∙ sym is

  pub refuses : (said : Said) → RunShows old said → (why : LineRefusal)
      → Err why ≡ schedule_of (length old.machine.cpus) old.acts old.ended line
      → ◌≢◌ {A = Result Sched LineRefusal} (Err why) (Err Memory)
      → Refuses osq_grammar said line why
  refuses (Header rank rounds) s why is some = absurd s
  refuses (Schedule rounds acts ended) s (Bad why) is some =
      ap (λ x. and_then x (λ said. Ok (scheduled rounds acts ended said)))
      (said_alike rounds acts ended s.0 s.1 (Err (Bad why)) is)
  refuses (Schedule rounds acts ended) s (Limit why) is some =
      ap (λ x. and_then x (λ said. Ok (scheduled rounds acts ended said)))
      (said_alike rounds acts ended s.0 s.1 (Err (Limit why)) is)
  refuses (Schedule rounds acts ended) s Memory is some = absurd (some refl)

  module _ (held : Option (List ℕ)) (waited : List ℕ) where
    pub goes_blank : (said : Said) → RunShows old said
        → Ok sched.Blank ≡ schedule_of (length old.machine.cpus) old.acts old.ended line
        → GoesOn osq_grammar (RunShows old) said line held held waited waited
    goes_blank (Header rank rounds) s is = absurd s
    goes_blank (Schedule rounds acts ended) s is = record {
      said = Schedule rounds (acts ++ []) ended;
      reads = ap (λ x. and_then x (λ said. Ok (scheduled rounds acts ended said)))
          (said_alike rounds acts ended s.0 s.1 (Ok sched.Blank) is);
      shown = (subst (RanTo old rounds) (sym (append-nil acts)) s.0, s.1);
      more = [];
      text = ap (lines_of_run rounds) (append-nil acts) ∙ sym
          (append-nil (lines_of_run rounds acts));
      written = Conveys-nothing held waited;
    }

    pub goes_end : (new : Run) (said : Said) → RunShows old said
        → Ok sched.End ≡ schedule_of (length old.machine.cpus) old.acts old.ended line
        → new.machine ≡ old.machine → new.acts ≡ old.acts → new.ended ≡ true
        → GoesOn osq_grammar (RunShows new) said line held held waited waited
    goes_end new (Header rank rounds) s is machine made end = absurd s
    goes_end new (Schedule rounds acts ended) s is machine made end = record {
      said = Schedule rounds acts true;
      reads = ap (λ x. and_then x (λ said. Ok (scheduled rounds acts ended said)))
          (said_alike rounds acts ended s.0 s.1 (Ok sched.End) is);
      shown = (
        record {
          machine = machine ∙ s.0.machine;
          acts_made = made ∙ s.0.acts_made;
          range =
              s.0.range;
        },
        end,
      );
      more = [];
      text = sym (append-nil (lines_of_run rounds acts));
      written = Conveys-nothing held waited;
    }

  module _ (held held' : Option (List ℕ)) (waited waits : List ℕ) (give : Bool) (p times : ℕ)
      (below : p < length old.machine.cpus)
      (is : Ok (sched.Run give p times) ≡ schedule_of
      (length old.machine.cpus) old.acts old.ended line) where
    pub goes_acts : (new : Run) (said : Said) → RunShows old said
        → Makes old new (replicate times (act_of give p))
        → Conveys held held' waited
        (lines (occurrences_in old (replicate times (act_of give p)))) waits
        → GoesOn osq_grammar (RunShows new) said line held held' waited waits
    goes_acts new (Header rank rounds) s made conveyed = absurd s
    goes_acts new (Schedule rounds acts ended) s made conveyed =
        let range =
        AreInRange-replicate (length rounds) times give p
        (subst (λ n. p < n) (cpus_ran old rounds acts s.0) below) in record {
          said = Schedule rounds (acts ++ replicate times (act_of give p)) ended;
          reads = ap (λ x. and_then x (λ said. Ok (scheduled rounds acts ended said)))
              (said_alike rounds acts ended s.0 s.1 (Ok (sched.Run give p times)) is);
          shown = (
            ran_on old rounds acts
                (replicate times (act_of give p)) s.0 new made range,
            made.ended ∙ s.1,
          );
          more = lines (occurrences_in old (replicate times (act_of give p)));
          text = lines_on old rounds acts (replicate times (act_of give p)) s.0;
          written = conveyed;
        }

    pub fails_acts : (said : Said) → RunShows old said
        → AppendsFront held held'
        (waited ++ lines (occurrences_in old (replicate times (act_of give p))))
        → Fails osq_grammar said line held held' waited
    fails_acts (Header rank rounds) s cut = absurd s
    fails_acts (Schedule rounds acts ended) s cut = record {
      said = Schedule rounds (acts ++ replicate times (act_of give p)) ended;
      reads = ap (λ x. and_then x (λ said. Ok (scheduled rounds acts ended said)))
          (said_alike rounds acts ended s.0 s.1 (Ok (sched.Run give p times)) is);
      more = lines (occurrences_in old (replicate times (act_of give p)));
      text = lines_on old rounds acts (replicate times (act_of give p)) s.0;
      written = cut;
    }

-- ---- a line of the header

module _ (old new : OsqHeader) (line : List ℕ) (held : Option (List ℕ)) (waited : List ℕ)
    (said : Said) (so : said_by old ≡ said) where
  read_as : (x : Result Said LineRefusal) → read (said_by old) line ≡ x → read said line ≡ x
  read_as x is = ap (λ s. read s line) (sym so) ∙ is

  silent : text_of said ≡ []
  silent = ap text_of (sym so)

  pub header_goes : read (said_by old) line ≡ Ok (said_by new)
      → GoesOn osq_grammar (StageShows (Reads new)) said line held held waited waited
  header_goes is = record {
    said = said_by new;
    reads = read_as (Ok (said_by new)) is;
    shown = refl;
    more = [];
    text = sym (append-nil (text_of said) ∙ silent);
    written = Conveys-nothing held waited;
  }

  pub header_begins : (run : Run) → Begins old new line (Ok (Some run))
      → GoesOn osq_grammar (StageShows (Runs run)) said line held held waited waited
  header_begins run is = record {
    said = Schedule is.0 [] false;
    reads = read_as (Ok (Schedule is.0 [] false)) is.1;
    shown = is.2;
    more = [];
    text = sym (append-nil (text_of said) ∙ silent);
    written = Conveys-nothing held waited;
  }

  pub header_stays : (why : LineRefusal) → Begins old new line (Err why)
      → Stays osq_grammar said line why held held waited waited
  header_stays (Bad why) is =
      record { refuses = read_as (Err (Bad why)) is; held_is = refl; waits_is = refl }
  header_stays (Limit why) is =
      record { refuses = read_as (Err (Limit why)) is; held_is = refl; waits_is = refl }
  header_stays Memory is = record { refuses = silent; held_is = refl; waits_is = refl }

pub begins_not : (old new : OsqHeader) (line : List ℕ) (why : LineRefusal)
    → read (said_by old) line ≡ Err why → Begins old new line (Err why)
begins_not old new line (Bad why) is = is
begins_not old new line (Limit why) is = is
begins_not old new line Memory is = tt

-- ---- the end

pub run_ends : (run : Run) (said : Said) → RunShows run said → (b : Bool) → run.ended ≡ b
    → ending said ≡ (if b then None else Some NoEnd)
run_ends run (Header rank rounds) s b is = absurd s
run_ends run (Schedule rounds acts ended) s b is = by_end ended b (sym s.1 ∙ is)
  where
    by_end : (e b : Bool) → e ≡ b
        → ending (Schedule rounds acts e) ≡ (if b then None else Some NoEnd)
    by_end true true is = refl
    by_end false false is = refl
    by_end true false is = cc
    by_end false true is = cc

-- what closes the lines of a run
pub run_closes : (run : Run) (said : Said) → RunShows run said → end_text run.acts ≡ closing_of said
run_closes run (Header rank rounds) s = absurd s
run_closes run (Schedule rounds acts ended) s = ap end_text s.0.acts_made
