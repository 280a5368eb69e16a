-- What one line more of a schedule comes to.
use Rattle.std.proofs.Common.{Bool, true, false, ◌≡◌, ◌≢◌, ◌+◌, ◌++◌, ◌||◌, ℕ, List, [], ◌∷◌, Option, Some, None, Result, Ok, Err, length, sym, ap, ◌∙◌, subst, refl, arith, append-nil, append_assoc, is_some, nat_le, unwrap_or, if◌then◌else◌}
use Rattle.std.proofs.lemmas.List.{length-append}
use Rattle.std.specs.Io.KnownBytes.{IsAtEnd}
use Rattle.lk_names.specs.declared.events.Act.{Act}
use Rattle.lk_text.specs.Bytes.{AppendsFront, Conveys}
use Rattle.lk_text.specs.Block.{waiting}
use Rattle.lk_text.specs.Feeds.{pieces}
use Rattle.lk_text.specs.Reader.{unread, pending, lines_given, is_ended, GaveLine, MetEnd, GaveFault}
use Rattle.lk_text.specs.declared.block.Block.{Block}
use Rattle.lk_text.specs.declared.reader.LineReader.{LineReader}
use Rattle.lk_text.specs.declared.reader.LineFault.{LineFault}
use Rattle.lk_text.specs.declared.reader.LineFault.TheVariants.{ReadFault, TooLong, TooMuch}
use Rattle.lk_text.proofs.Conveyed.{Conveys-trans, front_of_more, front_of_conveyed, front_of_rest}
use Rattle.lk_rows.specs.declared.setup.Setup.{Setup}
use Rattle.lk_rows.specs.Run.{at_rest, history_from, machine_after, events_of}
use Rattle.lk_law.specs.Sound.{IsSound}
use Rattle.lk_law.specs.MachineLaws.{ShowsLawful}
use Rattle.lk_forms.specs.Grammar.{Reading, read, scheduled, cpus_of, has_go, has_end, ending}
use Rattle.lk_forms.specs.Schedule.{IsInSchedule, SaysNext, schedule_of}
use Rattle.lk_forms.specs.Texts.{lines, closing}
use Rattle.lk_forms.specs.Trace.{Trace, Good, Refused, Says, trace_from, reading_after, setup_of, acts_of, setup_in, acts_in, bytes_of}
use Rattle.lk_forms.specs.declared.answers.Fault.TheVariants.{NoEnd, NoFormat}
use Rattle.lk_forms.specs.declared.answers.LineRefusal.{LineRefusal}
use Rattle.lk_forms.specs.declared.answers.LineRefusal.TheVariants.{Bad, Limit, Memory}
use Rattle.lk_forms.specs.declared.answers.Sched.{Sched}
use Rattle.lk_forms.specs.declared.answers.Sched.TheVariants.{Blank, Run, End}
use Rattle.lk_forms.proofs.Places.{schedule-ended, schedule-no_memory}
use Rattle.lk_replay.specs.Outcome.{full_text, as_replay_fault}
use Rattle.lk_stream.specs.Outcome.{refused_fault}
use Rattle.lk_replay.specs.Transcript.{history_of_run, lines_of_run, counts_of_run}
use Rattle.lk_replay.specs.Reads.{ReadsTo}
use Rattle.lk_stream.specs.Reads.{IsCutTo}
use Rattle.lk_replay.specs.Run.{RanTo, Makes, occurrences_in}
use Rattle.lk_replay.specs.Schedule.{acts_said, is_end}
use Rattle.lk_replay.specs.Stands.{Stands, SaysFrom, StopsRefused, FailsAt, FaultStops, TurnsTo, cut_at}
use Rattle.lk_replay.specs.declared.answers.RunFault.{RunFault}
use Rattle.lk_replay.specs.declared.answers.RunFault.TheVariants as fault
use Rattle.lk_replay.specs.declared.run.Run.{Run as RunValue}
use Rattle.lk_replay.specs.declared.replaying.Replaying.{Replaying}
use Rattle.lk_replay.proofs.Refusals.{goes_on, says_next, scheduled_setup, scheduled_gone, scheduled_acts}
use Rattle.lk_replay.proofs.ReadOn.{reads_end, long_line, long_text, taken_lines, line_refused, line_read, line_says}
use Rattle.lk_replay.proofs.RunLemmas.{machine_after-append, history_from-append, lines-append, events_of-append}

-- ---- runs from rest

-- what happens in acts that are made after others
pub history_of_run-append : (setup : Setup) (acts more : List Act)
    → history_of_run setup (acts ++ more) ≡ history_of_run setup acts ++ history_from (1 + length acts) (machine_after (at_rest setup) acts) more
history_of_run-append setup acts more = history_from-append 1 (at_rest setup) acts more

module _ (run : RunValue) (setup : Setup) (acts more : List Act) (ran : RanTo run setup acts) where
  history_on : history_of_run setup (acts ++ more) ≡ history_of_run setup acts ++ occurrences_in run more
  history_on =
      let made = ran.acts in
      history_of_run-append setup acts more
      ∙ ap (λ n. history_of_run setup acts ++ history_from n (machine_after (at_rest setup) acts) more) (omega arith)
      ∙ ap (λ m. history_of_run setup acts ++ history_from (run.acts + 1) m more) (sym ran.machine)

  pub lines_on : lines_of_run setup (acts ++ more) ≡ lines_of_run setup acts ++ lines (occurrences_in run more)
  lines_on = ap lines history_on ∙ lines-append (history_of_run setup acts) (occurrences_in run more)

  pub ran_on : (run' : RunValue) → Makes run run' more → RanTo run' setup (acts ++ more)
  ran_on run' made = record {
    setup_is = made.setup ∙ ran.setup_is;
    machine = made.machine ∙ ap (λ m. machine_after m more) ran.machine ∙ sym (machine_after-append (at_rest setup) acts more);
    acts = (let before = ran.acts in let now = made.acts in omega (arith, length-append acts more));
    events = (let before = ran.events in let now = made.events in omega (arith, ap length history_on, length-append (history_of_run setup acts) (occurrences_in run more)));
    lawful = subst (ShowsLawful run'.machine) (sym (ap events_of history_on ∙ events_of-append (history_of_run setup acts) (occurrences_in run more))) (made.lawful (events_of (history_of_run setup acts)) ran.lawful);
  }

-- ---- a front of all that is written

pub lines_front : (setup : Setup) (acts more : List Act)
    → lines_of_run setup (acts ++ more) ≡ lines_of_run setup acts ++ lines (history_from (1 + length acts) (machine_after (at_rest setup) acts) more)
lines_front setup acts more = ap lines (history_of_run-append setup acts more) ∙ lines-append (history_of_run setup acts) _

-- the lines of the acts so far are a front of all that is written
full_text_front : (t : Trace) (setup : Setup) (acts more : List Act) → setup_in t ≡ setup → acts_in t ≡ acts ++ more → (rest : List ℕ) × (full_text t ≡ lines_of_run setup acts ++ rest)
full_text_front (Good s all) setup acts more same whole =
    let rest = lines (history_from (1 + length acts) (machine_after (at_rest setup) acts) more) in
    let tail = closing (length all) (counts_of_run s all) in (
      rest ++ tail,
      ap (λ x. lines_of_run x all ++ tail) same ∙ ap (λ l. lines_of_run setup l ++ tail) whole ∙ ap (λ l. l ++ tail) (lines_front setup acts more) ∙ append_assoc (lines_of_run setup acts) rest tail,
    )
full_text_front (Refused line why s all) setup acts more same whole =
    (lines (history_from (1 + length acts) (machine_after (at_rest setup) acts) more), ap (λ x. lines_of_run x all) same ∙ ap (lines_of_run setup) whole ∙ lines_front setup acts more)

pub fails_with : (input held held' : Option (List ℕ)) (setup : Setup) (acts : List Act) → SaysFrom input setup acts → AppendsFront held held' (lines_of_run setup acts) → FailsAt input held held'
fails_with input held held' setup acts from cut =
    let rest = full_text_front from.said setup acts from.more from.setup_is from.whole in record {
      said = from.said;
      says = from.says;
      written = rw rest.1 (front_of_more held held' (lines_of_run setup acts) rest.0 cut);
    }

-- what the text says behind these lines
says_from : (input rest : Option (List ℕ)) (reader : LineReader) (before : List (List ℕ)) → ReadsTo input reader rest before → has_go (reading_after before) ≡ true
    → SaysFrom input (setup_of before) (acts_of before)
says_from input rest reader before r gone = by_input input (unread reader rest) r.cut
  where
    by_input : (known after : Option (List ℕ)) → IsCutTo known after before → SaysFrom known (setup_of before) (acts_of before)
    by_input None after cut = record { said = Good (setup_of before) (acts_of before); says = tt; more = []; setup_is = refl; whole = sym (append-nil (acts_of before)) }
    by_input (Some xs) None cut = absurd cut
    by_input (Some xs) (Some ys) cut =
        let on = goes_on before (pieces ys) gone in record {
          said = trace_from before (pieces ys);
          says = ap (trace_from []) cut.1 ∙ r.accepted (pieces ys);
          more = on.more;
          setup_is = on.setup;
          whole = on.acts;
        }

-- ---- where the replay stops

-- what is wrong at the end is the missing `end`
no_end : (r : Reading) → has_go r ≡ true → ending r ≡ NoEnd
no_end r gone = by_rank r.rank gone
  where
    by_rank : (rank : Option ℕ) → nat_le 9 (unwrap_or rank 0) ≡ true → (if is_some rank then NoEnd else NoFormat) ≡ NoEnd
    by_rank None e = cc
    by_rank (Some last) e = refl

-- no line of the schedule is refused for want of memory
pub needs_no_memory : (cpus acts : ℕ) (ended : Bool) (line : List ℕ) (why : LineRefusal) → Err why ≡ schedule_of cpus acts ended line → why ≢ Memory
needs_no_memory cpus acts ended line why is e = schedule-no_memory cpus acts ended line (sym is ∙ ap Err e)

pub refusal_stops : (input held : Option (List ℕ)) (r : Replaying) (left held_now : Option (List ℕ)) (line : ℕ) (why : LineRefusal) (f : RunFault)
    → why ≢ Memory → as_replay_fault f ≡ refused_fault line why → StopsRefused input held r held_now line why → FaultStops input held r left held_now f
refusal_stops input held r left held_now line (Bad w) (fault.BadInput l v) some e s = (let same : (l ≡ line) × (v ≡ w) = (cc, cc) in rw (same.0, same.1) s)
refusal_stops input held r left held_now line (Bad w) (fault.Limit l v) some e s = cc
refusal_stops input held r left held_now line (Bad w) fault.ReadFault some e s = cc
refusal_stops input held r left held_now line (Bad w) fault.WriteFault some e s = cc
refusal_stops input held r left held_now line (Limit w) (fault.BadInput l v) some e s = cc
refusal_stops input held r left held_now line (Limit w) (fault.Limit l v) some e s = (let same : (l ≡ line) × (v ≡ w) = (cc, cc) in rw (same.0, same.1) s)
refusal_stops input held r left held_now line (Limit w) fault.ReadFault some e s = cc
refusal_stops input held r left held_now line (Limit w) fault.WriteFault some e s = cc
refusal_stops input held r left held_now line Memory f some e s = absurd (some refl)

-- whether a line is `end`, the last one
scheduled_end : (r : Reading) (cpus acts : ℕ) (ended : Bool) (line : List ℕ) (said : Sched) → ended ≡ has_end r → Ok said ≡ schedule_of cpus acts ended line → has_end (scheduled r said) ≡ (ended || is_end said)
scheduled_end r cpus acts ended line Blank e is = sym e ∙ or_false ended
  where
    or_false : (b : Bool) → b ≡ (b || false)
    or_false true = refl
    or_false false = refl
scheduled_end r cpus acts true line (Run act times) e is = (let blank = schedule-ended cpus acts line (Run act times) (sym is) in cc)
scheduled_end r cpus acts false line (Run act times) e is = refl
scheduled_end r cpus acts ended line End e is = or_true ended
  where
    or_true : (b : Bool) → true ≡ (b || true)
    or_true true = refl
    or_true false = refl

-- what waits is put before the next line is read
pub stands_put : (input held : Option (List ℕ)) (r : Replaying) (block : Block) (left held_now held' : Option (List ℕ)) → Stands input held r left held_now
    → Conveys held_now held' (waiting r.block) [] (waiting block)
    → Stands input held (record { reader = r.reader; block = block; run = r.run; ended = r.ended }) left held'
stands_put input held r block left held_now held' s put = record {
  before = s.before;
  reads = s.reads;
  gone = s.gone;
  ended = s.ended;
  ran = s.ran;
  written = subst (λ l. Conveys held held' [] l (waiting block)) (append-nil (lines_of_run (setup_of s.before) (acts_of s.before)))
      (Conveys-trans held held_now held' [] (waiting r.block) (waiting block) _ [] s.written put);
}

-- a write of what waits failed
pub put_fails : (input held : Option (List ℕ)) (r : Replaying) (left held_now held' : Option (List ℕ)) → Stands input held r left held_now
    → AppendsFront held_now held' (waiting r.block) → FailsAt input held held'
put_fails input held r left held_now held' s cut =
    fails_with input held held' _ _ (says_from input left r.reader s.before s.reads s.gone)
    (front_of_conveyed held held_now held' [] (waiting r.block) _ s.written cut)

module _ (input held : Option (List ℕ)) (r : Replaying) (reader : LineReader) (left left' held_now : Option (List ℕ)) (s : Stands input held r left held_now) where
  -- at the end of the text
  pub turn_ends : MetEnd r.reader reader left left' → (is_ended r.reader ≡ true → left' ≡ left)
      → TurnsTo input held (record { reader = reader; block = r.block; run = r.run; ended = r.ended }) left' held_now
      (if r.ended then Ok false else Err (fault.BadInput (lines_given reader + 1) NoEnd))
  turn_ends met idle =
      let end = reads_end input r.reader reader left left' s.before s.reads met idle in
      subst (λ b. TurnsTo input held (record { reader = reader; block = r.block; run = r.run; ended = r.ended }) left' held_now (if b then Ok false else Err (fault.BadInput (lines_given reader + 1) NoEnd)))
      (sym s.ended) (by_end (has_end (reading_after s.before)) end.0 end.1)
    where
      line_is : lines_given reader + 1 ≡ length s.before + 1
      line_is = ap (λ n. n + 1) (met.lines ∙ s.reads.lines_given)

      by_end : (b : Bool) → Says input (if b then Good (setup_of s.before) (acts_of s.before) else Refused (length s.before + 1) (Bad (ending (reading_after s.before))) (setup_of s.before) (acts_of s.before))
          → IsAtEnd left' → TurnsTo input held (record { reader = reader; block = r.block; run = r.run; ended = r.ended }) left' held_now (if b then Ok false else Err (fault.BadInput (lines_given reader + 1) NoEnd))
      by_end true says over = record { setup = setup_of s.before; acts = acts_of s.before; good = says; over = over; ran = s.ran; written = s.written }
      by_end false says over = record {
        setup = setup_of s.before;
        acts = acts_of s.before;
        refused = rw (line_is, ← no_end (reading_after s.before) s.gone) says;
        written = s.written;
      }

  -- at a fault of the reader
  pub turn_cut : (reads reads' : ℕ) (why : LineFault) → GaveFault r.reader reader left left' reads reads' why
      → FaultStops input held (record { reader = reader; block = r.block; run = r.run; ended = r.ended }) left' held_now (cut_at (lines_given reader + 1) why)
  turn_cut reads reads' ReadFault gave =
      let taken = taken_lines input r.reader reader left left' s.before s.reads reads reads' gave in record {
        taken = bytes_of s.before ++ pending reader;
        consumed = taken.0;
        from = subst (λ l. SaysFrom input (setup_of l) (acts_of l)) (sym taken.1) (says_from input left r.reader s.before s.reads s.gone);
        written = subst (λ l. Conveys held held_now [] (lines_of_run (setup_of l) (acts_of l)) (waiting r.block)) (sym taken.1) s.written;
      }
  turn_cut reads reads' TooLong gave =
      record { setup = setup_of s.before; acts = acts_of s.before; refused = long_line input r.reader reader left left' s.before s.reads reads reads' gave; written = s.written }
  turn_cut reads reads' TooMuch gave =
      record { setup = setup_of s.before; acts = acts_of s.before; refused = long_text input r.reader reader left left' s.before s.reads reads reads' gave; written = s.written }

  module _ (sound : IsSound r.run.machine) (line : List ℕ) (gave : GaveLine r.reader reader left left' line) where
    -- the schedule is asked with what the lines so far say
    asked : IsInSchedule (reading_after s.before) (length r.run.machine.cpus) r.run.acts r.ended
    asked = record { go = s.gone; cpus = sym (sound.1.whole.cpus ∙ ap cpus_of s.ran.setup_is); acts = sym s.ran.acts; ended = sym s.ended }

    says : (x : Result Sched LineRefusal) → x ≡ schedule_of (length r.run.machine.cpus) r.run.acts r.ended line → SaysNext (reading_after s.before) line x
    says x is = subst (SaysNext (reading_after s.before) line) (sym is) (says_next s.before _ _ _ line asked)

    -- at a line that is refused
    pub turn_refused : (why : LineRefusal) (f : RunFault) → Err why ≡ schedule_of (length r.run.machine.cpus) r.run.acts r.ended line
        → as_replay_fault f ≡ refused_fault (lines_given reader) why
        → FaultStops input held (record { reader = reader; block = r.block; run = r.run; ended = r.ended }) left' held_now f
    turn_refused why f is e =
        refusal_stops input held _ left' held_now (lines_given reader) why f (needs_no_memory (length r.run.machine.cpus) r.run.acts r.ended line why is) e (record {
          setup = setup_of s.before;
          acts = acts_of s.before;
          refused = line_refused input r.reader reader left left' s.before s.reads line gave why (says (Err why) is);
          written = s.written;
        })

    module _ (said : Sched) (is : Ok said ≡ schedule_of (length r.run.machine.cpus) r.run.acts r.ended line) where
      reads_said : read (reading_after s.before) line ≡ Ok (scheduled (reading_after s.before) said)
      reads_said = says (Ok said) is

      now : reading_after (s.before ++ gave.takes.piece ∷ []) ≡ scheduled (reading_after s.before) said
      now = line_says input r.reader reader left left' s.before s.reads line gave _ reads_said

      setup_now : setup_of (s.before ++ gave.takes.piece ∷ []) ≡ setup_of s.before
      setup_now = ap (λ x. x.setup) now ∙ scheduled_setup (reading_after s.before) said

      acts_now : acts_of (s.before ++ gave.takes.piece ∷ []) ≡ acts_of s.before ++ acts_said said
      acts_now = ap (λ x. x.acts) now ∙ scheduled_acts (reading_after s.before) said

      gone_now : has_go (reading_after (s.before ++ gave.takes.piece ∷ [])) ≡ true
      gone_now = ap has_go now ∙ scheduled_gone (reading_after s.before) said s.gone

      reads_now : ReadsTo input reader left' (s.before ++ gave.takes.piece ∷ [])
      reads_now = line_read input r.reader reader left left' s.before s.reads line gave _ reads_said

      lines_now : lines_of_run (setup_of (s.before ++ gave.takes.piece ∷ [])) (acts_of (s.before ++ gave.takes.piece ∷ []))
          ≡ lines_of_run (setup_of s.before) (acts_of s.before) ++ lines (occurrences_in r.run (acts_said said))
      lines_now = ap (λ x. lines_of_run x (acts_of (s.before ++ gave.takes.piece ∷ []))) setup_now ∙ ap (lines_of_run (setup_of s.before)) acts_now
          ∙ lines_on r.run (setup_of s.before) (acts_of s.before) (acts_said said) s.ran

      -- its acts were made
      pub turn_goes_on : (new : Replaying) (held' : Option (List ℕ)) → new.reader ≡ reader → Makes r.run new.run (acts_said said) → new.ended ≡ (r.ended || is_end said)
          → Conveys held_now held' (waiting r.block) (lines (occurrences_in r.run (acts_said said))) (waiting new.block)
          → Stands input held new left' held'
      turn_goes_on new held' same made end conveyed = record {
        before = s.before ++ gave.takes.piece ∷ [];
        reads = subst (λ x. ReadsTo input x left' (s.before ++ gave.takes.piece ∷ [])) (sym same) reads_now;
        gone = gone_now;
        ended = end ∙ sym (scheduled_end (reading_after s.before) _ _ r.ended line said s.ended is) ∙ ap has_end (sym now);
        ran = subst (λ x. RanTo new.run x (acts_of (s.before ++ gave.takes.piece ∷ []))) (sym setup_now)
            (subst (RanTo new.run (setup_of s.before)) (sym acts_now) (ran_on r.run (setup_of s.before) (acts_of s.before) (acts_said said) s.ran new.run made));
        written = rw lines_now (Conveys-trans held held_now held' [] (waiting r.block) (waiting new.block) _ _ s.written conveyed);
      }

      -- a write failed while they were made
      pub turn_fails : (held' : Option (List ℕ)) → AppendsFront held_now held' (waiting r.block ++ lines (occurrences_in r.run (acts_said said))) → FailsAt input held held'
      turn_fails held' cut =
          fails_with input held held' _ _ (says_from input left' reader (s.before ++ gave.takes.piece ∷ []) reads_now gone_now)
          (rw lines_now (front_of_rest held held_now held' [] (waiting r.block) _ _ s.written cut))
