-- Why a line is refused behind others, and what the lines say once one more is accepted.
use Rattle.std.proofs.Common.{Bool, true, false, ◌≡◌, ◌+◌, ◌++◌, ◌^◌, ◌<◌, ◌≤◌, ◌&&◌, ℕ, List, [], ◌∷◌, Option, None, Some, Result, Ok, Err, length, map, nat_lt, nat_le, sym, ap, ◌∙◌, refl, append_assoc, append-nil, arith, if◌then◌else◌}
use Rattle.std.proofs.lemmas.Bool.Decides.{nat_tests}
use Rattle.std.proofs.lemmas.List.{map-append}
use Rattle.std.proofs.lemmas.List.Sums.{fold-append}
use Rattle.std.specs.Result.{result_err, result_unwrap_or}
use Rattle.lk_names.specs.declared.events.Act.{Act}
use Rattle.lk_text.specs.Feeds.{line_of}
use Rattle.lk_forms.specs.Grammar.{Reading, read, scheduled, cpus_of, has_go, has_end, next_reading, nothing_read, reading_of}
use Rattle.lk_forms.specs.Schedule.{IsInSchedule, SaysNext, schedule_of}
use Rattle.lk_forms.specs.Trace.{Trace, Refused, trace_from, trace_end, unless_refused, refusal, reading_after, setup_of, acts_of, bytes_of, setup_in, acts_in}
use Rattle.lk_forms.specs.declared.answers.LineRefusal.{LineRefusal}
use Rattle.lk_forms.specs.declared.answers.LineRefusal.TheVariants.{Limit}
use Rattle.lk_forms.specs.declared.answers.Which.TheVariants.{Line, Input}
use Rattle.lk_forms.specs.declared.answers.Sched.{Sched}
use Rattle.lk_forms.specs.declared.answers.Sched.TheVariants.{Blank, Run, End}
use Rattle.lk_forms.proofs.ScheduleLemmas.{schedule-reads}
use Rattle.lk_replay.specs.Reads.{IsAccepted}
use Rattle.lk_replay.specs.Schedule.{acts_said}

-- a line within the limits is refused by the grammar alone
pub refusal_within : (before : List (List ℕ)) (piece : List ℕ) → length (line_of piece) ≤ 4096 → length (bytes_of before) + length piece ≤ 2 ^ 30
    → refusal before piece ≡ result_err (read (reading_after before) (line_of piece))
refusal_within before piece short within = grind (arith, nat_tests)

pub refusal_long : (before : List (List ℕ)) (piece : List ℕ) → 4096 < length (line_of piece) → length (bytes_of before) + 4096 ≤ 2 ^ 30
    → refusal before piece ≡ Some (Limit Line)
refusal_long before piece long within = grind (arith, nat_tests)

pub refusal_much : (before : List (List ℕ)) (piece : List ℕ) → (length (bytes_of before) + 4096 ≤ 2 ^ 30 → length (line_of piece) ≤ 4096)
    → 2 ^ 30 < length (bytes_of before) + length piece → refusal before piece ≡ Some (Limit Input)
refusal_much before piece short over = grind (arith, nat_tests)

-- a line that is accepted goes to the lines before
pub accepted-push : (before : List (List ℕ)) (piece : List ℕ) → IsAccepted before → refusal before piece ≡ None → IsAccepted (before ++ piece ∷ [])
accepted-push before piece accepted fine rest =
    ap (trace_from []) (append_assoc before (piece ∷ []) rest) ∙ accepted (piece ∷ rest)
    ∙ ap (λ r. unless_refused r (length before + 1) (setup_of before) (acts_of before) (trace_from (before ++ piece ∷ []) rest)) fine

-- what the lines say with one more
pub reading_after-push : (before : List (List ℕ)) (piece : List ℕ) → reading_after (before ++ piece ∷ []) ≡ next_reading (reading_after before) (line_of piece)
reading_after-push before piece = ap reading_of (map-append line_of before (piece ∷ [])) ∙ fold-append next_reading nothing_read (map line_of before) (line_of piece ∷ [])

pub reading_after-accepted : (before : List (List ℕ)) (piece : List ℕ) (r : Reading) → read (reading_after before) (line_of piece) ≡ Ok r → reading_after (before ++ piece ∷ []) ≡ r
reading_after-accepted before piece r e = reading_after-push before piece ∙ ap (λ x. result_unwrap_or x (reading_after before)) e

-- ---- behind `go`

-- a line says there what it says of the schedule
pub says_next : (before : List (List ℕ)) (cpus acts : ℕ) (ended : Bool) (line : List ℕ) → IsInSchedule (reading_after before) cpus acts ended
    → SaysNext (reading_after before) line (schedule_of cpus acts ended line)
says_next before cpus acts ended line so = schedule-reads (map line_of before) cpus acts ended line so

-- a line that is accepted there says something of the schedule
says_behind : (before : List (List ℕ)) (line : List ℕ) (r : Reading) → has_go (reading_after before) ≡ true → read (reading_after before) line ≡ Ok r
    → (said : Sched) × (r ≡ scheduled (reading_after before) said)
says_behind before line r gone e =
    by_schedule (schedule_of (cpus_of (setup_of before)) (length (acts_of before)) (has_end (reading_after before)) line) (says_next before _ _ _ line (record { go = gone; cpus = refl; acts = refl; ended = refl }))
  where
    by_schedule : (x : Result Sched LineRefusal) → SaysNext (reading_after before) line x → (said : Sched) × (r ≡ scheduled (reading_after before) said)
    by_schedule (Ok said) is = (let both : Ok r ≡ Ok (scheduled (reading_after before) said) = sym e ∙ is in (said, cc))
    by_schedule (Err why) is = (let both : Ok r ≡ Err why = sym e ∙ is in cc)

pub scheduled_setup : (r : Reading) (said : Sched) → (scheduled r said).setup ≡ r.setup
scheduled_setup r Blank = refl
scheduled_setup r (Run act times) = refl
scheduled_setup r End = refl

pub scheduled_gone : (r : Reading) (said : Sched) → has_go r ≡ true → has_go (scheduled r said) ≡ true
scheduled_gone r Blank gone = gone
scheduled_gone r (Run act times) gone = refl
scheduled_gone r End gone = refl

-- its acts come behind those before it
pub scheduled_acts : (r : Reading) (said : Sched) → (scheduled r said).acts ≡ r.acts ++ acts_said said
scheduled_acts r Blank = sym (append-nil r.acts)
scheduled_acts r (Run act times) = refl
scheduled_acts r End = sym (append-nil r.acts)

-- a line that is not refused says something
not_refused : (before : List (List ℕ)) (piece : List ℕ) → refusal before piece ≡ None → (r : Reading) × (read (reading_after before) (line_of piece) ≡ Ok r)
not_refused before piece none =
    by_tests (nat_lt 4096 (length (line_of piece)) && nat_le (length (bytes_of before) + 4096) (2 ^ 30)) (nat_lt (2 ^ 30) (length (bytes_of before) + length piece)) (read (reading_after before) (line_of piece)) refl none
  where
    by_tests : (long much : Bool) (x : Result Reading LineRefusal) → read (reading_after before) (line_of piece) ≡ x
        → (if long then Some (Limit Line) else if much then Some (Limit Input) else result_err x) ≡ None → (r : Reading) × (read (reading_after before) (line_of piece) ≡ Ok r)
    by_tests true much x is e = cc
    by_tests false true x is e = cc
    by_tests false false (Ok r) is e = (r, is)
    by_tests false false (Err why) is e = cc

-- the text goes on from these lines: it has their setup, and their acts first
pub record GoesOn (before : List (List ℕ)) (said : Trace) : Type 0 where
  pub more : List Act
  pub setup : setup_in said ≡ setup_of before
  pub acts : acts_in said ≡ acts_of before ++ more

goes_no_further : (before : List (List ℕ)) (said : Trace) → setup_in said ≡ setup_of before → acts_in said ≡ acts_of before → GoesOn before said
goes_no_further before said setup acts = record { more = []; setup = setup; acts = acts ∙ sym (append-nil (acts_of before)) }

goes_past : (before : List (List ℕ)) (piece : List ℕ) (rest : List (List ℕ)) → has_go (reading_after before) ≡ true
    → (has_go (reading_after (before ++ piece ∷ [])) ≡ true → GoesOn (before ++ piece ∷ []) (trace_from (before ++ piece ∷ []) rest))
    → GoesOn before (trace_from before (piece ∷ rest))
goes_past before piece rest gone next = by_refusal (refusal before piece) refl
  where
    later : (r : Reading) → read (reading_after before) (line_of piece) ≡ Ok r → GoesOn before (trace_from (before ++ piece ∷ []) rest)
    later r e =
        let said = says_behind before (line_of piece) r gone e in
        let after = reading_after-accepted before piece r e ∙ said.1 in
        let more = next (ap has_go after ∙ scheduled_gone (reading_after before) said.0 gone) in record {
          more = acts_said said.0 ++ more.more;
          setup = more.setup ∙ ap (λ x. x.setup) after ∙ scheduled_setup (reading_after before) said.0;
          acts = more.acts ∙ ap (λ x. x.acts ++ more.more) after ∙ ap (λ l. l ++ more.more) (scheduled_acts (reading_after before) said.0) ∙ append_assoc (acts_of before) (acts_said said.0) more.more;
        }

    by_refusal : (x : Option LineRefusal) → refusal before piece ≡ x
        → GoesOn before (unless_refused (refusal before piece) (length before + 1) (setup_of before) (acts_of before) (trace_from (before ++ piece ∷ []) rest))
    by_refusal None e = rw e (let fine = not_refused before piece e in later fine.0 fine.1)
    by_refusal (Some why) e = rw e (goes_no_further before (Refused (length before + 1) why (setup_of before) (acts_of before)) refl refl)

goes_to_end : (before : List (List ℕ)) → GoesOn before (trace_end before)
goes_to_end before = by_end (has_end (reading_after before)) refl
  where
    by_end : (b : Bool) → has_end (reading_after before) ≡ b → GoesOn before (trace_end before)
    by_end true e = goes_no_further before (trace_end before) (rw e refl) (rw e refl)
    by_end false e = goes_no_further before (trace_end before) (rw e refl) (rw e refl)

pub goes_on : (before rest : List (List ℕ)) → has_go (reading_after before) ≡ true → GoesOn before (trace_from before rest)
goes_on before [] gone = goes_to_end before
goes_on before (piece ∷ rest) gone = goes_past before piece rest gone (λ g. goes_on (before ++ piece ∷ []) rest g)
