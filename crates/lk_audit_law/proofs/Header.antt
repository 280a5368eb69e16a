-- The header of a trace, read by the grammar of traces and by that of audits.
use Rattle.std.proofs.Common.{Bool, true, false, ◌≡◌, ◌+◌, ◌++◌, ◌&&◌, ℕ, List, [], ◌∷◌, Option, None, Some, Result, Ok, Err, length, map, fold, nat_lt, nat_le, inl, inr, refl, sym, ap, subst, ◌∙◌, append_assoc, append-nil, if◌then◌else◌}
use Rattle.std.proofs.lemmas.Bool.{cases_Bool}
use Rattle.std.proofs.lemmas.List.{map-append, length-append}
use Rattle.std.proofs.lemmas.List.Sums.{fold-append}
use Rattle.std.specs.Result.{result_unwrap_or, result_err}
use Rattle.lk_names.specs.declared.events.Act.{Act}
use Rattle.lk_rows.specs.declared.setup.Setup.{Setup}
use Rattle.lk_text.specs.Feeds.{line_of}
use Rattle.lk_forms.specs.Grammar.{cpus_of, Reading, reading_of, next_reading, nothing_read, scheduled, has_go, has_end, ending, refusal_of_line}
use Rattle.lk_forms.specs.Grammar.{read as read_trace}
use Rattle.lk_forms.specs.Trace.{Good, Refused, refusal, reading_after, setup_of, acts_of, bytes_of, unless_refused, trace_from}
use Rattle.lk_text.specs.declared.reader.TheConstants.{MAX_INPUT, MAX_LINE}
use Rattle.lk_forms.specs.declared.answers.Which.TheVariants.{Line, Input}
use Rattle.lk_forms.specs.declared.answers.LineRefusal.{LineRefusal}
use Rattle.lk_forms.specs.declared.answers.LineRefusal.TheVariants.{Bad, Limit}
use Rattle.lk_forms.specs.declared.answers.Sched.{Sched}
use Rattle.lk_forms.specs.declared.answers.Sched.TheVariants as sched
use Rattle.lk_forms.specs.Schedule.{schedule_of, SaysNext}
use Rattle.lk_forms.proofs.ScheduleLemmas.{schedule-reads}
use Rattle.lk_stream.specs.Grammar.{Place, placed, next_place, says_from}
use Rattle.lk_stream.specs.Grammar.{unless_refused as unless_said}
use Rattle.lk_stream.proofs.Pieces.{bytes_of-push}
use Rattle.lk_audit_forms.specs.Grammar.{Said, in_header, header_on, read, audit_grammar}

-- behind `go` it stays read, and the setup stays

said_gone : (r : Reading) (said : Sched) → has_go r ≡ true → (has_go (scheduled r said) ≡ true) × ((scheduled r said).setup ≡ r.setup)
said_gone r sched.Blank gone = (gone, refl)
said_gone r (sched.Run what times) gone = (refl, refl)
said_gone r sched.End gone = (refl, refl)

pub step_gone : (before : List (List ℕ)) (line : List ℕ) (r' : Reading) → has_go (reading_of before) ≡ true
    → read_trace (reading_of before) line ≡ Ok r' → (has_go r' ≡ true) × (r'.setup ≡ (reading_of before).setup)
step_gone before line r' gone is =
    by_said (schedule_of (cpus_of r.setup) (length r.acts) (has_end r) line)
    (schedule-reads before (cpus_of r.setup) (length r.acts) (has_end r) line
    (record { go = gone; cpus = refl; acts = refl; ended = refl }))
  where
    r : Reading
    r = reading_of before

    by_said : (x : Result Sched LineRefusal) → SaysNext (reading_of before) line x
        → (has_go r' ≡ true) × (r'.setup ≡ (reading_of before).setup)
    by_said (Ok said) says =
        let same : scheduled (reading_of before) said ≡ r' = cc in
        subst (λ (x : Reading). (has_go x ≡ true) × (x.setup ≡ (reading_of before).setup)) same
        (said_gone (reading_of before) said gone)
    by_said (Err why) says = cc

line_gone : (before : List (List ℕ)) (line : List ℕ) → has_go (reading_of before) ≡ true
    → has_go (reading_of (before ++ line ∷ [])) ≡ true
line_gone before line gone =
    ap has_go (fold-append next_reading nothing_read before (line ∷ []))
    ∙ by_result (read_trace (reading_of before) line) refl
  where
    by_result : (x : Result Reading LineRefusal) → read_trace (reading_of before) line ≡ x
        → has_go (result_unwrap_or x (reading_of before)) ≡ true
    by_result (Ok r') is = (step_gone before line r' gone is).0
    by_result (Err why) is = gone

lines_gone : (more before : List (List ℕ)) → has_go (reading_of before) ≡ true → has_go (reading_of (before ++ more)) ≡ true
lines_gone [] before gone = ap (λ l. has_go (reading_of l)) (append-nil before) ∙ gone
lines_gone (line ∷ more) before gone =
    ap (λ l. has_go (reading_of l)) (sym (append_assoc before (line ∷ []) more))
    ∙ lines_gone more (before ++ line ∷ []) (line_gone before line gone)

-- with more pieces

reading_more : (before more : List (List ℕ))
    → reading_after (before ++ more) ≡ fold next_reading (reading_after before) (map line_of more)
reading_more before more =
    ap reading_of (map-append line_of before more) ∙ fold-append next_reading nothing_read (map line_of before) (map line_of more)

early_before : (before more : List (List ℕ)) → has_go (reading_after (before ++ more)) ≡ false
    → has_go (reading_after before) ≡ false
early_before before more early =
    elim (cases_Bool (has_go (reading_after before))) [
      | inl gone ↦
          (let still : has_go (reading_after (before ++ more)) ≡ true =
          ap (λ l. has_go (reading_of l)) (map-append line_of before more)
          ∙ lines_gone (map line_of more) (map line_of before) gone in cc)
      | inr yet ↦ yet
    ]

-- one piece more of a good trace

-- the piece is within the limits of bytes, and its line is accepted
pub record IsRead (before : List (List ℕ)) (piece : List ℕ) : Type 0 where
  pub long : (nat_lt MAX_LINE (length (line_of piece)) && nat_le (length (bytes_of before) + MAX_LINE) MAX_INPUT) ≡ false
  pub much : nat_lt MAX_INPUT (length (bytes_of before) + length piece) ≡ false
  pub next : Reading
  pub accepted : read_trace (reading_after before) (line_of piece) ≡ Ok next

no_error : (x : Result Reading LineRefusal) → result_err x ≡ None → (r : Reading) × (x ≡ Ok r)
no_error (Ok r) is = (r, refl)
no_error (Err why) is = cc

is_read : (before : List (List ℕ)) (piece : List ℕ) → refusal before piece ≡ None → IsRead before piece
is_read before piece is =
    by_tests (nat_lt MAX_LINE (length (line_of piece)) && nat_le (length (bytes_of before) + MAX_LINE) MAX_INPUT)
    (nat_lt MAX_INPUT (length (bytes_of before) + length piece)) refl refl is
  where
    by_tests : (long much : Bool)
        → (nat_lt MAX_LINE (length (line_of piece)) && nat_le (length (bytes_of before) + MAX_LINE) MAX_INPUT) ≡ long
        → nat_lt MAX_INPUT (length (bytes_of before) + length piece) ≡ much
        → (if long then Some (Limit Line) else if much then Some (Limit Input)
        else refusal_of_line (map line_of before) (line_of piece)) ≡ None
        → IsRead before piece
    by_tests true much e f h = cc
    by_tests false true e f h = cc
    by_tests false false e f h =
        let ok = no_error (read_trace (reading_after before) (line_of piece)) h in
        record { long = e; much = f; next = ok.0; accepted = ok.1 }

pub good_step : (before : List (List ℕ)) (piece : List ℕ) (rest : List (List ℕ)) (s : Setup) (a : List Act)
    → trace_from before (piece ∷ rest) ≡ Good s a
    → IsRead before piece × (trace_from (before ++ piece ∷ []) rest ≡ Good s a)
good_step before piece rest s a is = by_refusal (refusal before piece) refl is
  where
    by_refusal : (o : Option LineRefusal) → refusal before piece ≡ o
        → unless_refused o (length before + 1) (setup_of before) (acts_of before) (trace_from (before ++ piece ∷ []) rest) ≡ Good s a
        → IsRead before piece × (trace_from (before ++ piece ∷ []) rest ≡ Good s a)
    by_refusal None e h = (is_read before piece e, h)
    by_refusal (Some why) e h = cc

pub reading_next : (before : List (List ℕ)) (piece : List ℕ) (i : IsRead before piece) → reading_after (before ++ piece ∷ []) ≡ i.next
reading_next before piece i =
    reading_more before (piece ∷ []) ∙ ap (λ x. result_unwrap_or x (reading_after before)) i.accepted

-- the setup of a good trace is that of its header
pub setup_stays : (rest before : List (List ℕ)) (s : Setup) (a : List Act) → has_go (reading_after before) ≡ true
    → trace_from before rest ≡ Good s a → s ≡ setup_of before
setup_stays [] before s a gone is = by_end (has_end (reading_after before)) is
  where
    by_end : (b : Bool)
        → (if b then Good (setup_of before) (acts_of before)
        else Refused (length before + 1) (Bad (ending (reading_after before))) (setup_of before) (acts_of before)) ≡ Good s a
        → s ≡ setup_of before
    by_end true h = cc
    by_end false h = cc
setup_stays (piece ∷ rest) before s a gone is =
    let step = good_step before piece rest s a is in
    let more = step_gone (map line_of before) (line_of piece) step.0.next gone step.0.accepted in
    let next = reading_next before piece step.0 in
    setup_stays rest (before ++ piece ∷ []) s a (ap has_go next ∙ more.0) step.1 ∙ ap (λ (r : Reading). r.setup) next ∙ more.1

-- the audit's place behind pieces of a header
pub record StandsAt (p : Place Said) (before : List (List ℕ)) : Type 0 where
  pub said : p.said ≡ in_header (reading_after before)
  pub bytes : p.bytes ≡ length (bytes_of before)

bytes-push : (before : List (List ℕ)) (piece : List ℕ) → length (bytes_of (before ++ piece ∷ [])) ≡ length (bytes_of before) + length piece
bytes-push before piece = ap length (bytes_of-push before piece) ∙ length-append (bytes_of before) piece

pub header_step : (p : Place Said) (before : List (List ℕ)) (piece : List ℕ) → StandsAt p before
    → has_go (reading_after before) ≡ false → (i : IsRead before piece)
    → (q : Place Said) × (next_place audit_grammar p piece ≡ Ok q) × StandsAt q (before ++ piece ∷ [])
header_step p before piece at early i =
    let long = subst (λ n. (nat_lt MAX_LINE (length (line_of piece)) && nat_le (n + MAX_LINE) MAX_INPUT) ≡ false) (sym at.bytes) i.long in
    let much = subst (λ n. nat_lt MAX_INPUT (n + length piece) ≡ false) (sym at.bytes) i.much in
    let said : read (in_header (reading_after before)) (line_of piece) ≡ Ok (in_header i.next) =
    rw early (ap (header_on (in_header (reading_after before))) i.accepted) in
    let here = ap (λ x. read x (line_of piece)) at.said ∙ said in (
      record { said = in_header i.next; lines = p.lines + 1; bytes = p.bytes + length piece },
      rw (long, much) (ap (placed p piece) here),
      record {
        said = ap in_header (sym (reading_next before piece i));
        bytes = ap (λ n. n + length piece) at.bytes ∙ sym (bytes-push before piece);
      },
    )

-- a whole header, line by line

pub record Walked (p : Place Said) (before hs rest : List (List ℕ)) (s : Setup) (a : List Act) : Type 0 where
  pub place : Place Said
  pub says : (ps : List (List ℕ)) → says_from audit_grammar p (hs ++ ps) ≡ says_from audit_grammar place ps
  pub at : StandsAt place (before ++ hs)
  pub good : trace_from (before ++ hs) rest ≡ Good s a

pub walk : (hs : List (List ℕ)) (p : Place Said) (before rest : List (List ℕ)) (s : Setup) (a : List Act) → StandsAt p before
    → has_go (reading_after (before ++ hs)) ≡ false → trace_from before (hs ++ rest) ≡ Good s a
    → Walked p before hs rest s a
walk [] p before rest s a at early good =
    let same = sym (append-nil before) in
    record { place = p; says = λ ps. refl; at = subst (StandsAt p) same at; good = ap (λ l. trace_from l rest) (sym same) ∙ good }
walk (h ∷ hs) p before rest s a at early good =
    let first = good_step before h (hs ++ rest) s a good in
    let step = header_step p before h at (early_before before (h ∷ hs) early) first.0 in
    let whole = append_assoc before (h ∷ []) hs in
    let more = walk hs step.0 (before ++ h ∷ []) rest s a step.2 (ap (λ l. has_go (reading_after l)) whole ∙ early) first.1 in
    record {
      place = more.place;
      says = λ ps. ap (λ r. unless_said p r (λ q. says_from audit_grammar q (hs ++ ps))) step.1 ∙ more.says ps;
      at = subst (StandsAt more.place) whole more.at;
      good = ap (λ l. trace_from l rest) (sym whole) ∙ more.good;
    }
