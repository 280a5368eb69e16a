-- What is written for lines stays where one more is accepted.
use Rattle.std.proofs.Common.{Bool, ◌≡◌, ◌+◌, ◌++◌, ℕ, List, [], Result, Ok, Err, length, replicate, sym, ap, ◌∙◌, refl, append-nil}
use Rattle.std.proofs.lemmas.List.Concat.{flat_map-append}
use Rattle.lk_forms.specs.Operations.{and_then}
use Rattle.lk_forms.specs.declared.answers.LineRefusal.{LineRefusal}
use Rattle.lk_osq.specs.Run.{Act, Occurrence, at_rest, machine_after, history_from}
use Rattle.lk_osq.proofs.Joined.{runs_in_parts}
use Rattle.lk_osq_forms.specs.declared.answers.Sched.{Sched}
use Rattle.lk_osq_forms.specs.declared.answers.Sched.TheVariants as sched
use Rattle.lk_osq_forms.specs.Lines.{schedule_of}
use Rattle.lk_osq_forms.specs.Grammar.{Said, Header, Schedule, act_of, scheduled, read}
use Rattle.lk_osq_forms.specs.Texts.{event_text, lines}
use Rattle.lk_osq_forms.specs.Trace.{text_of, history_of_run, lines_of_run}

lines_front : (rounds : List ℕ) (acts more : List Act)
    → lines_of_run rounds (acts ++ more) ≡ lines_of_run rounds acts ++ lines
    (history_from (1 + length acts) (machine_after (at_rest rounds) acts) more)
lines_front rounds acts more =
    ap lines (runs_in_parts.occurrences 1 (at_rest rounds) acts more) ∙ flat_map-append
    (λ (o : Occurrence). event_text o.act o.event) (history_of_run rounds acts) _

scheduled_grows : (rounds : List ℕ) (acts : List Act) (ended : Bool) (s : Sched)
    → (more : List ℕ) × (text_of (scheduled rounds acts ended s) ≡ lines_of_run rounds acts ++ more)
scheduled_grows rounds acts ended sched.Blank = (_, lines_front rounds acts [])
scheduled_grows rounds acts ended (sched.Run give p times) =
    (_, lines_front rounds acts (replicate times (act_of give p)))
scheduled_grows rounds acts ended sched.End = ([], sym (append-nil (lines_of_run rounds acts)))

result_grows : (rounds : List ℕ) (acts : List Act) (ended : Bool) (said : Said)
    (x : Result Sched LineRefusal) → and_then x (λ s. Ok (scheduled rounds acts ended s)) ≡ Ok said
    → (more : List ℕ) × (text_of said ≡ lines_of_run rounds acts ++ more)
result_grows rounds acts ended said (Ok s) is =
    (let same : scheduled rounds acts ended s ≡ said = cc in let m =
    scheduled_grows rounds acts ended s in (m.0, ap text_of (sym same) ∙ m.1))
result_grows rounds acts ended said (Err why) is = cc

pub text_grows : (before said : Said) (line : List ℕ) → read before line ≡ Ok said
    → (more : List ℕ) × (text_of said ≡ text_of before ++ more)
text_grows (Header rank rounds) said line is = (text_of said, refl)
text_grows (Schedule rounds acts ended) said line is =
    result_grows rounds acts ended said (schedule_of (length rounds) (length acts) ended line) is
