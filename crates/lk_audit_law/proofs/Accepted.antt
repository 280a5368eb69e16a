-- The transcript of a trace is accepted.
use Rattle.std.proofs.Common.{◌≡◌, ◌≤◌, ◌<◌, ◌+◌, ◌-◌, ◌++◌, ◌^◌, true, ℕ, suc, List, [], ◌∷◌, Option, None, Some, length, map, refl, sym, ap, subst, ◌∙◌, append_assoc, append-nil, arith}
use Rattle.std.proofs.lemmas.List.{length-append}
use Rattle.lk_names.specs.Lawful.{IsLawful}
use Rattle.lk_names.specs.declared.events.Act.{Act}
use Rattle.lk_names.specs.declared.events.Event.{Event}
use Rattle.lk_rows.specs.Machine.{Machine}
use Rattle.lk_rows.specs.Programs.{IsLawfulSetup}
use Rattle.lk_rows.specs.Acts.{next}
use Rattle.lk_machine.specs.Ready.{CountsWithin}
use Rattle.lk_rows.specs.Run.{Occurrence, at_rest, occurs, history_from, machine_after, events_of}
use Rattle.lk_rows.specs.declared.setup.Setup.{Setup}
use Rattle.lk_rows.specs.declared.parts.Counts.{Counts}
use Rattle.lk_rows.specs.Rules.{rules_of}
use Rattle.lk_law.specs.MachineLaws.{ActKeeps, RestShows, RunKeeps, AreInRange}
use Rattle.lk_text.specs.Feeds.{pieces, line_of}
use Rattle.lk_forms.specs.Grammar.{Reading, has_go, last_rank, cpus_of}
use Rattle.lk_forms.specs.SetupLaws.{SetupsAreLawful, ActsComeLast}
use Rattle.lk_forms.specs.Texts.{closing}
use Rattle.lk_forms.specs.Trace.{Good, trace_from, reading_after, setup_of, acts_of, bytes_of}
use Rattle.lk_text.specs.declared.reader.TheConstants.{MAX_INPUT}
use Rattle.lk_forms.proofs.Places.{read-before_go}
use Rattle.lk_stream.specs.Grammar.{Place, first_place, says_from, says_at_end, unless_refused}
use Rattle.lk_stream.specs.Grammar.{Good as GoodText}
use Rattle.lk_stream.specs.Reads.{AllWhole}
use Rattle.lk_stream.proofs.Pieces.{pieces_at_feed}
use Rattle.lk_audit_forms.specs.Grammar.{Said, last_act, ending, audit_grammar}
use Rattle.lk_replay.specs.Transcript.{history_of_run, counts_of_run, lines_of_run, transcript}
use Rattle.lk_audit_law.specs.Laws.{TranscriptsAreAccepted}
use Rattle.lk_audit_law.proofs.Header.{StandsAt, reading_next, good_step, setup_stays, header_step, walk}
use Rattle.lk_audit_law.proofs.Runs.{run_lawful, run_told}
use Rattle.lk_audit_law.proofs.InRange.{IsFine, acts_fine, none_fine}
use Rattle.lk_audit_law.proofs.Heads.{head_whole}
use Rattle.lk_audit_law.proofs.Behind.{Passes, and_on, open_said, history_passes}
use Rattle.lk_audit_law.proofs.Closed.{closed_said, closing_passes}

-- counts

counts_below : (m n : ℕ) (c : Counts) → m ≤ n → CountsWithin m c → CountsWithin n c
counts_below m n c le w =
    record {
      lock_pending = (let h = w.lock_pending in omega (arith, le, h));
      lock_slowpath = (let h = w.lock_slowpath in omega (arith, le, h));
      lock_use_node2 = (let h = w.lock_use_node2 in omega (arith, le, h));
      lock_use_node3 = (let h = w.lock_use_node3 in omega (arith, le, h));
      lock_use_node4 = (let h = w.lock_use_node4 in omega (arith, le, h));
      lock_no_node = (let h = w.lock_no_node in omega (arith, le, h));
      pv_lock_stealing = (let h = w.pv_lock_stealing in omega (arith, le, h));
      pv_wait_node = (let h = w.pv_wait_node in omega (arith, le, h));
      pv_wait_head = (let h = w.pv_wait_head in omega (arith, le, h));
      pv_kick_unlock = (let h = w.pv_kick_unlock in omega (arith, le, h));
    }

abbrev CountsGrow : Type 0
CountsGrow = (n : ℕ) (m : Machine) (a : Act) → CountsWithin n m.counts → CountsWithin (n + 1) (next m a).0.counts

counts_after : CountsGrow → (acts : List Act) (n : ℕ) (m : Machine) → CountsWithin n m.counts
    → CountsWithin (n + length acts) (machine_after m acts).counts
counts_after grow [] n m w = counts_below n (n + 0) m.counts (omega arith) w
counts_after grow (a ∷ acts) n m w =
    let more = counts_after grow acts (n + 1) (next m a).0 (grow n m a w) in
    counts_below (n + 1 + length acts) (n + length (a ∷ acts)) (machine_after (next m a).0 acts).counts (omega arith) more

rest_within : (setup : Setup) → CountsWithin 0 (at_rest setup).counts
rest_within setup =
    record {
      lock_pending = omega arith;
      lock_slowpath = omega arith;
      lock_use_node2 = omega arith;
      lock_use_node3 = omega arith;
      lock_use_node4 = omega arith;
      lock_no_node = omega arith;
      pv_lock_stealing = omega arith;
      pv_wait_node = omega arith;
      pv_wait_head = omega arith;
      pv_kick_unlock = omega arith;
    }

-- the last act

last_below : (os : List Occurrence) (o : Option Event) (n k : ℕ) → n < k → last_act os < k → last_act (occurs n o ++ os) < k
last_below os None n k low rest = rest
last_below [] (Some e) n k low rest = low
last_below (p ∷ os) (Some e) n k low rest = rest

history_last : (acts : List Act) (n : ℕ) (m : Machine) → 0 < n → last_act (history_from n m acts) < n + length acts
history_last [] n m some = omega (arith, some)
history_last (a ∷ acts) n m some =
    let more = history_last acts (suc n) (next m a).0 (omega arith) in
    last_below (history_from (suc n) (next m a).0 acts) (next m a).1 n (n + length (a ∷ acts)) (omega arith) (omega (arith, more))

-- pieces

pieces_whole : (before : List (List ℕ)) (text : List ℕ) → AllWhole before → pieces (bytes_of before ++ text) ≡ before ++ pieces text
pieces_whole [] text w = refl
pieces_whole (piece ∷ before) text w =
    let line = w.0.0 in
    let split : bytes_of (piece ∷ before) ++ text ≡ line ++ 10 ∷ (bytes_of before ++ text) =
    append_assoc piece (bytes_of before) text ∙ ap (λ l. l ++ (bytes_of before ++ text)) w.0.1
    ∙ append_assoc line (10 ∷ []) (bytes_of before ++ text) in
    ap pieces split ∙ pieces_at_feed line (bytes_of before ++ text) w.0.2
    ∙ ap (λ l. l ∷ pieces (bytes_of before ++ text)) (sym w.0.1) ∙ ap (λ l. piece ∷ l) (pieces_whole before text w.1)

-- where a text ends

at_end : (p : Place Said) (s : Said) → p.said ≡ s → ending s ≡ None → says_from audit_grammar p [] ≡ GoodText s
at_end p s is none = ap (says_at_end p) (ap ending is ∙ none) ∙ ap GoodText is

passes_end : (p : Place Said) (text : List ℕ) (s : Said) → Passes p text s → ending s ≡ None
    → says_from audit_grammar p (pieces text) ≡ GoodText s
passes_end p text s pass none =
    ap (λ l. says_from audit_grammar p (pieces l)) (sym (append-nil text)) ∙ pass.says [] ∙ at_end pass.place s pass.said none

module _ (keeps : ActKeeps) (rests : RestShows) (runs : RunKeeps) (same : (m : Machine) (a : Act) → (next m a).0.setup ≡ m.setup)
    (grow : CountsGrow) (lawfuls : SetupsAreLawful) (late : ActsComeLast) where
  -- the lines behind a header
  transcript_passes : (q : Place Said) (r : Reading) (acts : List Act) → has_go r ≡ true → q.said ≡ open_said r []
      → IsLawfulSetup r.setup → IsFine r.setup acts → q.bytes + length (transcript r.setup acts) ≤ MAX_INPUT
      → Passes q (transcript r.setup acts) (closed_said r (history_of_run r.setup acts) 11)
  transcript_passes q r acts gone at lawful fine room =
      let os = history_of_run r.setup acts in
      let end = closing (length acts) (counts_of_run r.setup acts) in
      let few = fine.few in
      let all = length-append (lines_of_run r.setup acts) end in
      let last = history_last acts 1 (at_rest r.setup) (omega arith) in
      let counts = counts_below (0 + length acts) (2 ^ 64 - 1) (counts_of_run r.setup acts) (omega (arith, few))
      (counts_after grow acts 0 (at_rest r.setup) (rest_within r.setup)) in
      and_on q (lines_of_run r.setup acts) end (open_said r os) (closed_said r os 11)
      (history_passes os q r [] gone at (run_told keeps rests runs same r.setup acts lawful fine.range few) (omega (arith, room, all)))
      (λ p said bytes. closing_passes p r os (length acts) (counts_of_run r.setup acts) gone said (omega (arith, last)) few counts
      (omega (arith, room, all, bytes)))

  pub transcripts_are_accepted : TranscriptsAreAccepted
  transcripts_are_accepted bytes setup acts before rest good cut head gone room =
      let header = head.front in
      let go = head.go in
      let split = head.whole in
      let whole : trace_from [] (header ++ go ∷ rest) ≡ Good setup acts =
      ap (trace_from []) (sym (append_assoc header (go ∷ []) rest) ∙ ap (λ l. l ++ rest) (sym split) ∙ sym cut) ∙ good in
      let w = walk header (first_place audit_grammar) [] (go ∷ rest) setup acts (record { said = refl; bytes = refl }) head.header whole in
      let g = good_step header go rest setup acts w.good in
      let step = header_step w.place header go w.at head.header g.0 in
      let heads = read-before_go (reading_after header) head.header (line_of go) g.0.next g.0.accepted in
      let none : acts_of before ≡ [] =
      ap acts_of split ∙ ap (λ (x : Reading). x.acts) (reading_next header go g.0)
      ∙ heads.0
      ∙ late (map line_of header) head.header in
      let q = step.0 in
      let at : StandsAt q before = subst (StandsAt q) (sym split) step.2 in
      let good' : trace_from before rest ≡ Good setup acts = ap (λ l. trace_from l rest) split ∙ g.1 in
      let low : last_rank (reading_after before) ≤ 9 =
      subst (λ (x : Reading). last_rank x ≤ 9) (sym (ap reading_after split ∙ reading_next header go g.0)) heads.1 in
      let lines_whole = head_whole bytes before rest setup acts cut low good' in
      let is : setup ≡ setup_of before = setup_stays rest before setup acts gone good' in
      let fine = subst (λ s. IsFine s acts) is (acts_fine rest before setup acts gone (none_fine (setup_of before) (acts_of before) none) good') in
      let lawful : IsLawfulSetup (setup_of before) = lawfuls (map line_of before) in
      let r = reading_after before in
      let text = transcript setup acts in
      let all = length-append (bytes_of before) text in
      let here = at.bytes in
      let pass = transcript_passes q r acts gone at.said lawful fine (omega (arith, room, all, here, ap (λ s. length (transcript s acts)) is)) in
      let pass' = subst (λ (s : Setup). Passes q (transcript s acts) (closed_said r (history_of_run s acts) 11)) (sym is) pass in
      record {
        said = closed_said r (history_of_run setup acts) 11;
        good = ap (says_from audit_grammar (first_place audit_grammar))
            (pieces_whole before text lines_whole ∙ ap (λ l. l ++ pieces text) split ∙ append_assoc header (go ∷ []) (pieces text))
            ∙ w.says (go ∷ pieces text) ∙ ap (λ x. unless_refused w.place x (λ p. says_from audit_grammar p (pieces text))) step.1
            ∙ passes_end q text (closed_said r (history_of_run setup acts) 11) pass' refl;
        told = refl;
        lawful = subst (λ s. IsLawful (rules_of s) (events_of (history_of_run setup acts))) is
            (run_lawful keeps rests runs same setup acts (subst IsLawfulSetup (sym is) lawful) (subst (λ s. AreInRange (cpus_of s) acts) (sym is) fine.range));
      }
