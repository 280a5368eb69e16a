-- What one line more of a header comes to.
use Rattle.std.proofs.Common.{true, false, ◌≡◌, ◌≤◌, ◌+◌, ◌++◌, ℕ, List, [], ◌∷◌, Option, None, Some, Ok, Err, length, inl, inr, sym, ap, ◌∙◌, subst, refl, arith, if◌then◌else◌}
use Rattle.std.proofs.lemmas.Bool.{ne_eqb}
use Rattle.lk_names.specs.declared.events.Act.{Act}
use Rattle.lk_text.specs.Feeds.{pieces}
use Rattle.lk_text.specs.Reader.{pending, lines_given, is_ended, IsFresh, GaveLine, MetEnd, GaveFault}
use Rattle.lk_text.specs.declared.reader.LineReader.{LineReader}
use Rattle.lk_text.specs.declared.reader.LineFault.{LineFault}
use Rattle.lk_text.specs.declared.reader.LineFault.TheVariants.{ReadFault, TooLong, TooMuch}
use Rattle.lk_rows.specs.declared.setup.Setup.{Setup}
use Rattle.lk_forms.specs.Grammar.{Reading, read, has_go, has_end, last_rank, ending, nothing_read}
use Rattle.lk_forms.specs.Reader.{ReadsOn}
use Rattle.lk_forms.specs.Trace.{Good, Refused, Says, trace_end, reading_after, setup_of, acts_of, bytes_of}
use Rattle.lk_forms.specs.declared.answers.LineRefusal.{LineRefusal}
use Rattle.lk_forms.specs.declared.answers.LineRefusal.TheVariants.{Bad, Limit, Memory}
use Rattle.lk_forms.proofs.Places.{read-before_go}
use Rattle.lk_replay.specs.Outcome.{as_replay_fault}
use Rattle.lk_stream.specs.Outcome.{refused_fault}
use Rattle.lk_stream.specs.Reads.{IsCutTo}
use Rattle.lk_replay.specs.Header.{IsInHeader, HeaderStands, HeaderRefused, OpenRefused}
use Rattle.lk_replay.specs.Stands.{cut_at}
use Rattle.lk_stream.specs.declared.answers.ReplayFault.{ReplayFault}
use Rattle.lk_stream.specs.declared.answers.ReplayFault.TheVariants as fault
use Rattle.lk_replay.proofs.ReadOn.{reads_nothing, reads_end, long_line, long_text, taken_lines, line_refused, line_read, line_says}

-- before the first line
pub header_stands : (reader : LineReader) (header : Reading) (left : Option (List ℕ)) → IsFresh reader → header ≡ nothing_read → HeaderStands left header reader left
header_stands reader header left fresh none = record { before = []; reads = reads_nothing reader left fresh; said = sym none; no_acts = refl; early = omega arith; at_go = λ gone. (let not_gone : has_go header ≡ false = ap has_go none in cc) }

-- no line before `go` is the last of a trace
pub not_ended : (r : Reading) → last_rank r ≤ 9 → has_end r ≡ false
not_ended r early = ne_eqb (last_rank r) 11 (λ e. absurd (omega (arith, early)))

header_refused : (input : Option (List ℕ)) (line : ℕ) (why : LineRefusal) (setup : Setup) (acts : List Act) → acts ≡ [] → IsInHeader input line
    → Says input (Refused line why setup acts) → HeaderRefused input line why
header_refused input line why setup acts none here says =
    record { setup = setup; refused = subst (λ l. Says input (Refused line why setup l)) none says; header = here }

-- the line behind these stands in the header
in_header : (input rest : Option (List ℕ)) (before : List (List ℕ)) → IsCutTo input rest before → has_go (reading_after before) ≡ false → IsInHeader input (length before + 1)
in_header None rest before cut early = tt
in_header (Some bytes) None before cut early = absurd cut
in_header (Some bytes) (Some left) before cut early = (before, pieces left, cut.1, refl, early)

module _ (input : Option (List ℕ)) (old : Reading) (reader reader' : LineReader) (left left' : Option (List ℕ)) (s : HeaderStands input old reader left) where
  pub header_goes_on : (new : Reading) (line : List ℕ) → has_go old ≡ false → GaveLine reader reader' left left' line → read old line ≡ Ok new
      → HeaderStands input new reader' left'
  header_goes_on new line not_gone gave is =
      let said : read (reading_after s.before) line ≡ Ok new = ap (λ r. read r line) s.said ∙ is in
      let first = read-before_go old not_gone line new is in
      let now = line_says input reader reader' left left' s.before s.reads line gave new said in record {
        before = s.before ++ gave.takes.piece ∷ [];
        reads = line_read input reader reader' left left' s.before s.reads line gave new said;
        said = now;
        no_acts = ap (λ r. r.acts) now ∙ first.0 ∙ ap (λ r. r.acts) (sym s.said) ∙ s.no_acts;
        early = subst (λ r. last_rank r ≤ 9) (sym now) first.1;
        at_go = λ _. record { front = s.before; go = gave.takes.piece; whole = refl; header = ap has_go s.said ∙ not_gone };
      }

  -- the next line stands in the header
  here : (line : ℕ) → line ≡ length s.before + 1 → has_go old ≡ false → IsInHeader input line
  here line is not_gone = subst (IsInHeader input) (sym is) (in_header input _ s.before s.reads.cut (ap has_go s.said ∙ not_gone))

  here_given : (line : List ℕ) → GaveLine reader reader' left left' line → has_go old ≡ false → IsInHeader input (lines_given reader')
  here_given line gave = here (lines_given reader') (gave.lines ∙ ap (λ n. n + 1) s.reads.lines_given)

  here_next : lines_given reader' ≡ lines_given reader → has_go old ≡ false → IsInHeader input (lines_given reader' + 1)
  here_next same = here (lines_given reader' + 1) (ap (λ n. n + 1) (same ∙ s.reads.lines_given))

  pub header_stops : has_go old ≡ false → (reads reads' : ℕ) (new : Reading) (line : List ℕ) (why : LineRefusal) → GaveLine reader reader' left left' line → ReadsOn (read old line) old new (Err why)
      → OpenRefused input left' reads reads' (refused_fault (lines_given reader') why)
  header_stops not_gone reads reads' new line Memory gave is = tt
  header_stops not_gone reads reads' new line (Bad why) gave (same, inr none) = cc
  header_stops not_gone reads reads' new line (Bad why) gave (same, inl is) =
      header_refused input _ _ _ _ s.no_acts (here_given line gave not_gone) (line_refused input reader reader' left left' s.before s.reads line gave (Bad why) (ap (λ r. read r line) s.said ∙ is))
  header_stops not_gone reads reads' new line (Limit which) gave (same, inr none) = cc
  header_stops not_gone reads reads' new line (Limit which) gave (same, inl is) =
      header_refused input _ _ _ _ s.no_acts (here_given line gave not_gone) (line_refused input reader reader' left left' s.before s.reads line gave (Limit which) (ap (λ r. read r line) s.said ∙ is))

  pub header_ends : has_go old ≡ false → MetEnd reader reader' left left' → (is_ended reader ≡ true → left' ≡ left)
      → HeaderRefused input (lines_given reader' + 1) (Bad (ending old))
  header_ends not_gone met idle =
      let says = reads_end input reader reader' left left' s.before s.reads met idle in
      let end : trace_end s.before ≡ Refused (length s.before + 1) (Bad (ending (reading_after s.before))) (setup_of s.before) (acts_of s.before) =
      ap (λ b. if b then Good (setup_of s.before) (acts_of s.before) else Refused (length s.before + 1) (Bad (ending (reading_after s.before))) (setup_of s.before) (acts_of s.before)) (not_ended (reading_after s.before) s.early) in
      let refused = header_refused input (length s.before + 1) (Bad (ending (reading_after s.before))) (setup_of s.before) (acts_of s.before) s.no_acts (here (length s.before + 1) refl not_gone) (subst (Says input) end says.0) in
      let line : length s.before + 1 ≡ lines_given reader' + 1 = ap (λ n. n + 1) (sym (met.lines ∙ s.reads.lines_given)) in
      subst (λ n. HeaderRefused input n (Bad (ending old))) line (subst (λ r. HeaderRefused input (length s.before + 1) (Bad (ending r))) s.said refused)

  pub header_cut : has_go old ≡ false → (reads reads' : ℕ) (why : LineFault) → GaveFault reader reader' left left' reads reads' why → OpenRefused input left' reads reads' (as_replay_fault (cut_at (lines_given reader' + 1) why))
  header_cut not_gone reads reads' ReadFault gave =
      let taken = taken_lines input reader reader' left left' s.before s.reads reads reads' gave in record {
        rose = (gave.reason s.reads.kept).2;
        taken = bytes_of s.before ++ pending reader';
        consumed = taken.0;
        no_acts = ap acts_of taken.1 ∙ s.no_acts;
        header = ap (λ l. has_go (reading_after l)) taken.1 ∙ ap has_go s.said ∙ not_gone;
      }
  header_cut not_gone reads reads' TooLong gave = header_refused input _ _ _ _ s.no_acts (here_next gave.lines not_gone) (long_line input reader reader' left left' s.before s.reads reads reads' gave)
  header_cut not_gone reads reads' TooMuch gave = header_refused input _ _ _ _ s.no_acts (here_next gave.lines not_gone) (long_text input reader reader' left left' s.before s.reads reads reads' gave)

-- a fault that came in a later line came in the whole
pub refused_sooner : (input left : Option (List ℕ)) (reads reads_between reads_now : ℕ) (why : ReplayFault) → reads ≤ reads_between → OpenRefused input left reads_between reads_now why
    → OpenRefused input left reads reads_now why
refused_sooner input left reads reads_between reads_now (fault.BadInput line why) le r = r
refused_sooner input left reads reads_between reads_now (fault.Limit line which) le r = r
refused_sooner input left reads reads_between reads_now fault.ReadFault le r = (let rose = r.rose in record { rose = omega (arith, rose, le); taken = r.taken; consumed = r.consumed; no_acts = r.no_acts; header = r.header })
refused_sooner input left reads reads_between reads_now fault.WriteFault le r = r
refused_sooner input left reads reads_between reads_now fault.Memory le r = tt
