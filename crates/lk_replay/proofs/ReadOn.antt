-- From the lines that a reader gave so far to one line more, to a limit, to the end, and to a read that failed.
use Rattle.std.proofs.Common.{true, ◌≡◌, ◌+◌, ◌++◌, ◌^◌, ◌≤◌, ℕ, List, [], ◌∷◌, Option, None, Some, Ok, Err, length, sym, ap, ◌∙◌, subst, append_assoc, arith, refl}
use Rattle.std.proofs.lemmas.List.{length-append}
use Rattle.std.specs.Io.KnownBytes.{Consumes, IsAtEnd}
use Rattle.std.specs.Result.{result_err}
use Rattle.lk_text.specs.Feeds.{pieces, line_of}
use Rattle.lk_text.specs.Lines.{PassesLineLimit, PassesInputLimit}
use Rattle.lk_text.specs.Reader.{unread, pending, lines_given, looked_at, is_ended, IsFresh, GaveLine, MetEnd, GaveFault}
use Rattle.lk_text.specs.declared.reader.LineReader.{LineReader}
use Rattle.lk_text.specs.declared.reader.LineFault.TheVariants.{ReadFault, TooLong, TooMuch}
use Rattle.lk_forms.specs.Grammar.{Reading, read}
use Rattle.lk_forms.specs.Trace.{Refused, Says, trace, trace_from, trace_end, unless_refused, refusal, reading_after, setup_of, acts_of, bytes_of, whole_lines}
use Rattle.lk_forms.specs.declared.answers.LineRefusal.{LineRefusal}
use Rattle.lk_forms.specs.declared.answers.LineRefusal.TheVariants.{Limit}
use Rattle.lk_forms.specs.declared.answers.Which.TheVariants.{Line, Input}
use Rattle.lk_stream.specs.Reads.{IsCutTo}
use Rattle.lk_replay.specs.Reads.{IsAccepted, ReadsTo}
use Rattle.lk_stream.proofs.Pieces.{bytes_of-push, whole_lines_of}
use Rattle.lk_stream.proofs.Cuts.{cut_on, says_line, taken_whole, cut_fresh, long_piece, much_piece, over_at, whole_on, over_on}
use Rattle.lk_replay.proofs.Refusals.{refusal_within, refusal_long, refusal_much, accepted-push, reading_after-accepted}

-- ---- what the text says

-- at a line of which only the front may be known
refused_front : (xs : List ℕ) (ls : List (List ℕ)) (piece : List ℕ) (rest : List (List ℕ)) (why : LineRefusal) → IsAccepted ls → pieces xs ≡ ls ++ piece ∷ rest → refusal ls piece ≡ Some why
    → trace xs ≡ Refused (length ls + 1) why (setup_of ls) (acts_of ls)
refused_front xs ls piece rest why accepted cut is =
    ap (trace_from []) cut ∙ accepted (piece ∷ rest)
    ∙ ap (λ o. unless_refused o (length ls + 1) (setup_of ls) (acts_of ls) (trace_from (ls ++ piece ∷ []) rest)) is

refused_taken : (input after : Option (List ℕ)) (ls : List (List ℕ)) (piece : List ℕ) (why : LineRefusal) → IsAccepted ls → IsCutTo input after (ls ++ piece ∷ []) → refusal ls piece ≡ Some why
    → Says input (Refused (length ls + 1) why (setup_of ls) (acts_of ls))
refused_taken None after ls piece why accepted cut is = tt
refused_taken (Some xs) None ls piece why accepted cut is = absurd cut
refused_taken (Some xs) (Some zs) ls piece why accepted cut is = refused_front xs ls piece (pieces zs) why accepted (cut.1 ∙ append_assoc ls (piece ∷ []) (pieces zs)) is

long_refused : (input before : Option (List ℕ)) (ls : List (List ℕ)) (looked : ℕ) → IsAccepted ls → IsCutTo input before ls → looked ≡ length (bytes_of ls)
    → PassesLineLimit before looked → Says input (Refused (length ls + 1) (Limit Line) (setup_of ls) (acts_of ls))
long_refused None before ls looked accepted cut same p = tt
long_refused (Some xs) None ls looked accepted cut same p = absurd cut
long_refused (Some xs) (Some ys) ls looked accepted cut same limit =
    let next = long_piece xs ys ls looked cut limit in
    let within : length (bytes_of ls) + 4096 ≤ 2 ^ 30 = (let w = limit.within in omega arith) in
    refused_front xs ls next.0 next.1 (Limit Line) accepted next.2 (refusal_long ls next.0 next.3 within)

much_refused : (input before : Option (List ℕ)) (ls : List (List ℕ)) (looked : ℕ) → IsAccepted ls → IsCutTo input before ls → looked ≡ length (bytes_of ls)
    → PassesInputLimit before looked → Says input (Refused (length ls + 1) (Limit Input) (setup_of ls) (acts_of ls))
much_refused None before ls looked accepted cut same p = tt
much_refused (Some xs) None ls looked accepted cut same p = absurd cut
much_refused (Some xs) (Some ys) ls looked accepted cut same limit =
    let next = much_piece xs ys ls looked cut limit in
    let short = next.3 in
    let long = next.4 in
    refused_front xs ls next.0 next.1 (Limit Input) accepted next.2 (refusal_much ls next.0 (λ room. short (omega arith)) (omega arith))

ended_at : (input rest : Option (List ℕ)) (ls : List (List ℕ)) → IsAccepted ls → IsCutTo input rest ls → IsAtEnd rest → Says input (trace_end ls)
ended_at None rest ls accepted cut over = tt
ended_at (Some xs) None ls accepted cut over = absurd cut
ended_at (Some xs) (Some ys) ls accepted cut over = ap (trace_from []) (cut.1 ∙ ap (λ l. ls ++ pieces l) over) ∙ accepted []

-- ---- a reader that was made

pub reads_nothing : (reader : LineReader) (left : Option (List ℕ)) → IsFresh reader → ReadsTo left reader left []
reads_nothing reader left fresh = record {
  cut = cut_fresh left (pending reader) fresh.pending;
  accepted = λ rest. refl;
  whole = λ _. tt;
  over = λ ended. (let not_ended = fresh.ended in cc);
  kept = fresh.kept;
  lines_given = fresh.lines;
  looked = fresh.looked;
}

-- ---- a reader that gave some lines

module _ (input : Option (List ℕ)) (old new : LineReader) (left left' : Option (List ℕ)) (before : List (List ℕ)) (r : ReadsTo input old left before) where
  -- the end of the text
  pub reads_end : MetEnd old new left left' → (is_ended old ≡ true → left' ≡ left) → Says input (trace_end before) × IsAtEnd left'
  reads_end met idle = let over = over_at old new left left' r.over met idle in (ended_at input _ before r.accepted r.cut over.0, over.1)

  pub long_line : (reads reads' : ℕ) → GaveFault old new left left' reads reads' TooLong → Says input (Refused (lines_given new + 1) (Limit Line) (setup_of before) (acts_of before))
  long_line reads reads' gave = rw (gave.lines, r.lines_given) (long_refused input (unread old left) before (looked_at old) r.accepted r.cut r.looked (gave.reason r.kept))

  pub long_text : (reads reads' : ℕ) → GaveFault old new left left' reads reads' TooMuch → Says input (Refused (lines_given new + 1) (Limit Input) (setup_of before) (acts_of before))
  long_text reads reads' gave = rw (gave.lines, r.lines_given) (much_refused input (unread old left) before (looked_at old) r.accepted r.cut r.looked (gave.reason r.kept))

  -- what was taken where a read failed
  pub taken_lines : (reads reads' : ℕ) → GaveFault old new left left' reads reads' ReadFault
      → Consumes input left' (bytes_of before ++ pending new) × (whole_lines (bytes_of before ++ pending new) ≡ before)
  taken_lines reads reads' gave =
      let why = gave.reason r.kept in (
        taken_whole input (unread old left) left' (pending new) before r.cut why.3,
        whole_lines_of before (pending new) (r.whole why.0) why.4,
      )

  module _ (line : List ℕ) (gave : GaveLine old new left left' line) where
    says_is : line_of gave.takes.piece ≡ line
    says_is = says_line _ _ _ _ _ line gave.takes

    -- the line is refused by the grammar alone
    refusal_is : refusal before gave.takes.piece ≡ result_err (read (reading_after before) line)
    refusal_is =
        refusal_within before gave.takes.piece (subst (λ l. length l ≤ 4096) (sym says_is) gave.takes.short) (let a = gave.takes.counted in let b = gave.takes.within in let c = r.looked in omega arith)
        ∙ ap (λ l. result_err (read (reading_after before) l)) says_is

    pub line_refused : (why : LineRefusal) → read (reading_after before) line ≡ Err why → Says input (Refused (lines_given new) why (setup_of before) (acts_of before))
    line_refused why e = rw (gave.lines, r.lines_given) (refused_taken input (unread new left') before gave.takes.piece why r.accepted (cut_on _ _ _ _ _ _ line before r.cut gave.takes) (refusal_is ∙ ap result_err e))

    pub line_read : (reading : Reading) → read (reading_after before) line ≡ Ok reading → ReadsTo input new left' (before ++ gave.takes.piece ∷ [])
    line_read reading e = record {
      cut = cut_on _ _ _ _ _ _ line before r.cut gave.takes;
      accepted = accepted-push before gave.takes.piece r.accepted (refusal_is ∙ ap result_err e);
      whole = whole_on old new left left' line gave before r.whole;
      over = over_on old new left left' line gave;
      kept = gave.kept;
      lines_given = gave.lines ∙ ap (λ n. n + 1) r.lines_given ∙ sym (length-append before (gave.takes.piece ∷ []));
      looked = gave.takes.counted ∙ ap (λ n. n + length gave.takes.piece) r.looked ∙ sym (length-append (bytes_of before) gave.takes.piece) ∙ ap length (sym (bytes_of-push before gave.takes.piece));
    }

    pub line_says : (reading : Reading) → read (reading_after before) line ≡ Ok reading → reading_after (before ++ gave.takes.piece ∷ []) ≡ reading
    line_says reading e = reading_after-accepted before gave.takes.piece reading (ap (read (reading_after before)) says_is ∙ e)
