-- From the lines that a reader gave so far to one line more, to a limit, to the end, and to a read
-- that failed.
use Rattle.std.proofs.Common.{true, ◌≡◌, ◌+◌, ◌++◌, ◌≤◌, ℕ, List, [], ◌∷◌, Option, None, Some, Ok, Err, length, sym, ap, ◌∙◌, subst, append_assoc, arith}
use Rattle.std.specs.Io.KnownBytes.{Consumes, IsAtEnd}
use Rattle.lk_text.specs.Feeds.{pieces, line_of}
use Rattle.lk_text.specs.Lines.{PassesLineLimit, PassesInputLimit}
use Rattle.lk_text.specs.Reader.{unread, pending, lines_given, is_ended, IsFresh, GaveLine, MetEnd, GaveFault}
use Rattle.lk_text.specs.declared.reader.LineReader.{LineReader}
use Rattle.lk_text.specs.declared.reader.LineFault.TheVariants.{ReadFault, TooLong, TooMuch}
use Rattle.lk_forms.specs.declared.answers.LineRefusal.{LineRefusal}
use Rattle.lk_forms.specs.declared.answers.LineRefusal.TheVariants.{Limit}
use Rattle.lk_forms.specs.declared.answers.Which.TheVariants.{Line, Input}
use Rattle.lk_forms.specs.Trace.{bytes_of, whole_lines}
use Rattle.lk_stream.specs.Grammar.{Grammar, Place, Refused, Says, first_place, placed, next_place, says_at_end, unless_refused, says_from, saying, place_after}
use Rattle.lk_stream.specs.Reads.{IsCutTo, Leads, ReadsTo}
use Rattle.lk_stream.proofs.Pieces.{whole_lines_of}
use Rattle.lk_stream.proofs.Cuts.{cut_on, says_line, taken_whole, cut_fresh, long_piece, much_piece, over_at, whole_on, over_on}
use Rattle.lk_stream.proofs.Places.{next-within, next-long, next-much, leads_nowhere, leads_on}

module _ {S : Type 0} (g : Grammar S) where
  -- ---- what the text says

  -- at a line of which only the front may be known
  refused_front : (xs : List ℕ) (ls : List (List ℕ)) (p : Place S) (piece : List ℕ)
      (rest : List (List ℕ)) (why : LineRefusal) → Leads g ls p → pieces xs ≡ ls ++ piece ∷ rest
      → next_place g p piece ≡ Err why → saying g xs ≡ Refused (p.lines + 1) why p.said
  refused_front xs ls p piece rest why l cut is =
      ap (says_from g (first_place g)) cut ∙ l.accepted (piece ∷ rest) ∙ ap
      (λ r. unless_refused p r (λ q. says_from g q rest)) is

  refused_taken : (input after : Option (List ℕ)) (ls : List (List ℕ)) (p : Place S)
      (piece : List ℕ) (why : LineRefusal) → Leads g ls p → IsCutTo input after (ls ++ piece ∷ [])
      → next_place g p piece ≡ Err why → Says g input (Refused (p.lines + 1) why p.said)
  refused_taken None after ls p piece why l cut is = tt
  refused_taken (Some xs) None ls p piece why l cut is = absurd cut
  refused_taken (Some xs) (Some zs) ls p piece why l cut is =
      refused_front xs ls p piece (pieces zs) why l
      (cut.1 ∙ append_assoc ls (piece ∷ []) (pieces zs)) is

  long_refused : (input before : Option (List ℕ)) (ls : List (List ℕ)) (p : Place S) → Leads g ls p
      → IsCutTo input before ls
      → PassesLineLimit before p.bytes → Says g input (Refused (p.lines + 1) (Limit Line) p.said)
  long_refused None before ls p l cut limit = tt
  long_refused (Some xs) None ls p l cut limit = absurd cut
  long_refused (Some xs) (Some ys) ls p l cut limit =
      let next = long_piece xs ys ls p.bytes cut limit in
      refused_front xs ls p next.0 next.1 (Limit Line) l next.2
      (next-long g p next.0 next.3 limit.within)

  much_refused : (input before : Option (List ℕ)) (ls : List (List ℕ)) (p : Place S) → Leads g ls p
      → IsCutTo input before ls
      → PassesInputLimit before p.bytes → Says g input (Refused (p.lines + 1) (Limit Input) p.said)
  much_refused None before ls p l cut limit = tt
  much_refused (Some xs) None ls p l cut limit = absurd cut
  much_refused (Some xs) (Some ys) ls p l cut limit =
      let next = much_piece xs ys ls p.bytes cut limit in
      refused_front xs ls p next.0 next.1 (Limit Input) l next.2
      (next-much g p next.0 next.3 next.4)

  ended_at : (input rest : Option (List ℕ)) (ls : List (List ℕ)) (p : Place S) → Leads g ls p
      → IsCutTo input rest ls → IsAtEnd rest
      → Says g input (says_at_end p (g.ending p.said))
  ended_at None rest ls p l cut over = tt
  ended_at (Some xs) None ls p l cut over = absurd cut
  ended_at (Some xs) (Some ys) ls p l cut over =
      ap (says_from g (first_place g)) (cut.1 ∙ ap (λ m. ls ++ pieces m) over) ∙ l.accepted []

  -- ---- a reader that was made

  pub reads_nothing : (reader : LineReader) (left : Option (List ℕ)) → IsFresh reader
      → ReadsTo g left reader left (first_place g)
  reads_nothing reader left fresh = record {
    before = [];
    cut = cut_fresh left (pending reader) fresh.pending;
    leads = leads_nowhere g;
    whole = λ _. tt;
    over = λ ended. (let not_ended = fresh.ended in cc);
    kept = fresh.kept;
    lines = fresh.lines;
    looked = fresh.looked;
  }

  -- ---- a reader that gave some lines

  module _ (input : Option (List ℕ)) (old new : LineReader) (left left' : Option (List ℕ))
      (p : Place S) (r : ReadsTo g input old left p) where
    -- the end of the text
    pub reads_end : MetEnd old new left left' → (is_ended old ≡ true → left' ≡ left)
        → Says g input (says_at_end p (g.ending p.said)) × IsAtEnd left'
    reads_end met idle =
        let over = over_at old new left left' r.over met idle in
        (ended_at input _ r.before p r.leads r.cut over.0, over.1)

    lines_now : lines_given new ≡ lines_given old → lines_given new + 1 ≡ p.lines + 1
    lines_now same = ap (λ n. n + 1) (same ∙ r.lines)

    pub long_line : (reads reads' : ℕ) → GaveFault old new left left' reads reads' TooLong
        → Says g input (Refused (lines_given new + 1) (Limit Line) p.said)
    long_line reads reads' gave =
        rw (lines_now gave.lines)
        (long_refused input (unread old left) r.before p r.leads r.cut
        (subst (PassesLineLimit (unread old left)) r.looked (gave.reason r.kept)))

    pub long_text : (reads reads' : ℕ) → GaveFault old new left left' reads reads' TooMuch
        → Says g input (Refused (lines_given new + 1) (Limit Input) p.said)
    long_text reads reads' gave =
        rw (lines_now gave.lines)
        (much_refused input (unread old left) r.before p r.leads r.cut
        (subst (PassesInputLimit (unread old left)) r.looked (gave.reason r.kept)))

    -- what was taken where a read failed
    pub taken_lines : (reads reads' : ℕ) → GaveFault old new left left' reads reads' ReadFault
        → Consumes input left' (bytes_of r.before ++ pending new)
        × (place_after g (whole_lines (bytes_of r.before ++ pending new)) ≡ p)
    taken_lines reads reads' gave =
        let why = gave.reason r.kept in (
          taken_whole input (unread old left) left' (pending new) r.before r.cut why.3,
          ap (place_after g)
              (whole_lines_of r.before (pending new) (r.whole why.0) why.4) ∙ r.leads.behind,
        )

    module _ (line : List ℕ) (gave : GaveLine old new left left' line) where
      says_is : line_of gave.takes.piece ≡ line
      says_is = says_line _ _ _ _ _ line gave.takes

      -- the line is read by the grammar alone
      next_is : next_place g p gave.takes.piece ≡ placed p gave.takes.piece (g.read p.said line)
      next_is =
          next-within g p gave.takes.piece
          (subst (λ l. length l ≤ 4096) (sym says_is) gave.takes.short)
          (let a = gave.takes.counted in let b = gave.takes.within in let c =
          r.looked in omega arith)
          ∙ ap (λ l. placed p gave.takes.piece (g.read p.said l)) says_is

      pub line_refused : (why : LineRefusal) → g.read p.said line ≡ Err why
          → Says g input (Refused (lines_given new) why p.said)
      line_refused why e =
          let same : lines_given new ≡ p.lines + 1 = gave.lines ∙ ap (λ n. n + 1) r.lines in
          rw same (refused_taken input (unread new left') r.before p gave.takes.piece why r.leads
          (cut_on _ _ _ _ _ _ line r.before r.cut gave.takes)
          (next_is ∙ ap (placed p gave.takes.piece) e))

      abbrev pub place_now : S → Place S
      place_now s =
          record { said = s; lines = p.lines + 1; bytes = p.bytes + length gave.takes.piece }

      pub line_read : (s : S) → g.read p.said line ≡ Ok s → ReadsTo g input new left' (place_now s)
      line_read s e = record {
        before = r.before ++ gave.takes.piece ∷ [];
        cut = cut_on _ _ _ _ _ _ line r.before r.cut gave.takes;
        leads = leads_on g r.before p (place_now s) gave.takes.piece r.leads
            (next_is ∙ ap (placed p gave.takes.piece) e);
        whole = whole_on old new left left' line gave r.before r.whole;
        over = over_on old new left left' line gave;
        kept = gave.kept;
        lines = gave.lines ∙ ap (λ n. n + 1) r.lines;
        looked = gave.takes.counted ∙ ap (λ n. n + length gave.takes.piece) r.looked;
      }
