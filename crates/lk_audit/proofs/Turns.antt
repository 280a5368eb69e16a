-- What one line more of a text comes to.
use Rattle.std.proofs.Common.{true, false, ◌≡◌, ◌≤◌, ◌+◌, ◌++◌, ℕ, List, [], ◌∷◌, Option, None, Some, Ok, Err, length, inl, inr, refl, sym, ap, subst, ◌∙◌, append_assoc, arith}
use Rattle.std.specs.Io.KnownBytes.{IsAtEnd}
use Rattle.lk_names.specs.declared.events.Breach.{Breach}
use Rattle.lk_text.specs.Feeds.{pieces}
use Rattle.lk_text.specs.Reader.{unread, lines_given, is_ended, IsFresh, GaveLine, MetEnd, GaveFault}
use Rattle.lk_text.specs.declared.reader.LineReader.{LineReader}
use Rattle.lk_text.specs.declared.reader.LineFault.{LineFault}
use Rattle.lk_text.specs.declared.reader.LineFault.TheVariants.{ReadFault, TooLong, TooMuch}
use Rattle.lk_forms.specs.Grammar.{Reading, nothing_read, has_go}
use Rattle.lk_forms.specs.Reader.{ReadsOn}
use Rattle.lk_forms.specs.declared.answers.Fault.{Fault}
use Rattle.lk_forms.specs.declared.answers.LineRefusal.{LineRefusal}
use Rattle.lk_forms.specs.declared.answers.LineRefusal.TheVariants.{Bad, Limit, Memory}
use Rattle.lk_forms.specs.Grammar.{read as read_header}
use Rattle.lk_stream.specs.Grammar.{Place, Good, Refused, Says, placed, next_place, says_at_end}
use Rattle.lk_stream.specs.Reads.{IsCutTo}
use Rattle.lk_stream.proofs.Cuts.{cut_on, says_line}
use Rattle.lk_stream.proofs.Places.{next-within}
use Rattle.lk_stream.proofs.ReadOn.{reads_nothing, reads_end, long_line, long_text, line_refused, line_read}
use Rattle.lk_abs.proofs.OneMore.{lawful-nil}
use Rattle.lk_audit_forms.specs.Grammar.{Said, in_header, header_on, read, ending, audit_grammar}
use Rattle.lk_audit.specs.Lawful.{IsLawfulSo, IsBroken, Breaks}
use Rattle.lk_rows.specs.Rules.{rules_of}
use Rattle.lk_audit.specs.Outcome.{refused_fault}
use Rattle.lk_audit.specs.Stands.{Stands, StopsRefused, FaultStops, cut_at}
use Rattle.lk_audit.specs.declared.answers.AuditFault.{AuditFault}
use Rattle.lk_audit.specs.declared.answers.AuditFault.TheVariants as fault

-- before the first line
pub stands_first : (reader : LineReader) (header : Reading) (left : Option (List ℕ)) → IsFresh reader
    → header ≡ nothing_read → Stands left reader left (in_header header)
stands_first reader header left fresh none = record {
  place = _;
  reads = reads_nothing audit_grammar reader left fresh;
  said_is = ap in_header (sym none);
}

-- the history of a header is lawful
pub header_lawful : (header : Reading) → IsLawfulSo (in_header header)
header_lawful header = lawful-nil (rules_of header.setup)

-- what a line of the header says
pub read_in_header : (old new : Reading) (line : List ℕ) → has_go old ≡ false
    → read_header old line ≡ Ok new → read (in_header old) line ≡ Ok (in_header new)
read_in_header old new line early is = rw early (ap (header_on (in_header old)) is)

pub refused_in_header : (old : Reading) (line : List ℕ) (why : LineRefusal) → has_go old ≡ false
    → read_header old line ≡ Err why → read (in_header old) line ≡ Err why
refused_in_header old line why early is = rw early (ap (header_on (in_header old)) is)

module _ (input : Option (List ℕ)) (reader reader' : LineReader) (left left' : Option (List ℕ))
    (said : Said) (s : Stands input reader left said) where
  pub goes_on : (line : List ℕ) (next : Said) → GaveLine reader reader' left left' line
      → read said line ≡ Ok next → Stands input reader' left' next
  goes_on line next gave is = record {
    place = _;
    reads = line_read audit_grammar input reader reader' left left' s.place s.reads line gave next
        (ap (λ x. read x line) s.said_is ∙ is);
    said_is = refl;
  }

  pub refused_line : (line : List ℕ) (why : LineRefusal) → IsLawfulSo said
      → GaveLine reader reader' left left' line → read said line ≡ Err why
      → StopsRefused input (lines_given reader') why
  refused_line line why ok gave is = record {
    said = s.place.said;
    refused = line_refused audit_grammar input reader reader' left left' s.place s.reads line gave why
        (ap (λ x. read x line) s.said_is ∙ is);
    lawful = subst IsLawfulSo (sym s.said_is) ok;
  }

  pub cut_line : IsLawfulSo said → (reads reads' : ℕ) (why : LineFault)
      → GaveFault reader reader' left left' reads reads' why
      → FaultStops input reads reads' (cut_at (lines_given reader' + 1) why)
  cut_line ok reads reads' ReadFault gave = (gave.reason s.reads.kept).2
  cut_line ok reads reads' TooLong gave = record {
    said = s.place.said;
    refused = long_line audit_grammar input reader reader' left left' s.place s.reads reads reads' gave;
    lawful = subst IsLawfulSo (sym s.said_is) ok;
  }
  cut_line ok reads reads' TooMuch gave = record {
    said = s.place.said;
    refused = long_text audit_grammar input reader reader' left left' s.place s.reads reads reads' gave;
    lawful = subst IsLawfulSo (sym s.said_is) ok;
  }

  -- what the end of the text says
  pub at_end : MetEnd reader reader' left left' → (is_ended reader ≡ true → left' ≡ left)
      → Says audit_grammar input (says_at_end s.place (ending said)) × IsAtEnd left'
  at_end met idle =
      let end = reads_end audit_grammar input reader reader' left left' s.place s.reads met idle in
      (subst (λ x. Says audit_grammar input (says_at_end s.place (ending x))) s.said_is end.0, end.1)

  pub ends_early : IsLawfulSo said → MetEnd reader reader' left left'
      → (is_ended reader ≡ true → left' ≡ left) → (why : Fault) → ending said ≡ Some why
      → StopsRefused input (lines_given reader' + 1) (Bad why)
  ends_early ok met idle why is =
      let end = at_end met idle in
      let says : Says audit_grammar input (Refused (s.place.lines + 1) (Bad why) s.place.said) =
      subst (λ o. Says audit_grammar input (says_at_end s.place o)) is end.0 in
      let number : s.place.lines + 1 ≡ lines_given reader' + 1 =
      ap (λ n. n + 1) (sym (met.lines ∙ s.reads.lines)) in record {
        said = s.place.said;
        refused = subst (λ n. Says audit_grammar input (Refused n (Bad why) s.place.said)) number says;
        lawful = subst IsLawfulSo (sym s.said_is) ok;
      }

  pub ends_well : MetEnd reader reader' left left' → (is_ended reader ≡ true → left' ≡ left)
      → ending said ≡ None → Says audit_grammar input (Good said) × IsAtEnd left'
  ends_well met idle is =
      let end = at_end met idle in (
        subst (λ x. Says audit_grammar input (Good x)) s.said_is
            (subst (λ o. Says audit_grammar input (says_at_end s.place o)) is end.0),
        end.1,
      )

  -- a line that breaks the history
  module _ (line : List ℕ) (gave : GaveLine reader reader' left left' line) (next : Said) (breach : Breach)
      (is : read said line ≡ Ok next) (broken : IsBroken said next breach) where
    abbrev next_here : Place Said
    next_here =
        record {
          said = next;
          lines = s.place.lines + 1;
          bytes = s.place.bytes + length gave.takes.piece;
        }

    accepted_here : next_place audit_grammar s.place gave.takes.piece ≡ Ok next_here
    accepted_here =
        let line_is = says_line _ _ _ _ _ line gave.takes in
        next-within audit_grammar s.place gave.takes.piece
        (subst (λ l. length l ≤ 4096) (sym line_is) gave.takes.short)
        (let a = gave.takes.counted in let b = gave.takes.within in let c = s.reads.looked in omega arith)
        ∙ ap (λ l. placed s.place gave.takes.piece (read s.place.said l)) line_is
        ∙ ap (placed s.place gave.takes.piece) (ap (λ x. read x line) s.said_is ∙ is)

    breaks_in : (known : Option (List ℕ)) (after : Option (List ℕ))
        → IsCutTo known after (s.reads.before ++ gave.takes.piece ∷ []) → Breaks known (lines_given reader') breach
    breaks_in None after cut = tt
    breaks_in (Some bytes) None cut = absurd cut
    breaks_in (Some bytes) (Some rest) cut = record {
      before = s.reads.before;
      piece = gave.takes.piece;
      rest = pieces rest;
      whole = cut.1 ∙ append_assoc s.reads.before (gave.takes.piece ∷ []) (pieces rest);
      place = s.place;
      leads = s.reads.leads;
      number = gave.lines ∙ ap (λ n. n + 1) s.reads.lines;
      next = next_here;
      accepted = accepted_here;
      broken = subst (λ x. IsBroken x next breach) (sym s.said_is) broken;
    }

    pub breaks_here : Breaks input (lines_given reader') breach
    breaks_here =
        breaks_in input (unread reader' left')
        (cut_on _ _ _ _ _ _ line s.reads.before s.reads.cut gave.takes)

-- a refusal of the header
pub header_stops : (input : Option (List ℕ)) (reader reader' : LineReader) (left left' : Option (List ℕ))
    (old new : Reading) (s : Stands input reader left (in_header old)) → has_go old ≡ false
    → (reads reads' : ℕ) (line : List ℕ) (why : LineRefusal) → GaveLine reader reader' left left' line
    → ReadsOn (read_header old line) old new (Err why)
    → FaultStops input reads reads' (refused_fault (lines_given reader') why)
header_stops input reader reader' left left' old new s early reads reads' line Memory gave is = tt
header_stops input reader reader' left left' old new s early reads reads' line (Bad why) gave (same, inr none) = cc
header_stops input reader reader' left left' old new s early reads reads' line (Bad why) gave (same, inl is) =
    refused_line input reader reader' left left' (in_header old) s line (Bad why) (header_lawful old) gave
    (refused_in_header old line (Bad why) early is)
header_stops input reader reader' left left' old new s early reads reads' line (Limit which) gave (same, inr none) = cc
header_stops input reader reader' left left' old new s early reads reads' line (Limit which) gave (same, inl is) =
    refused_line input reader reader' left left' (in_header old) s line (Limit which) (header_lawful old) gave
    (refused_in_header old line (Limit which) early is)

-- a fault that came in a later line came in the whole
pub stops_sooner : (input : Option (List ℕ)) (reads between reads' : ℕ) (why : AuditFault) → reads ≤ between
    → FaultStops input between reads' why → FaultStops input reads reads' why
stops_sooner input reads between reads' (fault.BadInput line why) le s = s
stops_sooner input reads between reads' (fault.Limit line which) le s = s
stops_sooner input reads between reads' (fault.Breach line name) le s = s
stops_sooner input reads between reads' fault.ReadFault le s = omega (arith, s, le)
stops_sooner input reads between reads' fault.WriteFault le s = s
stops_sooner input reads between reads' fault.Memory le s = s
