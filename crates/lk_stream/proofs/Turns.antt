-- What one line more of a text comes to.
use Rattle.std.proofs.Common.{true, ◌≡◌, ◌+◌, ◌++◌, ℕ, List, [], ◌∷◌, Option, Some, None, Ok, sym, ap, ◌∙◌, subst, refl, append-nil}
use Rattle.std.specs.Io.KnownBytes.{IsAtEnd, Keeps}
use Rattle.lk_text.specs.Bytes.{AppendsFront, Conveys}
use Rattle.lk_text.specs.Feeds.{pieces}
use Rattle.lk_text.specs.Reader.{unread, pending, lines_given, is_ended, IsFresh, GaveLine, MetEnd, GaveFault}
use Rattle.lk_text.specs.declared.reader.LineReader.{LineReader}
use Rattle.lk_text.specs.declared.reader.LineFault.{LineFault}
use Rattle.lk_text.specs.declared.reader.LineFault.TheVariants.{ReadFault, TooLong, TooMuch}
use Rattle.lk_text.proofs.Conveyed.{Conveys-nothing, Conveys-trans, front_of_more, front_of_conveyed, front_of_rest}
use Rattle.lk_forms.specs.declared.answers.Fault.{Fault}
use Rattle.lk_forms.specs.declared.answers.LineRefusal.{LineRefusal}
use Rattle.lk_forms.specs.declared.answers.LineRefusal.TheVariants.{Bad, Limit, Memory}
use Rattle.lk_forms.specs.Trace.{bytes_of}
use Rattle.lk_stream.specs.Grammar.{Grammar, Place, Refused, Says, first_place, says_at_end, says_from}
use Rattle.lk_stream.specs.Reads.{IsCutTo, ReadsTo}
use Rattle.lk_stream.specs.Line.{GoesOn, Fails, Stays}
use Rattle.lk_stream.specs.Outcome.{refused_fault}
use Rattle.lk_stream.specs.Stands.{Stands, SaysFrom, FailsAt, FaultStops, TurnsTo, cut_at, end_at}
use Rattle.lk_stream.proofs.Places.{text_grows}
use Rattle.lk_stream.proofs.ReadOn.{reads_nothing, reads_end, long_line, long_text, taken_lines, line_refused, place_now, line_read}

-- before the first line
pub starts : {S : Type 0} (g : Grammar S) (shows : S → Type 0) (reader : LineReader)
    (left held : Option (List ℕ)) (waits : List ℕ) → IsFresh reader → shows g.start
    → g.text g.start ≡ [] → waits ≡ [] → Stands g shows left held reader waits left held
starts g shows reader left held waits fresh shown silent none = record {
  place = first_place g;
  reads = reads_nothing g reader left fresh;
  shown = shown;
  written = rw (silent, none) (Conveys-nothing held []);
}

-- where no text was to be written, the sink holds what it held
keeps_nothing : (held held_now : Option (List ℕ)) (text waits : List ℕ) → text ≡ []
    → Conveys held held_now [] text waits → Keeps held held_now
keeps_nothing None held_now text waits none c = tt
keeps_nothing (Some xs) None text waits none c = absurd c.grown
keeps_nothing (Some xs) (Some ys) text waits none c =
    let empty : c.put ≡ [] = front_empty c.put waits (sym c.whole ∙ none) in
    c.grown ∙ ap (λ l. xs ++ l) empty ∙ append-nil xs
  where
    front_empty : (xs ys : List ℕ) → xs ++ ys ≡ [] → xs ≡ []
    front_empty [] ys e = refl
    front_empty (x ∷ xs) ys e = cc

module _ {S : Type 0} (g : Grammar S) (shows : S → Type 0)
    (grows : (s t : S) (line : List ℕ) → g.read s line ≡ Ok t
    → (more : List ℕ) × (g.text t ≡ g.text s ++ more))
    (input held : Option (List ℕ)) where
  -- what the text says behind these lines
  says_on : (rest : Option (List ℕ)) (reader : LineReader) (p : Place S)
      → ReadsTo g input reader rest p → SaysFrom g input (g.text p.said)
  says_on rest reader p r = by_input input (unread reader rest) r.cut
    where
      by_input : (known after : Option (List ℕ)) → IsCutTo known after r.before
          → SaysFrom g known (g.text p.said)
      by_input None after cut =
          record {
            saying = Refused 0 Memory p.said;
            says = tt;
            more = [];
            whole =
                sym (append-nil (g.text p.said));
          }
      by_input (Some xs) None cut = absurd cut
      by_input (Some xs) (Some ys) cut =
          let on = text_grows g grows (pieces ys) p in record {
            saying = says_from g p (pieces ys);
            says = ap (says_from g (first_place g)) cut.1 ∙ r.leads.accepted (pieces ys);
            more = on.0;
            whole = on.1;
          }

  pub fails_with : (held_now : Option (List ℕ)) (text : List ℕ) → SaysFrom g input text
      → AppendsFront held held_now text → FailsAt g input held held_now
  fails_with held_now text from cut =
      record {
        saying = from.saying;
        says = from.says;
        written =
            rw from.whole (front_of_more held held_now text from.more cut);
      }

  -- what waits is put before the next line is read
  pub stands_put : (reader : LineReader) (waits waits' : List ℕ)
      (left held_now held' : Option (List ℕ))
      → Stands g shows input held reader waits left held_now
      → Conveys held_now held' waits [] waits'
      → Stands g shows input held reader waits' left held'
  stands_put reader waits waits' left held_now held' s put = record {
    place = s.place;
    reads = s.reads;
    shown = s.shown;
    written = subst (λ l. Conveys held held' [] l waits') (append-nil (g.text s.place.said))
        (Conveys-trans held held_now held' [] waits waits' _ [] s.written put);
  }

  -- a write of it failed
  pub put_fails : (reader : LineReader) (waits : List ℕ) (left held_now held' : Option (List ℕ))
      → Stands g shows input held reader waits left held_now → AppendsFront held_now held' waits
      → FailsAt g input held held'
  put_fails reader waits left held_now held' s cut =
      fails_with held' (g.text s.place.said) (says_on left reader s.place s.reads)
      (front_of_conveyed held held_now held' [] waits _ s.written cut)

  module _ (old reader : LineReader) (waits : List ℕ) (left left' held_now : Option (List ℕ))
      (s : Stands g shows input held old waits left held_now) where
    -- at the end of the text
    pub turn_ends : (o : Option Fault) → o ≡ g.ending s.place.said → MetEnd old reader left left'
        → (is_ended old ≡ true → left' ≡ left)
        → TurnsTo g shows input held reader waits left' held_now (end_at (lines_given reader + 1) o)
    turn_ends o is met idle =
        let end = reads_end g input old reader left left' s.place s.reads met idle in
        by_end o is (subst (λ x. Says g input (says_at_end s.place x)) (sym is) end.0) end.1
      where
        line_is : lines_given reader + 1 ≡ s.place.lines + 1
        line_is = ap (λ n. n + 1) (met.lines ∙ s.reads.lines)

        by_end : (o : Option Fault) → o ≡ g.ending s.place.said
            → Says g input (says_at_end s.place o) → IsAtEnd left'
            → TurnsTo g shows input held reader waits left' held_now
            (end_at (lines_given reader + 1) o)
        by_end None e says over =
            record {
              said = s.place.said;
              ends = sym e;
              good = says;
              over = over;
              shown =
                  s.shown;
              written = s.written;
            }
        by_end (Some why) e says over =
            record { said = s.place.said; refused = rw line_is says; written = s.written }

    -- at a fault of the reader
    pub turn_cut : (reads reads' : ℕ) (why : LineFault)
        → GaveFault old reader left left' reads reads' why
        → FaultStops g input held waits left' held_now (cut_at (lines_given reader + 1) why)
    turn_cut reads reads' ReadFault gave =
        let taken =
        taken_lines g input old reader left left' s.place s.reads reads reads' gave in record {
          taken = bytes_of s.reads.before ++ pending reader;
          consumed = taken.0;
          from = subst (λ p. SaysFrom g input (g.text p.said)) (sym taken.1)
              (says_on left old s.place s.reads);
          written =
              subst (λ p. Conveys held held_now [] (g.text p.said) waits) (sym taken.1) s.written;
        }
    turn_cut reads reads' TooLong gave =
        record {
          said = s.place.said;
          refused =
              long_line g input old reader left left' s.place s.reads reads reads' gave;
          written =
              s.written;
        }
    turn_cut reads reads' TooMuch gave =
        record {
          said = s.place.said;
          refused =
              long_text g input old reader left left' s.place s.reads reads reads' gave;
          written =
              s.written;
        }

    module _ (line : List ℕ) (gave : GaveLine old reader left left' line)
        (held' : Option (List ℕ)) where
      -- at a line that is refused
      pub turn_refused : (waits' : List ℕ) (why : LineRefusal)
          → Stays g s.place.said line why held_now held' waits waits'
          → FaultStops g input held waits' left' held' (refused_fault (lines_given reader) why)
      turn_refused waits' (Bad why) is = record {
        said = s.place.said;
        refused =
            line_refused g input old reader left left' s.place s.reads line gave
            (Bad why) is.refuses;
        written = rw (is.held_is, is.waits_is) s.written;
      }
      turn_refused waits' (Limit which) is = record {
        said = s.place.said;
        refused =
            line_refused g input old reader left left' s.place s.reads line gave
            (Limit which) is.refuses;
        written = rw (is.held_is, is.waits_is) s.written;
      }
      turn_refused waits' Memory is =
          rw is.held_is
          (keeps_nothing held held_now (g.text s.place.said) waits is.refuses s.written)

      -- at one that is accepted
      pub turn_goes_on : (now : S → Type 0) (waits' : List ℕ)
          → GoesOn g now s.place.said line held_now held' waits waits'
          → Stands g now input held reader waits' left' held'
      turn_goes_on now waits' is = record {
        place = place_now g input old reader left left' s.place s.reads line gave is.said;
        reads = line_read g input old reader left left' s.place s.reads line gave is.said is.reads;
        shown = is.shown;
        written =
            rw is.text (Conveys-trans held held_now held' [] waits waits' _ _ s.written is.written);
      }

      -- at one whose text could not be written
      pub turn_fails : Fails g s.place.said line held_now held' waits → FailsAt g input held held'
      turn_fails is =
          fails_with held' (g.text is.said)
          (says_on left' reader _
          (line_read g input old reader left left' s.place s.reads line gave is.said is.reads))
          (rw is.text (front_of_rest held held_now held' [] waits _ _ s.written is.written))
