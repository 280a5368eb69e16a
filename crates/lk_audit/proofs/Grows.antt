-- A text behind the header only adds to its history.
use Rattle.std.proofs.Common.{Bool, true, false, ◌≡◌, ◌++◌, ◌+◌, ◌&&◌, nat_lt, nat_le, ℕ, List, [], ◌∷◌, Option, None, Some, Result, Ok, Err, length, fold, refl, sym, ap, subst, ◌∙◌, append_assoc, append-nil, if◌then◌else◌}
use Rattle.std.proofs.lemmas.List.{map-append}
use Rattle.std.specs.Result.{result_unwrap_or}
use Rattle.lk_names.specs.Lawful.{Rules, IsLawful}
use Rattle.lk_names.specs.declared.events.Event.{Event}
use Rattle.lk_abs.proofs.OneMore.{lawful-front}
use Rattle.lk_rows.specs.Run.{Occurrence, events_of}
use Rattle.lk_text.specs.Feeds.{line_of}
use Rattle.lk_forms.specs.Grammar.{Reading, has_go}
use Rattle.lk_text.specs.declared.reader.TheConstants.{MAX_INPUT, MAX_LINE}
use Rattle.lk_forms.specs.declared.answers.Fault.{Fault}
use Rattle.lk_forms.specs.declared.answers.Which.TheVariants.{Line, Input}
use Rattle.lk_forms.specs.declared.answers.LineRefusal.{LineRefusal}
use Rattle.lk_forms.specs.declared.answers.LineRefusal.TheVariants.{Limit}
use Rattle.lk_stream.specs.Grammar.{Place, Saying, Good, Refused, placed, next_place, says_at_end, unless_refused, says_from}
use Rattle.lk_audit_forms.specs.Closing.{line_told}
use Rattle.lk_audit_forms.specs.Grammar.{Said, last_act, with_told, said_on, read, ending, audit_grammar}
use Rattle.lk_audit_forms.specs.declared.answers.Told.{Told}
use Rattle.lk_audit_forms.specs.declared.answers.Told.TheVariants as told
use Rattle.lk_audit.specs.Lawful.{events_said, IsLawfulSo}
use Rattle.lk_rows.specs.Rules.{rules_of}

-- the header stays, and the history is added to
pub record GrowsTo (s t : Said) : Type 0 where
  pub header : t.header ≡ s.header
  pub more : List Occurrence
  pub history : t.history ≡ s.history ++ more

pub grows_not : (s : Said) → GrowsTo s s
grows_not s = record { header = refl; more = []; history = sym (append-nil s.history) }

pub grows_on : (s t u : Said) → GrowsTo s t → GrowsTo t u → GrowsTo s u
grows_on s t u a b = record {
  header = b.header ∙ a.header;
  more = a.more ++ b.more;
  history = b.history ∙ ap (λ l. l ++ b.more) a.history ∙ append_assoc s.history a.more b.more;
}

told_grows : (s : Said) (t : Told) → GrowsTo s (with_told s t)
told_grows s (told.Event act e) = record { header = refl; more = record { act = act; event = e } ∷ []; history = refl }
told_grows s told.End = record { header = refl; more = []; history = sym (append-nil s.history) }
told_grows s told.Count = record { header = refl; more = []; history = sym (append-nil s.history) }

said_grows : (s u : Said) (r : Result Told Fault) → said_on s r ≡ Ok u → GrowsTo s u
said_grows s u (Ok t) is = (let same : with_told s t ≡ u = cc in subst (GrowsTo s) same (told_grows s t))
said_grows s u (Err why) is = cc

pub read_grows : (s u : Said) (line : List ℕ) → has_go s.header ≡ true → read s line ≡ Ok u → GrowsTo s u
read_grows s u line gone is =
    let told = line_told s.header.setup (last_act s.history) s.closed line in
    said_grows s u told (sym (rw gone refl) ∙ is)

placed_grows : (p q : Place Said) (piece : List ℕ) (r : Result Said LineRefusal)
    → ((u : Said) → r ≡ Ok u → GrowsTo p.said u) → placed p piece r ≡ Ok q → GrowsTo p.said q.said
placed_grows p q piece (Ok u) on is =
    (let same : u ≡ q.said = cc in subst (GrowsTo p.said) same (on u refl))
placed_grows p q piece (Err why) on is = cc

pub next_grows : (p q : Place Said) (piece : List ℕ) → has_go p.said.header ≡ true
    → next_place audit_grammar p piece ≡ Ok q → GrowsTo p.said q.said
next_grows p q piece gone is =
    by_tests (nat_lt MAX_LINE (length (line_of piece)) && nat_le (p.bytes + MAX_LINE) MAX_INPUT)
    (nat_lt MAX_INPUT (p.bytes + length piece)) is
  where
    by_tests : (long much : Bool)
        → (if long then Err (Limit Line) else if much then Err (Limit Input) else placed p piece
        (read p.said (line_of piece))) ≡ Ok q
        → GrowsTo p.said q.said
    by_tests true much h = cc
    by_tests false true h = cc
    by_tests false false h =
        placed_grows p q piece (read p.said (line_of piece)) (λ u e. read_grows p.said u (line_of piece) gone e) h

-- what a text says
abbrev pub said_in : Saying Said → Said
said_in (Good s) = s
said_in (Refused line why s) = s

end_grows : (p : Place Said) (o : Option Fault) → GrowsTo p.said (said_in (says_at_end p o))
end_grows p None = grows_not p.said
end_grows p (Some why) = grows_not p.said

gone_on : (s t : Said) → GrowsTo s t → has_go s.header ≡ true → has_go t.header ≡ true
gone_on s t g gone = ap has_go g.header ∙ gone

then_grows : (p : Place Said) (rest : List (List ℕ)) (r : Result (Place Said) LineRefusal)
    → ((q : Place Said) → r ≡ Ok q → GrowsTo p.said (said_in (says_from audit_grammar q rest)))
    → GrowsTo p.said (said_in (unless_refused p r (λ q. says_from audit_grammar q rest)))
then_grows p rest (Ok q) on = on q refl
then_grows p rest (Err why) on = grows_not p.said

pub saying_grows : (ps : List (List ℕ)) (p : Place Said) → has_go p.said.header ≡ true
    → GrowsTo p.said (said_in (says_from audit_grammar p ps))
saying_grows [] p gone = end_grows p (ending p.said)
saying_grows (piece ∷ rest) p gone =
    then_grows p rest (next_place audit_grammar p piece) (λ q is.
    let now = next_grows p q piece gone is in
    grows_on p.said q.said _ now (saying_grows rest q (gone_on p.said q.said now gone)))

-- lines that follow, refused ones passed over
unwrap_grows : (p : Place Said) (r : Result (Place Said) LineRefusal)
    → ((q : Place Said) → r ≡ Ok q → GrowsTo p.said q.said) → GrowsTo p.said (result_unwrap_or r p).said
unwrap_grows p (Ok q) on = on q refl
unwrap_grows p (Err why) on = grows_not p.said

abbrev pub follow : Place Said → List ℕ → Place Said
follow p piece = result_unwrap_or (next_place audit_grammar p piece) p

pub place_grows : (ps : List (List ℕ)) (p : Place Said) → has_go p.said.header ≡ true
    → GrowsTo p.said (fold follow p ps).said
place_grows [] p gone = grows_not p.said
place_grows (piece ∷ ps) p gone =
    let now = unwrap_grows p (next_place audit_grammar p piece) (λ q is. next_grows p q piece gone is) in
    grows_on p.said (follow p piece).said _ now
    (place_grows ps (follow p piece) (gone_on p.said (follow p piece).said now gone))

-- what a lawful history begins with is lawful
lawful_begins : (rules : Rules) (fs es : List Event) → IsLawful rules (es ++ fs) → IsLawful rules es
lawful_begins rules [] es ok = subst (IsLawful rules) (append-nil es) ok
lawful_begins rules (f ∷ fs) es ok =
    lawful-front rules es f
    (lawful_begins rules fs (es ++ f ∷ []) (subst (IsLawful rules) (sym (append_assoc es (f ∷ []) fs)) ok))

pub lawful_before : (s t : Said) → GrowsTo s t → IsLawfulSo t → IsLawfulSo s
lawful_before s t g ok =
    let header : IsLawful (rules_of s.header.setup) (events_said t) =
    subst (λ (r : Reading). IsLawful (rules_of r.setup) (events_said t)) g.header ok in
    let events : events_said t ≡ events_said s ++ events_of g.more =
    ap events_of g.history ∙ map-append (λ (o : Occurrence). o.event) s.history g.more in
    lawful_begins (rules_of s.header.setup) (events_of g.more) (events_said s)
    (subst (IsLawful (rules_of s.header.setup)) events header)
