-- What an auditor makes of the lines behind the header.
use Rattle.std.proofs.Common.{Bool, true, false, ◌≡◌, ◌≤◌, ◌+◌, ◌++◌, ℕ, List, [], ◌∷◌, None, Some, Ok, length, nat_lt, refl, sym, ap, subst, ◌∙◌, arith, append_assoc, append-nil, codes}
use Rattle.std.proofs.lemmas.Bool.Decides.{nat_tests}
use Rattle.std.proofs.lemmas.Slice.Eq.{bytes_eq-Decides}
use Rattle.std.proofs.lemmas.List.{length-append}
use Rattle.std.specs.Str.{bytes_eq}
use Rattle.lk_names.specs.declared.events.Event.{Event}
use Rattle.lk_rows.specs.Run.{Occurrence}
use Rattle.lk_rows.specs.declared.setup.Setup.{Setup}
use Rattle.lk_text.specs.Feeds.{HasNoFeed, pieces, line_of}
use Rattle.lk_text.specs.declared.reader.TheConstants.{MAX_INPUT, MAX_LINE}
use Rattle.lk_forms.specs.Grammar.{Reading, has_go}
use Rattle.lk_forms.specs.Texts.{event_text, lines}
use Rattle.lk_stream.specs.Grammar.{Place, placed, next_place, says_from, unless_refused}
use Rattle.lk_stream.proofs.Pieces.{pieces_at_feed, line_of_feed}
use Rattle.lk_audit_forms.specs.Parts.{spaced}
use Rattle.lk_audit_forms.specs.EventLines.{event_of_words, event_told}
use Rattle.lk_audit_forms.specs.Exact.{IsTold}
use Rattle.lk_audit_forms.specs.Ranges.{checked, read_event}
use Rattle.lk_audit_forms.specs.Closing.{as_told, open_words}
use Rattle.lk_audit_forms.specs.Grammar.{Said, last_act, said_on, read, audit_grammar}
use Rattle.lk_audit_forms.proofs.Events.{printed_is_read}
use Rattle.lk_audit.proofs.Told.{last_act-push}
use Rattle.lk_audit_law.proofs.Plain.{IsPlain, event_line, event_line_is, event_plain, no_feed}
use Rattle.lk_audit_law.proofs.Histories.{AreTold}

-- an auditor at this place takes this text, and then knows this
pub record Passes (p : Place Said) (text : List ℕ) (after : Said) : Type 0 where
  pub place : Place Said
  pub says : (more : List ℕ) → says_from audit_grammar p (pieces (text ++ more)) ≡ says_from audit_grammar place (pieces more)
  pub said : place.said ≡ after
  pub bytes : place.bytes ≡ p.bytes + length text

pub nothing_more : (p : Place Said) → Passes p [] p.said
nothing_more p = record { place = p; says = λ more. refl; said = refl; bytes = omega arith }

-- one text, and then another
pub and_on : (p : Place Said) (a b : List ℕ) (s t : Said) → Passes p a s
    → ((q : Place Said) → q.said ≡ s → q.bytes ≡ p.bytes + length a → Passes q b t) → Passes p (a ++ b) t
and_on p a b s t first next =
    let rest = next first.place first.said first.bytes in
    record {
      place = rest.place;
      says = λ more. ap (λ l. says_from audit_grammar p (pieces l)) (append_assoc a b more) ∙ first.says (b ++ more) ∙ rest.says more;
      said = rest.said;
      bytes = (let one = first.bytes in let two = rest.bytes in omega (arith, one, two, length-append a b));
    }

-- one line
pub one_line : (p : Place Said) (line : List ℕ) (next : Said) → IsPlain 4000 line → p.bytes + (length line + 1) ≤ MAX_INPUT
    → read p.said line ≡ Ok next → Passes p (line ++ codes "\n") next
one_line p line next plain room reads =
    record {
      place = record { said = next; lines = p.lines + 1; bytes = p.bytes + length (line ++ codes "\n") };
      says = λ more. ap (λ l. says_from audit_grammar p (pieces l)) (append_assoc line (codes "\n") more)
          ∙ ap (says_from audit_grammar p) (pieces_at_feed line more clear)
          ∙ ap (λ r. unless_refused p r (λ q. says_from audit_grammar q (pieces more))) accepted;
      said = refl;
      bytes = refl;
    }
  where
    clear : HasNoFeed line
    clear = no_feed line plain.lack

    cut : line_of (line ++ 10 ∷ []) ≡ line
    cut = line_of_feed line [] clear

    accepted : next_place audit_grammar p (line ++ 10 ∷ [])
        ≡ Ok (record { said = next; lines = p.lines + 1; bytes = p.bytes + length (line ++ codes "\n") })
    accepted =
        let few = plain.few in
        let short : nat_lt MAX_LINE (length line) ≡ false = grind (arith, nat_tests, few) in
        let much : nat_lt MAX_INPUT (p.bytes + length (line ++ 10 ∷ [])) ≡ false = grind (arith, nat_tests, room, length-append line (10 ∷ [])) in
        rw (cut, short, much) (ap (placed p (line ++ 10 ∷ [])) reads)

-- the line of an event

no_event : (args : List (List ℕ)) → event_of_words (codes "end" ∷ args) ≡ None
no_event [] = refl
no_event (b ∷ []) = refl
no_event (b ∷ c ∷ args) = refl

is_event : (s : Setup) (last : ℕ) (line : List ℕ) (ws : List (List ℕ)) (told : ℕ × Event) → event_of_words ws ≡ Some told
    → open_words s last line ws ≡ as_told (read_event s last line)
is_event s last line [] told is = cc
is_event s last line (first ∷ args) told is = by_test (bytes_eq first (codes "end")) refl
  where
    by_test : (t : Bool) → bytes_eq first (codes "end") ≡ t → open_words s last line (first ∷ args) ≡ as_told (read_event s last line)
    by_test true e =
        let same = (bytes_eq-Decides first (codes "end")).0 e in
        let none : event_of_words (first ∷ args) ≡ None = ap (λ w. event_of_words (w ∷ args)) same ∙ no_event args in
        cc
    by_test false e = rw e refl

abbrev pub open_said : Reading → List Occurrence → Said
open_said r h = record { header = r; history = h; closed = 0 }

event_read : (r : Reading) (h : List Occurrence) (act : ℕ) (e : Event) → has_go r ≡ true → IsTold act e
    → checked r.setup (last_act h) (Some (act, e)) ≡ Ok (act, e)
    → read (open_said r h) (event_line act e) ≡ Ok (open_said r (h ++ record { act = act; event = e } ∷ []))
event_read r h act e gone told fits =
    let words : event_told (event_line act e) ≡ Some (act, e) = printed_is_read (event_line act e) act e told (event_line_is act e) in
    let reads : read_event r.setup (last_act h) (event_line act e) ≡ Ok (act, e) = ap (checked r.setup (last_act h)) words ∙ fits in
    rw gone (ap (said_on (open_said r h))
    (is_event r.setup (last_act h) (event_line act e) (spaced (event_line act e)) (act, e) words ∙ ap as_told reads))

-- the lines of a history
pub history_passes : (os : List Occurrence) (p : Place Said) (r : Reading) (h : List Occurrence) → has_go r ≡ true
    → p.said ≡ open_said r h → AreTold r.setup (last_act h) os → p.bytes + length (lines os) ≤ MAX_INPUT
    → Passes p (lines os) (open_said r (h ++ os))
history_passes [] p r h gone is told room =
    subst (Passes p []) (is ∙ ap (open_said r) (sym (append-nil h))) (nothing_more p)
history_passes (o ∷ os) p r h gone is told room =
    let line = event_line o.act o.event in
    let whole = event_line_is o.act o.event in
    let long : length line + 1 ≡ length (event_text o.act o.event) =
    sym (length-append line (codes "\n")) ∙ ap length whole in
    let all = length-append (event_text o.act o.event) (lines os) in
    let here = one_line p line (open_said r (h ++ o ∷ [])) (event_plain o.act o.event told.0) (omega (arith, room, long, all))
    (ap (λ x. read x line) is ∙ event_read r h o.act o.event gone told.0 told.1) in
    let here' = subst (λ t. Passes p t (open_said r (h ++ o ∷ []))) whole here in
    subst (λ l. Passes p (lines (o ∷ os)) (open_said r l)) (append_assoc h (o ∷ []) os)
    (and_on p (event_text o.act o.event) (lines os) (open_said r (h ++ o ∷ [])) (open_said r ((h ++ o ∷ []) ++ os)) here'
    (λ q said bytes. history_passes os q r (h ++ o ∷ []) gone said
    (subst (λ n. AreTold r.setup n os) (sym (last_act-push h o)) told.2) (omega (arith, room, all, bytes))))
