-- What one line more tells.
use Rattle.std.proofs.Common.{Bool, true, false, ◌≡◌, ◌<◌, ◌+◌, ◌-◌, ◌==◌, ◌&&◌, ℕ, List, [], ◌∷◌, ◌++◌, Option, None, Some, Result, Ok, Err, nat_lt, nat_le, is_some, refl, sym, subst, arith, codes, if◌then◌else◌}
use Rattle.std.proofs.lemmas.Bool.Decides.{nat_tests}
use Rattle.std.proofs.lemmas.List.{map-append}
use Rattle.std.specs.Str.{bytes_eq}
use Rattle.lk_names.specs.declared.events.Event.{Event}
use Rattle.lk_rows.specs.Run.{Occurrence}
use Rattle.lk_rows.specs.declared.setup.Setup.{Setup}
use Rattle.lk_text.proofs.NumberLemmas.{and_split}
use Rattle.lk_forms.specs.Texts.{count_name}
use Rattle.lk_forms.specs.declared.limits.TheConstants.{MAX_ACTS}
use Rattle.lk_forms.specs.declared.answers.Fault.{Fault}
use Rattle.lk_forms.specs.declared.answers.Fault.TheVariants.{UnknownWord, OutOfRange, WrongLock, Misplaced}
use Rattle.lk_audit_forms.specs.Parts.{spaced, if_some, one_word, two_words, plain_number}
use Rattle.lk_audit_forms.specs.EventLines.{event_told}
use Rattle.lk_audit_forms.specs.Ranges.{is_next_act, is_in_setup, fits_lock, checked, read_event}
use Rattle.lk_audit_forms.specs.Closing.{closing_lines, end_number, end_args, as_told, open_words, count_words, count_line, line_told}
use Rattle.lk_audit_forms.specs.Grammar.{Said, last_act, with_told}
use Rattle.lk_audit_forms.specs.declared.answers.Told.{Told}
use Rattle.lk_audit_forms.specs.declared.answers.Told.TheVariants as told
use Rattle.lk_audit.specs.Lawful.{events_said}

-- what a line that is accepted tells, behind so many closing lines
abbrev pub Tells : Setup → ℕ → ℕ → Told → Type 0
Tells s last closed (told.Event act e) =
    (closed ≡ 0) × (is_next_act last act ≡ true) × (is_in_setup s e ≡ true)
Tells s last closed told.End = closed ≡ 0
Tells s last closed told.Count = closed < 11

event_checked : (s : Setup) (last : ℕ) (o : Option (ℕ × Event)) (both : ℕ × Event)
    → checked s last o ≡ Ok both → (is_next_act last both.0 ≡ true) × (is_in_setup s both.1 ≡ true)
event_checked s last None both is = cc
event_checked s last (Some x) both is =
    by_range (is_next_act last x.0 && is_in_setup s x.1) (fits_lock s x.1.what) refl is
  where
    by_range : (t fits : Bool) → (is_next_act last x.0 && is_in_setup s x.1) ≡ t
        → (if t then (if fits then Ok x else Err WrongLock) else Err OutOfRange) ≡ Ok both
        → (is_next_act last both.0 ≡ true) × (is_in_setup s both.1 ≡ true)
    by_range false fits e h = cc
    by_range true false e h = cc
    by_range true true e h =
        let same : x ≡ both = cc in
        subst (λ (y : ℕ × Event). (is_next_act last y.0 ≡ true) × (is_in_setup s y.1 ≡ true)) same
        (and_split (is_next_act last x.0) (is_in_setup s x.1) e)

event_tells : (s : Setup) (last : ℕ) (r : Result (ℕ × Event) Fault) (t : Told)
    → ((both : ℕ × Event) → r ≡ Ok both → (is_next_act last both.0 ≡ true) × (is_in_setup s both.1 ≡ true))
    → as_told r ≡ Ok t → Tells s last 0 t
event_tells s last (Err why) t facts is = cc
event_tells s last (Ok both) t facts is =
    let same : told.Event both.0 both.1 ≡ t = cc in
    let known = facts both refl in
    subst (Tells s last 0) same (refl, known.0, known.1)

end_tells : (s : Setup) (last : ℕ) (o : Option ℕ) (t : Told) → end_number last o ≡ Ok t → Tells s last 0 t
end_tells s last None t is = cc
end_tells s last (Some n) t is = by_range (nat_le last n && nat_le n MAX_ACTS) is
  where
    by_range : (b : Bool) → (if b then Ok told.End else Err OutOfRange) ≡ Ok t → Tells s last 0 t
    by_range false h = cc
    by_range true h = (let same : told.End ≡ t = cc in subst (Tells s last 0) same refl)

open_tells : (s : Setup) (last : ℕ) (line : List ℕ) (ws : List (List ℕ)) (t : Told)
    → open_words s last line ws ≡ Ok t → Tells s last 0 t
open_tells s last line [] t is = cc
open_tells s last line (first ∷ args) t is = by_word (bytes_eq first (codes "end")) is
  where
    by_word : (b : Bool) → (if b then end_args last args else as_told (read_event s last line)) ≡ Ok t → Tells s last 0 t
    by_word true h = end_tells s last (if_some (one_word args) plain_number) t h
    by_word false h =
        event_tells s last (read_event s last line) t (λ both e. event_checked s last (event_told line) both e) h

count_tells : (s : Setup) (last closed which : ℕ) (o : Option (List ℕ × List ℕ)) (t : Told) → closed < 11
    → count_words which o ≡ Ok t → Tells s last closed t
count_tells s last closed which None t few is = cc
count_tells s last closed which (Some both) t few is = by_name (bytes_eq both.0 (count_name which) && is_some (plain_number both.1)) is
  where
    by_name : (b : Bool) → (if b then Ok told.Count else Err UnknownWord) ≡ Ok t → Tells s last closed t
    by_name false h = cc
    by_name true h = (let same : told.Count ≡ t = cc in subst (Tells s last closed) same few)

pub line_tells : (s : Setup) (last closed : ℕ) (line : List ℕ) (t : Told)
    → line_told s last closed line ≡ Ok t → Tells s last closed t
line_tells s last closed line t is = by_first (closed == 0) (nat_lt closed closing_lines) refl refl is
  where
    by_first : (b c : Bool) → (closed == 0) ≡ b → nat_lt closed closing_lines ≡ c
        → (if b then open_words s last line (spaced line) else if c then count_line (closed - 1) line else Err Misplaced) ≡ Ok t
        → Tells s last closed t
    by_first true c e f h =
        let none : closed ≡ 0 = grind (arith, nat_tests, e) in
        subst (λ n. Tells s last n t) (sym none) (open_tells s last line (spaced line) t h)
    by_first false true e f h =
        count_tells s last closed (closed - 1) (two_words (spaced line)) t (grind (arith, nat_tests, f)) h
    by_first false false e f h = cc

-- with one event more

pub last_act-push : (os : List Occurrence) (o : Occurrence) → last_act (os ++ o ∷ []) ≡ o.act
last_act-push [] o = refl
last_act-push (p ∷ []) o = refl
last_act-push (p ∷ q ∷ os) o = last_act-push (q ∷ os) o

pub events-push : (said : Said) (act : ℕ) (e : Event)
    → events_said (with_told said (told.Event act e)) ≡ events_said said ++ e ∷ []
events-push said act e = map-append (λ (o : Occurrence). o.event) said.history _
