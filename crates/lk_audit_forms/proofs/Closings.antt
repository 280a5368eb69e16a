-- The closing lines are read exactly as they are printed.
use Rattle.std.proofs.Common.{Bool, true, false, ◌≡◌, ◌<◌, ◌-◌, ◌==◌, ◌++◌, ◌&&◌, ◌^◌, ℕ, suc, List, [], ◌∷◌, Option, None, Some, Result, Ok, Err, nat_lt, nat_le, is_some, refl, sym, ap, ◌∙◌, arith, append_assoc, append-nil, codes, decimal, if◌then◌else◌}
use Rattle.std.proofs.lemmas.Bool.Decides.{nat_tests}
use Rattle.std.proofs.lemmas.Slice.Eq.{bytes_eq-Decides}
use Rattle.std.specs.Str.{bytes_eq}
use Rattle.lk_names.specs.declared.events.Event.{Event}
use Rattle.lk_rows.specs.declared.setup.Setup.{Setup}
use Rattle.lk_forms.specs.declared.limits.TheConstants.{MAX_ACTS}
use Rattle.lk_forms.specs.declared.answers.Fault.{Fault}
use Rattle.lk_forms.specs.declared.answers.Fault.TheVariants.{UnknownWord, OutOfRange}
use Rattle.lk_forms.specs.Texts.{count_name}
use Rattle.lk_text.proofs.NumberLemmas.{and_split}
use Rattle.lk_audit_forms.specs.Parts.{spaced, two_words, plain_number}
use Rattle.lk_audit_forms.specs.Ranges.{read_event}
use Rattle.lk_audit_forms.specs.Closing.{closing_lines, end_number, end_args, as_told, open_words, count_words, count_line, line_told}
use Rattle.lk_audit_forms.specs.ExactClosing.{EndIsRead, EndsAt, EndIsPrinted, CountIsRead, Counts, CountIsPrinted}
use Rattle.lk_audit_forms.specs.declared.answers.Told.TheVariants as told
use Rattle.lk_audit_forms.proofs.Events.{cut_last}
use Rattle.lk_audit_forms.proofs.Marks.{lacks, parts_all, parts_back, decimal_lacks}
use Rattle.lk_audit_forms.proofs.Numbers.{plain_printed, plain_read}

-- a word and a number with a space between them, cut apart
number_cut : (word : List ℕ) (n : ℕ) → lacks 32 word ≡ true → n < 2 ^ 64
    → spaced (word ++ 32 ∷ decimal n) ≡ word ∷ decimal n ∷ []
number_cut word n lack small =
    ap (λ l. spaced (word ++ 32 ∷ l)) (sym (append-nil (decimal n)))
    ∙ parts_all 32 word (decimal n ∷ []) lack (rw (decimal_lacks n 32 small (omega arith)) refl)

-- what is printed is read

whole_line : (line word : List ℕ) (n : ℕ) → line ++ codes "\n" ≡ word ++ (codes " " ++ (decimal n ++ codes "\n"))
    → line ≡ word ++ 32 ∷ decimal n
whole_line line word n is =
    cut_last line (word ++ 32 ∷ decimal n) 10 (is ∙ sym (append_assoc word (32 ∷ decimal n) (codes "\n")))

pub end_is_read : EndIsRead
end_is_read s last acts line low high is =
    let small : acts < 2 ^ 64 = omega (arith, high) in
    let words : line ≡ codes "end" ++ 32 ∷ decimal acts = whole_line line (codes "end") acts is in
    let cut = ap spaced words ∙ number_cut (codes "end") acts refl small in
    let least : nat_le last acts ≡ true = grind (arith, nat_tests, low) in
    let most : nat_le acts MAX_ACTS ≡ true = grind (arith, nat_tests, high) in
    ap (open_words s last line) cut ∙ rw (plain_printed acts small, least, most) refl

-- no name of a count has a space
name_lacks : (which : ℕ) → lacks 32 (count_name which) ≡ true
name_lacks which =
    by (which == 0) (which == 1) (which == 2) (which == 3) (which == 4) (which == 5) (which == 6) (which == 7) (which == 8)
  where
    by : (a b c d e f g h i : Bool)
        → lacks 32 (if a then codes "lock_pending"
        else if b then codes "lock_slowpath"
        else if c then codes "lock_use_node2"
        else if d then codes "lock_use_node3"
        else if e then codes "lock_use_node4"
        else if f then codes "lock_no_node"
        else if g then codes "pv_lock_stealing"
        else if h then codes "pv_wait_node"
        else if i then codes "pv_wait_head"
        else codes "pv_kick_unlock") ≡ true
    by true b c d e f g h i = refl
    by false true c d e f g h i = refl
    by false false true d e f g h i = refl
    by false false false true e f g h i = refl
    by false false false false true f g h i = refl
    by false false false false false true g h i = refl
    by false false false false false false true h i = refl
    by false false false false false false false true i = refl
    by false false false false false false false false true = refl
    by false false false false false false false false false = refl

pub count_is_read : CountIsRead
count_is_read s last which n line few small is =
    let words : line ≡ count_name which ++ 32 ∷ decimal n = whole_line line (count_name which) n is in
    let cut = ap spaced words ∙ number_cut (count_name which) n (name_lacks which) small in
    let same : bytes_eq (count_name which) (count_name which) ≡ true = (bytes_eq-Decides (count_name which) (count_name which)).1 refl in
    let none : (suc which == 0) ≡ false = grind (arith, nat_tests) in
    let less : suc which - 1 ≡ which = omega arith in
    let early : nat_lt (suc which) closing_lines ≡ true = grind (arith, nat_tests, few) in
    let counted : count_line which line ≡ Ok told.Count =
    ap (λ ws. count_words which (two_words ws)) cut ∙ rw (same, plain_printed n small) refl in
    rw (none, early, less) counted

-- what is read is as it is printed

-- two words make a line
line_of_two : (line word number : List ℕ) (n : ℕ) → spaced line ≡ word ∷ number ∷ [] → number ≡ decimal n
    → line ++ codes "\n" ≡ word ++ (codes " " ++ (decimal n ++ codes "\n"))
line_of_two line word number n cut is =
    ap (λ l. l ++ codes "\n")
    (parts_back 32 line word (number ∷ []) cut
    ∙ ap (λ l. word ++ 32 ∷ l) (append-nil number ∙ is))
    ∙ append_assoc word (32 ∷ decimal n) (codes "\n")

ends_at : (s : Setup) (last : ℕ) (line number : List ℕ) (o : Option ℕ) → spaced line ≡ codes "end" ∷ number ∷ []
    → plain_number number ≡ o → end_number last o ≡ Ok told.End → EndsAt last line
ends_at s last line number None cut is h = cc h
ends_at s last line number (Some n) cut is h = by_range (nat_le last n && nat_le n MAX_ACTS) refl h
  where
    by_range : (b : Bool) → (nat_le last n && nat_le n MAX_ACTS) ≡ b → (if b then Ok told.End else Err OutOfRange) ≡ Ok told.End
        → EndsAt last line
    by_range false e g = cc g
    by_range true e g =
        let both = and_split (nat_le last n) (nat_le n MAX_ACTS) e in
        record {
          acts = n;
          low = grind (arith, nat_tests, both.0);
          high = grind (arith, nat_tests, both.1);
          text = line_of_two line (codes "end") number n cut (plain_read number n is).0;
        }

end_words : (s : Setup) (last : ℕ) (line : List ℕ) (args : List (List ℕ)) → spaced line ≡ codes "end" ∷ args
    → end_args last args ≡ Ok told.End → EndsAt last line
end_words s last line [] cut h = cc h
end_words s last line (number ∷ []) cut h = ends_at s last line number (plain_number number) cut refl h
end_words s last line (number ∷ more ∷ rest) cut h = cc h

no_end : (r : Result (ℕ × Event) Fault) → as_told r ≡ Ok told.End → ⊥
no_end (Ok both) h = cc h
no_end (Err fault) h = cc h

open_ends : (s : Setup) (last : ℕ) (line : List ℕ) (ws : List (List ℕ)) → spaced line ≡ ws
    → open_words s last line ws ≡ Ok told.End → EndsAt last line
open_ends s last line [] cut h = cc h
open_ends s last line (first ∷ args) cut h = by_word (bytes_eq first (codes "end")) refl h
  where
    by_word : (b : Bool) → bytes_eq first (codes "end") ≡ b
        → (if b then end_args last args else as_told (read_event s last line)) ≡ Ok told.End → EndsAt last line
    by_word false e g = absurd (no_end (read_event s last line) g)
    by_word true e g =
        end_words s last line args (cut ∙ ap (λ w. w ∷ args) ((bytes_eq-Decides first (codes "end")).0 e)) g

pub end_is_printed : EndIsPrinted
end_is_printed s last line h = open_ends s last line (spaced line) refl h

numbered : (which : ℕ) (line name number : List ℕ) (o : Option ℕ) → spaced line ≡ name ∷ number ∷ []
    → name ≡ count_name which → plain_number number ≡ o → is_some o ≡ true → Counts which line
numbered which line name number None cut is e h = cc h
numbered which line name number (Some n) cut is e h =
    let read = plain_read number n e in
    record {
      number = n;
      short = read.1;
      text = line_of_two line (count_name which) number n (cut ∙ ap (λ w. w ∷ number ∷ []) is) read.0;
    }

counted : (which : ℕ) (line : List ℕ) (ws : List (List ℕ)) → spaced line ≡ ws
    → count_words which (two_words ws) ≡ Ok told.Count → Counts which line
counted which line [] cut h = cc h
counted which line (name ∷ []) cut h = cc h
counted which line (name ∷ number ∷ more ∷ rest) cut h = cc h
counted which line (name ∷ number ∷ []) cut h =
    by_name (bytes_eq name (count_name which) && is_some (plain_number number)) refl h
  where
    by_name : (b : Bool) → (bytes_eq name (count_name which) && is_some (plain_number number)) ≡ b
        → (if b then Ok told.Count else Err UnknownWord) ≡ Ok told.Count → Counts which line
    by_name false e g = cc g
    by_name true e g =
        let both = and_split (bytes_eq name (count_name which)) (is_some (plain_number number)) e in
        numbered which line name number (plain_number number) cut ((bytes_eq-Decides name (count_name which)).0 both.0) refl both.1

pub count_is_printed : CountIsPrinted
count_is_printed s last which line few h =
    let none : (suc which == 0) ≡ false = grind (arith, nat_tests) in
    let less : suc which - 1 ≡ which = omega arith in
    let early : nat_lt (suc which) closing_lines ≡ true = grind (arith, nat_tests, few) in
    let read : line_told s last (suc which) line ≡ count_line which line = rw (none, early, less) refl in
    counted which line (spaced line) refl (sym read ∙ h)
