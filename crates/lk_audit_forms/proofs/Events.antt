-- The line of an event is read exactly as it is printed.
use Rattle.std.proofs.Common.{true, ◌≡◌, ◌++◌, ℕ, List, [], ◌∷◌, Some, refl, sym, ap, ◌∙◌, subst, arith, decimal, codes, append_assoc}
use Rattle.lk_names.specs.declared.names.Waiter.{Waiter}
use Rattle.lk_names.specs.declared.events.Event.{Event}
use Rattle.lk_names.specs.declared.events.What.{What}
use Rattle.lk_forms.specs.Texts.{waiter_text, event_text}
use Rattle.lk_audit_forms.specs.Parts.{spaced, plain_number}
use Rattle.lk_audit_forms.specs.EventLines.{waiter_named, what_named, event_of_words, event_told}
use Rattle.lk_audit_forms.specs.Exact.{IsTold, PrintedIsRead, ReadIsPrinted}
use Rattle.lk_audit_forms.proofs.Marks.{all_lack, behind, parts_all, parts_back, decimal_lacks}
use Rattle.lk_audit_forms.proofs.Numbers.{plain_printed, plain_read}
use Rattle.lk_audit_forms.proofs.Names.{some_then, some_same, waiter_printed, waiter_read}
use Rattle.lk_audit_forms.proofs.Whats.{args_of, verb_of, what_joined, what_printed, what_read, verb_lacks, waiter_lacks, args_lack}

-- what ends alike begins alike
pub cut_last : (a b : List ℕ) (x : ℕ) → a ++ x ∷ [] ≡ b ++ x ∷ [] → a ≡ b
cut_last [] [] x is = refl
cut_last [] (c ∷ []) x is = cc
cut_last [] (c ∷ d ∷ b) x is = cc
cut_last (c ∷ []) [] x is = cc
cut_last (c ∷ d ∷ a) [] x is = cc
cut_last (c ∷ a) (d ∷ b) x is =
    let first : c ≡ d = cc in
    let rest : a ++ x ∷ [] ≡ b ++ x ∷ [] = cc in
    cc (first, cut_last a b x rest)

-- the words of the line, put together
abbrev line_of_event : ℕ → Event → List ℕ
line_of_event act e = decimal act ++ behind 32 (waiter_text e.by ∷ verb_of e.what ∷ args_of e.what)

printed : (act : ℕ) (e : Event) → line_of_event act e ++ codes "\n" ≡ event_text act e
printed act e =
    append_assoc (decimal act) (32 ∷ (waiter_text e.by ++ 32 ∷ happened)) (codes "\n")
    ∙ ap (λ l. decimal act ++ 32 ∷ l)
    (append_assoc (waiter_text e.by) (32 ∷ happened) (codes "\n")
    ∙ ap (λ l. waiter_text e.by ++ 32 ∷ (l ++ codes "\n")) (what_joined e.what))
  where
    happened : List ℕ
    happened = verb_of e.what ++ behind 32 (args_of e.what)

pub printed_is_read : PrintedIsRead
printed_is_read line act e told is =
    let words : line ≡ line_of_event act e = cut_last line (line_of_event act e) 10 (is ∙ sym (printed act e)) in
    let number = decimal_lacks act 32 told.0 (omega arith) in
    let rest : all_lack 32 (waiter_text e.by ∷ verb_of e.what ∷ args_of e.what) ≡ true =
    rw (waiter_lacks e.by told.1, verb_lacks e.what) (args_lack e.what told.2) in
    let cut = parts_all 32 (decimal act) (waiter_text e.by ∷ verb_of e.what ∷ args_of e.what) number rest in
    ap event_told words ∙ ap event_of_words cut
    ∙ rw (plain_printed act told.0, waiter_printed e.by told.1, what_printed e.what told.2) refl

-- what a line tells, and how it is printed
IsBoth : List ℕ → ℕ × Event → Type 0
IsBoth line told = (line ++ codes "\n" ≡ event_text told.0 told.1) × IsTold told.0 told.1

made : (line a b c : List ℕ) (args : List (List ℕ)) (n : ℕ) (w : Waiter) (u : What)
    → line ≡ a ++ behind 32 (b ∷ c ∷ args) → plain_number a ≡ Some n → waiter_named b ≡ Some w
    → what_named c args ≡ Some u → IsBoth line (n, record { by = w; what = u })
unfolding IsBoth
made line a b c args n w u whole number waiter happened =
    let p = plain_read a n number in
    let q = waiter_read b w waiter in
    let r = what_read c args u happened in
    let event : Event = record { by = w; what = u } in
    let text : line ≡ line_of_event n event =
    whole ∙ ap (λ t. t ++ behind 32 (b ∷ c ∷ args)) p.0
    ∙ ap (λ t. decimal n ++ behind 32 (t ∷ c ∷ args)) q.0
    ∙ ap (λ ts. decimal n ++ behind 32 (waiter_text w ∷ ts)) r.0 in
    (ap (λ l. l ++ codes "\n") text ∙ printed n event, (p.1, q.1, r.1))

by_words : (line : List ℕ) (told : ℕ × Event) (ws : List (List ℕ)) → spaced line ≡ ws
    → event_of_words ws ≡ Some told → IsBoth line told
by_words line told [] cut h = cc
by_words line told (a ∷ []) cut h = cc
by_words line told (a ∷ b ∷ []) cut h = cc
by_words line told (a ∷ b ∷ c ∷ args) cut h =
    some_then (IsBoth line told) (plain_number a) _ told h (λ n number more.
    some_then (IsBoth line told) (waiter_named b) _ told more (λ w waiter last.
    some_then (IsBoth line told) (what_named c args) _ told last (λ u happened is.
    subst (IsBoth line) (some_same (n, record { by = w; what = u }) told is)
    (made line a b c args n w u (parts_back 32 line a (b ∷ c ∷ args) cut) number waiter happened))))

pub read_is_printed : ReadIsPrinted
unfolding IsBoth
read_is_printed line act e is = by_words line (act, e) (spaced line) refl is
