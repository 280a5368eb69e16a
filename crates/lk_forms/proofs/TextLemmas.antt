-- Each line of a transcript determines what it tells, whatever stands behind it.
use Rattle.std.proofs.Common.{◌≡◌, ◌<◌, ◌^◌, ℕ, zero, suc, true, List, ◌++◌, refl, sym, ap, ◌∙◌, append_assoc, arith, codes, decimal, if◌then◌else◌}
use Rattle.std.specs.List.{list_all}
use Rattle.std.specs.Str.{bytes_eq}
use Rattle.lk_names.specs.declared.names.Waiter.{Waiter}
use Rattle.lk_names.specs.declared.events.Event.{Event}
use Rattle.lk_names.specs.declared.events.What.{What}
use Rattle.lk_rows.specs.declared.parts.Counts.{Counts}
use Rattle.lk_forms.specs.Texts.{IsSmall, waiter_text, what_text, event_text, end_text, count_name, count_at, count_text}
use Rattle.lk_forms.proofs.TextParts.{is_letter, number_same, words_same, space_apart, waiter_same}
use Rattle.lk_forms.proofs.WhatLemmas.{what_same}

event_is : (e f : Event) → e.by ≡ f.by → e.what ≡ f.what → e ≡ f
event_is e f p q =
    let with_by : Waiter → Event = λ w. record { by = w; what = e.what } in
    let with_what : What → Event = λ w. record { by = f.by; what = w } in
    ap with_by p ∙ ap with_what q

-- the line of an event, whatever stands behind it
pub event_same : (m n : ℕ) (e f : Event) (r s : List ℕ) → m < 2 ^ 64 → n < 2 ^ 64 → IsSmall e → IsSmall f → event_text m e ++ r ≡ event_text n f ++ s → (m ≡ n) × (e ≡ f) × (r ≡ s)
event_same m n e f r s hm hn he hf is =
    let behind_number = sym (append_assoc (decimal m) (codes " " ++ told e) r) ∙ is ∙ append_assoc (decimal n) (codes " " ++ told f) s in
    let number = number_same m n 32 32 (told e ++ r) (told f ++ s) hm hn (omega arith) (omega arith) behind_number in
    let tails : told e ++ r ≡ told f ++ s = cc (number.1) in
    let behind_waiter = sym (append_assoc (waiter_text e.by) (codes " " ++ (what_text e.what ++ codes "\n")) r) ∙ tails ∙ append_assoc (waiter_text f.by) (codes " " ++ (what_text f.what ++ codes "\n")) s in
    let waiter = waiter_same e.by f.by 32 32 ((what_text e.what ++ codes "\n") ++ r) ((what_text f.what ++ codes "\n") ++ s) he.0 hf.0 (omega arith) (omega arith) behind_waiter in
    let whats : (what_text e.what ++ codes "\n") ++ r ≡ (what_text f.what ++ codes "\n") ++ s = cc (waiter.1) in
    let behind_what = sym (append_assoc (what_text e.what) (codes "\n") r) ∙ whats ∙ append_assoc (what_text f.what) (codes "\n") s in
    let what = what_same e.what f.what r s he.1 hf.1 behind_what in
    (number.0, event_is e f waiter.0 what.0, what.1)
  where
    told : Event → List ℕ
    told g = waiter_text g.by ++ (codes " " ++ (what_text g.what ++ codes "\n"))

-- the closing lines, whatever stands behind them

pub end_same : (m n : ℕ) (r s : List ℕ) → m < 2 ^ 64 → n < 2 ^ 64 → end_text m ++ r ≡ end_text n ++ s → (m ≡ n) × (r ≡ s)
end_same m n r s hm hn is =
    let numbers : (decimal m ++ codes "\n") ++ r ≡ (decimal n ++ codes "\n") ++ s = cc in
    let behind = sym (append_assoc (decimal m) (codes "\n") r) ∙ numbers ∙ append_assoc (decimal n) (codes "\n") s in
    let number = number_same m n 10 10 r s hm hn (omega arith) (omega arith) behind in
    (number.0, cc (number.1))

count_named : List ℕ → ℕ
count_named word =
    if bytes_eq word (codes "lock_pending") then 0
    else if bytes_eq word (codes "lock_slowpath") then 1
    else if bytes_eq word (codes "lock_use_node2") then 2
    else if bytes_eq word (codes "lock_use_node3") then 3
    else if bytes_eq word (codes "lock_use_node4") then 4
    else if bytes_eq word (codes "lock_no_node") then 5
    else if bytes_eq word (codes "pv_lock_stealing") then 6
    else if bytes_eq word (codes "pv_wait_node") then 7
    else if bytes_eq word (codes "pv_wait_head") then 8
    else 9

count_named-name : (w : ℕ) → w < 10 → (count_named (count_name w) ≡ w) × (list_all is_letter (count_name w) ≡ true)
unfolding count_named is_letter
count_named-name zero h = (refl, refl)
count_named-name (suc zero) h = (refl, refl)
count_named-name (suc (suc zero)) h = (refl, refl)
count_named-name (suc (suc (suc zero))) h = (refl, refl)
count_named-name (suc (suc (suc (suc zero)))) h = (refl, refl)
count_named-name (suc (suc (suc (suc (suc zero))))) h = (refl, refl)
count_named-name (suc (suc (suc (suc (suc (suc zero)))))) h = (refl, refl)
count_named-name (suc (suc (suc (suc (suc (suc (suc zero))))))) h = (refl, refl)
count_named-name (suc (suc (suc (suc (suc (suc (suc (suc zero)))))))) h = (refl, refl)
count_named-name (suc (suc (suc (suc (suc (suc (suc (suc (suc zero))))))))) h = (refl, refl)
count_named-name (suc (suc (suc (suc (suc (suc (suc (suc (suc (suc w)))))))))) h = absurd (omega arith)

pub count_same : (c d : Counts) (v w : ℕ) (r s : List ℕ) → v < 10 → w < 10 → count_at c v < 2 ^ 64 → count_at d w < 2 ^ 64 → count_text c v ++ r ≡ count_text d w ++ s
    → (v ≡ w) × (count_at c v ≡ count_at d w) × (r ≡ s)
count_same c d v w r s hv hw hc hd is = by_name (count_named-name v hv) (count_named-name w hw)
  where
    by_name : (count_named (count_name v) ≡ v) × (list_all is_letter (count_name v) ≡ true) → (count_named (count_name w) ≡ w) × (list_all is_letter (count_name w) ≡ true)
        → (v ≡ w) × (count_at c v ≡ count_at d w) × (r ≡ s)
    by_name nv nw =
        let behind_name = sym (append_assoc (count_name v) (codes " " ++ (decimal (count_at c v) ++ codes "\n")) r) ∙ is ∙ append_assoc (count_name w) (codes " " ++ (decimal (count_at d w) ++ codes "\n")) s in
        let name = words_same (count_name v) (count_name w) 32 32 ((decimal (count_at c v) ++ codes "\n") ++ r) ((decimal (count_at d w) ++ codes "\n") ++ s) nv.1 nw.1 space_apart space_apart behind_name in
        let numbers : (decimal (count_at c v) ++ codes "\n") ++ r ≡ (decimal (count_at d w) ++ codes "\n") ++ s = cc (name.1) in
        let behind = sym (append_assoc (decimal (count_at c v)) (codes "\n") r) ∙ numbers ∙ append_assoc (decimal (count_at d w)) (codes "\n") s in
        let number = number_same (count_at c v) (count_at d w) 10 10 r s hc hd (omega arith) (omega arith) behind in
        (sym nv.0 ∙ ap count_named name.0 ∙ nw.0, number.0, cc (number.1))
