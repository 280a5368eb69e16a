-- A whole transcript determines what it tells.
use Rattle.std.proofs.Common.{◌≡◌, ◌<◌, ◌^◌, ℕ, List, [], ◌∷◌, ◌++◌, length, map, nat_lt, true, refl, sym, ap, ◌∙◌, append_assoc, arith, decimal}
use Rattle.std.proofs.lemmas.Fmt.{decimal_is_IsNumeral}
use Rattle.std.specs.Char.{digit_value}
use Rattle.std.proofs.lemmas.Bool.Decides.{nat_tests}
use Rattle.std.specs.Prelude.{slice_index_or}
use Rattle.std.specs.List.{flat_map, list_all}
use Rattle.lk_text.proofs.NumberLemmas.{and_split}
use Rattle.std.specs.Str.Parse.{AllDigits}
use Rattle.lk_names.specs.declared.events.Event.{Event}
use Rattle.lk_rows.specs.declared.parts.Counts.{Counts}
use Rattle.lk_rows.specs.Run.{Occurrence}
use Rattle.lk_forms.specs.Texts.{event_text, count_at, count_text, lines, closing}
use Rattle.lk_forms.specs.TextLaws.{EventsAreTold, EndsAreTold, CountsAreTold, AreSmallCounts, TranscriptsAreTold}
use Rattle.lk_forms.proofs.TextLemmas.{event_same, end_same, count_same}

pub events_told : EventsAreTold
events_told m n e f hm hn he hf is =
    let same = event_same m n e f [] [] hm hn he hf (ap (λ t. t ++ []) is) in
    (same.0, same.1)

pub ends_told : EndsAreTold
ends_told m n hm hn is = (end_same m n [] [] hm hn (ap (λ t. t ++ []) is)).0

pub counts_told : CountsAreTold
counts_told c d v w hv hw hc hd is =
    let same = count_same c d v w [] [] hv hw hc hd (ap (λ t. t ++ []) is) in
    (same.0, same.1)

-- no line of an event is a closing line

number_first : (ds : List ℕ) (r s : List ℕ) → 0 < length ds → AllDigits 10 ds → ds ++ r ≡ 101 ∷ s → ⊥
number_first [] r s some all is = omega arith
number_first (d ∷ ds) r s some all is = let same : d ≡ 101 = cc in omega (arith, all.0, ap digit_value same)

event_or_end : (n : ℕ) (e : Event) (r : List ℕ) (m : ℕ) (c : Counts) → n < 2 ^ 64 → event_text n e ++ r ≡ closing m c → ⊥
event_or_end n e r m c hn is =
    let numeral = (decimal_is_IsNumeral n hn).0 in
    number_first (decimal n) _ _ numeral.0 numeral.1 (sym (append_assoc (decimal n) _ r) ∙ is)

-- the ten counts

-- the lines of the counts of these numbers
abbrev count_texts : Counts → List ℕ → List ℕ
count_texts c ws = flat_map (λ w. count_text c w) ws

abbrev ten : List ℕ
ten = 0 ∷ 1 ∷ 2 ∷ 3 ∷ 4 ∷ 5 ∷ 6 ∷ 7 ∷ 8 ∷ 9 ∷ []

counts_same : (c d : Counts) (ws : List ℕ) → AreSmallCounts c → AreSmallCounts d → list_all (λ w. nat_lt w 10) ws ≡ true → count_texts c ws ≡ count_texts d ws
    → map (λ w. count_at c w) ws ≡ map (λ w. count_at d w) ws
counts_same c d [] hc hd below is = refl
counts_same c d (w ∷ ws) hc hd below is =
    let parts = and_split (nat_lt w 10) (list_all (λ w. nat_lt w 10) ws) below in
    let less : w < 10 = grind (arith, nat_tests, parts.0) in
    let same = count_same c d w w (count_texts c ws) (count_texts d ws) less less (hc w less) (hd w less) is in
    let rest = counts_same c d ws hc hd parts.1 same.2 in
    ap (λ n. n ∷ map (λ w. count_at c w) ws) same.1 ∙ ap (λ ns. count_at d w ∷ ns) rest

-- the counts that are these ten numbers
counts_of : List ℕ → Counts
counts_of ns =
    record {
      lock_pending = slice_index_or ns 0 0;
      lock_slowpath = slice_index_or ns 1 0;
      lock_use_node2 = slice_index_or ns 2 0;
      lock_use_node3 = slice_index_or ns 3 0;
      lock_use_node4 = slice_index_or ns 4 0;
      lock_no_node = slice_index_or ns 5 0;
      pv_lock_stealing = slice_index_or ns 6 0;
      pv_wait_node = slice_index_or ns 7 0;
      pv_wait_head = slice_index_or ns 8 0;
      pv_kick_unlock = slice_index_or ns 9 0;
    }

counts_of-all : (c : Counts) → counts_of (map (λ w. count_at c w) ten) ≡ c
unfolding counts_of
counts_of-all c = refl

closing_same : (m n : ℕ) (c d : Counts) → m < 2 ^ 64 → n < 2 ^ 64 → AreSmallCounts c → AreSmallCounts d → closing m c ≡ closing n d → (m ≡ n) × (c ≡ d)
closing_same m n c d hm hn hc hd is =
    let ended = end_same m n (count_texts c ten) (count_texts d ten) hm hn is in
    let same = counts_same c d ten hc hd refl ended.1 in
    (ended.0, sym (counts_of-all c) ∙ ap counts_of same ∙ counts_of-all d)

occurrence_is : (o p : Occurrence) → o.act ≡ p.act → o.event ≡ p.event → o ≡ p
occurrence_is o p e f =
    let by_act : ℕ → Occurrence = λ n. record { act = n; event = o.event } in
    let by_event : Event → Occurrence = λ v. record { act = p.act; event = v } in
    ap by_act e ∙ ap by_event f

pub transcripts_told : TranscriptsAreTold
transcripts_told [] [] m n c d hh hk hm hn hc hd is = let same = closing_same m n c d hm hn hc hd is in (refl, same.0, same.1)
transcripts_told [] (p ∷ k) m n c d hh hk hm hn hc hd is =
    absurd (event_or_end p.act p.event (lines k ++ closing n d) m c hk.0 (sym (append_assoc (event_text p.act p.event) (lines k) (closing n d)) ∙ sym is))
transcripts_told (o ∷ h) [] m n c d hh hk hm hn hc hd is =
    absurd (event_or_end o.act o.event (lines h ++ closing m c) n d hh.0 (sym (append_assoc (event_text o.act o.event) (lines h) (closing m c)) ∙ is))
transcripts_told (o ∷ h) (p ∷ k) m n c d hh hk hm hn hc hd is =
    let apart = sym (append_assoc (event_text o.act o.event) (lines h) (closing m c)) ∙ is ∙ append_assoc (event_text p.act p.event) (lines k) (closing n d) in
    let first = event_same o.act p.act o.event p.event (lines h ++ closing m c) (lines k ++ closing n d) hh.0 hk.0 hh.1 hk.1 apart in
    let rest = transcripts_told h k m n c d hh.2 hk.2 hm hn hc hd first.2 in
    (cc (occurrence_is o p first.0 first.1, rest.0), rest.1, rest.2)
