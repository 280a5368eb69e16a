-- The closing lines, one after another.
use Rattle.std.proofs.Common.{◌≡◌, ◌+◌, ◌++◌, ◌<◌, ℕ, zero, suc, List, [], ◌∷◌, Option, Result, Ok, Err, OnOk, OnErr, take, drop, get_or, sym, ap, ◌∙◌, refl, subst, append_assoc, append-nil, arith}
use Rattle.std.proofs.lemmas.List.{take_more, take-append-drop}
use Rattle.std.proofs.lemmas.List.Concat.{flat_map-append}
use Rattle.std.specs.List.{flat_map}
use Rattle.std.specs.Io.KnownBytes.{Appends}
use Rattle.lk_text.specs.Bytes.{AppendsFront, Conveys}
use Rattle.lk_text.proofs.Conveyed.{all_conveyed, front_of_more, front_of_conveyed}
use Rattle.lk_forms.specs.Texts.{end_text, count_text, closing}
use Rattle.lk_rows.specs.declared.parts.Counts.{Counts}

abbrev tens : List ℕ
tens = 0 ∷ 1 ∷ 2 ∷ 3 ∷ 4 ∷ 5 ∷ 6 ∷ 7 ∷ 8 ∷ 9 ∷ []

counts_of : Counts → List ℕ → List ℕ
counts_of counts ns = flat_map (λ which. count_text counts which) ns

-- the first closing line, and so many of the counts
pub closing_front : ℕ → Counts → ℕ → List ℕ
closing_front acts counts n = end_text acts ++ counts_of counts (take n tens)

at_tens : (n : ℕ) → n < 10 → get_or tens n 0 ≡ n
at_tens zero below = refl
at_tens (suc zero) below = refl
at_tens (suc (suc zero)) below = refl
at_tens (suc (suc (suc zero))) below = refl
at_tens (suc (suc (suc (suc zero)))) below = refl
at_tens (suc (suc (suc (suc (suc zero))))) below = refl
at_tens (suc (suc (suc (suc (suc (suc zero)))))) below = refl
at_tens (suc (suc (suc (suc (suc (suc (suc zero))))))) below = refl
at_tens (suc (suc (suc (suc (suc (suc (suc (suc zero)))))))) below = refl
at_tens (suc (suc (suc (suc (suc (suc (suc (suc (suc zero))))))))) below = refl
at_tens (suc (suc (suc (suc (suc (suc (suc (suc (suc (suc n)))))))))) below = absurd (omega arith)

pub front_none : (acts : ℕ) (counts : Counts) → closing_front acts counts 0 ≡ end_text acts
unfolding closing_front counts_of
front_none acts counts = append-nil (end_text acts)

pub front_all : (acts : ℕ) (counts : Counts) → closing_front acts counts 10 ≡ closing acts counts
unfolding closing_front counts_of
front_all acts counts = refl

pub front_more : (acts : ℕ) (counts : Counts) (n : ℕ) → n < 10 → closing_front acts counts (n + 1) ≡ closing_front acts counts n ++ count_text counts n
unfolding closing_front counts_of
front_more acts counts n below =
    let tens_more : take (n + 1) tens ≡ take n tens ++ n ∷ [] = take_more tens n 0 below ∙ ap (λ k. take n tens ++ k ∷ []) (at_tens n below) in
    ap (λ ns. end_text acts ++ counts_of counts ns) tens_more
    ∙ ap (λ l. end_text acts ++ l) (flat_map-append _ (take n tens) (n ∷ []) ∙ ap (λ l. counts_of counts (take n tens) ++ l) (append-nil (count_text counts n)))
    ∙ sym (append_assoc (end_text acts) (counts_of counts (take n tens)) (count_text counts n))

front_rest : (acts : ℕ) (counts : Counts) (n : ℕ) → closing_front acts counts n ++ counts_of counts (drop n tens) ≡ closing acts counts
unfolding closing_front counts_of
front_rest acts counts n =
    append_assoc (end_text acts) (counts_of counts (take n tens)) (counts_of counts (drop n tens))
    ∙ ap (λ l. end_text acts ++ l) (sym (flat_map-append _ (take n tens) (drop n tens)) ∙ ap (counts_of counts) (take-append-drop n tens))

-- a text that was cut short while some of the closing lines were added
pub front_of_closing : (a b c : Option (List ℕ)) (w x : List ℕ) (acts : ℕ) (counts : Counts) (n : ℕ) → Conveys a b w (closing_front acts counts n) x → AppendsFront b c x
    → AppendsFront a c (w ++ closing acts counts)
front_of_closing a b c w x acts counts n done cut =
    subst (AppendsFront a c) (append_assoc w (closing_front acts counts n) (counts_of counts (drop n tens)) ∙ ap (λ l. w ++ l) (front_rest acts counts n))
    (front_of_more a c (w ++ closing_front acts counts n) (counts_of counts (drop n tens)) (front_of_conveyed a b c w x (closing_front acts counts n) done cut))

-- all that waits is put, or a part of it
module _ (a b c : Option (List ℕ)) (w x : List ℕ) (acts : ℕ) (counts : Counts) (n : ℕ) (done : Conveys a b w (closing_front acts counts n) x) where
  pub closing_put : {T E : Type 0} (put : Result T E) → n ≡ 10 → OnOk put (Appends b c x) → OnOk put (Appends a c (w ++ closing acts counts))
  closing_put (Ok u) all put =
      let whole = ap (closing_front acts counts) all ∙ front_all acts counts in
      subst (λ t. Appends a c (w ++ t)) whole (all_conveyed a b c w x (closing_front acts counts n) done put)
  closing_put (Err e) all put = tt

  pub closing_cut : {T E : Type 0} (put : Result T E) → OnErr put (AppendsFront b c x) → OnErr put (AppendsFront a c (w ++ closing acts counts))
  closing_cut (Ok u) cut = tt
  closing_cut (Err e) cut = front_of_closing a b c w x acts counts n done cut
