-- Words between marks: put together and cut apart.
use Rattle.std.proofs.Common.{Bool, true, false, ◌≡◌, ◌≤◌, ◌<◌, ◌==◌, ◌++◌, not, ℕ, List, [], ◌∷◌, refl, sym, ap, ◌∙◌, append-nil, arith, decimal, ◌^◌}
use Rattle.std.proofs.lemmas.Bool.{ne_eqb, eq-eqb}
use Rattle.std.proofs.lemmas.List.Splits.{join_with_byte-slice_split}
use Rattle.std.proofs.lemmas.Fmt.{decimal_is_IsNumeral}
use Rattle.std.specs.List.{list_all, join_with_byte}
use Rattle.std.specs.Char.{digit_value}
use Rattle.std.specs.Str.Parse.{AllDigits}
use Rattle.lk_text.proofs.NumberLemmas.{and_split}
use Rattle.lk_audit_forms.specs.Parts.{parts}

-- none of the bytes is the mark
abbrev pub lacks : ℕ → List ℕ → Bool
lacks mark bytes = list_all (λ b. not (b == mark)) bytes

-- so of each of these words
abbrev pub all_lack : ℕ → List (List ℕ) → Bool
all_lack mark ws = list_all (lacks mark) ws

-- each word with the mark before it
abbrev pub behind : ℕ → List (List ℕ) → List ℕ
behind mark [] = []
behind mark (w ∷ ws) = mark ∷ (w ++ behind mark ws)

not_true : (t : Bool) → not t ≡ true → t ≡ false
not_true true h = sym h
not_true false h = refl

-- a part in front
part_first : (mark : ℕ) (w rest : List ℕ) (first : List ℕ) (more : List (List ℕ))
    → lacks mark w ≡ true → parts mark rest ≡ first ∷ more
    → parts mark (w ++ rest) ≡ (w ++ first) ∷ more
part_first mark [] rest first more lack is = is
part_first mark (b ∷ w) rest first more lack is =
    let both = and_split (not (b == mark)) (lacks mark w) lack in
    rw (not_true (b == mark) both.0, part_first mark w rest first more both.1 is) refl

-- one word
pub parts_one : (mark : ℕ) (w : List ℕ) → lacks mark w ≡ true → parts mark w ≡ w ∷ []
parts_one mark w lack =
    ap (parts mark) (sym (append-nil w)) ∙ part_first mark w [] [] [] lack refl
    ∙ ap (λ l. l ∷ []) (append-nil w)

parts_mark : (mark : ℕ) (rest : List ℕ) → parts mark (mark ∷ rest) ≡ [] ∷ parts mark rest
parts_mark mark rest = rw (eq-eqb mark mark refl) refl

-- words that are put together
pub parts_all : (mark : ℕ) (w : List ℕ) (ws : List (List ℕ)) → lacks mark w ≡ true
    → all_lack mark ws ≡ true → parts mark (w ++ behind mark ws) ≡ w ∷ ws
parts_all mark w [] lack all = ap (parts mark) (append-nil w) ∙ parts_one mark w lack
parts_all mark w (v ∷ ws) lack all =
    let both = and_split (lacks mark v) (all_lack mark ws) all in
    let rest = parts_mark mark (v ++ behind mark ws) ∙ ap (λ l. [] ∷ l) (parts_all mark v ws both.0 both.1) in
    part_first mark w (mark ∷ (v ++ behind mark ws)) [] (v ∷ ws) lack rest
    ∙ ap (λ l. l ∷ v ∷ ws) (append-nil w)

joined : (mark : ℕ) (w : List ℕ) (ws : List (List ℕ)) → join_with_byte mark (w ∷ ws) ≡ w ++ behind mark ws
joined mark w [] = sym (append-nil w)
joined mark w (v ∷ ws) = ap (λ l. w ++ mark ∷ l) (joined mark v ws)

-- bytes that are cut apart
pub parts_back : (mark : ℕ) (bytes w : List ℕ) (ws : List (List ℕ)) → parts mark bytes ≡ w ∷ ws
    → bytes ≡ w ++ behind mark ws
parts_back mark bytes w ws is =
    sym (join_with_byte-slice_split mark bytes) ∙ ap (join_with_byte mark) is ∙ joined mark w ws

-- a mark that is no digit
digits_lack : (ds : List ℕ) (mark : ℕ) → AllDigits 10 ds → 10 ≤ digit_value mark → lacks mark ds ≡ true
digits_lack [] mark all other = refl
digits_lack (d ∷ ds) mark all other =
    let apart : (d == mark) ≡ false = ne_eqb d mark (λ e. absurd (omega (arith, all.0, other, ap digit_value e))) in
    rw (apart, digits_lack ds mark all.1 other) refl

pub decimal_lacks : (n mark : ℕ) → n < 2 ^ 64 → 10 ≤ digit_value mark → lacks mark (decimal n) ≡ true
decimal_lacks n mark h other = digits_lack (decimal n) mark (decimal_is_IsNumeral n h).0.1 other
