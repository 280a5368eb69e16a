-- Texts that go on to a sink one after another.
use Rattle.std.proofs.Common.{◌++◌, ℕ, List, subst, [], Option, sym, ap, ◌∙◌, append_assoc, append-nil}
use Rattle.std.proofs.KnownBytes.{Appends-nil, Appends-trans}
use Rattle.std.specs.Io.KnownBytes.{Appends}
use Rattle.lk_text.specs.Bytes.{AppendsFront, Conveys}

-- what waits goes on waiting
pub Conveys-nothing : (held : Option (List ℕ)) (waited : List ℕ) → Conveys held held waited [] waited
Conveys-nothing held waited = record { put = []; whole = append-nil waited; grown = Appends-nil held }

-- one text and then another
pub Conveys-trans : (a b c : Option (List ℕ)) (w x y s t : List ℕ) → Conveys a b w s x → Conveys b c x t y → Conveys a c w (s ++ t) y
Conveys-trans a b c w x y s t first second = record {
  put = first.put ++ second.put;
  whole = sym (append_assoc w s t) ∙ ap (λ l. l ++ t) first.whole ∙ append_assoc first.put x t ∙ ap (λ l. first.put ++ l) second.whole ∙ sym (append_assoc first.put second.put y);
  grown = Appends-trans a b c first.put second.put first.grown second.grown;
}

-- a front of what waits is a front of all
pub front_of_conveyed : (a b c : Option (List ℕ)) (w x t : List ℕ) → Conveys a b w t x → AppendsFront b c x → AppendsFront a c (w ++ t)
front_of_conveyed a b c w x t first cut = record {
  front = first.put ++ cut.front;
  rest = cut.rest;
  whole = first.whole ∙ ap (λ l. first.put ++ l) cut.whole ∙ sym (append_assoc first.put cut.front cut.rest);
  grown = Appends-trans a b c first.put cut.front first.grown cut.grown;
}

-- a front of a text is a front of a longer one
pub front_of_more : (a b : Option (List ℕ)) (t u : List ℕ) → AppendsFront a b t → AppendsFront a b (t ++ u)
front_of_more a b t u cut = record {
  front = cut.front;
  rest = cut.rest ++ u;
  whole = ap (λ l. l ++ u) cut.whole ∙ append_assoc cut.front cut.rest u;
  grown = cut.grown;
}

-- all that waits is put
pub all_conveyed : (a b c : Option (List ℕ)) (w x t : List ℕ) → Conveys a b w t x → Appends b c x → Appends a c (w ++ t)
all_conveyed a b c w x t first last = subst (Appends a c) (sym first.whole) (Appends-trans a b c first.put x first.grown last)

-- all that waits is put, and then a text
pub conveyed_all : (a b c : Option (List ℕ)) (w x t u : List ℕ) → Conveys a b w t x → Appends b c (x ++ u) → Appends a c (w ++ (t ++ u))
conveyed_all a b c w x t u first last =
    subst (Appends a c) (sym (append_assoc first.put x u) ∙ ap (λ l. l ++ u) (sym first.whole) ∙ append_assoc w t u) (Appends-trans a b c first.put (x ++ u) first.grown last)

-- a front of what waits and of a text behind it
pub front_of_rest : (a b c : Option (List ℕ)) (w x t u : List ℕ) → Conveys a b w t x → AppendsFront b c (x ++ u) → AppendsFront a c (w ++ (t ++ u))
front_of_rest a b c w x t u first cut = record {
  front = first.put ++ cut.front;
  rest = cut.rest;
  whole = sym (append_assoc w t u) ∙ ap (λ l. l ++ u) first.whole ∙ append_assoc first.put x u ∙ ap (λ l. first.put ++ l) cut.whole ∙ sym (append_assoc first.put cut.front cut.rest);
  grown = Appends-trans a b c first.put cut.front first.grown cut.grown;
}
