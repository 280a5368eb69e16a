-- A text that is put piece by piece.
use Rattle.std.proofs.Common.{◌≡◌, ◌≤◌, ◌+◌, ℕ, List, [], ◌++◌, Option, refl, ap, sym, subst, ◌∙◌, append_assoc, length, length-append, arith}
use Rattle.std.proofs.lemmas.List.{append-nil}
use Rattle.std.proofs.KnownBytes.{Appends-nil, Appends-trans}
use Rattle.std.specs.Io.KnownBytes.{Appends}
use Rattle.lk_text.specs.Bytes.{AppendsFront}
use Rattle.lk_gen.specs.Writes.{Puts}

-- nothing was put
pub puts_start : (h : Option (List ℕ)) (f s : ℕ) (text : List ℕ) → Puts h h f f s s text text
puts_start h f s text = record { front = []; whole = refl; grown = Appends-nil h; later = omega arith; left = λ within. omega arith }

-- the next piece is put
pub puts_more : (old mid new : Option (List ℕ)) (f g k s t u : ℕ) (text all piece rest : List ℕ) → Puts old mid f g s t text all
    → all ≡ piece ++ rest → Appends mid new piece → g ≤ k → (length piece ≤ t → t ≤ u + length piece) → Puts old new f k s u text rest
puts_more old mid new f g k s t u text all piece rest so_far is grown later surely =
    record {
      front = so_far.front ++ piece;
      whole = so_far.whole ∙ ap (λ l. so_far.front ++ l) is ∙ sym (append_assoc so_far.front piece rest);
      grown = Appends-trans old mid new so_far.front piece so_far.grown grown;
      later = omega (arith, so_far.later, later);
      left = λ within.
          let size : length all ≡ length piece + length rest = ap length is ∙ length-append piece rest in
          let had = so_far.left within in
          let took = surely (omega (arith, size, had, within)) in
          omega (arith, size, had, took);
    }

-- nothing is left
pub puts_all : (old new : Option (List ℕ)) (f g s t : ℕ) (text rest : List ℕ) → Puts old new f g s t text rest → rest ≡ [] → Appends old new text
puts_all old new f g s t text rest so_far is =
    subst (Appends old new) (sym (so_far.whole ∙ ap (λ l. so_far.front ++ l) is ∙ append-nil so_far.front)) so_far.grown

pub sure_all : (old new : Option (List ℕ)) (f g s t : ℕ) (text rest : List ℕ) → Puts old new f g s t text rest → rest ≡ []
    → length text ≤ s → s ≤ t + length text
sure_all old new f g s t text rest so_far is within =
    let none : length rest ≡ 0 = ap length is in let had = so_far.left within in omega (arith, none, had)

-- the next piece was cut short
pub puts_cut : (old mid new : Option (List ℕ)) (f g s t : ℕ) (text all piece rest : List ℕ) → Puts old mid f g s t text all
    → all ≡ piece ++ rest → AppendsFront mid new piece → AppendsFront old new text
puts_cut old mid new f g s t text all piece rest so_far is cut =
    record {
      front = so_far.front ++ cut.front;
      rest = cut.rest ++ rest;
      whole = so_far.whole ∙ ap (λ l. so_far.front ++ l) (is ∙ ap (λ l. l ++ rest) cut.whole ∙ append_assoc cut.front cut.rest rest)
          ∙ sym (append_assoc so_far.front cut.front (cut.rest ++ rest));
      grown = Appends-trans old mid new so_far.front cut.front so_far.grown cut.grown;
    }

-- a sink that takes the text for certain did not fail
pub sure_cut : (old mid : Option (List ℕ)) (f g s t : ℕ) (text all piece rest : List ℕ) → Puts old mid f g s t text all
    → all ≡ piece ++ rest → (length piece ≤ t → ⊥) → length text ≤ s → ⊥
sure_cut old mid f g s t text all piece rest so_far is fails within =
    let size : length all ≡ length piece + length rest = ap length is ∙ length-append piece rest in
    let had = so_far.left within in
    fails (omega (arith, size, had, within))
