-- From a place in a text to the next.
use Rattle.std.proofs.Common.{Bool, true, false, ◌≡◌, ◌+◌, ◌++◌, ◌^◌, ◌<◌, ◌≤◌, ◌&&◌, ℕ, List, [], ◌∷◌, Option, None, Some, Result, Ok, Err, length, nat_lt, nat_le, sym, ap, ◌∙◌, refl, append_assoc, append-nil, arith, if◌then◌else◌}
use Rattle.std.proofs.lemmas.Bool.Decides.{nat_tests}
use Rattle.std.proofs.lemmas.List.Sums.{fold-append}
use Rattle.std.specs.Result.{result_unwrap_or}
use Rattle.lk_text.specs.Feeds.{line_of}
use Rattle.lk_forms.specs.declared.answers.Fault.{Fault}
use Rattle.lk_forms.specs.declared.answers.LineRefusal.{LineRefusal}
use Rattle.lk_forms.specs.declared.answers.LineRefusal.TheVariants.{Limit}
use Rattle.lk_forms.specs.declared.answers.Which.TheVariants.{Line, Input}
use Rattle.lk_stream.specs.Grammar.{Grammar, Place, first_place, placed, next_place, says_at_end, unless_refused, says_from, text_of}
use Rattle.lk_stream.specs.Reads.{Leads}

module _ {S : Type 0} (g : Grammar S) where
  -- a line within the limits is read by the grammar alone
  pub next-within : (p : Place S) (piece : List ℕ) → length (line_of piece) ≤ 4096
      → p.bytes + length piece ≤ 2 ^ 30
      → next_place g p piece ≡ placed p piece (g.read p.said (line_of piece))
  next-within p piece short within = grind (arith, nat_tests)

  pub next-long : (p : Place S) (piece : List ℕ) → 4096 < length (line_of piece)
      → p.bytes + 4096 ≤ 2 ^ 30 → next_place g p piece ≡ Err (Limit Line)
  next-long p piece long within = grind (arith, nat_tests)

  pub next-much : (p : Place S) (piece : List ℕ)
      → (p.bytes + 4096 ≤ 2 ^ 30 → length (line_of piece) ≤ 4096) → 2 ^ 30 < p.bytes + length piece
      → next_place g p piece ≡ Err (Limit Input)
  next-much p piece short over = grind (arith, nat_tests)

  pub leads_nowhere : Leads g [] (first_place g)
  leads_nowhere = record { accepted = λ rest. refl; behind = refl }

  -- a piece that is accepted goes to those before
  pub leads_on : (before : List (List ℕ)) (p q : Place S) (piece : List ℕ) → Leads g before p
      → next_place g p piece ≡ Ok q → Leads g (before ++ piece ∷ []) q
  leads_on before p q piece l is = record {
    accepted =
        λ rest. ap (says_from g (first_place g))
        (append_assoc before (piece ∷ []) rest) ∙ l.accepted (piece ∷ rest)
        ∙ ap (λ r. unless_refused p r (λ x. says_from g x rest)) is;
    behind = fold-append _ (first_place g) before (piece ∷ []) ∙ ap
        (λ x. result_unwrap_or (next_place g x piece) x) l.behind ∙ ap
        (λ r. result_unwrap_or r p) is;
  }

-- the whole text begins with what the lines so far write
module _ {S : Type 0} (g : Grammar S)
    (grows : (s t : S) (line : List ℕ) → g.read s line ≡ Ok t
    → (more : List ℕ) × (g.text t ≡ g.text s ++ more)) where
  end_grows : (p : Place S) (o : Option Fault)
      → (more : List ℕ) × (text_of g (says_at_end p o) ≡ g.text p.said ++ more)
  end_grows p None = (g.closing p.said, refl)
  end_grows p (Some why) = ([], sym (append-nil (g.text p.said)))

  placed_grows : (p q : Place S) (piece : List ℕ) (r : Result S LineRefusal)
      → g.read p.said (line_of piece) ≡ r → placed p piece r ≡ Ok q
      → (more : List ℕ) × (g.text q.said ≡ g.text p.said ++ more)
  placed_grows p q piece (Ok s) is e =
      (let same : s ≡ q.said = cc in let m =
      grows p.said s (line_of piece) is in (m.0, ap g.text (sym same) ∙ m.1))
  placed_grows p q piece (Err why) is e = cc

  next_grows : (p q : Place S) (piece : List ℕ) → next_place g p piece ≡ Ok q
      → (more : List ℕ) × (g.text q.said ≡ g.text p.said ++ more)
  next_grows p q piece e =
      by_tests (nat_lt 4096 (length (line_of piece)) && nat_le (p.bytes + 4096) (2 ^ 30))
      (nat_lt (2 ^ 30) (p.bytes + length piece)) e
    where
      by_tests : (long much : Bool)
          → (if long then Err (Limit Line) else if much then Err (Limit Input) else placed p piece
          (g.read p.said (line_of piece))) ≡ Ok q
          → (more : List ℕ) × (g.text q.said ≡ g.text p.said ++ more)
      by_tests true much is = cc
      by_tests false true is = cc
      by_tests false false is = placed_grows p q piece (g.read p.said (line_of piece)) refl is

  then_grows : (p : Place S) (piece : List ℕ) (rest : List (List ℕ))
      (r : Result (Place S) LineRefusal) → next_place g p piece ≡ r
      → ((q : Place S) → (more : List ℕ) × (text_of g (says_from g q rest) ≡ g.text q.said ++ more))
      → (more : List ℕ)
      × (text_of g (unless_refused p r (λ q. says_from g q rest)) ≡ g.text p.said ++ more)
  then_grows p piece rest (Ok q) is later =
      let now = next_grows p q piece is in let on = later q in
      (now.0 ++ on.0, on.1 ∙ ap (λ l. l ++ on.0) now.1 ∙ append_assoc (g.text p.said) now.0 on.0)
  then_grows p piece rest (Err why) is later = ([], sym (append-nil (g.text p.said)))

  pub text_grows : (ps : List (List ℕ)) (p : Place S)
      → (more : List ℕ) × (text_of g (says_from g p ps) ≡ g.text p.said ++ more)
  text_grows [] p = end_grows p (g.ending p.said)
  text_grows (piece ∷ rest) p =
      then_grows p piece rest (next_place g p piece) refl (λ q. text_grows rest q)
