-- The header of an accepted trace is of whole lines.
use Rattle.std.proofs.Common.{Bool, true, false, ◌≡◌, ◌≢◌, ◌≤◌, ◌+◌, ◌==◌, ◌++◌, ℕ, List, [], ◌∷◌, length, refl, sym, ap, subst, arith, if◌then◌else◌}
use Rattle.std.proofs.lemmas.Bool.{ne_eqb, eq-eqb}
use Rattle.std.proofs.lemmas.Bool.Decides.{nat_tests}
use Rattle.std.specs.Prelude.{⊤}
use Rattle.std.specs.List.{onto_first}
use Rattle.lk_names.specs.declared.events.Act.{Act}
use Rattle.lk_rows.specs.declared.setup.Setup.{Setup}
use Rattle.lk_text.specs.Feeds.{HasNoFeed, pieces}
use Rattle.lk_forms.specs.Grammar.{last_rank, has_end, ending}
use Rattle.lk_forms.specs.Trace.{Good, Refused, reading_after, setup_of, acts_of, trace_from}
use Rattle.lk_forms.specs.declared.answers.LineRefusal.TheVariants.{Bad}
use Rattle.lk_stream.specs.Reads.{AllWhole}

abbrev IsWhole : List ℕ → Type 0
IsWhole piece = (line : List ℕ) × (piece ≡ line ++ 10 ∷ []) × HasNoFeed line

-- each piece but the last is a whole line
abbrev AreWhole : List (List ℕ) → Type 0
AreWhole [] = ⊤
AreWhole (p ∷ []) = ⊤
AreWhole (p ∷ q ∷ ps) = IsWhole p × AreWhole (q ∷ ps)

whole_onto : (b : ℕ) (ps : List (List ℕ)) → b ≢ 10 → AreWhole ps → AreWhole (onto_first b ps)
whole_onto b [] other w = tt
whole_onto b (p ∷ []) other w = tt
whole_onto b (p ∷ q ∷ ps) other w = ((b ∷ w.0.0, ap (λ l. b ∷ l) w.0.1, (other, w.0.2)), w.1)

whole_behind : (ps : List (List ℕ)) → AreWhole ps → AreWhole ((10 ∷ []) ∷ ps)
whole_behind [] w = tt
whole_behind (q ∷ ps) w = (([], refl, tt), w)

pieces_are_whole : (bytes : List ℕ) → AreWhole (pieces bytes)
pieces_are_whole [] = tt
pieces_are_whole (b ∷ bytes) = by_test (b == 10) refl (pieces_are_whole bytes)
  where
    by_test : (t : Bool) → (b == 10) ≡ t → AreWhole (pieces bytes)
        → AreWhole (if t then (b ∷ []) ∷ pieces bytes else onto_first b (pieces bytes))
    by_test true e w =
        let same : b ≡ 10 = grind (arith, nat_tests, e) in
        subst (λ c. AreWhole ((c ∷ []) ∷ pieces bytes)) (sym same) (whole_behind (pieces bytes) w)
    by_test false e w = whole_onto b (pieces bytes) (λ same. (let yes = eq-eqb b 10 same in cc)) w

front_whole : (before : List (List ℕ)) (piece : List ℕ) (rest : List (List ℕ)) → AreWhole (before ++ piece ∷ rest) → AllWhole before
front_whole [] piece rest w = tt
front_whole (p ∷ []) piece rest w = (w.0, tt)
front_whole (p ∷ q ∷ before) piece rest w = (w.0, front_whole (q ∷ before) piece rest w.1)

pub head_whole : (bytes : List ℕ) (before rest : List (List ℕ)) (s : Setup) (a : List Act) → pieces bytes ≡ before ++ rest
    → last_rank (reading_after before) ≤ 9 → trace_from before rest ≡ Good s a → AllWhole before
head_whole bytes before [] s a cut early good =
    by_end (has_end (reading_after before)) (ne_eqb (last_rank (reading_after before)) 11 (λ e. absurd (omega (arith, early, e)))) good
  where
    by_end : (b : Bool) → b ≡ false
        → (if b then Good (setup_of before) (acts_of before)
        else Refused (length before + 1) (Bad (ending (reading_after before))) (setup_of before) (acts_of before)) ≡ Good s a
        → AllWhole before
    by_end true early h = cc
    by_end false early h = cc
head_whole bytes before (piece ∷ rest) s a cut early good =
    front_whole before piece rest (subst AreWhole cut (pieces_are_whole bytes))
