-- The first part of some bytes, and what more parts say.
use Rattle.std.proofs.Common.{Bool, true, false, cond, ◌≡◌, ◌≤◌, ◌<◌, ◌+◌, ◌-◌, ◌==◌, not, ℕ, List, [], ◌∷◌, None, Some, length, take, drop, nat_lt, refl, sym, ap, ◌∙◌, arith, length-drop}
use Rattle.std.proofs.lemmas.Bool.Decides.{nat_tests}
use Rattle.std.proofs.lemmas.List.{take_all}
use Rattle.std.proofs.lemmas.List.Splits.{slice_split_first}
use Rattle.std.specs.List.{position, position_or_len, onto_first}
use Rattle.lk_names.specs.declared.events.What.{What}
use Rattle.lk_audit_forms.specs.Parts.{parts, if_some, one_word}
use Rattle.lk_audit_forms.specs.EventLines.{waiter_of_parts, lock_of_parts, no_args, owed_args, owing_args, aside_args, moved_args}

-- there is always a part
pub some_part : (mark : ℕ) (bytes : List ℕ) → (w : List ℕ) × (ws : List (List ℕ)) × (parts mark bytes ≡ w ∷ ws)
some_part mark [] = ([], [], refl)
some_part mark (b ∷ bytes) = by_test (b == mark) (some_part mark bytes)
  where
    by_test : (t : Bool) → (w : List ℕ) × (ws : List (List ℕ)) × (parts mark bytes ≡ w ∷ ws)
        → (w : List ℕ) × (ws : List (List ℕ)) × (cond t ([] ∷ parts mark bytes) (onto_first b (parts mark bytes)) ≡ w ∷ ws)
    by_test true rest = ([], parts mark bytes, refl)
    by_test false (w, ws, is) = (b ∷ w, ws, ap (onto_first b) is)

no_mark : (mark : ℕ) (bytes : List ℕ) → length bytes ≤ position_or_len (λ b. b == mark) bytes → parts mark bytes ≡ bytes ∷ []
no_mark mark [] h = refl
no_mark mark (b ∷ bytes) h = by_test (b == mark) h (no_mark mark bytes)
  where
    by_test : (t : Bool) → length (b ∷ bytes) ≤ cond (not t) (1 + position_or_len (λ x. x == mark) bytes) 0
        → (length bytes ≤ position_or_len (λ x. x == mark) bytes → parts mark bytes ≡ bytes ∷ [])
        → cond t ([] ∷ parts mark bytes) (onto_first b (parts mark bytes)) ≡ (b ∷ bytes) ∷ []
    by_test true long later = absurd (omega (arith, long))
    by_test false long later = ap (onto_first b) (later (omega (arith, long)))

pub cut_none : (mark : ℕ) (bytes : List ℕ) → position (λ b. b == mark) bytes ≡ None → parts mark bytes ≡ bytes ∷ []
cut_none mark bytes is = by_test (nat_lt (position_or_len (λ b. b == mark) bytes) (length bytes)) refl is
  where
    by_test : (t : Bool) → nat_lt (position_or_len (λ b. b == mark) bytes) (length bytes) ≡ t
        → cond t (Some (position_or_len (λ b. b == mark) bytes)) None ≡ None → parts mark bytes ≡ bytes ∷ []
    by_test true e h = cc
    by_test false e h = no_mark mark bytes (grind (arith, nat_tests, e))

pub cut_some : (mark : ℕ) (bytes : List ℕ) (at_mark : ℕ) → position (λ b. b == mark) bytes ≡ Some at_mark
    → parts mark bytes ≡ take at_mark bytes ∷ parts mark (take (length bytes - (at_mark + 1)) (drop (at_mark + 1) bytes))
cut_some mark bytes at_mark is = by_test (nat_lt (position_or_len (λ b. b == mark) bytes) (length bytes)) refl is
  where
    by_test : (t : Bool) → nat_lt (position_or_len (λ b. b == mark) bytes) (length bytes) ≡ t
        → cond t (Some (position_or_len (λ b. b == mark) bytes)) None ≡ Some at_mark
        → parts mark bytes ≡ take at_mark bytes ∷ parts mark (take (length bytes - (at_mark + 1)) (drop (at_mark + 1) bytes))
    by_test false e h = cc
    by_test true e h =
        let same : position_or_len (λ b. b == mark) bytes ≡ at_mark = cc in
        let cut = slice_split_first (λ b. b == mark) bytes 0 (grind (arith, nat_tests, e)) in
        let all = take_all (length bytes - (at_mark + 1)) (drop (at_mark + 1) bytes) (omega (arith, length-drop (at_mark + 1) bytes)) in
        cut ∙ ap (λ n. take n bytes ∷ parts mark (drop (n + 1) bytes)) same
        ∙ ap (λ l. take at_mark bytes ∷ parts mark l) (sym all)

-- too many parts

pub one_no_more : (mark : ℕ) (w bytes : List ℕ) → one_word (w ∷ parts mark bytes) ≡ None
one_no_more mark w bytes = (let more = some_part mark bytes in rw more.2 refl)

pub waiter_no_more : (mark : ℕ) (a b bytes : List ℕ) → waiter_of_parts (a ∷ b ∷ parts mark bytes) ≡ None
waiter_no_more mark a b bytes = (let more = some_part mark bytes in rw more.2 refl)

pub lock_no_more : (a bytes : List ℕ) → 0 < length bytes → lock_of_parts (a ∷ parts 119 bytes) ≡ None
lock_no_more a [] some = absurd (omega arith)
lock_no_more a (b ∷ bytes) some = by_test (b == 119) (some_part 119 bytes)
  where
    by_test : (t : Bool) → (w : List ℕ) × (ws : List (List ℕ)) × (parts 119 bytes ≡ w ∷ ws)
        → lock_of_parts (a ∷ cond t ([] ∷ parts 119 bytes) (onto_first b (parts 119 bytes))) ≡ None
    by_test true (w, ws, is) = rw is refl
    by_test false (w, [], is) = rw is refl
    by_test false (w, v ∷ ws, is) = rw is refl

pub none_no_more : (u : What) (bytes : List ℕ) → no_args u (parts 32 bytes) ≡ None
none_no_more u bytes = (let more = some_part 32 bytes in rw more.2 refl)

-- words behind a release and a handover

pub owing_some : (bytes : List ℕ)
    → owing_args (parts 32 bytes) ≡ if_some (owed_args (parts 32 bytes)) (λ p. Some (Some p))
owing_some bytes = (let more = some_part 32 bytes in rw more.2 refl)

pub moved_some : (bytes : List ℕ) → moved_args (parts 32 bytes) ≡ aside_args (parts 32 bytes)
moved_some bytes = (let more = some_part 32 bytes in rw more.2 refl)
