-- The text that is written is that of the lines.
use Rattle.std.proofs.Common.{◌≡◌, ◌<◌, ◌+◌, ◌-◌, ◌*◌, ◌%◌, ℕ, zero, suc, List, [], ◌∷◌, ◌++◌, refl, ap, sym, subst, ◌∙◌, append_assoc, arith, codes, decimal}
use Rattle.std.proofs.lemmas.List.{append-nil}
use Rattle.std.proofs.lemmas.Grind.{flat_map-append}
use Rattle.std.specs.Fmt.{digits}
use Rattle.lk_gen.specs.Spaced.{spaced, piece_of, text_of}
use Rattle.lk_gen.specs.Generated.{next_draw, draw_after, pair_words, program_line, program_lines, step_words, step_lines, head_lines, schedule_lines, generated}
use Rattle.lk_gen.specs.Writes.{behind, pair_text, pairs_text, program_text, programs_text, step_text, steps_text, schedule_text, text_left}
use Rattle.lk_gen.specs.declared.generator.Left.TheVariants.{Whole, Programs, Steps}

-- a text of which the page has all but `all`; of that a piece is added
pub goes_on : (text page more all piece rest : List ℕ) → text ≡ page ++ all → all ≡ piece ++ rest → more ≡ page ++ piece → text ≡ more ++ rest
goes_on text page more all piece rest so_far is added =
    so_far ∙ ap (λ l. page ++ l) is ∙ sym (append_assoc page piece rest) ∙ ap (λ l. l ++ rest) (sym added)

-- the page has all of it
pub ends : (text page rest : List ℕ) → text ≡ page ++ rest → rest ≡ [] → page ≡ text
ends text page rest so_far none = sym (so_far ∙ ap (λ l. page ++ l) none ∙ append-nil page)

-- draws

pub draws_none : (n x : ℕ) → n ≡ 0 → draw_after n x ≡ x
unfolding draw_after
draws_none zero x is = refl
draws_none (suc n) x is = absurd (omega arith)

pub draws_more : (n m x : ℕ) → n ≡ suc m → draw_after n x ≡ draw_after m (next_draw x)
unfolding draw_after
draws_more zero m x is = absurd (omega arith)
draws_more (suc n) m x is = let same : n ≡ m = omega arith in ap (λ k. draw_after k (next_draw x)) same

draws_add : (n m x : ℕ) → draw_after (n + m) x ≡ draw_after m (draw_after n x)
unfolding draw_after
draws_add zero m x = let same : 0 + m ≡ m = omega arith in ap (λ k. draw_after k x) same
draws_add (suc n) m x = draws_more (suc n + m) (n + m) x (omega arith) ∙ draws_add n m (next_draw x)

-- pairs

spaced-behind : (w : List ℕ) (ws : List (List ℕ)) → spaced (w ∷ ws) ≡ w ++ behind ws
spaced-behind w [] = sym (append-nil w)
spaced-behind w (v ∷ ws) = ap (λ l. w ++ 32 ∷ l) (spaced-behind v ws)

pub pairs_none : (n x : ℕ) → n ≡ 0 → pairs_text n x ≡ []
unfolding pair_words
pairs_none zero x is = refl
pairs_none (suc n) x is = absurd (omega arith)

pub pairs_more : (n m x : ℕ) → n ≡ suc m → pairs_text n x ≡ pair_text (next_draw x % 4) ++ pairs_text m (next_draw x)
unfolding pair_words
pairs_more zero m x is = absurd (omega arith)
pairs_more (suc n) m x is =
    let same : n ≡ m = omega arith in
    let l = decimal (next_draw x % 4) in
    subst (λ k. pairs_text (suc n) x ≡ pair_text (next_draw x % 4) ++ pairs_text k (next_draw x)) same
    (sym (ap (λ t. codes " lock " ++ t) (append_assoc l (codes " unlock " ++ l) (pairs_text n (next_draw x)))))

-- programs

program_is : (p x : ℕ) → piece_of (program_line p x) ≡ program_text p x
program_is p x =
    ap (λ t. (codes "prog" ++ 32 ∷ t) ++ 10 ∷ []) (spaced-behind (decimal p) (pair_words 16 x))
    ∙ ap (λ t. codes "prog " ++ t) (append_assoc (decimal p) (pairs_text 16 x) (10 ∷ []))

programs_none : (n p x : ℕ) → n ≡ 0 → programs_text n p x ≡ []
unfolding program_lines
programs_none zero p x is = refl
programs_none (suc n) p x is = absurd (omega arith)

programs_more : (n m p x : ℕ) → n ≡ suc m → programs_text n p x ≡ program_text p x ++ programs_text m (p + 1) (draw_after 16 x)
unfolding program_lines
programs_more zero m p x is = absurd (omega arith)
programs_more (suc n) m p x is =
    let same : n ≡ m = omega arith in
    subst (λ k. programs_text (suc n) p x ≡ program_text p x ++ programs_text k (p + 1) (draw_after 16 x)) same
    (ap (λ t. t ++ programs_text n (p + 1) (draw_after 16 x)) (program_is p x))

-- lines of the schedule

step_is : (p : ℕ) → piece_of (step_words p) ≡ step_text p
step_is p = ap (λ t. codes "step " ++ t) (append_assoc (decimal p) (codes " 8") (10 ∷ []))

pub steps_none : (n x : ℕ) → n ≡ 0 → steps_text n x ≡ []
unfolding step_lines
steps_none zero x is = refl
steps_none (suc n) x is = absurd (omega arith)

pub steps_more : (n m x : ℕ) → n ≡ suc m → steps_text n x ≡ step_text (next_draw x % 32) ++ steps_text m (next_draw x)
unfolding step_lines
steps_more zero m x is = absurd (omega arith)
steps_more (suc n) m x is =
    let same : n ≡ m = omega arith in
    subst (λ k. steps_text (suc n) x ≡ step_text (next_draw x % 32) ++ steps_text k (next_draw x)) same
    (ap (λ t. t ++ steps_text n (next_draw x)) (step_is (next_draw x % 32)))

-- so many of them, and then the others
steps_add : (n m x : ℕ) → steps_text (n + m) x ≡ steps_text n x ++ steps_text m (draw_after n x)
unfolding step_lines draw_after
steps_add zero m x = let same : 0 + m ≡ m = omega arith in ap (λ k. steps_text k x) same
steps_add (suc n) m x =
    steps_more (suc n + m) (n + m) x (omega arith)
    ∙ ap (λ t. step_text (next_draw x % 32) ++ t) (steps_add n m (next_draw x))
    ∙ sym (append_assoc (step_text (next_draw x % 32)) (steps_text n (next_draw x)) (steps_text m (draw_after n (next_draw x))))
    ∙ ap (λ t. t ++ steps_text m (draw_after n (next_draw x))) (sym (steps_more (suc n) n x refl))

-- what is left behind each page

abbrev pub head_text : List ℕ
head_text = codes "qtrace 1\nmode cna\ncpus 32\nsockets 0 0 0 0 0 0 0 0 1 1 1 1 1 1 1 1 2 2 2 2 2 2 2 2 3 3 3 3 3 3 3 3\nthreshold 16\nlock 0 spin\nlock 1 spin\nlock 2 spin\nlock 3 spin\n"

head_is : text_of head_lines ≡ head_text
unfolding digits
head_is = refl

pub behind_head : (start : ℕ) → text_left (Whole start) ≡ head_text ++ text_left (Programs 0 start)
behind_head start =
    flat_map-append piece_of head_lines (program_lines 32 0 start ++ ((codes "go" ∷ []) ∷ schedule_lines (draw_after 512 start)))
    ∙ ap (λ t. t ++ text_of (program_lines 32 0 start ++ ((codes "go" ∷ []) ∷ schedule_lines (draw_after 512 start)))) head_is
    ∙ ap (λ t. head_text ++ t) (flat_map-append piece_of (program_lines 32 0 start) ((codes "go" ∷ []) ∷ schedule_lines (draw_after 512 start))
    ∙ ap (λ t. programs_text 32 0 start ++ (codes "go\n" ++ t)) (flat_map-append piece_of (step_lines 25000 (draw_after 512 start)) ((codes "end" ∷ []) ∷ [])))

pub behind_program : (p x y : ℕ) → p < 32 → y ≡ draw_after 16 x → text_left (Programs p x) ≡ program_text p x ++ text_left (Programs (p + 1) y)
behind_program p x y below is =
    let rest : ℕ → List ℕ = λ d. codes "go\n" ++ schedule_text 250 d in
    let more : 16 * (32 - p) ≡ 16 + 16 * (32 - (p + 1)) = omega arith in
    let drawn : draw_after (16 * (32 - p)) x ≡ draw_after (16 * (32 - (p + 1))) (draw_after 16 x) =
    ap (λ k. draw_after k x) more ∙ draws_add 16 (16 * (32 - (p + 1))) x in
    ap (λ t. t ++ rest (draw_after (16 * (32 - p)) x)) (programs_more (32 - p) (32 - (p + 1)) p x (omega arith))
    ∙ append_assoc (program_text p x) (programs_text (32 - (p + 1)) (p + 1) (draw_after 16 x)) (rest (draw_after (16 * (32 - p)) x))
    ∙ ap (λ d. program_text p x ++ (programs_text (32 - (p + 1)) (p + 1) (draw_after 16 x) ++ rest d)) drawn
    ∙ ap (λ d. program_text p x ++ text_left (Programs (p + 1) d)) (sym is)

pub behind_programs : (p x : ℕ) → 32 - p ≡ 0 → text_left (Programs p x) ≡ codes "go\n" ++ text_left (Steps 250 x)
behind_programs p x none =
    let no_draws : 16 * (32 - p) ≡ 0 = omega (arith, none) in
    ap (λ t. t ++ (codes "go\n" ++ schedule_text 250 (draw_after (16 * (32 - p)) x))) (programs_none (32 - p) p x none)
    ∙ ap (λ d. codes "go\n" ++ schedule_text 250 d) (draws_none (16 * (32 - p)) x no_draws)

pub behind_steps : (n x y : ℕ) → 0 < n → y ≡ draw_after 100 x → text_left (Steps n x) ≡ steps_text 100 x ++ text_left (Steps (n - 1) y)
behind_steps n x y some is =
    let more : 100 * n ≡ 100 + 100 * (n - 1) = omega arith in
    ap (λ k. steps_text k x ++ codes "end\n") more
    ∙ ap (λ t. t ++ codes "end\n") (steps_add 100 (100 * (n - 1)) x)
    ∙ append_assoc (steps_text 100 x) (steps_text (100 * (n - 1)) (draw_after 100 x)) (codes "end\n")
    ∙ ap (λ d. steps_text 100 x ++ text_left (Steps (n - 1) d)) (sym is)

pub behind_all : (x : ℕ) → text_left (Steps 0 x) ≡ codes "end\n" ++ []
behind_all x = ap (λ t. t ++ codes "end\n") (steps_none (100 * 0) x refl)

-- the turns of the loops

pub pairs_step : (i draw next : ℕ) → i < 16 → next ≡ next_draw draw → pairs_text (16 - i) draw ≡ pair_text (next % 4) ++ pairs_text (16 - (i + 1)) next
pairs_step i draw next below is = rw is (pairs_more (16 - i) (16 - (i + 1)) draw (omega arith))

pub steps_step : (i draw next : ℕ) → i < 100 → next ≡ next_draw draw → steps_text (100 - i) draw ≡ step_text (next % 32) ++ steps_text (100 - (i + 1)) next
steps_step i draw next below is = rw is (steps_more (100 - i) (100 - (i + 1)) draw (omega arith))

pub draws_step : (n i draw next : ℕ) → i < n → next ≡ next_draw draw → draw_after (n - i) draw ≡ draw_after (n - (i + 1)) next
draws_step n i draw next below is = rw is (draws_more (n - i) (n - (i + 1)) draw (omega arith))
